-- A record in the bytes of a stream, and the verdict that the stream's calls give it: REQUIREMENT.md, sections 1 and 6. Stated. Assumes nothing.
use Rattle.std.specs.Prelude.{true, List, ◌∷◌, ◌++◌, ◌≡◌, ℕ, length}
use Rattle.std.proofs.Math.Option.{some}
use Rattle.std.proofs.Math.ListN.{get_elem?}
use Rattle.verdict.specs.declared.Verdict.{Verdict}
use Rattle.reader.specs.declared.Reader.{Reader}
use Rattle.stream.specs.Paper.{Call, nonempty}
use Rattle.stream.specs.Claim.{answers}
use Rattle.stream.specs.Records.{no_rs, records_of, verdicts_in}

-- bytes, one or more, with no RS among them
pub record IsRecord (p : List ℕ) : Type 0 where
  pub full : nonempty p ≡ true
  pub plain : no_rs p ≡ true

-- the bytes of a stream have the record p after the bytes a and an RS; an RS ends it, or the close
pub data RecordAfter (a p : List ℕ) : List ℕ → Type 0 where
  until_rs : IsRecord p → (z : List ℕ) → RecordAfter a p (a ++ (0x1E ∷ (p ++ (0x1E ∷ z))))
  until_close : IsRecord p → RecordAfter a p (a ++ (0x1E ∷ p))

-- the bytes of a stream begin with the record p, which is the head; an RS ends it, or the close
pub data RecordInHead (p : List ℕ) : List ℕ → Type 0 where
  head_until_rs : IsRecord p → (z : List ℕ) → RecordInHead p (p ++ (0x1E ∷ z))
  head_until_close : IsRecord p → RecordInHead p p

-- the calls give the record after the bytes a the verdict v: as many verdicts come before v as the bytes a have records
abbrev pub GivenAfter : List ℕ → Reader → List Call → Verdict → Type 0
GivenAfter a r cs v = get_elem? (verdicts_in (answers r cs)) (length (records_of a)) ≡ some v
