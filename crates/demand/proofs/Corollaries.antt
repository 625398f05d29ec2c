-- Demand 3 in the customer's words, of the books that load accepts. Assumes nothing.
use Rattle.std.specs.Prelude.{Ok, Err, None}
use mathlib.Core.Bool.{true}
use mathlib.Core.List.{List, [], ◌∷◌, ◌++◌, get_last?}
use mathlib.Core.Path.{◌≡◌}
use Prim.Native.Nat.{ℕ, ◌≤◌}
use Rattle.table.specs.Table.{Table}
use Rattle.book.specs.Entry.{Entry}
use Rattle.book.proofs.TruthLaws.{true-not-false}
use Rattle.load.specs.Step.{Loaded}
use Rattle.load.specs.Loads.{LoadsAs}
use Rattle.load.proofs.LoadedLaws.{loaded-within_limits}
use Rattle.verdict.specs.declared.Verdict.{Verdict}
use Rattle.verdict.specs.Verdict.{Judged}
use Rattle.reader.specs.declared.Reader.{Reader}
use Rattle.reader.specs.declared.Refusal.TheVariants as No
use Rattle.reader.specs.Start.{start_of}
use Rattle.stream.specs.Paper.{Call, Judges, nonempty}
use Rattle.stream.specs.Claim.{run, answers, after, table}
use Rattle.stream.specs.Records.{no_rs, verdicts_of, verdicts_behind, verdicts_in, StreamOf}
use Rattle.stream.proofs.CallLaws.{never-above-limit}
use Rattle.stream.proofs.JudgeLaws.{judge_of, judges-exist}
use Rattle.stream.proofs.Corollaries as of-bytes
use Rattle.demand.specs.Book.{Book}
use Rattle.demand.proofs.Demand.{reading}

-- after an accepted start and any calls, a call with a loaded table is never refused with 23
pub loaded-never-above-limit : (t : Table) (w : List ℕ) → (start_of t w).answer ≡ Ok None → (calls : List Call) (c : Call) (b : List ℕ) (r : Loaded)
    → LoadsAs b r → table c ≡ r.table → (run (after (start_of t w).reader calls) c).answer ≡ Err No.AboveLimit → ⊥
loaded-never-above-limit t w e calls c b r l q said =
    true-not-false _ (loaded-within_limits b r l) (rw q at (never-above-limit t w e calls c said))

module _ (es : List Entry) (n : ℕ) (least : 1 ≤ n) (most : n ≤ 64) where
  -- the book of a stream is one that load accepts
  pub book-of-stream : {r : Reader} {cs : List Call} {s : List ℕ} → StreamOf Book es n r cs s → (t : Table) × Book t es
  book-of-stream x = of-bytes.book-of-stream reading es n least most x

  -- the calls of a stream give one verdict for each record of its bytes, in stream order
  pub verdicts-of-stream : {r : Reader} {cs : List Call} {s : List ℕ} → StreamOf Book es n r cs s
      → verdicts_in (answers r cs) ≡ verdicts_of (judge_of es n) s
  verdicts-of-stream x = of-bytes.verdicts-of-stream reading es n least most x

  -- the judge of a stream gives each part its verdict
  pub judge-of-stream : {r : Reader} {cs : List Call} {s : List ℕ} → StreamOf Book es n r cs s → Judges es n (judge_of es n)
  judge-of-stream x = judges-exist (of-bytes.sound-of-stream reading es n least most x) n

  -- the same bytes, cut otherwise, have the same verdicts
  pub same-verdicts-of-same-bytes : {r q : Reader} {cs ds : List Call} {s : List ℕ} → StreamOf Book es n r cs s → StreamOf Book es n q ds s
      → verdicts_in (answers r cs) ≡ verdicts_in (answers q ds)
  same-verdicts-of-same-bytes x y = of-bytes.same-verdicts-of-same-bytes reading es n least most x y

  -- a record has the verdict that it has alone, between those of what stands before and after it
  pub record-alone : {r : Reader} {cs : List Call} {v : Verdict} (a p z : List ℕ) → nonempty p ≡ true → no_rs p ≡ true → Judged es n p v
      → StreamOf Book es n r cs (a ++ (0x1E ∷ (p ++ (0x1E ∷ z))))
      → verdicts_in (answers r cs) ≡ verdicts_of (judge_of es n) a ++ (v ∷ verdicts_behind (judge_of es n) z)
  record-alone a p z full plain j x = of-bytes.record-alone reading es n least most a p z full plain j x

  -- a last record, which the close ends, has the verdict that it has alone, after those of what stands before it
  pub last-record-alone : {r : Reader} {cs : List Call} {v : Verdict} (a p : List ℕ) → nonempty p ≡ true → no_rs p ≡ true → Judged es n p v
      → StreamOf Book es n r cs (a ++ (0x1E ∷ p)) → verdicts_in (answers r cs) ≡ verdicts_of (judge_of es n) a ++ (v ∷ [])
  last-record-alone a p full plain j x = of-bytes.last-record-alone reading es n least most a p full plain j x

  -- the last record of two streams, whatever stands before it
  pub same-verdict-of-same-record : {r q : Reader} {cs ds : List Call} (a b p : List ℕ) → nonempty p ≡ true → no_rs p ≡ true
      → StreamOf Book es n r cs (a ++ (0x1E ∷ p)) → StreamOf Book es n q ds (b ++ (0x1E ∷ p))
      → get_last? (verdicts_in (answers r cs)) ≡ get_last? (verdicts_in (answers q ds))
  same-verdict-of-same-record a b p full plain x y = of-bytes.same-verdict-of-same-record reading es n least most a b p full plain x y
