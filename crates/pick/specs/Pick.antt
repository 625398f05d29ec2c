-- The record of a stream slice that has verdict n: REQUIREMENT.md, section 7, Pick. Stated. Assumes nothing.
use Rattle.std.specs.Prelude.{Bool, true, false, ◌&&◌, List, [], ◌≡◌, ℕ, eqb, get_or}
use Rattle.book.specs.Entry.{Entry}
use Rattle.verdict.specs.declared.Verdict.{Verdict}
use Rattle.verdict.specs.declared.Verdict.TheVariants as Is
use Rattle.verdict.specs.Verdict.{Judged}
use Rattle.stream.specs.Paper.{nonempty}
use Rattle.stream.specs.Records.{cut_at_rs, records_of}

-- the record that has verdict n, counted from 0; an empty part where none has
unfoldable pub pick_of : List ℕ → ℕ → List ℕ
pick_of s n = get_or (records_of s) n []

-- record n is in the head: it is the first, and the part before the first RS is nonempty
abbrev pub is_head : List ℕ → ℕ → Bool
is_head s n = nonempty (cut_at_rs s).first && eqb n 0

-- a record p has the verdict v, with n frames and the entries of the book: 15 in the head, and else as it is judged alone
pub record HasVerdict (es : List Entry) (n : ℕ) (head : Bool) (p : List ℕ) (v : Verdict) : Type 0 where
  pub is_record : nonempty p ≡ true
  pub in_head : head ≡ true → v ≡ Is.Head
  pub behind : head ≡ false → Judged es n p v
