-- Demands 2 and 3 about single records, of the books that load accepts: the calls of a stream give a record after an RS the verdict that it has alone
-- (`given-iff-judged`), so valid, invalid, too deep and each other refusal exactly when the record itself is so, whatever stands before it. The head
-- is given 15 (`given-head`), and no other record is. The frames n are those that an accepted start counted, from 1 to 64 (`stream: begun-of-start`).
-- Assumes nothing.
use Rattle.std.specs.Prelude.{Ok, None}
use mathlib.Core.Bool.{false}
use mathlib.Core.List.{List, [], ◌∷◌, ◌++◌}
use mathlib.Core.Logic.Iff
use mathlib.Core.Logic.{◌↔◌}
use mathlib.Core.Option.{some}
use mathlib.Core.Path.{◌≡◌, refl}
use Prim.Native.Nat.{ℕ, ◌≤◌, ◌<◌}
use lib.ListN.{length, get_elem?}
use Rattle.json_text.specs.Tree.{Json, object, Pairs}
use Rattle.json_text.specs.Grammar.{Text, FaultAt}
use Rattle.table.specs.Table.{Table}
use Rattle.book.specs.Entry.{Entry}
use Rattle.json_text.proofs.TreeLaws.{text-unique}
use Rattle.runs.specs.Runs.{Within, Valid}
use Rattle.runs.proofs.LengthLaws.{pair_count}
use Rattle.frame.specs.Frame.{frame_count}
use Rattle.verdict.specs.declared.Verdict.{Verdict}
use Rattle.verdict.specs.declared.Verdict.TheVariants as Is
use Rattle.verdict.specs.Verdict.{longest, DeepAt, Earliest, Faultless, Judged}
use Rattle.verdict.proofs.JudgedLaws.{valid-iff, invalid-iff, too_long-iff, malformed-iff, too_deep-iff, unfinished-iff, not-judged-head}
use Rattle.reader.specs.declared.Reader.{Reader}
use Rattle.reader.specs.Start.{start_of}
use Rattle.stream.specs.Paper.{Call, Judge}
use Rattle.stream.specs.Records.{cut_at_rs, nonempties, records_of, verdicts_of, verdicts_behind, StreamOf}
use Rattle.stream.proofs.CallLaws.{begun-of-start}
use Rattle.stream.proofs.JudgeLaws.{judge_of}
use Rattle.stream.proofs.RecordLaws.{verdicts_of-append, verdicts_of-of-head, length-verdicts_of}
use Rattle.demand.specs.Book.{Book}
use Rattle.demand.specs.Given.{RecordAfter, until_rs, until_close, RecordInHead, head_until_rs, head_until_close, GivenAfter}
use Rattle.demand.proofs.BookLaws.{pairs-le-15-of-book}
use Rattle.demand.proofs.Corollaries.{book-of-stream, verdicts-of-stream, judge-of-stream, record-alone, last-record-alone}

-- after the first list stands the first element of the second
get_elem-append : {A : Type 0} (us : List A) (v : A) (ws : List A) → get_elem? (us ++ (v ∷ ws)) (length us) ≡ some v
get_elem-append [] v ws = refl
get_elem-append (u ∷ us) v ws = get_elem-append us v ws

-- the verdict that follows those of the bytes a
verdict-after : (J : Judge) (a : List ℕ) (v : Verdict) (ws : List Verdict) {vs : List Verdict} → vs ≡ verdicts_of J a ++ (v ∷ ws)
    → get_elem? vs (length (records_of a)) ≡ some v
verdict-after J a v ws e = rw (e, ← length-verdicts_of J a) (get_elem-append (verdicts_of J a) v ws)

module _ (es : List Entry) (n : ℕ) (least : 1 ≤ n) (most : n ≤ 64) where
  given-of-judged : {r : Reader} {cs : List Call} {a p s : List ℕ} (v : Verdict) → RecordAfter a p s → StreamOf Book es n r cs s → Judged es n p v
      → GivenAfter a r cs v
  given-of-judged {a} {p} v (until_rs i z) x j =
      verdict-after (judge_of es n) a v (verdicts_behind (judge_of es n) z) (record-alone es n least most a p z i.full i.plain j x)
  given-of-judged {a} {p} v (until_close i) x j =
      verdict-after (judge_of es n) a v [] (last-record-alone es n least most a p i.full i.plain j x)

  -- the head is given 15
  pub given-head : {r : Reader} {cs : List Call} {p s : List ℕ} → RecordInHead p s → StreamOf Book es n r cs s → GivenAfter [] r cs Is.Head
  unfolding cut_at_rs nonempties
  given-head {p} (head_until_rs i z) x =
      rw (verdicts-of-stream es n least most x, verdicts_of-append (judge_of es n) p z, verdicts_of-of-head (judge_of es n) p i.full i.plain)
  given-head {p} (head_until_close i) x =
      rw (verdicts-of-stream es n least most x, verdicts_of-of-head (judge_of es n) p i.full i.plain)

module _ (es : List Entry) (n : ℕ) (least : 1 ≤ n) (most : n ≤ 64) {r : Reader} {cs : List Call} {a p s : List ℕ} (at : RecordAfter a p s)
    (x : StreamOf Book es n r cs s) where
  -- the calls give the record exactly the verdict that it has alone
  pub given-iff-judged : (v : Verdict) → GivenAfter a r cs v ↔ Judged es n p v
  given-iff-judged v = (from, given-of-judged es n least most v at x)
    where
      from : GivenAfter a r cs v → Judged es n p v
      from g =
          let u : Verdict = judge_of es n false p in
          let j : Judged es n p u = (judge-of-stream es n least most x).part p in
          let h : GivenAfter a r cs u = given-of-judged es n least most u at x j in
          let e : u ≡ v = cc in
          rw e at j

  -- ---- each verdict, exactly when

  -- valid: the record is a text within the limits that is valid by the book
  pub valid-exactly-when : GivenAfter a r cs Is.Valid ↔ (Faultless n p × ((t : Json) × Text p t × Valid es t))
  valid-exactly-when = Iff.trans (given-iff-judged Is.Valid) valid-iff

  -- invalid: the record is a text within the limits that is not valid by the book
  pub invalid-exactly-when : GivenAfter a r cs Is.Invalid ↔ (Faultless n p × ((t : Json) × Text p t × (Valid es t → ⊥)))
  invalid-exactly-when = Iff.trans (given-iff-judged Is.Invalid) invalid-iff

  -- 12 at byte i: the record's own first fault is that byte i opens more levels than there are frames
  pub too_deep-exactly-when : (i : ℕ) → GivenAfter a r cs (Is.TooDeep i) ↔ (DeepAt n p i × Earliest n p (Is.TooDeep i) i)
  too_deep-exactly-when i = Iff.trans (given-iff-judged (Is.TooDeep i)) (too_deep-iff i)

  -- 11 at byte i: the record's own first fault is that no text begins with the bytes up to byte i
  pub malformed-exactly-when : (i : ℕ) → GivenAfter a r cs (Is.Malformed i) ↔ (FaultAt p i × Earliest n p (Is.Malformed i) i)
  malformed-exactly-when i = Iff.trans (given-iff-judged (Is.Malformed i)) (malformed-iff i)

  -- 13: the record's own first fault is a byte too many
  pub too_long-exactly-when : GivenAfter a r cs Is.TooLong ↔ ((longest < length p) × Earliest n p Is.TooLong longest)
  too_long-exactly-when = Iff.trans (given-iff-judged Is.TooLong) too_long-iff

  -- 14 with place i: the record is not malformed, too deep or too long, it is no whole text, and its length is i
  pub unfinished-exactly-when : (i : ℕ) → GivenAfter a r cs (Is.Unfinished i) ↔ ((i ≡ length p) × Faultless n p × ((t : Json) → Text p t → ⊥))
  unfinished-exactly-when i = Iff.trans (given-iff-judged (Is.Unfinished i)) (unfinished-iff i)

  -- a record after an RS is never given 15
  pub never-head : GivenAfter a r cs Is.Head → ⊥
  never-head g = not-judged-head ((given-iff-judged Is.Head).0 g)

  -- ---- an object of a record that is given valid has at most 15 pairs
  pub pairs-le-15-of-given : GivenAfter a r cs Is.Valid → {t : Json} {ps : Pairs} → Text p t → Within (object ps) t → pair_count ps ≤ 15
  pairs-le-15-of-given g {t} h i =
      let (f, (u, k, v)) = valid-exactly-when.0 g in
      let e : u ≡ t = text-unique k h in
      pairs-le-15-of-book (book-of-stream es n least most x).1 (rw e at v) i

-- demand 3 in its own words: after an accepted start with the buffer w, a record is given 12 exactly when its own first fault is to open more levels
-- than w has frames
pub too_deep-after-start : (t : Table) (w : List ℕ) → (start_of t w).answer ≡ Ok None → (es : List Entry) {r : Reader} {cs : List Call} {a p s : List ℕ}
    → RecordAfter a p s → StreamOf Book es (frame_count (length w)) r cs s → (i : ℕ)
    → GivenAfter a r cs (Is.TooDeep i) ↔ (DeepAt (frame_count (length w)) p i × Earliest (frame_count (length w)) p (Is.TooDeep i) i)
too_deep-after-start t w e es at x i = let b = begun-of-start t w e in too_deep-exactly-when es (frame_count (length w)) b.least b.most at x i
