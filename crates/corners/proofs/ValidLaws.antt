-- A text valid under book B: three frames find it valid, it has one list of corners, and their numbers are those at level 3. Assumes nothing.
use mathlib.Core.Bool.{Bool, true, false, cond}
use mathlib.Core.List.{List, [], append-nil}
use mathlib.Core.Option.{none, some}
use mathlib.Core.Path.{◌≡◌, refl, sym, ap, subst, ◌∙◌}
use Prim.Native.Nat.{ℕ, ◌≤◌}
use native.Mathlib.Decide.{dec_le}
use native.Mathlib.Omega.{arith}
use lib.ListN.{length}
use Rattle.laws.proofs.TestLaws.{none-neq-some}
use Rattle.json_text.specs.Tree.{Json}
use Rattle.json_text.specs.Meaning.{meaning}
use Rattle.json_text.specs.Lexer.{may_end}
use Rattle.json_text.specs.Machine.{bare, whole, in_array, in_object, finish, State, fault, at, run, start, whole_of, result}
use Rattle.json_text.specs.declared.lexer.Awaited.TheVariants as P
use Rattle.json_text.specs.declared.lexer.Mode.TheVariants as M
use Rattle.json_text.proofs.Accepted.{accepted-of-text}
use Rattle.json_text.proofs.TreeLaws.{text-unique}
use Rattle.book.specs.Load.{loads}
use Rattle.book.specs.Examples.{book_b}
use Rattle.verdict.specs.declared.Verdict.TheVariants as Is
use Rattle.verdict.specs.Verdict.{longest, too_long, Faultless, Judged}
use Rattle.verdict.proofs.JudgedLaws.{valid-iff}
use Rattle.corners.specs.Corners.{ValidB, Corner, CornersOf}
use Rattle.corners.specs.Numbers.{ByLevel, alone, numbering, so_far, flat, numbers_of}
use Rattle.corners.proofs.TookLaws.{RootedState, rooted-run}
use Rattle.corners.proofs.FieldLaws.{HasCorners, field-of-valid, corners-of-field, corners-unique, level-3}
use Rattle.corners.proofs.HeightLaws.{faultless-of-valid}

-- ---- the verdict

-- a text is valid under book B exactly when its verdict with three frames is valid
pub judged-of-valid : {s : List ℕ} {t : Json} → ValidB s t → Judged (loads book_b).entries 3 s Is.Valid
judged-of-valid {t} x = valid-iff.1 (faultless-of-valid x, (t, x.text, x.valid))

pub valid-of-judged : {s : List ℕ} → Judged (loads book_b).entries 3 s Is.Valid → (t : Json) × ValidB s t
valid-of-judged {s} j =
    let x = valid-iff.0 j in
    (x.1.0, record { short = short x.0 (dec_le (length s) longest); text = x.1.1; valid = x.1.2 })
  where
    short : Faultless 3 s → Dec (length s ≤ longest) → length s ≤ longest
    short f (yes h) = h
    short f (no h) = absurd (f Is.TooLong longest (too_long (omega arith)))

-- ---- its corners

-- it says corners, and one list of them
pub corners-of-valid : {s : List ℕ} {t : Json} → ValidB s t → HasCorners t
corners-of-valid x = corners-of-field (field-of-valid x.valid)

pub valid-unique : {s : List ℕ} {t u : Json} {cs ds : List Corner} → ValidB s t → CornersOf t cs → ValidB s u → CornersOf u ds → cs ≡ ds
valid-unique {ds} x c y d =
    corners-unique (field-of-valid x.valid) c (subst (λ (v : Json). CornersOf v ds) (sym (text-unique x.text y.text)) d)

-- ---- their numbers

-- where a text may end, its numbers at level 3 are all found
so_far-of-result : (q : State numbering) (w : ByLevel) → RootedState numbering q → result numbering q ≡ some w → so_far 3 q ≡ w 3
so_far-of-result fault w r e = none-neq-some e
so_far-of-result (at (M.At P.Value) g k) w r e = none-neq-some e
so_far-of-result (at (M.At P.First) g k) w r e = none-neq-some e
so_far-of-result (at (M.At P.Key) g k) w r e = none-neq-some e
so_far-of-result (at (M.At P.Colon) g k) w r e = none-neq-some e
so_far-of-result (at (M.At P.After) g bare) w r e = none-neq-some e
so_far-of-result (at (M.At P.After) g (whole v)) w r e = let x : v ≡ w = cc in append-nil (v 3) ∙ ap (λ (y : ByLevel). y 3) x
so_far-of-result (at (M.At P.After) g (in_array a k)) w r e = none-neq-some e
so_far-of-result (at (M.At P.After) g (in_object a k)) w r e = none-neq-some e
so_far-of-result (at (M.Key s) g k) w r e = none-neq-some e
so_far-of-result (at (M.Text s) g k) w r e = none-neq-some e
so_far-of-result (at (M.Number n) g bare) w r e = go (may_end n) e
  where
    go : (t : Bool) → cond t (some (alone g.number)) none ≡ some w → [] ≡ w 3
    go true x = let y : alone g.number ≡ w = cc in ap (λ (z : ByLevel). z 3) y
    go false x = none-neq-some x
so_far-of-result (at (M.Number n) g (whole v)) w r e = absurd r
so_far-of-result (at (M.Number n) g (in_array a k)) w r e = none-neq-some (sym (no_end (may_end n)) ∙ e)
  where
    no_end : (t : Bool) → cond t (whole_of numbering (finish numbering (alone g.number) (in_array a k))) none ≡ none
    no_end true = refl
    no_end false = refl
so_far-of-result (at (M.Number n) g (in_object a k)) w r e = none-neq-some (sym (no_end (may_end n)) ∙ e)
  where
    no_end : (t : Bool) → cond t (whole_of numbering (finish numbering (alone g.number) (in_object a k))) none ≡ none
    no_end true = refl
    no_end false = refl
so_far-of-result (at (M.Word x i) g k) w r e = none-neq-some e

-- the numbers at level 3 of a text valid under book B are those of its corners
pub numbers-of-valid : {s : List ℕ} {t : Json} {cs : List Corner} → ValidB s t → CornersOf t cs → numbers_of s ≡ flat cs
unfolding numbers_of
numbers-of-valid {s} {t} x c =
    so_far-of-result (run numbering (start numbering) s) (meaning numbering t) (rooted-run numbering s (start numbering) tt) (accepted-of-text numbering x.text)
    ∙ level-3 (field-of-valid x.valid) c
