-- A line and the lines of a book, by the tests on the way: each law takes their results and gives the answer there. Assumes nothing.
use mathlib.Core.Bool.{Bool, true, false, cond, ◌||◌}
use mathlib.Core.List.{List, [], ◌∷◌}
use mathlib.Core.Path.{◌≡◌, refl, sym, ap, subst, ◌∙◌}
use Prim.Native.Nat.{ℕ, suc, ◌+◌}
use native.Mathlib.Numerals.{add-one}
use native.Mathlib.Omega.{arith}
use lib.Dec.{eqb, ltb}
use Rattle.std.proofs.Common.{nat_eq}
use Rattle.std.specs.Cmp.Lexicographic.{pointwise}
use Rattle.table.proofs.KeyLaws.{same_pointwise}
use lib.ListN.{length, take, drop}
use borrow.Author.Tests.{eq-eqb, ne_eqb}
use Rattle.laws.specs.Lists.{same}
use Rattle.table.specs.Table.{Table}
use Rattle.table.specs.Flat.{empty_table}
use Rattle.book.specs.Text.{is_empty, split}
use Rattle.book.specs.Line.{bad, good, say_line}
use Rattle.book.specs.Load.{names_line}
use Rattle.book.specs.Entry.{Entry}
use Rattle.scan.specs.Scan.{FirstPart}
use Rattle.line.specs.declared.Fault.{Fault}
use Rattle.line.specs.declared.Fault.TheVariants.{Malformed as MalformedLine, AboveLimit, TooMany, FormChanged, Repeated}
use Rattle.line.specs.Line.{fault_number}
use Rattle.line.proofs.LineLaws.{split-some}
use Rattle.load.specs.declared.Refusal.{Refusal}
use Rattle.load.specs.declared.Refusal.TheVariants.{Size, Names, Malformed}
use Rattle.store.specs.Proper.{Proper, ProperSaid}
use Rattle.store.specs.Store.{Taken, taken, take_entry}
use Rattle.load.specs.Step.{Loaded, take_said, line_refusal, loaded, refusal, take_on, take_lines, take_book}
use Rattle.load.proofs.ProperLaws.{say_line-proper}

-- ---- a line
module _ (l : List ℕ) where
  pub line-proper : (e : Entry) → good e ≡ say_line l → Proper e
  line-proper e q = subst ProperSaid (sym q) (say_line-proper l)

  module _ (n : ℕ) (t : Table) where
    pub line-entry : (e : Entry) (v : Taken) → good e ≡ say_line l → v ≡ take_entry n t e → v ≡ take_said n t (say_line l)
    unfolding take_said
    line-entry e v q w = w ∙ ap (take_said n t) q

    pub line-fault : (k : ℕ) → bad k ≡ say_line l → taken k t ≡ take_said n t (say_line l)
    unfolding take_said
    line-fault k q = ap (take_said n t) q

-- ---- the lines of s, from line n on, into the table t, come to r
module _ (s : List ℕ) (n : ℕ) (t : Table) (r : Loaded) (inv : take_lines n t (split 10 s) ≡ r) where
  pub lines_end : length s ≡ 0 → loaded t ≡ r
  unfolding take_lines split is_empty
  lines_end h = go s h inv
    where
      go : (u : List ℕ) → length u ≡ 0 → take_lines n t (split 10 u) ≡ r → loaded t ≡ r
      go [] e f = f
      go (x ∷ u) e f = absurd (omega arith)

  -- the last line lacks its LF
  pub lines-open : (v : Loaded) → (length s ≡ 0 → ⊥) → split 10 s ≡ s ∷ [] → v ≡ refusal (Malformed n) → v ≡ r
  unfolding take_lines is_empty
  lines-open v h q w = w ∙ go s h (rw q at inv)
    where
      go : (u : List ℕ) → (length u ≡ 0 → ⊥) → take_lines n t (u ∷ []) ≡ r → refusal (Malformed n) ≡ r
      go [] e f = absurd (e refl)
      go (x ∷ u) e f = f

  module _ (l behind : List ℕ) (part : FirstPart 10 s l behind) (x : ℕ) (y : Table) (u : taken x y ≡ take_said n t (say_line l)) where
    turn : cond (eqb x 0) (take_lines (suc n) y (split 10 behind)) (refusal (line_refusal x n)) ≡ r
    unfolding take_lines take_on
    turn =
        let p = split-some 10 behind in
        let z = rw (part.parts, p.2) at inv in
        let a : x ≡ (take_said n t (say_line l)).fault = ap (λ (v : Taken). v.fault) u in
        let d : y ≡ (take_said n t (say_line l)).table = ap (λ (v : Taken). v.table) u in
        rw (p.2, a, d) z

    pub lines-bad : (a : Refusal) (w : Loaded) → (x ≡ 0 → ⊥) → a ≡ line_refusal x n → w ≡ refusal a → w ≡ r
    lines-bad a w f e g = g ∙ ap refusal e ∙ rw (ne_eqb x 0 f) at turn

    pub lines_more : x ≡ 0 → take_lines (n + 1) y (split 10 behind) ≡ r
    lines_more f = rw (add-one n) (rw (eq-eqb x 0 f) at turn)

pub fault-some : (f : Fault) → fault_number f ≡ 0 → ⊥
fault-some MalformedLine e = omega arith
fault-some AboveLimit e = omega arith
fault-some TooMany e = omega arith
fault-some FormChanged e = omega arith
fault-some Repeated e = omega arith

-- ---- a book
is_empty-length : (b : List ℕ) → is_empty b ≡ eqb (length b) 0
unfolding is_empty
is_empty-length [] = refl
is_empty-length (x ∷ b) = sym (ne_eqb (suc (length b)) 0 (λ z. omega arith))

module _ (b : List ℕ) (v : Loaded) (e l : Bool) (qe : e ≡ eqb (length b) 0) (ql : l ≡ ltb 65536 (length b)) where
  size : (e || l) ≡ (is_empty b || ltb 65536 (length b))
  size = rw (is_empty-length b, qe, ql)

  pub book-size : (e || l) ≡ true → v ≡ refusal Size → v ≡ take_book b
  unfolding take_book
  book-size h w = rw (sym size ∙ h) w

  -- w: the names line, as it is in the code
  module _ (n : (e || l) ≡ false) (names : List ℕ) (q : names ≡ names_line) (c : Bool)
      (p : pointwise nat_eq (take (length names) b) names ≡ c) where
    begins : same (take 31 b) names_line ≡ c
    begins = sym (same_pointwise (take 31 b) names_line) ∙ rw q at p

    pub book-other : c ≡ false → v ≡ refusal Names → v ≡ take_book b
    unfolding take_book
    book-other k w = rw (sym size ∙ n, begins ∙ k) w

    pub book-lines : (lines : List ℕ) → c ≡ true → lines ≡ drop (length names) b → v ≡ take_lines 2 empty_table (split 10 lines) → v ≡ take_book b
    unfolding take_book
    book-lines lines k d w = rw (sym size ∙ n, begins ∙ k) (w ∙ ap (λ (s : List ℕ). take_lines 2 empty_table (split 10 s)) (rw q at d))
