-- Blanks and words of a line, and its point, part by part. Assumes nothing.
use Rattle.std.proofs.Common.{◌≡◌, ℕ, suc, ◌+◌, ◌-◌, ◌<◌, ◌≤◌, Bool, true, false, not, ◌&&◌, eqb, List, [], ◌∷◌, length, get_or, take, drop, Bor, length-drop, Some, None, refl, sym, ◌∙◌, arith}
use Rattle.std.specs.Prelude.{Option, ℤ, position}
use Rattle.std.specs.Option.{unwrap_or, MatchOption}
use Rattle.std.specs.List.{position_or_len}
use Rattle.std.proofs.lemmas.List.Sums.{prefix_len-le-length}
use Rattle.std.proofs.Math.ListN.{drop_of_length-le}
use Rattle.std.proofs.Math.Seq.{drop-cons, take_all}
use native.Mathlib.Decide.{dec_lt}
use borrow.Author.Tests.{lt-ltb, le-ltb}
use lib.Pointwise.{pointwise}
use Rattle.geometry.specs.declared.Point.{Point}
use Rattle.points.specs.Points.{after_blanks, word, after_word, without_cr, number_of, both, ended, point_from}

-- ---- a place in a line

-- the first place that passes a test, or the length where none does
pub place-of : (p : ℕ → Bool) (s : List ℕ) → unwrap_or (position p s) (length s) ≡ position_or_len p s
place-of p s = go (dec_lt (position_or_len p s) (length s))
  where
    most : position_or_len p s ≤ length s
    most = prefix_len-le-length (λ b. not (p b)) s

    go : Dec (position_or_len p s < length s) → unwrap_or (position p s) (length s) ≡ position_or_len p s
    go (yes h) = rw (lt-ltb (position_or_len p s) (length s) h) refl
    go (no h) = rw (le-ltb (position_or_len p s) (length s) (omega arith)) (omega (arith, most))

-- the part of a list from a place on, as a slice has it
pub part-from : (n : ℕ) (s : List ℕ) → take (length s - n) (drop n s) ≡ drop n s
part-from n s = take_all (length s - n) (drop n s) (simp length-drop (omega arith))

-- ---- a CR at the end

-- the last byte, where there is one, tells whether a CR is taken away
cr-test : (s : List ℕ) → pointwise eqb (drop (length s - 1) s) (0x0D ∷ []) ≡ eqb (get_or s (length s - 1) 0) 0x0D
cr-test [] = refl
cr-test (b ∷ s) =
    let n : ℕ = length (b ∷ s) - 1 in
    let lt : n < length (b ∷ s) = omega arith in
    let none : drop (suc n) (b ∷ s) ≡ [] = let end : length (b ∷ s) ≤ suc n = omega arith in drop_of_length-le (b ∷ s) end in
    rw (drop-cons (b ∷ s) n 0 lt, none) (and-true (eqb (get_or (b ∷ s) n 0) 0x0D))
  where
    and-true : (t : Bool) → (t && true) ≡ t
    and-true true = refl
    and-true false = refl

-- what is left of a line, with its CR taken away where it has one
pub without_cr-of : (s : List ℕ) (o : Option (Bor (List ℕ))) (d : Bor (List ℕ)) → d.now ≡ s
    → MatchOption o (pointwise eqb (drop (length s - 1) s) (0x0D ∷ []) ≡ false)
    (λ x. (pointwise eqb (drop (length s - 1) s) (0x0D ∷ []) ≡ true) × (x.now ≡ take (length s - 1) s) × (length x.now + 1 ≡ length s))
    → (unwrap_or o d).now ≡ without_cr s
unfolding without_cr
without_cr-of s (Some x) d e h = rw (sym (cr-test s) ∙ h.0) h.1
without_cr-of s None d e h = rw (sym (cr-test s) ∙ h) e

-- ---- the point of a line, part by part

ended-empty : (s : List ℕ) (p : Option Point) → length s ≡ 0 → ended s p ≡ p
unfolding ended
ended-empty [] p h = refl
ended-empty (b ∷ s) p h = absurd (omega (arith, h))

ended-more : (s : List ℕ) (p : Option Point) → (length s ≡ 0 → ⊥) → ended s p ≡ None
unfolding ended
ended-more [] p h = absurd (h refl)
ended-more (b ∷ s) p h = refl

module _ (first behind second after end : List ℕ) (e₁ : behind ≡ after_word first) (e₂ : second ≡ word (after_blanks behind)) (e₃ : after ≡ after_word (after_blanks behind))
    (e₄ : end ≡ after_blanks after) where
  parts : point_from first ≡ ended end (both (number_of (word first)) (number_of second))
  unfolding point_from
  parts = rw (e₄, e₃, e₂, e₁) refl

  -- something follows the second number
  pub point_from-more : (length end ≡ 0 → ⊥) → None ≡ point_from first
  point_from-more h = sym (parts ∙ ended-more end _ h)

  -- nothing follows it
  module _ (h : length end ≡ 0) (m n : Option ℤ) (e : m ≡ number_of (word first)) (f : n ≡ number_of second) where
    pub point_from-both : both m n ≡ point_from first
    point_from-both = sym (parts ∙ ended-empty end _ h ∙ rw (← e, ← f) refl)

    pub point_from-first : m ≡ None → None ≡ point_from first
    unfolding both
    point_from-first i = rw i at point_from-both

    pub point_from-second : n ≡ None → None ≡ point_from first
    unfolding both
    point_from-second i = go m point_from-both
      where
        go : (k : Option ℤ) → both k n ≡ point_from first → None ≡ point_from first
        go (Some x) g = rw i at g
        go None g = g

    pub point_from-point : {x y : ℤ} {p : Point} → m ≡ Some x → n ≡ Some y → p ≡ record { x = x; y = y } → Some p ≡ point_from first
    unfolding both
    point_from-point i j q = rw q (rw (i, j) at point_from-both)
