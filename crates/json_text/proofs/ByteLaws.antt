-- Laws of bytes and rows of bytes. Assumes nothing.
use mathlib.Core.Bool.{not, ◌||◌}
use mathlib.Core.List.{List, [], ◌∷◌, ◌++◌}
use mathlib.Core.Path.{◌≡◌, sym, subst}
use Prim.Native.Nat.{ℕ, ◌≤◌}
use native.Mathlib.Omega.{arith}
use lib.Dec.{T, eqb, leb, leb→le, le→leb, not_T, eqb→eq}
use Rattle.laws.proofs.TestLaws.{T_and, T-and-left, T-and-right, T-or-elim}
use Rattle.json_text.specs.Bytes.{within, is_blank, Follow, follow_none, follow}

-- ---- within

pub low-of-within : (lo hi b : ℕ) → T (within lo hi b) → lo ≤ b
unfolding within
low-of-within lo hi b h = leb→le lo b (T-and-left (leb lo b) _ h)

pub high-of-within : (lo hi b : ℕ) → T (within lo hi b) → b ≤ hi
unfolding within
high-of-within lo hi b h = leb→le b hi (T-and-right (leb lo b) _ h)

pub within-of-le : (lo hi b : ℕ) → lo ≤ b → b ≤ hi → T (within lo hi b)
unfolding within
within-of-le lo hi b h g = T_and (leb lo b) _ (le→leb lo b h) (le→leb b hi g)

-- a byte from k to k is k
pub eq-of-within : (k b : ℕ) → T (within k k b) → b ≡ k
eq-of-within k b h = let lo = low-of-within k k b h in let hi = high-of-within k k b h in omega arith

-- a byte that is not within two bounds is not between them
pub outside-of-not-within : (lo hi b : ℕ) → (lo ≤ b → b ≤ hi → ⊥) → T (not (within lo hi b))
outside-of-not-within lo hi b f = not_T (within lo hi b) (λ h. f (low-of-within lo hi b h) (high-of-within lo hi b h))

-- ---- one byte of several

-- what holds of k holds of a byte that equals it
pub at_byte : (P : ℕ → Type 0) (b k : ℕ) → P k → T (eqb b k) → P b
at_byte P b k p h = subst P (sym (eqb→eq b k h)) p

-- what holds of the four blanks holds of each blank
pub blank-elim : (P : ℕ → Type 0) → P 0x20 → P 0x09 → P 0x0A → P 0x0D → (b : ℕ) → T (is_blank b) → P b
unfolding is_blank
blank-elim P p q r s b =
    T-or-elim (eqb b 0x20 || eqb b 0x09 || eqb b 0x0A) (eqb b 0x0D)
    (T-or-elim (eqb b 0x20 || eqb b 0x09) (eqb b 0x0A)
    (T-or-elim (eqb b 0x20) (eqb b 0x09) (at_byte P b 0x20 p) (at_byte P b 0x09 q)) (at_byte P b 0x0A r))
    (at_byte P b 0x0D s)

-- ---- Follow

-- a list followed by another is the two joined
pub follow-append : (p r : List ℕ) → Follow p (p ++ r) r
follow-append [] r = follow_none
follow-append (b ∷ p) r = follow (follow-append p r)
