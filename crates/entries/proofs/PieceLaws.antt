-- The piece in which the unread bytes begin. Assumes nothing.
use mathlib.Core.Bool.{Bool, true, false, cond}
use mathlib.Core.List.{List, [], ◌∷◌}
use mathlib.Core.Path.{◌≡◌, refl, sym, ap, ◌∙◌}
use Prim.Native.Nat.{ℕ, zero, suc, ◌+◌, ◌-◌, ◌%◌, ◌≤◌, ◌<◌}
use native.Mathlib.Nat.{mod-lt}
use native.Mathlib.Omega.{arith}
use lib.Dec.{eqb, ltb}
use lib.ListN.{length, take, drop, length-take, length-drop}
use lib.Seq.{take_all}
use borrow.Author.Tests.{eqb-false, ltb-true}
use Rattle.entries.specs.Feeds.{piece_of, piece_end}

-- ---- the bytes of a piece

module _ (size read : ℕ) (s : List ℕ) where
  pub piece_is : read ≤ length s → take (piece_end size read (length s) - read) (drop read s) ≡ piece_of size read (drop read s)
  unfolding piece_of piece_end
  piece_is h = go (eqb size 0) (ltb (length s - read) (size - read % size)) refl
    where
      all : (k : ℕ) → length s - read ≤ k → take k (drop read s) ≡ drop read s
      all k l = take_all k (drop read s) (omega (arith, l, length-drop read s))

      go : (x y : Bool) → ltb (length s - read) (size - read % size) ≡ y
          → take (cond x (length s) (cond y (length s) (read + (size - read % size))) - read) (drop read s)
          ≡ cond x (drop read s) (take (size - read % size) (drop read s))
      go true y e = all (length s - read) (omega arith)
      go false true e =
          all (length s - read) (omega arith) ∙ sym (all (size - read % size) (omega (arith, ltb-true (length s - read) (size - read % size) e)))
      go false false e = let d : read + (size - read % size) - read ≡ size - read % size = omega arith in ap (λ k. take k (drop read s)) d

-- a piece is a part of what is unread
pub piece-short : (size read : ℕ) (s : List ℕ) → length (piece_of size read s) ≤ length s
unfolding piece_of
piece-short size read s = go (eqb size 0)
  where
    go : (x : Bool) → length (cond x s (take (size - read % size) s)) ≤ length s
    go true = omega arith
    go false = omega (arith, length-take (size - read % size) s)

take-some : (k : ℕ) (s : List ℕ) → 0 < k → 0 < length s → 0 < length (take k s)
take-some k [] l h = absurd (omega (arith, h))
take-some zero (b ∷ s) l h = absurd (omega (arith, l))
take-some (suc k) (b ∷ s) l h = omega arith

-- a piece of unread bytes has a byte
pub piece-some : (size read : ℕ) (s : List ℕ) → 0 < length s → 0 < length (piece_of size read s)
unfolding piece_of
piece-some size read s h = go (eqb size 0) refl
  where
    go : (x : Bool) → eqb size 0 ≡ x → 0 < length (cond x s (take (size - read % size) s))
    go true d = h
    go false d = take-some (size - read % size) s (omega (arith, mod-lt read {m = size} (omega (arith, eqb-false size 0 d)))) h
