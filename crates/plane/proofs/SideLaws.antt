-- The tests of a side, from the tests that the code makes. Assumes nothing.
use mathlib.Core.Bool.{Bool, true, false, ◌&&◌}
use mathlib.Core.Path.{◌≡◌, refl}
use Prim.Native.Nat.{zero, suc, ◌<◌}
use native.Mathlib.Omega.{arith}
use borrow.Author.Tests.{lt-leb}
use lib.IntN.{ℤ, pos, negsuc}
use lib.Signed.{le_z, lt_z}
use mir.Syntax.{w64}
use mir.Val.{SFits, of_z}
use Rattle.geometry.specs.declared.Point.{Point}
use Rattle.geometry.specs.Tests.{cross, between, is_zero, on_segment, crosses}

-- a number whose bits are 0 is 0
pub is_zero-of-bits : (z : ℤ) → SFits w64 z → of_z w64 z ≡ 0 → is_zero z ≡ true
unfolding is_zero
is_zero-of-bits (pos n) f e = rw e
is_zero-of-bits (negsuc n) f e = let h : n < 9223372036854775808 = f.sfits in absurd (omega arith)

-- a number whose bits are not 0 is not 0
pub nonzero-of-bits : (z : ℤ) → (of_z w64 z ≡ 0 → ⊥) → is_zero z ≡ false
unfolding is_zero
nonzero-of-bits (pos zero) f = absurd (f refl)
nonzero-of-bits (pos (suc n)) f = rw (lt-leb (suc n) 0 (omega arith))
nonzero-of-bits (negsuc n) f = refl

-- a test of numbers that are equal to others is one of those
pub between-same : {r : Bool} {i j k a b p : ℤ} → r ≡ between i j k → i ≡ a → j ≡ b → k ≡ p → r ≡ between a b p
between-same e f g h = cc

-- in line with the ends, a point is on the segment where it is in its box
pub on_segment-in-line : (a b p : Point) {z : ℤ} {m n : Bool} → z ≡ cross a b p → is_zero z ≡ true → m ≡ between a.x b.x p.x → n ≡ between a.y b.y p.y → (m && n) ≡ on_segment a b p
unfolding on_segment
on_segment-in-line a b p e z i j = rw (i, j, ← e, z)

-- not in line with the ends, a point is not on the segment
pub on_segment-beside : (a b p : Point) {z : ℤ} → z ≡ cross a b p → is_zero z ≡ false → false ≡ on_segment a b p
unfolding on_segment
on_segment-beside a b p e z = rw (← e, z)

-- a side from a corner not above the height of p
pub crosses-rising : (a b p : Point) {z i j k : ℤ} → i ≡ a.y → j ≡ b.y → k ≡ p.y → z ≡ cross a b p → le_z i k ≡ true → (lt_z k j && lt_z (pos 0) z) ≡ crosses a b p
unfolding crosses
crosses-rising a b p e f g h l = let t : le_z a.y p.y ≡ true = rw (e, g) at l in rw (f, g, h, t)

-- a side from a corner above the height of p
pub crosses-falling : (a b p : Point) {z i j k : ℤ} → i ≡ a.y → j ≡ b.y → k ≡ p.y → z ≡ cross a b p → le_z i k ≡ false → (le_z j k && lt_z z (pos 0)) ≡ crosses a b p
unfolding crosses
crosses-falling a b p e f g h l = let t : le_z a.y p.y ≡ false = rw (e, g) at l in rw (f, g, h, t)
