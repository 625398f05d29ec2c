-- The parts of a frame as lists of their own. Assumes nothing.
use mathlib.Core.List.{List, ◌++◌}
use mathlib.Core.Path.{◌≡◌, ap, ◌∙◌}
use Prim.Native.Nat.{ℕ, ◌+◌, ◌*◌, ◌/◌, ◌%◌, ◌≤◌}
use native.Mathlib.Omega.{arith}
use lib.ListN.{length, take, drop}
use lib.Seq.{get_or-drop, length-take-le, drop_at}
use Rattle.laws.specs.Bits.{bit_at}
use Rattle.frame.specs.Frame.{seen_in, held_in}

-- bits from byte b on
bit_at-drop : (b : ℕ) (f : List ℕ) (i j : ℕ) → i ≡ 8 * b + j → bit_at f i ≡ bit_at (drop b f) j
unfolding bit_at
bit_at-drop b f i j e =
    let q : i / 8 ≡ b + j / 8 = omega arith in
    let r : i % 8 ≡ j % 8 = omega arith in
    rw (q, r, get_or-drop b f (j / 8) 0)

-- the bits of the keys seen are those of the bytes from 16 on
pub seen_in-of-drop : (f : List ℕ) (k : ℕ) → seen_in f k ≡ bit_at (drop 16 f) k
unfolding seen_in
seen_in-of-drop f k = bit_at-drop 16 f (128 + k) k (omega arith)

-- the bits of edges or states are those of the bytes from 32 on
pub held_in-of-drop : (f : List ℕ) (i : ℕ) → held_in f i ≡ bit_at (drop 32 f) i
unfolding held_in
held_in-of-drop f i = bit_at-drop 32 f (256 + i) i (omega arith)

-- where the bytes from 32 on were replaced, the bits of edges or states are those of the new ones
pub held_in-of-append : (f s : List ℕ) (i : ℕ) → 32 ≤ length f → held_in (take 32 f ++ s) i ≡ bit_at s i
held_in-of-append f s i h = held_in-of-drop (take 32 f ++ s) i ∙ ap (λ (x : List ℕ). bit_at x i) (drop_at (take 32 f) s 32 (length-take-le 32 f h))
