-- The end states of a rule, told by its two bytes as they are read: each law takes what was read and what the test on the way told. Assumes nothing.
use mathlib.Core.Bool.{true, not}
use mathlib.Core.List.{List}
use mathlib.Core.Path.{◌≡◌, sym, ap, ◌∙◌}
use Prim.Native.Nat.{ℕ, ◌+◌, ◌*◌, ◌<◌}
use lib.Bits.{bit_and}
use lib.Dec.{eqb}
use lib.ListN.{get_or}
use borrow.Author.Tests.{eq-eqb, ne_eqb}
use Rattle.frame.specs.Ops.{has_end}
use Rattle.frame.proofs.RuleLaws.{has_end-of-bytes}

module _ (ends s : List ℕ) (r a : ℕ) (x : get_or s (2 * r) 0 < 256) (y : get_or s (2 * r + 1) 0 < 256) (q : a ≡ get_or ends (2 * r) 0) where
  pub has_end-low : (bit_and (get_or s (2 * r) 0) a ≡ 0 → ⊥) → true ≡ has_end ends s r
  has_end-low h = rw (has_end-of-bytes ends s r x y, ne_eqb (bit_and (get_or s (2 * r) 0) (get_or ends (2 * r) 0)) 0 (λ z. h (ap (bit_and (get_or s (2 * r) 0)) q ∙ z)))

  pub has_end-high : (b : ℕ) → bit_and (get_or s (2 * r) 0) a ≡ 0 → b ≡ get_or ends (2 * r + 1) 0 → not (eqb (bit_and (get_or s (2 * r + 1) 0) b) 0) ≡ has_end ends s r
  has_end-high b h w = rw (has_end-of-bytes ends s r x y, eq-eqb (bit_and (get_or s (2 * r) 0) (get_or ends (2 * r) 0)) 0 (ap (bit_and (get_or s (2 * r) 0)) (sym q) ∙ h), w)
