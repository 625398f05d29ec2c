-- What an opened frame holds. Assumes nothing.
use mathlib.Core.Bool.{true, false}
use mathlib.Core.List.{List}
use mathlib.Core.Logic.{◌↔◌}
use mathlib.Core.Path.{◌≡◌, refl, ◌∙◌}
use Prim.Native.Nat.{ℕ, ◌*◌, ◌/◌, ◌<◌}
use native.Mathlib.Omega.{arith}
use lib.Dec.{T}
use lib.ListN.{length, replicate}
use Rattle.laws.specs.Bits.{bit_at}
use Rattle.laws.proofs.BitLaws.{bit_at-zeros, length-set_all, test-of-set_all-zeros, bit_at-set_all-of-test}
use Rattle.table.specs.declared.kind.Form.{Form}
use Rattle.table.specs.declared.kind.Form.TheVariants.{Object, Array}
use Rattle.frame.specs.Edges.{has_form}
use Rattle.frame.specs.Frame.{is_object, current_key, marked, seen_in, held_in}
use Rattle.frame.specs.Ops.{start_states, opened}
use Rattle.frame.proofs.PartLaws.{held_in-of-drop, seen_in-of-drop}
use Rattle.frame.proofs.EdgeLaws.{below-of-has_form}

-- ---- start states

pub length-start_states : (forms : List ℕ) (form : ℕ) → length (start_states forms form) ≡ 64
unfolding start_states
length-start_states forms form = length-set_all (has_form forms form) (λ r. 16 * r) 32 (replicate 64 0)

-- the start states of a form are state 0 of each rule of the form
pub bit_at-start_states : (forms : List ℕ) (form j : ℕ) → T (bit_at (start_states forms form) j) ↔ ((r : ℕ) × T (has_form forms form r) × (16 * r ≡ j))
unfolding start_states
bit_at-start_states forms form j = (
  (λ t. let w = test-of-set_all-zeros (has_form forms form) (λ r. 16 * r) 32 64 j t in (w.0, w.2, w.3)),
  (λ w.
      let b = below-of-has_form forms form w.0 w.1 in
      let i : 16 * w.0 / 8 < 64 = omega arith in
      rw w.2 at (bit_at-set_all-of-test (has_form forms form) (λ r. 16 * r) 32 (replicate 64 0) w.0 b w.1 i)),
)

-- ---- a fresh frame

module _ (forms : List ℕ) where
  pub length-opened : (form : Form) → length (opened forms form) ≡ 96
  unfolding opened
  length-opened Object = refl
  length-opened Array = rw (length-start_states forms 2)

  pub is_object-opened-object : is_object (opened forms Object) ≡ true
  unfolding opened is_object
  is_object-opened-object = refl

  pub is_object-opened-array : is_object (opened forms Array) ≡ false
  unfolding opened is_object
  is_object-opened-array = refl

  -- no key is current in an object
  pub current_key-opened : current_key (opened forms Object) ≡ 255
  unfolding opened current_key
  current_key-opened = refl

  pub marked-opened : (form : Form) → marked (opened forms form) ≡ false
  unfolding opened marked
  marked-opened Object = refl
  marked-opened Array = refl

  -- no key was seen
  pub seen_in-opened : (k : ℕ) → k < 128 → seen_in (opened forms Object) k ≡ false
  unfolding opened
  seen_in-opened k h = seen_in-of-drop (opened forms Object) k ∙ bit_at-zeros 80 k

  -- an object has no edges
  pub held_in-opened-object : (i : ℕ) → held_in (opened forms Object) i ≡ false
  unfolding opened
  held_in-opened-object i = held_in-of-drop (opened forms Object) i ∙ bit_at-zeros 64 i

  -- an array has state 0 of every `arr` rule
  pub held_in-opened-array : (j : ℕ) → T (held_in (opened forms Array) j) ↔ ((r : ℕ) × T (has_form forms 2 r) × (16 * r ≡ j))
  unfolding opened
  held_in-opened-array j = rw (held_in-of-drop (opened forms Array) j) (bit_at-start_states forms 2 j)
