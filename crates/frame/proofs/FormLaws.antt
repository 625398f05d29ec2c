-- The number of a form, and the form of a frame. Assumes nothing.
use mathlib.Core.Bool.{Bool, true, false, cond}
use mathlib.Core.List.{List}
use mathlib.Core.Path.{◌≡◌, refl}
use Prim.Native.Nat.{ℕ, ◌<◌}
use lib.Dec.{lit<}
use Rattle.table.specs.declared.kind.Form.{Form}
use Rattle.table.specs.declared.kind.Form.TheVariants.{Object, Array}
use Rattle.table.specs.Kind.{form_number}
use Rattle.frame.specs.Frame.{is_object, form_in}

pub form_number-nonzero : (f : Form) → 0 < form_number f
form_number-nonzero Object = lit< tt
form_number-nonzero Array = lit< tt

-- ---- the form of a frame

object-of-cond : (b : Bool) → Object ≡ cond b Object Array → b ≡ true
object-of-cond true e = refl
object-of-cond false e = cc

array-of-cond : (b : Bool) → Array ≡ cond b Object Array → b ≡ false
array-of-cond true e = cc
array-of-cond false e = refl

pub object-of-form : (f : List ℕ) → Object ≡ form_in f → is_object f ≡ true
unfolding form_in
object-of-form f e = object-of-cond (is_object f) e

pub array-of-form : (f : List ℕ) → Array ≡ form_in f → is_object f ≡ false
unfolding form_in
array-of-form f e = array-of-cond (is_object f) e
