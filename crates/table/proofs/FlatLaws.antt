-- What stands in the parts of a table's bytes. Assumes nothing.
use mathlib.Core.List.{List}
use mathlib.Core.Path.{◌≡◌, sym, ◌∙◌}
use Prim.Native.Nat.{ℕ, ◌+◌, ◌<◌}
use lib.ListN.{get_or, drop}
use lib.Seq.{get_or-drop, get_or-take}
use Rattle.table.specs.Flat.{part}

-- a byte of a part
pub get_d_part : (l : List ℕ) (a n i : ℕ) → i < n → get_or l (a + i) 0 ≡ get_or (part l a n) i 0
unfolding part
get_d_part l a n i h = sym (get_or-take n (drop a l) i 0 h ∙ get_or-drop a l i 0)
