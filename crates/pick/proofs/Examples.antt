-- Pick tried on `z` RS `[` RS RS `1`. Assumes nothing.
use mathlib.Core.List.{List, [], ◌∷◌}
use mathlib.Core.Path.{◌≡◌, refl}
use Prim.Native.Nat.{ℕ}
use Rattle.stream.specs.Records.{cut_at_rs, nonempties}
use Rattle.pick.specs.Pick.{pick_of}

abbrev bytes : List ℕ
bytes = 0x7A ∷ 0x1E ∷ 0x5B ∷ 0x1E ∷ 0x1E ∷ 0x31 ∷ []

-- the head, the record after it, the record after the empty part, and no more
pub examples : (pick_of bytes 0 ≡ 0x7A ∷ []) × (pick_of bytes 1 ≡ 0x5B ∷ []) × (pick_of bytes 2 ≡ 0x31 ∷ []) × (pick_of bytes 3 ≡ [])
unfolding cut_at_rs nonempties pick_of
examples = (refl, refl, refl, refl)
