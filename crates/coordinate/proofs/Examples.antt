-- Numbers as they are written, tried. Assumes nothing.
use mathlib.Core.Path.{◌≡◌, refl}
use lib.IntN.{pos, negsuc}
use Rattle.laws.specs.Ascii.{ascii}
use Rattle.laws.specs.Lists.{all}
use Rattle.json_text.specs.Bytes.{within}
use Rattle.json_text.specs.Numbers.{is_digit}
use Rattle.coordinate.specs.Exact.{whole_from, whole_of, coordinate_of}
use Rattle.std.specs.Prelude.{Some, None}

-- the range, and 0 after a minus sign
pub numbers : (coordinate_of (ascii "1000000") ≡ Some (pos 1000000)) × (coordinate_of (ascii "-1000000") ≡ Some (negsuc 999999))
    × (coordinate_of (ascii "1000001") ≡ None) × (coordinate_of (ascii "-1000001") ≡ None) × (coordinate_of (ascii "-0") ≡ Some (pos 0))
unfolding coordinate_of whole_of whole_from all is_digit within
numbers = (refl, refl, refl, refl, refl)

-- values that are whole, and not in plain digits; and no number
pub others : (coordinate_of (ascii "1.0") ≡ None) × (coordinate_of (ascii "1e1") ≡ None) × (coordinate_of (ascii "-") ≡ None)
    × (coordinate_of (ascii "") ≡ None)
unfolding coordinate_of whole_of whole_from all is_digit within
others = (refl, refl, refl, refl)
