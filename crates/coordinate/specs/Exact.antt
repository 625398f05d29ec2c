-- The number of a corner, computed from its bytes. Derived: `reads-coordinate_of` and `reads-unique` in proofs/ join it to `Reads`. Assumes nothing.
use Rattle.std.specs.Prelude.{cond, ◌&&◌, List, [], ◌∷◌, ℕ, ◌+◌, ◌-◌, ◌*◌, eqb, leb, ℤ, pos, neg_ℤ, Option, None}
use Rattle.std.specs.Bool.{then_some}
use Rattle.std.specs.Option.{option_map}
use Rattle.laws.specs.Lists.{all}
use Rattle.json_text.specs.Numbers.{is_digit}
use Rattle.coordinate.specs.Coordinate.{value_from}

-- the value v with the byte b as one digit more
unfoldable pub longer : ℕ → ℕ → Option ℕ
longer v b = then_some (is_digit b && leb (v * 10 + (b - 0x30)) 1000000) (v * 10 + (b - 0x30))

-- the digits ds after those whose value is v
unfoldable pub whole_from : ℕ → List ℕ → Option ℕ
whole_from v ds = then_some (all is_digit ds && leb (value_from v ds) 1000000) (value_from v ds)

-- one or more digits
unfoldable pub whole_of : List ℕ → Option ℕ
whole_of [] = None
whole_of (d ∷ ds) = whole_from 0 (d ∷ ds)

-- the number after a minus sign
abbrev pub negated : ℕ → ℤ
negated n = neg_ℤ (pos n)

-- digits, after a minus sign or alone
unfoldable pub coordinate_of : List ℕ → Option ℤ
coordinate_of [] = None
coordinate_of (b ∷ ds) = cond (eqb b 0x2D) (option_map negated (whole_of ds)) (option_map pos (whole_of (b ∷ ds)))
