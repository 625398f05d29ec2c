-- The number of a corner as it is written: REQUIREMENT.md, section 9. Stated. Assumes nothing.
use Rattle.std.specs.Prelude.{List, [], ◌∷◌, ℕ, ◌+◌, ◌-◌, ◌*◌, ◌≤◌, ℤ, pos, neg_ℤ, nat_abs, Option, Some, None}
use Rattle.json_text.specs.Numbers.{SomeDigits}

-- the value of digits after those whose value is v
abbrev pub value_from : ℕ → List ℕ → ℕ
value_from v [] = v
value_from v (d ∷ ds) = value_from (v * 10 + (d - 0x30)) ds

-- plain digits, which may follow one minus sign, and their value
pub data Plain : List ℕ → ℤ → Type 0 where
  plain : {ds : List ℕ} → SomeDigits ds → Plain ds (pos (value_from 0 ds))
  minus_plain : {ds : List ℕ} → SomeDigits ds → Plain (0x2D ∷ ds) (neg_ℤ (pos (value_from 0 ds)))

-- from -1,000,000 to 1,000,000
abbrev pub InRange : ℤ → Type 0
InRange z = nat_abs z ≤ 1000000

-- what is read of a number as it is written: its value, or none where it is not in plain digits or not in range
pub data Reads (ds : List ℕ) : Option ℤ → Type 0 where
  reads_at : {z : ℤ} → Plain ds z → InRange z → Reads ds (Some z)
  reads_unfit : ((z : ℤ) → Plain ds z → InRange z → ⊥) → Reads ds None
