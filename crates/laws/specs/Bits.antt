-- Bits of a list of bytes: REQUIREMENT.md, section 5: bit i is 2 ^ (i mod 8) of byte i / 8. Stated. Assumes nothing.
use Rattle.std.specs.Prelude.{Bool, cond, List, ℕ, zero, suc, ◌/◌, ◌%◌, ◌^◌, eqb, get_or, set}
use Rattle.std.specs.Int.Bits.{bit_or}

-- bit i is set; past the end of the list no bit is
unfoldable pub bit_at : List ℕ → ℕ → Bool
bit_at xs i = eqb (get_or xs (i / 8) 0 / 2 ^ (i % 8) % 2) 1

-- the list with bit i set; past its end nothing changes
unfoldable pub set_bit : List ℕ → ℕ → List ℕ
set_bit xs i = set xs (i / 8) (bit_or (get_or xs (i / 8) 0) (2 ^ (i % 8)))

-- the list with bit `f e` set for each e below n of which p holds
unfoldable pub set_all : (ℕ → Bool) → (ℕ → ℕ) → ℕ → List ℕ → List ℕ
set_all p f zero xs = xs
set_all p f (suc n) xs = cond (p n) (set_bit (set_all p f n xs) (f n)) (set_all p f n xs)
