-- When the value of a number is whole: REQUIREMENT.md, section 4. The parts of a number are those of RFC 8259, section 6. Stated. Assumes nothing.
use Rattle.std.specs.Prelude.{List, [], ◌∷◌, ◌++◌, ◌⊎◌, ◌≡◌, ℕ, ◌+◌, ◌*◌, ◌-◌, ◌^◌, ◌≤◌, length}
use Rattle.json_text.specs.Numbers.{Minus, Int, Frac, no_frac, frac, Sign, no_sign, minus_sign, plus_sign, Exp, no_exp, exp}

-- k divides m
pub data Divides (k m : ℕ) : Type 0 where
  divides : (n : ℕ) → n * k ≡ m → Divides k m

-- the number that digits show in base ten, after digits that show v
unfoldable pub shown_after : ℕ → List ℕ → ℕ
shown_after v [] = v
shown_after v (d ∷ ds) = shown_after (10 * v + (d - 0x30)) ds

abbrev pub shown : List ℕ → ℕ
shown ds = shown_after 0 ds

-- the digits after the point
abbrev pub digits_of : {f : List ℕ} → Frac f → List ℕ
digits_of no_frac = []
digits_of (frac {s} d) = s

-- an exponent has a size and a sign; where none is written it is +0
pub data Exponent : Type 0 where
  plus minus : ℕ → Exponent

abbrev pub signed : {g : List ℕ} → Sign g → ℕ → Exponent
signed no_sign e = plus e
signed plus_sign e = plus e
signed minus_sign e = minus e

abbrev pub exponent_of : {e : List ℕ} → Exp e → Exponent
exponent_of no_exp = plus 0
exponent_of (exp {s} h x d) = signed x (shown s)

-- all digits are read as one number m, the last f of them stand after the point, and the exponent is e: the value is whole where f is at most e or
-- 10 to the power f - e divides m. For an exponent below 0 that power is f and the size of the exponent together
abbrev pub WholeValue : ℕ → ℕ → Exponent → Type 0
WholeValue m f (plus e) = (f ≤ e) ⊎ Divides (10 ^ (f - e)) m
WholeValue m f (minus e) = Divides (10 ^ (f + e)) m

-- a number whose value is whole
pub data Whole : List ℕ → Type 0 where
  whole : {m i f e : List ℕ} → Minus m → Int i → (x : Frac f) (y : Exp e) → WholeValue (shown (i ++ digits_of x)) (length (digits_of x)) (exponent_of y)
      → Whole (m ++ (i ++ (f ++ e)))
