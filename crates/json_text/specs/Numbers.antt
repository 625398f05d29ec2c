-- Numbers: RFC 8259, section 6: number = [ minus ] int [ frac ] [ exp ]. Stated. Assumes nothing.
use Rattle.std.specs.Prelude.{Bool, ◌||◌, List, [], ◌∷◌, ◌++◌, ℕ, eqb, T}
use Rattle.json_text.specs.Bytes.{within}

-- DIGIT
unfoldable pub is_digit : ℕ → Bool
is_digit b = within 0x30 0x39 b

-- digit1-9
unfoldable pub is_digit_1_9 : ℕ → Bool
is_digit_1_9 b = within 0x31 0x39 b

-- e
unfoldable pub is_e : ℕ → Bool
is_e b = eqb b 0x65 || eqb b 0x45

-- *DIGIT
pub data Digits : List ℕ → Type 0 where
  no_digits : Digits []
  digits : {d : ℕ} {s : List ℕ} → T (is_digit d) → Digits s → Digits (d ∷ s)

-- 1*DIGIT
pub data SomeDigits : List ℕ → Type 0 where
  some_digits : {d : ℕ} {s : List ℕ} → T (is_digit d) → Digits s → SomeDigits (d ∷ s)

-- [ minus ]
pub data Minus : List ℕ → Type 0 where
  no_minus : Minus []
  minus : Minus (0x2D ∷ [])

-- zero / ( digit1-9 *DIGIT )
pub data Int : List ℕ → Type 0 where
  zero : Int (0x30 ∷ [])
  int : {d : ℕ} {s : List ℕ} → T (is_digit_1_9 d) → Digits s → Int (d ∷ s)

-- [ decimal-point 1*DIGIT ]
pub data Frac : List ℕ → Type 0 where
  no_frac : Frac []
  frac : {s : List ℕ} → SomeDigits s → Frac (0x2E ∷ s)

-- [ minus / plus ]
pub data Sign : List ℕ → Type 0 where
  no_sign : Sign []
  minus_sign : Sign (0x2D ∷ [])
  plus_sign : Sign (0x2B ∷ [])

-- [ e [ minus / plus ] 1*DIGIT ]
pub data Exp : List ℕ → Type 0 where
  no_exp : Exp []
  exp : {e : ℕ} {g s : List ℕ} → T (is_e e) → Sign g → SomeDigits s → Exp (e ∷ g ++ s)

pub data Number : List ℕ → Type 0 where
  number : {m i f e : List ℕ} → Minus m → Int i → Frac f → Exp e → Number (m ++ (i ++ (f ++ e)))
