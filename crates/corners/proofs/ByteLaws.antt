-- The bytes that numbers are written in. Assumes nothing.
use mathlib.Core.Bool.{true}
use Prim.Native.Nat.{ℕ}
use native.Mathlib.Omega.{arith}
use lib.Dec.{T, eqb}
use Rattle.laws.proofs.TestLaws.{T-or-left, T-or-right, cond-elim}
use Rattle.json_text.specs.Bytes.{within, is_blank}
use Rattle.json_text.specs.Numbers.{is_digit, is_digit_1_9, is_e}
use Rattle.json_text.specs.Lexer.{or_exp, after_minus, after_zero, after_int, after_frac, after_e, after_exp, digit_only, number_move}
use Rattle.json_text.specs.declared.number.NumberMode.{NumberMode}
use Rattle.json_text.specs.declared.number.NumberMode.TheVariants as N
use Rattle.json_text.specs.declared.number.NumberMove.{NumberMove}
use Rattle.json_text.specs.declared.number.NumberMove.TheVariants as NM
use Rattle.json_text.proofs.ByteLaws.{low-of-within, high-of-within, within-of-le, at_byte, blank-elim}
use Rattle.corners.specs.Numbers.{is_number_byte}

-- a byte that no number has
abbrev pub Plain : ℕ → Type 0
Plain b = T (is_number_byte b) → ⊥

-- a byte that equals one that no number has
pub plain_at : (b k : ℕ) → Plain k → T (eqb b k) → Plain b
plain_at b k p h = at_byte Plain b k p h

pub plain-blank : (b : ℕ) → T (is_blank b) → Plain b
unfolding is_number_byte is_digit is_e within
plain-blank = blank-elim Plain (λ h. h) (λ h. h) (λ h. h) (λ h. h)

-- ---- each byte of a number

module _ (b : ℕ) where
  pub number-of-digit : T (is_digit b) → T (is_number_byte b)
  unfolding is_number_byte
  number-of-digit h = T-or-left (is_digit b) _ h

  pub number-of-digit1-9 : T (is_digit_1_9 b) → T (is_number_byte b)
  unfolding is_digit is_digit_1_9
  number-of-digit1-9 h =
      let l = low-of-within 0x31 0x39 b h in
      let u = high-of-within 0x31 0x39 b h in
      number-of-digit (within-of-le 0x30 0x39 b (omega arith) (omega arith))

  pub number-of-e : T (is_e b) → T (is_number_byte b)
  unfolding is_number_byte
  number-of-e h =
      T-or-right (is_digit b) _ (T-or-right (eqb b 0x2D) _ (T-or-right (eqb b 0x2E) _ (T-or-left (is_e b) _ h)))

-- a byte that equals one of a number
pub number_at : (b k : ℕ) → T (is_number_byte k) → T (eqb b k) → T (is_number_byte b)
number_at b k p h = at_byte (λ (c : ℕ). T (is_number_byte c)) b k p h

-- ---- a number goes on with its bytes only

abbrev pub Goes : ℕ → NumberMove → Type 0
Goes b NM.Fault = T true
Goes b (NM.Go n) = T (is_number_byte b)
Goes b NM.End = T true

module _ (b : ℕ) where
  goes-exp : Goes b (or_exp b)
  unfolding or_exp
  goes-exp = cond-elim (Goes b) (is_e b) (λ h. number-of-e b h) (λ _. tt)

  goes-zero : Goes b (after_zero b)
  unfolding after_zero is_number_byte is_digit within
  goes-zero = cond-elim (Goes b) (eqb b 0x2E) (λ h. number_at b 0x2E tt h) (λ _. goes-exp)

  goes-digit : (n : NumberMode) → Goes b (digit_only b n)
  unfolding digit_only
  goes-digit n = cond-elim (Goes b) (is_digit b) (λ h. number-of-digit b h) (λ _. tt)

  -- of any part of a number
  pub goes_number : (n : NumberMode) → Goes b (number_move n b)
  unfolding after_minus after_int after_frac after_e after_exp is_number_byte is_digit is_e within
  goes_number N.Minus =
      cond-elim (Goes b) (is_digit_1_9 b) (λ h. number-of-digit1-9 b h) (λ _. cond-elim (Goes b) (eqb b 0x30) (λ h. number_at b 0x30 tt h) (λ _. tt))
  goes_number N.Zero = goes-zero
  goes_number N.Int = cond-elim (Goes b) (is_digit b) (λ h. number-of-digit b h) (λ _. goes-zero)
  goes_number N.Dot = goes-digit N.Frac
  goes_number N.Frac = cond-elim (Goes b) (is_digit b) (λ h. number-of-digit b h) (λ _. goes-exp)
  goes_number N.E =
      cond-elim (Goes b) (is_digit b) (λ h. number-of-digit b h)
      (λ _. cond-elim (Goes b) (eqb b 0x2B) (λ h. number_at b 0x2B tt h) (λ _. cond-elim (Goes b) (eqb b 0x2D) (λ h. number_at b 0x2D tt h) (λ _. tt)))
  goes_number N.Sign = goes-digit N.Exp
  goes_number N.Exp = cond-elim (Goes b) (is_digit b) (λ h. number-of-digit b h) (λ _. tt)
