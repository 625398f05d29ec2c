-- How large the counts of a number get while the bytes of a record pass: `counts-fresh`, `counts-later`, `counts-byte`. Assumes nothing.
use mathlib.Core.Logic.{◌⊎◌, inl, inr, ⊎_elim}
use mathlib.Core.Path.{◌≡◌, refl}
use Prim.Native.Nat.{ℕ, ◌+◌, ◌*◌, ◌-◌, ◌<◌, ◌≤◌}
use native.Mathlib.Omega.{arith}
use lib.Dec.{T, eqb, ltb, leb, leb→le}
use Rattle.laws.specs.Count.{bump}
use Rattle.laws.proofs.TestLaws.{cond-elim}
use Rattle.json_text.specs.Numbers.{is_digit, is_digit_1_9, is_e}
use Rattle.json_text.specs.Lexer.{or_exp, after_minus, after_zero, after_int, after_frac, after_e, after_exp, digit_only, number_move}
use Rattle.json_text.specs.declared.number.NumberMode.{NumberMode}
use Rattle.json_text.specs.declared.number.NumberMode.TheVariants as N
use Rattle.json_text.specs.declared.number.NumberMove.{NumberMove}
use Rattle.json_text.specs.declared.number.NumberMove.TheVariants as NM
use Rattle.json_text.proofs.ByteLaws.{high-of-within}
use Rattle.whole.specs.declared.Decimal.{Decimal}
use Rattle.whole.specs.Fresh.{fresh}
use Rattle.whole.specs.Limits.{CountsWithin}
use Rattle.whole.specs.Count.{longer_up_to, bounded, with_digit, with_place, counted}
use Rattle.whole.proofs.KeptLaws.{rest-of-digit}

-- nothing is counted
pub counts-fresh : (p : ℕ) → CountsWithin p fresh
counts-fresh p = record { zeros = omega arith; places = omega arith; exponent = omega arith }

-- more bytes, of which none is counted
pub counts-later : {p q : ℕ} {d : Decimal} → p ≤ q → CountsWithin p d → CountsWithin q d
counts-later h f = record { zeros = omega (arith, f.zeros); places = omega (arith, f.places); exponent = f.exponent }

-- ---- which bytes lead to the digits of an exponent

-- a byte that leads to mode n, where n is that of these digits, is a digit
abbrev pub DigitIn : NumberMode → ℕ → Type 0
DigitIn N.Minus b = Unit {0}
DigitIn N.Zero b = Unit {0}
DigitIn N.Int b = Unit {0}
DigitIn N.Dot b = Unit {0}
DigitIn N.Frac b = Unit {0}
DigitIn N.E b = Unit {0}
DigitIn N.Sign b = Unit {0}
DigitIn N.Exp b = b ≤ 0x39

-- a byte of which the lexer makes a move
abbrev pub DigitBy : NumberMove → ℕ → Type 0
DigitBy NM.Fault b = Unit {0}
DigitBy (NM.Go n) b = DigitIn n b
DigitBy NM.End b = Unit {0}

module _ (b : ℕ) where
  abbrev Q : NumberMove → Type 0
  Q k = DigitBy k b

  digit-high : T (is_digit b) → b ≤ 0x39
  unfolding is_digit
  digit-high h = high-of-within 0x30 0x39 b h

  digit-or_exp : Q (or_exp b)
  unfolding or_exp
  digit-or_exp = cond-elim Q (is_e b) (λ _. tt) (λ _. tt)

  digit-after_zero : Q (after_zero b)
  unfolding after_zero
  digit-after_zero = cond-elim Q (eqb b 0x2E) (λ _. tt) (λ _. digit-or_exp)

  pub digit-of-move : (n : NumberMode) → DigitBy (number_move n b) b
  unfolding after_minus after_int after_frac after_e after_exp digit_only
  digit-of-move N.Minus = cond-elim Q (is_digit_1_9 b) (λ _. tt) (λ _. cond-elim Q (eqb b 0x30) (λ _. tt) (λ _. tt))
  digit-of-move N.Zero = digit-after_zero
  digit-of-move N.Int = cond-elim Q (is_digit b) (λ _. tt) (λ _. digit-after_zero)
  digit-of-move N.Dot = cond-elim Q (is_digit b) (λ _. tt) (λ _. tt)
  digit-of-move N.Frac = cond-elim Q (is_digit b) (λ _. tt) (λ _. digit-or_exp)
  digit-of-move N.E =
      cond-elim Q (is_digit b) digit-high (λ _. cond-elim Q (eqb b 0x2B) (λ _. tt) (λ _. cond-elim Q (eqb b 0x2D) (λ _. tt) (λ _. tt)))
  digit-of-move N.Sign = cond-elim Q (is_digit b) digit-high (λ _. tt)
  digit-of-move N.Exp = cond-elim Q (is_digit b) digit-high (λ _. tt)

-- ---- one byte

bump-le : (n : ℕ) → bump n ≤ n + 1
unfolding bump
bump-le n = cond-elim (λ (k : ℕ). k ≤ n + 1) (ltb n 4294967295) (λ _. omega arith) (λ _. omega arith)

-- an exponent takes a digit only where it is not past the longest record
longer-or-same : (e b : ℕ) → b ≤ 0x39 → (longer_up_to e (b - 0x30) ≤ 10 * 16777216 + 9) ⊎ (longer_up_to e (b - 0x30) ≡ e)
unfolding longer_up_to
longer-or-same e b h =
    cond-elim (λ (k : ℕ). (k ≤ 10 * 16777216 + 9) ⊎ (k ≡ e)) (leb e 16777216) (λ t. let s = leb→le e 16777216 t in inl (omega arith)) (λ _. inr refl)

module _ (b p : ℕ) (d : Decimal) (h : p < 16777216) (f : CountsWithin p d) where
  counts-next : CountsWithin (p + 1) d
  counts-next = counts-later (omega arith) f

  -- one 0 more at the end, or none
  counts-digit : CountsWithin (p + 1) (with_digit bounded d b)
  unfolding with_digit
  counts-digit =
      cond-elim (λ (x : Decimal). CountsWithin (p + 1) x) (eqb b 0x30)
      (λ _. record { zeros = omega (arith, bump-le d.zeros, f.zeros); places = counts-next.places; exponent = f.exponent })
      (λ _. record { zeros = omega arith; places = counts-next.places; exponent = f.exponent })

  counts-place : CountsWithin (p + 1) (with_place bounded (with_digit bounded d b))
  counts-place =
      let x = with_digit bounded d b in
      record {
        zeros = counts-digit.zeros;
        places = omega (arith, bump-le x.places, (rest-of-digit bounded d b).places, f.places);
        exponent = counts-digit.exponent;
      }

  -- the counts after a byte that leads to mode n
  pub counts-byte : (n : NumberMode) → DigitIn n b → CountsWithin (p + 1) (counted bounded n d b)
  counts-byte N.Minus c = counts-next
  counts-byte N.Zero c = counts-digit
  counts-byte N.Int c = counts-digit
  counts-byte N.Dot c = counts-next
  counts-byte N.Frac c = counts-place
  counts-byte N.E c = counts-next
  counts-byte N.Sign c = record { zeros = counts-next.zeros; places = counts-next.places; exponent = f.exponent }
  counts-byte N.Exp c =
      record {
        zeros = counts-next.zeros;
        places = counts-next.places;
        exponent = ⊎_elim (λ l. omega (arith, l)) (λ q. omega (arith, q, f.exponent)) (longer-or-same d.exponent b c);
      }
