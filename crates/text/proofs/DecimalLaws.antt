-- Decimal digits mean the number that they were made of, and have no leading zero: `number-of-decimal`, `decimal-is-number`. Assumes nothing.
use mathlib.Core.Bool.{Bool, true, false, ◌&&◌, ◌||◌, not}
use mathlib.Core.List.{List, [], ◌∷◌}
use mathlib.Core.Path.{◌≡◌, refl}
use Prim.Native.Nat.{ℕ, zero, suc, ◌<◌}
use lib.Dec.{eqb}
use native.Mathlib.Omega.{arith}
use lib.ListN.{length, get_or}
use borrow.Author.Tests.{ne_eqb}
use Rattle.std.proofs.Common.{rules}
use Rattle.std.specs.Fmt.{decimal}
use Rattle.std.proofs.lemmas.Str.Parse.{IsNumeralModel, numerals_by_fold}
use Rattle.std.proofs.lemmas.Fmt.{digits_decimal, digits_value-decimal, decimal_digit, decimal_nonempty, first_decimal}
use Rattle.laws.specs.Lists.{all}
use Rattle.book.specs.Text as Text
use Rattle.book.specs.Text.{is_digit, is_empty, is_number, number_from, number}

own : IsNumeralModel (λ ds. all is_digit ds ≡ true) (number_from 0)
unfolding all number_from Text.between
own = numerals_by_fold _ (search rules) number_from (search rules)

-- what the digits of a number of 64 bits mean, by the reading of a book's numbers
pub number-of-decimal : (n : ℕ) → n < 18446744073709551616 → number (decimal n) ≡ n
unfolding number
number-of-decimal n h = digits_value-decimal own n h

is-number : (ds : List ℕ) → 0 < length ds → 48 < get_or ds 0 0 → all is_digit ds ≡ true → is_number ds ≡ true
unfolding is_number all
is-number [] p q e = absurd (omega (arith, p))
is-number (d ∷ s) p q e = go (is_digit d) e
  where
    go : (x : Bool) → (x && all is_digit s) ≡ true → (x && (all is_digit s && (not (eqb d 48) || is_empty s))) ≡ true
    go true a = rw (a, ne_eqb d 48 (λ i. omega (arith, q, i)))
    go false a = a

-- the decimal digits of a number are a number as a book writes it: no leading zero
pub decimal-is-number : (n : ℕ) → n < 18446744073709551616 → is_number (decimal n) ≡ true
unfolding is_number Text.between all is_empty
decimal-is-number n h = go n refl
  where
    go : (k : ℕ) → n ≡ k → is_number (decimal n) ≡ true
    go zero e = rw (e, decimal_digit 0 (omega arith)) refl
    go (suc k) e = is-number (decimal n) (decimal_nonempty n h) (first_decimal n (omega (arith, e)) h) (digits_decimal own n h)
