-- What is kept of a number while its bytes pass: the zeros at the end of its digits, the digits after the point, the exponent. It is counted without
-- bound and, as a reader does, with bounds. Derived: `whole-iff-read` of `ReadLaws` joins the counts without bound to `Whole`, and `test-of-kept` of
-- `KeptLaws` the bounded ones to them. Assumes nothing.
use Rattle.std.specs.Prelude.{Bool, true, not, cond, ◌||◌, List, [], ◌∷◌, ℕ, zero, suc, ◌+◌, ◌*◌, ◌-◌, eqb, leb, get_or}
use Rattle.laws.specs.Count.{bump}
use Rattle.json_text.specs.declared.number.NumberMode.{NumberMode}
use Rattle.json_text.specs.declared.number.NumberMode.TheVariants as N
use Rattle.whole.specs.declared.Decimal.{Decimal}

-- ---- how to count

-- one more, and an exponent with one digit more
pub record Counting : Type 0 where
  pub more : ℕ → ℕ
  pub longer : ℕ → ℕ → ℕ

-- without bound
abbrev pub unbounded : Counting
unbounded = record { more = λ (n : ℕ). n + 1; longer = λ (e d : ℕ). 10 * e + d }

-- an exponent past the length of the longest record stays as it is
unfoldable pub longer_up_to : ℕ → ℕ → ℕ
longer_up_to e d = cond (leb e 16777216) (10 * e + d) e

-- with bounds
abbrev pub bounded : Counting
bounded = record { more = bump; longer = longer_up_to }

-- ---- one byte

module _ (c : Counting) where
  -- a digit before or after the point
  unfoldable pub with_digit : Decimal → ℕ → Decimal
  with_digit d b =
      cond (eqb b 0x30)
      (record { zeros = c.more d.zeros; places = d.places; exponent = d.exponent; negative = d.negative; nonzero = d.nonzero })
      (record { zeros = 0; places = d.places; exponent = d.exponent; negative = d.negative; nonzero = true })

  -- the digit stands after the point
  abbrev pub with_place : Decimal → Decimal
  with_place d = record { zeros = d.zeros; places = c.more d.places; exponent = d.exponent; negative = d.negative; nonzero = d.nonzero }

  -- a digit of the exponent
  abbrev pub with_exponent : Decimal → ℕ → Decimal
  with_exponent d b =
      record { zeros = d.zeros; places = d.places; exponent = c.longer d.exponent (b - 0x30); negative = d.negative; nonzero = d.nonzero }

  -- byte b leads to mode n of the number
  abbrev pub counted : NumberMode → Decimal → ℕ → Decimal
  counted N.Minus d b = d
  counted N.Zero d b = with_digit d b
  counted N.Int d b = with_digit d b
  counted N.Dot d b = d
  counted N.Frac d b = with_place (with_digit d b)
  counted N.E d b = d
  counted N.Sign d b =
      record { zeros = d.zeros; places = d.places; exponent = d.exponent; negative = eqb b 0x2D; nonzero = d.nonzero }
  counted N.Exp d b = with_exponent d b

  -- the k bytes of s from place i on, each of which leads to mode n
  unfoldable pub counted_from : NumberMode → Decimal → List ℕ → ℕ → ℕ → Decimal
  counted_from n d s i zero = d
  counted_from n d s i (suc k) = counted_from n (counted n d (get_or s i 0)) s (i + 1) k

  -- the bytes of a list, each of which leads to mode n
  abbrev pub counted_all : NumberMode → Decimal → List ℕ → Decimal
  counted_all n d [] = d
  counted_all n d (b ∷ s) = counted_all n (counted n d b) s

-- ---- the test

-- the digits after the point are at most the zeros at the end and the exponent together
unfoldable pub enough : Bool → ℕ → ℕ → ℕ → Bool
enough negative places zeros exponent = cond negative (leb (places + exponent) zeros) (leb places (zeros + exponent))

-- the value is whole: no digit is other than 0, or there are zeros enough
unfoldable pub is_whole : Decimal → Bool
is_whole d = not d.nonzero || enough d.negative d.places d.zeros d.exponent
