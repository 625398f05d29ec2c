-- A line with a point: two whole numbers with blanks between them, and blanks at either end if any: REQUIREMENT.md, section 9. Stated. Assumes nothing.
use Rattle.std.specs.Prelude.{Bool, false, not, cond, ◌||◌, List, [], ◌∷◌, ℕ, ◌-◌, eqb, leb, ℤ, pos, neg_ℤ, length, get_or, take, drop, Option, Some, None}
use Rattle.std.specs.Bool.{then_some}
use Rattle.std.specs.Option.{option_map}
use Rattle.std.specs.List.{position_or_len}
use Rattle.laws.specs.Lists.{all}
use Rattle.json_text.specs.Numbers.{is_digit}
use Rattle.coordinate.specs.Coordinate.{value_from}
use Rattle.geometry.specs.declared.Point.{Point}

-- ---- blanks and words

-- a space or a tab
unfoldable pub is_blank : ℕ → Bool
is_blank b = eqb b 0x20 || eqb b 0x09

-- how many blanks stand at the start, and how many other bytes
unfoldable pub blanks : List ℕ → ℕ
blanks s = position_or_len (λ b. not (is_blank b)) s

unfoldable pub word_len : List ℕ → ℕ
word_len s = position_or_len is_blank s

-- what follows the blanks at the start
unfoldable pub after_blanks : List ℕ → List ℕ
after_blanks s = drop (blanks s) s

-- the bytes before the first blank
unfoldable pub word : List ℕ → List ℕ
word s = take (word_len s) s

-- the first blank and what follows it
unfoldable pub after_word : List ℕ → List ℕ
after_word s = drop (word_len s) s

-- a CR at the end of a line is no part of it
unfoldable pub without_cr : List ℕ → List ℕ
without_cr s = cond (eqb (get_or s (length s - 1) 0) 0x0D) (take (length s - 1) s) s

-- ---- whole numbers

-- one or more digits
unfoldable pub has_some_digits : List ℕ → Bool
has_some_digits [] = false
has_some_digits (d ∷ ds) = all is_digit (d ∷ ds)

-- 2,000,000 stands for every number beyond 1,000,000: each is out of range
unfoldable pub bounded : ℕ → ℕ
bounded v = cond (leb v 1000000) v 2000000

-- digits alone
unfoldable pub unsigned : List ℕ → Option ℤ
unsigned ds = then_some (has_some_digits ds) (pos (bounded (value_from 0 ds)))

-- digits, after a minus sign or alone
unfoldable pub number_of : List ℕ → Option ℤ
number_of [] = None
number_of (b ∷ ds) = cond (eqb b 0x2D) (option_map neg_ℤ (unsigned ds)) (unsigned (b ∷ ds))

-- ---- points

unfoldable pub both : Option ℤ → Option ℤ → Option Point
both (Some x) (Some y) = Some (record { x = x; y = y })
both (Some x) None = None
both None n = None

-- a point where the end is empty
unfoldable pub ended : List ℕ → Option Point → Option Point
ended [] p = p
ended (b ∷ s) p = None

-- blanks, a number, blanks, a number, blanks
unfoldable pub point_from : List ℕ → Option Point
point_from first =
    let second : List ℕ = after_blanks (after_word first) in
    ended (after_blanks (after_word second)) (both (number_of (word first)) (number_of (word second)))

unfoldable pub point_of : List ℕ → Option Point
point_of s = point_from (after_blanks (without_cr s))
