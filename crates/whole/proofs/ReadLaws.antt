-- The reading byte by byte finds the whole numbers of the grammar: `whole-of-read`, `read-of-whole`, `whole-iff-read`. Assumes nothing.
use mathlib.Core.List.{List, [], ◌∷◌, ◌++◌}
use mathlib.Core.Logic.{◌↔◌}
use Prim.Native.Nat.{ℕ}
use lib.Dec.{T}
use lib.ListN.{length}
use Rattle.laws.proofs.TestLaws.{T_and, T-and-left, T-and-right, cond-elim, cond_byte}
use Rattle.json_text.specs.Meaning.{fold}
use Rattle.json_text.specs.Numbers.{is_digit_1_9, Minus, Int, Frac, Exp, Number, number}
use Rattle.json_text.specs.Lexer.{may_end}
use Rattle.json_text.specs.declared.number.NumberMode.{NumberMode}
use Rattle.json_text.specs.declared.number.NumberMove.{NumberMove}
use Rattle.json_text.proofs.NumberLaws.{NumberFrom, ends-here, goes_on, Begun, begun, starts-minus, starts-zero, starts-int, Moved, moved-fault, moved-end}
use Rattle.json_text.proofs.NumberLaws.{moved-go, moved, number-of-from}
use Rattle.whole.specs.declared.Decimal.{Decimal}
use Rattle.whole.specs.Count.{unbounded, counted, is_whole}
use Rattle.whole.specs.Read.{Read, unread, reads, broken, begins, reading_on, read_byte, reads_whole}
use Rattle.whole.specs.Whole.{shown, digits_of, Exponent, exponent_of, WholeValue, Whole, whole}
use Rattle.whole.proofs.EndLaws.{value-of-test, test-of-value}
use Rattle.whole.proofs.PartLaws.{reaches, ReadAll, read_all, read_number}

-- ---- what is read as a number is one

-- what is no beginning of a number stays none
broken-stays : (s : List ℕ) → T (reads_whole (fold (read_byte unbounded) broken s)) → ⊥
broken-stays [] h = h
broken-stays (b ∷ s) h = broken-stays s h

-- one byte more of what completes a number
from-of-move : {n : NumberMode} {v : NumberMove} (d : Decimal) (b : ℕ) (s : List ℕ) → Moved n b v
    → ((m : NumberMode) (x : Decimal) → T (reads_whole (fold (read_byte unbounded) (reads m x) s)) → NumberFrom m s)
    → T (reads_whole (fold (read_byte unbounded) (reading_on unbounded v d b) s)) → NumberFrom n (b ∷ s)
from-of-move d b s moved-fault f h = absurd (broken-stays s h)
from-of-move d b s (moved-end _) f h = absurd (broken-stays s h)
from-of-move d b s (moved-go {m} g) f h = goes_on g (f m (counted unbounded m d b) h)

-- what completes a number, by the modes
from-of-read : (n : NumberMode) (d : Decimal) (s : List ℕ) → T (reads_whole (fold (read_byte unbounded) (reads n d) s)) → NumberFrom n s
from-of-read n d [] h = ends-here (T-and-left (may_end n) (is_whole d) h)
from-of-read n d (b ∷ s) h = from-of-move d b s (moved n b) (λ m x. from-of-read m x s) h

-- a number from its first byte on
begun-of-read : (ds : List ℕ) → T (reads_whole (fold (read_byte unbounded) unread ds)) → Begun ds
unfolding begins
begun-of-read [] h = absurd h
begun-of-read (b ∷ s) h =
    cond-elim (Says b) (is_digit_1_9 b) (λ q h. begun (starts-int q) (from-of-read _ _ s h))
    (λ _.
    cond_byte Says b 0x30 (λ h. begun starts-zero (from-of-read _ _ s h))
    (cond_byte Says b 0x2D (λ h. begun starts-minus (from-of-read _ _ s h)) (λ h. absurd (broken-stays s h))))
    h
  where
    Says : ℕ → Read → Type 0
    Says c r = T (reads_whole (fold (read_byte unbounded) r s)) → Begun (c ∷ s)

-- ---- the test at the end

-- the test passes what is whole
test-of-all : {r : Read} {m f : ℕ} {x : Exponent} → ReadAll r m f x → WholeValue m f x → T (reads_whole r)
test-of-all (read_all {n} h (reaches {d} q c)) v =
    rw q (T_and (may_end n) (is_whole d) h (test-of-value d c.ended (rw (c.places, c.negative, c.exponent) v)))

-- what the test passes is whole
value-of-all : {r : Read} {m f : ℕ} {x : Exponent} → ReadAll r m f x → T (reads_whole r) → WholeValue m f x
value-of-all (read_all {n} h (reaches {d} q c)) t =
    rw (← c.places, ← c.negative, ← c.exponent) (value-of-test d c.ended (T-and-right (may_end n) (is_whole d) (rw q at t)))

-- a number that passes the test is whole
whole-of-number : {ds : List ℕ} → Number ds → T (reads_whole (fold (read_byte unbounded) unread ds)) → Whole ds
whole-of-number (number p q x y) t = whole p q x y (value-of-all (read_number p q x y) t)

-- bytes that are read as a whole number are one
pub whole-of-read : (ds : List ℕ) → T (reads_whole (fold (read_byte unbounded) unread ds)) → Whole ds
whole-of-read ds t = whole-of-number (number-of-from (begun-of-read ds t)) t

-- each whole number is read as one
pub read-of-whole : {ds : List ℕ} → Whole ds → T (reads_whole (fold (read_byte unbounded) unread ds))
read-of-whole (whole p q x y v) = test-of-all (read_number p q x y) v

-- the reading finds the whole numbers, and nothing else
pub whole-iff-read : (ds : List ℕ) → Whole ds ↔ T (reads_whole (fold (read_byte unbounded) unread ds))
whole-iff-read ds = (read-of-whole, whole-of-read ds)

-- a number is whole by its parts, however it was found to be whole
pub value-of-whole : {m i f e : List ℕ} → Minus m → Int i → (x : Frac f) (y : Exp e) → Whole (m ++ (i ++ (f ++ e)))
    → WholeValue (shown (i ++ digits_of x)) (length (digits_of x)) (exponent_of y)
value-of-whole p q x y w = value-of-all (read_number p q x y) (read-of-whole w)
