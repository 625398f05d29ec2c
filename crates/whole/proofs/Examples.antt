-- The examples hold: what is read of their bytes is computed, and `ReadLaws` carries it to the grammar. Then numbers with as many zeros as one likes.
-- Assumes nothing.
use mathlib.Core.Bool.{Bool, true, false}
use mathlib.Core.List.{List, [], ◌∷◌, ◌++◌, append-nil, map, Memᴰ}
use mathlib.Core.Logic.{inr, ◌↔◌}
use mathlib.Core.Path.{◌≡◌, refl, sym, ◌∙◌}
use Prim.Native.Nat.{ℕ, zero, suc, ◌+◌, ◌*◌, ◌-◌, ◌^◌, ◌≤◌}
use native.Mathlib.Nat.{pow-zero, pow-succ'}
use native.Mathlib.Omega.{arith}
use lib.ListN.{length, replicate, length-replicate}
use Rattle.laws.proofs.TestLaws.{T-of-true, true-neq-false, true-of-T}
use Rattle.laws.proofs.ListLaws.{eq-of-map}
use Rattle.json_text.specs.Bytes.{within}
use Rattle.json_text.specs.Meaning.{fold}
use Rattle.json_text.specs.Numbers.{is_digit, is_digit_1_9, is_e, Digits, no_digits, digits, SomeDigits, some_digits, no_minus, int, no_frac, frac, minus_sign}
use Rattle.json_text.specs.Numbers.{no_exp, exp}
use Rattle.json_text.specs.Lexer.{or_exp, after_minus, after_zero, after_int, after_frac, after_e, after_exp, digit_only}
use Rattle.whole.specs.Count.{with_digit, enough, is_whole, unbounded}
use Rattle.whole.specs.Read.{unread, begins, read_byte, reads_whole}
use Rattle.whole.specs.Whole.{shown_after, shown, Whole, whole}
use Rattle.whole.specs.Examples.{Row, row_whole, row_not_whole, rows}
use Rattle.whole.proofs.EndLaws.{Ends, ends, divides-of-ends, ends-of-divides}
use Rattle.whole.proofs.ReadLaws.{whole-of-read, read-of-whole, value-of-whole}

-- the bytes of a row
abbrev pub bytes : Row → List ℕ
bytes (row_whole p) = p
bytes (row_not_whole p) = p

-- whether a row's bytes are read as a whole number
abbrev pub found : Row → Bool
found x = reads_whole (fold (read_byte unbounded) unread (bytes x))

-- what a row says of the reading
abbrev pub said : Row → Bool
said (row_whole p) = true
said (row_not_whole p) = false

-- what a row says of the grammar
abbrev pub Says : Row → Type 0
Says (row_whole p) = Whole p
Says (row_not_whole p) = Whole p → ⊥

-- the reading finds what each row says
rows-found : map found rows ≡ map said rows
unfolding within is_digit is_digit_1_9 is_e or_exp after_minus after_zero after_int after_frac after_e after_exp digit_only begins with_digit enough is_whole
rows-found = refl

-- what the reading finds is so in the grammar
says-of-found : (x : Row) → found x ≡ said x → Says x
says-of-found (row_whole p) e = whole-of-read p (T-of-true (found (row_whole p)) e)
says-of-found (row_not_whole p) e = λ w. true-neq-false (sym (true-of-T (found (row_not_whole p)) (read-of-whole w)) ∙ e)

-- each row is as it says, for the grammar and for the reading
pub examples : (x : Row) → Memᴰ x rows → Says x × (found x ≡ said x)
examples x i = let e = eq-of-map found said rows rows-found i in (says-of-found x e, e)

-- ---- any number of zeros

-- zeros are digits
digits-zeros : (k : ℕ) → Digits (replicate k 0x30)
unfolding is_digit within
digits-zeros zero = no_digits
digits-zeros (suc k) = digits tt (digits-zeros k)

-- zeros after digits that show v
shown-zeros : (v k : ℕ) → shown_after v (replicate k 0x30) ≡ v * 10 ^ k
unfolding shown_after
shown-zeros v zero = rw pow-zero (omega arith)
shown-zeros v (suc k) = shown-zeros (10 * v + 0) k ∙ rw pow-succ' (omega arith)

-- 1 and k zeros, with an exponent below 0, are whole exactly where the exponent's size is at most k
pub whole-one-zeros : (k : ℕ) {s : List ℕ} → SomeDigits s → Whole (0x31 ∷ (replicate k 0x30 ++ (0x65 ∷ 0x2D ∷ s))) ↔ (shown s ≤ k)
unfolding is_digit_1_9 is_e within shown_after
whole-one-zeros k {s} d = (
  λ w.
      let l = ends-of-divides (0 + shown s) one (value-of-whole no_minus (int tt (digits-zeros k)) no_frac (exp tt minus_sign d) w) in
      omega arith,
  λ h. whole no_minus (int tt (digits-zeros k)) no_frac (exp tt minus_sign d) (divides-of-ends (0 + shown s) one (omega arith)),
)
  where
    one : Ends (shown_after 1 (replicate k 0x30 ++ [])) k true
    one = ends 0 1 (omega arith) (omega arith) (sym (rw append-nil (shown-zeros 1 k)))

-- 1, the point and k + 1 zeros are whole
pub whole-one-places : (k : ℕ) → Whole (0x31 ∷ 0x2E ∷ replicate (suc k) 0x30)
unfolding is_digit is_digit_1_9 within shown_after
whole-one-places k =
    rw (← append-nil {A = ℕ} (replicate k 0x30))
    (whole no_minus (int tt no_digits) (frac (some_digits {d = 0x30} tt (digits-zeros k))) no_exp (inr (divides-of-ends _ ten few)))
  where
    few : suc (length (replicate {A = ℕ} k 0x30)) - 0 ≤ suc k
    few = omega (arith, length-replicate {A = ℕ} k 0x30)

    ten : Ends (shown_after 10 (replicate k 0x30)) (suc k) true
    ten = ends 0 1 (omega arith) (omega arith) (rw pow-succ' (omega (arith, shown-zeros 10 k)))
