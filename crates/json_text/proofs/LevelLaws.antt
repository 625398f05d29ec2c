-- The machine's stack is the list of open levels: `depth-of-run`. What the scan of brackets knows can be read off the machine's state, and a
-- step that is no fault keeps it so. Assumes nothing.
use mathlib.Core.Bool.{Bool, true, false, ◌||◌}
use mathlib.Core.List.{List, [], ◌∷◌}
use mathlib.Core.Path.{◌≡◌, refl, sym, ◌∙◌, ap}
use Prim.Native.Nat.{ℕ, zero, suc, ◌+◌, ◌-◌, ◌≤◌, ◌<◌}
use native.Mathlib.Omega.{arith}
use lib.Dec.{T, eqb, ltb, eqb→eq, ltb→lt}
use lib.ListN.{length, get_or}
use borrow.Author.Tests.{ne_eqb}
use Rattle.laws.proofs.TestLaws.{T-or-elim, cond-elim, cond_byte, true-neq-false}
use Rattle.json_text.specs.Bytes.{within, is_blank}
use Rattle.json_text.specs.Numbers.{is_digit, is_digit_1_9, is_e}
use Rattle.json_text.specs.Strings.{is_unescaped, Hex, hex_digit, hex_upper, hex_lower}
use Rattle.json_text.specs.Meaning.{Meaning}
use Rattle.json_text.specs.Grammar.{spelling}
use Rattle.json_text.specs.Levels.{is_opening, is_closing, Scan, outside, in_string, in_escape, scan_byte, scan, levels_of, open_levels}
use Rattle.json_text.specs.Lexer.{letter_move, word_of, value_start, at_value, at_first_element, at_first_key, at_key, at_colon, after_root, after_element, after_pair, after_value, key_step, text_step, number_step, word_step}
use Rattle.json_text.specs.Machine.{Stack, bare, whole, in_array, in_object, top_of, depth, finish, Token, State, fault, at, start, take, step, run, is_fault, depth_of}
use Rattle.json_text.specs.declared.string.StringMode.{StringMode}
use Rattle.json_text.specs.declared.string.StringMode.TheVariants as S
use Rattle.json_text.specs.declared.string.StringMove.{StringMove}
use Rattle.json_text.specs.declared.number.NumberMode.{NumberMode}
use Rattle.json_text.specs.declared.number.NumberMove.{NumberMove}
use Rattle.json_text.specs.declared.word.Word.{Word}
use Rattle.json_text.specs.declared.word.Word.TheVariants as W
use Rattle.json_text.specs.declared.word.WordMove.{WordMove}
use Rattle.json_text.specs.declared.lexer.Awaited.{Awaited}
use Rattle.json_text.specs.declared.lexer.Awaited.TheVariants as P
use Rattle.json_text.specs.declared.lexer.Mode.{Mode}
use Rattle.json_text.specs.declared.lexer.Mode.TheVariants as M
use Rattle.json_text.specs.declared.lexer.Step.{Step}
use Rattle.json_text.proofs.ByteLaws.{low-of-within, high-of-within, blank-elim, at_byte}
use Rattle.json_text.proofs.NumberLaws as Number
use Rattle.json_text.proofs.StringLaws as String
use Rattle.json_text.proofs.Accepted.{ends-none, top_of-finish}
use Rattle.json_text.specs.Proper.{ProperAt, Proper}
use Rattle.json_text.proofs.ProperLaws.{proper-step}

-- ---- bytes that open and close nothing

outside-stays : (n b : ℕ) → (b ≡ 0x22 → ⊥) → (b ≡ 0x5B → ⊥) → (b ≡ 0x7B → ⊥) → (b ≡ 0x5D → ⊥) → (b ≡ 0x7D → ⊥) → scan_byte (outside n) b ≡ outside n
unfolding scan_byte is_opening is_closing
outside-stays n b q x y z w = simp (ne_eqb b 0x22 q, ne_eqb b 0x5B x, ne_eqb b 0x7B y, ne_eqb b 0x5D z, ne_eqb b 0x7D w)

in-string-stays : (n b : ℕ) → (b ≡ 0x22 → ⊥) → (b ≡ 0x5C → ⊥) → scan_byte (in_string n) b ≡ in_string n
unfolding scan_byte
in-string-stays n b q x = simp (ne_eqb b 0x22 q, ne_eqb b 0x5C x)

outside_below : (n b : ℕ) → 0x23 ≤ b → b ≤ 0x5A → scan_byte (outside n) b ≡ outside n
outside_below n b l h = outside-stays n b (λ e. omega arith) (λ e. omega arith) (λ e. omega arith) (λ e. omega arith) (λ e. omega arith)

blank-outside : (n b : ℕ) → T (is_blank b) → scan_byte (outside n) b ≡ outside n
unfolding scan_byte is_opening is_closing
blank-outside n b h = blank-elim (λ (x : ℕ). scan_byte (outside n) x ≡ outside n) refl refl refl refl b h

digit-outside : (n b : ℕ) → T (is_digit b) → scan_byte (outside n) b ≡ outside n
unfolding is_digit
digit-outside n b h = outside_below n b (omega (arith, low-of-within 0x30 0x39 b h)) (omega (arith, high-of-within 0x30 0x39 b h))

digit1-9-outside : (n b : ℕ) → T (is_digit_1_9 b) → scan_byte (outside n) b ≡ outside n
unfolding is_digit_1_9
digit1-9-outside n b h = outside_below n b (omega (arith, low-of-within 0x31 0x39 b h)) (omega (arith, high-of-within 0x31 0x39 b h))

e-outside : (n b : ℕ) → T (is_e b) → scan_byte (outside n) b ≡ outside n
unfolding is_e scan_byte is_opening is_closing
e-outside n b =
    let Q : ℕ → Type 0 = λ x. scan_byte (outside n) x ≡ outside n in
    T-or-elim (eqb b 0x65) (eqb b 0x45) (at_byte Q b 0x65 refl) (at_byte Q b 0x45 refl)

number-outside : {n m : NumberMode} {b : ℕ} (d : ℕ) → Number.Goes n b m → scan_byte (outside d) b ≡ outside d
unfolding scan_byte is_opening is_closing
number-outside d (Number.minus-int {b} h) = digit1-9-outside d b h
number-outside d Number.minus-zero = refl
number-outside d Number.zero-dot = refl
number-outside d (Number.zero-e {b} h) = e-outside d b h
number-outside d (Number.int-digit {b} h) = digit-outside d b h
number-outside d Number.int-dot = refl
number-outside d (Number.int-e {b} h) = e-outside d b h
number-outside d (Number.dot-digit {b} h) = digit-outside d b h
number-outside d (Number.frac-digit {b} h) = digit-outside d b h
number-outside d (Number.frac-e {b} h) = e-outside d b h
number-outside d (Number.e-digit {b} h) = digit-outside d b h
number-outside d Number.e-plus = refl
number-outside d Number.e-minus = refl
number-outside d (Number.sign-digit {b} h) = digit-outside d b h
number-outside d (Number.exp-digit {b} h) = digit-outside d b h

letter-outside : (d : ℕ) (w : Word) (i : ℕ) → i < length (spelling (word_of w)) → scan_byte (outside d) (get_or (spelling (word_of w)) i 0) ≡ outside d
unfolding spelling scan_byte is_opening is_closing
letter-outside d W.Null zero h = refl
letter-outside d W.Null (suc zero) h = refl
letter-outside d W.Null (suc (suc zero)) h = refl
letter-outside d W.Null (suc (suc (suc zero))) h = refl
letter-outside d W.Null (suc (suc (suc (suc i)))) h = absurd (omega arith)
letter-outside d W.True zero h = refl
letter-outside d W.True (suc zero) h = refl
letter-outside d W.True (suc (suc zero)) h = refl
letter-outside d W.True (suc (suc (suc zero))) h = refl
letter-outside d W.True (suc (suc (suc (suc i)))) h = absurd (omega arith)
letter-outside d W.False zero h = refl
letter-outside d W.False (suc zero) h = refl
letter-outside d W.False (suc (suc zero)) h = refl
letter-outside d W.False (suc (suc (suc zero))) h = refl
letter-outside d W.False (suc (suc (suc (suc zero)))) h = refl
letter-outside d W.False (suc (suc (suc (suc (suc i))))) h = absurd (omega arith)

-- ---- strings

-- after a backslash, or not
string_scan : StringMode → ℕ → Scan
string_scan S.Char n = in_string n
string_scan S.Escape n = in_escape n
string_scan S.Unit1 n = in_string n
string_scan S.Unit2 n = in_string n
string_scan S.UnitD n = in_string n
string_scan S.Unit3 n = in_string n
string_scan S.Unit4 n = in_string n
string_scan S.High3 n = in_string n
string_scan S.High4 n = in_string n
string_scan S.LowBackslash n = in_string n
string_scan S.LowU n = in_escape n
string_scan S.Low1 n = in_string n
string_scan S.Low2 n = in_string n
string_scan S.Low3 n = in_string n
string_scan S.Low4 n = in_string n
string_scan S.SecondC2 n = in_string n
string_scan S.SecondE0 n = in_string n
string_scan S.SecondE1 n = in_string n
string_scan S.SecondED n = in_string n
string_scan S.SecondEE n = in_string n
string_scan S.SecondF0 n = in_string n
string_scan S.SecondF1 n = in_string n
string_scan S.SecondF4 n = in_string n
string_scan S.Tail2 n = in_string n
string_scan S.Tail1 n = in_string n

above-in-string : (n lo hi b : ℕ) → 0x80 ≤ lo → T (within lo hi b) → scan_byte (in_string n) b ≡ in_string n
above-in-string n lo hi b p h = let l = low-of-within lo hi b h in in-string-stays n b (λ e. omega arith) (λ e. omega arith)

hex-in-string : (n : ℕ) {b h : ℕ} → Hex b h → scan_byte (in_string n) b ≡ in_string n
hex-in-string n (hex_digit {b} h) = let g = high-of-within 0x30 0x39 b h in let l = low-of-within 0x30 0x39 b h in in-string-stays n b (λ e. omega arith) (λ e. omega arith)
hex-in-string n (hex_upper {b} h) = let g = high-of-within 0x41 0x46 b h in let l = low-of-within 0x41 0x46 b h in in-string-stays n b (λ e. omega arith) (λ e. omega arith)
hex-in-string n (hex_lower {b} h) = let l = low-of-within 0x61 0x66 b h in in-string-stays n b (λ e. omega arith) (λ e. omega arith)

unescaped-in-string : (n b : ℕ) → T (is_unescaped b) → scan_byte (in_string n) b ≡ in_string n
unfolding is_unescaped
unescaped-in-string n b =
    T-or-elim (within 0x20 0x21 b || within 0x23 0x5B b) (within 0x5D 0x7F b)
    (T-or-elim (within 0x20 0x21 b) (within 0x23 0x5B b)
    (λ h. let g = high-of-within 0x20 0x21 b h in in-string-stays n b (λ e. omega arith) (λ e. omega arith))
    (λ h. let l = low-of-within 0x23 0x5B b h in let g = high-of-within 0x23 0x5B b h in in-string-stays n b (λ e. omega arith) (λ e. omega arith)))
    (λ h. let l = low-of-within 0x5D 0x7F b h in in-string-stays n b (λ e. omega arith) (λ e. omega arith))

goes-in-string : {m n : StringMode} {b : ℕ} (d : ℕ) → String.Goes m b n → scan_byte (string_scan m d) b ≡ string_scan n d
unfolding string_scan scan_byte
goes-in-string d String.backslash = refl
goes-in-string d (String.lead-C2 {b} h) = above-in-string d 0xC2 0xDF b (omega arith) h
goes-in-string d String.lead-E0 = refl
goes-in-string d (String.lead-E1 {b} h) = above-in-string d 0xE1 0xEC b (omega arith) h
goes-in-string d String.lead-ED = refl
goes-in-string d (String.lead-EE {b} h) = above-in-string d 0xEE 0xEF b (omega arith) h
goes-in-string d String.lead-F0 = refl
goes-in-string d (String.lead-F1 {b} h) = above-in-string d 0xF1 0xF3 b (omega arith) h
goes-in-string d String.lead-F4 = refl
goes-in-string d (String.second-E0 {b} h) = above-in-string d 0xA0 0xBF b (omega arith) h
goes-in-string d (String.second-E1 {b} h) = above-in-string d 0x80 0xBF b (omega arith) h
goes-in-string d (String.second-ED {b} h) = above-in-string d 0x80 0x9F b (omega arith) h
goes-in-string d (String.second-EE {b} h) = above-in-string d 0x80 0xBF b (omega arith) h
goes-in-string d (String.second-F0 {b} h) = above-in-string d 0x90 0xBF b (omega arith) h
goes-in-string d (String.second-F1 {b} h) = above-in-string d 0x80 0xBF b (omega arith) h
goes-in-string d (String.second-F4 {b} h) = above-in-string d 0x80 0x8F b (omega arith) h
goes-in-string d (String.tail-2 {b} h) = above-in-string d 0x80 0xBF b (omega arith) h
goes-in-string d String.letter-u = refl
goes-in-string d (String.digit-1 h e) = hex-in-string d h
goes-in-string d (String.digit-1_d h) = hex-in-string d h
goes-in-string d (String.digit-2 h) = hex-in-string d h
goes-in-string d (String.digit-2-below h l) = hex-in-string d h
goes-in-string d (String.digit-2-high h l g) = hex-in-string d h
goes-in-string d (String.digit-3 h) = hex-in-string d h
goes-in-string d (String.high-3 h) = hex-in-string d h
goes-in-string d (String.high-4 h) = hex-in-string d h
goes-in-string d String.low-backslash = refl
goes-in-string d String.low-u = refl
goes-in-string d (String.low-1 h) = hex-in-string d h
goes-in-string d (String.low-2 h l) = hex-in-string d h
goes-in-string d (String.low-3 h) = hex-in-string d h

ends-in-string : {m : StringMode} {b : ℕ} (d : ℕ) → String.Ends m b → scan_byte (string_scan m d) b ≡ in_string d
unfolding string_scan scan_byte
ends-in-string d (String.plain {b} h) = unescaped-in-string d b h
ends-in-string d (String.after-backslash x) = refl
ends-in-string d (String.digit-4 h) = hex-in-string d h
ends-in-string d (String.low-4 h) = hex-in-string d h
ends-in-string d (String.second-C2 {b} h) = above-in-string d 0x80 0xBF b (omega arith) h
ends-in-string d (String.tail-1 {b} h) = above-in-string d 0x80 0xBF b (omega arith) h

string-levels : (m : StringMode) (n : ℕ) → levels_of (string_scan m n) ≡ n
unfolding string_scan
string-levels S.Char n = refl
string-levels S.Escape n = refl
string-levels S.Unit1 n = refl
string-levels S.Unit2 n = refl
string-levels S.UnitD n = refl
string-levels S.Unit3 n = refl
string-levels S.Unit4 n = refl
string-levels S.High3 n = refl
string-levels S.High4 n = refl
string-levels S.LowBackslash n = refl
string-levels S.LowU n = refl
string-levels S.Low1 n = refl
string-levels S.Low2 n = refl
string-levels S.Low3 n = refl
string-levels S.Low4 n = refl
string-levels S.SecondC2 n = refl
string-levels S.SecondE0 n = refl
string-levels S.SecondE1 n = refl
string-levels S.SecondED n = refl
string-levels S.SecondEE n = refl
string-levels S.SecondF0 n = refl
string-levels S.SecondF1 n = refl
string-levels S.SecondF4 n = refl
string-levels S.Tail2 n = refl
string-levels S.Tail1 n = refl

-- ---- the machine

scan_at : Mode → ℕ → Scan
scan_at (M.At p) n = outside n
scan_at (M.Key s) n = string_scan s n
scan_at (M.Text s) n = string_scan s n
scan_at (M.Number x) n = outside n
scan_at (M.Word w i) n = outside n

module _ (𝕄 : Meaning) where
  open 𝕄 use {Result, of_number, of_array, of_object}

  -- what the scan of the bytes so far knows
  scan_of : State 𝕄 → Scan
  scan_of fault = outside 0
  scan_of (at m g k) = scan_at m (depth 𝕄 k)

  -- a state after byte b, where the scan stood at x
  abbrev Kept : Scan → ℕ → State 𝕄 → Type 0
  Kept x b q = is_fault 𝕄 q ≡ false → scan_byte x b ≡ scan_of q

  depth-finish : (v : Result) (k : Stack 𝕄) → depth 𝕄 (finish 𝕄 v k) ≡ depth 𝕄 k
  depth-finish v bare = refl
  depth-finish v (whole w) = refl
  depth-finish v (in_array a k) = refl
  depth-finish v (in_object o k) = refl

  opened : (n : ℕ) → outside (n + 1) ≡ outside (suc n)
  opened n = let e : n + 1 ≡ suc n = omega arith in rw e

  closed : (v : Result) (k : Stack 𝕄) → outside (suc (depth 𝕄 k) - 1) ≡ outside (depth 𝕄 (finish 𝕄 v k))
  closed v k = rw (depth-finish v k) (let e : suc (depth 𝕄 k) - 1 ≡ depth 𝕄 k = omega arith in rw e)

  module _ (g : Token 𝕄) where
    start-kept : (k : Stack 𝕄) (b : ℕ) → Kept (outside (depth 𝕄 k)) b (take 𝕄 (value_start b) 0 b g g k)
    unfolding value_start scan_of scan_at string_scan scan_byte is_opening is_closing
    start-kept k b =
        let Q : ℕ → Step → Type 0 = λ b st. Kept (outside (depth 𝕄 k)) b (take 𝕄 st 0 b g g k) in
        cond_byte Q b 0x22 (λ _. refl) (cond_byte Q b 0x5B (λ _. opened (depth 𝕄 k)) (cond_byte Q b 0x7B (λ _. opened (depth 𝕄 k))
        (cond-elim (Q b) (is_digit_1_9 b) (λ h _. digit1-9-outside (depth 𝕄 k) b h) (λ _.
        cond_byte Q b 0x30 (λ _. refl) (cond_byte Q b 0x2D (λ _. refl) (cond_byte Q b 0x6E (λ _. refl) (cond_byte Q b 0x74 (λ _. refl)
        (cond_byte Q b 0x66 (λ _. refl) true-neq-false))))))))

    after_kept : (k : Stack 𝕄) (b : ℕ) → Kept (outside (depth 𝕄 k)) b (take 𝕄 (after_value (top_of 𝕄 k) b) 0 b g g k)
    unfolding after_root after_element after_pair scan_of scan_at scan_byte is_opening is_closing
    after_kept bare b = cond-elim (λ st. Kept (outside 0) b (take 𝕄 st 0 b g g bare)) (is_blank b) (λ h _. blank-outside 0 b h) (λ _. true-neq-false)
    after_kept (whole w) b =
        cond-elim (λ st. Kept (outside 0) b (take 𝕄 st 0 b g g (whole w))) (is_blank b) (λ h _. blank-outside 0 b h) (λ _. true-neq-false)
    after_kept (in_array a k) b =
        let Q : ℕ → Step → Type 0 = λ b st. Kept (outside (suc (depth 𝕄 k))) b (take 𝕄 st 0 b g g (in_array a k)) in
        cond-elim (Q b) (is_blank b) (λ h _. blank-outside (suc (depth 𝕄 k)) b h) (λ _.
        cond_byte Q b 0x2C (λ _. refl) (cond_byte Q b 0x5D (λ _. closed (of_array a) k) true-neq-false))
    after_kept (in_object o k) b =
        let Q : ℕ → Step → Type 0 = λ b st. Kept (outside (suc (depth 𝕄 k))) b (take 𝕄 st 0 b g g (in_object o k)) in
        cond-elim (Q b) (is_blank b) (λ h _. blank-outside (suc (depth 𝕄 k)) b h) (λ _.
        cond_byte Q b 0x2C (λ _. refl) (cond_byte Q b 0x7D (λ _. closed (of_object o) k) true-neq-false))

    place_kept : (p : Awaited) (k : Stack 𝕄) (b : ℕ) → ProperAt 𝕄 (M.At p) k → Kept (outside (depth 𝕄 k)) b (step 𝕄 (at (M.At p) g k) b)
    unfolding step at_value at_first_element at_first_key at_key at_colon scan_of scan_at string_scan scan_byte is_opening is_closing
    place_kept P.Value k b h =
        cond-elim (λ st. Kept (outside (depth 𝕄 k)) b (take 𝕄 st 0 b g g k)) (is_blank b) (λ h _. blank-outside (depth 𝕄 k) b h) (λ _. start-kept k b)
    place_kept P.First bare b h = absurd h
    place_kept P.First (whole w) b h = absurd h
    place_kept P.First (in_array a k) b h =
        let Q : ℕ → Step → Type 0 = λ b st. Kept (outside (suc (depth 𝕄 k))) b (take 𝕄 st 0 b g g (in_array a k)) in
        cond-elim (Q b) (is_blank b) (λ h _. blank-outside (suc (depth 𝕄 k)) b h) (λ _.
        cond_byte Q b 0x5D (λ _. closed (of_array a) k) (start-kept (in_array a k) b))
    place_kept P.First (in_object o k) b h =
        let Q : ℕ → Step → Type 0 = λ b st. Kept (outside (suc (depth 𝕄 k))) b (take 𝕄 st 0 b g g (in_object o k)) in
        cond-elim (Q b) (is_blank b) (λ h _. blank-outside (suc (depth 𝕄 k)) b h) (λ _.
        cond_byte Q b 0x7D (λ _. closed (of_object o) k) (cond_byte Q b 0x22 (λ _. refl) true-neq-false))
    place_kept P.Key k b h =
        let Q : ℕ → Step → Type 0 = λ b st. Kept (outside (depth 𝕄 k)) b (take 𝕄 st 0 b g g k) in
        cond-elim (Q b) (is_blank b) (λ h _. blank-outside (depth 𝕄 k) b h) (λ _. cond_byte Q b 0x22 (λ _. refl) true-neq-false)
    place_kept P.Colon k b h =
        let Q : ℕ → Step → Type 0 = λ b st. Kept (outside (depth 𝕄 k)) b (take 𝕄 st 0 b g g k) in
        cond-elim (Q b) (is_blank b) (λ h _. blank-outside (depth 𝕄 k) b h) (λ _. cond_byte Q b 0x3A (λ _. refl) true-neq-false)
    place_kept P.After k b h = after_kept k b

    text-kept : {m : StringMode} {b : ℕ} {y : StringMove} (k : Stack 𝕄) (c : ℕ) (e : Token 𝕄) → String.Moved m b y
        → Kept (string_scan m (depth 𝕄 k)) b (take 𝕄 (text_step y) c b g e k)
    unfolding scan_of scan_at string_scan scan_byte
    text-kept k c e String.moved-fault f = true-neq-false f
    text-kept k c e String.moved-close f = ap outside (sym (depth-finish _ k))
    text-kept k c e (String.moved-go z) f = goes-in-string (depth 𝕄 k) z
    text-kept k c e (String.moved-char z) f = ends-in-string (depth 𝕄 k) z

    key-kept : {m : StringMode} {b : ℕ} {y : StringMove} (k : Stack 𝕄) (c : ℕ) (e : Token 𝕄) → String.Moved m b y
        → Kept (string_scan m (depth 𝕄 k)) b (take 𝕄 (key_step y) c b g e k)
    unfolding scan_of scan_at string_scan scan_byte
    key-kept k c e String.moved-fault f = true-neq-false f
    key-kept bare c e String.moved-close f = refl
    key-kept (whole w) c e String.moved-close f = refl
    key-kept (in_array a k) c e String.moved-close f = refl
    key-kept (in_object o k) c e String.moved-close f = refl
    key-kept k c e (String.moved-go z) f = goes-in-string (depth 𝕄 k) z
    key-kept k c e (String.moved-char z) f = ends-in-string (depth 𝕄 k) z

    number_kept : {n : NumberMode} {b : ℕ} {y : NumberMove} (k : Stack 𝕄) → Number.Moved n b y
        → Kept (outside (depth 𝕄 k)) b (take 𝕄 (number_step y (top_of 𝕄 k) b) 0 b g g k)
    unfolding scan_of scan_at
    number_kept k Number.moved-fault f = true-neq-false f
    number_kept k (Number.moved-go z) f = number-outside (depth 𝕄 k) z
    number_kept {b} k (Number.moved-end h) f =
        let v : Result = of_number g.number in
        let x = after_kept (finish 𝕄 v k) b in
        (rw (top_of-finish 𝕄 v k, ends-none (top_of 𝕄 k) b, depth-finish v k) at x) f

    word_kept : (w : Word) (i : ℕ) (k : Stack 𝕄) (b : ℕ)
        → Kept (outside (depth 𝕄 k)) b (take 𝕄 (word_step (letter_move (spelling (word_of w)) i b) w i) 0 b g g k)
    unfolding letter_move scan_of scan_at
    word_kept w i k b =
        let Q : WordMove → Type 0 = λ m. Kept (outside (depth 𝕄 k)) b (take 𝕄 (word_step m w i) 0 b g g k) in
        cond-elim Q (ltb i (length l)) (λ h. cond-elim Q (eqb b (get_or l i 0))
        (λ e. cond-elim Q (ltb (i + 1) (length l)) (λ _ _. letter h e) (λ _ _. letter h e ∙ ap outside (sym (depth-finish _ k))))
        (λ _. true-neq-false)) (λ _. true-neq-false)
      where
        l : List ℕ
        l = spelling (word_of w)

        letter : T (ltb i (length l)) → T (eqb b (get_or l i 0)) → scan_byte (outside (depth 𝕄 k)) b ≡ outside (depth 𝕄 k)
        letter h e = rw (eqb→eq b (get_or l i 0) e) (letter-outside (depth 𝕄 k) w i (ltb→lt i (length l) h))

  step_kept : (q : State 𝕄) (b : ℕ) → Proper 𝕄 q → is_fault 𝕄 q ≡ false → Kept (scan_of q) b (step 𝕄 q b)
  unfolding step scan_of scan_at
  step_kept fault b h e = true-neq-false e
  step_kept (at (M.At p) g k) b h e = place_kept g p k b h
  step_kept (at (M.Key m) g k) b h e = key-kept g k _ _ (String.moved m b)
  step_kept (at (M.Text m) g k) b h e = text-kept g k _ _ (String.moved m b)
  step_kept (at (M.Number n) g k) b h e = number_kept g k (Number.moved n b)
  step_kept (at (M.Word w i) g k) b h e = word_kept g w i k b

  -- a fault stays over every later byte
  pub fault-stays : (p : List ℕ) (q : State 𝕄) → is_fault 𝕄 q ≡ true → is_fault 𝕄 (run 𝕄 q p) ≡ true
  unfolding step
  fault-stays [] q e = e
  fault-stays (b ∷ p) fault e = fault-stays p fault e
  fault-stays (b ∷ p) (at m g k) e = true-neq-false (sym e)

  scan-run : (p : List ℕ) (q : State 𝕄) → Proper 𝕄 q → is_fault 𝕄 q ≡ false → is_fault 𝕄 (run 𝕄 q p) ≡ false → scan (scan_of q) p ≡ scan_of (run 𝕄 q p)
  scan-run [] q h e f = refl
  scan-run (b ∷ p) q h e f = go (is_fault 𝕄 (step 𝕄 q b)) refl (scan-run p (step 𝕄 q b) (proper-step 𝕄 q b h))
    where
      go : (v : Bool) → is_fault 𝕄 (step 𝕄 q b) ≡ v
          → (is_fault 𝕄 (step 𝕄 q b) ≡ false → is_fault 𝕄 (run 𝕄 (step 𝕄 q b) p) ≡ false → scan (scan_of (step 𝕄 q b)) p ≡ scan_of (run 𝕄 (step 𝕄 q b) p))
          → scan (scan_byte (scan_of q) b) p ≡ scan_of (run 𝕄 (step 𝕄 q b) p)
      go true v ih = true-neq-false (sym (fault-stays p (step 𝕄 q b) v) ∙ f)
      go false v ih = rw (step_kept q b h e v) (ih v f)

  levels-of-scan : (q : State 𝕄) → levels_of (scan_of q) ≡ depth_of 𝕄 q
  unfolding scan_of scan_at
  levels-of-scan fault = refl
  levels-of-scan (at (M.At p) g k) = refl
  levels-of-scan (at (M.Key m) g k) = string-levels m (depth 𝕄 k)
  levels-of-scan (at (M.Text m) g k) = string-levels m (depth 𝕄 k)
  levels-of-scan (at (M.Number n) g k) = refl
  levels-of-scan (at (M.Word w i) g k) = refl

  -- the machine's stack holds the open levels
  pub depth-of-run : (p : List ℕ) → is_fault 𝕄 (run 𝕄 (start 𝕄) p) ≡ false → depth_of 𝕄 (run 𝕄 (start 𝕄) p) ≡ open_levels p
  unfolding scan_of scan_at
  depth-of-run p f = sym (levels-of-scan (run 𝕄 (start 𝕄) p)) ∙ sym (ap levels_of (scan-run p (start 𝕄) tt refl f))
