-- What the lexer's string modes do, as relations: hexadecimal digits, the moves inside a character, and the bytes that finish one.
-- `moved` and `move-of-goes`, `move-of-ends` join them to `string_move`. Assumes nothing.
use mathlib.Core.Bool.{Bool, true, false, not, ◌||◌}
use mathlib.Core.Path.{◌≡◌, refl, subst}
use Prim.Native.Nat.{ℕ, suc, ◌+◌, ◌-◌, ◌≤◌, ◌<◌}
use native.Mathlib.Omega.{arith}
use lib.Dec.{T, eqb, ltb, eqb→eq, ltb→lt, nltb→le, T_not}
use borrow.Author.Tests.{lt-ltb, le-ltb, eq-eqb, ne_eqb}
use Rattle.std.specs.Prelude.{Option, Some, None}
use Rattle.laws.specs.Tab.{tab as row, every}
use Rattle.laws.proofs.TestLaws.{T-or-elim, cond-elim, cond_byte, cond_yes, cond_no}
use Rattle.laws.proofs.TabLaws.{eq-of-tab, T-of-every}
use Rattle.json_text.specs.Bytes.{within}
use Rattle.json_text.specs.Utf8.{is_tail}
use Rattle.json_text.specs.Strings.{is_unescaped, Escaped, quotation_mark, reverse_solidus, solidus, backspace, form_feed, line_feed, carriage_return, tab, Hex, hex_digit, hex_upper, hex_lower}
use Rattle.json_text.specs.Classes.{class_of, high_class, is_break, is_structure}
use Rattle.json_text.specs.Lexer.{char_start, unescape, char_made, escape_move, hex_of, any_hex, unit1, unit_d, low1, low2, only, ranged, string_move}
use Rattle.json_text.specs.declared.class.Class.{Class}
use Rattle.json_text.specs.declared.class.Class.TheVariants as C
use Rattle.json_text.specs.declared.string.StringMode.{StringMode}
use Rattle.json_text.specs.declared.string.StringMode.TheVariants as S
use Rattle.json_text.specs.declared.string.StringMove.{StringMove}
use Rattle.json_text.specs.declared.string.StringMove.TheVariants as SM
use Rattle.json_text.proofs.ByteLaws.{low-of-within, high-of-within, within-of-le, outside-of-not-within, at_byte}

-- ---- hexadecimal digits

pub value-of-hex : {b w : ℕ} → Hex b w → hex_of b ≡ Some w
unfolding hex_of
value-of-hex (hex_digit {b} h) = cond_yes (λ o. o ≡ Some (b - 0x30)) (within 0x30 0x39 b) _ h refl
value-of-hex (hex_upper {b} h) =
    let lo = low-of-within 0x41 0x46 b h in
    let P : Option ℕ → Type 0 = λ o. o ≡ Some (b - 0x41 + 10) in
    cond_no P (within 0x30 0x39 b) _ (outside-of-not-within 0x30 0x39 b (λ l g. omega arith)) (cond_yes P (within 0x41 0x46 b) _ h refl)
value-of-hex (hex_lower {b} h) =
    let lo = low-of-within 0x61 0x66 b h in
    let P : Option ℕ → Type 0 = λ o. o ≡ Some (b - 0x61 + 10) in
    cond_no P (within 0x30 0x39 b) _ (outside-of-not-within 0x30 0x39 b (λ l g. omega arith))
    (cond_no P (within 0x41 0x46 b) _ (outside-of-not-within 0x41 0x46 b (λ l g. omega arith)) (cond_yes P (within 0x61 0x66 b) _ h refl))

pub lt-of-hex : {b w : ℕ} → Hex b w → w < 16
lt-of-hex (hex_digit {b} h) = let hi = high-of-within 0x30 0x39 b h in omega arith
lt-of-hex (hex_upper {b} h) = let hi = high-of-within 0x41 0x46 b h in omega arith
lt-of-hex (hex_lower {b} h) = let hi = high-of-within 0x61 0x66 b h in omega arith

-- a byte is a digit with a value, or has none
data HexView (b : ℕ) : Option ℕ → Type 0 where
  no-hex : HexView b None
  is-hex : {w : ℕ} → Hex b w → HexView b (Some w)

hex-view : (b : ℕ) → HexView b (hex_of b)
unfolding hex_of
hex-view b =
    cond-elim (HexView b) (within 0x30 0x39 b) (λ h. is-hex (hex_digit h)) (λ _.
    cond-elim (HexView b) (within 0x41 0x46 b) (λ h. is-hex (hex_upper h)) (λ _.
    cond-elim (HexView b) (within 0x61 0x66 b) (λ h. is-hex (hex_lower h)) (λ _. no-hex)))

-- ---- the moves inside a character

-- the byte leads from the first mode to the second
pub data Goes : StringMode → ℕ → StringMode → Type 0 where
  backslash : Goes S.Char 0x5C S.Escape
  lead-C2 : {b : ℕ} → T (within 0xC2 0xDF b) → Goes S.Char b S.SecondC2
  lead-E0 : Goes S.Char 0xE0 S.SecondE0
  lead-E1 : {b : ℕ} → T (within 0xE1 0xEC b) → Goes S.Char b S.SecondE1
  lead-ED : Goes S.Char 0xED S.SecondED
  lead-EE : {b : ℕ} → T (within 0xEE 0xEF b) → Goes S.Char b S.SecondEE
  lead-F0 : Goes S.Char 0xF0 S.SecondF0
  lead-F1 : {b : ℕ} → T (within 0xF1 0xF3 b) → Goes S.Char b S.SecondF1
  lead-F4 : Goes S.Char 0xF4 S.SecondF4
  second-E0 : {b : ℕ} → T (within 0xA0 0xBF b) → Goes S.SecondE0 b S.Tail1
  second-E1 : {b : ℕ} → T (is_tail b) → Goes S.SecondE1 b S.Tail1
  second-ED : {b : ℕ} → T (within 0x80 0x9F b) → Goes S.SecondED b S.Tail1
  second-EE : {b : ℕ} → T (is_tail b) → Goes S.SecondEE b S.Tail1
  second-F0 : {b : ℕ} → T (within 0x90 0xBF b) → Goes S.SecondF0 b S.Tail2
  second-F1 : {b : ℕ} → T (is_tail b) → Goes S.SecondF1 b S.Tail2
  second-F4 : {b : ℕ} → T (within 0x80 0x8F b) → Goes S.SecondF4 b S.Tail2
  tail-2 : {b : ℕ} → T (is_tail b) → Goes S.Tail2 b S.Tail1
  letter-u : Goes S.Escape 0x75 S.Unit1
  digit-1 : {b h : ℕ} → Hex b h → (h ≡ 13 → ⊥) → Goes S.Unit1 b S.Unit2
  digit-1_d : {b : ℕ} → Hex b 13 → Goes S.Unit1 b S.UnitD
  digit-2 : {b h : ℕ} → Hex b h → Goes S.Unit2 b S.Unit3
  digit-2-below : {b h : ℕ} → Hex b h → h < 8 → Goes S.UnitD b S.Unit3
  digit-2-high : {b h : ℕ} → Hex b h → 8 ≤ h → h < 12 → Goes S.UnitD b S.High3
  digit-3 : {b h : ℕ} → Hex b h → Goes S.Unit3 b S.Unit4
  high-3 : {b h : ℕ} → Hex b h → Goes S.High3 b S.High4
  high-4 : {b h : ℕ} → Hex b h → Goes S.High4 b S.LowBackslash
  low-backslash : Goes S.LowBackslash 0x5C S.LowU
  low-u : Goes S.LowU 0x75 S.Low1
  low-1 : {b : ℕ} → Hex b 13 → Goes S.Low1 b S.Low2
  low-2 : {b h : ℕ} → Hex b h → 12 ≤ h → Goes S.Low2 b S.Low3
  low-3 : {b h : ℕ} → Hex b h → Goes S.Low3 b S.Low4

-- the byte is the last of a character
pub data Ends : StringMode → ℕ → Type 0 where
  plain : {b : ℕ} → T (is_unescaped b) → Ends S.Char b
  after-backslash : {b c : ℕ} → Escaped b c → Ends S.Escape b
  digit-4 : {b h : ℕ} → Hex b h → Ends S.Unit4 b
  low-4 : {b h : ℕ} → Hex b h → Ends S.Low4 b
  second-C2 : {b : ℕ} → T (is_tail b) → Ends S.SecondC2 b
  tail-1 : {b : ℕ} → T (is_tail b) → Ends S.Tail1 b

-- ---- string_move goes on where a character does, and ends it at its last byte

hex-move : {b h : ℕ} (m : StringMove) → Hex b h → any_hex (hex_of b) m ≡ m
hex-move m x = rw (value-of-hex x)

-- a byte of a range makes its move
pub ranged-move : (lo hi b : ℕ) (m : StringMove) → T (within lo hi b) → ranged lo hi b m ≡ m
unfolding ranged
ranged-move lo hi b m h = simp (le-ltb b lo (low-of-within lo hi b h), le-ltb hi b (high-of-within lo hi b h))

-- the class of each first byte of a row, computed
lead-class : (c : Class) (lo hi b : ℕ) → row class_of lo (suc hi - lo) ≡ row (λ (_ : ℕ). c) lo (suc hi - lo) → T (within lo hi b) → class_of b ≡ c
lead-class c lo hi b e h =
    let l = low-of-within lo hi b h in
    let g = high-of-within lo hi b h in
    eq-of-tab class_of (λ (_ : ℕ). c) lo (suc hi - lo) e b l (omega arith)

pub move-of-goes : {m n : StringMode} {b : ℕ} → Goes m b n → string_move m b ≡ SM.Go n
unfolding class_of high_class is_break is_structure within escape_move only
move-of-goes backslash = refl
move-of-goes (lead-C2 {b} h) = rw (lead-class C.LeadC2 0xC2 0xDF b refl h)
move-of-goes lead-E0 = refl
move-of-goes (lead-E1 {b} h) = rw (lead-class C.LeadE1 0xE1 0xEC b refl h)
move-of-goes lead-ED = refl
move-of-goes (lead-EE {b} h) = rw (lead-class C.LeadEE 0xEE 0xEF b refl h)
move-of-goes lead-F0 = refl
move-of-goes (lead-F1 {b} h) = rw (lead-class C.LeadF1 0xF1 0xF3 b refl h)
move-of-goes lead-F4 = refl
move-of-goes (second-E0 {b} h) = ranged-move 0xA0 0xBF b _ h
move-of-goes (second-E1 {b} h) = ranged-move 0x80 0xBF b _ h
move-of-goes (second-ED {b} h) = ranged-move 0x80 0x9F b _ h
move-of-goes (second-EE {b} h) = ranged-move 0x80 0xBF b _ h
move-of-goes (second-F0 {b} h) = ranged-move 0x90 0xBF b _ h
move-of-goes (second-F1 {b} h) = ranged-move 0x80 0xBF b _ h
move-of-goes (second-F4 {b} h) = ranged-move 0x80 0x8F b _ h
move-of-goes (tail-2 {b} h) = ranged-move 0x80 0xBF b _ h
move-of-goes letter-u = refl
move-of-goes (digit-1 {h} x n) = rw (value-of-hex x, ne_eqb h 13 n)
move-of-goes (digit-1_d x) = rw (value-of-hex x)
move-of-goes (digit-2 x) = hex-move _ x
move-of-goes (digit-2-below {h} x l) = rw (value-of-hex x, lt-ltb h 8 l)
move-of-goes (digit-2-high {h} x l g) = rw (value-of-hex x, le-ltb h 8 l, lt-ltb h 12 g)
move-of-goes (digit-3 x) = hex-move _ x
move-of-goes (high-3 x) = hex-move _ x
move-of-goes (high-4 x) = hex-move _ x
move-of-goes low-backslash = refl
move-of-goes low-u = refl
move-of-goes (low-1 x) = rw (value-of-hex x)
move-of-goes (low-2 {h} x l) = rw (value-of-hex x, le-ltb h 12 l)
move-of-goes (low-3 x) = hex-move _ x

is_char : StringMove → Bool
is_char SM.Fault = false
is_char (SM.Go m) = false
is_char SM.Char = true
is_char SM.Close = false

char-of-test : (m : StringMove) → T (is_char m) → m ≡ SM.Char
unfolding is_char
char-of-test SM.Fault h = absurd h
char-of-test (SM.Go m) h = absurd h
char-of-test SM.Char h = refl
char-of-test SM.Close h = absurd h

pub lt-of-unescaped : (b : ℕ) → T (is_unescaped b) → b < 128
unfolding is_unescaped
lt-of-unescaped b =
    T-or-elim (within 0x20 0x21 b || within 0x23 0x5B b) (within 0x5D 0x7F b)
    (T-or-elim (within 0x20 0x21 b) (within 0x23 0x5B b)
    (λ h. omega (arith, high-of-within 0x20 0x21 b h)) (λ h. omega (arith, high-of-within 0x23 0x5B b h)))
    (λ h. omega (arith, high-of-within 0x5D 0x7F b h))

-- computed for each byte below 80: unescaped bytes are characters
unescaped-test : ℕ → Bool
unescaped-test b = not (is_unescaped b) || is_char (char_start (class_of b))

unescaped-tested : T (every unescaped-test 0 128)
unfolding unescaped-test is_unescaped is_char class_of high_class is_break is_structure within
unescaped-tested = tt

plain-move : (b : ℕ) → T (is_unescaped b) → char_start (class_of b) ≡ SM.Char
unfolding unescaped-test
plain-move b h =
    char-of-test (char_start (class_of b))
    (T-or-elim (not (is_unescaped b)) _ (λ n. absurd (T_not (is_unescaped b) n h)) (λ g. g)
    (T-of-every unescaped-test 128 unescaped-tested b (lt-of-unescaped b h)))

escaped-move : {b c : ℕ} → Escaped b c → escape_move b ≡ SM.Char
unfolding escape_move unescape
escaped-move quotation_mark = refl
escaped-move reverse_solidus = refl
escaped-move solidus = refl
escaped-move backspace = refl
escaped-move form_feed = refl
escaped-move line_feed = refl
escaped-move carriage_return = refl
escaped-move tab = refl

pub move-of-ends : {m : StringMode} {b : ℕ} → Ends m b → string_move m b ≡ SM.Char
move-of-ends (plain {b} h) = plain-move b h
move-of-ends (after-backslash x) = escaped-move x
move-of-ends (digit-4 x) = hex-move _ x
move-of-ends (low-4 x) = hex-move _ x
move-of-ends (second-C2 {b} h) = ranged-move 0x80 0xBF b _ h
move-of-ends (tail-1 {b} h) = ranged-move 0x80 0xBF b _ h

-- ---- no byte moves otherwise: a fault, the closing quotation mark, a byte that goes on, or the last byte of a character

pub data Moved : StringMode → ℕ → StringMove → Type 0 where
  moved-fault : {m : StringMode} {b : ℕ} → Moved m b SM.Fault
  moved-close : Moved S.Char 0x22 SM.Close
  moved-go : {m n : StringMode} {b : ℕ} → Goes m b n → Moved m b (SM.Go n)
  moved-char : {m : StringMode} {b : ℕ} → Ends m b → Moved m b SM.Char

-- computed for each byte below 80: control bytes, the quotation mark and the backslash aside, each is unescaped
others-test : ℕ → Bool
others-test b = ltb b 0x20 || eqb b 0x22 || eqb b 0x5C || is_unescaped b

others-tested : T (every others-test 0 128)
unfolding others-test is_unescaped within
others-tested = tt

unescaped-of-other : (b : ℕ) → T (not (ltb b 0x20)) → T (not (eqb b 0x22)) → T (not (eqb b 0x5C)) → T (ltb b 0x80) → T (is_unescaped b)
unfolding others-test
unescaped-of-other b l q s h =
    T-or-elim (ltb b 0x20 || eqb b 0x22 || eqb b 0x5C) (is_unescaped b)
    (T-or-elim (ltb b 0x20 || eqb b 0x22) (eqb b 0x5C)
    (T-or-elim (ltb b 0x20) (eqb b 0x22) (λ x. absurd (T_not (ltb b 0x20) l x)) (λ x. absurd (T_not (eqb b 0x22) q x)))
    (λ x. absurd (T_not (eqb b 0x5C) s x)))
    (λ x. x)
    (T-of-every others-test 128 others-tested b (ltb→lt b 0x80 h))

lt-of-structure : (b : ℕ) → T (is_structure b) → T (ltb b 0x80)
unfolding is_structure
lt-of-structure b =
    let P : ℕ → Type 0 = λ b. T (ltb b 0x80) in
    T-or-elim (eqb b 0x5B || eqb b 0x7B || eqb b 0x5D || eqb b 0x7D || eqb b 0x3A) (eqb b 0x2C)
    (T-or-elim (eqb b 0x5B || eqb b 0x7B || eqb b 0x5D || eqb b 0x7D) (eqb b 0x3A)
    (T-or-elim (eqb b 0x5B || eqb b 0x7B || eqb b 0x5D) (eqb b 0x7D)
    (T-or-elim (eqb b 0x5B || eqb b 0x7B) (eqb b 0x5D)
    (T-or-elim (eqb b 0x5B) (eqb b 0x7B) (at_byte P b 0x5B tt) (at_byte P b 0x7B tt)) (at_byte P b 0x5D tt))
    (at_byte P b 0x7D tt))
    (at_byte P b 0x3A tt))
    (at_byte P b 0x2C tt)

lt-of-digit : (b : ℕ) → T (within 0x30 0x39 b) → T (ltb b 0x80)
lt-of-digit b h = lemma (high-of-within 0x30 0x39 b h)
  where
    lemma : b ≤ 0x39 → T (ltb b 0x80)
    lemma g = rw (lt-ltb b 0x80 (omega arith)) tt

high-moved : (b : ℕ) → Moved S.Char b (char_start (high_class b))
unfolding high_class
high-moved b =
    let Q : Class → Type 0 = λ c. Moved S.Char b (char_start c) in
    let P : ℕ → Class → Type 0 = λ b c. Moved S.Char b (char_start c) in
    cond-elim Q (within 0x80 0xBF b) (λ _. moved-fault) (λ _.
    cond-elim Q (within 0xC2 0xDF b) (λ h. moved-go (lead-C2 h)) (λ _.
    cond_byte P b 0xE0 (moved-go lead-E0) (
    cond-elim Q (within 0xE1 0xEC b) (λ h. moved-go (lead-E1 h)) (λ _.
    cond_byte P b 0xED (moved-go lead-ED) (
    cond-elim Q (within 0xEE 0xEF b) (λ h. moved-go (lead-EE h)) (λ _.
    cond_byte P b 0xF0 (moved-go lead-F0) (
    cond-elim Q (within 0xF1 0xF3 b) (λ h. moved-go (lead-F1 h)) (λ _.
    cond_byte P b 0xF4 (moved-go lead-F4) moved-fault))))))))

char-moved : (b : ℕ) → Moved S.Char b (char_start (class_of b))
unfolding class_of
char-moved b =
    let Q : Class → Type 0 = λ c. Moved S.Char b (char_start c) in
    cond-elim Q (is_break b) (λ _. moved-fault) (λ _.
    cond-elim Q (ltb b 0x20) (λ _. moved-fault) (λ l.
    cond_byte (λ b c. Moved S.Char b (char_start c)) b 0x20 (moved-char (plain space-unescaped)) (
    cond-elim Q (eqb b 0x22) (λ e. at_byte (λ b. Moved S.Char b SM.Close) b 0x22 moved-close e) (λ q.
    cond-elim Q (eqb b 0x5C) (λ e. at_byte (λ b. Moved S.Char b (SM.Go S.Escape)) b 0x5C (moved-go backslash) e) (λ s.
    cond-elim Q (is_structure b) (λ h. moved-char (plain (unescaped-of-other b l q s (lt-of-structure b h)))) (λ _.
    cond-elim Q (within 0x30 0x39 b) (λ h. moved-char (plain (unescaped-of-other b l q s (lt-of-digit b h)))) (λ _.
    cond-elim Q (ltb b 0x80) (λ h. moved-char (plain (unescaped-of-other b l q s h))) (λ _. high-moved b))))))))
  where
    space-unescaped : T (is_unescaped 0x20)
    space-unescaped = unfold is_unescaped within in tt

-- a byte after a backslash, by what it stands for
data EscapeView : ℕ → Option ℕ → Type 0 where
  no-escape : {b : ℕ} → EscapeView b None
  is-escape : {b c : ℕ} → Escaped b c → EscapeView b (Some c)

escape-view : (b : ℕ) → EscapeView b (unescape b)
unfolding unescape
escape-view b =
    cond_byte EscapeView b 0x22 (is-escape quotation_mark) (cond_byte EscapeView b 0x5C (is-escape reverse_solidus)
    (cond_byte EscapeView b 0x2F (is-escape solidus) (cond_byte EscapeView b 0x62 (is-escape backspace)
    (cond_byte EscapeView b 0x66 (is-escape form_feed) (cond_byte EscapeView b 0x6E (is-escape line_feed)
    (cond_byte EscapeView b 0x72 (is-escape carriage_return) (cond_byte EscapeView b 0x74 (is-escape tab) no-escape)))))))

escape-made : {b : ℕ} {o : Option ℕ} → EscapeView b o → Moved S.Escape b (char_made o)
escape-made no-escape = moved-fault
escape-made (is-escape x) = moved-char (after-backslash x)

escape-moved : (b : ℕ) → Moved S.Escape b (escape_move b)
unfolding escape_move
escape-moved b = cond_byte (Moved S.Escape) b 0x75 (moved-go letter-u) (escape-made (escape-view b))

-- a byte of which a hexadecimal digit is awaited, and whose move f depends on its value
digit-moved : {m : StringMode} (b : ℕ) (f : Option ℕ → StringMove) → f None ≡ SM.Fault → ((h : ℕ) → Hex b h → Moved m b (f (Some h))) → Moved m b (f (hex_of b))
digit-moved {m} b f e g = go (hex-view b)
  where
    go : {o : Option ℕ} → HexView b o → Moved m b (f o)
    go no-hex = rw e moved-fault
    go (is-hex {w} x) = g w x

hex-moved : {m : StringMode} (b : ℕ) {x : StringMove} → ((h : ℕ) → Hex b h → Moved m b x) → Moved m b (any_hex (hex_of b) x)
hex-moved b {x} f = digit-moved b (λ o. any_hex o x) refl f

ranged-moved : {m : StringMode} (lo hi b : ℕ) {x : StringMove} → (T (within lo hi b) → Moved m b x) → Moved m b (ranged lo hi b x)
unfolding ranged
ranged-moved {m} lo hi b f =
    cond-elim (Moved m b) (ltb b lo) (λ _. moved-fault) (λ l.
    cond-elim (Moved m b) (ltb hi b) (λ _. moved-fault) (λ h. f (within-of-le lo hi b (nltb→le b lo l) (nltb→le hi b h))))

-- a byte that is no fault in a range is of it
pub within-of-ranged : (lo hi b : ℕ) (k : StringMove) → (ranged lo hi b k ≡ SM.Fault → ⊥) → T (within lo hi b)
unfolding ranged
within-of-ranged lo hi b k =
    let P : StringMove → Type 0 = λ k. (k ≡ SM.Fault → ⊥) → T (within lo hi b) in
    cond-elim P (ltb b lo) (λ _ n. absurd (n refl)) (λ l.
    cond-elim P (ltb hi b) (λ _ n. absurd (n refl)) (λ h n. within-of-le lo hi b (nltb→le b lo l) (nltb→le hi b h)))

pub moved : (m : StringMode) (b : ℕ) → Moved m b (string_move m b)
unfolding only
moved S.Char b = char-moved b
moved S.Escape b = escape-moved b
moved S.Unit1 b =
    digit-moved b unit1 refl (λ h x.
    cond-elim (Moved S.Unit1 b) (eqb h 13) (λ e. moved-go (digit-1_d (subst (Hex b) (eqb→eq h 13 e) x)))
    (λ n. moved-go (digit-1 x (λ e. T_not (eqb h 13) n (rw (eq-eqb h 13 e) tt)))))
moved S.Unit2 b = hex-moved b (λ h x. moved-go (digit-2 x))
moved S.UnitD b =
    digit-moved b unit_d refl (λ h x.
    cond-elim (Moved S.UnitD b) (ltb h 8) (λ l. moved-go (digit-2-below x (ltb→lt h 8 l))) (λ l.
    cond-elim (Moved S.UnitD b) (ltb h 12) (λ g. moved-go (digit-2-high x (nltb→le h 8 l) (ltb→lt h 12 g))) (λ _. moved-fault)))
moved S.Unit3 b = hex-moved b (λ h x. moved-go (digit-3 x))
moved S.Unit4 b = hex-moved b (λ h x. moved-char (digit-4 x))
moved S.High3 b = hex-moved b (λ h x. moved-go (high-3 x))
moved S.High4 b = hex-moved b (λ h x. moved-go (high-4 x))
moved S.LowBackslash b = cond_byte (Moved S.LowBackslash) b 0x5C (moved-go low-backslash) moved-fault
moved S.LowU b = cond_byte (Moved S.LowU) b 0x75 (moved-go low-u) moved-fault
moved S.Low1 b =
    digit-moved b low1 refl (λ h x. cond-elim (Moved S.Low1 b) (eqb h 13) (λ e. moved-go (low-1 (subst (Hex b) (eqb→eq h 13 e) x))) (λ _. moved-fault))
moved S.Low2 b =
    digit-moved b low2 refl (λ h x. cond-elim (Moved S.Low2 b) (ltb h 12) (λ _. moved-fault) (λ l. moved-go (low-2 x (nltb→le h 12 l))))
moved S.Low3 b = hex-moved b (λ h x. moved-go (low-3 x))
moved S.Low4 b = hex-moved b (λ h x. moved-char (low-4 x))
moved S.SecondC2 b = ranged-moved 0x80 0xBF b (λ h. moved-char (second-C2 h))
moved S.SecondE0 b = ranged-moved 0xA0 0xBF b (λ h. moved-go (second-E0 h))
moved S.SecondE1 b = ranged-moved 0x80 0xBF b (λ h. moved-go (second-E1 h))
moved S.SecondED b = ranged-moved 0x80 0x9F b (λ h. moved-go (second-ED h))
moved S.SecondEE b = ranged-moved 0x80 0xBF b (λ h. moved-go (second-EE h))
moved S.SecondF0 b = ranged-moved 0x90 0xBF b (λ h. moved-go (second-F0 h))
moved S.SecondF1 b = ranged-moved 0x80 0xBF b (λ h. moved-go (second-F1 h))
moved S.SecondF4 b = ranged-moved 0x80 0x8F b (λ h. moved-go (second-F4 h))
moved S.Tail2 b = ranged-moved 0x80 0xBF b (λ h. moved-go (tail-2 h))
moved S.Tail1 b = ranged-moved 0x80 0xBF b (λ h. moved-char (tail-1 h))
