-- What a byte does, mode by mode. Derived: `Accepted`, `Sound` and `Faults` in proofs/ join the machine made of it to the grammar. Assumes nothing.
use Rattle.std.specs.Prelude.{Bool, true, false, cond, List, ℕ, ◌+◌, ◌-◌, ◌*◌, ◌%◌, eqb, ltb, get_or, length, Option, Some, None}
use Rattle.std.specs.Option.{unwrap_or}
use Rattle.json_text.specs.Bytes.{within, is_blank}
use Rattle.json_text.specs.Numbers.{is_digit, is_digit_1_9, is_e}
use Rattle.json_text.specs.Grammar.{spelling}
use Rattle.json_text.specs.Tree as Tree
use Rattle.json_text.specs.Classes.{class_of}
use Rattle.json_text.specs.declared.class.Class.{Class}
use Rattle.json_text.specs.declared.class.Class.TheVariants as C
use Rattle.json_text.specs.declared.string.StringMode.{StringMode}
use Rattle.json_text.specs.declared.string.StringMode.TheVariants as S
use Rattle.json_text.specs.declared.string.StringMove.{StringMove}
use Rattle.json_text.specs.declared.string.StringMove.TheVariants as SM
use Rattle.json_text.specs.declared.number.NumberMode.{NumberMode}
use Rattle.json_text.specs.declared.number.NumberMode.TheVariants as N
use Rattle.json_text.specs.declared.number.NumberMove.{NumberMove}
use Rattle.json_text.specs.declared.number.NumberMove.TheVariants as NM
use Rattle.json_text.specs.declared.word.Word.{Word}
use Rattle.json_text.specs.declared.word.Word.TheVariants as W
use Rattle.json_text.specs.declared.word.WordMove.{WordMove}
use Rattle.json_text.specs.declared.word.WordMove.TheVariants as WM
use Rattle.json_text.specs.declared.lexer.Awaited.{Awaited}
use Rattle.json_text.specs.declared.lexer.Awaited.TheVariants as P
use Rattle.json_text.specs.declared.lexer.Mode.{Mode}
use Rattle.json_text.specs.declared.lexer.Mode.TheVariants as M
use Rattle.json_text.specs.declared.lexer.Top.{Top}
use Rattle.json_text.specs.declared.lexer.Top.TheVariants as T
use Rattle.json_text.specs.declared.lexer.Act.{Act}
use Rattle.json_text.specs.declared.lexer.Act.TheVariants as A
use Rattle.json_text.specs.declared.lexer.Step.{Step}

-- ---- strings

-- a byte where a character or the closing quotation mark is awaited, by its class
abbrev pub char_start : Class → StringMove
char_start C.Control = SM.Fault
char_start C.Break = SM.Fault
char_start C.Space = SM.Char
char_start C.Quote = SM.Close
char_start C.Backslash = SM.Go S.Escape
char_start C.Structure = SM.Char
char_start C.Digit = SM.Char
char_start C.Other = SM.Char
char_start C.Tail = SM.Fault
char_start C.LeadC2 = SM.Go S.SecondC2
char_start C.LeadE0 = SM.Go S.SecondE0
char_start C.LeadE1 = SM.Go S.SecondE1
char_start C.LeadED = SM.Go S.SecondED
char_start C.LeadEE = SM.Go S.SecondEE
char_start C.LeadF0 = SM.Go S.SecondF0
char_start C.LeadF1 = SM.Go S.SecondF1
char_start C.LeadF4 = SM.Go S.SecondF4
char_start C.Never = SM.Fault

-- the character that a byte after a backslash stands for
unfoldable pub unescape : ℕ → Option ℕ
unescape b =
    cond (eqb b 0x22) (Some 0x22)
    (cond (eqb b 0x5C) (Some 0x5C)
    (cond (eqb b 0x2F) (Some 0x2F)
    (cond (eqb b 0x62) (Some 0x08)
    (cond (eqb b 0x66) (Some 0x0C)
    (cond (eqb b 0x6E) (Some 0x0A)
    (cond (eqb b 0x72) (Some 0x0D)
    (cond (eqb b 0x74) (Some 0x09) None)))))))

-- where there is a character
abbrev pub char_made : Option ℕ → StringMove
char_made None = SM.Fault
char_made (Some c) = SM.Char

-- the byte after a backslash
unfoldable pub escape_move : ℕ → StringMove
escape_move b = cond (eqb b 0x75) (SM.Go S.Unit1) (char_made (unescape b))

-- the value of a hexadecimal digit
unfoldable pub hex_of : ℕ → Option ℕ
hex_of b =
    cond (within 0x30 0x39 b) (Some (b - 0x30))
    (cond (within 0x41 0x46 b) (Some (b - 0x41 + 10))
    (cond (within 0x61 0x66 b) (Some (b - 0x61 + 10)) None))

-- any hexadecimal digit
abbrev pub any_hex : Option ℕ → StringMove → StringMove
any_hex None m = SM.Fault
any_hex (Some h) m = m

-- the first digit of a code unit: after a D the second settles whether it is a surrogate
abbrev pub unit1 : Option ℕ → StringMove
unit1 None = SM.Fault
unit1 (Some h) = cond (eqb h 13) (SM.Go S.UnitD) (SM.Go S.Unit2)

-- after a D: 0 to 7 no surrogate, 8 to B a high one; a low one stands nowhere alone
abbrev pub unit_d : Option ℕ → StringMove
unit_d None = SM.Fault
unit_d (Some h) = cond (ltb h 8) (SM.Go S.Unit3) (cond (ltb h 12) (SM.Go S.High3) SM.Fault)

-- the first and the second digit of a low surrogate
abbrev pub low1 : Option ℕ → StringMove
low1 None = SM.Fault
low1 (Some h) = cond (eqb h 13) (SM.Go S.Low2) SM.Fault

abbrev pub low2 : Option ℕ → StringMove
low2 None = SM.Fault
low2 (Some h) = cond (ltb h 12) SM.Fault (SM.Go S.Low3)

-- the byte x only
unfoldable pub only : ℕ → ℕ → StringMove → StringMove
only x b m = cond (eqb b x) m SM.Fault

-- a byte from lo to hi
unfoldable pub ranged : ℕ → ℕ → ℕ → StringMove → StringMove
ranged lo hi b m = cond (ltb b lo) SM.Fault (cond (ltb hi b) SM.Fault m)

-- what a byte does inside a string; the second byte of a UTF-8 sequence by the rows of RFC 3629, section 4
abbrev pub string_move : StringMode → ℕ → StringMove
string_move S.Char b = char_start (class_of b)
string_move S.Escape b = escape_move b
string_move S.Unit1 b = unit1 (hex_of b)
string_move S.Unit2 b = any_hex (hex_of b) (SM.Go S.Unit3)
string_move S.UnitD b = unit_d (hex_of b)
string_move S.Unit3 b = any_hex (hex_of b) (SM.Go S.Unit4)
string_move S.Unit4 b = any_hex (hex_of b) SM.Char
string_move S.High3 b = any_hex (hex_of b) (SM.Go S.High4)
string_move S.High4 b = any_hex (hex_of b) (SM.Go S.LowBackslash)
string_move S.LowBackslash b = only 0x5C b (SM.Go S.LowU)
string_move S.LowU b = only 0x75 b (SM.Go S.Low1)
string_move S.Low1 b = low1 (hex_of b)
string_move S.Low2 b = low2 (hex_of b)
string_move S.Low3 b = any_hex (hex_of b) (SM.Go S.Low4)
string_move S.Low4 b = any_hex (hex_of b) SM.Char
string_move S.SecondC2 b = ranged 0x80 0xBF b SM.Char
string_move S.SecondE0 b = ranged 0xA0 0xBF b (SM.Go S.Tail1)
string_move S.SecondE1 b = ranged 0x80 0xBF b (SM.Go S.Tail1)
string_move S.SecondED b = ranged 0x80 0x9F b (SM.Go S.Tail1)
string_move S.SecondEE b = ranged 0x80 0xBF b (SM.Go S.Tail1)
string_move S.SecondF0 b = ranged 0x90 0xBF b (SM.Go S.Tail2)
string_move S.SecondF1 b = ranged 0x80 0xBF b (SM.Go S.Tail2)
string_move S.SecondF4 b = ranged 0x80 0x8F b (SM.Go S.Tail2)
string_move S.Tail2 b = ranged 0x80 0xBF b (SM.Go S.Tail1)
string_move S.Tail1 b = ranged 0x80 0xBF b SM.Char

-- ---- the number of a character, gathered in two registers: its bits so far, and the first half of a surrogate pair. Both stay small
-- whatever they begin with

-- the bits of the first byte of a UTF-8 sequence
unfoldable pub lead_bits : ℕ → ℕ
lead_bits b = cond (ltb b 0xC0) 0 (cond (ltb b 0xE0) (b - 0xC0) (cond (ltb b 0xF0) (b - 0xE0) (b - 0xF0)))

-- six more bits, of a byte after the first
unfoldable pub tail_bits : ℕ → ℕ → ℕ
tail_bits bits b = bits % 0x8000 * 64 + b % 64

-- four more bits, of a hexadecimal digit; another byte, which is a fault, counts as 0
abbrev pub hex_bits : ℕ → Option ℕ → ℕ
hex_bits bits h = bits % 0x1000 * 16 + unwrap_or h 0

-- the character of a high and a low surrogate
unfoldable pub pair_of : ℕ → ℕ → ℕ
pair_of high low = 0x10000 + high % 0x400 * 0x400 + low % 0x400

-- the bits after a byte; one that is no digit, where the first of a code unit is awaited, counts as 16
abbrev pub bits_after : StringMode → ℕ → ℕ → ℕ
bits_after S.Char bits b = lead_bits b
bits_after S.Escape bits b = bits
bits_after S.Unit1 bits b = unwrap_or (hex_of b) 16
bits_after S.Unit2 bits b = hex_bits bits (hex_of b)
bits_after S.UnitD bits b = hex_bits bits (hex_of b)
bits_after S.Unit3 bits b = hex_bits bits (hex_of b)
bits_after S.Unit4 bits b = hex_bits bits (hex_of b)
bits_after S.High3 bits b = hex_bits bits (hex_of b)
bits_after S.High4 bits b = hex_bits bits (hex_of b)
bits_after S.LowBackslash bits b = bits
bits_after S.LowU bits b = bits
bits_after S.Low1 bits b = unwrap_or (hex_of b) 16
bits_after S.Low2 bits b = hex_bits bits (hex_of b)
bits_after S.Low3 bits b = hex_bits bits (hex_of b)
bits_after S.Low4 bits b = hex_bits bits (hex_of b)
bits_after S.SecondC2 bits b = tail_bits bits b
bits_after S.SecondE0 bits b = tail_bits bits b
bits_after S.SecondE1 bits b = tail_bits bits b
bits_after S.SecondED bits b = tail_bits bits b
bits_after S.SecondEE bits b = tail_bits bits b
bits_after S.SecondF0 bits b = tail_bits bits b
bits_after S.SecondF1 bits b = tail_bits bits b
bits_after S.SecondF4 bits b = tail_bits bits b
bits_after S.Tail2 bits b = tail_bits bits b
bits_after S.Tail1 bits b = tail_bits bits b

-- the high surrogate after a byte
abbrev pub high_after : StringMode → ℕ → ℕ → ℕ → ℕ
high_after S.High4 bits high b = hex_bits bits (hex_of b)
high_after _ bits high b = high

-- the character that an escape makes; 0 where it makes none
abbrev pub escaped_char : Option ℕ → ℕ
escaped_char None = 0
escaped_char (Some c) = c

-- the character that a byte finishes; 0 where it finishes none
abbrev pub char_of : StringMode → ℕ → ℕ → ℕ → ℕ
char_of S.Char bits high b = b
char_of S.Escape bits high b = escaped_char (unescape b)
char_of S.Unit4 bits high b = hex_bits bits (hex_of b)
char_of S.Low4 bits high b = pair_of high (hex_bits bits (hex_of b))
char_of S.SecondC2 bits high b = tail_bits bits b
char_of S.Tail1 bits high b = tail_bits bits b
char_of _ bits high b = 0

-- ---- numbers

-- after digits that an exponent may follow
unfoldable pub or_exp : ℕ → NumberMove
or_exp b = cond (is_e b) (NM.Go N.E) NM.End

unfoldable pub after_minus : ℕ → NumberMove
after_minus b = cond (is_digit_1_9 b) (NM.Go N.Int) (cond (eqb b 0x30) (NM.Go N.Zero) NM.Fault)

unfoldable pub after_zero : ℕ → NumberMove
after_zero b = cond (eqb b 0x2E) (NM.Go N.Dot) (or_exp b)

unfoldable pub after_int : ℕ → NumberMove
after_int b = cond (is_digit b) (NM.Go N.Int) (after_zero b)

unfoldable pub after_frac : ℕ → NumberMove
after_frac b = cond (is_digit b) (NM.Go N.Frac) (or_exp b)

unfoldable pub after_e : ℕ → NumberMove
after_e b = cond (is_digit b) (NM.Go N.Exp) (cond (eqb b 0x2B) (NM.Go N.Sign) (cond (eqb b 0x2D) (NM.Go N.Sign) NM.Fault))

unfoldable pub after_exp : ℕ → NumberMove
after_exp b = cond (is_digit b) (NM.Go N.Exp) NM.End

-- a digit must follow
unfoldable pub digit_only : ℕ → NumberMode → NumberMove
digit_only b n = cond (is_digit b) (NM.Go n) NM.Fault

abbrev pub number_move : NumberMode → ℕ → NumberMove
number_move N.Minus b = after_minus b
number_move N.Zero b = after_zero b
number_move N.Int b = after_int b
number_move N.Dot b = digit_only b N.Frac
number_move N.Frac b = after_frac b
number_move N.E b = after_e b
number_move N.Sign b = digit_only b N.Exp
number_move N.Exp b = after_exp b

-- a number may end after the part
abbrev pub may_end : NumberMode → Bool
may_end N.Minus = false
may_end N.Zero = true
may_end N.Int = true
may_end N.Dot = false
may_end N.Frac = true
may_end N.E = false
may_end N.Sign = false
may_end N.Exp = true

-- ---- words

-- the word of the grammar
abbrev pub word_of : Word → Tree.Word
word_of W.Null = Tree.null_word
word_of W.True = Tree.true_word
word_of W.False = Tree.false_word

-- byte b as letter i of a byte string
unfoldable pub letter_move : List ℕ → ℕ → ℕ → WordMove
letter_move s i b =
    cond (ltb i (length s))
    (cond (eqb b (get_or s i 0)) (cond (ltb (i + 1) (length s)) WM.Go WM.End) WM.Fault)
    WM.Fault

abbrev pub word_move : Word → ℕ → ℕ → WordMove
word_move w i b = letter_move (spelling (word_of w)) i b

-- ---- between tokens, and a byte anywhere

abbrev pub step_to : Mode → Act → Step
step_to m a = record { mode = m; ends = false; act = a }

abbrev pub fault_step : Step
fault_step = step_to (M.At P.Value) A.Fault

abbrev pub stay : Awaited → Step
stay p = step_to (M.At p) A.Pass

-- the first byte of a value
unfoldable pub value_start : ℕ → Step
value_start b =
    cond (eqb b 0x22) (step_to (M.Text S.Char) A.TextStart)
    (cond (eqb b 0x5B) (step_to (M.At P.First) A.OpenArray)
    (cond (eqb b 0x7B) (step_to (M.At P.First) A.OpenObject)
    (cond (is_digit_1_9 b) (step_to (M.Number N.Int) A.NumberStart)
    (cond (eqb b 0x30) (step_to (M.Number N.Zero) A.NumberStart)
    (cond (eqb b 0x2D) (step_to (M.Number N.Minus) A.NumberStart)
    (cond (eqb b 0x6E) (step_to (M.Word W.Null 1) A.Pass)
    (cond (eqb b 0x74) (step_to (M.Word W.True 1) A.Pass)
    (cond (eqb b 0x66) (step_to (M.Word W.False 1) A.Pass) fault_step))))))))

unfoldable pub at_value : ℕ → Step
at_value b = cond (is_blank b) (stay P.Value) (value_start b)

unfoldable pub at_first_element : ℕ → Step
at_first_element b = cond (is_blank b) (stay P.First) (cond (eqb b 0x5D) (step_to (M.At P.After) A.Close) (value_start b))

unfoldable pub at_first_key : ℕ → Step
at_first_key b =
    cond (is_blank b) (stay P.First)
    (cond (eqb b 0x7D) (step_to (M.At P.After) A.Close) (cond (eqb b 0x22) (step_to (M.Key S.Char) A.KeyStart) fault_step))

unfoldable pub at_key : ℕ → Step
at_key b = cond (is_blank b) (stay P.Key) (cond (eqb b 0x22) (step_to (M.Key S.Char) A.KeyStart) fault_step)

unfoldable pub at_colon : ℕ → Step
at_colon b = cond (is_blank b) (stay P.Colon) (cond (eqb b 0x3A) (stay P.Value) fault_step)

unfoldable pub after_root : ℕ → Step
after_root b = cond (is_blank b) (stay P.After) fault_step

unfoldable pub after_element : ℕ → Step
after_element b =
    cond (is_blank b) (stay P.After) (cond (eqb b 0x2C) (stay P.Value) (cond (eqb b 0x5D) (step_to (M.At P.After) A.Close) fault_step))

unfoldable pub after_pair : ℕ → Step
after_pair b =
    cond (is_blank b) (stay P.After) (cond (eqb b 0x2C) (stay P.Key) (cond (eqb b 0x7D) (step_to (M.At P.After) A.Close) fault_step))

-- after a value, by what it stands in
abbrev pub after_value : Top → ℕ → Step
after_value T.Bare b = after_root b
after_value T.Array b = after_element b
after_value T.Object b = after_pair b

-- after an opening byte; no reader stands there with nothing open
abbrev pub at_first : Top → ℕ → Step
at_first T.Bare b = at_first_element b
at_first T.Array b = at_first_element b
at_first T.Object b = at_first_key b

abbrev pub place_step : Awaited → Top → ℕ → Step
place_step P.Value top b = at_value b
place_step P.First top b = at_first top b
place_step P.Key top b = at_key b
place_step P.Colon top b = at_colon b
place_step P.After top b = after_value top b

abbrev pub key_step : StringMove → Step
key_step SM.Fault = fault_step
key_step (SM.Go s) = step_to (M.Key s) A.Pass
key_step SM.Char = step_to (M.Key S.Char) A.KeyChar
key_step SM.Close = step_to (M.At P.Colon) A.KeyEnd

abbrev pub text_step : StringMove → Step
text_step SM.Fault = fault_step
text_step (SM.Go s) = step_to (M.Text s) A.Pass
text_step SM.Char = step_to (M.Text S.Char) A.TextChar
text_step SM.Close = step_to (M.At P.After) A.TextEnd

-- a number ends before the byte, which then does what it does after a value
abbrev pub ended_before : Step → Step
ended_before st = record { mode = st.mode; ends = true; act = st.act }

abbrev pub number_step : NumberMove → Top → ℕ → Step
number_step NM.Fault top b = fault_step
number_step (NM.Go n) top b = step_to (M.Number n) A.NumberByte
number_step NM.End top b = ended_before (after_value top b)

abbrev pub word_step : WordMove → Word → ℕ → Step
word_step WM.Fault w i = fault_step
word_step WM.Go w i = step_to (M.Word w (i + 1)) A.Pass
word_step WM.End w i = step_to (M.At P.After) (A.WordEnd w)

-- what byte b does in a mode, with the innermost open value of kind top
abbrev pub step_of : Mode → Top → ℕ → Step
step_of (M.At p) top b = place_step p top b
step_of (M.Key s) top b = key_step (string_move s b)
step_of (M.Text s) top b = text_step (string_move s b)
step_of (M.Number n) top b = number_step (number_move n b) top b
step_of (M.Word w i) top b = word_step (word_move w i b) w i
