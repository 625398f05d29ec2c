-- Strings: RFC 8259, section 7, with UTF-8 by RFC 3629. Stricter, by REQUIREMENT.md, section 2: an escaped surrogate stands only as a high one (D800
-- to DBFF) followed by an escaped low one (DC00 to DFFF). `Char s c r`: s is the character number c, followed by r. Stated. Assumes nothing.
use Rattle.std.specs.Prelude.{Bool, not, ◌||◌, List, [], ◌∷◌, ℕ, ◌+◌, ◌-◌, ◌*◌, T}
use Rattle.json_text.specs.Bytes.{within}
use Rattle.json_text.specs.Utf8.{Utf8}

-- unescaped, of one byte: %x20-21 / %x23-5B / %x5D-7F
unfoldable pub is_unescaped : ℕ → Bool
is_unescaped b = within 0x20 0x21 b || within 0x23 0x5B b || within 0x5D 0x7F b

-- the byte after a backslash, and the character that the two stand for
pub data Escaped : ℕ → ℕ → Type 0 where
  quotation_mark : Escaped 0x22 0x22
  reverse_solidus : Escaped 0x5C 0x5C
  solidus : Escaped 0x2F 0x2F
  backspace : Escaped 0x62 0x08
  form_feed : Escaped 0x66 0x0C
  line_feed : Escaped 0x6E 0x0A
  carriage_return : Escaped 0x72 0x0D
  tab : Escaped 0x74 0x09

-- HEXDIG, in both cases, and its value
pub data Hex : ℕ → ℕ → Type 0 where
  hex_digit : {b : ℕ} → T (within 0x30 0x39 b) → Hex b (b - 0x30)
  hex_upper : {b : ℕ} → T (within 0x41 0x46 b) → Hex b (b - 0x41 + 10)
  hex_lower : {b : ℕ} → T (within 0x61 0x66 b) → Hex b (b - 0x61 + 10)

-- the digits so far, and one more
unfoldable pub hex_more : ℕ → ℕ → ℕ
hex_more bits d = bits * 16 + d

-- a backslash, `u` and four hexadecimal digits: a code unit
pub data CodeUnit : List ℕ → ℕ → List ℕ → Type 0 where
  code_unit : {a b c d w x y z : ℕ} {r : List ℕ} → Hex a w → Hex b x → Hex c y → Hex d z
      → CodeUnit (0x5C ∷ 0x75 ∷ a ∷ b ∷ c ∷ d ∷ r) (hex_more (hex_more (hex_more w x) y) z) r

-- the character of a surrogate pair
unfoldable pub paired : ℕ → ℕ → ℕ
paired high low = 0x10000 + (high - 0xD800) * 0x400 + (low - 0xDC00)

pub data Char : List ℕ → ℕ → List ℕ → Type 0 where
  unescaped : {b : ℕ} {r : List ℕ} → T (is_unescaped b) → Char (b ∷ r) b r
  multibyte : {c : ℕ} {s r : List ℕ} → Utf8 s c r → Char s c r
  escaped : {b c : ℕ} {r : List ℕ} → Escaped b c → Char (0x5C ∷ b ∷ r) c r
  unit : {u : ℕ} {s r : List ℕ} → CodeUnit s u r → T (not (within 0xD800 0xDFFF u)) → Char s u r
  surrogates : {u v : ℕ} {s t r : List ℕ} → CodeUnit s u t → CodeUnit t v r → T (within 0xD800 0xDBFF u) → T (within 0xDC00 0xDFFF v)
      → Char s (paired u v) r

-- the characters of a string, up to and with its closing quotation mark
pub data Chars : List ℕ → List ℕ → List ℕ → Type 0 where
  closing_quote : {r : List ℕ} → Chars (0x22 ∷ r) [] r
  chars : {c : ℕ} {s t cs r : List ℕ} → Char s c t → Chars t cs r → Chars s (c ∷ cs) r
