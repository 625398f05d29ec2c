-- UTF-8 sequences of two bytes and more: RFC 3629, section 4, row by row. `Utf8 s c r`: s is a sequence for the character number c,
-- followed by r. The number is made of the bits by section 3. Stated. Assumes nothing.
use Rattle.std.specs.Prelude.{Bool, List, ◌∷◌, ℕ, ◌+◌, ◌-◌, ◌*◌, T}
use Rattle.json_text.specs.Bytes.{within}

-- UTF8-tail
abbrev pub is_tail : ℕ → Bool
is_tail b = within 0x80 0xBF b

-- the bits so far, and the six bits of a byte after the first
unfoldable pub six_more : ℕ → ℕ → ℕ
six_more bits b = bits * 64 + (b - 0x80)

pub data Utf8 : List ℕ → ℕ → List ℕ → Type 0 where
  row_c2_df : {a b : ℕ} {r : List ℕ} → T (within 0xC2 0xDF a) → T (is_tail b) → Utf8 (a ∷ b ∷ r) (six_more (a - 0xC0) b) r
  row_e0 : {b c : ℕ} {r : List ℕ} → T (within 0xA0 0xBF b) → T (is_tail c) → Utf8 (0xE0 ∷ b ∷ c ∷ r) (six_more (six_more 0 b) c) r
  row_e1_ec : {a b c : ℕ} {r : List ℕ} → T (within 0xE1 0xEC a) → T (is_tail b) → T (is_tail c)
      → Utf8 (a ∷ b ∷ c ∷ r) (six_more (six_more (a - 0xE0) b) c) r
  row_ed : {b c : ℕ} {r : List ℕ} → T (within 0x80 0x9F b) → T (is_tail c) → Utf8 (0xED ∷ b ∷ c ∷ r) (six_more (six_more 0xD b) c) r
  row_ee_ef : {a b c : ℕ} {r : List ℕ} → T (within 0xEE 0xEF a) → T (is_tail b) → T (is_tail c)
      → Utf8 (a ∷ b ∷ c ∷ r) (six_more (six_more (a - 0xE0) b) c) r
  row_f0 : {b c d : ℕ} {r : List ℕ} → T (within 0x90 0xBF b) → T (is_tail c) → T (is_tail d)
      → Utf8 (0xF0 ∷ b ∷ c ∷ d ∷ r) (six_more (six_more (six_more 0 b) c) d) r
  row_f1_f3 : {a b c d : ℕ} {r : List ℕ} → T (within 0xF1 0xF3 a) → T (is_tail b) → T (is_tail c) → T (is_tail d)
      → Utf8 (a ∷ b ∷ c ∷ d ∷ r) (six_more (six_more (six_more (a - 0xF0) b) c) d) r
  row_f4 : {b c d : ℕ} {r : List ℕ} → T (within 0x80 0x8F b) → T (is_tail c) → T (is_tail d)
      → Utf8 (0xF4 ∷ b ∷ c ∷ d ∷ r) (six_more (six_more (six_more 4 b) c) d) r
