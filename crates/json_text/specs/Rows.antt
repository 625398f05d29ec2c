-- The rows of RFC 3629, section 4, for sequences of two bytes and more: which first and second bytes go together, and how many bytes follow them.
-- `sequence-iff-utf8` and `listed-iff-begins` in proofs/ say that these rows and the grammar of `Utf8` are the same. Stated. Assumes nothing.
use mathlib.Core.List.{List, [], ◌∷◌, Memᴰ}
use Rattle.std.specs.Prelude.{ℕ, zero, suc, T}
use Rattle.json_text.specs.Bytes.{within}
use Rattle.json_text.specs.Utf8.{is_tail}

-- a row: the first byte from and to, the second byte from and to, and how many bytes of UTF8-tail follow these two
pub record Row : Type 0 where
  pub lead_from : ℕ
  pub lead_to : ℕ
  pub second_from : ℕ
  pub second_to : ℕ
  pub tails : ℕ

abbrev row : ℕ → ℕ → ℕ → ℕ → ℕ → Row
row a b c d n = record { lead_from = a; lead_to = b; second_from = c; second_to = d; tails = n }

abbrev pub rows : List Row
rows =
    -- UTF8-2
    row 0xC2 0xDF 0x80 0xBF 0
    -- UTF8-3
    ∷ row 0xE0 0xE0 0xA0 0xBF 1
    ∷ row 0xE1 0xEC 0x80 0xBF 1
    ∷ row 0xED 0xED 0x80 0x9F 1
    ∷ row 0xEE 0xEF 0x80 0xBF 1
    -- UTF8-4
    ∷ row 0xF0 0xF0 0x90 0xBF 2
    ∷ row 0xF1 0xF3 0x80 0xBF 2
    ∷ row 0xF4 0xF4 0x80 0x8F 2
    ∷ []

-- the row lists a as a first byte with b as the second
abbrev pub Lists : Row → ℕ → ℕ → Type 0
Lists x a b = T (within x.lead_from x.lead_to a) × T (within x.second_from x.second_to b)

-- some row lists them
abbrev pub Listed : ℕ → ℕ → Type 0
Listed a b = (x : Row) × Memᴰ x rows × Lists x a b

-- n bytes of UTF8-tail, followed by r
pub data Tails : ℕ → List ℕ → List ℕ → Type 0 where
  no_tails : {r : List ℕ} → Tails zero r r
  tails : {n b : ℕ} {s r : List ℕ} → T (is_tail b) → Tails n s r → Tails (suc n) (b ∷ s) r

-- a sequence by the rows, followed by r
pub data Sequence : List ℕ → List ℕ → Type 0 where
  sequence : {x : Row} {a b : ℕ} {s r : List ℕ} → Memᴰ x rows → Lists x a b → Tails x.tails s r → Sequence (a ∷ b ∷ s) r
