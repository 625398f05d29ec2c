-- Bytes, and what they are: REQUIREMENT.md, sections 2 and 8, those examples that ask for no book; then bytes of our own, for the slips that the
-- grammar rules out. Stated. Assumes nothing.
use Rattle.std.specs.Prelude.{List, [], ◌∷◌, ℕ}
use Rattle.json_text.specs.Tree.{true_word, Json, word, string, number, array, object, no_values, values, no_pairs, pairs}

-- ---- long texts, piece by piece

-- ` [1, 2.0e+3 ]`
abbrev spaced : List ℕ
spaced = 0x20 ∷ 0x5B ∷ 0x31 ∷ 0x2C ∷ 0x20 ∷ 0x32 ∷ 0x2E ∷ 0x30 ∷ 0x65 ∷ 0x2B ∷ 0x33 ∷ 0x20 ∷ 0x5D ∷ []

-- `{"n\u0061me":`, `"a",`, `"corners":`, `[[1,2]]}`
abbrev escaped_key : List ℕ
escaped_key =
    0x7B ∷ 0x22 ∷ 0x6E ∷ 0x5C ∷ 0x75 ∷ 0x30 ∷ 0x30 ∷ 0x36 ∷ 0x31 ∷ 0x6D ∷ 0x65 ∷ 0x22 ∷ 0x3A
    ∷ 0x22 ∷ 0x61 ∷ 0x22 ∷ 0x2C
    ∷ 0x22 ∷ 0x63 ∷ 0x6F ∷ 0x72 ∷ 0x6E ∷ 0x65 ∷ 0x72 ∷ 0x73 ∷ 0x22 ∷ 0x3A
    ∷ 0x5B ∷ 0x5B ∷ 0x31 ∷ 0x2C ∷ 0x32 ∷ 0x5D ∷ 0x5D ∷ 0x7D
    ∷ []

-- `"\uD83D\uDE00"`
abbrev surrogate_pair : List ℕ
surrogate_pair = 0x22 ∷ 0x5C ∷ 0x75 ∷ 0x44 ∷ 0x38 ∷ 0x33 ∷ 0x44 ∷ 0x5C ∷ 0x75 ∷ 0x44 ∷ 0x45 ∷ 0x30 ∷ 0x30 ∷ 0x22 ∷ []

-- ---- trees

-- the characters of `name` and `corners`
abbrev name : List ℕ
name = 0x6E ∷ 0x61 ∷ 0x6D ∷ 0x65 ∷ []

abbrev corners : List ℕ
corners = 0x63 ∷ 0x6F ∷ 0x72 ∷ 0x6E ∷ 0x65 ∷ 0x72 ∷ 0x73 ∷ []

-- the numbers 1, 2 and 2.0e+3
abbrev one : Json
one = number (0x31 ∷ [])

abbrev two : Json
two = number (0x32 ∷ [])

abbrev two_thousand : Json
two_thousand = number (0x32 ∷ 0x2E ∷ 0x30 ∷ 0x65 ∷ 0x2B ∷ 0x33 ∷ [])

-- `[v]`, `[v,w]`
abbrev list1 : Json → Json
list1 v = array (values v no_values)

abbrev list2 : Json → Json → Json
list2 v w = array (values v (values w no_values))

-- ---- the table

-- bytes with their fault place; bytes that some text begins with, and that are no whole text; a text with its tree
pub data Row : Type 0 where
  faults : List ℕ → ℕ → Row
  unfinished : List ℕ → Row
  tells : List ℕ → Json → Row

abbrev pub rows : List Row
rows =
    -- 01
    faults (0x30 ∷ 0x31 ∷ []) 1
    -- "\uDC00": a low surrogate alone
    ∷ faults (0x22 ∷ 0x5C ∷ 0x75 ∷ 0x44 ∷ 0x43 ∷ 0x30 ∷ 0x30 ∷ 0x22 ∷ []) 4
    -- "\uD800x": a high surrogate alone
    ∷ faults (0x22 ∷ 0x5C ∷ 0x75 ∷ 0x44 ∷ 0x38 ∷ 0x30 ∷ 0x30 ∷ 0x78 ∷ 0x22 ∷ []) 7
    -- quote, E0, 80: a sequence that is longer than needed
    ∷ faults (0x22 ∷ 0xE0 ∷ 0x80 ∷ []) 2
    -- quote, ED, A0, 80: a surrogate in UTF-8
    ∷ faults (0x22 ∷ 0xED ∷ 0xA0 ∷ 0x80 ∷ []) 2
    -- quote, F4, 90: above the last character
    ∷ faults (0x22 ∷ 0xF4 ∷ 0x90 ∷ []) 2
    -- a tab in a string
    ∷ faults (0x22 ∷ 0x61 ∷ 0x09 ∷ 0x22 ∷ []) 2
    -- RS in a string
    ∷ faults (0x22 ∷ 0x1E ∷ 0x22 ∷ []) 1
    -- a byte order mark before {}
    ∷ faults (0xEF ∷ 0xBB ∷ 0xBF ∷ 0x7B ∷ 0x7D ∷ []) 0
    -- nulx
    ∷ faults (0x6E ∷ 0x75 ∷ 0x6C ∷ 0x78 ∷ []) 3
    -- {}x
    ∷ faults (0x7B ∷ 0x7D ∷ 0x78 ∷ []) 2
    -- [1,]
    ∷ faults (0x5B ∷ 0x31 ∷ 0x2C ∷ 0x5D ∷ []) 3
    -- [1}
    ∷ faults (0x5B ∷ 0x31 ∷ 0x7D ∷ []) 2
    -- {"a":1,}
    ∷ faults (0x7B ∷ 0x22 ∷ 0x61 ∷ 0x22 ∷ 0x3A ∷ 0x31 ∷ 0x2C ∷ 0x7D ∷ []) 7
    -- 1.]
    ∷ faults (0x31 ∷ 0x2E ∷ 0x5D ∷ []) 2
    -- no bytes
    ∷ unfinished []
    -- `-`
    ∷ unfinished (0x2D ∷ [])
    -- [1
    ∷ unfinished (0x5B ∷ 0x31 ∷ [])
    -- {"a":
    ∷ unfinished (0x7B ∷ 0x22 ∷ 0x61 ∷ 0x22 ∷ 0x3A ∷ [])
    -- LF
    ∷ unfinished (0x0A ∷ [])
    -- [1, 2.0e+3 ] after a blank
    ∷ tells spaced (list2 one two_thousand)
    -- {"n\u0061me":"a","corners":[[1,2]]}: the key is `name`
    ∷ tells escaped_key (object (pairs name (string (0x61 ∷ [])) (pairs corners (list1 (list2 one two)) no_pairs)))
    -- "\uD83D\uDE00": a surrogate pair
    ∷ tells surrogate_pair (string (0x1F600 ∷ []))
    -- quote, F0, 9F, 98, 80, quote: the character 1F600 in UTF-8
    ∷ tells (0x22 ∷ 0xF0 ∷ 0x9F ∷ 0x98 ∷ 0x80 ∷ 0x22 ∷ []) (string (0x1F600 ∷ []))
    -- `-0`
    ∷ tells (0x2D ∷ 0x30 ∷ []) (number (0x2D ∷ 0x30 ∷ []))
    -- {}
    ∷ tells (0x7B ∷ 0x7D ∷ []) (object no_pairs)
    -- []
    ∷ tells (0x5B ∷ 0x5D ∷ []) (array no_values)
    -- `true` between blanks
    ∷ tells (0x20 ∷ 0x74 ∷ 0x72 ∷ 0x75 ∷ 0x65 ∷ 0x20 ∷ []) (word true_word)
    ∷ []
