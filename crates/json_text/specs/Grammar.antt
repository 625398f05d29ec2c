-- JSON texts: RFC 8259, sections 2 to 5. `Value s v r`: s is a value that says v, followed by r; so for each phrase. A text is blanks, one value,
-- blanks, with no byte order mark before them. The fault place is that of REQUIREMENT.md, section 2: it knows no length limit, frames or book. Stated.
-- Assumes nothing.
use Rattle.std.specs.Prelude.{List, [], ◌∷◌, ◌++◌, ℕ, suc, ◌<◌, T, length, take}
use Rattle.json_text.specs.Bytes.{is_blank, Follow}
use Rattle.json_text.specs.Numbers.{Number}
use Rattle.json_text.specs.Strings.{Chars}
use Rattle.json_text.specs.Tree.{Word, null_word, true_word, false_word, Json, Values, Pairs, word, string, number, array, object, no_values, values, no_pairs, pairs}

-- section 2: ws
pub data Blanks : List ℕ → List ℕ → Type 0 where
  no_blanks : {r : List ℕ} → Blanks r r
  blanks : {b : ℕ} {s r : List ℕ} → T (is_blank b) → Blanks s r → Blanks (b ∷ s) r

-- section 3: the words `null`, `true` and `false`
unfoldable pub spelling : Word → List ℕ
spelling null_word = 0x6E ∷ 0x75 ∷ 0x6C ∷ 0x6C ∷ []
spelling true_word = 0x74 ∷ 0x72 ∷ 0x75 ∷ 0x65 ∷ []
spelling false_word = 0x66 ∷ 0x61 ∷ 0x6C ∷ 0x73 ∷ 0x65 ∷ []

mutual
  -- section 3
  pub data Value : List ℕ → Json → List ℕ → Type 0 where
    is_word : {x : Word} {s r : List ℕ} → Follow (spelling x) s r → Value s (word x) r
    value_string : {s cs r : List ℕ} → Chars s cs r → Value (0x22 ∷ s) (string cs) r
    is_number : {s ds r : List ℕ} → Number ds → Follow ds s r → Value s (number ds) r
    value_empty_array : {s r : List ℕ} → Blanks s (0x5D ∷ r) → Value (0x5B ∷ s) (array no_values) r
    value_array : {s r : List ℕ} {vs : Values} → Elements s vs (0x5D ∷ r) → Value (0x5B ∷ s) (array vs) r
    value_empty_object : {s r : List ℕ} → Blanks s (0x7D ∷ r) → Value (0x7B ∷ s) (object no_pairs) r
    value_object : {s r : List ℕ} {ps : Pairs} → Members s ps (0x7D ∷ r) → Value (0x7B ∷ s) (object ps) r

  -- a value with the blanks around it
  pub data Element : List ℕ → Json → List ℕ → Type 0 where
    element : {s t u r : List ℕ} {v : Json} → Blanks s t → Value t v u → Blanks u r → Element s v r

  -- section 5: value *( value-separator value )
  pub data Elements : List ℕ → Values → List ℕ → Type 0 where
    last_element : {s r : List ℕ} {v : Json} → Element s v r → Elements s (values v no_values) r
    more_elements : {s t r : List ℕ} {v : Json} {vs : Values} → Element s v (0x2C ∷ t) → Elements t vs r → Elements s (values v vs) r

  -- section 4: string name-separator value
  pub data Member : List ℕ → List ℕ → Json → List ℕ → Type 0 where
    member : {s t u x r k : List ℕ} {v : Json} → Blanks s (0x22 ∷ t) → Chars t k u → Blanks u (0x3A ∷ x) → Element x v r → Member s k v r

  -- section 4: member *( value-separator member )
  pub data Members : List ℕ → Pairs → List ℕ → Type 0 where
    last_member : {s k r : List ℕ} {v : Json} → Member s k v r → Members s (pairs k v no_pairs) r
    more_members : {s t k r : List ℕ} {v : Json} {ps : Pairs} → Member s k v (0x2C ∷ t) → Members t ps r → Members s (pairs k v ps) r

-- section 2: JSON-text = ws value ws
abbrev pub Text : List ℕ → Json → Type 0
Text s v = Element s v []

-- some text begins with the bytes
abbrev pub Begins : List ℕ → Type 0
Begins p = (s : List ℕ) × (v : Json) × Text (p ++ s) v

-- the fault place is the offset of the first byte after which no text begins with the bytes so far
pub record FaultAt (p : List ℕ) (i : ℕ) : Type 0 where
  pub inside : i < length p
  pub before : Begins (take i p)
  pub behind : Begins (take (suc i) p) → ⊥
