-- The grammar cut at the lexer's places: what may follow each place, up to and with the byte that closes the innermost open value.
-- `value-of-phrase` and `text-of-phrase` join it to the grammar of specs/. Assumes nothing.
use mathlib.Core.List.{List, [], ◌∷◌}
use Prim.Native.Nat.{ℕ}
use lib.Dec.{T}
use Rattle.json_text.specs.Bytes.{is_blank, Follow}
use Rattle.json_text.specs.Numbers.{Number}
use Rattle.json_text.specs.Strings.{Chars}
use Rattle.json_text.specs.Tree.{Word, Json, Values, Pairs, word, string, number, array, object, no_values, values, no_pairs, pairs}
use Rattle.json_text.specs.Grammar.{spelling, Blanks, no_blanks, blanks, Value, is_word, value_string, is_number, value_empty_array, value_array, value_empty_object, value_object, Element, element, Elements, last_element, more_elements, Member, member, Members, last_member, more_members, Text}

-- blanks to the end of the text
pub data Ending : List ℕ → Type 0 where
  ending : Ending []
  blank-ending : {b : ℕ} {s : List ℕ} → T (is_blank b) → Ending s → Ending (b ∷ s)

mutual
  -- a value that begins here
  pub data FromValue : List ℕ → Json → List ℕ → Type 0 where
    from-word : {x : Word} {s r : List ℕ} → Follow (spelling x) s r → FromValue s (word x) r
    from-string : {s cs r : List ℕ} → Chars s cs r → FromValue (0x22 ∷ s) (string cs) r
    from-number : {s ds r : List ℕ} → Number ds → Follow ds s r → FromValue s (number ds) r
    from-array : {s r : List ℕ} {vs : Values} → AtFirstElement s vs r → FromValue (0x5B ∷ s) (array vs) r
    from-object : {s r : List ℕ} {ps : Pairs} → AtFirstKey s ps r → FromValue (0x7B ∷ s) (object ps) r

  -- a value is awaited
  pub data AtValue : List ℕ → Json → List ℕ → Type 0 where
    blank-value : {b : ℕ} {s r : List ℕ} {v : Json} → T (is_blank b) → AtValue s v r → AtValue (b ∷ s) v r
    here-value : {s r : List ℕ} {v : Json} → FromValue s v r → AtValue s v r

  -- after `[`
  pub data AtFirstElement : List ℕ → Values → List ℕ → Type 0 where
    blank-first : {b : ℕ} {s r : List ℕ} {vs : Values} → T (is_blank b) → AtFirstElement s vs r → AtFirstElement (b ∷ s) vs r
    close-first : {r : List ℕ} → AtFirstElement (0x5D ∷ r) no_values r
    value-first : {s t r : List ℕ} {v : Json} {vs : Values} → FromValue s v t → AfterElement t vs r → AtFirstElement s (values v vs) r

  -- after an element
  pub data AfterElement : List ℕ → Values → List ℕ → Type 0 where
    blank-element : {b : ℕ} {s r : List ℕ} {vs : Values} → T (is_blank b) → AfterElement s vs r → AfterElement (b ∷ s) vs r
    close-array : {r : List ℕ} → AfterElement (0x5D ∷ r) no_values r
    comma-element : {s t r : List ℕ} {v : Json} {vs : Values} → AtValue s v t → AfterElement t vs r → AfterElement (0x2C ∷ s) (values v vs) r

  -- after `{`
  pub data AtFirstKey : List ℕ → Pairs → List ℕ → Type 0 where
    blank-first-key : {b : ℕ} {s r : List ℕ} {ps : Pairs} → T (is_blank b) → AtFirstKey s ps r → AtFirstKey (b ∷ s) ps r
    close-first-key : {r : List ℕ} → AtFirstKey (0x7D ∷ r) no_pairs r
    quote-first-key : {s n t r : List ℕ} {v : Json} {ps : Pairs} → Chars s n t → AtColon t v ps r → AtFirstKey (0x22 ∷ s) (pairs n v ps) r

  -- after a comma in an object
  pub data AtKey : List ℕ → Pairs → List ℕ → Type 0 where
    blank-key : {b : ℕ} {s r : List ℕ} {ps : Pairs} → T (is_blank b) → AtKey s ps r → AtKey (b ∷ s) ps r
    quote-key : {s n t r : List ℕ} {v : Json} {ps : Pairs} → Chars s n t → AtColon t v ps r → AtKey (0x22 ∷ s) (pairs n v ps) r

  -- after a key
  pub data AtColon : List ℕ → Json → Pairs → List ℕ → Type 0 where
    blank-colon : {b : ℕ} {s r : List ℕ} {v : Json} {ps : Pairs} → T (is_blank b) → AtColon s v ps r → AtColon (b ∷ s) v ps r
    here-colon : {s t r : List ℕ} {v : Json} {ps : Pairs} → AtValue s v t → AfterPair t ps r → AtColon (0x3A ∷ s) v ps r

  -- after a pair
  pub data AfterPair : List ℕ → Pairs → List ℕ → Type 0 where
    blank-pair : {b : ℕ} {s r : List ℕ} {ps : Pairs} → T (is_blank b) → AfterPair s ps r → AfterPair (b ∷ s) ps r
    close-object : {r : List ℕ} → AfterPair (0x7D ∷ r) no_pairs r
    comma-pair : {s r : List ℕ} {ps : Pairs} → AtKey s ps r → AfterPair (0x2C ∷ s) ps r

-- ---- each phrase in the grammar's words, its blanks gathered

data Led : List ℕ → Json → List ℕ → Type 0 where
  led : {s t r : List ℕ} {v : Json} → Blanks s t → Value t v r → Led s v r

data MoreElements : Values → List ℕ → List ℕ → Type 0 where
  no-elements : {r : List ℕ} → MoreElements no_values (0x5D ∷ r) r
  elements-behind : {t r : List ℕ} {vs : Values} → Elements t vs (0x5D ∷ r) → MoreElements vs (0x2C ∷ t) r

data LedElements : List ℕ → Values → List ℕ → Type 0 where
  led-elements : {s t r : List ℕ} {vs : Values} → Blanks s t → MoreElements vs t r → LedElements s vs r

data FirstElements : List ℕ → Values → List ℕ → Type 0 where
  none_first : {s r : List ℕ} → Blanks s (0x5D ∷ r) → FirstElements s no_values r
  some_first : {s r : List ℕ} {vs : Values} → Elements s vs (0x5D ∷ r) → FirstElements s vs r

data MoreMembers : Pairs → List ℕ → List ℕ → Type 0 where
  no-members : {r : List ℕ} → MoreMembers no_pairs (0x7D ∷ r) r
  members-behind : {t r : List ℕ} {ps : Pairs} → Members t ps (0x7D ∷ r) → MoreMembers ps (0x2C ∷ t) r

data LedMembers : List ℕ → Pairs → List ℕ → Type 0 where
  led-members : {s t r : List ℕ} {ps : Pairs} → Blanks s t → MoreMembers ps t r → LedMembers s ps r

data KeyBehind : List ℕ → Json → Pairs → List ℕ → Type 0 where
  key-behind : {s t u r : List ℕ} {v : Json} {ps : Pairs} → Blanks s (0x3A ∷ t) → Element t v u → MoreMembers ps u r → KeyBehind s v ps r

data FirstMembers : List ℕ → Pairs → List ℕ → Type 0 where
  none-first-member : {s r : List ℕ} → Blanks s (0x7D ∷ r) → FirstMembers s no_pairs r
  some-first-member : {s r : List ℕ} {ps : Pairs} → Members s ps (0x7D ∷ r) → FirstMembers s ps r

led-blank : {b : ℕ} {s r : List ℕ} {v : Json} → T (is_blank b) → Led s v r → Led (b ∷ s) v r
led-blank h (led c v) = led (blanks h c) v

elements-of-led : {s t r : List ℕ} {v : Json} {vs : Values} → Led s v t → LedElements t vs r → Elements s (values v vs) (0x5D ∷ r)
elements-of-led (led b v) (led-elements c no-elements) = last_element (element b v c)
elements-of-led (led b v) (led-elements c (elements-behind e)) = more_elements (element b v c) e

led-elements-blank : {b : ℕ} {s r : List ℕ} {vs : Values} → T (is_blank b) → LedElements s vs r → LedElements (b ∷ s) vs r
led-elements-blank h (led-elements c m) = led-elements (blanks h c) m

element-blank : {b : ℕ} {s r : List ℕ} {v : Json} → T (is_blank b) → Element s v r → Element (b ∷ s) v r
element-blank h (element b v c) = element (blanks h b) v c

first-elements-blank : {b : ℕ} {s r : List ℕ} {vs : Values} → T (is_blank b) → FirstElements s vs r → FirstElements (b ∷ s) vs r
first-elements-blank h (none_first c) = none_first (blanks h c)
first-elements-blank h (some_first (last_element e)) = some_first (last_element (element-blank h e))
first-elements-blank h (some_first (more_elements e f)) = some_first (more_elements (element-blank h e) f)

array-of-first : {s r : List ℕ} {vs : Values} → FirstElements s vs r → Value (0x5B ∷ s) (array vs) r
array-of-first (none_first c) = value_empty_array c
array-of-first (some_first e) = value_array e

led-members-blank : {b : ℕ} {s r : List ℕ} {ps : Pairs} → T (is_blank b) → LedMembers s ps r → LedMembers (b ∷ s) ps r
led-members-blank h (led-members c m) = led-members (blanks h c) m

key-behind-blank : {b : ℕ} {s r : List ℕ} {v : Json} {ps : Pairs} → T (is_blank b) → KeyBehind s v ps r → KeyBehind (b ∷ s) v ps r
key-behind-blank h (key-behind c e m) = key-behind (blanks h c) e m

key-behind-of-led : {s t r : List ℕ} {v : Json} {ps : Pairs} → Led s v t → LedMembers t ps r → KeyBehind (0x3A ∷ s) v ps r
key-behind-of-led (led b v) (led-members c m) = key-behind no_blanks (element b v c) m

members-of-key : {s n t r : List ℕ} {v : Json} {ps : Pairs} → Chars s n t → KeyBehind t v ps r → Members (0x22 ∷ s) (pairs n v ps) (0x7D ∷ r)
members-of-key c (key-behind b e no-members) = last_member (member no_blanks c b e)
members-of-key c (key-behind b e (members-behind m)) = more_members (member no_blanks c b e) m

member-blank : {b : ℕ} {s n r : List ℕ} {v : Json} → T (is_blank b) → Member s n v r → Member (b ∷ s) n v r
member-blank h (member b c d e) = member (blanks h b) c d e

members-blank : {b : ℕ} {s r : List ℕ} {ps : Pairs} → T (is_blank b) → Members s ps r → Members (b ∷ s) ps r
members-blank h (last_member m) = last_member (member-blank h m)
members-blank h (more_members m f) = more_members (member-blank h m) f

first-members-blank : {b : ℕ} {s r : List ℕ} {ps : Pairs} → T (is_blank b) → FirstMembers s ps r → FirstMembers (b ∷ s) ps r
first-members-blank h (none-first-member c) = none-first-member (blanks h c)
first-members-blank h (some-first-member m) = some-first-member (members-blank h m)

object-of-first : {s r : List ℕ} {ps : Pairs} → FirstMembers s ps r → Value (0x7B ∷ s) (object ps) r
object-of-first (none-first-member c) = value_empty_object c
object-of-first (some-first-member m) = value_object m

mutual
  -- each value by places is a value of the grammar
  pub value-of-phrase : {s r : List ℕ} {v : Json} → FromValue s v r → Value s v r
  value-of-phrase (from-word f) = is_word f
  value-of-phrase (from-string c) = value_string c
  value-of-phrase (from-number n f) = is_number n f
  value-of-phrase (from-array e) = array-of-first (first-elements e)
  value-of-phrase (from-object e) = object-of-first (first-members e)

  led-of-phrase : {s r : List ℕ} {v : Json} → AtValue s v r → Led s v r
  led-of-phrase (blank-value h e) = led-blank h (led-of-phrase e)
  led-of-phrase (here-value e) = led no_blanks (value-of-phrase e)

  first-elements : {s r : List ℕ} {vs : Values} → AtFirstElement s vs r → FirstElements s vs r
  first-elements (blank-first h e) = first-elements-blank h (first-elements e)
  first-elements close-first = none_first no_blanks
  first-elements (value-first e f) = some_first (elements-of-led (led no_blanks (value-of-phrase e)) (after-element f))

  after-element : {s r : List ℕ} {vs : Values} → AfterElement s vs r → LedElements s vs r
  after-element (blank-element h e) = led-elements-blank h (after-element e)
  after-element close-array = led-elements no_blanks no-elements
  after-element (comma-element e f) = led-elements no_blanks (elements-behind (elements-of-led (led-of-phrase e) (after-element f)))

  first-members : {s r : List ℕ} {ps : Pairs} → AtFirstKey s ps r → FirstMembers s ps r
  first-members (blank-first-key h e) = first-members-blank h (first-members e)
  first-members close-first-key = none-first-member no_blanks
  first-members (quote-first-key c e) = some-first-member (members-of-key c (behind-key e))

  members-of-phrase : {s r : List ℕ} {ps : Pairs} → AtKey s ps r → Members s ps (0x7D ∷ r)
  members-of-phrase (blank-key h e) = members-blank h (members-of-phrase e)
  members-of-phrase (quote-key c e) = members-of-key c (behind-key e)

  behind-key : {s r : List ℕ} {v : Json} {ps : Pairs} → AtColon s v ps r → KeyBehind s v ps r
  behind-key (blank-colon h e) = key-behind-blank h (behind-key e)
  behind-key (here-colon e f) = key-behind-of-led (led-of-phrase e) (after-pair f)

  after-pair : {s r : List ℕ} {ps : Pairs} → AfterPair s ps r → LedMembers s ps r
  after-pair (blank-pair h e) = led-members-blank h (after-pair e)
  after-pair close-object = led-members no_blanks no-members
  after-pair (comma-pair e) = led-members no_blanks (members-behind (members-of-phrase e))

blanks-of-ending : {s : List ℕ} → Ending s → Blanks s []
blanks-of-ending ending = no_blanks
blanks-of-ending (blank-ending h e) = blanks h (blanks-of-ending e)

text-of-led : {s r : List ℕ} {v : Json} → Led s v r → Blanks r [] → Text s v
text-of-led (led b v) c = element b v c

-- each text by places is a text of the grammar
pub text-of-phrase : {s r : List ℕ} {v : Json} → AtValue s v r → Ending r → Text s v
text-of-phrase e z = text-of-led (led-of-phrase e) (blanks-of-ending z)
