-- One line of a book, by itself: its six fields, what each may be, and what the line says. REQUIREMENT.md, section 3. Stated. Assumes nothing.
use Rattle.std.specs.Prelude.{Bool, true, not, cond, ◌&&◌, ◌||◌, List, [], ◌∷◌, ℕ, leb, ltb, eqb, length}
use Rattle.laws.specs.Ascii.{ascii}
use Rattle.laws.specs.Lists.{same, all}
use Rattle.table.specs.declared.kind.Scalar.TheVariants.{Null, True, False, Str, Num, Int}
use Rattle.table.specs.declared.kind.ValueKind.{ValueKind}
use Rattle.table.specs.declared.kind.ValueKind.TheVariants.{Plain, Rule}
use Rattle.book.specs.Entry.{Form, obj, arr, Entry, edge, end_state}
use Rattle.book.specs.Text.{between, split, is_number, number}

-- ---- words

abbrev pub word_obj : List ℕ
word_obj = ascii "obj"

abbrev pub word_arr : List ℕ
word_arr = ascii "arr"

abbrev pub word_null : List ℕ
word_null = ascii "null"

abbrev pub word_true : List ℕ
word_true = ascii "true"

abbrev pub word_false : List ℕ
word_false = ascii "false"

abbrev pub word_str : List ℕ
word_str = ascii "str"

abbrev pub word_num : List ℕ
word_num = ascii "num"

abbrev pub word_int : List ℕ
word_int = ascii "int"

abbrev pub word_end : List ℕ
word_end = ascii "end"

-- `-`, which means none
abbrev pub dash : List ℕ
dash = ascii "-"

-- ---- fields

-- form: `obj` or `arr`
unfoldable pub is_form : List ℕ → Bool
is_form s = same s word_obj || same s word_arr

-- the form that a form field names
unfoldable pub form_of : List ℕ → Form
form_of s = cond (same s word_obj) obj arr

-- a byte that a key may have
abbrev pub is_visible : ℕ → Bool
is_visible = between 0x21 0x7E

-- key: 1 to 32 bytes that a key may have, not `-` alone
unfoldable pub is_key : List ℕ → Bool
is_key s = leb 1 (length s) && (leb (length s) 32 && (all is_visible s && not (same s dash)))

-- the key that a field names; [] is none
unfoldable pub key_of : List ℕ → List ℕ
key_of s = cond (same s dash) [] s

-- what follows an `r`; nothing, where the field begins with another byte
unfoldable pub behind_r : List ℕ → List ℕ
behind_r [] = []
behind_r (b ∷ s) = cond (eqb b 114) s []

-- the word of a plain kind
unfoldable pub is_plain : List ℕ → Bool
is_plain s = same s word_null || (same s word_true || (same s word_false || (same s word_str || (same s word_num || same s word_int))))

-- value, not `end`: the word of a plain kind, or `r` and a number
unfoldable pub is_kind : List ℕ → Bool
is_kind s = is_plain s || is_number (behind_r s)

-- the kind that a value field names
unfoldable pub kind_in : List ℕ → ValueKind
kind_in s =
    cond (same s word_null) (Plain Null)
    (cond (same s word_true) (Plain True)
    (cond (same s word_false) (Plain False)
    (cond (same s word_str) (Plain Str)
    (cond (same s word_num) (Plain Num)
    (cond (same s word_int) (Plain Int) (Rule (number (behind_r s))))))))

-- a rule that a kind refers to is 0 to 31
unfoldable pub small_kind : ValueKind → Bool
small_kind (Plain s) = true
small_kind (Rule n) = ltb n 32

-- ---- six fields: rule, form, state, key, value, next

-- the line is well formed; any other line is refusal 3
unfoldable pub formed : List ℕ → List ℕ → List ℕ → List ℕ → List ℕ → List ℕ → Bool
formed r f q k v m =
    is_number r
    && (is_form f
    && (is_number q
    && cond (same v word_end)
    (same k dash && same m dash)
    (is_kind v && (is_number m && cond (same f word_obj) (is_key k) (same k dash)))))

-- the numbers of a line are within their limits; any other line is refusal 4
unfoldable pub small : List ℕ → List ℕ → List ℕ → List ℕ → Bool
small r q v m = ltb (number r) 32 && (ltb (number q) 16 && cond (same v word_end) true (small_kind (kind_in v) && ltb (number m) 16))

-- what a line says: an end state, or an edge
unfoldable pub entry_of : List ℕ → List ℕ → List ℕ → List ℕ → List ℕ → List ℕ → Entry
entry_of r f q k v m =
    cond (same v word_end)
    (end_state (number r) (form_of f) (number q))
    (edge (number r) (form_of f) (number q) (key_of k) (kind_in v) (number m))

-- what a line comes to: a refusal by its number, or an entry
pub data Said : Type 0 where
  bad : ℕ → Said
  good : Entry → Said

-- refusals 3 and 4, in this order
unfoldable pub say_fields : List ℕ → List ℕ → List ℕ → List ℕ → List ℕ → List ℕ → Said
say_fields r f q k v m = cond (formed r f q k v m) (cond (small r q v m) (good (entry_of r f q k v m)) (bad 4)) (bad 3)

-- exactly six parts
unfoldable pub say_parts : List (List ℕ) → Said
say_parts [] = bad 3
say_parts (r ∷ []) = bad 3
say_parts (r ∷ (f ∷ [])) = bad 3
say_parts (r ∷ (f ∷ (q ∷ []))) = bad 3
say_parts (r ∷ (f ∷ (q ∷ (k ∷ [])))) = bad 3
say_parts (r ∷ (f ∷ (q ∷ (k ∷ (v ∷ []))))) = bad 3
say_parts (r ∷ (f ∷ (q ∷ (k ∷ (v ∷ (m ∷ [])))))) = say_fields r f q k v m
say_parts (r ∷ (f ∷ (q ∷ (k ∷ (v ∷ (m ∷ (x ∷ ps))))))) = bad 3

-- a line without its LF: six fields with one space between
unfoldable pub say_line : List ℕ → Said
say_line l = say_parts (split 32 l)
