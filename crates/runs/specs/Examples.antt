-- Books and values, each with its verdict: REQUIREMENT.md, section 8, those examples that are trees; then a book of our own, for the slips that are to
-- be ruled out. Stated. Assumes nothing.
use Rattle.std.specs.Prelude.{Bool, true, false, List, [], ◌∷◌, ℕ}
use Rattle.laws.specs.Ascii.{ascii}
use Rattle.json_text.specs.Tree.{Json, string, number, array, object, no_values, values, no_pairs, pairs}
use Rattle.table.specs.declared.kind.Scalar.TheVariants.{Num, Int}
use Rattle.table.specs.declared.kind.ValueKind.TheVariants.{Plain, Rule}
use Rattle.book.specs.Entry.{obj, arr, Entry, edge, end_state}
use Rattle.book.specs.Load.{loads}
use Rattle.book.specs.Examples.{book_b}

-- ---- keys and values

abbrev corners : List ℕ
corners = ascii "corners"

abbrev name : List ℕ
name = ascii "name"

abbrev a : List ℕ
a = ascii "a"

abbrev b : List ℕ
b = ascii "b"

abbrev c : List ℕ
c = ascii "c"

abbrev d : List ℕ
d = ascii "d"

abbrev z : List ℕ
z = ascii "z"

abbrev one : Json
one = number (ascii "1")

abbrev two : Json
two = number (ascii "2")

abbrev one_point_zero : Json
one_point_zero = number (ascii "1.0")

-- the string without characters
abbrev empty : Json
empty = string []

-- `[v]`, `[v,w]`
abbrev list1 : Json → Json
list1 v = array (values v no_values)

abbrev list2 : Json → Json → Json
list2 v w = array (values v (values w no_values))

-- `{"k":v}`, `{"k":v,"l":w}`
abbrev object1 : List ℕ → Json → Json
object1 k v = object (pairs k v no_pairs)

abbrev object2 : List ℕ → Json → List ℕ → Json → Json
object2 k v l w = object (pairs k v (pairs l w no_pairs))

-- ---- books

-- a book in which each state of rule 0 is an end state, so that a pair which is passed over shows
abbrev pub book_c : List Entry
book_c =
    edge 0 obj 0 a (Plain Int) 1
    ∷ edge 0 obj 1 b (Plain Int) 2
    ∷ edge 0 obj 1 c (Rule 0) 2
    ∷ edge 0 obj 1 d (Rule 1) 2
    ∷ end_state 0 obj 0
    ∷ end_state 0 obj 1
    ∷ end_state 0 obj 2
    ∷ edge 1 arr 0 [] (Plain Num) 1
    ∷ end_state 1 arr 1
    ∷ []

-- ---- the table

-- a book, a value, and whether the value is valid under the book
pub record Row : Type 0 where
  pub book : List Entry
  pub value : Json
  pub verdict : Bool

abbrev row : List Entry → Json → Bool → Row
row es v x = record { book = es; value = v; verdict = x }

-- the rows, where es are the entries of book B
abbrev pub rows_with : List Entry → List Row
rows_with es =
    -- {}
    row es (object no_pairs) false
    -- {"corners":[],"name":""}
    ∷ row es (object2 corners (array no_values) name empty) true
    -- {"name":"","corners":[]}
    ∷ row es (object2 name empty corners (array no_values)) true
    -- {"name":"","name":"","corners":[]}
    ∷ row es (object (pairs name empty (pairs name empty (pairs corners (array no_values) no_pairs)))) false
    -- {"name":""}
    ∷ row es (object1 name empty) false
    -- {"corners":[[1.0,2]],"name":""}
    ∷ row es (object2 corners (list1 (list2 one_point_zero two)) name empty) true
    -- {"corners":[[1,2]],"name":""}
    ∷ row es (object2 corners (list1 (list2 one two)) name empty) true
    -- 12
    ∷ row es (number (ascii "12")) false
    -- {}
    ∷ row book_c (object no_pairs) true
    -- {"a":""}: a key seen that no edge takes
    ∷ row book_c (object1 a empty) false
    -- {"a":1,"a":1}: a key twice
    ∷ row book_c (object2 a one a one) false
    -- {"z":1}: an unknown key
    ∷ row book_c (object1 z one) false
    -- {"b":1}: an edge that is not at state 0
    ∷ row book_c (object1 b one) false
    -- {"b":1,"a":1}
    ∷ row book_c (object2 b one a one) true
    -- {"c":{"b":1,"a":1},"a":1}
    ∷ row book_c (object2 c (object2 b one a one) a one) true
    -- {"c":{"a":1,"a":1},"a":1}: a key twice within
    ∷ row book_c (object2 c (object2 a one a one) a one) false
    -- {"d":[1.0],"a":1}
    ∷ row book_c (object2 d (list1 one_point_zero) a one) true
    -- {"d":[1,2],"a":1}: an element that no edge takes
    ∷ row book_c (object2 d (list2 one two) a one) false
    -- []: an array under an `obj` rule
    ∷ row book_c (array no_values) false
    ∷ []

abbrev pub rows : List Row
rows = rows_with (loads book_b).entries
