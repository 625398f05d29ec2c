-- Worked examples of load, by computation: near misses of its refusals, and the entries of book B. Assumes nothing.
use mathlib.Core.Bool.{true, not, ◌&&◌}
use mathlib.Core.List.{List, [], ◌∷◌, ◌++◌}
use mathlib.Core.Path.{◌≡◌, refl}
use Prim.Native.Nat.{ℕ}
use lib.Dec.{eqb}
use Rattle.laws.specs.Ascii.{ascii}
use Rattle.laws.specs.Lists.{same, all, any}
use Rattle.laws.specs.Tab.{tab}
use Rattle.table.specs.declared.kind.Scalar.TheVariants.{Str, Int}
use Rattle.table.specs.declared.kind.ValueKind.TheVariants.{Plain, Rule}
use Rattle.table.specs.Kind.{code_of}
use Rattle.table.specs.Keys.{number_of}
use Rattle.book.specs.Entry.{obj, arr, same_form, Entry, edge, end_state, with_key, keys_from, keys_of, clash}
use Rattle.book.specs.Text.{is_empty, onto, between, split, is_number, number_from, number}
use Rattle.book.specs.Line.{is_form, form_of, is_key, key_of, behind_r, is_plain, is_kind, kind_in, small_kind, formed, small, entry_of, say_fields, say_parts, say_line}
use Rattle.book.specs.Load.{rule_of, form_in, same_entry, changes_form, is_edge, edge_count, has_too_many, fault_of, read_on, read_lines, names_line, read_book, first_line, has_rule, dangles, clashes, first_clash, check_book, checked, loads}
use Rattle.book.specs.Examples.{book_b}

-- a book, and the number and line of its answer
pub record Case : Type 0 where
  pub book : List ℕ
  pub number : ℕ
  pub line : ℕ

abbrev pub case : ℕ → ℕ → List ℕ → Case
case k n b = record { book = b; number = k; line = n }

abbrev pub cases : List Case
cases =
    case 1 0 ([])  -- 1: nothing
    ∷ case 2 1 (ascii "rule form state key value next")  -- 2: the names line without LF
    ∷ case 2 1 (ascii "rule form state key value next\r\n")  -- 2: the names line with CR
    ∷ case 2 1 (ascii "rule form state key value nexx\n")  -- 2: another name
    ∷ case 0 0 book_b  -- book B
    ∷ case 9 2 (names_line ++ (ascii "0 obj 0 a int 0\n"))  -- 9: the edge of the example, whose next is its own state
    ∷ case 3 2 (names_line ++ (ascii "0 obj 0 a int\n"))  -- 3: five fields
    ∷ case 3 2 (names_line ++ (ascii "0 obj 0 a int 1 1\n"))  -- 3: seven fields
    ∷ case 3 2 (names_line ++ (ascii "0 obj 0  a int 1\n"))  -- 3: two spaces
    ∷ case 3 2 (names_line ++ (ascii "0 obj 0 a int 1\r\n"))  -- 3: CR before LF
    ∷ case 3 3 (names_line ++ (ascii "0 obj 0 a int 1\n\n"))  -- 3: an empty line after a good one
    ∷ case 3 3 (names_line ++ (ascii "0 obj 0 a int 1\n0 obj 1 - end -"))  -- 3: the last LF is missing
    ∷ case 3 2 (names_line ++ (ascii "00 obj 0 a int 1\n"))  -- 3: a leading zero
    ∷ case 3 2 (names_line ++ (ascii "0 obj 0 a r01 1\n"))  -- 3: a leading zero after r
    ∷ case 3 2 (names_line ++ (ascii "0 obj 0 a r 1\n"))  -- 3: r alone
    ∷ case 3 2 (names_line ++ (ascii "0 set 0 a int 1\n"))  -- 3: a form that is none
    ∷ case 3 2 (names_line ++ (ascii "0 obj 0 a bool 1\n"))  -- 3: a value that is none
    ∷ case 3 2 (names_line ++ (ascii "0 obj 0 kkkkkkkkkkkkkkkkkkkkkkkkkkkkkkkkk int 1\n"))  -- 3: a key of 33 bytes
    ∷ case 0 0 (names_line ++ (ascii "0 obj 0 kkkkkkkkkkkkkkkkkkkkkkkkkkkkkkkk int 1\n"))  -- a key of 32 bytes
    ∷ case 3 2 (names_line ++ (ascii "0 obj 0 - int 1\n"))  -- 3: an obj edge without a key
    ∷ case 3 2 (names_line ++ (ascii "0 arr 0 a int 1\n"))  -- 3: an arr edge with a key
    ∷ case 3 2 (names_line ++ (ascii "0 obj 0 - end 1\n"))  -- 3: an end line with a next
    ∷ case 3 2 (names_line ++ (ascii "0 obj 0 a int -\n"))  -- 3: an edge without a next
    ∷ case 3 2 (names_line ++ (ascii "32 obj 0 a int 01\n"))  -- 3 before 4 on one line
    ∷ case 4 3 (names_line ++ (ascii "0 obj 0 a int 1\n32 obj 0 - end -\n"))  -- 4: rule 32
    ∷ case 0 0 (names_line ++ (ascii "0 obj 0 a r31 1\n31 obj 0 - end -\n"))  -- rule 31
    ∷ case 4 2 (names_line ++ (ascii "0 obj 16 - end -\n"))  -- 4: state 16
    ∷ case 4 2 (names_line ++ (ascii "0 obj 0 a int 16\n"))  -- 4: next 16
    ∷ case 0 0 (names_line ++ (ascii "0 obj 14 a int 15\n0 obj 15 - end -\n"))  -- state and next 15
    ∷ case 4 2 (names_line ++ (ascii "0 obj 0 a r32 1\n"))  -- 4: a reference to rule 32
    ∷ case 4 2 (names_line ++ (ascii "100000000000000000000000000000000000000000 obj 0 a int 1\n"))  -- 4: a number of many digits
    ∷ case 4 3 (names_line ++ (ascii "0 obj 0 a int 1\n0 arr 16 - end -\n"))  -- 4 before 6
    ∷ case 6 3 (names_line ++ (ascii "0 obj 0 a int 1\n0 arr 0 - end -\n"))  -- 6: the form of rule 0 changes
    ∷ case 7 4 (names_line ++ (ascii "0 obj 0 a int 1\n0 obj 1 - end -\n0 obj 0 a int 1\n"))  -- 7: a line repeated, not directly
    ∷ case 7 4 (names_line ++ (ascii "0 arr 0 - end -\n0 arr 0 - int 0\n0 arr 0 - end -\n"))  -- 7: an end line repeated
    ∷ case 0 0 (names_line ++ (ascii "0 obj 0 a int 1\n0 obj 0 a int 2\n"))  -- lines that differ in next alone
    ∷ case 8 0 (names_line)  -- 8: no lines
    ∷ case 8 0 (names_line ++ (ascii "1 obj 0 - end -\n"))  -- 8: rule 0 has no lines
    ∷ case 8 3 (names_line ++ (ascii "0 obj 0 - end -\n0 obj 0 a r2 1\n0 obj 0 b r3 1\n"))  -- 8: a reference without lines, on the first such line
    ∷ case 8 3 (names_line ++ (ascii "0 obj 0 a int 0\n0 obj 0 b r3 1\n"))  -- 8 before 9
    ∷ case 9 5 (names_line ++ (ascii "0 obj 0 a int 1\n0 obj 0 b int 2\n0 obj 1 b int 2\n0 obj 2 b int 3\n0 obj 2 a int 3\n"))  -- 9: the later line of a pair
    ∷ case 9 3 (names_line ++ (ascii "0 obj 0 a int 1\n0 obj 1 a int 2\n"))  -- 9: an equal key
    ∷ case 0 0 (names_line ++ (ascii "0 obj 0 a int 1\n0 obj 1 b int 2\n"))  -- keys that ascend
    ∷ case 0 0 (names_line ++ (ascii "0 obj 0 b int 1\n1 obj 1 a int 2\n"))  -- keys of another rule do not matter
    ∷ case 0 0 (names_line ++ (ascii "0 arr 0 - int 0\n"))  -- an arr rule has no keys to ascend
    ∷ case 9 4 (names_line ++ (ascii "0 obj 0 a int 9\n0 obj 1 b int 2\n0 obj 9 c int 1\n"))  -- 9: the pair stands in the other order
    ∷ []

-- every case has its answer
pub cases-answered : all (λ (c : Case). eqb (loads c.book).number c.number && eqb (loads c.book).line c.line) cases ≡ true
unfolding same all any is_empty onto split between is_number number_from number is_form form_of is_key key_of behind_r is_plain is_kind kind_in
    small_kind formed small entry_of say_fields say_parts say_line rule_of form_in same_form same_entry changes_form is_edge edge_count has_too_many
    fault_of read_on read_lines read_book first_line has_rule dangles clashes first_clash check_book checked loads with_key keys_from keys_of
    number_of clash code_of
cases-answered = refl

-- edges that differ in their next alone, and edges that differ in their key alone
abbrev pub next_edge : ℕ → Entry
next_edge n = edge 0 arr 0 [] (Plain Int) n

abbrev pub key_edge : ℕ → Entry
key_edge n = edge 0 obj 0 (n ∷ []) (Plain Int) 1

-- refusal 5: the 513th edge and the 129th key, and not the 512th and the 128th
pub too_many : (has_too_many (tab next_edge 0 512) (next_edge 512) && (not (has_too_many (tab next_edge 0 511) (next_edge 511))
    && (has_too_many (tab key_edge 0 128) (key_edge 128) && not (has_too_many (tab key_edge 0 127) (key_edge 127))))) ≡ true
unfolding same any is_edge edge_count has_too_many with_key keys_from keys_of
too_many = refl

-- the entries of book B
abbrev pub entries_b : List Entry
entries_b =
    edge 0 obj 0 (ascii "corners") (Rule 1) 1
    ∷ edge 0 obj 1 (ascii "name") (Plain Str) 2
    ∷ end_state 0 obj 2
    ∷ edge 1 arr 0 [] (Rule 2) 0
    ∷ end_state 1 arr 0
    ∷ edge 2 arr 0 [] (Plain Int) 1
    ∷ edge 2 arr 1 [] (Plain Int) 2
    ∷ end_state 2 arr 2
    ∷ []

-- load gives the entries of book B for its bytes
pub loads-book_b : loads book_b ≡ record { number = 0; line = 0; entries = entries_b }
unfolding same all any is_empty onto split between is_number number_from number is_form form_of is_key key_of behind_r is_plain is_kind kind_in
    small_kind formed small entry_of say_fields say_parts say_line rule_of form_in same_form same_entry changes_form is_edge edge_count has_too_many
    fault_of read_on read_lines read_book first_line has_rule dangles clashes first_clash check_book checked loads with_key keys_from keys_of
    number_of clash code_of
loads-book_b = refl
