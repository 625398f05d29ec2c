-- Loading a book on paper: REQUIREMENT.md, section 3, load, refusals 1 to 9 in their order. Stated. Assumes nothing.
use Rattle.std.specs.Prelude.{Bool, true, false, not, cond, ◌&&◌, ◌||◌, List, [], ◌∷◌, ◌++◌, ℕ, suc, ◌+◌, leb, ltb, eqb, length, take, drop}
use Rattle.laws.specs.Ascii.{ascii}
use Rattle.laws.specs.Lists.{same, any}
use Rattle.table.specs.declared.kind.ValueKind.TheVariants.{Plain, Rule}
use Rattle.table.specs.Kind.{code_of}
use Rattle.book.specs.Entry.{Form, same_form, Entry, edge, end_state, keys_of, clash}
use Rattle.book.specs.Text.{is_empty, split}
use Rattle.book.specs.Line.{Said, bad, good, say_line}

-- ---- what entries are to each other

-- the rule of an entry
unfoldable pub rule_of : Entry → ℕ
rule_of (edge r f q k v m) = r
rule_of (end_state r f q) = r

-- the form of an entry
unfoldable pub form_in : Entry → Form
form_in (edge r f q k v m) = f
form_in (end_state r f q) = f

-- two entries say the same: their lines are the same bytes (`RepeatLaws.same_entry-lines`). Kinds are told apart by their codes
unfoldable pub same_entry : Entry → Entry → Bool
same_entry (edge r f q k v m) (edge r' f' q' k' v' m') =
    eqb r r' && (same_form f f' && (eqb q q' && (same k k' && (eqb (code_of v) (code_of v') && eqb m m'))))
same_entry (edge r f q k v m) (end_state r' f' q') = false
same_entry (end_state r f q) (edge r' f' q' k' v' m') = false
same_entry (end_state r f q) (end_state r' f' q') = eqb r r' && (same_form f f' && eqb q q')

-- two entries give one rule two forms
unfoldable pub changes_form : Entry → Entry → Bool
changes_form a b = eqb (rule_of a) (rule_of b) && not (same_form (form_in a) (form_in b))

-- an edge
unfoldable pub is_edge : Entry → Bool
is_edge (edge r f q k v m) = true
is_edge (end_state r f q) = false

-- how many entries are edges
unfoldable pub edge_count : List Entry → ℕ
edge_count [] = 0
edge_count (e ∷ es) = cond (is_edge e) (suc (edge_count es)) (edge_count es)

-- ---- line by line

-- an edge more than 512, or a key more than 128, after the entries so far
unfoldable pub has_too_many : List Entry → Entry → Bool
has_too_many es e = is_edge e && (leb 512 (edge_count es) || ltb 128 (length (keys_of (es ++ (e ∷ [])))))

-- refusals 6, 7 and 5 of an entry after the entries so far; 0 is none
unfoldable pub fault_of : List Entry → Entry → ℕ
fault_of es e = cond (any (changes_form e) es) 6 (cond (any (same_entry e) es) 7 (cond (has_too_many es e) 5 0))

-- a refusal with its line, or the entries of the book
pub data Read : Type 0 where
  refused : ℕ → ℕ → Read
  entries : List Entry → Read

-- what a line comes to after the entries so far, and then the rest of the book; n is the line's number
unfoldable pub read_on : List Entry → ℕ → Said → (Entry → Read) → Read
read_on es n (bad k) rest = refused k n
read_on es n (good e) rest = cond (eqb (fault_of es e) 0) (rest e) (refused (fault_of es e) n)

-- the lines after the entries so far. The names line is 1, so the next is that of their number and 2. The last part is what follows the
-- last LF: nothing, or a line that lacks it
unfoldable pub read_lines : List Entry → List (List ℕ) → Read
read_lines es [] = entries es
read_lines es (l ∷ []) = cond (is_empty l) (entries es) (refused 3 (length es + 2))
read_lines es (l ∷ (x ∷ ls)) = read_on es (length es + 2) (say_line l) (λ e. read_lines (es ++ (e ∷ [])) (x ∷ ls))

-- the names line of the example, with its LF
abbrev pub names_line : List ℕ
names_line = ascii "rule form state key value next\n"

-- refusals 1 and 2, then the lines
unfoldable pub read_book : List ℕ → Read
read_book b =
    cond (is_empty b || ltb 65536 (length b)) (refused 1 0)
    (cond (same (take 31 b) names_line) (read_lines [] (split 10 (drop 31 b))) (refused 2 1))

-- ---- after all lines

-- the line of the first entry of which p holds, the first entry being on line n; 0 where p holds of none
unfoldable pub first_line : (Entry → Bool) → ℕ → List Entry → ℕ
first_line p n [] = 0
first_line p n (e ∷ es) = cond (p e) n (first_line p (suc n) es)

-- a rule has lines
unfoldable pub has_rule : List Entry → ℕ → Bool
has_rule es n = any (λ e. eqb (rule_of e) n) es

-- a reference to a rule that has no lines
unfoldable pub dangles : List Entry → Entry → Bool
dangles es (edge r f q k (Plain s) m) = false
dangles es (edge r f q k (Rule n) m) = not (has_rule es n)
dangles es (end_state r f q) = false

-- two entries clash, the one way or the other
unfoldable pub clashes : List (List ℕ) → Entry → Entry → Bool
clashes ks a b = clash ks b a || clash ks a b

-- the line of the first entry that clashes with an earlier one or with itself, after the entries so far, the first being on line n
unfoldable pub first_clash : List (List ℕ) → ℕ → List Entry → List Entry → ℕ
first_clash ks n seen [] = 0
first_clash ks n seen (e ∷ es) = cond (any (clashes ks e) (seen ++ (e ∷ []))) n (first_clash ks (suc n) (seen ++ (e ∷ [])) es)

-- what load gives: number and line of a refusal, and no entries; or 0, 0 and the entries of the book
pub record PaperAnswer : Type 0 where
  pub number : ℕ
  pub line : ℕ
  pub entries : List Entry

abbrev pub refuse : ℕ → ℕ → PaperAnswer
refuse k n = record { number = k; line = n; entries = [] }

-- refusal 8 by the first line that refers to a rule without lines, or by line 0 where rule 0 has none; then refusal 9
unfoldable pub check_book : List Entry → PaperAnswer
check_book es =
    cond (eqb (first_line (dangles es) 2 es) 0)
    (cond (has_rule es 0)
    (cond (eqb (first_clash (keys_of es) 2 [] es) 0)
    (record { number = 0; line = 0; entries = es })
    (refuse 9 (first_clash (keys_of es) 2 [] es)))
    (refuse 8 0))
    (refuse 8 (first_line (dangles es) 2 es))

unfoldable pub checked : Read → PaperAnswer
checked (refused k n) = refuse k n
checked (entries es) = check_book es

-- load on paper
unfoldable pub loads : List ℕ → PaperAnswer
loads b = checked (read_book b)
