-- The examples hold: what the machine finds is computed, and `Faults` and `TreeLaws` carry it to the grammar. Assumes nothing.
use mathlib.Core.List.{List, map, Memᴰ}
use mathlib.Core.Option.{Option, none, some}
use mathlib.Core.Path.{◌≡◌, refl, sym, ap, ◌∙◌}
use Prim.Native.Nat.{ℕ}
use Rattle.laws.proofs.TestLaws.{none-neq-some}
use Rattle.laws.proofs.ListLaws.{eq-of-map}
use Rattle.json_text.specs.Bytes.{within, is_blank}
use Rattle.json_text.specs.Numbers.{is_digit, is_digit_1_9, is_e}
use Rattle.json_text.specs.Tree.{Json}
use Rattle.json_text.specs.TreeMeaning.{tree_meaning}
use Rattle.json_text.specs.Grammar.{spelling, Text, Begins, FaultAt}
use Rattle.json_text.specs.Classes.{class_of, high_class, is_break, is_structure}
use Rattle.json_text.specs.Lexer.{unescape, escape_move, hex_of, only, ranged, lead_bits, tail_bits, pair_of, or_exp, after_minus, after_zero, after_int, after_frac, after_e, after_exp, digit_only, letter_move, value_start, at_value, at_first_element, at_first_key, at_key, at_colon, after_root, after_element, after_pair}
use Rattle.json_text.specs.Machine.{start, step, run, result, place_from}
use Rattle.json_text.specs.Examples.{Row, faults, unfinished, tells, rows}
use Rattle.json_text.proofs.Faults.{fault_at-of-place, begins-of-no-place}
use Rattle.json_text.proofs.TreeLaws.{tree-of-text, text-of-tree, text-unique}

-- the bytes of a row
abbrev pub bytes : Row → List ℕ
bytes (faults p i) = p
bytes (unfinished p) = p
bytes (tells p v) = p

-- where the machine faults in a row's bytes, and its result
abbrev pub found : Row → Option ℕ × Option Json
found x =
    (place_from tree_meaning (start tree_meaning) (bytes x), result tree_meaning (run tree_meaning (start tree_meaning) (bytes x)))

-- what a row says of the fault place and the result
abbrev pub said : Row → Option ℕ × Option Json
said (faults p i) = (some i, none)
said (unfinished p) = (none, none)
said (tells p v) = (none, some v)

-- what a row says of the grammar
abbrev pub Says : Row → Type 0
Says (faults p i) = FaultAt p i
Says (unfinished p) = Begins p × ((v : Json) → Text p v → ⊥)
Says (tells p v) = Text p v × ((w : Json) → Text p w → v ≡ w)

-- the machine finds what each row says
rows-found : map found rows ≡ map said rows
unfolding within is_blank is_digit is_digit_1_9 is_e spelling class_of high_class is_break is_structure unescape escape_move hex_of
    only ranged lead_bits tail_bits pair_of or_exp after_minus after_zero after_int after_frac after_e after_exp digit_only
    letter_move value_start at_value at_first_element at_first_key at_key at_colon after_root after_element after_pair step place_from
rows-found = refl

-- what the machine finds is so in the grammar
says-of-found : (x : Row) → found x ≡ said x → Says x
says-of-found (faults p i) e = fault_at-of-place tree_meaning p i (ap (λ (z : Option ℕ × Option Json). z.0) e)
says-of-found (unfinished p) e = (
  begins-of-no-place tree_meaning p (ap (λ (z : Option ℕ × Option Json). z.0) e),
  λ v t. none-neq-some (sym (ap (λ (z : Option ℕ × Option Json). z.1) e) ∙ tree-of-text t),
)
says-of-found (tells p v) e = let t = text-of-tree p v (ap (λ (z : Option ℕ × Option Json). z.1) e) in (t, λ w u. text-unique t u)

-- each row of the table is as it says, for the grammar and for the machine
pub examples : (x : Row) → Memᴰ x rows → Says x × (found x ≡ said x)
examples x i = let e = eq-of-map found said rows rows-found i in (says-of-found x e, e)
