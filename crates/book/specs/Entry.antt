-- What the lines of a book say: REQUIREMENT.md, section 3. Stated. Assumes nothing.
use Rattle.std.specs.Prelude.{Bool, true, false, not, cond, ◌&&◌, List, [], ◌∷◌, ◌++◌, ℕ, eqb, ltb}
use Rattle.laws.specs.Lists.{same, any}
use Rattle.table.specs.declared.kind.ValueKind.{ValueKind}
use Rattle.table.specs.Keys.{number_of}

-- `obj` or `arr`
pub data Form : Type 0 where
  obj arr : Form

-- two forms are the same
unfoldable pub same_form : Form → Form → Bool
same_form obj obj = true
same_form obj arr = false
same_form arr obj = false
same_form arr arr = true

-- a line: an edge, or an end state. An edge has rule, form, state, key, value and next; in `arr` the key is none, []
pub data Entry : Type 0 where
  edge : ℕ → Form → ℕ → List ℕ → ValueKind → ℕ → Entry
  end_state : ℕ → Form → ℕ → Entry

-- ---- keys are numbered by first appearance

-- a key after the keys so far, where it is a new one
unfoldable pub with_key : List (List ℕ) → List ℕ → List (List ℕ)
with_key ks [] = ks
with_key ks (b ∷ k) = cond (any (same (b ∷ k)) ks) ks (ks ++ ((b ∷ k) ∷ []))

unfoldable pub keys_from : List (List ℕ) → List Entry → List (List ℕ)
keys_from ks [] = ks
keys_from ks (edge r f q k t m ∷ es) = keys_from (with_key ks k) es
keys_from ks (end_state r f q ∷ es) = keys_from ks es

-- the keys of a book, in the order of their first appearance
unfoldable pub keys_of : List Entry → List (List ℕ)
keys_of es = keys_from [] es

-- ---- the order of keys in an `obj` rule

-- the first is an edge of an `obj` rule, the second an edge of the same rule at the first's next state, and its key number is not above the
-- first's: refusal 9 is for a book with such a pair
unfoldable pub clash : List (List ℕ) → Entry → Entry → Bool
clash ks (edge r obj q k t m) (edge r' f' q' k' t' m') = eqb r r' && (eqb m q' && not (ltb (number_of ks k) (number_of ks k')))
clash ks (edge r obj q k t m) (end_state r' f' q') = false
clash ks (edge r arr q k t m) e = false
clash ks (end_state r f q) e = false
