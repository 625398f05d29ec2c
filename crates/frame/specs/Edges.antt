-- The edges of a table as its frames read them: REQUIREMENT.md, sections 3 and 4. Stated. Assumes nothing.
use Rattle.std.specs.Prelude.{Bool, ◌&&◌, List, ℕ, ◌+◌, ◌*◌, min, eqb, ltb, get_or}
use Rattle.laws.specs.Bits.{bit_at}
use Rattle.table.specs.Kind.{kind_of, fits_kind}
use Rattle.table.specs.Table.{Table}
use Rattle.table.specs.declared.kind.Finished.{Finished}
use Rattle.frame.specs.Frame.{held_in}

-- how many edges there are, and of each its rule, state, key and next state; the kinds are lent apart
pub record Edges : Type 0 where
  pub count : ℕ
  pub rules : List ℕ
  pub states : List ℕ
  pub keys : List ℕ
  pub nexts : List ℕ

-- the edges with the given numbers
abbrev pub edges_of : ℕ → List ℕ → List ℕ → List ℕ → List ℕ → Edges
edges_of n rules states keys nexts = record { count = n; rules = rules; states = states; keys = keys; nexts = nexts }

-- the edges of a table
abbrev pub edges_in : Table → Edges
edges_in t = edges_of t.edges t.edge_rule t.edge_state t.edge_key t.edge_next

-- how many of n edges count: at most 512
abbrev pub edge_count : ℕ → ℕ
edge_count n = min n 512

-- rule r is of a form: 1 obj, 2 arr; a rule above 31 is of none
unfoldable pub has_form : List ℕ → ℕ → ℕ → Bool
has_form forms form r = ltb r 32 && eqb (get_or forms r 0) form

-- the number of a state of edge e's rule: 16 × rule + state
unfoldable pub state_number : List ℕ → List ℕ → ℕ → ℕ
state_number rules states e = 16 * get_or rules e 0 + get_or states e 0

-- a finished value fits the kind with a code
unfoldable pub fits_code : Finished → ℕ → Bool
fits_code v code = fits_kind (kind_of code) v

-- ---- tests of edge e, of which the first two take the kinds that a value fits as a test of their codes

-- edge e is one of key k, and the value fits its kind
unfoldable pub fitting : (ℕ → Bool) → List ℕ → List ℕ → ℕ → ℕ → Bool
fitting fits keys kinds k e = eqb (get_or keys e 0) k && fits (get_or kinds e 0)

-- the value fits the kind of edge e, the rule of the edge is of form `arr`, and its state is one of the array f
unfoldable pub stepping : (ℕ → Bool) → List ℕ → List ℕ → List ℕ → List ℕ → List ℕ → ℕ → Bool
stepping fits rules states kinds forms f e =
    fits (get_or kinds e 0) && (has_form forms 2 (get_or rules e 0) && held_in f (state_number rules states e))

-- edge e is one of key k, is among the fitting edges of the object f, and its state is one of s
unfoldable pub walking : List ℕ → List ℕ → List ℕ → List ℕ → List ℕ → ℕ → ℕ → Bool
walking rules states keys f s k e = eqb (get_or keys e 0) k && (held_in f e && bit_at s (state_number rules states e))
