-- What a frame shows of an open value, and a finished value of the kinds that it fits: the frames of REQUIREMENT.md, section 5, beside the sets of
-- states, keys and edges that `runs` keeps. Derived, nothing to believe: `shows-array` and `shows-object` of `CloseLaws` join what a frame is closed
-- with to what `runs` finds, after the steps of `OpenLaws` and `ValueLaws`. Assumes nothing.
use Rattle.std.specs.Prelude.{Bool, true, false, cond, List, [], ◌≡◌, ℕ, ◌+◌, ◌*◌, ◌<◌, ◌≤◌, ltb, length}
use Rattle.table.specs.Kind.{code_of, fits_kind}
use Rattle.table.specs.Table.{Table}
use Rattle.table.specs.declared.kind.Finished.{Finished}
use Rattle.table.specs.declared.kind.ValueKind.{ValueKind}
use Rattle.book.specs.Entry.{Form, obj, arr, Entry, edge, end_state}
use Rattle.book.specs.Load.{rule_of, form_in}
use Rattle.book.specs.Holds.{Holds}
use Rattle.runs.specs.Runs.{◌∈◌}
use Rattle.runs.specs.Walk.{States, OpenObject, InKeys, key_count, number_in}
use Rattle.frame.specs.Edges.{Edges, edges_of}
use Rattle.frame.specs.Frame.{is_object, current_key, marked, seen_in, held_in}
use Rattle.frame.specs.Ops.{valued, closed}

-- ---- what is asked of a table that was loaded

-- the numbers of an edge are within their limits
pub record EdgeLimits (r q : ℕ) (v : ValueKind) (m : ℕ) : Type 0 where
  pub rule : r < 32
  pub state : q < 16
  pub kind : code_of v < 38
  pub next : m < 16

-- a table keeps the entries of a book
pub record Carries (t : Table) (es : List Entry) : Type 0 where
  -- the table holds the entries
  pub holds : Holds t es
  -- the numbers of each entry are within their limits
  pub edge_limits : {r q m : ℕ} {f : Form} {k : List ℕ} {v : ValueKind} → edge r f q k v m ∈ es → EdgeLimits r q v m
  pub end_limits : {r q : ℕ} {f : Form} → end_state r f q ∈ es → (r < 32) × (q < 16)
  -- an edge of an `arr` rule has no key, one of an `obj` rule has one
  pub arr_key : {r q m : ℕ} {k : List ℕ} {v : ValueKind} → edge r arr q k v m ∈ es → k ≡ []
  pub obj_key : {r q m : ℕ} {v : ValueKind} → edge r obj q [] v m ∈ es → ⊥
  -- the entries of a rule have one form
  pub one_form : {a b : Entry} → a ∈ es → b ∈ es → rule_of a ≡ rule_of b → form_in a ≡ form_in b
  -- there are not too many edges and keys
  pub edges_le : t.edges ≤ 512
  pub keys_le : t.keys ≤ 128

-- ---- the steps of a frame over a table's arrays

-- the edges of a table, lent as the frames take them
abbrev pub lent_edges : Table → Edges
lent_edges t = edges_of t.edges t.edge_rule t.edge_state t.edge_key t.edge_next

-- a frame after a finished value
abbrev pub valued_by : Table → Finished → List ℕ → List ℕ
valued_by t v f = valued (lent_edges t) t.edge_kind t.forms v f

-- the rules that the value of a frame fits
abbrev pub closed_by : Table → List ℕ → ℕ
closed_by t f = closed (lent_edges t) t.forms t.ends f

-- ---- finished values

-- a finished value fits the kinds that the test names, of the kinds that a book can ask for: their codes are below 38
abbrev pub ShowsValue : Finished → (ValueKind → Bool) → Type 0
ShowsValue v w = (k : ValueKind) → code_of k < 38 → fits_kind k v ≡ w k

-- ---- open arrays

-- the bit of state q of rule r
abbrev pub state_bit : ℕ → ℕ → ℕ
state_bit r q = 16 * r + q

-- bits are a set of states
abbrev pub ShowsStates : (ℕ → Bool) → States → Type 0
ShowsStates bits S = (r q : ℕ) → r < 32 → q < 16 → bits (state_bit r q) ≡ S r q

-- a frame is that of an array with a set of states
pub record ShowsArray (f : List ℕ) (S : States) : Type 0 where
  pub long : length f ≡ 96
  pub array : is_object f ≡ false
  pub states : ShowsStates (held_in f) S

-- ---- open objects

-- n is the number of a key as a frame takes it: that of the book, or one above 127 where the book has no such key
pub record ShowsKey (es : List Entry) (k : List ℕ) (n : ℕ) : Type 0 where
  pub known : number_in es k < key_count es → n ≡ number_in es k
  pub unknown : key_count es ≤ number_in es k → 128 ≤ n

-- a frame is that of an object of which o is kept
pub record ShowsObject (es : List Entry) (f : List ℕ) (o : OpenObject) : Type 0 where
  pub long : length f ≡ 96
  pub object : is_object f ≡ true
  pub mark : marked f ≡ o.marked
  -- an unknown current key, or none, is 255 in a frame
  pub current : current_key f ≡ cond (ltb o.current (key_count es)) o.current 255
  pub seen : (k : ℕ) → k < 128 → seen_in f k ≡ o.seen k
  pub held : (e : ℕ) → e < 512 → held_in f e ≡ o.fitting e
  -- the numbers are those of keys of the book
  pub in_keys : InKeys es o
