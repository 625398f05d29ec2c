-- What the theorems on runs ask of the entries of a book. Derived: `sound-of-book` of crate demand shows it for every book that load accepts, and
-- `SoundLaws.sound-of-is_sound` joins the test `is_sound` to it. Assumes nothing.
use Rattle.std.specs.Prelude.{Bool, true, false, not, ◌&&◌, List, [], ◌∷◌, ◌≡◌, ℕ, ◌<◌}
use Rattle.laws.specs.Lists.{all}
use Rattle.table.specs.declared.kind.ValueKind.{ValueKind}
use Rattle.book.specs.Entry.{Form, obj, arr, Entry, edge, end_state, keys_of, clash}
use Rattle.runs.specs.Runs.{◌∈◌}

-- the key of an edge of an `obj` rule has a byte or more, and no two entries are a pair that refusal 9 names
pub record Sound (es : List Entry) : Type 0 where
  pub keyed : {r q m : ℕ} {t : ValueKind} → edge r obj q [] t m ∈ es → ⊥
  pub ascending : {a b : Entry} → a ∈ es → b ∈ es → clash (keys_of es) a b ≡ false

-- an edge's next is one of the states 0 to 15
pub record StatesBelow16 (es : List Entry) : Type 0 where
  pub next_below : {r q m : ℕ} {f : Form} {k : List ℕ} {t : ValueKind} → edge r f q k t m ∈ es → m < 16

-- ---- the test

-- an entry that is no edge of an `obj` rule without a key
unfoldable pub is_keyed : Entry → Bool
is_keyed (edge r obj q [] t m) = false
is_keyed (edge r obj q (b ∷ k) t m) = true
is_keyed (edge r arr q k t m) = true
is_keyed (end_state r f q) = true

-- a book that is sound
unfoldable pub is_sound : List Entry → Bool
is_sound es = all is_keyed es && all (λ (a : Entry). all (λ (b : Entry). not (clash (keys_of es) a b)) es) es
