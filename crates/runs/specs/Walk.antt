-- What a reader finds of a text from left to right, as a meaning: which kinds a finished value fits; sets of states in an open array; in an open
-- object what its frame keeps: REQUIREMENT.md, section 5. Derived: `Judging.fits-iff-judged` joins it to `Runs.FitsInSomeOrder`. Assumes nothing.
use Rattle.std.specs.Prelude.{Bool, true, false, not, cond, ◌&&◌, ◌||◌, List, [], ◌∷◌, ◌++◌, ℕ, zero, suc, ◌<◌, ◌≤◌, T, eqb, ltb, length}
use Rattle.laws.specs.Lists.{any}
use Rattle.json_text.specs.Tree.{Word, null_word, true_word, false_word}
use Rattle.json_text.specs.Meaning.{Meaning}
use Rattle.whole.specs.Count.{unbounded}
use Rattle.whole.specs.Read.{Read, unread, read_byte, reads_whole}
use Rattle.table.specs.Kind.{scalar_fits}
use Rattle.table.specs.declared.kind.Scalar.{Scalar}
use Rattle.table.specs.declared.kind.Scalar.TheVariants.{Null, True, False, Str, Num, Int}
use Rattle.table.specs.declared.kind.ValueKind.{ValueKind}
use Rattle.table.specs.declared.kind.ValueKind.TheVariants.{Plain, Rule}
use Rattle.table.specs.Keys.{number_of}
use Rattle.book.specs.Entry.{Form, obj, arr, same_form, Entry, edge, end_state, keys_of}

-- ---- finished values: which kinds each fits

-- a scalar fits plain kinds only
unfoldable pub of_scalar : Scalar → ValueKind → Bool
of_scalar s (Plain t) = scalar_fits t s
of_scalar s (Rule n) = false

-- an object or array fits rules only
unfoldable pub of_rules : (ℕ → Bool) → ValueKind → Bool
of_rules rules (Plain t) = false
of_rules rules (Rule n) = rules n

-- a word is a scalar
unfoldable pub word_has_kind : Word → ValueKind → Bool
word_has_kind null_word = of_scalar Null
word_has_kind true_word = of_scalar True
word_has_kind false_word = of_scalar False

-- ---- tests of entries

-- an entry of rule n, which has form f
unfoldable pub is_of : Form → ℕ → Entry → Bool
is_of f n (edge r g q k t m) = same_form f g && eqb r n
is_of f n (end_state r g q) = same_form f g && eqb r n

-- an edge whose kind is among the kinds
unfoldable pub asks : (ValueKind → Bool) → Entry → Bool
asks w (edge r f q k t m) = w t
asks w (end_state r f q) = false

-- an edge of an `arr` rule
unfoldable pub is_array_edge : Entry → Bool
is_array_edge (edge r arr q k t m) = true
is_array_edge (edge r obj q k t m) = false
is_array_edge (end_state r f q) = false

-- an edge of an `obj` rule whose key has number c among the keys
unfoldable pub has_key : List (List ℕ) → ℕ → Entry → Bool
has_key ks c (edge r obj q k t m) = eqb (number_of ks k) c
has_key ks c (edge r arr q k t m) = false
has_key ks c (end_state r f q) = false

-- some edge passes a test of number and edge; edges are numbered in book order, the first in the list is edge i
unfoldable pub any_edge : (ℕ → Entry → Bool) → ℕ → List Entry → Bool
any_edge p i [] = false
any_edge p i (edge r f q k t m ∷ es) = p i (edge r f q k t m) || any_edge p (suc i) es
any_edge p i (end_state r f q ∷ es) = any_edge p i es

-- ---- sets of states: rule, then state

abbrev pub States : Type 0
States = ℕ → ℕ → Bool

-- an edge from one of the states to state m of rule n
unfoldable pub leads : States → ℕ → ℕ → Entry → Bool
leads S n m (edge r f q k t p) = eqb r n && (eqb p m && S n q)
leads S n m (end_state r f q) = false

-- an end state of rule n, which has form f, and it is among the states
unfoldable pub ends_in : Form → States → ℕ → Entry → Bool
ends_in f S n (edge r g q k t m) = false
ends_in f S n (end_state r g q) = same_form f g && (eqb r n && S n q)

-- what an open object keeps: the number of the current key, or how many keys there are for an unknown one or none; whether an unknown or
-- repeated key was met; the keys seen, by number; the fitting edges, by number
pub record OpenObject : Type 0 where
  pub current : ℕ
  pub marked : Bool
  pub seen : ℕ → Bool
  pub fitting : ℕ → Bool

module _ (es : List Entry) where
  -- state 0 of every rule of a form
  unfoldable pub start_of : Form → States
  start_of f n q = eqb q 0 && any (is_of f n) es

  -- the states that edges which pass a test lead to, from the states before
  unfoldable pub moved : (ℕ → Entry → Bool) → States → States
  moved p S n m = any_edge (λ (e : ℕ) (x : Entry). leads S n m x && p e x) 0 es

  -- the rules of a form that have an end state among the states
  unfoldable pub has_end : Form → States → ℕ → Bool
  has_end f S n = any (ends_in f S n) es

  -- ---- arrays

  -- an element replaces the states by those reached over edges of `arr` rules that it fits
  unfoldable pub after_element : States → (ValueKind → Bool) → States
  after_element S w = moved (λ (e : ℕ) (x : Entry). is_array_edge x && asks w x) S

  -- ---- objects

  -- how many keys there are
  unfoldable pub key_count : ℕ
  key_count = length (keys_of es)

  -- the number of a key; how many keys there are, where it is unknown
  unfoldable pub number_in : List ℕ → ℕ
  number_in k = number_of (keys_of es) k

  -- the numbers that an open object keeps are numbers of keys, but that an unknown current key has the number after them
  pub record InKeys (o : OpenObject) : Type 0 where
    pub current_le : o.current ≤ key_count
    pub seen_lt : (c : ℕ) → T (o.seen c) → c < key_count

  -- an object that was just opened: no key is the current one
  unfoldable pub at_opening : OpenObject
  at_opening = record { current = key_count; marked = false; seen = λ (c : ℕ). false; fitting = λ (e : ℕ). false }

  -- a key becomes the current one; it is marked as seen, or the mark is set for an unknown or a repeated one
  unfoldable pub after_key : OpenObject → List ℕ → OpenObject
  after_key o k = record {
    current = number_in k;
    marked = o.marked || (not (ltb (number_in k) key_count) || o.seen (number_in k));
    seen = λ (c : ℕ). o.seen c || (eqb c (number_in k) && ltb c key_count);
    fitting = o.fitting;
  }

  -- edge e has the key with number c, and its kind is among the kinds
  unfoldable pub fits_edge : ℕ → (ValueKind → Bool) → ℕ → Bool
  fits_edge c w e = any_edge (λ (i : ℕ) (x : Entry). eqb i e && (has_key (keys_of es) c x && asks w x)) 0 es

  -- a value adds the fitting edges of the current key, none where that is unknown
  unfoldable pub after_value : OpenObject → (ValueKind → Bool) → OpenObject
  after_value o w = record {
    current = o.current;
    marked = o.marked;
    seen = o.seen;
    fitting = λ (e : ℕ). o.fitting e || (ltb o.current key_count && fits_edge o.current w e);
  }

  -- the states after key i: where it was seen, those that fitting edges with this key lead to
  unfoldable pub use_key : OpenObject → ℕ → States → States
  use_key o i S = cond (o.seen i) (moved (λ (e : ℕ) (x : Entry). o.fitting e && has_key (keys_of es) i x) S) S

  -- the states after the keys i, i + 1, .., n of them, ascending
  unfoldable pub walk : OpenObject → ℕ → ℕ → States → States
  walk o i zero S = S
  walk o i (suc n) S = walk o (suc i) n (use_key o i S)

  -- the rules that an object fits: none where the mark is set
  unfoldable pub object_fits : OpenObject → ℕ → Bool
  object_fits o n = not o.marked && has_end obj (walk o 0 key_count (start_of obj)) n

  -- ---- the meaning

  -- which kinds a value fits, found from left to right: of a key its characters are kept, of a number what tells whether its value is whole
  abbrev pub judging : Meaning
  judging = record {
    Result = ValueKind → Bool;
    InString = List ℕ;
    InNumber = Read;
    InArray = States;
    InObject = OpenObject;
    of_word = word_has_kind;
    string_start = [];
    string_char = λ (s : List ℕ) (c : ℕ). s ++ (c ∷ []);
    of_string = λ (s : List ℕ). of_scalar Str;
    number_start = unread;
    number_byte = read_byte unbounded;
    of_number = λ (r : Read). of_scalar (cond (reads_whole r) Int Num);
    array_start = start_of arr;
    array_element = after_element;
    of_array = λ (S : States). of_rules (has_end arr S);
    object_start = at_opening;
    object_key = after_key;
    object_value = after_value;
    of_object = λ (o : OpenObject). of_rules (object_fits o);
  }
