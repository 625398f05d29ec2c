-- Which values fit which kinds, and which texts are valid: REQUIREMENT.md, section 4, and demand 2, over the entries of a book and the tree of a text.
-- Stated. Assumes nothing.
use mathlib.Core.List.{List, Memᴰ}
use Rattle.std.specs.Prelude.{ℕ}
use Rattle.json_text.specs.Tree.{Word, null_word, true_word, false_word, Json, word, string, number, array, object, Values, no_values, values, Pairs, no_pairs, pairs}
use Rattle.whole.specs.Whole.{Whole}
use Rattle.table.specs.declared.kind.Scalar.TheVariants.{Null, True, False, Str, Num, Int}
use Rattle.table.specs.declared.kind.ValueKind.{ValueKind}
use Rattle.table.specs.declared.kind.ValueKind.TheVariants.{Plain, Rule}
use Rattle.book.specs.Entry.{obj, arr, Entry, edge, end_state}

infix 40 ◌∈◌
-- an entry stands in a book
abbrev pub ◌∈◌ : Entry → List Entry → Type 0
x ∈ es = Memᴰ x es

-- ---- runs

module _ (es : List Entry) where
  mutual
    -- a value fits a kind
    pub data Fits : ValueKind → Json → Type 0 where
      -- `null`, `true`, `false` and `str` fit themselves
      fits_null : Fits (Plain Null) (word null_word)
      fits_true : Fits (Plain True) (word true_word)
      fits_false : Fits (Plain False) (word false_word)
      fits_str : {cs : List ℕ} → Fits (Plain Str) (string cs)
      -- `num` fits any number
      fits_num : {ds : List ℕ} → Fits (Plain Num) (number ds)
      -- `int` fits a number whose value is whole
      fits_int : {ds : List ℕ} → Whole ds → Fits (Plain Int) (number ds)
      -- `rN` fits an object or array with an accepting run of rule N, which begins in state 0
      fits_array : {r : ℕ} {vs : Values} → ArrayRun r 0 vs → Fits (Rule r) (array vs)
      fits_object : {r : ℕ} {ps : Pairs} → ObjectRun r 0 ps → Fits (Rule r) (object ps)

    -- an accepting run of an `arr` rule, from a state on, over the elements that are left
    pub data ArrayRun : ℕ → ℕ → Values → Type 0 where
      -- the run accepts in an end state
      array_end : {r q : ℕ} → end_state r arr q ∈ es → ArrayRun r q no_values
      -- the run takes one edge for each element
      array_edge : {r q m : ℕ} {k : List ℕ} {t : ValueKind} {v : Json} {vs : Values} → edge r arr q k t m ∈ es → Fits t v → ArrayRun r m vs
          → ArrayRun r q (values v vs)

    -- an accepting run of an `obj` rule, from a state on, over the pairs that are left
    pub data ObjectRun : ℕ → ℕ → Pairs → Type 0 where
      -- the run accepts in an end state
      object_end : {r q : ℕ} → end_state r obj q ∈ es → ObjectRun r q no_pairs
      -- the run takes one edge for each pair, and the pair needs the edge's key too
      object_edge : {r q m : ℕ} {k : List ℕ} {t : ValueKind} {v : Json} {ps : Pairs} → edge r obj q k t m ∈ es → Fits t v → ObjectRun r m ps
          → ObjectRun r q (pairs k v ps)

-- ---- some order of the pairs

-- the second is the first with the pair k, v put in somewhere
pub data Insert (k : List ℕ) (v : Json) : Pairs → Pairs → Type 0 where
  in_front : {ps : Pairs} → Insert k v ps (pairs k v ps)
  behind : {l : List ℕ} {u : Json} {ps qs : Pairs} → Insert k v ps qs → Insert k v (pairs l u ps) (pairs l u qs)

mutual
  -- the second is the first with the pairs within its objects in some order
  pub data Order : Json → Json → Type 0 where
    order_word : {x : Word} → Order (word x) (word x)
    order_string : {cs : List ℕ} → Order (string cs) (string cs)
    order_number : {ds : List ℕ} → Order (number ds) (number ds)
    order_array : {vs ws : Values} → OrderValues vs ws → Order (array vs) (array ws)
    order_object : {ps qs : Pairs} → OrderPairs ps qs → Order (object ps) (object qs)

  -- elements stay in their places
  pub data OrderValues : Values → Values → Type 0 where
    order_no_values : OrderValues no_values no_values
    order_values : {v w : Json} {vs ws : Values} → Order v w → OrderValues vs ws → OrderValues (values v vs) (values w ws)

  -- an order of the pairs after the first, with the first, its value in some order, put in somewhere
  pub data OrderPairs : Pairs → Pairs → Type 0 where
    order_no_pairs : OrderPairs no_pairs no_pairs
    order_pairs : {k : List ℕ} {v w : Json} {ps qs rs : Pairs} → Order v w → OrderPairs ps qs → Insert k w qs rs → OrderPairs (pairs k v ps) rs

-- ---- no object has a key twice

-- a pair stands among the pairs
pub data Among (k : List ℕ) (v : Json) : Pairs → Type 0 where
  first : {ps : Pairs} → Among k v (pairs k v ps)
  later : {l : List ℕ} {u : Json} {ps : Pairs} → Among k v ps → Among k v (pairs l u ps)

-- some key stands twice among the pairs
pub data KeyTwice : Pairs → Type 0 where
  first_again : {k : List ℕ} {v u : Json} {ps : Pairs} → Among k u ps → KeyTwice (pairs k v ps)
  later_twice : {k : List ℕ} {v : Json} {ps : Pairs} → KeyTwice ps → KeyTwice (pairs k v ps)

mutual
  -- x stands in a value: it is that value, or stands in an element or in the value of a pair
  pub data Within (x : Json) : Json → Type 0 where
    itself : Within x x
    in_array : {vs : Values} → WithinValues x vs → Within x (array vs)
    in_object : {ps : Pairs} → WithinPairs x ps → Within x (object ps)

  pub data WithinValues (x : Json) : Values → Type 0 where
    in_element : {v : Json} {vs : Values} → Within x v → WithinValues x (values v vs)
    in_later_element : {v : Json} {vs : Values} → WithinValues x vs → WithinValues x (values v vs)

  pub data WithinPairs (x : Json) : Pairs → Type 0 where
    in_pair : {k : List ℕ} {v : Json} {ps : Pairs} → Within x v → WithinPairs x (pairs k v ps)
    in_later_pair : {k : List ℕ} {v : Json} {ps : Pairs} → WithinPairs x ps → WithinPairs x (pairs k v ps)

-- no object has a key twice: none that stands in the value
abbrev pub KeysOnce : Json → Type 0
KeysOnce v = (ps : Pairs) → Within (object ps) v → KeyTwice ps → ⊥

-- ---- valid

-- an object or an array
pub data Compound : Json → Type 0 where
  compound_array : {vs : Values} → Compound (array vs)
  compound_object : {ps : Pairs} → Compound (object ps)

-- some order of the pairs within its objects makes a value fit a kind
pub data FitsInSomeOrder (es : List Entry) (t : ValueKind) (v : Json) : Type 0 where
  in_order : {w : Json} → Order v w → Fits es t w → FitsInSomeOrder es t v

-- a text is valid when its root is an object or an array, no object has a key twice, and some order of the pairs within its objects gives an
-- accepting run of rule 0
pub record Valid (es : List Entry) (v : Json) : Type 0 where
  pub root : Compound v
  pub keys_once : KeysOnce v
  pub run : FitsInSomeOrder es (Rule 0) v
