-- Laws of runs: along a run over an object the key numbers rise, so that no key stands twice, and what stands in a fitting value fits too.
-- Assumes nothing.
use mathlib.Core.List.{List, [], ◌∷◌}
use mathlib.Core.Path.{refl}
use Prim.Native.Nat.{ℕ, ◌<◌}
use native.Mathlib.Omega.{arith}
use lib.Dec.{ltb}
use borrow.Author.Tests.{eq-eqb, not-false, ltb-true}
use Rattle.json_text.specs.Tree.{Json, object, Values, Pairs}
use Rattle.table.specs.declared.kind.ValueKind.{ValueKind}
use Rattle.table.specs.Keys.{number_of}
use Rattle.book.specs.Entry.{obj, Entry, edge, keys_of, clash}
use Rattle.book.proofs.EntryLaws.{key-member, number-lt-of-member}
use Rattle.runs.specs.Runs.{◌∈◌, Fits, fits_array, fits_object, ArrayRun, array_edge, ObjectRun, object_edge, Order, order_array, order_object}
use Rattle.runs.specs.Runs.{Among, first, later, KeyTwice, first_again, later_twice, Within, itself, in_array, in_object, WithinValues}
use Rattle.runs.specs.Runs.{in_element, in_later_element, WithinPairs, in_pair, in_later_pair, KeysOnce, Compound, compound_array}
use Rattle.runs.specs.Runs.{compound_object, FitsInSomeOrder, in_order, Valid}
use Rattle.runs.specs.Sound.{Sound}
use Rattle.runs.specs.Walk.{key_count, number_in}
use Rattle.runs.proofs.OrderLaws.{order-sym, order_trans, keys-once-of-order}

module _ {es : List Entry} (sound : Sound es) where
  -- the key of an edge of an `obj` rule has a number among the keys
  pub number-lt-of-edge : {r q m : ℕ} {k : List ℕ} {t : ValueKind} → edge r obj q k t m ∈ es → number_in es k < key_count es
  unfolding number_in key_count
  number-lt-of-edge {k = []} i = absurd (sound.keyed i)
  number-lt-of-edge {k = b ∷ l} i = number-lt-of-member (keys_of es) (b ∷ l) (key-member es i)

  -- where one edge's next is another's state, the first key number is below the second
  pub number-lt-of-edges : {r q m p : ℕ} {k l : List ℕ} {t u : ValueKind} → edge r obj q k t m ∈ es → edge r obj m l u p ∈ es → number_in es k < number_in es l
  unfolding number_in clash
  number-lt-of-edges {r} {m} {k} {l} i j =
      ltb-true (number_of (keys_of es) k) (number_of (keys_of es) l)
      (not-false (ltb (number_of (keys_of es) k) (number_of (keys_of es) l)) (rw (eq-eqb r r refl, eq-eqb m m refl) at (sound.ascending i j)))

  -- after an edge the key numbers of a run are above the edge's
  pub number-lt-of-run : {r q m : ℕ} {k l : List ℕ} {t : ValueKind} {v : Json} {ps : Pairs} → edge r obj q k t m ∈ es → ObjectRun es r m ps
      → Among l v ps → number_in es k < number_in es l
  number-lt-of-run i (Rattle.runs.specs.Runs.object_end _) x10 = elim x10 [ ]
  number-lt-of-run i (object_edge j f run) first = number-lt-of-edges i j
  number-lt-of-run {k} {l} i (object_edge {k = k'} j f run) (later a) =
      let g : number_in es k < number_in es k' = number-lt-of-edges i j in
      let h : number_in es k' < number_in es l = number-lt-of-run j run a in omega arith

  -- a run's keys are keys of the book
  pub known-of-run : {r q : ℕ} {k : List ℕ} {v : Json} {ps : Pairs} → ObjectRun es r q ps → Among k v ps → number_in es k < key_count es
  known-of-run (Rattle.runs.specs.Runs.object_end _) x6 = elim x6 [ ]
  known-of-run (object_edge i f run) first = number-lt-of-edge i
  known-of-run (object_edge i f run) (later a) = known-of-run run a

  -- no run over pairs with a key twice
  pub keys-once-of-run : {r q : ℕ} {ps : Pairs} → ObjectRun es r q ps → KeyTwice ps → ⊥
  keys-once-of-run (Rattle.runs.specs.Runs.object_end _) x6 = elim x6 [ ]
  keys-once-of-run (object_edge {k} i f run) (first_again a) = let h : number_in es k < number_in es k = number-lt-of-run i run a in omega arith
  keys-once-of-run (object_edge i f run) (later_twice h) = keys-once-of-run run h

-- ---- what stands in a fitting value

module _ {es : List Entry} where
  mutual
    -- each value that stands in a fitting value fits some kind
    pub fits-of-within : {x v : Json} {t : ValueKind} → Within x v → Fits es t v → (u : ValueKind) × Fits es u x
    fits-of-within {t} itself f = (t, f)
    fits-of-within (in_array h) (fits_array run) = fits-of-within-values h run
    fits-of-within (in_object h) (fits_object run) = fits-of-within-pairs h run

    fits-of-within-values : {x : Json} {vs : Values} {r q : ℕ} → WithinValues x vs → ArrayRun es r q vs → (u : ValueKind) × Fits es u x
    fits-of-within-values (in_element h) (array_edge i f run) = fits-of-within h f
    fits-of-within-values (in_later_element h) (array_edge i f run) = fits-of-within-values h run

    fits-of-within-pairs : {x : Json} {ps : Pairs} {r q : ℕ} → WithinPairs x ps → ObjectRun es r q ps → (u : ValueKind) × Fits es u x
    fits-of-within-pairs (in_pair h) (object_edge i f run) = fits-of-within h f
    fits-of-within-pairs (in_later_pair h) (object_edge i f run) = fits-of-within-pairs h run

module _ {es : List Entry} (sound : Sound es) where
  -- an object with a key twice fits no kind
  pub keys-once-of-fits-object : {ps : Pairs} {t : ValueKind} → Fits es t (object ps) → KeyTwice ps → ⊥
  keys-once-of-fits-object (fits_object run) d = keys-once-of-run sound run d

  -- no object in a fitting value has a key twice
  pub keys-once-of-fits : {v : Json} {t : ValueKind} → Fits es t v → KeysOnce v
  keys-once-of-fits f ps h d = let (u, g) = fits-of-within h f in keys-once-of-fits-object g d

  -- no object in a value that fits in some order of its pairs has a key twice
  pub keys-once-of-fits-in-some-order : {v : Json} {t : ValueKind} → FitsInSomeOrder es t v → KeysOnce v
  keys-once-of-fits-in-some-order (in_order o f) = keys-once-of-order o (keys-once-of-fits f)

-- ---- the order of the pairs in a text does not matter

compound-of-order : {v w : Json} → Order v w → Compound v → Compound w
compound-of-order Rattle.runs.specs.Runs.order_word x5 = elim x5 [ ]
compound-of-order Rattle.runs.specs.Runs.order_string x5 = elim x5 [ ]
compound-of-order Rattle.runs.specs.Runs.order_number x6 = elim x6 [ ]
compound-of-order (order_array os) compound_array = compound_array
compound-of-order (order_object os) compound_object = compound_object

fits-of-order : {es : List Entry} {t : ValueKind} {v w : Json} → Order v w → FitsInSomeOrder es t v → FitsInSomeOrder es t w
fits-of-order o (in_order p f) = in_order (order_trans (order-sym o) p) f

-- where a text is valid, so is each order of it
pub valid-of-order : {es : List Entry} {v w : Json} → Order v w → Valid es v → Valid es w
valid-of-order o h =
    record { root = compound-of-order o h.root; keys_once = keys-once-of-order (order-sym o) h.keys_once; run = fits-of-order o h.run }
