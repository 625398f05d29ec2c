-- Laws of the orders of pairs: an order keeps the pairs, and what stands within them. Assumes nothing.
use mathlib.Core.List.{List}
use mathlib.Core.Logic.{◌⊎◌, inl, inr}
use mathlib.Core.Path.{◌≡◌, refl, subst}
use Prim.Native.Nat.{ℕ}
use Rattle.json_text.specs.Tree.{Json, word, string, number, array, object, Values, no_values, values, Pairs, no_pairs, pairs}
use Rattle.runs.specs.Runs.{Insert, in_front, behind, Order, order_word, order_string, order_number, order_array, order_object, OrderValues}
use Rattle.runs.specs.Runs.{order_no_values, order_values, OrderPairs, order_no_pairs, order_pairs, Among, first, later, KeyTwice, first_again}
use Rattle.runs.specs.Runs.{later_twice, Within, itself, in_array, in_object, WithinValues, in_element, in_later_element, WithinPairs, in_pair}
use Rattle.runs.specs.Runs.{in_later_pair, KeysOnce}

-- ---- Insert

-- pairs with one put in have that one
pub among-of-insert : {k : List ℕ} {v : Json} {ps qs : Pairs} → Insert k v ps qs → Among k v qs
among-of-insert in_front = first
among-of-insert (behind i) = later (among-of-insert i)

-- pairs with one put in have those from before
pub among-insert : {k l : List ℕ} {v u : Json} {ps qs : Pairs} → Insert k v ps qs → Among l u ps → Among l u qs
among-insert in_front a = later a
among-insert (behind i) first = first
among-insert (behind i) (later a) = later (among-insert i a)

-- pairs with one put in have no others than that one and those from before
pub among_cases : {k l : List ℕ} {v u : Json} {ps qs : Pairs} → Insert k v ps qs → Among l u qs → ((k ≡ l) × (v ≡ u)) ⊎ Among l u ps
among_cases in_front first = inl (refl, refl)
among_cases in_front (later a) = inr a
among_cases (behind i) first = inr first
among_cases {k} {l} {v} {u} (behind {l = n} {u = x} {ps} i) (later a) = go (among_cases i a)
  where
    go : ((k ≡ l) × (v ≡ u)) ⊎ Among l u ps → ((k ≡ l) × (v ≡ u)) ⊎ Among l u (pairs n x ps)
    go (inl e) = inl e
    go (inr b) = inr (later b)

-- a pair among the pairs can be taken out
pub insert-of-among : {k : List ℕ} {v : Json} {qs : Pairs} → Among k v qs → (ps : Pairs) × Insert k v ps qs
insert-of-among (first {ps}) = (ps, in_front)
insert-of-among (later {l} {u} a) = let (ps, i) = insert-of-among a in (pairs l u ps, behind i)

-- a key that is put in beside itself stands twice
pub key-twice-of-insert : {k : List ℕ} {v u : Json} {ps qs : Pairs} → Insert k v ps qs → Among k u ps → KeyTwice qs
key-twice-of-insert in_front a = first_again a
key-twice-of-insert (behind i) first = first_again (among-of-insert i)
key-twice-of-insert (behind i) (later a) = later_twice (key-twice-of-insert i a)

pub key-twice-insert : {k : List ℕ} {v : Json} {ps qs : Pairs} → Insert k v ps qs → KeyTwice ps → KeyTwice qs
key-twice-insert in_front h = later_twice h
key-twice-insert (behind i) (first_again a) = first_again (among-insert i a)
key-twice-insert (behind i) (later_twice h) = later_twice (key-twice-insert i h)

-- ---- OrderPairs

-- each pair of an order is a pair of the object, its value in some order
pub before-of-order : {l : List ℕ} {w : Json} {ps qs : Pairs} → OrderPairs ps qs → Among l w qs → (v : Json) × Among l v ps × Order v w
before-of-order order_no_pairs a = elim a [ ]
before-of-order {l} {w} (order_pairs {k} {v} {w = x} {ps} {qs} o os i) a = go (among_cases i a) (λ (b : Among l w qs). before-of-order os b)
  where
    further : (u : Json) × Among l u ps × Order u w → (u : Json) × Among l u (pairs k v ps) × Order u w
    further (u, b, p) = (u, later b, p)

    go : ((k ≡ l) × (x ≡ w)) ⊎ Among l w qs → (Among l w qs → (u : Json) × Among l u ps × Order u w) → (u : Json) × Among l u (pairs k v ps) × Order u w
    go (inl (p, q)) r = (v, subst (λ (n : List ℕ). Among n v (pairs k v ps)) p first, rw q at o)
    go (inr b) r = further (r b)

-- each pair of an object is in its order
pub after-order : {k : List ℕ} {v : Json} {ps qs : Pairs} → OrderPairs ps qs → Among k v ps → (w : Json) × Among k w qs × Order v w
after-order order_no_pairs x4 = elim x4 [ ]
after-order (order_pairs {w} o os i) first = (w, among-of-insert i, o)
after-order (order_pairs o os i) (later a) = let (w, b, p) = after-order os a in (w, among-insert i b, p)

-- a key that stands twice does so in every order
pub key-twice-order : {ps qs : Pairs} → OrderPairs ps qs → KeyTwice ps → KeyTwice qs
key-twice-order order_no_pairs x4 = elim x4 [ ]
key-twice-order (order_pairs o os i) (first_again a) = let (w, b, p) = after-order os a in key-twice-of-insert i b
key-twice-order (order_pairs o os i) (later_twice h) = key-twice-insert i (key-twice-order os h)

-- with a pair put in anywhere, the pair in front of an order is an order
pub order-insert : {k : List ℕ} {v w : Json} {ps rs qs : Pairs} → Insert k v ps rs → Order v w → OrderPairs ps qs → OrderPairs rs (pairs k w qs)
order-insert in_front p os = order_pairs p os in_front
order-insert (behind i) p (order_pairs o os j) = order_pairs o (order-insert i p os) (behind j)

-- ---- Order

mutual
  -- a value is an order of itself
  pub order-refl : (v : Json) → Order v v
  order-refl (word x) = order_word
  order-refl (string cs) = order_string
  order-refl (number ds) = order_number
  order-refl (array vs) = order_array (order-refl-values vs)
  order-refl (object ps) = order_object (order-refl-pairs ps)

  order-refl-values : (vs : Values) → OrderValues vs vs
  order-refl-values no_values = order_no_values
  order-refl-values (values v vs) = order_values (order-refl v) (order-refl-values vs)

  order-refl-pairs : (ps : Pairs) → OrderPairs ps ps
  order-refl-pairs no_pairs = order_no_pairs
  order-refl-pairs (pairs k v ps) = order_pairs (order-refl v) (order-refl-pairs ps) in_front

mutual
  -- an order of a text has the text as an order
  pub order-sym : {v w : Json} → Order v w → Order w v
  order-sym order_word = order_word
  order-sym order_string = order_string
  order-sym order_number = order_number
  order-sym (order_array os) = order_array (order-sym-values os)
  order-sym (order_object os) = order_object (order-sym-pairs os)

  order-sym-values : {vs ws : Values} → OrderValues vs ws → OrderValues ws vs
  order-sym-values order_no_values = order_no_values
  order-sym-values (order_values o os) = order_values (order-sym o) (order-sym-values os)

  order-sym-pairs : {ps qs : Pairs} → OrderPairs ps qs → OrderPairs qs ps
  order-sym-pairs order_no_pairs = order_no_pairs
  order-sym-pairs (order_pairs o os i) = order-insert i (order-sym o) (order-sym-pairs os)

-- two pairs can be put in one after the other or the other way round
insert-insert : {k l : List ℕ} {v u : Json} {ps qs rs : Pairs} → Insert k v ps qs → Insert l u qs rs → (ts : Pairs) × Insert l u ps ts × Insert k v ts rs
insert-insert {l} {u} {ps} i in_front = (pairs l u ps, in_front, behind i)
insert-insert in_front (behind {ps = qs} {qs = rs} j) = (rs, j, in_front)
insert-insert (behind {l = n} {u = x} i) (behind j) = let (ts, a, b) = insert-insert i j in (pairs n x ts, behind a, behind b)

-- out of an order of pairs any of them can be taken, in the order that its value has there
order-take : {k : List ℕ} {v : Json} {ps qs rs : Pairs} → Insert k v ps qs → OrderPairs qs rs → (w : Json) × (ts : Pairs) × Order v w × OrderPairs ps ts × Insert k w ts rs
order-take in_front (order_pairs {w} {qs} o os i) = (w, qs, o, os, i)
order-take (behind j) (order_pairs o os i) =
    let (w, ts, p, os', a) = order-take j os in
    let (xs, b, c) = insert-insert a i in
    (w, xs, p, order_pairs o os' b, c)

mutual
  -- an order of an order of a value is an order of the value
  pub order_trans : {u v w : Json} → Order u v → Order v w → Order u w
  order_trans order_word o = o
  order_trans order_string o = o
  order_trans order_number o = o
  order_trans (order_array os) (order_array os') = order_array (order-trans-values os os')
  order_trans (order_object os) (order_object os') = order_object (order-trans-pairs os os')

  order-trans-values : {us vs ws : Values} → OrderValues us vs → OrderValues vs ws → OrderValues us ws
  order-trans-values order_no_values os = os
  order-trans-values (order_values o os) (order_values o' os') = order_values (order_trans o o') (order-trans-values os os')

  order-trans-pairs : {ps qs rs : Pairs} → OrderPairs ps qs → OrderPairs qs rs → OrderPairs ps rs
  order-trans-pairs order_no_pairs os = os
  order-trans-pairs (order_pairs o os i) os' = let (w, ts, p, q, j) = order-take i os' in order_pairs (order_trans o p) (order-trans-pairs os q) j

-- ---- Within

pub within-of-among : {x : Json} {k : List ℕ} {v : Json} {ps : Pairs} → Among k v ps → Within x v → WithinPairs x ps
within-of-among first h = in_pair h
within-of-among (later a) h = in_later_pair (within-of-among a h)

within-insert : {x : Json} {k : List ℕ} {v : Json} {ps qs : Pairs} → Insert k v ps qs → WithinPairs x ps → WithinPairs x qs
within-insert in_front h = in_later_pair h
within-insert (behind i) (in_pair h) = in_pair h
within-insert (behind i) (in_later_pair h) = in_later_pair (within-insert i h)

mutual
  -- what stands in a value stands, in some order of its own, in each order of the value
  pub within-order : {x v w : Json} → Within x v → Order v w → (y : Json) × Within y w × Order x y
  within-order {w} itself o = (w, itself, o)
  within-order (in_array h) (order_array os) = let (y, g, p) = within-order-values h os in (y, in_array g, p)
  within-order (in_object h) (order_object os) = let (y, g, p) = within-order-pairs h os in (y, in_object g, p)

  within-order-values : {x : Json} {vs ws : Values} → WithinValues x vs → OrderValues vs ws → (y : Json) × WithinValues y ws × Order x y
  within-order-values (in_element h) (order_values o os) = let (y, g, p) = within-order h o in (y, in_element g, p)
  within-order-values (in_later_element h) (order_values o os) = let (y, g, p) = within-order-values h os in (y, in_later_element g, p)

  within-order-pairs : {x : Json} {ps qs : Pairs} → WithinPairs x ps → OrderPairs ps qs → (y : Json) × WithinPairs y qs × Order x y
  within-order-pairs (in_pair h) (order_pairs o os i) = let (y, g, p) = within-order h o in (y, within-of-among (among-of-insert i) g, p)
  within-order-pairs (in_later_pair h) (order_pairs o os i) = let (y, g, p) = within-order-pairs h os in (y, within-insert i g, p)

-- where no object of an order has a key twice, none of the value has
pub keys-once-of-order : {v w : Json} → Order v w → KeysOnce w → KeysOnce v
keys-once-of-order {w} o once ps h d = go (within-order h o)
  where
    apart : {y : Json} → Within y w → Order (object ps) y → ⊥
    apart h (order_object {qs} os) = once qs h (key-twice-order os d)

    go : (y : Json) × Within y w × Order (object ps) y → ⊥
    go (y, g, p) = apart g p
