-- The trees that are valid under book B: `corners` with pairs of numbers and `name` with a string, in either order. So such a tree has its corners,
-- and its numbers at level 3 are theirs. Assumes nothing.
use mathlib.Core.Bool.{Bool, true, false, cond, ◌&&◌}
use mathlib.Core.List.{List, [], ◌∷◌, ◌++◌, append_assoc, append-nil}
use mathlib.Core.Path.{◌≡◌, refl, sym, ap, subst, ◌∙◌}
use Prim.Native.Nat.{ℕ}
use native.Mathlib.Omega.{arith}
use lib.Dec.{T, eqb, eqb→eq}
use Rattle.laws.specs.Ascii.{ascii}
use Rattle.laws.specs.Lists.{same, all}
use Rattle.laws.proofs.TestLaws.{T-and-left, T-and-right}
use Rattle.laws.proofs.ListLaws.{eq-of-same, T-of-all}
use Rattle.json_text.specs.Tree.{Json, Values, Pairs, string, number, array, object, no_values, values, no_pairs, pairs}
use Rattle.json_text.specs.Meaning.{meaning, elements}
use Rattle.json_text.proofs.MeaningLaws.{fold-snoc}
use Rattle.table.specs.declared.kind.Scalar.TheVariants.{Null, True, False, Str, Num, Int}
use Rattle.table.specs.declared.kind.ValueKind.{ValueKind}
use Rattle.table.specs.declared.kind.ValueKind.TheVariants.{Plain, Rule}
use Rattle.book.specs.Entry.{Form, obj, arr, same_form, Entry, edge, end_state}
use Rattle.book.specs.Load.{loads}
use Rattle.book.specs.Examples.{book_b}
use Rattle.book.proofs.Examples.{entries_b, loads-book_b}
use Rattle.runs.specs.Runs.{◌∈◌, Fits, fits_str, fits_int, fits_array, fits_object, ArrayRun, array_end, array_edge, ObjectRun, object_end, object_edge, Insert, in_front, behind, Order, order_word, order_string, order_number, order_array, order_object, OrderValues, order_no_values, order_values, OrderPairs, order_no_pairs, order_pairs, Among, first, later, FitsInSomeOrder, in_order, Valid}
use Rattle.corners.specs.Corners.{Corner, CornersIn, no_corner, corner, CornersOf, under_corners}
use Rattle.corners.specs.Numbers.{ByLevel, no_numbers, both, numbering, flat}

-- ---- what an entry of book B can be

-- an edge of a rule, form and state passes a test of its key, kind and next
abbrev edge_test : ℕ → Form → ℕ → (List ℕ → ValueKind → ℕ → Bool) → Entry → Bool
edge_test r f q c (edge s g p k t m) = cond (eqb r s && (same_form f g && eqb q p)) (c k t m) true
edge_test r f q c (end_state s g p) = true

-- a rule of a form has no end state q
abbrev end_test : ℕ → Form → ℕ → Entry → Bool
end_test r f q (edge s g p k t m) = true
end_test r f q (end_state s g p) = cond (eqb r s && (same_form f g && eqb q p)) false true

-- no edge leaves
abbrev none : List ℕ → ValueKind → ℕ → Bool
none k t m = false

abbrev is_rule : ℕ → ValueKind → Bool
is_rule n (Plain s) = false
is_rule n (Rule m) = eqb n m

abbrev is_str : ValueKind → Bool
is_str (Plain Str) = true
is_str (Plain Null) = false
is_str (Plain True) = false
is_str (Plain False) = false
is_str (Plain Num) = false
is_str (Plain Int) = false
is_str (Rule m) = false

abbrev is_int : ValueKind → Bool
is_int (Plain Int) = true
is_int (Plain Null) = false
is_int (Plain True) = false
is_int (Plain False) = false
is_int (Plain Str) = false
is_int (Plain Num) = false
is_int (Rule m) = false

rule-is : (n : ℕ) (t : ValueKind) → T (is_rule n t) → t ≡ Rule n
rule-is n (Plain s) h = absurd h
rule-is n (Rule m) h = ap Rule (sym (eqb→eq n m h))

-- ---- runs of its rules

abbrev E : List Entry
E = entries_b

-- a value that fits `str` is a string, one that fits `int` a number
pub data IsString : Json → Type 0 where
  value_string : {cs : List ℕ} → IsString (string cs)

data IsNumber : Json → Type 0 where
  is_number : {ds : List ℕ} → IsNumber (number ds)

string-of-fits : (t : ValueKind) {v : Json} → T (is_str t) → Fits E t v → IsString v
string-of-fits (Plain Null) h x = absurd h
string-of-fits (Plain True) h x = absurd h
string-of-fits (Plain False) h x = absurd h
string-of-fits (Plain Str) h fits_str = value_string
string-of-fits (Plain Num) h x = absurd h
string-of-fits (Plain Int) h x = absurd h
string-of-fits (Rule m) h x = absurd h

number-of-fits : (t : ValueKind) {v : Json} → T (is_int t) → Fits E t v → IsNumber v
number-of-fits (Plain Null) h x = absurd h
number-of-fits (Plain True) h x = absurd h
number-of-fits (Plain False) h x = absurd h
number-of-fits (Plain Str) h x = absurd h
number-of-fits (Plain Num) h x = absurd h
number-of-fits (Plain Int) h (fits_int y) = is_number
number-of-fits (Rule m) h x = absurd h

-- rule 2: two numbers
data TwoNumbers : Values → Type 0 where
  two-numbers : {x y : List ℕ} → TwoNumbers (values (number x) (values (number y) no_values))

no-more-2 : {vs : Values} → ArrayRun E 2 2 vs → vs ≡ no_values
unfolding all same_form
no-more-2 (array_end h) = refl
no-more-2 (array_edge h x y) = absurd (T-of-all (edge_test 2 arr 2 none) E tt h)

one_number : {vs : Values} {x : List ℕ} → ArrayRun E 2 1 vs → TwoNumbers (values (number x) vs)
unfolding all same_form
one_number (array_end h) = absurd (T-of-all (end_test 2 arr 1) E tt h)
one_number {x} (array_edge {m} {t} {v} {vs} h f r) =
    let c = T-of-all (edge_test 2 arr 1 (λ _ t m. is_int t && eqb m 2)) E tt h in
    go (number-of-fits t (T-and-left (is_int t) _ c) f) (no-more-2 (subst (λ (i : ℕ). ArrayRun E 2 i vs) (eqb→eq m 2 (T-and-right (is_int t) _ c)) r))
  where
    go : {u : Json} {us : Values} → IsNumber u → us ≡ no_values → TwoNumbers (values (number x) (values u us))
    go is_number e = rw e two-numbers

two-of-run : {vs : Values} → ArrayRun E 2 0 vs → TwoNumbers vs
unfolding all same_form
two-of-run (array_end h) = absurd (T-of-all (end_test 2 arr 0) E tt h)
two-of-run (array_edge {m} {t} {v} {vs} h f r) =
    let c = T-of-all (edge_test 2 arr 0 (λ _ t m. is_int t && eqb m 1)) E tt h in
    go (number-of-fits t (T-and-left (is_int t) _ c) f) (subst (λ (i : ℕ). ArrayRun E 2 i vs) (eqb→eq m 1 (T-and-right (is_int t) _ c)) r)
  where
    go : {u : Json} {us : Values} → IsNumber u → ArrayRun E 2 1 us → TwoNumbers (values u us)
    go is_number x = one_number x

-- a value that fits rule 2 is a corner
data IsCorner : Json → Type 0 where
  is-corner : {x y : List ℕ} → IsCorner (array (values (number x) (values (number y) no_values)))

corner-of-fits : {v : Json} → Fits E (Rule 2) v → IsCorner v
unfolding all same_form
corner-of-fits (fits_array r) = go (two-of-run r)
  where
    go : {vs : Values} → TwoNumbers vs → IsCorner (array vs)
    go two-numbers = is-corner
corner-of-fits (fits_object (object_end h)) = absurd (T-of-all (end_test 2 obj 0) E tt h)
corner-of-fits (fits_object (object_edge h x y)) = absurd (T-of-all (edge_test 2 obj 0 none) E tt h)

-- rule 1: corners
data SomeCorners (vs : Values) : Type 0 where
  some-corners : {cs : List Corner} → CornersIn vs cs → SomeCorners vs

corners-of-run : {q : ℕ} {vs : Values} → ArrayRun E 1 q vs → q ≡ 0 → SomeCorners vs
unfolding all same_form
corners-of-run (array_end h) e = some-corners no_corner
corners-of-run (array_edge {q} {m} {k} {t} {v} {vs} h f r) e =
    let c = T-of-all (edge_test 1 arr 0 (λ _ t m. is_rule 2 t && eqb m 0)) E tt (subst (λ (i : ℕ). edge 1 arr i k t m ∈ E) e h) in
    go (corner-of-fits (subst (λ (k : ValueKind). Fits E k v) (rule-is 2 t (T-and-left (is_rule 2 t) _ c)) f))
    (corners-of-run r (eqb→eq m 0 (T-and-right (is_rule 2 t) _ c)))
  where
    go : {u : Json} {us : Values} → IsCorner u → SomeCorners us → SomeCorners (values u us)
    go is-corner (some-corners x) = some-corners (corner x)

-- a value that fits rule 1 is an array of corners
pub data IsCorners : Json → Type 0 where
  is-corners : {vs : Values} {cs : List Corner} → CornersIn vs cs → IsCorners (array vs)

corners-of-fits : {v : Json} → Fits E (Rule 1) v → IsCorners v
unfolding all same_form
corners-of-fits (fits_array r) = go (corners-of-run r refl)
  where
    go : {vs : Values} → SomeCorners vs → IsCorners (array vs)
    go (some-corners x) = is-corners x
corners-of-fits (fits_object (object_end h)) = absurd (T-of-all (end_test 1 obj 0) E tt h)
corners-of-fits (fits_object (object_edge h x y)) = absurd (T-of-all (edge_test 1 obj 0 none) E tt h)

-- rule 0: `corners`, then `name`
abbrev pub corners_key : List ℕ
corners_key = ascii "corners"

abbrev pub name_key : List ℕ
name_key = ascii "name"

no-more-0 : {ps : Pairs} → ObjectRun E 0 2 ps → ps ≡ no_pairs
unfolding all same_form
no-more-0 (object_end h) = refl
no-more-0 (object_edge h x y) = absurd (T-of-all (edge_test 0 obj 2 none) E tt h)

-- the pairs of a field, `corners` first
data InBookOrder : Pairs → Type 0 where
  in-book-order : {v u : Json} → IsCorners v → IsString u → InBookOrder (pairs corners_key v (pairs name_key u no_pairs))

named-of-run : {v : Json} {ps : Pairs} → IsCorners v → ObjectRun E 0 1 ps → InBookOrder (pairs corners_key v ps)
unfolding all same_form same
named-of-run x (object_end h) = absurd (T-of-all (end_test 0 obj 1) E tt h)
named-of-run {v} x (object_edge {m} {k} {t} {v = u} {ps} h f r) =
    let c = T-of-all (edge_test 0 obj 1 (λ k t m. same k name_key && (is_str t && eqb m 2))) E tt h in
    let d = T-and-right (same k name_key) _ c in
    go k (eq-of-same k name_key (T-and-left (same k name_key) _ c)) (string-of-fits t (T-and-left (is_str t) _ d) f)
    (no-more-0 (subst (λ (i : ℕ). ObjectRun E 0 i ps) (eqb→eq m 2 (T-and-right (is_str t) _ d)) r))
  where
    go : (k : List ℕ) {u : Json} {ps : Pairs} → k ≡ name_key → IsString u → ps ≡ no_pairs → InBookOrder (pairs corners_key v (pairs k u ps))
    go k e y g = rw (e, g) (in-book-order x y)

book_order-of-run : {ps : Pairs} → ObjectRun E 0 0 ps → InBookOrder ps
unfolding all same_form same
book_order-of-run (object_end h) = absurd (T-of-all (end_test 0 obj 0) E tt h)
book_order-of-run (object_edge {m} {k} {t} {v} {ps} h f r) =
    let c = T-of-all (edge_test 0 obj 0 (λ k t m. same k corners_key && (is_rule 1 t && eqb m 1))) E tt h in
    let d = T-and-right (same k corners_key) _ c in
    go k (eq-of-same k corners_key (T-and-left (same k corners_key) _ c))
    (corners-of-fits (subst (λ (k : ValueKind). Fits E k v) (rule-is 1 t (T-and-left (is_rule 1 t) _ d)) f))
    (subst (λ (i : ℕ). ObjectRun E 0 i ps) (eqb→eq m 1 (T-and-right (is_rule 1 t) _ d)) r)
  where
    go : (k : List ℕ) {v : Json} {ps : Pairs} → k ≡ corners_key → IsCorners v → ObjectRun E 0 1 ps → InBookOrder (pairs k v ps)
    go k {v} {ps} e y g = subst (λ (x : List ℕ). InBookOrder (pairs x v ps)) (sym e) (named-of-run y g)

-- ---- some order of the pairs

order-corners : {us vs : Values} {cs : List Corner} → OrderValues us vs → CornersIn vs cs → CornersIn us cs
order-corners order_no_values no_corner = no_corner
order-corners (order_values order_word h) x9 = elim x9 [ ]
order-corners (order_values order_string h) x9 = elim x9 [ ]
order-corners (order_values order_number h) x10 = elim x10 [ ]
order-corners (order_values (order_array order_no_values) h) x17 = elim x17 [ ]
order-corners (order_values (order_array (order_values order_word _)) h) x31 = elim x31 [ ]
order-corners (order_values (order_array (order_values order_string _)) h) x31 = elim x31 [ ]
order-corners (order_values (order_array (order_values order_number order_no_values)) h) x35 = elim x35 [ ]
order-corners (order_values (order_array (order_values order_number (order_values order_word _))) h) x49 = elim x49 [ ]
order-corners (order_values (order_array (order_values order_number (order_values order_string _))) h) x49 = elim x49 [ ]
order-corners (order_values (order_array (order_values order_number (order_values order_number (order_values _ _)))) h) x59 = elim x59 [ ]
order-corners (order_values (order_array (order_values order_number (order_values (order_array _) _))) h) x54 = elim x54 [ ]
order-corners (order_values (order_array (order_values order_number (order_values (order_object _) _))) h) x55 = elim x55 [ ]
order-corners (order_values (order_array (order_values (order_array _) _)) h) x36 = elim x36 [ ]
order-corners (order_values (order_array (order_values (order_object _) _)) h) x37 = elim x37 [ ]
order-corners (order_values (order_object _) h) x15 = elim x15 [ ]
order-corners (order_values (order_array (order_values order_number (order_values order_number order_no_values))) h) (corner x) = corner (order-corners h x)

string-of-order : {u w : Json} → Order u w → IsString w → IsString u
string-of-order order_word x5 = elim x5 [ ]
string-of-order order_number x5 = elim x5 [ ]
string-of-order (order_array _) x9 = elim x9 [ ]
string-of-order (order_object _) x10 = elim x10 [ ]
string-of-order order_string value_string = value_string

corners-of-order : {u w : Json} → Order u w → IsCorners w → IsCorners u
corners-of-order order_word x5 = elim x5 [ ]
corners-of-order order_string x5 = elim x5 [ ]
corners-of-order order_number x6 = elim x6 [ ]
corners-of-order (order_object _) x10 = elim x10 [ ]
corners-of-order (order_array h) (is-corners x) = is-corners (order-corners h x)

-- the tree of a field
pub data IsField : Json → Type 0 where
  corners-first : {v u : Json} → IsCorners v → IsString u → IsField (object (pairs corners_key v (pairs name_key u no_pairs)))
  name-first : {v u : Json} → IsCorners v → IsString u → IsField (object (pairs name_key u (pairs corners_key v no_pairs)))

no-pairs-of-order : {ps : Pairs} → OrderPairs ps no_pairs → ps ≡ no_pairs
no-pairs-of-order (order_pairs _ _ x9) = elim x9 [ ]
no-pairs-of-order order_no_pairs = refl

data OnePair (k : List ℕ) (w : Json) : Pairs → Type 0 where
  one-pair : {u : Json} → Order u w → OnePair k w (pairs k u no_pairs)

one-of-order : {k : List ℕ} {w : Json} {ps : Pairs} → OrderPairs ps (pairs k w no_pairs) → OnePair k w ps
one-of-order (order_pairs o h (behind x8)) = elim x8 [ ]
one-of-order (order_pairs o h in_front) = go o (no-pairs-of-order h)
  where
    go : {l : List ℕ} {u w : Json} {ps : Pairs} → Order u w → ps ≡ no_pairs → OnePair l w (pairs l u ps)
    go o e = rw e (one-pair o)

-- nothing is put into no pairs
insert-some : {k : List ℕ} {w : Json} {ps qs : Pairs} → Insert k w ps qs → qs ≡ no_pairs → ⊥
insert-some in_front e = let z : ◌≡◌ {A = ℕ} 0 1 = cc in omega arith
insert-some (behind i) e = let z : ◌≡◌ {A = ℕ} 0 1 = cc in omega arith

name-after : {u c s : Json} {ps : Pairs} → IsCorners c → IsString s → Order u c → OnePair name_key s ps → IsField (object (pairs corners_key u ps))
name-after x y o (one-pair p) = corners-first (corners-of-order o x) (string-of-order p y)

name-before : {u c s : Json} {ps : Pairs} → IsCorners c → IsString s → Order u s → OnePair corners_key c ps → IsField (object (pairs name_key u ps))
name-before x y o (one-pair p) = name-first (corners-of-order p x) (string-of-order o y)

-- behind `corners` stands `name`
name-put-in : {k : List ℕ} {u w c s : Json} {ps qs : Pairs} → IsCorners c → IsString s → Order u w → OrderPairs ps (pairs corners_key c qs)
    → Insert k w qs (pairs name_key s no_pairs) → IsField (object (pairs k u ps))
name-put-in x y o h in_front = name-before x y o (one-of-order h)
name-put-in x y o h (behind i) = absurd (insert-some i refl)

put_in : {k : List ℕ} {u w c s : Json} {ps qs : Pairs} → IsCorners c → IsString s → Order u w → OrderPairs ps qs
    → Insert k w qs (pairs corners_key c (pairs name_key s no_pairs)) → IsField (object (pairs k u ps))
put_in x y o h in_front = name-after x y o (one-of-order h)
put_in x y o h (behind i) = name-put-in x y o h i

field-of-order : {ps qs : Pairs} → InBookOrder qs → OrderPairs ps qs → IsField (object ps)
field-of-order (in-book-order x y) (order_pairs o h i) = put_in x y o h i

field-of-fits : {v w : Json} → Order v w → Fits E (Rule 0) w → IsField v
unfolding all same_form
field-of-fits o (fits_array (array_end h)) = absurd (T-of-all (end_test 0 arr 0) E tt h)
field-of-fits o (fits_array (array_edge h x y)) = absurd (T-of-all (edge_test 0 arr 0 none) E tt h)
field-of-fits (order_object h) (fits_object r) = field-of-order (book_order-of-run r) h

-- a tree that is valid under book B is that of a field
pub field-of-valid : {v : Json} → Valid (loads book_b).entries v → IsField v
field-of-valid {v} h = go (subst (λ (es : List Entry). Valid es v) (ap (λ l. l.entries) loads-book_b) h)
  where
    go : Valid E v → IsField v
    go x = into x.run
      where
        into : FitsInSomeOrder E (Rule 0) v → IsField v
        into (in_order o f) = field-of-fits o f

-- ---- its corners

-- the corners of a field
pub data HasCorners (v : Json) : Type 0 where
  has-corners : {cs : List Corner} → CornersOf v cs → HasCorners v

pub corners-of-field : {v : Json} → IsField v → HasCorners v
corners-of-field (corners-first (is-corners x) y) = has-corners (under_corners first x)
corners-of-field (name-first (is-corners x) y) = has-corners (under_corners (later first) x)

corners_in-unique : {vs : Values} {cs ds : List Corner} → CornersIn vs cs → CornersIn vs ds → cs ≡ ds
corners_in-unique no_corner no_corner = refl
corners_in-unique (corner {x} {y} h) (corner g) = ap (λ l. record { x = x; y = y } ∷ l) (corners_in-unique h g)

-- the numbers of an array of corners
level-1 : {vs : Values} {cs : List Corner} → CornersIn vs cs → (a : ByLevel) → elements numbering vs a 1 ≡ a 1 ++ flat cs
unfolding both no_numbers
level-1 no_corner a = sym (append-nil (a 1))
level-1 (corner {x} {y} {cs} h) a =
    level-1 h _ ∙ rw (fold-snoc x, fold-snoc y) (append_assoc (a 1) (x ∷ y ∷ []) (flat cs))

not-among : {k : List ℕ} {v : Json} → Among k v no_pairs → ⊥
not-among a = elim a [ ]

-- of a pair of an array and one of a string, the array is the one
array-here : {k l m : List ℕ} {vs ws : Values} {u : Json} → IsString u → Among k (array vs) (pairs l (array ws) (pairs m u no_pairs)) → vs ≡ ws
array-here value_string first = refl
array-here value_string (later (later a)) = absurd (not-among a)

array-there : {k l m : List ℕ} {vs ws : Values} {u : Json} → IsString u → Among k (array vs) (pairs m u (pairs l (array ws) no_pairs)) → vs ≡ ws
array-there value_string (later first) = refl
array-there value_string (later (later a)) = absurd (not-among a)

-- a field has one list of corners
pub corners-unique : {v : Json} {cs ds : List Corner} → IsField v → CornersOf v cs → CornersOf v ds → cs ≡ ds
corners-unique (corners-first (is-corners x) y) (under_corners {cs} a h) (under_corners {cs = ds} b g) =
    corners_in-unique (subst (λ (vs : Values). CornersIn vs cs) (array-here y a) h) (subst (λ (vs : Values). CornersIn vs ds) (array-here y b) g)
corners-unique (name-first (is-corners x) y) (under_corners {cs} a h) (under_corners {cs = ds} b g) =
    corners_in-unique (subst (λ (vs : Values). CornersIn vs cs) (array-there y a) h) (subst (λ (vs : Values). CornersIn vs ds) (array-there y b) g)

level-2 : {vs : Values} {cs : List Corner} → CornersIn vs cs → meaning numbering (array vs) 2 ≡ flat cs
unfolding no_numbers
level-2 h = level-1 h no_numbers

-- a string beside a value adds no numbers
string-after : (k l : List ℕ) (v : Json) {u : Json} → IsString u → meaning numbering (object (pairs k v (pairs l u no_pairs))) 3 ≡ meaning numbering v 2
unfolding both no_numbers
string-after k l v value_string = append-nil (meaning numbering v 2)

string-before : (k l : List ℕ) (v : Json) {u : Json} → IsString u → meaning numbering (object (pairs l u (pairs k v no_pairs))) 3 ≡ meaning numbering v 2
unfolding both no_numbers
string-before k l v value_string = refl

-- the numbers of a field that stand in three values are those of its corners
pub level-3 : {v : Json} {cs : List Corner} → IsField v → CornersOf v cs → meaning numbering v 3 ≡ flat cs
level-3 {cs} (corners-first (is-corners {vs} x) y) (under_corners a h) =
    string-after corners_key name_key (array vs) y ∙ level-2 (subst (λ (ws : Values). CornersIn ws cs) (array-here y a) h)
level-3 {cs} (name-first (is-corners {vs} x) y) (under_corners a h) =
    string-before corners_key name_key (array vs) y ∙ level-2 (subst (λ (ws : Values). CornersIn ws cs) (array-there y a) h)
