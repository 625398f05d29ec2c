-- The evaluation from the leaves up says which kinds a value fits in some order of its pairs, and so which texts are valid. Assumes nothing.
use mathlib.Core.Bool.{Bool, true, false, true≢false}
use mathlib.Core.List.{List}
use mathlib.Core.Logic.{◌↔◌}
use mathlib.Core.Path.{◌≡◌, refl, sym, ◌∙◌}
use Prim.Native.Nat.{ℕ}
use lib.Dec.{T}
use Rattle.laws.proofs.TestLaws.{true-of-T, T-of-true}
use Rattle.json_text.specs.Tree.{Json, word, string, number, array, object, Values, no_values, values, Pairs, no_pairs, pairs}
use Rattle.json_text.specs.Meaning.{meaning, elements, members}
use Rattle.table.specs.declared.kind.ValueKind.{ValueKind}
use Rattle.table.specs.declared.kind.ValueKind.TheVariants.{Plain, Rule}
use Rattle.book.specs.Entry.{arr, Entry, edge}
use Rattle.runs.specs.Runs.{◌∈◌, Fits, fits_array, fits_object, ArrayRun, array_end, array_edge, ObjectRun, order_array, order_object, OrderValues, order_no_values, order_values, OrderPairs, Compound, compound_array, compound_object, FitsInSomeOrder, in_order, Valid}
use Rattle.runs.specs.Sound.{Sound}
use Rattle.runs.specs.Walk.{of_rules, States, start_of, has_end, after_element, at_opening, object_fits, judging}
use Rattle.runs.proofs.RunLaws.{keys-once-of-fits-in-some-order}
use Rattle.runs.proofs.StateLaws.{EndIn, end-in, has_end-of-end, end-of-has_end, start-of-end, start-of-edge, zero-of-start, ElementMove, element-move, after_element-of-edge, edge-of-after_element}
use Rattle.runs.proofs.WalkLaws.{Evaluated, AllJudged, judged-none, judged-pair, run-of-object_fits, object_fits-of-run}
use Rattle.runs.proofs.ScalarLaws.{judged-word, judged-string, judged-number}

module _ (es : List Entry) where
  -- ---- arrays

  -- each of some elements is judged as it fits
  data AllElementsJudged : Values → Type 0 where
    judged-no-values : AllElementsJudged no_values
    judged-values : {v : Json} {vs : Values} → Evaluated es v → AllElementsJudged vs → AllElementsJudged (values v vs)

  -- elements in some order of the pairs within them have a run of rule r from one of the states
  data ElementsRunFrom (S : States) (r : ℕ) (vs : Values) : Type 0 where
    elements-run-from : {q : ℕ} {ws : Values} → T (S r q) → OrderValues vs ws → ArrayRun es r q ws → ElementsRunFrom S r vs

  run-of-elements : {vs : Values} → AllElementsJudged vs → (S : States) (r : ℕ) → T (has_end es arr (elements (judging es) vs S) r) → ElementsRunFrom S r vs
  run-of-elements judged-no-values S r h = go (end-of-has_end es arr S r h)
    where
      go : EndIn es arr S r → ElementsRunFrom S r no_values
      go (end-in i s) = elements-run-from s order_no_values (array_end i)
  run-of-elements (judged-values {v} {vs} j js) S r h = go (run-of-elements js (after_element es S (meaning (judging es) v)) r h)
    where
      fit : {q m : ℕ} {k : List ℕ} {t : ValueKind} {ws : Values} → T (S r q) → edge r arr q k t m ∈ es → OrderValues vs ws → ArrayRun es r m ws
          → FitsInSomeOrder es t v → ElementsRunFrom S r (values v vs)
      fit s i os run (in_order o f) = elements-run-from s (order_values o os) (array_edge i f run)

      move : {m : ℕ} {ws : Values} → OrderValues vs ws → ArrayRun es r m ws → ElementMove es S (meaning (judging es) v) r m → ElementsRunFrom S r (values v vs)
      move os run (element-move {t} i s w) = fit s i os run (j.fits t w)

      go : ElementsRunFrom (after_element es S (meaning (judging es) v)) r vs → ElementsRunFrom S r (values v vs)
      go (elements-run-from {q} s os run) = move os run (edge-of-after_element es S (meaning (judging es) v) r q s)

  elements-of-run : {vs ws : Values} {r q : ℕ} → AllElementsJudged vs → OrderValues vs ws → ArrayRun es r q ws → (S : States) → T (S r q)
      → T (has_end es arr (elements (judging es) vs S) r)
  elements-of-run judged-no-values order_no_values (array_end i) S s = has_end-of-end es S i s
  elements-of-run (judged-values {v} j js) (order_values o os) (array_edge {t} i f run) S s =
      elements-of-run js os run (after_element es S (meaning (judging es) v)) (after_element-of-edge es S (meaning (judging es) v) i s (j.judged t (in_order o f)))

  start-of-array-run : {r q : ℕ} {ws : Values} → ArrayRun es r q ws → T (start_of es arr r 0)
  start-of-array-run (array_end i) = start-of-end es i
  start-of-array-run (array_edge i f run) = start-of-edge es i

  judged-array : (vs : Values) → AllElementsJudged vs → Evaluated es (array vs)
  unfolding of_rules
  judged-array vs js = record { fits = fits'; judged = λ t f. back f }
    where
      from : (r : ℕ) → ElementsRunFrom (start_of es arr) r vs → FitsInSomeOrder es (Rule r) (array vs)
      from r (elements-run-from {q} s os run) = let e : q ≡ 0 = zero-of-start es arr r q s in in_order (order_array os) (fits_array (rw e at run))

      fits' : (t : ValueKind) → T (meaning (judging es) (array vs) t) → FitsInSomeOrder es t (array vs)
      fits' (Plain t) h = absurd h
      fits' (Rule r) h = from r (run-of-elements js (start_of es arr) r h)

      of-run : {t : ValueKind} {ws : Values} → OrderValues vs ws → Fits es t (array ws) → T (meaning (judging es) (array vs) t)
      of-run os (fits_array run) = elements-of-run js os run (start_of es arr) (start-of-array-run run)

      back : {t : ValueKind} → FitsInSomeOrder es t (array vs) → T (meaning (judging es) (array vs) t)
      back (in_order (order_array os) f) = of-run os f

-- only objects and arrays fit a rule
pub compound-of-fits : {es : List Entry} {v : Json} {r : ℕ} → FitsInSomeOrder es (Rule r) v → Compound v
compound-of-fits (in_order Rattle.runs.specs.Runs.order_word f) = elim f [ ]
compound-of-fits (in_order Rattle.runs.specs.Runs.order_string f) = elim f [ ]
compound-of-fits (in_order Rattle.runs.specs.Runs.order_number f) = elim f [ ]
compound-of-fits (in_order (order_array os) f) = compound_array
compound-of-fits (in_order (order_object os) f) = compound_object

module _ {es : List Entry} (sound : Sound es) where
  -- ---- objects

  judged-object : (ps : Pairs) → AllJudged es ps → Evaluated es (object ps)
  unfolding of_rules
  judged-object ps js = record { fits = fits'; judged = λ t f. back f }
    where
      fits' : (t : ValueKind) → T (meaning (judging es) (object ps) t) → FitsInSomeOrder es t (object ps)
      fits' (Plain t) h = absurd h
      fits' (Rule r) h = let (qs, os, run) = run-of-object_fits sound ps js r h in in_order (order_object os) (fits_object run)

      of-run : {t : ValueKind} {qs : Pairs} → OrderPairs ps qs → Fits es t (object qs) → T (meaning (judging es) (object ps) t)
      of-run os (fits_object run) = object_fits-of-run sound ps js os run

      back : {t : ValueKind} → FitsInSomeOrder es t (object ps) → T (meaning (judging es) (object ps) t)
      back (in_order (order_object os) f) = of-run os f

  -- ---- every value

  mutual
    judged-value : (v : Json) → Evaluated es v
    judged-value (word x) = judged-word es x
    judged-value (string cs) = judged-string es cs
    judged-value (number ds) = judged-number es ds
    judged-value (array vs) = judged-array es vs (judged-elements vs)
    judged-value (object ps) = judged-object ps (judged-pairs ps)

    judged-elements : (vs : Values) → AllElementsJudged es vs
    judged-elements no_values = judged-no-values
    judged-elements (values v vs) = judged-values (judged-value v) (judged-elements vs)

    judged-pairs : (ps : Pairs) → AllJudged es ps
    judged-pairs no_pairs = judged-none
    judged-pairs (pairs k v ps) = judged-pair (judged-value v) (judged-pairs ps)

  -- ---- the theorems

  -- a value is judged to fit a kind exactly when it does so in some order of the pairs within its objects
  pub fits-iff-judged : (v : Json) (t : ValueKind) → FitsInSomeOrder es t v ↔ (meaning (judging es) v t ≡ true)
  fits-iff-judged v t = (λ f. true-of-T (meaning (judging es) v t) ((judged-value v).judged t f), λ e. (judged-value v).fits t (T-of-true (meaning (judging es) v t) e))

  -- some order of an object's pairs has an accepting run of a rule exactly when the ascending walk over the keys seen accepts
  pub some-order-iff-walk : (ps : Pairs) (r : ℕ)
      → ((qs : Pairs) × OrderPairs ps qs × ObjectRun es r 0 qs) ↔ (object_fits es (members (judging es) ps (at_opening es)) r ≡ true)
  some-order-iff-walk ps r = (there, λ e. run-of-object_fits sound ps (judged-pairs ps) r (T-of-true accepted e))
    where
      accepted : Bool
      accepted = object_fits es (members (judging es) ps (at_opening es)) r

      there : (qs : Pairs) × OrderPairs ps qs × ObjectRun es r 0 qs → accepted ≡ true
      there (qs, os, run) = true-of-T accepted (object_fits-of-run sound ps (judged-pairs ps) os run)

  -- a text is valid exactly when its value is judged to fit rule 0
  pub valid-iff-judged : (v : Json) → Valid es v ↔ (meaning (judging es) v (Rule 0) ≡ true)
  valid-iff-judged v = (λ g. (fits-iff-judged v (Rule 0)).0 g.run, λ e. valid ((fits-iff-judged v (Rule 0)).1 e))
    where
      valid : FitsInSomeOrder es (Rule 0) v → Valid es v
      valid f = record { root = compound-of-fits f; keys_once = keys-once-of-fits-in-some-order sound f; run = f }

  -- a text is invalid exactly when its value is judged not to fit rule 0
  pub invalid-iff-judged : (v : Json) → (Valid es v → ⊥) ↔ (meaning (judging es) v (Rule 0) ≡ false)
  invalid-iff-judged v = (λ n. go (meaning (judging es) v (Rule 0)) (λ e. n ((valid-iff-judged v).1 e)), λ e g. true≢false (sym ((valid-iff-judged v).0 g) ∙ e))
    where
      go : (b : Bool) → (b ≡ true → ⊥) → b ≡ false
      go true n = absurd (n refl)
      go false n = refl
