-- The form of a rule in a table that keeps a book: that of the rule's entries. Assumes nothing.
use mathlib.Core.Bool.{Bool, true, false, cond, ◌&&◌}
use mathlib.Core.List.Memᴰ
use mathlib.Core.List.{List, [], ◌∷◌}
use mathlib.Core.Logic.{◌↔◌}
use mathlib.Core.Path.{◌≡◌, refl, sym, ap, subst, ◌∙◌}
use Prim.Native.Nat.{ℕ, ◌<◌}
use native.Mathlib.Omega.{arith}
use lib.Dec.{T, eqb, eqb→eq, eqb_refl}
use lib.ListN.{get_or}
use borrow.Author.Tests.{eqb-true, eqb-false}
use Rattle.laws.specs.Lists.{any}
use Rattle.laws.proofs.TestLaws.{T-and-right}
use Rattle.table.specs.Table.{Table}
use Rattle.book.specs.Entry.{Form, obj, arr, same_form, Entry, edge, end_state}
use Rattle.book.specs.Load.{rule_of, form_in}
use Rattle.book.specs.Holds.{form_code, rule_form}
use Rattle.runs.specs.Runs.{◌∈◌}
use Rattle.runs.specs.Walk.{is_of, start_of}
use Rattle.laws.proofs.ListLaws.{member-of-any}
use Rattle.runs.proofs.StateLaws.{start-of-edge, start-of-end, zero-of-start}
use Rattle.frame.specs.Edges.{has_form}
use Rattle.frame.proofs.EdgeLaws.{has_form-below, below-of-has_form}
use Rattle.meaning.specs.Shows.{Carries}

-- an entry of rule n, which has form f
pub data OfRule (es : List Entry) (f : Form) (n : ℕ) : Type 0 where
  of-rule : {x : Entry} → x ∈ es → rule_of x ≡ n → form_in x ≡ f → OfRule es f n

-- ---- rule_form

-- forms with one code are the same
form-eq-of-form_code : (f g : Form) → form_code f ≡ form_code g → f ≡ g
unfolding form_code
form-eq-of-form_code obj obj e = refl
form-eq-of-form_code obj arr e = absurd (omega arith)
form-eq-of-form_code arr obj e = absurd (omega arith)
form-eq-of-form_code arr arr e = refl

-- 0 is the code of no form
form_code-not-zero : (f : Form) → 0 ≡ form_code f → ⊥
unfolding form_code
form_code-not-zero obj e = omega arith
form_code-not-zero arr e = omega arith

-- where the entries of a rule have a form, and there is one, the rule has it
rule_form-of-entry : (es : List Entry) (f : Form) (n : ℕ) → ((y : Entry) → y ∈ es → rule_of y ≡ n → form_in y ≡ f) → {x : Entry} → x ∈ es → rule_of x ≡ n
    → rule_form es n ≡ form_code f
unfolding rule_form
rule_form-of-entry [] f n all i e = absurd (Memᴰ.not-nil i)
rule_form-of-entry (y ∷ es) f n all {x} i e =
    go (eqb (rule_of y) n) refl i (λ (j : x ∈ es). rule_form-of-entry es f n (λ z k. all z (Memᴰ.tail k)) j e)
  where
    go : (b : Bool) → eqb (rule_of y) n ≡ b → x ∈ (y ∷ es) → (x ∈ es → rule_form es n ≡ form_code f) → cond b (form_code (form_in y)) (rule_form es n) ≡ form_code f
    go true q i rest = ap form_code (all y (Memᴰ.head refl) (eqb-true (rule_of y) n q))
    go false q (Memᴰ.head p) rest = absurd (eqb-false (rule_of y) n q (ap rule_of (sym p) ∙ e))
    go false q (Memᴰ.tail j) rest = rest j

-- a rule that has a form has an entry of it
entry-of-rule_form : (es : List Entry) (f : Form) (n : ℕ) → rule_form es n ≡ form_code f → OfRule es f n
unfolding rule_form
entry-of-rule_form [] f n h = absurd (form_code-not-zero f h)
entry-of-rule_form (y ∷ es) f n h = go (eqb (rule_of y) n) refl h (λ (g : rule_form es n ≡ form_code f). entry-of-rule_form es f n g)
  where
    further : OfRule es f n → OfRule (y ∷ es) f n
    further (of-rule i a b) = of-rule (Memᴰ.tail i) a b

    go : (b : Bool) → eqb (rule_of y) n ≡ b → cond b (form_code (form_in y)) (rule_form es n) ≡ form_code f → (rule_form es n ≡ form_code f → OfRule es f n)
        → OfRule (y ∷ es) f n
    go true q g rest = of-rule (Memᴰ.head refl) (eqb-true (rule_of y) n q) (form-eq-of-form_code (form_in y) f g)
    go false q g rest = further (rest g)

-- ---- start_of

-- a form and a rule that pass the tests
eq-of-form-and-rule : (f g : Form) (r n : ℕ) → T (same_form f g && eqb r n) → (r ≡ n) × (g ≡ f)
unfolding same_form
eq-of-form-and-rule obj obj r n h = (eqb→eq r n h, refl)
eq-of-form-and-rule obj arr r n h = absurd h
eq-of-form-and-rule arr obj r n h = absurd h
eq-of-form-and-rule arr arr r n h = (eqb→eq r n h, refl)

-- an entry that passes the test of form and rule has them
eq-of-is_of : (f : Form) (n : ℕ) (x : Entry) → T (is_of f n x) → (rule_of x ≡ n) × (form_in x ≡ f)
unfolding is_of rule_of form_in
eq-of-is_of f n (edge r g q k v m) h = eq-of-form-and-rule f g r n h
eq-of-is_of f n (end_state r g q) h = eq-of-form-and-rule f g r n h

-- the states to start in are state 0 of the rules that have an entry of the form
pub start_of-iff : (es : List Entry) (f : Form) (n q : ℕ) → T (start_of es f n q) ↔ ((q ≡ 0) × OfRule es f n)
unfolding start_of rule_of form_in
start_of-iff es f n q = (
  (λ h. (zero-of-start es f n q h, found (member-of-any (is_of f n) es (T-and-right (eqb q 0) (any (is_of f n) es) h)))),
  (λ p. start p.0 p.1),
)
  where
    found : (x : Entry) × (x ∈ es) × T (is_of f n x) → OfRule es f n
    found (x, i, h) = let (a, b) = eq-of-is_of f n x h in of-rule i a b

    starts : (x : Entry) → x ∈ es → rule_of x ≡ n → form_in x ≡ f → T (start_of es f n 0)
    starts (edge r g s k v m) i a b = start-of-edge es (rw (a, b) at i)
    starts (end_state r g s) i a b = start-of-end es (rw (a, b) at i)

    start : q ≡ 0 → OfRule es f n → T (start_of es f n q)
    start e (of-rule {x} i a b) = subst (λ (m : ℕ). T (start_of es f n m)) (sym e) (starts x i a b)

-- ---- a table's rules

module _ {t : Table} {es : List Entry} (kept : Carries t es) where
  -- the rule of an entry is below 32
  rule-lt : (x : Entry) → x ∈ es → rule_of x < 32
  unfolding rule_of
  rule-lt (edge r f q k v m) i = (kept.edge_limits i).rule
  rule-lt (end_state r f q) i = (kept.end_limits i).0

  -- the entries of a rule that has one of a form are of that form
  pub form-eq-of-of_rule : {f : Form} {n : ℕ} {x : Entry} → OfRule es f n → x ∈ es → rule_of x ≡ n → form_in x ≡ f
  form-eq-of-of_rule (of-rule i a b) j c = kept.one_form j i (c ∙ sym a) ∙ b

  -- a rule has a form in the table where it has an entry of the form in the book
  pub has_form-iff : (f : Form) (n : ℕ) → T (has_form t.forms (form_code f) n) ↔ OfRule es f n
  has_form-iff f n = (found, has)
    where
      found : T (has_form t.forms (form_code f) n) → OfRule es f n
      found h =
          let l = below-of-has_form t.forms (form_code f) n h in
          let e : get_or t.forms n 0 ≡ form_code f = eqb→eq (get_or t.forms n 0) (form_code f) (rw (has_form-below t.forms (form_code f) n l) at h) in
          entry-of-rule_form es f n (sym (kept.holds.formed n l) ∙ e)

      has : OfRule es f n → T (has_form t.forms (form_code f) n)
      has (of-rule {x} i a b) =
          let l : n < 32 = rw a at (rule-lt x i) in
          let e : rule_form es n ≡ form_code f = rule_form-of-entry es f n (λ y j c. form-eq-of-of_rule (of-rule i a b) j c) i a in
          rw (has_form-below t.forms (form_code f) n l, kept.holds.formed n l, e) (eqb_refl (form_code f))
