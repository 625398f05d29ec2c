-- Refusals 8 and 9 over a table that holds the entries of a book are those on paper. Assumes nothing.
use mathlib.Core.Bool.{Bool, true, false, not, cond, ◌&&◌, ◌||◌}
use mathlib.Core.List.{List, [], ◌∷◌, ◌++◌, append-nil}
use mathlib.Core.Path.{◌≡◌, refl, sym, ap, ◌∙◌}
use Prim.Native.Nat.{ℕ, zero, suc, ◌+◌, ◌<◌}
use native.Mathlib.Numerals.{add-one}
use native.Mathlib.Omega.{arith}
use lib.Dec.{eqb, ltb}
use lib.ListN.{length, get_or, length-append}
use borrow.Author.Tests.{eqb-true, ne_eqb}
use Rattle.laws.specs.Lists.{any}
use Rattle.laws.specs.Tab.{tab}
use Rattle.table.specs.Table.{Table}
use Rattle.table.specs.declared.kind.ValueKind.{ValueKind}
use Rattle.table.specs.declared.kind.ValueKind.TheVariants.{Plain, Rule}
use Rattle.table.specs.Kind.{kind_of, code_of}
use Rattle.table.proofs.KindLaws.{kind_of-code_of}
use Rattle.table.specs.Keys.{number_of}
use Rattle.book.specs.Entry.{Form, obj, arr, Entry, edge, end_state, keys_of, clash}
use Rattle.book.specs.Text.{is_empty}
use Rattle.book.specs.Load.{rule_of, form_in, dangles, first_line, clashes, first_clash}
use Rattle.book.specs.Holds.{Edge, edge_at, table_edges, key_number, edges_from, edges_of, form_code, rule_form}
use Rattle.book.proofs.HoldLaws.{Each, each_map, each_append, edges_from-append, FormKept, has_rule-rule_form, form-of-code}
use Rattle.book.proofs.TruthLaws.{true-not-false}
use Rattle.store.specs.Proper.{is_arr, Proper}
use Rattle.load.specs.Check.{dangles_kind, dangles_at, clash_codes, clash_at, clashes_at, late_at, line_at, dangling, clashing, or_refused}
use Rattle.load.specs.Step.{Loaded, refusal}
use Rattle.load.specs.declared.Refusal.{Refusal}
use Rattle.std.proofs.Common.{Some, find}
use Rattle.std.specs.List.{range_with_len}
use Rattle.load.proofs.TableLaws.{some-tab, tab-one-more}
use Rattle.load.proofs.KeptLaws.{Loading}

-- ---- the first edge, and the first entry

-- g at the first of i, i + 1, .., n of them, at which the test passes; 0 where it does at none
unfoldable first_at : (ℕ → Bool) → (ℕ → ℕ) → ℕ → ℕ → ℕ
first_at f g i zero = 0
first_at f g i (suc n) = cond (f i) (g i) (first_at f g (suc i) n)

-- the edge is on a line
abbrev Lined : Edge → Type 0
Lined x = x.line ≡ 0 → ⊥

-- what is answered for the first edge that is found, by its line
found-line : (t : Table) (f : ℕ → Bool) (r : ℕ → Refusal) (v : Loaded) (i n : ℕ) → Each Lined (tab (edge_at t) i n)
    → or_refused t r (find f (range_with_len i n)) v ≡ cond (eqb (first_at f (line_at t) i n) 0) v (refusal (r (first_at f (line_at t) i n)))
unfolding first_at
found-line t f r v i zero h = refl
found-line t f r v i (suc n) h = rw add-one (go (f i) (found-line t f r v (suc i) n h.1))
  where
    go : (b : Bool)
        → or_refused t r (find f (range_with_len (suc i) n)) v ≡ cond (eqb (first_at f (line_at t) (suc i) n) 0) v (refusal (r (first_at f (line_at t) (suc i) n)))
        → or_refused t r (cond b (Some i) (find f (range_with_len (suc i) n))) v
        ≡ cond (eqb (cond b (line_at t i) (first_at f (line_at t) (suc i) n)) 0) v (refusal (r (cond b (line_at t i) (first_at f (line_at t) (suc i) n))))
    go true ih = rw (ne_eqb (line_at t i) 0 h.0)
    go false ih = ih

-- the edges of a book are on lines
lined-from : (ks : List (List ℕ)) (n : ℕ) (l : List Entry) → Each Lined (edges_from ks (suc n) l)
unfolding edges_from
lined-from ks n [] = tt
lined-from ks n (edge r f q k v m ∷ l) = (λ z. omega arith, lined-from ks (suc n) l)
lined-from ks n (end_state r f q ∷ l) = lined-from ks (suc n) l

lined : (t : Table) (es : List Entry) → Loading t es → Each Lined (tab (edge_at t) 0 t.edges)
unfolding table_edges edges_of
lined t es kept = rw kept.holds.edged (lined-from (keys_of es) 1 es)

-- the line of the first edge of which p holds, or 0
unfoldable first_edge : (Edge → Bool) → List Edge → ℕ
first_edge p [] = 0
first_edge p (x ∷ xs) = cond (p x) x.line (first_edge p xs)

first_at-tab : (f : ℕ → Bool) (g : ℕ → ℕ) (p : Edge → Bool) (h : ℕ → Edge) (i n : ℕ) → ((k : ℕ) → f k ≡ p (h k)) → ((k : ℕ) → g k ≡ (h k).line)
    → first_at f g i n ≡ first_edge p (tab h i n)
unfolding first_at first_edge
first_at-tab f g p h i zero a b = refl
first_at-tab f g p h i (suc n) a b = rw (a i, b i, first_at-tab f g p h (suc i) n a b)

-- the edge of an entry, on line n
abbrev edge_in : List (List ℕ) → ℕ → ℕ → List ℕ → ValueKind → ℕ → ℕ → Edge
edge_in ks r q k v m n = record { rule = r; state = q; key = key_number ks k; kind = code_of v; next = m; line = n }

-- a test of edges is a test of entries, and passes at no end line
abbrev Tests : List (List ℕ) → (Edge → Bool) → (Entry → Bool) → Entry → Type 0
Tests ks p p' (edge r f q k v m) = (n : ℕ) → p (edge_in ks r q k v m n) ≡ p' (edge r f q k v m)
Tests ks p p' (end_state r f q) = p' (end_state r f q) ≡ false

first_edge-line : (ks : List (List ℕ)) (p : Edge → Bool) (p' : Entry → Bool) (n : ℕ) (l : List Entry) → Each (Tests ks p p') l
    → first_edge p (edges_from ks n l) ≡ first_line p' n l
unfolding first_edge edges_from first_line
first_edge-line ks p p' n [] h = refl
first_edge-line ks p p' n (edge r f q k v m ∷ l) h = rw (h.0 n, first_edge-line ks p p' (suc n) l h.1)
first_edge-line ks p p' n (end_state r f q ∷ l) h = rw h.0 (first_edge-line ks p p' (suc n) l h.1)

-- ---- refusal 8
not-not : (b : Bool) → not (not b) ≡ b
not-not true = refl
not-not false = refl

module _ (t : Table) (es : List Entry) (kept : Loading t es) where
  dangles_kind-same : (r : ℕ) (f : Form) (q : ℕ) (k : List ℕ) (v : ValueKind) (m : ℕ) → code_of v < 38
      → dangles_kind t.forms (kind_of (code_of v)) ≡ dangles es (edge r f q k v m)
  unfolding dangles_kind dangles code_of
  dangles_kind-same r f q k v m h = rw (kind_of-code_of v) (go v h)
    where
      go : (u : ValueKind) → code_of u < 38 → dangles_kind t.forms u ≡ dangles es (edge r f q k u m)
      go (Plain s) h = refl
      go (Rule i) h = rw (kept.holds.formed i (omega arith), has_rule-rule_form es i) (sym (not-not (eqb (rule_form es i) 0)))

  dangles-tests : (x : Entry) → Proper x → Tests (keys_of es) (λ y. dangles_kind t.forms (kind_of y.kind)) (dangles es) x
  unfolding dangles
  dangles-tests (edge r f q k v m) p = λ n. dangles_kind-same r f q k v m p.kind
  dangles-tests (end_state r f q) p = refl

  dangling_line-same : first_at (dangles_at t) (line_at t) 0 t.edges ≡ first_line (dangles es) 2 es
  unfolding dangles_at table_edges edges_of
  dangling_line-same =
      first_at-tab (dangles_at t) (line_at t) (λ y. dangles_kind t.forms (kind_of y.kind)) (edge_at t) 0 t.edges (λ k. refl) (λ k. refl)
      ∙ ap (first_edge (λ y. dangles_kind t.forms (kind_of y.kind))) kept.holds.edged
      ∙ first_edge-line (keys_of es) (λ y. dangles_kind t.forms (kind_of y.kind)) (dangles es) 2 es (each_map Proper _ dangles-tests es kept.proper)

  pub dangling-same : (r : ℕ → Refusal) (v : Loaded)
      → or_refused t r (dangling t) v ≡ cond (eqb (first_line (dangles es) 2 es) 0) v (refusal (r (first_line (dangles es) 2 es)))
  unfolding dangling
  dangling-same r v = rw (← dangling_line-same) (found-line t (dangles_at t) r v 0 t.edges (lined t es kept))

-- ---- refusal 9

-- edge a leads to edge b, and the keys do not rise, where the rules have the forms fs
unfoldable clash_edges : List ℕ → Edge → Edge → Bool
clash_edges fs a b = clash_codes (get_or fs a.rule 0) a.rule b.rule a.next b.state a.key b.key

unfoldable clashes_edges : List ℕ → Edge → Edge → Bool
clashes_edges fs b a = clash_edges fs a b || clash_edges fs b a

-- the line of the first edge that clashes with one up to it, after those seen
unfoldable first_late : List ℕ → List Edge → List Edge → ℕ
first_late fs seen [] = 0
first_late fs seen (x ∷ xs) = cond (any (clashes_edges fs x) (seen ++ (x ∷ []))) x.line (first_late fs (seen ++ (x ∷ [])) xs)

module _ (t : Table) where
  late-any : (i : ℕ) → late_at t i ≡ any (clashes_edges t.forms (edge_at t i)) (tab (edge_at t) 0 i ++ (edge_at t i ∷ []))
  unfolding late_at clashes_at clash_at clashes_edges clash_edges
  late-any i =
      some-tab (clashes_at t i) (clashes_edges t.forms (edge_at t i)) (edge_at t) 0 (i + 1) (λ k. refl)
      ∙ ap (any (clashes_edges t.forms (edge_at t i))) (tab-one-more (edge_at t) i)

  first_at-late : (i n : ℕ)
      → first_at (late_at t) (line_at t) i n
      ≡ first_late t.forms (tab (edge_at t) 0 i) (tab (edge_at t) i n)
  unfolding first_at first_late
  first_at-late i zero = refl
  first_at-late i (suc n) =
      let b : tab (edge_at t) 0 (suc i) ≡ tab (edge_at t) 0 i ++ (edge_at t i ∷ []) = sym (ap (tab (edge_at t) 0) (add-one i)) ∙ tab-one-more (edge_at t) i in
      let c = first_at-late (suc i) n ∙ ap (λ (l : List Edge). first_late t.forms l (tab (edge_at t) (suc i) n)) b in
      rw (late-any i, c)

module _ (t : Table) (es : List Entry) (kept : Loading t es) where
  abbrev Fine : Entry → Type 0
  Fine x = Proper x × FormKept es x

  key_number-obj : (k : List ℕ) → is_empty k ≡ false → key_number (keys_of es) k ≡ number_of (keys_of es) k
  unfolding key_number is_empty
  key_number-obj [] e = true-not-false true refl e
  key_number-obj (b ∷ k) e = refl

  form-at : (r : ℕ) → r < 32 → (f : Form) → form_code f ≡ rule_form es r → get_or t.forms r 0 ≡ form_code f
  form-at r h f e = kept.holds.formed r h ∙ sym e

  clash-same : (r : ℕ) (f : Form) (q : ℕ) (k : List ℕ) (v : ValueKind) (m r' : ℕ) (f' : Form) (q' : ℕ) (k' : List ℕ) (v' : ValueKind) (m' : ℕ)
      → Fine (edge r f q k v m) → Fine (edge r' f' q' k' v' m')
      → clash_codes (get_or t.forms r 0) r r' m q' (key_number (keys_of es) k) (key_number (keys_of es) k') ≡ clash (keys_of es) (edge r f q k v m) (edge r' f' q' k' v' m')
  unfolding clash rule_of form_in form_code is_arr clash_codes
  clash-same r arr q k v m r' f' q' k' v' m' a b = rw (form-at r a.0.rule arr a.1)
  clash-same r obj q k v m r' f' q' k' v' m' a b = rw (form-at r a.0.rule obj a.1) (go (eqb r r') refl)
    where
      go : (c : Bool) → eqb r r' ≡ c
          → (c && (eqb m q' && not (ltb (key_number (keys_of es) k) (key_number (keys_of es) k')))) ≡ (c && (eqb m q' && not (ltb (number_of (keys_of es) k) (number_of (keys_of es) k'))))
      go false e = refl
      go true e =
          let u : f' ≡ obj = form-of-code f' obj (b.1 ∙ ap (rule_form es) (sym (eqb-true r r' e)) ∙ sym a.1) in
          rw (key_number-obj k a.0.keyed, key_number-obj k' (b.0.keyed ∙ ap is_arr u))

  -- an end line clashes with nothing
  clash-end : (x : Entry) (r : ℕ) (f : Form) (q : ℕ) → clashes (keys_of es) x (end_state r f q) ≡ false
  unfolding clashes clash
  clash-end (edge r' obj q' k v m) r f q = refl
  clash-end (edge r' arr q' k v m) r f q = refl
  clash-end (end_state r' f' q') r f q = refl

  end-clash : (x : Entry) (r : ℕ) (f : Form) (q : ℕ) → clashes (keys_of es) (end_state r f q) x ≡ false
  unfolding clashes clash
  end-clash (edge r' obj q' k v m) r f q = refl
  end-clash (edge r' arr q' k v m) r f q = refl
  end-clash (end_state r' f' q') r f q = refl

  end-any : (r : ℕ) (f : Form) (q : ℕ) (l : List Entry) → any (clashes (keys_of es) (end_state r f q)) l ≡ false
  unfolding any
  end-any r f q [] = refl
  end-any r f q (x ∷ l) = rw (end-clash x r f q, end-any r f q l)

  clash-any : (r : ℕ) (f : Form) (q : ℕ) (k : List ℕ) (v : ValueKind) (m i n : ℕ) (l : List Entry) → Fine (edge r f q k v m) → Each Fine l
      → any (clashes_edges t.forms (edge_in (keys_of es) r q k v m i)) (edges_from (keys_of es) n l) ≡ any (clashes (keys_of es) (edge r f q k v m)) l
  unfolding any edges_from clashes_edges clash_edges clashes
  clash-any r f q k v m i n [] a h = refl
  clash-any r f q k v m i n (edge r' f' q' k' v' m' ∷ l) a h =
      rw (clash-same r' f' q' k' v' m' r f q k v m h.0 a, clash-same r f q k v m r' f' q' k' v' m' a h.0, clash-any r f q k v m i (suc n) l a h.1)
  clash-any r f q k v m i n (end_state r' f' q' ∷ l) a h = rw (clash-end (edge r f q k v m) r' f' q') (clash-any r f q k v m i (suc n) l a h.1)

  first_late-line : (n : ℕ) (seen l : List Entry) → n ≡ 2 + length seen → Each Fine seen → Each Fine l
      → first_late t.forms (edges_from (keys_of es) 2 seen) (edges_from (keys_of es) n l) ≡ first_clash (keys_of es) n seen l
  unfolding first_late edges_from first_clash
  first_late-line n seen [] e s h = refl
  first_late-line n seen (edge r f q k v m ∷ l) e s h =
      let x = edge r f q k v m in
      let fine : Each Fine (seen ++ (x ∷ [])) = each_append Fine seen (x ∷ []) s (h.0, tt) in
      let a : edges_from (keys_of es) 2 seen ++ (edge_in (keys_of es) r q k v m n ∷ []) ≡ edges_from (keys_of es) 2 (seen ++ (x ∷ [])) =
      rw e (sym (edges_from-append (keys_of es) 2 seen (x ∷ []))) in
      let ih = first_late-line (suc n) (seen ++ (x ∷ [])) l (rw (length-append seen (x ∷ [])) (omega arith)) fine h.1 in
      rw (a, clash-any r f q k v m n 2 (seen ++ (x ∷ [])) h.0 fine, ih)
  first_late-line n seen (end_state r f q ∷ l) e s h =
      let x = end_state r f q in
      let fine : Each Fine (seen ++ (x ∷ [])) = each_append Fine seen (x ∷ []) s (h.0, tt) in
      let a : edges_from (keys_of es) 2 seen ≡ edges_from (keys_of es) 2 (seen ++ (x ∷ [])) =
      sym (edges_from-append (keys_of es) 2 seen (x ∷ []) ∙ append-nil (edges_from (keys_of es) 2 seen)) in
      let ih = first_late-line (suc n) (seen ++ (x ∷ [])) l (rw (length-append seen (x ∷ [])) (omega arith)) fine h.1 in
      rw (end-any r f q (seen ++ (x ∷ [])), a) ih

  clash_line-same : first_at (late_at t) (line_at t) 0 t.edges ≡ first_clash (keys_of es) 2 [] es
  unfolding table_edges edges_of edges_from
  clash_line-same =
      first_at-late t 0 t.edges
      ∙ ap (first_late t.forms []) kept.holds.edged
      ∙ first_late-line 2 [] es (omega arith) tt (zip es kept.proper kept.forms)
    where
      zip : (l : List Entry) → Each Proper l → Each (FormKept es) l → Each Fine l
      zip [] a b = tt
      zip (x ∷ l) a b = ((a.0, b.0), zip l a.1 b.1)

  pub clashing-same : (r : ℕ → Refusal) (v : Loaded)
      → or_refused t r (clashing t) v ≡ cond (eqb (first_clash (keys_of es) 2 [] es) 0) v (refusal (r (first_clash (keys_of es) 2 [] es)))
  unfolding clashing
  clashing-same r v = rw (← clash_line-same) (found-line t (late_at t) r v 0 t.edges (lined t es kept))
