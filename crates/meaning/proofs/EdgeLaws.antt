-- Edge e of a table that keeps a book is edge e of the book: its numbers, and the tests of it. Assumes nothing.
use mathlib.Core.Bool.{Bool}
use mathlib.Core.List.{List, [], ◌∷◌}
use mathlib.Core.Logic.{◌↔◌}
use mathlib.Core.Path.{◌≡◌, refl, sym, ap, subst, ◌∙◌}
use Prim.Native.Nat.{ℕ, zero, suc, ◌+◌, ◌<◌, ◌≤◌}
use native.Mathlib.Nat.{add-zero, add-suc, suc-add, zero-add}
use native.Mathlib.Omega.{arith}
use lib.Dec.{T, eqb, eqb→eq}
use lib.ListN.{length, get_or}
use borrow.Author.Tests.{eq-eqb}
use Rattle.laws.proofs.TabLaws.{length-tab, get_d-tab}
use Rattle.laws.proofs.TestLaws.{T-of-true}
use Rattle.table.specs.Kind.{code_of, kind_of, fits_kind}
use Rattle.table.specs.Table.{Table}
use Rattle.table.specs.declared.kind.Finished.{Finished}
use Rattle.table.specs.declared.kind.ValueKind.{ValueKind}
use Rattle.table.proofs.KindLaws.{kind_of-code_of}
use Rattle.table.specs.Keys.{key_at, table_keys, number_of}
use Rattle.book.specs.Entry.{Form, obj, arr, Entry, edge, end_state, keys_of}
use Rattle.book.specs.Load.{rule_of, form_in}
use Rattle.book.specs.Holds.{Edge, edge_at, table_edges, key_number, edges_from, edges_of, form_code}
use Rattle.runs.specs.Walk.{asks, is_array_edge, has_key, key_count}
use Rattle.runs.proofs.EdgeLaws.{EdgeFrom, this-edge, past-edge, past_end, le-of-edge, member-of-edge}
use Rattle.frame.specs.Edges.{has_form, fits_code}
use Rattle.meaning.specs.Shows.{Carries, ShowsValue}
use Rattle.meaning.proofs.FormLaws.{of-rule, has_form-iff, form-eq-of-of_rule}

-- ---- the numbers of an edge

-- the numbers of an edge are those of an entry's fields, the keys being ks
pub record Numbers (ks : List (List ℕ)) (a : Edge) (r q : ℕ) (k : List ℕ) (v : ValueKind) (m : ℕ) : Type 0 where
  pub rule : a.rule ≡ r
  pub state : a.state ≡ q
  pub key : a.key ≡ key_number ks k
  pub kind : a.kind ≡ code_of v
  pub next : a.next ≡ m

-- the numbers of an edge are those of an entry, which has to be an edge
abbrev NumbersOf : List (List ℕ) → Edge → Entry → Type 0
NumbersOf ks a (edge r f q k v m) = Numbers ks a r q k v m
NumbersOf ks a (end_state r f q) = ⊥

-- an edge of no numbers
abbrev no_edge : Edge
no_edge = record { rule = 0; state = 0; key = 0; kind = 0; next = 0; line = 0 }

-- the edges of entries stand at their numbers, counted from the first's
numbers-of-edges_from : (ks : List (List ℕ)) (n : ℕ) {i e : ℕ} {es : List Entry} {x : Entry} (j : ℕ) → e ≡ i + j → EdgeFrom i es e x
    → (j < length (edges_from ks n es)) × NumbersOf ks (get_or (edges_from ks n es) j no_edge) x
unfolding edges_from
numbers-of-edges_from ks n zero h (this-edge {r} {q} {m} {f} {k} {t} {es} a b) = (
  omega arith,
  subst (NumbersOf ks (record { rule = r; state = q; key = key_number ks k; kind = code_of t; next = m; line = n })) (sym b)
      (record { rule = refl; state = refl; key = refl; kind = refl; next = refl }),
)
numbers-of-edges_from ks n (suc j) h (this-edge a b) = absurd (omega arith)
numbers-of-edges_from ks n zero h (past-edge g) = let l = le-of-edge g in absurd (omega arith)
numbers-of-edges_from ks n (suc j) h (past-edge g) = let p = numbers-of-edges_from ks (suc n) j (omega arith) g in (omega arith, p.1)
numbers-of-edges_from ks n zero h (past_end g) = numbers-of-edges_from ks (suc n) zero h g
numbers-of-edges_from ks n (suc j) h (past_end g) = numbers-of-edges_from ks (suc n) (suc j) h g

-- each of the edges is that of an entry
edge-of-edges_from : (ks : List (List ℕ)) (n i : ℕ) (es : List Entry) (j : ℕ) → j < length (edges_from ks n es) → (x : Entry) × EdgeFrom i es (i + j) x
unfolding edges_from
edge-of-edges_from ks n i [] j h = absurd (omega arith)
edge-of-edges_from ks n i (edge r f q k v m ∷ es) zero h = (edge r f q k v m, this-edge (add-zero i) refl)
edge-of-edges_from ks n i (edge r f q k v m ∷ es) (suc j) h =
    let (x, g) = edge-of-edges_from ks (suc n) (suc i) es j (omega arith) in
    (x, past-edge (subst (λ (d : ℕ). EdgeFrom (suc i) es d x) (suc-add i j ∙ sym (add-suc i j)) g))
edge-of-edges_from ks n i (end_state r f q ∷ es) j h = let (x, g) = edge-of-edges_from ks (suc n) i es j h in (x, past_end g)

-- ---- the edges of a table

-- edge e of a book
pub data EdgeAt (es : List Entry) (e : ℕ) : Type 0 where
  edge-at : {r q m : ℕ} {f : Form} {k : List ℕ} {v : ValueKind} → EdgeFrom 0 es e (edge r f q k v m) → EdgeAt es e

module _ {t : Table} {es : List Entry} (kept : Carries t es) where
  -- there are at most 128 keys
  pub key_count-le : key_count es ≤ 128
  unfolding key_count table_keys
  key_count-le = let e = ap length kept.holds.keyed in omega (arith, length-tab (key_at t.key_bytes t.key_len) 0 t.keys, kept.keys_le)

  -- edge e of the book has a number below the number of edges, and edge e of the table has its numbers
  numbers-at : {e : ℕ} {x : Entry} → EdgeFrom 0 es e x → (e < t.edges) × NumbersOf (keys_of es) (edge_at t e) x
  unfolding table_edges edges_of
  numbers-at {e} {x} i =
      let edged : table_edges t ≡ edges_from (keys_of es) 2 es = kept.holds.edged in
      let (l, n) = numbers-of-edges_from (keys_of es) 2 e (sym (zero-add e)) i in
      let l' : e < t.edges = omega (arith, ap length edged, length-tab (edge_at t) 0 t.edges) in
      (l', subst (λ (a : Edge). NumbersOf (keys_of es) a x) (ap (λ (l : List Edge). get_or l e no_edge) (sym edged) ∙ get_d-tab (edge_at t) no_edge t.edges e l') n)

  -- edge e of the book has a number below the number of edges
  pub below-of-edge : {e : ℕ} {x : Entry} → EdgeFrom 0 es e x → e < t.edges
  below-of-edge i = (numbers-at i).0

  -- edge e of the table has the numbers of edge e of the book
  pub numbers-of-edge : {e r q m : ℕ} {f : Form} {k : List ℕ} {v : ValueKind} → EdgeFrom 0 es e (edge r f q k v m)
      → Numbers (keys_of es) (edge_at t e) r q k v m
  numbers-of-edge i = (numbers-at i).1

  -- each number below the number of edges is that of an edge of the book
  pub edge-of-below : (e : ℕ) → e < t.edges → EdgeAt es e
  unfolding table_edges edges_of
  edge-of-below e l =
      let edged : table_edges t ≡ edges_from (keys_of es) 2 es = kept.holds.edged in
      let (x, i) = edge-of-edges_from (keys_of es) 2 0 es e (omega (arith, ap length edged, length-tab (edge_at t) 0 t.edges)) in
      go x (subst (λ (d : ℕ). EdgeFrom 0 es d x) (zero-add e) i)
    where
      go : (x : Entry) → EdgeFrom 0 es e x → EdgeAt es e
      go (edge r f q k v m) i = edge-at i
      go (end_state r f q) i = absurd (numbers-at i).1

  -- ---- tests of an edge

  -- an edge has the key with number c in the table exactly when its entry has it
  pub has_key-iff : {e : ℕ} {x : Entry} → EdgeFrom 0 es e x → (c : ℕ) → c < 128 → (get_or t.edge_key e 0 ≡ c) ↔ T (has_key (keys_of es) c x)
  unfolding has_key key_number
  has_key-iff {e} {x} i c l = go x i (numbers-at i).1
    where
      none : (k : List ℕ) → k ≡ [] → get_or t.edge_key e 0 ≡ key_number (keys_of es) k → get_or t.edge_key e 0 ≡ c → ⊥
      none [] p n h = omega arith
      none (b ∷ k) p n h = let z : ◌≡◌ {A = ℕ} 0 1 = cc in omega arith

      one : (k : List ℕ) → (k ≡ [] → ⊥) → key_number (keys_of es) k ≡ number_of (keys_of es) k
      one [] p = absurd (p refl)
      one (b ∷ k) p = refl

      go : (x : Entry) → EdgeFrom 0 es e x → NumbersOf (keys_of es) (edge_at t e) x → (get_or t.edge_key e 0 ≡ c) ↔ T (has_key (keys_of es) c x)
      go (edge r arr q k v m) i n = ((λ h. none k (kept.arr_key (member-of-edge i)) n.key h), (λ h. absurd h))
      go (edge r obj q k v m) i n =
          let d = n.key ∙ one k (λ p. kept.obj_key (rw p at (member-of-edge i))) in
          ((λ h. T-of-true (eqb (number_of (keys_of es) k) c) (eq-eqb (number_of (keys_of es) k) c (sym d ∙ h))), (λ h. d ∙ eqb→eq (number_of (keys_of es) k) c h))
      go (end_state r f q) i n = absurd n

  -- an edge asks in the table for a kind that a value fits exactly when its entry asks for one
  pub fits_code-asks : {v : Finished} {w : ValueKind → Bool} → ShowsValue v w → {e : ℕ} {x : Entry} → EdgeFrom 0 es e x
      → fits_code v (get_or t.edge_kind e 0) ≡ asks w x
  unfolding fits_code asks
  fits_code-asks {v} {w} shows {e} {x} i = go x i (numbers-at i).1
    where
      go : (x : Entry) → EdgeFrom 0 es e x → NumbersOf (keys_of es) (edge_at t e) x → fits_kind (kind_of (get_or t.edge_kind e 0)) v ≡ asks w x
      go (edge r f q k u m) i n =
          ap (λ (c : ℕ). fits_kind (kind_of c) v) n.kind ∙ ap (λ (k : ValueKind). fits_kind k v) (kind_of-code_of u) ∙ shows u (kept.edge_limits (member-of-edge i)).kind
      go (end_state r f q) i n = absurd n

  -- the rule of an edge is an `arr` rule in the table exactly when its entry is of one
  pub arr-iff : {e : ℕ} {x : Entry} → EdgeFrom 0 es e x → T (has_form t.forms 2 (get_or t.edge_rule e 0)) ↔ T (is_array_edge x)
  unfolding is_array_edge form_code rule_of form_in
  arr-iff {e} {x} i = go x i (numbers-at i).1
    where
      go : (x : Entry) → EdgeFrom 0 es e x → NumbersOf (keys_of es) (edge_at t e) x → T (has_form t.forms 2 (get_or t.edge_rule e 0)) ↔ T (is_array_edge x)
      go (edge r arr q k u m) i n = ((λ h. tt), (λ h. (has_form-iff kept arr (get_or t.edge_rule e 0)).1 (of-rule (member-of-edge i) (sym n.rule) refl)))
      go (edge r obj q k u m) i n = (
        (λ h.
            let p : obj ≡ arr = form-eq-of-of_rule kept ((has_form-iff kept arr (get_or t.edge_rule e 0)).0 h) (member-of-edge i) (sym n.rule) in
            let z : ◌≡◌ {A = ℕ} 0 1 = cc in absurd (omega arith)),
        (λ h. absurd h),
      )
      go (end_state r f q) i n = absurd n
