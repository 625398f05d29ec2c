-- Laws of the numbers of edges and of the tests over all edges. Assumes nothing.
use mathlib.Core.Bool.{Bool}
use mathlib.Core.List.Memᴰ
use mathlib.Core.List.{List, [], ◌∷◌}
use mathlib.Core.Path.{◌≡◌, refl, sym, ◌∙◌}
use Prim.Native.Nat.{ℕ, suc, ◌≤◌}
use native.Mathlib.Omega.{arith}
use lib.Dec.{T}
use Rattle.laws.proofs.TestLaws.{T-or-elim, T-or-left, T-or-right}
use Rattle.table.specs.declared.kind.ValueKind.{ValueKind}
use Rattle.book.specs.Entry.{Form, Entry, edge, end_state}
use Rattle.runs.specs.Runs.{◌∈◌}
use Rattle.runs.specs.Walk.{any_edge}

-- edge e of a list is x, where the first edge in the list is edge i
pub data EdgeFrom : ℕ → List Entry → ℕ → Entry → Type 0 where
  this-edge : {i e r q m : ℕ} {f : Form} {k : List ℕ} {t : ValueKind} {es : List Entry} {x : Entry} → e ≡ i → x ≡ edge r f q k t m
      → EdgeFrom i (edge r f q k t m ∷ es) e x
  past-edge : {i e r q m : ℕ} {f : Form} {k : List ℕ} {t : ValueKind} {es : List Entry} {x : Entry} → EdgeFrom (suc i) es e x
      → EdgeFrom i (edge r f q k t m ∷ es) e x
  past_end : {i e r q : ℕ} {f : Form} {es : List Entry} {x : Entry} → EdgeFrom i es e x → EdgeFrom i (end_state r f q ∷ es) e x

-- the number of an edge is not below the first's
pub le-of-edge : {i e : ℕ} {es : List Entry} {x : Entry} → EdgeFrom i es e x → i ≤ e
le-of-edge (this-edge p q) = omega arith
le-of-edge {i} (past-edge h) = let g = le-of-edge h in omega arith
le-of-edge (past_end h) = le-of-edge h

-- a number has one edge
pub edge-unique : {i e : ℕ} {es : List Entry} {x y : Entry} → EdgeFrom i es e x → EdgeFrom i es e y → x ≡ y
edge-unique (this-edge p q) (this-edge p' q') = q ∙ sym q'
edge-unique (this-edge p q) (past-edge h) = let g = le-of-edge h in absurd (omega arith)
edge-unique (past-edge h) (this-edge p q) = let g = le-of-edge h in absurd (omega arith)
edge-unique (past-edge h) (past-edge g) = edge-unique h g
edge-unique (past_end h) (past_end g) = edge-unique h g

-- an edge is an entry of the book
pub member-of-edge : {i e : ℕ} {es : List Entry} {x : Entry} → EdgeFrom i es e x → x ∈ es
member-of-edge (this-edge p q) = Memᴰ.head q
member-of-edge (past-edge h) = Memᴰ.tail (member-of-edge h)
member-of-edge (past_end h) = Memᴰ.tail (member-of-edge h)

-- each edge of a book has a number
pub edge-of-member : {r q m : ℕ} {f : Form} {k : List ℕ} {t : ValueKind} (i : ℕ) {es : List Entry} → edge r f q k t m ∈ es
    → (e : ℕ) × EdgeFrom i es e (edge r f q k t m)
edge-of-member i {es = []} x'' = elim x'' [ ]
edge-of-member i {es = edge _ _ _ _ _ _ ∷ _} (Memᴰ.head e) = (i, this-edge refl e)
edge-of-member i {es = edge _ _ _ _ _ _ ∷ _} (Memᴰ.tail h) = let (e, g) = edge-of-member (suc i) h in (e, past-edge g)
edge-of-member i {es = end_state _ _ _ ∷ _} (Memᴰ.head e) = let z : ◌≡◌ {A = ℕ} 0 1 = cc in absurd (omega arith)
edge-of-member i {es = end_state _ _ _ ∷ _} (Memᴰ.tail h) = let (e, g) = edge-of-member i h in (e, past_end g)

-- ---- any_edge

-- a test that an edge passes is passed by some edge
pub any_edge-of-edge : (p : ℕ → Entry → Bool) {i e : ℕ} {es : List Entry} {x : Entry} → EdgeFrom i es e x → T (p e x) → T (any_edge p i es)
unfolding any_edge
any_edge-of-edge p {i} (this-edge {r} {q} {m} {f} {k} {t} {es} a b) h = T-or-left (p i (edge r f q k t m)) (any_edge p (suc i) es) (rw (a, b) at h)
any_edge-of-edge p {i} (past-edge {r} {q} {m} {f} {k} {t} {es} g) h = T-or-right (p i (edge r f q k t m)) (any_edge p (suc i) es) (any_edge-of-edge p g h)
any_edge-of-edge p (past_end g) h = any_edge-of-edge p g h

-- where some edge passes a test, there is an edge that passes it
pub edge-of-any_edge : (p : ℕ → Entry → Bool) (i : ℕ) (es : List Entry) → T (any_edge p i es) → (e : ℕ) × (x : Entry) × EdgeFrom i es e x × T (p e x)
unfolding any_edge
edge-of-any_edge p i [] h = absurd h
edge-of-any_edge p i (edge r f q k t m ∷ es) h =
    T-or-elim (p i (edge r f q k t m)) (any_edge p (suc i) es)
    (λ (g : T (p i (edge r f q k t m))). (i, edge r f q k t m, this-edge refl refl, g))
    (λ (g : T (any_edge p (suc i) es)). further (edge-of-any_edge p (suc i) es g)) h
  where
    further : (e : ℕ) × (x : Entry) × EdgeFrom (suc i) es e x × T (p e x) → (e : ℕ) × (x : Entry) × EdgeFrom i (edge r f q k t m ∷ es) e x × T (p e x)
    further (e, x, g, h) = (e, x, past-edge g, h)
edge-of-any_edge p i (end_state r f q ∷ es) h = let (e, x, g, d) = edge-of-any_edge p i es h in (e, x, past_end g, d)
