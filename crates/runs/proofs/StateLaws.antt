-- Laws of the sets of states: where they start, where edges lead, where they end. Assumes nothing.
use mathlib.Core.Bool.{Bool, ◌&&◌}
use mathlib.Core.List.{List}
use mathlib.Core.Path.{◌≡◌, refl}
use Prim.Native.Nat.{ℕ}
use lib.Dec.{T, eqb, eqb→eq, eqb_refl}
use Rattle.laws.specs.Lists.{any}
use Rattle.laws.proofs.TestLaws.{T_and, T-and-left, T-and-right}
use Rattle.laws.proofs.ListLaws.{any-of-member, member-of-any}
use Rattle.table.specs.declared.kind.ValueKind.{ValueKind}
use Rattle.book.specs.Entry.{Form, obj, arr, same_form, Entry, edge, end_state}
use Rattle.runs.specs.Runs.{◌∈◌}
use Rattle.runs.specs.Walk.{is_of, asks, is_array_edge, States, leads, ends_in, start_of, moved, has_end, after_element}
use Rattle.runs.proofs.EdgeLaws.{EdgeFrom, any_edge-of-edge, edge-of-any_edge, member-of-edge, edge-of-member}

same_form-refl : (f : Form) → T (same_form f f)
unfolding same_form
same_form-refl obj = tt
same_form-refl arr = tt

eq-of-same_form : (f g : Form) → T (same_form f g) → g ≡ f
unfolding same_form
eq-of-same_form obj obj h = refl
eq-of-same_form obj arr h = absurd h
eq-of-same_form arr obj h = absurd h
eq-of-same_form arr arr h = refl

module _ (es : List Entry) where
  -- ---- ended

  -- an end state among the states
  pub data EndIn (f : Form) (S : States) (n : ℕ) : Type 0 where
    end-in : {q : ℕ} → end_state n f q ∈ es → T (S n q) → EndIn f S n

  -- an end state among the states ends the run
  pub has_end-of-end : {f : Form} (S : States) {n q : ℕ} → end_state n f q ∈ es → T (S n q) → T (has_end es f S n)
  unfolding has_end ends_in
  has_end-of-end {f} S {n} {q} i h = any-of-member (ends_in f S n) i (T_and (same_form f f) (eqb n n && S n q) (same_form-refl f) (T_and (eqb n n) (S n q) (eqb_refl n) h))

  -- where a rule has ended, there is an end state among the states
  pub end-of-has_end : (f : Form) (S : States) (n : ℕ) → T (has_end es f S n) → EndIn f S n
  unfolding has_end ends_in
  end-of-has_end f S n h = let (x, i, g) = member-of-any (ends_in f S n) es h in go x i g
    where
      go : (x : Entry) → x ∈ es → T (ends_in f S n x) → EndIn f S n
      go (edge r g q k t m) i d = absurd d
      go (end_state r g q) i d =
          let d' = T-and-right (same_form f g) (eqb r n && S n q) d in
          let ef : g ≡ f = eq-of-same_form f g (T-and-left (same_form f g) (eqb r n && S n q) d) in
          let er : r ≡ n = eqb→eq r n (T-and-left (eqb r n) (S n q) d') in
          end-in (rw (ef, er) at i) (T-and-right (eqb r n) (S n q) d')

  -- ---- start_of

  -- a rule with an end state of its form starts in state 0
  pub start-of-end : {f : Form} {n q : ℕ} → end_state n f q ∈ es → T (start_of es f n 0)
  unfolding start_of is_of
  start-of-end {f} {n} i = T_and (eqb 0 0) (any (is_of f n) es) (eqb_refl 0) (any-of-member (is_of f n) i (T_and (same_form f f) (eqb n n) (same_form-refl f) (eqb_refl n)))

  -- a rule with an edge of its form starts in state 0
  pub start-of-edge : {f : Form} {n q m : ℕ} {k : List ℕ} {t : ValueKind} → edge n f q k t m ∈ es → T (start_of es f n 0)
  unfolding start_of is_of
  start-of-edge {f} {n} i = T_and (eqb 0 0) (any (is_of f n) es) (eqb_refl 0) (any-of-member (is_of f n) i (T_and (same_form f f) (eqb n n) (same_form-refl f) (eqb_refl n)))

  -- a state to start in is state 0
  pub zero-of-start : (f : Form) (n q : ℕ) → T (start_of es f n q) → q ≡ 0
  unfolding start_of
  zero-of-start f n q h = eqb→eq q 0 (T-and-left (eqb q 0) (any (is_of f n) es) h)

  -- ---- moved

  -- an edge that passes the test, from one of the states
  pub data MoveTo (p : ℕ → Entry → Bool) (S : States) (n m : ℕ) : Type 0 where
    move-to : {e q : ℕ} {f : Form} {k : List ℕ} {t : ValueKind} → EdgeFrom 0 es e (edge n f q k t m) → T (S n q) → T (p e (edge n f q k t m)) → MoveTo p S n m

  -- an edge that passes the test, from one of the states, leads to its next state
  pub moved-of-edge : (p : ℕ → Entry → Bool) (S : States) {e n q m : ℕ} {f : Form} {k : List ℕ} {t : ValueKind} → EdgeFrom 0 es e (edge n f q k t m)
      → T (S n q) → T (p e (edge n f q k t m)) → T (moved es p S n m)
  unfolding moved leads
  moved-of-edge p S {e} {n} {q} {m} {f} {k} {t} i h g =
      any_edge-of-edge (λ (e : ℕ) (x : Entry). leads S n m x && p e x) i
      (T_and (eqb n n && (eqb m m && S n q)) (p e (edge n f q k t m)) (T_and (eqb n n) (eqb m m && S n q) (eqb_refl n) (T_and (eqb m m) (S n q) (eqb_refl m) h)) g)

  -- to each state after a move an edge that passes the test leads, from one of the states
  pub edge-of-moved : (p : ℕ → Entry → Bool) (S : States) (n m : ℕ) → T (moved es p S n m) → MoveTo p S n m
  unfolding moved leads
  edge-of-moved p S n m h = let (e, x, i, g) = edge-of-any_edge (λ (e : ℕ) (x : Entry). leads S n m x && p e x) 0 es h in go e x i g
    where
      go : (e : ℕ) (x : Entry) → EdgeFrom 0 es e x → T (leads S n m x && p e x) → MoveTo p S n m
      go e (edge r f q k t s) i d =
          let l = T-and-left (leads S n m (edge r f q k t s)) (p e (edge r f q k t s)) d in
          let g = T-and-right (leads S n m (edge r f q k t s)) (p e (edge r f q k t s)) d in
          let l' = T-and-right (eqb r n) (eqb s m && S n q) l in
          let er : r ≡ n = eqb→eq r n (T-and-left (eqb r n) (eqb s m && S n q) l) in
          let em : s ≡ m = eqb→eq s m (T-and-left (eqb s m) (S n q) l') in
          move-to (rw (er, em) at i) (T-and-right (eqb s m) (S n q) l') (rw (er, em) at g)
      go e (end_state r f q) i d = absurd d

  -- ---- after_element

  -- an edge of an `arr` rule that a value fits, from one of the states
  pub data ElementMove (S : States) (w : ValueKind → Bool) (n m : ℕ) : Type 0 where
    element-move : {q : ℕ} {k : List ℕ} {t : ValueKind} → edge n arr q k t m ∈ es → T (S n q) → T (w t) → ElementMove S w n m

  -- an edge of an `arr` rule that a value fits, from one of the states, leads to its next state
  pub after_element-of-edge : (S : States) (w : ValueKind → Bool) {n q m : ℕ} {k : List ℕ} {t : ValueKind} → edge n arr q k t m ∈ es → T (S n q)
      → T (w t) → T (after_element es S w n m)
  unfolding after_element is_array_edge asks
  after_element-of-edge S w i h g = let (e, j) = edge-of-member 0 i in moved-of-edge (λ (e : ℕ) (x : Entry). is_array_edge x && asks w x) S j h g

  -- to each state after an element an edge leads that the element fits, from one of the states
  pub edge-of-after_element : (S : States) (w : ValueKind → Bool) (n m : ℕ) → T (after_element es S w n m) → ElementMove S w n m
  unfolding after_element is_array_edge asks
  edge-of-after_element S w n m h = go (edge-of-moved (λ (e : ℕ) (x : Entry). is_array_edge x && asks w x) S n m h)
    where
      go : MoveTo (λ (e : ℕ) (x : Entry). is_array_edge x && asks w x) S n m → ElementMove S w n m
      go (move-to {f = arr} i s g) = element-move (member-of-edge i) s g
      go (move-to {f = obj} i s g) = absurd g
