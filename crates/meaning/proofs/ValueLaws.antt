-- A frame after a finished value shows what `runs` keeps of the open value. Assumes nothing.
use mathlib.Core.Bool.{Bool, ◌&&◌, ◌||◌}
use mathlib.Core.List.{List}
use mathlib.Core.Logic.{◌↔◌, inl, inr, ⊎_elim}
use mathlib.Core.Path.{◌≡◌, sym, ◌∙◌}
use Prim.Native.Nat.{ℕ, ◌<◌}
use native.Mathlib.Decide.{dec_lt}
use native.Mathlib.Omega.{arith}
use lib.Dec.{T, ltb, ltb→lt, lt→ltb}
use lib.ListN.{get_or}
use borrow.Author.Tests.{lt-ltb, le-ltb}
use Rattle.laws.proofs.TestLaws.{T_and, T-and-left, T-and-right, T-or-elim, T-or-left, T-or-right}
use Rattle.table.specs.Table.{Table}
use Rattle.table.specs.declared.kind.Finished.{Finished}
use Rattle.table.specs.declared.kind.ValueKind.{ValueKind}
use Rattle.book.specs.Entry.{Entry}
use Rattle.runs.specs.Walk.{asks, is_array_edge, States, OpenObject, key_count, after_element, fits_edge, after_value}
use Rattle.runs.proofs.EdgeLaws.{EdgeFrom}
use Rattle.runs.proofs.OpenLaws.{FitsAt, fits-at, fits_edge-of-edge, edge-of-fits_edge}
use Rattle.runs.proofs.StepLaws.{in_keys-after_value}
use Rattle.frame.specs.Edges.{edge_count, has_form, fits_code}
use Rattle.frame.specs.Frame.{current_key, held_in}
use Rattle.frame.proofs.ValueLaws.{length-valued, is_object-valued, current_key-valued, marked-valued, seen_in-valued, held_in-valued-object, held_in-valued-array}
use Rattle.meaning.specs.Shows.{Carries, lent_edges, valued_by, ShowsValue, ShowsArray, ShowsObject}
use Rattle.meaning.proofs.EdgeLaws.{key_count-le, EdgeAt, edge-at, edge-of-below, below-of-edge, has_key-iff, fits_code-asks, arr-iff}
use Rattle.meaning.proofs.StateLaws.{eq-of-iff, shows-moved}

-- ---- the current key

-- a known current key is the frame's
current_key-of-known : {es : List Entry} {f : List ℕ} {o : OpenObject} → ShowsObject es f o → o.current < key_count es → current_key f ≡ o.current
current_key-of-known {es} {o} h l = h.current ∙ rw (lt-ltb o.current (key_count es) l)

-- where the frame's current key is below 128, that of the open object is known
known-of-current_key : {es : List Entry} {f : List ℕ} {o : OpenObject} → ShowsObject es f o → current_key f < 128 → o.current < key_count es
known-of-current_key {es} {f} {o} h l = go (dec_lt o.current (key_count es))
  where
    go : Dec (o.current < key_count es) → o.current < key_count es
    go (yes g) = g
    go (no g) = let e : current_key f ≡ 255 = h.current ∙ rw (le-ltb o.current (key_count es) (omega arith)) in absurd (omega arith)

-- edge e is a fitting edge of the frame's current key
abbrev Added : Table → Finished → List ℕ → ℕ → Type 0
Added t v f e = (current_key f < 128) × (e < edge_count t.edges) × (get_or t.edge_key e 0 ≡ current_key f) × T (fits_code v (get_or t.edge_kind e 0))

module _ {t : Table} {es : List Entry} (kept : Carries t es) where
  -- ---- in an object

  module _ {f : List ℕ} {o : OpenObject} {v : Finished} {w : ValueKind → Bool} (h : ShowsObject es f o) (s : ShowsValue v w) where
    -- the fitting edges of the frame's current key are those of the open object's
    added-iff : (e : ℕ) → Added t v f e ↔ T (ltb o.current (key_count es) && fits_edge es o.current w e)
    added-iff e = (fits, added)
      where
        at : o.current < key_count es → get_or t.edge_key e 0 ≡ current_key f → T (fits_code v (get_or t.edge_kind e 0)) → EdgeAt es e
            → T (fits_edge es o.current w e)
        at l k c (edge-at i) =
            fits_edge-of-edge es o.current w i ((has_key-iff kept i o.current (omega (arith, key_count-le kept))).0 (k ∙ current_key-of-known h l))
            (rw (fits_code-asks kept s i) at c)

        fits : Added t v f e → T (ltb o.current (key_count es) && fits_edge es o.current w e)
        fits (b, l, k, c) =
            let g = known-of-current_key h b in
            T_and (ltb o.current (key_count es)) (fits_edge es o.current w e) (lt→ltb o.current (key_count es) g)
            (at g k c (edge-of-below kept e (omega arith)))

        of-edge : o.current < key_count es → FitsAt es o.current w e → Added t v f e
        of-edge l (fits-at i k c) =
            let p = current_key-of-known h l in
            let m = key_count-le kept in
            (omega arith, omega (arith, below-of-edge kept i, kept.edges_le), (has_key-iff kept i o.current (omega arith)).1 k ∙ sym p, rw (fits_code-asks kept s i) c)

        added : T (ltb o.current (key_count es) && fits_edge es o.current w e) → Added t v f e
        added b =
            of-edge (ltb→lt o.current (key_count es) (T-and-left (ltb o.current (key_count es)) (fits_edge es o.current w e) b))
            (edge-of-fits_edge es o.current w e (T-and-right (ltb o.current (key_count es)) (fits_edge es o.current w e) b))

    -- the fitting edges of the current key are added; an unknown key has none
    pub shows-pair : ShowsObject es (valued_by t v f) (after_value es o w)
    unfolding after_value
    shows-pair = record {
      long = length-valued (lent_edges t) t.edge_kind t.forms v f h.long;
      object = is_object-valued (lent_edges t) t.edge_kind t.forms v f h.long ∙ h.object;
      mark = marked-valued (lent_edges t) t.edge_kind t.forms v f h.long ∙ h.mark;
      current = current_key-valued (lent_edges t) t.edge_kind t.forms v f h.long ∙ h.current;
      seen = λ k l. seen_in-valued (lent_edges t) t.edge_kind t.forms v f h.long k l ∙ h.seen k l;
      held = held;
      in_keys = in_keys-after_value es w h.in_keys;
    }
      where
        held : (e : ℕ) → e < 512 → held_in (valued_by t v f) e ≡ (o.fitting e || (ltb o.current (key_count es) && fits_edge es o.current w e))
        held e l =
            let added = ltb o.current (key_count es) && fits_edge es o.current w e in
            let law = held_in-valued-object (lent_edges t) t.edge_kind t.forms v f h.long h.object e in
            eq-of-iff (held_in (valued_by t v f) e) (o.fitting e || added) (
              (λ b. ⊎_elim (λ p. T-or-right (o.fitting e) added ((added-iff e).0 p)) (λ p. T-or-left (o.fitting e) added (rw (h.held e l) at p)) (law.0 b)),
              (λ b. law.1 (T-or-elim (o.fitting e) added (λ p. inr (rw (h.held e l) p)) (λ p. inl ((added-iff e).1 p)) b)),
            )

  -- ---- in an array

  -- the states are replaced by those that the fitting edges of `arr` rules lead to
  pub shows-element : {f : List ℕ} {S : States} {v : Finished} {w : ValueKind → Bool} → ShowsArray f S → ShowsValue v w
      → ShowsArray (valued_by t v f) (after_element es S w)
  unfolding after_element
  shows-element {f} {S} {v} {w} h s = record {
    long = length-valued (lent_edges t) t.edge_kind t.forms v f h.long;
    array = is_object-valued (lent_edges t) t.edge_kind t.forms v f h.long ∙ h.array;
    states =
        shows-moved kept (held_in f) (held_in (valued_by t v f)) S Fits InArr (λ (e : ℕ) (x : Entry). is_array_edge x && asks w x) h.states same
        (held_in-valued-array (lent_edges t) t.edge_kind t.forms v f h.long h.array);
  }
    where
      Fits : ℕ → Type 0
      Fits e = T (fits_code v (get_or t.edge_kind e 0))

      InArr : ℕ → Type 0
      InArr e = T (has_form t.forms 2 (get_or t.edge_rule e 0))

      same : (e : ℕ) (x : Entry) → EdgeFrom 0 es e x → (Fits e × InArr e) ↔ T (is_array_edge x && asks w x)
      same e x i = (
        (λ p. T_and (is_array_edge x) (asks w x) ((arr-iff kept i).0 p.1) (rw (fits_code-asks kept s i) at p.0)),
        (λ b. (rw (fits_code-asks kept s i) (T-and-right (is_array_edge x) (asks w x) b), (arr-iff kept i).1 (T-and-left (is_array_edge x) (asks w x) b))),
      )
