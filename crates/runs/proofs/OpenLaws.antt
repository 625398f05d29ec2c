-- What is kept of an open object after some pairs: the keys seen, the fitting edges, the mark. Assumes nothing.
use mathlib.Core.Bool.{Bool, not, ◌&&◌, ◌||◌}
use mathlib.Core.List.{List}
use mathlib.Core.Logic.{◌⊎◌, inl, inr, ⊎_elim}
use mathlib.Core.Path.{◌≡◌, sym, ap}
use Prim.Native.Nat.{ℕ, ◌<◌}
use lib.Dec.{T, T_not, not_T, eqb, eqb→eq, eqb_refl, ltb, ltb→lt, lt→ltb}
use Rattle.laws.proofs.TestLaws.{T_and, T-and-left, T-and-right, T-or-elim, T-or-left, T-or-right, T-nor, T-nor-left, T-nor-right, T-of-not-not, T_not-not}
use Rattle.json_text.specs.Tree.{Json, Pairs, no_pairs, pairs}
use Rattle.json_text.specs.Meaning.{meaning, members}
use Rattle.json_text.proofs.MeaningLaws.{fold-snoc}
use Rattle.table.specs.declared.kind.ValueKind.{ValueKind}
use Rattle.book.specs.Entry.{Entry, keys_of}
use Rattle.book.proofs.EntryLaws.{key-eq-of-number-eq}
use Rattle.runs.specs.Runs.{Among, first, later, KeyTwice, first_again, later_twice}
use Rattle.runs.specs.Walk.{asks, has_key, OpenObject, key_count, number_in, at_opening, after_key, fits_edge, after_value, judging}
use Rattle.runs.proofs.EdgeLaws.{EdgeFrom, any_edge-of-edge, edge-of-any_edge}

module _ (es : List Entry) where
  -- an open object after a pair
  abbrev after_pair : OpenObject → List ℕ → Json → OpenObject
  after_pair o k v = after_value es (after_key es o k) (meaning (judging es) v)

  -- the characters of a key make the key
  members-pairs : (k : List ℕ) (v : Json) (ps : Pairs) (o : OpenObject) → members (judging es) (pairs k v ps) o ≡ members (judging es) ps (after_pair o k v)
  members-pairs k v ps o = ap (λ (s : List ℕ). members (judging es) ps (after_pair o s v)) (fold-snoc k)

  -- two keys of the book with one number are the same
  pub key-eq-of-number_in-eq : (k l : List ℕ) → number_in es k < key_count es → number_in es k ≡ number_in es l → k ≡ l
  unfolding number_in key_count
  key-eq-of-number_in-eq k l h e = key-eq-of-number-eq (keys_of es) k l h e

  -- ---- fits_edge

  -- edge e with the key asks for one of the kinds
  pub data FitsAt (c : ℕ) (w : ValueKind → Bool) (e : ℕ) : Type 0 where
    fits-at : {x : Entry} → EdgeFrom 0 es e x → T (has_key (keys_of es) c x) → T (asks w x) → FitsAt c w e

  -- an edge with the key that asks for one of the kinds is a fitting one
  pub fits_edge-of-edge : (c : ℕ) (w : ValueKind → Bool) {e : ℕ} {x : Entry} → EdgeFrom 0 es e x → T (has_key (keys_of es) c x) → T (asks w x)
      → T (fits_edge es c w e)
  unfolding fits_edge
  fits_edge-of-edge c w {e} {x} i h g =
      any_edge-of-edge (λ (i : ℕ) (x : Entry). eqb i e && (has_key (keys_of es) c x && asks w x)) i
      (T_and (eqb e e) (has_key (keys_of es) c x && asks w x) (eqb_refl e) (T_and (has_key (keys_of es) c x) (asks w x) h g))

  -- a fitting edge has the key, and asks for one of the kinds
  pub edge-of-fits_edge : (c : ℕ) (w : ValueKind → Bool) (e : ℕ) → T (fits_edge es c w e) → FitsAt c w e
  unfolding fits_edge
  edge-of-fits_edge c w e h = go (edge-of-any_edge test 0 es h)
    where
      test : ℕ → Entry → Bool
      test i x = eqb i e && (has_key (keys_of es) c x && asks w x)

      go : (d : ℕ) × (x : Entry) × EdgeFrom 0 es d x × T (test d x) → FitsAt c w e
      go (d, x, i, g) =
          let g' = T-and-right (eqb d e) (has_key (keys_of es) c x && asks w x) g in
          let p : d ≡ e = eqb→eq d e (T-and-left (eqb d e) (has_key (keys_of es) c x && asks w x) g) in
          fits-at (rw p at i) (T-and-left (has_key (keys_of es) c x) (asks w x) g') (T-and-right (has_key (keys_of es) c x) (asks w x) g')

  -- ---- the keys seen

  -- the number of some pair's key
  pub data SeenBy (c : ℕ) (ps : Pairs) : Type 0 where
    seen_by : {k : List ℕ} {v : Json} → Among k v ps → number_in es k ≡ c → SeenBy c ps

  seen-stays : (ps : Pairs) (o : OpenObject) (c : ℕ) → T (o.seen c) → T ((members (judging es) ps o).seen c)
  unfolding after_key after_value
  seen-stays no_pairs o c h = h
  seen-stays (pairs k v ps) o c h = rw (members-pairs k v ps o) (seen-stays ps (after_pair o k v) c (T-or-left (o.seen c) (eqb c (number_in es k) && ltb c (key_count es)) h))

  -- a key of the book that was met is seen
  pub seen-of-among : {k : List ℕ} {v : Json} {ps : Pairs} (o : OpenObject) → Among k v ps → number_in es k < key_count es
      → T ((members (judging es) ps o).seen (number_in es k))
  unfolding after_key after_value
  seen-of-among {k} {v} o (first {ps}) h =
      rw (members-pairs k v ps o)
      (seen-stays ps (after_pair o k v) (number_in es k)
      (T-or-right (o.seen (number_in es k)) (eqb (number_in es k) (number_in es k) && ltb (number_in es k) (key_count es))
      (T_and (eqb (number_in es k) (number_in es k)) (ltb (number_in es k) (key_count es)) (eqb_refl (number_in es k)) (lt→ltb (number_in es k) (key_count es) h))))
  seen-of-among {k} o (later {l} {u} {ps} a) h = rw (members-pairs l u ps o) (seen-of-among (after_pair o l u) a h)

  among-of-seen-from : (ps : Pairs) (o : OpenObject) (c : ℕ) → T ((members (judging es) ps o).seen c) → T (o.seen c) ⊎ SeenBy c ps
  unfolding after_key after_value
  among-of-seen-from no_pairs o c h = inl h
  among-of-seen-from (pairs k v ps) o c h = go (among-of-seen-from ps (after_pair o k v) c (rw (members-pairs k v ps o) at h))
    where
      further : SeenBy c ps → SeenBy c (pairs k v ps)
      further (seen_by a e) = seen_by (later a) e

      go : T ((after_pair o k v).seen c) ⊎ SeenBy c ps → T (o.seen c) ⊎ SeenBy c (pairs k v ps)
      go (inl g) =
          T-or-elim (o.seen c) (eqb c (number_in es k) && ltb c (key_count es)) (λ (d : T (o.seen c)). inl d)
          (λ (d : T (eqb c (number_in es k) && ltb c (key_count es))). inr (seen_by first (sym (eqb→eq c (number_in es k) (T-and-left (eqb c (number_in es k)) (ltb c (key_count es)) d))))) g
      go (inr s) = inr (further s)

  -- a key seen was met
  pub among-of-seen : (ps : Pairs) (c : ℕ) → T ((members (judging es) ps (at_opening es)).seen c) → SeenBy c ps
  unfolding at_opening
  among-of-seen ps c h = ⊎_elim (λ (g : ⊥). absurd g) (λ (s : SeenBy c ps). s) (among-of-seen-from ps (at_opening es) c h)

  -- ---- the fitting edges

  -- edge e has the key of some pair whose value it asks for
  pub data FittingBy (e : ℕ) (ps : Pairs) : Type 0 where
    fitting-by : {k : List ℕ} {v : Json} {x : Entry} → Among k v ps → EdgeFrom 0 es e x → T (has_key (keys_of es) (number_in es k) x)
        → T (asks (meaning (judging es) v) x) → FittingBy e ps

  fitting-stays : (ps : Pairs) (o : OpenObject) (e : ℕ) → T (o.fitting e) → T ((members (judging es) ps o).fitting e)
  unfolding after_key after_value
  fitting-stays no_pairs o e h = h
  fitting-stays (pairs k v ps) o e h =
      rw (members-pairs k v ps o)
      (fitting-stays ps (after_pair o k v) e (T-or-left (o.fitting e) (ltb (number_in es k) (key_count es) && fits_edge es (number_in es k) (meaning (judging es) v) e) h))

  -- an edge with a pair's key that asks for its value is a fitting one
  pub fitting-of-among : {k : List ℕ} {v : Json} {ps : Pairs} {e : ℕ} {x : Entry} (o : OpenObject) → Among k v ps → number_in es k < key_count es
      → EdgeFrom 0 es e x
      → T (has_key (keys_of es) (number_in es k) x) → T (asks (meaning (judging es) v) x) → T ((members (judging es) ps o).fitting e)
  unfolding after_key after_value
  fitting-of-among {k} {v} {e} o (first {ps}) h i a b =
      rw (members-pairs k v ps o)
      (fitting-stays ps (after_pair o k v) e
      (T-or-right (o.fitting e) (ltb (number_in es k) (key_count es) && fits_edge es (number_in es k) (meaning (judging es) v) e)
      (T_and (ltb (number_in es k) (key_count es)) (fits_edge es (number_in es k) (meaning (judging es) v) e) (lt→ltb (number_in es k) (key_count es) h)
      (fits_edge-of-edge (number_in es k) (meaning (judging es) v) i a b))))
  fitting-of-among o (later {l} {u} {ps} m) h i a b = rw (members-pairs l u ps o) (fitting-of-among (after_pair o l u) m h i a b)

  among-of-fitting-from : (ps : Pairs) (o : OpenObject) (e : ℕ) → T ((members (judging es) ps o).fitting e) → T (o.fitting e) ⊎ FittingBy e ps
  unfolding after_key after_value
  among-of-fitting-from no_pairs o e h = inl h
  among-of-fitting-from (pairs k v ps) o e h = go (among-of-fitting-from ps (after_pair o k v) e (rw (members-pairs k v ps o) at h))
    where
      further : FittingBy e ps → FittingBy e (pairs k v ps)
      further (fitting-by a i b c) = fitting-by (later a) i b c

      here : FitsAt (number_in es k) (meaning (judging es) v) e → FittingBy e (pairs k v ps)
      here (fits-at i a b) = fitting-by first i a b

      go : T ((after_pair o k v).fitting e) ⊎ FittingBy e ps → T (o.fitting e) ⊎ FittingBy e (pairs k v ps)
      go (inl g) =
          T-or-elim (o.fitting e) (ltb (number_in es k) (key_count es) && fits_edge es (number_in es k) (meaning (judging es) v) e) (λ (d : T (o.fitting e)). inl d)
          (λ (d : T (ltb (number_in es k) (key_count es) && fits_edge es (number_in es k) (meaning (judging es) v) e)).
          inr (here (edge-of-fits_edge (number_in es k) (meaning (judging es) v) e (T-and-right (ltb (number_in es k) (key_count es)) (fits_edge es (number_in es k) (meaning (judging es) v) e) d)))) g
      go (inr s) = inr (further s)

  -- a fitting edge has the key of a pair whose value it asks for
  pub among-of-fitting : (ps : Pairs) (e : ℕ) → T ((members (judging es) ps (at_opening es)).fitting e) → FittingBy e ps
  unfolding at_opening
  among-of-fitting ps e h = ⊎_elim (λ (g : ⊥). absurd g) (λ (s : FittingBy e ps). s) (among-of-fitting-from ps (at_opening es) e h)

  -- ---- the mark

  -- no mark yet, and the keys of the pairs to come are known, not seen, and no two the same
  record Clean (o : OpenObject) (ps : Pairs) : Type 0 where
    unmarked : T (not o.marked)
    known : {k : List ℕ} {v : Json} → Among k v ps → number_in es k < key_count es
    unseen : {k : List ℕ} {v : Json} → Among k v ps → T (not (o.seen (number_in es k)))
    once : KeyTwice ps → ⊥

  clean-of-unmarked : (ps : Pairs) (o : OpenObject) → T (not (members (judging es) ps o).marked) → Clean o ps
  unfolding after_key after_value
  clean-of-unmarked no_pairs o h = record { unmarked = h; known = none; unseen = none'; once = never }
    where
      none : {k : List ℕ} {v : Json} → Among k v no_pairs → number_in es k < key_count es
      none a = elim a [ ]

      none' : {k : List ℕ} {v : Json} → Among k v no_pairs → T (not (o.seen (number_in es k)))
      none' a = elim a [ ]

      never : KeyTwice no_pairs → ⊥
      never d = elim d [ ]
  clean-of-unmarked (pairs k v ps) o h = go (clean-of-unmarked ps (after_pair o k v) (rw (members-pairs k v ps o) at h))
    where
      c : ℕ
      c = number_in es k

      go : Clean (after_pair o k v) ps → Clean o (pairs k v ps)
      go r = record { unmarked = T-nor-left o.marked (not (ltb c (key_count es)) || o.seen c) r.unmarked; known = known'; unseen = unseen'; once = once' }
        where
          both : T (not (not (ltb c (key_count es)) || o.seen c))
          both = T-nor-right o.marked (not (ltb c (key_count es)) || o.seen c) r.unmarked

          below : c < key_count es
          below = ltb→lt c (key_count es) (T-of-not-not (ltb c (key_count es)) (T-nor-left (not (ltb c (key_count es))) (o.seen c) both))

          known' : {l : List ℕ} {u : Json} → Among l u (pairs k v ps) → number_in es l < key_count es
          known' first = below
          known' (later a) = r.known a

          unseen' : {l : List ℕ} {u : Json} → Among l u (pairs k v ps) → T (not (o.seen (number_in es l)))
          unseen' first = T-nor-right (not (ltb c (key_count es))) (o.seen c) both
          unseen' {l} (later a) = T-nor-left (o.seen (number_in es l)) (eqb (number_in es l) c && ltb (number_in es l) (key_count es)) (r.unseen a)

          once' : KeyTwice (pairs k v ps) → ⊥
          once' (first_again a) =
              T_not (eqb c c && ltb c (key_count es)) (T-nor-right (o.seen c) (eqb c c && ltb c (key_count es)) (r.unseen a))
              (T_and (eqb c c) (ltb c (key_count es)) (eqb_refl c) (lt→ltb c (key_count es) below))
          once' (later_twice d) = r.once d

  unmarked-of-clean : (ps : Pairs) (o : OpenObject) → Clean o ps → T (not (members (judging es) ps o).marked)
  unfolding after_key after_value
  unmarked-of-clean no_pairs o r = r.unmarked
  unmarked-of-clean (pairs k v ps) o r = rw (members-pairs k v ps o) (unmarked-of-clean ps (after_pair o k v) next)
    where
      c : ℕ
      c = number_in es k

      other : {l : List ℕ} {u : Json} → Among l u ps → T (eqb (number_in es l) c && ltb (number_in es l) (key_count es)) → ⊥
      other {l} a h =
          let e : l ≡ k = key-eq-of-number_in-eq l k (r.known (later a)) (eqb→eq (number_in es l) c (T-and-left (eqb (number_in es l) c) (ltb (number_in es l) (key_count es)) h)) in
          r.once (first_again (rw e at a))

      next : Clean (after_pair o k v) ps
      next = record {
        unmarked =
            T-nor o.marked (not (ltb c (key_count es)) || o.seen c) r.unmarked
            (T-nor (not (ltb c (key_count es))) (o.seen c) (T_not-not (ltb c (key_count es)) (lt→ltb c (key_count es) (r.known first))) (r.unseen first));
        known = λ {k = l} {v = u} a. r.known (later a);
        unseen = λ {k = l} {v = u} a. T-nor (o.seen (number_in es l)) (eqb (number_in es l) c && ltb (number_in es l) (key_count es)) (r.unseen (later a)) (not_T (eqb (number_in es l) c && ltb (number_in es l) (key_count es)) (other a));
        once = λ d. r.once (later_twice d);
      }

  -- no mark: the keys are keys of the book
  pub known-of-unmarked : {k : List ℕ} {v : Json} (ps : Pairs) → T (not (members (judging es) ps (at_opening es)).marked) → Among k v ps
      → number_in es k < key_count es
  known-of-unmarked ps h a = (clean-of-unmarked ps (at_opening es) h).known a

  -- no mark: no key stands twice
  pub once-of-unmarked : (ps : Pairs) → T (not (members (judging es) ps (at_opening es)).marked) → KeyTwice ps → ⊥
  once-of-unmarked ps h d = (clean-of-unmarked ps (at_opening es) h).once d

  -- where the keys are keys of the book and none stands twice, there is no mark
  pub unmarked-of-known-once : (ps : Pairs) → ((k : List ℕ) (v : Json) → Among k v ps → number_in es k < key_count es) → (KeyTwice ps → ⊥)
      → T (not (members (judging es) ps (at_opening es)).marked)
  unfolding at_opening
  unmarked-of-known-once ps known once = unmarked-of-clean ps (at_opening es) (record { unmarked = tt; known = λ {k} {v} a. known k v a; unseen = λ {k} {v} a. tt; once = once })
