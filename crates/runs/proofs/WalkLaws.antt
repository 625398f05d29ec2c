-- Some order of an object's pairs has a run exactly when the ascending walk over the keys seen accepts: the key numbers rise along a run, so that
-- the walk meets the pairs in the run's order. Assumes nothing.
use mathlib.Core.Bool.{Bool, true, false, not, cond, ◌&&◌}
use mathlib.Core.List.{List}
use mathlib.Core.Logic.{◌⊎◌, inl, inr}
use mathlib.Core.Path.{◌≡◌, refl, ap, ◌∙◌}
use Prim.Native.Nat.{ℕ, zero, suc, ◌+◌, ◌<◌, ◌≤◌}
use native.Mathlib.Omega.{arith}
use lib.Dec.{T, eqb, eqb→eq, eqb_refl}
use borrow.Author.Tests.{eq-eqb}
use Rattle.laws.proofs.TestLaws.{T_and, T-and-left, T-and-right, T-of-true}
use Rattle.json_text.specs.Tree.{Json, Pairs, no_pairs, pairs}
use Rattle.json_text.specs.Meaning.{meaning, members}
use Rattle.table.specs.declared.kind.ValueKind.{ValueKind}
use Rattle.table.specs.Keys.{number_of}
use Rattle.book.specs.Entry.{obj, arr, Entry, edge, keys_of}
use Rattle.runs.specs.Runs.{◌∈◌, Fits, ObjectRun, object_end, object_edge, Insert, in_front, OrderPairs, order_no_pairs, Among, first, later, KeyTwice, FitsInSomeOrder, in_order}
use Rattle.runs.specs.Sound.{Sound}
use Rattle.runs.specs.Walk.{asks, has_key, States, OpenObject, start_of, moved, has_end, key_count, number_in, at_opening, use_key, walk, object_fits, judging}
use Rattle.runs.proofs.EdgeLaws.{EdgeFrom, edge-unique, member-of-edge, edge-of-member}
use Rattle.runs.proofs.OrderLaws.{among-insert, among_cases, insert-of-among, key-twice-of-insert, key-twice-insert, before-of-order, after-order, key-twice-order, order-insert}
use Rattle.runs.proofs.RunLaws.{number-lt-of-edge, number-lt-of-run, known-of-run, keys-once-of-run}
use Rattle.runs.proofs.StateLaws.{EndIn, end-in, has_end-of-end, end-of-has_end, start-of-end, start-of-edge, zero-of-start, MoveTo, move-to, moved-of-edge, edge-of-moved}
use Rattle.runs.proofs.OpenLaws.{key-eq-of-number_in-eq, SeenBy, seen_by, seen-of-among, among-of-seen, FittingBy, fitting-by, fitting-of-among, among-of-fitting, known-of-unmarked, once-of-unmarked, unmarked-of-known-once}

-- a value is judged as it fits
pub record Evaluated (es : List Entry) (v : Json) : Type 0 where
  pub fits : (t : ValueKind) → T (meaning (judging es) v t) → FitsInSomeOrder es t v
  pub judged : (t : ValueKind) → FitsInSomeOrder es t v → T (meaning (judging es) v t)

-- some order of the pairs has a run of rule r from one of the states
pub data RunFrom (es : List Entry) (S : States) (r : ℕ) (ps : Pairs) : Type 0 where
  run-from : {q : ℕ} {qs : Pairs} → T (S r q) → OrderPairs ps qs → ObjectRun es r q qs → RunFrom es S r ps

module _ (es : List Entry) (o : OpenObject) where
  -- ---- the pairs that are left

  -- the keys from number i on, n of them, are still to be used: the pairs that are left have these, and each that was seen is among them
  record Left (i n : ℕ) (ps : Pairs) : Type 0 where
    above : {k : List ℕ} {v : Json} → Among k v ps → i ≤ number_in es k
    below : {k : List ℕ} {v : Json} → Among k v ps → number_in es k < i + n
    seen : {k : List ℕ} {v : Json} → Among k v ps → T (o.seen (number_in es k))
    met : (c : ℕ) → i ≤ c → T (o.seen c) → SeenBy es c ps

  -- where key i was not seen, the same pairs are left after it
  left-unseen : {i n : ℕ} {ps : Pairs} → o.seen i ≡ false → Left i (suc n) ps → Left (suc i) n ps
  left-unseen {i} {n} {ps} e l = record {
    above = λ {k} {v} a. let h : i ≤ number_in es k = l.above a in let g = apart a in omega arith;
    below = λ {k} {v} a. let h : number_in es k < i + suc n = l.below a in omega arith;
    seen = λ {k} {v} a. l.seen a;
    met = λ c h g. l.met c (omega arith) g;
  }
    where
      apart : {k : List ℕ} {v : Json} → Among k v ps → number_in es k ≡ i → ⊥
      apart a p = rw (p, e) at (l.seen a)

  -- where the pair with key i is taken out, the others are left after it
  left-taken : {i n : ℕ} {k : List ℕ} {v : Json} {ps qs : Pairs} → Insert k v ps qs → number_in es k ≡ i
      → ((l : List ℕ) (u : Json) → Among l u ps → suc i ≤ number_in es l) → Left i (suc n) qs → Left (suc i) n ps
  left-taken {i} {n} {k} {v} {ps} {qs} j e up l = record {
    above = λ {k = x} {v = u} a. up x u a;
    below = λ {k = x} {v = u} a. let h : number_in es x < i + suc n = l.below (among-insert j a) in omega arith;
    seen = λ {k = x} {v = u} a. l.seen (among-insert j a);
    met = λ c h g. other c h (l.met c (omega arith) g);
  }
    where
      other : (c : ℕ) → suc i ≤ c → SeenBy es c qs → SeenBy es c ps
      other c h (seen_by {k = x} {v = u} a p) = go (among_cases j a)
        where
          go : ((k ≡ x) × (v ≡ u)) ⊎ Among x u ps → SeenBy es c ps
          go (inl (q, _)) = let d : number_in es k ≡ number_in es x = ap (number_in es) q in absurd (omega arith)
          go (inr b) = seen_by b p

  -- ---- from the walk to a run

  -- a pair with key k whose value is judged to fit t
  data Taking (k : List ℕ) (t : ValueKind) (ps : Pairs) : Type 0 where
    taking : {v : Json} → Among k v ps → T (meaning (judging es) v t) → Taking k t ps

  -- what else the walk needs to know of the pairs that are left
  record LeftToRun (i : ℕ) (ps : Pairs) : Type 0 where
    good : {k : List ℕ} {v : Json} → Among k v ps → Evaluated es v
    known : {k : List ℕ} {v : Json} → Among k v ps → number_in es k < key_count es
    once : KeyTwice ps → ⊥
    takes : {e r q m : ℕ} {k : List ℕ} {t : ValueKind} → EdgeFrom 0 es e (edge r obj q k t m) → T (o.fitting e) → i ≤ number_in es k → Taking k t ps

  -- what the walk needs to know stays known after a key that was not seen
  to_run-unseen : {i : ℕ} {ps : Pairs} → LeftToRun i ps → LeftToRun (suc i) ps
  to_run-unseen {i} l = record {
    good = λ {k} {v} a. l.good a;
    known = λ {k} {v} a. l.known a;
    once = l.once;
    takes = λ {e} {r} {q} {m} {k} {t} j f h. l.takes j f (omega arith);
  }

  -- what the walk needs to know stays known where the pair with key i is taken out
  to_run-taken : {i : ℕ} {k : List ℕ} {v : Json} {ps qs : Pairs} → Insert k v ps qs → number_in es k ≡ i → LeftToRun i qs → LeftToRun (suc i) ps
  to_run-taken {i} {k} {v} {ps} {qs} j e l = record {
    good = λ {k = x} {v = u} a. l.good (among-insert j a);
    known = λ {k = x} {v = u} a. l.known (among-insert j a);
    once = λ d. l.once (key-twice-insert j d);
    takes = λ {e = d} {r} {q} {m} {k = x} {t} y f h. other x t h (l.takes y f (omega arith));
  }
    where
      other : (x : List ℕ) (t : ValueKind) → suc i ≤ number_in es x → Taking x t qs → Taking x t ps
      other x t h (taking {v = u} a w) = go (among_cases j a)
        where
          go : ((k ≡ x) × (v ≡ u)) ⊎ Among x u ps → Taking x t ps
          go (inl (q, _)) = let d : number_in es k ≡ number_in es x = ap (number_in es) q in absurd (omega arith)
          go (inr b) = taking b w

  -- after a pair that is taken out the key numbers are above its own
  above-taken : {i n : ℕ} {k : List ℕ} {v : Json} {ps qs : Pairs} → Insert k v ps qs → number_in es k ≡ i → Left i (suc n) qs → LeftToRun i qs
      → (x : List ℕ) (u : Json) → Among x u ps → suc i ≤ number_in es x
  above-taken {i} {k} {ps} j e l m x u a = let h : i ≤ number_in es x = l.above (among-insert j a) in let g = apart in omega arith
    where
      apart : number_in es x ≡ i → ⊥
      apart p =
          let q : number_in es x ≡ number_in es k = cc in
          let r : x ≡ k = key-eq-of-number_in-eq es x k (m.known (among-insert j a)) q in
          m.once (key-twice-of-insert j (rw r at a))

  -- the edges that the walk takes at key i
  abbrev at_key : ℕ → ℕ → Entry → Bool
  at_key i e x = o.fitting e && has_key (keys_of es) i x

  -- the walk accepts only where some order of the pairs has a run
  run-of-walk : (n i : ℕ) (ps : Pairs) → Left i n ps → LeftToRun i ps → (S : States) (r : ℕ) → T (has_end es obj (walk es o i n S) r) → RunFrom es S r ps
  unfolding walk use_key has_key number_in
  run-of-walk zero i no_pairs l m S r h = go (end-of-has_end es obj S r h)
    where
      go : EndIn es obj S r → RunFrom es S r no_pairs
      go (end-in j s) = run-from s order_no_pairs (object_end j)
  run-of-walk zero i (pairs k v ps) l m S r h = let a : i ≤ number_in es k = l.above first in let b : number_in es k < i + zero = l.below first in absurd (omega arith)
  run-of-walk (suc n) i ps l m S r h = go (o.seen i) refl h (λ (qs : Pairs) (a : Left (suc i) n qs) (b : LeftToRun (suc i) qs) (S' : States). run-of-walk n (suc i) qs a b S' r)
    where
      Further : Type 0
      Further = (qs : Pairs) → Left (suc i) n qs → LeftToRun (suc i) qs → (S' : States) → T (has_end es obj (walk es o (suc i) n S') r) → RunFrom es S' r qs

      -- the run from one state on, with the pair in front that leads there
      taken : {k : List ℕ} {v : Json} {qs : Pairs} → Insert k v qs ps → number_in es k ≡ i → Left (suc i) n qs → RunFrom es (moved es (at_key i) S) r qs
          → RunFrom es S r ps
      taken {k} {v} {qs} j e l' (run-from {q = p} {qs = rs} s os run) = by (edge-of-moved es (at_key i) S r p s)
        where
          fit : {q : ℕ} {x : List ℕ} {t : ValueKind} → T (S r q) → edge r obj q x t p ∈ es → k ≡ x → FitsInSomeOrder es t v → RunFrom es S r ps
          fit {q} {t} s' y d (in_order ov f) = run-from s' (order-insert j ov os) (object_edge {t = t} (rw (← d) at y) f run)

          same-pair : {q : ℕ} {x : List ℕ} {t : ValueKind} → T (S r q) → edge r obj q x t p ∈ es → number_in es x ≡ i → Taking x t ps → RunFrom es S r ps
          same-pair {q} {x} {t} s' y c (taking {v = u} a w) = which (among_cases j a)
            where
              which : ((k ≡ x) × (v ≡ u)) ⊎ Among x u qs → RunFrom es S r ps
              which (inl (d, d')) = fit s' y d ((rw (← d') at (m.good a)).fits t (rw (← d') at w))
              which (inr b) = let z : suc i ≤ number_in es x = l'.above b in absurd (omega arith)

          by : MoveTo es (at_key i) S r p → RunFrom es S r ps
          by (move-to {e = d} {f = arr} y s' w) = absurd (T-and-right (o.fitting d) false w)
          by (move-to {e = d} {q} {f = obj} {k = x} {t} y s' w) =
              let c : number_in es x ≡ i = eqb→eq (number_in es x) i (T-and-right (o.fitting d) (eqb (number_in es x) i) w) in
              same-pair s' (member-of-edge y) c (m.takes y (T-and-left (o.fitting d) (eqb (number_in es x) i) w) (omega arith))

      pick : T (has_end es obj (walk es o (suc i) n (moved es (at_key i) S)) r) → Further → SeenBy es i ps → RunFrom es S r ps
      pick h f (seen_by {k} {v} a e) =
          let (qs, j) = insert-of-among a in
          let l' : Left (suc i) n qs = left-taken j e (above-taken j e l m) l in
          taken j e l' (f qs l' (to_run-taken j e m) (moved es (at_key i) S) h)

      go : (b : Bool) → o.seen i ≡ b → T (has_end es obj (walk es o (suc i) n (cond b (moved es (at_key i) S) S)) r) → Further → RunFrom es S r ps
      go true e h f = pick h f (l.met i (omega arith) (T-of-true (o.seen i) e))
      go false e h f = f ps (left-unseen e l) (to_run-unseen m) S h

  -- ---- from a run to the walk

  module _ (sound : Sound es) where
    -- the walk accepts wherever the pairs, in this order, have a run whose edges are fitting ones
    walk_of-run : (n i : ℕ) (qs : Pairs) → Left i n qs
        → ((e r q m : ℕ) (k : List ℕ) (t : ValueKind) (w : Json) → EdgeFrom 0 es e (edge r obj q k t m) → Among k w qs → Fits es t w → T (o.fitting e))
        → (S : States) (r q : ℕ) → T (S r q) → ObjectRun es r q qs → T (has_end es obj (walk es o i n S) r)
    unfolding walk use_key has_key number_in
    walk_of-run zero i no_pairs l fit S r q s (object_end j) = has_end-of-end es S j s
    walk_of-run zero i (pairs k v qs) l fit S r q s run = let a : i ≤ number_in es k = l.above first in let b : number_in es k < i + zero = l.below first in absurd (omega arith)
    walk_of-run (suc n) i qs l fit S r q s run = go (o.seen i) refl (λ (xs : Pairs) (a : Left (suc i) n xs). walk_of-run n (suc i) xs a)
      where
        Fitting : Pairs → Type 0
        Fitting xs = (e r q m : ℕ) (k : List ℕ) (t : ValueKind) (w : Json) → EdgeFrom 0 es e (edge r obj q k t m) → Among k w xs → Fits es t w → T (o.fitting e)

        Further : Type 0
        Further = (xs : Pairs) → Left (suc i) n xs → Fitting xs → (S' : States) (r q : ℕ) → T (S' r q) → ObjectRun es r q xs → T (has_end es obj (walk es o (suc i) n S') r)

        -- the pair with key i is the first, since the numbers rise
        step : {xs : Pairs} → Left i (suc n) xs → Fitting xs → ObjectRun es r q xs → SeenBy es i xs → Further
            → T (has_end es obj (walk es o (suc i) n (moved es (at_key i) S)) r)
        step l fit (object_end j) (seen_by a e) f = elim a [ ]
        step l fit (object_edge {m} {k} {t} {v = w} {ps = xs} j g run) (seen_by {k = x} {v = u} a e) f =
            let (d, y) = edge-of-member 0 j in
            let up : (z : List ℕ) (b : Json) → Among z b xs → suc i ≤ number_in es z = λ z b c. let h : number_in es k < number_in es z = number-lt-of-run sound j run c in let p = num in omega arith in
            f xs (left-taken in_front num up l) (λ e r q m k t w y a g. fit e r q m k t w y (later a) g) (moved es (at_key i) S) r m
            (moved-of-edge es (at_key i) S y s (T_and (o.fitting d) (eqb (number_of (keys_of es) k) i) (fit d r q m k t w y first g) (T-of-true (eqb (number_of (keys_of es) k) i) (eq-eqb (number_in es k) i num)))) run
          where
            num : number_in es k ≡ i
            num = which (among_cases in_front a)
              where
                which : ((k ≡ x) × (w ≡ u)) ⊎ Among x u xs → number_in es k ≡ i
                which (inl (d, _)) = ap (number_in es) d ∙ e
                which (inr c) = let h : number_in es k < number_in es x = number-lt-of-run sound j run c in let p : i ≤ number_in es k = l.above first in absurd (omega arith)

        go : (b : Bool) → o.seen i ≡ b → Further → T (has_end es obj (walk es o (suc i) n (cond b (moved es (at_key i) S) S)) r)
        go true e f = step l fit run (l.met i (omega arith) (T-of-true (o.seen i) e)) f
        go false e f = f qs (left-unseen e l) fit S r q s run

-- ---- objects

-- each value of some pairs is judged as it fits
pub data AllJudged (es : List Entry) : Pairs → Type 0 where
  judged-none : AllJudged es no_pairs
  judged-pair : {k : List ℕ} {v : Json} {ps : Pairs} → Evaluated es v → AllJudged es ps → AllJudged es (pairs k v ps)

-- where each value of some pairs is judged as it fits, the value of any one of the pairs is
judged-of-among : {es : List Entry} {k : List ℕ} {v : Json} {ps : Pairs} → AllJudged es ps → Among k v ps → Evaluated es v
judged-of-among judged-none x3 = elim x3 [ ]
judged-of-among (judged-pair j js) first = j
judged-of-among (judged-pair j js) (later a) = judged-of-among js a

-- what is kept of an object after its last pair
abbrev kept : List Entry → Pairs → OpenObject
kept es ps = members (judging es) ps (at_opening es)

module _ {es : List Entry} (sound : Sound es) (ps : Pairs) (judgements : AllJudged es ps) where
  -- a fitting edge takes a pair that has its key
  takes-of-fitting : {e r q m : ℕ} {k : List ℕ} {t : ValueKind} → EdgeFrom 0 es e (edge r obj q k t m) → T ((kept es ps).fitting e)
      → Taking es (kept es ps) k t ps
  unfolding has_key asks number_in
  takes-of-fitting {e} {r} {q} {m} {k} {t} i h = go (among-of-fitting es ps e h)
    where
      go : FittingBy es e ps → Taking es (kept es ps) k t ps
      go (fitting-by {k = l} {v} {x} a j b c) =
          let p : x ≡ edge r obj q k t m = edge-unique j i in
          let n : number_in es k ≡ number_in es l = eqb→eq (number_in es k) (number_in es l) (rw p at b) in
          let d : k ≡ l = key-eq-of-number_in-eq es k l (number-lt-of-edge sound (member-of-edge i)) n in
          taking (rw (← d) at a) (rw p at c)

  -- an accepted object: some order of its pairs has a run
  pub run-of-object_fits : (r : ℕ) → T (object_fits es (kept es ps) r) → (qs : Pairs) × OrderPairs ps qs × ObjectRun es r 0 qs
  unfolding object_fits
  run-of-object_fits r h = from (run-of-walk es (kept es ps) (key_count es) 0 ps left to-run (start_of es obj) r accepted)
    where
      clear : T (not (kept es ps).marked)
      clear = T-and-left (not (kept es ps).marked) (has_end es obj (walk es (kept es ps) 0 (key_count es) (start_of es obj)) r) h

      accepted : T (has_end es obj (walk es (kept es ps) 0 (key_count es) (start_of es obj)) r)
      accepted = T-and-right (not (kept es ps).marked) (has_end es obj (walk es (kept es ps) 0 (key_count es) (start_of es obj)) r) h

      left : Left es (kept es ps) 0 (key_count es) ps
      left = record {
        above = λ {k} {v} a. omega arith;
        below = λ {k} {v} a. let g : number_in es k < key_count es = known-of-unmarked es ps clear a in omega arith;
        seen = λ {k} {v} a. seen-of-among es (at_opening es) a (known-of-unmarked es ps clear a);
        met = λ c g s. among-of-seen es ps c s;
      }

      to-run : LeftToRun es (kept es ps) 0 ps
      to-run = record {
        good = λ {k} {v} a. judged-of-among judgements a;
        known = λ {k} {v} a. known-of-unmarked es ps clear a;
        once = once-of-unmarked es ps clear;
        takes = λ {e} {r} {q} {m} {k} {t} i f g. takes-of-fitting i f;
      }

      from : RunFrom es (start_of es obj) r ps → (qs : Pairs) × OrderPairs ps qs × ObjectRun es r 0 qs
      from (run-from {q} {qs} s os run) = let e : q ≡ 0 = zero-of-start es obj r q s in (qs, os, rw e at run)

  -- a rule that has a run has a state to start in
  start-of-run : {r q : ℕ} {qs : Pairs} → ObjectRun es r q qs → T (start_of es obj r 0)
  start-of-run (object_end i) = start-of-end es i
  start-of-run (object_edge i f run) = start-of-edge es i

  -- where some order of its pairs has a run, an object is accepted
  pub object_fits-of-run : {r : ℕ} {qs : Pairs} → OrderPairs ps qs → ObjectRun es r 0 qs → T (object_fits es (kept es ps) r)
  unfolding object_fits has_key asks number_in
  object_fits-of-run {r} {qs} os run =
      T_and (not (kept es ps).marked) (has_end es obj (walk es (kept es ps) 0 (key_count es) (start_of es obj)) r)
      (unmarked-of-known-once es ps (λ k v a. known a) (λ d. keys-once-of-run sound run (key-twice-order os d)))
      (walk_of-run es (kept es ps) sound (key_count es) 0 qs left fit (start_of es obj) r 0 (start-of-run run) run)
    where
      known : {k : List ℕ} {v : Json} → Among k v ps → number_in es k < key_count es
      known a = let (w, b, p) = after-order os a in known-of-run sound run b

      met : (c : ℕ) → SeenBy es c ps → SeenBy es c qs
      met c (seen_by a e) = let (w, b, p) = after-order os a in seen_by b e

      left : Left es (kept es ps) 0 (key_count es) qs
      left = record {
        above = λ {k} {v} a. omega arith;
        below = λ {k} {v} a. let g : number_in es k < key_count es = known-of-run sound run a in omega arith;
        seen = λ {k} {v} a. let (u, b, p) = before-of-order os a in seen-of-among es (at_opening es) b (known b);
        met = λ c g s. met c (among-of-seen es ps c s);
      }

      fit : (e r q m : ℕ) (k : List ℕ) (t : ValueKind) (w : Json) → EdgeFrom 0 es e (edge r obj q k t m) → Among k w qs → Fits es t w
          → T ((kept es ps).fitting e)
      fit e r q m k t w i a f =
          let (v, b, p) = before-of-order os a in
          fitting-of-among es (at_opening es) b (known b) i (eqb_refl (number_of (keys_of es) k)) ((judged-of-among judgements b).judged t (in_order p f))
