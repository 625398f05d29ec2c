-- A finished value shows the kinds that it fits: a closed frame those that `runs` finds of the open value, a scalar its own. Assumes nothing.
use mathlib.Core.Bool.{Bool, true, false, not, ◌&&◌}
use mathlib.Core.List.{List}
use mathlib.Core.Logic.{◌↔◌}
use mathlib.Core.Path.{◌≡◌, refl, sym, ap, subst₂, ◌∙◌}
use Prim.Native.Nat.{ℕ, zero, suc, ◌+◌, ◌-◌, ◌<◌, ◌≤◌}
use native.Mathlib.Nat.{zero-add}
use native.Mathlib.Omega.{arith}
use lib.Dec.{T, not_T, lit<}
use lib.ListN.{get_or, drop}
use borrow.Author.Tests.{not-true}
use Rattle.laws.specs.Bits.{bit_at}
use Rattle.laws.proofs.TestLaws.{true-of-T, T_and, T-and-left, T-and-right}
use Rattle.table.specs.Kind.{code_of, rule_fits}
use Rattle.table.specs.Table.{Table}
use Rattle.table.specs.declared.kind.Scalar.{Scalar}
use Rattle.table.specs.declared.kind.ValueKind.TheVariants.{Plain, Rule}
use Rattle.table.specs.declared.kind.Finished.TheVariants as Done
use Rattle.book.specs.Entry.{obj, arr, Entry, keys_of}
use Rattle.book.specs.Holds.{form_code}
use Rattle.runs.specs.Walk.{of_scalar, of_rules, has_key, States, OpenObject, start_of, has_end, key_count, use_key, walk, object_fits}
use Rattle.runs.proofs.EdgeLaws.{EdgeFrom}
use Rattle.runs.proofs.StepLaws.{walk-last, use_key-unseen, walk_more}
use Rattle.frame.specs.Frame.{held_in}
use Rattle.frame.specs.Ops.{start_states, key_states, walked}
use Rattle.frame.proofs.OpenLaws.{bit_at-start_states}
use Rattle.frame.proofs.PartLaws.{held_in-of-drop}
use Rattle.frame.proofs.WalkLaws.{bit_at-key_states, walked-seen, walked-unseen}
use Rattle.frame.proofs.CloseLaws.{rule_fits-closed-marked, rule_fits-closed-object, rule_fits-closed-array}
use Rattle.meaning.specs.Shows.{Carries, lent_edges, closed_by, ShowsValue, state_bit, ShowsStates, ShowsArray, ShowsObject}
use Rattle.meaning.proofs.EdgeLaws.{key_count-le, below-of-edge, has_key-iff}
use Rattle.meaning.proofs.StateLaws.{shows-start, shows-moved, accepting-has_end}

-- ---- scalars

-- a scalar fits plain kinds only
pub shows-scalar : (s : Scalar) → ShowsValue (Done.Scalar s) (of_scalar s)
unfolding of_scalar
shows-scalar s (Plain k) l = refl
shows-scalar s (Rule n) l = refl

-- ---- sets of rules

-- a set of rules that are those of a test below 32
shows-rules : (rules : ℕ) (fits : ℕ → Bool) → ((r : ℕ) → r < 32 → rule_fits rules r ≡ fits r) → ShowsValue (Done.Rules rules) (of_rules fits)
unfolding of_rules code_of
shows-rules rules fits h (Plain k) l = refl
shows-rules rules fits h (Rule r) l = h r (omega arith)

-- a value at the root is judged by rule 0
pub rule_fits-root : (rules : ℕ) (fits : ℕ → Bool) → ShowsValue (Done.Rules rules) (of_rules fits) → rule_fits rules 0 ≡ fits 0
unfolding of_rules code_of
rule_fits-root rules fits h = h (Rule 0) (lit< tt)

module _ {t : Table} {es : List Entry} (kept : Carries t es) where
  -- ---- arrays

  -- a closed array fits the `arr` rules that have an end state among its states
  pub shows-array : {f : List ℕ} {S : States} → ShowsArray f S → ShowsValue (Done.Rules (closed_by t f)) (of_rules (has_end es arr S))
  unfolding form_code
  shows-array {f} {S} h =
      shows-rules (closed_by t f) (has_end es arr S)
      (λ r l.
      rule_fits-closed-array (lent_edges t) t.forms t.ends f h.array r
      ∙ accepting-has_end kept arr (drop 32 f) S (λ n q a b. sym (held_in-of-drop f (state_bit n q)) ∙ h.states n q a b) r l)

  -- ---- objects

  module _ {f : List ℕ} {o : OpenObject} (h : ShowsObject es f o) where
    -- the states after the keys below n, in the frame and in the open object
    bits : ℕ → List ℕ
    bits n = walked (lent_edges t) f 0 (start_states t.forms 1) n

    after : ℕ → States
    after n = walk es o 0 n (start_of es obj)

    -- the states after key c, which was seen
    shows-key_states : (s : List ℕ) (S : States) (c : ℕ) → c < 128 → o.seen c ≡ true → ShowsStates (bit_at s) S
        → ShowsStates (bit_at (key_states (lent_edges t) f s c)) (use_key es o c S)
    unfolding use_key
    shows-key_states s S c l e shows =
        rw e
        (shows-moved kept (bit_at s) (bit_at (key_states (lent_edges t) f s c)) S HasKey Held (λ (e : ℕ) (x : Entry). o.fitting e && has_key (keys_of es) c x) shows same
        (bit_at-key_states (lent_edges t) f s c))
      where
        HasKey : ℕ → Type 0
        HasKey e = get_or t.edge_key e 0 ≡ c

        Held : ℕ → Type 0
        Held e = T (held_in f e)

        same : (e : ℕ) (x : Entry) → EdgeFrom 0 es e x → (HasKey e × Held e) ↔ T (o.fitting e && has_key (keys_of es) c x)
        same e x i =
            let d : held_in f e ≡ o.fitting e = h.held e (omega (arith, below-of-edge kept i, kept.edges_le)) in (
              (λ p. T_and (o.fitting e) (has_key (keys_of es) c x) (rw d at p.1) ((has_key-iff kept i c l).0 p.0)),
              (λ b. ((has_key-iff kept i c l).1 (T-and-right (o.fitting e) (has_key (keys_of es) c x) b), rw d (T-and-left (o.fitting e) (has_key (keys_of es) c x) b))),
            )

    -- the states after the keys below n are the same in the frame and in the open object
    shows-walk : (n : ℕ) → n ≤ 128 → ShowsStates (bit_at (bits n)) (after n)
    unfolding bits after walked walk form_code
    shows-walk zero l = shows-start kept obj (bit_at (start_states t.forms 1)) (bit_at-start_states t.forms 1)
    shows-walk (suc n) l = go (o.seen n) refl (shows-walk n (omega arith))
      where
        next : after (suc n) ≡ use_key es o n (after n)
        next = walk-last es o 0 n (start_of es obj) ∙ ap (λ (c : ℕ). use_key es o c (after n)) (zero-add n)

        go : (b : Bool) → o.seen n ≡ b → ShowsStates (bit_at (bits n)) (after n) → ShowsStates (bit_at (bits (suc n))) (after (suc n))
        go true e ih =
            let s : bits (suc n) ≡ key_states (lent_edges t) f (bits n) n = walked-seen (lent_edges t) f (start_states t.forms 1) n (h.seen n l ∙ e) in
            subst₂ (λ (x : List ℕ) (S : States). ShowsStates (bit_at x) S) (sym s) (sym next) (shows-key_states (bits n) (after n) n l e ih)
        go false e ih =
            let s : bits (suc n) ≡ bits n = walked-unseen (lent_edges t) f (start_states t.forms 1) n (h.seen n l ∙ e) in
            subst₂ (λ (x : List ℕ) (S : States). ShowsStates (bit_at x) S) (sym s) (sym (next ∙ use_key-unseen es o n (after n) e)) ih

    -- 128 keys are walked as the keys of the book are
    after-128 : after 128 ≡ after (key_count es)
    unfolding after
    after-128 =
        let e : 128 ≡ key_count es + (128 - key_count es) = omega (arith, key_count-le kept) in
        ap after e ∙ walk_more es o 0 (key_count es) (128 - key_count es) (start_of es obj) unseen
      where
        unseen : (c : ℕ) → 0 + key_count es ≤ c → o.seen c ≡ false
        unseen c l = not-true (o.seen c) (true-of-T (not (o.seen c)) (not_T (o.seen c) (λ s. omega (arith, h.in_keys.seen_lt c s))))

    -- the rules that a closed object fits
    rule_fits-object : (r : ℕ) → r < 32 → rule_fits (closed_by t f) r ≡ object_fits es o r
    unfolding object_fits bits after form_code
    rule_fits-object r l = go o.marked refl
      where
        go : (b : Bool) → o.marked ≡ b → rule_fits (closed_by t f) r ≡ (not b && has_end es obj (after (key_count es)) r)
        go true e = rule_fits-closed-marked (lent_edges t) t.forms t.ends f h.object (h.mark ∙ e) r
        go false e =
            rule_fits-closed-object (lent_edges t) t.forms t.ends f h.object (h.mark ∙ e) r
            ∙ accepting-has_end kept obj (bits 128) (after 128) (shows-walk 128 (omega arith)) r l
            ∙ ap (λ (S : States). has_end es obj S r) after-128

    -- a closed object fits the `obj` rules that have an end state after the walk over its keys, and none with the mark
    pub shows-object : ShowsValue (Done.Rules (closed_by t f)) (of_rules (object_fits es o))
    shows-object = shows-rules (closed_by t f) (object_fits es o) rule_fits-object
