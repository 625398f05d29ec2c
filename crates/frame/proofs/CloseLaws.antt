-- What closing gives, by case and by membership. Assumes nothing.
use mathlib.Core.Bool.{Bool, true, false, cond}
use mathlib.Core.List.{List, []}
use mathlib.Core.Path.{◌≡◌, refl, sym}
use Prim.Native.Nat.{ℕ, ◌<◌, ◌≤◌}
use native.Mathlib.Nat.{zero-div}
use lib.Dec.{ltb}
use lib.ListN.{get_or, drop}
use borrow.Author.Tests.{lt-ltb, le-ltb}
use Rattle.table.specs.Kind.{rule_fits}
use Rattle.frame.specs.Frame.{is_object, marked}
use Rattle.frame.specs.Edges.{Edges}
use Rattle.frame.specs.Ops.{start_states, walked, accepting, rule_set, closed}
use Rattle.frame.proofs.EdgeLaws.{below-of-has_form}
use Rattle.frame.proofs.RuleLaws.{rule_set-none, accepting-nil, rule_fits-rule_set, accepting-iff}

-- the set of the accepting rules has exactly these
rule_fits-accepting : (forms ends : List ℕ) (form : ℕ) (s : List ℕ) (r : ℕ)
    → rule_fits (rule_set (accepting forms ends form s) 32) r ≡ accepting forms ends form s r
rule_fits-accepting forms ends form s r =
    rule_fits-rule_set (accepting forms ends form s) (λ q t. below-of-has_form forms form q ((accepting-iff forms ends form s q).0 t).0) r

-- the empty set has no rule
zero-fits : (r : ℕ) → rule_fits 0 r ≡ false
unfolding rule_fits
zero-fits r = rw zero-div (same (ltb r 32))
  where
    same : (b : Bool) → cond b false false ≡ false
    same true = refl
    same false = refl

module _ (t : Edges) (forms ends : List ℕ) where
  -- no rule fits a level without a frame
  pub closed-nil : 0 ≡ closed t forms ends []
  unfolding closed is_object
  closed-nil = sym (rule_set-none (accepting forms ends 2 []) 32 (accepting-nil forms ends 2))

  module _ (f : List ℕ) where
    -- no rule fits an object that met an unknown or repeated key
    pub closed-marked : is_object f ≡ true → 0 < get_or f 2 0 → 0 ≡ closed t forms ends f
    unfolding closed marked
    closed-marked o m = rw (o, lt-ltb 0 (get_or f 2 0) m)

    -- the rules that an object without the mark fits are those that accept after the walk
    pub closed-object : (s : List ℕ) (n : ℕ) → is_object f ≡ true → get_or f 2 0 ≤ 0 → s ≡ walked t f 0 (start_states forms 1) 128
        → n ≡ rule_set (accepting forms ends 1 s) 32 → n ≡ closed t forms ends f
    unfolding closed marked
    closed-object s n o m h q = rw (o, le-ltb 0 (get_or f 2 0) m, ← h) q

    -- the rules that an array fits are those that accept by its states, the bytes from 32 on
    pub closed-array : (s : List ℕ) (n : ℕ) → is_object f ≡ false → s ≡ drop 32 f → n ≡ rule_set (accepting forms ends 2 s) 32 → n ≡ closed t forms ends f
    unfolding closed
    closed-array s n o e q = rw (o, ← e) q

    -- ---- the rules that fit, by membership

    -- no rule fits an object with the mark
    pub rule_fits-closed-marked : is_object f ≡ true → marked f ≡ true → (r : ℕ) → rule_fits (closed t forms ends f) r ≡ false
    unfolding closed rule_fits
    rule_fits-closed-marked o m r = rw (o, m) (zero-fits r)

    -- a rule fits an object without the mark where the rule is of form `obj` and has an end state after the walk
    pub rule_fits-closed-object : is_object f ≡ true → marked f ≡ false → (r : ℕ)
        → rule_fits (closed t forms ends f) r ≡ accepting forms ends 1 (walked t f 0 (start_states forms 1) 128) r
    unfolding closed
    rule_fits-closed-object o m r = rw (o, m) (rule_fits-accepting forms ends 1 (walked t f 0 (start_states forms 1) 128) r)

    -- a rule fits an array where the rule is of form `arr` and has an end state among the states
    pub rule_fits-closed-array : is_object f ≡ false → (r : ℕ) → rule_fits (closed t forms ends f) r ≡ accepting forms ends 2 (drop 32 f) r
    unfolding closed
    rule_fits-closed-array o r = rw o (rule_fits-accepting forms ends 2 (drop 32 f) r)
