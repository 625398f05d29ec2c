-- Laws of the steps by themselves, for a reader that keeps an open object in a frame: the numbers are bounded by the number of keys, and a walk
-- over more keys than were seen is the same walk. Assumes nothing.
use mathlib.Core.Bool.{Bool, false, ◌&&◌, ◌||◌}
use mathlib.Core.List.{List}
use mathlib.Core.Path.{◌≡◌, sym, ap, ◌∙◌}
use Prim.Native.Nat.{ℕ, zero, suc, ◌+◌, ◌<◌, ◌≤◌}
use native.Mathlib.Nat.{add-zero, add-suc, suc-add}
use native.Mathlib.Omega.{arith}
use lib.Dec.{T, eqb, ltb, ltb→lt}
use Rattle.laws.proofs.TestLaws.{T-and-right, T-or-elim}
use Rattle.table.specs.declared.kind.ValueKind.{ValueKind}
use Rattle.table.proofs.KeyLaws.{number_of-le}
use Rattle.book.specs.Entry.{Entry, keys_of}
use Rattle.runs.specs.Walk.{States, OpenObject, InKeys, key_count, number_in, at_opening, after_key, after_value, use_key, walk}

module _ (es : List Entry) where
  -- ---- numbers

  -- a key is one of the keys, or has the number after them
  pub number_in-le : (k : List ℕ) → number_in es k ≤ key_count es
  unfolding number_in key_count
  number_in-le k = number_of-le (keys_of es) k

  pub in_keys-at_opening : InKeys es (at_opening es)
  unfolding at_opening
  in_keys-at_opening = record { current_le = omega arith; seen_lt = λ c h. absurd h }

  pub in_keys-after_key : {o : OpenObject} (k : List ℕ) → InKeys es o → InKeys es (after_key es o k)
  unfolding after_key
  in_keys-after_key {o} k h = record { current_le = number_in-le k; seen_lt = below }
    where
      below : (c : ℕ) → T (o.seen c || (eqb c (number_in es k) && ltb c (key_count es))) → c < key_count es
      below c g =
          T-or-elim (o.seen c) (eqb c (number_in es k) && ltb c (key_count es)) (λ (d : T (o.seen c)). h.seen_lt c d)
          (λ (d : T (eqb c (number_in es k) && ltb c (key_count es))). ltb→lt c (key_count es) (T-and-right (eqb c (number_in es k)) (ltb c (key_count es)) d)) g

  pub in_keys-after_value : {o : OpenObject} (w : ValueKind → Bool) → InKeys es o → InKeys es (after_value es o w)
  unfolding after_value
  in_keys-after_value w h = record { current_le = h.current_le; seen_lt = h.seen_lt }

  -- ---- the walk

  -- a walk ends with its last key
  pub walk-last : (o : OpenObject) (i n : ℕ) (S : States) → walk es o i (suc n) S ≡ use_key es o (i + n) (walk es o i n S)
  unfolding walk
  walk-last o i zero S = ap (λ (c : ℕ). use_key es o c S) (sym (add-zero i))
  walk-last o i (suc n) S = walk-last o (suc i) n (use_key es o i S) ∙ ap (λ (c : ℕ). use_key es o c (walk es o (suc i) n (use_key es o i S))) (suc-add i n ∙ sym (add-suc i n))

  -- a key that was not seen changes nothing
  pub use_key-unseen : (o : OpenObject) (c : ℕ) (S : States) → o.seen c ≡ false → use_key es o c S ≡ S
  unfolding use_key
  use_key-unseen o c S e = rw e

  -- a walk changes nothing after the last key that was seen
  pub walk_more : (o : OpenObject) (i n m : ℕ) (S : States) → ((c : ℕ) → i + n ≤ c → o.seen c ≡ false) → walk es o i (n + m) S ≡ walk es o i n S
  walk_more o i n zero S h = ap (λ (c : ℕ). walk es o i c S) (add-zero n)
  walk_more o i n (suc m) S h =
      ap (λ (c : ℕ). walk es o i c S) (add-suc n m) ∙ (walk-last o i (n + m) S ∙ (use_key-unseen o (i + (n + m)) (walk es o i (n + m) S) (h (i + (n + m)) (omega arith)) ∙ walk_more o i n m S h))
