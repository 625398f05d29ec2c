-- The walk over the keys seen: in steps of any size, and by membership. Assumes nothing.
use mathlib.Core.Bool.{Bool, true, false, cond}
use mathlib.Core.List.{List}
use mathlib.Core.Logic.{◌↔◌}
use mathlib.Core.Path.{◌≡◌, refl, sym, ap, subst, ◌∙◌}
use Prim.Native.Nat.{ℕ, zero, suc, ◌+◌, ◌*◌, ◌/◌, ◌<◌}
use native.Mathlib.Nat.{zero-div, zero-add, add-zero, add-suc, add_assoc, le_refl}
use native.Mathlib.Decide.{dec_lt}
use native.Mathlib.Omega.{arith}
use lib.Dec.{T}
use lib.ListN.{length, get_or, replicate}
use Rattle.laws.specs.Bits.{bit_at}
use Rattle.laws.proofs.BitLaws.{bit_at-out, length-set_all, bit_at-set_all-of-test, test-of-set_all-zeros}
use Rattle.laws.proofs.TestLaws.{cond-elim}
use Rattle.frame.specs.Edges.{Edges, edge_count, state_number, walking}
use Rattle.frame.specs.Frame.{seen_in, held_in}
use Rattle.frame.proofs.EdgeLaws.{walking-iff}
use Rattle.frame.specs.Ops.{key_states, walked}
use Rattle.frame.specs.Reached.{Reached, begun, passed, taken}

-- n keys and then m keys are n + m keys
pub walked-add : (t : Edges) (f : List ℕ) (a : ℕ) (s : List ℕ) (n m : ℕ) → walked t f a s (n + m) ≡ walked t f (a + n) (walked t f a s n) m
unfolding walked
walked-add t f a s n zero = ap (walked t f a s) (add-zero n)
walked-add t f a s n (suc m) =
    ap (walked t f a s) (add-suc n m)
    ∙ ap (λ (k : ℕ). cond (seen_in f k) (key_states t f (walked t f a s (n + m)) k) (walked t f a s (n + m))) (sym (add_assoc a n m))
    ∙ ap (λ (x : List ℕ). cond (seen_in f (a + n + m)) (key_states t f x (a + n + m)) x) (walked-add t f a s n m)

-- where no key was seen the states stay
pub walked_none : (t : Edges) (f : List ℕ) (a : ℕ) (s : List ℕ) (n : ℕ) → ((j : ℕ) → j < n → seen_in f (a + j) ≡ false) → walked t f a s n ≡ s
unfolding walked
walked_none t f a s zero h = refl
walked_none t f a s (suc n) h = rw (h n (le_refl (suc n))) (walked_none t f a s n (λ j l. h j (omega arith)))

-- a byte of the keys seen that is 0 has none
pub walked-byte-zero : (t : Edges) (f s : List ℕ) (i : ℕ) → get_or f (16 + i) 0 ≡ 0 → s ≡ walked t f (8 * i) s 8
unfolding seen_in bit_at
walked-byte-zero t f s i e =
    sym (walked_none t f (8 * i) s 8
    (λ j l.
    let q : (128 + (8 * i + j)) / 8 ≡ 16 + i = omega arith in
    rw (q, e, zero-div)))

-- the keys of one more byte
pub walked-next-byte : (t : Edges) (f s cur next : List ℕ) (i : ℕ) → cur ≡ walked t f 0 s (8 * i) → next ≡ walked t f (8 * i) cur 8
    → next ≡ walked t f 0 s (8 * (i + 1))
walked-next-byte t f s cur next i e h =
    let k : 8 * (i + 1) ≡ 8 * i + 8 = omega arith in
    h ∙ ap (λ (x : List ℕ). walked t f (8 * i) x 8) e ∙ ap (λ (a : ℕ). walked t f a (walked t f 0 s (8 * i)) 8) (sym (zero-add (8 * i)))
    ∙ sym (ap (walked t f 0 s) k ∙ walked-add t f 0 s (8 * i) 8)

-- ---- by membership

-- the states after key k: those that a fitting edge of the key leads to from one of the states
pub bit_at-key_states : (t : Edges) (f s : List ℕ) (k j : ℕ) → j < 512 → T (bit_at (key_states t f s k) j)
    ↔ ((e : ℕ) × (e < edge_count t.count) × (get_or t.keys e 0 ≡ k) × T (held_in f e)
    × T (bit_at s (state_number t.rules t.states e)) × (state_number t.rules t.nexts e ≡ j))
unfolding key_states
bit_at-key_states t f s k j l = (
  (λ h.
      let w = test-of-set_all-zeros p g n 64 j h in
      let q = (walking-iff t.rules t.states t.keys f s k w.0).0 w.2 in
      (w.0, w.1, q.0, q.1, q.2, w.3)),
  (λ w.
      let i : g w.0 / 8 < 64 = omega arith in
      rw w.5 at (bit_at-set_all-of-test p g n (replicate 64 0) w.0 w.1
      ((walking-iff t.rules t.states t.keys f s k w.0).1 (w.2, w.3, w.4)) i)),
)
  where
    p : ℕ → Bool
    p = walking t.rules t.states t.keys f s k

    g : ℕ → ℕ
    g = state_number t.rules t.nexts

    n : ℕ
    n = edge_count t.count

-- one key more: a key that was seen is used, one that was not is passed
pub walked-seen : (t : Edges) (f s : List ℕ) (k : ℕ) → seen_in f k ≡ true → walked t f 0 s (suc k) ≡ key_states t f (walked t f 0 s k) k
unfolding walked
walked-seen t f s k e = rw (zero-add k, e)

pub walked-unseen : (t : Edges) (f s : List ℕ) (k : ℕ) → seen_in f k ≡ false → walked t f 0 s (suc k) ≡ walked t f 0 s k
unfolding walked
walked-unseen t f s k e = rw (zero-add k, e)

-- a state that is held in 64 bytes has a number below 512
below-of-bit_at : (s : List ℕ) (j : ℕ) → length s ≡ 64 → T (bit_at s j) → j < 512
below-of-bit_at s j l t = go (dec_lt j 512)
  where
    go : Dec (j < 512) → j < 512
    go (yes h) = h
    go (no h) = absurd (subst T (bit_at-out s j (omega arith)) t)

pub length-walked : (t : Edges) (f : List ℕ) (a : ℕ) (s : List ℕ) (n : ℕ) → length s ≡ 64 → length (walked t f a s n) ≡ 64
unfolding walked key_states
length-walked t f a s zero l = l
length-walked t f a s (suc n) l =
    cond-elim (λ (x : List ℕ). length x ≡ 64) (seen_in f (a + n))
    (λ h. length-set_all (walking t.rules t.states t.keys f (walked t f a s n) (a + n)) (state_number t.rules t.nexts) (edge_count t.count) (replicate 64 0))
    (λ h. length-walked t f a s n l)

-- the states after the seen keys below k are those that are reached
module _ (t : Edges) (f s : List ℕ) (long : length s ≡ 64) where
  pub reached-of-walked : (k j : ℕ) → T (bit_at (walked t f 0 s k) j) → Reached t f s k j
  unfolding walked
  reached-of-walked zero j h = begun h
  reached-of-walked (suc k) j h =
      step (seen_in f k) refl (reached-of-walked k j)
      (λ w. reached-of-walked k (state_number t.rules t.states w))
    where
      step : (b : Bool) → seen_in f k ≡ b → (T (bit_at (walked t f 0 s k) j) → Reached t f s k j)
          → ((e : ℕ) → T (bit_at (walked t f 0 s k) (state_number t.rules t.states e)) → Reached t f s k (state_number t.rules t.states e))
          → Reached t f s (suc k) j
      step true e same from =
          let l = below-of-bit_at (walked t f 0 s (suc k)) j (length-walked t f 0 s (suc k) long) h in
          let w = (bit_at-key_states t f (walked t f 0 s k) k j l).0 (subst (λ (x : List ℕ). T (bit_at x j)) (walked-seen t f s k e) h) in
          taken w.0 e w.1 w.2 w.3 (from w.0 w.4) w.5 l
      step false e same from = passed e (same (subst (λ (x : List ℕ). T (bit_at x j)) (walked-unseen t f s k e) h))

  pub walked-of-reached : {k j : ℕ} → Reached t f s k j → T (bit_at (walked t f 0 s k) j)
  unfolding walked
  walked-of-reached (begun h) = h
  walked-of-reached {k = suc k} {j = j} (passed e r) = subst (λ (x : List ℕ). T (bit_at x j)) (sym (walked-unseen t f s k e)) (walked-of-reached r)
  walked-of-reached {k = suc k} {j = j} (taken e q l h b r i m) =
      subst (λ (x : List ℕ). T (bit_at x j)) (sym (walked-seen t f s k q))
      ((bit_at-key_states t f (walked t f 0 s k) k j m).1 (e, l, h, b, walked-of-reached r, i))

  pub bit_at-walked : (k j : ℕ) → T (bit_at (walked t f 0 s k) j) ↔ Reached t f s k j
  bit_at-walked k j = (reached-of-walked k j, walked-of-reached)
