-- What a finished value leaves in each part of a frame. Assumes nothing.
use mathlib.Core.Bool.{Bool, true, false, cond}
use mathlib.Core.List.{List, ◌++◌, append-nil}
use mathlib.Core.Logic.{◌⊎◌, inl, inr, ⊎_elim, ◌↔◌}
use mathlib.Core.Path.{◌≡◌, refl, subst, ◌∙◌}
use Prim.Native.Nat.{ℕ, ◌+◌, ◌/◌, ◌<◌, ◌≤◌}
use native.Mathlib.Decide.{dec_lt}
use native.Mathlib.Omega.{arith}
use lib.Dec.{T, ltb, lit<}
use lib.ListN.{length, get_or, take, drop, replicate, length-append, length-drop, drop_of_length-le, get_or-append}
use lib.Seq.{get_or-take, length-take-le}
use borrow.Author.Tests.{lt-ltb, le-ltb}
use Rattle.laws.specs.Bits.{bit_at, set_all}
use Rattle.laws.proofs.BitLaws.{bit_at-of-byte, length-set_all, get_d-set_all-other, bit_at-set_all-of-bit_at, bit_at-set_all-of-test, test-or-bit_at-of-set_all, test-of-set_all-zeros}
use Rattle.laws.proofs.TestLaws.{cond-elim}
use Rattle.table.specs.declared.kind.Finished.{Finished}
use Rattle.frame.specs.Frame.{is_object, current_key, marked, seen_in, held_in}
use Rattle.frame.specs.Edges.{Edges, edge_count, has_form, state_number, fits_code, fitting, stepping}
use Rattle.frame.specs.Ops.{with_edges, with_states, valued}
use Rattle.frame.proofs.EdgeLaws.{fitting-iff, stepping-iff}
use Rattle.frame.proofs.PartLaws.{held_in-of-append}

-- ---- the states of a frame, replaced

-- the frame with other bytes from 32 on
abbrev pub put : List ℕ → List ℕ → List ℕ
put f s = take 32 f ++ (s ++ drop 64 (drop 32 f))

pub put-states : (f s : List ℕ) → length f ≡ 96 → put f s ≡ take 32 f ++ s
put-states f s l =
    let d : length (drop 32 f) ≤ 64 = simp length-drop (omega arith) in
    rw (drop_of_length-le (drop 32 f) d, append-nil)

-- ---- by case

module _ (t : Edges) (kinds forms : List ℕ) (v : Finished) (f : List ℕ) where
  -- a finished value in an object with a known current key; any test of codes that agrees with the value's will do
  pub valued-known : (fits : ℕ → Bool) (g : List ℕ) → ((c : ℕ) → fits c ≡ fits_code v c) → is_object f ≡ true → get_or f 1 0 < 128
      → g ≡ set_all (fitting fits t.keys kinds (get_or f 1 0)) (λ e. 256 + e) (edge_count t.count) f → g ≡ valued t kinds forms v f
  unfolding valued with_edges current_key
  valued-known fits g same o k h =
      let e : fits ≡ fits_code v = λ i c. same c i in
      rw (o, lt-ltb (get_or f 1 0) 128 k, lt-ltb (get_or f 1 0) 128 k, ← e) h

  -- a finished value in an object with an unknown current key changes nothing
  pub valued-unknown : is_object f ≡ true → 128 ≤ get_or f 1 0 → f ≡ valued t kinds forms v f
  unfolding valued with_edges current_key
  valued-unknown o k = rw (o, le-ltb (get_or f 1 0) 128 k)

  -- a finished value in an array
  pub valued-array : (fits : ℕ → Bool) (g next : List ℕ) → ((c : ℕ) → fits c ≡ fits_code v c) → is_object f ≡ false
      → next ≡ set_all (stepping fits t.rules t.states kinds forms f) (state_number t.rules t.nexts) (edge_count t.count) (replicate 64 0)
      → g ≡ take 32 f ++ next → g ≡ valued t kinds forms v f
  unfolding valued with_states
  valued-array fits g next same o h q =
      let e : fits ≡ fits_code v = λ i c. same c i in
      rw (o, ← e, ← h) q

-- ---- the parts of the frame

module _ (t : Edges) (kinds forms : List ℕ) (v : Finished) (f : List ℕ) (long : length f ≡ 96) where
  pub length-valued : length (valued t kinds forms v f) ≡ 96
  unfolding valued with_edges with_states
  length-valued =
      cond-elim (λ (g : List ℕ). length g ≡ 96) (is_object f)
      (λ o.
      cond-elim (λ (g : List ℕ). length g ≡ 96) (ltb (current_key f) 128)
      (λ k. length-set_all (fitting (fits_code v) t.keys kinds (current_key f)) (λ e. 256 + e) (edge_count t.count) f ∙ long) (λ k. long))
      (λ o.
      length-append (take 32 f) next
      ∙ cc (length-take-le 32 f (omega arith), length-set_all (stepping (fits_code v) t.rules t.states kinds forms f) (state_number t.rules t.nexts) (edge_count t.count) (replicate 64 0)))
    where
      next : List ℕ
      next = set_all (stepping (fits_code v) t.rules t.states kinds forms f) (state_number t.rules t.nexts) (edge_count t.count) (replicate 64 0)

  -- bytes 0 to 31 stay: the kind, the current key, the mark and the keys seen
  pub get_d-valued : (b : ℕ) → b < 32 → get_or (valued t kinds forms v f) b 0 ≡ get_or f b 0
  unfolding valued with_edges with_states
  get_d-valued b h =
      cond-elim (λ (g : List ℕ). get_or g b 0 ≡ get_or f b 0) (is_object f)
      (λ o.
      cond-elim (λ (g : List ℕ). get_or g b 0 ≡ get_or f b 0) (ltb (current_key f) 128)
      (λ k. get_d-set_all-other (fitting (fits_code v) t.keys kinds (current_key f)) (λ e. 256 + e) (edge_count t.count) f b (λ e q. omega arith))
      (λ k. refl))
      (λ o.
      let l : length (take 32 f) ≡ 32 = length-take-le 32 f (omega arith) in
      get_or-append (take 32 f) (set_all (stepping (fits_code v) t.rules t.states kinds forms f) (state_number t.rules t.nexts) (edge_count t.count) (replicate 64 0)) 0 b (omega arith)
      ∙ get_or-take 32 f b 0 h)

  pub is_object-valued : is_object (valued t kinds forms v f) ≡ is_object f
  unfolding is_object
  is_object-valued = rw (get_d-valued 0 (lit< tt))

  pub current_key-valued : current_key (valued t kinds forms v f) ≡ current_key f
  unfolding current_key
  current_key-valued = rw (get_d-valued 1 (lit< tt))

  pub marked-valued : marked (valued t kinds forms v f) ≡ marked f
  unfolding marked
  marked-valued = rw (get_d-valued 2 (lit< tt))

  pub seen_in-valued : (k : ℕ) → k < 128 → seen_in (valued t kinds forms v f) k ≡ seen_in f k
  unfolding seen_in
  seen_in-valued k h = bit_at-of-byte (valued t kinds forms v f) f (128 + k) (get_d-valued ((128 + k) / 8) (omega arith))

  -- in an object edge j is held where it was, or is a fitting edge of the current key
  pub held_in-valued-object : is_object f ≡ true → (j : ℕ) → T (held_in (valued t kinds forms v f) j)
      ↔ (((current_key f < 128) × (j < edge_count t.count) × (get_or t.keys j 0 ≡ current_key f) × T (fits_code v (get_or kinds j 0))) ⊎ T (held_in f j))
  unfolding valued with_edges held_in
  held_in-valued-object o j = rw o (known (dec_lt (current_key f) 128))
    where
      edges : List ℕ
      edges = set_all (fitting (fits_code v) t.keys kinds (current_key f)) (λ e. 256 + e) (edge_count t.count) f

      known : Dec (current_key f < 128) → T (bit_at (cond (ltb (current_key f) 128) edges f) (256 + j))
          ↔ (((current_key f < 128) × (j < edge_count t.count) × (get_or t.keys j 0 ≡ current_key f) × T (fits_code v (get_or kinds j 0))) ⊎ T (bit_at f (256 + j)))
      known (yes k) =
          rw (lt-ltb (current_key f) 128 k) (
            (λ h.
                ⊎_elim
                (λ w.
                let e : w.0 ≡ j = omega arith in
                let p = (fitting-iff (fits_code v) t.keys kinds (current_key f) j).0 (subst (λ (i : ℕ). T (fitting (fits_code v) t.keys kinds (current_key f) i)) e w.2) in
                inl (k, omega arith, p.0, p.1))
                (λ b. inr b)
                (test-or-bit_at-of-set_all (fitting (fits_code v) t.keys kinds (current_key f)) (λ e. 256 + e) (edge_count t.count) f (256 + j) h)),
            ⊎_elim
                (λ w.
                bit_at-set_all-of-test (fitting (fits_code v) t.keys kinds (current_key f)) (λ e. 256 + e) (edge_count t.count) f j w.1
                ((fitting-iff (fits_code v) t.keys kinds (current_key f) j).1 (w.2, w.3)) (omega arith))
                (λ b. bit_at-set_all-of-bit_at (fitting (fits_code v) t.keys kinds (current_key f)) (λ e. 256 + e) (edge_count t.count) f (256 + j) b),
          )
      known (no k) = rw (le-ltb (current_key f) 128 (omega arith)) ((λ h. inr h), ⊎_elim (λ w. absurd (omega arith)) (λ b. b))

  -- in an array state j is held where a fitting edge of an `arr` rule leads to it from a state that was
  pub held_in-valued-array : is_object f ≡ false → (j : ℕ) → j < 512 → T (held_in (valued t kinds forms v f) j)
      ↔ ((e : ℕ) × (e < edge_count t.count) × T (fits_code v (get_or kinds e 0)) × T (has_form forms 2 (get_or t.rules e 0))
      × T (held_in f (state_number t.rules t.states e)) × (state_number t.rules t.nexts e ≡ j))
  unfolding valued with_states
  held_in-valued-array o j l =
      rw (o, held_in-of-append f (set_all p g n (replicate 64 0)) j (omega arith)) (
        (λ h.
            let w = test-of-set_all-zeros p g n 64 j h in
            let q = (stepping-iff (fits_code v) t.rules t.states kinds forms f w.0).0 w.2 in
            (w.0, w.1, q.0, q.1, q.2, w.3)),
        (λ w.
            let i : g w.0 / 8 < 64 = omega arith in
            rw w.5 at (bit_at-set_all-of-test p g n (replicate 64 0) w.0 w.1
            ((stepping-iff (fits_code v) t.rules t.states kinds forms f w.0).1 (w.2, w.3, w.4)) i)),
      )
    where
      p : ℕ → Bool
      p = stepping (fits_code v) t.rules t.states kinds forms f

      g : ℕ → ℕ
      g = state_number t.rules t.nexts

      n : ℕ
      n = edge_count t.count
