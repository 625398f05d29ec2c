-- What a finished key leaves in each part of a frame. Assumes nothing.
use mathlib.Core.Bool.{Bool, true, false, cond, ◌||◌}
use mathlib.Core.List.{List}
use mathlib.Core.Path.{◌≡◌, refl, ap, subst, ◌∙◌}
use Prim.Native.Nat.{ℕ, ◌+◌, ◌/◌, ◌<◌, ◌≤◌}
use native.Mathlib.Decide.{dec_lt}
use native.Mathlib.Omega.{arith}
use lib.Dec.{eqb, ltb}
use lib.ListN.{length, get_or, set, length-set}
use lib.Seq.{get_or-set_same, get_or-set_other}
use borrow.Author.Tests.{lt-ltb, le-ltb, ne_eqb, eqb-true}
use Rattle.laws.specs.Bits.{bit_at, set_bit}
use Rattle.laws.proofs.BitLaws.{bit_at-set_bit, bit_at-set-other, bit_at-of-byte, get_d-set_bit-other, length-set_bit, eqb-iff}
use Rattle.frame.specs.Frame.{is_object, current_key, marked, seen_in, held_in}
use Rattle.frame.specs.Ops.{keyed}

-- ---- by case

-- an unknown key
pub keyed-unknown : (f : List ℕ) (k : ℕ) → 128 ≤ k → set (set f 1 255) 2 1 ≡ keyed k f
unfolding keyed
keyed-unknown f k h = rw (le-ltb k 128 h)

-- a key that was seen already
pub keyed-again : (f : List ℕ) (k : ℕ) → k < 128 → bit_at f (128 + k) ≡ true → set (set f 1 k) 2 1 ≡ keyed k f
unfolding keyed seen_in
keyed-again f k h e = rw (lt-ltb k 128 h, e)

-- a key that was not seen
pub keyed-new : (f : List ℕ) (k : ℕ) → k < 128 → bit_at f (128 + k) ≡ false → set_bit (set f 1 k) (128 + k) ≡ keyed k f
unfolding keyed seen_in
keyed-new f k h e = rw (lt-ltb k 128 h, e)

-- a claim about the frame after a key is one about each case
keyed-elim : (P : List ℕ → Type 0) (f : List ℕ) (k : ℕ) → (k < 128 → bit_at f (128 + k) ≡ true → P (set (set f 1 k) 2 1))
    → (k < 128 → bit_at f (128 + k) ≡ false → P (set_bit (set f 1 k) (128 + k))) → (128 ≤ k → P (set (set f 1 255) 2 1)) → P (keyed k f)
keyed-elim P f k again new unknown = go (dec_lt k 128) (bit_at f (128 + k)) refl
  where
    go : Dec (k < 128) → (b : Bool) → bit_at f (128 + k) ≡ b → P (keyed k f)
    go (yes h) true e = subst P (keyed-again f k h e) (again h e)
    go (yes h) false e = subst P (keyed-new f k h e) (new h e)
    go (no h) b e = let l : 128 ≤ k = omega arith in subst P (keyed-unknown f k l) (unknown l)

module _ (f : List ℕ) (k : ℕ) where
  pub length-keyed : length (keyed k f) ≡ length f
  length-keyed =
      keyed-elim (λ g. length g ≡ length f) f k (λ h e. length-set (set f 1 k) 2 1 ∙ length-set f 1 k)
      (λ h e. length-set_bit (set f 1 k) (128 + k) ∙ length-set f 1 k) (λ h. length-set (set f 1 255) 2 1 ∙ length-set f 1 255)

  -- ---- the kind stays

  pub is_object-keyed : is_object (keyed k f) ≡ is_object f
  unfolding is_object
  is_object-keyed =
      ap (λ (n : ℕ). eqb n 1)
      (keyed-elim (λ g. get_or g 0 0 ≡ get_or f 0 0) f k (λ h e. stays k)
      (λ h e. get_d-set_bit-other (set f 1 k) (128 + k) 0 (λ q. omega arith) ∙ get_or-set_other f 1 0 k 0 (λ q. omega arith)) (λ h. stays 255))
    where
      stays : (v : ℕ) → get_or (set (set f 1 v) 2 1) 0 0 ≡ get_or f 0 0
      stays v = get_or-set_other (set f 1 v) 2 0 1 0 (λ q. omega arith) ∙ get_or-set_other f 1 0 v 0 (λ q. omega arith)

  -- ---- the edges stay

  pub held_in-keyed : (i : ℕ) → held_in (keyed k f) i ≡ held_in f i
  unfolding held_in
  held_in-keyed i =
      keyed-elim (λ g. bit_at g (256 + i) ≡ bit_at f (256 + i)) f k (λ h e. stays k)
      (λ h e.
      bit_at-of-byte (set_bit (set f 1 k) (128 + k)) (set f 1 k) (256 + i) (get_d-set_bit-other (set f 1 k) (128 + k) ((256 + i) / 8) (λ q. omega arith))
      ∙ bit_at-set-other f 1 k (256 + i) (λ q. omega arith))
      (λ h. stays 255)
    where
      stays : (v : ℕ) → bit_at (set (set f 1 v) 2 1) (256 + i) ≡ bit_at f (256 + i)
      stays v = bit_at-set-other (set f 1 v) 2 1 (256 + i) (λ q. omega arith) ∙ bit_at-set-other f 1 v (256 + i) (λ q. omega arith)

  module _ (long : length f ≡ 96) where
    -- ---- the current key is the one finished, or 255

    pub current_key-keyed : current_key (keyed k f) ≡ cond (ltb k 128) k 255
    unfolding current_key
    current_key-keyed =
        keyed-elim (λ g. cond (ltb (get_or g 1 0) 128) (get_or g 1 0) 255 ≡ cond (ltb k 128) k 255) f k
        (λ h e. rw (get_or-set_other (set f 1 k) 2 1 1 0 (λ q. omega arith), get_or-set_same f 1 k 0 (omega arith)))
        (λ h e. rw (get_d-set_bit-other (set f 1 k) (128 + k) 1 (λ q. omega arith), get_or-set_same f 1 k 0 (omega arith)))
        (λ h. rw (get_or-set_other (set f 1 255) 2 1 1 0 (λ q. omega arith), get_or-set_same f 1 255 0 (omega arith), le-ltb k 128 h))

    -- ---- the mark is set by an unknown key and by one that was seen

    pub marked-keyed-known : k < 128 → marked (keyed k f) ≡ (seen_in f k || marked f)
    unfolding marked seen_in
    marked-keyed-known l =
        keyed-elim (λ g. ltb 0 (get_or g 2 0) ≡ (bit_at f (128 + k) || ltb 0 (get_or f 2 0))) f k
        (λ h e. rw (e, get_or-set_same (set f 1 k) 2 1 0 (rw (length-set f 1 k) (omega arith))))
        (λ h e. rw (e, get_d-set_bit-other (set f 1 k) (128 + k) 2 (λ q. omega arith), get_or-set_other f 1 2 k 0 (λ q. omega arith)))
        (λ h. absurd (omega arith))

    pub marked-keyed-unknown : 128 ≤ k → marked (keyed k f) ≡ true
    unfolding marked
    marked-keyed-unknown l =
        keyed-elim (λ g. ltb 0 (get_or g 2 0) ≡ true) f k (λ h e. absurd (omega arith)) (λ h e. absurd (omega arith))
        (λ h. rw (get_or-set_same (set f 1 255) 2 1 0 (rw (length-set f 1 255) (omega arith))))

    -- ---- a key was seen if it is the one finished or was before

    pub seen_in-keyed : (j : ℕ) → j < 128 → seen_in (keyed k f) j ≡ (eqb k j || seen_in f j)
    unfolding seen_in
    seen_in-keyed j l =
        keyed-elim (λ g. bit_at g (128 + j) ≡ (eqb k j || bit_at f (128 + j))) f k
        (λ h e. stays k ∙ again (eqb k j) refl e)
        (λ h e.
        bit_at-set_bit (set f 1 k) (128 + k) (128 + j) (rw (length-set f 1 k) (omega arith))
        ∙ ap (λ (b : Bool). b || bit_at (set f 1 k) (128 + j)) (eqb-iff (128 + k) (128 + j) k j (λ q. omega arith) (λ q. omega arith))
        ∙ ap (λ (b : Bool). eqb k j || b) (bit_at-set-other f 1 k (128 + j) (λ q. omega arith)))
        (λ h. rw (ne_eqb k j (λ q. omega arith)) (stays 255))
      where
        stays : (v : ℕ) → bit_at (set (set f 1 v) 2 1) (128 + j) ≡ bit_at f (128 + j)
        stays v = bit_at-set-other (set f 1 v) 2 1 (128 + j) (λ q. omega arith) ∙ bit_at-set-other f 1 v (128 + j) (λ q. omega arith)

        again : (b : Bool) → eqb k j ≡ b → bit_at f (128 + k) ≡ true → bit_at f (128 + j) ≡ (b || bit_at f (128 + j))
        again true q e = subst (λ (m : ℕ). bit_at f (128 + m) ≡ true) (eqb-true k j q) e
        again false q e = refl
