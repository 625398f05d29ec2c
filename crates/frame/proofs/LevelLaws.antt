-- Laws of `frame_at` and `put_frame`: what a level reads and what it leaves. Assumes nothing.
use mathlib.Core.Bool.{Bool, true, false, cond, ◌&&◌, and-false}
use mathlib.Core.List.{List, [], ◌++◌, append_assoc, append-nil}
use mathlib.Core.Logic.{◌⊎◌, inr, ⊎_elim}
use mathlib.Core.Path.{◌≡◌, refl, sym, ap, ◌∙◌}
use Prim.Native.Nat.{ℕ, zero, suc, ◌*◌, ◌+◌, ◌-◌, ◌<◌, ◌≤◌}
use native.Mathlib.Decide.{dec_lt}
use native.Mathlib.Omega.{arith}
use lib.Dec.{ltb, leb, ltb→lt, leb→le}
use lib.ListN.{length, get_or, take, drop, length-append, length-drop, take-append-drop, drop_of_length-le, get_or-append}
use lib.Seq.{take_all, take_at, drop_at, drop-drop, length-take-le, take-append-le, drop-append-le, drop-append-add, get_or-take, get_or-drop}
use borrow.Author.Tests.{lt-ltb, le-leb, le-ltb, lt-leb}
use Rattle.laws.proofs.TestLaws.{true-of-T, T-of-true, T-and-left, T-and-right, cond-elim}
use Rattle.frame.specs.Frame.{frame_count, frame_start, has_frame, frame_at, put_frame}

-- ---- where a level's frame is

-- a level that has a frame is one of those counted
pub le-of-has_frame : (n l : ℕ) → has_frame n l ≡ true → (1 ≤ l) × (l ≤ frame_count n)
unfolding has_frame
le-of-has_frame n l e =
    let t = T-of-true (ltb 0 l && leb l (frame_count n)) e in
    (ltb→lt 0 l (T-and-left (ltb 0 l) (leb l (frame_count n)) t), leb→le l (frame_count n) (T-and-right (ltb 0 l) (leb l (frame_count n)) t))

-- the frame of a level that has one lies in the buffer
pub fits-of-has_frame : (n l : ℕ) → has_frame n l ≡ true → (1 ≤ l) × (frame_start l + 96 ≤ n)
fits-of-has_frame n l e = let g = le-of-has_frame n l e in (omega arith, omega arith)

-- a buffer with room for n frames has those of the levels up to n
pub has_frame-of-le : (n size l : ℕ) → n ≤ 64 → 96 * n ≤ size → 1 ≤ l → l ≤ n → has_frame size l ≡ true
unfolding has_frame
has_frame-of-le n size l few long lo hi = rw (lt-ltb 0 l lo, le-leb l (frame_count size) (omega arith))

-- a level below 1, or above those counted, has none
pub no_frame-below : (n l : ℕ) → l ≤ 0 → has_frame n l ≡ false
unfolding has_frame
no_frame-below n l h = rw (le-ltb 0 l h)

pub no_frame-above : (n l : ℕ) → frame_count n < l → has_frame n l ≡ false
unfolding has_frame
no_frame-above n l h = rw (lt-leb l (frame_count n) h, and-false)

pub has_frame-counted : (n l : ℕ) → 0 < l → l ≤ frame_count n → has_frame n l ≡ true
unfolding has_frame
has_frame-counted n l lo hi = rw (lt-ltb 0 l lo, le-leb l (frame_count n) hi)

-- ---- a level without a frame

pub frame_at-none : (w : List ℕ) (l : ℕ) → has_frame (length w) l ≡ false → frame_at w l ≡ []
unfolding frame_at
frame_at-none w l e = rw e

pub put_frame-none : (w f : List ℕ) (l : ℕ) → has_frame (length w) l ≡ false → w ≡ put_frame w l f
unfolding put_frame
put_frame-none w f l e = rw e

-- ---- a frame that was lent as the first 96 bytes of a part

-- what is lent from the place of a level on begins with its frame
pub frame_at-of-part : (w : List ℕ) (l a n : ℕ) → has_frame (length w) l ≡ true → a ≡ frame_start l → length w ≤ a + n
    → take 96 (take n (drop a w)) ≡ frame_at w l
unfolding frame_at
frame_at-of-part w l a n e p h =
    let d : length (drop a w) ≤ n = simp length-drop (omega arith) in
    rw (e, take_all n (drop a w) d, p)

-- and comes back with the frame that was put there
pub put_frame-of-part : (w f v : List ℕ) (l a n : ℕ) → has_frame (length w) l ≡ true → a ≡ frame_start l → length w ≤ a + n
    → v ≡ f ++ drop 96 (take n (drop a w)) → take a w ++ (v ++ drop n (drop a w)) ≡ put_frame w l f
unfolding put_frame
put_frame-of-part w f v l a n e p h q =
    let d : length (drop a w) ≤ n = simp length-drop (omega arith) in
    rw (q, take_all n (drop a w) d, drop_of_length-le (drop a w) d, append-nil, e, p)

-- ---- the bytes of a frame

-- a frame has 96 bytes
pub length-frame_at : (w : List ℕ) (l : ℕ) → has_frame (length w) l ≡ true → length (frame_at w l) ≡ 96
unfolding frame_at
length-frame_at w l e =
    let h = fits-of-has_frame (length w) l e in
    rw e (length-take-le 96 (drop (frame_start l) w) (simp length-drop (omega arith)))

-- ---- a frame that was put

-- a part of the front of p ++ x
part-front : (p x : List ℕ) (b m : ℕ) → b + m ≤ length p → take m (drop b (p ++ x)) ≡ take m (drop b p)
part-front p x b m h =
    ap (take m) (drop-append-le b p x (omega arith)) ∙ take-append-le m (drop b p) x (rw length-drop (omega arith))

-- the buffer with the bytes f from a on
abbrev put : ℕ → List ℕ → List ℕ → List ℕ
put a w f = take a w ++ (f ++ drop 96 (drop a w))

-- 96 bytes put at a place leave what lies before and after them
module _ (a : ℕ) (w f : List ℕ) (fits : a + 96 ≤ length w) (long : length f ≡ 96) where
  put-length : length (put a w f) ≡ length w
  put-length = simp (length-append, length-drop, length-take-le a w (omega arith)) (omega arith)

  put_same : take 96 (drop a (put a w f)) ≡ f
  put_same = rw (drop_at (take a w) (f ++ drop 96 (drop a w)) a (length-take-le a w (omega arith))) (take_at f (drop 96 (drop a w)) 96 long)

  put-before : (b m : ℕ) → b + m ≤ a → take m (drop b (put a w f)) ≡ take m (drop b w)
  put-before b m h =
      let l : length (take a w) ≡ a = length-take-le a w (omega arith) in
      part-front (take a w) (f ++ drop 96 (drop a w)) b m (omega arith)
      ∙ sym (part-front (take a w) (drop a w) b m (omega arith))
      ∙ ap (λ (x : List ℕ). take m (drop b x)) (take-append-drop a w)

  put-behind : (b : ℕ) → a + 96 ≤ b → drop b (put a w f) ≡ drop b w
  put-behind b h =
      let l : length (take a w) ≡ a = length-take-le a w (omega arith) in
      let n : ℕ = b - (a + 96) in
      let p : List ℕ = take a w ++ f in
      let lp : length p + n ≡ b = rw length-append (omega arith) in
      let e : a + (96 + n) ≡ b = omega arith in
      ap (drop b) (sym (append_assoc (take a w) f (drop 96 (drop a w))))
      ∙ ap (λ (i : ℕ). drop i (p ++ drop 96 (drop a w))) (sym lp)
      ∙ drop-append-add p (drop 96 (drop a w)) n
      ∙ drop-drop n 96 (drop a w)
      ∙ drop-drop (96 + n) a w
      ∙ ap (λ (i : ℕ). drop i w) e

-- a claim about the buffer after a put: of the buffer itself where there is no frame, else of the buffer with the frame
put_frame-elim : (P : List ℕ → Type 0) (w f : List ℕ) (l : ℕ) → P w
    → (has_frame (length w) l ≡ true → P (put (frame_start l) w f)) → P (put_frame w l f)
unfolding put_frame
put_frame-elim P w f l none some =
    cond-elim P (has_frame (length w) l) (λ t. some (true-of-T (has_frame (length w) l) t)) (λ t. none)

part-put_frame : (w f : List ℕ) (l : ℕ) → length f ≡ 96 → has_frame (length w) l ≡ true → take 96 (drop (frame_start l) (put_frame w l f)) ≡ f
unfolding put_frame
part-put_frame w f l long e = rw e (put_same (frame_start l) w f (fits-of-has_frame (length w) l e).1 long)

module _ (w f : List ℕ) (l : ℕ) (long : length f ≡ 96) where
  -- the buffer keeps its length
  pub length-put_frame : length (put_frame w l f) ≡ length w
  length-put_frame =
      put_frame-elim (λ x. length x ≡ length w) w f l refl (λ e. put-length (frame_start l) w f (fits-of-has_frame (length w) l e).1 long)

  -- the level holds the frame that was put
  pub frame_at-put_frame : has_frame (length w) l ≡ true → frame_at (put_frame w l f) l ≡ f
  unfolding frame_at
  frame_at-put_frame e = rw (length-put_frame, e) (part-put_frame w f l long e)

  -- every other level holds what it held
  pub frame_at-put_frame-other : (m : ℕ) → (m ≡ l → ⊥) → frame_at (put_frame w l f) m ≡ frame_at w m
  unfolding frame_at
  frame_at-put_frame-other m ne = rw length-put_frame (go (has_frame (length w) m) refl)
    where
      part : has_frame (length w) m ≡ true → has_frame (length w) l ≡ true → Dec (m < l)
          → take 96 (drop (frame_start m) (put (frame_start l) w f)) ≡ take 96 (drop (frame_start m) w)
      part h e (yes b) =
          let a = fits-of-has_frame (length w) m h in
          put-before (frame_start l) w f (fits-of-has_frame (length w) l e).1 long (frame_start m) 96 (omega arith)
      part h e (no b) =
          let a = fits-of-has_frame (length w) l e in
          ap (take 96) (put-behind (frame_start l) w f a.1 long (frame_start m) (omega arith))

      go : (b : Bool) → has_frame (length w) m ≡ b → cond b (take 96 (drop (frame_start m) (put_frame w l f))) [] ≡ cond b (take 96 (drop (frame_start m) w)) []
      go true h = put_frame-elim (λ x. take 96 (drop (frame_start m) x) ≡ take 96 (drop (frame_start m) w)) w f l refl (λ e. part h e (dec_lt m l))
      go false h = refl

  -- a frame put at a level leaves each byte outside the level's frame
  pub get_d-put_frame-other : (i : ℕ) → (i < frame_start l) ⊎ (frame_start l + 96 ≤ i) → get_or (put_frame w l f) i 0 ≡ get_or w i 0
  get_d-put_frame-other i h =
      put_frame-elim (λ x. get_or x i 0 ≡ get_or w i 0) w f l refl
      (λ e.
      let a = (fits-of-has_frame (length w) l e).1 in
      ⊎_elim
      (λ b.
      let k : length (take (frame_start l) w) ≡ frame_start l = length-take-le (frame_start l) w (omega arith) in
      get_or-append (take (frame_start l) w) (f ++ drop 96 (drop (frame_start l) w)) 0 i (omega arith) ∙ get_or-take (frame_start l) w i 0 b)
      (λ b.
      let q : i + 0 ≡ i = omega arith in
      ap (λ (n : ℕ). get_or (put (frame_start l) w f) n 0) (sym q)
      ∙ sym (get_or-drop i (put (frame_start l) w f) 0 0)
      ∙ ap (λ (x : List ℕ). get_or x 0 0) (put-behind (frame_start l) w f a long i b)
      ∙ get_or-drop i w 0 0
      ∙ ap (λ (n : ℕ). get_or w n 0) q)
      h)

  -- a frame put at a level leaves each byte past the frames
  pub get_d-put_frame-past : (i : ℕ) → 96 * frame_count (length w) ≤ i → get_or (put_frame w l f) i 0 ≡ get_or w i 0
  get_d-put_frame-past i h = go (has_frame (length w) l) refl
    where
      go : (b : Bool) → has_frame (length w) l ≡ b → get_or (put_frame w l f) i 0 ≡ get_or w i 0
      go true e = let g = le-of-has_frame (length w) l e in get_d-put_frame-other i (inr (omega arith))
      go false e = ap (λ (x : List ℕ). get_or x i 0) (sym (put_frame-none w f l e))

-- the frame of a closed value stays while the level below is written
pub frame_at-put_frame-below : (w f : List ℕ) (l : ℕ) → length f ≡ 96 → frame_at (put_frame w (l - 1) f) l ≡ frame_at w l
unfolding has_frame
frame_at-put_frame-below w f zero long = ap (λ (x : List ℕ). frame_at x 0) (sym (put_frame-none w f 0 refl))
frame_at-put_frame-below w f (suc l) long = frame_at-put_frame-other w f (suc l - 1) long (suc l) (λ e. omega arith)
