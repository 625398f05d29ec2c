-- Laws of a boundary: where a point lies does not change with the corner that is first, or the way round. Assumes nothing.
use mathlib.Core.Bool.{Bool, true, false, cond, ◌||◌}
use mathlib.Core.List.{List, [], ◌∷◌, ◌++◌, reverse, reverse-cons}
use mathlib.Core.Path.{◌≡◌, refl, sym, ap, ◌∙◌}
use Rattle.laws.specs.Lists.{any}
use Rattle.geometry.specs.declared.Point.{Point}
use Rattle.geometry.specs.Plane.{Side, side, sides_after, last_of, sides}
use Rattle.geometry.specs.Tests.{on_segment, crosses, on_side, crosses_side, odd_crossings, place, located}
use Rattle.geometry.proofs.SegmentLaws.{on_segment-swap, crosses-swap}

-- ---- sides in another order, or from the other end

-- the same sides up to their order and which of their ends is first
pub data Rearranged : List Side → List Side → Type 0 where
  none : Rearranged [] []
  keep : (s : Side) {ss ts : List Side} → Rearranged ss ts → Rearranged (s ∷ ss) (s ∷ ts)
  turn : (a b : Point) {ss ts : List Side} → Rearranged ss ts → Rearranged (side a b ∷ ss) (side b a ∷ ts)
  swap : (s t : Side) (ss : List Side) → Rearranged (s ∷ t ∷ ss) (t ∷ s ∷ ss)
  join : {ss ts us : List Side} → Rearranged ss ts → Rearranged ts us → Rearranged ss us

-- any sides are their own rearrangement
pub rearranged-refl : (ss : List Side) → Rearranged ss ss
rearranged-refl [] = none
rearranged-refl (s ∷ ss) = keep s (rearranged-refl ss)

-- a rearrangement may be undone
pub rearranged-sym : {ss ts : List Side} → Rearranged ss ts → Rearranged ts ss
rearranged-sym none = none
rearranged-sym (keep s r) = keep s (rearranged-sym r)
rearranged-sym (turn a b r) = turn b a (rearranged-sym r)
rearranged-sym (swap s t ss) = swap t s ss
rearranged-sym (join q r) = join (rearranged-sym r) (rearranged-sym q)

-- the first side may go to the end
pub rearranged-last : (s : Side) (ss : List Side) → Rearranged (s ∷ ss) (ss ++ (s ∷ []))
rearranged-last s [] = keep s none
rearranged-last s (t ∷ ss) = join (swap s t ss) (keep t (rearranged-last s ss))

or_swap : (a b c : Bool) → (a || (b || c)) ≡ (b || (a || c))
or_swap true true c = refl
or_swap true false c = refl
or_swap false b c = refl

-- a point is on one of them either way
pub any-rearranged : (p : Point) {ss ts : List Side} → Rearranged ss ts → any (on_side p) ss ≡ any (on_side p) ts
unfolding any on_side
any-rearranged p none = refl
any-rearranged p (keep s r) = ap (λ b. on_side p s || b) (any-rearranged p r)
any-rearranged p (turn a b {ts} r) = ap (λ t. on_segment a b p || t) (any-rearranged p r) ∙ ap (λ t. t || any (on_side p) ts) (on_segment-swap a b p)
any-rearranged p (swap s t ss) = or_swap (on_side p s) (on_side p t) (any (on_side p) ss)
any-rearranged p (join q r) = any-rearranged p q ∙ any-rearranged p r

-- whether the number is odd, with one test more
unfoldable pub odd_of : Bool → Bool → Bool
odd_of b o = cond b (cond o false true) o

odd_of-swap : (a b o : Bool) → odd_of a (odd_of b o) ≡ odd_of b (odd_of a o)
unfolding odd_of
odd_of-swap true true o = refl
odd_of-swap true false o = refl
odd_of-swap false true o = refl
odd_of-swap false false o = refl

-- as many of them cross either way
pub odd_crossings-rearranged : (p : Point) {ss ts : List Side} → Rearranged ss ts → odd_crossings p ss ≡ odd_crossings p ts
unfolding odd_crossings crosses_side odd_of
odd_crossings-rearranged p none = refl
odd_crossings-rearranged p (keep s r) = ap (λ o. odd_of (crosses_side p s) o) (odd_crossings-rearranged p r)
odd_crossings-rearranged p (turn a b {ts} r) = ap (λ o. odd_of (crosses a b p) o) (odd_crossings-rearranged p r) ∙ ap (λ t. odd_of t (odd_crossings p ts)) (crosses-swap a b p)
odd_crossings-rearranged p (swap s t ss) = odd_of-swap (crosses_side p s) (crosses_side p t) (odd_crossings p ss)
odd_crossings-rearranged p (join q r) = odd_crossings-rearranged p q ∙ odd_crossings-rearranged p r

-- boundaries with the same sides have the same points on the edge, inside and outside
pub kind-of-rearranged : (cs ds : List Point) (p : Point) → Rearranged (sides cs) (sides ds) → (located cs p).place ≡ (located ds p).place
unfolding place located
kind-of-rearranged cs ds p r = rw (any-rearranged p r, odd_crossings-rearranged p r)

-- ---- another corner first

-- a corner more at the end is one side more
sides_after-last : (a : Point) (cs : List Point) (c : Point) → sides_after a (cs ++ (c ∷ [])) ≡ sides_after a cs ++ (side (last_of a cs) c ∷ [])
sides_after-last a [] c = refl
sides_after-last a (b ∷ cs) c = ap (λ ss. side a b ∷ ss) (sides_after-last b cs c)

last_of-last : (a : Point) (cs : List Point) (c : Point) → last_of a (cs ++ (c ∷ [])) ≡ c
last_of-last a [] c = refl
last_of-last a (b ∷ cs) c = last_of-last b cs c

-- the sides of a boundary, from its first corner round to it again
sides-round : (c : Point) (cs : List Point) → Rearranged (sides (c ∷ cs)) (sides_after c (cs ++ (c ∷ [])))
sides-round c cs = rw (sides_after-last c cs c) (rearranged-last (side (last_of c cs) c) (sides_after c cs))

-- the sides are the same where the first corner goes to the end
pub sides-rotate : (c : Point) (cs : List Point) → Rearranged (sides (c ∷ cs)) (sides (cs ++ (c ∷ [])))
sides-rotate c [] = rearranged-refl (sides (c ∷ []))
sides-rotate c (b ∷ cs) = rw (last_of-last b cs c) (sides-round c (b ∷ cs))

-- where a point lies does not change with the corner that is first
pub kind-rotate : (c : Point) (cs : List Point) (p : Point) → (located (cs ++ (c ∷ [])) p).place ≡ (located (c ∷ cs) p).place
kind-rotate c cs p = sym (kind-of-rearranged (c ∷ cs) (cs ++ (c ∷ [])) p (sides-rotate c cs))

-- ---- the other way round

-- the way from a through the corners to b has the sides of the way back
sides_after-reverse : (a : Point) (cs : List Point) (b : Point) → Rearranged (sides_after a (cs ++ (b ∷ []))) (sides_after b (reverse cs ++ (a ∷ [])))
sides_after-reverse a [] b = turn a b none
sides_after-reverse a (c ∷ cs) b =
    rw
    (reverse-cons c cs, sides_after-last b (reverse cs ++ (c ∷ [])) a, last_of-last b (reverse cs) c)
    (join (turn a c (sides_after-reverse c cs b)) (rearranged-last (side c a) (sides_after b (reverse cs ++ (c ∷ [])))))

-- the sides are the same the other way round
pub sides-reverse : (cs : List Point) → Rearranged (sides cs) (sides (reverse cs))
sides-reverse [] = none
sides-reverse (c ∷ cs) =
    rw
    (reverse-cons c cs)
    (join (join (sides-round c cs) (sides_after-reverse c cs c)) (join (rearranged-sym (sides-round c (reverse cs))) (sides-rotate c (reverse cs))))

-- where a point lies does not change with the way round
pub kind-reverse : (cs : List Point) (p : Point) → (located (reverse cs) p).place ≡ (located cs p).place
kind-reverse cs p = sym (kind-of-rearranged cs (reverse cs) p (sides-reverse cs))
