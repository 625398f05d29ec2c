-- What the first RS of a slice says of the record to pick. Assumes nothing.
use mathlib.Core.Bool.{Bool, true, false, cond}
use mathlib.Core.List.{List, [], ◌∷◌}
use mathlib.Core.Path.{◌≡◌, refl, sym, ◌∙◌}
use Prim.Native.Nat.{ℕ, zero, suc, ◌-◌, ◌<◌}
use native.Mathlib.Omega.{arith}
use lib.Dec.{eqb}
use lib.ListN.{length, get_or}
use Rattle.book.specs.Text.{split, onto}
use Rattle.scan.specs.Scan.{FirstPart}
use Rattle.stream.specs.Paper.{nonempty}
use Rattle.stream.specs.Records.{Parts, cut_at_rs, nonempties}
use Rattle.pick.specs.Pick.{pick_of}

-- the parts in a list
abbrev all_parts : Parts → List (List ℕ)
all_parts x = x.first ∷ x.behind

parts-split : (s : List ℕ) → all_parts (cut_at_rs s) ≡ split 0x1E s
unfolding cut_at_rs split onto
parts-split [] = refl
parts-split (b ∷ s) = go (eqb b 0x1E) (parts-split s)
  where
    go : (x : Bool) → all_parts (cut_at_rs s) ≡ split 0x1E s
        → all_parts (cond x (record { first = []; behind = all_parts (cut_at_rs s) }) (record { first = b ∷ (cut_at_rs s).first; behind = (cut_at_rs s).behind }))
        ≡ cond x ([] ∷ split 0x1E s) (onto b (split 0x1E s))
    go true e = rw e
    go false e = rw (← e)

pick-split : (s : List ℕ) (n : ℕ) → pick_of s n ≡ get_or (nonempties (split 0x1E s)) n []
unfolding pick_of
pick-split s n = rw (← parts-split s)

-- ---- an RS ends the first part

module _ (s : List ℕ) (left : ℕ) (part rest : List ℕ) (is : FirstPart 0x1E s part rest) where
  at-RS : pick_of s left ≡ get_or (nonempties (part ∷ split 0x1E rest)) left []
  at-RS = pick-split s left ∙ rw is.parts

  full : 0 < length part → nonempty part ≡ true
  full h = go part h
    where
      go : (p : List ℕ) → 0 < length p → nonempty p ≡ true
      go [] h = absurd (omega (arith, h))
      go (b ∷ p) h = refl

  -- nothing in it: no record
  pub pick-behind : length part ≡ 0 → pick_of rest left ≡ pick_of s left
  unfolding nonempties
  pick-behind z = sym (at-RS ∙ go part z ∙ sym (pick-split rest left))
    where
      go : (p : List ℕ) → length p ≡ 0 → get_or (nonempties (p ∷ split 0x1E rest)) left [] ≡ get_or (nonempties (split 0x1E rest)) left []
      go [] z = refl
      go (b ∷ p) z = absurd (omega (arith, z))

  -- it is the record to pick
  pub pick-found : 0 < length part → left ≡ 0 → part ≡ pick_of s left
  unfolding nonempties
  pick-found h z = sym (at-RS ∙ rw (full h, z))

  -- it is a record that is passed
  pub pick-passed : 0 < length part → 0 < left → pick_of rest (left - 1) ≡ pick_of s left
  unfolding nonempties
  pick-passed h l = sym (at-RS ∙ rw (full h) (go left l) ∙ sym (pick-split rest (left - 1)))
    where
      go : (n : ℕ) → 0 < n → get_or (part ∷ nonempties (split 0x1E rest)) n [] ≡ get_or (nonempties (split 0x1E rest)) (n - 1) []
      go zero l = absurd (omega (arith, l))
      go (suc n) l = let d : suc n - 1 ≡ n = omega arith in rw d

-- ---- no RS

module _ (s : List ℕ) (left : ℕ) (is : split 0x1E s ≡ s ∷ []) where
  alone : pick_of s left ≡ get_or (nonempties (s ∷ [])) left []
  alone = pick-split s left ∙ rw is

  pub pick-last : left ≡ 0 → s ≡ pick_of s left
  unfolding nonempties
  pick-last z = sym (alone ∙ rw z (go s))
    where
      go : (s : List ℕ) → get_or (cond (nonempty s) (s ∷ []) []) 0 [] ≡ s
      go [] = refl
      go (b ∷ s) = refl

  pub pick-none : 0 < left → [] ≡ pick_of s left
  unfolding nonempties
  pick-none h = sym (alone ∙ go s left h)
    where
      go : (s : List ℕ) (n : ℕ) → 0 < n → get_or (cond (nonempty s) (s ∷ []) []) n [] ≡ []
      go s zero h = absurd (omega (arith, h))
      go [] (suc n) h = refl
      go (b ∷ s) (suc n) h = refl
