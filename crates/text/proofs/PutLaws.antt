-- Bytes put into a buffer one after the other. Assumes nothing.
use mathlib.Core.Bool.{Bool, true, false}
use mathlib.Core.List.{List, [], ◌∷◌, ◌++◌, append_assoc}
use mathlib.Core.Path.{◌≡◌, refl, sym, ap, ◌∙◌}
use Prim.Native.Nat.{ℕ, suc, ◌+◌, ◌-◌, ◌≤◌}
use native.Mathlib.Omega.{arith}
use lib.ListN.{length, take, drop, set, length-append}
use lib.Seq.{sets, length-sets, drop-drop}
use Rattle.std.proofs.lemmas.List.Edits.{sets-eq}
use borrow.Rule.Slice.PartMut.{put_mid}
use borrow.Author.Tests.{le-leb, leb-true}
use Rattle.text.specs.Put.{Put, has_room, Written, write}

sets-append : (o : List ℕ) (at : ℕ) (xs ys : List ℕ) → sets o at (xs ++ ys) ≡ sets (sets o at xs) (at + length xs) ys
sets-append o at [] ys = let e : at + 0 ≡ at = omega arith in rw e
sets-append o at (x ∷ xs) ys =
    let e : at + suc (length xs) ≡ suc at + length xs = omega arith in
    sets-append (set o at x) (suc at) xs ys ∙ rw e

-- ---- what is still to put: rest from the place on, so that all of bs stands from at on

pub record Rest (o : List ℕ) (at : ℕ) (bs : List ℕ) (now : List ℕ) (place : ℕ) (rest : List ℕ) : Type 0 where
  pub bytes : sets now place rest ≡ sets o at bs
  pub places : place + length rest ≡ at + length bs

module _ (o : List ℕ) (at : ℕ) (bs : List ℕ) where
  pub rest-start : Rest o at bs o at bs
  rest-start = record { bytes = refl; places = refl }

  module _ (now : List ℕ) (place : ℕ) where
    pub rest_put : (xs ys after : List ℕ) (behind : ℕ) → Rest o at bs now place (xs ++ ys) → Put now place xs after behind
        → Rest o at bs after behind ys
    rest_put xs ys after behind x p =
        record {
          bytes = rw (p.bytes, p.place) (sym (sets-append now place xs ys) ∙ x.bytes);
          places = omega (arith, p.place, x.places, length-append xs ys);
        }

    pub rest-done : Rest o at bs now place [] → Put o at bs now place
    rest-done x = record { bytes = x.bytes; place = omega (arith, x.places) }

-- bytes copied into the part of the buffer that they fill
pub put-copied : (o bs now : List ℕ) (at : ℕ) → at + length bs ≤ length o → now ≡ bs → Put o at bs (put_mid at (at + length bs - at) o now) (at + length bs)
put-copied o bs now at h e =
    let k : at + length bs - at ≡ length bs = omega arith in
    record {
      bytes = rw (e, k, drop-drop (length bs) at o) (sym (append_assoc (take at o) bs (drop (at + length bs) o)) ∙ sym (sets-eq bs o at h));
      place = refl;
    }

pub length-of-put : (o : List ℕ) (at : ℕ) (bs now : List ℕ) (behind : ℕ) → Put o at bs now behind → length now ≡ length o
length-of-put o at bs now behind p = rw p.bytes (length-sets o at bs)

-- ---- room

module _ (n at : ℕ) where
  pub le-of-room : (has : Bool) → has ≡ has_room n at → has ≡ true → at + 64 ≤ n
  unfolding has_room
  le-of-room has e h = leb-true (at + 64) n (sym e ∙ h)

module _ (o : List ℕ) (at : ℕ) (bs : List ℕ) (has : Bool) (e : has ≡ has_room (length o) at) where
  -- bytes copied where there is room for a line
  pub write-copied : (now : List ℕ) (behind : ℕ) → has ≡ true → length bs ≤ 64 → behind ≡ at + length bs → now ≡ bs
      → record { out = put_mid at (behind - at) o now; at = behind } ≡ write o at bs
  unfolding write
  write-copied now behind h short place copied =
      let room : at + 64 ≤ length o = le-of-room (length o) at has e h in
      rw (sym e, h, place) (rw (put-copied o bs now at (omega (arith, room, short)) copied).bytes)

  pub write-none : has ≡ false → record { out = o; at = at } ≡ write o at bs
  unfolding write
  write-none h = rw (sym e, h)

-- what is written where there is room is put there
pub put-of-write : (o : List ℕ) (at : ℕ) (bs now : List ℕ) (behind : ℕ) → at + 64 ≤ length o → record { out = now; at = behind } ≡ write o at bs
    → Put o at bs now behind
unfolding write has_room
put-of-write o at bs now behind h e =
    let full : Written = record { out = sets o at bs; at = at + length bs } in
    let d : record { out = now; at = behind } ≡ full = rw (le-leb (at + 64) (length o) h) at e in
    record { bytes = ap (λ (x : Written). x.out) d; place = ap (λ (x : Written). x.at) d }
