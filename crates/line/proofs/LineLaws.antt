-- What a line says, by the tests on the way: each law takes their results and gives the answer there. Assumes nothing.
use mathlib.Core.Bool.{Bool, true, false, not, cond}
use mathlib.Core.List.{List, [], ◌∷◌}
use mathlib.Core.Path.{◌≡◌, refl, sym, ap, ◌∙◌}
use Prim.Native.Nat.{ℕ}
use lib.Dec.{eqb, ltb}
use borrow.Author.Tests.{not-true, not-false}
use Rattle.std.proofs.Common.{Option, Some, None, option_map}
use Rattle.std.specs.Option.{ok_or}
use Rattle.laws.specs.Lists.{same}
use Rattle.table.specs.declared.kind.ValueKind.{ValueKind}
use Rattle.book.specs.Text.{split, onto, number}
use Rattle.book.specs.Entry.{Form, Entry, edge, end_state}
use Rattle.book.specs.Line.{form_of, key_of, kind_in, small_kind, formed, small, entry_of, bad, good, say_fields, say_parts, say_line, word_end}
use Rattle.scan.specs.Scan.{below, kind_below, FirstPart}
use Rattle.line.specs.declared.Line.{Line}
use Rattle.line.specs.declared.Fault.TheVariants.{AboveLimit}
use Rattle.line.specs.Line.{entry_in, said}

-- ---- fewer than six parts, more, or six

-- there is at least one part
pub split-some : (c : ℕ) (s : List ℕ) → (p : List ℕ) × (ps : List (List ℕ)) × (split c s ≡ p ∷ ps)
unfolding split onto
split-some c [] = ([], [], refl)
split-some c (x ∷ s) = go (eqb x c) (split-some c s)
  where
    go : (b : Bool) → ((p : List ℕ) × (ps : List (List ℕ)) × (split c s ≡ p ∷ ps)) → (p : List ℕ) × (ps : List (List ℕ)) × (cond b ([] ∷ split c s) (onto x (split c s)) ≡ p ∷ ps)
    go true ih = ([], split c s, refl)
    go false ih = (x ∷ ih.0, ih.1, ap (onto x) ih.2)

pub one-part : (l : List ℕ) → split 32 l ≡ l ∷ [] → say_line l ≡ bad 3
unfolding say_line say_parts
one-part l h = rw h

module _ (l p1 r1 : List ℕ) (e1 : FirstPart 32 l p1 r1) where
  pub two-parts : split 32 r1 ≡ r1 ∷ [] → say_line l ≡ bad 3
  unfolding say_line say_parts
  two-parts h = rw (e1.parts, h)

  module _ (p2 r2 : List ℕ) (e2 : FirstPart 32 r1 p2 r2) where
    pub three-parts : split 32 r2 ≡ r2 ∷ [] → say_line l ≡ bad 3
    unfolding say_line say_parts
    three-parts h = rw (e1.parts, e2.parts, h)

    module _ (p3 r3 : List ℕ) (e3 : FirstPart 32 r2 p3 r3) where
      pub four-parts : split 32 r3 ≡ r3 ∷ [] → say_line l ≡ bad 3
      unfolding say_line say_parts
      four-parts h = rw (e1.parts, e2.parts, e3.parts, h)

      module _ (p4 r4 : List ℕ) (e4 : FirstPart 32 r3 p4 r4) where
        pub five-parts : split 32 r4 ≡ r4 ∷ [] → say_line l ≡ bad 3
        unfolding say_line say_parts
        five-parts h = rw (e1.parts, e2.parts, e3.parts, e4.parts, h)

        module _ (p5 r5 : List ℕ) (e5 : FirstPart 32 r4 p5 r5) where
          pub six-parts : split 32 r5 ≡ r5 ∷ [] → say_line l ≡ say_fields p1 p2 p3 p4 p5 r5
          unfolding say_line say_parts
          six-parts h = rw (e1.parts, e2.parts, e3.parts, e4.parts, e5.parts, h)

          pub more_parts : (p6 r6 : List ℕ) → FirstPart 32 r5 p6 r6 → say_line l ≡ bad 3
          unfolding say_line say_parts
          more_parts p6 r6 e6 = let z = split-some 32 r6 in rw (e1.parts, e2.parts, e3.parts, e4.parts, e5.parts, e6.parts, z.2)

-- ---- numbers against their limits
below-none : (m v : ℕ) (o : Option ℕ) → o ≡ below m v → o ≡ None → ltb v m ≡ false
unfolding below
below-none m v o q e = go (ltb v m) (sym q ∙ e)
  where
    go : (b : Bool) → cond b (Some v) None ≡ None → b ≡ false
    go true z = absurd (cc)
    go false z = refl

below-some : (m v n : ℕ) (o : Option ℕ) → o ≡ below m v → o ≡ Some n → (ltb v m ≡ true) × (v ≡ n)
unfolding below
below-some m v n o q e = go (ltb v m) (sym q ∙ e)
  where
    go : (b : Bool) → cond b (Some v) None ≡ Some n → (b ≡ true) × (v ≡ n)
    go true z = (refl, cc)
    go false z = absurd (cc)

kind-none : (v : ValueKind) (o : Option ValueKind) → o ≡ kind_below v → o ≡ None → small_kind v ≡ false
unfolding kind_below
kind-none v o q e = go (small_kind v) (sym q ∙ e)
  where
    go : (b : Bool) → cond b (Some v) None ≡ None → b ≡ false
    go true z = absurd (cc)
    go false z = refl

kind-some : (v w : ValueKind) (o : Option ValueKind) → o ≡ kind_below v → o ≡ Some w → (small_kind v ≡ true) × (v ≡ w)
unfolding kind_below
kind-some v w o q e = go (small_kind v) (sym q ∙ e)
  where
    go : (b : Bool) → cond b (Some v) None ≡ Some w → (b ≡ true) × (v ≡ w)
    go true z = (refl, cc)
    go false z = absurd (cc)

-- ---- what six well-formed fields say: rule x, form f, state s, key k, value v, next m
module _ (x f s k v m : List ℕ) where
  abbrev entry : Option Entry
  entry = cond (small x s v m) (Some (entry_of x f s k v m)) None

  module _ (i : Option ℕ) (qi : i ≡ below 32 (number x)) where
    pub rule-over : i ≡ None → None ≡ entry
    unfolding small
    rule-over e = rw (below-none 32 (number x) i qi e)

    module _ (r : ℕ) (ei : i ≡ Some r) (j : Option ℕ) (qj : j ≡ below 16 (number s)) where
      pub state-over : j ≡ None → None ≡ entry
      unfolding small
      state-over e = rw ((below-some 32 (number x) r i qi ei).0, below-none 16 (number s) j qj e)

      module _ (q : ℕ) (ej : j ≡ Some q) (g : Form) (qg : g ≡ form_of f) (e : Bool) (qe : e ≡ same v word_end) where
        pub says-end : e ≡ true → Some (end_state r g q) ≡ entry
        unfolding small entry_of
        says-end h =
            let a = below-some 32 (number x) r i qi ei in
            let b = below-some 16 (number s) q j qj ej in
            rw (a.0, b.0, sym qe ∙ h, a.1, b.1, qg)

        module _ (he : e ≡ false) (w : Option ValueKind) (qw : w ≡ kind_below (kind_in v)) where
          pub kind-over : w ≡ None → None ≡ entry
          unfolding small
          kind-over h = rw ((below-some 32 (number x) r i qi ei).0, (below-some 16 (number s) q j qj ej).0, sym qe ∙ he, kind-none (kind_in v) w qw h)

          module _ (y : ValueKind) (ew : w ≡ Some y) (n : Option ℕ) (qn : n ≡ below 16 (number m)) where
            pub next-over : n ≡ None → None ≡ entry
            unfolding small
            next-over h =
                rw (
                  (below-some 32 (number x) r i qi ei).0,
                  (below-some 16 (number s) q j qj ej).0,
                  sym qe ∙ he,
                  (kind-some (kind_in v) y w qw ew).0,
                  below-none 16 (number m) n qn h,
                )

            pub says-edge : (z : ℕ) (u : List ℕ) → n ≡ Some z → u ≡ key_of k → Some (edge r g q u y z) ≡ entry
            unfolding small entry_of
            says-edge z u h p =
                let a = below-some 32 (number x) r i qi ei in
                let b = below-some 16 (number s) q j qj ej in
                let c = kind-some (kind_in v) y w qw ew in
                let d = below-some 16 (number m) z n qn h in
                rw (a.0, b.0, sym qe ∙ he, c.0, d.0, a.1, b.1, c.1, d.1, p, qg)

  -- ---- a well-formed line within its limits, and others
  module _ (b : Bool) (qb : b ≡ formed x f s k v m) where
    pub says-malformed : not b ≡ true → bad 3 ≡ say_fields x f s k v m
    unfolding say_fields
    says-malformed e = rw (sym qb ∙ not-true b e)

    module _ (nb : not b ≡ false) (o : Option Entry) (qo : o ≡ entry) where
      says-over : o ≡ None → bad 4 ≡ say_fields x f s k v m
      unfolding say_fields
      says-over e = rw (sym qb ∙ not-false b nb) (go (small x s v m) (sym qo ∙ e))
        where
          go : (c : Bool) → cond c (Some (entry_of x f s k v m)) None ≡ None → bad 4 ≡ cond c (good (entry_of x f s k v m)) (bad 4)
          go true z = absurd (cc)
          go false z = refl

      says-good : (t : Entry) → o ≡ Some t → good t ≡ say_fields x f s k v m
      unfolding say_fields
      says-good t e = rw (sym qb ∙ not-false b nb) (go (small x s v m) (sym qo ∙ e))
        where
          go : (c : Bool) → cond c (Some (entry_of x f s k v m)) None ≡ Some t → good t ≡ cond c (good (entry_of x f s k v m)) (bad 4)
          go true z = let w : entry_of x f s k v m ≡ t = cc in ap good (sym w)
          go false z = absurd (cc)

    module _ (nb : not b ≡ false) where
      pub says-or : (o : Option Line) → option_map entry_in o ≡ entry → said (ok_or o AboveLimit) ≡ say_fields x f s k v m
      says-or None q = says-over nb None q refl
      says-or (Some l) q = says-good nb (Some (entry_in l)) q (entry_in l) refl
