-- Every line that is taken says an entry within the limits of its fields. Assumes nothing.
use mathlib.Core.Bool.{Bool, true, false, not, cond, ◌&&◌}
use mathlib.Core.List.{List, [], ◌∷◌}
use mathlib.Core.Path.{◌≡◌, refl}
use Prim.Native.Nat.{ℕ, ◌<◌, ◌≤◌}
use native.Mathlib.Omega.{arith}
use lib.Dec.{ltb, leb}
use lib.ListN.{length}
use borrow.Author.Tests.{ltb-true, leb-true}
use Rattle.laws.specs.Lists.{same, all}
use Rattle.table.specs.declared.kind.ValueKind.{ValueKind}
use Rattle.table.specs.declared.kind.ValueKind.TheVariants.{Plain, Rule}
use Rattle.table.specs.declared.kind.Scalar.TheVariants.{Null, True, False, Str, Num, Int}
use Rattle.table.specs.Kind.{code_of}
use Rattle.book.specs.Entry.{obj, arr, edge, end_state}
use Rattle.book.specs.Text.{is_empty, is_number, number, split}
use Rattle.book.specs.Line.{is_form, form_of, is_visible, is_key, key_of, is_kind, kind_in, small_kind, formed, small, entry_of, bad, good, say_fields, say_parts, say_line, word_obj, word_end, dash}
use Rattle.book.proofs.TruthLaws.{true-not-false, and-true}
use Rattle.store.specs.Proper.{is_arr, ProperEdge, ProperSaid}

code_of-lt : (v : ValueKind) → small_kind v ≡ true → code_of v < 38
unfolding small_kind code_of
code_of-lt (Plain Null) h = omega arith
code_of-lt (Plain True) h = omega arith
code_of-lt (Plain False) h = omega arith
code_of-lt (Plain Str) h = omega arith
code_of-lt (Plain Num) h = omega arith
code_of-lt (Plain Int) h = omega arith
code_of-lt (Rule n) h = let l = ltb-true n 32 h in omega arith

-- ---- six fields
module _ (r f q k v m : List ℕ) where
  -- the key of an edge: 1 to 32 visible bytes in `obj`, none in `arr`
  key-proper : cond (same f word_obj) (is_key k) (same k dash) ≡ true
      → (length (key_of k) ≤ 32) × (is_empty (key_of k) ≡ is_arr (form_of f)) × (all is_visible (key_of k) ≡ true)
  unfolding is_key key_of form_of is_arr is_empty all
  key-proper = go (same f word_obj) (same k dash)
    where
      some : (s : List ℕ) → 1 ≤ length s → is_empty s ≡ false
      some [] h = absurd (omega arith)
      some (b ∷ s) h = refl

      go : (b d : Bool) → cond b (leb 1 (length k) && (leb (length k) 32 && (all is_visible k && not d))) d ≡ true
          → (length (cond d [] k) ≤ 32) × (is_empty (cond d [] k) ≡ is_arr (cond b obj arr)) × (all is_visible (cond d [] k) ≡ true)
      go true true h =
          let a = and-true (leb 1 (length k)) _ h in
          let b = and-true (leb (length k) 32) _ a.1 in
          let c = and-true (all is_visible k) _ b.1 in
          true-not-false false c.1 refl
      go true false h =
          let a = and-true (leb 1 (length k)) _ h in
          let b = and-true (leb (length k) 32) _ a.1 in
          let c = and-true (all is_visible k) _ b.1 in
          (leb-true (length k) 32 b.0, some k (leb-true 1 (length k) a.0), c.0)
      go false true h = (omega arith, refl, refl)
      go false false h = true-not-false false h refl

  edge-proper : formed r f q k v m ≡ true → small r q v m ≡ true → same v word_end ≡ false
      → ProperEdge (number r) (form_of f) (number q) (key_of k) (kind_in v) (number m)
  unfolding formed small
  edge-proper p s e =
      let a = and-true (ltb (number r) 32) _ s in
      let b = and-true (ltb (number q) 16) _ a.1 in
      let c = and-true (small_kind (kind_in v)) _ (rw e at b.1) in
      let x = and-true (is_number r) _ p in
      let y = and-true (is_form f) _ x.1 in
      let z = and-true (is_number q) _ y.1 in
      let w = and-true (is_kind v) _ (rw e at z.1) in
      let u = and-true (is_number m) _ w.1 in
      let k' = key-proper u.1 in
      record {
        rule = ltb-true (number r) 32 a.0;
        state = ltb-true (number q) 16 b.0;
        len = k'.0;
        visible = k'.2;
        keyed = k'.1;
        kind = code_of-lt (kind_in v) c.0;
        next = ltb-true (number m) 16 c.1;
      }

  end-proper : small r q v m ≡ true → (number r < 32) × (number q < 16)
  unfolding small
  end-proper s =
      let a = and-true (ltb (number r) 32) _ s in
      let b = and-true (ltb (number q) 16) _ a.1 in
      (ltb-true (number r) 32 a.0, ltb-true (number q) 16 b.0)

  say_fields-proper : ProperSaid (say_fields r f q k v m)
  unfolding say_fields entry_of
  say_fields-proper = go (formed r f q k v m) (small r q v m) (same v word_end) refl refl refl
    where
      go : (a b c : Bool) → formed r f q k v m ≡ a → small r q v m ≡ b → same v word_end ≡ c
          → ProperSaid
          (cond a
          (cond b (good (cond c (end_state (number r) (form_of f) (number q)) (edge (number r) (form_of f) (number q) (key_of k) (kind_in v) (number m)))) (bad 4))
          (bad 3))
      go false b c x y z = tt
      go true false c x y z = tt
      go true true true x y z = end-proper y
      go true true false x y z = edge-proper x y z

-- ---- a line
say_parts-proper : (ps : List (List ℕ)) → ProperSaid (say_parts ps)
unfolding say_parts
say_parts-proper [] = tt
say_parts-proper (r ∷ []) = tt
say_parts-proper (r ∷ (f ∷ [])) = tt
say_parts-proper (r ∷ (f ∷ (q ∷ []))) = tt
say_parts-proper (r ∷ (f ∷ (q ∷ (k ∷ [])))) = tt
say_parts-proper (r ∷ (f ∷ (q ∷ (k ∷ (v ∷ []))))) = tt
say_parts-proper (r ∷ (f ∷ (q ∷ (k ∷ (v ∷ (m ∷ [])))))) = say_fields-proper r f q k v m
say_parts-proper (r ∷ (f ∷ (q ∷ (k ∷ (v ∷ (m ∷ (x ∷ ps))))))) = tt

-- what a line says is within the limits of its fields
pub say_line-proper : (l : List ℕ) → ProperSaid (say_line l)
unfolding say_line
say_line-proper l = say_parts-proper (split 32 l)
