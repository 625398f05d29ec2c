-- A line has one way to be written, so that refusal 7, a test of entries, is a test of lines. Assumes nothing.
use mathlib.Core.Bool.{Bool, true, false, not, cond, ◌&&◌, ◌||◌}
use mathlib.Core.List.{List, [], ◌∷◌, ◌++◌}
use mathlib.Core.Path.{◌≡◌, refl, sym, ap, ◌∙◌}
use Prim.Native.Nat.{ℕ}
use native.Mathlib.Omega.{arith}
use lib.Dec.{eqb, leb}
use lib.ListN.{length}
use borrow.Author.Tests.{eq-eqb, eqb-true}
use Rattle.laws.specs.Lists.{same, all}
use Rattle.table.specs.declared.kind.Scalar.{Scalar}
use Rattle.table.specs.declared.kind.Scalar.TheVariants.{Null, True, False, Str, Num, Int}
use Rattle.table.specs.declared.kind.ValueKind.TheVariants.{Plain, Rule}
use Rattle.table.specs.Kind.{kind_of, code_of}
use Rattle.table.proofs.KindLaws.{kind_of-code_of}
use Rattle.book.specs.Entry.{Form, obj, arr, same_form, Entry, edge, end_state}
use Rattle.book.specs.Line.{word_obj, word_arr, word_null, word_true, word_false, word_str, word_num, word_int, word_end, dash, is_form, form_of, is_visible, is_key, key_of, behind_r, is_plain, is_kind, kind_in, formed, small, entry_of, bad, good, say_fields, say_parts, say_line}
use Rattle.book.specs.Load.{same_entry}
use Rattle.book.specs.Text.{onto, split, is_number, number}
use Rattle.book.proofs.TruthLaws.{true-not-false, and-true}
use Rattle.book.proofs.KeyLaws.{same_self, same-eq}
use Rattle.book.proofs.NumberLaws.{number_same}

-- ---- kinds, forms and keys have one way to be written
abbrev word_of : Scalar → List ℕ
word_of Null = word_null
word_of True = word_true
word_of False = word_false
word_of Str = word_str
word_of Num = word_num
word_of Int = word_int

data KindText (v : List ℕ) : Type 0 where
  plain-text : (s : Scalar) → kind_in v ≡ Plain s → v ≡ word_of s → KindText v
  rule-text : kind_in v ≡ Rule (number (behind_r v)) → v ≡ 114 ∷ behind_r v → is_number (behind_r v) ≡ true → KindText v

behind : (v : List ℕ) → is_number (behind_r v) ≡ true → v ≡ 114 ∷ behind_r v
unfolding behind_r is_number
behind [] e = true-not-false false e refl
behind (b ∷ s) e = go (eqb b 114) refl e
  where
    go : (c : Bool) → eqb b 114 ≡ c → is_number (cond c s []) ≡ true → b ∷ s ≡ 114 ∷ cond c s []
    go true z n = let q = eqb-true b 114 z in cc
    go false z n = true-not-false false n refl

kind-text : (v : List ℕ) → is_kind v ≡ true → KindText v
unfolding is_kind is_plain kind_in
kind-text v e =
    go (same v word_null) (same v word_true) (same v word_false) (same v word_str) (same v word_num) (same v word_int) refl refl refl refl refl refl e
  where
    go : (a b c d f g : Bool) → same v word_null ≡ a → same v word_true ≡ b → same v word_false ≡ c → same v word_str ≡ d → same v word_num ≡ f → same v word_int ≡ g
        → ((a || (b || (c || (d || (f || g))))) || is_number (behind_r v)) ≡ true → KindText v
    go true b c d f g p1 p2 p3 p4 p5 p6 h = plain-text Null (rw (p1)) (same-eq v word_null p1)
    go false true c d f g p1 p2 p3 p4 p5 p6 h = plain-text True (rw (p1, p2)) (same-eq v word_true p2)
    go false false true d f g p1 p2 p3 p4 p5 p6 h = plain-text False (rw (p1, p2, p3)) (same-eq v word_false p3)
    go false false false true f g p1 p2 p3 p4 p5 p6 h = plain-text Str (rw (p1, p2, p3, p4)) (same-eq v word_str p4)
    go false false false false true g p1 p2 p3 p4 p5 p6 h = plain-text Num (rw (p1, p2, p3, p4, p5)) (same-eq v word_num p5)
    go false false false false false true p1 p2 p3 p4 p5 p6 h = plain-text Int (rw (p1, p2, p3, p4, p5, p6)) (same-eq v word_int p6)
    go false false false false false false p1 p2 p3 p4 p5 p6 h = rule-text (rw (p1, p2, p3, p4, p5, p6)) (behind v h) h

kind-same : (v w : List ℕ) → is_kind v ≡ true → is_kind w ≡ true → kind_in v ≡ kind_in w → v ≡ w
kind-same v w p q e = go (kind-text v p) (kind-text w q)
  where
    go : KindText v → KindText w → v ≡ w
    go (plain-text s a b) (plain-text t c d) = let z : Plain s ≡ Plain t = cc in let u : s ≡ t = cc in cc
    go (plain-text s a b) (rule-text c d f) = absurd (let z : ◌≡◌ {A = ℕ} 0 1 = cc in omega arith)
    go (rule-text a b c) (plain-text s d f) = absurd (let z : ◌≡◌ {A = ℕ} 0 1 = cc in omega arith)
    go (rule-text a b c) (rule-text d f g) =
        let z : number (behind_r v) ≡ number (behind_r w) = cc in
        let u = number_same (behind_r v) (behind_r w) c g z in
        cc

form-same : (f g : List ℕ) → is_form f ≡ true → is_form g ≡ true → form_of f ≡ form_of g → f ≡ g
unfolding is_form form_of
form-same f g p q e = go (same f word_obj) (same g word_obj) refl refl p q e
  where
    go : (a b : Bool) → same f word_obj ≡ a → same g word_obj ≡ b → (a || same f word_arr) ≡ true → (b || same g word_arr) ≡ true → cond a obj arr ≡ cond b obj arr → f ≡ g
    go true true x y u v z = same-eq f word_obj x ∙ sym (same-eq g word_obj y)
    go false false x y u v z = same-eq f word_arr u ∙ sym (same-eq g word_arr v)
    go true false x y u v z = absurd (let w : ◌≡◌ {A = ℕ} 0 1 = cc in omega arith)
    go false true x y u v z = absurd (let w : ◌≡◌ {A = ℕ} 0 1 = cc in omega arith)

key-same : (f k l : List ℕ) → cond (same f word_obj) (is_key k) (same k dash) ≡ true → cond (same f word_obj) (is_key l) (same l dash) ≡ true → key_of k ≡ key_of l → k ≡ l
unfolding is_key key_of
key-same f k l p q e = go (same f word_obj) (same k dash) (same l dash) refl refl p q e
  where
    last : (a b c d : Bool) → (a && (b && (c && not d))) ≡ true → d ≡ false
    last true true true false z = refl
    last true true true true z = true-not-false false z refl
    last true true false d z = true-not-false false z refl
    last true false c d z = true-not-false false z refl
    last false b c d z = true-not-false false z refl

    go : (o a b : Bool) → same k dash ≡ a → same l dash ≡ b
        → cond o (leb 1 (length k) && (leb (length k) 32 && (all is_visible k && not a))) a ≡ true
        → cond o (leb 1 (length l) && (leb (length l) 32 && (all is_visible l && not b))) b ≡ true → cond a [] k ≡ cond b [] l → k ≡ l
    go true a b x y u v z =
        let s : a ≡ false = last (leb 1 (length k)) (leb (length k) 32) (all is_visible k) a u in
        let t : b ≡ false = last (leb 1 (length l)) (leb (length l) 32) (all is_visible l) b v in
        rw (s, t) at z
    go false a b x y u v z = same-eq k dash (x ∙ u) ∙ sym (same-eq l dash (y ∙ v))

-- ---- entries
form-of : (f g : Form) → same_form f g ≡ true → f ≡ g
unfolding same_form
form-of obj obj e = refl
form-of obj arr e = true-not-false false e refl
form-of arr obj e = true-not-false false e refl
form-of arr arr e = refl

-- entries that say the same are the same
pub eq-of-same_entry : (a b : Entry) → same_entry a b ≡ true → a ≡ b
unfolding same_entry
eq-of-same_entry (edge r f q k v m) (edge r' f' q' k' v' m') e =
    let x1 = and-true (eqb r r') _ e in
    let x2 = and-true (same_form f f') _ x1.1 in
    let x3 = and-true (eqb q q') _ x2.1 in
    let x4 = and-true (same k k') _ x3.1 in
    let x5 = and-true (eqb (code_of v) (code_of v')) _ x4.1 in
    let y1 = eqb-true r r' x1.0 in
    let y2 = form-of f f' x2.0 in
    let y3 = eqb-true q q' x3.0 in
    let y4 = same-eq k k' x4.0 in
    let y5 : v ≡ v' = sym (kind_of-code_of v) ∙ ap kind_of (eqb-true (code_of v) (code_of v') x5.0) ∙ kind_of-code_of v' in
    let y6 = eqb-true m m' x5.1 in
    cc
eq-of-same_entry (edge r f q k v m) (end_state r' f' q') e = true-not-false false e refl
eq-of-same_entry (end_state r f q) (edge r' f' q' k' v' m') e = true-not-false false e refl
eq-of-same_entry (end_state r f q) (end_state r' f' q') e =
    let x1 = and-true (eqb r r') _ e in
    let x2 = and-true (same_form f f') _ x1.1 in
    let y1 = eqb-true r r' x1.0 in
    let y2 = form-of f f' x2.0 in
    let y3 = eqb-true q q' x2.1 in
    cc

-- ---- six fields
module _ (r f q k v m r' f' q' k' v' m' : List ℕ) where
  abbrev Same : Type 0
  Same = (r ≡ r') × (f ≡ f') × (q ≡ q') × (k ≡ k') × (v ≡ v') × (m ≡ m')

  entry-same : formed r f q k v m ≡ true → formed r' f' q' k' v' m' ≡ true → entry_of r f q k v m ≡ entry_of r' f' q' k' v' m' → Same
  unfolding formed entry_of
  entry-same p p' e =
      let x1 = and-true (is_number r) _ p in
      let x2 = and-true (is_form f) _ x1.1 in
      let x3 = and-true (is_number q) _ x2.1 in
      let y1 = and-true (is_number r') _ p' in
      let y2 = and-true (is_form f') _ y1.1 in
      let y3 = and-true (is_number q') _ y2.1 in
      go (same v word_end) (same v' word_end) refl refl x1.0 y1.0 x2.0 y2.0 x3.0 y3.0 x3.1 y3.1 e
    where
      go : (a b : Bool) → same v word_end ≡ a → same v' word_end ≡ b → is_number r ≡ true → is_number r' ≡ true → is_form f ≡ true → is_form f' ≡ true
          → is_number q ≡ true → is_number q' ≡ true
          → cond a (same k dash && same m dash) (is_kind v && (is_number m && cond (same f word_obj) (is_key k) (same k dash))) ≡ true
          → cond b (same k' dash && same m' dash) (is_kind v' && (is_number m' && cond (same f' word_obj) (is_key k') (same k' dash))) ≡ true
          → cond a (end_state (number r) (form_of f) (number q)) (edge (number r) (form_of f) (number q) (key_of k) (kind_in v) (number m))
          ≡ cond b (end_state (number r') (form_of f') (number q')) (edge (number r') (form_of f') (number q') (key_of k') (kind_in v') (number m'))
          → Same
      go true true z z' n n' o o' s s' x y e =
          let a = and-true (same k dash) _ x in
          let b = and-true (same k' dash) _ y in
          let g1 : number r ≡ number r' = cc in
          let g2 : form_of f ≡ form_of f' = cc in
          let g3 : number q ≡ number q' = cc in (
            number_same r r' n n' g1,
            form-same f f' o o' g2,
            number_same q q' s s' g3,
            same-eq k dash a.0 ∙ sym (same-eq k' dash b.0),
            same-eq v word_end z ∙ sym (same-eq v' word_end z'),
            same-eq m dash a.1 ∙ sym (same-eq m' dash b.1),
          )
      go true false z z' n n' o o' s s' x y e = absurd (let w : ◌≡◌ {A = ℕ} 0 1 = cc in omega arith)
      go false true z z' n n' o o' s s' x y e = absurd (let w : ◌≡◌ {A = ℕ} 0 1 = cc in omega arith)
      go false false z z' n n' o o' s s' x y e =
          let a = and-true (is_kind v) _ x in
          let a2 = and-true (is_number m) _ a.1 in
          let b = and-true (is_kind v') _ y in
          let b2 = and-true (is_number m') _ b.1 in
          let g1 : number r ≡ number r' = cc in
          let g2 : form_of f ≡ form_of f' = cc in
          let g3 : number q ≡ number q' = cc in
          let g4 : key_of k ≡ key_of k' = cc in
          let g5 : kind_in v ≡ kind_in v' = cc in
          let g6 : number m ≡ number m' = cc in
          let u : f ≡ f' = form-same f f' o o' g2 in (
            number_same r r' n n' g1,
            u,
            number_same q q' s s' g3,
            key-same f k k' a2.1 (rw u b2.1) g4,
            kind-same v v' a.0 b.0 g5,
            number_same m m' a2.0 b2.0 g6,
          )

fields-say : (r f q k v m : List ℕ) (e : Entry) → say_fields r f q k v m ≡ good e → (formed r f q k v m ≡ true) × (entry_of r f q k v m ≡ e)
unfolding say_fields
fields-say r f q k v m e = go (formed r f q k v m) (small r q v m)
  where
    go : (a b : Bool) → cond a (cond b (good (entry_of r f q k v m)) (bad 4)) (bad 3) ≡ good e → (a ≡ true) × (entry_of r f q k v m ≡ e)
    go true true z = (refl, cc)
    go true false z = absurd (let w : ◌≡◌ {A = ℕ} 0 1 = cc in omega arith)
    go false b z = absurd (let w : ◌≡◌ {A = ℕ} 0 1 = cc in omega arith)

-- ---- lines

-- the parts with the byte c between them
unfoldable joined : ℕ → List (List ℕ) → List ℕ
joined c [] = []
joined c (p ∷ []) = p
joined c (p ∷ (q ∷ ps)) = p ++ (c ∷ joined c (q ∷ ps))

joined-one : (c : ℕ) (p : List ℕ) → joined c (p ∷ []) ≡ p
unfolding joined
joined-one c p = refl

joined-onto : (c b : ℕ) (ps : List (List ℕ)) → joined c (onto b ps) ≡ b ∷ joined c ps
unfolding joined onto
joined-onto c b [] = refl
joined-onto c b (p ∷ []) = refl
joined-onto c b (p ∷ (q ∷ ps)) = refl

joined-first : (c : ℕ) (s : List ℕ) → joined c ([] ∷ split c s) ≡ c ∷ joined c (split c s)
unfolding joined split onto
joined-first c [] = refl
joined-first c (x ∷ s) = go (eqb x c) (split c s)
  where
    go : (b : Bool) (ps : List (List ℕ)) → joined c ([] ∷ cond b ([] ∷ ps) (onto x ps)) ≡ c ∷ joined c (cond b ([] ∷ ps) (onto x ps))
    go true ps = refl
    go false [] = refl
    go false (p ∷ ps) = refl

joined-split : (c : ℕ) (s : List ℕ) → joined c (split c s) ≡ s
unfolding split
joined-split c [] = joined-one c []
joined-split c (x ∷ s) = go (eqb x c) refl (joined-split c s)
  where
    go : (b : Bool) → eqb x c ≡ b → joined c (split c s) ≡ s → joined c (cond b ([] ∷ split c s) (onto x (split c s))) ≡ x ∷ s
    go true z ih = let q = eqb-true x c z in joined-first c s ∙ rw (ih, q)
    go false z ih = joined-onto c x (split c s) ∙ rw ih

never : (e : Entry) → bad 3 ≡ good e → ⊥
never e z = let w : ◌≡◌ {A = ℕ} 0 1 = cc in omega arith

-- a line that says an entry has the six parts
six-say : (ps : List (List ℕ)) (e : Entry) → say_parts ps ≡ good e
    → (r : List ℕ) × (f : List ℕ) × (q : List ℕ) × (k : List ℕ) × (v : List ℕ) × (m : List ℕ) × (ps ≡ r ∷ f ∷ q ∷ k ∷ v ∷ m ∷ []) × (say_fields r f q k v m ≡ good e)
unfolding say_parts
six-say [] e z = absurd (never e z)
six-say (r ∷ []) e z = absurd (never e z)
six-say (r ∷ (f ∷ [])) e z = absurd (never e z)
six-say (r ∷ (f ∷ (q ∷ []))) e z = absurd (never e z)
six-say (r ∷ (f ∷ (q ∷ (k ∷ [])))) e z = absurd (never e z)
six-say (r ∷ (f ∷ (q ∷ (k ∷ (v ∷ []))))) e z = absurd (never e z)
six-say (r ∷ (f ∷ (q ∷ (k ∷ (v ∷ (m ∷ [])))))) e z = (r, f, q, k, v, m, refl, z)
six-say (r ∷ (f ∷ (q ∷ (k ∷ (v ∷ (m ∷ (x ∷ ps))))))) e z = absurd (never e z)

-- lines that say one entry are the same bytes
pub line-once : (l l' : List ℕ) (e : Entry) → say_line l ≡ good e → say_line l' ≡ good e → l ≡ l'
unfolding say_line
line-once l l' e p p' =
    let a = six-say (split 32 l) e p in
    let b = six-say (split 32 l') e p' in
    let x = fields-say a.0 a.1 a.2 a.3 a.4 a.5 e a.7 in
    let y = fields-say b.0 b.1 b.2 b.3 b.4 b.5 e b.7 in
    let s = entry-same a.0 a.1 a.2 a.3 a.4 a.5 b.0 b.1 b.2 b.3 b.4 b.5 x.0 y.0 (x.1 ∙ sym y.1) in
    let u = a.6 in
    let w = b.6 in
    let s0 = s.0 in let s1 = s.1 in let s2 = s.2 in let s3 = s.3 in let s4 = s.4 in let s5 = s.5 in
    let t : split 32 l ≡ split 32 l' = cc in
    sym (joined-split 32 l) ∙ ap (joined 32) t ∙ joined-split 32 l'

same_entry-self : (e : Entry) → same_entry e e ≡ true
unfolding same_entry same_form
same_entry-self (edge r obj q k v m) =
    rw (eq-eqb r r refl, eq-eqb q q refl, same_self k, eq-eqb (code_of v) (code_of v) refl, eq-eqb m m refl)
same_entry-self (edge r arr q k v m) =
    rw (eq-eqb r r refl, eq-eqb q q refl, same_self k, eq-eqb (code_of v) (code_of v) refl, eq-eqb m m refl)
same_entry-self (end_state r obj q) = rw (eq-eqb r r refl, eq-eqb q q refl)
same_entry-self (end_state r arr q) = rw (eq-eqb r r refl, eq-eqb q q refl)

-- refusal 7, a test of entries, is a test of the lines that say them
pub same_entry-lines : (l l' : List ℕ) (a b : Entry) → say_line l ≡ good a → say_line l' ≡ good b → same_entry a b ≡ same l l'
same_entry-lines l l' a b p q = go (same_entry a b) (same l l') refl refl
  where
    go : (x y : Bool) → same_entry a b ≡ x → same l l' ≡ y → x ≡ y
    go true true s t = refl
    go false false s t = refl
    go true false s t =
        let e : l ≡ l' = line-once l l' b (p ∙ ap good (eq-of-same_entry a b s)) q in
        true-not-false (same l l') (ap (same l) (sym e) ∙ same_self l) t
    go false true s t =
        let e : l ≡ l' = same-eq l l' t in
        let g : good a ≡ good b = sym p ∙ ap say_line e ∙ q in
        let u : a ≡ b = cc in
        true-not-false (same_entry a b) (ap (same_entry a) (sym u) ∙ same_entry-self a) s
