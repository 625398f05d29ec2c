-- Edges and forms of a book as entries are added at its end. Assumes nothing.
use mathlib.Core.Bool.{Bool, true, false, not, cond, ◌&&◌, ◌||◌}
use mathlib.Core.List.{List, [], ◌∷◌, ◌++◌}
use mathlib.Core.Path.{◌≡◌, refl, ap, ◌∙◌}
use Prim.Native.Nat.{ℕ, suc, ◌+◌}
use native.Mathlib.Omega.{arith}
use lib.Dec.{eqb}
use lib.ListN.{length}
use borrow.Author.Tests.{eqb-true}
use Rattle.laws.specs.Lists.{same, any}
use Rattle.book.specs.Entry.{Form, obj, arr, same_form, Entry, edge, end_state, keys_of}
use Rattle.book.specs.Load.{rule_of, form_in, changes_form, has_rule}
use Rattle.book.specs.Holds.{Edge, key_number, edges_from, edges_of, form_code, rule_form}
use Rattle.book.proofs.TruthLaws.{eqb-sym}
use Rattle.book.proofs.KeyLaws.{any_append, number_of-append, keys_of-last, add_key, add_key-append}

-- ---- each member of a list

-- the claim holds of each member
abbrev pub Each : {A : Type 0} → (A → Type 0) → List A → Type 0
Each P [] = Unit {0}
Each P (x ∷ xs) = P x × Each P xs

pub each_map : {A : Type 0} (P Q : A → Type 0) → ((x : A) → P x → Q x) → (l : List A) → Each P l → Each Q l
each_map P Q f [] h = tt
each_map P Q f (x ∷ l) h = (f x h.0, each_map P Q f l h.1)

pub each_append : {A : Type 0} (P : A → Type 0) (l r : List A) → Each P l → Each P r → Each P (l ++ r)
each_append P [] r h k = k
each_append P (x ∷ l) r h k = (h.0, each_append P l r h.1 k)

-- ---- keys

-- a key, if there is one, is among the keys
abbrev pub KeyAmong : List (List ℕ) → List ℕ → Type 0
KeyAmong ks [] = Unit {0}
KeyAmong ks (b ∷ k) = any (same (b ∷ k)) ks ≡ true

abbrev pub KeyIn : List (List ℕ) → Entry → Type 0
KeyIn ks (edge r f q k v m) = KeyAmong ks k
KeyIn ks (end_state r f q) = Unit {0}

pub key_number-append : (ks more : List (List ℕ)) (k : List ℕ) → KeyAmong ks k → key_number (ks ++ more) k ≡ key_number ks k
unfolding key_number
key_number-append ks more [] h = refl
key_number-append ks more (b ∷ k) h = number_of-append ks more (b ∷ k) h

key_among-append : (ks more : List (List ℕ)) (k : List ℕ) → KeyAmong ks k → KeyAmong (ks ++ more) k
key_among-append ks more [] h = tt
key_among-append ks more (b ∷ k) h = any_append (same (b ∷ k)) ks more ∙ rw h

pub key_in-append : (ks more : List (List ℕ)) (e : Entry) → KeyIn ks e → KeyIn (ks ++ more) e
key_in-append ks more (edge r f q k v m) h = key_among-append ks more k h
key_in-append ks more (end_state r f q) h = tt

-- ---- edges

-- the edges of two parts of a book
pub edges_from-append : (ks : List (List ℕ)) (n : ℕ) (es fs : List Entry) → edges_from ks n (es ++ fs) ≡ edges_from ks n es ++ edges_from ks (n + length es) fs
unfolding edges_from
edges_from-append ks n [] fs = ap (λ (m : ℕ). edges_from ks m fs) (omega arith)
edges_from-append ks n (edge r f q k v m ∷ es) fs =
    let z : suc n + length es ≡ n + suc (length es) = omega arith in
    let ih = edges_from-append ks (suc n) es fs in
    rw (ih, z)
edges_from-append ks n (end_state r f q ∷ es) fs =
    let z : suc n + length es ≡ n + suc (length es) = omega arith in
    let ih = edges_from-append ks (suc n) es fs in
    ih ∙ rw z

-- keys that come later change no edge
pub edges_from-keys : (ks more : List (List ℕ)) (n : ℕ) (es : List Entry) → Each (KeyIn ks) es → edges_from (ks ++ more) n es ≡ edges_from ks n es
unfolding edges_from
edges_from-keys ks more n [] h = refl
edges_from-keys ks more n (edge r f q k v m ∷ es) h = rw (key_number-append ks more k h.0, edges_from-keys ks more (suc n) es h.1)
edges_from-keys ks more n (end_state r f q ∷ es) h = edges_from-keys ks more (suc n) es h.1

-- one entry more adds its edge at the end
pub edges_of-last : (es : List Entry) (e : Entry) → Each (KeyIn (keys_of es)) es
    → edges_of (es ++ (e ∷ [])) ≡ edges_of es ++ edges_from (add_key (keys_of es) e) (2 + length es) (e ∷ [])
unfolding edges_of
edges_of-last es e h =
    let a = add_key-append (keys_of es) e in
    let k : edges_from (add_key (keys_of es) e) 2 es ≡ edges_from (keys_of es) 2 es = rw a.1 (edges_from-keys (keys_of es) a.0 2 es h) in
    ap (λ (ks : List (List ℕ)). edges_from ks 2 (es ++ (e ∷ []))) (keys_of-last es e)
    ∙ edges_from-append (add_key (keys_of es) e) 2 es (e ∷ [])
    ∙ ap (λ (l : List Edge). l ++ edges_from (add_key (keys_of es) e) (2 + length es) (e ∷ [])) k

-- ---- forms

pub form_code-some : (f : Form) → eqb (form_code f) 0 ≡ false
unfolding form_code
form_code-some obj = refl
form_code-some arr = refl

pub same_form-codes : (f g : Form) → same_form f g ≡ eqb (form_code f) (form_code g)
unfolding same_form form_code
same_form-codes obj obj = refl
same_form-codes obj arr = refl
same_form-codes arr obj = refl
same_form-codes arr arr = refl

pub form-of-code : (f g : Form) → form_code f ≡ form_code g → f ≡ g
unfolding form_code
form-of-code obj obj e = refl
form-of-code obj arr e = absurd (omega arith)
form-of-code arr obj e = absurd (omega arith)
form-of-code arr arr e = refl

-- a rule keeps the form of its first line
pub rule_form-last : (es : List Entry) (e : Entry) (n : ℕ)
    → rule_form (es ++ (e ∷ [])) n ≡ cond (eqb (rule_form es n) 0) (cond (eqb (rule_of e) n) (form_code (form_in e)) 0) (rule_form es n)
unfolding rule_form
rule_form-last [] e n = refl
rule_form-last (x ∷ es) e n = go (eqb (rule_of x) n) (rule_form-last es e n)
  where
    last : ℕ
    last = cond (eqb (rule_of e) n) (form_code (form_in e)) 0

    go : (b : Bool) → rule_form (es ++ (e ∷ [])) n ≡ cond (eqb (rule_form es n) 0) last (rule_form es n)
        → cond b (form_code (form_in x)) (rule_form (es ++ (e ∷ [])) n)
        ≡ cond (eqb (cond b (form_code (form_in x)) (rule_form es n)) 0) last (cond b (form_code (form_in x)) (rule_form es n))
    go true h = rw (form_code-some (form_in x))
    go false h = h

-- a rule has lines where it has a form
pub has_rule-rule_form : (es : List Entry) (n : ℕ) → has_rule es n ≡ not (eqb (rule_form es n) 0)
unfolding has_rule any rule_form
has_rule-rule_form [] n = refl
has_rule-rule_form (x ∷ es) n = go (eqb (rule_of x) n) (has_rule-rule_form es n)
  where
    go : (b : Bool) → any (λ e. eqb (rule_of e) n) es ≡ not (eqb (rule_form es n) 0)
        → (b || any (λ e. eqb (rule_of e) n) es) ≡ not (eqb (cond b (form_code (form_in x)) (rule_form es n)) 0)
    go true h = rw (form_code-some (form_in x))
    go false h = h

or-absorb : (h a : Bool) → (a || (h && a)) ≡ a
or-absorb h true = refl
or-absorb true false = refl
or-absorb false false = refl

-- where all lines of a rule have the form with code g, a line changes it where it has another
changes-of : (e : Entry) (g : ℕ) (l : List Entry) → Each (λ x. rule_of x ≡ rule_of e → form_code (form_in x) ≡ g) l
    → any (changes_form e) l ≡ (has_rule l (rule_of e) && not (eqb g (form_code (form_in e))))
unfolding any has_rule changes_form
changes-of e g [] h = refl
changes-of e g (x ∷ l) h = rw (eqb-sym (rule_of e) (rule_of x)) (go (eqb (rule_of x) (rule_of e)) refl (changes-of e g l h.1))
  where
    rest : Bool
    rest = any (λ y. eqb (rule_of y) (rule_of e)) l

    go : (b : Bool) → eqb (rule_of x) (rule_of e) ≡ b → any (changes_form e) l ≡ (rest && not (eqb g (form_code (form_in e))))
        → ((b && not (same_form (form_in e) (form_in x))) || any (changes_form e) l) ≡ ((b || rest) && not (eqb g (form_code (form_in e))))
    go true p ih =
        let q : form_code (form_in x) ≡ g = h.0 (eqb-true (rule_of x) (rule_of e) p) in
        rw (ih, same_form-codes (form_in e) (form_in x), q, eqb-sym (form_code (form_in e)) g) (or-absorb rest (not (eqb g (form_code (form_in e)))))
    go false p ih = ih

-- the form of each entry is that of its rule
abbrev pub FormKept : List Entry → Entry → Type 0
FormKept es x = form_code (form_in x) ≡ rule_form es (rule_of x)

-- refusal 6, from the form that the rule has already
pub changes_form-rule_form : (es : List Entry) (e : Entry) → Each (FormKept es) es
    → any (changes_form e) es ≡ (not (eqb (rule_form es (rule_of e)) 0) && not (eqb (rule_form es (rule_of e)) (form_code (form_in e))))
changes_form-rule_form es e h =
    changes-of e (rule_form es (rule_of e)) es (each_map (FormKept es) _ (λ x p r. p ∙ ap (rule_form es) r) es h)
    ∙ rw (has_rule-rule_form es (rule_of e))
