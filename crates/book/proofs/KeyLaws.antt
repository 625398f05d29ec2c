-- Keys and their numbers. Assumes nothing.
use mathlib.Core.Bool.{Bool, true, false, not, cond, ◌||◌}
use mathlib.Core.List.{List, [], ◌∷◌, ◌++◌, append-nil}
use mathlib.Core.Path.{◌≡◌, refl, sym, ap, ◌∙◌}
use Prim.Native.Nat.{ℕ, suc}
use native.Mathlib.Omega.{arith}
use lib.Dec.{eqb}
use lib.ListN.{length}
use borrow.Author.Tests.{ne_eqb}
use Rattle.laws.specs.Lists.{same, any}
use Rattle.laws.proofs.ListLaws.{same_refl, eq-of-same}
use Rattle.laws.proofs.TestLaws.{true-of-T, T-of-true}
use Rattle.table.specs.Keys.{number_of}
use Rattle.book.proofs.TruthLaws.{true-not-false, eqb-sym, eqb-suc, or-false, or-true}
use Rattle.book.specs.Entry.{Entry, edge, end_state, with_key, keys_from, keys_of}
use Rattle.book.specs.Holds.{key_number}

-- ---- byte strings
pub same-sym : (s t : List ℕ) → same s t ≡ same t s
unfolding same
same-sym [] [] = refl
same-sym [] (b ∷ t) = refl
same-sym (a ∷ s) [] = refl
same-sym (a ∷ s) (b ∷ t) = rw (eqb-sym a b, same-sym s t)

pub same_self : (s : List ℕ) → same s s ≡ true
same_self s = true-of-T (same s s) (same_refl s)

pub same-eq : (s t : List ℕ) → same s t ≡ true → s ≡ t
same-eq s t e = eq-of-same s t (T-of-true (same s t) e)

-- ---- one of the members

pub any_append : {A : Type 0} (f : A → Bool) (l r : List A) → any f (l ++ r) ≡ (any f l || any f r)
unfolding any
any_append f [] r = refl
any_append f (x ∷ l) r = go (f x) (any_append f l r)
  where
    go : (b : Bool) → any f (l ++ r) ≡ (any f l || any f r) → (b || any f (l ++ r)) ≡ ((b || any f l) || any f r)
    go true e = refl
    go false e = e

-- a test holds of some member of a list with x at its end exactly where it holds of some member of the list or of x
pub any_last : {A : Type 0} (f : A → Bool) (l : List A) (x : A) → any f (l ++ (x ∷ [])) ≡ (any f l || f x)
unfolding any
any_last f l x = any_append f l (x ∷ []) ∙ rw (or-false (f x))

-- ---- numbers

-- a key is new exactly where its number is the number of keys
pub number_of-new : (ks : List (List ℕ)) (k : List ℕ) → eqb (number_of ks k) (length ks) ≡ not (any (same k) ks)
unfolding number_of any
number_of-new [] k = refl
number_of-new (x ∷ ks) k = rw (same-sym x k) (go (same k x) (number_of-new ks k))
  where
    go : (b : Bool) → eqb (number_of ks k) (length ks) ≡ not (any (same k) ks) → eqb (cond b 0 (suc (number_of ks k))) (suc (length ks)) ≡ not (b || any (same k) ks)
    go true h = ne_eqb 0 (suc (length ks)) (λ e. omega arith)
    go false h = eqb-suc (number_of ks k) (length ks) ∙ h

-- keys that come later change no number
pub number_of-append : (ks more : List (List ℕ)) (k : List ℕ) → any (same k) ks ≡ true → number_of (ks ++ more) k ≡ number_of ks k
unfolding number_of any
number_of-append [] more k e = true-not-false false e refl
number_of-append (x ∷ ks) more k e = rw (same-sym x k) (go (same k x) e (number_of-append ks more k))
  where
    go : (b : Bool) → (b || any (same k) ks) ≡ true → (any (same k) ks ≡ true → number_of (ks ++ more) k ≡ number_of ks k)
        → cond b 0 (suc (number_of (ks ++ more) k)) ≡ cond b 0 (suc (number_of ks k))
    go true h ih = refl
    go false h ih = ap suc (ih h)

-- a new key keeps the number that it has before it is added
number_of-last : (ks : List (List ℕ)) (k : List ℕ) → number_of (ks ++ (k ∷ [])) k ≡ number_of ks k
unfolding number_of
number_of-last [] k = rw (same_self k)
number_of-last (x ∷ ks) k = rw (number_of-last ks k)

pub key_number-with_key : (ks : List (List ℕ)) (k : List ℕ) → key_number (with_key ks k) k ≡ key_number ks k
unfolding key_number with_key
key_number-with_key ks [] = refl
key_number-with_key ks (b ∷ k) = go (any (same (b ∷ k)) ks)
  where
    go : (c : Bool) → number_of (cond c ks (ks ++ ((b ∷ k) ∷ []))) (b ∷ k) ≡ number_of ks (b ∷ k)
    go true = refl
    go false = number_of-last ks (b ∷ k)

-- numbers tell keys apart, where one of them is there
pub number_of-eqb : (ks : List (List ℕ)) (a b : List ℕ) → any (same b) ks ≡ true → eqb (number_of ks a) (number_of ks b) ≡ same a b
unfolding number_of any
number_of-eqb [] a b e = true-not-false false e refl
number_of-eqb (y ∷ ks) a b e = go (same y b) (same y a) refl refl (number_of-eqb ks a b)
  where
    go : (c d : Bool) → same y b ≡ c → same y a ≡ d → (any (same b) ks ≡ true → eqb (number_of ks a) (number_of ks b) ≡ same a b)
        → eqb (cond d 0 (suc (number_of ks a))) (cond c 0 (suc (number_of ks b))) ≡ same a b
    go true true p q ih = let u : y ≡ b = same-eq y b p in let v : y ≡ a = same-eq y a q in sym (rw (sym v, u) (same_self b))
    go true false p q ih = let u : y ≡ b = same-eq y b p in ne_eqb (suc (number_of ks a)) 0 (λ z. omega arith) ∙ sym (same-sym a b ∙ rw (sym u) q)
    go false true p q ih = let v : y ≡ a = same-eq y a q in ne_eqb 0 (suc (number_of ks b)) (λ z. omega arith) ∙ sym (rw (sym v) p)
    go false false p q ih = eqb-suc (number_of ks a) (number_of ks b) ∙ ih (rw (same-sym b y, p) at e)

-- ---- the keys of a book

-- a key is among the keys after it
pub key-in-with_key : (ks : List (List ℕ)) (b : ℕ) (k : List ℕ) → any (same (b ∷ k)) (with_key ks (b ∷ k)) ≡ true
unfolding with_key
key-in-with_key ks b k = go (any (same (b ∷ k)) ks) refl
  where
    go : (c : Bool) → any (same (b ∷ k)) ks ≡ c → any (same (b ∷ k)) (cond c ks (ks ++ ((b ∷ k) ∷ []))) ≡ true
    go true e = e
    go false e = any_last (same (b ∷ k)) ks (b ∷ k) ∙ rw (same_self (b ∷ k)) (or-true (any (same (b ∷ k)) ks))

-- the keys after an entry
abbrev pub add_key : List (List ℕ) → Entry → List (List ℕ)
add_key ks (edge r f q k v m) = with_key ks k
add_key ks (end_state r f q) = ks

keys_from-last : (ks : List (List ℕ)) (es : List Entry) (e : Entry) → keys_from ks (es ++ (e ∷ [])) ≡ add_key (keys_from ks es) e
unfolding keys_from
keys_from-last ks [] (edge r f q k v m) = refl
keys_from-last ks [] (end_state r f q) = refl
keys_from-last ks (edge r f q k v m ∷ es) e = keys_from-last (with_key ks k) es e
keys_from-last ks (end_state r f q ∷ es) e = keys_from-last ks es e

pub keys_of-last : (es : List Entry) (e : Entry) → keys_of (es ++ (e ∷ [])) ≡ add_key (keys_of es) e
unfolding keys_of
keys_of-last es e = keys_from-last [] es e

-- keys are only added at the end
with_key-append : (ks : List (List ℕ)) (k : List ℕ) → (more : List (List ℕ)) × (with_key ks k ≡ ks ++ more)
unfolding with_key
with_key-append ks [] = ([], sym (append-nil ks))
with_key-append ks (b ∷ k) = go (any (same (b ∷ k)) ks)
  where
    go : (c : Bool) → (more : List (List ℕ)) × (cond c ks (ks ++ ((b ∷ k) ∷ [])) ≡ ks ++ more)
    go true = ([], sym (append-nil ks))
    go false = ((b ∷ k) ∷ [], refl)

pub add_key-append : (ks : List (List ℕ)) (e : Entry) → (more : List (List ℕ)) × (add_key ks e ≡ ks ++ more)
add_key-append ks (edge r f q k v m) = with_key-append ks k
add_key-append ks (end_state r f q) = ([], sym (append-nil ks))
