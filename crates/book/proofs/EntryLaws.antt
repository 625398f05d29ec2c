-- Laws of a book's keys and their numbers. Assumes nothing.
use mathlib.Core.Bool.{Bool, true, false, not, cond}
use mathlib.Core.List.Memᴰ
use mathlib.Core.List.{List, [], ◌∷◌, Memᴰ}
use mathlib.Core.Path.{◌≡◌, refl, sym, ◌∙◌}
use Prim.Native.Nat.{ℕ, suc, ◌<◌}
use native.Mathlib.Omega.{arith}
use lib.Dec.{T}
use lib.ListN.{length}
use Rattle.laws.specs.Lists.{any, same}
use Rattle.laws.proofs.TestLaws.{T-of-true, cond-elim, cond_yes}
use Rattle.laws.proofs.ListLaws.{same_refl, eq-of-same, member-of-any}
use Rattle.book.specs.Entry.{Form, Entry, edge, end_state, with_key, keys_from, keys_of}
use Rattle.table.specs.declared.kind.ValueKind.{ValueKind}
use Rattle.table.specs.Keys.{number_of}

-- ---- number_of

-- a key has a number below the number of keys
pub number-lt-of-member : (ks : List (List ℕ)) (k : List ℕ) → Memᴰ k ks → number_of ks k < length ks
unfolding number_of
number-lt-of-member (x ∷ ks) k (Memᴰ.head e) = cond_yes (λ (n : ℕ). n < suc (length ks)) (same x k) _ (rw e (same_refl x)) (omega arith)
number-lt-of-member [] k x' = elim x' [ ]
number-lt-of-member (x ∷ ks) k (Memᴰ.tail i) =
    let h = number-lt-of-member ks k i in
    cond-elim (λ (n : ℕ). n < suc (length ks)) (same x k) (λ (g : T (same x k)). omega arith) (λ (g : T (not (same x k))). omega arith)

-- two keys of one number are the same
pub key-eq-of-number-eq : (ks : List (List ℕ)) (k l : List ℕ) → number_of ks k < length ks → number_of ks k ≡ number_of ks l → k ≡ l
unfolding number_of
key-eq-of-number-eq [] k l h e = absurd (omega arith)
key-eq-of-number-eq (x ∷ ks) k l h e =
    go (same x k) refl (same x l) refl h e (λ (g : number_of ks k < length ks) (d : number_of ks k ≡ number_of ks l). key-eq-of-number-eq ks k l g d)
  where
    go : (a : Bool) → same x k ≡ a → (b : Bool) → same x l ≡ b → cond a 0 (suc (number_of ks k)) < suc (length ks)
        → cond a 0 (suc (number_of ks k)) ≡ cond b 0 (suc (number_of ks l))
        → (number_of ks k < length ks → number_of ks k ≡ number_of ks l → k ≡ l) → k ≡ l
    go true p true q h e r = sym (eq-of-same x k (T-of-true (same x k) p)) ∙ eq-of-same x l (T-of-true (same x l) q)
    go true p false q h e r = absurd (omega arith)
    go false p true q h e r = absurd (omega arith)
    go false p false q h e r = r (omega arith) (omega arith)

-- ---- keys_of

-- a key stays a key
member-with_key : (ks : List (List ℕ)) (l : List ℕ) {k : List ℕ} → Memᴰ k ks → Memᴰ k (with_key ks l)
unfolding with_key
member-with_key ks [] i = i
member-with_key ks (b ∷ l) {k} i =
    cond-elim (λ (xs : List (List ℕ)). Memᴰ k xs) (any (same (b ∷ l)) ks) (λ h. i) (λ h. Memᴰ.append_left ((b ∷ l) ∷ []) i)

-- a key that is added is one
new-with_key : (ks : List (List ℕ)) (b : ℕ) (l : List ℕ) → Memᴰ (b ∷ l) (with_key ks (b ∷ l))
unfolding with_key
new-with_key ks b l =
    cond-elim (λ (xs : List (List ℕ)). Memᴰ (b ∷ l) xs) (any (same (b ∷ l)) ks)
    (λ (h : T (any (same (b ∷ l)) ks)). old (member-of-any (same (b ∷ l)) ks h))
    (λ (h : T (not (any (same (b ∷ l)) ks))). Memᴰ.append_right ks (Memᴰ.head refl))
  where
    old : (x : List ℕ) × Memᴰ x ks × T (same (b ∷ l) x) → Memᴰ (b ∷ l) ks
    old (x, i, h) = Memᴰ.cast (eq-of-same (b ∷ l) x h) i

-- the keys so far are keys
member-keys_from : (ks : List (List ℕ)) (es : List Entry) {k : List ℕ} → Memᴰ k ks → Memᴰ k (keys_from ks es)
unfolding keys_from
member-keys_from ks [] i = i
member-keys_from ks (edge r f q l t m ∷ es) i = member-keys_from (with_key ks l) es (member-with_key ks l i)
member-keys_from ks (end_state r f q ∷ es) i = member-keys_from ks es i

key-member-from : (ks : List (List ℕ)) (es : List Entry) {r q m b : ℕ} {f : Form} {l : List ℕ} {t : ValueKind} → Memᴰ (edge r f q (b ∷ l) t m) es
    → Memᴰ (b ∷ l) (keys_from ks es)
unfolding keys_from
key-member-from ks [] x' = elim x' [ ]
key-member-from ks (edge r f q k t m ∷ es) {b} {l} (Memᴰ.head e) =
    let d : b ∷ l ≡ k = cc in member-keys_from (with_key ks k) es (rw (← d) (new-with_key ks b l))
key-member-from ks (edge r f q k t m ∷ es) (Memᴰ.tail i) = key-member-from (with_key ks k) es i
key-member-from ks (end_state r f q ∷ es) (Memᴰ.head e) = let z : ◌≡◌ {A = ℕ} 0 1 = cc in absurd (omega arith)
key-member-from ks (end_state r f q ∷ es) (Memᴰ.tail i) = key-member-from ks es i

-- the key of an edge is one of the book's keys
pub key-member : (es : List Entry) {r q m b : ℕ} {f : Form} {l : List ℕ} {t : ValueKind} → Memᴰ (edge r f q (b ∷ l) t m) es
    → Memᴰ (b ∷ l) (keys_of es)
unfolding keys_of
key-member es i = key-member-from [] es i
