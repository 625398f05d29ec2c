-- The characters kept of a key: one more of them, and the number of the finished key. Assumes nothing.
use mathlib.Core.Bool.{Bool, false, not}
use mathlib.Core.List.{List, [], ◌∷◌, ◌++◌, Memᴰ}
use mathlib.Core.Logic.{inl, inr}
use mathlib.Core.Path.{◌≡◌, refl, sym, ap, subst, ◌∙◌}
use Prim.Native.Nat.{ℕ, ◌+◌, ◌≤◌, ◌<◌}
use native.Mathlib.Decide.{dec_lt}
use native.Mathlib.Numerals.{add-one}
use native.Mathlib.Omega.{arith}
use lib.Dec.{T, ltb, T_not}
use lib.ListN.{length, set, length-append}
use lib.Seq.{take-suc-set}
use borrow.Author.Tests.{lt-ltb, le-ltb, ne_eqb, not-false}
use Rattle.laws.specs.Lists.{same, all, any}
use Rattle.laws.proofs.TestLaws.{T-of-true, T-or-left, T-or-right}
use Rattle.laws.proofs.ListLaws.{eq-of-same, member-of-any, T-of-all}
use Rattle.laws.proofs.TabLaws.{length-tab}
use Rattle.table.specs.Table.{Table}
use Rattle.table.specs.Keys.{key_at, table_keys, number_of, or_unknown, key_found}
use Rattle.book.specs.Entry.{Entry, keys_of}
use Rattle.book.proofs.KeyLaws.{any_last, number_of-new}
use Rattle.runs.specs.Walk.{key_count, number_in}
use Rattle.meaning.specs.Shows.{Carries, ShowsKey}
use Rattle.follows.specs.Follows.{PlainKeys, NoKey, KeyKept, all_kept, none_kept}

-- ---- one more character

-- where no key begins with some characters, none begins with them and one more
no_key-last : (s : List ℕ) (c : ℕ) → NoKey s → NoKey (s ++ (c ∷ []))
no_key-last s c (inl h) = inl (rw length-append (omega arith))
no_key-last s c (inr h) =
    inr (rw (any_last (λ (x : ℕ). not (ltb x 128)) s c) (T-or-left (any (λ (x : ℕ). not (ltb x 128)) s) (not (ltb c 128)) h))

-- a character above 127 is in no key
no_key-high : (s : List ℕ) (c : ℕ) → ltb c 128 ≡ false → NoKey (s ++ (c ∷ []))
no_key-high s c e =
    inr
    (rw (any_last (λ (x : ℕ). not (ltb x 128)) s c)
    (T-or-right (any (λ (x : ℕ). not (ltb x 128)) s) (not (ltb c 128)) (T-of-true (not (ltb c 128)) (rw e))))

-- a character above 127 makes the characters of the open key no key
pub key_kept-high : (key s : List ℕ) (c : ℕ) → ltb c 128 ≡ false → KeyKept key 33 (s ++ (c ∷ []))
key_kept-high key s c e = none_kept refl (no_key-high s c e)

module _ {key : List ℕ} {len : ℕ} {s : List ℕ} where
  -- a character below 128 is put after those kept, where there is room
  pub key_kept-put : (c : ℕ) → length key ≡ 32 → len < 32 → KeyKept key len s → KeyKept (set key len c) (len + 1) (s ++ (c ∷ []))
  key_kept-put c long h (all_kept e l p) =
      all_kept (rw length-append (omega arith)) (omega arith)
      (rw (add-one len, take-suc-set key len c (omega arith)) (ap (λ (x : List ℕ). x ++ (c ∷ [])) p))
  key_kept-put c long h (none_kept e p) = absurd (omega arith)

  -- a character after 32 others makes the characters of the open key no key
  pub key_kept-full : (c : ℕ) → 32 ≤ len → KeyKept key len s → KeyKept key 33 (s ++ (c ∷ []))
  key_kept-full c h (all_kept e l p) = none_kept refl (inl (rw length-append (omega arith)))
  key_kept-full c h (none_kept e p) = none_kept refl (no_key-last s c p)

-- ---- the number of a finished key

not-all-of-any : (f : ℕ → Bool) (s : List ℕ) → T (all f s) → T (any (λ (c : ℕ). not (f c)) s) → ⊥
not-all-of-any f s h g =
    let m = member-of-any (λ (c : ℕ). not (f c)) s g in T_not (f m.0) m.2 (T-of-all f s h m.1)

-- a key that has a number is among the keys
member-of-number : (ks : List (List ℕ)) (s : List ℕ) → number_of ks s < length ks → Memᴰ s ks
member-of-number ks s h =
    let e : not (any (same s) ks) ≡ false = sym (number_of-new ks s) ∙ ne_eqb (number_of ks s) (length ks) (λ p. omega arith) in
    let m = member-of-any (same s) ks (T-of-true (any (same s) ks) (not-false (any (same s) ks) e)) in
    subst (λ (x : List ℕ). Memᴰ x ks) (sym (eq-of-same s m.0 m.2)) m.1

-- what no key begins with has no number
unknown-of-no_key : {es : List Entry} → PlainKeys es → (s : List ℕ) → NoKey s → key_count es ≤ number_in es s
unfolding key_count number_in
unknown-of-no_key {es} plain s h = go h (dec_lt (number_of (keys_of es) s) (length (keys_of es)))
  where
    go : NoKey s → Dec (number_of (keys_of es) s < length (keys_of es)) → length (keys_of es) ≤ number_of (keys_of es) s
    go (inl g) (yes l) = absurd (omega (arith, plain.short (member-of-number (keys_of es) s l)))
    go (inr g) (yes l) = absurd (not-all-of-any (λ (c : ℕ). ltb c 128) s (plain.low (member-of-number (keys_of es) s l)) g)
    go g (no l) = omega arith

module _ {t : Table} {es : List Entry} (kept : Carries t es) where
  -- a table has the keys of its book
  keys-eq : t.keys ≡ key_count es
  unfolding key_count table_keys
  keys-eq = sym (length-tab (key_at t.key_bytes t.key_len) 0 t.keys) ∙ ap length kept.holds.keyed

  shows_key-or_unknown : (s : List ℕ) → ShowsKey es s (or_unknown (number_of (table_keys t) s) t.keys)
  unfolding or_unknown number_in
  shows_key-or_unknown s =
      rw (kept.holds.keyed, keys-eq)
      record {
        known = λ h. rw (lt-ltb (number_of (keys_of es) s) (key_count es) h);
        unknown = λ h. rw (le-ltb (number_of (keys_of es) s) (key_count es) h) (omega arith);
      }

  -- the number found is that of the characters kept
  pub shows_key-key_found : PlainKeys es → {key : List ℕ} {len : ℕ} {s : List ℕ} → KeyKept key len s → ShowsKey es s (key_found t key len)
  unfolding key_found
  shows_key-key_found plain {key} {len} {s} (all_kept e l p) = rw (le-ltb 32 len l, p) (shows_key-or_unknown s)
  shows_key-key_found plain {key} {len} {s} (none_kept e p) =
      let h : 32 < len = omega arith in
      rw (lt-ltb 32 len h)
      record { known = λ g. absurd (omega (arith, unknown-of-no_key plain s p)); unknown = λ g. omega arith }
