-- What the theorems ask of an accepted book: load sees to it. Assumes nothing.
use mathlib.Core.Bool.{true, false}
use mathlib.Core.List.{List, [], ◌∷◌, ◌++◌, Memᴰ}
use mathlib.Core.Path.{◌≡◌, refl, sym, ap, ◌∙◌}
use Prim.Native.Nat.{ℕ, ◌≤◌}
use native.Mathlib.Omega.{arith}
use lib.Dec.{T, ltb, leb}
use lib.ListN.{length}
use borrow.Author.Tests.{leb-true, lt-ltb}
use Rattle.laws.specs.Lists.{all, any, same}
use Rattle.laws.proofs.TestLaws.{cond-elim}
use Rattle.json_text.specs.Tree.{Json, object, Pairs}
use Rattle.table.specs.Table.{Table}
use Rattle.table.specs.declared.kind.ValueKind.{ValueKind}
use Rattle.book.specs.Entry.{obj, arr, Entry, edge, end_state, with_key, keys_from, keys_of, clash}
use Rattle.book.specs.Text.{is_empty, between}
use Rattle.book.specs.Line.{is_visible}
use Rattle.book.specs.Load.{rule_of, form_in}
use Rattle.book.specs.Holds.{rule_form}
use Rattle.book.proofs.HoldLaws.{Each, FormKept, form-of-code}
use Rattle.book.proofs.TruthLaws.{and-true, true-not-false}
use Rattle.store.specs.Proper.{is_arr, Proper}
use Rattle.store.specs.Store.{table_of}
use Rattle.load.proofs.KeptLaws.{Loading}
use Rattle.load.proofs.LoadedLaws.{loads-kept, loads-apart, table-of-entries}
use Rattle.runs.specs.Runs.{◌∈◌, Within, Valid}
use Rattle.runs.specs.Sound.{Sound, StatesBelow16}
use Rattle.runs.proofs.LengthLaws.{pair_count, pairs-le-15-of-valid}
use Rattle.meaning.specs.Shows.{Carries}
use Rattle.follows.specs.Follows.{PlainKeys}
use Rattle.demand.specs.Book.{Book}

-- a claim that holds of each member holds of a member
of-each : {A : Type 0} (P : A → Type 0) {x : A} (l : List A) → Each P l → Memᴰ x l → P x
of-each P [] h x3 = elim x3 [ ]
of-each P (y ∷ l) h (Memᴰ.head e) = rw e h.0
of-each P (y ∷ l) h (Memᴰ.tail i) = of-each P l h.1 i

-- ---- the keys of a book

-- a key has at most 32 characters, each below 128
abbrev PlainKey : List ℕ → Type 0
PlainKey k = (length k ≤ 32) × T (all (λ (c : ℕ). ltb c 128) k)

-- a visible byte is below 128
low-of-visible : (k : List ℕ) → all is_visible k ≡ true → T (all (λ (c : ℕ). ltb c 128) k)
unfolding all between
low-of-visible [] h = tt
low-of-visible (c ∷ k) h =
    let a = and-true (is_visible c) _ h in
    let b = and-true (leb 0x21 c) (leb c 0x7E) a.0 in
    rw (lt-ltb c 128 (let z = leb-true c 0x7E b.1 in omega arith)) (low-of-visible k a.1)

plain-with_key : (ks : List (List ℕ)) (k : List ℕ) → Each PlainKey ks → PlainKey k → Each PlainKey (with_key ks k)
unfolding with_key
plain-with_key ks [] h p = h
plain-with_key ks (b ∷ k) h p = cond-elim (Each PlainKey) (any (same (b ∷ k)) ks) (λ y. h) (λ n. last ks h)
  where
    last : (l : List (List ℕ)) → Each PlainKey l → Each PlainKey (l ++ ((b ∷ k) ∷ []))
    last [] g = (p, tt)
    last (x ∷ l) g = (g.0, last l g.1)

plain-keys_from : (ks : List (List ℕ)) (es : List Entry) → Each PlainKey ks → Each Proper es → Each PlainKey (keys_from ks es)
unfolding keys_from
plain-keys_from ks [] h p = h
plain-keys_from ks (edge r f q k v m ∷ es) h p =
    plain-keys_from (with_key ks k) es (plain-with_key ks k h (p.0.len, low-of-visible k p.0.visible)) p.1
plain-keys_from ks (end_state r f q ∷ es) h p = plain-keys_from ks es h p.1

-- ---- what is asked of entries and of their table
module _ (es : List Entry) (k : Loading (table_of es) es) where
  empty-of-true : (l : List ℕ) → is_empty l ≡ true → l ≡ []
  unfolding is_empty
  empty-of-true [] e = refl
  empty-of-true (b ∷ l) e = true-not-false false e refl

  keyless-arr : {r q m : ℕ} {l : List ℕ} {v : ValueKind} → edge r arr q l v m ∈ es → l ≡ []
  unfolding is_arr
  keyless-arr {l = l} i = empty-of-true l (of-each Proper es k.proper i).keyed

  keyed-obj : {r q m : ℕ} {v : ValueKind} → edge r obj q [] v m ∈ es → ⊥
  unfolding is_empty is_arr
  keyed-obj i = true-not-false true (refl) (of-each Proper es k.proper i).keyed

  same-form : {a b : Entry} → a ∈ es → b ∈ es → rule_of a ≡ rule_of b → form_in a ≡ form_in b
  same-form {a} {b} i j e =
      form-of-code (form_in a) (form_in b)
      (of-each (FormKept es) es k.forms i ∙ ap (rule_form es) e ∙ sym (of-each (FormKept es) es k.forms j))

  carries-of-loading : Carries (table_of es) es
  carries-of-loading =
      record {
        holds = k.holds;
        edge_limits = λ i. let p = of-each Proper es k.proper i in record { rule = p.rule; state = p.state; kind = p.kind; next = p.next };
        end_limits = λ i. of-each Proper es k.proper i;
        arr_key = keyless-arr;
        obj_key = keyed-obj;
        one_form = same-form;
        edges_le = k.ranges.edges;
        keys_le = k.ranges.keys;
      }

  plain-of-loading : PlainKeys es
  unfolding keys_of
  plain-of-loading =
      let h = plain-keys_from [] es tt k.proper in
      record { short = λ i. (of-each PlainKey (keys_from [] es) h i).0; low = λ i. (of-each PlainKey (keys_from [] es) h i).1 }

-- ---- an accepted book
module _ {t : Table} {es : List Entry} (book : Book t es) where
  loading : Loading (table_of es) es
  loading = rw (← book.entries) (loads-kept book.bytes)

  -- the table of an accepted book keeps its entries
  pub carries-of-book : Carries t es
  carries-of-book = rw (sym book.table ∙ table-of-entries book.bytes book.loaded book.gave ∙ ap table_of book.entries) (carries-of-loading es loading)

  pub plain-of-book : PlainKeys es
  plain-of-book = plain-of-loading es loading

  -- the entries of an accepted book are sound
  pub sound-of-book : Sound es
  sound-of-book =
      record {
        keyed = keyed-obj es loading;
        ascending = λ {a} {b} i j. of-each (λ z. clash (keys_of es) a z ≡ false) es (of-each (λ u. Each (λ z. clash (keys_of es) u z ≡ false) es) es apart i) j;
      }
    where
      apart : Each (λ u. Each (λ z. clash (keys_of es) u z ≡ false) es) es
      apart = rw (← book.entries) (loads-apart book.bytes)

  -- the states of an accepted book are those from 0 to 15
  pub below-of-book : StatesBelow16 es
  below-of-book = record { next_below = λ i. (of-each Proper es loading.proper i).next }

  -- an object within a text that is valid by an accepted book has at most 15 pairs
  pub pairs-le-15-of-book : {v : Json} {ps : Pairs} → Valid es v → Within (object ps) v → pair_count ps ≤ 15
  pairs-le-15-of-book g h = pairs-le-15-of-valid sound-of-book below-of-book g h
