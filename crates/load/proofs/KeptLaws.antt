-- A table that holds the entries so far holds, after one more is taken, that entry too; and it is refused as on paper. Assumes nothing.
use mathlib.Core.Bool.{Bool, true, false, not, cond, ◌&&◌, ◌||◌}
use mathlib.Core.List.{List, [], ◌∷◌, ◌++◌, append-nil}
use mathlib.Core.Path.{◌≡◌, refl, sym, ap, ◌∙◌}
use Prim.Native.Nat.{ℕ, zero, suc, ◌+◌, ◌*◌, ◌<◌}
use native.Mathlib.Omega.{arith}
use lib.Dec.{eqb, ltb, leb}
use lib.ListN.{length, get_or, set, replicate, length-append}
use lib.Seq.{get_or-set_same, get_or-set_other}
use borrow.Author.Tests.{eq-eqb, ne_eqb, eqb-true, eqb-false, leb-true, leb-false, lt-ltb, le-ltb}
use Rattle.laws.specs.Bits.{bit_at, set_bit}
use Rattle.laws.specs.Lists.{same, any}
use Rattle.laws.proofs.BitLaws.{bit_at-set_bit, bit_at-zeros}
use Rattle.table.specs.Table.{Table}
use Rattle.table.specs.Flat.{empty_table}
use Rattle.table.specs.declared.kind.ValueKind.{ValueKind}
use Rattle.table.specs.Kind.{code_of}
use Rattle.table.specs.Keys.{table_keys}
use Rattle.table.proofs.KeyLaws.{length-table_keys}
use Rattle.table.proofs.SlotLaws.{empty_table-parts}
use Rattle.book.specs.Entry.{Form, same_form, Entry, edge, end_state, with_key as addedKey, keys_from, keys_of}
use Rattle.book.specs.Text.{is_empty}
use Rattle.book.specs.Load.{rule_of, form_in, same_entry, changes_form, is_edge, edge_count, has_too_many, fault_of}
use Rattle.book.specs.Holds.{table_edges, key_number, edges_from, edges_of, form_code, rule_form, ends_at, Holds}
use Rattle.book.proofs.KeyLaws.{any_last, number_of-new, number_of-eqb, key_number-with_key, key-in-with_key, add_key-append, keys_of-last}
use Rattle.book.proofs.HoldLaws.{Each, each_map, each_append, KeyAmong, KeyIn, key_in-append, edges_of-last, form_code-some, same_form-codes, form-of-code, rule_form-last, FormKept, changes_form-rule_form}
use Rattle.book.proofs.TruthLaws.{true-not-false, or-false, or-true, eqb-sym}
use Rattle.table.specs.declared.flat.Cell.{Cell}
use Rattle.store.specs.Proper.{is_arr, ProperEdge, Proper}
use Rattle.load.specs.Ranges.{Ranges}
use Rattle.table.specs.Cells.{with_end, with_edge, with_key}
use Rattle.store.specs.Store.{Taken, has_cell, is_new, form_changes, taken, cell_for, take_edge, take_end, take_entry}
use Rattle.load.proofs.RangeLaws.{ranges-empty, ranges-take_entry}
use Rattle.load.proofs.TableLaws.{Sized, sized-empty, sized-with_end, sized-with_edge, sized-with_key, table_edges-with_edge, length-table_edges, same_cell, has_cell-table_edges, table_keys-with_key, table_keys-with_edge, table_edges-with_key, table_keys-with_end, table_edges-with_end}

-- what is kept as a book is read: the table holds the entries, and they are such as lines say
pub record Loading (t : Table) (es : List Entry) : Type 0 where
  pub sized : Sized t
  pub ranges : Ranges t
  pub holds : Holds t es
  pub proper : Each Proper es
  pub forms : Each (FormKept es) es
  pub keys : Each (KeyIn (keys_of es)) es

-- ---- forms: f is the form that a rule has, c that of one line more
module _ (f c : ℕ) (h : form_changes f c ≡ false) where
  form-now : cond (eqb f 0) c f ≡ c
  unfolding form_changes
  form-now = go (eqb f 0) (eqb f c) refl refl h
    where
      go : (a b : Bool) → eqb f 0 ≡ a → eqb f c ≡ b → (not a && not b) ≡ false → cond a c f ≡ c
      go true b p q z = refl
      go false true p q z = eqb-true f c q
      go false false p q z = true-not-false true refl z

  form-same : eqb f 0 ≡ false → f ≡ c
  form-same e = rw e at form-now

module _ (es : List Entry) (e : Entry) where
  form_kept-last : (x : Entry) → FormKept es x → FormKept (es ++ (e ∷ [])) x
  form_kept-last x p =
      let z : eqb (rule_form es (rule_of x)) 0 ≡ false = sym (ap (λ (n : ℕ). eqb n 0) p) ∙ form_code-some (form_in x) in
      p ∙ sym (rule_form-last es e (rule_of x) ∙ rw z)

  key_in-last : (x : Entry) → KeyIn (keys_of es) x → KeyIn (keys_of (es ++ (e ∷ []))) x
  key_in-last x p =
      let a = add_key-append (keys_of es) e in
      rw (keys_of-last es e ∙ a.1) (key_in-append (keys_of es) a.0 x p)

  module _ (h : form_changes (rule_form es (rule_of e)) (form_code (form_in e)) ≡ false) where
    form_kept-new : FormKept (es ++ (e ∷ [])) e
    form_kept-new = sym (rule_form-last es e (rule_of e) ∙ rw (eq-eqb (rule_of e) (rule_of e) refl) (form-now (rule_form es (rule_of e)) (form_code (form_in e)) h))

    forms-last : Each (FormKept es) es → Each (FormKept (es ++ (e ∷ []))) (es ++ (e ∷ []))
    forms-last k = each_append (FormKept (es ++ (e ∷ []))) es (e ∷ []) (each_map (FormKept es) _ form_kept-last es k) (form_kept-new, tt)

    -- the forms of a table after the entry
    rule_form-set : (forms : List ℕ) → length forms ≡ 32 → rule_of e < 32 → (n : ℕ) → get_or forms n 0 ≡ rule_form es n
        → get_or (set forms (rule_of e) (form_code (form_in e))) n 0 ≡ rule_form (es ++ (e ∷ [])) n
    rule_form-set forms l r n q = go (eqb (rule_of e) n) refl ∙ sym (rule_form-last es e n)
      where
        none : (f : ℕ) (b : Bool) → eqb f 0 ≡ b → f ≡ cond b 0 f
        none f true z = eqb-true f 0 z
        none f false z = refl

        go : (b : Bool) → eqb (rule_of e) n ≡ b
            → get_or (set forms (rule_of e) (form_code (form_in e))) n 0 ≡ cond (eqb (rule_form es n) 0) (cond b (form_code (form_in e)) 0) (rule_form es n)
        go true z =
            let w : rule_of e ≡ n = eqb-true (rule_of e) n z in
            rw (sym w) (get_or-set_same forms (rule_of e) (form_code (form_in e)) 0 (omega arith) ∙ sym (form-now (rule_form es (rule_of e)) (form_code (form_in e)) h))
        go false z =
            get_or-set_other forms (rule_of e) n (form_code (form_in e)) 0 (λ y. eqb-false (rule_of e) n z (sym y)) ∙ q ∙ none (rule_form es n) (eqb (rule_form es n) 0) refl

    -- entries of one rule have one form
    form-like : (x : Entry) → FormKept es x → rule_of x ≡ rule_of e → form_in x ≡ form_in e
    form-like x p r =
        let q : form_code (form_in x) ≡ rule_form es (rule_of e) = p ∙ ap (rule_form es) r in
        let z : eqb (rule_form es (rule_of e)) 0 ≡ false = sym (ap (λ (n : ℕ). eqb n 0) q) ∙ form_code-some (form_in x) in
        form-of-code (form_in x) (form_in e) (q ∙ form-same (rule_form es (rule_of e)) (form_code (form_in e)) h z)

-- ---- keys

-- a key is added where it is new
added_key-is_new : (ks : List (List ℕ)) (k : List ℕ) (m : ℕ) → m ≡ length ks → addedKey ks k ≡ cond (is_new (length k) (key_number ks k) m) (ks ++ (k ∷ [])) ks
unfolding addedKey is_new key_number
added_key-is_new ks [] m e = refl
added_key-is_new ks (b ∷ k) m e = rw (ne_eqb (suc (length k)) 0 (λ z. omega arith), e, number_of-new ks (b ∷ k)) (go (any (same (b ∷ k)) ks))
  where
    go : (c : Bool) → cond c ks (ks ++ ((b ∷ k) ∷ [])) ≡ cond (not c) (ks ++ ((b ∷ k) ∷ [])) ks
    go true = refl
    go false = refl

key-among-added : (ks : List (List ℕ)) (k : List ℕ) → KeyAmong (addedKey ks k) k
key-among-added ks [] = tt
key-among-added ks (b ∷ k) = key-in-with_key ks b k

-- numbers tell the keys of edges of one form apart
key_number-eqb : (ks : List (List ℕ)) (a b : List ℕ) → is_empty a ≡ is_empty b → KeyAmong ks b → eqb (key_number ks a) (key_number ks b) ≡ same a b
unfolding key_number is_empty same
key_number-eqb ks [] [] e h = refl
key_number-eqb ks [] (y ∷ b) e h = true-not-false true refl e
key_number-eqb ks (x ∷ a) [] e h = true-not-false false e refl
key_number-eqb ks (x ∷ a) (y ∷ b) e h = number_of-eqb ks (x ∷ a) (y ∷ b) h

-- ---- refusal 7
abbrev Like : List (List ℕ) → ℕ → Form → Entry → Type 0
Like ks r f x = Proper x × KeyIn ks x × (rule_of x ≡ r → form_in x ≡ f)

pub repeated-edge : (ks : List (List ℕ)) (r : ℕ) (f : Form) (q : ℕ) (k : List ℕ) (v : ValueKind) (m n : ℕ) (l : List Entry) → is_empty k ≡ is_arr f → Each (Like ks r f) l
    → any (same_cell (record { rule = r; state = q; key = key_number ks k; kind = code_of v; next = m })) (edges_from ks n l) ≡ any (same_entry (edge r f q k v m)) l
unfolding any edges_from same_cell same_entry rule_of form_in
repeated-edge ks r f q k v m n [] i h = refl
repeated-edge ks r f q k v m n (edge r' f' q' k' v' m' ∷ l) i h = rw (repeated-edge ks r f q k v m (suc n) l i h.1) (go (eqb r r') refl)
  where
    rest : Bool
    rest = any (same_entry (edge r f q k v m)) l

    go : (b : Bool) → eqb r r' ≡ b
        → ((b && (eqb q q' && (eqb (key_number ks k) (key_number ks k') && (eqb (code_of v) (code_of v') && eqb m m')))) || rest)
        ≡ ((b && (same_form f f' && (eqb q q' && (same k k' && (eqb (code_of v) (code_of v') && eqb m m'))))) || rest)
    go true e =
        let u : f' ≡ f = h.0.2 (sym (eqb-true r r' e)) in
        let w : is_empty k ≡ is_empty k' = i ∙ sym (h.0.0.keyed ∙ ap is_arr u) in
        let z : same_form f f' ≡ true = same_form-codes f f' ∙ eq-eqb (form_code f) (form_code f') (ap form_code (sym u)) in
        rw (z, key_number-eqb ks k k' w h.0.1)
    go false e = refl
repeated-edge ks r f q k v m n (end_state r' f' q' ∷ l) i h = repeated-edge ks r f q k v m (suc n) l i h.1

repeated-end : (r : ℕ) (f : Form) (q : ℕ) (l : List Entry) → Each (λ x. rule_of x ≡ r → form_in x ≡ f) l → any (ends_at r q) l ≡ any (same_entry (end_state r f q)) l
unfolding any ends_at same_entry rule_of form_in
repeated-end r f q [] h = refl
repeated-end r f q (edge r' f' q' k' v' m' ∷ l) h = repeated-end r f q l h.1
repeated-end r f q (end_state r' f' q' ∷ l) h = rw (repeated-end r f q l h.1, eqb-sym r' r, eqb-sym q' q) (go (eqb r r') refl)
  where
    rest : Bool
    rest = any (same_entry (end_state r f q)) l

    go : (b : Bool) → eqb r r' ≡ b → ((b && eqb q q') || rest) ≡ ((b && (same_form f f' && eqb q q')) || rest)
    go true e =
        let u : f' ≡ f = h.0 (sym (eqb-true r r' e)) in
        let z : same_form f f' ≡ true = same_form-codes f f' ∙ eq-eqb (form_code f) (form_code f') (ap form_code (sym u)) in
        rw z
    go false e = refl

-- ---- refusal 5
length-edges_from : (ks : List (List ℕ)) (n : ℕ) (es : List Entry) → length (edges_from ks n es) ≡ edge_count es
unfolding edges_from edge_count is_edge
length-edges_from ks n [] = refl
length-edges_from ks n (edge r f q k v m ∷ es) = ap suc (length-edges_from ks (suc n) es)
length-edges_from ks n (end_state r f q ∷ es) = length-edges_from ks (suc n) es

leb-ltb-suc : (m k : ℕ) → leb m k ≡ ltb m (k + 1)
leb-ltb-suc m k = go (leb m k) refl
  where
    go : (b : Bool) → leb m k ≡ b → b ≡ ltb m (k + 1)
    go true e = let l = leb-true m k e in sym (lt-ltb m (k + 1) (omega arith))
    go false e = let l = leb-false m k e in sym (le-ltb m (k + 1) (omega arith))

module _ (t : Table) (es : List Entry) (kept : Loading t es) where
  edges-count : t.edges ≡ edge_count es
  unfolding edges_of
  edges-count = sym (length-table_edges t) ∙ ap length kept.holds.edged ∙ length-edges_from (keys_of es) 2 es

  keys-count : t.keys ≡ length (keys_of es)
  keys-count = sym (length-table_keys t) ∙ ap length kept.holds.keyed

  keys-full : (k : List ℕ) → (is_new (length k) (key_number (table_keys t) k) t.keys && leb 128 t.keys) ≡ ltb 128 (length (addedKey (keys_of es) k))
  keys-full k = rw (kept.holds.keyed, added_key-is_new (keys_of es) k t.keys keys-count) (go (is_new (length k) (key_number (keys_of es) k) t.keys))
    where
      go : (b : Bool) → (b && leb 128 t.keys) ≡ ltb 128 (length (cond b (keys_of es ++ (k ∷ [])) (keys_of es)))
      go true =
          let z : length (keys_of es ++ (k ∷ [])) ≡ t.keys + 1 = length-append (keys_of es) (k ∷ []) ∙ ap (λ (n : ℕ). n + 1) (sym keys-count) in
          rw z (leb-ltb-suc 128 t.keys)
      go false = rw (sym keys-count) (sym (le-ltb 128 t.keys kept.ranges.keys))

  -- refusal 6 on paper and over the table
  forms-same : (e : Entry) → rule_of e < 32 → form_changes (get_or t.forms (rule_of e) 0) (form_code (form_in e)) ≡ any (changes_form e) es
  unfolding form_changes
  forms-same e h = rw (kept.holds.formed (rule_of e) h) (sym (changes_form-rule_form es e kept.forms))

  -- an entry that changes no form has the form of its rule
  module _ (e : Entry) (h : rule_of e < 32) (same-form : form_changes (get_or t.forms (rule_of e) 0) (form_code (form_in e)) ≡ false) where
    unchanged : form_changes (rule_form es (rule_of e)) (form_code (form_in e)) ≡ false
    unchanged = sym (ap (λ (n : ℕ). form_changes n (form_code (form_in e))) (kept.holds.formed (rule_of e) h)) ∙ same-form

    alike : Each (λ x. rule_of x ≡ rule_of e → form_in x ≡ form_in e) es
    alike = each_map (FormKept es) _ (form-like es e unchanged) es kept.forms

    like : Each (Like (keys_of es) (rule_of e) (form_in e)) es
    like = zip es kept.proper kept.keys alike
      where
        zip : (l : List Entry) → Each Proper l → Each (KeyIn (keys_of es)) l → Each (λ x. rule_of x ≡ rule_of e → form_in x ≡ form_in e) l
            → Each (Like (keys_of es) (rule_of e) (form_in e)) l
        zip [] a b c = tt
        zip (x ∷ l) a b c = ((a.0, b.0, c.0), zip l a.1 b.1 c.1)

    -- what does not depend on the kind of entry
    forms-now : (n : ℕ) → n < 32 → get_or (set t.forms (rule_of e) (form_code (form_in e))) n 0 ≡ rule_form (es ++ (e ∷ [])) n
    forms-now n l = rule_form-set es e unchanged t.forms kept.sized.forms h n (kept.holds.formed n l)

    proper-now : Proper e → Each Proper (es ++ (e ∷ []))
    proper-now p = each_append Proper es (e ∷ []) kept.proper (p, tt)

    keys-now : KeyIn (keys_of (es ++ (e ∷ []))) e → Each (KeyIn (keys_of (es ++ (e ∷ [])))) (es ++ (e ∷ []))
    keys-now k = each_append (KeyIn (keys_of (es ++ (e ∷ [])))) es (e ∷ []) (each_map (KeyIn (keys_of es)) _ (key_in-last es e) es kept.keys) (k, tt)

  -- ---- an end line
  module _ (r : ℕ) (f : Form) (q : ℕ) (p : (r < 32) × (q < 16)) (same-form : form_changes (get_or t.forms r 0) (form_code f) ≡ false) where
    end-repeated : bit_at t.ends (16 * r + q) ≡ any (same_entry (end_state r f q)) es
    unfolding rule_of form_in
    end-repeated = kept.holds.ended r q p.0 p.1 ∙ repeated-end r f q es (alike (end_state r f q) p.0 same-form)

    end-bits : (a b : ℕ) → a < 32 → b < 16 → bit_at (set_bit t.ends (16 * r + q)) (16 * a + b) ≡ any (ends_at a b) (es ++ (end_state r f q ∷ []))
    unfolding ends_at
    end-bits a b ha hb =
        let z = kept.sized.ends in
        let u = p.0 in
        let v = p.1 in
        bit_at-set_bit t.ends (16 * r + q) (16 * a + b) (omega arith)
        ∙ rw (kept.holds.ended a b ha hb, any_last (ends_at a b) es (end_state r f q)) (go (eqb r a) (eqb q b) refl refl)
      where
        rest : Bool
        rest = any (ends_at a b) es

        go : (x y : Bool) → eqb r a ≡ x → eqb q b ≡ y → (eqb (16 * r + q) (16 * a + b) || rest) ≡ (rest || (x && y))
        go true true e g =
            let i = eqb-true r a e in
            let j = eqb-true q b g in
            rw (eq-eqb (16 * r + q) (16 * a + b) (omega arith)) (sym (or-true rest))
        go true false e g =
            let i = eqb-true r a e in
            let j = eqb-false q b g in
            rw (ne_eqb (16 * r + q) (16 * a + b) (λ z. j (omega arith))) (sym (or-false rest))
        go false y e g =
            let i = eqb-false r a e in
            let u = p.1 in
            rw (ne_eqb (16 * r + q) (16 * a + b) (λ z. i (omega arith))) (sym (or-false rest))

    kept-end : Ranges (with_end t r (form_code f) q) → Loading (with_end t r (form_code f) q) (es ++ (end_state r f q ∷ []))
    unfolding rule_of form_in edges_from
    kept-end w = record {
      sized = sized-with_end t kept.sized r (form_code f) q;
      ranges = w;
      holds = record {
        keyed = table_keys-with_end t r (form_code f) q ∙ kept.holds.keyed ∙ sym (keys_of-last es (end_state r f q));
        edged =
            table_edges-with_end t r (form_code f) q ∙ kept.holds.edged
            ∙ sym (edges_of-last es (end_state r f q) kept.keys ∙ append-nil (edges_of es));
        formed = forms-now (end_state r f q) p.0 same-form;
        ended = end-bits;
      };
      proper = proper-now (end_state r f q) p.0 same-form p;
      forms = forms-last es (end_state r f q) (unchanged (end_state r f q) p.0 same-form) kept.forms;
      keys = keys-now (end_state r f q) p.0 same-form tt;
    }

  -- ---- an edge
  module _ (n r : ℕ) (f : Form) (q : ℕ) (k : List ℕ) (v : ValueKind) (m : ℕ) (p : ProperEdge r f q k v m)
      (same-form : form_changes (get_or t.forms r 0) (form_code f) ≡ false) where
    edge-repeated : has_cell t (cell_for t r q k (code_of v) m) ≡ any (same_entry (edge r f q k v m)) es
    unfolding edges_of rule_of form_in
    edge-repeated =
        has_cell-table_edges t (cell_for t r q k (code_of v) m)
        ∙ rw (kept.holds.edged, kept.holds.keyed) (repeated-edge (keys_of es) r f q k v m 2 es p.keyed (like (edge r f q k v m) p.rule same-form))

    -- u is the table with the key of the edge
    kept-edge : (u : Table) → Sized u → u.edges < 512 → table_edges u ≡ edges_of es → table_keys u ≡ addedKey (keys_of es) k → u.forms ≡ t.forms → u.ends ≡ t.ends
        → n ≡ 2 + length es → Ranges (with_edge u (form_code f) (cell_for t r q k (code_of v) m) n)
        → Loading (with_edge u (form_code f) (cell_for t r q k (code_of v) m) n) (es ++ (edge r f q k v m ∷ []))
    unfolding rule_of form_in edges_from ends_at
    kept-edge u su lu eu ku fu nu ln w = record {
      sized = sized-with_edge u su (form_code f) (cell_for t r q k (code_of v) m) n;
      ranges = w;
      holds = record {
        keyed = table_keys-with_edge u (form_code f) (cell_for t r q k (code_of v) m) n ∙ ku ∙ sym (keys_of-last es (edge r f q k v m));
        edged =
            table_edges-with_edge u (form_code f) (cell_for t r q k (code_of v) m) n su lu
            ∙ rw (eu, kept.holds.keyed, ln) (sym (edges_of-last es (edge r f q k v m) kept.keys ∙ rw (key_number-with_key (keys_of es) k)));
        formed = λ i l. rw fu (forms-now (edge r f q k v m) p.rule same-form i l);
        ended = λ a b ha hb.
            rw nu (kept.holds.ended a b ha hb ∙ sym (any_last (ends_at a b) es (edge r f q k v m) ∙ or-false (any (ends_at a b) es)));
      };
      proper = proper-now (edge r f q k v m) p.rule same-form p;
      forms = forms-last es (edge r f q k v m) (unchanged (edge r f q k v m) p.rule same-form) kept.forms;
      keys = keys-now (edge r f q k v m) p.rule same-form (rw (keys_of-last es (edge r f q k v m)) (key-among-added (keys_of es) k));
    }

-- ---- one entry
edge-shape : (t x y : Table) (c7 a w k : Bool) → (cond c7 (taken 7 t) (cond a (taken 5 t) (cond w (cond k (taken 5 t) (taken 0 x)) (taken 0 y)))).fault
    ≡ cond c7 7 (cond (a || (w && k)) 5 0)
edge-shape t x y true a w k = refl
edge-shape t x y false true w k = refl
edge-shape t x y false false true true = refl
edge-shape t x y false false true false = refl
edge-shape t x y false false false k = refl

-- an entry is refused over the table as on paper
pub fault-same : (n : ℕ) (t : Table) (es : List Entry) (e : Entry) → Loading t es → Proper e → (take_entry n t e).fault ≡ fault_of es e
unfolding take_entry take_edge take_end fault_of has_too_many is_edge rule_of form_in
fault-same n t es (edge r f q k v m) kept p = rw (sym (forms-same t es kept (edge r f q k v m) p.rule)) (go (form_changes (get_or t.forms r 0) (form_code f)) refl)
  where
    e : Entry
    e = edge r f q k v m

    c : Cell
    c = cell_for t r q k (code_of v) m

    go : (b : Bool) → form_changes (get_or t.forms r 0) (form_code f) ≡ b
        → (cond b (taken 6 t)
        (cond (has_cell t c) (taken 7 t)
        (cond (leb 512 t.edges) (taken 5 t)
        (cond (is_new (length k) (key_number (table_keys t) k) t.keys)
        (cond (leb 128 t.keys) (taken 5 t) (taken 0 (with_edge (with_key t k) (form_code f) c n))) (taken 0 (with_edge t (form_code f) c n)))))).fault
        ≡ cond b 6 (cond (any (same_entry e) es) 7 (cond (leb 512 (edge_count es) || ltb 128 (length (keys_of (es ++ (e ∷ []))))) 5 0))
    go true z = refl
    go false z =
        edge-shape t (with_edge (with_key t k) (form_code f) c n) (with_edge t (form_code f) c n) (has_cell t c) (leb 512 t.edges)
        (is_new (length k) (key_number (table_keys t) k) t.keys) (leb 128 t.keys)
        ∙ rw (edge-repeated t es kept n r f q k v m p z, keys-full t es kept k, edges-count t es kept, keys_of-last es e)
fault-same n t es (end_state r f q) kept p = rw (sym (forms-same t es kept (end_state r f q) p.0)) (go (form_changes (get_or t.forms r 0) (form_code f)) refl)
  where
    shape : (x : Table) (b : Bool) → (cond b (taken 7 t) (taken 0 x)).fault ≡ cond b 7 0
    shape x true = refl
    shape x false = refl

    go : (b : Bool) → form_changes (get_or t.forms r 0) (form_code f) ≡ b
        → (cond b (taken 6 t) (cond (bit_at t.ends (16 * r + q)) (taken 7 t) (taken 0 (with_end t r (form_code f) q)))).fault
        ≡ cond b 6 (cond (any (same_entry (end_state r f q)) es) 7 0)
    go true z = refl
    go false z = shape (with_end t r (form_code f) q) (bit_at t.ends (16 * r + q)) ∙ rw (end-repeated t es kept r f q p z)

zero-not : {A : Type 0} (k : ℕ) → suc k ≡ 0 → A
zero-not k e = absurd (omega arith)

-- an entry that is taken is held
pub entry_kept : (n : ℕ) (t : Table) (es : List Entry) (e : Entry) → n ≡ 2 + length es → Loading t es → Proper e → (take_entry n t e).fault ≡ 0
    → Loading (take_entry n t e).table (es ++ (e ∷ []))
unfolding take_entry take_edge take_end
entry_kept n t es (edge r f q k v m) ln kept p =
    go (form_changes (get_or t.forms r 0) (form_code f)) (has_cell t c) (leb 512 t.edges) (is_new (length k) (key_number (table_keys t) k) t.keys) (leb 128 t.keys)
    refl refl refl refl (ranges-take_entry n t (edge r f q k v m) kept.ranges p)
  where
    c : Cell
    c = cell_for t r q k (code_of v) m

    added : (b : Bool) → is_new (length k) (key_number (table_keys t) k) t.keys ≡ b → addedKey (keys_of es) k ≡ cond b (keys_of es ++ (k ∷ [])) (keys_of es)
    added b z =
        added_key-is_new (keys_of es) k t.keys (keys-count t es kept)
        ∙ ap (λ (x : Bool). cond x (keys_of es ++ (k ∷ [])) (keys_of es)) (ap (λ (ks : List (List ℕ)). is_new (length k) (key_number ks k) t.keys) (sym kept.holds.keyed) ∙ z)

    result : Bool → Bool → Bool → Bool → Bool → Taken
    result c6 c7 a w k128 =
        cond c6 (taken 6 t)
        (cond c7 (taken 7 t)
        (cond a (taken 5 t)
        (cond w (cond k128 (taken 5 t) (taken 0 (with_edge (with_key t k) (form_code f) c n))) (taken 0 (with_edge t (form_code f) c n)))))

    go : (c6 c7 a w k128 : Bool) → form_changes (get_or t.forms r 0) (form_code f) ≡ c6 → leb 512 t.edges ≡ a
        → is_new (length k) (key_number (table_keys t) k) t.keys ≡ w → leb 128 t.keys ≡ k128
        → Ranges (result c6 c7 a w k128).table → (result c6 c7 a w k128).fault ≡ 0 → Loading (result c6 c7 a w k128).table (es ++ (edge r f q k v m ∷ []))
    go true c7 a w k128 z x y s lim e = zero-not 5 e
    go false true a w k128 z x y s lim e = zero-not 6 e
    go false false true w k128 z x y s lim e = zero-not 4 e
    go false false false true true z x y s lim e = zero-not 4 e
    go false false false true false z x y s lim e =
        kept-edge t es kept n r f q k v m p z (with_key t k) (sized-with_key t kept.sized k) (leb-false 512 t.edges x)
        (table_edges-with_key t k ∙ kept.holds.edged)
        (table_keys-with_key t k kept.sized kept.ranges (leb-false 128 t.keys s) p.len ∙ ap (λ (ks : List (List ℕ)). ks ++ (k ∷ [])) kept.holds.keyed ∙ sym (added true y))
        refl refl ln lim
    go false false false false k128 z x y s lim e =
        kept-edge t es kept n r f q k v m p z t kept.sized (leb-false 512 t.edges x) kept.holds.edged (kept.holds.keyed ∙ sym (added false y)) refl refl ln lim
entry_kept n t es (end_state r f q) ln kept p =
    go (form_changes (get_or t.forms r 0) (form_code f)) (bit_at t.ends (16 * r + q)) refl (ranges-take_entry n t (end_state r f q) kept.ranges p)
  where
    result : Bool → Bool → Taken
    result c6 c7 = cond c6 (taken 6 t) (cond c7 (taken 7 t) (taken 0 (with_end t r (form_code f) q)))

    go : (c6 c7 : Bool) → form_changes (get_or t.forms r 0) (form_code f) ≡ c6 → Ranges (result c6 c7).table → (result c6 c7).fault ≡ 0
        → Loading (result c6 c7).table (es ++ (end_state r f q ∷ []))
    go true c7 z lim e = zero-not 5 e
    go false true z lim e = zero-not 6 e
    go false false z lim e = kept-end t es kept r f q p z lim

-- ---- no entries
zeros : (n k : ℕ) → ◌≡◌ {A = ℕ} (get_or (replicate n 0) k 0) 0
zeros zero k = refl
zeros (suc n) zero = refl
zeros (suc n) (suc k) = zeros n k

holds-empty : Holds empty_table []
unfolding table_keys table_edges keys_of keys_from edges_of edges_from rule_form any
holds-empty =
    rw empty_table-parts
    (record { keyed = refl; edged = refl; formed = λ r l. zeros 32 r; ended = λ r q l m. bit_at-zeros 64 (16 * r + q) })

pub kept-empty : Loading empty_table []
kept-empty = record {
  sized = sized-empty;
  ranges = ranges-empty;
  holds = holds-empty;
  proper = tt;
  forms = tt;
  keys = tt;
}
