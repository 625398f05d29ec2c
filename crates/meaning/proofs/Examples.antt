-- `Carries` can be met: the table of book B keeps the entries that load gives for it, by computation. Assumes nothing.
use mathlib.Core.Bool.{Bool, true, false, not, ◌&&◌, beq}
use mathlib.Core.List.{List, [], ◌∷◌, ◌++◌}
use mathlib.Core.Path.{◌≡◌, refl}
use Prim.Native.Nat.{ℕ, ◌+◌, ◌*◌, ◌≤◌}
use lib.Dec.{T, ltb, ltb→lt, lit≤}
use lib.ListN.{get_or, replicate}
use borrow.Author.Tests.{eq-eqb}
use Rattle.laws.specs.Bits.{bit_at}
use Rattle.laws.specs.Lists.{same, all, any}
use Rattle.laws.specs.Tab.{every}
use Rattle.laws.proofs.TabLaws.{T-of-every, eq-of-every}
use Rattle.laws.proofs.TestLaws.{eq-of-beq, T-and-left, T-and-right}
use Rattle.table.specs.Kind.{code_of}
use Rattle.table.specs.Table.{Table}
use Rattle.table.specs.declared.kind.ValueKind.{ValueKind}
use Rattle.table.specs.Keys.{table_keys, number_of}
use Rattle.book.specs.Entry.{Form, obj, arr, same_form, Entry, edge, end_state, with_key, keys_from, keys_of}
use Rattle.book.specs.Load.{rule_of, form_in, changes_form, loads}
use Rattle.book.specs.Holds.{table_edges, key_number, edges_from, edges_of, form_code, rule_form, ends_at, Holds}
use Rattle.book.specs.Examples.{book_b}
use Rattle.book.proofs.Examples.{entries_b, loads-book_b}
use Rattle.laws.proofs.ListLaws.{T-of-all}
use Rattle.meaning.specs.Shows.{EdgeLimits, Carries}

-- ---- what is asked of entries, as a test

-- an entry is within its limits
within : Entry → Bool
within (edge r f q k v m) = ltb r 32 && (ltb q 16 && (ltb (code_of v) 38 && ltb m 16))
within (end_state r f q) = ltb r 32 && ltb q 16

-- an edge has a key exactly where its rule is an `obj` rule
right_key : Entry → Bool
right_key (edge r obj q [] v m) = false
right_key (edge r obj q (b ∷ k) v m) = true
right_key (edge r arr q [] v m) = true
right_key (edge r arr q (b ∷ k) v m) = false
right_key (end_state r f q) = true

-- each entry is within its limits and has a key where it needs one, and no two entries give a rule two forms
is_in_order : List Entry → Bool
is_in_order es = all within es && (all right_key es && all (λ (a : Entry). all (λ (b : Entry). not (changes_form a b)) es) es)

-- two entries of a rule that do not give it two forms have one
form-eq-of-unchanged : (a b : Entry) → T (not (changes_form a b)) → rule_of a ≡ rule_of b → form_in a ≡ form_in b
unfolding changes_form same_form
form-eq-of-unchanged a b h e = go (form_in a) (form_in b) (rw (eq-eqb (rule_of a) (rule_of b) e) at h)
  where
    go : (f g : Form) → T (not (not (same_form f g))) → f ≡ g
    go obj obj h = refl
    go obj arr h = absurd h
    go arr obj h = absurd h
    go arr arr h = refl

-- a table that holds entries which pass the test keeps them
kept-of-in_order : (t : Table) (es : List Entry) → Holds t es → t.edges ≤ 512 → t.keys ≤ 128 → T (is_in_order es) → Carries t es
unfolding is_in_order within right_key
kept-of-in_order t es h m n p = record {
  holds = h;
  edge_limits = λ {r} {q} {m} {f} {k} {v} i. limits r q m v (T-of-all within es near i);
  end_limits = λ {r} {q} {f} i. let l = T-of-all within es near i in (ltb→lt r 32 (T-and-left (ltb r 32) (ltb q 16) l), ltb→lt q 16 (T-and-right (ltb r 32) (ltb q 16) l));
  arr_key = λ {r} {q} {m} {k} {v} i. none r q m v k (T-of-all right_key es keys i);
  obj_key = λ {r} {q} {m} {v} i. T-of-all right_key es keys i;
  one_form = λ {a} {b} i j e. form-eq-of-unchanged a b (T-of-all (λ (b : Entry). not (changes_form a b)) es (T-of-all alone es (T-and-right (all right_key es) (all alone es) rest) i) j) e;
  edges_le = m;
  keys_le = n;
}
  where
    alone : Entry → Bool
    alone a = all (λ (b : Entry). not (changes_form a b)) es

    near : T (all within es)
    near = T-and-left (all within es) (all right_key es && all alone es) p

    rest : T (all right_key es && all alone es)
    rest = T-and-right (all within es) (all right_key es && all alone es) p

    keys : T (all right_key es)
    keys = T-and-left (all right_key es) (all alone es) rest

    limits : (r q m : ℕ) (v : ValueKind) → T (ltb r 32 && (ltb q 16 && (ltb (code_of v) 38 && ltb m 16))) → EdgeLimits r q v m
    limits r q m v l =
        let a = T-and-right (ltb r 32) (ltb q 16 && (ltb (code_of v) 38 && ltb m 16)) l in
        let b = T-and-right (ltb q 16) (ltb (code_of v) 38 && ltb m 16) a in
        record {
          rule = ltb→lt r 32 (T-and-left (ltb r 32) (ltb q 16 && (ltb (code_of v) 38 && ltb m 16)) l);
          state = ltb→lt q 16 (T-and-left (ltb q 16) (ltb (code_of v) 38 && ltb m 16) a);
          kind = ltb→lt (code_of v) 38 (T-and-left (ltb (code_of v) 38) (ltb m 16) b);
          next = ltb→lt m 16 (T-and-right (ltb (code_of v) 38) (ltb m 16) b);
        }

    none : (r q m : ℕ) (v : ValueKind) (k : List ℕ) → T (right_key (edge r arr q k v m)) → k ≡ []
    none r q m v [] l = refl
    none r q m v (b ∷ k) l = absurd l

-- ---- book B

-- the table of book B; the entries of an array that no edge, key or rule uses are left out, and read as 0
abbrev table_b : Table
table_b = record {
  edges = 5;
  keys = 2;
  spare = [];
  edge_rule = 0 ∷ 0 ∷ 1 ∷ 2 ∷ 2 ∷ [];
  edge_state = 0 ∷ 1 ∷ 0 ∷ 0 ∷ 1 ∷ [];
  edge_key = 0 ∷ 1 ∷ 128 ∷ 128 ∷ 128 ∷ [];
  edge_kind = 7 ∷ 3 ∷ 8 ∷ 5 ∷ 5 ∷ [];
  edge_next = 1 ∷ 2 ∷ 0 ∷ 1 ∷ 2 ∷ [];
  edge_line = 2 ∷ 3 ∷ 5 ∷ 7 ∷ 8 ∷ [];
  -- `corners`, and from byte 32 on `name`
  key_bytes = (99 ∷ 111 ∷ 114 ∷ 110 ∷ 101 ∷ 114 ∷ 115 ∷ []) ++ (replicate 25 0 ++ (110 ∷ 97 ∷ 109 ∷ 101 ∷ []));
  key_len = 7 ∷ 4 ∷ [];
  ends = 4 ∷ 0 ∷ 1 ∷ 0 ∷ 4 ∷ [];
  forms = 1 ∷ 2 ∷ 2 ∷ [];
}

holds-b : Holds table_b entries_b
unfolding table_edges table_keys key_number edges_from edges_of form_code rule_form ends_at rule_of form_in with_key keys_from keys_of number_of same any code_of bit_at
holds-b = record {
  keyed = refl;
  edged = refl;
  formed = λ r l. eq-of-every (λ (r : ℕ). get_or table_b.forms r 0) (λ (r : ℕ). rule_form entries_b r) 32 tt r l;
  ended = λ r q l g. eq-of-beq (bit_at table_b.ends (16 * r + q)) (any (ends_at r q) entries_b) (T-of-every (right r) 16 (T-of-every (λ (r : ℕ). every (right r) 0 16) 32 tt r l) q g);
}
  where
    right : ℕ → ℕ → Bool
    right r q = beq (bit_at table_b.ends (16 * r + q)) (any (ends_at r q) entries_b)

kept-entries_b : Carries table_b entries_b
unfolding is_in_order within right_key all changes_form same_form rule_of form_in code_of
kept-entries_b = kept-of-in_order table_b entries_b holds-b (lit≤ tt) (lit≤ tt) tt

-- the table of book B keeps the entries that load gives for the book
pub kept_b : Carries table_b (loads book_b).entries
kept_b = rw loads-book_b kept-entries_b
