-- The parts of a table's bytes by number, in the order in which they stand: 0 the counts, 1 to 5 of edges the rules, states, keys, kinds and
-- nexts, 6 and 7 the low and the high bytes of their lines, 8 the bytes of keys, 9 their lengths, 10 the end states, 11 the forms.
-- Derived: `table_in-slots` of `SlotLaws` joins them to `table_in`. Assumes nothing.
use Rattle.std.specs.Prelude.{cond, List, [], ◌∷◌, ℕ, zero, suc, ◌+◌, ◌*◌, eqb, get_or, set, drop}
use Rattle.table.specs.Table.{Table}
use Rattle.table.specs.Flat.{part, paired}

-- how many bytes part k has
abbrev pub slot_size : ℕ → ℕ
slot_size k = get_or (16 ∷ 512 ∷ 512 ∷ 512 ∷ 512 ∷ 512 ∷ 512 ∷ 512 ∷ 4096 ∷ 128 ∷ 64 ∷ 32 ∷ []) k 0

-- where part k begins: part 0 at 0, each other where the one before it ends
abbrev pub slot_start : ℕ → ℕ
slot_start zero = 0
slot_start (suc k) = slot_start k + slot_size k

unfoldable pub slots : List ℕ → ℕ → List ℕ
slots l k = part l (slot_start k) (slot_size k)

-- the table that parts make
abbrev pub table_with : (ℕ → List ℕ) → Table
table_with f = record {
  edges = get_or (f 0) 0 0 + 256 * get_or (f 0) 1 0;
  keys = get_or (f 0) 2 0;
  spare = drop 3 (f 0);
  edge_rule = f 1;
  edge_state = f 2;
  edge_key = f 3;
  edge_kind = f 4;
  edge_next = f 5;
  edge_line = paired (f 6) (f 7);
  key_bytes = f 8;
  key_len = f 9;
  ends = f 10;
  forms = f 11;
}

-- the parts with byte i of part k made x
abbrev pub put_at : (ℕ → List ℕ) → ℕ → ℕ → ℕ → ℕ → List ℕ
put_at f k i x j = cond (eqb j k) (set (f j) i x) (f j)
