-- A table as the bytes that a caller lends, docs/LIMITS.md: where each of its arrays stands, and the table that the bytes mean. Stated. Assumes nothing.
use Rattle.std.specs.Prelude.{List, [], ◌∷◌, ℕ, ◌+◌, ◌*◌, get_or, take, drop, replicate}
use Rattle.table.specs.Table.{Table}

-- n bytes from place a on
unfoldable pub part : List ℕ → ℕ → ℕ → List ℕ
part l a n = take n (drop a l)

-- numbers of two bytes, the low ones and the high ones in lists of their own
unfoldable pub paired : List ℕ → List ℕ → List ℕ
paired [] hs = []
paired (a ∷ ls) [] = []
paired (a ∷ ls) (h ∷ hs) = (a + 256 * h) ∷ paired ls hs

-- the table of 7,920 bytes
unfoldable pub table_in : List ℕ → Table
table_in l = record {
  edges = get_or l 0 0 + 256 * get_or l 1 0;
  keys = get_or l 2 0;
  spare = part l 3 13;
  edge_rule = part l 16 512;
  edge_state = part l 528 512;
  edge_key = part l 1040 512;
  edge_kind = part l 1552 512;
  edge_next = part l 2064 512;
  edge_line = paired (part l 2576 512) (part l 3088 512);
  key_bytes = part l 3600 4096;
  key_len = part l 7696 128;
  ends = part l 7824 64;
  forms = part l 7888 32;
}

-- the empty table, which a refused book has: all bytes 0
unfoldable pub empty_table : Table
empty_table = table_in (replicate 7920 0)
