-- The bytes that a table's numbers stand in: `table_in` of `Flat` read backwards. Stated; `bytes_of-inside` of `Inverse` shows that the one undoes the other, so
-- that a table's numbers forget no byte. Assumes nothing.
use Rattle.std.specs.Prelude.{List, [], ◌∷◌, ◌++◌, ◌≡◌, ℕ, ◌/◌, ◌%◌, ◌<◌, get_or, length, map}
use Rattle.table.specs.Table.{Table}

-- 7,920 bytes
pub record TableBytes (l : List ℕ) : Type 0 where
  pub size : length l ≡ 7920
  pub small : (k : ℕ) → get_or l k 0 < 256

-- the bytes of a table
unfoldable pub bytes_of : Table → List ℕ
bytes_of t =
    (t.edges % 256 ∷ (t.edges / 256 ∷ (t.keys ∷ [])))
    ++ (t.spare
    ++ (t.edge_rule
    ++ (t.edge_state
    ++ (t.edge_key
    ++ (t.edge_kind
    ++ (t.edge_next
    ++ (map (λ n. n % 256) t.edge_line ++ (map (λ n. n / 256) t.edge_line ++ (t.key_bytes ++ (t.key_len ++ (t.ends ++ t.forms)))))))))))
