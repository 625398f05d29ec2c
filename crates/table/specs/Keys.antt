-- The keys of a table and the number of a key: REQUIREMENT.md, section 3, keys are numbered by where they first stand, and section 5, 255 for an
-- unknown one. Stated. Assumes nothing.
use Rattle.std.specs.Prelude.{cond, Option, Some, None, List, [], ◌∷◌, ℕ, suc, ◌*◌, ltb, get_or, take, drop}
use Rattle.laws.specs.Lists.{same}
use Rattle.laws.specs.Tab.{tab}
use Rattle.table.specs.Table.{Table}

-- key number k, from the bytes and the lengths of all keys: as many of the bytes from 32 k on as its length says and there are
abbrev pub key_at : List ℕ → List ℕ → ℕ → List ℕ
key_at bytes lens k = take (get_or lens k 0) (drop (32 * k) bytes)

-- the keys of a table
unfoldable pub table_keys : Table → List (List ℕ)
table_keys t = tab (key_at t.key_bytes t.key_len) 0 t.keys

-- the number of a key among the keys; how many keys there are, where it is none of them
unfoldable pub number_of : List (List ℕ) → List ℕ → ℕ
number_of [] k = 0
number_of (x ∷ ks) k = cond (same x k) 0 (suc (number_of ks k))

-- a number below how many keys there are, and 255 for any other
unfoldable pub or_unknown : ℕ → ℕ → ℕ
or_unknown n keys = cond (ltb n keys) n 255

-- the number of the key of which len characters are kept; a key of more than 32 characters is none of a book
unfoldable pub key_found : Table → List ℕ → ℕ → ℕ
key_found t key len = cond (ltb 32 len) 255 (or_unknown (number_of (table_keys t) (take len key)) t.keys)

-- the number of a key in a table, where it is one of the table's keys
unfoldable pub key_index : Table → List ℕ → Option ℕ
key_index t key = cond (ltb (number_of (table_keys t) key) t.keys) (Some (number_of (table_keys t) key)) None

-- the number of the key of which len characters are kept, where it is one of the table's keys
unfoldable pub known_key : Table → List ℕ → ℕ → Option ℕ
known_key t key len = cond (ltb 32 len) None (key_index t (take len key))
