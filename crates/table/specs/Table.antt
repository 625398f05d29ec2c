-- The numbers of a book, which a table's bytes mean: `Flat` says where they stand, and docs/LIMITS.md what each value of a byte
-- comes to. Stated. Assumes nothing.
use Rattle.std.specs.Prelude.{List, ℕ}

pub record Table : Type 0 where
  -- how many edges there are, and how many keys
  pub edges : ℕ
  pub keys : ℕ
  -- the bytes between the counts and the first array, which mean nothing
  pub spare : List ℕ
  -- edge e, in book order: its rule, state, key number (128 for none), value kind by its code, next state, and the line of the book
  pub edge_rule : List ℕ
  pub edge_state : List ℕ
  pub edge_key : List ℕ
  pub edge_kind : List ℕ
  pub edge_next : List ℕ
  pub edge_line : List ℕ
  -- key k: its bytes from 32 k on, and how many they are
  pub key_bytes : List ℕ
  pub key_len : List ℕ
  -- bit 16 r + q: state q of rule r is an end state
  pub ends : List ℕ
  -- the form of rule r: 0 it has no lines, 1 obj, 2 arr
  pub forms : List ℕ
