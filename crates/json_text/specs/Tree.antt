-- What a JSON text says: RFC 8259, sections 3 to 7; REQUIREMENT.md, section 2. A tree with the resolved characters of strings and keys, the bytes of
-- numbers as written, elements and pairs in their order. Stated. Assumes nothing.
use Rattle.std.specs.Prelude.{List, ℕ}

-- the three words
pub data Word : Type 0 where
  null_word true_word false_word : Word

mutual
  pub data Json : Type 0 where
    word : Word → Json
    string : List ℕ → Json
    number : List ℕ → Json
    array : Values → Json
    object : Pairs → Json

  -- the elements of an array
  pub data Values : Type 0 where
    no_values : Values
    values : Json → Values → Values

  -- the pairs of an object: key, value, the pairs after them
  pub data Pairs : Type 0 where
    no_pairs : Pairs
    pairs : List ℕ → Json → Pairs → Pairs
