-- The meaning that is the tree itself. What is known of an open value is what it holds so far, as a function of what is still to come.
-- Derived: by `meaning-tree` in proofs/ the meaning of a tree is that tree. Assumes nothing.
use Rattle.std.specs.Prelude.{List, [], ◌∷◌, ℕ}
use Rattle.json_text.specs.Tree.{Json, Values, Pairs, word, string, number, array, object, no_values, values, no_pairs, pairs}
use Rattle.json_text.specs.Meaning.{Meaning}

-- the characters of a string or the bytes of a number so far
abbrev pub OpenList : Type 0
OpenList = List ℕ → List ℕ

abbrev none_yet : OpenList
none_yet cs = cs

abbrev one_more : OpenList → ℕ → OpenList
one_more d c cs = d (c ∷ cs)

-- an object so far: the key read last, and the pairs before it
pub record OpenObject : Type 0 where
  pub key : List ℕ
  pub before : Pairs → Pairs

abbrev pub tree_meaning : Meaning
tree_meaning =
    record {
      Result = Json;
      InString = OpenList;
      InNumber = OpenList;
      InArray = Values → Values;
      InObject = OpenObject;
      of_word = word;
      string_start = none_yet;
      string_char = one_more;
      of_string = λ (d : OpenList). string (d []);
      number_start = none_yet;
      number_byte = one_more;
      of_number = λ (d : OpenList). number (d []);
      array_start = λ (vs : Values). vs;
      array_element = λ (d : Values → Values) (v : Json) (vs : Values). d (values v vs);
      of_array = λ (d : Values → Values). array (d no_values);
      object_start = record { key = []; before = λ (ps : Pairs). ps };
      object_key = λ (o : OpenObject) (k : OpenList). record { key = k []; before = o.before };
      object_value = λ (o : OpenObject) (v : Json). record { key = o.key; before = λ (ps : Pairs). o.before (pairs o.key v ps) };
      of_object = λ (o : OpenObject). object (o.before no_pairs);
    }
