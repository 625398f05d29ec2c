-- Any meaning of values that is found from left to right: what is known of an open array, object, string or number after each of its
-- parts, and the result of a finished value. A reader of a text is told only what a meaning is told. Derived: the machine of `Machine` runs over any
-- meaning, and `text-of-accepted` and `accepted-of-text` join it to the grammar. Assumes nothing.
use Rattle.std.specs.Prelude.{List, [], ◌∷◌, ℕ}
use Rattle.json_text.specs.Tree.{Word, Json, Values, Pairs, word, string, number, array, object, no_values, values, no_pairs, pairs}

pub record Meaning : Type 1 where
  pub Result : Type 0
  pub InString : Type 0
  pub InNumber : Type 0
  pub InArray : Type 0
  pub InObject : Type 0
  pub of_word : Word → Result
  pub string_start : InString
  pub string_char : InString → ℕ → InString
  pub of_string : InString → Result
  pub number_start : InNumber
  pub number_byte : InNumber → ℕ → InNumber
  pub of_number : InNumber → Result
  pub array_start : InArray
  pub array_element : InArray → Result → InArray
  pub of_array : InArray → Result
  pub object_start : InObject
  pub object_key : InObject → InString → InObject
  pub object_value : InObject → Result → InObject
  pub of_object : InObject → Result

-- f from a on, over each member of a list
abbrev pub fold : {A : Type 0} → (A → ℕ → A) → A → List ℕ → A
fold f a [] = a
fold f a (c ∷ s) = fold f (f a c) s

module _ (𝕄 : Meaning) where
  open 𝕄 use {Result, InArray, InObject, of_word, string_start, string_char, of_string, number_start, number_byte, of_number, array_start, array_element, of_array, object_start, object_key, object_value, of_object}

  abbrev mutual
    -- the result of a tree
    pub meaning : Json → Result
    meaning (word x) = of_word x
    meaning (string cs) = of_string (fold string_char string_start cs)
    meaning (number ds) = of_number (fold number_byte number_start ds)
    meaning (array vs) = of_array (elements vs array_start)
    meaning (object ps) = of_object (members ps object_start)

    -- an open array after more elements
    pub elements : Values → InArray → InArray
    elements no_values a = a
    elements (values v vs) a = elements vs (array_element a (meaning v))

    -- an open object after more pairs
    pub members : Pairs → InObject → InObject
    members no_pairs o = o
    members (pairs k v ps) o = members ps (object_value (object_key o (fold string_char string_start k)) (meaning v))
