-- The numbers of a text by their level, found from left to right, as a meaning of the machine of crate json. Derived: `numbers-of-valid` in proofs/
-- says that the numbers at level 3 of a text valid under book B are those of its corners. Assumes nothing.
use Rattle.std.specs.Prelude.{Bool, true, false, cond, ◌||◌, List, [], ◌∷◌, ◌++◌, ℕ, zero, suc, ◌-◌, eqb, leb}
use Rattle.json_text.specs.Tree.{Word}
use Rattle.json_text.specs.Numbers.{is_digit, is_e}
use Rattle.json_text.specs.Meaning.{Meaning}
use Rattle.json_text.specs.Machine.{Stack, bare, whole, in_array, in_object, depth, Token, State, fault, at, start, run}
use Rattle.json_text.specs.declared.lexer.Mode.{Mode}
use Rattle.json_text.specs.declared.lexer.Mode.TheVariants as M
use Rattle.corners.specs.Corners.{Corner}

-- the bytes that numbers are written in
unfoldable pub is_number_byte : ℕ → Bool
is_number_byte b = is_digit b || (eqb b 0x2D || (eqb b 0x2E || (is_e b || eqb b 0x2B)))

-- the next byte may stand in a number
abbrev pub in_number : Mode → Bool
in_number (M.At p) = false
in_number (M.Key s) = false
in_number (M.Text s) = false
in_number (M.Number n) = true
in_number (M.Word w i) = false

-- numbers, as they are written, by how many values they stand in
abbrev pub ByLevel : Type 0
ByLevel = ℕ → List (List ℕ)

unfoldable pub no_numbers : ByLevel
no_numbers n = []

-- a number by itself
abbrev pub alone : List ℕ → ByLevel
alone ds zero = ds ∷ []
alone ds (suc n) = []

-- the numbers of one value and then of another, side by side
unfoldable pub both : ByLevel → ByLevel → ByLevel
both a v n = a n ++ v n

-- the numbers of values inside an array or object
abbrev pub deeper : ByLevel → ByLevel
deeper a zero = []
deeper a (suc n) = a n

abbrev pub numbering : Meaning
numbering = record {
  Result = ByLevel;
  InString = Unit {0};
  InNumber = List ℕ;
  InArray = ByLevel;
  InObject = ByLevel;
  of_word = λ (w : Word). no_numbers;
  string_start = tt;
  string_char = λ (s : Unit {0}) (c : ℕ). tt;
  of_string = λ (s : Unit {0}). no_numbers;
  number_start = [];
  number_byte = λ (ds : List ℕ) (b : ℕ). ds ++ (b ∷ []);
  of_number = alone;
  array_start = no_numbers;
  array_element = both;
  of_array = deeper;
  object_start = no_numbers;
  object_key = λ (o : ByLevel) (k : Unit {0}). o;
  object_value = both;
  of_object = deeper;
}

-- of what stands in j values: its numbers that stand in n
unfoldable pub share : ℕ → ℕ → ByLevel → List (List ℕ)
share n j a = cond (leb j n) (a (n - j)) []

-- the finished numbers that stand in n values
abbrev pub gathered : ℕ → Stack numbering → List (List ℕ)
gathered n bare = []
gathered n (whole w) = w n
gathered n (in_array a k) = gathered n k ++ share n (suc (depth numbering k)) a
gathered n (in_object o k) = gathered n k ++ share n (suc (depth numbering k)) o

-- the number that is being read, where one is and stands in n values
abbrev pub reading : ℕ → Mode → Token numbering → Stack numbering → List (List ℕ)
reading n (M.At p) g k = []
reading n (M.Key s) g k = []
reading n (M.Text s) g k = []
reading n (M.Number m) g k = cond (eqb (depth numbering k) n) (g.number ∷ []) []
reading n (M.Word w i) g k = []

-- the numbers that stand in n values, finished or not
abbrev pub so_far : ℕ → State numbering → List (List ℕ)
so_far n fault = []
so_far n (at m g k) = gathered n k ++ reading n m g k

-- the numbers of corners, one after the other
abbrev pub flat : List Corner → List (List ℕ)
flat [] = []
flat (c ∷ cs) = c.x ∷ c.y ∷ flat cs

-- the numbers at level 3 of the bytes of a text
unfoldable pub numbers_of : List ℕ → List (List ℕ)
numbers_of s = so_far 3 (run numbering (start numbering) s)
