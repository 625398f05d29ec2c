-- Forms, value kinds and what fits them: REQUIREMENT.md, sections 3 (form, value), 4 and 5. Stated. The codes are only how a table stores kinds:
-- `kind_of-code_of` and `code_of-kind_of` of `KindLaws` show that code and kind tell each other. Assumes nothing.
use Rattle.std.specs.Prelude.{Bool, true, false, cond, ℕ, ◌+◌, ◌-◌, ◌/◌, ◌%◌, ◌^◌, eqb, ltb}
use Rattle.table.specs.declared.kind.Form.{Form}
use Rattle.table.specs.declared.kind.Form.TheVariants.{Object, Array}
use Rattle.table.specs.declared.kind.Scalar.{Scalar}
use Rattle.table.specs.declared.kind.Scalar.TheVariants.{Null, True, False, Str, Num, Int}
use Rattle.table.specs.declared.kind.ValueKind.{ValueKind}
use Rattle.table.specs.declared.kind.ValueKind.TheVariants.{Plain, Rule}
use Rattle.table.specs.declared.kind.Finished.{Finished}
use Rattle.table.specs.declared.kind.Finished.TheVariants as Done

-- the number of a form, of a rule in a table and of an open value in its frame: 1 for `obj` and an object, 2 for `arr` and an array
abbrev pub form_number : Form → ℕ
form_number Object = 1
form_number Array = 2

-- the kind with a code: the plain kinds 0 to 5, rule N at 6 + N
unfoldable pub kind_of : ℕ → ValueKind
kind_of c =
    cond (eqb c 0) (Plain Null)
    (cond (eqb c 1) (Plain True)
    (cond (eqb c 2) (Plain False)
    (cond (eqb c 3) (Plain Str)
    (cond (eqb c 4) (Plain Num)
    (cond (eqb c 5) (Plain Int) (Rule (c - 6)))))))

-- the code of a plain kind
abbrev pub scalar_code : Scalar → ℕ
scalar_code Null = 0
scalar_code True = 1
scalar_code False = 2
scalar_code Str = 3
scalar_code Num = 4
scalar_code Int = 5

-- the code of a kind: `kind_of` read backwards
unfoldable pub code_of : ValueKind → ℕ
code_of (Plain s) = scalar_code s
code_of (Rule n) = 6 + n

-- `num` fits any number, `int` one whose value is whole, the other plain kinds themselves: kind, then scalar
abbrev pub scalar_fits : Scalar → Scalar → Bool
scalar_fits Null Null = true
scalar_fits Null True = false
scalar_fits Null False = false
scalar_fits Null Str = false
scalar_fits Null Num = false
scalar_fits Null Int = false
scalar_fits True Null = false
scalar_fits True True = true
scalar_fits True False = false
scalar_fits True Str = false
scalar_fits True Num = false
scalar_fits True Int = false
scalar_fits False Null = false
scalar_fits False True = false
scalar_fits False False = true
scalar_fits False Str = false
scalar_fits False Num = false
scalar_fits False Int = false
scalar_fits Str Null = false
scalar_fits Str True = false
scalar_fits Str False = false
scalar_fits Str Str = true
scalar_fits Str Num = false
scalar_fits Str Int = false
scalar_fits Num Null = false
scalar_fits Num True = false
scalar_fits Num False = false
scalar_fits Num Str = false
scalar_fits Num Num = true
scalar_fits Num Int = true
scalar_fits Int Null = false
scalar_fits Int True = false
scalar_fits Int False = false
scalar_fits Int Str = false
scalar_fits Int Num = false
scalar_fits Int Int = true

-- rule n is in a set of rules, rule N being bit N; there are 32 rules
unfoldable pub rule_fits : ℕ → ℕ → Bool
rule_fits rules n = cond (ltb n 32) (eqb (rules / 2 ^ n % 2) 1) false

-- a finished value fits a kind: a scalar a plain kind, an object or array a rule that has an accepting run over it
abbrev pub fits_kind : ValueKind → Finished → Bool
fits_kind (Plain k) (Done.Scalar s) = scalar_fits k s
fits_kind (Plain k) (Done.Rules rules) = false
fits_kind (Rule n) (Done.Scalar s) = false
fits_kind (Rule n) (Done.Rules rules) = rule_fits rules n
