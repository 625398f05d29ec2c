-- The table of classes, and the class that a list of classes gives to a byte. Derived: `class_at-class_table` in proofs/ says that the table gives each
-- byte its class. Assumes nothing.
use Rattle.std.specs.Prelude.{List, ℕ, get_or}
use Rattle.laws.specs.Tab.{tab}
use Rattle.json_text.specs.Classes.{class_of}
use Rattle.json_text.specs.declared.class.Class.{Class}
use Rattle.json_text.specs.declared.class.Class.TheVariants.{Control}

unfoldable pub class_table : List Class
class_table = tab class_of 0 256

-- the class that a list of classes gives to a byte
abbrev pub class_at : List Class → ℕ → Class
class_at l b = get_or l b Control
