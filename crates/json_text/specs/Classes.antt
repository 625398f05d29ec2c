-- The class of each byte: REQUIREMENT.md, section 2; RFC 8259, sections 2 and 7; RFC 3629, section 4. Stated.
-- Assumes nothing.
use Rattle.std.specs.Prelude.{Bool, cond, ◌||◌, ℕ, eqb, ltb}
use Rattle.json_text.specs.Bytes.{within}
use Rattle.json_text.specs.declared.class.Class.{Class}
use Rattle.json_text.specs.declared.class.Class.TheVariants.{Control, Break, Space, Quote, Backslash, Structure, Digit, Other, Tail, LeadC2, LeadE0, LeadE1, LeadED, LeadEE, LeadF0, LeadF1, LeadF4, Never}

-- tab, line feed, carriage return
unfoldable pub is_break : ℕ → Bool
is_break b = eqb b 0x09 || eqb b 0x0A || eqb b 0x0D

-- RFC 8259, section 2: the six structural characters
unfoldable pub is_structure : ℕ → Bool
is_structure b = eqb b 0x5B || eqb b 0x7B || eqb b 0x5D || eqb b 0x7D || eqb b 0x3A || eqb b 0x2C

-- 80 and above, by the rows of RFC 3629
unfoldable pub high_class : ℕ → Class
high_class b =
    cond (within 0x80 0xBF b) Tail
    (cond (within 0xC2 0xDF b) LeadC2
    (cond (eqb b 0xE0) LeadE0
    (cond (within 0xE1 0xEC b) LeadE1
    (cond (eqb b 0xED) LeadED
    (cond (within 0xEE 0xEF b) LeadEE
    (cond (eqb b 0xF0) LeadF0
    (cond (within 0xF1 0xF3 b) LeadF1
    (cond (eqb b 0xF4) LeadF4 Never))))))))

unfoldable pub class_of : ℕ → Class
class_of b =
    cond (is_break b) Break
    (cond (ltb b 0x20) Control
    (cond (eqb b 0x20) Space
    (cond (eqb b 0x22) Quote
    (cond (eqb b 0x5C) Backslash
    (cond (is_structure b) Structure
    (cond (within 0x30 0x39 b) Digit
    (cond (ltb b 0x80) Other (high_class b))))))))
