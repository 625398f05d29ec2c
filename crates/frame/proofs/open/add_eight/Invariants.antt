-- `open::add_eight` meets its contract. The loop has set the bits of the rules below r. Assumes nothing.
use Rattle.std.proofs.Common.{◌≡◌, ◌*◌, List, ℕ}
use Rattle.laws.specs.Bits.{set_all}
use Rattle.frame.specs.Edges.{has_form}
use Rattle.table.specs.Kind.{form_number}
use Rattle.frame.proofs.open.add_eight.Given as goal

abbrev pub invariant-loop-r : goal.invariant-loop-r
invariant-loop-r l =
    (xs : List ℕ) → l.initial.states ≡ set_all (has_form l.table.forms (form_number l.form)) (λ i. 16 * i) l.from xs
    → l.states ≡ set_all (has_form l.table.forms (form_number l.form)) (λ i. 16 * i) l.r xs
