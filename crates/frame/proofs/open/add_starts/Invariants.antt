-- `open::add_starts` meets its contract. The loop has set the bits of the rules below 8 i. Assumes nothing.
use Rattle.std.proofs.Common.{◌≡◌, ◌*◌}
use Rattle.laws.specs.Bits.{set_all}
use Rattle.frame.specs.Edges.{has_form}
use Rattle.table.specs.Kind.{form_number}
use Rattle.frame.proofs.open.add_starts.Given as goal

abbrev pub invariant-loop-i : goal.invariant-loop-i
invariant-loop-i l = l.states ≡ set_all (has_form l.table.forms (form_number l.form)) (λ r. 16 * r) (8 * l.i) l.initial.states
