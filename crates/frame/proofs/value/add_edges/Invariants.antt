-- `value::add_edges` meets its contract. The loop has set the bits of the edges below e. Assumes nothing.
use Rattle.std.proofs.Common.{◌≡◌, ◌+◌}
use Rattle.laws.specs.Bits.{set_all}
use Rattle.frame.specs.InTable.{fitting_in}
use Rattle.frame.proofs.value.add_edges.Given as goal

abbrev pub invariant-loop-e : goal.invariant-loop-e
invariant-loop-e l = l.frame ≡ set_all (fitting_in l.table l.m l.key) (λ i. 256 + i) l.e l.initial.frame
