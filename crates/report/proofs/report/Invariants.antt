-- `report` meets its contract: the feeds still to come give what all give. Assumes nothing.
use mathlib.Core.Path.{◌≡◌}
use Prim.Native.Nat.{◌/◌}
use lib.ListN.{length}
use Rattle.report.proofs.ReportLaws.{Going}
use Rattle.report.proofs.report.Given as goal

abbrev pub invariant-loop : goal.invariant-loop
invariant-loop l =
    (l.lines ≡ length l.initial.out / 64) × (length l.work ≡ length l.initial.work) × (length l.out ≡ length l.initial.out)
    × Going l.table l.initial.work l.piece l.initial.out l.initial.reader l.work l.out l.reader l.x.read l.x.used l.counter
