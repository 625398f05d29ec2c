-- `Corners::locate`. The loop's invariant: what is known after i corners, with the corners that are left, gives where p lies. Assumes nothing.
use Rattle.plane.specs.Scan.{Scanned}
use Rattle.plane.proofs.Corners.locate.Given as goal

abbrev pub invariant-loop-i : goal.invariant-loop-i
invariant-loop-i l = Scanned l.self.numbers.now l.n l.p l.i l.s
