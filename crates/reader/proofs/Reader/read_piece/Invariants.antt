-- `Reader::read_piece` meets its contract. The loop's invariant: the reader waits, and what is left of the piece gives what the whole gives. The measure
-- is what is left of its length. Assumes nothing.
use Rattle.std.proofs.Common.{◌≡◌, ◌-◌, length}
use Rattle.turn.specs.Turn.{memory}
use Rattle.reader.specs.Machine.{memory_of}
use Rattle.reader.proofs.RunLaws.{Left}
use Rattle.reader.proofs.Reader.read_piece.Given as goal

abbrev pub invariant-loop-i : goal.invariant-loop-i
invariant-loop-i l =
    record { reader : l.self ≡ l.fn.self; left : Left l.rules.table.now l.rules.frames l.piece (memory_of l.fn.self l.fn.work) (memory l.record l.key l.work) l.i }

abbrev pub decreases-loop-i : goal.decreases-loop-i
decreases-loop-i l = length l.piece - l.i
