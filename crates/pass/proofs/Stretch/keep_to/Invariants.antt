-- `Stretch::keep_to` meets its contract. The loop's invariant: the bytes before its place were kept. Assumes nothing.
use Rattle.std.proofs.Common.{◌+◌}
use Rattle.pass.specs.Pass.{with_bits, placed, KeptTo}
use Rattle.pass.proofs.Stretch.keep_to.Given as goal

abbrev pub invariant-loop-b : goal.invariant-loop-b
invariant-loop-b l =
    KeptTo l.x l.self.piece.now l.self.from l.fn.key (placed l.x l.x.mode (with_bits l.x l.bits) (l.x.pos + l.b-index) l.len) (l.self.from + l.b-index) l.key
