-- `write` meets its contract: with room it writes, without it does not. Assumes nothing.
use Rattle.text.proofs.PutLaws.{write-copied, write-none}
use Rattle.std.proofs.Common.{rules}
use Rattle.text.proofs.write.Goals as goal

pub returns-then-not-has_room-clause-written : goal.returns-then-not-has_room-clause-written
returns-then-not-has_room-clause-written g c = search (rules, write-none)

pub returns-clause-written : goal.returns-clause-written
returns-clause-written g c = search (rules, write-copied)
