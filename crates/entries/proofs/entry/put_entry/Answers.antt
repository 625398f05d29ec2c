-- `put_entry` meets its contract: 16 bytes are copied where the output has them. Assumes nothing.
use Rattle.std.proofs.Common.{rules}
use Rattle.entries.proofs.EntryLaws.{numbered-put, numbered-none}
use Rattle.entries.proofs.entry.put_entry.Goals as goal

pub returns-then-i-out : goal.returns-then-i-out
returns-then-i-out c = search (rules, numbered-put)

pub returns-else-i-out : goal.returns-else-i-out
returns-else-i-out c = search (rules, numbered-none)
