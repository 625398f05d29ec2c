-- `put` of an entry meets its contract: its word goes by its number. Assumes nothing.
use Rattle.std.proofs.Common.{rules}
use Rattle.entries.proofs.EntryLaws.{entry-numbered}
use Rattle.entries.proofs.entry.Entry.put.Goals as goal

pub returns : goal.returns
returns c = search (rules, entry-numbered)
