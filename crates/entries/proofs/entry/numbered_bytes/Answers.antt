-- The bytes of an entry are those that the contract gives. Assumes nothing.
use Rattle.std.proofs.Common.{rules}
use Rattle.entries.proofs.EntryLaws.{numbered-bytes}
use Rattle.entries.proofs.entry.numbered_bytes.Goals as goal

pub returns : goal.returns
returns c = search (rules, numbered-bytes)
