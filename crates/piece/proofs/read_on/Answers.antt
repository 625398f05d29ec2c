-- `read_on` meets its contract: what is after the bytes passed over, or after one that is counted, gives what the whole gives. Assumes nothing.
use Rattle.std.proofs.Common.{sym, ◌∙◌}
use Rattle.piece.proofs.PieceLaws.{byte-passed, step-passed, went_counted}
use borrow.Author.Rules.{rules}
use Rattle.piece.proofs.read_on.Goals as goal

pub returns-then-not-reads_on : goal.returns-then-not-reads_on
returns-then-not-reads_on c =
    rw c.bump-record.ensures (went_counted _ _ _ _ _ _ _ _ c.requires (sym c.reads_on.ensures ∙ c.if-not-reads_on.true) c.if-piece-i-ne30.true)

pub read_byte-requires : goal.read_byte-requires
read_byte-requires c = (search (rules, byte-passed), search (rules, step-passed))
