-- `open_level` meets its contract: opening writes a fresh frame over any. Assumes nothing.
use borrow.Author.Rules.{rules}
use Rattle.frame.specs.Ops.{opened}
use Rattle.frame.proofs.open_level.Goals as goal

pub returns : goal.returns
returns c = c.change_frame.ensures (λ f. opened c.args.table.now.forms c.args.form) (λ f g p. search rules)
