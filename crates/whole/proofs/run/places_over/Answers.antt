-- `run::places_over` meets its contract: places count besides. Assumes nothing.
use Rattle.std.proofs.Common.{rules}
use Rattle.whole.proofs.RunLaws.{places-counted}
use Rattle.whole.proofs.run.places_over.Goals as goal

pub returns : goal.returns
returns c = search (rules, places-counted)
