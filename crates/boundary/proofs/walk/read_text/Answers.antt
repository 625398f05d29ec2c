-- `walk::read_text` meets its contract: from the first byte to the verdict. Assumes nothing.
use Rattle.boundary.proofs.EndLaws.{walked_start, reads-closed}
use Rattle.boundary.proofs.walk.read_text.Goals as goal

pub all-requires : goal.all-requires
all-requires c = walked_start c.begin.ensures c.requires.1

pub returns : goal.returns
returns c = reads-closed c.in_ok-all.ensures c.requires.0 c.close.ensures
