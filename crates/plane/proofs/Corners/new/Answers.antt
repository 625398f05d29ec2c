-- `Corners::new` meets its contract. Assumes nothing.
use Rattle.plane.specs.Lent.{corners_of}
use Rattle.plane.proofs.LentLaws.{corners-lent}
use Rattle.plane.proofs.Corners.new.Goals as goal

pub returns : goal.returns
unfolding corners_of
returns c = corners-lent c.args.memory.now c.args.n c.requires.room
