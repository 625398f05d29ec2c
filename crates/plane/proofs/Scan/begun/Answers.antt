-- `plane::begun` meets its contract: the fields are those of the definition. Assumes nothing.
use mathlib.Core.Path.{refl}
use Rattle.plane.specs.Scan.{begun}
use Rattle.plane.proofs.Scan.begun.Goals as goal

pub returns : goal.returns
unfolding begun
returns c = refl
