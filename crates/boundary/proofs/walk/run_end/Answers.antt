-- `walk::run_end` meets its contract: the first byte that fails the test. Assumes nothing.
use Rattle.std.proofs.Common.{rules, not}
use Rattle.std.proofs.lemmas.Iterator.{YieldsList-from_slice}
use Rattle.std.proofs.lemmas.Iterator.Search.{position_from_yields_List}
use Rattle.boundary.proofs.StretchLaws.{stretch-of-position}
use Rattle.boundary.proofs.walk.run_end.Goals as goal

pub returns : goal.returns
returns g c =
    λ f h. stretch-of-position f _ _ c.requires.inside c.position.result _
    (position_from_yields_List (λ b. not (f b)) _ _ c.position.result c.position.ensures.ran (YieldsList-from_slice _ c.iter.ensures.rest) (λ x b q z. search (rules, h)))
    c.unwrap_or.ensures
