-- `Stretch::keep_to` meets its contract. The loop's invariant: the bytes before its place were kept. Assumes nothing.
use Rattle.std.proofs.Common.{rules}
use Rattle.pass.proofs.KeepLaws.{kept_on}
use Rattle.pass.proofs.Stretch.keep_to.Goals as goal

pub loop-b-preserved : goal.loop-b-preserved
loop-b-preserved c = search (rules, kept_on)
