-- `replot` meets its contract. Assumes nothing.
use Rattle.replot.proofs.TrackLaws.{replot-of-read}
use Rattle.replot.proofs.replot.Goals as goal

pub returns : goal.returns
returns c = replot-of-read c.read-read.ensures c.answer_read.ensures
