-- `walk::Walk::on` meets its contract. Assumes nothing.
use Rattle.boundary.specs.Walk.{is_gap_byte}
use Rattle.corners.specs.Numbers.{is_number_byte}
use Rattle.boundary.proofs.StepLaws.{walked-off}
use Rattle.boundary.proofs.walk.Walk.on.Goals as goal

pub run_end-end-requires-clause-inside : goal.run_end-end-requires-clause-inside
run_end-end-requires-clause-inside c = (c.run_end-from.ensures is_gap_byte (λ b r h p. p)).high

pub returns-then-end-self : goal.returns-then-end-self
returns-then-end-self c =
    walked-off c.requires.1 (c.run_end-from.ensures is_gap_byte (λ b r h p. p)) (c.run_end-end.ensures is_number_byte (λ b r h p. p)) c.if-end-self.true

pub feed_piece-requires : goal.feed_piece-requires
feed_piece-requires c =
    record {
      walked = c.requires.0;
      table = c.args.source.now.book;
      gap = c.run_end-from.ensures is_gap_byte (λ b r h p. p);
      run = c.run_end-end.ensures is_number_byte (λ b r h p. p);
      more = c.if-end-self.false;
    }
