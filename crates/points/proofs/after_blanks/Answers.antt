-- `after_blanks` meets its contract. Assumes nothing.
use Rattle.std.proofs.Common.{not, refl}
use Rattle.points.specs.Points.{is_blank, blanks, after_blanks}
use Rattle.points.proofs.LineLaws.{place-of, part-from}
use Rattle.points.proofs.after_blanks.Goals as goal

pub returns : goal.returns
unfolding blanks after_blanks
returns c =
    rw
    (part-from c.unwrap_or-n.result c.args.s.now, c.unwrap_or-n.ensures, c.first_other.ensures, place-of (λ b. not (is_blank b)) c.args.s.now)
    refl
