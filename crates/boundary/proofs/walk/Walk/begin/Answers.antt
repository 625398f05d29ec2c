-- `walk::Walk::begin` meets its contract: the start is let in, and an RS leaves the work bytes as they are. Assumes nothing.
use Rattle.std.proofs.Common.{refl, sym, ap, ◌∙◌, length}
use Rattle.std.specs.Prelude.{is_ok}
use Rattle.boundary.proofs.EndLaws.{started-fresh, fresh-of-ok, behind-of-feed}
use Rattle.boundary.proofs.walk.Walk.begin.Goals as goal

pub unwrap-self-requires : goal.unwrap-self-requires
unwrap-self-requires c = ap is_ok (started-fresh _ _ _ c.args.source.now.book (ap length c.requires) c.start.ensures)

pub returns : goal.returns
returns c =
    let s = fresh-of-ok (sym c.unwrap-self.ensures ∙ started-fresh _ _ _ c.args.source.now.book (ap length c.requires) c.start.ensures) in
    let e = behind-of-feed c.args.source.now.book (ap length c.requires) s c.feed.ensures in rw (e.0, e.1) refl
