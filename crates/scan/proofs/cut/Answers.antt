-- `cut` meets its contract. Assumes nothing.
use mathlib.Core.Path.{◌≡◌}
use Rattle.std.proofs.Common.{None}
use Rattle.scan.proofs.ScanLaws.{no-place, first-place}
use borrow.Author.Rules.{rules}
use Rattle.scan.proofs.cut.Goals as goal

pub returns-in_err-i : goal.returns-in_err-i
returns-in_err-i c = let e : c.from_residual.result ≡ None = search rules in rw e (no-place _ _ _ c.place.ensures c.in_err-i.was)

pub returns : goal.returns
returns c = first-place _ _ _ _ c.place.ensures c.in_ok-i.was
