-- `check::late_at` meets its contract: an edge before it clashes with it, or it does itself; an edge of a rule that is no obj rule clashes with none.
-- Assumes nothing.
use mathlib.Core.Path.{◌≡◌, refl}
use Prim.Native.Nat.{◌-◌}
use native.Mathlib.Omega.{arith}
use borrow.Author.Rules.{rules}
use borrow.Author.Tests.{tests}
use Rattle.std.proofs.lemmas.Iterator.{YieldsList-from_range}
use Rattle.std.proofs.lemmas.Iterator.Search.{any_from_yields_List}
use Rattle.store.specs.Store.{some}
use Rattle.load.specs.Check.{clashes_at}
use Rattle.load.proofs.CheckLaws.{late_split, late_at-other}
use Rattle.load.proofs.check.late_at.Goals as goal

pub returns-then-not-has_form : goal.returns-then-not-has_form
returns-then-not-has_form c = search (rules, tests, late_at-other)

pub returns : goal.returns
returns c =
    let n : c.args.b - 0 ≡ c.args.b = omega arith in
    let e : c.any.result ≡ some (clashes_at c.args.table.now c.args.b) 0 c.args.b =
    any_from_yields_List (clashes_at c.args.table.now c.args.b) _ _ c.any.result c.any.ensures.ran (YieldsList-from_range 0 c.args.b c.args.b refl n) (λ x b q k. search (rules, tests)) in
    rw (late_split c.args.table.now c.args.b, e, c.clashes_at.ensures)
