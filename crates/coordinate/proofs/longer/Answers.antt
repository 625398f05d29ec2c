-- `longer` meets its contract. Assumes nothing.
use Rattle.std.proofs.Common.{◌∙◌, sym}
use Rattle.json_text.specs.Bytes.{within}
use Rattle.json_text.specs.Numbers.{is_digit}
use Rattle.coordinate.proofs.ReadLaws.{longer-none, longer-digit}
use Rattle.coordinate.proofs.longer.Goals as goal

pub returns-then-not-is_ascii_digit : goal.returns-then-not-is_ascii_digit
unfolding is_digit within
returns-then-not-is_ascii_digit c =
    sym (longer-none c.args.value c.args.b (sym c.is_ascii_digit.ensures.value ∙ c.if-not-is_ascii_digit.true))

pub returns : goal.returns
unfolding is_digit within
returns c =
    c.then_some.ensures ∙ sym (longer-digit c.args.value c.args.b (sym c.is_ascii_digit.ensures.value ∙ c.if-not-is_ascii_digit.false))
