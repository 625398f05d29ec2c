-- `edge::holds` meets its contract: the bits are those of the bytes from 32 on. Assumes nothing.
use Rattle.std.proofs.Common.{◌≤◌, length, drop, sym, ap, ◌∙◌, arith, length-drop}
use Rattle.std.proofs.lemmas.List.{take_all}
use Rattle.laws.specs.Bits.{bit_at}
use Rattle.frame.proofs.PartLaws.{held_in-of-drop}
use Rattle.frame.proofs.edge.holds.Goals as goal

pub returns : goal.returns
returns c =
    let a = c.args in
    let f = a.frame.now in
    let short : length (drop 32 f) ≤ 64 = simp length-drop (omega (arith, c.told-frame)) in
    c.get_bit.ensures ∙ ap (λ s. bit_at s a.i) (take_all 64 (drop 32 f) short) ∙ sym (held_in-of-drop f a.i)
