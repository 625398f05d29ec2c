-- `value::value_frame` meets its contract: a law for each of the three cases. Assumes nothing.
use borrow.Author.Rules.{rules}
use Rattle.frame.specs.InTable.{stepping_in}
use Rattle.frame.specs.Mask.{mask_has}
use Rattle.frame.proofs.FormLaws.{object-of-form, array-of-form}
use Rattle.frame.proofs.ValueLaws.{valued-known, valued-unknown, valued-array, put-states}
use Rattle.frame.proofs.value.value_frame.Goals as goal

pub returns-then-key-lt128 : goal.returns-then-key-lt128
returns-then-key-lt128 c =
    valued-known _ _ _ _ _ (mask_has c.mask_of-m.result) _ c.mask_of-m.ensures (object-of-form _ c.in-Object.ensures) c.if-key-lt128.true c.add_edges.ensures

pub returns-else-key-lt128 : goal.returns-else-key-lt128
returns-else-key-lt128 c = valued-unknown _ _ _ _ _ (object-of-form _ c.in-Object.ensures) c.if-key-lt128.false

pub returns-in-Array : goal.returns-in-Array
returns-in-Array c =
    let a = c.args in
    let f = a.frame.now in
    valued-array _ _ _ _ f (mask_has c.mask_of-m.result) _ c.led_to-states.result c.mask_of-m.ensures (array-of-form f c.in-Array.ensures)
    (c.led_to-states.ensures (stepping_in a.table.now c.mask_of-m.result f) (λ e b p. search rules)) (rw c.copy_from_slice.ensures.after (put-states f c.led_to-states.result c.told-frame))
