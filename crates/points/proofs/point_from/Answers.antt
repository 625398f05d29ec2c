-- `point_from` meets its contract: a number, blanks, a number, blanks, and the end. Assumes nothing.
use Rattle.std.proofs.Common.{◌≡◌, rules, length, refl, ap, ◌∙◌, w32, to_z, of_z}
use Rattle.points.specs.Points.{word, after_word, number_of}
use Rattle.points.proofs.LineLaws.{point_from-more, point_from-first, point_from-second, point_from-point}
use Rattle.points.proofs.point_from.Goals as goal

pub returns-then-not-is_empty : goal.returns-then-not-is_empty
returns-then-not-is_empty c =
    let more : length c.after_blanks-2.result.now ≡ 0 → ⊥ = search rules in
    let b = c.after_blanks.ensures in
    point_from-more c.args.line.now _ _ _ _ c.split_word.ensures.1 (c.split_word-2.ensures.0 ∙ ap word b) (c.split_word-2.ensures.1 ∙ ap after_word b)
    c.after_blanks-2.ensures more

pub returns-in_err-x : goal.returns-in_err-x
returns-in_err-x c =
    let none : length c.after_blanks-2.result.now ≡ 0 = search rules in
    let b = c.after_blanks.ensures in
    c.from_residual.ensures
    ∙ point_from-first c.args.line.now _ _ _ _ c.split_word.ensures.1 (c.split_word-2.ensures.0 ∙ ap word b) (c.split_word-2.ensures.1 ∙ ap after_word b)
    c.after_blanks-2.ensures none _ (number_of c.split_word-2.result.0.now) (c.number_in.ensures ∙ ap number_of c.split_word.ensures.0) (λ i. number_of c.split_word-2.result.0.now) c.in_err-x.was

pub returns-in_err-y : goal.returns-in_err-y
returns-in_err-y c =
    let none : length c.after_blanks-2.result.now ≡ 0 = search rules in
    let b = c.after_blanks.ensures in
    c.from_residual-in_err-y.ensures
    ∙ point_from-second c.args.line.now _ _ _ _ c.split_word.ensures.1 (c.split_word-2.ensures.0 ∙ ap word b) (c.split_word-2.ensures.1 ∙ ap after_word b)
    c.after_blanks-2.ensures none _ _ (c.number_in.ensures ∙ ap number_of c.split_word.ensures.0) c.number_in-2.ensures c.in_err-y.was

pub returns : goal.returns
returns c =
    let none : length c.after_blanks-2.result.now ≡ 0 = search rules in
    let b = c.after_blanks.ensures in
    let x : to_z w32 (of_z w32 c.in_ok-x.x) ≡ c.in_ok-x.x = search rules in
    let y : to_z w32 (of_z w32 c.in_ok-y.y) ≡ c.in_ok-y.y = search rules in
    point_from-point c.args.line.now _ _ _ _ c.split_word.ensures.1 (c.split_word-2.ensures.0 ∙ ap word b) (c.split_word-2.ensures.1 ∙ ap after_word b)
    c.after_blanks-2.ensures none _ _ (c.number_in.ensures ∙ ap number_of c.split_word.ensures.0) c.number_in-2.ensures c.in_ok-x.was c.in_ok-y.was
    (rw (x, y) refl)
