-- `split_word` meets its contract. Assumes nothing.
use Rattle.std.proofs.Common.{◌≡◌, ap, ◌∙◌, length, take, drop}
use Rattle.std.specs.Option.{unwrap_or}
use Rattle.points.specs.Points.{is_blank, word_len, word, after_word}
use Rattle.points.proofs.LineLaws.{place-of}
use Rattle.points.proofs.split_word.Goals as goal

pub returns : goal.returns
unfolding word_len word after_word
returns c =
    let s = c.args.s.now in
    let n : c.unwrap_or-n.result ≡ word_len s = c.unwrap_or-n.ensures ∙ ap (λ o. unwrap_or o (length s)) c.first_blank.ensures ∙ place-of is_blank s in
    (c.split_at.ensures.front ∙ ap (λ k. take k s) n, c.split_at.ensures.back ∙ ap (λ k. drop k s) n)
