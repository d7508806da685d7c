use Rattle.std.proofs.Common.{◌+◌, ◌∙◌, ◌∷◌, ap, sym, drop, List, ℕ, inl, inr, refl, take}
use Rattle.std.specs.Str.Lines.{lines}
use Rattle.plain_text.proofs.LineCuts.{lines-no_feed, lines-at_feed, take-behind, feed_cut}
use Rattle.plain_text.proofs.lines.split_line.Goals as goal

pub returns-in-None-clause-first : goal.returns-in-None-clause-first
returns-in-None-clause-first c = lines-no_feed c.args.bytes.now c.requires c.in-None.ensures

pub returns-in-Some-clause-first : goal.returns-in-Some-clause-first
returns-in-Some-clause-first c =
    let bytes = c.args.bytes.now in
    let at = c.in-Some.at in
    lines-at_feed bytes at c.in-Some.ensures
    ∙ ap (λ (first : List ℕ). first ∷ lines (drop (at + 1) bytes)) (sym c.without_return.ensures.line)
    ∙ ap (λ (rest : List ℕ). c.without_return.result.now ∷ lines rest) (sym (take-behind bytes (at + 1)))

pub returns-in-None-clause-chunk : goal.returns-in-None-clause-chunk
returns-in-None-clause-chunk c = (c.args.bytes.now, inl (refl, refl))

pub returns-in-Some-clause-chunk : goal.returns-in-Some-clause-chunk
returns-in-Some-clause-chunk c = (take c.in-Some.at c.args.bytes.now, inr (feed_cut c.args.bytes.now c.in-Some.at c.in-Some.ensures))
