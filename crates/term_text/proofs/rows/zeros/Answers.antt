use Rattle.std.specs.Prelude.{ℤ, List, pos, take}
use Rattle.std.proofs.Common.{ap, ◌∙◌, arith}
use Rattle.std.proofs.lemmas.List.{take-replicate}
use Rattle.term_text.proofs.rows.zeros.Goals as goal

pub returns : goal.returns
returns c =
    c.truncate.ensures.items ∙ ap (λ (cells : List ℤ). take c.args.width cells) (c.in_ok-cells.ensures.items_if_clones_equal (λ y same. same)) ∙ take-replicate c.args.width _ (pos 0) (omega arith)
