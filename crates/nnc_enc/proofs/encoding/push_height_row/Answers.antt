use Rattle.std.specs.Prelude.{◌≡◌, ◌+◌, pos}
use Rattle.std.proofs.Common.{arith, rules, sym, subst, replicate, ◌∙◌}
use Rattle.std.proofs.lemmas.List.Elements.{All-replicate}
use Rattle.row_core.specs.Range.{InRange, AllInRange}
use Rattle.nnc_enc.proofs.encoding.push_height_row.Goals as goal

zero_in_range : InRange (pos 0)
zero_in_range = record { size = omega arith }

pub push_raised-requires-clause-in_range : goal.push_raised-requires-clause-in_range
push_raised-requires-clause-in_range c =
    let zeros : c.in_ok-zeros.zeros.items ≡ replicate (c.args.dim + 1) (pos 0) = search rules in
    subst AllInRange (sym (c.deref.ensures.value ∙ zeros)) (All-replicate InRange (c.args.dim + 1) (pos 0) zero_in_range)
