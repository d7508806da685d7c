use Rattle.std.proofs.Common.{◌≡◌, ap, ◌∙◌}
use Rattle.std.proofs.lemmas.Result.{IfOk-weaker}
use Rattle.cons_sys.specs.Constraints.{Constraints, row_at}
use Rattle.gens_sys.specs.Generators as gens
use Rattle.gens_sys.specs.Generators.{Generators}
use Rattle.powerset.specs.Reductions.{LeavesInTest}
use Rattle.powerset.proofs.ReductionLemmas.{shown_by}
use Rattle.powerset.proofs.reducing.shown.Goals as goal

pub returns : goal.returns
returns c =
    let p = c.args.p.now in
    let q = c.args.q.now in
    let pair = c.args.pair in
    let left : c.row-left.result.now ≡ row_at p.cons.list pair.left = c.row-left.ensures.value ∙ ap (λ (cs : Constraints). row_at cs.list pair.left) c.cons.ensures.value in
    let right : c.row-right.result.now ≡ gens.row_at q.gens.list pair.right = c.row-right.ensures.value ∙ ap (λ (gs : Generators). gens.row_at gs.list pair.right) c.gens.ensures.value in
    IfOk-weaker c.of_rows.result _ (LeavesInTest p q)
    (λ over is. record { pair = pair; leaves = c.requires; shown = is ∙ shown_by p.cons.list q.gens.list pair c.row-left.result.now c.row-right.result.now left right })
    c.of_rows.ensures
