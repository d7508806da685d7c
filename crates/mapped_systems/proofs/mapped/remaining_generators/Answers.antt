use Rattle.std.proofs.Common.{◌<◌, ℕ, List, length, arith, sym, subst, ap, ◌∙◌, All}
use Rattle.std.proofs.lemmas.Result.{IfOk-weaker}
use Rattle.mapped_systems.specs.Maps.{picked, remaining, kept_variables}
use Rattle.mapped_systems.specs.MappedLists.{IsMappedSystem}
use Rattle.mapped_systems.proofs.KeptVariables.{kept_below, kept_fewer}
use Rattle.mapped_systems.proofs.mapped.remaining_generators.Goals as goal

pub picked_generators-requires-clause-columns : goal.picked_generators-requires-clause-columns
picked_generators-requires-clause-columns c =
    let columns = c.deref.ensures.value ∙ c.in_ok-columns.ensures ∙ ap (λ (n : ℕ). kept_variables n c.args.named.now) c.dim.ensures.value in
    subst (All (λ (i : ℕ). i < c.args.gens.now.dim)) (sym columns) (kept_below c.args.gens.now.dim c.args.named.now)

pub picked_generators-requires-clause-narrow : goal.picked_generators-requires-clause-narrow
picked_generators-requires-clause-narrow c =
    let columns = c.deref.ensures.value ∙ c.in_ok-columns.ensures in
    omega (arith, ap length columns, kept_fewer c.dim.result c.args.named.now, c.dim.ensures.value, c.dim.ensures.narrow)

pub returns-clause-system : goal.returns-clause-system
returns-clause-system c =
    let columns = c.deref.ensures.value ∙ c.in_ok-columns.ensures ∙ ap (λ (n : ℕ). kept_variables n c.args.named.now) c.dim.ensures.value in
    let gens = c.args.gens.now in
    IfOk-weaker c.picked_generators.result (IsMappedSystem (picked c.deref.result.now gens.dim) (length c.deref.result.now) gens) (IsMappedSystem (remaining gens.dim c.args.named.now) (length (kept_variables gens.dim c.args.named.now)) gens)
    (λ r m. subst (λ (js : List ℕ). IsMappedSystem (picked js gens.dim) (length js) gens r) columns m)
    c.picked_generators.ensures.system
