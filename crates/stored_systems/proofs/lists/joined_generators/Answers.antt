use Rattle.std.proofs.Common.{ℕ, ◌+◌, List, ◌++◌, map, sym, ap, ◌∙◌}
use Rattle.std.proofs.lemmas.List.{map-append}
use Rattle.row_core.specs.Lists.{Row}
use Rattle.stored_systems.specs.WorkLists.{generator_row}
use Rattle.stored_systems.proofs.lists.joined_generators.Goals as goal

pub push_generators-requires : goal.push_generators-requires
push_generators-requires c = c.in_ok-list.ensures.width ∙ ap (λ (n : ℕ). n + 1) c.dim-3.ensures.value

pub push_generators-requires-2 : goal.push_generators-requires-2
push_generators-requires-2 c = c.in_ok-push_generators.ensures.width ∙ c.in_ok-list.ensures.width ∙ ap (λ (n : ℕ). n + 1) (c.dim-3.ensures.value ∙ sym c.requires)

pub returns-clause-width : goal.returns-clause-width
returns-clause-width c = c.in_ok-push_generators-2.ensures.width ∙ c.in_ok-push_generators.ensures.width ∙ c.in_ok-list.ensures.width ∙ ap (λ (n : ℕ). n + 1) c.dim-3.ensures.value

pub returns-clause-rows : goal.returns-clause-rows
returns-clause-rows c =
    let own = map generator_row c.args.gens.now.list in
    let others = map generator_row c.args.more.now.list in
    c.in_ok-push_generators-2.ensures.rows
    ∙ ap (λ (rs : List Row). rs ++ others) (c.in_ok-push_generators.ensures.rows ∙ ap (λ (rs : List Row). rs ++ own) c.in_ok-list.ensures.empty)
    ∙ sym (map-append generator_row c.args.gens.now.list c.args.more.now.list)
