use Rattle.std.proofs.Common.{rules, List, subst}
use Rattle.std.specs.Prelude.{IsPermutation}
use Rattle.std.proofs.lemmas.List.Sorted.{IsPermutation-trans, IsNonDecreasingBy-from_sort_by_key}
use Rattle.minimise.specs.declared.facets.CountedRow.{CountedRow}
use Rattle.minimise.proofs.FacetLemmas.{falling_reversed}
use Rattle.minimise.proofs.facets.ranked_rows.Goals as goal

pub returns-clause-same : goal.returns-clause-same
returns-clause-same c =
    subst (λ (xs : List CountedRow). IsPermutation xs c.reverse.new.self.items) c.in_ok-ranked.ensures
    (IsPermutation-trans c.in_ok-ranked.ranked.items c.sort_by_key.new.self.items c.reverse.new.self.items c.sort_by_key.ensures.permutation c.reverse.ensures.permutation)

pub returns-clause-falling : goal.returns-clause-falling
returns-clause-falling c =
    falling_reversed c.sort_by_key.new.self.items c.reverse.new.self.items c.reverse.ensures.items
    (IsNonDecreasingBy-from_sort_by_key (λ (row : CountedRow). row.ones) _ c.in_ok-sort_by_key.ensures.sorted (λ a r q k. search rules))
