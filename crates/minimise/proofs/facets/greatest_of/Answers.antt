use Rattle.std.specs.Prelude.{List, length, map, All}
use Rattle.std.proofs.Common.{ap, sym, subst, arith}
use Rattle.std.proofs.lemmas.List.{length-map}
use Rattle.std.proofs.lemmas.List.Sorted.{length_permutation}
use Rattle.sat_matrix.specs.Tables.{IsWithinSome}
use Rattle.minimise.specs.declared.facets.CountedRow.{CountedRow}
use Rattle.minimise.specs.Facets.{IsCounted, counted_row}
use Rattle.minimise.proofs.FacetLemmas.{counted_moved, greatest_moved}
use Rattle.minimise.proofs.facets.greatest_of.Goals as goal

pub ranked_rows-requires : goal.ranked_rows-requires
ranked_rows-requires c = λ k d h. (c.requires.uneven k d h).0

pub leaders-requires-clause-counted : goal.leaders-requires-clause-counted
leaders-requires-clause-counted c =
    subst (λ (list : List CountedRow). All (IsCounted c.args.table.now.rows) list) (sym c.deref.ensures.value)
    (counted_moved c.args.table.now.rows c.args.places.now c.in_ok-ranked.ranked.items c.requires.uneven c.in_ok-ranked.ensures.same)

pub returns-clause-greatest : goal.returns-clause-greatest
returns-clause-greatest c =
    greatest_moved c.args.table.now.rows c.args.places.now c.in_ok-ranked.ranked.items c.in_ok-facets.facets.items c.sort_unstable.new.self.items c.requires c.in_ok-ranked.ensures.same c.in_ok-facets.ensures.uneven
    c.in_ok-facets.ensures.apart
    (subst (λ (list : List CountedRow). All (λ (row : CountedRow). IsWithinSome c.args.table.now.rows row.place c.in_ok-facets.facets.items) list) c.deref.ensures.value c.in_ok-facets.ensures.led)
    c.sort_unstable.ensures.permutation

pub returns-clause-fewer : goal.returns-clause-fewer
returns-clause-fewer c =
    let sorted = length_permutation c.in_ok-facets.facets.items c.sort_unstable.new.self.items c.sort_unstable.ensures.permutation in
    let ranking = length_permutation (map (counted_row c.args.table.now.rows) c.args.places.now) c.in_ok-ranked.ranked.items c.in_ok-ranked.ensures.same in
    let counted = length-map c.args.places.now (counted_row c.args.table.now.rows) in
    let lent = ap (λ (list : List CountedRow). length list) c.deref.ensures.value in
    omega (arith, sorted, c.in_ok-facets.ensures.fewer, lent, ranking, counted)
