use Rattle.std.proofs.Common.{ℕ, List, [], ◌∷◌, ◌++◌, map, slice_index_or, sym, ap, ◌∙◌}
use Rattle.std.proofs.lemmas.List.{map_more, take_all}
use Rattle.minimise.specs.declared.facets.CountedRow.{CountedRow}
use Rattle.minimise.specs.Facets.{counted_row}
use Rattle.minimise.proofs.facets.counted_rows.Goals as goal

pub ones-requires : goal.ones-requires
ones-requires c = c.requires c.loop-index.index 0 c.loop-index-test.true

pub loop-index-preserved : goal.loop-index-preserved
loop-index-preserved c =
    let rows = c.args.table.now.rows in
    let place : ℕ = slice_index_or c.args.places.now c.loop-index.index 0 in
    let row : ℕ → CountedRow = λ ones. record { ones = ones; place = slice_index_or c.args.places.now c.loop-index.index 0 } in
    ◌∙◌ {A = List CountedRow} c.in_ok-push.ensures.items
    (ap (λ (ones : ℕ). c.loop-index.counted.items ++ row ones ∷ []) c.ones.ensures
    ∙ ap (λ (before : List CountedRow). before ++ counted_row rows place ∷ []) c.loop-index.invariant
    ∙ sym (map_more (counted_row rows) c.args.places.now c.loop-index.index 0 c.loop-index-test.true))

pub returns : goal.returns
returns c = c.loop-index.invariant ∙ ap (λ (places : List ℕ). map (counted_row c.args.table.now.rows) places) (take_all c.loop-index.index c.args.places.now c.loop-index-test.false)
