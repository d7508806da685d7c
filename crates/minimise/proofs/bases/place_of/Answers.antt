use Rattle.std.proofs.Common.{◌<◌, List, ℤ, length, sym, ◌∙◌, subst, arith}
use Rattle.row_core.specs.Lists.{vectors}
use Rattle.cone_laws.specs.Canon.{IsPivot}
use Rattle.row_core.proofs.RowListLemmas.{length-vectors, vector_at-vectors}
use Rattle.minimise.proofs.Places.{place_more, place_here}
use Rattle.minimise.proofs.bases.place_of.Goals as goal

pub pivot_of-requires : goal.pivot_of-requires
pivot_of-requires c =
    let rows = c.args.lines.now.rows in
    let index = c.loop-index.index in
    let below : index < length (vectors c.args.lines.now.rows) = omega (arith, length-vectors rows) in
    (c.requires.echelon.pivot index, subst (λ (v : List ℤ). IsPivot v (c.requires.echelon.pivot index)) (vector_at-vectors rows index ∙ sym c.row.ensures.value) (c.requires.echelon.pivots index below))

pub returns-then-pivot_of-column : goal.returns-then-pivot_of-column
returns-then-pivot_of-column c =
    let rows = c.args.lines.now.rows in
    let index = c.loop-index.index in
    place_here (vectors rows) c.args.column index c.loop-index.invariant c.pivot_of.result c.requires.echelon (omega (arith, length-vectors rows))
    (subst (λ (v : List ℤ). IsPivot v c.pivot_of.result) (c.row.ensures.value ∙ sym (vector_at-vectors rows index)) c.pivot_of.ensures) c.if-pivot_of-column.true

pub loop-index-preserved : goal.loop-index-preserved
loop-index-preserved c =
    let rows = c.args.lines.now.rows in
    let index = c.loop-index.index in
    place_more (vectors rows) c.args.column index c.pivot_of.result c.loop-index.invariant
    (subst (λ (v : List ℤ). IsPivot v c.pivot_of.result) (c.row.ensures.value ∙ sym (vector_at-vectors rows index)) c.pivot_of.ensures) c.if-pivot_of-column.false (c.requires.apart index (omega arith))
