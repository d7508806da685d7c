use Rattle.std.specs.Prelude.{Contains}
use Rattle.std.proofs.Common.{◌≡◌, ◌<◌, List, ℤ, [], length, arith, sym, ◌∙◌, subst}
use Rattle.std.proofs.lemmas.Result.{err_from_is_err_and}
use Rattle.std.proofs.lemmas.List.Elements.{Contains-get_or}
use Rattle.row_core.specs.Content.{IsPrimitive}
use Rattle.row_core.specs.Lists.{row_at, vectors, vector_at}
use Rattle.row_core.proofs.RowListLemmas.{length-vectors, vector_at-vectors}
use Rattle.minimise.specs.Bases.{IsLineCleared}
use Rattle.minimise.proofs.ClearedRows.{cleared_more, marked_after}
use Rattle.minimise.proofs.FaultCases.{clear_fault}
use Rattle.minimise.proofs.bases.GrowingBasis.clear_before.Goals as goal

pub clear_line-requires-clause-primitive : goal.clear_line-requires-clause-primitive
clear_line-requires-clause-primitive g c =
    let index = c.loop-index.index in
    let old = c.args.self.now.lines.rows in
    let same : row_at c.loop-index.self.lines.rows c.loop-index.index ≡ vector_at (vectors c.args.self.now.lines.rows) c.loop-index.index =
    sym (vector_at-vectors c.loop-index.self.lines.rows index) ∙ c.loop-index.invariant.cleared.behind index (omega arith) in
    subst IsPrimitive (sym same) (c.requires.primitive index [] (omega (arith, c.requires.end, length-vectors old, c.loop-index-test.true)))

pub returns-in_err-clear_line-clause-cleared : goal.returns-in_err-clear_line-clause-cleared
returns-in_err-clear_line-clause-cleared g c =
    let index = c.loop-index.index in
    let old = c.args.self.now.lines.rows in
    let below : c.loop-index.index < length (vectors c.args.self.now.lines.rows) = omega (arith, c.requires.end, length-vectors old, c.loop-index-test.true) in
    let same : row_at c.loop-index.self.lines.rows c.loop-index.index ≡ vector_at (vectors c.args.self.now.lines.rows) c.loop-index.index =
    sym (vector_at-vectors c.loop-index.self.lines.rows index) ∙ c.loop-index.invariant.cleared.behind index (omega arith) in
    let within : Contains (vectors c.args.self.now.lines.rows) (row_at c.loop-index.self.lines.rows c.loop-index.index) =
    subst (λ (v : List ℤ). Contains (vectors c.args.self.now.lines.rows) v) (sym same) (Contains-get_or (vectors old) index [] below) in
    let p = err_from_is_err_and c.from_residual.result c.from_residual.ensures.1 in
    rw (p.1, p.2) (clear_fault c.args.pivot c.args.self.now.reduced.items c.loop-index.self.reduced.items (vectors old) (row_at c.loop-index.self.lines.rows index) _ c.loop-index.invariant.same within c.in_err-clear_line.ensures.cleared)

pub loop-index-preserved : goal.loop-index-preserved
loop-index-preserved g c =
    let inv = c.loop-index.invariant in
    let index = c.loop-index.index in
    let old = c.loop-index.self.lines.rows in
    let new = c.clear_line.new.self.lines.rows in
    record {
      buffers = c.clear_line.ensures.buffers;
      width = c.clear_line.ensures.width ∙ inv.width;
      same = c.clear_line.ensures.same ∙ inv.same;
      no_fewer = omega (arith, inv.no_fewer, c.clear_line.ensures.counted);
      no_more = omega (arith, inv.no_more, c.clear_line.ensures.counted);
      cleared = cleared_more c.args.pivot c.args.self.now.reduced.items (vectors c.args.self.now.lines.rows) index old new inv.cleared
          (subst (λ (v : List ℤ). IsLineCleared c.args.pivot v c.loop-index.self.lines.rows c.loop-index.index c.clear_line.new.self.lines.rows) inv.same c.in_ok-clear_line.ensures.cleared);
      marked = λ m. marked_after c.args.pivot c.loop-index.self.reduced.items old index new c.in_ok-clear_line.ensures.cleared (inv.marked m);
    }
