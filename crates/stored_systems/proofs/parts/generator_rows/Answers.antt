use Rattle.std.proofs.Common.{Bool, List, ℤ, ◌∷◌, [], ◌++◌, map, filter, take, get_or, sym, ap, ◌∙◌, arith}
use Rattle.std.proofs.lemmas.List.{map-append, take_all, take_more}
use Rattle.std.proofs.lemmas.List.Elements.{filter-append}
use Rattle.row_core.specs.Lists.{Row}
use Rattle.gens_sys.specs.Kinds.{is_line}
use Rattle.gens_sys.specs.declared.kind.GenKind.TheVariants.{Line}
use Rattle.gens_sys.specs.Generators.{Generator, row_at}
use Rattle.stored_systems.specs.WorkLists.{generator_row}
use Rattle.stored_systems.specs.Marks.{has_mark}
use Rattle.stored_systems.proofs.parts.generator_rows.Goals as goal

pub loop-index-preserved : goal.loop-index-preserved
loop-index-preserved c =
    let list = c.args.gens.now.list in
    let place = c.loop-index.index in
    let first = take place list in
    let next = get_or list place ([], Line) in
    let marked : List Row → List Row = λ (rows : List Row). filter (has_mark c.args.lines) rows in
    record {
      width = c.in_ok-push_marked.ensures.width ∙ c.loop-index.invariant.width;
      rows =
          c.in_ok-push_marked.ensures.rows
          ∙ ap (λ (rows : List Row). rows ++ marked ((c.row.result.now, c.is_line_kind.result) ∷ [])) c.loop-index.invariant.rows
          ∙ ap (λ (row : List ℤ). marked (map generator_row first) ++ marked ((row, c.is_line_kind.result) ∷ [])) c.row.ensures.value
          ∙ ap (λ (line : Bool). marked (map generator_row first) ++ marked ((row_at list place, line) ∷ [])) (c.is_line_kind.ensures ∙ ap is_line c.kind.ensures)
          ∙ sym (ap (λ (gs : List Generator). marked (map generator_row gs)) (take_more list place ([], Line) (omega arith)) ∙ ap marked (map-append generator_row first (next ∷ [])) ∙ filter-append (has_mark c.args.lines) (map generator_row first) (generator_row next ∷ []));
    }

pub returns : goal.returns
returns c = record {
  width = c.loop-index.invariant.width;
  rows = c.loop-index.invariant.rows ∙ ap (λ (gs : List Generator). filter (has_mark c.args.lines) (map generator_row gs)) (take_all c.loop-index.index c.args.gens.now.list (omega arith));
}
