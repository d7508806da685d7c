use Rattle.std.specs.Prelude.{◌≡◌, false, []}
use Rattle.std.proofs.lemmas.List.Elements.{All-same}
use Rattle.row_core.specs.Lists.{Row}
use Rattle.row_store.proofs.ChangeLemmas.{marked_none}
use Rattle.chernikova.proofs.NextStates.{start_state}
use Rattle.chernikova.proofs.conversion.start.Goals as goal

pub returns : goal.returns
returns c =
    start_state c.args.width c.args.rows.now.rows c.in_ok-lines.lines c.new-rays.result c.new-sat.result c.requires (record {
      lines_wide = c.in_ok-lines.ensures.list.0;
      rays_wide = c.new-rays.ensures.width;
      lines_marked = c.in_ok-lines.ensures.list.1;
      rays_marked = All-same (λ (row : Row). row.1 ≡ false) c.new-rays.result.rows [] c.new-rays.ensures.empty (marked_none false);
    }) c.in_ok-lines.ensures.units c.new-rays.ensures.empty c.new-sat.ensures.columns c.new-sat.ensures.rows
