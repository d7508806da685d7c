use Rattle.std.proofs.Common.{◌++◌, ◌∷◌, [], get_or, arith, sym, ap, ◌∙◌, ℕ, List, map}
use Rattle.std.proofs.lemmas.List.{map_more, take_all}
use Rattle.sat_matrix.specs.Tables.{bits_of}
use Rattle.minimise.specs.SecondSystems.{behind_lines}
use Rattle.minimise.proofs.second_table.second_table.Goals as goal

pub loop-index-preserved : goal.loop-index-preserved
loop-index-preserved c =
    let inv = c.loop-index.invariant in
    let zeros = c.args.zeros.now.rows in
    let order = c.args.order.now in
    record {
      columns = c.push_behind.ensures.columns ∙ inv.columns;
      spare = omega (arith, inv.spare, c.push_behind.ensures.spare);
      rows = c.push_behind.ensures.rows ∙ ap (λ rs. rs ++ behind_lines c.args.lines (bits_of c.args.zeros.now.rows (get_or c.args.places.now (get_or c.args.order.now c.loop-index.index 0) 0)) ∷ []) inv.rows
          ∙ sym (map_more (λ i. behind_lines c.args.lines (bits_of c.args.zeros.now.rows (get_or c.args.places.now i 0))) order c.loop-index.index 0 c.loop-index-test.true);
    }

pub returns-clause-rows : goal.returns-clause-rows
returns-clause-rows c =
    c.loop-index.invariant.rows ∙ ap (λ (is : List ℕ). map (λ i. behind_lines c.args.lines (bits_of c.args.zeros.now.rows (get_or c.args.places.now i 0))) is) (take_all c.loop-index.index c.args.order.now c.loop-index-test.false)
