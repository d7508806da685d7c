use Rattle.std.specs.Prelude.{Ok, pos, get_or, ◌≡◌, ◌↔◌, IsTrue}
use Rattle.std.specs.Int.{w128}
use Rattle.std.proofs.Common.{rules, subst}
use Rattle.std.proofs.lemmas.Int.{to_z-of_z}
use mir.Val.{SFits}
use Rattle.gens_sys.specs.Generators.{row_at}
use Rattle.gens_sys.specs.declared.kind.GenKind.TheVariants.{Point}
use Rattle.optimum.specs.Search.{SeekAnswer}
use Rattle.optimum.specs.declared.seeking.Found.{Found}
use Rattle.optimum.proofs.OptimumLemmas.{found_by, cell_at}
use Rattle.optimum.proofs.bounds.answered.Goals as goal

pub returns-in-Point : goal.returns-in-Point
returns-in-Point c =
    let num_fits : SFits w128 c.lowest-fraction.result.num = search rules in
    let den_fits : SFits w128 c.lowest-fraction.result.den = search rules in
    let value_fits : SFits w128 c.in-Point.best.value = search rules in
    let divisor_fits : SFits w128 (get_or c.row.result.now c.dim-dim.result (pos 0)) = search rules in
    let low = simp to_z-of_z at c.lowest-fraction.ensures in
    let found = subst (λ (f : Found). SeekAnswer c.args.up c.args.row.now c.args.gens.now.dim c.args.gens.now.list (Ok f)) c.in-Point.is c.in_ok-seek.ensures in
    let is_point : IsTrue c.eq.result ↔ c.kind.result ≡ Point = search rules in
    simp to_z-of_z
    (found_by c.args.up c.args.row.now c.args.gens.now c.in-Point.best c.lowest-fraction.result.num c.lowest-fraction.result.den (get_or c.row.result.now c.dim-dim.result (pos 0)) c.eq.result c.kind.result found
    (cell_at c.row.result.now (row_at c.args.gens.now.list c.in-Point.best.index) c.dim-dim.result c.args.gens.now.dim c.row.ensures.value c.dim-dim.ensures.value) low c.kind.ensures is_point)
