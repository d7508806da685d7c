use Rattle.std.specs.Prelude.{◌≡◌, ◌+◌, length}
use Rattle.std.proofs.Common.{sym, ap, subst, ◌∙◌, arith}
use Rattle.std.proofs.lemmas.Grind.{common_steps}
use Rattle.sat_matrix.specs.Tables.{Table}
use Rattle.chernikova.specs.Rooms.{HasRoom}
use Rattle.chernikova.specs.declared.plan.Plan.{Plan}
use Rattle.chernikova.proofs.step.make_room.Goals as goal

pub returns-in_ok-reserve-in-Line-clause-room : goal.returns-in_ok-reserve-in-Line-clause-room
returns-in_ok-reserve-in-Line-clause-room c =
    let P : Plan → Type 0 = λ p. HasRoom p (record c.args.scratch.now { lines = c.make_empty.new.list; rays = c.make_empty-in-Line.new.list }) (record c.args.cone.now { sat = c.reserve.new.self }) in
    let one_more : c.in_ok-rays-in-Line.rays ≡ length c.args.cone.now.rays.rows + 1 = grind (arith, common_steps) in
    subst P (sym c.in-Line.is) (record {
      vectors = record {
        lines_width = c.in_ok-make_empty-in-Line.ensures.width ∙ c.width-width.ensures.value;
        rays_width = c.in_ok-make_empty-in-Line-2.ensures.width ∙ c.width-width.ensures.value;
        no_lines = c.in_ok-make_empty-in-Line.ensures.empty;
        no_rays = c.in_ok-make_empty-in-Line-2.ensures.empty;
        line_room = omega (arith, c.in_ok-make_empty-in-Line.ensures.room, c.len-in-Line.ensures);
        ray_room = omega (arith, c.in_ok-make_empty-in-Line-2.ensures.room, one_more);
      };
      zeros = omega (arith, ap (λ (t : Table). t.spare) c.in_ok-reserve-in-Line.ensures.ok);
    })
