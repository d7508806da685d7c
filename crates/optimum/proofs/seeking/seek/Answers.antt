use Rattle.std.specs.Prelude.{Ok}
use Rattle.std.proofs.Common.{subst}
use Rattle.optimum.specs.Search.{VisitAnswer}
use Rattle.optimum.specs.declared.seeking.Visit.{Visit}
use Rattle.optimum.proofs.SeekLemmas.{seeks_more}
use Rattle.optimum.proofs.seeking.seek.Goals as goal

pub loop-i-preserved : goal.loop-i-preserved
loop-i-preserved c =
    let visited = subst (λ (v : Visit). VisitAnswer c.args.up c.args.row.now c.args.gens.now.dim c.args.gens.now.list c.loop-i.i (Ok v)) c.in-Keep.is c.in_ok-take_in.ensures in
    record {
      reached = seeks_more c.args.up c.args.row.now c.args.gens.now.dim c.args.gens.now.list c.loop-i.i c.loop-i.invariant.reached visited.0;
      keeps = visited.1;
    }
