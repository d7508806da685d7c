-- Both kinds of step generate the cone of one row more.
use Rattle.std.proofs.Common.{ℕ, ◌+◌, List, remove, ℤ, sym, subst}
use Rattle.row_core.specs.Lists.{Row, Pointwise, vector_at}
use Rattle.cone_laws.specs.Cones.{Upto, Generates}
use Rattle.cone_laws.specs.Steps.{IsRowAt, IsLowered, IsLineStep}
use Rattle.cone_laws.specs.StepLaws.{GeneratesUpto}
use Rattle.cone_laws.proofs.LineSteps.{LowersTo, generates_more, lineality_more}

-- ---- the line step
lowers : (a l : List ℤ) (ws rs : List (List ℤ)) → Pointwise (IsLowered a l) ws rs → Pointwise (LowersTo a l) ws rs
lowers a l ws rs p = record {
  as_many = p.as_many;
  each = λ i d e h. record { lowered = (p.each i d e h).lowered; wide = (p.each i d e h).wide };
}

pub line_step_generates : (width : ℕ) (rows : List Row) (k : ℕ) (row : Row) (lines rays new_lines new_rays : List (List ℤ)) → IsRowAt rows k row → GeneratesUpto width rows k lines rays → IsLineStep row lines rays new_lines new_rays → GeneratesUpto width rows (k + 1) new_lines new_rays
line_step_generates width rows k row lines rays new_lines new_rays at g s =
    let l = vector_at lines s.index in
    let p = lowers row.0 l (remove lines s.index) new_lines s.lines_lowered in
    let q = lowers row.0 l rays s.kept s.rays_lowered in
    record {
      generates = subst (λ (r : List (List ℤ)). Generates (Upto width rows (k + 1)) new_lines r) (sym s.result)
          (generates_more width rows k row.0 lines rays g.generates g.lineality s.index s.crossing.below s.crossing.crosses new_lines s.kept p q row.1 at);
      lineality = lineality_more width rows k row.0 lines rays g.generates g.lineality s.index s.crossing.below s.crossing.crosses new_lines s.kept p q row.1 at;
    }
