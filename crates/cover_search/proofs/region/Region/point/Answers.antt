use Rattle.std.proofs.Common.{ℕ, pos, ◌<ℤ◌, subst, List, ℤ}
use Rattle.row_core.specs.Vectors.{cell}
use Rattle.row_core.specs.Content.{IsPrimitiveOf}
use Rattle.row_core.specs.Lists.{row_at, vectors}
use Rattle.cons_sys.specs.Constraints.{Constraints}
use Rattle.nnc_enc.specs.Encoding.{lowered}
use Rattle.stored_systems.specs.WorkLists.{HaveNoPoint}
use Rattle.poly_pair.specs.Spanning.{HoldNowhere}
use Rattle.cover_search.specs.Regions.{IsPointIn}
use Rattle.cover_search.proofs.RegionLemmas.{holds_nowhere, point_in}
use Rattle.cover_search.proofs.region.Region.point.Goals as goal

pub returns-in_default : goal.returns-in_default
returns-in_default c =
    let rays = c.self.inside.cone.rays.rows in
    let none : HaveNoPoint c.self.inside.cons.dim (vectors rays) = subst (λ (n : ℕ). HaveNoPoint n (vectors rays)) c.dim-dim.ensures.value c.in_default.ensures in
    subst HoldNowhere c.self.view_is (holds_nowhere c.self.inside.cons c.dim-dim.ensures.rows c.self.inside.cone c.self.invariant.canonical none)

pub returns : goal.returns
returns c =
    let rays = c.self.inside.cone.rays.rows in
    let above : pos 0 <ℤ cell (row_at rays c.in-Some.index) c.self.inside.cons.dim = subst (λ (n : ℕ). pos 0 <ℤ cell (row_at rays c.in-Some.index) n) c.dim-dim.ensures.value c.in-Some.ensures.1 in
    let primitive : IsPrimitiveOf (lowered c.self.inside.cons.dim (row_at rays c.in-Some.index)) c.in_ok-point.point = subst (λ (n : ℕ). IsPrimitiveOf (lowered n (row_at rays c.in-Some.index)) c.in_ok-point.point) c.dim-dim.ensures.value (subst (λ (r : List ℤ). IsPrimitiveOf (lowered c.dim-dim.result r) c.in_ok-point.point) c.row.ensures.value c.in_ok-point.ensures) in
    subst (λ (cs : Constraints). IsPointIn cs c.in_ok-point.point) c.self.view_is
    (point_in c.self.inside.cons c.dim-dim.ensures.rows c.self.inside.cone c.self.invariant.canonical c.in-Some.index c.in-Some.ensures.0 above c.in_ok-point.point primitive)
