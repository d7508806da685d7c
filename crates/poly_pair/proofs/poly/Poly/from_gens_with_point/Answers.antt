use Rattle.poly_pair.specs.declared.topology.TheConstants.{MAX_DIM}
use Rattle.std.proofs.Common.{◌≡◌, ◌∙◌, ℕ, List, inr, sym, subst, arith, inl, ◌≤◌}
use Rattle.std.proofs.lemmas.Bool.{false≢true}
use Rattle.std.proofs.lemmas.Result.{IfOk-weaker, err_from_is_err_and}
use Rattle.row_core.specs.Lists.{Row}
use Rattle.poly_pair.specs.TopologyLists.{list_width, generators_of}
use Rattle.poly_pair.specs.Parts.{AreStoredOfVectors, AreStoredOfGenerators}
use Rattle.poly_pair.specs.Polyhedra.{IsOfGenerators}
use Rattle.poly_pair.specs.FirstLists.{IsOfVectors}
use Rattle.poly_pair.proofs.ListLemmas.{generators_of_vectors, generators_of_empty}
use Rattle.poly_pair.proofs.PointKinds.{some_point}
use Rattle.poly_pair.proofs.StoredLemmas.{empty_list}
use Rattle.poly_pair.specs.Work.{rows_work, gens_work, Converts}
use Rattle.poly_pair.proofs.WorkLemmas.{unconverted}
use Rattle.poly_pair.proofs.poly.Poly.from_gens_with_point.Goals as goal

pub returns-then-is_empty-clause-points : goal.returns-then-is_empty-clause-points
returns-then-is_empty-clause-points g c =
    generators_of_empty c.args.topology c.dim.result c.args.gens.now c.in_ok-no_points.field-0 c.dim.ensures.value ((empty_list c.args.gens.now.list c.is_empty.result c.is_empty.ensures).0 c.if-is_empty.true) c.in_ok-no_points.ensures.empty

pub from_vectors-requires-clause-width : goal.from_vectors-requires-clause-width
from_vectors-requires-clause-width g c = subst (λ (k : ℕ). c.in_ok-vectors.vectors.width ≡ list_width c.args.topology k) (sym c.dim-2.ensures.value) c.in_ok-vectors.ensures.width

pub from_vectors-requires-clause-list : goal.from_vectors-requires-clause-list
from_vectors-requires-clause-list g c = record {
  system = c.args.gens.now;
  same_dim = sym c.dim-2.ensures.value;
  kinds = c.requires.kinds;
  fit = c.dim-2.ensures.rows;
  point = some_point c.args.gens.now.list (λ none. false≢true (sym c.if-is_empty.false ∙ (empty_list c.args.gens.now.list c.is_empty.result c.is_empty.ensures).1 none)) c.requires.point;
  listed = c.in_ok-vectors.ensures.rows;
}

pub returns-clause-points : goal.returns-clause-points
returns-clause-points g c =
    IfOk-weaker c.from_vectors.result (IsOfVectors c.args.topology c.dim-2.result c.in_ok-vectors.vectors.rows) (IsOfGenerators c.args.topology c.args.gens.now)
    (λ p q. generators_of_vectors c.args.topology c.dim-2.result c.args.gens.now c.in_ok-vectors.vectors.rows p c.dim-2.ensures.value c.requires.kinds c.dim-2.ensures.rows c.in_ok-vectors.ensures.rows q)
    c.from_vectors.ensures.points

pub returns-clause-stored : goal.returns-clause-stored
returns-clause-stored g c =
    IfOk-weaker c.from_vectors.result (AreStoredOfVectors c.args.topology c.dim-2.result c.in_ok-vectors.vectors.rows) (AreStoredOfGenerators c.args.topology c.args.gens.now)
    (λ p q. inr (subst (λ (k : ℕ). AreStoredOfVectors c.args.topology k (generators_of c.args.topology c.args.gens.now) p) c.dim-2.ensures.value
    (subst (λ (rs : List Row). AreStoredOfVectors c.args.topology c.dim-2.result rs p) c.in_ok-vectors.ensures.rows q)))
    c.from_vectors.ensures.stored

pub returns-in_err-no_points-clause-points : goal.returns-in_err-no_points-clause-points
returns-in_err-no_points-clause-points g c = let p = err_from_is_err_and c.from_residual.result c.from_residual.ensures.1 in rw p.1 tt

pub returns-in_err-no_points-clause-stored : goal.returns-in_err-no_points-clause-stored
returns-in_err-no_points-clause-stored g c = let p = err_from_is_err_and c.from_residual.result c.from_residual.ensures.1 in rw p.1 tt

pub returns-in_err-vectors-clause-points : goal.returns-in_err-vectors-clause-points
returns-in_err-vectors-clause-points g c = let p = err_from_is_err_and c.from_residual-in_err-vectors.result c.from_residual-in_err-vectors.ensures.1 in rw p.1 tt

pub returns-in_err-vectors-clause-stored : goal.returns-in_err-vectors-clause-stored
returns-in_err-vectors-clause-stored g c = let p = err_from_is_err_and c.from_residual-in_err-vectors.result c.from_residual-in_err-vectors.ensures.1 in rw p.1 tt

pub returns-then-is_empty-clause-conversion : goal.returns-then-is_empty-clause-conversion
returns-then-is_empty-clause-conversion g c = unconverted (gens_work c.args.topology c.args.gens.now) c.args.steps.now (omega arith)

pub returns-in_err-vectors-clause-conversion : goal.returns-in_err-vectors-clause-conversion
returns-in_err-vectors-clause-conversion g c =
    let p = err_from_is_err_and c.from_residual-in_err-vectors.result c.from_residual-in_err-vectors.ensures.1 in
    rw (p.1, p.2) (unconverted (gens_work c.args.topology c.args.gens.now) c.args.steps.now (omega arith))

pub returns-in_err-no_points-clause-conversion : goal.returns-in_err-no_points-clause-conversion
returns-in_err-no_points-clause-conversion g c =
    let p = err_from_is_err_and c.from_residual.result c.from_residual.ensures.1 in
    rw (p.1, p.2) (unconverted (gens_work c.args.topology c.args.gens.now) c.args.steps.now (omega arith))

pub returns-clause-conversion : goal.returns-clause-conversion
returns-clause-conversion g c =
    subst (λ (k : ℕ). Converts (rows_work (list_width c.args.topology k) k (generators_of c.args.topology c.args.gens.now) 0) c.args.steps.now c.from_vectors.new.steps c.from_vectors.result) c.dim-2.ensures.value
    (subst (λ (rs : List Row). Converts (rows_work (list_width c.args.topology c.dim-2.result) c.dim-2.result rs 0) c.args.steps.now c.from_vectors.new.steps c.from_vectors.result) c.in_ok-vectors.ensures.rows c.from_vectors.ensures.conversion)

pub returns-then-is_empty-clause-stored : goal.returns-then-is_empty-clause-stored
returns-then-is_empty-clause-stored g c = inl (record { given = (empty_list c.args.gens.now.list c.is_empty.result c.is_empty.ensures).0 c.if-is_empty.true; none = c.in_ok-no_points.ensures.none })

pub from_vectors-requires-clause-narrow : goal.from_vectors-requires-clause-narrow
from_vectors-requires-clause-narrow g c = subst (λ (n : ℕ). n ≤ MAX_DIM) (sym c.dim-2.ensures.value) c.requires.narrow

pub no_points-requires : goal.no_points-requires
no_points-requires g c = subst (λ (n : ℕ). n ≤ MAX_DIM) (sym c.dim.ensures.value) c.requires.narrow
