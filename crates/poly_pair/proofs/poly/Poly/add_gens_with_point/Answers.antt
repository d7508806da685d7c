use Rattle.poly_pair.specs.declared.topology.TheConstants.{MAX_DIM}
use Rattle.std.proofs.Common.{◌≡◌, ◌++◌, ℕ, List, length, refl, ap, sym, subst, ◌∙◌, inr, ◌+◌, ◌≤◌}
use Rattle.std.specs.Prelude.{IfOk}
use Rattle.std.proofs.lemmas.Result.{IfOk-weaker, err_from_is_err_and}
use Rattle.row_core.specs.Lists.{Row}
use Rattle.gens_sys.specs.Generators.{Generators}
use Rattle.gens_sys.proofs.SystemLemmas.{FitDimension-append}
use Rattle.poly_pair.specs.declared.topology.Topology.{Topology}
use Rattle.poly_pair.specs.declared.topology.Topology.TheVariants.{Closed}
use Rattle.poly_pair.specs.TopologyLists.{AreGeneratorsFor, generators_of}
use Rattle.poly_pair.specs.Polyhedra.{IsOfGenerators}
use Rattle.poly_pair.specs.FirstLists.{LacksPoint, IsOfVectors}
use Rattle.poly_pair.specs.Additions.{with_generators}
use Rattle.poly_pair.specs.Parts.{AreStoredOfVectors, AreStoredOfGenerators}
use Rattle.poly_pair.proofs.ListLemmas.{generators_of_vectors}
use Rattle.poly_pair.proofs.Additions.{generators_are_all, generators_for, at_all, at_closed_generators}
use Rattle.poly_pair.proofs.AddedPoints.{has_point, lacks_added}
use Rattle.poly_pair.proofs.StoredLemmas.{kept_dim}
use Rattle.poly_pair.specs.Work.{rows_work, gens_work, added_gens, Converts}
use Rattle.poly_pair.proofs.WorkLemmas.{unconverted, starts, starts_not, gens_below}
use Rattle.poly_pair.proofs.poly.Poly.add_gens_with_point.Goals as goal

pub from_gens_with_point-requires-clause-kinds : goal.from_gens_with_point-requires-clause-kinds
from_gens_with_point-requires-clause-kinds g c =
    let all : c.in_ok-all.all ≡ with_generators c.args.self.now c.args.more.now = generators_are_all c.args.self.now c.args.more.now c.in_ok-all.all c.gens.result.now c.gens.ensures.kept c.gens.ensures.value c.in_ok-all.ensures.dim c.in_ok-all.ensures.list in
    at_all c.topology.result c.args.self.now.topology c.in_ok-all.all (with_generators c.args.self.now c.args.more.now) (λ t gs. AreGeneratorsFor t gs) (sym c.topology.ensures.value) (sym all)
    (generators_for c.args.self.now c.args.more.now c.gens.ensures.kept c.requires.kinds)

pub from_gens_with_point-requires-clause-point : goal.from_gens_with_point-requires-clause-point
from_gens_with_point-requires-clause-point g c lacks =
    let all : c.in_ok-all.all ≡ with_generators c.args.self.now c.args.more.now = generators_are_all c.args.self.now c.args.more.now c.in_ok-all.all c.gens.result.now c.gens.ensures.kept c.gens.ensures.value c.in_ok-all.ensures.dim c.in_ok-all.ensures.list in
    c.requires.point ((lacks_added c.args.self.now c.args.more.now c.gens.ensures.kept).0 (subst (λ (gs : Generators). LacksPoint gs.list) all lacks))

pub closed_with_generators-requires-clause-list : goal.closed_with_generators-requires-clause-list
closed_with_generators-requires-clause-list g c =
    let joined : Generators = record { dim = c.gens-2.result.now.dim; list = c.gens-2.result.now.list ++ c.args.more.now.list } in
    let all : joined ≡ with_generators c.args.self.now c.args.more.now = generators_are_all c.args.self.now c.args.more.now joined c.gens-2.result.now c.gens-2.ensures.kept c.gens-2.ensures.value refl refl in
    record {
      system = joined;
      same_dim = ap (λ (gs : Generators). gs.dim) all ∙ sym c.dim.ensures.value;
      kinds = at_all Closed c.args.self.now.topology joined (with_generators c.args.self.now c.args.more.now) (λ t gs. AreGeneratorsFor t gs) c.if-not-can_start.ensures.closed (sym all) (generators_for c.args.self.now c.args.more.now c.gens-2.ensures.kept c.requires.kinds);
      fit = (FitDimension-append c.gens-2.result.now.dim c.gens-2.result.now c.args.more.now c.in_ok-list.ensures.fit c.in_ok-list.ensures.more_fit refl (c.requires.dim ∙ sym (kept_dim c.args.self.now c.gens-2.ensures.kept) ∙ sym (ap (λ (gs : Generators). gs.dim) c.gens-2.ensures.value)));
      point = has_point c.args.self.now c.args.more.now joined c.gens-2.ensures.kept all c.if-not-can_start.ensures.some;
      listed = c.in_ok-list.ensures.rows;
    }

pub returns-clause-points : goal.returns-clause-points
returns-clause-points g c =
    let joined : Generators = record { dim = c.gens-2.result.now.dim; list = c.gens-2.result.now.list ++ c.args.more.now.list } in
    let all : joined ≡ with_generators c.args.self.now c.args.more.now = generators_are_all c.args.self.now c.args.more.now joined c.gens-2.result.now c.gens-2.ensures.kept c.gens-2.ensures.value refl refl in
    let kinds = at_all Closed c.args.self.now.topology joined (with_generators c.args.self.now c.args.more.now) (λ t gs. AreGeneratorsFor t gs) c.if-not-can_start.ensures.closed (sym all) (generators_for c.args.self.now c.args.more.now c.gens-2.ensures.kept c.requires.kinds) in
    IfOk-weaker c.closed_with_generators.result (IsOfVectors Closed c.dim.result c.in_ok-list.list.rows) (IsOfGenerators c.args.self.now.topology (with_generators c.args.self.now c.args.more.now))
    (λ p h. at_all c.args.self.now.topology Closed (with_generators c.args.self.now c.args.more.now) joined (λ t gs. IsOfGenerators t gs p) (sym c.if-not-can_start.ensures.closed) all
    (generators_of_vectors Closed c.dim.result joined c.in_ok-list.list.rows p (c.dim.ensures.value ∙ sym (ap (λ (gs : Generators). gs.dim) all)) kinds (FitDimension-append c.gens-2.result.now.dim c.gens-2.result.now c.args.more.now c.in_ok-list.ensures.fit c.in_ok-list.ensures.more_fit refl (c.requires.dim ∙ sym (kept_dim c.args.self.now c.gens-2.ensures.kept) ∙ sym (ap (λ (gs : Generators). gs.dim) c.gens-2.ensures.value))) c.in_ok-list.ensures.rows h))
    c.closed_with_generators.ensures.points

pub returns-clause-stored : goal.returns-clause-stored
returns-clause-stored g c =
    let joined : Generators = record { dim = c.gens-2.result.now.dim; list = c.gens-2.result.now.list ++ c.args.more.now.list } in
    let all : joined ≡ with_generators c.args.self.now c.args.more.now = generators_are_all c.args.self.now c.args.more.now joined c.gens-2.result.now c.gens-2.ensures.kept c.gens-2.ensures.value refl refl in
    let rows : c.in_ok-list.list.rows ≡ generators_of Closed (with_generators c.args.self.now c.args.more.now) = subst (λ (gs : Generators). c.in_ok-list.list.rows ≡ generators_of Closed gs) all c.in_ok-list.ensures.rows in
    IfOk-weaker c.closed_with_generators.result (AreStoredOfVectors Closed c.dim.result c.in_ok-list.list.rows) (AreStoredOfGenerators c.args.self.now.topology (with_generators c.args.self.now c.args.more.now))
    (λ p h. inr (subst (λ (t : Topology). AreStoredOfVectors t c.args.self.now.cons.dim (generators_of t (with_generators c.args.self.now c.args.more.now)) p) (sym c.if-not-can_start.ensures.closed)
    (subst (λ (rs : List Row). AreStoredOfVectors Closed c.args.self.now.cons.dim rs p) rows
    (subst (λ (k : ℕ). AreStoredOfVectors Closed k c.in_ok-list.list.rows p) c.dim.ensures.value h))))
    c.closed_with_generators.ensures.stored

pub returns-then-not-can_start-clause-points : goal.returns-then-not-can_start-clause-points
returns-then-not-can_start-clause-points g c =
    let all : c.in_ok-all.all ≡ with_generators c.args.self.now c.args.more.now = generators_are_all c.args.self.now c.args.more.now c.in_ok-all.all c.gens.result.now c.gens.ensures.kept c.gens.ensures.value c.in_ok-all.ensures.dim c.in_ok-all.ensures.list in
    at_all c.args.self.now.topology c.topology.result (with_generators c.args.self.now c.args.more.now) c.in_ok-all.all (λ t gs. IfOk c.from_gens_with_point.result (IsOfGenerators t gs)) c.topology.ensures.value all c.from_gens_with_point.ensures.points

pub returns-then-not-can_start-clause-stored : goal.returns-then-not-can_start-clause-stored
returns-then-not-can_start-clause-stored g c =
    let all : c.in_ok-all.all ≡ with_generators c.args.self.now c.args.more.now = generators_are_all c.args.self.now c.args.more.now c.in_ok-all.all c.gens.result.now c.gens.ensures.kept c.gens.ensures.value c.in_ok-all.ensures.dim c.in_ok-all.ensures.list in
    at_all c.args.self.now.topology c.topology.result (with_generators c.args.self.now c.args.more.now) c.in_ok-all.all (λ t gs. IfOk c.from_gens_with_point.result (AreStoredOfGenerators t gs)) c.topology.ensures.value all c.from_gens_with_point.ensures.stored

pub returns-in_err-all-clause-points : goal.returns-in_err-all-clause-points
returns-in_err-all-clause-points g c = let p = err_from_is_err_and c.from_residual.result c.from_residual.ensures.1 in rw p.1 tt

pub returns-in_err-all-clause-stored : goal.returns-in_err-all-clause-stored
returns-in_err-all-clause-stored g c = let p = err_from_is_err_and c.from_residual.result c.from_residual.ensures.1 in rw p.1 tt

pub returns-in_err-list-clause-points : goal.returns-in_err-list-clause-points
returns-in_err-list-clause-points g c = let p = err_from_is_err_and c.from_residual-in_err-list.result c.from_residual-in_err-list.ensures.1 in rw p.1 tt

pub returns-in_err-list-clause-stored : goal.returns-in_err-list-clause-stored
returns-in_err-list-clause-stored g c = let p = err_from_is_err_and c.from_residual-in_err-list.result c.from_residual-in_err-list.ensures.1 in rw p.1 tt

pub returns-in_err-all-clause-conversion : goal.returns-in_err-all-clause-conversion
returns-in_err-all-clause-conversion g c =
    let p = err_from_is_err_and c.from_residual.result c.from_residual.ensures.1 in
    rw (p.1, p.2) (unconverted (added_gens c.args.self.now c.args.more.now) c.args.steps.now (gens_below c.args.self.now c.args.more.now))

pub returns-in_err-list-clause-conversion : goal.returns-in_err-list-clause-conversion
returns-in_err-list-clause-conversion g c =
    let p = err_from_is_err_and c.from_residual-in_err-list.result c.from_residual-in_err-list.ensures.1 in
    rw (p.1, p.2) (unconverted (added_gens c.args.self.now c.args.more.now) c.args.steps.now (gens_below c.args.self.now c.args.more.now))

pub returns-then-not-can_start-clause-conversion : goal.returns-then-not-can_start-clause-conversion
returns-then-not-can_start-clause-conversion g c =
    let self = c.args.self.now in
    let all : c.in_ok-all.all ≡ with_generators self c.args.more.now = generators_are_all self c.args.more.now c.in_ok-all.all c.gens.result.now c.gens.ensures.kept c.gens.ensures.value c.in_ok-all.ensures.dim c.in_ok-all.ensures.list in
    subst (λ (n : ℕ). Converts (record (gens_work self.topology (with_generators self c.args.more.now)) { from = n }) c.args.steps.now c.from_gens_with_point.new.steps c.from_gens_with_point.result) (sym (starts_not self (length self.gens.list) c.if-not-can_start.ensures))
    (at_all self.topology c.topology.result (with_generators self c.args.more.now) c.in_ok-all.all (λ t gs. Converts (gens_work t gs) c.args.steps.now c.from_gens_with_point.new.steps c.from_gens_with_point.result) c.topology.ensures.value all c.from_gens_with_point.ensures.conversion)

pub returns-clause-conversion : goal.returns-clause-conversion
returns-clause-conversion g c =
    let self = c.args.self.now in
    let joined : Generators = record { dim = c.gens-2.result.now.dim; list = c.gens-2.result.now.list ++ c.args.more.now.list } in
    let all : joined ≡ with_generators self c.args.more.now = generators_are_all self c.args.more.now joined c.gens-2.result.now c.gens-2.ensures.kept c.gens-2.ensures.value refl refl in
    let rows : c.in_ok-list.list.rows ≡ generators_of Closed (with_generators self c.args.more.now) = subst (λ (gs : Generators). c.in_ok-list.list.rows ≡ generators_of Closed gs) all c.in_ok-list.ensures.rows in
    subst (λ (n : ℕ). Converts (record (gens_work self.topology (with_generators self c.args.more.now)) { from = n }) c.args.steps.now c.closed_with_generators.new.steps c.closed_with_generators.result) (sym (starts self (length self.gens.list) c.if-not-can_start.ensures))
    (at_closed_generators self.topology c.dim.result (with_generators self c.args.more.now) c.in_ok-list.list.rows (λ t w k rs. Converts (rows_work w k rs (length self.gens.list)) c.args.steps.now c.closed_with_generators.new.steps c.closed_with_generators.result) c.if-not-can_start.ensures.closed c.dim.ensures.value rows c.closed_with_generators.ensures.conversion)

pub closed_with_generators-requires-clause-some : goal.closed_with_generators-requires-clause-some
closed_with_generators-requires-clause-some g c = c.if-not-can_start.ensures.some

pub closed_with_generators-requires-clause-width : goal.closed_with_generators-requires-clause-width
closed_with_generators-requires-clause-width g c =
    c.in_ok-list.ensures.width ∙ ap (λ (gs : Generators). gs.dim + 1) c.gens-2.ensures.value ∙ ap (λ (n : ℕ). n + 1) (kept_dim c.args.self.now c.gens-2.ensures.kept) ∙ sym (ap (λ (n : ℕ). n + 1) c.dim.ensures.value)

pub from_gens_with_point-requires-clause-narrow : goal.from_gens_with_point-requires-clause-narrow
from_gens_with_point-requires-clause-narrow g c =
    subst (λ (n : ℕ). n ≤ MAX_DIM) (sym (c.in_ok-all.ensures.dim ∙ ap (λ (gs : Generators). gs.dim) c.gens.ensures.value ∙ kept_dim c.args.self.now c.gens.ensures.kept)) c.gens.ensures.kept.narrow

pub closed_with_generators-requires-clause-narrow : goal.closed_with_generators-requires-clause-narrow
closed_with_generators-requires-clause-narrow g c = c.dim.ensures.narrow

pub joined_generators-requires : goal.joined_generators-requires
joined_generators-requires g c = c.requires.dim ∙ sym (kept_dim c.args.self.now c.gens-2.ensures.kept) ∙ sym (ap (λ (gs : Generators). gs.dim) c.gens-2.ensures.value)

pub followed_by-requires : goal.followed_by-requires
followed_by-requires g c = record { same_dimension = c.requires.dim ∙ sym (kept_dim c.args.self.now c.gens.ensures.kept) ∙ sym (ap (λ (gs : Generators). gs.dim) c.gens.ensures.value) }

pub closed_with_generators-requires-clause-rows : goal.closed_with_generators-requires-clause-rows
closed_with_generators-requires-clause-rows g c =
    let joined : Generators = record { dim = c.gens-2.result.now.dim; list = c.gens-2.result.now.list ++ c.args.more.now.list } in
    let all : joined ≡ with_generators c.args.self.now c.args.more.now = generators_are_all c.args.self.now c.args.more.now joined c.gens-2.result.now c.gens-2.ensures.kept c.gens-2.ensures.value refl refl in
    subst (λ (gs : Generators). c.in_ok-list.list.rows ≡ generators_of Closed gs) all c.in_ok-list.ensures.rows

pub closed_with_generators-requires-clause-closed : goal.closed_with_generators-requires-clause-closed
closed_with_generators-requires-clause-closed g c = c.if-not-can_start.ensures.closed
