use Rattle.std.proofs.Common.{◌≡◌, ℕ, refl, ap, ◌∙◌, subst}
use Rattle.row_core.specs.Lists.{vectors}
use Rattle.stored_systems.specs.StoredForms.{stored_generators}
use Rattle.stored_systems.specs.WorkLists.{HasPoint, HaveNoPoint}
use Rattle.poly_pair.specs.declared.topology.Topology.TheVariants.{Closed}
use Rattle.file_poly.specs.OtherSystems.{AreStoredGenerators}
use Rattle.poly_pair.proofs.OkLemmas.{ok_of_two}
use Rattle.file_poly.proofs.OtherSystems.{generators_of_system, generators_of_none}
use Rattle.poly_pair.proofs.SpanningSystems.{lines_fit_for, rays_fit_for}
use Rattle.file_poly.proofs.other_system.generators_of_system.Goals as goal

pub returns-then-not-has_point : goal.returns-then-not-has_point
returns-then-not-has_point c =
    let rays = vectors c.args.system.rays.rows in
    generators_of_none c.args.cons.now (vectors c.args.system.lines.rows) rays c.new.result c.requires.narrow c.requires.closed c.dim-dim.ensures.rows c.requires.canon
    (subst (λ (n : ℕ). HaveNoPoint n rays) c.dim-dim.ensures.value c.if-not-has_point.ensures)
    (c.new.ensures.dim ∙ c.dim-dim.ensures.value) c.new.ensures.empty

pub stored_generators-requires-clause-fit_lines : goal.stored_generators-requires-clause-fit_lines
stored_generators-requires-clause-fit_lines c = lines_fit_for Closed refl c.args.cons.now (vectors c.args.system.lines.rows) (vectors c.args.system.rays.rows) c.requires.closed c.requires.canon c.dim-dim.result c.dim-dim.ensures.value

pub stored_generators-requires-clause-fit_rays : goal.stored_generators-requires-clause-fit_rays
stored_generators-requires-clause-fit_rays c = rays_fit_for Closed refl c.args.cons.now (vectors c.args.system.lines.rows) (vectors c.args.system.rays.rows) c.requires.closed c.requires.canon c.dim-dim.result c.dim-dim.ensures.value

pub returns : goal.returns
returns c =
    let cs = c.args.cons.now in
    let lines = vectors c.args.system.lines.rows in
    let rays = vectors c.args.system.rays.rows in
    ok_of_two (λ gs. gs.dim ≡ c.dim-dim.result) (λ gs. gs.list ≡ stored_generators c.dim-dim.result lines rays) (AreStoredGenerators cs) c.stored_generators.result
    (λ gs dim list. generators_of_system cs lines rays gs c.requires.narrow c.requires.closed c.requires.canon
    (subst (λ (n : ℕ). HasPoint n rays) c.dim-dim.ensures.value c.if-not-has_point.ensures)
    (dim ∙ c.dim-dim.ensures.value)
    (list ∙ ap (λ (n : ℕ). stored_generators n lines rays) c.dim-dim.ensures.value))
    c.stored_generators.ensures.dim c.stored_generators.ensures.list
