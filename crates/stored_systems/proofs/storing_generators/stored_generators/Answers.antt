use Rattle.std.proofs.Common.{◌≡◌, ◌∙◌, ◌+◌, ℕ, List, map, sym, ap, subst, All}
use Rattle.std.proofs.lemmas.Result.{IfOk-weaker}
use Rattle.row_core.specs.Lists.{Row, vectors, IsRow}
use Rattle.gens_sys.specs.Generators.{Generators, IsGenerator, generator_of}
use Rattle.stored_systems.specs.StoredForms.{stored_generators}
use Rattle.stored_systems.proofs.TakenRows.{taken_generators, joined_generators}
use Rattle.stored_systems.proofs.storing_generators.stored_generators.Goals as goal

pub of_rows-requires-clause-generators : goal.of_rows-requires-clause-generators
of_rows-requires-clause-generators c =
    let dim = c.args.dim in
    let joined = c.in_ok-append.ensures.rows in
    let rows = subst (λ (n : ℕ). All (IsRow n) c.append.new.self.rows) (c.in_ok-append.ensures.width ∙ c.requires.lists.lines_wide) c.width.ensures.rows.each in
    subst (λ (rows : List Row). All (λ (row : Row). IsGenerator dim (generator_of dim row)) rows) (sym joined)
    (joined_generators dim c.args.lines.rows c.args.rays.rows c.requires.lists.lines_marked c.requires.lists.rays_marked (subst (λ (rows : List Row). All (IsRow (dim + 1)) rows) joined rows) c.requires.primitive_lines c.requires.primitive_rays c.requires.fit_lines c.requires.fit_rays)

pub returns-clause-list : goal.returns-clause-list
returns-clause-list c =
    IfOk-weaker c.of_rows.result (λ (gens : Generators). gens.list ≡ map (generator_of c.args.dim) c.append.new.self.rows)
    (λ (gens : Generators). gens.list ≡ stored_generators c.args.dim (vectors c.args.lines.rows) (vectors c.args.rays.rows))
    (λ gens e. e ∙ ap (λ (rows : List Row). map (generator_of c.args.dim) rows) c.in_ok-append.ensures.rows ∙ taken_generators c.args.dim c.args.lines.rows c.args.rays.rows c.requires.lists.lines_marked c.requires.lists.rays_marked)
    c.of_rows.ensures.list
