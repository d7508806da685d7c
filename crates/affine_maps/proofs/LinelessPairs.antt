-- A pair in minimal form of a set without a line: its generators are the system.
use Rattle.std.proofs.Common.{◌≡◌, ◌≢◌, suc, ◌+◌, false, List, [], ◌∷◌, length, map, filter, ℤ, refl, sym, ap, ◌∙◌, subst, arith}
use Rattle.std.specs.Prelude.{All}
use Rattle.std.proofs.lemmas.List.Elements.{All-map, All-filter, All-nil}
use Rattle.row_core.specs.Content.{IsPrimitive}
use Rattle.row_core.specs.Lists.{Row}
use Rattle.cone_laws.specs.Canon.{IsSystem}
use Rattle.cone_laws.specs.Duality.{lines_of, rays_of}
use Rattle.cone_laws.specs.Members.{ConeOf}
use Rattle.cone_laws.proofs.SystemLists.{lines_of-system_rows, rays_of-system_rows}
use Rattle.minimise.specs.MinimalForms.{IsMinimalForm}
use Rattle.cons_sys.specs.Constraints.{Constraints}
use Rattle.gens_sys.specs.declared.kind.GenKind.{GenKind}
use Rattle.gens_sys.specs.declared.kind.GenKind.TheVariants.{Line, Ray, Point, ClosurePoint}
use Rattle.gens_sys.specs.Generators.{Generator, Generators, FitDimension}
use Rattle.sat_matrix.specs.Tables.{Table}
use Rattle.stored_systems.specs.Marks.{has_mark}
use Rattle.stored_systems.specs.WorkLists.{generator_row, generator_list, constraint_list}
use Rattle.affine_maps.specs.Carrying.{HaveNoLine, IsMinimalPair}
use Rattle.poly_pair.specs.DoubleDescriptions.{IsDoubleDescription}
use Rattle.affine_maps.proofs.OnePart.{generators_primitive}

no_lines : (list : List Generator) → HaveNoLine list → lines_of (map generator_row list) ≡ []
no_lines [] h = refl
no_lines ((v, kind) ∷ list) h = by_kind kind (h 0 (omega arith)) (no_lines list (λ i b. h (suc i) (omega (arith, b))))
  where
    by_kind : (kind : GenKind) → kind ≢ Line → lines_of (map generator_row list) ≡ [] → lines_of (map generator_row ((v, kind) ∷ list)) ≡ []
    by_kind Line n e = absurd (n refl)
    by_kind Ray n e = e
    by_kind Point n e = e
    by_kind ClosurePoint n e = e

-- without a line nothing is to be reduced
pub system_alone : (C : List ℤ → Type 0) (lines rays : List (List ℤ)) → IsMinimalForm C lines rays → lines ≡ [] → All IsPrimitive rays → IsSystem C lines rays
system_alone C lines rays form none primitive = record {
  generates = form.generates;
  lineality = form.lineality;
  echelon = record {
    pivot = λ i. 0;
    pivots = λ i b. absurd (omega (arith, b, ap (λ (ls : List (List ℤ)). length ls) none));
    ordered = λ i k b c. absurd (omega (arith, c, ap (λ (ls : List (List ℤ)). length ls) none));
    lines_zero = λ i k b c n. absurd (omega (arith, b, ap (λ (ls : List (List ℤ)). length ls) none));
    rays_zero = λ i k b c. absurd (omega (arith, b, ap (λ (ls : List (List ℤ)). length ls) none));
  };
  primitive_lines = subst (λ (ls : List (List ℤ)). All IsPrimitive ls) (sym none) (All-nil IsPrimitive);
  primitive_rays = primitive;
  irredundant = form.irredundant;
}

module _ (cs : Constraints) (gs : Generators) (table : Table) (pair : IsMinimalPair cs gs table) (fit : FitDimension gs) (none : HaveNoLine gs.list) where
  lines_are : lines_of (generator_list gs) ≡ pair.lines
  lines_are = ap lines_of pair.gens_are ∙ lines_of-system_rows pair.lines pair.rays

  rays_are : rays_of (generator_list gs) ≡ pair.rays
  rays_are = ap rays_of pair.gens_are ∙ rays_of-system_rows pair.lines pair.rays

  form : IsMinimalForm (ConeOf (cs.dim + 1) (constraint_list cs)) (lines_of (generator_list gs)) (rays_of (generator_list gs))
  form =
      subst (λ (vs : List (List ℤ)). IsMinimalForm (ConeOf (cs.dim + 1) (constraint_list cs)) vs (rays_of (generator_list gs))) (sym lines_are)
      (subst (λ (vs : List (List ℤ)). IsMinimalForm (ConeOf (cs.dim + 1) (constraint_list cs)) pair.lines vs) (sym rays_are) pair.vectors)

  primitive : All IsPrimitive (rays_of (generator_list gs))
  primitive = All-map IsPrimitive (λ (row : Row). row.0) (filter (has_mark false) (generator_list gs)) (All-filter (has_mark false) (λ (row : Row). IsPrimitive row.0) (generator_list gs) (generators_primitive gs fit))

  pub double_description : IsDoubleDescription cs gs table
  double_description = record {
    same_dim = pair.same_dim;
    closed = pair.closed;
    kinds = pair.kinds;
    system = system_alone (ConeOf (cs.dim + 1) (constraint_list cs)) (lines_of (generator_list gs)) (rays_of (generator_list gs)) form (no_lines gs.list none) primitive;
    point = pair.point;
    zeros = pair.zeros;
  }
