-- The lines of a list, or its other rows: how many there are, and that they are primitive.
use Rattle.std.proofs.Common.{◌≡◌, ℕ, ◌+◌, ◌*◌, ◌≤◌, true, false, List, ◌++◌, length, map, filter, refl, sym, ap, subst, arith}
use Rattle.std.specs.Prelude.{All}
use Rattle.std.proofs.lemmas.List.{length-append}
use Rattle.std.proofs.lemmas.List.Elements.{All-map, All-filter}
use Rattle.std.proofs.lemmas.List.Sorted.{IsPermutation-filter_both, length_permutation}
use Rattle.row_core.specs.Content.{IsPrimitive}
use Rattle.row_core.specs.Lists.{Row, Rows, vectors}
use Rattle.row_core.specs.MarkedLists.{AreLists}
use Rattle.cons_sys.specs.Constraints.{Constraints, FitDimension as FitConstraints}
use Rattle.gens_sys.specs.Generators.{Generators, FitDimension}
use Rattle.minimise.specs.MinimalForms.{AreFormed, LeavesInForm}
use Rattle.stored_systems.specs.Marks.{has_mark}
use Rattle.stored_systems.specs.WorkLists.{constraint_row, generator_row, generator_list}
use Rattle.stored_systems.proofs.StoredLists.{marked_true, marked_false}
use Rattle.affine_maps.specs.FormedPairs.{AreFormedConstraints, AreFormedGenerators}

module _ (list : List Row) (lines rays : Rows) (lines_are : lines.rows ≡ filter (has_mark true) list) (rays_are : rays.rows ≡ filter (has_mark false) list) where
  -- both parts are the list
  pub both_many : length lines.rows + length rays.rows ≡ length list
  both_many =
      let both = length_permutation list (filter (has_mark true) list ++ filter (has_mark false) list) (IsPermutation-filter_both (has_mark true) (has_mark false) (λ row. refl) list) in
      omega (arith, both, length-append (filter (has_mark true) list) (filter (has_mark false) list), ap (λ (rows : List Row). length rows) lines_are, ap (λ (rows : List Row). length rows) rays_are)

  pub part_lists : rays.width ≡ lines.width → AreLists lines.width lines rays
  part_lists e = record { lines_wide = refl; rays_wide = e; lines_marked = marked_true lines.rows list lines_are; rays_marked = marked_false rays.rows list rays_are }

  pub rays_primitive : All (λ (row : Row). IsPrimitive row.0) list → All IsPrimitive (vectors rays.rows)
  rays_primitive h = All-map IsPrimitive (λ (row : Row). row.0) rays.rows (subst (All (λ (row : Row). IsPrimitive row.0)) (sym rays_are) (All-filter (has_mark false) (λ (row : Row). IsPrimitive row.0) list h))

  pub part_leaves : LeavesInForm lines.rows rays.rows → LeavesInForm (filter (has_mark true) list) (filter (has_mark false) list)
  part_leaves h = subst (λ (rows : List Row). LeavesInForm rows (filter (has_mark false) list)) lines_are (subst (LeavesInForm lines.rows) rays_are h)

  pub part_counted : (old new width : ℕ) → lines.width ≡ width → new ≤ old + 2 * ((length lines.rows + length rays.rows) * lines.width) → new ≤ old + 2 * (length list * width)
  part_counted old new width e h = subst (λ (n : ℕ). new ≤ old + 2 * (n * width)) both_many (subst (λ (w : ℕ). new ≤ old + 2 * ((length lines.rows + length rays.rows) * w)) e h)

pub constraints_primitive : (cs : Constraints) → FitConstraints cs → All (λ (row : Row). IsPrimitive row.0) (map constraint_row cs.list)
constraints_primitive cs f = All-map (λ (row : Row). IsPrimitive row.0) constraint_row cs.list (λ i d h. (f.each i d h).primitive)

pub generators_primitive : (gs : Generators) → FitDimension gs → All (λ (row : Row). IsPrimitive row.0) (generator_list gs)
generators_primitive gs f = All-map (λ (row : Row). IsPrimitive row.0) generator_row gs.list (λ i d h. (f.each i d h).primitive)

pub formed_constraints_of : (cs : Constraints) (lines rays : Rows) (forms : Rows × Rows) → lines.rows ≡ filter (has_mark true) (map constraint_row cs.list) → rays.rows ≡ filter (has_mark false) (map constraint_row cs.list) → lines.width ≡ cs.dim + 1 → AreFormed lines.width lines rays forms.0 forms.1 → AreFormedConstraints cs forms
formed_constraints_of cs lines rays forms l r w h = record { lines = lines; rays = rays; lines_are = l; rays_are = r; formed = subst (λ (n : ℕ). AreFormed n lines rays forms.0 forms.1) w h }

pub formed_generators_of : (gs : Generators) (lines rays : Rows) (forms : Rows × Rows) → lines.rows ≡ filter (has_mark true) (generator_list gs) → rays.rows ≡ filter (has_mark false) (generator_list gs) → lines.width ≡ gs.dim + 1 → AreFormed lines.width lines rays forms.0 forms.1 → AreFormedGenerators gs forms
formed_generators_of gs lines rays forms l r w h = record { lines = lines; rays = rays; lines_are = l; rays_are = r; formed = subst (λ (n : ℕ). AreFormed n lines rays forms.0 forms.1) w h }
