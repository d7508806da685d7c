-- The stored pair of a closed set with a point: its generators are the system of its constraint list.
use Rattle.std.proofs.Common.{◌≡◌, inl, inr, ℕ, ◌+◌, ◌<◌, List, [], length, false, ℤ, All, sym, ap, ◌∙◌, subst, arith}
use Rattle.std.specs.Prelude.{⊤, Result, Ok, Err, IfErr}
use Rattle.std.proofs.lemmas.List.{get_or-map, length-map}
use Rattle.row_core.specs.Refusals.{IsOverflowIn}
use Rattle.row_core.specs.declared.errors.ConvErr.{ConvErr}
use Rattle.row_core.specs.declared.errors.ConvErr.TheVariants as conversion
use Rattle.row_core.specs.Lists.{Row, row_at, system_rows}
use Rattle.cone_laws.specs.Canon.{IsSystem}
use Rattle.cone_laws.specs.Duality.{lines_of, rays_of}
use Rattle.cone_laws.specs.Members.{ConeOf}
use Rattle.cone_laws.proofs.SystemLists.{lines_of-system_rows, rays_of-system_rows}
use Rattle.cons_sys.specs.Constraints.{Constraints}
use Rattle.gens_sys.specs.declared.kind.GenKind.TheVariants.{Line}
use Rattle.gens_sys.specs.Generators.{Generator, Generators, FitDimension}
use Rattle.stored_systems.specs.StoredForms.{IsPairForm, IsStored}
use Rattle.stored_systems.specs.WorkLists.{generator_row, constraint_list, generator_list}
use Rattle.stored_systems.proofs.StoredLists.{listed_canon, generator_rows}

-- what is stored of a set with a point is a pair
pub pair_form : (cs : Constraints) (gs : Generators) → IsStored cs gs → ¬ (gs.list ≡ []) → IsPairForm cs gs
pair_form cs gs (inl e) some = absurd (some e.gens)
pair_form cs gs (inr f) some = f

pub stored_system : (cs : Constraints) (gs : Generators) (form : IsPairForm cs gs) → IsSystem (ConeOf (cs.dim + 1) (constraint_list cs)) (lines_of (generator_list gs)) (rays_of (generator_list gs))
stored_system cs gs form =
    let listed : generator_list gs ≡ system_rows form.lines form.rays = generator_rows cs gs form in
    subst (λ (xs : List (List ℤ)). IsSystem (ConeOf (cs.dim + 1) (constraint_list cs)) xs (rays_of (generator_list gs))) (sym (ap lines_of listed ∙ lines_of-system_rows form.lines form.rays))
    (subst (λ (xs : List (List ℤ)). IsSystem (ConeOf (cs.dim + 1) (constraint_list cs)) form.lines xs) (sym (ap rays_of listed ∙ rays_of-system_rows form.lines form.rays)) (listed_canon cs gs form).system)

module _ (n : ℕ) (gs : Generators) (same : gs.dim ≡ n) (fit : FitDimension gs) where
  pub generator_wide : All (λ (g : Generator). length g.0 ≡ n + 1) gs.list
  generator_wide j d b = (fit.each j d b).wide ∙ ap (λ (k : ℕ). k + 1) same

  pub row_wide : (j : ℕ) → j < length (generator_list gs) → length (row_at (generator_list gs) j) ≡ n + 1
  row_wide j b =
      let c : j < length gs.list = omega (arith, b, length-map gs.list generator_row) in
      ap (λ (r : Row). length r.0) (get_or-map generator_row gs.list j ([], Line) ([], false) c) ∙ generator_wide j ([], Line) c

-- ---- in the calls
-- a fact is one of each overflow
pub always_in : (P : Type 0) → P → (e : ConvErr) → IsOverflowIn (λ _. P) e
always_in P h (conversion.Overflow over) = h
always_in P h conversion.Memory = tt

pub any_error : {T E : Type 0} (r : Result T E) → IfErr r (λ _. ⊤)
any_error (Ok x) = tt
any_error (Err e) = tt
