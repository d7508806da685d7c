-- Systems from one row to the next.
use Rattle.std.specs.Prelude.{◌≡◌, ℕ, ◌+◌, ◌<◌, List, [], length, ℤ, pos}
use Rattle.std.proofs.Common.{arith}
use Rattle.std.proofs.lemmas.List.Elements.{All-nil, All-from_get_or}
use Rattle.row_core.specs.Vectors.{dot}
use Rattle.row_core.specs.Content.{IsPrimitive}
use Rattle.row_core.specs.Lists.{Row, vector_at}
use Rattle.cone_laws.specs.Cones.{Upto}
use Rattle.cone_laws.specs.Canon.{IsSystem}
use Rattle.cone_laws.specs.Steps.{IsRowAt, AreUnits, IsLineStep, IsRayStep}
use Rattle.cone_laws.specs.AdjacencyLaws.{IsMinimal}
use Rattle.cone_laws.specs.StepLaws.{GeneratesUpto}
use Rattle.cone_laws.proofs.EchelonForm.{units_echelon, units_primitive, line_step_echelon, ray_step_echelon}
use Rattle.cone_laws.proofs.Spanning.{units_generate}
use Rattle.cone_laws.proofs.GeneratedSteps.{line_step_generates}
use Rattle.cone_laws.proofs.LineSpare.{line_step_irredundant}
use Rattle.cone_laws.proofs.RaySteps.{new_minimal}
use Rattle.cone_laws.proofs.PrimitiveSteps.{line_step_primitive_lines, line_step_primitive_rays, ray_step_primitive}

pub units_system : (width : ℕ) (rows : List Row) (lines : List (List ℤ)) → AreUnits width lines → IsSystem (Upto width rows 0) lines []
units_system width rows lines u = record {
  generates = (units_generate width rows lines u).generates;
  lineality = (units_generate width rows lines u).lineality;
  echelon = units_echelon width lines u;
  primitive_lines = units_primitive width lines u;
  primitive_rays = All-nil IsPrimitive;
  irredundant = λ i h. absurd (omega (arith, h));
}

pub line_step_system : (width : ℕ) (rows : List Row) (k : ℕ) (row : Row) (lines rays new_lines new_rays : List (List ℤ)) → IsRowAt rows k row → IsSystem (Upto width rows k) lines rays → IsLineStep row lines rays new_lines new_rays → IsSystem (Upto width rows (k + 1)) new_lines new_rays
line_step_system width rows k row lines rays new_lines new_rays at t s = record {
  generates = made.generates;
  lineality = made.lineality;
  echelon = line_step_echelon row lines rays new_lines new_rays t.echelon s;
  primitive_lines = line_step_primitive_lines row lines rays new_lines new_rays s;
  primitive_rays = line_step_primitive_rays row lines rays new_lines new_rays s t.primitive_lines;
  irredundant = line_step_irredundant row lines rays new_lines new_rays t.irredundant s;
}
  where
    made : GeneratesUpto width rows (k + 1) new_lines new_rays
    made = line_step_generates width rows k row lines rays new_lines new_rays at (record { generates = t.generates; lineality = t.lineality }) s

pub ray_step_system : (width : ℕ) (rows : List Row) (k : ℕ) (row : Row) (lines rays new : List (List ℤ)) → IsRowAt rows k row → ((i : ℕ) → i < length lines → dot row.0 (vector_at lines i) ≡ pos 0) → IsSystem (Upto width rows k) lines rays → IsRayStep rows k row rays new → IsSystem (Upto width rows (k + 1)) lines new
ray_step_system width rows k row lines rays new at level t s = record {
  generates = made.generates;
  lineality = made.lineality;
  echelon = ray_step_echelon rows k row lines rays new t.echelon s;
  primitive_lines = t.primitive_lines;
  primitive_rays = ray_step_primitive rows k row rays new t.primitive_rays s;
  irredundant = made.irredundant;
}
  where
    made : IsMinimal (Upto width rows (k + 1)) lines new
    made = new_minimal rows k row rays new s width lines t.generates t.lineality t.irredundant at (All-from_get_or (λ l. dot row.0 l ≡ pos 0) lines [] level)
