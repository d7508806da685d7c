-- What came of the command that takes variables away.
use Rattle.std.proofs.Common.{Bool, IsTrue, ℕ, ◌<◌, ◌≤◌, List, All, Err, Ok, length, get_or, refl, inl, inr, arith}
use Rattle.std.proofs.lemmas.List.Elements.{All-get_or}
use Rattle.row_core.specs.declared.errors.ConvErr.{ConvErr}
use Rattle.reply_text.specs.declared.faults.Fault.TheVariants.{TooManyNames}
use Rattle.poly_pair.specs.Polyhedra.{Polyhedron}
use Rattle.mapped_systems.specs.Maps.{remaining, kept_variables}
use Rattle.row_core.specs.Refusals.{IsOverflowIn}
use Rattle.dimensions.specs.Refusals.{LeavesOnMapped}
use Rattle.line_values.specs.declared.refusal.StepErr.{StepErr}
use Rattle.line_values.specs.Order.{NoneOf, IsFirst, Passes}
use Rattle.line_values.specs.Refusals.{refusal_of_conversion}
use Rattle.line_values.specs.Texts.{text_order, IsTextRefusal}
use Rattle.poly_makers.specs.Affine.{remove, variables_fault, IsRemoved}
use Rattle.line_values.specs.Performed.{IsPerformed}
use Rattle.line_values.proofs.FaultOrder.{early, refused_by_text, refused_late, all_pass}
use Rattle.line_values.proofs.PerformedLemmas.{leaves}

abbrev AreBelow : ℕ → List ℕ → Type 0
AreBelow dim vars = All (λ (i : ℕ). i < dim) vars

-- one of them isn't below the dimension
pub not_below : (dim : ℕ) (vars : List ℕ) (i : ℕ) → i < length vars → dim ≤ get_or vars i 0 → ¬ (AreBelow dim vars)
not_below dim vars i within above below = omega (arith, above, All-get_or (λ (v : ℕ). v < dim) vars i 0 within below)

module _ (full : Bool) (vars : List ℕ) (p : Polyhedron) where
  none_early : NoneOf early (remove full vars p).conditions
  none_early = (λ k. k, (λ k. k, (λ k. k, (λ k. k, (λ k. k, tt)))))

  pub remove_refused : (e : StepErr) → IsTextRefusal (variables_fault p.cons.dim vars) e → IsPerformed (remove full vars p) (Err e)
  remove_refused e is = refused_by_text (remove full vars p) e none_early is

  none_of_text : AreBelow p.cons.dim vars → NoneOf text_order (variables_fault p.cons.dim vars)
  none_of_text below = (λ k. k below, (λ k. k, (λ k. k, (λ k. k, (λ k. k, (λ k. k, tt))))))

  pub remove_full : AreBelow p.cons.dim vars → IsTrue full → IsFirst (remove full vars p).conditions TooManyNames
  remove_full below none = refused_late (remove full vars p).conditions TooManyNames none_early (none_of_text below) (inr (λ k. k, inl (none, refl)))

  remove_passes : AreBelow p.cons.dim vars → ¬ (IsTrue full) → Passes (remove full vars p).conditions
  remove_passes below room = all_pass (remove full vars p).conditions none_early (none_of_text below) (λ k. k, (room, (λ k. k, tt)))

  pub remove_made : (r : Polyhedron) → AreBelow p.cons.dim vars → ¬ (IsTrue full) → IsRemoved vars p r → IsPerformed (remove full vars p) (Ok r)
  remove_made r below room is = (remove_passes below room, is)

  pub remove_leaves : (cause : ConvErr) → AreBelow p.cons.dim vars → ¬ (IsTrue full) → IsOverflowIn (LeavesOnMapped (remaining p.cons.dim vars) (length (kept_variables p.cons.dim vars)) p) cause → IsPerformed (remove full vars p) (Err (refusal_of_conversion cause))
  remove_leaves cause below room is = leaves (remove full vars p) cause (remove_passes below room) is
