-- What came of the commands that make bounded-difference shapes.
use Rattle.std.proofs.Common.{◌≡◌, ◌↔◌, ℕ, ◌<◌, ◌≤◌, List, Bool, true, false, IsTrue, Result, Ok, Err, refl, subst, inl, inr, arith}
use Rattle.row_core.specs.declared.errors.Overflow.{Overflow}
use Rattle.cons_sys.specs.Constraints.{Constraints}
use Rattle.reply_text.specs.declared.faults.Fault.TheVariants.{NotDifference, TooManyNames}
use Rattle.expr_text.specs.OneAnswer.{ConsHasOneAnswer}
use Rattle.poly_pair.specs.declared.topology.Topology.TheVariants.{Closed}
use Rattle.poly_pair.specs.declared.topology.TheConstants.{MAX_DIM}
use Rattle.bd_shape.specs.Shapes.{DifferenceShape, Includes}
use Rattle.bd_shape.specs.Given.{HasOther}
use Rattle.bd_shape.specs.Refusals.{LeavesInConstraints, IsRefusalOf}
use Rattle.bd_shape.specs.declared.refusal.ShapeErr.{ShapeErr}
use Rattle.bd_shape.specs.declared.refusal.ShapeErr.TheVariants as unmade
use Rattle.script_text.specs.declared.command.Part.{Part}
use Rattle.line_values.specs.declared.refusal.StepErr.TheVariants as err
use Rattle.line_values.specs.Order.{IsFirst, Passes}
use Rattle.line_values.specs.Texts.{ReadsConstraints, SaysConstraints}
use Rattle.bd_shape.specs.Commands.{IsShapeOfConstraints, refusal_of_shape, bounds, of_one_dim, shape_contains}
use Rattle.line_values.specs.Meaning.{no_fault, room, answer_line}
use Rattle.line_values.specs.Performed.{IsPerformed}
use Rattle.line_values.proofs.PerformedLemmas.{not_full}

-- ---- shapes of constraints
module _ (full : Bool) (n : ℕ) (part : Part) (small : n ≤ MAX_DIM) where
  within : ¬ (MAX_DIM < n)
  within k = absurd (omega (arith, k, small))

  module _ (system : Constraints) (read : ReadsConstraints Closed n part system) where
    pub bounds_other : HasOther system → IsFirst (bounds full n part).conditions NotDifference
    bounds_other other =
        let says : SaysConstraints n part (λ cs. HasOther cs) = record { system = system; read = read.read; holds = other } in
        inr (λ k. k, inr (λ k. k, inr (λ k. k, inr (λ k. k, inr (within, inr (read.faultless.0, inr (read.faultless.1.0, inr (read.faultless.1.1.0, inr (read.faultless.1.1.1.0, inl (says, refl))))))))))

    -- no other system is said
    none_other : ConsHasOneAnswer → ¬ (HasOther system) → ¬ (SaysConstraints n part (λ cs. HasOther cs))
    none_other law lacks k = lacks (subst HasOther ((law n part.text).one_value k.system system k.read read.read) k.holds)

    pub bounds_full : ConsHasOneAnswer → ¬ (HasOther system) → IsTrue full → IsFirst (bounds full n part).conditions TooManyNames
    bounds_full law lacks none =
        inr (λ k. k, inr (λ k. k, inr (λ k. k, inr (λ k. k, inr (within, inr (read.faultless.0, inr (read.faultless.1.0, inr (read.faultless.1.1.0, inr (read.faultless.1.1.1.0, inr (none_other law lacks, inr (λ k. k, inr (λ k. k, inl (none, refl)))))))))))))

    bounds_passes : ConsHasOneAnswer → ¬ (HasOther system) → ¬ (IsTrue full) → Passes (bounds full n part).conditions
    bounds_passes law lacks room =
        (λ k. k, (λ k. k, (λ k. k, (λ k. k, (within, (read.faultless.0, (read.faultless.1.0, (read.faultless.1.1.0, (read.faultless.1.1.1.0, (none_other law lacks, (λ k. k, (λ k. k, (room, (λ k. k, tt))))))))))))))

    pub bounds_made : (s : DifferenceShape) → ConsHasOneAnswer → ¬ (HasOther system) → ¬ (IsTrue full) → IsShapeOfConstraints system s → IsPerformed (bounds full n part) (Ok s)
    bounds_made s law lacks room is = (bounds_passes law lacks room, record { system = system; read = read.read; holds = is })

    bounds_leaves : (over : Overflow) → ConsHasOneAnswer → ¬ (HasOther system) → ¬ (IsTrue full) → LeavesInConstraints system over → IsPerformed (bounds full n part) (Err (err.Overflow over))
    bounds_leaves over law lacks room is = (bounds_passes law lacks room, record { system = system; read = read.read; holds = is })

abbrev made : DifferenceShape → Result DifferenceShape ShapeErr
made s = Ok s

abbrev not_made : ShapeErr → Result DifferenceShape ShapeErr
not_made cause = Err cause

-- constraints of which a shape was made bound differences alone
pub none_other_made : (cs : Constraints) (s : DifferenceShape) → (made s ≡ Err unmade.NotDifference) ↔ HasOther cs → ¬ (HasOther cs)
none_other_made cs s is k = let never : made s ≡ Err unmade.NotDifference = is.1 k in cc

-- and so do those whose bounds leave the range
none_other_left : (cs : Constraints) (over : Overflow) → (not_made (unmade.Overflow over) ≡ Err unmade.NotDifference) ↔ HasOther cs → ¬ (HasOther cs)
none_other_left cs over is k = let never : not_made (unmade.Overflow over) ≡ Err unmade.NotDifference = is.1 k in cc

-- no shape was made
pub bounds_not_made : (cause : ShapeErr) (full : Bool) (n : ℕ) (part : Part) → n ≤ MAX_DIM → (system : Constraints) → ReadsConstraints Closed n part system → ConsHasOneAnswer → (not_made cause ≡ Err unmade.NotDifference) ↔ HasOther system → IsRefusalOf system cause → IsPerformed (bounds full n part) (Err (refusal_of_shape cause full))
bounds_not_made unmade.NotDifference full n part small system read law only is = bounds_other full n part small system read is
bounds_not_made (unmade.Overflow over) true n part small system read law only is = bounds_full true n part small system read law (none_other_left system over only) refl
bounds_not_made (unmade.Overflow over) false n part small system read law only is = bounds_leaves false n part small system read over law (none_other_left system over only) (not_full false refl) is
bounds_not_made unmade.Memory full n part small system read law only is = tt

-- ---- two shapes
-- whether the one includes the other was told
pub contains_told : (s t : DifferenceShape) (holds : Bool) (text : List ℕ) → Passes (of_one_dim s t no_fault) → IsTrue holds ↔ Includes s t → text ≡ answer_line holds → IsPerformed (shape_contains s t) (Ok text)
contains_told s t holds text passes true_of said = (passes, record { holds = holds; true_of = true_of; said = said })

-- two shapes that are alike, and a name for which there is room
pub shapes_pass : (s t : DifferenceShape) (full : Bool) → s.dim ≡ t.dim → ¬ (IsTrue full) → Passes (of_one_dim s t (room full))
shapes_pass s t full dim free = (λ k. k, (λ k. k, (λ k. k, (λ k. k dim, (λ k. k, (λ k. k, (λ k. k, (λ k. k, (λ k. k, (λ k. k, (λ k. k, (λ k. k, (free, (λ k. k, tt))))))))))))))
