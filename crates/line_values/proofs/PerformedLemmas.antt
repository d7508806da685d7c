-- What came of a command, from its operands, its tests and its arithmetic.
use Rattle.std.proofs.Common.{◌≡◌, ◌∙◌, Bool, true, false, IsTrue, Result, Ok, Err, MatchResult, Option, Some, ◌↔◌, sym}
use Rattle.row_core.specs.declared.errors.ConvErr.{ConvErr}
use Rattle.row_core.specs.declared.errors.ConvErr.TheVariants as conversion
use Rattle.row_core.specs.Refusals.{IsOverflowIn}
use Rattle.line_values.specs.declared.refusal.StepErr.{StepErr}
use Rattle.line_values.specs.declared.refusal.StepErr.TheVariants as err
use Rattle.line_values.specs.Order.{Passes}
use Rattle.line_values.specs.Refusals.{refusal_of_conversion}
use Rattle.line_values.specs.Meaning.{Meaning, on_two, room}
use Rattle.line_values.specs.Performed.{IsPerformed}

-- what came of a command with the operands that were found
pub found_two : {A B C : Type 0} (o : Option A) (u : Option B) (p : A) (q : B) (m : A → B → Meaning C) (result : Result C StepErr) → o ≡ Some p → u ≡ Some q → IsPerformed (m p q) result → IsPerformed (on_two o u m) result
found_two o u p q m result first second is = rw first (rw second is)

-- a test that isn't true
pub not_so : (b : Bool) (P : Type 0) → IsTrue b ↔ P → b ≡ false → ¬ P
not_so b P is e h = let never : true ≡ false = sym (is.1 h) ∙ e in cc

-- the table isn't full
pub not_full : (full : Bool) → full ≡ false → ¬ (IsTrue full)
not_full full e h = let never : true ≡ false = sym h ∙ e in cc

-- where there is room all tests are passed
pub room_passes : (full : Bool) → full ≡ false → Passes (room full)
room_passes full free = (λ k. k, (λ k. k, (λ k. k, (λ k. k, (λ k. k, (λ k. k, (λ k. k, (λ k. k, (λ k. k, (λ k. k, (λ k. k, (λ k. k, (not_full full free, (λ k. k, tt))))))))))))))

-- the arithmetic of a command was refused
pub leaves : {A : Type 0} (m : Meaning A) (cause : ConvErr) → Passes m.conditions → IsOverflowIn m.overflows cause → IsPerformed m (Err (refusal_of_conversion cause))
leaves m (conversion.Overflow over) passes is = (passes, is)
leaves m conversion.Memory passes is = tt

-- what was answered is right, or memory ran out
pub answered : {A : Type 0} (m : Meaning A) (Is : A → Type 0) (result : Result A StepErr) → ((answer : A) → Is answer → IsPerformed m (Ok answer)) → MatchResult result Is (λ cause. cause ≡ err.Memory) → IsPerformed m result
answered m Is (Ok answer) right is = right answer is
answered m Is (Err cause) right is = rw is tt
