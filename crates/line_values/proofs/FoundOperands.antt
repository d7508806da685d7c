-- What came of a command whose operands were found.
use Rattle.std.proofs.Common.{◌≡◌, ℕ, List, Result, Ok, Option, Some}
use Rattle.line_values.specs.declared.refusal.StepErr.{StepErr}
use Rattle.line_values.specs.Meaning.{Meaning, on_one, on_two, says}
use Rattle.line_values.specs.Performed.{IsPerformed}
use Rattle.line_values.proofs.EffectLemmas.{performed_as}

-- a command on one operand, or on two, is this one
module _ {A B C : Type 0} where
  pub on_one_as : (means : C → B → Meaning A) (command spelled : C) (o : Option B) (p : B) (result : Result A StepErr) → o ≡ Some p → command ≡ spelled → IsPerformed (means spelled p) result → IsPerformed (on_one o (means command)) result
  on_one_as means command spelled o p result found is made = rw found (performed_as (λ (c : C). means c p) command spelled result is made)

  pub on_two_as : (means : C → B → B → Meaning A) (command spelled : C) (o u : Option B) (p q : B) (result : Result A StepErr) → o ≡ Some p → u ≡ Some q → command ≡ spelled → IsPerformed (means spelled p q) result → IsPerformed (on_two o u (means command)) result
  on_two_as means command spelled o u p q result first second is made = rw first (rw second (performed_as (λ (c : C). means c p q) command spelled result is made))

-- the command says these lines
pub says_lines : (lines text : List ℕ) → text ≡ lines → IsPerformed (says lines) (Ok text)
says_lines lines text said = ((λ k. k, (λ k. k, (λ k. k, (λ k. k, (λ k. k, (λ k. k, (λ k. k, (λ k. k, (λ k. k, (λ k. k, (λ k. k, (λ k. k, (λ k. k, (λ k. k, tt)))))))))))))), said)
