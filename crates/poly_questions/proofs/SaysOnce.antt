-- Meanings that say one text or show one overflow.
use Rattle.std.proofs.Common.{ℕ, List, Option, None, Some, sym, ◌∙◌}
use Rattle.line_values.specs.Meaning.{Meaning, unknown, says, on_one, on_two}
use Rattle.poly_questions.specs.OneAnswer.{SaysOnce}

pub says_once : (lines : List ℕ) → SaysOnce (says lines)
says_once lines = record { one_text = λ k l a b. a ∙ sym b; one_overflow = λ o p a b. absurd a; not_both = λ k o a b. b }

unknown_once : SaysOnce unknown
unknown_once = record { one_text = λ k l a b. absurd a; one_overflow = λ o p a b. absurd a; not_both = λ k o a b. b }

-- of the operands that were found, or of a name that isn't there
pub on_one_once : {A : Type 0} (o : Option A) (m : A → Meaning (List ℕ)) → ((p : A) → SaysOnce (m p)) → SaysOnce (on_one o m)
on_one_once None m once = unknown_once
on_one_once (Some p) m once = once p

pub on_two_once : {A B : Type 0} (o : Option A) (u : Option B) (m : A → B → Meaning (List ℕ)) → ((p : A) (q : B) → SaysOnce (m p q)) → SaysOnce (on_two o u m)
on_two_once None u m once = unknown_once
on_two_once (Some p) None m once = unknown_once
on_two_once (Some p) (Some q) m once = once p q
