-- What lines and texts say by the tables is what they say by the cases.
use Rattle.std.proofs.Common.{ℕ, List, ℤ}
use Rattle.term_text.specs.Texts.{IsFrac}
use Rattle.script_text.specs.Variables.{VariablesAreListed}
use Rattle.soundness.proofs.PointLaws.{SaysFraction, TextLaws}
use Rattle.soundness.proofs.TextValues.{expression_text, fraction_text, point_text, constraint_text}
use Rattle.soundness.proofs.TextLists.{constraints_text}
use Rattle.soundness.proofs.TextGenerators.{generators_text}
use Rattle.soundness.proofs.TextLines.{spelled}

fraction_said : (dim : ℕ) (text : List ℕ) (row : List ℤ) (divisor : ℤ) → IsFrac dim text row divisor → SaysFraction dim text row divisor
fraction_said dim text row divisor h =
    let f = fraction_text dim text row divisor h in
    record { below = f.0; positive = f.3; same = f.2; is_text = f.1 }

pub text_laws : VariablesAreListed → TextLaws
text_laws listed = record {
  spelled = spelled listed;
  expression = expression_text;
  fraction = fraction_said;
  point = point_text;
  constraint = constraint_text;
  constraints = constraints_text;
  generators = generators_text;
}
