use Rattle.std.specs.Prelude.{ℕ, List}
use Rattle.grammar.specs.Form.{Form, Matches, IsColumn}
use Rattle.grammar.specs.declared.verdict.Verdict.{Verdict}
use Rattle.grammar.specs.declared.verdict.Verdict.TheVariants as verdict

-- the text is accepted where it has the form, and else refused at its column
abbrev pub IsVerdict : Form → List ℕ → Verdict → Type 0
IsVerdict f text verdict.Accepted = Matches f text
IsVerdict f text (verdict.RefusedAt column) = IsColumn f text column
