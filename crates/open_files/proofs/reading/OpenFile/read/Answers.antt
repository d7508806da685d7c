use Rattle.std.proofs.Common.{◌≡◌, ℕ, List, ap, ◌∙◌, subst}
use Rattle.std.specs.Prelude.{MatchResult}
use Rattle.cdd_reading.specs.Refusals.{tests, NoneOf, IsRefusal}
use Rattle.cdd_reading.specs.declared.format.Format.{Format}
use Rattle.file_poly.specs.Files.{IsListOf}
use Rattle.line_values.specs.Operands.{format_of}
use Rattle.open_files.specs.OpenFiles.{OpenFile}
use Rattle.open_files.proofs.reading.OpenFile.read.Goals as goal

pub returns-clause-read : goal.returns-clause-read
returns-clause-read c =
    let want : c.format_of.result ≡ format_of c.args.self.now.ext = c.format_of.ensures ∙ ap (λ (f : OpenFile). format_of f.ext) c.self.view_is in
    let bytes : c.as_slice.result.now ≡ c.args.self.now.text = c.as_slice.ensures.value ∙ ap (λ (f : OpenFile). f.text) c.self.view_is in
    let read = subst (λ (b : List ℕ). MatchResult c.read_file.result (λ list. IsListOf c.format_of.result b list × NoneOf (tests c.format_of.result b)) (IsRefusal (tests c.format_of.result b))) bytes c.read_file.ensures.read in
    subst (λ (w : Format). MatchResult c.read_file.result (λ list. IsListOf w c.args.self.now.text list × NoneOf (tests w c.args.self.now.text)) (IsRefusal (tests w c.args.self.now.text))) want read
