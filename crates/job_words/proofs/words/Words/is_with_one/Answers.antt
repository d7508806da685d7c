use Rattle.std.proofs.Common.{◌∙◌, sym}
use Rattle.std.proofs.lemmas.Slice.Eq.{slice_eq-Decides}
use Rattle.std.proofs.lemmas.Bool.Decides.{Decides-eqb}
use Rattle.job_words.proofs.SampleWords.{first_of_two}
use Rattle.job_words.proofs.words.Words.is_with_one.Goals as goal

pub returns-then-len-eq2 : goal.returns-then-len-eq2
returns-then-len-eq2 c =
    let word = c.word.result.now in
    first_of_two c.args.word.now c.args.self.now word c.eq.result (sym c.len.ensures ∙ c.if-len-eq2.true) c.word.ensures
    (slice_eq-Decides Decides-eqb word c.args.word.now c.eq.result c.eq.ensures)
