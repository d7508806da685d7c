use Rattle.std.proofs.Common.{◌∙◌, sym}
use Rattle.std.proofs.lemmas.Slice.Eq.{slice_eq-Decides}
use Rattle.std.proofs.lemmas.Bool.Decides.{Decides-eqb}
use Rattle.job_words.proofs.OneWord.{only_word}
use Rattle.job_words.proofs.words.Words.is_only.Goals as goal

pub returns-then-len-eq1 : goal.returns-then-len-eq1
returns-then-len-eq1 c =
    let word = c.word.result.now in
    only_word c.args.word.now c.args.self.now word c.eq.result (sym c.len.ensures ∙ c.if-len-eq1.true) c.word.ensures
    (slice_eq-Decides Decides-eqb word c.args.word.now c.eq.result c.eq.ensures)
