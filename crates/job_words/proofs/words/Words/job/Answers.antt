use Rattle.cdd_reading.specs.declared.format.Format.TheVariants.{Ine, Ext}
use Rattle.job_words.specs.Words.{IsAskedBy}
use Rattle.job_words.specs.declared.job.Job.TheVariants as job
use Rattle.job_words.proofs.SampleWords.{not_so, no_job}
use Rattle.job_words.proofs.words.Words.job.Goals as goal

pub returns-in-None : goal.returns-in-None
returns-in-None c =
    let words = c.args.self.now in
    no_job words (not_so c.is_only.result (IsAskedBy words job.Run) c.is_only.ensures c.if-is_only.false)
    (not_so c.is_only-else-is_only.result (IsAskedBy words (job.Convert Ine)) c.is_only-else-is_only.ensures c.if-is_only-2.false)
    (not_so c.is_only-else-is_only-2.result (IsAskedBy words (job.Convert Ext)) c.is_only-else-is_only-2.ensures c.if-is_only-3.false)
    c.in-None.ensures
