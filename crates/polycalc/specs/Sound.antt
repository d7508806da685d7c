-- That what is written is true of points.
use Rattle.std.specs.Prelude.{◌≡◌, ℕ, List, ◌++◌, Option, Some, true, false}
use Rattle.cdd_reading.specs.declared.format.Format.TheVariants.{Ine, Ext}
use Rattle.soundness.specs.Replies.{IsWrittenTo, IsConverted}
use Rattle.polycalc.specs.Outcomes.{IsAnswered}
use Rattle.job_words.specs.declared.job.Job.{Job}
use Rattle.job_words.specs.declared.job.Job.TheVariants as job
use Rattle.written_replies.specs.declared.status.Status.{Status}

-- what is written to a script is the replies to its lines; to a file a refusal, or the other file
-- of the same points; nothing is said of a sample
abbrev pub IsTrueOf : Job → List ℕ → List ℕ → Type 0
IsTrueOf job.Run script written = IsWrittenTo script written
IsTrueOf (job.Convert Ine) file written = IsConverted false file written
IsTrueOf (job.Convert Ext) file written = IsConverted true file written
IsTrueOf (job.Sample n) script written = Unit {0}

-- what is held is what was held, and behind it what is written
pub record IsSound (task : Job) (script before : List ℕ) (held : Option (List ℕ)) : Type 0 where
  pub written : List ℕ
  pub held_now : held ≡ Some (before ++ written)
  pub true_of : IsTrueOf task script written

-- what is answered is true of points
abbrev pub AnswersAreSound : Type 0
AnswersAreSound = (task : Job) (script before : List ℕ) (held : Option (List ℕ)) (status : Status) →
    IsAnswered task script before held status → IsSound task script before held
