use Rattle.std.specs.Prelude.{◌≡◌, ◌⊎◌, ◌↔◌, ℕ, ◌+◌, ◌^◌, ◌<◌, ◌≤◌, List, [], ◌∷◌, ◌++◌, length, take, Option, Some, Bool, true, false, if◌then◌else◌}
use Rattle.std.specs.Io.KnownBytes.{append_known, prepend_known, IsAtEnd}
use Rattle.std.specs.Str.Lines.{lines}
use Rattle.calc_state.specs.State.{State, closed}
use Rattle.line_values.specs.Replies.{Reply, is_answer}
use Rattle.cdd_reading.specs.declared.format.Format.{Format}
use Rattle.poly_io.specs.declared.line_reader.TheConstants.{INPUT_LIMIT}
use Rattle.job_words.specs.Words.{IsAskedBy}
use Rattle.written_replies.specs.Replies.{reply_bytes, replies_bytes, is_clean}
use Rattle.job_texts.specs.Conversions.{ConvertsTo, MustConvert}
use Rattle.job_texts.specs.Samples.{SamplesTo, MustSample}
use Rattle.job_texts.specs.Outcomes.{Converts, ConvertsPrefix, Samples, SamplesPrefix}
use Rattle.calc_state.specs.Runs.{Run, IsComplete, at_end}
use Rattle.job_words.specs.declared.job.Job.{Job}
use Rattle.job_words.specs.declared.job.Job.TheVariants as job
use Rattle.written_replies.specs.declared.status.Status.{Status}
use Rattle.written_replies.specs.declared.status.Status.TheVariants.{Done, Refused, Usage, ReadFault, WriteFault, Memory, InputTooLong}

-- behind what was held stand the replies of a run over the whole script, and whether all are clean
pub record Completes (script : List ℕ) (clean : Bool) (old new : Option (List ℕ)) : Type 0 where
  pub state : State
  pub replies : List Reply
  pub run : Run (closed []) (lines script) replies state
  pub held : new ≡ append_known old (replies_bytes (replies ++ at_end state))
  pub verdict : is_clean (replies ++ at_end state) ≡ clean

-- each of these first lines of the script has a line feed: after one more another line follows
pub record AreWholeLines (script : List ℕ) (answered : List (List ℕ)) : Type 0 where
  pub next : List ℕ
  pub others : List (List ℕ)
  pub cut : lines (script ++ 10 ∷ []) ≡ answered ++ next ∷ others

-- the first lines of what a source gave, and the others; whole lines, where it isn't at its end
pub record AreFirstLines (given : List ℕ) (left : Option (List ℕ))
    (answered others : List (List ℕ)) : Type 0 where
  pub cut : lines given ≡ answered ++ others
  pub whole : IsAtEnd left ⊎ AreWholeLines given answered

-- no reply, or after the last line of a source that is at its end that to the end of the script
abbrev pub IsEndReply : Option (List ℕ) → List (List ℕ) → State → List Reply → Type 0
IsEndReply left others state further =
    (further ≡ []) ⊎ (IsAtEnd left × (others ≡ []) × (further ≡ at_end state))

-- behind what was held stands a front of the replies of a run over first lines, or to its end
pub record WritesPrefix (script : List ℕ) (left old new : Option (List ℕ)) : Type 0 where
  pub answered : List (List ℕ)
  pub others : List (List ℕ)
  pub first : AreFirstLines script left answered others
  pub state : State
  pub replies : List Reply
  pub run : Run (closed []) answered replies state
  pub further : List Reply
  pub is_end : IsEndReply left others state further
  pub count : ℕ
  pub held : new ≡ append_known old (take count (replies_bytes (replies ++ further)))

-- behind what was held stand the replies of a run over the whole lines of the script
pub record AnswersWhole (script : List ℕ) (old new : Option (List ℕ)) : Type 0 where
  pub whole : List (List ℕ)
  pub last : List ℕ
  pub cut : lines (script ++ 10 ∷ []) ≡ whole ++ last ∷ []
  pub state : State
  pub replies : List Reply
  pub run : Run (closed []) whole replies state
  pub held : new ≡ append_known old (replies_bytes replies)

-- likewise over the whole lines of all bytes of the script but those of one read
pub record AnswersEarlier (script : List ℕ) (old new : Option (List ℕ)) : Type 0 where
  pub earlier : List ℕ
  pub last : List ℕ
  pub parts : script ≡ earlier ++ last
  pub few : length last ≤ 2 ^ 16
  pub answers : AnswersWhole earlier old new

-- what was held, and behind it the replies of a run over the first lines of the script
pub record AnswersFirst (script : List ℕ) (left old new : Option (List ℕ)) : Type 0 where
  pub answered : List (List ℕ)
  pub others : List (List ℕ)
  pub first : AreFirstLines script left answered others
  pub state : State
  pub replies : List Reply
  pub run : Run (closed []) answered replies state
  pub held : new ≡ append_known old (replies_bytes replies)

-- ---- each job
-- the source gave all that the job reads of it: all that it had, or of a sample nothing
abbrev pub IsReadOut : Job → List ℕ → Option (List ℕ) → Type 0
IsReadOut job.Run given left = IsAtEnd left
IsReadOut (job.Convert want) given left = IsAtEnd left
IsReadOut (job.Sample n) given left = given ≡ []

-- all replies to the bytes that the source gave are written
abbrev pub Finishes : Job → List ℕ → Bool → Option (List ℕ) → Option (List ℕ) → Type 0
Finishes job.Run script clean old new = Completes script clean old new
Finishes (job.Convert want) file clean old new = Converts want file clean old new
Finishes (job.Sample n) given clean old new = Samples n clean old new

-- a front of them is written, or none; of a file none before the source is at its end
abbrev pub WritesFront : Job → List ℕ → Option (List ℕ) → Option (List ℕ) → Option (List ℕ) → Type 0
WritesFront job.Run script left old new = WritesPrefix script left old new
WritesFront (job.Convert want) file left old new =
    (new ≡ old) ⊎ (IsAtEnd left × ConvertsPrefix want file old new)
WritesFront (job.Sample n) given left old new = (new ≡ old) ⊎ SamplesPrefix n old new

-- what is written after a failed read: the replies to whole lines; of a file nothing
abbrev pub AnswersRead : Job → List ℕ → Option (List ℕ) → Option (List ℕ) → Option (List ℕ) → Type 0
AnswersRead job.Run script left old new = AnswersWhole script old new
AnswersRead (job.Convert want) file left old new = new ≡ old
AnswersRead (job.Sample n) given left old new = ⊥

-- likewise, but for the bytes of one read
abbrev pub AnswersFront : Job → List ℕ → Option (List ℕ) → Option (List ℕ) → Option (List ℕ)
    → Type 0
AnswersFront job.Run script left old new = AnswersEarlier script old new
AnswersFront (job.Convert want) file left old new = new ≡ old
AnswersFront (job.Sample n) given left old new = ⊥

-- what is written where memory ran out: the replies to the lines before; of other jobs nothing
abbrev pub AnswersBefore : Job → List ℕ → Option (List ℕ) → Option (List ℕ) → Option (List ℕ)
    → Type 0
AnswersBefore job.Run script left old new = AnswersFirst script left old new
AnswersBefore (job.Convert want) file left old new = new ≡ old
AnswersBefore (job.Sample n) given left old new = new ≡ old

-- the source gave some bytes, and that is written
abbrev pub GivesUp : Job → Option (List ℕ) → Option (List ℕ) → Option (List ℕ) → Option (List ℕ)
    → Type 0
GivesUp task left left_now old new =
    (given : List ℕ) × (left ≡ prepend_known given left_now)
    × AnswersBefore task given left_now old new

-- what came of a job, after the source gave these bytes and now has those left
abbrev pub Outcome : Job → List ℕ → Option (List ℕ) → Option (List ℕ) → Option (List ℕ) → Status
    → Type 0
Outcome task given left old new Done =
    (length given ≤ INPUT_LIMIT) × IsReadOut task given left × Finishes task given true old new
Outcome task given left old new Refused =
    (length given ≤ INPUT_LIMIT) × IsReadOut task given left × Finishes task given false old new
Outcome task given left old new ReadFault =
    (length given ≤ INPUT_LIMIT) × AnswersRead task given left old new
Outcome task given left old new WriteFault =
    (length given ≤ INPUT_LIMIT) × WritesFront task given left old new
Outcome task given left old new Memory =
    (length given ≤ INPUT_LIMIT) × WritesFront task given left old new
Outcome task given left old new InputTooLong =
    (INPUT_LIMIT < length given) × (length given ≤ INPUT_LIMIT + 2 ^ 16)
    × WritesFront task given left old new
    × AnswersFront task given left old new
Outcome task given left old new Usage = ⊥

-- ---- what the top call promises of the job that the words ask for
-- the source gave all that the job reads, and all replies are written
pub record Ends (words : List (List ℕ)) (left left_now old new : Option (List ℕ))
    (clean : Bool) : Type 0 where
  pub job : Job
  pub asked : IsAskedBy words job
  pub given : List ℕ
  pub gave : left ≡ prepend_known given left_now
  pub read_out : IsReadOut job given left_now
  pub finishes : Finishes job given clean old new

-- the source gave some bytes, and this is written
pub record Stops (words : List (List ℕ)) (left left_now old new : Option (List ℕ))
    (Writes : Job → List ℕ → Option (List ℕ) → Option (List ℕ) → Option (List ℕ)
    → Type 0) : Type 0 where
  pub job : Job
  pub asked : IsAskedBy words job
  pub given : List ℕ
  pub gave : left ≡ prepend_known given left_now
  pub writes : Writes job given left_now old new

-- what each status tells of the bytes read and written, where the sink wanted memory or not
pub record EndsAs (words : List (List ℕ)) (status : Status) (Wanted : Type 0)
    (left left_now old new : Option (List ℕ)) : Type 0 where
  pub done : status ≡ Done → Ends words left left_now old new true
  pub refused : status ≡ Refused → Ends words left left_now old new false
  pub whole_lines : status ≡ ReadFault → Stops words left left_now old new AnswersRead
  pub earlier_lines : status ≡ InputTooLong → Stops words left left_now old new AnswersFront
  pub lines_before : status ≡ Memory → ¬ Wanted → Stops words left left_now old new AnswersBefore
  pub partly : (status ≡ WriteFault) ⊎ (status ≡ Memory) ⊎ (status ≡ InputTooLong)
      → Stops words left left_now old new WritesFront

-- the status tells whether the source gave too many bytes, and then no more is read
pub record TellsSize (status : Status) (left left_now : Option (List ℕ)) : Type 0 where
  pub given : List ℕ
  pub gave : left ≡ prepend_known given left_now
  pub told : (status ≡ InputTooLong) ↔ (2 ^ 26 < length given)
  pub no_more : length given ≤ 2 ^ 26 + 2 ^ 16

-- the replies of a run are held, in which each line that must succeed is answered; the verdict
pub record IsRunAnswered (script before : List ℕ) (held : Option (List ℕ))
    (status : Status) : Type 0 where
  pub state : State
  pub replies : List Reply
  pub run : Run (closed []) (lines script) replies state
  pub complete : IsComplete (closed []) (lines script) replies state run
  pub held_now : held ≡ Some (before ++ replies_bytes (replies ++ at_end state))
  pub verdict : status ≡ (if is_clean (replies ++ at_end state) then Done else Refused)

-- the reply to the file is held, the other file where it must be converted; whether it is clean
pub record IsFileAnswered (want : Format) (file before : List ℕ) (held : Option (List ℕ))
    (status : Status) : Type 0 where
  pub reply : Reply
  pub converts : ConvertsTo want file reply
  pub complete : MustConvert want file → is_answer reply ≡ true
  pub held_now : held ≡ Some (before ++ reply_bytes reply)
  pub verdict : status ≡ (if is_answer reply then Done else Refused)

-- the reply to the sample is held, its line where no overflow forbids it; whether it is clean
pub record IsSampleAnswered (n : ℕ) (before : List ℕ) (held : Option (List ℕ))
    (status : Status) : Type 0 where
  pub reply : Reply
  pub samples : SamplesTo n reply
  pub complete : MustSample n → is_answer reply ≡ true
  pub held_now : held ≡ Some (before ++ reply_bytes reply)
  pub verdict : status ≡ (if is_answer reply then Done else Refused)

abbrev pub IsAnswered : Job → List ℕ → List ℕ → Option (List ℕ) → Status → Type 0
IsAnswered job.Run script before held status = IsRunAnswered script before held status
IsAnswered (job.Convert want) file before held status = IsFileAnswered want file before held status
IsAnswered (job.Sample n) script before held status = IsSampleAnswered n before held status
