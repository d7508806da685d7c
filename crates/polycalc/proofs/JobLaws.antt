-- What the top call promises, by what came of a job.
use Rattle.std.proofs.Common.{◌≡◌, ◌⊎◌, ℕ, ◌+◌, ◌^◌, ◌<◌, ◌≤◌, List, [], ◌∷◌, ◌++◌, length, length-append, refl, sym, ap, ◌∙◌, subst, inl, inr, Bool, true, false, arith}
use Rattle.std.specs.Prelude.{Option, None, Some, ◌↔◌, if◌then◌else◌, codes}
use Rattle.std.proofs.lemmas.List.{append-nil}
use Rattle.std.specs.Str.Lines.{lines}
use Rattle.std.specs.Io.KnownBytes.{prepend_known, IsAtEnd}
use Rattle.cdd_reading.specs.declared.format.Format.TheVariants.{Ine, Ext}
use Rattle.calc_state.specs.State.{closed}
use Rattle.plain_text.specs.Digits.{number}
use Rattle.cdd_reading.specs.declared.format.Format.{Format}
use Rattle.job_words.specs.Words.{IsAskedBy, SpellsSize}
use Rattle.calc_state.specs.Runs.{RunsAreComplete}
use Rattle.job_texts.specs.Outcomes.{Converts, Samples, ConversionOutcome, SampleOutcome}
use Rattle.polycalc.specs.Outcomes.{Completes, IsReadOut, Finishes, WritesFront, AnswersRead, AnswersFront, GivesUp, Outcome, Ends, Stops, EndsAs, TellsSize, IsRunAnswered, IsFileAnswered, IsSampleAnswered, IsAnswered}
use Rattle.job_words.specs.declared.job.Job.{Job}
use Rattle.job_words.specs.declared.job.Job.TheVariants as job
use Rattle.written_replies.specs.declared.status.Status.{Status}
use Rattle.written_replies.specs.declared.status.Status.TheVariants.{Done, Refused, Usage, ReadFault, WriteFault, Memory, InputTooLong}
use Rattle.poly_io.proofs.Known.{prepend_known-nil}
use Rattle.job_texts.proofs.ConversionLaws.{must_convert}
use Rattle.job_texts.proofs.SampleLaws.{must_sample}
use Rattle.job_words.proofs.SampleWords.{second}

abbrev first_byte : List (List ℕ) → ℕ
first_byte ((b ∷ word) ∷ words) = b
first_byte ([] ∷ words) = 0
first_byte [] = 0

-- one number is spelled by one word
same_size : (words : List (List ℕ)) (first u v : List ℕ) (n m : ℕ) → words ≡ first ∷ u ∷ [] → words ≡ first ∷ v ∷ [] → SpellsSize u n → SpellsSize v m → job.Sample n ≡ job.Sample m
same_size words first u v n m e f s t =
    let same : u ≡ v = ap second (sym e ∙ f) in
    ap job.Sample (s.value ∙ ap number same ∙ sym t.value)

-- words ask for one job
pub one_job : (words : List (List ℕ)) (a b : Job) → IsAskedBy words a → IsAskedBy words b → a ≡ b
one_job words job.Run job.Run e f = refl
one_job words (job.Convert Ine) (job.Convert Ine) e f = refl
one_job words (job.Convert Ext) (job.Convert Ext) e f = refl
one_job words (job.Sample n) (job.Sample m) e f = same_size words (codes "sample") e.0 f.0 n m e.1 f.1 e.2 f.2
one_job words job.Run (job.Convert Ine) e f = let same : 114 ≡ 105 = ap first_byte (sym e ∙ f) in absurd (omega (arith, same))
one_job words job.Run (job.Convert Ext) e f = let same : 114 ≡ 101 = ap first_byte (sym e ∙ f) in absurd (omega (arith, same))
one_job words job.Run (job.Sample n) e f = let same : 114 ≡ 115 = ap first_byte (sym e ∙ f.1) in absurd (omega (arith, same))
one_job words (job.Convert Ine) job.Run e f = let same : 105 ≡ 114 = ap first_byte (sym e ∙ f) in absurd (omega (arith, same))
one_job words (job.Convert Ine) (job.Convert Ext) e f = let same : 105 ≡ 101 = ap first_byte (sym e ∙ f) in absurd (omega (arith, same))
one_job words (job.Convert Ine) (job.Sample n) e f = let same : 105 ≡ 115 = ap first_byte (sym e ∙ f.1) in absurd (omega (arith, same))
one_job words (job.Convert Ext) job.Run e f = let same : 101 ≡ 114 = ap first_byte (sym e ∙ f) in absurd (omega (arith, same))
one_job words (job.Convert Ext) (job.Convert Ine) e f = let same : 101 ≡ 105 = ap first_byte (sym e ∙ f) in absurd (omega (arith, same))
one_job words (job.Convert Ext) (job.Sample n) e f = let same : 101 ≡ 115 = ap first_byte (sym e ∙ f.1) in absurd (omega (arith, same))
one_job words (job.Sample n) job.Run e f = let same : 115 ≡ 114 = ap first_byte (sym e.1 ∙ f) in absurd (omega (arith, same))
one_job words (job.Sample n) (job.Convert Ine) e f = let same : 115 ≡ 105 = ap first_byte (sym e.1 ∙ f) in absurd (omega (arith, same))
one_job words (job.Sample n) (job.Convert Ext) e f = let same : 115 ≡ 101 = ap first_byte (sym e.1 ∙ f) in absurd (omega (arith, same))

-- ---- the bytes that the source gave
all_given : (script given : List ℕ) (left : Option (List ℕ)) → Some script ≡ prepend_known given left → IsAtEnd left → given ≡ script
all_given script given None e end = cc
all_given script given (Some rest) e end =
    let same : script ≡ given ++ rest = cc in
    sym (same ∙ ap (λ (x : List ℕ). given ++ x) end ∙ append-nil given)

few_given : (script given : List ℕ) (left : Option (List ℕ)) → Some script ≡ prepend_known given left → length given ≤ length script
few_given script given None e = cc
few_given script given (Some rest) e =
    let same : script ≡ given ++ rest = cc in
    omega (arith, ap (λ (x : List ℕ). length x) same, length-append given rest)

-- ---- an answered script, file or number
sample_finished : (n : ℕ) (before : List ℕ) (held : Option (List ℕ)) (clean : Bool) → Samples n clean (Some before) held → IsSampleAnswered n before held (if clean then Done else Refused)
sample_finished n before held clean f = record {
  reply = f.reply;
  samples = f.samples;
  complete = must_sample n f.reply f.samples;
  held_now = f.held;
  verdict = ap (λ (b : Bool). if b then Done else Refused) (sym f.verdict);
}

run_finished : RunsAreComplete → (script before : List ℕ) (held : Option (List ℕ)) (clean : Bool) → Completes script clean (Some before) held → IsRunAnswered script before held (if clean then Done else Refused)
run_finished complete script before held clean f = record {
  state = f.state;
  replies = f.replies;
  run = f.run;
  complete = complete (closed []) (lines script) f.replies f.state f.run;
  held_now = f.held;
  verdict = ap (λ (b : Bool). if b then Done else Refused) (sym f.verdict);
}

file_finished : (want : Format) (file before : List ℕ) (held : Option (List ℕ)) (clean : Bool) → Converts want file clean (Some before) held → IsFileAnswered want file before held (if clean then Done else Refused)
file_finished want file before held clean f = record {
  reply = f.reply;
  converts = f.converts;
  complete = must_convert want file f.reply f.converts;
  held_now = f.held;
  verdict = ap (λ (b : Bool). if b then Done else Refused) (sym f.verdict);
}

finished : RunsAreComplete → (task : Job) (script before given : List ℕ) (left held : Option (List ℕ)) (clean : Bool) → Some script ≡ prepend_known given left → IsReadOut task given left → Finishes task given clean (Some before) held
    → IsAnswered task script before held (if clean then Done else Refused)
finished complete job.Run script before given left held clean e out f = run_finished complete script before held clean (subst (λ (x : List ℕ). Completes x clean (Some before) held) (all_given script given left e out) f)
finished complete (job.Convert want) script before given left held clean e out f = file_finished want script before held clean (subst (λ (x : List ℕ). Converts want x clean (Some before) held) (all_given script given left e out) f)
finished complete (job.Sample n) script before given left held clean e out f = sample_finished n before held clean f

pub answered : RunsAreComplete → (task : Job) (script before given : List ℕ) (left held : Option (List ℕ)) (status : Status) → Some script ≡ prepend_known given left → length script ≤ 2 ^ 26 → Outcome task given left (Some before) held status →
    ¬ (status ≡ ReadFault) → ¬ (status ≡ WriteFault) → ¬ (status ≡ Memory) → IsAnswered task script before held status
answered complete task script before given left held Done e few o read write memory = finished complete task script before given left held true e o.1 o.2
answered complete task script before given left held Refused e few o read write memory = finished complete task script before given left held false e o.1 o.2
answered complete task script before given left held ReadFault e few o read write memory = absurd (read refl)
answered complete task script before given left held WriteFault e few o read write memory = absurd (write refl)
answered complete task script before given left held Memory e few o read write memory = absurd (memory refl)
answered complete task script before given left held InputTooLong e few o read write memory = absurd (omega (arith, few_given script given left e, few, o.0))
answered complete task script before given left held Usage e few o read write memory = absurd o

-- of a sample nothing is asked of the source
pub sampled : (n : ℕ) (before given : List ℕ) (left held : Option (List ℕ)) (status : Status) → Outcome (job.Sample n) given left (Some before) held status → ¬ (status ≡ WriteFault) → ¬ (status ≡ Memory) → IsSampleAnswered n before held status
sampled n before given left held Done o write memory = sample_finished n before held true o.2
sampled n before given left held Refused o write memory = sample_finished n before held false o.2
sampled n before given left held ReadFault o write memory = absurd o.1
sampled n before given left held WriteFault o write memory = absurd (write refl)
sampled n before given left held Memory o write memory = absurd (memory refl)
sampled n before given left held InputTooLong o write memory = absurd o.3
sampled n before given left held Usage o write memory = absurd o

-- and no read of it can fail
pub never_reads : (n : ℕ) (old new : Option (List ℕ)) (status : Status) → SampleOutcome n old new status → status ≡ ReadFault → ⊥
never_reads n old new status o e = subst (λ (s : Status). SampleOutcome n old new s) e o

-- ---- what came of the jobs that read no script
pub of_conversion : (want : Format) (given : List ℕ) (left old new : Option (List ℕ)) (status : Status) → ConversionOutcome want given left old new status → Outcome (job.Convert want) given left old new status
of_conversion want given left old new Done o = o
of_conversion want given left old new Refused o = o
of_conversion want given left old new ReadFault o = o
of_conversion want given left old new WriteFault o = o
of_conversion want given left old new Memory o = o
of_conversion want given left old new InputTooLong o = o
of_conversion want given left old new Usage o = absurd o

pub of_sample : (n : ℕ) (left old new : Option (List ℕ)) (status : Status) → SampleOutcome n old new status → Outcome (job.Sample n) [] left old new status
of_sample n left old new Done o = (omega arith, refl, o)
of_sample n left old new Refused o = (omega arith, refl, o)
of_sample n left old new WriteFault o = (omega arith, o)
of_sample n left old new Memory o = (omega arith, o)
of_sample n left old new ReadFault o = absurd o
of_sample n left old new InputTooLong o = absurd o
of_sample n left old new Usage o = absurd o

-- ---- the other promises, by the status
module _ (words : List (List ℕ)) (task : Job) (given : List ℕ) (left now old new : Option (List ℕ)) (status : Status) (asked : IsAskedBy words task) (gave : left ≡ prepend_known given now) (outcome : Outcome task given now old new status) where
  at : (s : Status) → status ≡ s → Outcome task given now old new s
  at s e = subst (λ (x : Status). Outcome task given now old new x) e outcome

  when_done : status ≡ Done → Ends words left now old new true
  when_done e = let o = at Done e in record { job = task; asked = asked; given = given; gave = gave; read_out = o.1; finishes = o.2 }

  when_refused : status ≡ Refused → Ends words left now old new false
  when_refused e = let o = at Refused e in record { job = task; asked = asked; given = given; gave = gave; read_out = o.1; finishes = o.2 }

  stops : (Writes : Job → List ℕ → Option (List ℕ) → Option (List ℕ) → Option (List ℕ) → Type 0) → Writes task given now old new → Stops words left now old new Writes
  stops Writes w = record { job = task; asked = asked; given = given; gave = gave; writes = w }

  when_unread : status ≡ ReadFault → Stops words left now old new AnswersRead
  when_unread e = stops AnswersRead (at ReadFault e).1

  when_too_long : status ≡ InputTooLong → Stops words left now old new AnswersFront
  when_too_long e = stops AnswersFront (at InputTooLong e).3

  when_cut : (status ≡ WriteFault) ⊎ (status ≡ Memory) ⊎ (status ≡ InputTooLong) → Stops words left now old new WritesFront
  when_cut (inl e) = stops WritesFront (at WriteFault e).1
  when_cut (inr (inl e)) = stops WritesFront (at Memory e).1
  when_cut (inr (inr e)) = stops WritesFront (at InputTooLong e).2

  pub ends_as : (Wanted : Type 0) → (status ≡ Memory → ¬ Wanted → GivesUp task left now old new) → EndsAs words status Wanted left now old new
  ends_as Wanted before = record {
    done = when_done;
    refused = when_refused;
    whole_lines = when_unread;
    earlier_lines = when_too_long;
    lines_before = λ memory calm. let some = before memory calm in record { job = task; asked = asked; given = some.0; gave = some.1; writes = some.2 };
    partly = when_cut;
  }

-- words without a meaning tell none of these
not_done : Usage ≡ Done → ⊥
not_done e = cc

not_refused : Usage ≡ Refused → ⊥
not_refused e = cc

not_unread : Usage ≡ ReadFault → ⊥
not_unread e = cc

not_unwritten : Usage ≡ WriteFault → ⊥
not_unwritten e = cc

not_wanting : Usage ≡ Memory → ⊥
not_wanting e = cc

not_too_long : Usage ≡ InputTooLong → ⊥
not_too_long e = cc

not_cut : (Usage ≡ WriteFault) ⊎ (Usage ≡ Memory) ⊎ (Usage ≡ InputTooLong) → ⊥
not_cut (inl e) = not_unwritten e
not_cut (inr (inl e)) = not_wanting e
not_cut (inr (inr e)) = not_too_long e

pub ends_unasked : (words : List (List ℕ)) (Wanted : Type 0) (left held : Option (List ℕ)) → EndsAs words Usage Wanted left left held held
ends_unasked words Wanted left held = record {
  done = λ e. absurd (not_done e);
  refused = λ e. absurd (not_refused e);
  whole_lines = λ e. absurd (not_unread e);
  earlier_lines = λ e. absurd (not_too_long e);
  lines_before = λ e calm. absurd (not_wanting e);
  partly = λ e. absurd (not_cut e);
}

-- a job that is done had words
pub never_usage : (task : Job) (given : List ℕ) (now old new : Option (List ℕ)) (status : Status) → Outcome task given now old new status → status ≡ Usage → ⊥
never_usage task given now old new status outcome e = subst (λ (x : Status). Outcome task given now old new x) e outcome

-- too much was given exactly where the status says so
size_by : (task : Job) (given : List ℕ) (now old new : Option (List ℕ)) (status : Status) → Outcome task given now old new status → ((status ≡ InputTooLong) ↔ (2 ^ 26 < length given)) × (length given ≤ 2 ^ 26 + 2 ^ 16)
size_by task given now old new Done o = ((λ e. cc, λ k. absurd (omega (arith, o.0, k))), omega (arith, o.0))
size_by task given now old new Refused o = ((λ e. cc, λ k. absurd (omega (arith, o.0, k))), omega (arith, o.0))
size_by task given now old new ReadFault o = ((λ e. cc, λ k. absurd (omega (arith, o.0, k))), omega (arith, o.0))
size_by task given now old new WriteFault o = ((λ e. cc, λ k. absurd (omega (arith, o.0, k))), omega (arith, o.0))
size_by task given now old new Memory o = ((λ e. cc, λ k. absurd (omega (arith, o.0, k))), omega (arith, o.0))
size_by task given now old new InputTooLong o = ((λ e. o.0, λ k. refl), o.1)
size_by task given now old new Usage o = absurd o

pub size_told : (task : Job) (given : List ℕ) (left now old new : Option (List ℕ)) (status : Status) → left ≡ prepend_known given now → Outcome task given now old new status → TellsSize status left now
size_told task given left now old new status gave outcome =
    let told = size_by task given now old new status outcome in
    record { given = given; gave = gave; told = told.0; no_more = told.1 }

pub size_unasked : (left : Option (List ℕ)) → TellsSize Usage left left
size_unasked left = record { given = []; gave = sym (prepend_known-nil left); told = (λ e. absurd (not_too_long e), λ k. absurd (omega (arith, k))); no_more = omega arith }
