-- What came of a file that is converted, and of a sample.
use Rattle.std.specs.Prelude.{◌≡◌, ◌⊎◌, ℕ, ◌+◌, ◌^◌, ◌<◌, ◌≤◌, List, length, take, Option, Bool, true, false}
use Rattle.std.specs.Io.KnownBytes.{append_known, IsAtEnd}
use Rattle.cdd_reading.specs.declared.format.Format.{Format}
use Rattle.poly_io.specs.declared.line_reader.TheConstants.{INPUT_LIMIT}
use Rattle.line_values.specs.Replies.{Reply, is_answer}
use Rattle.written_replies.specs.Replies.{reply_bytes}
use Rattle.written_replies.specs.declared.status.Status.{Status}
use Rattle.written_replies.specs.declared.status.Status.TheVariants.{Done, Refused, Usage, ReadFault, WriteFault, Memory, InputTooLong}
use Rattle.job_texts.specs.Conversions.{ConvertsTo}
use Rattle.job_texts.specs.Samples.{SamplesTo}

-- ---- files that are converted
-- behind what was held stands the reply to the file; whether it is no fault and no overflow
pub record Converts (want : Format) (file : List ℕ) (clean : Bool)
    (old new : Option (List ℕ)) : Type 0 where
  pub reply : Reply
  pub converts : ConvertsTo want file reply
  pub held : new ≡ append_known old (reply_bytes reply)
  pub verdict : is_answer reply ≡ clean

-- what was held, and behind it a front of the reply to the file
pub record ConvertsPrefix (want : Format) (file : List ℕ) (old new : Option (List ℕ)) : Type 0 where
  pub reply : Reply
  pub converts : ConvertsTo want file reply
  pub count : ℕ
  pub held : new ≡ append_known old (take count (reply_bytes reply))

-- what came of a conversion, after the source gave these bytes and now has those left
abbrev pub ConversionOutcome : Format → List ℕ → Option (List ℕ) → Option (List ℕ)
    → Option (List ℕ) → Status → Type 0
ConversionOutcome want given left old new Done =
    (length given ≤ INPUT_LIMIT) × IsAtEnd left × Converts want given true old new
ConversionOutcome want given left old new Refused =
    (length given ≤ INPUT_LIMIT) × IsAtEnd left × Converts want given false old new
ConversionOutcome want given left old new ReadFault = (length given ≤ INPUT_LIMIT) × (new ≡ old)
ConversionOutcome want given left old new WriteFault =
    (length given ≤ INPUT_LIMIT)
    × ((new ≡ old) ⊎ (IsAtEnd left × ConvertsPrefix want given old new))
ConversionOutcome want given left old new Memory =
    (length given ≤ INPUT_LIMIT)
    × ((new ≡ old) ⊎ (IsAtEnd left × ConvertsPrefix want given old new))
ConversionOutcome want given left old new InputTooLong =
    (INPUT_LIMIT < length given) × (length given ≤ INPUT_LIMIT + 2 ^ 16)
    × ((new ≡ old) ⊎ (IsAtEnd left × ConvertsPrefix want given old new))
    × (new ≡ old)
ConversionOutcome want given left old new Usage = ⊥

-- ---- samples
-- behind what was held stands the reply to the number of the sample; whether it is no overflow
pub record Samples (n : ℕ) (clean : Bool) (old new : Option (List ℕ)) : Type 0 where
  pub reply : Reply
  pub samples : SamplesTo n reply
  pub held : new ≡ append_known old (reply_bytes reply)
  pub verdict : is_answer reply ≡ clean

-- what was held, and behind it a front of that reply
pub record SamplesPrefix (n : ℕ) (old new : Option (List ℕ)) : Type 0 where
  pub reply : Reply
  pub samples : SamplesTo n reply
  pub count : ℕ
  pub held : new ≡ append_known old (take count (reply_bytes reply))

-- what came of a sample, of which nothing is read
abbrev pub SampleOutcome : ℕ → Option (List ℕ) → Option (List ℕ) → Status → Type 0
SampleOutcome n old new Done = Samples n true old new
SampleOutcome n old new Refused = Samples n false old new
SampleOutcome n old new WriteFault = (new ≡ old) ⊎ SamplesPrefix n old new
SampleOutcome n old new Memory = (new ≡ old) ⊎ SamplesPrefix n old new
SampleOutcome n old new ReadFault = ⊥
SampleOutcome n old new InputTooLong = ⊥
SampleOutcome n old new Usage = ⊥
