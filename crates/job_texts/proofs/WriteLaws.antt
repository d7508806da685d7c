-- What came of a file or a sample whose reply is written.
use Rattle.std.proofs.Common.{◌≡◌, ℕ, ◌^◌, ◌≤◌, List, [], length, subst, inr}
use Rattle.std.specs.Prelude.{Option}
use Rattle.std.specs.Io.KnownBytes.{IsAtEnd}
use Rattle.cdd_reading.specs.declared.format.Format.{Format}
use Rattle.line_values.specs.Replies.{Reply}
use Rattle.written_replies.specs.Replies.{Written, written, with_reply}
use Rattle.written_replies.specs.Endings.{Writes}
use Rattle.written_replies.specs.declared.status.Status.{Status}
use Rattle.written_replies.specs.declared.status.Status.TheVariants.{Done, Refused, Usage, ReadFault, WriteFault, Memory, InputTooLong}
use Rattle.job_texts.specs.Conversions.{ConvertsTo}
use Rattle.job_texts.specs.Samples.{SamplesTo}
use Rattle.job_texts.specs.Outcomes.{ConversionOutcome, SampleOutcome}

-- ---- files
one_converted : (want : Format) (file : List ℕ) (left old new : Option (List ℕ)) (reply : Reply) (s : Status) → ConvertsTo want file reply → length file ≤ 2 ^ 26 → IsAtEnd left → Writes (with_reply (written []) reply) old new s → ConversionOutcome want file left old new s
one_converted want file left old new reply Done is few ended (clean, held) = (few, ended, record { reply = reply; converts = is; held = held; verdict = clean })
one_converted want file left old new reply Refused is few ended (clean, held) = (few, ended, record { reply = reply; converts = is; held = held; verdict = clean })
one_converted want file left old new reply WriteFault is few ended (count, held) = (few, inr (ended, record { reply = reply; converts = is; count = count; held = held }))
one_converted want file left old new reply Memory is few ended (count, held) = (few, inr (ended, record { reply = reply; converts = is; count = count; held = held }))
one_converted want file left old new reply Usage is few ended h = absurd h
one_converted want file left old new reply ReadFault is few ended h = absurd h
one_converted want file left old new reply InputTooLong is few ended h = absurd h

pub conversion_written : (want : Format) (file given : List ℕ) (left old new : Option (List ℕ)) (w : Written) (reply : Reply) (s : Status) → file ≡ given → ConvertsTo want file reply → w ≡ with_reply (written []) reply → length given ≤ 2 ^ 26 → IsAtEnd left → Writes w old new s → ConversionOutcome want given left old new s
conversion_written want file given left old new w reply s same is gathered few ended h =
    one_converted want given left old new reply s (subst (λ (bytes : List ℕ). ConvertsTo want bytes reply) same is) few ended (subst (λ (v : Written). Writes v old new s) gathered h)

-- ---- samples
one_sampled : (n : ℕ) (old new : Option (List ℕ)) (reply : Reply) (s : Status) → SamplesTo n reply → Writes (with_reply (written []) reply) old new s → SampleOutcome n old new s
one_sampled n old new reply Done is (clean, held) = record { reply = reply; samples = is; held = held; verdict = clean }
one_sampled n old new reply Refused is (clean, held) = record { reply = reply; samples = is; held = held; verdict = clean }
one_sampled n old new reply WriteFault is (count, held) = inr (record { reply = reply; samples = is; count = count; held = held })
one_sampled n old new reply Memory is (count, held) = inr (record { reply = reply; samples = is; count = count; held = held })
one_sampled n old new reply Usage is h = absurd h
one_sampled n old new reply ReadFault is h = absurd h
one_sampled n old new reply InputTooLong is h = absurd h

pub sample_written : (n : ℕ) (old new : Option (List ℕ)) (w : Written) (reply : Reply) (s : Status) → SamplesTo n reply → w ≡ with_reply (written []) reply → Writes w old new s → SampleOutcome n old new s
sample_written n old new w reply s is gathered h = one_sampled n old new reply s is (subst (λ (v : Written). Writes v old new s) gathered h)
