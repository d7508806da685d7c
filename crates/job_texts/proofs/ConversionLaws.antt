-- What a file is answered that is converted.
use Rattle.std.proofs.Common.{◌≡◌, ℕ, List, [], ◌∷◌, Err, refl, inl, inr, true, subst}
use Rattle.row_core.specs.declared.errors.ConvErr.{ConvErr}
use Rattle.row_core.specs.declared.errors.ConvErr.TheVariants as conversion
use Rattle.reply_text.specs.declared.faults.Fault.{Fault}
use Rattle.reply_text.specs.declared.faults.Fault.TheVariants as fault
use Rattle.reply_text.specs.declared.faults.ReadErr.{ReadErr}
use Rattle.reply_text.specs.declared.faults.ReadErr.TheVariants as unread
use Rattle.cdd_reading.specs.Files.{HasLinearityAfter}
use Rattle.cdd_reading.specs.Refusals.{Test, tests, other, IsFirstOf, NoneOf, IsRefusal}
use Rattle.cdd_reading.specs.declared.format.Format.{Format}
use Rattle.cdd_reading.specs.declared.format.Format.TheVariants.{Ine, Ext}
use Rattle.cdd_reading.proofs.Stages.{first_longer, first_behind, none_both}
use Rattle.poly_pair.specs.KeptLaws.{KeptIsPair}
use Rattle.file_poly.specs.Files.{IsListOf, IsOverflowOnFirst, IsOtherFileOf, FitsIn, IsWrittenOf, IsOfFile, other_format}
use Rattle.file_poly.specs.declared.listed.Listed.{Listed}
use Rattle.file_poly.specs.declared.listed.Listed.TheVariants.{Cons, Gens}
use Rattle.line_values.specs.Refusals.{refusal_of_reading, refusal_of_conversion}
use Rattle.line_values.specs.Replies.{Reply, Answered, Refused, Overflows, is_answer}
use Rattle.job_texts.specs.Conversions.{linearity_behind, conversion_tests, IsOtherFile, ConvertsTo, GivesConversion, MustConvert}

-- ---- refused files
pub file_refused : (want : Format) (bytes : List ℕ) (cause : ReadErr) → IsRefusal (tests want bytes) cause → GivesConversion want bytes (Err (refusal_of_reading cause))
file_refused want bytes (unread.Input f) h = first_longer (tests want bytes) (linearity_behind bytes ∷ []) f h
file_refused want bytes unread.Memory h = tt

pub linearity_refused : (want : Format) (bytes : List ℕ) → NoneOf (tests want bytes) → HasLinearityAfter bytes → IsFirstOf (conversion_tests want bytes) fault.LinearityAfterEnd
linearity_refused want bytes none h = first_behind (tests want bytes) (linearity_behind bytes ∷ []) fault.LinearityAfterEnd none (inl (refl, h))

-- a file that passes its own tests, and behind which linearity doesn't stand
pub all_passed : (want : Format) (bytes : List ℕ) → NoneOf (tests want bytes) → ¬ (HasLinearityAfter bytes) → NoneOf (conversion_tests want bytes)
all_passed want bytes none h = none_both (tests want bytes) (linearity_behind bytes ∷ []) none (λ g found. h found.1, tt)

pub conversion_refused : (want : Format) (bytes : List ℕ) (list : Listed) (cause : ConvErr) → NoneOf (conversion_tests want bytes) → IsListOf want bytes list → IsOverflowOnFirst list cause → GivesConversion want bytes (Err (refusal_of_conversion cause))
conversion_refused want bytes list (conversion.Overflow over) none read leaves = (none, record { list = list; read = read; leaves = leaves })
conversion_refused want bytes list conversion.Memory none read leaves = tt

-- ---- converted files
other_is : (want : Format) (bytes : List ℕ) (list : Listed) → IsListOf want bytes list → other_format list ≡ other want
other_is Ine bytes (Cons cs) read = refl
other_is Ext bytes (Gens gs) read = refl
other_is Ine bytes (Gens gs) read = absurd read
other_is Ext bytes (Cons cs) read = absurd read

pub other_file_of : KeptIsPair → (want : Format) (bytes text : List ℕ) (list : Listed) → IsListOf want bytes list → IsOtherFileOf list text → IsOtherFile want bytes text
other_file_of law want bytes text list read is =
    let same : other_format list ≡ other want = other_is want bytes list read in
    record {
      polyhedron = is.polyhedron;
      of_file = record { set = record { list = list; read = read; set = is.set }; kept = is.kept; pair = law is.polyhedron is.kept };
      fit = subst (λ (f : Format). FitsIn f is.polyhedron) same is.fit;
      written = subst (λ (f : Format). IsWrittenOf f is.polyhedron text) same is.written;
      same_points = subst (λ (f : Format). IsOfFile f text is.polyhedron) same is.same_points;
    }

-- ---- completeness
none_first : (ts : List Test) (f : Fault) → NoneOf ts → IsFirstOf ts f → ⊥
none_first [] f none h = h
none_first (test ∷ ts) f (none, more) (inl h) = none f h
none_first (test ∷ ts) f (none, more) (inr (here, h)) = none_first ts f more h

-- a file that must be converted is
pub must_convert : (want : Format) (bytes : List ℕ) (reply : Reply) → ConvertsTo want bytes reply → MustConvert want bytes → is_answer reply ≡ true
must_convert want bytes (Answered text) is m = refl
must_convert want bytes (Refused f) first m = absurd (none_first (conversion_tests want bytes) f m.faultless first)
must_convert want bytes (Overflows over) (none, leaves) m = absurd (m.safe over leaves)
