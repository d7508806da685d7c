-- What came of a whole file.
use Rattle.std.proofs.Common.{[], ◌∷◌, inl, Bool, IsTrue, Err, refl}
use Rattle.reply_text.specs.declared.faults.Fault.TheVariants as fault
use Rattle.reply_text.specs.declared.faults.ReadErr.{ReadErr}
use Rattle.reply_text.specs.declared.faults.ReadErr.TheVariants as unread
use Rattle.row_core.specs.declared.errors.ConvErr.{ConvErr}
use Rattle.row_core.specs.declared.errors.ConvErr.TheVariants as conversion
use Rattle.cdd_reading.specs.Refusals.{tests, IsFirstOf, NoneOf, IsRefusal}
use Rattle.cdd_reading.proofs.Stages.{first_longer, first_behind, none_both}
use Rattle.file_poly.specs.Files.{IsListOf, IsOverflowOnList}
use Rattle.file_poly.specs.declared.listed.Listed.{Listed}
use Rattle.line_values.specs.Refusals.{refusal_of_reading, refusal_of_conversion}
use Rattle.line_values.specs.Operands.{format_of}
use Rattle.open_files.specs.OpenFiles.{OpenFile, no_room, whole_tests, IsFileRead}

pub file_refused : (full : Bool) (file : OpenFile) (cause : ReadErr) → IsRefusal (tests (format_of file.ext) file.text) cause → IsFileRead full file (Err (refusal_of_reading cause))
file_refused full file (unread.Input f) h = first_longer (tests (format_of file.ext) file.text) (no_room full ∷ []) f h
file_refused full file unread.Memory h = tt

pub room_refused : (full : Bool) (file : OpenFile) → NoneOf (tests (format_of file.ext) file.text) → IsTrue full → IsFirstOf (whole_tests full file) fault.TooManyNames
room_refused full file none is_full = first_behind (tests (format_of file.ext) file.text) (no_room full ∷ []) fault.TooManyNames none (inl (refl, is_full))

pub file_passes : (full : Bool) (file : OpenFile) → NoneOf (tests (format_of file.ext) file.text) → ¬ (IsTrue full) → NoneOf (whole_tests full file)
file_passes full file none room = none_both (tests (format_of file.ext) file.text) (no_room full ∷ []) none (λ g found. room found.1, tt)

pub file_leaves : (full : Bool) (file : OpenFile) (list : Listed) (cause : ConvErr) → NoneOf (whole_tests full file) → IsListOf (format_of file.ext) file.text list → IsOverflowOnList list cause → IsFileRead full file (Err (refusal_of_conversion cause))
file_leaves full file list (conversion.Overflow over) none read leaves = (none, record { list = list; read = read; leaves = leaves })
file_leaves full file list conversion.Memory none read leaves = tt
