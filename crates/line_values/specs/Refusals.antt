-- Why a line is refused, by what the reader or the polyhedra answer.
use Rattle.row_core.specs.declared.errors.ConvErr.{ConvErr}
use Rattle.row_core.specs.declared.errors.ConvErr.TheVariants as conversion
use Rattle.term_text.specs.declared.terms.ValueErr.{ValueErr}
use Rattle.term_text.specs.declared.terms.ValueErr.TheVariants as value
use Rattle.reply_text.specs.declared.faults.Fault.TheVariants as fault
use Rattle.reply_text.specs.declared.faults.ReadErr.{ReadErr}
use Rattle.reply_text.specs.declared.faults.ReadErr.TheVariants as unread
use Rattle.poly_pair.specs.declared.errors.GenErr.{GenErr}
use Rattle.poly_pair.specs.declared.errors.GenErr.TheVariants as generators
use Rattle.line_values.specs.declared.refusal.StepErr.{StepErr}
use Rattle.line_values.specs.declared.refusal.StepErr.TheVariants as err

-- the refusal of a line, or of a text of generators, that was not read
abbrev pub refusal_of_reading : ReadErr → StepErr
refusal_of_reading (unread.Input fault) = err.Input fault
refusal_of_reading unread.Memory = err.Memory

-- the refusal of a text without a value
abbrev pub refusal_of_text : ValueErr → StepErr
refusal_of_text value.OutOfRange = err.Input fault.OutOfRange
refusal_of_text value.TooLarge = err.Input fault.NumberTooLarge
refusal_of_text value.ZeroDivisor = err.Input fault.ZeroDivisor
refusal_of_text value.Memory = err.Memory

-- the refusal of a command whose conversion was refused
abbrev pub refusal_of_conversion : ConvErr → StepErr
refusal_of_conversion (conversion.Overflow over) = err.Overflow over
refusal_of_conversion conversion.Memory = err.Memory

-- the refusal of a command whose generators give no polyhedron
abbrev pub refusal_of_generators : GenErr → StepErr
refusal_of_generators generators.NoPoint = err.Input fault.NoPoint
refusal_of_generators (generators.Overflow over) = err.Overflow over
refusal_of_generators generators.Memory = err.Memory
