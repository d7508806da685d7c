-- The form whose command word a word may be, by a perfect hash of the command words.
use Rattle.std.specs.Prelude.{ℕ, ◌+◌, ◌-◌, ◌*◌, ◌%◌, List, [], length, nat_lt, if◌then◌else◌, slice_index, slice_index_or}
use Rattle.line_forms.specs.CommandWords.{CommandWord, command_words}
use Rattle.line_forms.specs.declared.places.TheConstants.{PLACES}
use Rattle.line_forms.specs.declared.form.LineForm.TheVariants.{Nothing}

-- the slot of a word
abbrev pub slot : List ℕ → ℕ
slot w =
    if nat_lt (length w) 3 then 0
    else (length w + 4 * slice_index w 0 + 15 * slice_index w 1 + 8 * slice_index w (length w - 1))
    % 256

-- the row at a place, and that of a blank line where there is none
abbrev pub row_at : List CommandWord → ℕ → CommandWord
row_at rows place = slice_index_or rows place (Nothing, [])

-- the only form whose command word the word may be, with its command word
abbrev pub candidate : List ℕ → CommandWord
candidate w = row_at command_words (slice_index PLACES (slot w))
