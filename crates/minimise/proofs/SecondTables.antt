-- Truth values behind those of the lines.
use Rattle.std.proofs.Common.{◌≡◌, ℕ, ◌+◌, ◌-◌, ◌<◌, ◌≤◌, Bool, true, false, List, length, replicate, slice_index_or, ◌∙◌, ap, arith, length-append}
use Rattle.std.proofs.lemmas.List.{length-replicate, get_or-replicate, get_or_append_left, get_or-append_right}
use Rattle.minimise.specs.SecondSystems.{behind_lines}

pub length-behind_lines : (lines : ℕ) (bits : List Bool) → length (behind_lines lines bits) ≡ lines + length bits
length-behind_lines lines bits = length-append (replicate lines true) bits ∙ ap (λ (n : ℕ). n + length bits) (length-replicate lines true)

pub behind_before : (lines : ℕ) (bits : List Bool) (j : ℕ) → j < lines → slice_index_or (behind_lines lines bits) j false ≡ true
behind_before lines bits j h = get_or_append_left (replicate lines true) bits false j (omega (arith, h, length-replicate lines true)) ∙ get_or-replicate lines j true false h

pub behind_after : (lines : ℕ) (bits : List Bool) (j : ℕ) → lines ≤ j → slice_index_or (behind_lines lines bits) j false ≡ slice_index_or bits (j - lines) false
behind_after lines bits j h = get_or-append_right (replicate lines true) bits lines j false (length-replicate lines true) h
