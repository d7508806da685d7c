-- A line isn't both read and refused, and is refused for one fault.
use Rattle.std.proofs.Common.{◌≡◌, ℕ, ◌<◌, ◌≤◌, List, length, refl, ap, arith, inl, inr}
use Rattle.grammar.specs.Form.{Form, IsColumnOfAny}
use Rattle.reply_text.specs.declared.faults.Fault.{Fault}
use Rattle.reply_text.specs.declared.faults.Fault.TheVariants.{LineTooLong, Syntax}
use Rattle.reply_text.specs.declared.faults.ReadErr.TheVariants.{Input}
use Rattle.line_forms.specs.CommandWords.{command_words, line_forms}
use Rattle.line_forms.proofs.Listed.{any_matches}
use Rattle.script_text.specs.Line.{Spells, IsUnread}
use Rattle.script_text.specs.declared.command.Command.{Command}

not_less : (fs : List Form) (w : List ℕ) (c d : ℕ) → IsColumnOfAny fs w c → IsColumnOfAny fs w d → c < d → ⊥
not_less fs w c d a b less = elim (a.here) [ inl h ↦ h.1 (b.before c less) | inr e ↦ elim (b.here) [ inl h ↦ (let le : d ≤ length w = h.0 in omega arith) | inr f ↦ omega arith ] ]

column_once : (fs : List Form) (w : List ℕ) (c d : ℕ) → IsColumnOfAny fs w c → IsColumnOfAny fs w d → c ≡ d
column_once fs w c d a b =
    let h : c < d → ⊥ = not_less fs w c d a b in
    let k : d < c → ⊥ = not_less fs w d c b a in
    omega arith

-- a line that spells a command isn't refused by its reader
pub spelled_read : (line : List ℕ) (c : Command) (f : Fault) → Spells line c → IsUnread line (Input f) → ⊥
spelled_read line c LineTooLong s u = let short : length line ≤ 65535 = s.short in omega arith
spelled_read line c (Syntax column) s u = u.1.not (any_matches command_words (s.form, s.has.word) line s.has.listed s.has.matches)
spelled_read line c f s u = u

short_long : (n : ℕ) → n ≤ 65535 → 65535 < n → ⊥
short_long n h k = omega arith

-- the reader refuses a line for one fault
pub unread_once : (line : List ℕ) (f g : Fault) → IsUnread line (Input f) → IsUnread line (Input g) → f ≡ g
unread_once line LineTooLong LineTooLong a b = refl
unread_once line LineTooLong (Syntax d) a b = absurd (short_long (length line) b.0 a)
unread_once line (Syntax c) LineTooLong a b = absurd (short_long (length line) a.0 b)
unread_once line (Syntax c) (Syntax d) a b = ap Syntax (column_once line_forms line c d a.1 b.1)
unread_once line LineTooLong g a b = absurd b
unread_once line (Syntax c) g a b = absurd b
unread_once line f g a b = absurd a
