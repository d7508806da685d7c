-- The end of a script.
use Rattle.std.proofs.Common.{◌≡◌, ℕ, List, [], ◌∷◌, ◌++◌, refl, ap, sym, ◌∙◌, subst, Bool, true, false}
use Rattle.std.specs.Prelude.{Option, None, Some, IsSome, ◌&&◌}
use Rattle.std.specs.Io.KnownBytes.{append_known}
use Rattle.std.proofs.lemmas.List.{append-nil}
use Rattle.poly_io.proofs.Known.{append_known-nil}
use Rattle.reply_text.specs.declared.faults.Fault.{Fault}
use Rattle.reply_text.specs.declared.faults.Fault.TheVariants as fault
use Rattle.open_files.specs.OpenFiles.{OpenFile}
use Rattle.calc_state.specs.State.{State}
use Rattle.line_values.specs.Replies.{Reply, Refused}
use Rattle.written_replies.specs.Replies.{Written, with_reply, reply_bytes, replies_bytes}
use Rattle.calc_state.specs.Runs.{cut_off, at_end}
use Rattle.polycalc.specs.Endings.{Closes, done, refused, unwritten, unmade}
use Rattle.written_replies.specs.declared.status.Status.{Status}
use Rattle.written_replies.specs.declared.status.Status.TheVariants as status

-- ---- no file is open
pub closes_done : (state : State) (clean : Bool) (held : Option (List ℕ)) → state.file ≡ None → clean ≡ true → Closes (at_end state) clean held held status.Done
closes_done state clean held none e =
    subst (λ (rs : List Reply). Closes rs clean held held status.Done) (sym (ap cut_off none)) (done (ap (λ (b : Bool). b && true) e) (sym (append_known-nil held)))

pub closes_refused : (state : State) (clean : Bool) (held : Option (List ℕ)) → state.file ≡ None → clean ≡ false → Closes (at_end state) clean held held status.Refused
closes_refused state clean held none e =
    subst (λ (rs : List Reply). Closes rs clean held held status.Refused) (sym (ap cut_off none)) (refused (ap (λ (b : Bool). b && true) e) (sym (append_known-nil held)))

-- ---- a file is open
one_cut_off : (o : Option OpenFile) → IsSome o → cut_off o ≡ Refused fault.Truncated ∷ []
one_cut_off None h = cc
one_cut_off (Some file) h = refl

never_clean : (b : Bool) → (b && false) ≡ false
never_clean true = refl
never_clean false = refl

-- the bytes of the reply
pub bytes_at_end : (state : State) (old new : Written) (f : Fault) → IsSome state.file → f ≡ fault.Truncated → old.bytes ≡ [] → new ≡ with_reply old (Refused f) → new.bytes ≡ replies_bytes (at_end state)
bytes_at_end state old new f is e none more =
    ap (λ (w : Written). w.bytes) more ∙ ap (λ (b : List ℕ). b ++ reply_bytes (Refused f)) none ∙ ap (λ (g : Fault). reply_bytes (Refused g)) e ∙ sym (append-nil (reply_bytes (Refused fault.Truncated)))
    ∙ ap replies_bytes (sym (one_cut_off state.file is))

pub closes_written : (state : State) (clean : Bool) (held later : Option (List ℕ)) → IsSome state.file → later ≡ append_known held (replies_bytes (at_end state)) → Closes (at_end state) clean held later status.Refused
closes_written state clean held later is h =
    let one = one_cut_off state.file is in
    subst (λ (rs : List Reply). Closes rs clean held later status.Refused) (sym one) (refused (never_clean clean) (h ∙ ap (λ (rs : List Reply). append_known held (replies_bytes rs)) one))

pub closes_unmade : (state : State) (clean : Bool) (held : Option (List ℕ)) → Closes (at_end state) clean held held status.Memory
closes_unmade state clean held = unmade 0 (sym (append_known-nil held))

-- nothing is read at the end
pub never_unread : (further : List Reply) (clean : Bool) (now later : Option (List ℕ)) (s : Status) → Closes further clean now later s → s ≡ status.ReadFault → ⊥
never_unread further clean now later status.Done (done e h) is = cc
never_unread further clean now later status.Refused (refused e h) is = cc
never_unread further clean now later status.WriteFault (unwritten n h) is = cc
never_unread further clean now later status.Memory (unmade n h) is = cc
never_unread further clean now later status.Usage closes is = elim closes [ ]
never_unread further clean now later status.ReadFault closes is = elim closes [ ]
never_unread further clean now later status.InputTooLong closes is = elim closes [ ]
