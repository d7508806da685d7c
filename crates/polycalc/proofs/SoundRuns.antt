-- What is written to a script and to a file is what is said of points.
use Rattle.std.proofs.Common.{◌≡◌, inl, inr, ℕ, ◌+◌, List, [], ◌∷◌, ◌++◌, map, refl, ap, sym, ◌∙◌, subst, Bool, true, false, codes}
use Rattle.std.specs.Prelude.{Option, None, Some, decimal}
use Rattle.std.specs.Option.{option_map}
use Rattle.std.specs.List.{concat}
use Rattle.std.specs.Str.Lines.{lines}
use Rattle.row_core.specs.declared.errors.Overflow.{Overflow}
use Rattle.reply_text.specs.Faults.{fault_number, fault_name, fault_place, place_text}
use Rattle.reply_text.specs.Overflows.{kind_name, row_text}
use Rattle.reply_text.specs.declared.faults.Fault.{Fault}
use Rattle.reply_text.specs.declared.faults.Fault.TheVariants as fault
use Rattle.poly_pair.specs.Polyhedra.{Polyhedron, IsKept}
use Rattle.name_table.specs.Table.{has_no_room}
use Rattle.cdd_reading.specs.declared.format.Format.{Format}
use Rattle.cdd_reading.specs.declared.format.Format.TheVariants.{Ine, Ext}
use Rattle.cdd_reading.specs.Refusals.{Test, tests, NoneOf}
use Rattle.file_poly.specs.Files as poly_files
use Rattle.job_texts.specs.Conversions.{linearity_behind, conversion_tests, IsOtherFile, ConvertsTo}
use Rattle.script_text.specs.declared.command.Command.{Command}
use Rattle.script_text.specs.declared.command.Command.TheVariants.{Read}
use Rattle.line_values.specs.Operands.{format_of}
use Rattle.line_values.specs.Replies.{Reply, Answered, Refused, Overflows}
use Rattle.open_files.specs.OpenFiles as open_files
use Rattle.calc_state.specs.declared.entry.Entry.TheVariants as entry
use Rattle.calc_state.specs.Table.{Table}
use Rattle.calc_state.specs.State as calc
use Rattle.calc_state.specs.State.{closed, opens}
use Rattle.calc_state.specs.Reading.{Reads}
use Rattle.calc_state.specs.Step.{Performs}
use Rattle.script_text.specs.Line.{Spells}
use Rattle.script_text.proofs.SpellLemmas.{told}
use Rattle.cdd_reading.specs.Files.{IsEnd}
use Rattle.calc_state.specs.Line.{file_after, StepFrom}
use Rattle.calc_state.specs.Runs.{Run, cut_off, at_end}
use Rattle.written_replies.specs.Replies.{reply_bytes, replies_bytes}
use Rattle.polycalc.specs.Outcomes.{IsAnswered}
use Rattle.polycalc.specs.Sound.{IsTrueOf, IsSound}
use Rattle.job_words.specs.declared.job.Job.{Job}
use Rattle.job_words.specs.declared.job.Job.TheVariants as job
use Rattle.written_replies.specs.declared.status.Status.{Status}
use Rattle.soundness.specs.Files.{IsRead}
use Rattle.soundness.specs.Replies.{OpenFile, State, MayBeRefused, IsRefusal, file_begun, IsReply, IsEndReply, AreReplies, IsWrittenTo}
use Rattle.soundness.proofs.PointLaws.{set_of}
use Rattle.soundness.proofs.FileReads.{nothing_behind}
use Rattle.soundness.proofs.FileSets.{of_file, closed_file}
use Rattle.soundness.proofs.TrueAnswers.{PolyLaws, ine_side, ext_side}
use Rattle.soundness.proofs.RefusalLines.{no_feed, fault_plain, overflow_plain}
use Rattle.polycalc.proofs.SoundValues.{named, named_put, AreKept, put_kept, after_kept}
use Rattle.polycalc.proofs.SoundCommands.{Laws, accepted_does}

-- ---- states
abbrev said_file : open_files.OpenFile → OpenFile
said_file file = record { name = file.name; ext = file.ext; text = file.text }

abbrev said_from : Table → Option open_files.OpenFile → State
said_from table file = record { names = named table; file = option_map said_file file }

abbrev said_state : calc.State → State
said_state s = said_from s.names s.file

same_state : (table names : Table) (file other : Option open_files.OpenFile) → table ≡ names → file ≡ other → said_from table file ≡ said_from names other
same_state table names file other e f = ap (λ (t : Table). said_from t file) e ∙ ap (said_from names) f

-- ---- refusals
refused : (f : Fault) → IsRefusal (reply_bytes (Refused f))
refused f = record { rest = decimal (fault_number f) ++ codes " " ++ fault_name f ++ place_text (fault_place f); one_line = no_feed _ (fault_plain f); said = inl refl }

overflown : (over : Overflow) → IsRefusal (reply_bytes (Overflows over))
overflown over = record {
  rest =
      kind_name over.kind ++ codes " step " ++ decimal over.step ++ codes " column " ++ decimal (over.column + 1)
      ++ codes " left " ++ row_text over.left ++ codes " right " ++ row_text over.right;
  one_line = no_feed _ (overflow_plain over);
  said = inr refl;
}

-- ---- files
-- the tests of the front of a list, and those behind it
none_front : (ts us : List Test) → NoneOf (ts ++ us) → NoneOf ts
none_front [] us h = tt
none_front (t ∷ ts) us h = (h.0, none_front ts us h.1)

none_back : (ts us : List Test) → NoneOf (ts ++ us) → NoneOf us
none_back [] us h = h
none_back (t ∷ ts) us h = none_back ts us h.1

read_file : (ext full : Bool) (bytes : List ℕ) (p : Polyhedron) → IsKept p → NoneOf (tests (format_of ext) bytes ++ open_files.no_room full ∷ []) → poly_files.IsOfFile (format_of ext) bytes p → IsRead ext bytes (set_of p)
read_file ext full bytes p kept passes h = of_file ext bytes p kept (none_front (tests (format_of ext) bytes) (open_files.no_room full ∷ []) passes) h

-- ---- a line
-- the reply to a line, and what is kept
record IsTrueStep (table : Table) (file : Option open_files.OpenFile) (text : List ℕ) (reply : Reply) (new : calc.State) : Type 0 where
  is : IsReply (said_from table file) text (reply_bytes reply) (said_state new)
  kept : AreKept new.names

unchanged : (table : Table) (file : Option open_files.OpenFile) (text : List ℕ) (reply : Reply) (new : calc.State) → AreKept table → MayBeRefused (option_map said_file file) text → IsRefusal (reply_bytes reply) → new.names ≡ table → new.file ≡ None → IsTrueStep table file text reply new
unchanged table file text reply new kept may refusal e f = record { is = inl (may, (refusal, same_state new.names table new.file None e f)); kept = subst AreKept (sym e) kept }

opens_said : (c : Command) → option_map said_file (opens c) ≡ file_begun c
opens_said (Read out ext) = refl
opens_said other = refl

performed : Laws → (table : Table) (text : List ℕ) (new : calc.State) (c : Command) (reply : Reply) → AreKept table → Spells text c → Performs table c reply new.names → new.file ≡ file_after c reply → IsTrueStep table None text reply new
performed laws table text new c (Answered lines) kept spelled p file = record {
  is = inr (record { command = c; spelled = laws.texts.spelled text c spelled; does = accepted_does table new.names lines kept laws c (told text c spelled) p; file = ap (option_map said_file) file ∙ opens_said c });
  kept = subst AreKept (sym p.table) (after_kept table p.change kept p.proper);
}
performed laws table text new c (Refused f) kept spelled p file = unchanged table None text (Refused f) new kept tt (refused f) p.1 file
performed laws table text new c (Overflows over) kept spelled p file = unchanged table None text (Overflows over) new kept tt (overflown over) p.2 file

ended : (table : Table) (file : open_files.OpenFile) (text : List ℕ) (new : calc.State) (reply : Reply) → AreKept table → IsEnd text → Reads table (open_files.with_line file text) reply new.names → new.file ≡ None → IsTrueStep table (Some file) text reply new
ended table file text new (Answered lines) kept ends r shut = record {
  is = inr (inr (record {
    ends = ends;
    makes = record {
      made = set_of r.polyhedron;
      is = read_file file.ext (has_no_room table file.name) (open_files.with_line file text).text r.polyhedron r.proper.kept r.passes r.set;
      names = ap named r.table ∙ named_put table file.name (entry.Poly r.polyhedron);
      said = r.lines_are;
    };
    shut = ap (option_map said_file) shut;
  }));
  kept = subst AreKept (sym r.table) (put_kept table file.name (entry.Poly r.polyhedron) kept r.proper);
}
ended table file text new (Refused f) kept ends r shut = unchanged table (Some file) text (Refused f) new kept ends (refused f) r.1 shut
ended table file text new (Overflows over) kept ends r shut = unchanged table (Some file) text (Overflows over) new kept ends (overflown over) r.2 shut

step_sound : Laws → (table : Table) (file : Option open_files.OpenFile) (text : List ℕ) (reply : Reply) (new : calc.State) → AreKept table → StepFrom table file text reply new → IsTrueStep table file text reply new
step_sound laws table None text reply new kept (inl a) = performed laws table text new a.command reply kept a.spelled a.performed a.file
step_sound laws table None text reply new kept (inr u) =
    unchanged table None text reply new kept tt (subst (λ (r : Reply). IsRefusal (reply_bytes r)) (sym u.shown) (refused u.fault)) (ap (λ (s : calc.State). s.names) u.unchanged) (ap (λ (s : calc.State). s.file) u.unchanged)
step_sound laws table (Some file) text reply new kept (inl a) = record {
  is = inr (inl (record { unended = a.unended; said = ap reply_bytes a.silent; state = ap said_state a.added }));
  kept = subst AreKept (sym (ap (λ (s : calc.State). s.names) a.added)) kept;
}
step_sound laws table (Some file) text reply new kept (inr e) = ended table file text new reply kept e.ends e.read e.shut

-- ---- all lines
end_sound : (file : Option open_files.OpenFile) → IsEndReply (option_map said_file file) (map reply_bytes (cut_off file))
end_sound None = refl
end_sound (Some file) = (reply_bytes (Refused fault.Truncated), refl, refused fault.Truncated)

run_sound : Laws → (old : calc.State) (texts : List (List ℕ)) (replies : List Reply) (new : calc.State) → AreKept old.names → Run old texts replies new → AreReplies (said_state old) texts (map reply_bytes (replies ++ at_end new))
run_sound laws old [] [] new kept run = subst (λ (s : calc.State). IsEndReply (option_map said_file old.file) (map reply_bytes (at_end s))) (sym run) (end_sound old.file)
run_sound laws old (text ∷ texts) (reply ∷ replies) new kept (mid, step, run) =
    let s = step_sound laws old.names old.file text reply mid kept step in
    (said_state mid, s.is, run_sound laws mid texts replies new s.kept run)
run_sound laws old [] (reply ∷ replies) new kept run = absurd run
run_sound laws old (text ∷ texts) [] new kept run = absurd run

all_bytes : (replies : List Reply) → replies_bytes replies ≡ concat (map reply_bytes replies)
all_bytes [] = refl
all_bytes (r ∷ replies) = ap (λ (rest : List ℕ). reply_bytes r ++ rest) (all_bytes replies)

pub script_sound : Laws → (script : List ℕ) (replies : List Reply) (new : calc.State) → Run (closed []) (lines script) replies new → IsWrittenTo script (replies_bytes (replies ++ at_end new))
script_sound laws script replies new run = record { replies = map reply_bytes (replies ++ at_end new); are = run_sound laws (closed []) (lines script) replies new tt run; all = all_bytes (replies ++ at_end new) }

-- ---- a file that is converted
converted : PolyLaws → (want : Format) (bytes text : List ℕ) → NoneOf (conversion_tests want bytes) → IsOtherFile want bytes text → IsTrueOf (job.Convert want) bytes text
converted laws Ine bytes text passes h =
    let read = of_file false bytes h.polyhedron h.of_file.kept (none_front (tests Ine bytes) (linearity_behind bytes ∷ []) passes) h.of_file.set in
    inr (record {
      set = set_of h.polyhedron;
      read = read;
      behind = nothing_behind false bytes read.marked (read.dim + 1) read.rows read.file (λ after. (none_back (tests Ine bytes) (linearity_behind bytes ∷ []) passes).0 fault.LinearityAfterEnd (refl, after));
      tells = ext_side laws h.polyhedron text h.of_file.kept (closed_file Ine bytes h.polyhedron h.of_file.set) h.fit h.written;
    })
converted laws Ext bytes text passes h =
    let read = of_file true bytes h.polyhedron h.of_file.kept (none_front (tests Ext bytes) (linearity_behind bytes ∷ []) passes) h.of_file.set in
    inr (record {
      set = set_of h.polyhedron;
      read = read;
      behind = nothing_behind true bytes read.marked (read.dim + 1) read.rows read.file (λ after. (none_back (tests Ext bytes) (linearity_behind bytes ∷ []) passes).0 fault.LinearityAfterEnd (refl, after));
      tells = ine_side h.polyhedron text h.of_file.kept (closed_file Ext bytes h.polyhedron h.of_file.set) h.fit h.written;
    })

refusal_of : (want : Format) (bytes written : List ℕ) → IsRefusal written → IsTrueOf (job.Convert want) bytes written
refusal_of Ine bytes written h = inl h
refusal_of Ext bytes written h = inl h

pub file_sound : Laws → (want : Format) (bytes : List ℕ) (reply : Reply) → ConvertsTo want bytes reply → IsTrueOf (job.Convert want) bytes (reply_bytes reply)
file_sound laws want bytes (Answered text) h = converted laws.poly want bytes text h.0 h.1
file_sound laws want bytes (Refused f) h = refusal_of want bytes (reply_bytes (Refused f)) (refused f)
file_sound laws want bytes (Overflows over) h = refusal_of want bytes (reply_bytes (Overflows over)) (overflown over)

-- ---- what is answered
pub answers_sound : Laws → (task : Job) (script before : List ℕ) (held : Option (List ℕ)) (status : Status) → IsAnswered task script before held status → IsSound task script before held
answers_sound laws job.Run script before held status a = record { written = replies_bytes (a.replies ++ at_end a.state); held_now = a.held_now; true_of = script_sound laws script a.replies a.state a.run }
answers_sound laws (job.Convert want) file before held status a = record { written = reply_bytes a.reply; held_now = a.held_now; true_of = file_sound laws want file a.reply a.converts }
answers_sound laws (job.Sample n) script before held status a = record { written = reply_bytes a.reply; held_now = a.held_now; true_of = tt }
