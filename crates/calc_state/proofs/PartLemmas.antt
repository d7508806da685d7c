-- What came of a change of a part of an entry.
use Rattle.std.proofs.Common.{◌≡◌, ◌∙◌, ◌↔◌, ℕ, ◌≤◌, List, [], ◌∷◌, Ok, Err, Result, Option, None, Some, refl, sym, subst, inl, inr}
use Rattle.std.specs.Prelude.{IsSome}
use Rattle.poly_pair.specs.Polyhedra.{Polyhedron}
use Rattle.command_tasks.specs.declared.tasks.PartTask.{PartTask}
use Rattle.calc_state.specs.declared.entry.Entry.{Entry}
use Rattle.calc_state.specs.declared.entry.Entry.TheVariants as entry
use Rattle.line_values.specs.declared.change.Change.TheVariants.{Puts}
use Rattle.line_values.specs.declared.refusal.StepErr.{StepErr}
use Rattle.line_values.specs.declared.refusal.StepErr.TheVariants as err
use Rattle.calc_state.specs.declared.parts.PartChange.{PartChange}
use Rattle.name_table.specs.Table.{entry_of}
use Rattle.calc_state.specs.Table.{Table, as_system, as_hybrid, Change}
use Rattle.line_values.specs.Order.{order, IsFirstOf, NoneOf, IsFirst}
use Rattle.line_values.specs.Meaning.{Meaning, no_overflow, on_one}
use Rattle.line_values.specs.Performed.{IsPerformed}
use Rattle.reply_text.specs.declared.faults.Fault.{Fault}
use Rattle.reply_text.specs.declared.faults.Fault.TheVariants as fault
use Rattle.calc_state.specs.Parts.{misfits, as_part}
use Rattle.calc_state.specs.Meanings.{changed_part_of}
use Rattle.calc_state.specs.Step.{IsDone}
use Rattle.calc_state.specs.Changes.{changed_part, FitsPart, as_entry, Makes, IsTested, IsChanged}

-- ---- one entry
abbrev some_entry : Entry → Option Entry
some_entry e = Some e

pub same_entry : (found : Option Entry) (e f : Entry) → found ≡ Some e → found ≡ Some f → e ≡ f
same_entry found e f is are =
    let same : some_entry e ≡ some_entry f = sym is ∙ are in
    cc

-- an entry was found
pub is_there : (m : Meaning Change) (found : Option Entry) (name : List ℕ) (change : PartChange) → Makes m found name change → IsSome found
is_there m found name change makes = subst IsSome (sym makes.is_found) refl

-- the change fits whatever entry was found
pub fits_found : (m : Meaning Change) (found : Option Entry) (name : List ℕ) (change : PartChange) → Makes m found name change → (e : Entry) → found ≡ Some e → FitsPart e change
fits_found m found name change makes e is = subst (λ (f : Entry). FitsPart f change) (same_entry found makes.old e makes.is_found is) makes.fits

-- what a look-up of a kind finds stands there
pub system_found : (o : Option Entry) (e : Entry) → as_entry entry.System (as_system o) ≡ Some e → o ≡ Some e
system_found (Some (entry.System s)) e is = is
system_found (Some (entry.Poly p)) e is = let none : None ≡ some_entry e = is in cc
system_found (Some (entry.Powerset u)) e is = let none : None ≡ some_entry e = is in cc
system_found (Some (entry.Shape s)) e is = let none : None ≡ some_entry e = is in cc
system_found (Some (entry.Hybrid h)) e is = let none : None ≡ some_entry e = is in cc
system_found None e is = let none : None ≡ some_entry e = is in cc

pub hybrid_found : (o : Option Entry) (e : Entry) → as_entry entry.Hybrid (as_hybrid o) ≡ Some e → o ≡ Some e
hybrid_found (Some (entry.Hybrid h)) e is = is
hybrid_found (Some (entry.Poly p)) e is = let none : None ≡ some_entry e = is in cc
hybrid_found (Some (entry.System s)) e is = let none : None ≡ some_entry e = is in cc
hybrid_found (Some (entry.Powerset u)) e is = let none : None ≡ some_entry e = is in cc
hybrid_found (Some (entry.Shape s)) e is = let none : None ≡ some_entry e = is in cc
hybrid_found None e is = let none : None ≡ some_entry e = is in cc

-- ---- tests
-- what came of the tests, of the operands that the table has: a change that fits what a look-up of a kind found fits the entry under its name
module _ {A : Type 0} (make : A → Entry) (kind : Option Entry → Option A) (stands : (o : Option Entry) (e : Entry) → as_entry make (kind o) ≡ Some e → o ≡ Some e) (table : Table) (name : List ℕ) where
  found_tested : (m : Meaning Change) (found : Option A) (change : PartChange) → found ≡ kind (entry_of table name) → Makes m (as_entry make found) name change → Makes m (entry_of table name) name change
  found_tested m found change e t =
      record { old = t.old; is_found = stands (entry_of table name) t.old (subst (λ (u : Option A). as_entry make u ≡ Some t.old) e t.is_found); fits = t.fits; passes = t.passes; does = t.does }

  pub changes_part : (means : A → Polyhedron → Meaning Change) (result : Result PartChange StepErr) {found : Option A} {p q : Option Polyhedron} → found ≡ kind (entry_of table name) → p ≡ q →
      IsTested (on_one found (λ s. on_one p (means s))) (as_entry make found) name result → IsTested (on_one (kind (entry_of table name)) (λ s. on_one q (means s))) (entry_of table name) name result
  changes_part means (Ok change) {found} {p} {q} e f t =
      subst (λ (r : Option Polyhedron). Makes (on_one (kind (entry_of table name)) (λ s. on_one r (means s))) (entry_of table name) name change) f
      (subst (λ (u : Option A). Makes (on_one u (λ s. on_one p (means s))) (entry_of table name) name change) e (found_tested (on_one found (λ s. on_one p (means s))) found change e t))
  changes_part means (Err (err.Input fault)) {found} {p} {q} e f t =
      subst (λ (r : Option Polyhedron). IsFirst (on_one (kind (entry_of table name)) (λ s. on_one r (means s))).conditions fault) f (subst (λ (u : Option A). IsFirst (on_one u (λ s. on_one p (means s))).conditions fault) e t)
  changes_part means (Err (err.Overflow over)) {found} {p} {q} e f t = absurd t
  changes_part means (Err err.Memory) {found} {p} {q} e f t = tt

-- the conditions of a part, of which a location is outside by one statement or by another
module _ (dim : ℕ) (Outside Beyond : Type 0) (same : Outside ↔ Beyond) (p : Polyhedron) where
  as_well : (f : Fault) → misfits dim p Outside f ↔ misfits dim p Beyond f
  as_well fault.NotClosed = (λ x. x, λ x. x)
  as_well fault.DimMismatch = (λ x. x, λ x. x)
  as_well fault.OutOfRange = same
  as_well f = (λ x. x, λ x. x)

  first_as_well : (fs : List Fault) (f : Fault) → IsFirstOf fs (misfits dim p Outside) f → IsFirstOf fs (misfits dim p Beyond) f
  first_as_well [] f is = is
  first_as_well (x ∷ fs) f (inl is) = inl ((as_well x).0 is.0, is.1)
  first_as_well (x ∷ fs) f (inr is) = inr (λ h. is.0 ((as_well x).1 h), first_as_well fs f is.1)

  none_as_well : (fs : List Fault) → NoneOf fs (misfits dim p Outside) → NoneOf fs (misfits dim p Beyond)
  none_as_well [] is = is
  none_as_well (x ∷ fs) is = (λ h. is.0 ((as_well x).1 h), none_as_well fs is.1)

-- so many locations
pub as_many : (location : ℕ) {count locations : ℕ} → count ≡ locations → (count ≤ location) ↔ (locations ≤ location)
as_many location e = (subst (λ (k : ℕ). k ≤ location) e, subst (λ (k : ℕ). k ≤ location) (sym e))

-- what came of the tests of a task, from those of the set that is to be a part
module _ {told dim : ℕ} (dim_is : told ≡ dim) {Outside Beyond : Type 0} (same : Outside ↔ Beyond) (name : List ℕ) (does : Polyhedron → Change → Type 0) (o : Option Polyhedron) where
  abbrev means : Polyhedron → Meaning Change
  means p = record { conditions = misfits dim p Beyond; overflows = no_overflow; does = does p }

  refused_by : (found : Option Entry) (u : Option Polyhedron) (cause : StepErr) → IsPerformed (on_one u (as_part dim Outside)) (Err cause) → IsTested (on_one u means) found name (Err cause)
  refused_by found None (err.Input f) is = is
  refused_by found None (err.Overflow over) is = absurd is.1
  refused_by found None err.Memory is = tt
  refused_by found (Some p) (err.Input f) is = first_as_well dim Outside Beyond same p order f is
  refused_by found (Some p) (err.Overflow over) is = absurd is.1
  refused_by found (Some p) err.Memory is = tt

  pub part_refused : (found : Option Entry) (cause : StepErr) → IsPerformed (on_one o (as_part told Outside)) (Err cause) → IsTested (on_one o means) found name (Err cause)
  part_refused found cause is = refused_by found o cause (subst (λ (d : ℕ). IsPerformed (on_one o (as_part d Outside)) (Err cause)) dim_is is)

  made_by : (old : Entry) (copy : Polyhedron) (change : PartChange) (u : Option Polyhedron) → IsPerformed (on_one u (as_part dim Outside)) (Ok copy) → FitsPart old change → does copy (Puts name (changed_part old change)) → Makes (on_one u means) (Some old) name change
  made_by old copy change None is fits made = absurd is.1
  made_by old copy change (Some p) is fits made = record { old = old; is_found = refl; fits = fits; passes = none_as_well dim Outside Beyond same p order is.0; does = subst (λ (q : Polyhedron). does q (Puts name (changed_part old change))) is.1 made }

  pub part_made : (old : Entry) (copy : Polyhedron) (change : PartChange) → IsPerformed (on_one o (as_part told Outside)) (Ok copy) → FitsPart old change → does copy (Puts name (changed_part old change)) → IsTested (on_one o means) (Some old) name (Ok change)
  part_made old copy change is fits made = made_by old copy change o (subst (λ (d : ℕ). IsPerformed (on_one o (as_part d Outside)) (Ok copy)) dim_is is) fits made

-- what came of the tests of a task that is this one
pub tested_as : (table : Table) (name : List ℕ) (what spelled : PartTask) (result : Result PartChange StepErr) → what ≡ spelled → IsTested (changed_part_of table name spelled) (entry_of table name) name result → IsTested (changed_part_of table name what) (entry_of table name) name result
tested_as table name what spelled result e is = subst (λ (t : PartTask). IsTested (changed_part_of table name t) (entry_of table name) name result) (sym e) is

-- ---- what was given
-- a change that passed its tests was made, or memory ran out
pub change_done : (m : Meaning Change) (name : List ℕ) (change : PartChange) (old new : Table) (result : Result (List ℕ) StepErr) → Makes m (entry_of old name) name change → IsChanged name change old result new → IsDone m old result new
change_done m name change old new (Ok lines) makes is =
    let there = is.1 makes.old makes.is_found in
    record { passes = makes.passes; change = Puts name (changed_part makes.old change); does = makes.does; proper = there.1; lines_are = is.0; table = there.0 }
change_done m name change old new (Err (err.Input fault)) makes is = absurd is
change_done m name change old new (Err (err.Overflow over)) makes is = absurd is
change_done m name change old new (Err err.Memory) makes is = is

-- a test wasn't passed, and the table is as before
pub change_refused : (m : Meaning Change) (found : Option Entry) (name : List ℕ) (cause : StepErr) (old new : Table) → new ≡ old → IsTested m found name (Err cause) → IsDone m old (Err cause) new
change_refused m found name (err.Input fault) old new same is = (is, same)
change_refused m found name (err.Overflow over) old new same is = absurd is
change_refused m found name err.Memory old new same is = same
