-- What stands under numbered names, and how many locations a system or an automaton has.
use Rattle.std.proofs.Common.{◌≡◌, ℕ, suc, ◌+◌, List, [], ◌∷◌, length, refl, ap, sym, ◌∙◌, subst, arith, Bool, true, false, cond}
use Rattle.std.specs.Prelude.{Option, Some, MatchBool, slice_get, ◌||◌}
use Rattle.std.specs.Str.{bytes_eq}
use Rattle.std.specs.Map.{keys_of}
use Rattle.std.proofs.lemmas.List.{length-set}
use Rattle.std.proofs.lemmas.Slice.Eq.{bytes_eq-Decides}
use Rattle.poly_pair.specs.Polyhedra.{Polyhedron}
use Rattle.trans_sys.specs.Systems.{TransitionSystem}
use Rattle.hybrid.specs.Systems.{HybridAutomaton}
use Rattle.script_text.specs.declared.command.LocationPart.{LocationPart}
use Rattle.script_text.specs.declared.command.LocationPart.TheVariants.{Invariant, Flow}
use Rattle.script_text.specs.declared.command.Command.TheVariants.{System, Init, Trans, Hybrid, SetPart}
use Rattle.calc_state.specs.declared.entry.Entry.{Entry}
use Rattle.calc_state.specs.declared.entry.Entry.TheVariants as entry
use Rattle.name_table.specs.Table.{entry_of, put, put_each, numbered}
use Rattle.calc_state.specs.Table.{Table, numbered_sets}
use Rattle.calc_state.specs.Parts.{with_part}
use Rattle.run_laws.specs.Acts.{Act, Did, Took}
use Rattle.run_laws.specs.Sets.{sets, locations_of, is_numbered, with_numbered, GivesSystem, GivesHybrid, GivesEntry, IsEntryOf}
use Rattle.run_laws.proofs.TableLaws.{entry_of-put, names-put}

-- ---- numbered names
-- what stands under the name is one of the sets, and the name is numbered as it
pub record AtNumber (prefix : List ℕ) (n : ℕ) (sets : List Polyhedron) (name : List ℕ) (o : Option Entry) : Type 0 where
  pub number : ℕ
  pub set : Polyhedron
  pub there : slice_get sets number ≡ Some set
  pub name_is : name ≡ numbered prefix (n + number)
  pub stands : o ≡ Some (entry.Poly set)

number_cases : (first later : Bool) (prefix : List ℕ) (n : ℕ) (p : Polyhedron) (sets : List Polyhedron) (name : List ℕ) (o u : Option Entry) → first ≡ bytes_eq name (numbered prefix n) →
    MatchBool later (AtNumber prefix (n + 1) sets name o) (o ≡ cond first (Some (entry.Poly p)) u) → MatchBool (first || later) (AtNumber prefix n (p ∷ sets) name o) (o ≡ u)
number_cases true true prefix n p sets name o u e h = record { number = suc h.number; set = h.set; there = h.there; name_is = h.name_is ∙ ap (numbered prefix) (omega arith); stands = h.stands }
number_cases false true prefix n p sets name o u e h = record { number = suc h.number; set = h.set; there = h.there; name_is = h.name_is ∙ ap (numbered prefix) (omega arith); stands = h.stands }
number_cases true false prefix n p sets name o u e h = record { number = 0; set = p; there = refl; name_is = (bytes_eq-Decides name (numbered prefix n)).0 (sym e) ∙ ap (numbered prefix) (omega arith); stands = h }
number_cases false false prefix n p sets name o u e h = h

-- under a numbered name stands its set, and under each other what stood there
pub entry_of-put_each : (sets : List Polyhedron) (table : Table) (prefix : List ℕ) (n : ℕ) (name : List ℕ) → MatchBool (is_numbered prefix n (length sets) name) (AtNumber prefix n sets name (entry_of (put_each table (numbered_sets prefix n sets)) name)) (entry_of (put_each table (numbered_sets prefix n sets)) name ≡ entry_of table name)
entry_of-put_each [] table prefix n name = refl
entry_of-put_each (p ∷ sets) table prefix n name =
    let now : Option Entry = entry_of (put_each (put table (numbered prefix n) (entry.Poly p)) (numbered_sets prefix (n + 1) sets)) name in
    number_cases (bytes_eq name (numbered prefix n)) (is_numbered prefix (n + 1) (length sets) name) prefix n p sets name now (entry_of table name) refl
    (subst (λ (u : Option Entry). MatchBool (is_numbered prefix (n + 1) (length sets) name) (AtNumber prefix (n + 1) sets name now) (now ≡ u)) (entry_of-put table (numbered prefix n) name (entry.Poly p))
    (entry_of-put_each sets (put table (numbered prefix n) (entry.Poly p)) prefix (n + 1) name))

pub names-put_each : (sets : List Polyhedron) (table : Table) (prefix : List ℕ) (n : ℕ) → keys_of (put_each table (numbered_sets prefix n sets)) ≡ with_numbered prefix n (length sets) (keys_of table)
names-put_each [] table prefix n = refl
names-put_each (p ∷ sets) table prefix n =
    names-put_each sets (put table (numbered prefix n) (entry.Poly p)) prefix (n + 1) ∙ ap (with_numbered prefix (n + 1) (length sets)) (names-put table (numbered prefix n) (entry.Poly p))

-- ---- locations
-- a system, or an automaton, has so many locations
abbrev pub HasLocations : ℕ → Entry → Type 0
HasLocations n (entry.System s) = n ≡ length s.initial
HasLocations n (entry.Hybrid h) = n ≡ length h.system.initial
HasLocations n other = Unit {0}

made_locations : (b : Bool) (locations others : ℕ) (Made Had : Type 0) (e : Entry) → (Made → HasLocations locations e) → (Had → HasLocations others e) → MatchBool b Made Had → HasLocations (cond b locations others) e
made_locations true locations others Made Had e made had h = made h
made_locations false locations others Made Had e made had h = had h

changed_locations : (b : Bool) (name out : List ℕ) (n : List ℕ → ℕ) (m : ℕ) (Made Had : Type 0) → b ≡ bytes_eq name out → (Made → n out ≡ m) → (Had → n name ≡ m) → MatchBool b Made Had → n name ≡ m
changed_locations true name out n m Made Had e made had h = ap n ((bytes_eq-Decides name out).0 (sym e)) ∙ made h
changed_locations false name out n m Made Had e made had h = had h

not_made : (b : Bool) (Made Had E : Type 0) → (Made → ⊥) → (Had → E) → MatchBool b Made Had → E
not_made true Made Had E made had h = absurd (made h)
not_made false Made Had E made had h = had h

-- of a new system
system_locations : (out : List ℕ) (n locations : ℕ) (Had : List ℕ → Entry → Type 0) (name : List ℕ) (e : Entry) → GivesEntry (System out n locations) Had name e → HasLocations locations e
system_locations out n locations Had name (entry.System s) h = sym h.is.as_many
system_locations out n locations Had name (entry.Hybrid k) h = absurd h
system_locations out n locations Had name other h = tt

-- of the automaton of a system
hybrid_locations : (out s : List ℕ) (Had : List ℕ → Entry → Type 0) (name : List ℕ) (count : ℕ) (e : Entry) → ((x : TransitionSystem) → Had s (entry.System x) → count ≡ length x.initial) → GivesEntry (Hybrid out s) Had name e → HasLocations count e
hybrid_locations out s Had name count (entry.System x) of h = absurd h
hybrid_locations out s Had name count (entry.Hybrid k) of h = of h.operand h.was ∙ ap (λ (x : TransitionSystem). length x.initial) (sym h.made.is.system)
hybrid_locations out s Had name count other of h = tt

-- a part of a location leaves the system as it is
same_system : (part : LocationPart) (h : HybridAutomaton) (location : ℕ) (p : Polyhedron) → (with_part part h location p).system ≡ h.system
same_system Invariant h location p = refl
same_system Flow h location p = refl

-- what is under a name has as many locations as it was made with
pub has_locations : (all : List Act) (name : List ℕ) (e : Entry) → IsEntryOf all name e → HasLocations (locations_of all name) e
has_locations [] name e h = absurd h
has_locations (Did (System out n locations) ∷ earlier) name e h =
    made_locations (bytes_eq name out) locations (locations_of earlier name) (GivesEntry (System out n locations) (IsEntryOf earlier) name e) (IsEntryOf earlier name e) e (system_locations out n locations (IsEntryOf earlier) name e) (has_locations earlier name e) h
has_locations (Did (Hybrid out s) ∷ earlier) name e h =
    made_locations (bytes_eq name out) (locations_of earlier s) (locations_of earlier name) (GivesEntry (Hybrid out s) (IsEntryOf earlier) name e) (IsEntryOf earlier name e) e
    (hybrid_locations out s (IsEntryOf earlier) name (locations_of earlier s) e (λ x had. has_locations earlier s (entry.System x) had)) (has_locations earlier name e) h
has_locations (Did (Init out location p) ∷ earlier) name (entry.System s) h =
    changed_locations (bytes_eq name out) name out (locations_of earlier) (length s.initial) (GivesSystem (Init out location p) (IsEntryOf earlier) s) (IsEntryOf earlier name (entry.System s)) refl
    (λ m. has_locations earlier out (entry.System m.old) m.was ∙ sym (length-set m.old.initial location m.part) ∙ ap (λ (t : TransitionSystem). length t.initial) (sym m.made.is)) (has_locations earlier name (entry.System s)) h
has_locations (Did (Trans out source target r) ∷ earlier) name (entry.System s) h =
    changed_locations (bytes_eq name out) name out (locations_of earlier) (length s.initial) (GivesSystem (Trans out source target r) (IsEntryOf earlier) s) (IsEntryOf earlier name (entry.System s)) refl
    (λ m. has_locations earlier out (entry.System m.old) m.was ∙ ap (λ (t : TransitionSystem). length t.initial) (sym m.made.is)) (has_locations earlier name (entry.System s)) h
has_locations (Did (SetPart part out location p) ∷ earlier) name (entry.Hybrid k) h =
    changed_locations (bytes_eq name out) name out (locations_of earlier) (length k.system.initial) (GivesHybrid (SetPart part out location p) (IsEntryOf earlier) k) (IsEntryOf earlier name (entry.Hybrid k)) refl
    (λ m. has_locations earlier out (entry.Hybrid m.old) m.was ∙ ap (λ (t : TransitionSystem). length t.initial) (sym (ap (λ (x : HybridAutomaton). x.system) m.made.is ∙ same_system part m.old location m.part))) (has_locations earlier name (entry.Hybrid k)) h
has_locations (Did c ∷ earlier) name (entry.System s) h = not_made (sets earlier c name) (GivesSystem c (IsEntryOf earlier) s) (IsEntryOf earlier name (entry.System s)) (locations_of (Did c ∷ earlier) name ≡ length s.initial) (λ m. m) (has_locations earlier name (entry.System s)) h
has_locations (Did c ∷ earlier) name (entry.Hybrid k) h = not_made (sets earlier c name) (GivesHybrid c (IsEntryOf earlier) k) (IsEntryOf earlier name (entry.Hybrid k)) (locations_of (Did c ∷ earlier) name ≡ length k.system.initial) (λ m. m) (has_locations earlier name (entry.Hybrid k)) h
has_locations (Took file ∷ earlier) name (entry.System s) h = not_made (bytes_eq name file.name) ⊥ (IsEntryOf earlier name (entry.System s)) (locations_of earlier name ≡ length s.initial) (λ m. m) (has_locations earlier name (entry.System s)) h
has_locations (Took file ∷ earlier) name (entry.Hybrid k) h = not_made (bytes_eq name file.name) ⊥ (IsEntryOf earlier name (entry.Hybrid k)) (locations_of earlier name ≡ length k.system.initial) (λ m. m) (has_locations earlier name (entry.Hybrid k)) h
has_locations (act ∷ earlier) name other h = tt
