-- What the entries of a table stand for.
use Rattle.std.proofs.Common.{◌≡◌, ℕ, ◌+◌, suc, List, [], ◌∷◌, ◌++◌, map, length, refl, ap, ◌∙◌, subst, Bool, true, false, cond, All}
use Rattle.std.specs.Prelude.{Option, Some, decimal}
use Rattle.std.proofs.lemmas.List.Elements.{All-head, All-tail}
use Rattle.std.specs.Option.{option_map}
use Rattle.std.specs.Str.{bytes_eq}
use Rattle.std.specs.Map.{keys_of}
use Rattle.poly_pair.specs.Polyhedra.{Polyhedron}
use Rattle.trans_sys.specs.Systems as trans
use Rattle.trans_sys.specs.declared.transition.Transition as declared
use Rattle.powerset.specs.Powersets.{FinitePowerset}
use Rattle.hybrid.specs.Systems as hybrid
use Rattle.name_table.specs.Table.{entry_of, put, put_each, without, numbered_entries}
use Rattle.line_values.specs.declared.change.Change.TheVariants.{Says, Puts, PutsAll, TakesOut}
use Rattle.line_values.specs.Proper.{IsProper}
use Rattle.calc_state.specs.declared.entry.Entry.{Entry}
use Rattle.calc_state.specs.declared.entry.Entry.TheVariants as entry
use Rattle.calc_state.specs.Entries.{IsKeptEntry}
use Rattle.calc_state.specs.Table.{Table, Change, numbered_sets}
use Rattle.calc_state.specs.Step.{PutsProper, after}
use Rattle.calc_state.proofs.EntryKinds.{same_entry}
use Rattle.soundness.specs.Values.{Transition, TransitionSystem, HybridAutomaton, Powerset, Value, Polyhedron as PolyhedronOf, System, Union, Shape, Automaton, Names}
use Rattle.soundness.proofs.PointLaws.{is_nnc, set_of}
use Rattle.soundness.proofs.ShapeSets.{shape_set}

-- ---- values
abbrev pub transition_of : declared.Transition → Transition
transition_of t = record { source = t.source; target = t.target; relation = set_of t.relation }

abbrev pub system_of : trans.TransitionSystem → TransitionSystem
system_of s = record { dim = s.dim; initial = map set_of s.initial; transitions = map transition_of s.transitions }

abbrev pub automaton_of : hybrid.HybridAutomaton → HybridAutomaton
automaton_of h = record { system = system_of h.system; invariants = map set_of h.invariants; flows = map set_of h.flows }

abbrev pub powerset_of : FinitePowerset → Powerset
powerset_of u = record { nnc = is_nnc u.topology; dim = u.dim; members = map set_of u.members }

abbrev pub value_of : Entry → Value
value_of (entry.Poly p) = PolyhedronOf (set_of p)
value_of (entry.System s) = System (system_of s)
value_of (entry.Powerset u) = Union (powerset_of u)
value_of (entry.Shape s) = Shape (shape_set s)
value_of (entry.Hybrid h) = Automaton (automaton_of h)

abbrev pub named : Table → Names
named [] = []
named (e ∷ table) = (e.0, value_of e.1) ∷ named table

-- ---- tables
entry_choice : (b : Bool) (e : Entry) (rest : Option Value) (o : Option Entry) → rest ≡ option_map value_of o → cond b (Some (value_of e)) rest ≡ option_map value_of (cond b (Some e) o)
entry_choice true e rest o h = refl
entry_choice false e rest o h = h

entry_named : (table : Table) (name : List ℕ) → entry_of (named table) name ≡ option_map value_of (entry_of table name)
entry_named [] name = refl
entry_named (e ∷ table) name = entry_choice (bytes_eq name e.0) e.1 (entry_of (named table) name) (entry_of table name) (entry_named table name)

-- the value under a name is that of its entry
pub stands : (table : Table) (name : List ℕ) (e : Entry) → entry_of table name ≡ Some e → entry_of (named table) name ≡ Some (value_of e)
stands table name e h = entry_named table name ∙ ap (option_map value_of) h

put_choice : (b : Bool) (k : List ℕ) (new v : Entry) (table changed : Table) (rest : Names) → named changed ≡ rest →
    named (cond b ((k, new) ∷ table) ((k, v) ∷ changed)) ≡ cond b ((k, value_of new) ∷ named table) ((k, value_of v) ∷ rest)
put_choice true k new v table changed rest h = refl
put_choice false k new v table changed rest h = ap (λ (x : Names). (k, value_of v) ∷ x) h

pub named_put : (table : Table) (name : List ℕ) (e : Entry) → named (put table name e) ≡ put (named table) name (value_of e)
named_put [] name new = refl
named_put (e ∷ table) name new = put_choice (bytes_eq name e.0) e.0 new e.1 table (put table name new) (put (named table) name (value_of new)) (named_put table name new)

without_choice : (b : Bool) (k : List ℕ) (v : Entry) (table changed : Table) (rest : Names) → named changed ≡ rest →
    named (cond b table ((k, v) ∷ changed)) ≡ cond b (named table) ((k, value_of v) ∷ rest)
without_choice true k v table changed rest h = refl
without_choice false k v table changed rest h = ap (λ (x : Names). (k, value_of v) ∷ x) h

pub named_without : (table : Table) (name : List ℕ) → named (without table name) ≡ without (named table) name
named_without [] name = refl
named_without (e ∷ table) name = without_choice (bytes_eq name e.0) e.0 e.1 table (without table name) (without (named table) name) (named_without table name)

pub named_put_each : (table entries : Table) → named (put_each table entries) ≡ put_each (named table) (named entries)
named_put_each table [] = refl
named_put_each table (e ∷ entries) = named_put_each (put table e.0 e.1) entries ∙ ap (λ (x : Names). put_each x (named entries)) (named_put table e.0 e.1)

pub named_numbered : (prefix : List ℕ) (n : ℕ) (sets : List Polyhedron) → named (numbered_sets prefix n sets) ≡ numbered_entries prefix n (map PolyhedronOf (map set_of sets))
named_numbered prefix n [] = refl
named_numbered prefix n (p ∷ sets) = ap (λ (x : Names). (prefix ++ decimal n, PolyhedronOf (set_of p)) ∷ x) (named_numbered prefix (n + 1) sets)

pub named_keys : (table : Table) → keys_of (named table) ≡ keys_of table
named_keys [] = refl
named_keys (e ∷ table) = ap (λ (x : List (List ℕ)). e.0 ∷ x) (named_keys table)

pub named_length : (table : Table) → length (named table) ≡ length table
named_length [] = refl
named_length (e ∷ table) = ap suc (named_length table)

-- ---- what a table keeps
abbrev pub AreKept : Table → Type 0
AreKept [] = Unit {0}
AreKept (e ∷ table) = IsKeptEntry e.1 × AreKept table

kept_choice : (b : Bool) (e x : Entry) (o : Option Entry) → IsKeptEntry e → (o ≡ Some x → IsKeptEntry x) → cond b (Some e) o ≡ Some x → IsKeptEntry x
kept_choice true e x o kept rest h = subst IsKeptEntry (same_entry e x h) kept
kept_choice false e x o kept rest h = rest h

pub kept_at : (table : Table) (name : List ℕ) (x : Entry) → AreKept table → entry_of table name ≡ Some x → IsKeptEntry x
kept_at [] name x kept h = cc
kept_at (e ∷ table) name x kept h = kept_choice (bytes_eq name e.0) e.1 x (entry_of table name) kept.0 (kept_at table name x kept.1) h

put_kept_choice : (b : Bool) (k : List ℕ) (new v : Entry) (table changed : Table) → IsKeptEntry new → IsKeptEntry v → AreKept table → AreKept changed → AreKept (cond b ((k, new) ∷ table) ((k, v) ∷ changed))
put_kept_choice true k new v table changed n w t c = (n, t)
put_kept_choice false k new v table changed n w t c = (w, c)

pub put_kept : (table : Table) (name : List ℕ) (e : Entry) → AreKept table → IsKeptEntry e → AreKept (put table name e)
put_kept [] name new kept is = (is, tt)
put_kept (e ∷ table) name new kept is = put_kept_choice (bytes_eq name e.0) e.0 new e.1 table (put table name new) is kept.0 kept.1 (put_kept table name new kept.1 is)

without_kept_choice : (b : Bool) (k : List ℕ) (v : Entry) (table changed : Table) → IsKeptEntry v → AreKept table → AreKept changed → AreKept (cond b table ((k, v) ∷ changed))
without_kept_choice true k v table changed w t c = t
without_kept_choice false k v table changed w t c = (w, c)

without_kept : (table : Table) (name : List ℕ) → AreKept table → AreKept (without table name)
without_kept [] name kept = kept
without_kept (e ∷ table) name kept = without_kept_choice (bytes_eq name e.0) e.0 e.1 table (without table name) kept.0 kept.1 (without_kept table name kept.1)

put_each_kept : (table entries : Table) → AreKept table → AreKept entries → AreKept (put_each table entries)
put_each_kept table [] kept each = kept
put_each_kept table (e ∷ entries) kept each = put_each_kept (put table e.0 e.1) entries (put_kept table e.0 e.1 kept each.0) each.1

numbered_kept : (prefix : List ℕ) (n : ℕ) (sets : List Polyhedron) → All IsProper sets → AreKept (numbered_sets prefix n sets)
numbered_kept prefix n [] each = tt
numbered_kept prefix n (p ∷ sets) each = (All-head IsProper p sets each, numbered_kept prefix (n + 1) sets (All-tail IsProper p sets each))

-- a change leaves what is kept
pub after_kept : (table : Table) (change : Change) → AreKept table → PutsProper change → AreKept (after table change)
after_kept table (Says text) kept proper = kept
after_kept table (Puts name e) kept proper = put_kept table name e kept proper
after_kept table (PutsAll prefix sets) kept proper = put_each_kept table (numbered_sets prefix 0 sets.items) kept (numbered_kept prefix 0 sets.items proper)
after_kept table (TakesOut name) kept proper = without_kept table name kept
