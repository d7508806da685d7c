-- What came of the commands that read the constraints or generators of a text.
use Rattle.std.proofs.Common.{◌≡◌, ℕ, ◌<◌, ◌≤◌, List, ◌++◌, Err, Ok, Result, IsErrAnd, MatchResult, IsTrue, Bool, ◌↔◌, refl, subst, inl, inr, arith}
use Rattle.row_core.specs.Lists.{Row}
use Rattle.row_core.specs.declared.errors.Overflow.{Overflow}
use Rattle.row_core.specs.declared.errors.ConvErr.{ConvErr}
use Rattle.row_core.specs.declared.errors.ConvErr.TheVariants as conversion
use Rattle.cons_sys.specs.Constraints.{Constraints}
use Rattle.gens_sys.specs.Generators.{Generator, Generators}
use Rattle.stored_systems.specs.WorkLists.{LeavesOn}
use Rattle.poly_pair.specs.Polyhedra.{Polyhedron, IsKept}
use Rattle.poly_pair.specs.Additions.{with_constraints, with_generators, AddsNoPoint}
use Rattle.poly_pair.proofs.AddedPoints.{lacks_added}
use Rattle.poly_pair.specs.FirstLists.{LacksPoint}
use Rattle.poly_pair.specs.TopologyLists.{list_width, constraints_of, generators_of}
use Rattle.poly_pair.specs.Refusals.{IsOverflowOn, IsGenOverflowOn}
use Rattle.poly_pair.specs.declared.errors.GenErr.{GenErr}
use Rattle.poly_pair.specs.declared.errors.GenErr.TheVariants as generators
use Rattle.poly_pair.specs.declared.topology.Topology.{Topology}
use Rattle.poly_pair.specs.declared.topology.TheConstants.{MAX_DIM}
use Rattle.reply_text.specs.declared.faults.Fault.TheVariants.{NoPoint, TooManyNames}
use Rattle.expr_text.specs.OneAnswer.{GensHasOneAnswer}
use Rattle.script_text.specs.declared.command.Part.{Part}
use Rattle.line_values.specs.declared.refusal.StepErr.{StepErr}
use Rattle.line_values.specs.Order.{NoneOf, IsFirst, Passes}
use Rattle.line_values.specs.Refusals.{refusal_of_conversion, refusal_of_generators}
use Rattle.line_values.specs.Texts.{constraints_fault, generators_fault, IsTextRefusal, ReadsConstraints, ReadsGenerators, SaysGenerators}
use Rattle.poly_makers.specs.Results.{IsResultOfConstraints, IsResultOfGenerators}
use Rattle.line_values.specs.Meaning.{Meaning}
use Rattle.poly_makers.specs.Makers.{cons, gens, add, addgen}
use Rattle.line_values.specs.Overflows.{LeavesOnGenerators}
use Rattle.line_values.specs.Performed.{IsPerformed}
use Rattle.line_values.proofs.FaultOrder.{early, refused_by_text, refused_late, all_pass}

-- ---- conversions
-- the conversion of a list was refused
pub overflown : {A : Type 0} (m : Meaning A) (width column : ℕ) (list : List Row) (cause : ConvErr) → Passes m.conditions → ((over : Overflow) → LeavesOn width column list over → m.overflows over) → IsOverflowOn width column list cause → IsPerformed m (Err (refusal_of_conversion cause))
overflown m width column list (conversion.Overflow over) passes shown is = (passes, shown over is)
overflown m width column list conversion.Memory passes shown is = tt

-- what came of arithmetic, whose refusal is turned into the line's
pub turned : {A C : Type 0} (m : Meaning A) (refusal : C → StepErr) (Is : Result A C → Type 0) (came : Result A C) (result : Result A StepErr) → MatchResult came (λ x. result ≡ Ok x) (λ e. IsErrAnd result (λ d. d ≡ refusal e)) → Is came → ((x : A) → Is (Ok x) → IsPerformed m (Ok x)) → ((e : C) → Is (Err e) → IsPerformed m (Err (refusal e))) → IsPerformed m result
turned m refusal Is (Ok x) result same is makes refuses = rw same (makes x is)
turned m refusal Is (Err e) (Err d) same is makes refuses = rw same (refuses e is)
turned m refusal Is (Err e) (Ok x) same is makes refuses = absurd same

-- what came of generators that are converted
abbrev pub made : Polyhedron → Result Polyhedron GenErr
made p = Ok p

abbrev pub unmade : GenErr → Result Polyhedron GenErr
unmade cause = Err cause

made_has_point : (p : Polyhedron) (P : Type 0) → (made p ≡ unmade generators.NoPoint) ↔ P → ¬ P
made_has_point p P is h = let never : made p ≡ unmade generators.NoPoint = is.1 h in cc

-- ---- cons
cons_early : (full : Bool) (t : Topology) (n : ℕ) (part : Part) → n ≤ MAX_DIM → NoneOf early (cons full t n part).conditions
cons_early full t n part small = (λ k. k, (λ k. k, (λ k. k, (λ k. k, (λ (k : MAX_DIM < n). absurd (omega arith), tt)))))

pub cons_full : (full : Bool) (t : Topology) (n : ℕ) (part : Part) (system : Constraints) → n ≤ MAX_DIM → ReadsConstraints t n part system → IsTrue full → IsFirst (cons full t n part).conditions TooManyNames
cons_full full t n part system small read none =
    refused_late (cons full t n part).conditions TooManyNames (cons_early full t n part small) read.faultless (inr (λ k. k, inl (none, refl)))

cons_passes : (full : Bool) (t : Topology) (n : ℕ) (part : Part) (system : Constraints) → n ≤ MAX_DIM → ReadsConstraints t n part system → ¬ (IsTrue full) → Passes (cons full t n part).conditions
cons_passes full t n part system small read room =
    all_pass (cons full t n part).conditions (cons_early full t n part small) read.faultless (λ k. k, (room, (λ k. k, tt)))

pub cons_made : (full : Bool) (t : Topology) (n : ℕ) (part : Part) (system : Constraints) (p : Polyhedron) → n ≤ MAX_DIM → ReadsConstraints t n part system → ¬ (IsTrue full) → IsResultOfConstraints t system p → IsPerformed (cons full t n part) (Ok p)
cons_made full t n part system p small read room is =
    (cons_passes full t n part system small read room, record { system = system; read = read.read; holds = is })

pub cons_leaves : (full : Bool) (t : Topology) (n : ℕ) (part : Part) (system : Constraints) (cause : ConvErr) → n ≤ MAX_DIM → ReadsConstraints t n part system → ¬ (IsTrue full) → IsOverflowOn (list_width t system.dim) system.dim (constraints_of t system) cause → IsPerformed (cons full t n part) (Err (refusal_of_conversion cause))
cons_leaves full t n part system cause small read room is =
    overflown (cons full t n part) (list_width t system.dim) system.dim (constraints_of t system) cause (cons_passes full t n part system small read room) (λ over leaves. record { system = system; read = read.read; holds = leaves }) is

-- ---- gens
gens_early : (full : Bool) (t : Topology) (n : ℕ) (part : Part) → n ≤ MAX_DIM → NoneOf early (gens full t n part).conditions
gens_early full t n part small = (λ k. k, (λ k. k, (λ k. k, (λ k. k, (λ (k : MAX_DIM < n). absurd (omega arith), tt)))))

pub gens_refused : (full : Bool) (t : Topology) (n : ℕ) (part : Part) (e : StepErr) → n ≤ MAX_DIM → IsTextRefusal (generators_fault t n part) e → IsPerformed (gens full t n part) (Err e)
gens_refused full t n part e small is = refused_by_text (gens full t n part) e (gens_early full t n part small) is

pub gens_lack : (full : Bool) (t : Topology) (n : ℕ) (part : Part) (system : Generators) → n ≤ MAX_DIM → ReadsGenerators t n part system → LacksPoint system.list → IsFirst (gens full t n part).conditions NoPoint
gens_lack full t n part system small read lacks =
    refused_late (gens full t n part).conditions NoPoint (gens_early full t n part small) read.faultless (inl (record { system = system; read = read.read; holds = lacks }, refl))

-- no other system is said
none_lacks : (t : Topology) (n : ℕ) (part : Part) (system : Generators) (P : Generators → Type 0) → GensHasOneAnswer → ReadsGenerators t n part system → ¬ (P system) → ¬ (SaysGenerators n part P)
none_lacks t n part system P law read lacks k = lacks (subst P ((law n part.text).one_value k.system system k.read read.read) k.holds)

pub gens_full : (full : Bool) (t : Topology) (n : ℕ) (part : Part) (system : Generators) → GensHasOneAnswer → n ≤ MAX_DIM → ReadsGenerators t n part system → ¬ (LacksPoint system.list) → IsTrue full → IsFirst (gens full t n part).conditions TooManyNames
gens_full full t n part system law small read has none =
    refused_late (gens full t n part).conditions TooManyNames (gens_early full t n part small) read.faultless (inr (none_lacks t n part system (λ (gs : Generators). LacksPoint gs.list) law read has, inl (none, refl)))

gens_passes : (full : Bool) (t : Topology) (n : ℕ) (part : Part) (system : Generators) → GensHasOneAnswer → n ≤ MAX_DIM → ReadsGenerators t n part system → ¬ (LacksPoint system.list) → ¬ (IsTrue full) → Passes (gens full t n part).conditions
gens_passes full t n part system law small read has room =
    all_pass (gens full t n part).conditions (gens_early full t n part small) read.faultless (none_lacks t n part system (λ (gs : Generators). LacksPoint gs.list) law read has, (room, (λ k. k, tt)))

pub gens_made : (full : Bool) (t : Topology) (n : ℕ) (part : Part) (system : Generators) (p : Polyhedron) → GensHasOneAnswer → n ≤ MAX_DIM → ReadsGenerators t n part system → ¬ (LacksPoint system.list) → ¬ (IsTrue full) → IsResultOfGenerators t system p → IsPerformed (gens full t n part) (Ok p)
gens_made full t n part system p law small read has room is =
    (gens_passes full t n part system law small read has room, record { system = system; read = read.read; holds = is })

pub gens_leaves : (full : Bool) (t : Topology) (n : ℕ) (part : Part) (system : Generators) (cause : GenErr) → GensHasOneAnswer → n ≤ MAX_DIM → ReadsGenerators t n part system → ¬ (LacksPoint system.list) → ¬ (IsTrue full) → (unmade cause ≡ unmade generators.NoPoint) ↔ LacksPoint system.list → IsGenOverflowOn (list_width t system.dim) system.dim (generators_of t system) cause → IsPerformed (gens full t n part) (Err (refusal_of_generators cause))
gens_leaves full t n part system generators.NoPoint law small read has room lacks is = absurd (has (lacks.0 refl))
gens_leaves full t n part system (generators.Overflow over) law small read has room lacks is = (gens_passes full t n part system law small read has room, record { system = system; read = read.read; holds = is })
gens_leaves full t n part system generators.Memory law small read has room lacks is = tt

-- ---- add
add_early : (part : Part) (p : Polyhedron) → NoneOf early (add part p).conditions
add_early part p = (λ k. k, (λ k. k, (λ k. k, (λ k. k, (λ k. k, tt)))))

pub add_refused : (part : Part) (p : Polyhedron) (e : StepErr) → IsTextRefusal (constraints_fault p.topology p.cons.dim part) e → IsPerformed (add part p) (Err e)
add_refused part p e is = refused_by_text (add part p) e (add_early part p) is

add_passes : (part : Part) (p : Polyhedron) (new : Constraints) → ReadsConstraints p.topology p.cons.dim part new → Passes (add part p).conditions
add_passes part p new read = all_pass (add part p).conditions (add_early part p) read.faultless (λ k. k, (λ k. k, (λ k. k, tt)))

pub add_made : (part : Part) (p : Polyhedron) (new : Constraints) (r : Polyhedron) → ReadsConstraints p.topology p.cons.dim part new → IsResultOfConstraints p.topology (with_constraints p new) r → IsPerformed (add part p) (Ok r)
add_made part p new r read is = (add_passes part p new read, record { system = new; read = read.read; holds = is })

pub add_leaves : (part : Part) (p : Polyhedron) (new : Constraints) (cause : ConvErr) → ReadsConstraints p.topology p.cons.dim part new → IsOverflowOn (list_width p.topology p.cons.dim) p.cons.dim (constraints_of p.topology (with_constraints p new)) cause → IsPerformed (add part p) (Err (refusal_of_conversion cause))
add_leaves part p new cause read is =
    overflown (add part p) (list_width p.topology (with_constraints p new).dim) (with_constraints p new).dim (constraints_of p.topology (with_constraints p new)) cause (add_passes part p new read) (λ over leaves. record { system = new; read = read.read; holds = leaves }) is

-- ---- addgen
addgen_early : (part : Part) (p : Polyhedron) → NoneOf early (addgen part p).conditions
addgen_early part p = (λ k. k, (λ k. k, (λ k. k, (λ k. k, (λ k. k, tt)))))

pub addgen_refused : (part : Part) (p : Polyhedron) (e : StepErr) → IsTextRefusal (generators_fault p.topology p.gens.dim part) e → IsPerformed (addgen part p) (Err e)
addgen_refused part p e is = refused_by_text (addgen part p) e (addgen_early part p) is

addgen_passes : (part : Part) (p : Polyhedron) (new : Generators) → GensHasOneAnswer → ReadsGenerators p.topology p.gens.dim part new → ¬ (LacksPoint (p.gens.list ++ new.list)) → Passes (addgen part p).conditions
addgen_passes part p new law read has =
    all_pass (addgen part p).conditions (addgen_early part p) read.faultless (none_lacks p.topology p.gens.dim part new (λ (gs : Generators). LacksPoint (p.gens.list ++ gs.list)) law read has, (λ k. k, (λ k. k, tt)))

-- the generators over the one dimension or the other
abbrev generators_over : ℕ → List Generator → Generators
generators_over dim list = record { dim = dim; list = list }

pub addgen_made : (part : Part) (p : Polyhedron) (new : Generators) (r : Polyhedron) → GensHasOneAnswer → ReadsGenerators p.topology p.gens.dim part new → p.cons.dim ≡ p.gens.dim → IsKept p → (made r ≡ unmade generators.NoPoint) ↔ AddsNoPoint p new → IsResultOfGenerators p.topology (with_generators p new) r → IsPerformed (addgen part p) (Ok r)
addgen_made part p new r law read e kept adds is =
    let has : ¬ (LacksPoint (p.gens.list ++ new.list)) = λ (lacks : LacksPoint (p.gens.list ++ new.list)). made_has_point r (AddsNoPoint p new) adds ((lacks_added p new kept).0 lacks) in
    (addgen_passes part p new law read has, record { system = new; read = read.read; holds = subst (λ (dim : ℕ). IsResultOfGenerators p.topology (generators_over dim (p.gens.list ++ new.list)) r) e is })

pub addgen_refuses : (part : Part) (p : Polyhedron) (new : Generators) (cause : GenErr) → GensHasOneAnswer → ReadsGenerators p.topology p.gens.dim part new → p.cons.dim ≡ p.gens.dim → IsKept p → (unmade cause ≡ unmade generators.NoPoint) ↔ AddsNoPoint p new → IsGenOverflowOn (list_width p.topology p.cons.dim) p.cons.dim (generators_of p.topology (with_generators p new)) cause → IsPerformed (addgen part p) (Err (refusal_of_generators cause))
addgen_refuses part p new generators.NoPoint law read e kept adds is =
    refused_late (addgen part p).conditions NoPoint (addgen_early part p) read.faultless (inl (record { system = new; read = read.read; holds = (lacks_added p new kept).1 (adds.0 refl) }, refl))
addgen_refuses part p new (generators.Overflow over) law read e kept adds is =
    let has : ¬ (LacksPoint (p.gens.list ++ new.list)) = λ (k : LacksPoint (p.gens.list ++ new.list)). let never : unmade (generators.Overflow over) ≡ unmade generators.NoPoint = adds.1 ((lacks_added p new kept).0 k) in cc in
    (addgen_passes part p new law read has, record { system = new; read = read.read; holds = subst (λ (dim : ℕ). LeavesOnGenerators p.topology (generators_over dim (p.gens.list ++ new.list)) over) e is })
addgen_refuses part p new generators.Memory law read e kept adds is = tt
