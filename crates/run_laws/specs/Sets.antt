-- What accepted commands and files give the names.
use Rattle.std.specs.Prelude.{◌≡◌, ◌↔◌, ℕ, zero, suc, ◌+◌, ◌-◌, ◌/◌, ◌%◌, ◌<◌, List, [], ◌∷◌, ◌++◌, filter, not, ◌||◌, ℤ, Bool, false, MatchBool, if◌then◌else◌, Some, slice_get}
use Rattle.std.specs.List.{list_any}
use Rattle.std.specs.Str.{bytes_eq}
use Rattle.row_core.specs.Points.{IsPoint}
use Rattle.cons_sys.specs.Constraints.{Constraints, In}
use Rattle.poly_pair.specs.Polyhedra.{Polyhedron, IsOver, IsIncluded, AreAlike}
use Rattle.poly_pair.specs.declared.topology.Topology.TheVariants.{Closed}
use Rattle.poly_pair.specs.Parts.{AreStoredOfRows}
use Rattle.poly_pair.specs.TopologyLists.{constraints_of}
use Rattle.widening.specs.Widenings.{IsWidening}
use Rattle.file_poly.specs.Files.{IsOfFile}
use Rattle.trans_sys.specs.Systems.{TransitionSystem, with_initial, with_transition}
use Rattle.powerset.specs.Powersets.{FinitePowerset, IsPowersetOfOne}
use Rattle.ranking.specs.Rankings.{IsRankingSet}
use Rattle.bd_shape.specs.Shapes.{DifferenceShape}
use Rattle.hybrid.specs.Systems.{HybridAutomaton}
use Rattle.script_text.specs.declared.command.Part.{Part}
use Rattle.script_text.specs.declared.command.Command.{Command}
use Rattle.script_text.specs.declared.command.Command.TheVariants.{Cons, Gens, Space, Copy, Drop, Add, Addgen, OfTwo, Closure, Map, Extend, Remove, Widen, System, Init, Trans, Fixpoint, Pset, OfTwoPowersets, Member, Rank, ShapeOf, Bounds, OfTwoShapes, ShapePoly, Hybrid, SetPart, Reach}
use Rattle.calc_state.specs.declared.entry.Entry.{Entry}
use Rattle.calc_state.specs.declared.entry.Entry.TheVariants as entry
use Rattle.line_values.specs.Proper.{IsProper}
use Rattle.calc_state.specs.Entries.{IsKeptEntry}
use Rattle.name_table.specs.Table.{numbered}
use Rattle.poly_makers.specs.Makers.{more_constraints, more_generators, IsSpace}
use Rattle.line_values.specs.Texts.{SaysConstraints, SaysGenerators}
use Rattle.poly_makers.specs.Results.{IsResult, IsResultOfConstraints, IsResultOfGenerators, IsResultOfClosure}
use Rattle.poly_makers.specs.Operators.{Fits, IsMadeBy, IsExtended}
use Rattle.poly_makers.specs.Affine.{IsRemoved, IsMappedBy}
use Rattle.fixpoint.specs.Commands.{IsEmptySystem, AreReached}
use Rattle.powerset.specs.Commands.{IsPowersetOf}
use Rattle.bd_shape.specs.Commands.{IsShapeOfSet, IsShapeOfConstraints, IsShapeBy, IsPolyOfShape}
use Rattle.hybrid.specs.Commands.{IsStill, AreReachedParts}
use Rattle.calc_state.specs.Parts.{with_part}
use Rattle.line_values.specs.Operands.{topology_of, format_of}
use Rattle.open_files.specs.OpenFiles.{OpenFile}
use Rattle.run_laws.specs.Acts.{Act, Did, Took}

-- ---- what is made
-- an entry of a kind with this property, which keeps what its kind keeps
pub record IsMadeAs {A : Type 0} (kind : A → Entry) (Is : A → Type 0) (result : A) : Type 0 where
  pub kept : IsKeptEntry (kind result)
  pub is : Is result

-- made of what there was under a name
pub record IsMadeOfOne {A B : Type 0} (kind : A → Entry) (into : B → Entry) (Was : Entry → Type 0)
    (Is : A → B → Type 0) (result : B) : Type 0 where
  pub operand : A
  pub was : Was (kind operand)
  pub made : IsMadeAs into (Is operand) result

-- made of what there was of one kind under two names
pub record IsMadeOfTwo {A B : Type 0} (kind : A → Entry) (into : B → Entry)
    (WasFirst WasSecond : Entry → Type 0) (Is : A → A → B → Type 0) (result : B) : Type 0 where
  pub first : A
  pub second : A
  pub was_first : WasFirst (kind first)
  pub was_second : WasSecond (kind second)
  pub made : IsMadeAs into (Is first second) result

-- what there was under a name, changed by a closed polyhedron
pub record IsChangedBy {A : Type 0} (kind : A → Entry) (Was WasPart : Entry → Type 0)
    (changed : A → Polyhedron → A) (result : A) : Type 0 where
  pub old : A
  pub part : Polyhedron
  pub was : Was (kind old)
  pub was_part : WasPart (entry.Poly part)
  pub closed : part.topology ≡ Closed
  pub made : IsMadeAs kind (λ r. r ≡ changed old part) result

-- the set of a location in the limit of the rounds of what there was under a name, where this name
-- is numbered as the location
pub record IsReachedSet {A : Type 0} (kind : A → Entry) (Was : Entry → Type 0)
    (Are : A → List Polyhedron → Type 0) (prefix name : List ℕ) (p : Polyhedron) : Type 0 where
  pub proper : IsProper p
  pub system : A
  pub was : Was (kind system)
  pub sets : List Polyhedron
  pub reached : Are system sets
  pub location : ℕ
  pub there : slice_get sets location ≡ Some p
  pub name_is : name ≡ numbered prefix location

-- the result of two operands that fit each other
pub record IsOfFit {A B : Type 0} (Fit : A → A → Type 0) (Is : A → A → B → Type 0) (p q : A)
    (r : B) : Type 0 where
  pub fit : Fit p q
  pub is : Is p q r

-- the result of a closed operand
pub record IsOfClosed {B : Type 0} (Is : Polyhedron → B → Type 0) (p : Polyhedron)
    (r : B) : Type 0 where
  pub closed : p.topology ≡ Closed
  pub is : Is p r

-- ---- polyhedra
-- a polyhedron with this property, by two systems that are stored of its set
abbrev pub IsMade : (Polyhedron → Type 0) → Polyhedron → Type 0
IsMade Is p = IsMadeAs entry.Poly Is p

-- the points of the old polyhedron at which the constraints hold as well
pub record IsCut (old : Polyhedron) (cs : Constraints) (p : Polyhedron) : Type 0 where
  pub over : IsOver old.topology old.cons.dim p
  pub points : (v : List ℤ) → IsPoint old.cons.dim v → In p.cons v ↔ (In old.cons v × In cs v)

-- stored of the list of the constraints of both
abbrev pub IsCutOf : Polyhedron → Constraints → Polyhedron → Type 0
IsCutOf old cs =
    IsResult (IsCut old cs) (AreStoredOfRows old.topology old.cons.dim
    (constraints_of old.topology (more_constraints old.cons cs)))

-- the points of what there was at which the constraints of the text hold as well
abbrev pub IsAdded : Part → Polyhedron → Polyhedron → Type 0
IsAdded part old p = SaysConstraints old.cons.dim part (λ cs. IsCutOf old cs p)

-- what the generators of what there was and those of the text generate
abbrev pub IsJoined : Part → Polyhedron → Polyhedron → Type 0
IsJoined part old p =
    SaysGenerators old.gens.dim part
    (λ gs. IsResultOfGenerators old.topology (more_generators old.gens gs) p)

-- the widening of a closed operand by one that includes it
pub record IsOfNested (p q r : Polyhedron) : Type 0 where
  pub alike : AreAlike p q
  pub closed : p.topology ≡ Closed
  pub nested : IsIncluded p q
  pub is : IsWidening p q r

-- the member with this number, where the first is member 1
abbrev pub IsMemberAt : ℕ → FinitePowerset → Polyhedron → Type 0
IsMemberAt i u p = (0 < i) × (slice_get u.members (i - 1) ≡ Some p)

-- the functions that rank a relation of states and their successors, of as many variables each
abbrev pub IsRankedBy : Polyhedron → Polyhedron → Type 0
IsRankedBy r p = (r.cons.dim % 2 ≡ 0) × IsRankingSet (r.cons.dim / 2) r p

-- ---- powersets and shapes
-- two powersets have one topology and one dimension
pub record AreAlikePowersets (s t : FinitePowerset) : Type 0 where
  pub topology : s.topology ≡ t.topology
  pub dim : s.dim ≡ t.dim

-- two shapes have one dimension
abbrev pub HaveOneDim : DifferenceShape → DifferenceShape → Type 0
HaveOneDim s t = s.dim ≡ t.dim

-- ---- numbered names
-- of what was accepted, the last first: the number of locations of the last system, or automaton,
-- that was made under the name
abbrev pub locations_of : List Act → List ℕ → ℕ
locations_of [] name = 0
locations_of (Did (System out n locations) ∷ earlier) name =
    if bytes_eq name out then locations else locations_of earlier name
locations_of (Did (Hybrid out s) ∷ earlier) name =
    if bytes_eq name out then locations_of earlier s else locations_of earlier name
locations_of (act ∷ earlier) name = locations_of earlier name

-- the name is the prefix with one of so many numbers from this one on
abbrev pub is_numbered : List ℕ → ℕ → ℕ → List ℕ → Bool
is_numbered prefix n zero name = false
is_numbered prefix n (suc count) name =
    bytes_eq name (numbered prefix n) || is_numbered prefix (n + 1) count name

-- ---- what a name is given
-- whether the command makes, changes or takes out what is under the name
abbrev pub sets : List Act → Command → List ℕ → Bool
sets earlier (Cons out top n part) name = bytes_eq name out
sets earlier (Gens out top n part) name = bytes_eq name out
sets earlier (Space space out top n) name = bytes_eq name out
sets earlier (Copy out other) name = bytes_eq name out
sets earlier (Drop out) name = bytes_eq name out
sets earlier (Add out part) name = bytes_eq name out
sets earlier (Addgen out part) name = bytes_eq name out
sets earlier (OfTwo op out p q) name = bytes_eq name out
sets earlier (Closure out p) name = bytes_eq name out
sets earlier (Map by out p v rel part) name = bytes_eq name out
sets earlier (Extend by out p n) name = bytes_eq name out
sets earlier (Remove out p vars) name = bytes_eq name out
sets earlier (Widen out p q) name = bytes_eq name out
sets earlier (System out n locations) name = bytes_eq name out
sets earlier (Init out location p) name = bytes_eq name out
sets earlier (Trans out source target r) name = bytes_eq name out
sets earlier (Fixpoint s delay prefix) name = is_numbered prefix 0 (locations_of earlier s) name
sets earlier (Pset out p) name = bytes_eq name out
sets earlier (OfTwoPowersets op out s t) name = bytes_eq name out
sets earlier (Member out s i) name = bytes_eq name out
sets earlier (Rank out r) name = bytes_eq name out
sets earlier (ShapeOf out p) name = bytes_eq name out
sets earlier (Bounds out n part) name = bytes_eq name out
sets earlier (OfTwoShapes op out s t) name = bytes_eq name out
sets earlier (ShapePoly out s) name = bytes_eq name out
sets earlier (Hybrid out s) name = bytes_eq name out
sets earlier (SetPart part out location p) name = bytes_eq name out
sets earlier (Reach h delay prefix) name = is_numbered prefix 0 (locations_of earlier h) name
sets earlier question name = false

-- the polyhedron that the command gives the name, where the names had these
abbrev pub GivesPoly : Command → (List ℕ → Entry → Type 0) → List ℕ → Polyhedron → Type 0
GivesPoly (Cons out top n part) Had name p =
    IsMade (λ r. SaysConstraints n part (λ cs. IsResultOfConstraints (topology_of top) cs r)) p
GivesPoly (Gens out top n part) Had name p =
    IsMade (λ r. SaysGenerators n part (λ gs. IsResultOfGenerators (topology_of top) gs r)) p
GivesPoly (Space space out top n) Had name p = IsMade (IsSpace space (topology_of top) n) p
GivesPoly (Copy out other) Had name p = Had other (entry.Poly p)
GivesPoly (Add out part) Had name p = IsMadeOfOne entry.Poly entry.Poly (Had out) (IsAdded part) p
GivesPoly (Addgen out part) Had name p =
    IsMadeOfOne entry.Poly entry.Poly (Had out) (IsJoined part) p
GivesPoly (OfTwo op out one other) Had name p =
    IsMadeOfTwo entry.Poly entry.Poly (Had one) (Had other) (IsOfFit (Fits op) (IsMadeBy op)) p
GivesPoly (Closure out other) Had name p =
    IsMadeOfOne entry.Poly entry.Poly (Had other) IsResultOfClosure p
GivesPoly (Map by out other v rel part) Had name p =
    IsMadeOfOne entry.Poly entry.Poly (Had other) (IsMappedBy by v rel part) p
GivesPoly (Extend by out other n) Had name p =
    IsMadeOfOne entry.Poly entry.Poly (Had other) (IsExtended by n) p
GivesPoly (Remove out other vars) Had name p =
    IsMadeOfOne entry.Poly entry.Poly (Had other) (IsRemoved vars) p
GivesPoly (Widen out one other) Had name p =
    IsMadeOfTwo entry.Poly entry.Poly (Had one) (Had other) IsOfNested p
GivesPoly (Fixpoint s delay prefix) Had name p =
    IsReachedSet entry.System (Had s) (λ x sets. AreReached x delay sets) prefix name p
GivesPoly (Member out s i) Had name p =
    IsMadeOfOne entry.Powerset entry.Poly (Had s) (IsMemberAt i) p
GivesPoly (Rank out r) Had name p =
    IsMadeOfOne entry.Poly entry.Poly (Had r) (IsOfClosed IsRankedBy) p
GivesPoly (ShapePoly out s) Had name p = IsMadeOfOne entry.Shape entry.Poly (Had s) IsPolyOfShape p
GivesPoly (Reach h delay prefix) Had name p =
    IsReachedSet entry.Hybrid (Had h) (λ x sets. AreReachedParts x delay sets) prefix name p
GivesPoly other Had name p = ⊥

-- the transition system that it gives its name
abbrev pub GivesSystem : Command → (List ℕ → Entry → Type 0) → TransitionSystem → Type 0
GivesSystem (System out n locations) Had s = IsMadeAs entry.System (IsEmptySystem n locations) s
GivesSystem (Init out location p) Had s =
    IsChangedBy entry.System (Had out) (Had p) (λ old q. with_initial old location q) s
GivesSystem (Trans out source target r) Had s =
    IsChangedBy entry.System (Had out) (Had r)
    (λ old q. with_transition old (record { source = source; target = target; relation = q })) s
GivesSystem other Had s = ⊥

-- the powerset
abbrev pub GivesPowerset : Command → (List ℕ → Entry → Type 0) → FinitePowerset → Type 0
GivesPowerset (Pset out p) Had u = IsMadeOfOne entry.Poly entry.Powerset (Had p) IsPowersetOfOne u
GivesPowerset (OfTwoPowersets op out s t) Had u =
    IsMadeOfTwo entry.Powerset entry.Powerset (Had s) (Had t)
    (IsOfFit AreAlikePowersets (IsPowersetOf op)) u
GivesPowerset other Had u = ⊥

-- the shape
abbrev pub GivesShape : Command → (List ℕ → Entry → Type 0) → DifferenceShape → Type 0
GivesShape (ShapeOf out p) Had r =
    IsMadeOfOne entry.Poly entry.Shape (Had p) (IsOfClosed IsShapeOfSet) r
GivesShape (Bounds out n part) Had r =
    IsMadeAs entry.Shape (λ s. SaysConstraints n part (λ cs. IsShapeOfConstraints cs s)) r
GivesShape (OfTwoShapes op out s t) Had r =
    IsMadeOfTwo entry.Shape entry.Shape (Had s) (Had t) (IsOfFit HaveOneDim (IsShapeBy op)) r
GivesShape other Had r = ⊥

-- the automaton
abbrev pub GivesHybrid : Command → (List ℕ → Entry → Type 0) → HybridAutomaton → Type 0
GivesHybrid (Hybrid out s) Had h = IsMadeOfOne entry.System entry.Hybrid (Had s) IsStill h
GivesHybrid (SetPart part out location p) Had h =
    IsChangedBy entry.Hybrid (Had out) (Had p) (λ old q. with_part part old location q) h
GivesHybrid other Had h = ⊥

-- what the command gives the name
abbrev pub GivesEntry : Command → (List ℕ → Entry → Type 0) → List ℕ → Entry → Type 0
GivesEntry c Had name (entry.Poly p) = GivesPoly c Had name p
GivesEntry c Had name (entry.System s) = GivesSystem c Had s
GivesEntry c Had name (entry.Powerset u) = GivesPowerset c Had u
GivesEntry c Had name (entry.Shape r) = GivesShape c Had r
GivesEntry c Had name (entry.Hybrid h) = GivesHybrid c Had h

-- the polyhedron of a file
abbrev pub GivesFile : OpenFile → Entry → Type 0
GivesFile file (entry.Poly p) = IsMade (IsOfFile (format_of file.ext) file.text) p
GivesFile file other = ⊥

-- of what was accepted, the last first: what it gives the name
abbrev pub IsEntryOf : List Act → List ℕ → Entry → Type 0
IsEntryOf [] name e = ⊥
IsEntryOf (Did c ∷ earlier) name e =
    MatchBool (sets earlier c name) (GivesEntry c (IsEntryOf earlier) name e)
    (IsEntryOf earlier name e)
IsEntryOf (Took file ∷ earlier) name e =
    MatchBool (bytes_eq name file.name) (GivesFile file e) (IsEntryOf earlier name e)

-- the polyhedron that it gives the name
abbrev pub IsSetOf : List Act → List ℕ → Polyhedron → Type 0
IsSetOf all name p = IsEntryOf all name (entry.Poly p)

-- ---- the names
-- a new name goes last
abbrev pub with_name : List ℕ → List (List ℕ) → List (List ℕ)
with_name name names = if list_any (bytes_eq name) names then names else names ++ name ∷ []

-- the other names keep their order
abbrev pub less_name : List ℕ → List (List ℕ) → List (List ℕ)
less_name name names = filter (λ n. not (bytes_eq name n)) names

-- each of so many numbered names, in order
abbrev pub with_numbered : List ℕ → ℕ → ℕ → List (List ℕ) → List (List ℕ)
with_numbered prefix n zero names = names
with_numbered prefix n (suc count) names =
    with_numbered prefix (n + 1) count (with_name (numbered prefix n) names)

-- the names after a command
abbrev pub names_after : List Act → Command → List (List ℕ) → List (List ℕ)
names_after earlier (Cons out top n part) names = with_name out names
names_after earlier (Gens out top n part) names = with_name out names
names_after earlier (Space space out top n) names = with_name out names
names_after earlier (Copy out other) names = with_name out names
names_after earlier (OfTwo op out p q) names = with_name out names
names_after earlier (Closure out p) names = with_name out names
names_after earlier (Map by out p v rel part) names = with_name out names
names_after earlier (Extend by out p n) names = with_name out names
names_after earlier (Remove out p vars) names = with_name out names
names_after earlier (Widen out p q) names = with_name out names
names_after earlier (Drop out) names = less_name out names
names_after earlier (System out n locations) names = with_name out names
names_after earlier (Fixpoint s delay prefix) names =
    with_numbered prefix 0 (locations_of earlier s) names
names_after earlier (Pset out p) names = with_name out names
names_after earlier (OfTwoPowersets op out s t) names = with_name out names
names_after earlier (Member out s i) names = with_name out names
names_after earlier (Rank out r) names = with_name out names
names_after earlier (ShapeOf out p) names = with_name out names
names_after earlier (Bounds out n part) names = with_name out names
names_after earlier (OfTwoShapes op out s t) names = with_name out names
names_after earlier (ShapePoly out s) names = with_name out names
names_after earlier (Hybrid out s) names = with_name out names
names_after earlier (Reach h delay prefix) names =
    with_numbered prefix 0 (locations_of earlier h) names
names_after earlier unchanged names = names

-- of what was accepted, the last first: the names that it gives, in the order in which they were
-- made
abbrev pub names_of : List Act → List (List ℕ)
names_of [] = []
names_of (Did c ∷ earlier) = names_after earlier c (names_of earlier)
names_of (Took file ∷ earlier) = with_name file.name (names_of earlier)
