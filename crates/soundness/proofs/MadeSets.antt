-- The sets that commands on polyhedra make are those that are said.
use Rattle.std.proofs.Common.{◌≡◌, ◌≢◌, ◌⊎◌, inl, inr, ◌↔◌, ℕ, ◌+◌, ◌<◌, ◌≤◌, List, [], ◌++◌, length, drop, refl, ap, sym, ◌∙◌, subst, Bool, true, false, ℤ, pos}
use Rattle.std.specs.Prelude.{All, slice_index_or}
use Rattle.std.proofs.lemmas.List.Elements.{All-append}
use Rattle.stored_systems.proofs.ListLemmas.{All-left, All-right}
use Rattle.row_core.specs.Vectors.{cell}
use Rattle.row_core.specs.Points.{IsPoint}
use Rattle.cons_sys.specs.Constraints.{Constraint, Constraints, In, Satisfies}
use Rattle.gens_sys.specs.Generators.{Generator, Generators}
use Rattle.gens_sys.specs.Spans.{Span}
use Rattle.stored_systems.specs.PointSets.{IsWithin}
use Rattle.stored_systems.specs.StoredLaws.{IsPair}
use Rattle.poly_pair.specs.declared.topology.Topology.{Topology}
use Rattle.poly_pair.specs.declared.topology.Topology.TheVariants.{Closed, Nnc}
use Rattle.term_text.specs.Systems.{IsCons}
use Rattle.expr_text.specs.GeneratorSystems.{IsGens}
use Rattle.poly_pair.specs.TopologyConstraints as topology
use Rattle.poly_pair.specs.TopologyLists.{AreConstraintsFor, AreGeneratorsFor}
use Rattle.poly_pair.specs.Polyhedra as poly
use Rattle.poly_pair.specs.Polyhedra.{Polyhedron, IsOver}
use Rattle.elapse.specs.ElapsedPoints.{IsElapsed, IsTrueElapsed}
use Rattle.mapped_systems.specs.Maps.{without, kept_variables, remaining}
use Rattle.mapped_systems.specs.Sources.{HasSource}
use Rattle.lattice_ops.specs.Sets as lattice
use Rattle.affine_maps.specs.Relations as relations
use Rattle.script_text.specs.declared.command.Part.{Part}
use Rattle.script_text.specs.declared.command.Space.{Space}
use Rattle.script_text.specs.declared.command.Space.TheVariants.{Universe, Empty}
use Rattle.script_text.specs.declared.command.Operator.{Operator}
use Rattle.script_text.specs.declared.command.Operator.TheVariants.{Meet, Hull, Concat, Elapse}
use Rattle.script_text.specs.declared.command.Extension.{Extension}
use Rattle.script_text.specs.declared.command.Extension.TheVariants.{Embed, Project}
use Rattle.script_text.specs.declared.command.Mapping.{Mapping}
use Rattle.script_text.specs.declared.command.Mapping.TheVariants.{Image, Preimage}
use Rattle.script_text.specs.declared.command.Rel.{Rel}
use Rattle.script_text.specs.declared.command.Rel.TheVariants as rel
use Rattle.script_text.specs.Commands.{is_strict}
use Rattle.line_values.specs.Texts as texts
use Rattle.line_values.specs.Texts.{IsStrictIn}
use Rattle.line_values.proofs.StrictTexts.{closed_constraints, closed_generators}
use Rattle.line_values.specs.Operands.{topology_of}
use Rattle.line_values.specs.Proper.{IsProper}
use Rattle.poly_makers.specs.Makers as makers
use Rattle.poly_makers.specs.Results as results
use Rattle.poly_makers.specs.Operators as operators
use Rattle.poly_makers.specs.Affine as affine
use Rattle.soundness.specs.Points.{LackStrict, IsSetOf, IsInSmallest}
use Rattle.soundness.specs.Sets.{constraints, generators, LackClosurePoints, IsOfConstraints, IsOfGenerators, IsSpace, IsCopy, IsAdded, IsGeneratorFor, Generate, IsJoined, IsClosure, IsOfTwo, IsFrontIn, IsExtended, IsRemoved, Stands, IsImage, IsPreimage, ComesOf, IsMapped}
use Rattle.soundness.specs.TextsSystems.{GeneratorsText}
use Rattle.soundness.proofs.Operands.{all_below}
use Rattle.soundness.proofs.PointLaws.{TextLaws, via, turn, is_nnc, set_of, lack_strict, lack_closure_points, is_over, set_is, moved, within, smallest}

-- ---- given
nnc_of : (top : Bool) → is_nnc (topology_of top) ≡ top
nnc_of false = refl
nnc_of true = refl

-- a part without a strict constraint or a closure point, if it is for a closed set
abbrev pub IsPartFor : Topology → Part → Type 0
IsPartFor t part = (part.strict ≡ is_strict part.text) × ¬ (IsStrictIn t part)

not_true : (b : Bool) → b ≢ true → b ≡ false
not_true true n = absurd (n refl)
not_true false n = refl

constraint_kinds : (t : Topology) (dim : ℕ) (part : Part) (system : Constraints) → IsPartFor t part → IsCons dim part.text system → AreConstraintsFor t system
constraint_kinds Closed dim part system for is = closed_constraints dim part.text system (sym for.0 ∙ not_true part.strict for.1) is
constraint_kinds Nnc dim part system for is = tt

generator_kinds : (t : Topology) (dim : ℕ) (part : Part) (system : Generators) → IsPartFor t part → IsGens dim part.text system → AreGeneratorsFor t system
generator_kinds Closed dim part system for is = closed_generators dim part.text system (sym for.0 ∙ not_true part.strict for.1) is
generator_kinds Nnc dim part system for is = tt

pub said_kinds : (t : Topology) (dim : ℕ) (part : Part) (system : Constraints) → IsPartFor t part → IsCons dim part.text system → LackStrict (is_nnc t) system.list
said_kinds t dim part system for is = lack_strict t system (constraint_kinds t dim part system for is)

said_generator_kinds : (t : Topology) (dim : ℕ) (part : Part) (system : Generators) → IsPartFor t part → IsGens dim part.text system → LackClosurePoints (is_nnc t) system.list
said_generator_kinds t dim part system for is = lack_closure_points t system (generator_kinds t dim part system for is)

of_constraints : TextLaws → (t : Topology) (n : ℕ) (part : Part) (r : Polyhedron) → IsProper r → IsPartFor t part → texts.SaysConstraints n part (λ cs. results.IsResultOfConstraints t cs r) → IsOfConstraints (is_nnc t) n part.text (set_of r)
of_constraints laws t n part r fit for h =
    let says = laws.constraints n part.text h.system h.read in
    let same : h.system.dim ≡ n = h.read.holds.over in
    record {
      list = says.list;
      says = says.is_text;
      kinds = says.kinds (is_nnc t) (said_kinds t n part h.system for h.read);
      set = record {
        over = is_over t n r fit (record { same_topology = h.holds.set.over.same_topology; same_dim = h.holds.set.over.same_dim ∙ same });
        points = λ v is. via (turn (h.holds.set.points v (moved n h.system.dim v (sym same) is))) (says.same v);
      };
    }

pub cons_made : TextLaws → (top : Bool) (n : ℕ) (part : Part) (r : Polyhedron) → IsProper r → IsPartFor (topology_of top) part → texts.SaysConstraints n part (λ cs. results.IsResultOfConstraints (topology_of top) cs r) → IsOfConstraints top n part.text (set_of r)
cons_made laws top n part r fit for h = subst (λ (b : Bool). IsOfConstraints b n part.text (set_of r)) (nnc_of top) (of_constraints laws (topology_of top) n part r fit for h)

span_over : (m n : ℕ) (list : List Generator) (v : List ℤ) → m ≡ n → Span (generators m list) v ↔ Span (generators n list) v
span_over m n list v e = subst (λ (k : ℕ). Span (generators m list) v ↔ Span (generators k list) v) e (λ x. x, λ x. x)

of_generators : TextLaws → (t : Topology) (n : ℕ) (part : Part) (r : Polyhedron) → IsProper r → IsPartFor t part → texts.SaysGenerators n part (λ gs. results.IsResultOfGenerators t gs r) → IsOfGenerators (is_nnc t) n part.text (set_of r)
of_generators laws t n part r fit for h =
    let says = laws.generators n part.text h.system h.read in
    let same : h.system.dim ≡ n = h.read.holds.over in
    record {
      list = says.list;
      says = says.is_text;
      kinds = says.kinds (is_nnc t) (said_generator_kinds t n part h.system for h.read);
      set = record {
        over = is_over t n r fit (record { same_topology = h.holds.set.over.same_topology; same_dim = h.holds.set.over.same_dim ∙ same });
        points = λ v is. via (turn (h.holds.set.points v (moved n h.system.dim v (sym same) is))) (via (span_over h.system.dim n h.system.list v same) (says.same [] v));
      };
    }

pub gens_made : TextLaws → (top : Bool) (n : ℕ) (part : Part) (r : Polyhedron) → IsProper r → IsPartFor (topology_of top) part → texts.SaysGenerators n part (λ gs. results.IsResultOfGenerators (topology_of top) gs r) → IsOfGenerators top n part.text (set_of r)
gens_made laws top n part r fit for h = subst (λ (b : Bool). IsOfGenerators b n part.text (set_of r)) (nnc_of top) (of_generators laws (topology_of top) n part r fit for h)

space_is : (space : Space) (t : Topology) (n : ℕ) (r : Polyhedron) → IsProper r → makers.IsSpace space t n r → IsSpace space (is_nnc t) n (set_of r)
space_is Universe t n r fit h = set_is t n (IsPoint n) r fit h.over (λ v is. (λ x. is, λ x. h.points v is))
space_is Empty t n r fit h = set_is t n (λ v. ⊥) r fit h.over (λ v is. (λ x. h.points v (within n r.cons v h.over.same_dim is x), λ x. absurd x))

pub space_made : (space : Space) (top : Bool) (n : ℕ) (r : Polyhedron) → IsProper r → makers.IsSpace space (topology_of top) n r → IsSpace space top n (set_of r)
space_made space top n r fit h = subst (λ (b : Bool). IsSpace space b n (set_of r)) (nnc_of top) (space_is space (topology_of top) n r fit h)

-- ---- one operand
pub copy_made : (p r : Polyhedron) → IsProper p → r ≡ p → IsCopy (set_of p) (set_of r)
copy_made p r own e = subst (λ (x : Polyhedron). IsCopy (set_of p) (set_of x)) (sym e) (set_is p.topology p.cons.dim (In p.cons) p own (record { same_topology = refl; same_dim = refl }) (λ v is. (λ x. x, λ x. x)))

pub add_made : TextLaws → (part : Part) (p r : Polyhedron) → IsProper r → IsPartFor p.topology part → texts.SaysConstraints p.cons.dim part (λ cs. results.IsResultOfConstraints p.topology (makers.more_constraints p.cons cs) r) → IsAdded part (set_of p) (set_of r)
add_made laws part p r fit for h =
    let says = laws.constraints p.cons.dim part.text h.system h.read in
    record {
      list = says.list;
      text = says.is_text;
      kinds = says.kinds (is_nnc p.topology) (said_kinds p.topology p.cons.dim part h.system for h.read);
      set = set_is p.topology p.cons.dim (λ v. In p.cons v × In (constraints p.cons.dim says.list) v) r fit h.holds.set.over (λ v is. (
        λ x. (let all = (h.holds.set.points v is).1 x in (All-left (Satisfies v) p.cons.list h.system.list all, (says.same v).0 (All-right (Satisfies v) p.cons.list h.system.list all))),
        λ y. (h.holds.set.points v is).0 (All-append (Satisfies v) p.cons.list h.system.list y.0 ((says.same v).1 y.1)),
      ));
    }

-- the generators that are stored
pub own_generate : (p : Polyhedron) → IsProper p → p.gens.dim ≡ p.cons.dim → IsPair p.cons p.gens → (poly.HasNoPoint p → p.gens.list ≡ []) → Generate p.gens.list (set_of p)
own_generate p own same pair none = record {
  each = λ i d h. subst (λ (n : ℕ). IsGeneratorFor n (slice_index_or p.gens.list i d)) same (record { wide = (own.gens.each i d h).wide; divisor = (own.gens.each i d h).divisor });
  set = set_is p.topology p.cons.dim (Span (generators p.cons.dim p.gens.list)) p own (record { same_topology = refl; same_dim = refl }) (λ v is. via (pair v is) (span_over p.gens.dim p.cons.dim p.gens.list v same));
  none = none;
}

pub addgen_made : TextLaws → (part : Part) (p r : Polyhedron) → IsProper p → IsProper r → IsPartFor p.topology part → p.gens.dim ≡ p.cons.dim → IsPair p.cons p.gens → (poly.HasNoPoint p → p.gens.list ≡ []) →
    texts.SaysGenerators p.gens.dim part (λ gs. results.IsResultOfGenerators p.topology (makers.more_generators p.gens gs) r) → IsJoined part (set_of p) (set_of r)
addgen_made laws part p r own fit for same pair none h =
    let says = laws.generators p.gens.dim part.text h.system h.read in
    record {
      list = says.list;
      text = subst (λ (k : ℕ). GeneratorsText k part.text says.list) same says.is_text;
      kinds = says.kinds (is_nnc p.topology) (said_generator_kinds p.topology p.gens.dim part h.system for h.read);
      own = p.gens.list;
      generate = own_generate p own same pair none;
      set = record {
        over = is_over p.topology p.cons.dim r fit (record { same_topology = h.holds.set.over.same_topology; same_dim = h.holds.set.over.same_dim ∙ same });
        points = λ v is.
            via (turn (h.holds.set.points v (moved p.cons.dim p.gens.dim v (sym same) is)))
            (via (says.same p.gens.list v) (span_over p.gens.dim p.cons.dim (p.gens.list ++ says.list) v same));
      };
    }

-- valid on the set
valid_within : (p : Polyhedron) (c : Constraint) → lattice.IsValidOn p c ↔ ((u : List ℤ) → IsWithin p.cons u → Satisfies u c)
valid_within p c = (λ valid. λ u w. valid u w.point w.holds, λ valid. λ u is holds. valid u (record { point = is; holds = holds }))

pub closure_made : (p r : Polyhedron) → IsProper r → results.IsResultOfClosure p r → IsClosure (set_of p) (set_of r)
closure_made p r fit h =
    set_is p.topology p.cons.dim (IsInSmallest false p.cons.dim (IsWithin p.cons)) r fit h.set.over
    (λ v is. via (h.set.points v is) (smallest Closed p.cons.dim (IsWithin p.cons) (lattice.IsValidOn p) (valid_within p) v))

-- ---- two operands
-- valid on both sets
valid_both : (p q : Polyhedron) → p.cons.dim ≡ q.cons.dim → (c : Constraint) → (lattice.IsValidOn p c × lattice.IsValidOn q c) ↔ ((u : List ℤ) → IsWithin p.cons u ⊎ IsWithin q.cons u → Satisfies u c)
valid_both p q e c = (
  λ valid. λ u w. elim w [
    | inl x ↦ valid.0 u x.point x.holds
    | inr y ↦ valid.1 u y.point y.holds
  ],
  λ valid. (λ u is holds. valid u (inl (record { point = is; holds = holds })), λ u is holds. valid u (inr (record { point = is; holds = holds }))),
)

hull_points : (p q : Polyhedron) → p.cons.dim ≡ q.cons.dim → (v : List ℤ) →
    ((c : Constraint) → topology.IsConstraintFor p.topology p.cons.dim c → lattice.IsValidOn p c → lattice.IsValidOn q c → Satisfies v c)
    ↔ IsInSmallest (is_nnc p.topology) p.cons.dim (λ u. IsWithin p.cons u ⊎ IsWithin q.cons u) v
hull_points p q e v =
    via (λ each. λ c for both. each c for both.0 both.1, λ each. λ c for one other. each c for (one, other))
    (smallest p.topology p.cons.dim (λ u. IsWithin p.cons u ⊎ IsWithin q.cons u) (λ c. lattice.IsValidOn p c × lattice.IsValidOn q c) (valid_both p q e) v)

pub two_made : (op : Operator) (p q r : Polyhedron) → IsProper r → operators.Fits op p q → operators.IsMadeBy op p q r → IsOfTwo op (set_of p) (set_of q) (set_of r)
two_made Meet p q r fit fits h = (record { kind = ap is_nnc fits.0; variables = fits.1 }, set_is p.topology p.cons.dim (λ v. In p.cons v × In q.cons v) r fit h.set.over h.set.points)
two_made Hull p q r fit fits h = (
  record { kind = ap is_nnc fits.0; variables = fits.1 },
  set_is p.topology p.cons.dim (IsInSmallest (is_nnc p.topology) p.cons.dim (λ v. IsWithin p.cons v ⊎ IsWithin q.cons v)) r fit h.set.over
      (λ v is. via (h.set.points v is) (hull_points p q fits.1 v)),
)
two_made Concat p q r fit fits h = (
  ap is_nnc fits.0,
  set_is p.topology (p.cons.dim + q.cons.dim) (λ v. In p.cons (without p.cons.dim (p.cons.dim + q.cons.dim) v) × In q.cons (drop p.cons.dim v)) r fit h.set.over
      (λ v is. via (h.set.points v is) (λ x. (x.front, x.back), λ y. record { front = y.0; back = y.1 })),
)
two_made Elapse p q r fit fits h = (
  record { kind = ap is_nnc fits.0; variables = fits.1 },
  set_is p.topology p.cons.dim (IsInSmallest (is_nnc p.topology) p.cons.dim (IsElapsed p.cons q.cons)) r fit h.set.over
      (λ v is. via (h.set.points v is) (smallest p.topology p.cons.dim (IsElapsed p.cons q.cons) (IsTrueElapsed p.cons q.cons) (λ c. (λ x. x, λ x. x)) v)),
)

-- ---- variables
pub extension_made : (by : Extension) (n : ℕ) (p r : Polyhedron) → IsProper r → operators.IsExtended by n p r → IsExtended by n (set_of p) (set_of r)
extension_made Embed n p r fit h = set_is p.topology (p.cons.dim + n) (IsFrontIn (set_of p) n) r fit h.set.over h.set.points
extension_made Project n p r fit h =
    set_is p.topology (p.cons.dim + n) (λ v. IsFrontIn (set_of p) n v × ((j : ℕ) → p.cons.dim ≤ j → j < p.cons.dim + n → cell v j ≡ pos 0)) r fit h.set.over
    (λ v is. via (h.set.points v is) (λ x. (x.within, x.zero), λ y. record { zero = y.1; within = y.0 }))

pub remove_made : (vars : List ℕ) (p r : Polyhedron) → IsProper r → ¬ (¬ (All (λ (i : ℕ). i < p.cons.dim) vars)) → affine.IsRemoved vars p r → IsRemoved vars (set_of p) (set_of r)
remove_made vars p r fit passes h = record {
  below = all_below p.cons.dim vars passes;
  set = set_is p.topology (length (kept_variables p.cons.dim vars)) (HasSource (remaining p.cons.dim vars) p.cons) r fit h.set.over h.set.points;
}

-- ---- assignments
stands_to : (rel : Rel) (x y : ℤ) → relations.Stands (affine.image_rel rel) x y ↔ Stands rel x y
stands_to rel.Eq x y = (λ h. h, λ h. h)
stands_to rel.Ge x y = (λ h. h, λ h. h)
stands_to rel.Le x y = (λ h. h, λ h. h)
stands_to rel.Gt x y = (λ h. h, λ h. h)
stands_to rel.Lt x y = (λ h. h, λ h. h)

image_points : (rel : Rel) (var : ℕ) (expr : List ℤ) (divisor : ℤ) (cs : Constraints) (v : List ℤ) → relations.IsRelatedImage (affine.image_rel rel) var expr divisor cs v ↔ IsImage rel var expr divisor cs v
image_points rel var expr divisor cs v = (
  λ h. record { source = h.source; within = h.within; others = h.others; stands = (stands_to rel _ _).0 h.stands },
  λ h. record { source = h.source; within = h.within; others = h.others; stands = (stands_to rel _ _).1 h.stands },
)

preimage_points : (rel : Rel) (var : ℕ) (expr : List ℤ) (divisor : ℤ) (cs : Constraints) (v : List ℤ) → relations.IsRelatedPreimage (affine.image_rel rel) var expr divisor cs v ↔ IsPreimage rel var expr divisor cs v
preimage_points rel var expr divisor cs v = (
  λ h. record { num = h.num; den = h.below; positive = h.positive; stands = (stands_to rel _ _).0 h.stands; within = h.within },
  λ h. record { num = h.num; below = h.den; positive = h.positive; stands = (stands_to rel _ _).1 h.stands; within = h.within },
)

map_points : (by : Mapping) (rel : Rel) (var : ℕ) (expr : List ℤ) (divisor : ℤ) (p r : Polyhedron) → IsProper r → affine.IsSetOfMap by (affine.image_rel rel) var expr divisor p r → IsSetOf (is_nnc p.topology) p.cons.dim (ComesOf by rel var expr divisor p.cons) (set_of r)
map_points Image rel var expr divisor p r fit h = set_is p.topology p.cons.dim (IsImage rel var expr divisor p.cons) r fit h.over (λ v is. via (h.points v is) (image_points rel var expr divisor p.cons v))
map_points Preimage rel var expr divisor p r fit h = set_is p.topology p.cons.dim (IsPreimage rel var expr divisor p.cons) r fit h.over (λ v is. via (h.points v is) (preimage_points rel var expr divisor p.cons v))

pub map_made : TextLaws → (by : Mapping) (var : ℕ) (rel : Rel) (part : Part) (p r : Polyhedron) → IsProper r → affine.IsMappedBy by var rel part p r → IsMapped by var rel part (set_of p) (set_of r)
map_made laws by var rel part p r fit h =
    let text = laws.fraction p.cons.dim part.text h.expr h.divisor h.read in
    record {
      below = h.within;
      expr = h.expr;
      divisor = text.below;
      positive = text.positive;
      text = text.is_text;
      set = subst (λ (d : ℤ). IsSetOf (is_nnc p.topology) p.cons.dim (ComesOf by rel var h.expr d p.cons) (set_of r)) text.same (map_points by rel var h.expr h.divisor p r fit h.holds.set);
    }
