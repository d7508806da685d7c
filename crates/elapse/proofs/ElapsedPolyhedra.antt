-- The time elapse of two polyhedra by what they store.
use Rattle.std.proofs.Common.{◌≡◌, ◌⊎◌, inl, inr, ℕ, ◌<◌, List, [], ◌∷◌, ◌++◌, length, ℤ, refl, sym, ap, ◌∙◌, subst, arith, All}
use Rattle.std.specs.Prelude.{◌↔◌, Option, Some, None, Result, Ok, Err, IfErr}
use Rattle.std.proofs.Math.ListN.{get_or-append}
use Rattle.std.proofs.lemmas.List.{length-append}
use Rattle.std.proofs.lemmas.List.Elements.{All-nil, All-cons, All-append}
use Rattle.row_core.specs.Points.{IsPoint}
use Rattle.row_core.specs.declared.errors.Overflow.{Overflow}
use Rattle.row_core.specs.declared.errors.ConvErr.{ConvErr}
use Rattle.row_core.specs.declared.errors.ConvErr.TheVariants as conversion
use Rattle.row_core.specs.Refusals.{IsOverflowIn}
use Rattle.cons_sys.specs.declared.kind.ConKind.TheVariants.{Ge}
use Rattle.cons_sys.specs.Constraints.{Constraints, FitDimension, In}
use Rattle.gens_sys.specs.declared.kind.GenKind.{GenKind}
use Rattle.gens_sys.specs.declared.kind.GenKind.TheVariants.{Line, Ray, Point, ClosurePoint}
use Rattle.gens_sys.specs.Generators.{Generator, Generators, FitDimension as FitGenerators, kind_at}
use Rattle.gens_sys.specs.Spans.{Span}
use Rattle.stored_systems.specs.PointSets.{IsWithin, IsClosedGenKind}
use Rattle.stored_systems.specs.StoredForms.{false_row}
use Rattle.stored_systems.proofs.StoredPair.{inner_point}
use Rattle.stored_systems.proofs.Stored.{stored_is_closed, pair_point}
use Rattle.poly_pair.specs.declared.topology.Topology.{Topology}
use Rattle.poly_pair.specs.declared.topology.Topology.TheVariants.{Closed, Nnc}
use Rattle.poly_pair.specs.TopologyLists.{AreConstraintsFor, AreGeneratorsFor, generators_of}
use Rattle.poly_pair.specs.Polyhedra.{Polyhedron, IsStoredAs, IsKept, HasNoPoint, IsOfGenerators}
use Rattle.poly_pair.specs.KeptLaws.{KeptIsPair}
use Rattle.poly_pair.specs.FirstLists.{LacksPoint}
use Rattle.poly_pair.specs.Parts.{AreStoredOfVectors, AreStoredOfGenerators}
use Rattle.set_laws.specs.Asking.{HasPoint}
use Rattle.set_laws.proofs.GeneratorLaws.{spans_law}
use Rattle.elapse.specs.Directions.{AreDirections, no_direction, zero_direction, one_direction, direction_kind}
use Rattle.elapse.specs.ElapsedPoints.{IsElapsed}
use Rattle.poly_pair.specs.Work.{gens_work, IsConversion}
use Rattle.elapse.specs.Elapses.{IsElapse, followed, AreStoredOfList, LeavesOnElapse, IsElapseConversion, ConvertsElapse}
use Rattle.elapse.proofs.ElapseLaws.{false_for, never_satisfied}
use Rattle.elapse.proofs.ElapsedSets.{AreSystems, elapse_points}

-- ---- sets without a point
pub none_elapse : (p q r : Polyhedron) → r.topology ≡ p.topology → r.cons.dim ≡ p.cons.dim → HasNoPoint r → HasNoPoint p ⊎ HasNoPoint q → IsElapse p q r
none_elapse p q r t d none given = record {
  over = record { same_topology = t; same_dim = d };
  points = λ v point. (
    (λ holds. absurd (none v (record { point = subst (λ n. IsPoint n v) (sym d) point; holds = holds }))),
    (λ inside. absurd (never_satisfied p.cons.dim v point (inside (false_row p.cons.dim, Ge) (false_for p.topology p.cons.dim) (λ u e. absurd (nowhere given e))))),
  );
}
  where
    nowhere : {u : List ℤ} → HasNoPoint p ⊎ HasNoPoint q → IsElapsed p.cons q.cons u → ⊥
    nowhere (inl n) e = n e.start e.start_within
    nowhere (inr n) e = n e.velocity e.velocity_within

-- ---- what is stored
kept_dim : (t : Topology) (cs : Constraints) (gs : Generators) → IsStoredAs t cs gs → gs.dim ≡ cs.dim
kept_dim Closed cs gs s = (stored_is_closed cs gs s).same_dim
kept_dim Nnc cs gs (inl e) = e.same_dim
kept_dim Nnc cs gs (inr f) = f.same_dim

kept_constraints : (t : Topology) (cs : Constraints) (gs : Generators) → IsStoredAs t cs gs → AreConstraintsFor t cs
kept_constraints Closed cs gs s = (stored_is_closed cs gs s).cons
kept_constraints Nnc cs gs s = tt

-- a point of a set
pub record HasMember (cs : Constraints) : Type 0 where
  pub point : List ℤ
  pub within : IsWithin cs point

some_member : (t : Topology) (cs : Constraints) (gs : Generators) → IsStoredAs t cs gs → (gs.list ≡ [] → ⊥) → HasMember cs
some_member Closed cs gs (inl e) n = absurd (n e.gens)
some_member Closed cs gs (inr f) n = record { point = inner_point cs.dim f.lines f.rays f.equalities f.inequalities f.systems; within = pair_point cs gs f }
some_member Nnc cs gs (inl e) n = absurd (n e.gens)
some_member Nnc cs gs (inr f) n = record { point = f.point; within = f.within }

-- ---- directions
direction_closed : (kind : GenKind) → IsClosedGenKind (direction_kind kind)
direction_closed Line = tt
direction_closed Ray = tt
direction_closed Point = tt
direction_closed ClosurePoint = tt

abbrev HasClosedKind : Generator → Type 0
HasClosedKind g = IsClosedGenKind g.1

directions_closed : (dim : ℕ) (old new : List Generator) → AreDirections dim old new → All HasClosedKind new
directions_closed dim [] [] no_direction = All-nil HasClosedKind
directions_closed dim [] (_ ∷ new) d = elim d [ ]
directions_closed dim (g ∷ old) new (zero_direction z d) = directions_closed dim old new d
directions_closed dim ((v, kind) ∷ old) ((stored, kind2) ∷ new) (one_direction n p d) = All-cons HasClosedKind (stored, kind2) new (direction_closed kind) (directions_closed dim old new d)

followed_kinds : (t : Topology) (cs : Constraints) (gs : Generators) (new : List Generator) → IsStoredAs t cs gs → All HasClosedKind new → AreGeneratorsFor t (followed gs new)
followed_kinds Closed cs gs new s h = All-append HasClosedKind gs.list new (λ i d b. ((stored_is_closed cs gs s).gens i d b).kind) h
followed_kinds Nnc cs gs new s h = tt

-- ---- two sets with points
module _ (p q : Polyhedron) (law : KeptIsPair) (kept : IsKept p) (kept_q : IsKept q) (same_dim : q.cons.dim ≡ p.cons.dim) (some : p.gens.list ≡ [] → ⊥) (moving : q.gens.list ≡ [] → ⊥) (fit : FitGenerators p.gens) (fit_q : FitGenerators q.gens) (new : List Generator) (are : AreDirections p.gens.dim q.gens.list new) where
  member : HasMember p.cons
  member = some_member p.topology p.cons p.gens kept.stored some

  member_q : HasMember q.cons
  member_q = some_member q.topology q.cons q.gens kept_q.stored moving

  spanned : Span p.gens member.point
  spanned = (law p kept member.point member.within.point).0 member.within.holds

  spanned_q : Span q.gens member_q.point
  spanned_q = (law q kept_q member_q.point member_q.within.point).0 member_q.within.holds

  systems : AreSystems p.cons.dim p.cons p.gens
  systems = record {
    same_dim = refl;
    gens_dim = kept_dim p.topology p.cons p.gens kept.stored;
    fit = fit;
    proper = spans_law p.gens member.point spanned;
    pair = law p kept;
  }

  systems_q : AreSystems p.cons.dim q.cons q.gens
  systems_q = record {
    same_dim = same_dim;
    gens_dim = kept_dim q.topology q.cons q.gens kept_q.stored ∙ same_dim;
    fit = fit_q;
    proper = spans_law q.gens member_q.point spanned_q;
    pair = λ v point. law q kept_q v (subst (λ n. IsPoint n v) (sym same_dim) point);
  }

  point_within : spanned.point.index < length (p.gens.list ++ new)
  point_within = omega (arith, length-append p.gens.list new, spanned.point.within)

  point_kind : kind_at (p.gens.list ++ new) spanned.point.index ≡ Point
  point_kind = ap (λ (g : Generator). g.1) (get_or-append p.gens.list new ([], Line) spanned.point.index spanned.point.within) ∙ spanned.point.kind

  has_point : HasPoint (p.gens.list ++ new)
  has_point = record { index = spanned.point.index; within = point_within; kind = point_kind }

  module _ (t : Topology) (joined : Generators) (same_t : t ≡ p.topology) (is_joined : joined ≡ followed p.gens new) where
    pub joined_kinds : AreGeneratorsFor t joined
    joined_kinds =
        subst (λ gs. AreGeneratorsFor t gs) (sym is_joined)
        (subst (λ u. AreGeneratorsFor u (followed p.gens new)) (sym same_t) (followed_kinds p.topology p.cons p.gens new kept.stored (directions_closed p.gens.dim q.gens.list new are)))

    pub joined_has_point : LacksPoint joined.list → ⊥
    joined_has_point lacks = (subst (λ (gs : Generators). LacksPoint gs.list) is_joined lacks).none spanned.point.index point_within point_kind

    module _ (r : Polyhedron) (of : IsOfGenerators t joined r) where
      result_dim : r.cons.dim ≡ p.cons.dim
      result_dim = of.over.same_dim ∙ ap (λ (gs : Generators). gs.dim) is_joined ∙ kept_dim p.topology p.cons p.gens kept.stored

      result_topology : r.topology ≡ p.topology
      result_topology = of.over.same_topology ∙ same_t

      joined_points : (v : List ℤ) → IsPoint p.cons.dim v → In r.cons v ↔ Span (followed p.gens new) v
      joined_points v point =
          let e = of.points v (subst (λ n. IsPoint n v) (sym (ap (λ (gs : Generators). gs.dim) is_joined ∙ kept_dim p.topology p.cons p.gens kept.stored)) point) in
          ((λ h. subst (λ gs. Span gs v) is_joined (e.1 h)), (λ s. e.0 (subst (λ gs. Span gs v) (sym is_joined) s)))

      pub joined_elapse : FitGenerators joined → IsKept r → FitDimension r.cons → IsElapse p q r
      joined_elapse fit_joined kept_r fit_r = record {
        over = record { same_topology = result_topology; same_dim = result_dim };
        points =
            elapse_points p.cons.dim p.cons q.cons r.cons p.gens q.gens new systems systems_q are
            (record {
              same_dim = result_dim;
              gens_dim = kept_dim p.topology p.cons p.gens kept.stored;
              fit = subst FitGenerators is_joined fit_joined;
              proper = inr has_point;
              pair = joined_points;
            })
            member.point member_q.point member.within member_q.within p.topology fit_r
            (subst (λ u. AreConstraintsFor u r.cons) result_topology (kept_constraints r.topology r.cons r.gens kept_r.stored));
      }

    not_none : (joined.list ≡ []) → ⊥
    not_none e =
        let none = ap (λ (xs : List Generator). length xs) (sym (ap (λ (gs : Generators). gs.list) is_joined) ∙ e) in
        omega (arith, none, point_within)

    pub joined_stored : (r : Polyhedron) → AreStoredOfGenerators t joined r → AreStoredOfList p q r
    joined_stored r (inl a) = absurd (not_none a.given)
    joined_stored r (inr s) = record {
      rows = generators_of p.topology (followed p.gens new);
      is_list = record { directions = new; are_directions = are; listed = refl };
      stored =
          subst (λ u. AreStoredOfVectors u p.gens.dim (generators_of u (followed p.gens new)) r) same_t
          (subst (λ (gs : Generators). AreStoredOfVectors t gs.dim (generators_of t gs) r) is_joined s);
    }

    pub joined_conversion : (before after : ℕ) (over : Option Overflow) → IsConversion (gens_work t joined) before after over → IsElapseConversion p q before after over
    joined_conversion before after over h = record {
      some = some;
      moving = moving;
      directions = new;
      are_directions = are;
      conversion =
          subst (λ u. IsConversion (gens_work u (followed p.gens new)) before after over) same_t
          (subst (λ (gs : Generators). IsConversion (gens_work t gs) before after over) is_joined h);
    }

-- ---- refusals
pub elapse_clause : (p q : Polyhedron) (old new : ℕ) (r : Result Polyhedron ConvErr) → ConvertsElapse p q old new r → IfErr r (IsOverflowIn (LeavesOnElapse p q))
elapse_clause p q old new (Ok made) h = tt
elapse_clause p q old new (Err (conversion.Overflow over)) (inl h) = absurd (let never : Some over ≡ None = h.1 in cc)
elapse_clause p q old new (Err (conversion.Overflow over)) (inr h) = record {
  some = h.some;
  moving = h.moving;
  rows = generators_of p.topology (followed p.gens h.directions);
  is_list = record { directions = h.directions; are_directions = h.are_directions; listed = refl };
  leaves = h.conversion.overflow;
}
elapse_clause p q old new (Err conversion.Memory) h = tt

-- ---- the joined list
pub same_followed : (joined gs hs : Generators) (new : List Generator) → joined.dim ≡ hs.dim → joined.list ≡ hs.list ++ new → hs ≡ gs → joined ≡ followed gs new
same_followed joined gs hs new d l e = same_both joined.dim hs.dim joined.list (hs.list ++ new) d l ∙ ap (λ xs. followed xs new) e
  where
    of_both : ℕ → List Generator → Generators
    of_both n xs = record { dim = n; list = xs }

    same_both : (m n : ℕ) (xs ys : List Generator) → m ≡ n → xs ≡ ys → of_both m xs ≡ of_both n ys
    same_both m n xs ys d l = ap (λ k. of_both k xs) d ∙ ap (λ zs. of_both n zs) l

pub same_directions : (p q : Polyhedron) (hs : Generators) (new : List Generator) → IsKept p → IsKept q → q.cons.dim ≡ p.cons.dim → hs ≡ q.gens → AreDirections hs.dim hs.list new → AreDirections p.gens.dim q.gens.list new
same_directions p q hs new kept kept_q same e are =
    subst (λ n. AreDirections n q.gens.list new) (kept_dim q.topology q.cons q.gens kept_q.stored ∙ same ∙ sym (kept_dim p.topology p.cons p.gens kept.stored))
    (subst (λ (gs : Generators). AreDirections gs.dim gs.list new) e are)
