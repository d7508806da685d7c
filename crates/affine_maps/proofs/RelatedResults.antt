-- The polyhedra of related images.
use Rattle.std.specs.Prelude.{IfErr}
use Rattle.std.proofs.Common.{◌≡◌, inl, inr, ℕ, ◌+◌, ◌<◌, ◌≤◌, Option, Some, None, Result, Ok, Err, List, [], ◌∷◌, ◌++◌, length, ℤ, refl, sym, ap, ◌∙◌, subst, arith, All}
use Rattle.std.specs.List.{range_with_len}
use Rattle.std.proofs.lemmas.List.Elements.{All-nil, All-cons, All-append, All-set}
use Rattle.row_core.specs.Points.{IsPoint}
use Rattle.row_core.specs.declared.errors.Overflow.{Overflow}
use Rattle.row_core.specs.declared.errors.ConvErr.{ConvErr}
use Rattle.row_core.specs.declared.errors.ConvErr.TheVariants as conversion
use Rattle.cons_sys.specs.Constraints.{Constraint, Constraints, FitDimension, Gains}
use Rattle.stored_systems.specs.PointSets.{AreWide, IsClosedKind}
use Rattle.poly_pair.specs.declared.topology.Topology.{Topology}
use Rattle.poly_pair.specs.declared.topology.Topology.TheVariants.{Closed, Nnc}
use Rattle.poly_pair.specs.TopologyLists.{AreConstraintsFor}
use Rattle.affine_maps.specs.declared.relations.ImageRel.{ImageRel}
use Rattle.affine_maps.specs.declared.relations.ImageRel.TheVariants.{Eq, Ge, Le, Gt, Lt}
use Rattle.mapped_systems.specs.Maps.{with_zeros, picked}
use Rattle.mapped_systems.specs.MappedLists.{IsPulledSystem}
use Rattle.row_core.specs.Refusals.{IsOverflowIn}
use Rattle.poly_pair.specs.Work.{cons_work, conv_overflow, overflow_in}
use Rattle.affine_maps.specs.Shadows.{IsShadow, IsStoredOfShadow, IsShadowConversion}
use Rattle.affine_maps.proofs.ShadowSets.{shadow_fewer, shadow_leaves}
use Rattle.affine_maps.specs.Relations.{relation_row, relation_kind, IsExtended, IsRelationFor, moved, image_columns, IsPreimageBy, IsImageBy, IsStoredOfRelation, LeavesOnRelation, IsRelationConversion, ConvertsRelation}
use Rattle.poly_pair.specs.Polyhedra.{Polyhedron, IsKept}
use Rattle.mapped_systems.proofs.KeptVariables.{range_more, by_suc, range_below}
use Rattle.affine_maps.proofs.MappedPolyhedra.{pulled_kinds}
use Rattle.std.proofs.lemmas.List.FromFn.{length-range_with_len}
use Rattle.affine_maps.proofs.RelatedImages.{columns_length, image_law}
use Rattle.affine_maps.proofs.RelatedPreimages.{preimage_law}

pub extended_of : (h : List ℤ → List ℤ) (rel : ImageRel) (expr : List ℤ) (den : ℤ) (cs front all : Constraints) → IsPulledSystem h (cs.dim + 1) cs front → all.dim ≡ front.dim → Gains front.list all.list (relation_row rel cs.dim expr den) (relation_kind rel) → IsExtended h rel expr den cs all
extended_of h rel expr den cs front all p d g = record {
  same_dim = d ∙ p.same_dim;
  front = front.list;
  pulled = p.pulled;
  stored = g.stored;
  primitive = g.primitive;
  joined = g.list;
}

pub image_by : (rel : ImageRel) (var : ℕ) (expr : List ℤ) (den : ℤ) (p : Polyhedron) (all : Constraints) → var < p.cons.dim → length expr ≡ p.cons.dim + 1 → IsExtended (with_zeros p.cons.dim 1) rel expr den p.cons all → (r : Polyhedron) → IsShadow p.topology (picked (image_columns p.cons.dim var) all.dim) (length (image_columns p.cons.dim var)) all r → IsImageBy rel var expr den p r
image_by rel var expr den p all below wide is r s =
    let l : length (image_columns p.cons.dim var) ≡ p.cons.dim = columns_length p.cons.dim var below in
    record {
      over = record { same_topology = s.over.same_topology; same_dim = s.over.same_dim ∙ l };
      points = λ v pt. (
        (λ h. (image_law rel var expr den p.cons all v below wide is pt).0 ((s.points v (at_dim v l pt)).0 h)),
        (λ q. (s.points v (at_dim v l pt)).1 ((image_law rel var expr den p.cons all v below wide is pt).1 q)),
      );
    }
  where
    at_dim : (v : List ℤ) → length (image_columns p.cons.dim var) ≡ p.cons.dim → IsPoint p.cons.dim v → IsPoint (length (image_columns p.cons.dim var)) v
    at_dim v l pt = subst (λ (n : ℕ). IsPoint n v) (sym l) pt

-- ---- in the calls
pub range_push : (n : ℕ) → range_with_len 0 (n + 1) ≡ range_with_len 0 n ++ n ∷ []
range_push n = ap (range_with_len 0) (by_suc n) ∙ range_more 0 n n (omega arith)

pub columns_below : (dim var : ℕ) → All (λ (j : ℕ). j < dim + 1) (image_columns dim var)
columns_below dim var = All-set (λ (j : ℕ). j < dim + 1) (range_with_len 0 dim) var dim (omega arith) (λ i d h. let r = range_below dim i d h in omega (arith, r))

relation_closed : (rel : ImageRel) → IsRelationFor Closed rel → IsClosedKind (relation_kind rel)
relation_closed Eq h = tt
relation_closed Ge h = tt
relation_closed Le h = tt
relation_closed Gt h = cc
relation_closed Lt h = cc

abbrev IsClosed : Constraint → Type 0
IsClosed c = IsClosedKind c.1

kinds_of : (topology : Topology) (rel : ImageRel) (front : List Constraint) (stored : List ℤ) (dim : ℕ) (all : Constraints) → IsRelationFor topology rel → all.list ≡ front ++ (stored, relation_kind rel) ∷ [] → AreConstraintsFor topology (record { dim = dim; list = front }) → AreConstraintsFor topology all
kinds_of Closed rel front stored dim all h e k = subst (All IsClosed) (sym e) (All-append IsClosed front ((stored, relation_kind rel) ∷ []) k (All-cons IsClosed (stored, relation_kind rel) [] (relation_closed rel h) (All-nil IsClosed)))
kinds_of Nnc rel front stored dim all h e k = tt

pub extended_kinds : (topology : Topology) (h : List ℤ → List ℤ) (rel : ImageRel) (expr : List ℤ) (den : ℤ) (p : Polyhedron) (all : Constraints) → topology ≡ p.topology → IsKept p → IsRelationFor p.topology rel → IsExtended h rel expr den p.cons all → AreConstraintsFor topology all
extended_kinds topology h rel expr den p all e k strict is =
    subst (λ (t : Topology). AreConstraintsFor t all) (sym e)
    (kinds_of p.topology rel is.front is.stored (p.cons.dim + 1) all strict is.joined
    (pulled_kinds h p.topology (p.cons.dim + 1) p (record { dim = p.cons.dim + 1; list = is.front }) refl k (record { same_dim = refl; pulled = is.pulled })))

-- the system that the calls make of what the polyhedron lends
pub lent_extended : (p : Polyhedron) (cs : Constraints) (dim : ℕ) → cs ≡ p.cons → dim ≡ p.cons.dim → (rel : ImageRel) (expr : List ℤ) (den : ℤ) (read : ℤ) → read ≡ den → (front all : Constraints) → IsPulledSystem (with_zeros dim 1) (cs.dim + 1) cs front → all.dim ≡ front.dim → Gains front.list all.list (relation_row rel dim expr read) (relation_kind rel) → IsExtended (with_zeros p.cons.dim 1) rel expr den p.cons all
lent_extended p cs dim same e rel expr den read is_den front all pulled d g =
    extended_of (with_zeros p.cons.dim 1) rel expr den p.cons front all
    (subst (λ (n : ℕ). IsPulledSystem (with_zeros n 1) (p.cons.dim + 1) p.cons front) e (subst (λ (ds : Constraints). IsPulledSystem (with_zeros dim 1) (ds.dim + 1) ds front) same pulled))
    d (subst (λ (n : ℕ). Gains front.list all.list (relation_row rel n expr den) (relation_kind rel)) e (subst (λ (z : ℤ). Gains front.list all.list (relation_row rel dim expr z) (relation_kind rel)) is_den g))

-- the columns at the dimension of the polyhedron
pub lent_points : (p : Polyhedron) (rel : ImageRel) (var : ℕ) (expr : List ℤ) (den : ℤ) (all : Constraints) (topology : Topology) (columns : List ℕ) → topology ≡ p.topology → columns ≡ image_columns p.cons.dim var → var < p.cons.dim → length expr ≡ p.cons.dim + 1 → IsExtended (with_zeros p.cons.dim 1) rel expr den p.cons all → (r : Polyhedron) → IsShadow topology (picked columns all.dim) (length columns) all r → IsImageBy rel var expr den p r
lent_points p rel var expr den all topology columns t c below wide is r s =
    image_by rel var expr den p all below wide is r
    (subst (λ (js : List ℕ). IsShadow p.topology (picked js all.dim) (length js) all r) c (subst (λ (u : Topology). IsShadow u (picked columns all.dim) (length columns) all r) t s))

-- ---- preimages
pub front_below : (dim : ℕ) → All (λ (j : ℕ). j < dim + 1) (range_with_len 0 dim)
front_below dim i d h = let r = range_below dim i d h in omega (arith, r)

-- the system of any map that depends on the dimension alone
pub lent_moved : (h : ℕ → List ℤ → List ℤ) (p : Polyhedron) (cs : Constraints) (dim : ℕ) → cs ≡ p.cons → dim ≡ p.cons.dim → (rel : ImageRel) (expr : List ℤ) (den : ℤ) (read : ℤ) → read ≡ den → (front all : Constraints) → IsPulledSystem (h cs.dim) (cs.dim + 1) cs front → all.dim ≡ front.dim → Gains front.list all.list (relation_row rel dim expr read) (relation_kind rel) → IsExtended (h p.cons.dim) rel expr den p.cons all
lent_moved h p cs dim same e rel expr den read is_den front all pulled d g =
    extended_of (h p.cons.dim) rel expr den p.cons front all
    (subst (λ (ds : Constraints). IsPulledSystem (h ds.dim) (ds.dim + 1) ds front) same pulled)
    d (subst (λ (n : ℕ). Gains front.list all.list (relation_row rel n expr den) (relation_kind rel)) e (subst (λ (z : ℤ). Gains front.list all.list (relation_row rel dim expr z) (relation_kind rel)) is_den g))

preimage_by : (rel : ImageRel) (var : ℕ) (expr : List ℤ) (den : ℤ) (p : Polyhedron) (all : Constraints) → var < p.cons.dim → length expr ≡ p.cons.dim + 1 → AreWide p.cons → IsExtended (moved p.cons.dim var) rel expr den p.cons all → (r : Polyhedron) → IsShadow p.topology (picked (range_with_len 0 p.cons.dim) all.dim) (length (range_with_len 0 p.cons.dim)) all r → IsPreimageBy rel var expr den p r
preimage_by rel var expr den p all below wide rows is r s =
    let l : length (range_with_len 0 p.cons.dim) ≡ p.cons.dim = length-range_with_len 0 p.cons.dim in
    record {
      over = record { same_topology = s.over.same_topology; same_dim = s.over.same_dim ∙ l };
      points = λ v pt. (
        (λ h. (preimage_law rel var expr den p.cons all v below wide rows is pt).0 ((s.points v (at_dim v l pt)).0 h)),
        (λ q. (s.points v (at_dim v l pt)).1 ((preimage_law rel var expr den p.cons all v below wide rows is pt).1 q)),
      );
    }
  where
    at_dim : (v : List ℤ) → length (range_with_len 0 p.cons.dim) ≡ p.cons.dim → IsPoint p.cons.dim v → IsPoint (length (range_with_len 0 p.cons.dim)) v
    at_dim v l pt = subst (λ (n : ℕ). IsPoint n v) (sym l) pt

pub lent_preimage : (p : Polyhedron) (rel : ImageRel) (var : ℕ) (expr : List ℤ) (den : ℤ) (all : Constraints) (topology : Topology) (columns : List ℕ) → topology ≡ p.topology → columns ≡ range_with_len 0 p.cons.dim → var < p.cons.dim → length expr ≡ p.cons.dim + 1 → (cs : Constraints) → cs ≡ p.cons → FitDimension cs → IsExtended (moved p.cons.dim var) rel expr den p.cons all → (r : Polyhedron) → IsShadow topology (picked columns all.dim) (length columns) all r → IsPreimageBy rel var expr den p r
lent_preimage p rel var expr den all topology columns t c below wide cs same fit is r s =
    preimage_by rel var expr den p all below wide (λ i d h. ((subst FitDimension same fit).each i d h).wide) is r
    (subst (λ (js : List ℕ). IsShadow p.topology (picked js all.dim) (length js) all r) c (subst (λ (u : Topology). IsShadow u (picked columns all.dim) (length columns) all r) t s))

-- ---- what is stored
pub relation_stored : (h : List ℤ → List ℤ) (columns js : List ℕ) (rel : ImageRel) (expr : List ℤ) (den : ℤ) (p : Polyhedron) (all : Constraints) (topology : Topology) → topology ≡ p.topology → js ≡ columns → IsExtended h rel expr den p.cons all → (r : Polyhedron) → IsStoredOfShadow topology (picked js all.dim) (length js) all r → IsStoredOfRelation h columns rel expr den p r
relation_stored h columns js rel expr den p all topology t c is r s = record {
  extended = all;
  is_extended = is;
  stored = subst (λ (ks : List ℕ). IsStoredOfShadow p.topology (picked ks all.dim) (length ks) all r) c (subst (λ (u : Topology). IsStoredOfShadow u (picked js all.dim) (length js) all r) t s);
}

-- ---- what the calls cost and show
module _ (h : List ℤ → List ℤ) (columns : List ℕ) (rel : ImageRel) (expr : List ℤ) (den : ℤ) (p : Polyhedron) where
  pub relation_conversion : (js : List ℕ) (all : Constraints) (topology : Topology) (old new : ℕ) (over : Option Overflow) → topology ≡ p.topology → js ≡ columns → IsExtended h rel expr den p.cons all → IsShadowConversion (cons_work topology all) topology (picked js all.dim) (length js) all old new over → IsRelationConversion h columns rel expr den p old new over
  relation_conversion js all topology old new over t c is s = record {
    extended = all;
    is_extended = is;
    conversion = subst (λ (ks : List ℕ). IsShadowConversion (cons_work p.topology all) p.topology (picked ks all.dim) (length ks) all old new over) c (subst (λ (u : Topology). IsShadowConversion (cons_work u all) u (picked js all.dim) (length js) all old new over) t s);
  }

  pub relation_fewer : (old new : ℕ) (r : Result Polyhedron ConvErr) → ConvertsRelation h columns rel expr den p old new r → old ≤ new
  relation_fewer old new r (inl s) = omega (arith, s.0)
  relation_fewer old new r (inr s) = shadow_fewer (cons_work p.topology s.extended) p.topology (picked columns s.extended.dim) (length columns) s.extended old new (overflow_in conv_overflow r) s.conversion

  pub relation_clause : (old new : ℕ) (r : Result Polyhedron ConvErr) → ConvertsRelation h columns rel expr den p old new r → IfErr r (IsOverflowIn (LeavesOnRelation h columns rel expr den p))
  relation_clause old new (Ok made) s = tt
  relation_clause old new (Err (conversion.Overflow over)) (inl s) = absurd (let never : Some over ≡ None = s.1 in cc)
  relation_clause old new (Err (conversion.Overflow over)) (inr s) = record {
    extended = s.extended;
    is_extended = s.is_extended;
    leaves = shadow_leaves (cons_work p.topology s.extended) p.topology (picked columns s.extended.dim) (length columns) s.extended old new over s.conversion;
  }
  relation_clause old new (Err conversion.Memory) s = tt
