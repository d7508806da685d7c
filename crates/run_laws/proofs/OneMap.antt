-- Operands that are the same give the same images, preimages, products and time elapses.
use Rattle.std.proofs.Common.{◌≡◌, ◌≢◌, ℕ, ◌+◌, ◌<◌, List, drop, length, refl, ap, sym, ◌∙◌, subst, arith}
use Rattle.std.specs.Prelude.{◌↔◌, ℤ, pos, ◌*ℤ◌, ◌<ℤ◌}
use Rattle.std.proofs.lemmas.Int.{ints}
use Rattle.row_core.specs.Vectors.{cell, dot}
use Rattle.row_core.specs.Points.{IsPoint}
use Rattle.cons_sys.specs.Constraints.{In}
use Rattle.term_text.specs.Texts.{IsFrac}
use Rattle.stored_systems.specs.PointSets.{IsWithin}
use Rattle.poly_pair.specs.Polyhedra.{Polyhedron}
use Rattle.poly_pair.specs.declared.topology.Topology.{Topology}
use Rattle.poly_pair.specs.TopologyConstraints.{IsConstraintFor}
use Rattle.affine_maps.specs.declared.relations.ImageRel.{ImageRel}
use Rattle.affine_maps.specs.Relations.{Stands, IsRelatedImage, IsRelatedPreimage, replaced}
use Rattle.mapped_systems.specs.Maps.{without, remaining, kept_variables}
use Rattle.mapped_systems.specs.Sources.{HasSource}
use Rattle.dimensions.specs.Results.{IsImage, IsPreimage, IsPadded, IsProjection, IsOfBoth, IsProduct}
use Rattle.elapse.specs.ElapsedPoints.{IsMoved, IsElapsed, IsInElapse}
use Rattle.elapse.specs.Elapses.{IsElapse}
use Rattle.script_text.specs.declared.command.Part.{Part}
use Rattle.script_text.specs.declared.command.Rel.{Rel}
use Rattle.script_text.specs.declared.command.Mapping.{Mapping}
use Rattle.script_text.specs.declared.command.Mapping.TheVariants.{Image, Preimage}
use Rattle.script_text.specs.declared.command.Operator.{Operator}
use Rattle.script_text.specs.declared.command.Operator.TheVariants as operator
use Rattle.script_text.specs.declared.command.Extension.{Extension}
use Rattle.script_text.specs.declared.command.Extension.TheVariants.{Embed, Project}
use Rattle.poly_makers.specs.Affine.{SaysReplacement, IsRemoved, image_rel, IsSetOfMap, IsMapped, IsMappedBy}
use Rattle.poly_makers.specs.Operators.{Fits, IsMadeBy, IsExtended}
use Rattle.line_values.specs.Proper.{IsProper}
use Rattle.run_laws.specs.Sets.{IsOfFit}
use Rattle.run_laws.specs.Sameness.{AreSamePolyhedra}
use Rattle.run_laws.proofs.MovedPoints.{front_point, back_point, replaced_point}
use Rattle.run_laws.proofs.OneForm.{OneForm}
use Rattle.run_laws.proofs.OneResult.{same_back, one_of_same, one_meet, one_hull}

-- ---- points of the same sets
within_same : (x y : Polyhedron) (v : List ℤ) → AreSamePolyhedra x y → IsWithin x.cons v → IsWithin y.cons v
within_same x y v same w = record { point = subst (λ (n : ℕ). IsPoint n v) same.dim w.point; holds = (same.points v w.point).0 w.holds }

source_same : (f : List ℤ → List ℤ) (x y : Polyhedron) (v : List ℤ) → AreSamePolyhedra x y → HasSource f x.cons v → HasSource f y.cons v
source_same f x y v same h = record { source = h.source; within = within_same x y h.source same h.within; same = h.same }

one_image : OneForm → (f : List ℤ → List ℤ) (to : ℕ) (x y r s : Polyhedron) → AreSamePolyhedra x y → IsProper r → IsProper s → IsImage f to x r → IsImage f to y s → AreSamePolyhedra r s
one_image laws f to x y r s same a b h k =
    one_of_same laws x.topology y.topology to to (HasSource f x.cons) (HasSource f y.cons) r s same.topology refl (λ v is. (source_same f x y v same, source_same f y x v (same_back x y same))) a b h.over k.over h.points k.points

one_preimage : OneForm → (f : List ℤ → List ℤ) (to : ℕ) (x y r s : Polyhedron) → AreSamePolyhedra x y → ((v : List ℤ) → IsPoint to v → IsPoint x.cons.dim (f v)) → IsProper r → IsProper s → IsPreimage f to x r → IsPreimage f to y s → AreSamePolyhedra r s
one_preimage laws f to x y r s same maps a b h k =
    one_of_same laws x.topology y.topology to to (λ v. In x.cons (f v)) (λ v. In y.cons (f v)) r s same.topology refl (λ v is. same.points (f v) (maps v is)) a b h.over k.over h.points k.points

-- ---- the dimension
one_embedded : OneForm → (n : ℕ) (x y r s : Polyhedron) → AreSamePolyhedra x y → IsProper r → IsProper s → IsPreimage (without x.cons.dim (x.cons.dim + n)) (x.cons.dim + n) x r → IsPreimage (without y.cons.dim (y.cons.dim + n)) (y.cons.dim + n) y s → AreSamePolyhedra r s
one_embedded laws n x y r s same a b h k =
    one_preimage laws (without x.cons.dim (x.cons.dim + n)) (x.cons.dim + n) x y r s same (front_point x.cons.dim n) a b h (subst (λ (d : ℕ). IsPreimage (without d (d + n)) (d + n) y s) (sym same.dim) k)

pub one_removed : OneForm → (vars : List ℕ) (x y r s : Polyhedron) → AreSamePolyhedra x y → IsProper r → IsProper s → IsRemoved vars x r → IsRemoved vars y s → AreSamePolyhedra r s
one_removed laws vars x y r s same a b h k =
    one_image laws (remaining x.cons.dim vars) (length (kept_variables x.cons.dim vars)) x y r s same a b h.set (subst (λ (d : ℕ). IsImage (remaining d vars) (length (kept_variables d vars)) y s) (sym same.dim) k.set)

one_projection : OneForm → (n : ℕ) (x y r s : Polyhedron) → AreSamePolyhedra x y → IsProper r → IsProper s → IsProjection n x r → IsProjection n y s → AreSamePolyhedra r s
one_projection laws n x y r s same a b h k =
    one_of_same laws x.topology y.topology (x.cons.dim + n) (y.cons.dim + n) (Padded x) (Padded y) r s same.topology wider both a b h.over k.over h.points k.points
  where
    Padded : Polyhedron → List ℤ → Type 0
    Padded p v = IsPadded p.cons.dim (p.cons.dim + n) p v

    wider : x.cons.dim + n ≡ y.cons.dim + n
    wider = ap (λ (d : ℕ). d + n) same.dim

    padded_same : (p q : Polyhedron) (v : List ℤ) → AreSamePolyhedra p q → IsPoint (p.cons.dim + n) v → Padded p v → Padded q v
    padded_same p q v e is i =
        let moved : IsPadded p.cons.dim (p.cons.dim + n) q v = record { zero = i.zero; within = (e.points (without p.cons.dim (p.cons.dim + n) v) (front_point p.cons.dim n v is)).0 i.within } in
        subst (λ (d : ℕ). IsPadded d (d + n) q v) e.dim moved

    both : (v : List ℤ) → IsPoint (x.cons.dim + n) v → Padded x v ↔ Padded y v
    both v is = (padded_same x y v same is, padded_same y x v (same_back x y same) (subst (λ (d : ℕ). IsPoint d v) wider is))

-- further variables, free or 0
pub one_extended : OneForm → (by : Extension) (n : ℕ) (x y r s : Polyhedron) → AreSamePolyhedra x y → IsProper r → IsProper s → IsExtended by n x r → IsExtended by n y s → AreSamePolyhedra r s
one_extended laws Embed n x y r s same a b h k = one_embedded laws n x y r s same a b h.set k.set
one_extended laws Project n x y r s same a b h k = one_projection laws n x y r s same a b h.set k.set

-- ---- two operands
both_same : (x y v w : Polyhedron) (p : List ℤ) → AreSamePolyhedra x y → AreSamePolyhedra v w → IsPoint (x.cons.dim + v.cons.dim) p → IsOfBoth x v p → IsOfBoth y w p
both_same x y v w p same others is i = record {
  front = subst (λ (d : ℕ). In y.cons (without d (d + w.cons.dim) p)) same.dim (subst (λ (d : ℕ). In y.cons (without x.cons.dim (x.cons.dim + d) p)) others.dim
      ((same.points (without x.cons.dim (x.cons.dim + v.cons.dim) p) (front_point x.cons.dim v.cons.dim p is)).0 i.front));
  back = subst (λ (d : ℕ). In w.cons (drop d p)) same.dim ((others.points (drop x.cons.dim p) (back_point x.cons.dim v.cons.dim p is)).0 i.back);
}

one_product : OneForm → (x y v w r s : Polyhedron) → AreSamePolyhedra x y → AreSamePolyhedra v w → IsProper r → IsProper s → IsProduct x v r → IsProduct y w s → AreSamePolyhedra r s
one_product laws x y v w r s same others a b h k =
    one_of_same laws x.topology y.topology (x.cons.dim + v.cons.dim) (y.cons.dim + w.cons.dim) (IsOfBoth x v) (IsOfBoth y w) r s same.topology wider
    (λ p is. (both_same x y v w p same others is, both_same y x w v p (same_back x y same) (same_back v w others) (subst (λ (d : ℕ). IsPoint d p) wider is))) a b h.over k.over h.points k.points
  where
    wider : x.cons.dim + v.cons.dim ≡ y.cons.dim + w.cons.dim
    wider = ap (λ (d : ℕ). d + v.cons.dim) same.dim ∙ ap (λ (d : ℕ). y.cons.dim + d) others.dim

elapsed_same : (x y v w : Polyhedron) (p : List ℤ) → AreSamePolyhedra x y → AreSamePolyhedra v w → IsElapsed x.cons v.cons p → IsElapsed y.cons w.cons p
elapsed_same x y v w p same others i = record {
  start = i.start;
  start_within = within_same x y i.start same i.start_within;
  velocity = i.velocity;
  velocity_within = within_same v w i.velocity others i.velocity_within;
  moved = subst (λ (d : ℕ). IsMoved d i.start i.velocity p) same.dim i.moved;
}

elapse_same : (x y v w : Polyhedron) (p : List ℤ) → AreSamePolyhedra x y → AreSamePolyhedra v w → IsInElapse x.topology x.cons v.cons p → IsInElapse y.topology y.cons w.cons p
elapse_same x y v w p same others each c fits valid =
    each c (subst (λ (t : Topology). IsConstraintFor t x.cons.dim c) (sym same.topology) (subst (λ (n : ℕ). IsConstraintFor y.topology n c) (sym same.dim) fits)) (λ z i. valid z (elapsed_same x y v w z same others i))

one_elapse : OneForm → (x y v w r s : Polyhedron) → AreSamePolyhedra x y → AreSamePolyhedra v w → IsProper r → IsProper s → IsElapse x v r → IsElapse y w s → AreSamePolyhedra r s
one_elapse laws x y v w r s same others a b h k =
    one_of_same laws x.topology y.topology x.cons.dim y.cons.dim (IsInElapse x.topology x.cons v.cons) (IsInElapse y.topology y.cons w.cons) r s same.topology same.dim
    (λ p is. (elapse_same x y v w p same others, elapse_same y x w v p (same_back x y same) (same_back v w others))) a b h.over k.over h.points k.points

-- by one operator
pub one_operated : OneForm → (op : Operator) (x y v w r s : Polyhedron) → AreSamePolyhedra x y → AreSamePolyhedra v w → IsProper r → IsProper s → IsOfFit (Fits op) (IsMadeBy op) x v r → IsOfFit (Fits op) (IsMadeBy op) y w s → AreSamePolyhedra r s
one_operated laws operator.Meet x y v w r s same others a b h k = one_meet laws x y v w r s same others a b h.fit.1 h.is.set k.is.set
one_operated laws operator.Hull x y v w r s same others a b h k = one_hull laws x y v w r s same others a b h.is.set k.is.set
one_operated laws operator.Concat x y v w r s same others a b h k = one_product laws x y v w r s same others a b h.is.set k.is.set
one_operated laws operator.Elapse x y v w r s same others a b h k = one_elapse laws x y v w r s same others a b h.is.set k.is.set

-- ---- maps
positive_divisor : (d : ℕ) (z : ℤ) → z ≡ pos d → 0 < d → pos 0 <ℤ z
positive_divisor d z e h = omega (arith, ints, e, h)

-- the text says one expression and one divisor
one_says_replacement : OneForm → (dim other v : ℕ) (part : Part) (P Q : List ℤ → ℤ → Type 0) (E : Type 0) → dim ≡ other → ((expr : List ℤ) (den : ℤ) → v < dim → pos 0 <ℤ den → P expr den → Q expr den → E) → SaysReplacement dim v part P → SaysReplacement other v part Q → E
one_says_replacement laws dim other v part P Q E e both h k =
    let pair : (h.expr, h.divisor) ≡ (k.expr, k.divisor) = (laws.frac other part.text).one_value (h.expr, h.divisor) (k.expr, k.divisor) (subst (λ (n : ℕ). IsFrac n part.text h.expr h.divisor) e h.read) k.read in
    both k.expr k.divisor h.within (positive_divisor _ k.divisor k.read.holds.same k.read.holds.positive) (subst (λ (x : List ℤ × ℤ). P x.0 x.1) pair h.holds) k.holds

-- the image, or preimage, by a relation depends on the points alone
related_image_same : (rel : ImageRel) (var : ℕ) (expr : List ℤ) (den : ℤ) (x y : Polyhedron) (v : List ℤ) → AreSamePolyhedra x y → IsRelatedImage rel var expr den x.cons v → IsRelatedImage rel var expr den y.cons v
related_image_same rel var expr den x y v same h = record {
  source = h.source;
  within = within_same x y h.source same h.within;
  others = subst (λ (d : ℕ). (j : ℕ) → j < d → j ≢ var → cell v j *ℤ cell h.source d ≡ cell h.source j *ℤ cell v d) same.dim h.others;
  stands = subst (λ (d : ℕ). Stands rel (cell v var *ℤ (den *ℤ cell h.source d)) (dot expr h.source *ℤ cell v d)) same.dim h.stands;
}

related_preimage_same : (rel : ImageRel) (var : ℕ) (expr : List ℤ) (den : ℤ) (x y : Polyhedron) (v : List ℤ) → var < x.cons.dim → IsPoint x.cons.dim v → AreSamePolyhedra x y → IsRelatedPreimage rel var expr den x.cons v → IsRelatedPreimage rel var expr den y.cons v
related_preimage_same rel var expr den x y v below is same h = record {
  num = h.num;
  below = h.below;
  positive = h.positive;
  stands = subst (λ (d : ℕ). Stands rel (h.num *ℤ (den *ℤ cell v d)) (dot expr v *ℤ h.below)) same.dim h.stands;
  within = subst (λ (d : ℕ). In y.cons (replaced d var h.num h.below v)) same.dim ((same.points (replaced x.cons.dim var h.num h.below v) (replaced_point x.cons.dim var h.num h.below v below h.positive is)).0 h.within);
}

one_set_of_map : OneForm → (op : Mapping) (rel : ImageRel) (v : ℕ) (expr : List ℤ) (den : ℤ) (x y r s : Polyhedron) → v < x.cons.dim → AreSamePolyhedra x y → IsProper r → IsProper s → IsSetOfMap op rel v expr den x r → IsSetOfMap op rel v expr den y s → AreSamePolyhedra r s
one_set_of_map laws Image rel v expr den x y r s below same a b h k =
    one_of_same laws x.topology y.topology x.cons.dim y.cons.dim (IsRelatedImage rel v expr den x.cons) (IsRelatedImage rel v expr den y.cons) r s same.topology same.dim
    (λ p is. (related_image_same rel v expr den x y p same, related_image_same rel v expr den y x p (same_back x y same))) a b h.over k.over h.points k.points
one_set_of_map laws Preimage rel v expr den x y r s below same a b h k =
    one_of_same laws x.topology y.topology x.cons.dim y.cons.dim (IsRelatedPreimage rel v expr den x.cons) (IsRelatedPreimage rel v expr den y.cons) r s same.topology same.dim
    (λ p is. (related_preimage_same rel v expr den x y p below is same, related_preimage_same rel v expr den y x p (subst (λ (d : ℕ). v < d) same.dim below) (subst (λ (d : ℕ). IsPoint d p) same.dim is) (same_back x y same))) a b h.over k.over h.points k.points

pub one_mapped_by : OneForm → (op : Mapping) (v : ℕ) (rel : Rel) (part : Part) (x y r s : Polyhedron) → AreSamePolyhedra x y → IsProper r → IsProper s → IsMappedBy op v rel part x r → IsMappedBy op v rel part y s → AreSamePolyhedra r s
one_mapped_by laws op v rel part x y r s same a b h k =
    one_says_replacement laws x.cons.dim y.cons.dim v part (λ expr den. IsMapped op (image_rel rel) v expr den x r) (λ expr den. IsMapped op (image_rel rel) v expr den y s) (AreSamePolyhedra r s) same.dim
    (λ expr den below positive i j. one_set_of_map laws op (image_rel rel) v expr den x y r s below same a b i.set j.set) h k
