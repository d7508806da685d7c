-- The sets that commands may make of the same sets are the same.
use Rattle.std.proofs.Common.{◌≡◌, ℕ, ◌+◌, ◌/◌, ◌<◌, ◌≤◌, ◌⊎◌, inl, inr, List, length, drop, refl, ap, sym, ◌∙◌, subst, Bool, false}
use Rattle.std.specs.Prelude.{◌≢◌, ◌↔◌, ℤ, pos, ◌*ℤ◌}
use Rattle.row_core.specs.Vectors.{cell, dot}
use Rattle.row_core.specs.Points.{IsPoint}
use Rattle.cons_sys.specs.Constraints.{Constraint, In}
use Rattle.gens_sys.specs.Generators.{Generator}
use Rattle.gens_sys.specs.Spans.{Span}
use Rattle.stored_systems.specs.PointSets.{IsWithin}
use Rattle.elapse.specs.ElapsedPoints.{IsMoved, IsElapsed}
use Rattle.affine_maps.specs.Relations.{replaced}
use Rattle.mapped_systems.specs.Maps.{without, kept_variables, remaining}
use Rattle.mapped_systems.specs.Sources.{HasSource}
use Rattle.ranking.specs.Functions.{IsRanking}
use Rattle.script_text.specs.declared.command.Extension.{Extension}
use Rattle.script_text.specs.declared.command.Extension.TheVariants.{Embed, Project}
use Rattle.script_text.specs.declared.command.Mapping.{Mapping}
use Rattle.script_text.specs.declared.command.Mapping.TheVariants.{Image, Preimage}
use Rattle.script_text.specs.declared.command.Operator.{Operator}
use Rattle.script_text.specs.declared.command.Operator.TheVariants as operator
use Rattle.script_text.specs.declared.command.Part.{Part}
use Rattle.script_text.specs.declared.command.PowersetOperator.{PowersetOperator}
use Rattle.script_text.specs.declared.command.PowersetOperator.TheVariants as powerset_operator
use Rattle.script_text.specs.declared.command.Rel.{Rel}
use Rattle.script_text.specs.declared.command.ShapeOperator.{ShapeOperator}
use Rattle.script_text.specs.declared.command.ShapeOperator.TheVariants as shape_operator
use Rattle.script_text.specs.declared.command.Space.{Space}
use Rattle.script_text.specs.declared.command.Space.TheVariants.{Universe, Empty}
use Rattle.soundness.specs.Points.{PointSet, IsSetOf, IsConstraintFor, IsInSmallest}
use Rattle.soundness.specs.Values.{Powerset}
use Rattle.soundness.specs.Sets.{constraints, generators, IsSpace, IsCopy, IsAdded, IsClosure, IsOfTwo, IsFrontIn, IsExtended, IsRemoved, Stands, IsImage, IsPreimage, ComesOf, IsMapped}
use Rattle.soundness.specs.Unions.{IsInUnion, IsInBy, AreRankings}
use Rattle.soundness.specs.Shapes.{IsInSmallestShape, IsSmallestShape, IsOfTwoShapes}
use Rattle.run_laws.specs.Allowed.{AreSame, AreSameUnions, HasOne, OfOneIsOne, OfTwoIsOne, ResultsAreOne, TextsMakeOne, CombinationsAreOne}
use Rattle.run_laws.proofs.MovedPoints.{front_point, back_point, replaced_point}

pub via : {A B C : Type 0} → A ↔ B → B ↔ C → A ↔ C
via f g = (λ a. g.0 (f.0 a), λ c. f.1 (g.1 c))

pub turn : {A B : Type 0} → A ↔ B → B ↔ A
turn f = (f.1, f.0)

pub moved : (m n : ℕ) (v : List ℤ) → m ≡ n → IsPoint m v → IsPoint n v
moved m n v e is = subst (λ (k : ℕ). IsPoint k v) e is

-- ---- the same set
pub same_back : (p q : PointSet) → AreSame p q → AreSame q p
same_back p q same = record {
  alike = record { kind = sym same.alike.kind; variables = sym same.alike.variables };
  points = λ v is. turn (same.points v (moved q.cons.dim p.cons.dim v (sym same.alike.variables) is));
}

pub within_same : (p q : PointSet) (v : List ℤ) → AreSame p q → IsWithin p.cons v → IsWithin q.cons v
within_same p q v same w = record { point = moved p.cons.dim q.cons.dim v same.alike.variables w.point; holds = (same.points v w.point).0 w.holds }

pub within_both : (p q : PointSet) → AreSame p q → (v : List ℤ) → IsWithin p.cons v ↔ IsWithin q.cons v
within_both p q same v = (within_same p q v same, within_same q p v (same_back p q same))

-- a point of so many variables is in both or in neither
pub same_at : (p q : PointSet) (dim : ℕ) (v : List ℤ) → AreSame p q → p.cons.dim ≡ dim → IsPoint dim v → In p.cons v ↔ In q.cons v
same_at p q dim v same e is = same.points v (moved dim p.cons.dim v (sym e) is)

-- ---- sets of points with a property
pub one_of : (nnc other : Bool) (dim size : ℕ) (Has Had : List ℤ → Type 0) (s t : PointSet) → nnc ≡ other → dim ≡ size → ((v : List ℤ) → IsPoint dim v → Has v ↔ Had v) → IsSetOf nnc dim Has s → IsSetOf other size Had t → AreSame s t
one_of nnc other dim size Has Had s t e f same a b = record {
  alike = record { kind = a.over.kind ∙ (e ∙ sym b.over.kind); variables = a.over.variables ∙ (f ∙ sym b.over.variables) };
  points = λ v is.
      (let at : IsPoint dim v = moved s.cons.dim dim v a.over.variables is in
      via (a.points v at) (via (same v at) (turn (b.points v (moved dim size v f at)))));
}

one_set : (nnc : Bool) (dim : ℕ) (Has : List ℤ → Type 0) → HasOne (IsSetOf nnc dim Has)
one_set nnc dim Has s t a b = one_of nnc nnc dim dim Has Has s t refl refl (λ v is. (λ x. x, λ x. x)) a b

-- the smallest sets that include the same points
smallest_to : (nnc other : Bool) (dim size : ℕ) (Has Had : List ℤ → Type 0) (v : List ℤ) → nnc ≡ other → dim ≡ size → ((u : List ℤ) → Has u → Had u) → IsInSmallest nnc dim Has v → IsInSmallest other size Had v
smallest_to nnc other dim size Has Had v e f into least c for valid =
    least c (subst (λ (b : Bool). IsConstraintFor b dim c) (sym e) (subst (λ (n : ℕ). IsConstraintFor other n c) (sym f) for)) (λ u has. valid u (into u has))

smallest_both : (nnc other : Bool) (dim size : ℕ) (Has Had : List ℤ → Type 0) → nnc ≡ other → dim ≡ size → ((u : List ℤ) → Has u ↔ Had u) → (v : List ℤ) → IsInSmallest nnc dim Has v ↔ IsInSmallest other size Had v
smallest_both nnc other dim size Has Had e f same v = (smallest_to nnc other dim size Has Had v e f (λ u. (same u).0), smallest_to other nnc size dim Had Has v (sym e) (sym f) (λ u. (same u).1))

shape_to : (dim size : ℕ) (Has Had : List ℤ → Type 0) (v : List ℤ) → dim ≡ size → ((u : List ℤ) → Has u → Had u) → IsInSmallestShape dim Has v → IsInSmallestShape size Had v
shape_to dim size Has Had v f into least = subst (λ (n : ℕ). IsInSmallestShape n Had v) f (λ i j num den li lj positive valid. least i j num den li lj positive (λ u has. valid u (into u has)))

shape_both : (dim size : ℕ) (Has Had : List ℤ → Type 0) → dim ≡ size → ((u : List ℤ) → Has u ↔ Had u) → (v : List ℤ) → IsInSmallestShape dim Has v ↔ IsInSmallestShape size Had v
shape_both dim size Has Had f same v = (shape_to dim size Has Had v f (λ u. (same u).0), shape_to size dim Had Has v (sym f) (λ u. (same u).1))

-- ---- of no operand, and of one
one_space : (space : Space) (nnc : Bool) (dim : ℕ) → HasOne (IsSpace space nnc dim)
one_space Universe nnc dim = one_set nnc dim (IsPoint dim)
one_space Empty nnc dim = one_set nnc dim (λ v. ⊥)

one_copy : OfOneIsOne IsCopy
one_copy p q s t same a b = one_of p.nnc q.nnc p.cons.dim q.cons.dim (In p.cons) (In q.cons) s t same.alike.kind same.alike.variables same.points a b

one_closure : OfOneIsOne IsClosure
one_closure p q s t same a b =
    one_of p.nnc q.nnc p.cons.dim q.cons.dim (IsInSmallest false p.cons.dim (IsWithin p.cons)) (IsInSmallest false q.cons.dim (IsWithin q.cons)) s t same.alike.kind same.alike.variables
    (λ v is. smallest_both false false p.cons.dim q.cons.dim (IsWithin p.cons) (IsWithin q.cons) refl same.alike.variables (within_both p q same) v) a b

front_to : (n : ℕ) (p q : PointSet) (v : List ℤ) → AreSame p q → IsPoint (p.cons.dim + n) v → IsFrontIn p n v → IsFrontIn q n v
front_to n p q v same is h =
    subst (λ (d : ℕ). In q.cons (without d (d + n) v)) same.alike.variables
    ((same.points (without p.cons.dim (p.cons.dim + n) v) (front_point p.cons.dim n v is)).0 h)

front_both : (n : ℕ) (p q : PointSet) (v : List ℤ) → AreSame p q → IsPoint (p.cons.dim + n) v → IsFrontIn p n v ↔ IsFrontIn q n v
front_both n p q v same is = (front_to n p q v same is, front_to n q p v (same_back p q same) (moved (p.cons.dim + n) (q.cons.dim + n) v (ap (λ (d : ℕ). d + n) same.alike.variables) is))

-- the further variables are 0
abbrev IsPadded : ℕ → ℕ → List ℤ → Type 0
IsPadded dim n v = (j : ℕ) → dim ≤ j → j < dim + n → cell v j ≡ pos 0

one_extension : (by : Extension) (n : ℕ) → OfOneIsOne (IsExtended by n)
one_extension Embed n p q s t same a b =
    one_of p.nnc q.nnc (p.cons.dim + n) (q.cons.dim + n) (IsFrontIn p n) (IsFrontIn q n) s t same.alike.kind (ap (λ (d : ℕ). d + n) same.alike.variables) (λ v is. front_both n p q v same is) a b
one_extension Project n p q s t same a b =
    one_of p.nnc q.nnc (p.cons.dim + n) (q.cons.dim + n) (λ v. IsFrontIn p n v × IsPadded p.cons.dim n v) (λ v. IsFrontIn q n v × IsPadded q.cons.dim n v) s t same.alike.kind (ap (λ (d : ℕ). d + n) same.alike.variables)
    (λ v is.
    (let f = front_both n p q v same is in (
      λ x. (f.0 x.0, subst (λ (d : ℕ). IsPadded d n v) same.alike.variables x.1),
      λ y. (f.1 y.0, subst (λ (d : ℕ). IsPadded d n v) (sym same.alike.variables) y.1),
    ))) a b

source_to : (f : List ℤ → List ℤ) (p q : PointSet) (v : List ℤ) → AreSame p q → HasSource f p.cons v → HasSource f q.cons v
source_to f p q v same h = record { source = h.source; within = within_same p q h.source same h.within; same = h.same }

one_removal : (vars : List ℕ) → OfOneIsOne (IsRemoved vars)
one_removal vars p q s t same a b =
    one_of p.nnc q.nnc (length (kept_variables p.cons.dim vars)) (length (kept_variables q.cons.dim vars)) (HasSource (remaining p.cons.dim vars) p.cons) (HasSource (remaining q.cons.dim vars) q.cons) s t same.alike.kind (ap (λ (d : ℕ). length (kept_variables d vars)) same.alike.variables)
    (λ v is. (
      λ h. subst (λ (d : ℕ). HasSource (remaining d vars) q.cons v) same.alike.variables (source_to (remaining p.cons.dim vars) p q v same h),
      λ h. subst (λ (d : ℕ). HasSource (remaining d vars) p.cons v) (sym same.alike.variables) (source_to (remaining q.cons.dim vars) q p v (same_back p q same) h),
    )) a.set b.set

ranking_to : (n : ℕ) (p q : PointSet) (v : List ℤ) → AreSame p q → IsRanking n p.cons v → IsRanking n q.cons v
ranking_to n p q v same h pair w = h pair (within_same q p pair (same_back p q same) w)

one_ranking : OfOneIsOne AreRankings
one_ranking p q s t same a b =
    let half : p.cons.dim / 2 ≡ q.cons.dim / 2 = ap (λ (d : ℕ). d / 2) same.alike.variables in
    one_of false false (p.cons.dim / 2 + 1) (q.cons.dim / 2 + 1) (IsRanking (p.cons.dim / 2) p.cons) (IsRanking (q.cons.dim / 2) q.cons) s t refl (ap (λ (n : ℕ). n + 1) half)
    (λ v is. (
      λ h. subst (λ (n : ℕ). IsRanking n q.cons v) half (ranking_to (p.cons.dim / 2) p q v same h),
      λ h. subst (λ (n : ℕ). IsRanking n p.cons v) (sym half) (ranking_to (q.cons.dim / 2) q p v (same_back p q same) h),
    )) a.set b.set

one_shape : OfOneIsOne IsSmallestShape
one_shape p q s t same a b =
    one_of false false p.cons.dim q.cons.dim (IsInSmallestShape p.cons.dim (IsWithin p.cons)) (IsInSmallestShape q.cons.dim (IsWithin q.cons)) s t refl same.alike.variables
    (λ v is. shape_both p.cons.dim q.cons.dim (IsWithin p.cons) (IsWithin q.cons) same.alike.variables (within_both p q same) v) a.set b.set

-- ---- of two
in_both : (p q x y : PointSet) (v : List ℤ) → AreSame p x → AreSame q y → p.cons.dim ≡ q.cons.dim → IsPoint p.cons.dim v → (In p.cons v × In q.cons v) ↔ (In x.cons v × In y.cons v)
in_both p q x y v one other e is =
    let f = one.points v is in
    let g = same_at q y p.cons.dim v other (sym e) is in
    (λ i. (f.0 i.0, g.0 i.1), λ i. (f.1 i.0, g.1 i.1))

in_either : (p q x y : PointSet) → AreSame p x → AreSame q y → (v : List ℤ) → (IsWithin p.cons v ⊎ IsWithin q.cons v) ↔ (IsWithin x.cons v ⊎ IsWithin y.cons v)
in_either p q x y one other v = (
  λ i. elim i [
    | inl w ↦ inl (within_same p x v one w)
    | inr w ↦ inr (within_same q y v other w)
  ],
  λ i. elim i [
    | inl w ↦ inl (within_same x p v (same_back p x one) w)
    | inr w ↦ inr (within_same y q v (same_back q y other) w)
  ],
)

elapsed_to : (p q x y : PointSet) → AreSame p x → AreSame q y → (v : List ℤ) → IsElapsed p.cons q.cons v → IsElapsed x.cons y.cons v
elapsed_to p q x y one other v h = record {
  start = h.start;
  start_within = within_same p x h.start one h.start_within;
  velocity = h.velocity;
  velocity_within = within_same q y h.velocity other h.velocity_within;
  moved = subst (λ (d : ℕ). IsMoved d h.start h.velocity v) one.alike.variables h.moved;
}

-- the point's first variables are in the one and the others in the other
abbrev IsSplit : PointSet → PointSet → List ℤ → Type 0
IsSplit p q v = In p.cons (without p.cons.dim (p.cons.dim + q.cons.dim) v) × In q.cons (drop p.cons.dim v)

split_to : (p q x y : PointSet) → AreSame p x → AreSame q y → (v : List ℤ) → IsPoint (p.cons.dim + q.cons.dim) v → IsSplit p q v → IsSplit x y v
split_to p q x y one other v is h = (
  subst (λ (d : ℕ). In x.cons (without d (d + y.cons.dim) v)) one.alike.variables
      (subst (λ (d : ℕ). In x.cons (without p.cons.dim (p.cons.dim + d) v)) other.alike.variables ((one.points (without p.cons.dim (p.cons.dim + q.cons.dim) v) (front_point p.cons.dim q.cons.dim v is)).0 h.0)),
  subst (λ (d : ℕ). In y.cons (drop d v)) one.alike.variables ((other.points (drop p.cons.dim v) (back_point p.cons.dim q.cons.dim v is)).0 h.1),
)

widths : (p q x y : PointSet) → AreSame p x → AreSame q y → p.cons.dim + q.cons.dim ≡ x.cons.dim + y.cons.dim
widths p q x y one other = ap (λ (d : ℕ). d + q.cons.dim) one.alike.variables ∙ ap (λ (d : ℕ). x.cons.dim + d) other.alike.variables

one_operator : (op : Operator) → OfTwoIsOne (IsOfTwo op)
one_operator operator.Meet p q x y s t one other a b =
    one_of p.nnc x.nnc p.cons.dim x.cons.dim (λ v. In p.cons v × In q.cons v) (λ v. In x.cons v × In y.cons v) s t one.alike.kind one.alike.variables (λ v is. in_both p q x y v one other a.0.variables is) a.1 b.1
one_operator operator.Hull p q x y s t one other a b =
    one_of p.nnc x.nnc p.cons.dim x.cons.dim (IsInSmallest p.nnc p.cons.dim (λ v. IsWithin p.cons v ⊎ IsWithin q.cons v)) (IsInSmallest x.nnc x.cons.dim (λ v. IsWithin x.cons v ⊎ IsWithin y.cons v)) s t one.alike.kind one.alike.variables
    (λ v is. smallest_both p.nnc x.nnc p.cons.dim x.cons.dim (λ v. IsWithin p.cons v ⊎ IsWithin q.cons v) (λ v. IsWithin x.cons v ⊎ IsWithin y.cons v) one.alike.kind one.alike.variables (in_either p q x y one other) v) a.1 b.1
one_operator operator.Concat p q x y s t one other a b =
    one_of p.nnc x.nnc (p.cons.dim + q.cons.dim) (x.cons.dim + y.cons.dim) (IsSplit p q) (IsSplit x y) s t one.alike.kind (widths p q x y one other)
    (λ v is. (split_to p q x y one other v is, split_to x y p q (same_back p x one) (same_back q y other) v (moved (p.cons.dim + q.cons.dim) (x.cons.dim + y.cons.dim) v (widths p q x y one other) is))) a.1 b.1
one_operator operator.Elapse p q x y s t one other a b =
    one_of p.nnc x.nnc p.cons.dim x.cons.dim (IsInSmallest p.nnc p.cons.dim (IsElapsed p.cons q.cons)) (IsInSmallest x.nnc x.cons.dim (IsElapsed x.cons y.cons)) s t one.alike.kind one.alike.variables
    (λ v is. smallest_both p.nnc x.nnc p.cons.dim x.cons.dim (IsElapsed p.cons q.cons) (IsElapsed x.cons y.cons) one.alike.kind one.alike.variables
    (λ u. (elapsed_to p q x y one other u, elapsed_to x y p q (same_back p x one) (same_back q y other) u)) v) a.1 b.1

one_shape_operator : (op : ShapeOperator) → OfTwoIsOne (IsOfTwoShapes op)
one_shape_operator shape_operator.Meet p q x y s t one other a b = one_operator operator.Meet p q x y s t one other a b
one_shape_operator shape_operator.Hull p q x y s t one other a b =
    one_of false false p.cons.dim x.cons.dim (IsInSmallestShape p.cons.dim (λ v. IsWithin p.cons v ⊎ IsWithin q.cons v)) (IsInSmallestShape x.cons.dim (λ v. IsWithin x.cons v ⊎ IsWithin y.cons v)) s t refl one.alike.variables
    (λ v is. shape_both p.cons.dim x.cons.dim (λ v. IsWithin p.cons v ⊎ IsWithin q.cons v) (λ v. IsWithin x.cons v ⊎ IsWithin y.cons v) one.alike.variables (in_either p q x y one other) v) a.1 b.1

pub results_are_one : ResultsAreOne
results_are_one = record {
  spaces = one_space;
  copies = one_copy;
  closures = one_closure;
  operators = one_operator;
  extensions = one_extension;
  removals = one_removal;
  rankings = one_ranking;
  shapes = one_shape;
  shape_operators = one_shape_operator;
}

-- ---- of a text
image_to : (rel : Rel) (var : ℕ) (expr : List ℤ) (divisor : ℤ) (p q : PointSet) (v : List ℤ) → AreSame p q → IsImage rel var expr divisor p.cons v → IsImage rel var expr divisor q.cons v
image_to rel var expr divisor p q v same h = record {
  source = h.source;
  within = within_same p q h.source same h.within;
  others = subst (λ (d : ℕ). (j : ℕ) → j < d → j ≢ var → cell v j *ℤ cell h.source d ≡ cell h.source j *ℤ cell v d) same.alike.variables h.others;
  stands = subst (λ (d : ℕ). Stands rel (cell v var *ℤ (divisor *ℤ cell h.source d)) (dot expr h.source *ℤ cell v d)) same.alike.variables h.stands;
}

preimage_to : (rel : Rel) (var : ℕ) (expr : List ℤ) (divisor : ℤ) (p q : PointSet) (v : List ℤ) → var < p.cons.dim → IsPoint p.cons.dim v → AreSame p q → IsPreimage rel var expr divisor p.cons v → IsPreimage rel var expr divisor q.cons v
preimage_to rel var expr divisor p q v below is same h = record {
  num = h.num;
  den = h.den;
  positive = h.positive;
  stands = subst (λ (d : ℕ). Stands rel (h.num *ℤ (divisor *ℤ cell v d)) (dot expr v *ℤ h.den)) same.alike.variables h.stands;
  within = subst (λ (d : ℕ). In q.cons (replaced d var h.num h.den v)) same.alike.variables ((same.points (replaced p.cons.dim var h.num h.den v) (replaced_point p.cons.dim var h.num h.den v below h.positive is)).0 h.within);
}

comes_to : (by : Mapping) (rel : Rel) (var : ℕ) (expr : List ℤ) (divisor : ℤ) (p q : PointSet) (v : List ℤ) → var < p.cons.dim → IsPoint p.cons.dim v → AreSame p q → ComesOf by rel var expr divisor p.cons v → ComesOf by rel var expr divisor q.cons v
comes_to Image rel var expr divisor p q v below is same h = image_to rel var expr divisor p q v same h
comes_to Preimage rel var expr divisor p q v below is same h = preimage_to rel var expr divisor p q v below is same h

one_image : (by : Mapping) (var : ℕ) (rel : Rel) (part text : Part) (p q s t : PointSet) → AreSame p q → (a : IsMapped by var rel part p s) (b : IsMapped by var rel text q t) → a.expr ≡ b.expr → a.divisor ≡ b.divisor → AreSame s t
one_image by var rel part text p q s t same a b e f =
    one_of p.nnc q.nnc p.cons.dim q.cons.dim (ComesOf by rel var a.expr (pos a.divisor) p.cons) (ComesOf by rel var a.expr (pos a.divisor) q.cons) s t same.alike.kind same.alike.variables
    (λ v is. (
      comes_to by rel var a.expr (pos a.divisor) p q v a.below is same,
      comes_to by rel var a.expr (pos a.divisor) q p v b.below (moved p.cons.dim q.cons.dim v same.alike.variables is) (same_back p q same),
    )) a.set
    (subst (λ (u : List ℤ). IsSetOf q.nnc q.cons.dim (ComesOf by rel var u (pos a.divisor) q.cons) t) (sym e) (subst (λ (d : ℕ). IsSetOf q.nnc q.cons.dim (ComesOf by rel var b.expr (pos d) q.cons) t) (sym f) b.set))

one_added : (part text : Part) (p q s t : PointSet) → AreSame p q → (a : IsAdded part p s) (b : IsAdded text q t) → a.list ≡ b.list → AreSame s t
one_added part text p q s t same a b e =
    one_of p.nnc q.nnc p.cons.dim q.cons.dim (λ v. In p.cons v × In (constraints p.cons.dim a.list) v) (λ v. In q.cons v × In (constraints q.cons.dim a.list) v) s t same.alike.kind same.alike.variables
    (λ v is. (let f = same.points v is in (λ x. (f.0 x.0, x.1), λ y. (f.1 y.0, y.1)))) a.set
    (subst (λ (list : List Constraint). IsSetOf q.nnc q.cons.dim (λ v. In q.cons v × In (constraints q.cons.dim list) v) t) (sym e) b.set)

pub texts_make_one : TextsMakeOne
texts_make_one = record {
  constraints = λ nnc dim text other s t a b e. one_set nnc dim (In (constraints dim a.list)) s t a.set (subst (λ (list : List Constraint). IsSetOf nnc dim (In (constraints dim list)) t) (sym e) b.set);
  generators = λ nnc dim text other s t a b e. one_set nnc dim (Span (generators dim a.list)) s t a.set (subst (λ (list : List Generator). IsSetOf nnc dim (Span (generators dim list)) t) (sym e) b.set);
  added = one_added;
  images = one_image;
}

-- ---- powersets
pub unions_back : (s t : Powerset) → AreSameUnions s t → AreSameUnions t s
unions_back s t same = record {
  alike = record { kind = sym same.alike.kind; variables = sym same.alike.variables };
  points = λ v is. turn (same.points v (moved t.dim s.dim v (sym same.alike.variables) is));
}

in_by : (op : PowersetOperator) (s t x y : Powerset) (v : List ℤ) → (IsInUnion s v ↔ IsInUnion x v) → (IsInUnion t v ↔ IsInUnion y v) → IsInBy op s t v → IsInBy op x y v
in_by powerset_operator.Join s t x y v f g (inl h) = inl (f.0 h)
in_by powerset_operator.Join s t x y v f g (inr h) = inr (g.0 h)
in_by powerset_operator.Meet s t x y v f g h = (f.0 h.0, g.0 h.1)

pub combinations_are_one : CombinationsAreOne
combinations_are_one op s t x y u w one other a b = record {
  alike = record { kind = a.kind ∙ (one.alike.kind ∙ sym b.kind); variables = a.variables ∙ (one.alike.variables ∙ sym b.variables) };
  points = λ v is.
      (let at : IsPoint s.dim v = moved u.dim s.dim v a.variables is in
      let f = one.points v at in
      let g = other.points v (moved s.dim t.dim v a.operands.variables at) in
      via (a.points v at) (via (in_by op s t x y v f g, in_by op x y s t v (turn f) (turn g)) (turn (b.points v (moved s.dim x.dim v one.alike.variables at)))));
}
