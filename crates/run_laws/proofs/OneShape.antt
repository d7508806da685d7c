-- Operands that are the same give the same shapes; a shape gives one polyhedron, and a relation one
-- set of ranking functions.
use Rattle.std.proofs.Common.{◌≡◌, ℕ, ◌+◌, List, sym, ◌∙◌, subst}
use Rattle.std.specs.Prelude.{◌↔◌, ℤ, Option, None, Some, IfSome}
use Rattle.row_core.specs.Points.{IsPoint}
use Rattle.cons_sys.specs.Constraints.{Constraints, In}
use Rattle.poly_pair.specs.Polyhedra.{Polyhedron}
use Rattle.poly_pair.specs.declared.topology.Topology.TheVariants.{Closed}
use Rattle.difference_bounds.specs.Tables.{Table, IsTable}
use Rattle.bd_shape.specs.Shapes.{DifferenceShape, IsIn, IsTightTable, IsShape, Includes}
use Rattle.bd_shape.specs.Suprema.{IsSmallest}
use Rattle.bd_shape.proofs.Canonical.{one_shape}
use Rattle.ranking.specs.Functions.{IsRanking}
use Rattle.ranking.specs.Rankings.{IsRankingSet}
use Rattle.script_text.specs.declared.command.ShapeOperator.{ShapeOperator}
use Rattle.script_text.specs.declared.command.ShapeOperator.TheVariants.{Meet, Hull}
use Rattle.bd_shape.specs.Commands.{IsShapeOfSet, IsShapeOfConstraints, IsShapeBy, IsPolyOfShape}
use Rattle.line_values.specs.Proper.{IsProper}
use Rattle.run_laws.specs.Sameness.{AreSamePolyhedra}
use Rattle.run_laws.proofs.OneForm.{OneForm, one_of_points}

-- ---- one shape of its points
-- the bounds of a shape are a table
table_of : (dim : ℕ) (bounds : Option Table) → IfSome bounds (IsTightTable dim) → IfSome bounds IsTable
table_of dim None h = h
table_of dim (Some t) h = h.table

has_table : (s : DifferenceShape) → IsShape s → IfSome s.bounds IsTable
has_table s a = table_of s.dim s.bounds a.tight

-- shapes that include each other
one_of_both : (s r : DifferenceShape) → IsShape s → IsShape r → s.dim ≡ r.dim → Includes s r → Includes r s → s ≡ r
one_of_both s r a b e i j = sym (one_shape s r a b (sym e) (λ p. (i p, j p)))

one_smallest : (p : Polyhedron) (s r : DifferenceShape) → IsShape s → IsShape r → s.dim ≡ p.cons.dim → r.dim ≡ p.cons.dim → IsSmallest p s → IsSmallest p r → s ≡ r
one_smallest p s r a b d e h k = one_of_both s r a b (d ∙ sym e) (k.least s d (has_table s a) h.includes) (h.least r e (has_table r b) k.includes)

-- ---- makers
pub one_shape_of : (p q : Polyhedron) (s r : DifferenceShape) → p ≡ q → IsShape s → IsShape r → IsShapeOfSet p s → IsShapeOfSet q r → s ≡ r
one_shape_of p q s r e a b h k =
    let there : IsShapeOfSet p r = subst (λ (x : Polyhedron). IsShapeOfSet x r) (sym e) k in
    one_smallest p s r a b h.dim there.dim h.smallest there.smallest

pub one_bounds : (cs : Constraints) (s r : DifferenceShape) → IsShape s → IsShape r → IsShapeOfConstraints cs s → IsShapeOfConstraints cs r → s ≡ r
one_bounds cs s r a b h k = one_of_both s r a b (h.dim ∙ sym k.dim) (λ p i. (h.points p).1 ((k.points p).0 i)) (λ p i. (k.points p).1 ((h.points p).0 i))

pub one_shape_by : (op : ShapeOperator) (s t u w : DifferenceShape) → IsShape u → IsShape w → IsShapeBy op s t u → IsShapeBy op s t w → u ≡ w
one_shape_by Meet s t u w a b h k = one_of_both u w a b (h.dim ∙ sym k.dim) (λ p i. (h.set p).1 ((k.set p).0 i)) (λ p i. (k.set p).1 ((h.set p).0 i))
one_shape_by Hull s t u w a b h k = one_of_both u w a b (h.dim ∙ sym k.dim) (k.set.least u h.dim (has_table u a) h.set.first h.set.second) (h.set.least w k.dim (has_table w b) k.set.first k.set.second)

-- ---- polyhedra
pub one_poly_of_shape : OneForm → (s : DifferenceShape) (p q : Polyhedron) → IsProper p → IsProper q → IsPolyOfShape s p → IsPolyOfShape s q → AreSamePolyhedra p q
one_poly_of_shape laws s p q a b h k =
    one_of_points laws Closed s.dim (IsIn s) p q a b (record { same_topology = h.topology; same_dim = h.dim }) (record { same_topology = k.topology; same_dim = k.dim }) (at p h) (at q k)
  where
    at : (x : Polyhedron) → IsPolyOfShape s x → (v : List ℤ) → IsPoint s.dim v → IsIn s v ↔ In x.cons v
    at x is v pt = (λ i. ((is.points v).1 i).holds, λ i. (is.points v).0 (record { point = subst (λ (n : ℕ). IsPoint n v) (sym is.dim) pt; holds = i }))

-- the points of a set of ranking functions are told by the relation
pub one_ranking_set : OneForm → (n : ℕ) (r p q : Polyhedron) → IsProper p → IsProper q → IsRankingSet n r p → IsRankingSet n r q → AreSamePolyhedra p q
one_ranking_set laws n r p q a b h k =
    one_of_points laws Closed (n + 1) (IsRanking n r.cons) p q a b h.over k.over (λ f is. ((h.points f is).1, (h.points f is).0)) (λ f is. ((k.points f is).1, (k.points f is).0))
