-- What stored systems have in common, and polyhedra that hold at the same points.
use Rattle.std.proofs.Common.{◌≡◌, ◌⊎◌, inl, inr, ℕ, zero, suc, ◌<◌, List, [], ◌∷◌, length, refl, ap, sym, ◌∙◌, subst, arith}
use Rattle.std.specs.Prelude.{◌↔◌, ℤ}
use Rattle.row_core.specs.Points.{IsPoint}
use Rattle.cons_sys.specs.Constraints.{Constraints, In}
use Rattle.gens_sys.specs.declared.kind.GenKind.{GenKind}
use Rattle.gens_sys.specs.declared.kind.GenKind.TheVariants.{Line, Ray, Point, ClosurePoint}
use Rattle.gens_sys.specs.Generators.{Generator, Generators, kind_at}
use Rattle.expr_text.specs.OneAnswer.{ConsHasOneAnswer, GensHasOneAnswer, FracHasOneAnswer}
use Rattle.widening.specs.WideningLaws.{OneWidening}
use Rattle.fixpoint.specs.RunLaws.{HasOneLimit}
use Rattle.hybrid.specs.Reaches.{HasOneReach}
use Rattle.cdd_reading.specs.OneAnswer.{HasOneIne, HasOneExt}
use Rattle.stored_systems.specs.StoredLaws.{StoredIsUnique, AreSameSystems}
use Rattle.nnc_enc.specs.EncodedGenerators.{HasPoint}
use Rattle.set_laws.specs.JoinedSets.{AreOfSet, JoinedSetsAreSame}
use Rattle.poly_pair.specs.KeptLaws.{KeptIsPair, KeptIsEmpty}
use Rattle.poly_pair.specs.Polyhedra.{Polyhedron, IsStoredAs, IsKept, HasNoPoint, IsOver, HaveSamePoints}
use Rattle.poly_pair.specs.declared.topology.Topology.{Topology}
use Rattle.poly_pair.specs.declared.topology.Topology.TheVariants.{Closed, Nnc}
use Rattle.line_values.specs.Proper.{IsProper}
use Rattle.run_laws.specs.Sameness.{AreSamePolyhedra}

-- the laws that are cited: a text says one system; a closed set is stored in one way; both systems
-- of a polyhedron hold the same points, and there is no generator where there is none; what is
-- joined to generators adds to their points alone; there is one widening, one limit of a system,
-- and one of an automaton; a file holds one list
pub record OneForm : Type 0 where
  pub cons : ConsHasOneAnswer
  pub gens : GensHasOneAnswer
  pub frac : FracHasOneAnswer
  pub stored : StoredIsUnique
  pub pair : KeptIsPair
  pub empty : KeptIsEmpty
  pub joined : JoinedSetsAreSame
  pub widening : OneWidening
  pub limit : HasOneLimit
  pub reach : HasOneReach
  pub ine : HasOneIne
  pub ext : HasOneExt

-- ---- both systems
-- both systems have one dimension
stored_dims : (t : Topology) (p : Polyhedron) → IsStoredAs t p.cons p.gens → p.gens.dim ≡ p.cons.dim
stored_dims Closed p (inl e) = e.same_dim
stored_dims Closed p (inr f) = f.same_dim
stored_dims Nnc p (inl e) = e.same_dim
stored_dims Nnc p (inr f) = f.same_dim

pub same_dims : (p : Polyhedron) → IsProper p → p.gens.dim ≡ p.cons.dim
same_dims p a = stored_dims p.topology p a.kept.stored

-- some generator is a point, or none is
point_or_none : (list : List Generator) → HasPoint list ⊎ ((i : ℕ) → i < length list → ¬ (kind_at list i ≡ Point))
point_or_none [] = inr (λ i h. absurd (omega (arith, h)))
point_or_none (g ∷ list) = by_first (point_or_not g.1) (point_or_none list)
  where
    point_or_not : (k : GenKind) → (k ≡ Point) ⊎ (¬ (k ≡ Point))
    point_or_not Line = inr (λ e. cc)
    point_or_not Ray = inr (λ e. cc)
    point_or_not Point = inl refl
    point_or_not ClosurePoint = inr (λ e. cc)

    none_at : ¬ (g.1 ≡ Point) → ((i : ℕ) → i < length list → ¬ (kind_at list i ≡ Point)) → (i : ℕ) → i < suc (length list) → ¬ (kind_at (g ∷ list) i ≡ Point)
    none_at n others zero h = n
    none_at n others (suc i) h = others i (omega (arith, h))

    by_first : (g.1 ≡ Point) ⊎ (¬ (g.1 ≡ Point)) → HasPoint list ⊎ ((i : ℕ) → i < length list → ¬ (kind_at list i ≡ Point)) → HasPoint (g ∷ list) ⊎ ((i : ℕ) → i < length (g ∷ list) → ¬ (kind_at (g ∷ list) i ≡ Point))
    by_first (inl e) others = inl (record { number = 0; below = omega arith; kind = e })
    by_first (inr n) (inl p) = inl (record { number = suc p.number; below = omega (arith, p.below); kind = p.kind })
    by_first (inr n) (inr others) = inr (none_at n others)

-- the generators of a polyhedron are none, or one of them is a point
pub of_set : OneForm → (p : Polyhedron) → IsProper p → AreOfSet p.gens
of_set laws p a = record { fit = a.gens; point = by_search (point_or_none p.gens.list) }
  where
    no_points : ((i : ℕ) → i < length p.gens.list → ¬ (kind_at p.gens.list i ≡ Point)) → HasNoPoint p
    no_points none v w = let s = (laws.pair p a.kept v w.point).0 w.holds in none s.point.index s.point.within s.point.kind

    by_search : HasPoint p.gens.list ⊎ ((i : ℕ) → i < length p.gens.list → ¬ (kind_at p.gens.list i ≡ Point)) → (p.gens.list ≡ []) ⊎ HasPoint p.gens.list
    by_search (inl h) = inr h
    by_search (inr none) = inl ((laws.empty p a.kept).1 (no_points none))

-- ---- one set of points
abbrev of_parts : Topology → Constraints → Generators → Polyhedron
of_parts t cs gs = record { topology = t; cons = cs; gens = gs }

same_parts : (p q : Polyhedron) → p.topology ≡ q.topology → p.cons ≡ q.cons → p.gens ≡ q.gens → p ≡ q
same_parts p q t c g = ap (λ (x : Topology). of_parts x p.cons p.gens) t ∙ ap (λ (x : Constraints). of_parts q.topology x p.gens) c ∙ ap (λ (x : Generators). of_parts q.topology q.cons x) g

-- a closed set is stored in one way
pub one_closed : OneForm → (p q : Polyhedron) → IsKept p → IsKept q → p.topology ≡ Closed → p.topology ≡ q.topology → p.cons.dim ≡ q.cons.dim → HaveSamePoints p q → p ≡ q
one_closed laws p q a b c t d points =
    let forms : AreSameSystems p.cons q.cons p.gens q.gens =
    (laws.stored p.cons q.cons p.gens q.gens d (subst (λ (s : Topology). IsStoredAs s p.cons p.gens) c a.stored) (subst (λ (s : Topology). IsStoredAs s q.cons q.gens) (sym t ∙ c) b.stored)).0 points in
    same_parts p q t forms.cons forms.gens

-- two polyhedra of one topology and dimension that hold at the same points
pub one_of_points : OneForm → (t : Topology) (dim : ℕ) (Has : List ℤ → Type 0) (p q : Polyhedron) → IsProper p → IsProper q → IsOver t dim p → IsOver t dim q →
    ((v : List ℤ) → IsPoint dim v → Has v ↔ In p.cons v) → ((v : List ℤ) → IsPoint dim v → Has v ↔ In q.cons v) → AreSamePolyhedra p q
one_of_points laws t dim Has p q a b d e h k = record {
  topology = d.same_topology ∙ sym e.same_topology;
  dim = d.same_dim ∙ sym e.same_dim;
  points = points;
  closed = λ c. one_closed laws p q a.kept b.kept c (d.same_topology ∙ sym e.same_topology) (d.same_dim ∙ sym e.same_dim) points;
}
  where
    points : HaveSamePoints p q
    points v is = let at = subst (λ (n : ℕ). IsPoint n v) d.same_dim is in (λ x. (k v at).0 ((h v at).1 x), λ x. (h v at).0 ((k v at).1 x))
