-- Closed polyhedra with the same points are printed alike, and those that are printed alike have
-- the same points.
use Rattle.std.proofs.Common.{◌≡◌, ℕ, List, [], ◌∷◌, refl, ap, sym, ◌∙◌, subst, Bool, true, false}
use Rattle.std.proofs.lemmas.List.{append_cancel_right}
use Rattle.row_core.specs.Points.{IsPoint}
use Rattle.cons_sys.specs.Constraints.{Constraints}
use Rattle.gens_sys.specs.Generators.{Generators}
use Rattle.gens_sys.specs.Spans.{Span}
use Rattle.term_text.specs.Systems.{IsCons}
use Rattle.expr_text.specs.GeneratorSystems.{IsGens}
use Rattle.expr_text.specs.Printed.{constraints_text, generators_text}
use Rattle.expr_text.specs.ReadBack.{ConstraintsAreReadBack, GeneratorsAreReadBack}
use Rattle.stored_systems.specs.PointSets.{HoldSame}
use Rattle.stored_systems.specs.StoredForms.{IsStored}
use Rattle.stored_systems.specs.StoredLaws.{StoredIsUnique, StoredIsClosed, AreSameSystems}
use Rattle.poly_pair.specs.KeptLaws.{KeptIsPair}
use Rattle.poly_pair.specs.Polyhedra.{Polyhedron, IsStoredAs, HaveSamePoints}
use Rattle.poly_pair.specs.declared.topology.Topology.{Topology}
use Rattle.poly_pair.specs.declared.topology.Topology.TheVariants.{Closed}
use Rattle.line_values.specs.Meaning.{line}
use Rattle.poly_questions.specs.Questions.{side_text}
use Rattle.line_values.specs.Proper.{IsProper}
use Rattle.run_laws.specs.Prints.{PrintsTellPoints}

-- the laws that are cited: a closed set is stored in one way, by systems of one dimension; both
-- hold the same points; what is printed is read back
pub record PrintLaws : Type 0 where
  pub unique : StoredIsUnique
  pub closed : StoredIsClosed
  pub pair : KeptIsPair
  pub cons : ConstraintsAreReadBack
  pub gens : GeneratorsAreReadBack

module _ (laws : PrintLaws) where
  stored_of : (p : Polyhedron) → IsProper p → p.topology ≡ Closed → IsStored p.cons p.gens
  stored_of p a t = subst (λ (s : Topology). IsStoredAs s p.cons p.gens) t a.kept.stored

  gens_dim : (p : Polyhedron) → IsProper p → p.topology ≡ Closed → p.gens.dim ≡ p.cons.dim
  gens_dim p a t = (laws.closed p.cons p.gens (stored_of p a t)).same_dim

  -- ---- the same systems
  same_text : (side : Bool) (p q : Polyhedron) → AreSameSystems p.cons q.cons p.gens q.gens → line (side_text side p) ≡ line (side_text side q)
  same_text false p q e = ap (λ (cs : Constraints). line (constraints_text cs)) e.cons
  same_text true p q e = ap (λ (gs : Generators). line (generators_text gs)) e.gens

  -- ---- the same text
  module _ (p q : Polyhedron) (a : IsProper p) (b : IsProper q) where
    one_constraints : p.cons.dim ≡ q.cons.dim → constraints_text p.cons ≡ constraints_text q.cons → p.cons ≡ q.cons
    one_constraints d e =
        let read = subst (λ (n : ℕ). IsCons n (constraints_text p.cons) p.cons) d ((laws.cons p.cons p.cons a.cons).1 refl) in
        (laws.cons q.cons p.cons b.cons).0 (subst (λ (text : List ℕ). IsCons q.cons.dim text p.cons) e read)

    one_generators : p.gens.dim ≡ q.gens.dim → generators_text p.gens ≡ generators_text q.gens → p.gens ≡ q.gens
    one_generators d e =
        let read = subst (λ (n : ℕ). IsGens n (generators_text p.gens) p.gens) d ((laws.gens p.gens p.gens a.gens).1 refl) in
        (laws.gens q.gens p.gens b.gens).0 (subst (λ (text : List ℕ). IsGens q.gens.dim text p.gens) e read)

    of_constraints : p.cons ≡ q.cons → HaveSamePoints p q
    of_constraints e = subst (λ (cs : Constraints). HoldSame p.cons cs) e (λ v is. (λ x. x, λ x. x))

    of_generators : p.cons.dim ≡ q.cons.dim → p.gens ≡ q.gens → HaveSamePoints p q
    of_generators d e v is =
        let one = laws.pair p a.kept v is in
        let other = laws.pair q b.kept v (subst (λ (n : ℕ). IsPoint n v) d is) in
        (λ x. other.1 (subst (λ (gs : Generators). Span gs v) e (one.0 x)), λ y. one.1 (subst (λ (gs : Generators). Span gs v) (sym e) (other.0 y)))

  same_points : (side : Bool) (p q : Polyhedron) → IsProper p → IsProper q → p.topology ≡ Closed → q.topology ≡ Closed → p.cons.dim ≡ q.cons.dim → side_text side p ≡ side_text side q → HaveSamePoints p q
  same_points false p q a b s t d e = of_constraints p q a b (one_constraints p q a b d e)
  same_points true p q a b s t d e = of_generators p q a b d (one_generators p q a b (gens_dim p a s ∙ d ∙ sym (gens_dim q b t)) e)

  pub prints_tell_points : PrintsTellPoints
  prints_tell_points side p q a b s t d = (
    λ same. same_text side p q ((laws.unique p.cons q.cons p.gens q.gens d (stored_of p a s) (stored_of q b t)).0 same),
    λ e. same_points side p q a b s t d (append_cancel_right (side_text side p) (side_text side q) (10 ∷ []) e),
  )
