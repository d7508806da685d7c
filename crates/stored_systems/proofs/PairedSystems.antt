-- What two systems of one set tell of it.
use Rattle.std.specs.Prelude.{◌≡◌, ℕ, List, ℤ, All}
use Rattle.std.proofs.Common.{sym, ap, ◌∙◌, subst}
use Rattle.row_core.specs.Points.{IsPoint}
use Rattle.cons_sys.specs.Constraints.{Constraint, Constraints, Satisfies, In}
use Rattle.gens_sys.specs.Generators.{Generator, Generators}
use Rattle.gens_sys.specs.Spans.{Span}
use Rattle.stored_systems.specs.PointSets.{HoldSame}
use Rattle.stored_systems.specs.StoredForms.{IsStored}
use Rattle.stored_systems.specs.PairedSystems.{StoredListsTell}
use Rattle.stored_systems.proofs.Stored.{stored_dim, stored_is_pair, stored_is_unique}

spans_too : (gs hs : Generators) (p : List ℤ) → gs.dim ≡ hs.dim → gs.list ≡ hs.list → Span gs p → Span hs p
spans_too gs hs p e l s = subst (λ (xs : List Generator). Span (record { dim = hs.dim; list = xs }) p) l (subst (λ (n : ℕ). Span (record { dim = n; list = gs.list }) p) e s)

held_by_generators : (cs ds : Constraints) (gs hs : Generators) → cs.dim ≡ ds.dim → IsStored cs gs → IsStored ds hs → gs.list ≡ hs.list → HoldSame cs ds
held_by_generators cs ds gs hs e s t l p pt =
    let dims : gs.dim ≡ hs.dim = stored_dim cs gs s ∙ e ∙ sym (stored_dim ds hs t) in
    let first = stored_is_pair cs gs s p pt in
    let second = stored_is_pair ds hs t p (subst (λ (n : ℕ). IsPoint n p) e pt) in (
      (λ h. second.1 (spans_too gs hs p dims l (first.0 h))),
      (λ h. first.1 (spans_too hs gs p (sym dims) (sym l) (second.0 h))),
    )

pub stored_lists_tell : StoredListsTell
stored_lists_tell cs ds gs hs e s t = record {
  constraints = (
    (λ same. ap (λ (x : Constraints). x.list) ((stored_is_unique cs ds gs hs e s t).0 same).cons),
    (λ l p pt. ((λ h. subst (λ (xs : List Constraint). All (Satisfies p) xs) l h), (λ h. subst (λ (xs : List Constraint). All (Satisfies p) xs) (sym l) h))),
  );
  generators = (
    (λ same. ap (λ (x : Generators). x.list) ((stored_is_unique cs ds gs hs e s t).0 same).gens),
    held_by_generators cs ds gs hs e s t,
  );
}
