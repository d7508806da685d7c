use Rattle.std.proofs.Common.{◌≡◌, ◌∙◌, ℕ, ◌<◌, length, Option, Some, Err, refl, ap, sym, subst}
use Rattle.std.specs.Option.{option_copied}
use Rattle.poly_pair.specs.Polyhedra.{Polyhedron}
use Rattle.trans_sys.specs.Systems.{TransitionSystem}
use Rattle.hybrid.specs.Systems.{HybridAutomaton, with_invariant, with_flow}
use Rattle.line_values.specs.Effects.{IsPutAs}
use Rattle.line_values.specs.Meaning.{on_one}
use Rattle.calc_state.specs.Changes.{as_entry, IsTested}
use Rattle.calc_state.specs.declared.entry.Entry.TheVariants as entry
use Rattle.calc_state.specs.declared.parts.PartChange.TheVariants as part
use Rattle.hybrid.specs.declared.change.HybridChange.TheVariants.{Invariant, Flow}
use Rattle.calc_state.specs.Parts.{set_part, with_part}
use Rattle.calc_state.specs.Table.{as_hybrid}
use Rattle.calc_state.proofs.PartLemmas.{as_many, part_made, part_refused}
use Rattle.calc_state.proofs.part_tests.replaced_part.Goals as goal

pub returns-in-Err : goal.returns-in-Err
returns-in-Err c name =
    let h = c.in-Some.h.now in
    let location = c.args.location in
    let dim_is = c.dim.ensures.value ∙ ap (λ (s : TransitionSystem). s.dim) c.system.ensures.value in
    let count_is = c.locs.ensures.value ∙ ap (λ (s : TransitionSystem). length s.initial) c.system-2.ensures.value in
    let found : option_copied c.args.h ≡ Some h = ap option_copied c.in-Some.is in
    subst (λ (u : Option HybridAutomaton). IsTested (on_one u (λ x. on_one (option_copied c.args.p) (set_part c.args.part name location x))) (as_entry entry.Hybrid u) name (Err c.in-Err.cause)) (sym found)
    (part_refused dim_is (as_many location count_is) name (λ (p : Polyhedron). IsPutAs as_hybrid name (λ (changed : HybridAutomaton). changed ≡ with_part c.args.part h location p)) (option_copied c.args.p) (Some (entry.Hybrid h)) c.in-Err.cause c.in-Err.ensures.part)

pub returns-in-Invariant : goal.returns-in-Invariant
returns-in-Invariant c name =
    let h = c.in-Some.h.now in
    let location = c.args.location in
    let fits = c.in-Ok.ensures.fits in
    let dim_is = c.dim.ensures.value ∙ ap (λ (s : TransitionSystem). s.dim) c.system.ensures.value in
    let count_is = c.locs.ensures.value ∙ ap (λ (s : TransitionSystem). length s.initial) c.system-2.ensures.value in
    rw (c.in-Some.is, c.in-Invariant.is)
    (part_made dim_is (as_many location count_is) name (λ (p : Polyhedron). IsPutAs as_hybrid name (λ (changed : HybridAutomaton). changed ≡ with_invariant h location p)) (option_copied c.args.p)
    (entry.Hybrid h) c.in-Ok.copy (part.Hybrid (Invariant location c.in-Ok.copy)) c.in-Ok.ensures.part (subst (λ (k : ℕ). location < k) count_is fits.2, fits.0, fits.1 ∙ dim_is) (refl, refl))

pub returns-in-Flow : goal.returns-in-Flow
returns-in-Flow c name =
    let h = c.in-Some.h.now in
    let location = c.args.location in
    let fits = c.in-Ok.ensures.fits in
    let dim_is = c.dim.ensures.value ∙ ap (λ (s : TransitionSystem). s.dim) c.system.ensures.value in
    let count_is = c.locs.ensures.value ∙ ap (λ (s : TransitionSystem). length s.initial) c.system-2.ensures.value in
    rw (c.in-Some.is, c.in-Flow.is)
    (part_made dim_is (as_many location count_is) name (λ (p : Polyhedron). IsPutAs as_hybrid name (λ (changed : HybridAutomaton). changed ≡ with_flow h location p)) (option_copied c.args.p)
    (entry.Hybrid h) c.in-Ok.copy (part.Hybrid (Flow location c.in-Ok.copy)) c.in-Ok.ensures.part (subst (λ (k : ℕ). location < k) count_is fits.2, fits.0, fits.1 ∙ dim_is) (refl, refl))
