use Rattle.std.proofs.Common.{◌≡◌, ◌∙◌, ℕ, ◌<◌, Option, Some, Err, refl, ap, sym, subst}
use Rattle.std.specs.Option.{option_copied}
use Rattle.poly_pair.specs.Polyhedra.{Polyhedron}
use Rattle.trans_sys.specs.Systems.{TransitionSystem, with_initial}
use Rattle.line_values.specs.Effects.{IsPutAs}
use Rattle.line_values.specs.Meaning.{on_one}
use Rattle.calc_state.specs.Changes.{as_entry, IsTested}
use Rattle.calc_state.specs.Parts.{init}
use Rattle.calc_state.specs.declared.entry.Entry.TheVariants as entry
use Rattle.calc_state.specs.declared.parts.PartChange.TheVariants as part
use Rattle.trans_sys.specs.declared.change.SystemChange.TheVariants.{Initial}
use Rattle.calc_state.specs.Table.{as_system}
use Rattle.calc_state.proofs.PartLemmas.{as_many, part_made, part_refused}
use Rattle.calc_state.proofs.part_tests.replaced_initial.Goals as goal

pub returns-in-Ok : goal.returns-in-Ok
returns-in-Ok c name =
    let s = c.in-Some.system.now in
    let location = c.args.location in
    let fits = c.in-Ok.ensures.fits in
    rw c.in-Some.is
    (part_made c.dim.ensures.value (as_many location c.locs.ensures.value) name (λ (p : Polyhedron). IsPutAs as_system name (λ (changed : TransitionSystem). changed ≡ with_initial s location p)) (option_copied c.args.p)
    (entry.System s) c.in-Ok.copy (part.System (Initial location c.in-Ok.copy)) c.in-Ok.ensures.part (subst (λ (k : ℕ). location < k) c.locs.ensures.value fits.2, fits.0, fits.1 ∙ c.dim.ensures.value) (refl, refl))

pub returns-in-Err : goal.returns-in-Err
returns-in-Err c name =
    let s = c.in-Some.system.now in
    let location = c.args.location in
    let found : option_copied c.args.system ≡ Some s = ap option_copied c.in-Some.is in
    subst (λ (u : Option TransitionSystem). IsTested (on_one u (λ x. on_one (option_copied c.args.p) (init name location x))) (as_entry entry.System u) name (Err c.in-Err.cause)) (sym found)
    (part_refused c.dim.ensures.value (as_many location c.locs.ensures.value) name (λ (p : Polyhedron). IsPutAs as_system name (λ (changed : TransitionSystem). changed ≡ with_initial s location p)) (option_copied c.args.p) (Some (entry.System s)) c.in-Err.cause c.in-Err.ensures.part)
