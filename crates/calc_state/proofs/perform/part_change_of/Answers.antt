use Rattle.calc_state.specs.declared.entry.Entry.TheVariants as entry
use Rattle.calc_state.specs.Table.{as_system, as_hybrid}
use Rattle.calc_state.specs.Parts.{init, trans, set_part}
use Rattle.calc_state.proofs.PartLemmas.{changes_part, system_found, hybrid_found, tested_as}
use Rattle.calc_state.proofs.perform.part_change_of.Goals as goal

pub returns-in-Initial : goal.returns-in-Initial
returns-in-Initial c =
    let name = c.args.name.now in
    tested_as c.args.names.now name c.args.task _ c.replaced_initial.result c.in-Initial.is
    (changes_part entry.System as_system system_found c.args.names.now name (init name c.in-Initial.location) c.replaced_initial.result c.system_at.ensures c.poly_at.ensures (c.replaced_initial.ensures name))

pub returns-in-Transition : goal.returns-in-Transition
returns-in-Transition c =
    let name = c.args.name.now in
    tested_as c.args.names.now name c.args.task _ c.added_transition.result c.in-Transition.is
    (changes_part entry.System as_system system_found c.args.names.now name (trans name c.in-Transition.source c.in-Transition.target) c.added_transition.result c.system_at-in-Transition.ensures c.poly_at-in-Transition.ensures (c.added_transition.ensures name))

pub returns-in-Location : goal.returns-in-Location
returns-in-Location c =
    let name = c.args.name.now in
    tested_as c.args.names.now name c.args.task _ c.replaced_part.result c.in-Location.is
    (changes_part entry.Hybrid as_hybrid hybrid_found c.args.names.now name (set_part c.in-Location.part name c.in-Location.location) c.replaced_part.result c.hybrid_at.ensures c.poly_at-in-Location.ensures (c.replaced_part.ensures name))
