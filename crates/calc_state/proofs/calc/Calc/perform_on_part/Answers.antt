use Rattle.std.proofs.Common.{Ok, Err, refl, subst}
use Rattle.name_table.specs.Table.{entry_of}
use Rattle.calc_state.specs.State.{State}
use Rattle.calc_state.specs.Meanings.{changed_part_of}
use Rattle.calc_state.specs.Changes.{IsTested}
use Rattle.calc_state.proofs.PartLemmas.{is_there, fits_found, change_done, change_refused}
use Rattle.calc_state.proofs.calc.Calc.perform_on_part.Goals as goal

pub change_part-requires-clause-there : goal.change_part-requires-clause-there
change_part-requires-clause-there c =
    let name = c.args.name.now in
    let tested = subst (λ (s : State). IsTested (changed_part_of s.names name c.args.task) (entry_of s.names name) name (Ok c.in-Ok.change)) c.self.view_is c.in-Ok.ensures in
    is_there (changed_part_of c.args.self.now.names name c.args.task) _ name c.in-Ok.change tested

pub change_part-requires-clause-fits : goal.change_part-requires-clause-fits
change_part-requires-clause-fits c =
    let name = c.args.name.now in
    let tested = subst (λ (s : State). IsTested (changed_part_of s.names name c.args.task) (entry_of s.names name) name (Ok c.in-Ok.change)) c.self.view_is c.in-Ok.ensures in
    fits_found (changed_part_of c.args.self.now.names name c.args.task) _ name c.in-Ok.change tested

pub returns-in-Ok-clause-step : goal.returns-in-Ok-clause-step
returns-in-Ok-clause-step c =
    let name = c.args.name.now in
    let tested = subst (λ (s : State). IsTested (changed_part_of s.names name c.args.task) (entry_of s.names name) name (Ok c.in-Ok.change)) c.self.view_is c.in-Ok.ensures in
    change_done (changed_part_of c.args.self.now.names name c.args.task) name c.in-Ok.change c.args.self.now.names c.change_part.new.self.names c.change_part.result tested c.change_part.ensures.changed

pub returns-in-Err-clause-step : goal.returns-in-Err-clause-step
returns-in-Err-clause-step c =
    let name = c.args.name.now in
    let tested = subst (λ (s : State). IsTested (changed_part_of s.names name c.args.task) (entry_of s.names name) name (Err c.in-Err.cause)) c.self.view_is c.in-Err.ensures in
    change_refused (changed_part_of c.args.self.now.names name c.args.task) (entry_of c.args.self.now.names name) name c.in-Err.cause c.args.self.now.names c.args.self.now.names refl tested
