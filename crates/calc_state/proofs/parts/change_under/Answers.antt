use Rattle.std.proofs.Common.{sym, ap, ◌∙◌}
use Rattle.std.proofs.lemmas.Result.{on_err_weaker}
use Rattle.name_table.specs.Table.{put}
use Rattle.name_table.proofs.TableLemmas.{put_same}
use Rattle.calc_state.specs.declared.entry.Entry.{Entry}
use Rattle.calc_state.proofs.parts.change_under.Goals as goal

pub apply-requires : goal.apply-requires
apply-requires c = c.requires.fits c.in-Some.entry.now (sym c.in-Some.ensures.value)

pub returns-clause-err : goal.returns-clause-err
returns-clause-err c = on_err_weaker c.apply.result (λ h. ap (λ (e : Entry). put c.args.names.now c.args.name.now e) h ∙ put_same c.args.names.now c.args.name.now c.in-Some.entry.now (sym c.in-Some.ensures.value)) c.apply.ensures.err
