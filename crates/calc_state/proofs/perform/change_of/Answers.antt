use Rattle.std.proofs.Common.{refl}
use Rattle.calc_state.specs.declared.entry.Entry.TheVariants as entry
use Rattle.poly_makers.specs.Meanings.{added}
use Rattle.calc_state.specs.Table.{as_poly}
use Rattle.calc_state.specs.Meanings.{answered, on_table}
use Rattle.line_values.proofs.EffectLemmas.{performed_as, put_found, say_none}
use Rattle.calc_state.proofs.perform.change_of.Goals as goal

pub answer_to-requires : goal.answer_to-requires
answer_to-requires g c = rw c.in-Asks.is at c.requires

pub put_made-requires : goal.put_made-requires
put_made-requires g c = rw c.in-Puts.is at c.requires

pub add_to-made-requires : goal.add_to-made-requires
add_to-made-requires g c = rw c.in-AddsTo.is at c.requires

pub returns-in-Asks : goal.returns-in-Asks
returns-in-Asks g c = performed_as (on_table c.args.names.now) c.args.task _ c.say.result c.in-Asks.is (say_none (answered c.args.names.now c.in-Asks.asked) c.answer_to.result c.say.ensures c.answer_to.ensures)

pub returns-in-Puts : goal.returns-in-Puts
returns-in-Puts g c = performed_as (on_table c.args.names.now) c.args.task _ c.put_made.result c.in-Puts.is c.put_made.ensures

pub returns-in-AddsTo : goal.returns-in-AddsTo
returns-in-AddsTo g c = performed_as (on_table c.args.names.now) c.args.task _ c.put_poly.result c.in-AddsTo.is (put_found entry.Poly as_poly (λ x. refl) c.in-AddsTo.p (added c.in-AddsTo.addition) c.add_to-made.result c.poly_at.ensures c.put_poly.ensures c.add_to-made.ensures)
