use Rattle.std.proofs.Common.{ap, sym, ◌∙◌, inr}
use Rattle.std.specs.Option.{ghost_name_of}
use mathlib.Core.Path.{fun_ext}
use borrow.Follows.Closed.{read_of}
use Rattle.name_table.specs.Keys.{named}
use Rattle.name_table.specs.Table.{Table, entry_of, put}
use Rattle.name_table.proofs.TableLemmas.{lookup-named, replaced_at, no_entry}
use Rattle.name_table.proofs.names.Names.get_mut.Goals as goal

pub returns-in-Some : goal.returns-in-Some
returns-in-Some g c =
    let es = c.self.inside.entries.entries in
    let name = c.args.name.now in (
      ap (λ F. read_of (ghost_name_of c.get_index_mut.result) F (named es)) (fun_ext (λ w. replaced_at es name c.in-Some.index w c.args.self.now (sym c.in-Some.is ∙ c.get_index_of.ensures.index) c.self.view_is))
          ∙ ap (λ (t : Table g.row.E.Denot). read_of (ghost_name_of c.get_index_mut.result) (put c.args.self.now name) t) c.self.view_is,
      record { writes_back = tt; value = c.get_index_mut.ensures.value ∙ (c.in-Some.ensures.value ∙ (lookup-named es name ∙ ap (λ t. entry_of t name) c.self.view_is)) },
    )

pub returns-in-None : goal.returns-in-None
returns-in-None g c =
    let es = c.self.inside.entries.entries in
    (ap inr c.self.view_is, record { writes_back = tt; value = sym (no_entry es c.args.name.now c.get_index_of.result c.args.self.now c.in-None.is c.get_index_of.ensures.found c.self.view_is) })
