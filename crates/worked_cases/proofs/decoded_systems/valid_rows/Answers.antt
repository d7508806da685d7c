use Rattle.std.proofs.lemmas.Result.{IfOk-weaker}
use Rattle.chernikova.specs.Conversion.{IsConverted}
use Rattle.nnc_enc.specs.Results.{AreRowLists}
use Rattle.worked_cases.proofs.DecodedLists.{are_row_lists}
use Rattle.worked_cases.proofs.decoded_systems.valid_rows.Goals as goal

pub returns : goal.returns
returns g c =
    let list = c.in_ok-list.list in
    let width = c.width-width.result in
    IfOk-weaker c.convert.result (IsConverted width list.rows) (λ cone. AreRowLists cone.lines cone.rays)
    (λ cone h. are_row_lists c.args.gens.now list width cone c.dim-dim.ensures.rows c.requires c.in_ok-list.ensures.width c.in_ok-list.ensures.rows c.width-width.ensures.value c.width-width.ensures.rows h.canon h.lists)
    c.convert.ensures.cone
