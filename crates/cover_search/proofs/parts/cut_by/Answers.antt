use Rattle.std.proofs.Common.{◌≡◌, ◌+◌, ◌<◌, length, Some, sym, subst, ap, ◌∙◌}
use Rattle.std.specs.Prelude.{slice_get}
use Rattle.std.proofs.lemmas.Option.{slice_get-get_or}
use Rattle.cons_sys.specs.Constraints.{Constraints}
use Rattle.cover_search.specs.Parts.{HoldFrom}
use Rattle.cover_search.proofs.PartLemmas.{cut_rows}
use Rattle.std.proofs.lemmas.Result.{err_from_is_err_and}
use Rattle.cover_search.proofs.parts.cut_by.Goals as goal

pub part_by-requires-clause-last : goal.part_by-requires-clause-last
part_by-requires-clause-last g c = subst (λ (rows : Constraints). c.args.cut.last < length rows.list) (cut_rows c.args.systems.now c.args.region c.args.cut c.requires.cut c.index-systems-cut.result c.index-systems-cut.is) c.requires.cut.last

pub part_by-requires-clause-behind : goal.part_by-requires-clause-behind
part_by-requires-clause-behind g c = subst (λ (rows : Constraints). HoldFrom c.args.region rows (c.args.cut.last + 1)) (cut_rows c.args.systems.now c.args.region c.args.cut c.requires.cut c.index-systems-cut.result c.index-systems-cut.is) c.requires.cut.behind

pub returns-clause-parts : goal.returns-clause-parts
returns-clause-parts g c =
    let rows = c.index-systems-cut.result in
    let at : slice_get c.args.systems.now c.args.cut.system ≡ Some rows = slice_get-get_or c.args.systems.now c.args.cut.system rows c.requires.system ∙ ap Some (sym c.index-systems-cut.is) in
    (rows, at, c.in_ok-part_by.ensures.parts)

pub returns-clause-conversion : goal.returns-clause-conversion
returns-clause-conversion g c =
    let rows = c.index-systems-cut.result in
    let at : slice_get c.args.systems.now c.args.cut.system ≡ Some rows = slice_get-get_or c.args.systems.now c.args.cut.system rows c.requires.system ∙ ap Some (sym c.index-systems-cut.is) in
    (rows, at, c.in_ok-part_by.ensures.conversion)

pub returns-in_err-part_by-clause-conversion : goal.returns-in_err-part_by-clause-conversion
returns-in_err-part_by-clause-conversion g c =
    let rows = c.index-systems-cut.result in
    let at : slice_get c.args.systems.now c.args.cut.system ≡ Some rows = slice_get-get_or c.args.systems.now c.args.cut.system rows c.requires.system ∙ ap Some (sym c.index-systems-cut.is) in
    let p = err_from_is_err_and c.from_residual.result c.from_residual.ensures.1 in
    rw (p.1, p.2) (rows, at, c.in_err-part_by.ensures.conversion)
