use Rattle.std.specs.Prelude.{nat_eq}
use Rattle.std.proofs.Common.{◌≡◌, length, sym, ◌∙◌, arith, eq-eqb}
use Rattle.std.proofs.lemmas.Bool.{eqb-true}
use Rattle.sat_matrix.specs.Tables.{bits_of}
use Rattle.minimise.proofs.Splits.{split_none, split_more, split_all}
use Rattle.minimise.proofs.facets.full_places.Goals as goal

pub loop-row-init : goal.loop-row-init
loop-row-init c = split_none c.args.table.now.rows _ _ c.new-full.ensures.items c.in_ok-others.ensures.items

pub loop-row-preserved : goal.loop-row-preserved
loop-row-preserved c =
    let row = c.loop-row.row in
    let wide : length (bits_of c.args.table.now.rows c.loop-row.row) ≡ c.columns.result = c.columns.ensures.rectangular row (omega arith) ∙ sym c.columns.ensures.value in
    split_more c.args.table.now.rows row (nat_eq c.ones.result c.columns.result) c.loop-row.full.items c.loop-row.others.items c.push_place.new.full.items c.push_place.new.others.items
    ((λ t. sym c.ones.ensures ∙ eqb-true c.ones.result c.columns.result t ∙ sym wide), (λ e. eq-eqb c.ones.result c.columns.result (c.ones.ensures ∙ e ∙ wide)))
    c.in_ok-push_place.ensures.first c.in_ok-push_place.ensures.second c.loop-row.invariant

pub returns : goal.returns
returns c = split_all c.args.table.now.rows c.loop-row.row _ _ (omega arith) c.loop-row.invariant
