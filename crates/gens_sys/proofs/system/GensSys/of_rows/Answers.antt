use Rattle.std.specs.Prelude.{◌≡◌, ◌<◌, List, [], ◌∷◌, ◌++◌, false, length, map, take, ℤ, pos, slice_index_or}
use Rattle.std.proofs.Common.{arith, sym, ap, ◌∙◌, subst}
use Rattle.std.proofs.lemmas.Int.{to_z-of_z, fits_signed_from_abs}
use Rattle.std.proofs.lemmas.List.{map_more}
use Rattle.std.proofs.lemmas.List.Elements.{All-get_or}
use Rattle.std.specs.Int.{w128}
use mir.Val.{SFits}
use Rattle.row_core.specs.Range.{InRange, AllInRange}
use Rattle.row_core.specs.Vectors.{cell}
use Rattle.row_core.specs.Lists.{Row}
use Rattle.row_core.specs.MarkedCells.{remarked}
use Rattle.gens_sys.specs.Generators.{Generator, generator_of, FitDimension}
use Rattle.gens_sys.specs.declared.kind.GenKind.{GenKind}
use Rattle.gens_sys.proofs.RowLemmas.{kind_of_row, kind_of_row-is, remarked-all_kinds, FitDimension-of_rows}
use Rattle.gens_sys.proofs.system.GensSys.of_rows.Goals as goal

pub loop-index-preserved : goal.loop-index-preserved
loop-index-preserved c =
    let dim = c.args.dim in
    let rows = c.args.rows.rows in
    let index = c.loop-index.index in
    let row = slice_index_or rows index ([], false) in
    let within : index < length rows = omega (arith, c.loop-index-test.true, c.len-index-end.ensures) in
    let lent = c.row.result.now in
    let below : dim < length lent = omega (arith, ap length c.row.ensures.value, c.row.ensures.wide, c.requires.wide) in
    let entry : InRange (cell lent dim) = All-get_or InRange lent dim (pos 0) below (subst AllInRange (sym c.row.ensures.value) c.row.ensures.in_range) in
    let fits : SFits w128 (cell lent dim) = fits_signed_from_abs w128 (cell lent dim) entry.size in
    let made = c.kind_of.ensures dim row.0 (ap (λ (entries : List ℤ). cell entries dim) (sym c.row.ensures.value) ∙ sym (to_z-of_z w128 (cell lent dim) fits)) in
    let last = kind_of_row-is dim row c.is_eq.result c.kind_of.result c.is_eq.ensures made in
    record {
      count = omega (arith, c.push_reserved.ensures.len, c.loop-index.invariant.count);
      room = omega (arith, c.push_reserved.ensures.capacity, c.loop-index.invariant.room);
      kinds = c.push_reserved.ensures.items ∙
          (ap (λ (kinds : List GenKind). kinds ++ c.kind_of.result ∷ []) c.loop-index.invariant.kinds ∙
          (ap (λ (kind : GenKind). map (kind_of_row dim) (take index rows) ++ kind ∷ []) last ∙
          sym (map_more (kind_of_row dim) rows index ([], false) within)));
    }

all_generators : (c : goal.After-with_marks-rows) → c.with_marks-rows.result ≡ map (generator_of c.args.dim) c.args.rows.rows
all_generators c =
    c.with_marks-rows.ensures ∙ (ap (λ (rows : List Row). remarked rows c.loop-index.kinds.items) c.into_marked.ensures.value ∙
    remarked-all_kinds c.args.dim c.args.rows.rows c.loop-index.kinds.items c.loop-index.index (omega (arith, c.loop-index-test.false, c.len-index-end.ensures)) c.loop-index.invariant.kinds)

pub invariant_of-result : goal.invariant_of-result
invariant_of-result c =
    subst (λ (list : List Generator). FitDimension (record { dim = c.args.dim; list = list })) (sym (all_generators c))
    (FitDimension-of_rows c.args.dim c.args.rows.rows c.requires.narrow c.requires.generators)

pub returns-clause-list : goal.returns-clause-list
returns-clause-list c = all_generators c
