use Rattle.std.proofs.Common.{◌∙◌, List, ℤ, length, inl, inr, refl, sym, ap, subst, arith, false}
use Rattle.std.specs.List.{insert}
use mathlib.Core.Bool.{true≢false}
use Rattle.row_core.specs.Range.{AllInRange}
use Rattle.stored_systems.proofs.StoredLists.{first_dropped}
use Rattle.stored_systems.proofs.parts.trimmed_rays.Goals as goal

pub returns-then-not-third_between : goal.returns-then-not-third_between
returns-then-not-third_between c = inl (record {
  needed = λ third. true≢false (sym (c.if-not-third_between.ensures.1 third));
  width = c.in_ok-insert.ensures.width ∙ c.requires.width;
  rows = c.in_ok-insert.ensures.rows ∙ ap (λ row. insert c.args.rays.rows 0 (row, false)) (c.deref.ensures.value ∙ c.in_ok-divisor_row.ensures.row);
  same_table = refl;
})

pub returns : goal.returns
returns c = inr (record {
  third = c.if-not-third_between.ensures.0 refl;
  same_rays = refl;
  columns = c.keep_rows.ensures.columns;
  rows = c.keep_rows.ensures.rows ∙ first_dropped c.args.sat.now.rows c.len.result c.deref-2.result.now c.len.ensures (c.deref-2.ensures.value ∙ c.in_ok-all_but_first.ensures);
})

pub insert-requires : goal.insert-requires
insert-requires c = record {
  place = omega arith;
  wide = ap (λ (v : List ℤ). length v) c.deref.ensures.value ∙ c.in_ok-divisor_row.ensures.wide ∙ sym c.requires.width;
  in_range = subst AllInRange (sym c.deref.ensures.value) c.in_ok-divisor_row.ensures.in_range;
}
