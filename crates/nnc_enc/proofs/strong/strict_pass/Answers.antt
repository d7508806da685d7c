use Rattle.std.proofs.Common.{arith, ◌≡◌, ◌∙◌, ap, sym, subst, List, Bool, length, drop}
use Rattle.row_core.specs.Lists.{vectors}
use Rattle.nnc_enc.specs.Strong.{IsStrictPass, AreFirstRows}
use Rattle.nnc_enc.specs.Passes.{IsPassed}
use Rattle.nnc_enc.proofs.MarkLemmas.{length-vectors}
use Rattle.nnc_enc.proofs.StrongLemmas.{strict_pass_is}
use Rattle.std.proofs.lemmas.List.{take_at}
use Rattle.std.proofs.lemmas.Result.{err_from_is_err_and}
use Rattle.nnc_enc.proofs.strong.strict_pass.Goals as goal

pub returns : goal.returns
returns c =
    let new = c.drop_covered.new.keep in
    let firsts : AreFirstRows c.args.dim c.args.rays.now.rows c.in_ok-strict.strict.items c.in_ok-places.places.items c.args.sat.now.rows c.in_ok-keep.keep.items (length c.args.sat.now.rows) =
    subst (λ (s : List Bool). AreFirstRows c.args.dim c.args.rays.now.rows s c.in_ok-places.places.items c.args.sat.now.rows c.in_ok-keep.keep.items (length c.args.sat.now.rows)) c.deref.ensures.value
    (subst (λ (p : List Bool). AreFirstRows c.args.dim c.args.rays.now.rows c.deref.result.now p c.args.sat.now.rows c.in_ok-keep.keep.items (length c.args.sat.now.rows)) c.deref-2.ensures.value c.in_ok-keep.ensures) in
    let passed : IsPassed c.in_ok-level.level.items c.in_ok-strict.strict.items c.args.sat.now.rows c.in_ok-keep.keep.items c.drop_covered.new.keep (length c.args.sat.now.rows) =
    subst (λ (l : List Bool). IsPassed l c.in_ok-strict.strict.items c.args.sat.now.rows c.in_ok-keep.keep.items c.drop_covered.new.keep (length c.args.sat.now.rows)) c.deref-3.ensures.value
    (subst (λ (s : List Bool). IsPassed c.deref-3.result.now s c.args.sat.now.rows c.in_ok-keep.keep.items c.drop_covered.new.keep (length c.args.sat.now.rows)) c.deref-4.ensures.value
    (subst (λ (k : List Bool). IsPassed c.deref-3.result.now c.deref-4.result.now c.args.sat.now.rows k c.drop_covered.new.keep (length c.args.sat.now.rows)) c.deref_mut.ensures.value c.in_ok-drop_covered.ensures.passed)) in
    let same : length c.drop_covered.new.keep ≡ length c.in_ok-keep.keep.items = c.in_ok-drop_covered.ensures.length ∙ ap length c.deref_mut.ensures.value in
    let is : IsStrictPass c.args.dim c.args.gens.now.rows (vectors c.args.rays.now.rows) c.drop_covered.new.keep = strict_pass_is c.args.dim c.args.gens.now.rows c.args.rays.now.rows c.args.sat.now c.requires.table c.in_ok-level.level.items c.in_ok-level.ensures c.in_ok-places.places.items c.in_ok-strict.strict.items c.in_ok-keep.keep.items c.drop_covered.new.keep c.in_ok-places.ensures c.in_ok-strict.ensures firsts same passed in
    subst (IsStrictPass c.args.dim c.args.gens.now.rows (vectors c.args.rays.now.rows)) (sym (take_at c.drop_covered.new.keep (drop (length c.drop_covered.new.keep) c.in_ok-keep.keep.items) c.in_ok-keep.keep.len (omega (arith, same, c.deref_mut.ensures.len, c.in_ok-drop_covered.ensures.length)))) is

pub returns-in_err-keep : goal.returns-in_err-keep
returns-in_err-keep c = let p = err_from_is_err_and c.from_residual-in_err-keep.result c.from_residual-in_err-keep.ensures.1 in rw p.1 tt

pub returns-in_err-level : goal.returns-in_err-level
returns-in_err-level c = let p = err_from_is_err_and c.from_residual-in_err-level.result c.from_residual-in_err-level.ensures.1 in rw p.1 tt

pub returns-in_err-places : goal.returns-in_err-places
returns-in_err-places c = let p = err_from_is_err_and c.from_residual-in_err-places.result c.from_residual-in_err-places.ensures.1 in rw p.1 tt

pub returns-in_err-strict : goal.returns-in_err-strict
returns-in_err-strict c = let p = err_from_is_err_and c.from_residual.result c.from_residual.ensures.1 in rw p.1 tt

pub first_rows-requires-clause-as_many : goal.first_rows-requires-clause-as_many
first_rows-requires-clause-as_many c = sym (c.requires.table.each.as_many ∙ length-vectors c.args.rays.now.rows)

pub drop_covered-requires-clause-marks : goal.drop_covered-requires-clause-marks
drop_covered-requires-clause-marks c =
    ap (λ (marks : List Bool). length marks) c.deref-4.ensures.value ∙ c.in_ok-strict.ensures.as_many ∙ sym (c.requires.table.each.as_many ∙ length-vectors c.args.rays.now.rows)

pub first_rows-requires-clause-marks : goal.first_rows-requires-clause-marks
first_rows-requires-clause-marks c =
    ap (λ (marks : List Bool). length marks) c.deref.ensures.value ∙ c.in_ok-strict.ensures.as_many ∙ sym (c.requires.table.each.as_many ∙ length-vectors c.args.rays.now.rows)

pub drop_covered-requires-clause-wide : goal.drop_covered-requires-clause-wide
drop_covered-requires-clause-wide c = ap (λ (marks : List Bool). length marks) c.deref-3.ensures.value ∙ c.in_ok-level.ensures.as_many ∙ sym c.requires.table.columns

pub returns-in_err-drop_covered : goal.returns-in_err-drop_covered
returns-in_err-drop_covered c = let p = err_from_is_err_and c.from_residual-in_err-drop_covered.result c.from_residual-in_err-drop_covered.ensures.1 in rw p.1 tt
