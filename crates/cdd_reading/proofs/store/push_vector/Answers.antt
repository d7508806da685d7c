use Rattle.std.proofs.Common.{◌≡◌, List, Result, Ok, Err, subst, sym, ap}
use Rattle.std.specs.Prelude.{ℤ, pos}
use Rattle.std.proofs.lemmas.List.Elements.{All-get_or}
use Rattle.row_core.specs.Range.{InRange}
use Rattle.gens_sys.specs.declared.kind.GenPushErr.TheVariants.{ZeroVector}
use Rattle.row_core.specs.Vectors.{cell}
use Rattle.row_core.specs.Content.{IsPrimitiveOf}
use Rattle.gens_sys.specs.Kinds.{HasBadDivisor, IsZeroDirection}
use Rattle.cdd_reading.specs.Files.{IsKind}
use Rattle.cdd_reading.proofs.StoreLaws.{passed_on, kept_faultless, zero_row, no_bad_divisor}
use Rattle.cdd_reading.proofs.store.push_vector.Goals as goal

ok_not_err : {A E : Type 0} (a : A) (e : E) → ◌≡◌ {A = Result A E} (Ok a) (Err e) → ⊥
ok_not_err a e h = cc

pub returns-in-Ok-push_row-clause-list : goal.returns-in-Ok-push_row-clause-list
returns-in-Ok-push_row-clause-list c =
    let row = c.args.row.now in
    let kind = c.in-Ok.kind in
    let same = c.in-Ok-with_first_at_end.ensures.row in
    let kept = c.in-Ok-push_row.ensures in
    let is_kind : IsKind c.args.marked (cell c.args.row.now 0) c.in-Ok.kind = subst (λ (z : ℤ). IsKind c.args.marked z c.in-Ok.kind) (passed_on (cell c.args.row.now 0) (All-get_or InRange c.args.row.now 0 (pos 0) c.requires.some c.requires.in_range)) c.in-Ok.ensures in (
      (kept.list.stored, kind),
      (subst (λ (v : List ℤ). IsPrimitiveOf v kept.list.stored) same kept.list.primitive, is_kind),
      kept.list.list,
      kept_faultless c.args.marked row kind c.requires.some is_kind (λ zero. ok_not_err c.in-Ok-push_row.field-0 ZeroVector (kept.zero_vector.1 (subst (λ (v : List ℤ). IsZeroDirection kind v) (sym same) zero))),
    )

pub returns-in-Err-ZeroVector : goal.returns-in-Err-ZeroVector
returns-in-Err-ZeroVector c = record {
  dim = c.push_row.ensures.dim;
  list = zero_row c.in-Ok.kind c.args.row.now (subst (λ (v : List ℤ). IsZeroDirection c.in-Ok.kind v) c.in-Ok-with_first_at_end.ensures.row (c.in-Err-ZeroVector.ensures.zero_vector.0 (ap Err c.in-Err-ZeroVector.field-0-is)));
}

pub returns-in-Err-BadDivisor : goal.returns-in-Err-BadDivisor
returns-in-Err-BadDivisor c =
    let dim = c.args.system.now.dim in
    let is_kind : IsKind c.args.marked (cell c.args.row.now 0) c.in-Ok.kind = subst (λ (z : ℤ). IsKind c.args.marked z c.in-Ok.kind) (passed_on (cell c.args.row.now 0) (All-get_or InRange c.args.row.now 0 (pos 0) c.requires.some c.requires.in_range)) c.in-Ok.ensures in
    let bad = c.in-Err-BadDivisor.ensures.bad_divisor.0 (ap Err c.in-Err-BadDivisor.field-0-is) in
    absurd (no_bad_divisor c.args.marked c.args.row.now dim c.in-Ok.kind c.requires.wide is_kind (subst (λ (v : List ℤ). HasBadDivisor c.in-Ok.kind (cell v dim)) c.in-Ok-with_first_at_end.ensures.row bad))
