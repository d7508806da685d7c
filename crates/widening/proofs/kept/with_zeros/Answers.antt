use Rattle.std.proofs.Common.{◌≡◌, ◌+◌, ℕ, List, length, sym, ap, subst, ◌∙◌, arith, below_more, All}
use Rattle.std.specs.Prelude.{IsTrue}
use Rattle.std.proofs.lemmas.Bool.{false≢true}
use Rattle.row_core.specs.Content.{IsPrimitive}
use Rattle.cons_sys.specs.Constraints.{Constraint, Constraints, row_at}
use Rattle.stored_systems.specs.PointSets.{IsClosedKind}
use Rattle.widening.specs.Values.{HasZerosAmong, AreAmong}
use Rattle.widening.proofs.AmongLists.{HoldsAmong, hold_taken, hold_passed, closed_taken, those_taken, those_passed, those_begin, hold_none}
use Rattle.widening.proofs.kept.with_zeros.Goals.{then-branch+in_ok-push_primitive, else-branch}
use Rattle.widening.proofs.kept.with_zeros.Goals as goal

pub push_primitive-requires-clause-primitive : goal.push_primitive-requires-clause-primitive
push_primitive-requires-clause-primitive c = subst IsPrimitive (sym c.row-row.ensures.value) c.row-row.ensures.primitive

pub loop-index-preserved : goal.loop-index-preserved
loop-index-preserved c =
    let p = c.args.p.now in
    let cs = c.args.cons.now in
    let i = c.loop-index.index in
    let row = c.row-row.result.now in
    let kind = c.kind-kind.result in
    let old = c.loop-index.kept.list in
    let has = c.in_ok-has_zeros_among.ensures.among in
    elim c.if-branch.branch [
      | then-branch+in_ok-push_primitive w ↦
          let new = ap (λ (s : Constraints). s.list) w.kept-is ∙ w.in_ok-push_primitive.ensures.list in
          let z = has.0 w.if-branch.true in
          record {
            dim = ap (λ (s : Constraints). s.dim) w.kept-is ∙ w.in_ok-push_primitive.ensures.dim ∙ c.loop-index.invariant.dim;
            closed = closed_taken p cs i row kind (omega arith) c.row-row.ensures.value c.kind-kind.ensures old c.loop-index.invariant.holds c.if-branch.kept.list c.requires.closed_kinds c.loop-index.invariant.closed new;
            those = those_taken p cs i row kind (omega arith) c.row-row.ensures.value c.kind-kind.ensures old c.loop-index.invariant.holds c.if-branch.kept.list z new c.loop-index.invariant.those;
            holds = hold_taken p cs i row kind (omega arith) c.row-row.ensures.value c.kind-kind.ensures old c.loop-index.invariant.holds c.if-branch.kept.list z new;
            all = λ t. below_more (λ (n : ℕ). HasZerosAmong c.args.p.now.cons.list c.args.p.now.gens (row_at c.args.cons.now.list n)) i (c.loop-index.invariant.all (subst IsTrue w.all-is t)) (subst (HasZerosAmong c.args.p.now.cons.list c.args.p.now.gens) c.row-row.ensures.value z);
          }
      | else-branch w ↦
          let same = ap (λ (s : Constraints). s.list) w.kept-is in
          record {
            dim = ap (λ (s : Constraints). s.dim) w.kept-is ∙ c.loop-index.invariant.dim;
            closed = subst (λ (list : List Constraint). All (λ x. IsClosedKind x.1) list) (sym same) c.loop-index.invariant.closed;
            those = subst (AreAmong c.args.p.now c.args.cons.now (c.loop-index.index + 1)) (sym same) (those_passed p cs i row kind (omega arith) c.row-row.ensures.value c.kind-kind.ensures old c.loop-index.invariant.holds (λ h. absurd (false≢true (sym w.if-branch.false ∙ has.1 h))) c.loop-index.invariant.those);
            holds = subst (HoldsAmong c.args.p.now c.args.cons.now (c.loop-index.index + 1)) (sym same) (hold_passed p cs i row kind (omega arith) c.row-row.ensures.value c.kind-kind.ensures old c.loop-index.invariant.holds (λ h. absurd (false≢true (sym w.if-branch.false ∙ has.1 h))));
            all = λ t. absurd (false≢true (sym w.all-is ∙ t));
          }
    ]

pub returns : goal.returns
returns c =
    let end : c.loop-index.index ≡ length c.args.cons.now.list = omega (arith, c.loop-index.auto.index-end, c.loop-index-test.false, c.len-index-end.ensures) in
    record {
      same_dim = c.loop-index.invariant.dim;
      closed = c.loop-index.invariant.closed;
      those = subst (λ (n : ℕ). AreAmong c.args.p.now c.args.cons.now n c.loop-index.kept.list) end c.loop-index.invariant.those;
      holds = subst (λ (n : ℕ). HoldsAmong c.args.p.now c.args.cons.now n c.loop-index.kept.list) end c.loop-index.invariant.holds;
    }

pub loop-index-init : goal.loop-index-init
loop-index-init c =
    let p = c.args.p.now in
    let cs = c.args.cons.now in
    let list = c.in_ok-kept.kept.list in
    let none : length list ≡ 0 = ap (λ (xs : List Constraint). length xs) c.in_ok-kept.ensures.empty in
    record {
      dim = c.in_ok-kept.ensures.dim ∙ c.dim.ensures.value;
      closed = λ k d l. absurd (omega (arith, l, none));
      those = those_begin p cs list c.in_ok-kept.ensures.empty;
      holds = hold_none p cs list c.in_ok-kept.ensures.empty;
      all = λ t i l. absurd (omega (arith, l));
    }
