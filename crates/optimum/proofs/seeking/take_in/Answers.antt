use Rattle.std.specs.Int.{w128}
use Rattle.std.proofs.Common.{refl, subst}
use Rattle.std.proofs.lemmas.Result.{err_from_is_err_and}
use Rattle.row_core.specs.Vectors.{dot}
use Rattle.gens_sys.specs.declared.kind.GenKind.{GenKind}
use Rattle.gens_sys.specs.Generators.{row_at}
use Rattle.std.proofs.lemmas.Bool.{false≢true}
use Rattle.optimum.specs.Search.{Improves, Keeps}
use Rattle.std.proofs.lemmas.Int.{to_z-of_z, fits_signed_from_abs}
use mir.Val.{SFits}
use Rattle.optimum.proofs.SeekLemmas.{goes_other, keeps_other, goes_first, keeps_first, goes_chosen, keeps_chosen, compare_leaves}
use Rattle.optimum.proofs.seeking.take_in.Goals as goal

pub returns-then-improves : goal.returns-then-improves
returns-then-improves c =
    let fits : SFits w128 c.in_ok-value.value = fits_signed_from_abs w128 c.in_ok-value.value c.in_ok-value.ensures.in_range.size in
    let list = c.args.gens.now.list in
    let improves = simp to_z-of_z at c.if-improves.ensures in (
      c.in_ok-value.ensures.answer.1,
      subst (λ (kind : GenKind). Improves c.args.up kind (dot c.args.row.now (row_at list c.args.i))) c.kind-kind.ensures (subst (Improves c.args.up c.kind-kind.result) c.in_ok-value.ensures.answer.0 (improves.0 refl)),
    )

pub returns-then-not-is_point : goal.returns-then-not-is_point
returns-then-not-is_point c =
    let fits : SFits w128 c.in_ok-value.value = fits_signed_from_abs w128 c.in_ok-value.value c.in_ok-value.ensures.in_range.size in
    let improves = simp to_z-of_z at c.if-improves.ensures in
    let bounded : ¬ (Improves c.args.up c.kind-kind.result c.in_ok-value.value) = λ p. false≢true (improves.1 p) in (
      goes_other c.args.up c.args.row.now c.args.gens.now c.requires.fits c.args.i c.requires.generator c.in_ok-value.value c.kind-kind.result c.in_ok-value.ensures.answer c.in_ok-value.ensures.in_range c.kind-kind.ensures bounded (λ p. false≢true (c.if-not-is_point.ensures.1 p)),
      keeps_other c.args.up c.args.row.now c.args.gens.now c.requires.fits c.args.i c.requires.generator c.in_ok-value.value c.kind-kind.result c.in_ok-value.ensures.answer c.in_ok-value.ensures.in_range c.kind-kind.ensures bounded c.args.best (λ p. false≢true (c.if-not-is_point.ensures.1 p)) c.requires.keeps,
    )

pub returns-in-None : goal.returns-in-None
returns-in-None c =
    let fits : SFits w128 c.in_ok-value.value = fits_signed_from_abs w128 c.in_ok-value.value c.in_ok-value.ensures.in_range.size in
    let improves = simp to_z-of_z at c.if-improves.ensures in
    let bounded : ¬ (Improves c.args.up c.kind-kind.result c.in_ok-value.value) = λ p. false≢true (improves.1 p) in
    simp to_z-of_z (
      goes_first c.args.up c.args.row.now c.args.gens.now c.requires.fits c.args.i c.requires.generator c.in_ok-value.value c.kind-kind.result c.in_ok-value.ensures.answer c.in_ok-value.ensures.in_range c.kind-kind.ensures bounded (subst (Keeps c.args.up c.args.row.now c.args.gens.now.dim c.args.gens.now.list c.args.i) c.in-None.is c.requires.keeps),
      keeps_first c.args.up c.args.row.now c.args.gens.now c.requires.fits c.args.i c.requires.generator c.in_ok-value.value c.kind-kind.result c.in_ok-value.ensures.answer c.in_ok-value.ensures.in_range c.kind-kind.ensures bounded (subst (Keeps c.args.up c.args.row.now c.args.gens.now.dim c.args.gens.now.list c.args.i) c.in-None.is c.requires.keeps) (c.if-not-is_point.ensures.0 refl),
    )

pub returns-in_ok-compared-in-Some : goal.returns-in_ok-compared-in-Some
returns-in_ok-compared-in-Some c =
    let fits : SFits w128 c.in_ok-value.value = fits_signed_from_abs w128 c.in_ok-value.value c.in_ok-value.ensures.in_range.size in
    let improves = simp to_z-of_z at c.if-improves.ensures in
    let bounded : ¬ (Improves c.args.up c.kind-kind.result c.in_ok-value.value) = λ p. false≢true (improves.1 p) in
    let chooses = simp to_z-of_z at c.in_ok-compared-in-Some.ensures in (
      goes_chosen c.args.up c.args.row.now c.args.gens.now c.requires.fits c.args.i c.requires.generator c.in_ok-value.value c.kind-kind.result c.in_ok-value.ensures.answer c.in_ok-value.ensures.in_range c.kind-kind.ensures bounded c.in-Some.best (subst (Keeps c.args.up c.args.row.now c.args.gens.now.dim c.args.gens.now.list c.args.i) c.in-Some.is c.requires.keeps) (c.if-not-is_point.ensures.0 refl) c.in_ok-compared-in-Some.field-0 chooses,
      keeps_chosen c.args.up c.args.row.now c.args.gens.now c.requires.fits c.args.i c.requires.generator c.in_ok-value.value c.kind-kind.result c.in_ok-value.ensures.answer c.in_ok-value.ensures.in_range c.kind-kind.ensures bounded c.in-Some.best (subst (Keeps c.args.up c.args.row.now c.args.gens.now.dim c.args.gens.now.list c.args.i) c.in-Some.is c.requires.keeps) (c.if-not-is_point.ensures.0 refl) c.in_ok-compared-in-Some.field-0 chooses,
    )

pub returns-in_err-compared-in-Some : goal.returns-in_err-compared-in-Some
returns-in_err-compared-in-Some c =
    let fits : SFits w128 c.in_ok-value.value = fits_signed_from_abs w128 c.in_ok-value.value c.in_ok-value.ensures.in_range.size in
    let improves = simp to_z-of_z at c.if-improves.ensures in
    let bounded : ¬ (Improves c.args.up c.kind-kind.result c.in_ok-value.value) = λ p. false≢true (improves.1 p) in
    let answer = simp to_z-of_z at c.in_err-compared-in-Some.ensures in
    let leaves = compare_leaves c.args.up c.args.row.now c.args.gens.now c.requires.fits c.args.i c.requires.generator c.in_ok-value.value c.kind-kind.result c.in_ok-value.ensures.answer c.in_ok-value.ensures.in_range c.kind-kind.ensures bounded c.in-Some.best (subst (Keeps c.args.up c.args.row.now c.args.gens.now.dim c.args.gens.now.list c.args.i) c.in-Some.is c.requires.keeps) (c.if-not-is_point.ensures.0 refl) c.in_err-compared-in-Some.field-0.0 answer in
    let p = err_from_is_err_and c.from_residual-in_err-compared-in-Some.result c.from_residual-in_err-compared-in-Some.ensures.1 in
    rw (p.1, p.2) leaves
