use Rattle.std.specs.Prelude.{◌≡◌, ◌↔◌, ℕ, ℤ, List, IsTrue, pos, slice_index_or}
use Rattle.std.specs.Int.{w128}
use Rattle.std.proofs.Common.{arith, ap, sym, ◌∙◌, subst}
use Rattle.std.proofs.lemmas.Int.{to_z-of_z, fits_signed_from_abs}
use mir.Val.{SFits}
use Rattle.row_core.specs.Vectors.{cell}
use Rattle.row_core.specs.Range.{InRange}
use Rattle.cons_sys.specs.Kinds.{Allows}
use Rattle.cons_sys.specs.Constraints.{row_at}
use Rattle.cons_sys.specs.declared.kind.ConKind.{ConKind}
use Rattle.bd_shape.specs.Rows.{constant_row}
use Rattle.bd_shape.proofs.GivenPoints.{constant_answer}
use Rattle.bd_shape.proofs.given.take_constraint.Goals as goal

pub returns-in-Constant-clause-read : goal.returns-in-Constant-clause-read
returns-in-Constant-clause-read c =
    let cs = c.args.cons.now in
    let row = c.row-row.ensures.value in
    let dim = c.dim-dim.ensures.value in
    let constant : row_at cs.list c.args.k ≡ constant_row cs.dim (cell (row_at cs.list c.args.k) cs.dim) =
    subst (λ (n : ℕ). row_at cs.list c.args.k ≡ constant_row n (cell (row_at cs.list c.args.k) n)) dim
    (subst (λ (v : List ℤ). v ≡ constant_row c.dim-dim.result (cell v c.dim-dim.result)) row c.in-Constant.ensures) in
    let same : cell c.row-row.result.now c.dim-dim.result ≡ cell (row_at cs.list c.args.k) cs.dim = ap (λ (v : List ℤ). cell v c.dim-dim.result) row ∙ ap (cell (row_at cs.list c.args.k)) dim in
    let inside : InRange (cell (row_at cs.list c.args.k) cs.dim) = c.row-row.ensures.in_range cs.dim (pos 0) (let w = c.row-row.ensures.wide in omega (arith, w)) in
    let kept : InRange (cell c.row-row.result.now c.dim-dim.result) = subst InRange (sym same) inside in
    let fits : SFits w128 (slice_index_or c.row-row.result.now c.dim-dim.result (pos 0)) = fits_signed_from_abs w128 (slice_index_or c.row-row.result.now c.dim-dim.result (pos 0)) kept.size in
    let answer = simp to_z-of_z at c.allows.ensures in
    constant_answer cs c.args.k c.args.bounds.now c.allows.result constant c.requires.reading
    (subst (λ (kind : ConKind). IsTrue c.allows.result ↔ Allows kind (cell (row_at cs.list c.args.k) cs.dim)) c.kind.ensures
    (subst (λ (z : ℤ). IsTrue c.allows.result ↔ Allows c.kind.result z) same answer))
