use Rattle.std.proofs.Common.{◌*◌, ap, sym, subst, arith, ◌∙◌, ◌^◌, ◌<◌, ℕ, length}
use Rattle.flat_rows.proofs.Flat.{seen, rectangular}
use Rattle.flat_rows.proofs.rows.FlatRows.width.Goals as goal

pub returns-clause-rectangular : goal.returns-clause-rectangular
returns-clause-rectangular g c = rectangular _ _ _ _ _ _ _ c.self.invariant (sym c.self.inside.cells.ok.0) c.self.view_is

pub returns-clause-counted : goal.returns-clause-counted
returns-clause-counted g c =
    let k = seen _ _ _ _ _ c.self.view_is in
    let P : ℕ → Type 0 = λ m. m < 2 ^ 64 in
    subst P (c.self.invariant.taken ∙ ap (λ (n : ℕ). n * c.self.inside.width) (sym k.count) ∙ ap (λ (w : ℕ). length c.args.self.now.rows * w) (sym k.width)) (omega arith)
