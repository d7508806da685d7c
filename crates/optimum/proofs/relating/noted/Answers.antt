use Rattle.std.specs.Prelude.{◌≡◌, ◌↔◌, Bool, true, false, IsTrue, ℤ}
use Rattle.std.specs.Int.{w128}
use Rattle.std.proofs.Common.{refl, sym, subst, ◌∙◌}
use Rattle.std.proofs.lemmas.Bool.{false≢true}
use Rattle.std.proofs.lemmas.Int.{to_z-of_z, fits_signed_from_abs}
use mir.Val.{SFits}
use Rattle.cons_sys.specs.declared.kind.ConKind.TheVariants.{Ge, Gt}
use Rattle.set_laws.specs.Asking.{Asks}
use Rattle.optimum.proofs.relating.noted.Goals as goal
use Rattle.optimum.proofs.relating.noted.Goals.{then-sides, else-sides, then-sides-2, else-sides-2, then-sides-3, else-sides-3, then-sides-4, else-sides-4}

asked : {old new asks : Bool} {P : Type 0} → old ≡ true → IsTrue asks ↔ P → new ≡ asks → IsTrue new ↔ (IsTrue old × P)
asked o h e = ((λ n. (o, h.0 (sym e ∙ n))), (λ p. e ∙ h.1 p.1))

unasked : {old new : Bool} {P : Type 0} → old ≡ false → new ≡ old → IsTrue new ↔ (IsTrue old × P)
unasked o e = ((λ n. absurd (false≢true (sym o ∙ sym e ∙ n))), (λ p. e ∙ p.0))

pub returns-then-sides-5 : goal.returns-then-sides-5
returns-then-sides-5 c =
    let fits : SFits w128 c.args.value = fits_signed_from_abs w128 c.args.value c.requires.size in
    let other_fits : SFits w128 c.turned-other.result = fits_signed_from_abs w128 c.turned-other.result c.turned-other.ensures.in_range.size in
    let turned = simp to_z-of_z at c.turned-other.ensures.value in
    record {
      zero = elim c.if-sides.branch [ then-sides w ↦ asked w.if-sides.true (simp to_z-of_z at w.asks.ensures) w.result-is | else-sides w ↦ unasked w.if-sides.false w.result-is ];
      least = elim c.if-sides-2.branch [ then-sides-2 w ↦ asked w.if-sides-2.true (simp to_z-of_z at w.asks-then-sides-2.ensures) w.result-is | else-sides-2 w ↦ unasked w.if-sides-2.false w.result-is ];
      above = elim c.if-sides-3.branch [ then-sides-3 w ↦ asked w.if-sides-3.true (simp to_z-of_z at w.asks-then-sides-3.ensures) w.result-is | else-sides-3 w ↦ unasked w.if-sides-3.false w.result-is ];
      most = elim c.if-sides-4.branch [ then-sides-4 w ↦ asked w.if-sides-4.true (subst (λ (z : ℤ). IsTrue w.asks-then-sides-4.result ↔ Asks Ge c.args.kind z) turned (simp to_z-of_z at w.asks-then-sides-4.ensures)) w.result-is | else-sides-4 w ↦ unasked w.if-sides-4.false w.result-is ];
      below = asked c.if-sides-5.true (subst (λ (z : ℤ). IsTrue c.asks-then-sides-5.result ↔ Asks Gt c.args.kind z) turned (simp to_z-of_z at c.asks-then-sides-5.ensures)) refl;
    }

pub returns-else-sides-5 : goal.returns-else-sides-5
returns-else-sides-5 c =
    let fits : SFits w128 c.args.value = fits_signed_from_abs w128 c.args.value c.requires.size in
    let other_fits : SFits w128 c.turned-other.result = fits_signed_from_abs w128 c.turned-other.result c.turned-other.ensures.in_range.size in
    let turned = simp to_z-of_z at c.turned-other.ensures.value in
    record {
      zero = elim c.if-sides.branch [ then-sides w ↦ asked w.if-sides.true (simp to_z-of_z at w.asks.ensures) w.result-is | else-sides w ↦ unasked w.if-sides.false w.result-is ];
      least = elim c.if-sides-2.branch [ then-sides-2 w ↦ asked w.if-sides-2.true (simp to_z-of_z at w.asks-then-sides-2.ensures) w.result-is | else-sides-2 w ↦ unasked w.if-sides-2.false w.result-is ];
      above = elim c.if-sides-3.branch [ then-sides-3 w ↦ asked w.if-sides-3.true (simp to_z-of_z at w.asks-then-sides-3.ensures) w.result-is | else-sides-3 w ↦ unasked w.if-sides-3.false w.result-is ];
      most = elim c.if-sides-4.branch [ then-sides-4 w ↦ asked w.if-sides-4.true (subst (λ (z : ℤ). IsTrue w.asks-then-sides-4.result ↔ Asks Ge c.args.kind z) turned (simp to_z-of_z at w.asks-then-sides-4.ensures)) w.result-is | else-sides-4 w ↦ unasked w.if-sides-4.false w.result-is ];
      below = unasked c.if-sides-5.false refl;
    }
