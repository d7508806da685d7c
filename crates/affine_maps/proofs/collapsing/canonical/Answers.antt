use Rattle.std.proofs.Common.{subst}
use Rattle.std.specs.Prelude.{Option, IfSome}
use Rattle.row_core.specs.Lists.{Rows}
use Rattle.minimise.specs.MinimalForms.{AreFormed}
use Rattle.affine_maps.proofs.CanonicalForms.{canonical_form}
use Rattle.affine_maps.proofs.collapsing.canonical.Goals as goal

pub returns-clause-system : goal.returns-clause-system
returns-clause-system g c =
    let form = c.args.form in
    let f : AreFormed form.lines.width form.lines form.rays c.in-Some.parts.0 c.in-Some.parts.1 = subst (λ (found : Option (Rows × Rows)). IfSome found (λ parts. AreFormed form.lines.width form.lines form.rays parts.0 parts.1)) c.in-Some.is c.in_ok-parts.ensures.formed in
    canonical_form c.args.list.now form c.requires c.in-Some.parts.0 c.in-Some.parts.1 f c.in_ok-rays.rays c.in_ok-rays.order c.in_ok-rays.ensures c.in_ok-sat.sat c.in_ok-sat.ensures
