use Rattle.std.proofs.Common.{◌≡◌, ℕ, ◌+◌, List, ◌∙◌, sym, ap, subst}
use Rattle.std.specs.Prelude.{IfSome}
use Rattle.std.specs.Int.{w128}
use Rattle.std.proofs.lemmas.Int.{to_z-of_z}
use Rattle.std.proofs.lemmas.Option.{IfSome_then}
use Rattle.std.proofs.lemmas.Result.{IfOk-weaker}
use Rattle.row_core.specs.Lists.{Row}
use Rattle.gens_sys.specs.Generators.{FitDimension}
use Rattle.poly_pair.specs.Parts.{AreStoredOfGenerators}
use Rattle.poly_pair.specs.Polyhedra.{Polyhedron, IsOfGenerators}
use Rattle.poly_pair.proofs.StoredLemmas.{kept_dim}
use Rattle.mapped_systems.specs.Maps.{substituted}
use Rattle.affine_maps.specs.Collapsing.{CanCollapse, GainsPlane, IsListOfClosed, IsStoredOfList, collapsed_list}
use Rattle.affine_maps.proofs.CollapsedForms.{form_of}
use Rattle.affine_maps.proofs.CollapsedSets.{list_of_closed, of_generators, stored_of_generators}
use Rattle.affine_maps.proofs.collapsing.collapsed_image.Goals as goal

-- what is stored of a list of that dimension and these rows
stored_at : (n dim : ℕ) (rows list : List Row) (q : Polyhedron) → n ≡ dim → rows ≡ list → IsStoredOfList n rows q → IsStoredOfList dim list q
stored_at n dim rows list q e f s = subst (λ (k : ℕ). IsStoredOfList k list q) e (subst (λ (rs : List Row). IsStoredOfList n rs q) f s)

pub pair_of_form-requires-clause-form : goal.pair_of_form-requires-clause-form
pair_of_form-requires-clause-form g c =
    let p = c.args.p.now in
    let gs = c.args.gens.now in
    let can : CanCollapse p gs = c.if-not-can_collapse.ensures in
    let fit : FitDimension p.gens = subst FitDimension c.gens.ensures.value c.dim-vectors.ensures.rows in
    form_of p c.args.var c.requires.var c.args.expr.now c.requires.wide c.args.den c.requires.positive c.requires.part gs c.requires.mapped.same_dim
    (λ i d h. (fit.each i d h).wide ∙ ap (λ (n : ℕ). n + 1) (kept_dim p c.dim-dim.ensures.kept)) c.requires.mapped.mapped can.as_many c.in-Ok.freed c.in_ok-form.form c.in-Ok.ensures.cone
    (subst (λ d. GainsPlane c.args.var c.args.expr.now d c.in-Ok.freed c.in_ok-form.form) (to_z-of_z w128 c.args.den c.ranges.den) c.in_ok-form.ensures) c.in_ok-list.list (c.in_ok-list.ensures.width ∙ ap (λ (n : ℕ). n + 1) c.requires.mapped.same_dim) c.in_ok-list.ensures.rows

pub pair_of_form-requires-clause-closed : goal.pair_of_form-requires-clause-closed
pair_of_form-requires-clause-closed g c =
    let p = c.args.p.now in
    let gs = c.args.gens.now in
    let can : CanCollapse p gs = c.if-not-can_collapse.ensures in
    subst (λ (n : ℕ). IsListOfClosed n c.in_ok-list.list.rows) (sym c.dim-dim.ensures.value)
    (subst (IsListOfClosed p.cons.dim) (sym c.in_ok-list.ensures.rows) (list_of_closed (substituted c.args.var c.args.expr.now c.args.den) p c.dim-dim.ensures.kept can.start gs c.dim-mapped.ensures.rows c.requires.mapped can.as_many))

pub returns-clause-points : goal.returns-clause-points
returns-clause-points g c =
    let p = c.args.p.now in
    let gs = c.args.gens.now in
    let can : CanCollapse p gs = c.if-not-can_collapse.ensures in
    IfOk-weaker c.pair_of_form.result (λ found. IfSome found (IsStoredOfList c.dim-dim.result c.in_ok-list.list.rows)) (λ found. IfSome found (IsOfGenerators p.topology gs))
    (λ found h. IfSome_then found h (λ q s. of_generators (substituted c.args.var c.args.expr.now c.args.den) p c.dim-dim.ensures.kept can.start gs c.dim-mapped.ensures.rows c.requires.mapped can.as_many q (stored_at c.dim-dim.result p.cons.dim c.in_ok-list.list.rows (collapsed_list gs) q c.dim-dim.ensures.value c.in_ok-list.ensures.rows s)))
    c.pair_of_form.ensures.stored

pub returns-clause-stored : goal.returns-clause-stored
returns-clause-stored g c =
    let p = c.args.p.now in
    let gs = c.args.gens.now in
    let can : CanCollapse p gs = c.if-not-can_collapse.ensures in
    IfOk-weaker c.pair_of_form.result (λ found. IfSome found (IsStoredOfList c.dim-dim.result c.in_ok-list.list.rows)) (λ found. IfSome found (AreStoredOfGenerators p.topology gs))
    (λ found h. IfSome_then found h (λ q s. stored_of_generators (substituted c.args.var c.args.expr.now c.args.den) p c.dim-dim.ensures.kept can.start gs c.dim-mapped.ensures.rows c.requires.mapped can.as_many q (stored_at c.dim-dim.result p.cons.dim c.in_ok-list.list.rows (collapsed_list gs) q c.dim-dim.ensures.value c.in_ok-list.ensures.rows s)))
    c.pair_of_form.ensures.stored
