use Rattle.std.proofs.Common.{◌≡◌, ◌∙◌, sym, subst, ap, refl, ℕ, ◌<◌, List, length}
use Rattle.cons_sys.specs.Constraints.{Constraints, FitDimension, constraint_at, kind_at}
use Rattle.cover_search.specs.Inequalities.{is_strict}
use Rattle.cover_search.specs.Regions.{HoldsOn}
use Rattle.cover_search.proofs.KeptRows.{kept_holds}
use Rattle.std.proofs.lemmas.List.{length-map}
use Rattle.row_core.specs.Lists.{Row}
use Rattle.nnc_enc.specs.Encoding.{encoded_constraint}
use Rattle.cover_search.proofs.region.Region.keeps.Goals as goal

pub returns : goal.returns
returns c t =
    let strict : c.is_strict-strict.result ≡ is_strict (kind_at c.args.halfspaces.now.list c.args.index) = c.is_strict-strict.ensures ∙ ap is_strict (c.kind.ensures ∙ ap (λ (cs : Constraints). kind_at cs.list c.args.index) c.cons-2.ensures) in
    subst (λ (cs : Constraints). HoldsOn cs (constraint_at c.args.halfspaces.now.list c.args.index)) c.self.view_is
    (kept_holds c.self.inside.cons c.dim-dim.ensures.rows c.self.inside.cone c.self.invariant.canonical c.args.halfspaces.now (subst FitDimension c.cons.ensures c.dim-fit.ensures.rows) (c.requires.dim ∙ sym (ap (λ (cs : Constraints). cs.dim) c.self.view_is)) c.requires.inequalities c.args.index c.requires.index c.rows.result.now.rows c.row-row.result.now c.is_strict-strict.result c.dim-dim.result c.rows.ensures.rows c.row-row.ensures.value strict c.dim-dim.ensures.value (c.if-not-is_zero_on.ensures refl) (c.is_kept_on.ensures t))

pub row-row-requires : goal.row-row-requires
row-row-requires c =
    subst (λ (n : ℕ). c.args.index < n) (sym (ap (λ (rows : List Row). length rows) c.rows.ensures.rows ∙ length-map c.args.halfspaces.now.list (encoded_constraint c.args.halfspaces.now.dim))) c.requires.index
