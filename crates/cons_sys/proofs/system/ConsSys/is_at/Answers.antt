use Rattle.std.proofs.Common.{◌≡◌, sym, ap, ◌∙◌, rules}
use Rattle.std.proofs.lemmas.Bool.Decides.{Decides-int_eq}
use Rattle.std.proofs.lemmas.Slice.Eq.{slice_eq-Decides}
use Rattle.cons_sys.specs.Constraints.{Constraint}
use Rattle.cons_sys.proofs.SystemLemmas.{one_constraint}
use Rattle.cons_sys.proofs.system.ConsSys.is_at.Goals as goal

pub returns-then-eq : goal.returns-then-eq
returns-then-eq c =
    let kinds : c.kind.result ≡ c.args.kind = search rules in
    let rows = slice_eq-Decides Decides-int_eq c.row.result.now c.args.row.now c.eq-then-eq.result c.eq-then-eq.ensures in (
      (λ t. one_constraint c.args.self.now.list c.args.i c.args.row.now c.args.kind (sym c.row.ensures.value ∙ rows.0 t) (sym c.kind.ensures ∙ kinds)),
      (λ e. rows.1 (c.row.ensures.value ∙ ap (λ (x : Constraint). x.0) e)),
    )
