use Rattle.std.specs.Prelude.{◌≡◌}
use Rattle.std.proofs.Common.{sym, ◌∙◌, ap, refl}
use Rattle.gens_sys.specs.Generators.{Generators}
use Rattle.gens_sys.proofs.SystemLemmas.{FitDimension-append}
use Rattle.gens_sys.proofs.RowLemmas.{FitDimension-one_width}
use Rattle.gens_sys.proofs.system.GensSys.followed_by.Goals as goal

pub followed_by-requires : goal.followed_by-requires
followed_by-requires c =
    let dim = λ (gs : Generators). gs.dim in
    FitDimension-one_width _ _ c.self.invariant c.later.invariant (ap dim c.later.view_is ∙ (c.requires.same_dimension ∙ sym (ap dim c.self.view_is)))

pub invariant_of-result : goal.invariant_of-result
invariant_of-result c =
    let dim = λ (gs : Generators). gs.dim in
    let same : c.later.inside.dim ≡ c.self.inside.dim = ap dim c.later.view_is ∙ (c.requires.same_dimension ∙ sym (ap dim c.self.view_is)) in
    rw c.in_ok-rows.ensures
    (FitDimension-append c.self.inside.dim _ _ c.self.invariant c.later.invariant refl same)
