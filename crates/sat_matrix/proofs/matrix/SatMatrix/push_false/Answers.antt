use Rattle.std.proofs.Common.{◌≡◌, ◌++◌, ◌∷◌, ◌∙◌, replicate, ap, List, [], ℕ, arith, sym, subst}
use Rattle.std.specs.Prelude.{All}
use Rattle.std.proofs.lemmas.List.Elements.{All-append, All-cons, All-nil}
use Rattle.sat_matrix.specs.Words.{IsPadded}
use Rattle.sat_matrix.proofs.BitRows.{none_in_zeros, false_seen}
use Rattle.sat_matrix.proofs.CopiedRows.{fitted_none}
use Rattle.sat_matrix.proofs.matrix.SatMatrix.push_false.Goals as goal

pushed : (c : goal.After-push_fitted) → c.push_fitted.new.self.rows ≡ c.self.inside.words.rows ++ replicate c.self.inside.words.width 0 ∷ []
pushed c = c.push_fitted.ensures.rows ∙ ap (λ (r : List ℕ). c.self.inside.words.rows ++ r ∷ []) (fitted_none c.self.inside.words.width)

pub invariant_of-self : goal.invariant_of-self
invariant_of-self c =
    let columns = c.self.inside.columns in
    record {
      within = omega (arith, c.self.invariant.within, c.push_fitted.ensures.width);
      padded = subst (λ (rs : List (List ℕ)). All (IsPadded columns) rs) (sym (pushed c)) (All-append (IsPadded columns) c.self.inside.words.rows _ c.self.invariant.padded (All-cons (IsPadded columns) _ [] (λ p past. none_in_zeros c.self.inside.words.width p) (All-nil (IsPadded columns))));
    }

pub returns-clause-rows : goal.returns-clause-rows
returns-clause-rows c = false_seen c.self.inside.columns c.self.inside.words.width c.self.inside.words c.push_fitted.new.self c.args.self.now c.self.view_is (pushed c)
