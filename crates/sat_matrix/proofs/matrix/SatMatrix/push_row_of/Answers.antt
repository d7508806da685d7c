use Rattle.std.proofs.Common.{◌≡◌, ◌++◌, ◌∷◌, ◌∙◌, ap, ◌<◌, List, [], ℕ, length, arith, sym, subst}
use Rattle.std.specs.Prelude.{All}
use Rattle.std.proofs.lemmas.List.Elements.{All-append, All-cons, All-nil}
use Rattle.flat_rows.specs.Flat.{entries_at, fitted}
use Rattle.sat_matrix.specs.Words.{IsPadded}
use Rattle.sat_matrix.proofs.BitRows.{seen_in}
use Rattle.sat_matrix.proofs.CopiedRows.{padded_fitted, copy_seen}
use Rattle.sat_matrix.proofs.matrix.SatMatrix.push_row_of.Goals as goal

pushed : (c : goal.After-push_fitted) → c.push_fitted.new.self.rows ≡ c.self.inside.words.rows ++ fitted c.self.inside.words.width 0 (entries_at c.other.inside.words.rows c.args.i) ∷ []
pushed c = c.push_fitted.ensures.rows ∙ ap (λ (r : List ℕ). c.self.inside.words.rows ++ fitted c.self.inside.words.width 0 r ∷ []) c.row.ensures.value

pub invariant_of-self : goal.invariant_of-self
invariant_of-self c =
    let columns = c.self.inside.columns in
    let width = c.self.inside.words.width in
    let other = c.other.inside in
    let k = seen_in columns c.self.inside.words c.args.self.now c.self.view_is in
    let o = seen_in other.columns other.words c.args.other.now c.other.view_is in
    let row : List ℕ = entries_at other.words.rows c.args.i in
    let same : other.columns ≡ columns = omega (arith, k.wide, o.wide, c.requires.columns) in
    let in_i : c.args.i < length other.words.rows = omega (arith, o.count, c.requires.row) in
    let copied : IsPadded columns (fitted width 0 row) = padded_fitted columns width row (subst (λ (n : ℕ). IsPadded n row) same (c.other.invariant.padded c.args.i [] in_i)) in
    record {
      within = omega (arith, c.self.invariant.within, c.push_fitted.ensures.width);
      padded = subst (λ (rs : List (List ℕ)). All (IsPadded columns) rs) (sym (pushed c)) (All-append (IsPadded columns) c.self.inside.words.rows _ c.self.invariant.padded (All-cons (IsPadded columns) _ [] copied (All-nil (IsPadded columns))));
    }

pub returns-clause-rows : goal.returns-clause-rows
returns-clause-rows c = copy_seen c.self.inside.columns c.other.inside.columns c.self.inside.words c.push_fitted.new.self c.other.inside.words c.args.self.now c.args.other.now c.args.i c.self.invariant.within c.self.view_is c.other.view_is c.requires.columns c.requires.row (pushed c)
