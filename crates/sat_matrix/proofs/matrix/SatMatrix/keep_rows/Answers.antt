use Rattle.std.proofs.Common.{List, ℕ, arith, sym, subst}
use Rattle.std.specs.Prelude.{All}
use Rattle.sat_matrix.specs.Words.{IsPadded}
use Rattle.sat_matrix.proofs.BitRows.{kept_seen}
use Rattle.flat_rows.proofs.Marked.{all_marked}
use Rattle.sat_matrix.proofs.matrix.SatMatrix.keep_rows.Goals as goal

pub invariant_of-self : goal.invariant_of-self
invariant_of-self c = record {
  within = omega (arith, c.self.invariant.within, c.keep_rows.ensures.width);
  padded = subst (λ (rs : List (List ℕ)). All (IsPadded c.self.inside.columns) rs) (sym c.keep_rows.ensures.rows) (all_marked (IsPadded c.self.inside.columns) c.args.keep.now c.self.inside.words.rows c.self.invariant.padded);
}

pub returns-clause-rows : goal.returns-clause-rows
returns-clause-rows c = kept_seen c.self.inside.columns c.self.inside.words c.keep_rows.new.self c.args.self.now c.args.keep.now c.self.view_is c.keep_rows.ensures.rows
