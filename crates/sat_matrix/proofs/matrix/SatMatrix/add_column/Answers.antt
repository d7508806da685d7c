use Rattle.std.proofs.Common.{ℕ, List, ◌+◌, map, ap, sym, subst, arith}
use Rattle.std.specs.Prelude.{All}
use Rattle.flat_rows.specs.Flat.{Flat}
use Rattle.sat_matrix.specs.Words.{bits_in, IsPadded}
use Rattle.sat_matrix.proofs.BitRows.{column_seen}
use Rattle.sat_matrix.proofs.CopiedRows.{wider_column, all_fitted}
use Rattle.sat_matrix.proofs.matrix.SatMatrix.add_column.Goals as goal

pub returns-then-self-width-clause-ok : goal.returns-then-self-width-clause-ok
returns-then-self-width-clause-ok c =
    column_seen c.self.inside.columns c.self.inside.words c.release_spare.new.self c.args.self.now c.self.invariant c.self.view_is
    (ap (λ (w : Flat ℕ). map (bits_in (c.self.inside.columns + 1)) w.rows) c.release_spare.ensures) (ap (λ (w : Flat ℕ). w.spare) c.release_spare.ensures)

pub invariant_of-self-2 : goal.invariant_of-self-2
invariant_of-self-2 c = record {
  within = omega (arith, c.self.invariant.within, c.in_ok-wider.ensures.width);
  padded = subst (λ (rs : List (List ℕ)). All (IsPadded (c.self.inside.columns + 1)) rs) (sym c.in_ok-wider.ensures.rows) (all_fitted c.self.inside.columns c.in_ok-wider.wider.width c.self.inside.words.rows c.self.invariant.padded);
}

pub returns-clause-ok : goal.returns-clause-ok
returns-clause-ok c =
    wider_column c.self.inside.columns c.self.inside.words c.in_ok-wider.wider c.args.self.now c.self.invariant c.self.view_is
    c.in_ok-wider.ensures.width c.in_ok-wider.ensures.rows c.in_ok-wider.ensures.spare
