use Rattle.std.proofs.Common.{◌<◌, List, [], ℕ, length, arith, sym, subst, ◌∙◌}
use Rattle.std.specs.Prelude.{All}
use Rattle.std.proofs.lemmas.List.Elements.{All-append, All-cons, All-nil}
use Rattle.flat_rows.specs.Flat.{entries_at}
use Rattle.flat_rows.specs.Words.{and_words}
use Rattle.sat_matrix.specs.Words.{IsPadded}
use Rattle.sat_matrix.proofs.BitRows.{seen_in, and_seen, padded_and}
use Rattle.sat_matrix.proofs.matrix.SatMatrix.push_and.Goals as goal

pub invariant_of-self : goal.invariant_of-self
invariant_of-self c =
    let columns = c.self.inside.columns in
    let rows = c.self.inside.words.rows in
    let k = seen_in columns c.self.inside.words c.args.self.now c.self.view_is in
    let in_i : c.args.i < length rows = omega (arith, k.count, c.requires.first) in
    let in_j : c.args.j < length rows = omega (arith, k.count, c.requires.second) in
    let both : IsPadded columns (and_words (entries_at rows c.args.i) (entries_at rows c.args.j)) = padded_and columns (entries_at rows c.args.i) (entries_at rows c.args.j) (c.push_and.ensures.rectangular c.args.i in_i ∙ sym (c.push_and.ensures.rectangular c.args.j in_j)) (c.self.invariant.padded c.args.i [] in_i) in
    record {
      within = omega (arith, c.self.invariant.within, c.push_and.ensures.width);
      padded = subst (λ (rs : List (List ℕ)). All (IsPadded columns) rs) (sym c.push_and.ensures.rows) (All-append (IsPadded columns) rows _ c.self.invariant.padded (All-cons (IsPadded columns) _ [] both (All-nil (IsPadded columns))));
    }

pub returns-clause-rows : goal.returns-clause-rows
returns-clause-rows c = and_seen c.self.inside.columns c.self.inside.words c.push_and.new.rows c.args.self.now c.args.i c.args.j c.push_and.ensures.rectangular c.self.view_is c.requires.first c.requires.second c.push_and.ensures.rows
