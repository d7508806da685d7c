use Rattle.std.specs.Prelude.{◌≡◌, ◌+◌, ◌-◌, ◌++◌, ◌∷◌, [], ℕ, Bool, List, true, length}
use Rattle.std.proofs.Common.{refl, sym, ap, subst, ◌∙◌, set, take, arith}
use Rattle.sat_matrix.specs.Tables.{Table, bits_of, conjunction}
use Rattle.row_core.specs.Pairs.{pair_at}
use Rattle.sat_matrix.specs.TableSteps.{HasPairs}
use Rattle.sat_matrix.proofs.TableLemmas.{pairs_more}
use Rattle.std.proofs.lemmas.List.{length_push, take_all}
use Rattle.sat_matrix.proofs.zeros.push_pairs.Goals as goal

pub loop-above-preserved : goal.loop-above-preserved
loop-above-preserved c =
    let pairs = c.args.pairs.now in
    let i = c.loop-above.above-index in
    let cur = c.loop-above.zeros in
    let old = c.args.zeros.now in
    let last : ℕ = c.columns-last.result - 1 in
    let at : ℕ = c.len-row.result in
    let W : ℕ → List (List Bool) → List (List Bool) = λ m rs. set rs m (set (bits_of rs m) (c.columns-last.result - 1) true) in
    let rows : W at c.push_and.new.self.rows ≡ W (length c.loop-above.zeros.rows) (c.loop-above.zeros.rows ++ conjunction (bits_of c.loop-above.zeros.rows (pair_at c.args.pairs.now c.loop-above.above-index).0) (bits_of c.loop-above.zeros.rows (pair_at c.args.pairs.now c.loop-above.above-index).1) ∷ []) =
    ap (λ rs. W at rs) c.push_and.ensures.rows ∙ ap (λ m. W m (c.loop-above.zeros.rows ++ conjunction (bits_of c.loop-above.zeros.rows (pair_at c.args.pairs.now c.loop-above.above-index).0) (bits_of c.loop-above.zeros.rows (pair_at c.args.pairs.now c.loop-above.above-index).1) ∷ [])) c.len-row.ensures in
    let is_last : last ≡ old.columns - 1 = ap (λ n. n - 1) c.columns-last.ensures.value in
    let P : Table → Type 0 = λ t. HasPairs (take (c.loop-above.above-index + 1) c.args.pairs.now) c.args.zeros.now t in
    record {
      spare = omega (arith, c.loop-above.invariant.spare, c.push_and.ensures.spare, ap (λ (t : Table). t.spare) c.set.ensures);
      pairs = subst P (sym c.set.ensures) (pairs_more pairs i (pair_at pairs i).0 (pair_at pairs i).1 old cur c.push_and.new.self.columns (W at c.push_and.new.self.rows) last c.loop-above-test.true refl (c.requires.pairs i c.loop-above-test.true).0 (c.requires.pairs i c.loop-above-test.true).1 c.loop-above.invariant.pairs is_last c.push_and.ensures.columns c.push_and.new.self.spare rows);
    }

pub set-requires-clause-row : goal.set-requires-clause-row
set-requires-clause-row c = omega (arith, c.len-row.ensures, ap (λ (rows : List (List Bool)). length rows) c.push_and.ensures.rows ∙ length_push c.loop-above.zeros.rows _)

pub returns : goal.returns
returns c = subst (λ (pairs : List (ℕ × ℕ)). HasPairs pairs c.args.zeros.now c.loop-above.zeros) (take_all c.loop-above.above-index c.args.pairs.now c.loop-above-test.false) c.loop-above.invariant.pairs
