use Rattle.std.specs.Prelude.{ℕ, ◌+◌, List, [], ◌∷◌, ◌++◌, length}
use Rattle.std.proofs.Common.{sym, subst, ◌∙◌}
use Rattle.std.proofs.lemmas.Bool.{false≢true}
use Rattle.sat_matrix.specs.Pairs.{AreFound}
use Rattle.sat_matrix.proofs.FoundPairs.{found_push, found_skip}
use Rattle.sat_matrix.proofs.Thirds.{pair_adjacent}
use Rattle.sat_matrix.proofs.adjacency.Search.push_if.Goals as goal

pub returns-in_ok-push : goal.returns-in_ok-push
returns-in_ok-push c =
    let same = pair_adjacent c.args.self.now.zeros.now c.columns-columns.ensures.rectangular c.args.self.now.side c.args.self.now.outer.now c.args.self.now.inner.now c.args.position c.args.next (c.requires.search.outer_rises.within c.args.position c.requires.position) (c.requires.search.inner_rises.within c.args.next c.requires.next) in
    let P : List (ℕ × ℕ) → Type 0 = λ pairs. AreFound c.args.self.now.side c.args.self.now.zeros.now c.args.self.now.outer.now c.args.self.now.inner.now c.args.position (c.args.next + 1) pairs in
    let Q : ℕ × ℕ → Type 0 = λ pair. AreFound c.args.self.now.side c.args.self.now.zeros.now c.args.self.now.outer.now c.args.self.now.inner.now c.args.position (c.args.next + 1) (c.args.pairs.now.items ++ pair ∷ []) in
    subst P (sym c.in_ok-push.ensures.ok) (subst Q (sym c.pair.ensures)
    (found_push c.args.self.now.side c.args.self.now.zeros.now c.args.self.now.outer.now c.args.self.now.inner.now c.args.position c.args.next c.args.pairs.now.items c.requires.before (length c.args.self.now.zeros.now.rows) c.requires.search.outer_rises c.requires.search.inner_rises c.requires.position c.requires.next (same.0 (c.requires.adjacent.0 c.if-adjacent.true))))

pub returns-else-adjacent : goal.returns-else-adjacent
returns-else-adjacent c =
    let same = pair_adjacent c.args.self.now.zeros.now c.columns-columns.ensures.rectangular c.args.self.now.side c.args.self.now.outer.now c.args.self.now.inner.now c.args.position c.args.next (c.requires.search.outer_rises.within c.args.position c.requires.position) (c.requires.search.inner_rises.within c.args.next c.requires.next) in
    found_skip c.args.self.now.side c.args.self.now.zeros.now c.args.self.now.outer.now c.args.self.now.inner.now c.args.position c.args.next c.args.pairs.now.items c.requires.before (λ is. false≢true (sym c.if-adjacent.false ∙ c.requires.adjacent.1 (same.1 is)))
