use Rattle.std.specs.Prelude.{ℕ, List}
use Rattle.std.proofs.Common.{sym, subst}
use Rattle.sat_matrix.specs.Pairs.{AreFound}
use Rattle.sat_matrix.proofs.FoundPairs.{found_none}
use native.Mathlib.Nat.{le_antisymm}
use Rattle.sat_matrix.proofs.adjacency.Search.push_one_by_one.Goals as goal

pub loop-position-init : goal.loop-position-init
loop-position-init c =
    let P : List (ℕ × ℕ) → Type 0 = λ pairs. AreFound c.args.self.now.side c.args.self.now.zeros.now c.args.self.now.outer.now c.args.self.now.inner.now 0 0 pairs in
    subst P (sym c.requires.none) (found_none c.args.self.now.side c.args.self.now.zeros.now c.args.self.now.outer.now c.args.self.now.inner.now)

pub returns : goal.returns
returns c = subst (λ (n : ℕ). AreFound c.args.self.now.side c.args.self.now.zeros.now c.args.self.now.outer.now c.args.self.now.inner.now n 0 c.loop-position.pairs.items) (le_antisymm c.loop-position.auto.position-end c.loop-position-test.false) c.loop-position.invariant
