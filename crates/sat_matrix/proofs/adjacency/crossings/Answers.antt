use Rattle.std.specs.Prelude.{ℕ}
use Rattle.std.proofs.Common.{subst}
use Rattle.sat_matrix.specs.Pairs.{AreRising}
use Rattle.sat_matrix.proofs.FoundPairs.{crosses_all}
use Rattle.sat_matrix.proofs.adjacency.crossings.Goals as goal

pub returns : goal.returns
returns c =
    crosses_all c.args.values.now c.args.zeros.now c.list_side.new.indices.items c.list_side-2.new.indices.items c.list_pairs.new.lists.pairs.items
    c.in_ok-list_side.ensures c.in_ok-list_side-2.ensures c.in_ok-list_pairs.ensures

pub list_pairs-requires-clause-decide : goal.list_pairs-requires-clause-decide
list_pairs-requires-clause-decide c = c.requires.decide

pub list_pairs-requires-clause-above : goal.list_pairs-requires-clause-above
list_pairs-requires-clause-above c =
    subst (λ (n : ℕ). AreRising n c.list_side.new.indices.items) c.requires.as_many c.in_ok-list_side.ensures.rising

pub list_pairs-requires-clause-below : goal.list_pairs-requires-clause-below
list_pairs-requires-clause-below c =
    subst (λ (n : ℕ). AreRising n c.list_side-2.new.indices.items) c.requires.as_many c.in_ok-list_side-2.ensures.rising
