use Rattle.std.proofs.Common.{◌≡◌, ◌<◌, ℕ, take, All}
use Rattle.poly_makers.proofs.affine.columns_of.Given as goal

abbrev pub invariant-loop-index : goal.invariant-loop-index
invariant-loop-index l = record {
  columns : l.columns.items ≡ take l.index l.vars;
  within : All (λ (i : ℕ). i < l.dim) l.columns.items;
}
