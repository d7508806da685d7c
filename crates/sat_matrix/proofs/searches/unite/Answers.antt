use Rattle.std.proofs.Common.{◌≡◌, ℕ, List, length, drop, take_at, ap, sym, subst, arith}
use Rattle.sat_matrix.specs.Near.{IsUnionOf}
use Rattle.sat_matrix.proofs.Unions.{union_more}
use native.Mathlib.Nat.{le_antisymm}
use Rattle.sat_matrix.proofs.searches.unite.Goals as goal

pub row-requires : goal.row-requires
row-requires c = c.requires.outer c.loop-position.position (omega (arith, c.loop-position-test.true, c.requires.to.1))

pub loop-position-preserved : goal.loop-position-preserved
loop-position-preserved c =
    let new : List ℕ = c.or_into.new.dst in
    let P : List ℕ → Type 0 = λ words. IsUnionOf c.args.rows.now.rows c.args.outer.now c.args.from c.loop-position.position words in
    let full : length c.or_into.new.dst ≡ c.loop-position.union.len = omega (arith, c.or_into.ensures.width, c.deref_mut.ensures.len) in
    rw (take_at c.or_into.new.dst (drop (length c.or_into.new.dst) c.loop-position.union.items) c.loop-position.union.len full)
    (record {
      wide = omega (arith, c.or_into.ensures.width, ap length c.deref_mut.ensures.value, c.loop-position.invariant.wide);
      union = union_more c.args.rows.now.rows c.args.outer.now c.args.from c.loop-position.position c.row.result.now c.deref_mut.result.now new c.row.ensures.value c.or_into.ensures.places (subst P (sym c.deref_mut.ensures.value) c.loop-position.invariant.union);
    })

pub returns-clause-union : goal.returns-clause-union
returns-clause-union c = subst (λ (n : ℕ). IsUnionOf c.args.rows.now.rows c.args.outer.now c.args.from n c.loop-position.union.items) (le_antisymm (c.loop-position.auto.position-end c.requires.to.0) c.loop-position-test.false) c.loop-position.invariant.union
