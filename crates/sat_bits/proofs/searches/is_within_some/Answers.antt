use Rattle.std.proofs.Common.{◌↔◌, ◌+◌, ◌*◌, ◌≤◌, ℕ, IsTrue, length, get_or, sym, subst}
use Rattle.sat_bits.specs.Searches.{IsWithinSome}
use Rattle.sat_bits.proofs.searches.is_within_some.Goals as goal

pub is_within_as_wide-requires-clause-among : goal.is_within_as_wide-requires-clause-among
is_within_as_wide-requires-clause-among c q h =
    let P : ℕ → Type 0 = λ w. get_or c.args.among.now q 0 * w + w ≤ length c.args.cells.now in
    subst P c.in-1.is (c.requires.among q h)

pub is_within_as_wide-requires-in-2-clause-among : goal.is_within_as_wide-requires-in-2-clause-among
is_within_as_wide-requires-in-2-clause-among c q h =
    let P : ℕ → Type 0 = λ w. get_or c.args.among.now q 0 * w + w ≤ length c.args.cells.now in
    subst P c.in-2.is (c.requires.among q h)

pub is_within_as_wide-requires-in-3-clause-among : goal.is_within_as_wide-requires-in-3-clause-among
is_within_as_wide-requires-in-3-clause-among c q h =
    let P : ℕ → Type 0 = λ w. get_or c.args.among.now q 0 * w + w ≤ length c.args.cells.now in
    subst P c.in-3.is (c.requires.among q h)

pub is_within_as_wide-requires-in-4-clause-among : goal.is_within_as_wide-requires-in-4-clause-among
is_within_as_wide-requires-in-4-clause-among c q h =
    let P : ℕ → Type 0 = λ w. get_or c.args.among.now q 0 * w + w ≤ length c.args.cells.now in
    subst P c.in-4.is (c.requires.among q h)

pub is_within_as_wide-requires-clause-row : goal.is_within_as_wide-requires-clause-row
is_within_as_wide-requires-clause-row c = subst (λ (w : ℕ). c.args.i * w + w ≤ length c.args.cells.now) c.in-1.is c.requires.row

pub is_within_as_wide-requires-in-2-clause-row : goal.is_within_as_wide-requires-in-2-clause-row
is_within_as_wide-requires-in-2-clause-row c = subst (λ (w : ℕ). c.args.i * w + w ≤ length c.args.cells.now) c.in-2.is c.requires.row

pub is_within_as_wide-requires-in-3-clause-row : goal.is_within_as_wide-requires-in-3-clause-row
is_within_as_wide-requires-in-3-clause-row c = subst (λ (w : ℕ). c.args.i * w + w ≤ length c.args.cells.now) c.in-3.is c.requires.row

pub is_within_as_wide-requires-in-4-clause-row : goal.is_within_as_wide-requires-in-4-clause-row
is_within_as_wide-requires-in-4-clause-row c = subst (λ (w : ℕ). c.args.i * w + w ≤ length c.args.cells.now) c.in-4.is c.requires.row

pub returns-in-1 : goal.returns-in-1
returns-in-1 c = subst (λ (w : ℕ). IsTrue c.is_within_as_wide.result ↔ IsWithinSome c.args.cells.now w c.args.i c.args.among.now) (sym c.in-1.is) c.is_within_as_wide.ensures

pub returns-in-2 : goal.returns-in-2
returns-in-2 c = subst (λ (w : ℕ). IsTrue c.is_within_as_wide-in-2.result ↔ IsWithinSome c.args.cells.now w c.args.i c.args.among.now) (sym c.in-2.is) c.is_within_as_wide-in-2.ensures

pub returns-in-3 : goal.returns-in-3
returns-in-3 c = subst (λ (w : ℕ). IsTrue c.is_within_as_wide-in-3.result ↔ IsWithinSome c.args.cells.now w c.args.i c.args.among.now) (sym c.in-3.is) c.is_within_as_wide-in-3.ensures

pub returns-in-4 : goal.returns-in-4
returns-in-4 c = subst (λ (w : ℕ). IsTrue c.is_within_as_wide-in-4.result ↔ IsWithinSome c.args.cells.now w c.args.i c.args.among.now) (sym c.in-4.is) c.is_within_as_wide-in-4.ensures
