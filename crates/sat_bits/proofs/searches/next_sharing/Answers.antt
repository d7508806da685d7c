use Rattle.sat_bits.proofs.RowSearches.{rows_along, few_along}
use Rattle.sat_bits.proofs.searches.next_sharing.Goals as goal

pub next_sharing_as_wide-requires-clause-among : goal.next_sharing_as_wide-requires-clause-among
next_sharing_as_wide-requires-clause-among c = rows_along c.args.cells.now c.args.among.now c.args.width _ c.in-1.is c.requires.among

pub next_sharing_as_wide-requires-clause-few : goal.next_sharing_as_wide-requires-clause-few
next_sharing_as_wide-requires-clause-few c = few_along c.args.cells.now c.args.among.now c.args.i c.args.width _ c.in-1.is c.requires.few

pub next_sharing_as_wide-requires-in-2-clause-among : goal.next_sharing_as_wide-requires-in-2-clause-among
next_sharing_as_wide-requires-in-2-clause-among c = rows_along c.args.cells.now c.args.among.now c.args.width _ c.in-2.is c.requires.among

pub next_sharing_as_wide-requires-in-2-clause-few : goal.next_sharing_as_wide-requires-in-2-clause-few
next_sharing_as_wide-requires-in-2-clause-few c = few_along c.args.cells.now c.args.among.now c.args.i c.args.width _ c.in-2.is c.requires.few

pub next_sharing_as_wide-requires-in-3-clause-among : goal.next_sharing_as_wide-requires-in-3-clause-among
next_sharing_as_wide-requires-in-3-clause-among c = rows_along c.args.cells.now c.args.among.now c.args.width _ c.in-3.is c.requires.among

pub next_sharing_as_wide-requires-in-3-clause-few : goal.next_sharing_as_wide-requires-in-3-clause-few
next_sharing_as_wide-requires-in-3-clause-few c = few_along c.args.cells.now c.args.among.now c.args.i c.args.width _ c.in-3.is c.requires.few

pub next_sharing_as_wide-requires-in-4-clause-among : goal.next_sharing_as_wide-requires-in-4-clause-among
next_sharing_as_wide-requires-in-4-clause-among c = rows_along c.args.cells.now c.args.among.now c.args.width _ c.in-4.is c.requires.among

pub next_sharing_as_wide-requires-in-4-clause-few : goal.next_sharing_as_wide-requires-in-4-clause-few
next_sharing_as_wide-requires-in-4-clause-few c = few_along c.args.cells.now c.args.among.now c.args.i c.args.width _ c.in-4.is c.requires.few

pub next_sharing_as_wide-requires-in-5-clause-among : goal.next_sharing_as_wide-requires-in-5-clause-among
next_sharing_as_wide-requires-in-5-clause-among c = rows_along c.args.cells.now c.args.among.now c.args.width _ c.in-5.is c.requires.among

pub next_sharing_as_wide-requires-in-5-clause-few : goal.next_sharing_as_wide-requires-in-5-clause-few
next_sharing_as_wide-requires-in-5-clause-few c = few_along c.args.cells.now c.args.among.now c.args.i c.args.width _ c.in-5.is c.requires.few

pub next_sharing_as_wide-requires-in-6-clause-among : goal.next_sharing_as_wide-requires-in-6-clause-among
next_sharing_as_wide-requires-in-6-clause-among c = rows_along c.args.cells.now c.args.among.now c.args.width _ c.in-6.is c.requires.among

pub next_sharing_as_wide-requires-in-6-clause-few : goal.next_sharing_as_wide-requires-in-6-clause-few
next_sharing_as_wide-requires-in-6-clause-few c = few_along c.args.cells.now c.args.among.now c.args.i c.args.width _ c.in-6.is c.requires.few

pub next_sharing_as_wide-requires-in-7-clause-among : goal.next_sharing_as_wide-requires-in-7-clause-among
next_sharing_as_wide-requires-in-7-clause-among c = rows_along c.args.cells.now c.args.among.now c.args.width _ c.in-7.is c.requires.among

pub next_sharing_as_wide-requires-in-7-clause-few : goal.next_sharing_as_wide-requires-in-7-clause-few
next_sharing_as_wide-requires-in-7-clause-few c = few_along c.args.cells.now c.args.among.now c.args.i c.args.width _ c.in-7.is c.requires.few

pub next_sharing_as_wide-requires-in-8-clause-among : goal.next_sharing_as_wide-requires-in-8-clause-among
next_sharing_as_wide-requires-in-8-clause-among c = rows_along c.args.cells.now c.args.among.now c.args.width _ c.in-8.is c.requires.among

pub next_sharing_as_wide-requires-in-8-clause-few : goal.next_sharing_as_wide-requires-in-8-clause-few
next_sharing_as_wide-requires-in-8-clause-few c = few_along c.args.cells.now c.args.among.now c.args.i c.args.width _ c.in-8.is c.requires.few
