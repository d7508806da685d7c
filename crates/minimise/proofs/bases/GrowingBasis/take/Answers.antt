use Rattle.std.specs.Prelude.{◌≢◌, ◌<◌, pos}
use Rattle.std.proofs.Common.{◌≡◌, ◌++◌, ℕ, List, ℤ, length, take, drop, inl, inr, arith, refl, sym, ap, ◌∙◌, subst}
use Rattle.std.proofs.lemmas.List.{take_at}
use Rattle.std.proofs.lemmas.Result.{err_from_is_err_and}
use Rattle.row_core.specs.Vectors.{cell}
use Rattle.row_core.specs.Range.{AllInRange}
use Rattle.row_core.specs.Signs.{sign}
use Rattle.row_core.specs.Lists.{vectors}
use Rattle.row_core.proofs.CellLemmas.{length-scale}
use Rattle.minimise.specs.Bases.{IsLeading, IsNewLine, HasTaken, turned_up}
use Rattle.minimise.proofs.Growing.{new_line}
use Rattle.minimise.proofs.FaultCases.{grow_fault_of_reduction, grow_fault_of_line}
use Rattle.minimise.proofs.Widths.{vectors_wide, lines_narrow, lent_wide}
use Rattle.minimise.proofs.NarrowBases.{nonzero_below}
use Rattle.minimise.proofs.bases.GrowingBasis.take.Goals as goal

pub returns-in_err-reduce-clause-counted : goal.returns-in_err-reduce-clause-counted
returns-in_err-reduce-clause-counted g c =
    let narrow = lines_narrow c.args.self.now.lines c.width-width.ensures.rows c.requires.echelon in
    (c.reduce.ensures.counted.0, omega (arith, c.reduce.ensures.counted.1, narrow))

pub returns-in_default-clause-counted : goal.returns-in_default-clause-counted
returns-in_default-clause-counted g c =
    let narrow = lines_narrow c.args.self.now.lines c.width-width.ensures.rows c.requires.echelon in
    (c.reduce.ensures.counted.0, omega (arith, c.reduce.ensures.counted.1, narrow))

pub returns-in_err-take_line-clause-counted : goal.returns-in_err-take_line-clause-counted
returns-in_err-take_line-clause-counted g c =
    let narrow = lines_narrow c.args.self.now.lines c.width-width.ensures.rows c.requires.echelon in
    (omega (arith, c.reduce.ensures.counted.0, c.take_line.ensures.counted.0), omega (arith, c.reduce.ensures.counted.1, c.take_line.ensures.counted.1, narrow))

pub returns-clause-counted : goal.returns-clause-counted
returns-clause-counted g c =
    let narrow = lines_narrow c.args.self.now.lines c.width-width.ensures.rows c.requires.echelon in
    (omega (arith, c.reduce.ensures.counted.0, c.take_line.ensures.counted.0), omega (arith, c.reduce.ensures.counted.1, c.take_line.ensures.counted.1, narrow))

pub take_line-requires-clause-in_range : goal.take_line-requires-clause-in_range
take_line-requires-clause-in_range g c =
    let len = length c.args.self.now.reduced.items in
    let made = c.reduce.new.reduced in
    let old = take len (made ++ drop (length made) c.args.self.now.reduced.items) in
    let kept = take_at made (drop (length made) c.args.self.now.reduced.items) len (omega (arith, c.reduce.ensures.widths.0, ap (λ (v : List ℤ). length v) c.deref_mut.ensures.value)) in
    let lent : c.deref_mut-3.result.now ≡ c.reduce.new.reduced = c.deref_mut-3.ensures.value ∙ kept in
    let line : c.turn_up.new.vector ≡ turned_up c.reduce.new.reduced c.in-Some.pivot = c.turn_up.ensures.turned ∙ ap (λ (v : List ℤ). turned_up v c.in-Some.pivot) lent in
    let size = ap (λ (v : List ℤ). length v) line ∙ length-scale (sign (cell made c.in-Some.pivot)) made in
    let written = take_at c.turn_up.new.vector (drop (length c.turn_up.new.vector) old) (length old) (omega (arith, size, ap (λ (v : List ℤ). length v) kept)) in
    subst AllInRange (sym written) c.turn_up.ensures.in_range

pub take_line-requires-clause-line : goal.take_line-requires-clause-line
take_line-requires-clause-line g c =
    let len = length c.args.self.now.reduced.items in
    let made = c.reduce.new.reduced in
    let old = take len (made ++ drop (length made) c.args.self.now.reduced.items) in
    let kept = take_at made (drop (length made) c.args.self.now.reduced.items) len (omega (arith, c.reduce.ensures.widths.0, ap (λ (v : List ℤ). length v) c.deref_mut.ensures.value)) in
    let lent : c.deref_mut-3.result.now ≡ c.reduce.new.reduced = c.deref_mut-3.ensures.value ∙ kept in
    let line : c.turn_up.new.vector ≡ turned_up c.reduce.new.reduced c.in-Some.pivot = c.turn_up.ensures.turned ∙ ap (λ (v : List ℤ). turned_up v c.in-Some.pivot) lent in
    let size = ap (λ (v : List ℤ). length v) line ∙ length-scale (sign (cell made c.in-Some.pivot)) made in
    let written = take_at c.turn_up.new.vector (drop (length c.turn_up.new.vector) old) (length old) (omega (arith, size, ap (λ (v : List ℤ). length v) kept)) in
    let lead : IsLeading c.reduce.new.reduced c.in-Some.pivot = subst (λ (v : List ℤ). IsLeading v c.in-Some.pivot) (c.deref.ensures ∙ kept) c.in-Some.ensures in
    subst (λ (v : List ℤ). IsNewLine (vectors c.args.self.now.lines.rows) v c.in-Some.pivot) (sym (written ∙ line)) (new_line (vectors c.args.self.now.lines.rows) c.args.row.now made c.in-Some.pivot c.in_ok-reduce.ensures.reduced lead)

pub returns-in_err-take_line-clause-grown : goal.returns-in_err-take_line-clause-grown
returns-in_err-take_line-clause-grown g c =
    let len = length c.args.self.now.reduced.items in
    let made = c.reduce.new.reduced in
    let old = take len (made ++ drop (length made) c.args.self.now.reduced.items) in
    let kept = take_at made (drop (length made) c.args.self.now.reduced.items) len (omega (arith, c.reduce.ensures.widths.0, ap (λ (v : List ℤ). length v) c.deref_mut.ensures.value)) in
    let lent : c.deref_mut-3.result.now ≡ c.reduce.new.reduced = c.deref_mut-3.ensures.value ∙ kept in
    let line : c.turn_up.new.vector ≡ turned_up c.reduce.new.reduced c.in-Some.pivot = c.turn_up.ensures.turned ∙ ap (λ (v : List ℤ). turned_up v c.in-Some.pivot) lent in
    let size = ap (λ (v : List ℤ). length v) line ∙ length-scale (sign (cell made c.in-Some.pivot)) made in
    let written = take_at c.turn_up.new.vector (drop (length c.turn_up.new.vector) old) (length old) (omega (arith, size, ap (λ (v : List ℤ). length v) kept)) in
    let lead : IsLeading c.reduce.new.reduced c.in-Some.pivot = subst (λ (v : List ℤ). IsLeading v c.in-Some.pivot) (c.deref.ensures ∙ kept) c.in-Some.ensures in
    let p = err_from_is_err_and c.from_residual-in_err-take_line.result c.from_residual-in_err-take_line.ensures.1 in
    rw (p.1, p.2) (grow_fault_of_line (vectors c.args.self.now.lines.rows) c.args.row.now made _ c.in-Some.pivot _ c.in_ok-reduce.ensures.reduced lead (vectors_wide (length c.args.row.now) c.args.self.now.lines c.width-width.ensures.rows (sym c.requires.wide)) (written ∙ line) c.in_err-take_line.ensures.taken)

pub reduce-requires-clause-buffers : goal.reduce-requires-clause-buffers
reduce-requires-clause-buffers g c = (ap (λ (v : List ℤ). length v) c.deref_mut.ensures.value ∙ c.requires.buffers.reduced, ap (λ (v : List ℤ). length v) c.deref_mut-2.ensures.value ∙ c.requires.buffers.scratch)

pub returns-in_err-reduce-clause-buffers : goal.returns-in_err-reduce-clause-buffers
returns-in_err-reduce-clause-buffers g c = record {
  reduced = lent_wide c.args.self.now.reduced.items c.reduce.new.reduced _ c.requires.buffers.reduced;
  cleared = c.requires.buffers.cleared;
  scratch = lent_wide c.args.self.now.scratch.items c.reduce.new.scratch _ c.requires.buffers.scratch;
}

pub returns-in_err-reduce-clause-grown : goal.returns-in_err-reduce-clause-grown
returns-in_err-reduce-clause-grown g c =
    let p = err_from_is_err_and c.from_residual.result c.from_residual.ensures.1 in
    rw (p.1, p.2) (grow_fault_of_reduction (vectors c.args.self.now.lines.rows) c.args.row.now _ c.in_err-reduce.ensures.reduced)

pub returns-in_default-clause-buffers : goal.returns-in_default-clause-buffers
returns-in_default-clause-buffers g c = record {
  reduced = lent_wide c.args.self.now.reduced.items c.reduce.new.reduced _ c.requires.buffers.reduced;
  cleared = c.requires.buffers.cleared;
  scratch = lent_wide c.args.self.now.scratch.items c.reduce.new.scratch _ c.requires.buffers.scratch;
}

pub returns-in_default-clause-grown : goal.returns-in_default-clause-grown
returns-in_default-clause-grown g c =
    let made = c.reduce.new.reduced in
    let kept = take_at made (drop (length made) c.args.self.now.reduced.items) (length c.args.self.now.reduced.items) (omega (arith, c.reduce.ensures.widths.0, ap (λ (v : List ℤ). length v) c.deref_mut.ensures.value)) in
    record {
      reduced = made;
      is_reduced = c.in_ok-reduce.ensures.reduced;
      outcome = inl (subst (λ (v : List ℤ). (j : ℕ) → cell v j ≡ pos 0) (c.deref.ensures ∙ kept) c.in_default.ensures, refl);
    }

pub turn_up-requires-clause-column : goal.turn_up-requires-clause-column
turn_up-requires-clause-column g c = subst (λ (v : List ℤ). c.in-Some.pivot < length v) (c.deref.ensures ∙ sym c.deref_mut-3.ensures.value) (nonzero_below c.deref.result.now c.in-Some.pivot c.in-Some.ensures.nonzero)

pub turn_up-requires-clause-nonzero : goal.turn_up-requires-clause-nonzero
turn_up-requires-clause-nonzero g c = subst (λ (v : List ℤ). cell v c.in-Some.pivot ≢ pos 0) (c.deref.ensures ∙ sym c.deref_mut-3.ensures.value) c.in-Some.ensures.nonzero

pub turn_up-requires-clause-in_range : goal.turn_up-requires-clause-in_range
turn_up-requires-clause-in_range g c =
    let made = c.reduce.new.reduced in
    let kept = take_at made (drop (length made) c.args.self.now.reduced.items) (length c.args.self.now.reduced.items) (omega (arith, c.reduce.ensures.widths.0, ap (λ (v : List ℤ). length v) c.deref_mut.ensures.value)) in
    subst AllInRange (sym (c.deref_mut-3.ensures.value ∙ kept)) c.reduce.ensures.in_range

pub take_line-requires-clause-buffers : goal.take_line-requires-clause-buffers
take_line-requires-clause-buffers g c = record {
  reduced = lent_wide _ c.turn_up.new.vector _ (lent_wide c.args.self.now.reduced.items c.reduce.new.reduced _ c.requires.buffers.reduced);
  cleared = c.requires.buffers.cleared;
  scratch = lent_wide c.args.self.now.scratch.items c.reduce.new.scratch _ c.requires.buffers.scratch;
}

pub take_line-requires-clause-primitive : goal.take_line-requires-clause-primitive
take_line-requires-clause-primitive g c = c.requires.primitive

pub returns-clause-grown : goal.returns-clause-grown
returns-clause-grown g c =
    let len = length c.args.self.now.reduced.items in
    let made = c.reduce.new.reduced in
    let old = take len (made ++ drop (length made) c.args.self.now.reduced.items) in
    let kept = take_at made (drop (length made) c.args.self.now.reduced.items) len (omega (arith, c.reduce.ensures.widths.0, ap (λ (v : List ℤ). length v) c.deref_mut.ensures.value)) in
    let lent : c.deref_mut-3.result.now ≡ c.reduce.new.reduced = c.deref_mut-3.ensures.value ∙ kept in
    let line : c.turn_up.new.vector ≡ turned_up c.reduce.new.reduced c.in-Some.pivot = c.turn_up.ensures.turned ∙ ap (λ (v : List ℤ). turned_up v c.in-Some.pivot) lent in
    let size = ap (λ (v : List ℤ). length v) line ∙ length-scale (sign (cell made c.in-Some.pivot)) made in
    let written = take_at c.turn_up.new.vector (drop (length c.turn_up.new.vector) old) (length old) (omega (arith, size, ap (λ (v : List ℤ). length v) kept)) in
    record {
      reduced = made;
      is_reduced = c.in_ok-reduce.ensures.reduced;
      outcome = inr (record {
        column = c.in-Some.pivot;
        leading = subst (λ (v : List ℤ). IsLeading v c.in-Some.pivot) (c.deref.ensures ∙ kept) c.in-Some.ensures;
        taken = subst (λ (v : List ℤ). HasTaken c.in-Some.pivot (vectors c.args.self.now.lines.rows) v (vectors c.take_line.new.self.lines.rows)) (written ∙ line) c.in_ok-take_line.ensures.taken;
      });
    }
