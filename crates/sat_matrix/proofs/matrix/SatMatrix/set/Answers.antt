use Rattle.std.proofs.Common.{[], ◌≡◌, ◌<◌, ◌/◌, List, ℕ, length, set, slice_index_or, arith, ap, ◌∙◌}
use Rattle.std.proofs.lemmas.List.Elements.{All-set}
use Rattle.sat_bits.specs.Places.{bit_in}
use Rattle.flat_rows.specs.Flat.{Flat, entries_at}
use Rattle.sat_matrix.specs.Words.{IsPlaceSet, IsPadded}
use Rattle.sat_matrix.proofs.BitRows.{seen_in, seen_bits, place_set, padded_set, set_in}
use Rattle.sat_matrix.proofs.matrix.SatMatrix.set.Goals as goal

pub returns : goal.returns
returns c =
    let columns = c.self.inside.columns in
    let words = c.self.inside.words in
    let k = seen_in columns words c.args.self.now c.self.view_is in
    let old : List ℕ = entries_at words.rows c.args.row in
    let read : c.row.result.now ≡ old = c.row.ensures.value in
    let inside : c.args.column / 64 < length old = omega (arith, ap length read, c.row.ensures.wide, c.self.invariant.within, k.wide, c.requires.column) in
    let p : IsPlaceSet c.args.column c.args.bit old (set old (c.args.column / 64) c.with_bit.result) = place_set old c.args.column c.with_bit.result c.args.bit inside c.with_bit.ensures.same (λ j h other. c.with_bit.ensures.others j h other ∙ ap (λ (r : List ℕ). bit_in (slice_index_or r (c.args.column / 64) 0) j) read) in
    ap (λ (w : Flat ℕ). seen_bits columns w) c.put.ensures ∙ set_in columns words c.args.self.now c.args.row c.args.column c.args.bit (set old (c.args.column / 64) c.with_bit.result) c.self.view_is c.requires.row c.requires.column p

pub bounds-row-column : goal.bounds-row-column
bounds-row-column c = omega (arith, c.row.ensures.wide, c.self.invariant.within, (seen_in c.self.inside.columns c.self.inside.words c.args.self.now c.self.view_is).wide, c.requires.column)

pub put-requires : goal.put-requires
put-requires c =
    let k = seen_in c.self.inside.columns c.self.inside.words c.args.self.now c.self.view_is in
    record { row = omega (arith, k.count, c.requires.row); column = omega (arith, c.self.invariant.within, k.wide, c.requires.column) }

pub invariant_of-self : goal.invariant_of-self
invariant_of-self c =
    let columns = c.self.inside.columns in
    let words = c.self.inside.words in
    let k = seen_in columns words c.args.self.now c.self.view_is in
    let below : c.args.row < length words.rows = omega (arith, k.count, c.requires.row) in
    let old : List ℕ = entries_at words.rows c.args.row in
    let new : List ℕ = set old (c.args.column / 64) c.with_bit.result in
    let read : c.row.result.now ≡ old = c.row.ensures.value in
    let inside : c.args.column / 64 < length old = omega (arith, ap length read, c.row.ensures.wide, c.self.invariant.within, k.wide, c.requires.column) in
    let p : IsPlaceSet c.args.column c.args.bit old new = place_set old c.args.column c.with_bit.result c.args.bit inside c.with_bit.ensures.same (λ j h other. c.with_bit.ensures.others j h other ∙ ap (λ (r : List ℕ). bit_in (slice_index_or r (c.args.column / 64) 0) j) read) in
    let padded : IsPadded columns new = padded_set columns c.args.column c.args.bit old new (omega (arith, k.wide, c.requires.column)) p (c.self.invariant.padded c.args.row [] below) in
    rw c.put.ensures (record { within = c.self.invariant.within; padded = All-set (IsPadded columns) words.rows c.args.row new padded c.self.invariant.padded })
