use Rattle.std.proofs.Common.{◌≡◌, ◌⊎◌, inl, inr, ◌+◌, ◌-◌, ◌<◌, ◌≤◌, ◌^◌, ℕ, List, ◌++◌, length, take, replicate, refl, sym, ap, ◌∙◌, subst, arith, rules}
use Rattle.std.proofs.lemmas.List.{take-append-le, take-set-le, take_all, length-set}
use Rattle.std.specs.Vec.{vec_len}
use Rattle.flat_rows.specs.Flat.{entries_at}
use Rattle.sat_bits.specs.Searches.{shared_places}
use Rattle.sat_matrix.specs.Pairs.{index_at}
use Rattle.sat_matrix.specs.Near.{HasKept, SharesWords}
use Rattle.sat_matrix.proofs.KeptPositions.{IsKeptUpto, kept_all, kept_none, kept_written, one_or_less, read_before}
use Rattle.sat_bits.proofs.RowSearches.{places_along}
use Rattle.sat_matrix.proofs.searches.push_sharing_as_wide.Goals as goal

pub count_and-requires-clause-few : goal.count_and-requires-clause-few
count_and-requires-clause-few c =
    let old = c.args.list.now.items in
    let index = c.loop-index.index in
    let inside : c.loop-index.index < length c.args.list.now.items = omega (arith, c.loop-index-test.true, c.len-end.ensures) in
    let P : ℕ → Type 0 = λ n. n < 2 ^ 64 in
    let Q : ℕ → Type 0 = λ n. shared_places (entries_at c.args.rows.now.rows (index_at c.args.filter.now.among.now n)) c.args.filter.now.union.now < 2 ^ 64 in
    let here = read_before c.args.list.now.items c.loop-index.list.items c.loop-index.index c.index-position.result.now inside (omega (arith, c.loop-index.invariant.long)) c.loop-index.invariant.before c.index-position.ensures in
    subst P (sym (places_along _ _ _ _ c.row_as_wide-row.ensures.value refl))
    (subst Q (sym here)
    (c.requires.filter.few (index_at c.args.list.now.items c.loop-index.index) (c.requires.rising.within c.loop-index.index c.loop-index.auto.index inside)))

pub loop-index-preserved : goal.loop-index-preserved
loop-index-preserved c =
    let old = c.args.list.now.items in
    let index = c.loop-index.index in
    let xs = c.loop-index.list.items in
    let next = c.loop-index.next in
    let inside : c.loop-index.index < length c.args.list.now.items = omega (arith, c.loop-index-test.true, c.len-end.ensures) in
    let here = read_before c.args.list.now.items c.loop-index.list.items c.loop-index.index c.index-position.result.now inside (omega (arith, c.loop-index.invariant.long)) c.loop-index.invariant.before c.index-position.ensures in
    let holds : ℕ → Type 0 = SharesWords c.args.rows.now.rows c.args.filter.now.union.now c.args.filter.now.among.now c.args.filter.now.least in
    let bound : ℕ = length c.args.filter.now.among.now in
    let room : c.loop-index.next < length c.loop-index.list.items = omega (arith, inside, c.loop-index.invariant.long, c.loop-index.invariant.most) in
    let same = ap (λ (row : List ℕ). shared_places row c.args.filter.now.union.now) c.row_as_wide-row.ensures.value in
    let R : ℕ → Type 0 = λ n. c.args.filter.now.least ≤ shared_places (entries_at c.args.rows.now.rows (index_at c.args.filter.now.among.now n)) c.args.filter.now.union.now in
    let counted = one_or_less c.args.filter.now.least c.count_and.result c.from-next.result c.from-next.ensures in
    let told : (c.from-next.result ≡ 1) ⊎ ((c.from-next.result ≡ 0) × ¬ (holds (index_at c.args.list.now.items c.loop-index.index))) =
    elim counted [
      | inl one ↦ inl one
      | inr none ↦ inr (none.0, (λ shares. omega (arith, subst R (sym here) shares, same, c.count_and.ensures, none.1)))
    ] in
    let most : c.from-next.result ≤ 1 = elim counted [
      | inl one ↦ omega (arith, one)
      | inr none ↦ omega (arith, none.0)
    ] in
    record {
      kept = kept_written holds c.args.start bound index old xs next c.index-position.result.now c.from-next.result c.loop-index.auto.index inside room c.requires.rising here c.loop-index.invariant.kept told;
      before = take-set-le (length old) xs next c.index-position.result.now c.loop-index.invariant.least ∙ c.loop-index.invariant.before;
      long = length-set xs next c.index-position.result.now ∙ c.loop-index.invariant.long;
      least = omega (arith, c.loop-index.invariant.least);
      most = omega (arith, c.loop-index.invariant.most, most);
    }

pub returns : goal.returns
returns c =
    let holds : ℕ → Type 0 = SharesWords c.args.rows.now.rows c.args.filter.now.union.now c.args.filter.now.among.now c.args.filter.now.least in
    let K : List ℕ → Type 0 = HasKept holds c.args.start (length c.args.filter.now.among.now) c.args.list.now.items in
    subst K (sym c.truncate.ensures.items)
    (kept_all holds c.args.start (length c.args.filter.now.among.now) c.loop-index.index c.args.list.now.items (take c.loop-index.next c.loop-index.list.items) (omega (arith, c.loop-index-test.false, c.len-end.ensures)) c.loop-index.invariant.kept)

pub index-position-requires : goal.index-position-requires
index-position-requires c = omega (arith, c.loop-index-test.true, c.len-end.ensures, c.loop-index.invariant.long)

pub bounds-filter-position : goal.bounds-filter-position
bounds-filter-position c =
    let inside : c.loop-index.index < length c.args.list.now.items = omega (arith, c.loop-index-test.true, c.len-end.ensures) in
    let here = read_before c.args.list.now.items c.loop-index.list.items c.loop-index.index c.index-position.result.now inside (omega (arith, c.loop-index.invariant.long)) c.loop-index.invariant.before c.index-position.ensures in
    omega (arith, here, c.requires.rising.within c.loop-index.index c.loop-index.auto.index inside)

pub row_as_wide-row-requires-clause-row : goal.row_as_wide-row-requires-clause-row
row_as_wide-row-requires-clause-row c =
    let inside : c.loop-index.index < length c.args.list.now.items = omega (arith, c.loop-index-test.true, c.len-end.ensures) in
    let here = read_before c.args.list.now.items c.loop-index.list.items c.loop-index.index c.index-position.result.now inside (omega (arith, c.loop-index.invariant.long)) c.loop-index.invariant.before c.index-position.ensures in
    c.requires.filter.among c.index-position.result.now (omega (arith, here, c.requires.rising.within c.loop-index.index c.loop-index.auto.index inside))

pub count_and-requires-clause-second : goal.count_and-requires-clause-second
count_and-requires-clause-second c = c.requires.filter.union ∙ sym c.row_as_wide-row.ensures.wide

pub offset_bounds-filter-position : goal.offset_bounds-filter-position
offset_bounds-filter-position c =
    let inside : c.loop-index.index < length c.args.list.now.items = omega (arith, c.loop-index-test.true, c.len-end.ensures) in
    let here = read_before c.args.list.now.items c.loop-index.list.items c.loop-index.index c.index-position.result.now inside (omega (arith, c.loop-index.invariant.long)) c.loop-index.invariant.before c.index-position.ensures in
    let below : c.index-position.result.now < length c.args.filter.now.among.now = omega (arith, here, c.requires.rising.within c.loop-index.index c.loop-index.auto.index inside) in
    search (rules, below)

pub loop-index-init : goal.loop-index-init
loop-index-init c =
    let old = c.args.list.now.items in
    let xs = c.resize.new.self.items in
    let end : c.len-end.result ≡ length c.args.list.now.items = omega (arith, c.len-end.ensures) in
    let count : ℕ = c.len-end.result + (c.len-end.result - c.args.start) in
    let more : List ℕ = replicate (count - vec_len c.args.list.now) 0 in
    let whole : take count old ≡ old = take_all count old (omega (arith, c.len-end.ensures)) in
    let items : xs ≡ old ++ more = c.in_ok-resize.ensures.items ∙ ap (λ (list : List ℕ). list ++ more) whole in
    let before : take (length old) xs ≡ old = ap (take (length old)) items ∙ take-append-le (length old) old more (omega arith) ∙ take_all (length old) old (omega arith) in
    let holds : ℕ → Type 0 = SharesWords c.args.rows.now.rows c.args.filter.now.union.now c.args.filter.now.among.now c.args.filter.now.least in
    let K : List ℕ → Type 0 = IsKeptUpto holds c.args.start (length c.args.filter.now.among.now) c.args.start old in
    record {
      kept = subst K (sym (ap (λ (n : ℕ). take n xs) end ∙ before)) (kept_none holds c.args.start (length c.args.filter.now.among.now) old);
      before = before;
      long = omega (arith, c.in_ok-resize.ensures.len, c.len-end.ensures);
      least = omega (arith, c.len-end.ensures);
      most = omega (arith, c.len-end.ensures);
    }
