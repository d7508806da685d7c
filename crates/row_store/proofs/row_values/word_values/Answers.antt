use Rattle.std.specs.Prelude.{◌≡◌, ◌∷◌, [], ◌++◌, List, ℤ}
use Rattle.std.specs.Int.{w128}
use Rattle.std.proofs.Common.{sym, ap, ◌∙◌, arith, take, ℕ, ◌≤◌, subst, length}
use Rattle.std.proofs.lemmas.Int.{to_z-of_z}
use Rattle.std.proofs.lemmas.List.Elements.{All-push, All-same}
use mir.Val.{SFits}
use Rattle.row_core.specs.Vectors.{dot}
use Rattle.row_core.specs.Range.{InRange}
use Rattle.row_core.specs.Sizes.{Suffices}
use Rattle.row_core.specs.Lists.{vectors, Row}
use Rattle.row_core.specs.declared.linear.Summing.TheVariants.{Words}
use Rattle.row_store.specs.Values.{values_on}
use Rattle.row_core.proofs.SignTests.{fits}
use Rattle.row_store.proofs.ValueLemmas.{values_on_more}
use Rattle.std.proofs.lemmas.List.{take_all, length-append}
use Rattle.row_store.proofs.row_values.word_values.Goals as goal

pub loop-index-preserved : goal.loop-index-preserved
loop-index-preserved c =
    let d : ℤ = c.word_dot.result in
    let value_fits : SFits w128 d = fits d c.word_dot.ensures.in_range in
    let items : c.push_reserved.new.self.items ≡ c.loop-index.place.items ++ d ∷ [] = simp to_z-of_z at c.push_reserved.ensures.items in
    record {
      len = omega (arith, ap length items, length-append c.loop-index.place.items (d ∷ []), c.loop-index.invariant.len);
      room = omega (arith, c.push_reserved.ensures.capacity, c.loop-index.invariant.room);
      values = items ∙ ap (λ (xs : List ℤ). xs ++ d ∷ []) c.loop-index.invariant.values ∙
          ap (λ (z : ℤ). values_on c.args.row.now (vectors (take c.loop-index.index c.args.list.now.rows)) ++ z ∷ []) (c.word_dot.ensures.value ∙ ap (λ (v : List ℤ). dot c.args.row.now v) c.row.ensures.value) ∙
          sym (values_on_more c.args.row.now c.args.list.now.rows c.loop-index.index (omega arith));
      in_range = All-same InRange c.push_reserved.new.self.items _ items (All-push InRange c.loop-index.place.items d c.loop-index.invariant.in_range c.word_dot.ensures.in_range);
    }

pub push_reserved-requires : goal.push_reserved-requires
push_reserved-requires c = omega (arith, c.loop-index.invariant.len, c.loop-index.invariant.room, c.loop-index-test.true, c.len-index-end.ensures)

pub returns-clause-values : goal.returns-clause-values
returns-clause-values c =
    c.loop-index.invariant.values ∙ ap (λ (rows : List Row). values_on c.args.row.now (vectors rows)) (take_all c.loop-index.index c.args.list.now.rows (subst (λ (n : ℕ). n ≤ c.loop-index.index) c.len-index-end.ensures c.loop-index-test.false))

pub word_dot-requires-clause-same_width : goal.word_dot-requires-clause-same_width
word_dot-requires-clause-same_width c = c.requires.wide ∙ sym (ap (λ (v : List ℤ). length v) c.row.ensures.value ∙ c.row.ensures.wide)

pub word_dot-requires-clause-words : goal.word_dot-requires-clause-words
word_dot-requires-clause-words c =
    subst (Suffices Words c.args.row.now) (sym c.row.ensures.value) (c.requires.words c.loop-index.index (omega arith) (c.row.ensures.wide ∙ sym c.requires.wide))
