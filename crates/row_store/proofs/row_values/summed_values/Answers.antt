use Rattle.std.specs.Prelude.{◌≡◌, ◌∷◌, [], ◌++◌, List, ℤ}
use Rattle.std.specs.Int.{w128}
use Rattle.std.proofs.Common.{sym, ap, ◌∙◌, arith, take, ℕ, ◌<◌, ◌≤◌, refl, subst, length}
use Rattle.std.proofs.lemmas.Int.{to_z-of_z}
use Rattle.std.proofs.lemmas.List.Elements.{All-push, All-same}
use mir.Val.{SFits}
use Rattle.row_core.specs.Vectors.{dot}
use Rattle.row_core.specs.Range.{InRange, DotStays, IsFirstToLeave}
use Rattle.row_core.specs.Sizes.{Suffices}
use Rattle.row_core.specs.Lists.{vectors, Row}
use Rattle.row_store.specs.Values.{values_on}
use Rattle.row_core.proofs.SignTests.{fits}
use Rattle.row_store.proofs.ValueLemmas.{values_on_more}
use Rattle.row_core.proofs.RowListLemmas.{length-vectors, vector_at-vectors}
use Rattle.std.proofs.lemmas.List.{take_all}
use Rattle.row_store.proofs.row_values.summed_values.Goals as goal

pub loop-index-preserved : goal.loop-index-preserved
loop-index-preserved c =
    let value_fits : SFits w128 c.in-Ok.value = fits c.in-Ok.value c.in-Ok.ensures.in_range in
    let items : c.push.new.self.items ≡ c.loop-index.place.items ++ c.in-Ok.value ∷ [] = simp to_z-of_z at c.in_ok-push-in-Ok.ensures.ok in
    let value : c.in-Ok.value ≡ dot c.args.row.now c.row.result.now = c.in-Ok.ensures.exact.0 in
    record {
      values = items ∙ ap (λ (xs : List ℤ). xs ++ c.in-Ok.value ∷ []) c.loop-index.invariant.values ∙
          ap (λ (d : ℤ). values_on c.args.row.now (vectors (take c.loop-index.index c.args.list.now.rows)) ++ d ∷ []) (value ∙ ap (λ (v : List ℤ). dot c.args.row.now v) c.row.ensures.value) ∙
          sym (values_on_more c.args.row.now c.args.list.now.rows c.loop-index.index (omega arith));
      in_range = All-same InRange c.push.new.self.items _ items (All-push InRange c.loop-index.place.items c.in-Ok.value c.loop-index.invariant.in_range c.in-Ok.ensures.in_range);
    }

pub returns-in-Err-clause-values : goal.returns-in-Err-clause-values
returns-in-Err-clause-values c =
    let rows = c.args.list.now.rows in (
      refl,
      subst (λ (n : ℕ). c.loop-index.index < n) (c.len-index-end.ensures ∙ sym (length-vectors rows)) c.loop-index-test.true,
      subst (λ (v : List ℤ). IsFirstToLeave (DotStays c.args.row.now v) (length c.args.row.now) c.in-Err.column) (c.row.ensures.value ∙ sym (vector_at-vectors rows c.loop-index.index)) c.in-Err.ensures.exact,
    )

pub returns-clause-values : goal.returns-clause-values
returns-clause-values c =
    c.loop-index.invariant.values ∙ ap (λ (rows : List Row). values_on c.args.row.now (vectors rows)) (take_all c.loop-index.index c.args.list.now.rows (subst (λ (n : ℕ). n ≤ c.loop-index.index) c.len-index-end.ensures c.loop-index-test.false))

pub dot-requires-clause-same_width : goal.dot-requires-clause-same_width
dot-requires-clause-same_width c = c.requires.wide ∙ sym (ap (λ (v : List ℤ). length v) c.row.ensures.value ∙ c.row.ensures.wide)

pub dot-requires-clause-suffices : goal.dot-requires-clause-suffices
dot-requires-clause-suffices c =
    subst (Suffices c.args.summing c.args.row.now) (sym c.row.ensures.value) (c.requires.suffices c.loop-index.index (omega arith) (c.row.ensures.wide ∙ sym c.requires.wide))
