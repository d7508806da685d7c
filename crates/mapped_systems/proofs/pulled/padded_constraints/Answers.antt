use Rattle.std.proofs.Common.{◌≡◌, ℕ, ◌+◌, ◌≤◌, List, ℤ, length, arith, sym, subst, ap, ◌∙◌, []}
use Rattle.row_core.specs.Range.{AllInRange}
use Rattle.row_core.specs.Content.{IsPrimitive}
use Rattle.row_core.proofs.OnePrimitive.{IsPrimitiveOf-self}
use Rattle.cons_sys.specs.Constraints.{row_at}
use Rattle.mapped_systems.specs.Maps.{with_zeros}
use Rattle.mapped_systems.specs.MappedLists.{ArePulled, none_pulled}
use Rattle.mapped_systems.proofs.ColumnLemmas.{length-with_zeros}
use Rattle.mapped_systems.proofs.WrittenRows.{with_zeros-primitive}
use Rattle.mapped_systems.proofs.ListSteps.{pulled_step}
use Rattle.mapped_systems.proofs.pulled.padded_constraints.Goals as goal

pub loop-index-init : goal.loop-index-init
loop-index-init c = record {
  dim = omega (arith, c.in_ok-padded.ensures.dim, c.dim.ensures.value);
  pulled = subst (ArePulled (with_zeros c.args.column c.args.count) []) (sym c.in_ok-padded.ensures.empty) none_pulled;
}

-- what is put into the buffer is primitive as the row is
primitive_put : (column count dim : ℕ) (row lent put : List ℤ) → column ≤ dim → length row ≡ dim + 1 → IsPrimitive row → lent ≡ row → put ≡ with_zeros column count lent → IsPrimitive put
primitive_put column count dim row lent put within wide primitive same e =
    subst IsPrimitive (sym (e ∙ ap (with_zeros column count) same)) (with_zeros-primitive column count row (omega (arith, within, wide)) primitive)

pub push_primitive-requires : goal.push_primitive-requires
push_primitive-requires c =
    let column = c.args.column in
    let count = c.args.count in
    let lent = c.row.result.now in
    let row = row_at c.args.cons.now.list c.loop-index.index in
    let put : c.deref.result.now ≡ with_zeros column count lent = c.deref.ensures.value ∙ c.in_ok-put_with_zeros.ensures.row in
    record {
      wide = omega (arith, ap length put, length-with_zeros column count lent, ap length c.row.ensures.value, c.row.ensures.wide, c.loop-index.invariant.dim);
      in_range = subst AllInRange (sym c.deref.ensures.value) c.in_ok-put_with_zeros.ensures.in_range;
      primitive = primitive_put column count c.args.cons.now.dim row lent c.deref.result.now c.requires.column c.row.ensures.wide c.row.ensures.primitive c.row.ensures.value put;
    }

pub loop-index-preserved : goal.loop-index-preserved
loop-index-preserved c =
    let column = c.args.column in
    let count = c.args.count in
    let lent = c.row.result.now in
    let list = c.args.cons.now.list in
    let stored = c.deref.result.now in
    let inv = c.loop-index.invariant in
    let put : stored ≡ with_zeros column count lent = c.deref.ensures.value ∙ c.in_ok-put_with_zeros.ensures.row in
    let primitive = primitive_put column count c.args.cons.now.dim (row_at list c.loop-index.index) lent stored c.requires.column c.row.ensures.wide c.row.ensures.primitive c.row.ensures.value put in
    record {
      dim = c.in_ok-push_primitive.ensures.dim ∙ inv.dim;
      pulled = pulled_step (with_zeros column count) list c.loop-index.padded.list c.push_primitive.new.self.list c.loop-index.index stored c.kind.result (omega arith) (put ∙ ap (with_zeros column count) c.row.ensures.value) c.kind.ensures inv.pulled
          (record { stored = stored; primitive = IsPrimitiveOf-self stored primitive; list = c.in_ok-push_primitive.ensures.list });
    }

pub put_with_zeros-requires : goal.put_with_zeros-requires
put_with_zeros-requires c =
    let wide : length c.row.result.now ≡ c.args.cons.now.dim + 1 = ap length c.row.ensures.value ∙ c.row.ensures.wide in
    record {
      column = omega (arith, wide, c.requires.column);
      narrow = omega (arith, wide, c.requires.narrow);
      in_range = subst AllInRange (sym c.row.ensures.value) c.row.ensures.in_range;
    }
