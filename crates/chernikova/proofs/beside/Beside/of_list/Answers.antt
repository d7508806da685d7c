use Rattle.std.specs.Prelude.{ℕ, List, length, map, All, IsPermutation, ◌<◌}
use Rattle.std.specs.List.{range_with_len}
use Rattle.std.proofs.Common.{sym, ap, subst, ◌∙◌, arith}
use Rattle.chernikova.specs.Conversion.{IsState}
use Rattle.ray_order.proofs.Places.{order_below, order_length, reordered_from}
use Rattle.ray_order.specs.RowOrders.{ArePlaces, row_of}
use Rattle.chernikova.proofs.beside.Beside.of_list.Goals as goal

pub places_of-requires : goal.places_of-requires
places_of-requires c =
    let n = length c.args.list.now.rows in
    let P : List ℕ → Type 0 = λ is. IsPermutation (range_with_len 0 (length is)) is in
    let Q : ℕ → Type 0 = λ m. IsPermutation (range_with_len 0 m) c.in_ok-order.order.items in
    subst P (sym c.deref-2.ensures.value) (subst Q (sym (order_length (length c.args.list.now.rows) c.in_ok-order.order.items c.in_ok-order.ensures)) c.in_ok-order.ensures)

pub rows_at-requires : goal.rows_at-requires
rows_at-requires c =
    let P : List ℕ → Type 0 = λ is. All (λ i. i < length c.args.list.now.rows) is in
    subst P (sym c.deref-3.ensures.value) (order_below (length c.args.list.now.rows) c.in_ok-order.order.items c.in_ok-order.ensures)

pub returns : goal.returns
returns c = λ runs.
    let P : ℕ → Type 0 = λ w. IsState w c.in_ok-rows.rows.rows 0 c.in_ok-system.system in
    let A : List ℕ → Type 0 = λ is. ArePlaces is c.in_ok-places.places.items in
    record {
      same_width = c.in_ok-rows.ensures.width;
      reordered = reordered_from c.args.list.now.rows c.in_ok-rows.rows.rows c.in_ok-order.order.items c.in_ok-places.places.items c.in_ok-order.ensures (c.in_ok-rows.ensures.rows ∙ ap (λ is. map (row_of c.args.list.now.rows) is) c.deref-3.ensures.value) (subst A c.deref-2.ensures.value c.in_ok-places.ensures);
      taken = omega arith;
      state = subst P c.width.ensures.value c.in_ok-system.ensures;
      planned = tt;
    }
