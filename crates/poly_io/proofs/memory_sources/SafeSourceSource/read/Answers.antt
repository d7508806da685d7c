use Rattle.std.proofs.Common.{◌≡◌, ◌-◌, ◌∙◌, sym, take, drop, length, ap, arith}
use Rattle.std.specs.Prelude.{Some}
use Rattle.poly_io.specs.Memory.{Stock}
use Rattle.poly_io.proofs.Known.{drop-copied, take-rest}
use Rattle.poly_io.proofs.memory_sources.SafeSourceSource.read.Goals as goal

pub returns-clause-moved : goal.returns-clause-moved
returns-clause-moved c =
    let bytes = c.self.inside.bytes.items in
    let at = c.self.inside.at in
    let count = c.copy_front-count.result in
    let front : take count c.copy_front-count.new.buf ≡ take count (drop at bytes) =
    c.copy_front-count.ensures.front ∙ ap (λ xs. take count (take (length xs - at) (drop at xs))) c.deref.ensures.value ∙ ap (take count) (take-rest bytes at)
    in
    (omega arith, omega arith, ap (λ (s : Stock). Some s.left) (sym c.self.view_is) ∙ ap Some (drop-copied bytes c.copy_front-count.new.buf at count front))
