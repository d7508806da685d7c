use Rattle.std.proofs.Common.{◌≡◌, sym, ap, subst, ◌∙◌, arith, length}
use Rattle.row_core.specs.Range.{AllInRange}
use Rattle.row_core.specs.Lists.{row_at}
use Rattle.row_store.specs.Vectors.{Vectors}
use Rattle.row_store.proofs.MarkedVectors.{seen_count, seen_row}
use Rattle.row_store.proofs.vectors.VectorList.row.Goals as goal

pub row-requires : goal.row-requires
row-requires c = omega (arith, c.requires, seen_count c.self.inside.eq c.self.inside.store c.args.self.now c.self.view_is)

pub returns-clause-value : goal.returns-clause-value
returns-clause-value c =
    c.row.ensures.value ∙ sym (seen_row c.self.inside.eq c.self.inside.store c.args.self.now c.args.i c.self.view_is (omega (arith, c.requires, seen_count c.self.inside.eq c.self.inside.store c.args.self.now c.self.view_is)))

pub returns-clause-wide : goal.returns-clause-wide
returns-clause-wide c =
    let at : c.row.result.now ≡ row_at c.args.self.now.rows c.args.i = c.row.ensures.value ∙ sym (seen_row c.self.inside.eq c.self.inside.store c.args.self.now c.args.i c.self.view_is (omega (arith, c.requires, seen_count c.self.inside.eq c.self.inside.store c.args.self.now c.self.view_is))) in
    ap length (sym at) ∙ c.row.ensures.wide ∙ ap (λ (l : Vectors). l.width) c.self.view_is

pub returns-clause-in_range : goal.returns-clause-in_range
returns-clause-in_range c =
    let at : c.row.result.now ≡ row_at c.args.self.now.rows c.args.i = c.row.ensures.value ∙ sym (seen_row c.self.inside.eq c.self.inside.store c.args.self.now c.args.i c.self.view_is (omega (arith, c.requires, seen_count c.self.inside.eq c.self.inside.store c.args.self.now c.self.view_is))) in
    subst AllInRange at c.row.ensures.in_range
