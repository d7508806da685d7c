use Rattle.std.proofs.Common.{rules, arith, sym, subst, ◌∙◌}
use Rattle.cons_sys.specs.Constraints.{Constraints}
use Rattle.gens_sys.specs.Generators.{Generators}
use Rattle.std.specs.Prelude.{◌↔◌, All, IsTrue}
use Rattle.set_laws.specs.Asking.{MeetsOn}
use Rattle.poly_pair.specs.Polyhedra.{Polyhedron}
use Rattle.poly_pair.proofs.StoredLemmas.{kept_dim}
use Rattle.row_core.specs.Sizes.{AllHaveBits}
use Rattle.lattice_ops.proofs.ShortTests.{pair_stays, answer_in_any_order}
use Rattle.lattice_ops.proofs.containing.test_pairs.Goals as goal

pub returns-then-from-le95 : goal.returns-then-from-le95
returns-then-from-le95 c =
    let p : Polyhedron = c.args.p.now in
    let q : Polyhedron = c.args.q.now in
    let left : AllHaveBits c.bits-left.result p.cons.list = subst (λ (x : Constraints). AllHaveBits c.bits-left.result x.list) c.cons.ensures.value c.bits-left.ensures.within in
    let right : AllHaveBits c.bits-right.result q.gens.list = subst (λ (x : Generators). AllHaveBits c.bits-right.result x.list) c.gens.ensures.value c.bits-right.ensures.within in
    let meets : IsTrue c.meets_others.result ↔ All (λ x. All (MeetsOn x) q.gens.list) p.cons.list = search rules in
    answer_in_any_order p.cons.list q.gens.list
    (pair_stays p.cons q.gens c.rows_fit.ensures.cons c.rows_fit-2.ensures.gens (c.requires ∙ sym (kept_dim q c.rows_fit-2.ensures.kept)) c.bits-left.result c.bits-right.result left right (omega arith))
    c.args.turned c.meets_others.result meets
