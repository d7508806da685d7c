use Rattle.std.specs.Prelude.{List, Bool, length, IsTrue, Contains}
use Rattle.std.proofs.Common.{◌≡◌, arith, rules, sym, ap, ◌∙◌, subst}
use Rattle.std.specs.Prelude.{max}
use Rattle.std.proofs.lemmas.Bool.Decides.{nat_tests}
use Rattle.std.proofs.lemmas.Result.{err_from_is_err_and}
use Rattle.cons_sys.specs.Constraints.{Constraints}
use Rattle.gens_sys.specs.Generators.{Generators}
use Rattle.widening.specs.Values.{TellsGenerators, IsValueOverflow}
use Rattle.widening.proofs.ZeroLists.{stands_exactly}
use Rattle.widening.proofs.KeptLists.{both_have_bits, own_overflow}
use Rattle.widening.proofs.zeros.has_zeros_among.Goals as goal

pub stands_among-requires : goal.stands_among-requires
stands_among-requires c =
    let tells : TellsGenerators c.args.p.now.gens c.args.row.now c.in_ok-zeros.zeros.items = subst (λ (gs : Generators). TellsGenerators gs c.args.row.now c.in_ok-zeros.zeros.items) c.gens.ensures.value c.in_ok-zeros.ensures.zeros in
    ap (λ (bits : List Bool). length bits) c.deref.ensures.value ∙ tells.wide ∙ sym (c.zeros.ensures.table c.requires.closed c.requires.some).columns

pub returns-clause-among : goal.returns-clause-among
returns-clause-among c =
    let tells : TellsGenerators c.args.p.now.gens c.args.row.now c.in_ok-zeros.zeros.items = subst (λ (gs : Generators). TellsGenerators gs c.args.row.now c.in_ok-zeros.zeros.items) c.gens.ensures.value c.in_ok-zeros.ensures.zeros in
    let exactly = stands_exactly c.args.p.now.cons c.args.p.now.gens c.zeros.result.now (c.zeros.ensures.table c.requires.closed c.requires.some) c.args.row.now c.deref.result.now (subst (TellsGenerators c.args.p.now.gens c.args.row.now) (sym c.deref.ensures.value) tells) in
    ((λ t. exactly.0 (c.stands_among.ensures.0 t)), (λ h. c.stands_among.ensures.1 (exactly.1 h)))

pub returns-in_err-zeros : goal.returns-in_err-zeros
returns-in_err-zeros c =
    let p = err_from_is_err_and c.from_residual.result c.from_residual.ensures.1 in
    let leaves = subst (λ (gs : Generators). IsValueOverflow c.args.row.now gs.list c.in_err-zeros.field-0.0) c.gens.ensures.value c.in_err-zeros.ensures.overflow in
    let own = own_overflow c.args.row.now c.args.kind c.args.p.now.cons.list c.args.p.now.gens.list c.in_err-zeros.field-0.0
    (λ own. absurd (let t : IsTrue c.has.result = c.has.ensures.1 (subst (λ (cs : Constraints). Contains cs.list (c.args.row.now, c.args.kind)) (sym c.cons.ensures.value) own) in search (rules, t, c.if-has.false))) leaves in
    rw (p.1, p.2) (record { among = tt; overflow = own })

pub zeros_of-requires-clause-bits : goal.zeros_of-requires-clause-bits
zeros_of-requires-clause-bits c =
    let most : c.max.result ≡ max c.args.within c.bits.result = grind (arith, nat_tests, c.max.ensures) in
    both_have_bits c.args.within c.bits.result c.max.result c.args.row.now c.gens.result.now c.args.p.now.gens most c.gens.ensures.value c.bits.ensures.within c.requires.bits
