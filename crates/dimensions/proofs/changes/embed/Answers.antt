use Rattle.std.proofs.Common.{ℕ, ◌+◌, None, inl, inr, refl, subst, arith}
use Rattle.std.specs.Prelude.{⊤, Option, Ok, Err, MatchOption}
use Rattle.std.proofs.lemmas.Result.{IfOk-weaker, err_from_is_err_and}
use Rattle.cons_sys.specs.Constraints.{Constraints}
use Rattle.poly_pair.specs.Polyhedra.{Polyhedron, IsOfConstraints}
use Rattle.mapped_systems.specs.Maps.{with_zeros, without}
use Rattle.mapped_systems.specs.MappedLists.{IsPulledSystem}
use Rattle.dimensions.specs.Results.{IsPreimage}
use Rattle.dimensions.proofs.PulledResults.{pulled_kinds, preimage_points}
use Rattle.mapped_systems.proofs.PulledSets.{padded_meets}
use Rattle.poly_pair.specs.declared.topology.Topology.{Topology}
use Rattle.poly_pair.specs.Work.{cons_work, conv_overflow, overflow_in, IsConversion}
use Rattle.mapped_systems.proofs.AfterPairs.{after_found, after_none}
use Rattle.dimensions.specs.PairConversions.{IsEmbeddingConversion}
use Rattle.dimensions.proofs.PairConversions.{free_fewer}
use Rattle.dimensions.proofs.changes.embed.Goals as goal

pub from_cons-requires-clause-kinds : goal.from_cons-requires-clause-kinds
from_cons-requires-clause-kinds g c =
    let p = c.args.p.now in
    let m : IsPulledSystem (with_zeros c.dim.result c.args.count) (p.cons.dim + c.args.count) p.cons c.in_ok-padded.padded = subst (λ (cs : Constraints). IsPulledSystem (with_zeros c.dim.result c.args.count) (cs.dim + c.args.count) cs c.in_ok-padded.padded) c.cons.ensures.value c.in_ok-padded.ensures in
    pulled_kinds (with_zeros c.dim.result c.args.count) c.topology.result (p.cons.dim + c.args.count) p c.in_ok-padded.padded c.topology.ensures.value c.topology.ensures.kept m

pub returns-clause-points : goal.returns-clause-points
returns-clause-points g c =
    let p = c.args.p.now in
    let m : IsPulledSystem (with_zeros c.dim.result c.args.count) (p.cons.dim + c.args.count) p.cons c.in_ok-padded.padded = subst (λ (cs : Constraints). IsPulledSystem (with_zeros c.dim.result c.args.count) (cs.dim + c.args.count) cs c.in_ok-padded.padded) c.cons.ensures.value c.in_ok-padded.ensures in
    let n : IsPulledSystem (with_zeros p.cons.dim c.args.count) (p.cons.dim + c.args.count) p.cons c.in_ok-padded.padded = subst (λ (d : ℕ). IsPulledSystem (with_zeros d c.args.count) (p.cons.dim + c.args.count) p.cons c.in_ok-padded.padded) c.dim.ensures.value m in
    IfOk-weaker c.from_cons.result (IsOfConstraints c.topology.result c.in_ok-padded.padded) (IsPreimage (without p.cons.dim (p.cons.dim + c.args.count)) (p.cons.dim + c.args.count) p)
    (λ q o. preimage_points (with_zeros p.cons.dim c.args.count) (without p.cons.dim (p.cons.dim + c.args.count)) (p.cons.dim + c.args.count) p c.in_ok-padded.padded c.topology.result c.topology.ensures.value n (λ v pt. padded_meets p.cons.dim c.args.count p.cons.list v) q o)
    c.from_cons.ensures.points

pub returns-in-Some-clause-points : goal.returns-in-Some-clause-points
returns-in-Some-clause-points g c =
    let p = c.args.p.now in
    let m : IsPulledSystem (with_zeros c.dim.result c.args.count) (p.cons.dim + c.args.count) p.cons c.in_ok-padded.padded = subst (λ (cs : Constraints). IsPulledSystem (with_zeros c.dim.result c.args.count) (cs.dim + c.args.count) cs c.in_ok-padded.padded) c.cons.ensures.value c.in_ok-padded.ensures in
    let n : IsPulledSystem (with_zeros p.cons.dim c.args.count) (p.cons.dim + c.args.count) p.cons c.in_ok-padded.padded = subst (λ (d : ℕ). IsPulledSystem (with_zeros d c.args.count) (p.cons.dim + c.args.count) p.cons c.in_ok-padded.padded) c.dim.ensures.value m in
    let o : IsOfConstraints p.topology c.in_ok-padded.padded c.in-Some.embedding = subst (λ (x : Option Polyhedron). MatchOption x ⊤ (IsOfConstraints p.topology c.in_ok-padded.padded)) c.in-Some.is c.in_ok-embedding.ensures.points in
    preimage_points (with_zeros p.cons.dim c.args.count) (without p.cons.dim (p.cons.dim + c.args.count)) (p.cons.dim + c.args.count) p c.in_ok-padded.padded p.topology refl n (λ v pt. padded_meets p.cons.dim c.args.count p.cons.list v) c.in-Some.embedding o

pub returns-in_err-padded : goal.returns-in_err-padded
returns-in_err-padded g c =
    let p = err_from_is_err_and c.from_residual.result c.from_residual.ensures.1 in
    rw (p.1, p.2) (record { points = tt; stored = tt; overflow = tt; no_fewer = omega arith; conversion = inl (refl, refl) })

pub returns-in_err-embedding : goal.returns-in_err-embedding
returns-in_err-embedding g c =
    let p = err_from_is_err_and c.from_residual-in_err-embedding.result c.from_residual-in_err-embedding.ensures.1 in
    let q = c.args.p.now in
    let m : IsPulledSystem (with_zeros c.dim.result c.args.count) (q.cons.dim + c.args.count) q.cons c.in_ok-padded.padded = subst (λ (cs : Constraints). IsPulledSystem (with_zeros c.dim.result c.args.count) (cs.dim + c.args.count) cs c.in_ok-padded.padded) c.cons.ensures.value c.in_ok-padded.ensures in
    let n : IsPulledSystem (with_zeros q.cons.dim c.args.count) (q.cons.dim + c.args.count) q.cons c.in_ok-padded.padded = subst (λ (d : ℕ). IsPulledSystem (with_zeros d c.args.count) (q.cons.dim + c.args.count) q.cons c.in_ok-padded.padded) c.dim.ensures.value m in
    let done : IsEmbeddingConversion c.args.count q c.args.steps.now c.embedded_pair.new.steps None = record { system = c.in_ok-padded.padded; pulled = n; pair = Err c.in_err-embedding.field-0.0; between = c.embedded_pair.new.steps; tried = c.in_err-embedding.ensures.conversion; after = (refl, refl) } in
    rw (p.1, p.2) (record { points = tt; stored = tt; overflow = tt; no_fewer = free_fewer q c.in_ok-padded.padded c.args.steps.now c.embedded_pair.new.steps c.embedded_pair.result c.embedded_pair.ensures.conversion; conversion = inr done })

pub returns-in-Some-clause-conversion : goal.returns-in-Some-clause-conversion
returns-in-Some-clause-conversion g c =
    let q = c.args.p.now in
    let m : IsPulledSystem (with_zeros c.dim.result c.args.count) (q.cons.dim + c.args.count) q.cons c.in_ok-padded.padded = subst (λ (cs : Constraints). IsPulledSystem (with_zeros c.dim.result c.args.count) (cs.dim + c.args.count) cs c.in_ok-padded.padded) c.cons.ensures.value c.in_ok-padded.ensures in
    let n : IsPulledSystem (with_zeros q.cons.dim c.args.count) (q.cons.dim + c.args.count) q.cons c.in_ok-padded.padded = subst (λ (d : ℕ). IsPulledSystem (with_zeros d c.args.count) (q.cons.dim + c.args.count) q.cons c.in_ok-padded.padded) c.dim.ensures.value m in
    inr (record {
      system = c.in_ok-padded.padded;
      pulled = n;
      pair = Ok c.in_ok-embedding.field-0;
      between = c.embedded_pair.new.steps;
      tried = c.in_ok-embedding.ensures.conversion;
      after = after_found (IsConversion (cons_work q.topology c.in_ok-padded.padded)) c.in_ok-embedding.field-0 c.in-Some.embedding c.in-Some.is c.embedded_pair.new.steps;
    })

pub returns-in-Some-clause-no_fewer : goal.returns-in-Some-clause-no_fewer
returns-in-Some-clause-no_fewer g c = free_fewer c.args.p.now c.in_ok-padded.padded c.args.steps.now c.embedded_pair.new.steps c.embedded_pair.result c.embedded_pair.ensures.conversion

pub returns-clause-conversion : goal.returns-clause-conversion
returns-clause-conversion g c =
    let q = c.args.p.now in
    let m : IsPulledSystem (with_zeros c.dim.result c.args.count) (q.cons.dim + c.args.count) q.cons c.in_ok-padded.padded = subst (λ (cs : Constraints). IsPulledSystem (with_zeros c.dim.result c.args.count) (cs.dim + c.args.count) cs c.in_ok-padded.padded) c.cons.ensures.value c.in_ok-padded.ensures in
    let n : IsPulledSystem (with_zeros q.cons.dim c.args.count) (q.cons.dim + c.args.count) q.cons c.in_ok-padded.padded = subst (λ (d : ℕ). IsPulledSystem (with_zeros d c.args.count) (q.cons.dim + c.args.count) q.cons c.in_ok-padded.padded) c.dim.ensures.value m in
    let over = overflow_in conv_overflow c.from_cons.result in
    let list = subst (λ (t : Topology). IsConversion (cons_work t c.in_ok-padded.padded) c.embedded_pair.new.steps c.from_cons.new.steps over) c.topology.ensures.value c.from_cons.ensures.conversion in
    inr (record {
      system = c.in_ok-padded.padded;
      pulled = n;
      pair = Ok c.in_ok-embedding.field-0;
      between = c.embedded_pair.new.steps;
      tried = c.in_ok-embedding.ensures.conversion;
      after = after_none (IsConversion (cons_work q.topology c.in_ok-padded.padded)) c.in_ok-embedding.field-0 c.in_default.not-Some c.embedded_pair.new.steps c.from_cons.new.steps over list;
    })

pub returns-clause-no_fewer : goal.returns-clause-no_fewer
returns-clause-no_fewer g c = omega (arith, free_fewer c.args.p.now c.in_ok-padded.padded c.args.steps.now c.embedded_pair.new.steps c.embedded_pair.result c.embedded_pair.ensures.conversion, c.from_cons.ensures.conversion.no_fewer)
