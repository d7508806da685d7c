use Rattle.std.proofs.Common.{inl, inr, ℕ, ap, sym, subst, arith}
use Rattle.std.specs.Prelude.{Option, Ok, IfSome}
use Rattle.row_core.specs.Lists.{Rows}
use Rattle.affine_maps.specs.FormedPairs.{AreFormedConstraints, AreFormedGenerators, IsFormedPair, IsOfForms}
use Rattle.affine_maps.proofs.CarriedForms.{formed_pair, of_both}
use Rattle.affine_maps.proofs.FormWork.{first_forming, both_forming}
use Rattle.affine_maps.proofs.carrying.carried.Goals as goal

pub pair_of_forms-requires-clause-narrow : goal.pair_of_forms-requires-clause-narrow
pair_of_forms-requires-clause-narrow g c = omega (arith, c.dim-dim.ensures.value, c.requires.narrow)

pub pair_of_forms-requires-clause-pair : goal.pair_of_forms-requires-clause-pair
pair_of_forms-requires-clause-pair g c =
    let cs = c.args.cons.now in
    let gs = c.args.gens.now in
    let b : AreFormedConstraints cs c.in-Some.bounds = subst (λ (found : Option (Rows × Rows)). IfSome found (AreFormedConstraints cs)) c.in-Some.is c.in_ok-bounds.ensures.formed in
    let s : AreFormedGenerators gs c.in-Some-2.spans = subst (λ (found : Option (Rows × Rows)). IfSome found (AreFormedGenerators gs)) c.in-Some-2.is c.in_ok-spans.ensures.formed in
    subst (λ (n : ℕ). IsFormedPair n c.in-Some.bounds.0 c.in-Some.bounds.1 c.in-Some-2.spans.0 c.in-Some-2.spans.1 c.args.zeros.now) (sym c.dim-dim.ensures.value)
    (formed_pair cs gs c.args.zeros.now c.requires.pair c.dim-dim.ensures.rows c.dim.ensures.rows c.in-Some.bounds c.in-Some-2.spans b s)

pub returns-in_err-bounds-clause-forming : goal.returns-in_err-bounds-clause-forming
returns-in_err-bounds-clause-forming g c = first_forming c.args.cons.now c.args.gens.now c.args.steps.now c.formed_constraints.new.steps c.formed_constraints.ensures.no_fewer c.formed_constraints.ensures.counted

pub returns-in_default-clause-forming : goal.returns-in_default-clause-forming
returns-in_default-clause-forming g c = first_forming c.args.cons.now c.args.gens.now c.args.steps.now c.formed_constraints.new.steps c.formed_constraints.ensures.no_fewer c.formed_constraints.ensures.counted

pub returns-in_default-clause-left : goal.returns-in_default-clause-left
returns-in_default-clause-left g c = λ e. inl (c.in_ok-bounds.ensures.left (ap (λ found. Ok found) c.in_default.is))

pub returns-in_err-spans-clause-forming : goal.returns-in_err-spans-clause-forming
returns-in_err-spans-clause-forming g c =
    both_forming c.args.cons.now c.args.gens.now c.args.steps.now c.formed_constraints.new.steps c.formed_constraints.ensures.no_fewer c.formed_constraints.ensures.counted c.formed_generators.new.steps c.formed_generators.ensures.no_fewer c.formed_generators.ensures.counted c.requires.pair.same_dim

pub returns-in_default-2-clause-forming : goal.returns-in_default-2-clause-forming
returns-in_default-2-clause-forming g c =
    both_forming c.args.cons.now c.args.gens.now c.args.steps.now c.formed_constraints.new.steps c.formed_constraints.ensures.no_fewer c.formed_constraints.ensures.counted c.formed_generators.new.steps c.formed_generators.ensures.no_fewer c.formed_generators.ensures.counted c.requires.pair.same_dim

pub returns-in_default-2-clause-left : goal.returns-in_default-2-clause-left
returns-in_default-2-clause-left g c = λ e. inr (c.in_ok-spans.ensures.left (ap (λ found. Ok found) c.in_default-2.is))

pub returns-in_err-made-clause-forming : goal.returns-in_err-made-clause-forming
returns-in_err-made-clause-forming g c =
    both_forming c.args.cons.now c.args.gens.now c.args.steps.now c.formed_constraints.new.steps c.formed_constraints.ensures.no_fewer c.formed_constraints.ensures.counted c.formed_generators.new.steps c.formed_generators.ensures.no_fewer c.formed_generators.ensures.counted c.requires.pair.same_dim

pub returns-clause-forming : goal.returns-clause-forming
returns-clause-forming g c =
    both_forming c.args.cons.now c.args.gens.now c.args.steps.now c.formed_constraints.new.steps c.formed_constraints.ensures.no_fewer c.formed_constraints.ensures.counted c.formed_generators.new.steps c.formed_generators.ensures.no_fewer c.formed_generators.ensures.counted c.requires.pair.same_dim

pub returns-clause-both : goal.returns-clause-both
returns-clause-both g c =
    let cs = c.args.cons.now in
    let gs = c.args.gens.now in
    let made = c.in_ok-made.made in
    let b : AreFormedConstraints cs c.in-Some.bounds = subst (λ (found : Option (Rows × Rows)). IfSome found (AreFormedConstraints cs)) c.in-Some.is c.in_ok-bounds.ensures.formed in
    let s : AreFormedGenerators gs c.in-Some-2.spans = subst (λ (found : Option (Rows × Rows)). IfSome found (AreFormedGenerators gs)) c.in-Some-2.is c.in_ok-spans.ensures.formed in
    of_both cs gs c.args.zeros.now c.requires.pair c.dim-dim.ensures.rows c.dim.ensures.rows c.in-Some.bounds c.in-Some-2.spans b s made c.dim-2.ensures.kept
    (subst (λ (n : ℕ). IsOfForms n c.in-Some.bounds.0 c.in-Some.bounds.1 c.in-Some-2.spans.0 c.in-Some-2.spans.1 made) c.dim-dim.ensures.value c.in_ok-made.ensures)
