use Rattle.std.proofs.Common.{sym, ◌∙◌}
use Rattle.std.proofs.lemmas.Bool.{false≢true}
use Rattle.lattice_ops.proofs.KeptSets.{spanned_in_same}
use Rattle.poly_pair.specs.Work.{added_gens}
use Rattle.poly_pair.proofs.WorkLemmas.{unconverted, gens_below}
use Rattle.lattice_ops.proofs.growing.grown_by.Goals as goal

pub returns-then-same_set-clause-grown : goal.returns-then-same_set-clause-grown
returns-then-same_set-clause-grown g c = spanned_in_same c.args.p.now c.in-Ok.hull c.args.gens.now c.requires.dim c.in-Ok.ensures.points (c.same_set.ensures.0 c.if-same_set.true)

pub returns-clause-grown : goal.returns-clause-grown
returns-clause-grown g c = record { is_hull = c.in-Ok.ensures.points; kept = c.in-Ok.ensures.kept; differs = λ same. false≢true (sym c.if-same_set.false ∙ c.same_set.ensures.1 same) }

pub returns-then-includes_spanned-clause-conversion : goal.returns-then-includes_spanned-clause-conversion
returns-then-includes_spanned-clause-conversion g c = unconverted (added_gens c.args.p.now c.args.gens.now) c.args.steps.now (gens_below c.args.p.now c.args.gens.now)
