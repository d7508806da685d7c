use Rattle.std.specs.Prelude.{◌<◌, All}
use Rattle.std.specs.Int.{w128}
use Rattle.std.proofs.Common.{sym, subst, ap, ◌∙◌}
use Rattle.std.proofs.lemmas.Int.{to_z-of_z}
use mir.Val.{SFits}
use Rattle.row_core.specs.Range.{InRange}
use Rattle.row_core.specs.Sizes.{HaveBits}
use Rattle.row_core.proofs.SignTests.{fits}
use Rattle.row_store.specs.Vectors.{Vectors}
use Rattle.std.proofs.lemmas.Result.{err_from_is_err_and}
use Rattle.row_store.proofs.MarkedVectors.{appended_seen, same_seen, bits_appended}
use Rattle.row_store.proofs.vectors.VectorList.push_lowered.Goals as goal

pub returns-clause-combined : goal.returns-clause-combined
returns-clause-combined g c =
    let line_fits : SFits w128 c.args.crossing.value = fits c.args.crossing.value c.requires.in_range.0 in
    let value_fits : SFits w128 c.args.value = c.ranges.value in
    appended_seen c.self.inside.eq c.args.eq _ _ c.self.inside.store c.append_lowered.new.store c.args.self.now c.self.view_is c.requires.alike (λ v h. h) (simp to_z-of_z at c.in_ok-made.ensures.combined)

pub invariant_of-self-2 : goal.invariant_of-self-2
invariant_of-self-2 g c = bits_appended _ c.self.inside.store c.append_lowered.new.store c.self.inside.bits c.in_ok-made.made c.max-self-inside.result c.in_ok-made.ensures.combined c.max-self-inside.ensures c.self.invariant c.in_ok-made.ensures.bits

pub append_lowered-requires-clause-spare : goal.append_lowered-requires-clause-spare
append_lowered-requires-clause-spare g c = subst (λ (l : Vectors). 0 < l.spare) (sym c.self.view_is) c.requires.spare

pub append_lowered-requires-clause-line : goal.append_lowered-requires-clause-line
append_lowered-requires-clause-line g c = c.requires.line ∙ sym (ap (λ (l : Vectors). l.width) c.self.view_is)

pub append_lowered-requires-clause-wide : goal.append_lowered-requires-clause-wide
append_lowered-requires-clause-wide g c = c.requires.wide ∙ sym (ap (λ (l : Vectors). l.width) c.self.view_is)

pub append_lowered-requires-clause-vector : goal.append_lowered-requires-clause-vector
append_lowered-requires-clause-vector g c = c.requires.vector

pub append_lowered-requires-clause-line_bits : goal.append_lowered-requires-clause-line_bits
append_lowered-requires-clause-line_bits g c = c.requires.line_bits

pub append_lowered-requires-clause-vector_bits : goal.append_lowered-requires-clause-vector_bits
append_lowered-requires-clause-vector_bits g c = c.requires.vector_bits

pub append_lowered-requires-clause-in_range : goal.append_lowered-requires-clause-in_range
append_lowered-requires-clause-in_range g c = (c.requires.in_range.0, subst InRange (sym (to_z-of_z w128 c.args.value c.ranges.value)) c.requires.in_range.1)

pub append_lowered-requires-clause-nonzero : goal.append_lowered-requires-clause-nonzero
append_lowered-requires-clause-nonzero g c = c.requires.nonzero

pub returns-clause-counted : goal.returns-clause-counted
returns-clause-counted g c = c.in_ok-made.ensures.counted

pub returns-in_err-made-clause-counted : goal.returns-in_err-made-clause-counted
returns-in_err-made-clause-counted g c = c.in_err-made.ensures.counted

pub returns-in_err-made-clause-combined : goal.returns-in_err-made-clause-combined
returns-in_err-made-clause-combined g c =
    let line_fits : SFits w128 c.args.crossing.value = fits c.args.crossing.value c.requires.in_range.0 in
    let value_fits : SFits w128 c.args.value = c.ranges.value in
    let refused = simp to_z-of_z at c.in_err-made.ensures.combined in
    let p = err_from_is_err_and c.from_residual.result c.from_residual.ensures.1 in
    rw (p.1, p.2) (same_seen c.self.inside.eq c.self.inside.store c.append_lowered.new.store c.args.self.now c.self.view_is refused.0, refused.1)

pub invariant_of-self : goal.invariant_of-self
invariant_of-self g c = subst (All (HaveBits c.self.inside.bits)) (sym c.in_err-made.ensures.combined.0.rows) c.self.invariant
