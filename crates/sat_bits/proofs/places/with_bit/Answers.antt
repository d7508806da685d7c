use Rattle.std.proofs.Common.{nat_eq, ap, sym, ◌∙◌, w64}
use Rattle.std.proofs.lemmas.Nat.Bits.{bit_at_set_same, bit_at_set_other, bit_at_clear_same, bit_at_clear_other}
use Rattle.sat_bits.proofs.places.with_bit.Goals as goal

pub returns-then-bit-clause-same : goal.returns-then-bit-clause-same
returns-then-bit-clause-same c = ap (λ n. nat_eq n 1) (bit_at_set_same w64 c.args.word c.args.j c.requires) ∙ sym c.if-bit.true

pub returns-then-bit-clause-others : goal.returns-then-bit-clause-others
returns-then-bit-clause-others c = λ k h other. ap (λ n. nat_eq n 1) (bit_at_set_other w64 c.args.word c.args.j c.requires k other)

pub returns-else-bit-clause-same : goal.returns-else-bit-clause-same
returns-else-bit-clause-same c = ap (λ n. nat_eq n 1) (bit_at_clear_same w64 c.args.word c.args.j c.requires) ∙ sym c.if-bit.false

pub returns-else-bit-clause-others : goal.returns-else-bit-clause-others
returns-else-bit-clause-others c = λ k h other. ap (λ n. nat_eq n 1) (bit_at_clear_other w64 c.args.word c.args.j c.requires k h other)
