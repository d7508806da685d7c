use Rattle.std.proofs.Common.{◌≡◌, bit_and, length, ◌∙◌, sym, arith}
use Rattle.std.specs.Simd.Lanes.{zip2}
use Rattle.std.proofs.lemmas.Simd.{length-zip2, get_or-zip2, get_or-put_chunk_at, get_or-put_chunk_below}
use Rattle.sat_bits.proofs.kernels.and_block.Goals as goal

pub returns-clause-inside : goal.returns-clause-inside
returns-clause-inside c = λ k h.
    let l : length (zip2 bit_and c.args.a.now c.args.b.now) ≡ 8 = length-zip2 bit_and c.args.a.now c.args.b.now (c.told-a ∙ sym c.told-b) ∙ c.told-a in
    get_or-put_chunk_at c.args.at c.args.dst.now (zip2 bit_and c.args.a.now c.args.b.now) k 0 (omega (arith, l, h)) (omega (arith, l, c.requires))
    ∙ get_or-zip2 bit_and c.args.a.now c.args.b.now k 0 0 0 (omega (arith, h, c.told-a)) (omega (arith, h, c.told-b))

pub returns-clause-outside : goal.returns-clause-outside
returns-clause-outside c = λ k h. get_or-put_chunk_below c.args.at c.args.dst.now (zip2 bit_and c.args.a.now c.args.b.now) k 0 h
