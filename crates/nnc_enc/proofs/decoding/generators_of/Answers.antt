use Rattle.std.proofs.Common.{[]}
use Rattle.nnc_enc.specs.DecodedVectors.{kind_of}
use Rattle.gens_sys.specs.declared.kind.GenKind.TheVariants.{Line}
use Rattle.nnc_enc.proofs.DecodeLemmas.{listed}
use Rattle.nnc_enc.proofs.decoding.generators_of.Goals as goal

pub returns-clause-list : goal.returns-clause-list
returns-clause-list c = listed ([], Line) c.args.dim Line (kind_of c.args.dim) c.args.lines.now.rows c.args.rays.now.rows c.args.order.now c.in_ok-gens.gens.list c.push_gen_lines.new.gens.list c.push_gen_rays.new.gens.list c.in_ok-gens.ensures.empty c.in_ok-push_gen_lines.ensures.list c.in_ok-push_gen_rays.ensures.list

pub push_gen_rays-requires-clause-within : goal.push_gen_rays-requires-clause-within
push_gen_rays-requires-clause-within c = c.requires.within
