use Rattle.std.proofs.Common.{[]}
use Rattle.row_core.specs.Vectors.{cell}
use Rattle.cons_sys.specs.declared.kind.ConKind.TheVariants.{Eq}
use Rattle.nnc_enc.specs.Decoding.{con_kind}
use Rattle.nnc_enc.proofs.DecodeLemmas.{listed}
use Rattle.nnc_enc.proofs.decoding.constraints_of.Goals as goal

pub returns-clause-list : goal.returns-clause-list
returns-clause-list c = listed ([], Eq) c.args.dim Eq (λ r. con_kind (cell r c.args.dim)) c.args.lines.now.rows c.args.rays.now.rows c.args.order.now c.in_ok-cons.cons.list c.push_con_lines.new.cons.list c.push_con_rays.new.cons.list c.in_ok-cons.ensures.empty c.in_ok-push_con_lines.ensures.list c.in_ok-push_con_rays.ensures.list

pub push_con_rays-requires-clause-within : goal.push_con_rays-requires-clause-within
push_con_rays-requires-clause-within c = c.requires.within
