use Rattle.std.specs.Prelude.{◌≡◌, ◌↔◌, ℕ, ◌+◌, List, ℤ}
use Rattle.std.proofs.Common.{sym, subst}
use Rattle.std.proofs.lemmas.Result.{IfOk-weaker}
use Rattle.row_core.specs.Lists.{vectors, system_rows}
use Rattle.row_core.specs.Points.{IsPoint}
use Rattle.cone_laws.specs.Members.{ConeOf}
use Rattle.cons_sys.specs.Constraints.{Constraints, In}
use Rattle.nnc_enc.specs.Encoding.{Codes}
use Rattle.nnc_enc.specs.Decoding.{AreDecodedRows}
use Rattle.nnc_enc.specs.Results.{AreRowsOf}
use Rattle.nnc_enc.proofs.CodedLemmas.{decoded_rows_hold}
use Rattle.nnc_enc.proofs.Dimensions.{cons_at_dim, one_dim}
use Rattle.nnc_enc.proofs.decoding.decode_cons.Goals as goal

pub returns-clause-dim : goal.returns-clause-dim
returns-clause-dim c = IfOk-weaker c.decoded_rows.result _ _ (λ cons h. subst (λ (n : ℕ). c.args.lines.now.width ≡ n + 2) (sym h) c.variables.ensures.columns) c.decoded_rows.ensures.dim

pub returns-clause-list : goal.returns-clause-list
returns-clause-list c = cons_at_dim (λ n cons. AreDecodedRows n c.args.lines.now.rows c.args.rays.now.rows cons.list) c.variables.result c.decoded_rows.result c.decoded_rows.ensures.dim c.decoded_rows.ensures.list

pub returns-clause-points : goal.returns-clause-points
returns-clause-points c =
    let system = system_rows (vectors c.args.lines.now.rows) (vectors c.args.rays.now.rows) in
    let dim = c.variables.result in
    let same = one_dim c.requires.rows.dim dim c.args.lines.now.width c.requires.rows.lines_width c.variables.ensures.columns in
    let rows : AreRowsOf dim c.requires.rows.gens c.args.lines.now.rows c.args.rays.now.rows = subst (λ (n : ℕ). AreRowsOf n c.requires.rows.gens c.args.lines.now.rows c.args.rays.now.rows) same c.requires.rows.rows in
    let P = λ (n : ℕ) (cons : Constraints). (p : List ℤ) → IsPoint n p → In cons p ↔ Codes n (ConeOf c.args.lines.now.width system) p in
    cons_at_dim P dim c.decoded_rows.result c.decoded_rows.ensures.dim
    (IfOk-weaker c.decoded_rows.result _ _ (λ cons h p point.
    subst (λ (n : ℕ). In cons p ↔ Codes dim (ConeOf n system) p) (sym c.variables.ensures.columns)
    (decoded_rows_hold dim c.requires.rows.gens c.args.lines.now.rows c.args.rays.now.rows cons p rows h point)) c.decoded_rows.ensures.list)
