use Rattle.std.specs.Prelude.{◌≡◌, ◌↔◌, ℕ, ◌+◌, List, length, ℤ}
use Rattle.std.proofs.Common.{sym, subst}
use Rattle.std.proofs.lemmas.Result.{IfOk-weaker}
use Rattle.row_core.specs.Lists.{vectors, system_rows}
use Rattle.gens_sys.specs.Generators.{Generators}
use Rattle.gens_sys.specs.Spans.{Span}
use Rattle.nnc_enc.specs.Encoding.{Codes}
use Rattle.nnc_enc.specs.StrongRows.{IsAdmittedVector}
use Rattle.nnc_enc.specs.Decoding.{AreDecodedVectors}
use Rattle.nnc_enc.specs.Results.{AreVectorsOf}
use Rattle.nnc_enc.proofs.CodedLemmas.{decoded_vectors_span}
use Rattle.nnc_enc.proofs.KindLemmas.{fit_kinds}
use Rattle.nnc_enc.proofs.Dimensions.{gens_at_dim, one_dim}
use Rattle.nnc_enc.proofs.decoding.decode_gens.Goals as goal

pub decoded_vectors-requires-clause-fit : goal.decoded_vectors-requires-clause-fit
decoded_vectors-requires-clause-fit c =
    let dim = c.variables.result in
    let same = one_dim c.requires.vectors.dim dim c.args.lines.now.width c.requires.vectors.lines_width c.variables.ensures.columns in
    let vectors : AreVectorsOf dim c.requires.vectors.rows c.args.lines.now.rows c.args.rays.now.rows = subst (λ (n : ℕ). AreVectorsOf n c.requires.vectors.rows c.args.lines.now.rows c.args.rays.now.rows) same c.requires.vectors.vectors in
    fit_kinds dim c.requires.vectors.rows c.args.lines.now.rows c.args.rays.now.rows vectors

pub returns-clause-dim : goal.returns-clause-dim
returns-clause-dim c = IfOk-weaker c.decoded_vectors.result _ _ (λ gens h. subst (λ (n : ℕ). c.args.lines.now.width ≡ n + 2) (sym h) c.variables.ensures.columns) c.decoded_vectors.ensures.dim

pub returns-clause-list : goal.returns-clause-list
returns-clause-list c = gens_at_dim (λ n gens. AreDecodedVectors n c.args.lines.now.rows c.args.rays.now.rows gens.list) c.variables.result c.decoded_vectors.result c.decoded_vectors.ensures.dim c.decoded_vectors.ensures.list

pub returns-clause-points : goal.returns-clause-points
returns-clause-points c =
    let system = system_rows (vectors c.args.lines.now.rows) (vectors c.args.rays.now.rows) in
    let dim = c.variables.result in
    let same = one_dim c.requires.vectors.dim dim c.args.lines.now.width c.requires.vectors.lines_width c.variables.ensures.columns in
    let vectors : AreVectorsOf dim c.requires.vectors.rows c.args.lines.now.rows c.args.rays.now.rows = subst (λ (n : ℕ). AreVectorsOf n c.requires.vectors.rows c.args.lines.now.rows c.args.rays.now.rows) same c.requires.vectors.vectors in
    let P = λ (n : ℕ) (gens : Generators). (v : List ℤ) → length v ≡ n + 1 → Span gens v ↔ Codes n (IsAdmittedVector c.args.lines.now.width system) v in
    gens_at_dim P dim c.decoded_vectors.result c.decoded_vectors.ensures.dim
    (IfOk-weaker c.decoded_vectors.result _ _ (λ gens h v wide.
    subst (λ (n : ℕ). Span gens v ↔ Codes dim (IsAdmittedVector n system) v) (sym c.variables.ensures.columns)
    (decoded_vectors_span dim c.requires.vectors.rows c.args.lines.now.rows c.args.rays.now.rows gens v vectors h wide)) c.decoded_vectors.ensures.list)
