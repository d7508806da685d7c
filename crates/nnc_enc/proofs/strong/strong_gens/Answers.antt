use Rattle.std.specs.Prelude.{◌≡◌, ◌↔◌, ℕ, ◌+◌, ◌<◌, List, length, All, ℤ}
use Rattle.std.specs.List.{Contains}
use Rattle.std.proofs.Common.{sym, subst}
use Rattle.std.proofs.lemmas.Result.{IfOk-weaker}
use Rattle.row_core.specs.Lists.{Rows}
use Rattle.cone_laws.specs.Cones.{Upto}
use Rattle.gens_sys.specs.Generators.{Generator, Generators}
use Rattle.gens_sys.specs.Spans.{Span}
use Rattle.nnc_enc.specs.Encoding.{Codes}
use Rattle.nnc_enc.specs.Decoding.{AreDecodedVectors}
use Rattle.nnc_enc.specs.Sorting.{AreStrongVectors}
use Rattle.nnc_enc.specs.NeededGenerators.{IsNeededGenerator}
use Rattle.nnc_enc.specs.Results.{AreVectorsOf, AreVectorListsOf}
use Rattle.nnc_enc.proofs.KindLemmas.{fit_kinds}
use Rattle.nnc_enc.proofs.ResultLemmas.{strong_vectors_code}
use Rattle.nnc_enc.proofs.SpareLemmas.{strong_vectors_are_needed}
use Rattle.nnc_enc.proofs.PartLemmas.{strong_vectors_are_decoded}
use Rattle.nnc_enc.proofs.StoredLemmas.{strong_vectors_are_stored}
use Rattle.nnc_enc.proofs.Dimensions.{gens_at_dim, one_dim}
use Rattle.nnc_enc.proofs.strong.strong_gens.Goals as goal

-- the condition, at the dimension that the code reads
vectors_at : (dim : ℕ) (cons lines rays : Rows) → lines.width ≡ dim + 2 → AreVectorListsOf cons lines rays → AreVectorsOf dim cons.rows lines.rows rays.rows
vectors_at dim cons lines rays e r = subst (λ (n : ℕ). AreVectorsOf n cons.rows lines.rows rays.rows) (one_dim r.dim dim lines.width r.lines_width e) r.vectors

-- the list has the width of the lines
cons_wide : (dim : ℕ) (cons lines rays : Rows) → lines.width ≡ dim + 2 → AreVectorListsOf cons lines rays → cons.width ≡ dim + 2
cons_wide dim cons lines rays e r = subst (λ (n : ℕ). cons.width ≡ n + 2) (one_dim r.dim dim lines.width r.lines_width e) r.cons_width

pub strong_vectors-requires-clause-fit : goal.strong_vectors-requires-clause-fit
strong_vectors-requires-clause-fit c =
    let dim = c.variables.result in
    fit_kinds dim c.args.cons.now.rows c.args.lines.now.rows c.args.rays.now.rows (vectors_at dim c.args.cons.now c.args.lines.now c.args.rays.now c.variables.ensures.columns c.requires.vectors)

pub returns-clause-dim : goal.returns-clause-dim
returns-clause-dim c = IfOk-weaker c.strong_vectors.result _ _ (λ gens h. subst (λ (n : ℕ). c.args.lines.now.width ≡ n + 2) (sym h) c.variables.ensures.columns) c.strong_vectors.ensures.dim

pub returns-clause-list : goal.returns-clause-list
returns-clause-list c = gens_at_dim (λ n gens. AreStrongVectors n c.args.cons.now.rows c.args.lines.now.rows c.args.rays.now.rows gens.list) c.variables.result c.strong_vectors.result c.strong_vectors.ensures.dim c.strong_vectors.ensures.list

pub returns-clause-points : goal.returns-clause-points
returns-clause-points c =
    let dim = c.variables.result in
    let cons = c.args.cons.now in
    let vectors = vectors_at dim cons c.args.lines.now c.args.rays.now c.variables.ensures.columns c.requires.vectors in
    let wide = cons_wide dim cons c.args.lines.now c.args.rays.now c.variables.ensures.columns c.requires.vectors in
    let P = λ (n : ℕ) (gens : Generators). (v : List ℤ) → length v ≡ n + 1 → Span gens v ↔ Codes n (Upto cons.width cons.rows (length cons.rows)) v in
    gens_at_dim P dim c.strong_vectors.result c.strong_vectors.ensures.dim
    (IfOk-weaker c.strong_vectors.result _ _ (λ gens h v long.
    subst (λ (n : ℕ). Span gens v ↔ Codes dim (Upto n cons.rows (length cons.rows)) v) (sym wide)
    (strong_vectors_code dim cons.rows c.args.lines.now.rows c.args.rays.now.rows gens v vectors h long)) c.strong_vectors.ensures.list)

pub returns-clause-needed : goal.returns-clause-needed
returns-clause-needed c =
    let dim = c.variables.result in
    let vectors = vectors_at dim c.args.cons.now c.args.lines.now c.args.rays.now c.variables.ensures.columns c.requires.vectors in
    gens_at_dim (λ n gens. (i : ℕ) → i < length gens.list → IsNeededGenerator n gens i) dim c.strong_vectors.result c.strong_vectors.ensures.dim
    (IfOk-weaker c.strong_vectors.result _ _ (λ gens h i below. strong_vectors_are_needed dim c.args.cons.now.rows c.args.lines.now.rows c.args.rays.now.rows gens vectors h i below) c.strong_vectors.ensures.list)

pub returns-clause-part : goal.returns-clause-part
returns-clause-part c =
    let dim = c.variables.result in
    gens_at_dim (λ n gens. (decoded : List Generator) → AreDecodedVectors n c.args.lines.now.rows c.args.rays.now.rows decoded → All (Contains decoded) gens.list) dim c.strong_vectors.result c.strong_vectors.ensures.dim
    (IfOk-weaker c.strong_vectors.result _ _ (λ gens h decoded d. strong_vectors_are_decoded dim c.args.cons.now.rows c.args.lines.now.rows c.args.rays.now.rows decoded gens.list d h) c.strong_vectors.ensures.list)

pub returns-clause-stored : goal.returns-clause-stored
returns-clause-stored c =
    let dim = c.variables.result in
    let vectors = vectors_at dim c.args.cons.now c.args.lines.now c.args.rays.now c.variables.ensures.columns c.requires.vectors in
    IfOk-weaker c.strong_vectors.result _ _ (λ gens h. strong_vectors_are_stored dim c.args.cons.now.rows c.args.lines.now.rows c.args.rays.now.rows gens vectors h) c.strong_vectors.ensures.list
