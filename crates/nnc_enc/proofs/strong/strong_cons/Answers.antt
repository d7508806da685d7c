use Rattle.std.specs.Prelude.{◌≡◌, ◌↔◌, ℕ, ◌+◌, ◌<◌, List, length, All, ℤ}
use Rattle.std.specs.List.{Contains}
use Rattle.std.proofs.Common.{sym, subst}
use Rattle.std.proofs.lemmas.Result.{IfOk-weaker}
use Rattle.row_core.specs.Lists.{Rows}
use Rattle.row_core.specs.Points.{IsPoint}
use Rattle.cons_sys.specs.Constraints.{Constraint, Constraints, In}
use Rattle.nnc_enc.specs.Encoding.{Codes}
use Rattle.nnc_enc.specs.StrongRows.{IsAdmittedVector}
use Rattle.nnc_enc.specs.Decoding.{AreDecodedRows}
use Rattle.nnc_enc.specs.Sorting.{AreStrongRows}
use Rattle.nnc_enc.specs.Kept.{IsNeededConstraint}
use Rattle.nnc_enc.specs.Results.{AreRowsOf, AreRowListsOf}
use Rattle.nnc_enc.proofs.ResultLemmas.{strong_rows_code, strong_rows_are_needed}
use Rattle.nnc_enc.proofs.PartLemmas.{strong_rows_are_decoded}
use Rattle.nnc_enc.proofs.StoredLemmas.{strong_rows_are_stored}
use Rattle.nnc_enc.proofs.Dimensions.{cons_at_dim, one_dim}
use Rattle.nnc_enc.proofs.strong.strong_cons.Goals as goal

-- the condition, at the dimension that the code reads
rows_at : (dim : ℕ) (gens lines rays : Rows) → lines.width ≡ dim + 2 → AreRowListsOf gens lines rays → AreRowsOf dim gens.rows lines.rows rays.rows
rows_at dim gens lines rays e r = subst (λ (n : ℕ). AreRowsOf n gens.rows lines.rows rays.rows) (one_dim r.dim dim lines.width r.lines_width e) r.rows

-- the list has the width of the lines
gens_wide : (dim : ℕ) (gens lines rays : Rows) → lines.width ≡ dim + 2 → AreRowListsOf gens lines rays → gens.width ≡ dim + 2
gens_wide dim gens lines rays e r = subst (λ (n : ℕ). gens.width ≡ n + 2) (one_dim r.dim dim lines.width r.lines_width e) r.gens_width

pub returns-clause-dim : goal.returns-clause-dim
returns-clause-dim c = IfOk-weaker c.strong_rows.result _ _ (λ cons h. subst (λ (n : ℕ). c.args.lines.now.width ≡ n + 2) (sym h) c.variables.ensures.columns) c.strong_rows.ensures.dim

pub returns-clause-list : goal.returns-clause-list
returns-clause-list c = cons_at_dim (λ n cons. AreStrongRows n c.args.gens.now.rows c.args.lines.now.rows c.args.rays.now.rows cons.list) c.variables.result c.strong_rows.result c.strong_rows.ensures.dim c.strong_rows.ensures.list

pub returns-clause-points : goal.returns-clause-points
returns-clause-points c =
    let dim = c.variables.result in
    let gens = c.args.gens.now in
    let rows = rows_at dim gens c.args.lines.now c.args.rays.now c.variables.ensures.columns c.requires.rows in
    let wide = gens_wide dim gens c.args.lines.now c.args.rays.now c.variables.ensures.columns c.requires.rows in
    let P = λ (n : ℕ) (cons : Constraints). (p : List ℤ) → IsPoint n p → In cons p ↔ Codes n (IsAdmittedVector gens.width gens.rows) p in
    cons_at_dim P dim c.strong_rows.result c.strong_rows.ensures.dim
    (IfOk-weaker c.strong_rows.result _ _ (λ cons h p point.
    subst (λ (n : ℕ). In cons p ↔ Codes dim (IsAdmittedVector n gens.rows) p) (sym wide)
    (strong_rows_code dim gens.rows c.args.lines.now.rows c.args.rays.now.rows cons p rows h point)) c.strong_rows.ensures.list)

pub returns-clause-needed : goal.returns-clause-needed
returns-clause-needed c =
    let dim = c.variables.result in
    let rows = rows_at dim c.args.gens.now c.args.lines.now c.args.rays.now c.variables.ensures.columns c.requires.rows in
    cons_at_dim (λ n cons. (i : ℕ) → i < length cons.list → IsNeededConstraint n cons.list i) dim c.strong_rows.result c.strong_rows.ensures.dim
    (IfOk-weaker c.strong_rows.result _ _ (λ cons h i below. strong_rows_are_needed dim c.args.gens.now.rows c.args.lines.now.rows c.args.rays.now.rows cons.list rows h i below) c.strong_rows.ensures.list)

pub returns-clause-part : goal.returns-clause-part
returns-clause-part c =
    let dim = c.variables.result in
    cons_at_dim (λ n cons. (decoded : List Constraint) → AreDecodedRows n c.args.lines.now.rows c.args.rays.now.rows decoded → All (Contains decoded) cons.list) dim c.strong_rows.result c.strong_rows.ensures.dim
    (IfOk-weaker c.strong_rows.result _ _ (λ cons h decoded d. strong_rows_are_decoded dim c.args.gens.now.rows c.args.lines.now.rows c.args.rays.now.rows decoded cons.list d h) c.strong_rows.ensures.list)

pub returns-clause-stored : goal.returns-clause-stored
returns-clause-stored c =
    let dim = c.variables.result in
    let rows = rows_at dim c.args.gens.now c.args.lines.now c.args.rays.now c.variables.ensures.columns c.requires.rows in
    IfOk-weaker c.strong_rows.result _ _ (λ cons h. strong_rows_are_stored dim c.args.gens.now.rows c.args.lines.now.rows c.args.rays.now.rows cons.list rows h) c.strong_rows.ensures.list
