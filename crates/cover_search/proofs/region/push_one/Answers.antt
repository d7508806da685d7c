use Rattle.std.proofs.Common.{◌≡◌, sym, subst, ℕ, ◌+◌, ◌<◌, ◌++◌, ◌∷◌, [], List, ℤ, Bool, false, length, ap, ◌∙◌}
use Rattle.std.specs.Prelude.{slice_index_or}
use Rattle.row_core.specs.Range.{AllInRange}
use Rattle.row_core.specs.Content.{IsPrimitive}
use Rattle.std.proofs.lemmas.Result.{err_from_is_err_and, on_ok_weaker}
use Rattle.std.proofs.lemmas.List.{length-map, get_or-map}
use Rattle.row_core.specs.Lists.{Row, row_at as listed_row}
use Rattle.cons_sys.specs.declared.kind.ConKind.{ConKind}
use Rattle.cons_sys.specs.declared.kind.ConKind.TheVariants.{Eq}
use Rattle.cons_sys.specs.Constraints.{Constraint, Constraints, row_at, constraint_at}
use Rattle.nnc_enc.specs.Encoding.{encoded_constraint}
use Rattle.cover_search.proofs.ResultLemmas.{on_ok, on_ok_first}
use Rattle.cover_search.proofs.region.push_one.Goals as goal

pub push_primitive-requires-clause-wide : goal.push_primitive-requires-clause-wide
push_primitive-requires-clause-wide c = ap (λ (v : List ℤ). length v) c.row.ensures.value ∙ c.row.ensures.wide ∙ ap (λ (n : ℕ). n + 1) (ap (λ (cs : Constraints). cs.dim) c.cons-given.ensures ∙ c.requires.dim)

pub push_primitive-requires-clause-in_range : goal.push_primitive-requires-clause-in_range
push_primitive-requires-clause-in_range c = subst AllInRange (sym c.row.ensures.value) c.row.ensures.in_range

pub push-requires : goal.push-requires
push-requires c = record {
  wide = ap (λ (v : List ℤ). length v) c.row-2.ensures.value ∙ c.row-2.ensures.wide ∙ c.rows-encoded.ensures.width ∙ ap (λ (n : ℕ). n + 2) c.requires.dim ∙ sym c.requires.width;
  in_range = subst AllInRange (sym c.row-2.ensures.value) c.row-2.ensures.in_range;
}

pub returns-clause-cons : goal.returns-clause-cons
returns-clause-cons c =
    let given = c.cons-given.result.now in
    let new = c.push_primitive.new.self in
    let old = c.args.cons.now in
    let same : (c.row.result.now, c.kind.result) ≡ constraint_at c.args.halfspaces.now.list c.args.index =
    ap (λ (v : List ℤ). (v, c.kind.result)) c.row.ensures.value
    ∙ ap (λ (k : ConKind). (row_at given.list c.args.index, k)) c.kind.ensures
    ∙ ap (λ (cs : Constraints). constraint_at cs.list c.args.index) c.cons-given.ensures in
    let list = c.in_ok-push_primitive.ensures.list ∙ ap (λ (con : Constraint). old.list ++ con ∷ []) same in
    on_ok c.push.result (ap (λ (n : ℕ). record { dim = n; list = new.list }) c.in_ok-push_primitive.ensures.dim ∙ ap (λ (cons : List Constraint). record { dim = old.dim; list = cons }) list)

pub returns-clause-rows : goal.returns-clause-rows
returns-clause-rows c =
    let hs = c.args.halfspaces.now in
    let encoded = c.rows-encoded.result.now in
    let index = c.args.index in
    let same : (c.row-2.result.now, c.is_eq.result) ≡ encoded_constraint c.args.cons.now.dim (constraint_at hs.list index) =
    ap (λ (v : List ℤ). (v, c.is_eq.result)) c.row-2.ensures.value
    ∙ ap (λ (b : Bool). (listed_row encoded.rows index, b)) c.is_eq.ensures
    ∙ ap (λ (rows : List Row). slice_index_or rows index ([], false)) c.rows-encoded.ensures.rows
    ∙ get_or-map (encoded_constraint hs.dim) hs.list index ([], Eq) ([], false) c.requires.index
    ∙ ap (λ (n : ℕ). encoded_constraint n (constraint_at hs.list index)) c.requires.dim in
    on_ok_weaker c.push.result (λ e. e ∙ ap (λ (row : Row). c.args.list.now.rows ++ row ∷ []) same) (on_ok_first _ _ c.push.result c.push.ensures.rows)

pub push_primitive-requires-clause-primitive : goal.push_primitive-requires-clause-primitive
push_primitive-requires-clause-primitive c = subst IsPrimitive (sym c.row.ensures.value) c.row.ensures.primitive

pub returns-in_err-push_primitive-clause-cons : goal.returns-in_err-push_primitive-clause-cons
returns-in_err-push_primitive-clause-cons c = let p = err_from_is_err_and c.from_residual.result c.from_residual.ensures.1 in rw p.1 tt

pub returns-in_err-push_primitive-clause-rows : goal.returns-in_err-push_primitive-clause-rows
returns-in_err-push_primitive-clause-rows c = let p = err_from_is_err_and c.from_residual.result c.from_residual.ensures.1 in rw p.1 tt

pub is_eq-requires : goal.is_eq-requires
is_eq-requires c =
    subst (λ (n : ℕ). c.args.index < n) (sym (ap (λ (rows : List Row). length rows) c.rows-encoded.ensures.rows ∙ length-map c.args.halfspaces.now.list (encoded_constraint c.args.halfspaces.now.dim))) c.requires.index

pub row-requires-2 : goal.row-requires-2
row-requires-2 c =
    subst (λ (n : ℕ). c.args.index < n) (sym (ap (λ (rows : List Row). length rows) c.rows-encoded.ensures.rows ∙ length-map c.args.halfspaces.now.list (encoded_constraint c.args.halfspaces.now.dim))) c.requires.index
