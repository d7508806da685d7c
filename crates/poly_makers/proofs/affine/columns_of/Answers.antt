use Rattle.std.proofs.Common.{◌≡◌, ℕ, ◌<◌, ◌≤◌, List, [], ◌∷◌, ◌++◌, All, take, get_or, length, refl, sym, ap, ◌∙◌, subst, inl, arith}
use Rattle.std.proofs.lemmas.List.{take_more, take_all}
use Rattle.std.proofs.lemmas.List.Elements.{All-push}
use Rattle.poly_makers.proofs.MapLemmas.{not_below}
use Rattle.poly_makers.proofs.affine.columns_of.Goals as goal

pub get-number-requires : goal.get-number-requires
get-number-requires c = omega arith

pub returns-then-number-dim : goal.returns-then-number-dim
returns-then-number-dim c =
    let vars = c.args.vars.now in
    let within : c.loop-index.index < length vars = omega arith in
    let above : c.args.dim ≤ get_or vars c.loop-index.index 0 = omega arith in
    inl (not_below c.args.dim vars c.loop-index.index within above, refl)

pub loop-index-preserved : goal.loop-index-preserved
loop-index-preserved c =
    let vars = c.args.vars.now in
    let index = c.loop-index.index in
    let within : index < length vars = omega arith in
    let below : c.get-number.result < c.args.dim = omega arith in
    record {
      columns = c.in-Ok.ensures.items ∙ ap (λ (columns : List ℕ). columns ++ c.get-number.result ∷ []) c.loop-index.invariant.columns ∙ ap (λ (v : ℕ). take index vars ++ v ∷ []) c.get-number.ensures ∙ sym (take_more vars index 0 within);
      within = subst (All (λ (i : ℕ). i < c.args.dim)) (sym c.in-Ok.ensures.items) (All-push (λ (i : ℕ). i < c.args.dim) c.loop-index.columns.items c.get-number.result c.loop-index.invariant.within below);
    }

pub returns : goal.returns
returns c =
    let vars = c.args.vars.now in
    let whole : c.loop-index.columns.items ≡ vars = c.loop-index.invariant.columns ∙ take_all c.loop-index.index vars (omega arith) in
    (whole, subst (All (λ (i : ℕ). i < c.args.dim)) whole c.loop-index.invariant.within)
