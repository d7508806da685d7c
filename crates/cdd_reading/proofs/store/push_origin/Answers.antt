use Rattle.std.proofs.Common.{◌≡◌, ◌∙◌, ℕ, ◌+◌, List, [], ◌∷◌, ◌++◌, length, length-append, replicate, ap, arith, subst}
use Rattle.std.specs.Prelude.{ℤ, pos}
use Rattle.std.proofs.lemmas.List.{length-replicate}
use Rattle.gens_sys.specs.Generators as gens
use Rattle.gens_sys.specs.declared.kind.GenKind.TheVariants.{Point}
use Rattle.cdd_reading.specs.Files.{origin}
use Rattle.cdd_reading.proofs.StoreLaws.{origin_gained}
use Rattle.std.proofs.lemmas.Result.{err_from_is_err_and}
use Rattle.cdd_reading.proofs.store.push_origin.Goals as goal

origin_length : (n : ℕ) → length (origin n) ≡ n + 1
origin_length n = omega (arith, length-append (replicate n (pos 0)) (pos 1 ∷ []), length-replicate n (pos 0))

pub push_row-requires : goal.push_row-requires
push_row-requires c =
    let zeros = c.in_ok-cells.ensures.items_if_clones_equal (λ (y : ℤ) e. e) ∙ ap (λ (n : ℕ). replicate n (pos 0)) c.dim.ensures.value in
    let made : c.from_vec.result ≡ origin c.args.system.now.dim = c.from_vec.ensures ∙ c.in_ok-push.ensures.items ∙ ap (λ (xs : List ℤ). xs ++ pos 1 ∷ []) zeros in
    ap length made ∙ origin_length c.args.system.now.dim

pub returns-in-Ok-clause-list : goal.returns-in-Ok-clause-list
returns-in-Ok-clause-list c =
    let old = c.args.system.now in
    let zeros = c.in_ok-cells.ensures.items_if_clones_equal (λ (y : ℤ) e. e) ∙ ap (λ (n : ℕ). replicate n (pos 0)) c.dim.ensures.value in
    let made : c.from_vec.result ≡ origin old.dim = c.from_vec.ensures ∙ c.in_ok-push.ensures.items ∙ ap (λ (xs : List ℤ). xs ++ pos 1 ∷ []) zeros in
    origin_gained old.dim old.list c.push_row.new.self.list (subst (λ (v : List ℤ). gens.Gains old.list c.push_row.new.self.list v Point) made c.in-Ok.ensures.list)

pub returns-in_err-cells-clause-list : goal.returns-in_err-cells-clause-list
returns-in_err-cells-clause-list c = let p = err_from_is_err_and c.from_residual.result c.from_residual.ensures.1 in rw p.1 tt

pub returns-in_err-push-clause-list : goal.returns-in_err-push-clause-list
returns-in_err-push-clause-list c = let p = err_from_is_err_and c.from_residual-in_err-push.result c.from_residual-in_err-push.ensures.1 in rw p.1 tt
