-- Lists of the axes of new variables grow at their ends.
use Rattle.std.proofs.Common.{◌≡◌, ℕ, ◌+◌, ◌<◌, List, [], ◌∷◌, ◌++◌, map, ℤ, refl, sym, ap, ◌∙◌, subst}
use Rattle.std.specs.List.{range_with_len}
use Rattle.std.proofs.lemmas.List.FromFn.{map-range_with_len_more}
use Rattle.gens_sys.specs.declared.kind.GenKind.TheVariants.{Line}
use Rattle.gens_sys.specs.Generators.{IsGenerator}
use Rattle.stored_systems.specs.Axes.{axis}
use Rattle.stored_systems.proofs.UniverseLemmas.{length-axis, axis_in_range, axis_primitive, axis_fits}

pub one_axis_more : {K : Type 0} (a : ℕ → List ℤ) (kind : K) (n i : ℕ) (cur new : List (List ℤ × K)) (row : List ℤ) → cur ≡ map (λ j. (a j, kind)) (range_with_len n i) → row ≡ a (n + i) → new ≡ cur ++ (row, kind) ∷ [] → new ≡ map (λ j. (a j, kind)) (range_with_len n (i + 1))
one_axis_more {K} a kind n i cur new row c r e =
    e ∙ ap (λ (xs : List (List ℤ × K)). xs ++ (row, kind) ∷ []) c
    ∙ ap (λ (v : List ℤ). map (λ j. (a j, kind)) (range_with_len n i) ++ (v, kind) ∷ []) r
    ∙ sym (map-range_with_len_more (λ j. (a j, kind)) n i (n + i) refl)

pub axis_generator : (dim n i : ℕ) (row : List ℤ) → dim ≡ n → row ≡ axis n i → i < n → IsGenerator dim (row, Line)
axis_generator dim n i row e r h =
    subst (λ (d : ℕ). IsGenerator d (row, Line)) (sym e)
    (subst (λ (v : List ℤ). IsGenerator n (v, Line)) (sym r) (record {
      wide = length-axis n i h;
      in_range = axis_in_range n i;
      primitive = axis_primitive n i h;
      divisor = (axis_fits n i h).divisor;
      nonzero = (axis_fits n i h).nonzero;
    }))
