use Rattle.std.specs.Prelude.{◌≡◌, ℕ, ◌-◌, ◌^◌, ◌<◌, List, [], ◌∷◌, ◌++◌, length, All}
use Rattle.std.proofs.Common.{subst}
use Rattle.std.proofs.lemmas.List.Elements.{All-get_or, All-push, All-append}
use Rattle.gens_sys.specs.Generators.{Generator, Generators, generator_at, IsGenerator, FitDimension}
use Rattle.gens_sys.specs.declared.kind.GenKind.TheVariants.{Line}

-- generator i fits the dimension
pub IsGenerator-at : (gs : Generators) (i : ℕ) → FitDimension gs → i < length gs.list → IsGenerator gs.dim (generator_at gs.list i)
IsGenerator-at gs i fits h = All-get_or (IsGenerator gs.dim) gs.list i ([], Line) h fits.each

-- one generator more fits
pub FitDimension-push : (dim : ℕ) (list : List Generator) (g : Generator) → FitDimension (record { dim = dim; list = list }) → IsGenerator dim g → FitDimension (record { dim = dim; list = list ++ g ∷ [] })
FitDimension-push dim list g fits h = record { each = All-push (IsGenerator dim) list g fits.each h; narrow = fits.narrow }

-- generators fit behind others
pub FitDimension-append : (dim : ℕ) (a b : Generators) → FitDimension a → FitDimension b → a.dim ≡ dim → b.dim ≡ dim → FitDimension (record { dim = dim; list = a.list ++ b.list })
FitDimension-append dim a b fits more e f = record {
  each = All-append (IsGenerator dim) a.list b.list (subst (λ (n : ℕ). All (IsGenerator n) a.list) e fits.each) (subst (λ (n : ℕ). All (IsGenerator n) b.list) f more.each);
  narrow = subst (λ (n : ℕ). n < 2 ^ 32 - 2) e fits.narrow;
}
