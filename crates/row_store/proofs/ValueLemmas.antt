-- The values of vectors on a row.
use Rattle.std.specs.Prelude.{◌≡◌, ℕ, ◌+◌, ◌<◌, List, [], ◌∷◌, ◌++◌, length, ℤ, pos}
use Rattle.std.proofs.Common.{ap, ◌∙◌, take}
use Rattle.std.proofs.lemmas.List.{map_push, length-map, get_or-map}
use Rattle.row_core.specs.Vectors.{dot}
use Rattle.row_core.specs.Lists.{Row, row_at, vectors, vector_at}
use Rattle.row_core.specs.Pairs.{value_at}
use Rattle.row_core.proofs.RowListLemmas.{vectors_more}
use Rattle.row_store.specs.Values.{values_on}

pub length-values_on : (a : List ℤ) (vs : List (List ℤ)) → length (values_on a vs) ≡ length vs
length-values_on a vs = length-map vs (λ v. dot a v)

pub value_at-values_on : (a : List ℤ) (vs : List (List ℤ)) (i : ℕ) → i < length vs → value_at (values_on a vs) i ≡ dot a (vector_at vs i)
value_at-values_on a vs i h = get_or-map (λ v. dot a v) vs i [] (pos 0) h

pub values_on_more : (a : List ℤ) (rows : List Row) (i : ℕ) → i < length rows → values_on a (vectors (take (i + 1) rows)) ≡ values_on a (vectors (take i rows)) ++ dot a (row_at rows i) ∷ []
values_on_more a rows i within = ap (values_on a) (vectors_more rows i within) ∙ map_push (λ v. dot a v) (vectors (take i rows)) (row_at rows i)
