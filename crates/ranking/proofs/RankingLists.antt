-- Lists of constraints that grow at the end.
use Rattle.std.proofs.Common.{◌≡◌, inl, inr, ℕ, ◌+◌, ◌<◌, List, [], ◌∷◌, ◌++◌, length, take, ℤ, refl, ap, sym, subst, ◌∙◌}
use Rattle.std.proofs.lemmas.List.{append-nil, take_more}
use Rattle.row_core.specs.declared.errors.ConvErr.TheVariants as conversion
use Rattle.cons_sys.specs.declared.kind.ConKind.{ConKind}
use Rattle.cons_sys.specs.Constraints.{Constraint}
use Rattle.gens_sys.specs.declared.kind.GenKind.TheVariants.{Line}
use Rattle.gens_sys.specs.Generators.{Generator, generator_at, row_at, kind_at}
use Rattle.ranking.specs.RankingRows.{bound_row, fall_row, row_kind, ranking_rows, AreReduced, nothing, left_out, kept, GainsReduced, GainsPair}

reduced_append : (old new more added : List Constraint) → AreReduced old new → AreReduced more added → AreReduced (old ++ more) (new ++ added)
reduced_append [] [] more added nothing e = e
reduced_append [] (_ ∷ new) more added d e = elim d [ ]
reduced_append (c ∷ old) new more added (left_out z d) e = left_out z (reduced_append old new more added d e)
reduced_append (c ∷ old) (_ ∷ new) more added (kept p d) e = kept p (reduced_append old new more added d e)

-- one constraint more
reduced_end : (old new new2 : List Constraint) (row : List ℤ) (kind : ConKind) → AreReduced old new → GainsReduced new new2 row kind → AreReduced (old ++ (row, kind) ∷ []) new2
reduced_end old new new2 row kind d (inl (z, e)) =
    subst (AreReduced (old ++ (row, kind) ∷ [])) (append-nil new ∙ sym e)
    (reduced_append old new ((row, kind) ∷ []) [] d (left_out z nothing))
reduced_end old new new2 row kind d (inr g) =
    subst (AreReduced (old ++ (row, kind) ∷ [])) (sym g.list)
    (reduced_append old new ((row, kind) ∷ []) ((g.stored, kind) ∷ []) d (kept g.primitive nothing))

behind : (old : List Constraint) (c d : Constraint) → (old ++ c ∷ []) ++ d ∷ [] ≡ old ++ c ∷ d ∷ []
behind [] c d = refl
behind (b ∷ old) c d = ap (λ (xs : List Constraint). b ∷ xs) (behind old c d)

rows_append : (n : ℕ) (gs : List Generator) (g : Generator) → ranking_rows n (gs ++ g ∷ []) ≡ ranking_rows n gs ++ (bound_row n g.0, row_kind g.1) ∷ (fall_row n g.0, row_kind g.1) ∷ []
rows_append n [] g = refl
rows_append n (h ∷ gs) g = ap (λ (xs : List Constraint). (bound_row n h.0, row_kind h.1) ∷ (fall_row n h.0, row_kind h.1) ∷ xs) (rows_append n gs g)

pair_end : (n : ℕ) (gs : List Generator) (g : Generator) (new new2 : List Constraint) → AreReduced (ranking_rows n gs) new → GainsPair n new new2 g.0 (row_kind g.1) → AreReduced (ranking_rows n (gs ++ g ∷ [])) new2
pair_end n gs g new new2 d p =
    subst (λ (xs : List Constraint). AreReduced xs new2) (behind (ranking_rows n gs) (bound_row n g.0, row_kind g.1) (fall_row n g.0, row_kind g.1) ∙ sym (rows_append n gs g))
    (reduced_end (ranking_rows n gs ++ (bound_row n g.0, row_kind g.1) ∷ []) p.between new2 (fall_row n g.0) (row_kind g.1)
    (reduced_end (ranking_rows n gs) new p.between (bound_row n g.0) (row_kind g.1) d p.bound) p.fall)

-- one generator more
pub pairs_more : (n : ℕ) (list : List Generator) (new new2 : List Constraint) (i : ℕ) (row : List ℤ) (kind : ConKind) → i < length list → row ≡ row_at list i → kind ≡ row_kind (kind_at list i) → AreReduced (ranking_rows n (take i list)) new → GainsPair n new new2 row kind → AreReduced (ranking_rows n (take (i + 1) list)) new2
pairs_more n list new new2 i row kind h e f d p =
    subst (λ (xs : List Generator). AreReduced (ranking_rows n xs) new2) (sym (take_more list i ([], Line) h))
    (pair_end n (take i list) (generator_at list i) new new2 d
    (subst (λ (k : ConKind). GainsPair n new new2 (row_at list i) k) f (subst (λ (v : List ℤ). GainsPair n new new2 v kind) e p)))
