-- A drawn row more.
use Rattle.std.proofs.Common.{◌≡◌, ℕ, suc, ◌+◌, List, [], ◌∷◌, ◌++◌, ℤ, sym, ap, ◌∙◌, subst, arith}
use Rattle.std.proofs.lemmas.List.{append_assoc}
use Rattle.cons_sys.specs.declared.kind.ConKind.TheVariants.{Ge}
use Rattle.cons_sys.specs.Constraints.{Constraint, Gains}
use Rattle.sample_rows.specs.Draws.{next, row_from, before_row, drawn_rows}
use Rattle.sample_rows.specs.Samples.{sides, sample_rows}
use Rattle.sample_rows.proofs.StoredRows.{AreStored, stored_more}

one_more : (n : ℕ) → n + 1 ≡ suc n
one_more n = omega arith

pub before_more : (n x y : ℕ) → x ≡ before_row n → y ≡ next (next (next (next x))) → y ≡ before_row (n + 1)
before_more n x y e f = f ∙ ap (λ z. next (next (next (next z)))) e ∙ sym (ap before_row (one_more n))

rows_more : (n : ℕ) → sample_rows n ++ row_from (before_row n) ∷ [] ≡ sample_rows (n + 1)
rows_more n = append_assoc sides (drawn_rows n) (row_from (before_row n) ∷ []) ∙ ap (λ k. sides ++ drawn_rows k) (sym (one_more n))

pub sample_more : (n x : ℕ) (pushed : List ℤ) (old new : List Constraint) → AreStored (sample_rows n) old → x ≡ before_row n → pushed ≡ row_from x → Gains old new pushed Ge → AreStored (sample_rows (n + 1)) new
sample_more n x pushed old new s e f g = subst (λ rows. AreStored rows new) (rows_more n) (stored_more (sample_rows n) (row_from (before_row n)) pushed old new s (f ∙ ap row_from e) g)
