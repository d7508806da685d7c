-- Inequalities that are stored one after another.
use Rattle.std.proofs.Common.{◌≡◌, ℕ, zero, suc, ◌<◌, List, [], ◌∷◌, ◌++◌, length, slice_index_or, ℤ, refl, sym, subst, arith}
use Rattle.row_core.specs.Content.{IsPrimitiveOf}
use Rattle.row_core.specs.Lists.{Pointwise}
use Rattle.cons_sys.specs.declared.kind.ConKind.TheVariants.{Ge}
use Rattle.cons_sys.specs.Constraints.{Constraint, Gains}
use Rattle.sample_rows.specs.Samples.{IsInequalityOf}

abbrev pub AreStored : List (List ℤ) → List Constraint → Type 0
AreStored rows list = Pointwise IsInequalityOf rows list

pub none_stored : AreStored [] []
none_stored = record { as_many = refl; each = λ i d e h. absurd (omega arith) }

stored_tail : (x : List ℤ) (rows : List (List ℤ)) (y : Constraint) (list : List Constraint) → AreStored (x ∷ rows) (y ∷ list) → AreStored rows list
stored_tail x rows y list s = record { as_many = omega (arith, s.as_many); each = λ i d e h. s.each (suc i) d e (omega (arith, h)) }

stored_cons : (x : List ℤ) (rows : List (List ℤ)) (y : Constraint) (list : List Constraint) → IsInequalityOf x y → AreStored rows list → AreStored (x ∷ rows) (y ∷ list)
stored_cons x rows y list h s = record { as_many = omega (arith, s.as_many); each = by_index }
  where
    by_index : (i : ℕ) (d : List ℤ) (e : Constraint) → i < length (x ∷ rows) → IsInequalityOf (slice_index_or (x ∷ rows) i d) (slice_index_or (y ∷ list) i e)
    by_index zero d e b = h
    by_index (suc i) d e b = s.each i d e (omega (arith, b))

stored_append : (rows more : List (List ℤ)) (list added : List Constraint) → AreStored rows list → AreStored more added → AreStored (rows ++ more) (list ++ added)
stored_append [] more [] added s t = t
stored_append [] more (y ∷ list) added s t = absurd (omega (arith, s.as_many))
stored_append (x ∷ rows) more [] added s t = absurd (omega (arith, s.as_many))
stored_append (x ∷ rows) more (y ∷ list) added s t = stored_cons x (rows ++ more) y (list ++ added) (s.each 0 [] y (omega arith)) (stored_append rows more list added (stored_tail x rows y list s) t)

-- a row more
pub stored_more : (rows : List (List ℤ)) (row pushed : List ℤ) (old new : List Constraint) → AreStored rows old → pushed ≡ row → Gains old new pushed Ge → AreStored (rows ++ row ∷ []) new
stored_more rows row pushed old new s e g =
    subst (AreStored (rows ++ row ∷ [])) (sym g.list)
    (stored_append rows (row ∷ []) old ((g.stored, Ge) ∷ []) s
    (stored_cons row [] (g.stored, Ge) [] (record { primitive = subst (λ r. IsPrimitiveOf r g.stored) e g.primitive; kind = refl }) none_stored))
