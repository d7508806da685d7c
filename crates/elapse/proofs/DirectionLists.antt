-- Lists of directions that grow at the end.
use Rattle.std.proofs.Common.{◌≡◌, ℕ, ◌+◌, ◌<◌, List, [], ◌∷◌, ◌++◌, length, take, ℤ, ap, sym, subst, ◌∙◌}
use Rattle.std.proofs.lemmas.List.{append-nil, take_more}
use Rattle.gens_sys.specs.declared.kind.GenKind.{GenKind}
use Rattle.gens_sys.specs.declared.kind.GenKind.TheVariants.{Line}
use Rattle.gens_sys.specs.Generators.{Generator, generator_at, row_at, kind_at}
use Rattle.elapse.specs.Directions.{AreDirections, no_direction, zero_direction, one_direction, GainsDirection, left_out, gained, direction_kind}

-- behind one list the directions of another
pub directions_append : (dim : ℕ) (old new more added : List Generator) → AreDirections dim old new → AreDirections dim more added → AreDirections dim (old ++ more) (new ++ added)
directions_append dim [] [] more added no_direction e = e
directions_append dim [] (_ ∷ new) more added d e = elim d [ ]
directions_append dim (g ∷ old) new more added (zero_direction z d) e = zero_direction z (directions_append dim old new more added d e)
directions_append dim (g ∷ old) (_ ∷ new) more added (one_direction n p d) e = one_direction n p (directions_append dim old new more added d e)

directions_end : (dim : ℕ) (old new new2 : List Generator) (row : List ℤ) (kind : GenKind) → AreDirections dim old new → GainsDirection dim new new2 row kind → AreDirections dim (old ++ (row, kind) ∷ []) new2
directions_end dim old new new2 row kind d (left_out z e) =
    subst (AreDirections dim (old ++ (row, kind) ∷ [])) (append-nil new ∙ sym e)
    (directions_append dim old new ((row, kind) ∷ []) [] d (zero_direction z no_direction))
directions_end dim old new new2 row kind d (gained n g) =
    subst (AreDirections dim (old ++ (row, kind) ∷ [])) (sym g.list)
    (directions_append dim old new ((row, kind) ∷ []) ((g.stored, direction_kind kind) ∷ []) d (one_direction n g.primitive no_direction))

-- one generator more
pub directions_more : (dim dim2 : ℕ) (list new new2 : List Generator) (i : ℕ) (row : List ℤ) (kind : GenKind) → i < length list → dim2 ≡ dim → row ≡ row_at list i → kind ≡ kind_at list i → AreDirections dim (take i list) new → GainsDirection dim2 new new2 row kind → AreDirections dim (take (i + 1) list) new2
directions_more dim dim2 list new new2 i row kind h s e f d g =
    subst (λ xs. AreDirections dim xs new2) (ap (λ x. take i list ++ x ∷ []) (one_generator row kind (generator_at list i) e f) ∙ sym (take_more list i ([], Line) h))
    (directions_end dim (take i list) new new2 row kind d (subst (λ n. GainsDirection n new new2 row kind) s g))
  where
    one_generator : (row : List ℤ) (kind : GenKind) (g : Generator) → row ≡ g.0 → kind ≡ g.1 → (row, kind) ≡ g
    one_generator row kind g e f = ap (λ x. (x, kind)) e ∙ ap (λ x. (g.0, x)) f
