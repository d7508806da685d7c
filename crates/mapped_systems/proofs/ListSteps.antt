-- The lists of mapped rows grow at their ends.
use Rattle.std.proofs.Common.{◌≡◌, inl, inr, ℕ, ◌+◌, ◌<◌, List, [], ◌∷◌, ◌++◌, length, take, ℤ, sym, subst}
use Rattle.std.proofs.lemmas.List.{take_more}
use Rattle.row_core.specs.Content.{IsPrimitiveOf}
use Rattle.cons_sys.specs.declared.kind.ConKind.{ConKind}
use Rattle.cons_sys.specs.declared.kind.ConKind.TheVariants.{Eq}
use Rattle.cons_sys.specs.Constraints as cons
use Rattle.cons_sys.specs.Constraints.{Constraint}
use Rattle.gens_sys.specs.Kinds.{IsZeroDirection}
use Rattle.gens_sys.specs.declared.kind.GenKind.{GenKind}
use Rattle.gens_sys.specs.declared.kind.GenKind.TheVariants.{Line}
use Rattle.gens_sys.specs.Generators as gens
use Rattle.gens_sys.specs.Generators.{Generator}
use Rattle.mapped_systems.specs.MappedLists.{AreMapped, nothing, left_out, kept, GainsMapped, ArePulled, none_pulled, one_pulled}

module _ (f : List ℤ → List ℤ) where
  mapped_left_out : (v : List ℤ) (kind : GenKind) (old new : List Generator) → IsZeroDirection kind (f v) → AreMapped f old new → AreMapped f (old ++ (v, kind) ∷ []) new
  mapped_left_out v kind [] [] z nothing = left_out z nothing
  mapped_left_out v kind [] (_ ∷ new) z m = elim m [ ]
  mapped_left_out v kind (g ∷ old) new z (left_out y m) = left_out y (mapped_left_out v kind old new z m)
  mapped_left_out v kind (g ∷ old) (h ∷ new) z (kept n p m) = kept n p (mapped_left_out v kind old new z m)

  mapped_kept : (v stored : List ℤ) (kind : GenKind) (old new : List Generator) → ¬ (IsZeroDirection kind (f v)) → IsPrimitiveOf (f v) stored → AreMapped f old new → AreMapped f (old ++ (v, kind) ∷ []) (new ++ (stored, kind) ∷ [])
  mapped_kept v stored kind [] [] n p nothing = kept n p nothing
  mapped_kept v stored kind [] (_ ∷ new) n p m = elim m [ ]
  mapped_kept v stored kind (g ∷ old) new n p (left_out y m) = left_out y (mapped_kept v stored kind old new n p m)
  mapped_kept v stored kind (g ∷ old) (h ∷ new) n p (kept o q m) = kept o q (mapped_kept v stored kind old new n p m)

  pulled_more : (row stored : List ℤ) (kind : ConKind) (old new : List Constraint) → IsPrimitiveOf (f row) stored → ArePulled f old new → ArePulled f (old ++ (row, kind) ∷ []) (new ++ (stored, kind) ∷ [])
  pulled_more row stored kind [] [] p none_pulled = one_pulled p none_pulled
  pulled_more row stored kind [] (_ ∷ new) p m = elim m [ ]
  pulled_more row stored kind (_ ∷ old) [] p m = elim m [ ]
  pulled_more row stored kind (c ∷ old) (d ∷ new) p (one_pulled q m) = one_pulled q (pulled_more row stored kind old new p m)

  -- what one call appends to the list of the first i
  pub mapped_step : (list cur new : List Generator) (i : ℕ) (row : List ℤ) (kind : GenKind) → i < length list → row ≡ f (gens.row_at list i) → kind ≡ gens.kind_at list i → AreMapped f (take i list) cur → GainsMapped cur new row kind → AreMapped f (take (i + 1) list) new
  mapped_step list cur new i row kind h e k m change = subst (λ (taken : List Generator). AreMapped f taken new) (sym (take_more list i ([], Line) h)) (by change)
    where
      v : List ℤ
      v = gens.row_at list i

      told : IsZeroDirection kind row → IsZeroDirection (gens.kind_at list i) (f v)
      told z = subst (λ (w : List ℤ). IsZeroDirection (gens.kind_at list i) w) e (subst (λ (c : GenKind). IsZeroDirection c row) k z)

      back : IsZeroDirection (gens.kind_at list i) (f v) → IsZeroDirection kind row
      back z = subst (λ (c : GenKind). IsZeroDirection c row) (sym k) (subst (λ (w : List ℤ). IsZeroDirection (gens.kind_at list i) w) (sym e) z)

      by : GainsMapped cur new row kind → AreMapped f (take i list ++ (gens.row_at list i, gens.kind_at list i) ∷ []) new
      by (inl (z, s)) = subst (AreMapped f (take i list ++ (v, gens.kind_at list i) ∷ [])) (sym s) (mapped_left_out v (gens.kind_at list i) (take i list) cur (told z) m)
      by (inr (n, g)) =
          let last : AreMapped f (take i list ++ (v, gens.kind_at list i) ∷ []) (cur ++ (g.stored, gens.kind_at list i) ∷ []) = mapped_kept v g.stored (gens.kind_at list i) (take i list) cur (λ z. n (back z)) (subst (λ (w : List ℤ). IsPrimitiveOf w g.stored) e g.primitive) m in
          subst (AreMapped f (take i list ++ (v, gens.kind_at list i) ∷ [])) (sym g.list) (subst (λ (c : GenKind). AreMapped f (take i list ++ (v, gens.kind_at list i) ∷ []) (cur ++ (g.stored, c) ∷ [])) (sym k) last)

  pub pulled_step : (list cur new : List Constraint) (i : ℕ) (row : List ℤ) (kind : ConKind) → i < length list → row ≡ f (cons.row_at list i) → kind ≡ cons.kind_at list i → ArePulled f (take i list) cur → cons.Gains cur new row kind → ArePulled f (take (i + 1) list) new
  pulled_step list cur new i row kind h e k m g =
      let last : ArePulled f (take i list ++ (cons.row_at list i, cons.kind_at list i) ∷ []) (cur ++ (g.stored, cons.kind_at list i) ∷ []) = pulled_more (cons.row_at list i) g.stored (cons.kind_at list i) (take i list) cur (subst (λ (w : List ℤ). IsPrimitiveOf w g.stored) e g.primitive) m in
      subst (λ (taken : List Constraint). ArePulled f taken new) (sym (take_more list i ([], Eq) h))
      (subst (ArePulled f (take i list ++ (cons.row_at list i, cons.kind_at list i) ∷ [])) (sym g.list)
      (subst (λ (c : ConKind). ArePulled f (take i list ++ (cons.row_at list i, cons.kind_at list i) ∷ []) (cur ++ (g.stored, c) ∷ [])) (sym k) last))
