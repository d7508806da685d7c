-- Polyhedra become entries of a table, one after another.
use Rattle.std.proofs.Common.{◌≡◌, List, [], ◌∷◌, ◌++◌, ◌∙◌, map, ap, sym, append_assoc, append-nil}

module _ {A E : Type 0} (make : A → E) where
  -- one more became an entry
  pub one_more : (es next : List E) (left less : List A) (p : A) (all : List E) → left ≡ p ∷ less → next ≡ es ++ make p ∷ [] → es ++ map make left ≡ all → next ++ map make less ≡ all
  one_more es next left less p all e f h =
      ap (λ (l : List E). l ++ map make less) f
      ∙ (append_assoc es (make p ∷ []) (map make less) ∙ (sym (ap (λ (l : List A). es ++ map make l) e) ∙ h))

  -- all did
  pub all_made : (es : List E) (left : List A) (all : List E) → left ≡ [] → es ++ map make left ≡ all → es ≡ all
  all_made es left all e h = sym (append-nil es) ∙ (sym (ap (λ (l : List A). es ++ map make l) e) ∙ h)
