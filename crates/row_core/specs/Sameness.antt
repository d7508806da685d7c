use Rattle.std.specs.Prelude.{List, ℤ, Bool, nat_eq}
use Rattle.std.specs.Bool.{beq}
use Rattle.std.specs.Ordering.{int_eq, on, eq_of_both}
use Rattle.std.specs.Cmp.{IsEquivalence, on_equiv, and_equiv, nat_eq_equiv, bool_eq_equiv}
use Rattle.std.specs.Cmp.Lexicographic.{pointwise}
use Rattle.std.proofs.lemmas.Cmp.{int_eq_equiv, lists_equiv}
use Rattle.row_core.specs.Lists.{Rows}

-- whether two rows have the same entries, and marks that the test finds the same
abbrev pub is_same_marked : {M : Type 0} → (M → M → Bool) → List ℤ × M → List ℤ × M → Bool
is_same_marked is_same_mark =
    eq_of_both (on (λ r. r.0) (pointwise int_eq)) (on (λ r. r.1) is_same_mark)

-- whether two lists have one width and the same rows, with their marks, in the same order
abbrev pub is_same_list : Rows → Rows → Bool
is_same_list =
    eq_of_both (on (λ l. l.width) nat_eq) (on (λ l. l.rows) (pointwise (is_same_marked beq)))

pub same_marked_equiv : {M : Type 0} {E : M → M → Bool} → IsEquivalence E →
    IsEquivalence (pointwise (is_same_marked E))
same_marked_equiv marks =
    lists_equiv
    (and_equiv (on_equiv (λ r. r.0) (lists_equiv int_eq_equiv)) (on_equiv (λ r. r.1) marks))

pub same_list_equiv : IsEquivalence is_same_list
same_list_equiv =
    and_equiv (on_equiv (λ l. l.width) nat_eq_equiv)
    (on_equiv (λ l. l.rows) (same_marked_equiv bool_eq_equiv))
