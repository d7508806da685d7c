use Rattle.std.proofs.Common.{rules, ◌≡◌, ◌+◌, ◌∙◌, sym, ap, subst, ℕ, List, ℤ, pos, negsuc, ◌++◌, ◌∷◌, [], length, replicate, arith}
use Rattle.std.proofs.lemmas.List.{length-replicate, length_push}
use Rattle.std.proofs.lemmas.List.Elements.{All-push, All-replicate}
use Rattle.row_core.specs.Range.{InRange, AllInRange}
use Rattle.stored_systems.proofs.RowLemmas.{replicate_false}
use Rattle.stored_systems.proofs.storing.false_row.Goals as goal

zero_in_range : InRange (pos 0)
zero_in_range = record { size = omega arith }

minus_one_in_range : InRange (negsuc 0)
minus_one_in_range = record { size = omega arith }

pub returns : goal.returns
returns c =
    let dim = c.args.dim in
    let z : c.in_ok-row.row.items ≡ replicate dim (pos 0) = search rules in
    let row = c.in_ok-push.ensures.items ∙ ap (λ (v : List ℤ). v ++ negsuc 0 ∷ []) z in
    record {
      row = row ∙ replicate_false dim;
      wide = ap (λ (v : List ℤ). length v) row ∙ length_push (replicate dim (pos 0)) (negsuc 0) ∙ ap (λ (n : ℕ). n + 1) (length-replicate dim (pos 0));
      in_range = subst AllInRange (sym row) (All-push InRange (replicate dim (pos 0)) (negsuc 0) (All-replicate InRange dim (pos 0) zero_in_range) minus_one_in_range);
    }
