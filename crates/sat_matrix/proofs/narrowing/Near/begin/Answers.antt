use Rattle.std.specs.Prelude.{ℕ, List, length}
use Rattle.std.specs.List.{range_with_len}
use Rattle.std.proofs.Common.{sym, ap, ◌∙◌, subst, arith}
use Rattle.std.proofs.lemmas.Bool.{false≢true}
use Rattle.sat_matrix.specs.Near.{IsNear}
use Rattle.sat_matrix.proofs.NearLists.{near_all, near_all_rays}
use Rattle.sat_matrix.proofs.narrowing.Near.begin.Goals as goal
use Rattle.sat_matrix.proofs.narrowing.Near.begin.Goals.{then-whole, else-whole}

pub returns-clause-near : goal.returns-clause-near
returns-clause-near c =
    let P : List ℕ → Type 0 = λ list. IsNear c.args.search.now.zeros.now c.args.search.now.outer.now c.args.search.now.inner.now c.args.search.now.least 0 (length c.args.search.now.outer.now) 0 list in
    let Q : List ℕ → Type 0 = λ list. IsNear c.args.search.now.zeros.now c.args.search.now.outer.now (range_with_len 0 (length c.args.search.now.zeros.now.rows)) c.args.search.now.least 0 (length c.args.search.now.outer.now) 0 list in
    record {
      inner_start = omega arith;
      rays_start = omega arith;
      near = subst P (sym c.in_ok-list_numbers.ensures) (near_all c.args.search.now.zeros.now c.args.search.now.outer.now c.args.search.now.inner.now c.args.search.now.least 0 (length c.args.search.now.outer.now));
      near_rays = λ t. elim c.if-whole.branch [
        | then-whole w ↦
            subst Q (sym (c.in_ok-list_numbers-3.ensures ∙ ap (λ (n : ℕ). range_with_len 0 n) (w.rays-is ∙ w.len-rays.ensures)))
            (near_all_rays c.args.search.now.zeros.now c.args.search.now.outer.now c.args.search.now.least 0 (length c.args.search.now.outer.now))
        | else-whole w ↦ absurd (false≢true (sym w.if-whole.false ∙ t))
      ];
    }
