use Rattle.std.specs.Prelude.{ℤ, pos, get_or, ◌+ℤ◌, ◌*ℤ◌}
use Rattle.std.specs.Int.{w64, w128}
use Rattle.std.proofs.Common.{rules, sym, subst}
use Rattle.std.proofs.lemmas.Int.{to_z-of_z, fits_signed_from_abs}
use mir.Val.{SFits, to_z}
use Rattle.row_core.specs.Vectors.{cell}
use Rattle.row_core.specs.Sizes.{IsWord}
use Rattle.row_core.proofs.ColumnLemmas.{total_more}
use Rattle.row_core.proofs.SizeLemmas.{to_z-of_cut}
use Rattle.row_core.proofs.sizes.word_dot.Goals as goal

-- a word fits one
fits : (x : ℤ) → IsWord x → SFits w64 x
fits x h = fits_signed_from_abs w64 x h.size

pub overflow_cast-total : goal.overflow_cast-total
overflow_cast-total c =
    let u_fits : SFits w128 (get_or c.args.u.now c.loop-j.j (pos 0)) = search rules in
    let words = c.requires.words c.loop-j.j c.loop-j-test.true in
    rw (to_z-of_z w128 (get_or c.args.u.now c.loop-j.j (pos 0)) u_fits) (fits (get_or c.args.u.now c.loop-j.j (pos 0)) words.left)

pub overflow_cast-total-in-loop-j : goal.overflow_cast-total-in-loop-j
overflow_cast-total-in-loop-j c =
    let v_fits : SFits w128 (get_or c.args.v.now c.loop-j.j (pos 0)) = search rules in
    let words = c.requires.words c.loop-j.j c.loop-j-test.true in
    rw (to_z-of_z w128 (get_or c.args.v.now c.loop-j.j (pos 0)) v_fits) (fits (get_or c.args.v.now c.loop-j.j (pos 0)) words.right)

pub overflow_mul-total : goal.overflow_mul-total
overflow_mul-total c =
    let u_fits : SFits w128 (get_or c.args.u.now c.loop-j.j (pos 0)) = search rules in
    let v_fits : SFits w128 (get_or c.args.v.now c.loop-j.j (pos 0)) = search rules in
    let words = c.requires.words c.loop-j.j c.loop-j-test.true in
    rw (to_z-of_cut (get_or c.args.u.now c.loop-j.j (pos 0)) u_fits (fits (get_or c.args.u.now c.loop-j.j (pos 0)) words.left), to_z-of_cut (get_or c.args.v.now c.loop-j.j (pos 0)) v_fits (fits (get_or c.args.v.now c.loop-j.j (pos 0)) words.right))
    (fits (get_or c.args.u.now c.loop-j.j (pos 0) *ℤ get_or c.args.v.now c.loop-j.j (pos 0)) words.product)

pub overflow_add-total : goal.overflow_add-total
overflow_add-total c =
    let total : ℤ = to_z w64 c.loop-j.total-bits in
    let product : ℤ = cell c.args.u.now c.loop-j.j *ℤ cell c.args.v.now c.loop-j.j in
    let words = c.requires.words c.loop-j.j c.loop-j-test.true in
    let u_fits : SFits w128 (get_or c.args.u.now c.loop-j.j (pos 0)) = search rules in
    let v_fits : SFits w128 (get_or c.args.v.now c.loop-j.j (pos 0)) = search rules in
    let u_word : SFits w64 (get_or c.args.u.now c.loop-j.j (pos 0)) =
    fits (get_or c.args.u.now c.loop-j.j (pos 0)) words.left in
    let v_word : SFits w64 (get_or c.args.v.now c.loop-j.j (pos 0)) =
    fits (get_or c.args.v.now c.loop-j.j (pos 0)) words.right in
    let product_fits : SFits w64 product = fits product words.product in
    let more = total_more c.args.u.now c.args.v.now c.loop-j.j total c.loop-j-test.true
    c.requires.same_width c.loop-j.invariant.total in
    let word : IsWord (total +ℤ product) = subst IsWord (sym more) words.sum in
    let sum_fits : SFits w64 (total +ℤ product) = fits (total +ℤ product) word in
    rw (to_z-of_cut (get_or c.args.u.now c.loop-j.j (pos 0)) u_fits u_word, to_z-of_cut (get_or c.args.v.now c.loop-j.j (pos 0)) v_fits v_word)
    (rw (to_z-of_z w64 (get_or c.args.u.now c.loop-j.j (pos 0) *ℤ get_or c.args.v.now c.loop-j.j (pos 0)) product_fits) sum_fits)

pub loop-j-preserved : goal.loop-j-preserved
loop-j-preserved c =
    let total : ℤ = to_z w64 c.loop-j.total-bits in
    let product : ℤ = cell c.args.u.now c.loop-j.j *ℤ cell c.args.v.now c.loop-j.j in
    let words = c.requires.words c.loop-j.j c.loop-j-test.true in
    let u_fits : SFits w128 (get_or c.args.u.now c.loop-j.j (pos 0)) = search rules in
    let v_fits : SFits w128 (get_or c.args.v.now c.loop-j.j (pos 0)) = search rules in
    let u_word : SFits w64 (get_or c.args.u.now c.loop-j.j (pos 0)) =
    fits (get_or c.args.u.now c.loop-j.j (pos 0)) words.left in
    let v_word : SFits w64 (get_or c.args.v.now c.loop-j.j (pos 0)) =
    fits (get_or c.args.v.now c.loop-j.j (pos 0)) words.right in
    let product_fits : SFits w64 product = fits product words.product in
    let more = total_more c.args.u.now c.args.v.now c.loop-j.j total c.loop-j-test.true
    c.requires.same_width c.loop-j.invariant.total in
    let word : IsWord (total +ℤ product) = subst IsWord (sym more) words.sum in
    let sum_fits : SFits w64 (total +ℤ product) = fits (total +ℤ product) word in
    rw (to_z-of_cut (get_or c.args.u.now c.loop-j.j (pos 0)) u_fits u_word, to_z-of_cut (get_or c.args.v.now c.loop-j.j (pos 0)) v_fits v_word)
    (rw (to_z-of_z w64 (get_or c.args.u.now c.loop-j.j (pos 0) *ℤ get_or c.args.v.now c.loop-j.j (pos 0)) product_fits)
    (rw (to_z-of_z w64 (total +ℤ get_or c.args.u.now c.loop-j.j (pos 0) *ℤ get_or c.args.v.now c.loop-j.j (pos 0)) sum_fits) (record { total = more; word = word })))
