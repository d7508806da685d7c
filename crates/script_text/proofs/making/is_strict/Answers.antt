use Rattle.std.proofs.Common.{◌≡◌, ℕ, ◌+◌, ◌-◌, ◌<◌, Bool, ◌||◌, List, [], ◌∷◌, length, get_or, drop, refl, ap, sym, ◌∙◌, subst, arith}
use Rattle.std.proofs.lemmas.List.{drop_more, drop_all}
use Rattle.std.proofs.Math.Bool.{or-false, or_assoc}
use Rattle.script_text.specs.Commands.{is_strict, begins_strict}
use Rattle.script_text.proofs.making.is_strict.Goals as goal

step_at : (text : List ℕ) (k : ℕ) (found b : Bool) → k + 1 < length text → ((behind : List ℕ) → b ≡ begins_strict (get_or text k 0) (get_or text (k + 1) 0 ∷ behind)) →
    (found || is_strict (drop k text)) ≡ is_strict text → ((found || b) || is_strict (drop (k + 1) text)) ≡ is_strict text
step_at text k found b h is before =
    let next : begins_strict (get_or text k 0) (drop (k + 1) text) ≡ b = ap (begins_strict (get_or text k 0)) (drop_more text (k + 1) 0 h) ∙ sym (is (drop (k + 1 + 1) text)) in
    let here : is_strict (drop k text) ≡ (b || is_strict (drop (k + 1) text)) = ap is_strict (drop_more text k 0 (omega (arith, h))) ∙ ap (λ (x : Bool). x || is_strict (drop (k + 1) text)) next in
    or_assoc found b (is_strict (drop (k + 1) text)) ∙ ap (λ (x : Bool). found || x) (sym here) ∙ before

-- one byte further
step : (text : List ℕ) (k i j : ℕ) (found b : Bool) → i ≡ k + 1 → j ≡ k + 1 → i < length text → ((behind : List ℕ) → b ≡ begins_strict (get_or text k 0) (get_or text i 0 ∷ behind)) →
    (found || is_strict (drop k text)) ≡ is_strict text → ((found || b) || is_strict (drop j text)) ≡ is_strict text
step text k i j found b e f h is before =
    subst (λ x. ((found || b) || is_strict (drop x text)) ≡ is_strict text) (sym f)
    (step_at text k found b (omega (arith, e, h)) (subst (λ x. (behind : List ℕ) → b ≡ begins_strict (get_or text k 0) (get_or text x 0 ∷ behind)) e is) before)

-- behind the last byte
last : (text : List ℕ) (k n : ℕ) (found b : Bool) → n ≡ length text → n ≡ k + 1 → ((behind : List ℕ) → b ≡ begins_strict (get_or text k 0) (0 ∷ behind)) → (found || is_strict (drop k text)) ≡ is_strict text → (found || b) ≡ is_strict text
last text k n found b whole e is before =
    let rest : drop (k + 1) text ≡ [] = drop_all (k + 1) text (omega (arith, whole, e)) in
    let here : is_strict (drop k text) ≡ b = ap is_strict (drop_more text k 0 (omega (arith, whole, e)) ∙ ap (λ (x : List ℕ). get_or text k 0 ∷ x) rest) ∙ or-false (begins_strict (get_or text k 0) []) ∙ sym (is []) in
    ap (λ (x : Bool). found || x) (sym here) ∙ before

pub loop-index-preserved : goal.loop-index-preserved
loop-index-preserved c = step c.args.text.now (c.loop-index.index - 1) c.loop-index.index (c.loop-index.index + 1 - 1) c.loop-index.found c.begins_strict-found.result (omega arith) (omega arith) (omega arith) c.begins_strict-found.ensures c.loop-index.invariant

pub returns-in-len1-up : goal.returns-in-len1-up
returns-in-len1-up c =
    let n : ℕ = length c.args.text.now in
    let whole : c.loop-index.index ≡ n = omega arith in
    last c.args.text.now (n - 1) n c.loop-index.found c.begins_strict.result refl (omega arith) c.begins_strict.ensures (subst (λ x. (c.loop-index.found || is_strict (drop (x - 1) c.args.text.now)) ≡ is_strict c.args.text.now) whole c.loop-index.invariant)
