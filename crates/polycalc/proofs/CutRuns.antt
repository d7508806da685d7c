-- Runs over lines that were cut behind the limit of a line's length.
use Rattle.std.proofs.Common.{◌≡◌, ℕ, List, [], ◌∷◌, ◌++◌, map, take, refl, ap, subst, sym, ◌∙◌}
use Rattle.calc_state.specs.State.{State, closed}
use Rattle.line_values.specs.Replies.{Reply}
use Rattle.calc_state.proofs.CutLines.{step_of_cut}
use Rattle.calc_state.specs.Runs.{Run}

-- a run over lines that were cut is a run over the lines
pub run_of_cut : (old : State) (whole : List (List ℕ)) (replies : List Reply) (new : State) → Run old (map (take 65536) whole) replies new → Run old whole replies new
run_of_cut old [] [] new r = r
run_of_cut old (line ∷ others) (reply ∷ replies) new (mid, step, run) = (mid, step_of_cut old line reply mid step, run_of_cut mid others replies new run)
run_of_cut old [] (reply ∷ replies) new r = absurd r
run_of_cut old (line ∷ others) [] new r = absurd r

-- lines that come, cut, to two parts
pub record Parts (whole front back : List (List ℕ)) : Type 0 where
  pub first : List (List ℕ)
  pub second : List (List ℕ)
  pub both : whole ≡ first ++ second
  pub first_cut : map (take 65536) first ≡ front
  pub second_cut : map (take 65536) second ≡ back

more_parts : (line x : List ℕ) (whole front back : List (List ℕ)) → take 65536 line ≡ x → Parts whole front back → Parts (line ∷ whole) (x ∷ front) back
more_parts line x whole front back e p = record {
  first = line ∷ p.first;
  second = p.second;
  both = ap (λ (t : List (List ℕ)). line ∷ t) p.both;
  first_cut = ap (λ (t : List (List ℕ)). take 65536 line ∷ t) p.first_cut ∙ ap (λ (t : List ℕ). t ∷ front) e;
  second_cut = p.second_cut;
}

pub parts_of_cut : (whole front back : List (List ℕ)) → map (take 65536) whole ≡ front ++ back → Parts whole front back
parts_of_cut whole [] back e = record { first = []; second = whole; both = refl; first_cut = refl; second_cut = e }
parts_of_cut [] (x ∷ front) back e = cc
parts_of_cut (line ∷ whole) (x ∷ front) back e =
    let others : map (take 65536) whole ≡ front ++ back = cc in
    let one : take 65536 line ≡ x = cc in
    more_parts line x whole front back one (parts_of_cut whole front back others)

-- one line that was cut is one line
pub record IsOne (whole : List (List ℕ)) : Type 0 where
  pub line : List ℕ
  pub is : whole ≡ line ∷ []

pub one_of_cut : (whole : List (List ℕ)) (x : List ℕ) → map (take 65536) whole ≡ x ∷ [] → IsOne whole
one_of_cut [] x e = cc
one_of_cut (line ∷ []) x e = record { line = line; is = refl }
one_of_cut (line ∷ (other ∷ others)) x e = cc

-- the run over the first of two parts
pub run_of_part : (whole front back : List (List ℕ)) (replies : List Reply) (new : State) (p : Parts whole front back) → Run (closed []) front replies new → Run (closed []) p.first replies new
run_of_part whole front back replies new p r = run_of_cut (closed []) p.first replies new (subst (λ (t : List (List ℕ)). Run (closed []) t replies new) (sym p.first_cut) r)
