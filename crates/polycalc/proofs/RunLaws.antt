-- Runs that go on by one step.
use Rattle.std.proofs.Common.{◌≡◌, ℕ, List, [], ◌∷◌, ◌++◌, refl, ap, subst, ◌∙◌, Bool, true, false}
use Rattle.std.specs.Prelude.{◌&&◌}
use Rattle.std.specs.List.{flat_map, list_all}
use Rattle.std.proofs.lemmas.Grind.{flat_map-append}
use Rattle.std.proofs.lemmas.List.Folds.{list_all-append}
use Rattle.std.proofs.lemmas.List.{append-nil}
use Rattle.calc_state.specs.State.{State}
use Rattle.line_values.specs.Replies.{Reply, is_answer}
use Rattle.calc_state.specs.Line.{Step}
use Rattle.written_replies.specs.Replies.{Written, written, with_reply, reply_bytes}
use Rattle.calc_state.specs.Runs.{Run}

-- a run goes on by one step
pub Run-then : (old : State) (lines : List (List ℕ)) (replies : List Reply) (mid : State) (line : List ℕ) (reply : Reply) (new : State) → Run old lines replies mid → Step mid line reply new → Run old (lines ++ line ∷ []) (replies ++ reply ∷ []) new
Run-then old [] [] mid line reply new r s = (new, subst (λ (t : State). Step t line reply new) r s, refl)
Run-then old (l ∷ lines) (r ∷ replies) mid line reply new (between, step, run) s = (between, step, Run-then between lines replies mid line reply new run s)
Run-then old [] (r ∷ replies) mid line reply new h s = absurd h
Run-then old (l ∷ lines) [] mid line reply new h s = absurd h

and_true : (b : Bool) → (b && true) ≡ b
and_true true = refl
and_true false = refl

abbrev written_as : List ℕ → Bool → Written
written_as a c = record { bytes = a; clean = c }

both_parts : (a b : List ℕ) (c d : Bool) → a ≡ b → c ≡ d → written_as a c ≡ written_as b d
both_parts a b c d h k = ap (λ (x : List ℕ). written_as x c) h ∙ ap (λ (y : Bool). written_as b y) k

-- one reply more
pub written-more : (replies : List Reply) (reply : Reply) → written (replies ++ reply ∷ []) ≡ with_reply (written replies) reply
written-more replies reply =
    both_parts (flat_map reply_bytes (replies ++ reply ∷ [])) (flat_map reply_bytes replies ++ reply_bytes reply) (list_all is_answer (replies ++ reply ∷ [])) (list_all is_answer replies && is_answer reply)
    (flat_map-append reply_bytes replies (reply ∷ []) ∙ ap (λ last. flat_map reply_bytes replies ++ last) (append-nil (reply_bytes reply)))
    (list_all-append is_answer replies (reply ∷ []) ∙ ap (λ last. list_all is_answer replies && last) (and_true (is_answer reply)))
