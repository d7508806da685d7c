-- A pass over a text, one byte further.
use Rattle.std.proofs.Common.{◌≡◌, ℕ, ◌+◌, ◌<◌, ◌≤◌, List, [], ◌∷◌, ◌++◌, length, take, drop, get_or, sym, ◌∙◌, ap, subst}
use Rattle.std.specs.Prelude.{option_to_list}
use Rattle.std.proofs.lemmas.List.{take_more, take_all, append-nil, take-append-drop}
use Rattle.std.proofs.lemmas.List.Elements.{All-take, All-drop}
use Rattle.std.proofs.Math.Seq.{take-append_seam, drop-append_seam}
use Rattle.term_text.specs.declared.terms.Term.{Term}
use Rattle.term_text.specs.declared.scan.State.{State}
use Rattle.term_text.specs.Reading.{start, after, ended, emitted, final, term_of, terms_read}
use Rattle.term_text.specs.Sums.{Sum, HasSummed, Gains}
use Rattle.term_text.specs.Terms.{IsWithin, AreWithin}
use Rattle.term_text.proofs.Passes.{emitted-append, final-append}

emitted-push : (s : State) (u : List ℕ) (b : ℕ) → emitted s (u ++ b ∷ []) ≡ emitted s u ++ ended (final s u) b
emitted-push s u b = emitted-append s u (b ∷ []) ∙ ap (λ x. emitted s u ++ x) (append-nil (ended (final s u) b))

-- the terms that end within the first bytes, one byte further
emitted-more : (text : List ℕ) (i : ℕ) (s : State) → i < length text → s ≡ final start (take i text) → emitted start (take (i + 1) text) ≡ emitted start (take i text) ++ ended s (get_or text i 0)
emitted-more text i s h e = ap (emitted start) (take_more text i 0 h) ∙ emitted-push start (take i text) (get_or text i 0) ∙ ap (λ x. emitted start (take i text) ++ ended x (get_or text i 0)) (sym e)

pub state_more : (text : List ℕ) (i : ℕ) (s t : State) → i < length text → s ≡ final start (take i text) → t ≡ after s (get_or text i 0) → t ≡ final start (take (i + 1) text)
state_more text i s t h e is = is ∙ ap (λ x. after x (get_or text i 0)) e ∙ sym (ap (final start) (take_more text i 0 h) ∙ final-append start (take i text) (get_or text i 0 ∷ []))

pub summed_more : (text : List ℕ) (i : ℕ) (s : State) (old new : Sum) → i < length text → s ≡ final start (take i text) → HasSummed (emitted start (take i text)) old → Gains (ended s (get_or text i 0)) old new → HasSummed (emitted start (take (i + 1) text)) new
summed_more text i s old new h e so_far gains = subst (λ ts. HasSummed ts new) (sym (emitted-more text i s h e)) (gains.more (emitted start (take i text)) so_far)

all_front : (dim : ℕ) (ts us : List Term) → AreWithin dim (ts ++ us) → AreWithin dim ts
all_front dim ts us all = rw (take-append_seam ts us) at (All-take (IsWithin dim) (length ts) (ts ++ us) all)

all_back : (dim : ℕ) (ts us : List Term) → AreWithin dim (ts ++ us) → AreWithin dim us
all_back dim ts us all = rw (drop-append_seam ts us) at (All-drop (IsWithin dim) (length ts) (ts ++ us) all)

-- the terms that the next byte ends are some of the text's
pub ended_within : (dim : ℕ) (text : List ℕ) (i : ℕ) (s : State) → i < length text → s ≡ final start (take i text) → AreWithin dim (terms_read start text) → AreWithin dim (ended s (get_or text i 0))
ended_within dim text i s h e all =
    let within : AreWithin dim (emitted start text) = all_front dim (emitted start text) (option_to_list (term_of (final start text))) all in
    let cut : emitted start text ≡ emitted start (take (i + 1) text) ++ emitted (final start (take (i + 1) text)) (drop (i + 1) text) = ap (emitted start) (sym (take-append-drop (i + 1) text)) ∙ emitted-append start (take (i + 1) text) (drop (i + 1) text) in
    let front : AreWithin dim (emitted start (take (i + 1) text)) = all_front dim (emitted start (take (i + 1) text)) (emitted (final start (take (i + 1) text)) (drop (i + 1) text)) (subst (AreWithin dim) cut within) in
    all_back dim (emitted start (take i text)) (ended s (get_or text i 0)) (subst (AreWithin dim) (emitted-more text i s h e) front)

-- behind all bytes
pub state_all : (text : List ℕ) (i : ℕ) (s : State) → length text ≤ i → s ≡ final start (take i text) → s ≡ final start text
state_all text i s h e = e ∙ ap (final start) (take_all i text h)

pub summed_all : (text : List ℕ) (i : ℕ) (s : State) (old new : Sum) → length text ≤ i → s ≡ final start (take i text) → HasSummed (emitted start (take i text)) old → Gains (option_to_list (term_of s)) old new → HasSummed (terms_read start text) new
summed_all text i s old new h e so_far gains =
    let whole : emitted start (take i text) ++ option_to_list (term_of s) ≡ terms_read start text = ap (λ w. emitted start w ++ option_to_list (term_of s)) (take_all i text h) ∙ ap (λ x. emitted start text ++ option_to_list (term_of x)) (state_all text i s h e) in
    subst (λ ts. HasSummed ts new) whole (gains.more (emitted start (take i text)) so_far)

-- the last term is one of the text's
pub last_within : (dim : ℕ) (text : List ℕ) (i : ℕ) (s : State) → length text ≤ i → s ≡ final start (take i text) → AreWithin dim (terms_read start text) → AreWithin dim (option_to_list (term_of s))
last_within dim text i s h e all = subst (λ x. AreWithin dim (option_to_list (term_of x))) (sym (state_all text i s h e)) (all_back dim (emitted start text) (option_to_list (term_of (final start text))) all)
