-- A file has one end, and one contents.
use Rattle.std.proofs.Common.{◌≡◌, ℕ, ◌+◌, List, [], ◌∷◌, append_assoc, length, sym, ◌∙◌, ap, subst, inl, inr}
use Rattle.std.specs.Prelude.{All}
use Rattle.std.specs.Str.Lines.{lines}
use Rattle.cdd_reading.specs.Tokens.{Token, texts, numbered}
use Rattle.cdd_reading.specs.Headings.{Heading, IsHead}
use Rattle.cdd_reading.specs.Bodies.{Sizes, IsBody}
use Rattle.cdd_reading.specs.Files.{IsEnd, IsFile, Contents, AreContents, IsContents}
use Rattle.cdd_reading.specs.Refusals.{OfFile, OfTokens, OfContents}
use Rattle.cdd_reading.proofs.ListLaws.{All-inside}
use Rattle.cdd_reading.proofs.OneHeads.{Cuts, two_cuts, head_once}
use Rattle.cdd_reading.proofs.OneBodies.{body_once}

abbrev unended : List (List ℕ) → Type 0
unended file = All (λ line. ¬ (IsEnd line)) file

once_cases : (a b c d : List (List ℕ)) (x y : List ℕ) → unended a → unended c → IsEnd x → IsEnd y → Cuts a x b c y d → (a ≡ c) × (b ≡ d)
once_cases a b c d x y h k f g (inl (e, i, j)) = (e, j)
once_cases a b c d x y h k f g (inr (inl (r, e))) = absurd (All-inside (λ line. ¬ (IsEnd line)) a x r (subst (λ (l : List (List ℕ)). unended l) (e ∙ append_assoc a (x ∷ []) r) k) f)
once_cases a b c d x y h k f g (inr (inr (r, e))) = absurd (All-inside (λ line. ¬ (IsEnd line)) c y r (subst (λ (l : List (List ℕ)). unended l) (e ∙ append_assoc c (y ∷ []) r) h) g)

pub file_once : (bytes : List ℕ) (a b c d : List (List ℕ)) → IsFile bytes a b → IsFile bytes c d → (a ≡ c) × (b ≡ d)
file_once bytes a b c d p q = once_cases a b c d p.last q.last p.unended q.unended p.ends q.ends (two_cuts a b c d p.last q.last (sym p.cut ∙ q.cut))

pub ends_once : (bytes : List ℕ) (file rest : List (List ℕ)) → IsFile bytes file rest → All (λ line. ¬ (IsEnd line)) (lines bytes) → ⊥
ends_once bytes file rest p h = All-inside (λ line. ¬ (IsEnd line)) file p.last rest (subst (λ (l : List (List ℕ)). unended l) p.cut h) p.ends

pub of_file : (P : List (List ℕ) → Type 0) (bytes : List ℕ) (file rest : List (List ℕ)) → IsFile bytes file rest → OfFile bytes P → P file
of_file P bytes file rest p (a, b, q, h) = subst P (file_once bytes a b file rest q p).0 h

pub of_tokens : (P : List Token → ℕ → Type 0) (bytes : List ℕ) (file rest : List (List ℕ)) (h : Heading) (before behind : List (List ℕ)) → IsFile bytes file rest → IsHead file h before behind → OfTokens bytes P → P (numbered (length before + 2) behind) (length file + 1)
of_tokens P bytes file rest h before behind p q (a, b, r, (k, c, d, s, holds)) =
    let e = (file_once bytes a b file rest r p).0 in
    let moved : IsHead file k c d = subst (λ (l : List (List ℕ)). IsHead l k c d) e s in
    let once = head_once file k h c d before behind moved q in
    subst (λ (l : List (List ℕ)). P (numbered (length before + 2) behind) (length l + 1)) e
    (subst (λ (l : List (List ℕ)). P (numbered (length before + 2) l) (length a + 1)) once.2
    (subst (λ (l : List (List ℕ)). P (numbered (length l + 2) d) (length a + 1)) once.1 holds))

same_contents : (c d : Contents) → c.heading ≡ d.heading → c.sizes ≡ d.sizes → c.numbers ≡ d.numbers → c ≡ d
same_contents c d e f g =
    ap (λ (x : Heading). record { heading = x; sizes = c.sizes; numbers = c.numbers }) e
    ∙ ap (λ (x : Sizes). record { heading = d.heading; sizes = x; numbers = c.numbers }) f
    ∙ ap (λ (x : List (List ℕ)). record { heading = d.heading; sizes = d.sizes; numbers = x }) g

says_once : (file : List (List ℕ)) (c d : Contents) → AreContents file c → AreContents file d → c ≡ d
says_once file c d a b =
    let once = head_once file c.heading d.heading a.before a.behind b.before b.behind a.head b.head in
    let tokens : texts (numbered (length a.before + 2) a.behind) ≡ texts (numbered (length b.before + 2) b.behind) = ap (λ (l : List (List ℕ)). texts (numbered (length l + 2) a.behind)) once.1 ∙ ap (λ (l : List (List ℕ)). texts (numbered (length b.before + 2) l)) once.2 in
    let body = body_once (texts (numbered (length b.before + 2) b.behind)) c.sizes d.sizes c.numbers d.numbers (subst (λ (l : List (List ℕ)). IsBody l c.sizes c.numbers) tokens a.body) b.body in
    same_contents c d once.0 body.0 body.1

pub contents_once : (bytes : List ℕ) (c d : Contents) → IsContents bytes c → IsContents bytes d → c ≡ d
contents_once bytes c d (file, rest, p, a) (other, last, q, b) = says_once file c d a (subst (λ (l : List (List ℕ)). AreContents l d) (file_once bytes other last file rest q p).0 b)

pub of_contents : (P : Contents → Type 0) (bytes : List ℕ) (c : Contents) → IsContents bytes c → OfContents bytes P → P c
of_contents P bytes c p (d, q, h) = subst P (contents_once bytes d c q p) h
