-- The tests of a file's form.
use Rattle.std.proofs.Common.{◌≡◌, ◌≢◌, ℕ, ◌+◌, ◌<◌, List, [], ◌∷◌, ◌++◌, length, refl, sym, ◌∙◌, ap, subst, arith, inl, inr, Option, get_or}
use Rattle.reply_text.specs.declared.faults.Fault.{Fault}
use Rattle.reply_text.specs.declared.faults.Fault.TheVariants as fault
use Rattle.cdd_reading.specs.Tokens.{Token, texts, numbered}
use Rattle.cdd_reading.specs.Headings.{Heading, IsHead, HasNoHead, IsHeadRead}
use Rattle.cdd_reading.specs.Bodies.{Sizes, AreSizes, IsBody, CanBody, HasNoSizes, HasNoBody, HasType, IsBodyFault, IsBodyRead}
use Rattle.cdd_reading.specs.Files.{IsFile}
use Rattle.cdd_reading.specs.Refusals.{AreShort, IsFirstOf, truncated, line_too_long, no_sizes, number_type, no_body, form_tests}
use Rattle.cdd_reading.specs.Tables.{IsOpened, IsFormRead, fault_of}
use Rattle.cdd_reading.specs.declared.body.BodyErr.{BodyErr}
use Rattle.cdd_reading.specs.declared.body.BodyErr.TheVariants.{Wrong, OtherType}
use Rattle.cdd_reading.specs.declared.format.Format.{Format}
use Rattle.cdd_reading.specs.declared.format.NumberType.{NumberType}
use Rattle.cdd_reading.specs.declared.format.NumberType.TheVariants.{Real}
use Rattle.cdd_reading.proofs.OneFiles.{ends_once, of_file, of_tokens}
use Rattle.cdd_reading.proofs.OneHeads.{head_excludes}
use Rattle.cdd_reading.proofs.OneBodies.{one_type, body_excludes, front_can}
use Rattle.cdd_reading.proofs.BodyLaws.{can_go_on}

-- the tests that a file passes
pub not_truncated : (bytes : List ℕ) (file rest : List (List ℕ)) → IsFile bytes file rest → (g : Fault) → ¬ (truncated bytes g)
not_truncated bytes file rest p g (e, h) = ends_once bytes file rest p h

pub not_long : (bytes : List ℕ) (file rest : List (List ℕ)) → IsFile bytes file rest → AreShort file → (g : Fault) → ¬ (line_too_long bytes g)
not_long bytes file rest p s g (e, h) = of_file (λ l. ¬ (AreShort l)) bytes file rest p h s

-- two sizes have one type
pub type_once : (ts : List Token) (t u : NumberType) → HasType ts t → HasType ts u → t ≡ u
type_once ts t u a b =
    let e : (a.first ∷ a.second ∷ a.third ∷ a.rest) ≡ (b.first ∷ b.second ∷ b.third ∷ b.rest) = sym a.cut ∙ b.cut in
    let third : a.third ≡ b.third = cc in
    sym a.number_type ∙ one_type a.s.number_type b.s.number_type (sym a.sizes.number_type ∙ ap (λ (x : Token). x.1) third ∙ b.sizes.number_type) ∙ b.number_type

-- a front of at most three tokens, and what is left of the three
front_of_three : (x y z : Token) (rest before : List Token) (t : Token) (behind : List Token) → (x ∷ y ∷ z ∷ rest) ≡ before ++ t ∷ behind → length before < 3 → (r : List Token) × ((x ∷ y ∷ z ∷ []) ≡ (before ++ t ∷ []) ++ r)
front_of_three x y z rest [] t behind e h = (y ∷ z ∷ [], cc)
front_of_three x y z rest (a ∷ []) t behind e h = (z ∷ [], cc)
front_of_three x y z rest (a ∷ b ∷ []) t behind e h = ([], cc)
front_of_three x y z rest (a ∷ b ∷ c ∷ before) t behind e h = absurd (omega arith)

three_can : (ts : List Token) (t : NumberType) (h : HasType ts t) → CanBody (texts (h.first ∷ h.second ∷ h.third ∷ []))
three_can ts t h = can_go_on h.first.1 h.second.1 h.third.1 h.s [] h.sizes refl (omega arith)

-- sizes that are right aren't wrong
pub type_excludes : (ts : List Token) (t : NumberType) (end at : ℕ) → HasType ts t → HasNoSizes ts end at → ⊥
type_excludes ts t end at h (inl (before, few, w)) =
    let r = front_of_three h.first h.second h.third h.rest before w.token w.first.behind (sym h.cut ∙ w.first.cut) few in
    w.first.wrong (front_can (before ++ w.token ∷ []) r.0 (subst (λ (l : List Token). CanBody (texts l)) r.1 (three_can ts t h)))
type_excludes ts t end at h (inr (can, few, e)) =
    let l : length ts ≡ length (h.first ∷ h.second ∷ h.third ∷ h.rest) = ap (λ (x : List Token). length x) h.cut in
    absurd (omega (arith, l, few))

pub has_sizes : (bytes : List ℕ) (file rest : List (List ℕ)) (h : Heading) (before behind : List (List ℕ)) (t : NumberType) → IsFile bytes file rest → IsHead file h before behind → HasType (numbered (length before + 2) behind) t → (g : Fault) → ¬ (no_sizes bytes g)
has_sizes bytes file rest h before behind t p q s g (n, e, inl w) = head_excludes file h before behind n q (of_file (λ l. HasNoHead l n) bytes file rest p w)
has_sizes bytes file rest h before behind t p q s g (n, e, inr w) = type_excludes (numbered (length before + 2) behind) t (length file + 1) n s (of_tokens (λ ts end. HasNoSizes ts end n) bytes file rest h before behind p q w)

pub isnt_real : (bytes : List ℕ) (file rest : List (List ℕ)) (h : Heading) (before behind : List (List ℕ)) (t : NumberType) → IsFile bytes file rest → IsHead file h before behind → HasType (numbered (length before + 2) behind) t → t ≢ Real → (g : Fault) → ¬ (number_type bytes g)
isnt_real bytes file rest h before behind t p q s n g (e, w) = n (type_once (numbered (length before + 2) behind) t Real s (of_tokens (λ ts end. HasType ts Real) bytes file rest h before behind p q w))

pub has_body : (bytes : List ℕ) (file rest : List (List ℕ)) (h : Heading) (before behind : List (List ℕ)) (s : Sizes) (numbers : List (List ℕ)) → IsFile bytes file rest → IsHead file h before behind → IsBody (texts (numbered (length before + 2) behind)) s numbers → (g : Fault) → ¬ (no_body bytes g)
has_body bytes file rest h before behind s numbers p q b g (n, e, w) = body_excludes (numbered (length before + 2) behind) s numbers (length file + 1) n b (of_tokens (λ ts end. HasNoBody ts end n) bytes file rest h before behind p q w)

-- the answers
pub fault_open : (bytes : List ℕ) (file rest : List (List ℕ)) → IsFile bytes file rest → ¬ (AreShort file) → IsFirstOf (form_tests bytes) fault.LineTooLong
fault_open bytes file rest p long = inr (not_truncated bytes file rest p, inl (refl, (file, rest, p, long)))

pub fault_head : (bytes : List ℕ) (file rest : List (List ℕ)) (end n : ℕ) → IsOpened bytes file rest end → HasNoHead file n → IsFirstOf (form_tests bytes) (fault.CddSyntax n)
fault_head bytes file rest end n o w = inr (not_truncated bytes file rest o.is_file, inr (not_long bytes file rest o.is_file o.short, inl (n, refl, inl (file, rest, o.is_file, w))))

fault_in : (bytes : List ℕ) (file rest : List (List ℕ)) (h : Heading) (before behind : List (List ℕ)) (e : BodyErr) → IsFile bytes file rest → AreShort file → IsHead file h before behind → IsBodyFault (numbered (length before + 2) behind) (length file + 1) e → IsFirstOf (form_tests bytes) (fault_of e)
fault_in bytes file rest h before behind (Wrong at) p s q (inl w) =
    inr (not_truncated bytes file rest p, inr (not_long bytes file rest p s, inl (at, refl, inr (file, rest, p, (h, before, behind, q, w)))))
fault_in bytes file rest h before behind (Wrong at) p s q (inr (u, t, n, w)) =
    inr (not_truncated bytes file rest p, inr (not_long bytes file rest p s, inr (has_sizes bytes file rest h before behind u p q t, inr (isnt_real bytes file rest h before behind u p q t n, inl (at, refl, (file, rest, p, (h, before, behind, q, w)))))))
fault_in bytes file rest h before behind OtherType p s q t =
    inr (not_truncated bytes file rest p, inr (not_long bytes file rest p s, inr (has_sizes bytes file rest h before behind Real p q t, inl (refl, (file, rest, p, (h, before, behind, q, t))))))

numbers_moved : (n k : ℕ) (behind : List (List ℕ)) → n ≡ k + 1 → numbered (n + 1) behind ≡ numbered (k + 2) behind
numbers_moved n k behind e = ap (λ (m : ℕ). numbered m behind) (omega arith)

pub fault_body : (bytes : List ℕ) (file rest behind : List (List ℕ)) (end n : ℕ) (named : Option Format) (linear : List ℕ) (e : BodyErr) → IsOpened bytes file rest end → IsHeadRead file named linear behind n → IsBodyFault (numbered (n + 1) behind) end e → IsFirstOf (form_tests bytes) (fault_of e)
fault_body bytes file rest behind end n named linear e o r w =
    fault_in bytes file rest r.h r.before behind e o.is_file o.short r.head
    (subst (λ (k : ℕ). IsBodyFault (numbered (length r.before + 2) behind) k e) o.number
    (subst (λ (l : List Token). IsBodyFault l end e) (numbers_moved n (length r.before) behind r.number) w))

pub sizes_of : (ts : List Token) (s : Sizes) (numbers : List (List ℕ)) → IsBody (texts ts) s numbers → HasType ts s.number_type
sizes_of [] s numbers b = absurd (let l : length (texts []) ≡ length (b.m ∷ b.d ∷ b.t ∷ numbers) = ap (λ (x : List (List ℕ)). length x) b.tokens in omega (arith, l))
sizes_of (x ∷ []) s numbers b = absurd (let l : length (texts (x ∷ [])) ≡ length (b.m ∷ b.d ∷ b.t ∷ numbers) = ap (λ (x : List (List ℕ)). length x) b.tokens in omega (arith, l))
sizes_of (x ∷ y ∷ []) s numbers b = absurd (let l : length (texts (x ∷ y ∷ [])) ≡ length (b.m ∷ b.d ∷ b.t ∷ numbers) = ap (λ (x : List (List ℕ)). length x) b.tokens in omega (arith, l))
sizes_of (x ∷ y ∷ z ∷ ts) s numbers b =
    let f : x.1 ≡ b.m = ap (λ (l : List (List ℕ)). get_or l 0 []) b.tokens in
    let g : y.1 ≡ b.d = ap (λ (l : List (List ℕ)). get_or l 1 []) b.tokens in
    let h : z.1 ≡ b.t = ap (λ (l : List (List ℕ)). get_or l 2 []) b.tokens in
    record {
      s = s;
      first = x;
      second = y;
      third = z;
      rest = ts;
      cut = refl;
      sizes = subst (λ (m : List ℕ). AreSizes m y.1 z.1 s) (sym f) (subst (λ (d : List ℕ). AreSizes b.m d z.1 s) (sym g) (subst (λ (t : List ℕ). AreSizes b.m b.d t s) (sym h) b.sizes));
      number_type = refl;
    }

form_in : (bytes : List ℕ) (file rest behind : List (List ℕ)) (n d : ℕ) (named : Option Format) (linear : List ℕ) (numbers : List Token) → IsFile bytes file rest → AreShort file → (r : IsHeadRead file named linear behind n) → IsBodyRead (numbered (length r.before + 2) behind) d numbers → IsFormRead bytes named linear d numbers
form_in bytes file rest behind n d named linear numbers p s r b =
    let t : HasType (numbered (length r.before + 2) behind) b.s.number_type = sizes_of (numbered (length r.before + 2) behind) b.s (texts numbers) b.body in
    record {
      contents = record { heading = r.h; sizes = b.s; numbers = texts numbers };
      says = (file, rest, p, record { before = r.before; behind = behind; head = r.head; body = b.body });
      kind = r.kind;
      indices = r.indices;
      read = refl;
      columns = b.columns;
      passed = (
        not_truncated bytes file rest p,
        (
          not_long bytes file rest p s,
          (
            has_sizes bytes file rest r.h r.before behind b.s.number_type p r.head t,
            (isnt_real bytes file rest r.h r.before behind b.s.number_type p r.head t b.number_type, (has_body bytes file rest r.h r.before behind b.s (texts numbers) p r.head b.body, tt)),
          ),
        ),
      );
    }

pub form_read : (bytes : List ℕ) (file rest behind : List (List ℕ)) (end n d : ℕ) (named : Option Format) (linear : List ℕ) (numbers : List Token) → IsOpened bytes file rest end → IsHeadRead file named linear behind n → IsBodyRead (numbered (n + 1) behind) d numbers → IsFormRead bytes named linear d numbers
form_read bytes file rest behind end n d named linear numbers o r b = form_in bytes file rest behind n d named linear numbers o.is_file o.short r (subst (λ (l : List Token). IsBodyRead l d numbers) (numbers_moved n (length r.before) behind r.number) b)
