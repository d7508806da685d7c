-- A file has one heading, or one line that is wrong.
use Rattle.std.proofs.Common.{◌≡◌, ℕ, ◌+◌, List, [], ◌∷◌, ◌++◌, length, refl, sym, ◌∙◌, ap, subst, true, false, map, inl, inr, ◌⊎◌, append_assoc}
use Rattle.std.specs.Prelude.{Option, Some, None, option_to_list, All}
use Rattle.std.specs.List.{flat_map}
use Rattle.std.proofs.lemmas.List.Concat.{flat_map-append}
use Rattle.std.proofs.lemmas.List.Elements.{All-head, All-tail, All-nil, All-cons}
use Rattle.cdd_reading.specs.Tokens.{tokens}
use Rattle.cdd_reading.specs.Headings.{is_begin, kind_in, linearity_in, Says, CanHead, Heading, IsHead, HasNoHead}
use Rattle.cdd_reading.specs.declared.format.Format.{Format}

-- two cuts of a list: at one place, or the one before the other
abbrev pub Cuts : {A : Type 0} → List A → A → List A → List A → A → List A → Type 0
Cuts {A} a x b c y d = ((a ≡ c) × (x ≡ y) × (b ≡ d)) ⊎ ((r : List A) × (c ≡ (a ++ x ∷ []) ++ r)) ⊎ ((r : List A) × (a ≡ (c ++ y ∷ []) ++ r))

cons_cuts : {A : Type 0} (z w : A) (a b c d : List A) (x y : A) → z ≡ w → Cuts a x b c y d → Cuts (z ∷ a) x b (w ∷ c) y d
cons_cuts z w a b c d x y e (inl (f, g, h)) = inl (ap (λ t. z ∷ t) f ∙ ap (λ v. v ∷ c) e, g, h)
cons_cuts z w a b c d x y e (inr (inl (r, f))) = inr (inl (r, ap (λ v. v ∷ c) (sym e) ∙ ap (λ t. z ∷ t) f))
cons_cuts z w a b c d x y e (inr (inr (r, f))) = inr (inr (r, ap (λ v. v ∷ a) e ∙ ap (λ t. w ∷ t) f))

head_of : {A : Type 0} (d : A) → List A → A
head_of d [] = d
head_of d (x ∷ xs) = x

tail_of : {A : Type 0} → List A → List A
tail_of [] = []
tail_of (x ∷ xs) = xs

pub two_cuts : {A : Type 0} (a b c d : List A) (x y : A) → a ++ x ∷ b ≡ c ++ y ∷ d → Cuts a x b c y d
unfolding head_of tail_of
two_cuts [] b [] d x y e = inl (refl, ap (λ l. head_of x l) e, ap (λ l. tail_of l) e)
two_cuts [] b (w ∷ c) d x y e = inr (inl (c, ap (λ v. v ∷ c) (sym (ap (λ l. head_of x l) e))))
two_cuts (z ∷ a) b [] d x y e = inr (inr (a, ap (λ v. v ∷ a) (ap (λ l. head_of z l) e)))
two_cuts (z ∷ a) b (w ∷ c) d x y e = cons_cuts z w a b c d x y (ap (λ l. head_of z l) e) (two_cuts a b c d x y (ap (λ l. tail_of l) e))

-- a front of at most one is at most one
front_one : {A : Type 0} (o : Option A) (xs ys : List A) → xs ++ ys ≡ option_to_list o → (p : Option A) × (xs ≡ option_to_list p)
front_one o [] ys e = (None, refl)
front_one o (x ∷ []) ys e = (Some x, refl)
front_one None (x ∷ y ∷ xs) ys e = cc
front_one (Some z) (x ∷ y ∷ xs) ys e = cc

one_mapped : {A : Type 0} (x : Option A) (z : A) (ys : List (Option A)) → x ∷ ys ≡ Some z ∷ [] → x ∷ [] ≡ Some z ∷ []
one_mapped x z ys e = cc

front_mapped : {A : Type 0} (o : Option A) (xs ys : List (Option A)) → xs ++ ys ≡ map Some (option_to_list o) → (p : Option A) × (xs ≡ map Some (option_to_list p))
front_mapped o [] ys e = (None, refl)
front_mapped None (x ∷ xs) ys e = cc
front_mapped (Some z) (x ∷ []) ys e = (Some z, one_mapped x z ys e)
front_mapped (Some z) (x ∷ y ∷ xs) ys e = cc

abbrev starts : List ℕ → Type 0
starts line = is_begin (tokens line) ≡ false

All-front : (xs ys : List (List ℕ)) → All starts (xs ++ ys) → All starts xs
All-front [] ys h = All-nil starts
All-front (x ∷ xs) ys h = All-cons starts x xs (All-head starts x (xs ++ ys) h) (All-front xs ys (All-tail starts x (xs ++ ys) h))

-- lines before lines that can stand before `begin` can stand there
front_can : (a r : List (List ℕ)) → CanHead (a ++ r) → CanHead a
front_can a r (h, s) =
    let k = front_one h.kind (flat_map (λ line. kind_in (tokens line)) a) (flat_map (λ line. kind_in (tokens line)) r) (sym (flat_map-append (λ line. kind_in (tokens line)) a r) ∙ s.kind) in
    let l = front_mapped h.linearity (flat_map (λ line. linearity_in (tokens line)) a) (flat_map (λ line. linearity_in (tokens line)) r) (sym (flat_map-append (λ line. linearity_in (tokens line)) a r) ∙ s.linearity) in
    (record { kind = k.0; linearity = l.0 }, record { without_begin = All-front a r s.without_begin; kind = k.1; linearity = l.1 })

last_starts : (a : List (List ℕ)) (x : List ℕ) → All starts (a ++ x ∷ []) → is_begin (tokens x) ≡ true → ⊥
last_starts [] x h b = let w : true ≡ false = sym b ∙ All-head starts x [] h in cc
last_starts (y ∷ a) x h b = last_starts a x (All-tail starts y (a ++ x ∷ []) h) b

last_open : (a : List (List ℕ)) (x : List ℕ) → CanHead (a ++ x ∷ []) → is_begin (tokens x) ≡ true → ⊥
last_open a x (h, s) b = last_starts a x s.without_begin b

-- none of them is `begin`
inside_open : (a : List (List ℕ)) (x : List ℕ) (r : List (List ℕ)) → CanHead ((a ++ x ∷ []) ++ r) → is_begin (tokens x) ≡ true → ⊥
inside_open a x r can b = last_open a x (front_can (a ++ x ∷ []) r can) b

same_option : {A : Type 0} (o p : Option A) → option_to_list o ≡ option_to_list p → o ≡ p
same_option None None e = refl
same_option None (Some y) e = cc
same_option (Some x) None e = cc
same_option (Some x) (Some y) e = cc

same_mapped : {A : Type 0} (o p : Option A) → map Some (option_to_list o) ≡ map Some (option_to_list p) → o ≡ p
same_mapped None None e = refl
same_mapped None (Some y) e = cc
same_mapped (Some x) None e = cc
same_mapped (Some x) (Some y) e = cc

says_once : (a c : List (List ℕ)) (h k : Heading) → a ≡ c → Says a h → Says c k → h ≡ k
says_once a c h k e s t =
    let m : h.kind ≡ k.kind = same_option h.kind k.kind (sym s.kind ∙ ap (λ l. flat_map (λ line. kind_in (tokens line)) l) e ∙ t.kind) in
    let n : h.linearity ≡ k.linearity = same_mapped h.linearity k.linearity (sym s.linearity ∙ ap (λ l. flat_map (λ line. linearity_in (tokens line)) l) e ∙ t.linearity) in
    ap (λ (o : Option Format). record { kind = o; linearity = h.linearity }) m ∙ ap (λ (o : Option (List ℕ)). record { kind = k.kind; linearity = o }) n

once_cases : (h k : Heading) (a b c d : List (List ℕ)) (x y : List ℕ) → Says a h → Says c k → is_begin (tokens x) ≡ true → is_begin (tokens y) ≡ true → Cuts a x b c y d → (h ≡ k) × (a ≡ c) × (b ≡ d)
once_cases h k a b c d x y s t f g (inl (e, i, j)) = (says_once a c h k e s t, e, j)
once_cases h k a b c d x y s t f g (inr (inl (r, e))) = absurd (inside_open a x r (k, subst (λ (l : List (List ℕ)). Says l k) e t) f)
once_cases h k a b c d x y s t f g (inr (inr (r, e))) = absurd (inside_open c y r (h, subst (λ (l : List (List ℕ)). Says l h) e s) g)

pub head_once : (file : List (List ℕ)) (h k : Heading) (a b c d : List (List ℕ)) → IsHead file h a b → IsHead file k c d → (h ≡ k) × (a ≡ c) × (b ≡ d)
head_once file h k a b c d p q = once_cases h k a b c d p.line q.line p.says q.says p.begins q.begins (two_cuts a b c d p.line q.line (sym p.cut ∙ q.cut))

excludes_cases : (h : Heading) (a b c d : List (List ℕ)) (x y : List ℕ) → Says a h → is_begin (tokens x) ≡ true → CanHead c → is_begin (tokens y) ≡ false → ¬ (CanHead (c ++ y ∷ [])) → Cuts a x b c y d → ⊥
excludes_cases h a b c d x y s f can g wrong (inl (e, i, j)) = let w : true ≡ false = sym f ∙ ap (λ l. is_begin (tokens l)) i ∙ g in cc
excludes_cases h a b c d x y s f can g wrong (inr (inl (r, e))) = inside_open a x r (subst (λ (l : List (List ℕ)). CanHead l) e can) f
excludes_cases h a b c d x y s f can g wrong (inr (inr (r, e))) = wrong (front_can (c ++ y ∷ []) r (h, subst (λ (l : List (List ℕ)). Says l h) e s))

whole_open : (a : List (List ℕ)) (x : List ℕ) (b : List (List ℕ)) → CanHead (a ++ x ∷ b) → is_begin (tokens x) ≡ true → ⊥
whole_open a x b can f = inside_open a x b (subst (λ (l : List (List ℕ)). CanHead l) (sym (append_assoc a (x ∷ []) b)) can) f

pub head_excludes : (file : List (List ℕ)) (h : Heading) (a b : List (List ℕ)) (n : ℕ) → IsHead file h a b → HasNoHead file n → ⊥
head_excludes file h a b n p (inl w) = excludes_cases h a b w.before w.first.behind p.line w.line p.says p.begins w.first.right w.other w.first.wrong (two_cuts a b w.before w.first.behind p.line w.line (sym p.cut ∙ w.first.cut))
head_excludes file h a b n p (inr (can, e)) = whole_open a p.line b (subst (λ (l : List (List ℕ)). CanHead l) p.cut can) p.begins

line_cases : (a b c d : List (List ℕ)) (x y : List ℕ) → CanHead a → ¬ (CanHead (a ++ x ∷ [])) → CanHead c → ¬ (CanHead (c ++ y ∷ [])) → Cuts a x b c y d → length a ≡ length c
line_cases a b c d x y p q r s (inl (e, i, j)) = ap (λ l. length l) e
line_cases a b c d x y p q r s (inr (inl (t, e))) = absurd (q (front_can (a ++ x ∷ []) t (subst (λ (l : List (List ℕ)). CanHead l) e r)))
line_cases a b c d x y p q r s (inr (inr (t, e))) = absurd (s (front_can (c ++ y ∷ []) t (subst (λ (l : List (List ℕ)). CanHead l) e p)))

wrong_whole : (file a b : List (List ℕ)) (x : List ℕ) → file ≡ a ++ x ∷ b → CanHead file → ¬ (CanHead (a ++ x ∷ [])) → ⊥
wrong_whole file a b x e can wrong = wrong (front_can (a ++ x ∷ []) b (subst (λ (l : List (List ℕ)). CanHead l) (e ∙ sym (append_assoc a (x ∷ []) b)) can))

pub line_once : (file : List (List ℕ)) (m n : ℕ) → HasNoHead file m → HasNoHead file n → m ≡ n
line_once file m n (inl v) (inl w) = v.number ∙ ap (λ k. k + 1) (line_cases v.before v.first.behind w.before w.first.behind v.line w.line v.first.right v.first.wrong w.first.right w.first.wrong (two_cuts v.before v.first.behind w.before w.first.behind v.line w.line (sym v.first.cut ∙ w.first.cut))) ∙ sym w.number
line_once file m n (inl v) (inr (can, e)) = absurd (wrong_whole file v.before v.first.behind v.line v.first.cut can v.first.wrong)
line_once file m n (inr (can, e)) (inl w) = absurd (wrong_whole file w.before w.first.behind w.line w.first.cut can w.first.wrong)
line_once file m n (inr (can, e)) (inr (can2, f)) = e ∙ sym f
