-- Lists of polyhedra with the same points are reduced alike.
use Rattle.std.proofs.Common.{◌≡◌, ◌⊎◌, inl, inr, ℕ, ◌<◌, List, [], ◌∷◌, length, get_or, slice_get, Some, Bool, true, false, ℤ, refl, sym, ◌∙◌, subst, ap, arith}
use Rattle.std.specs.Prelude.{◌↔◌, MatchBool}
use Rattle.std.proofs.lemmas.Option.{slice_get-get_or, slice_get_within, get_or_from_slice_get}
use Rattle.std.proofs.lemmas.List.{ext_get_or}
use Rattle.flat_rows.specs.Flat.{marked}
use Rattle.row_core.specs.Lists.{Pointwise}
use Rattle.row_core.specs.Points.{IsPoint}
use Rattle.sat_matrix.proofs.MarkedRows.{pointwise_marked}
use Rattle.cons_sys.specs.Constraints.{In}
use Rattle.poly_pair.specs.Polyhedra.{Polyhedron, HasNoPoint, IsIncluded, HaveSamePoints}
use Rattle.powerset.specs.Reductions.{IsSuperseded, IsLeftOut, AreMarks, IsReduced}

-- both are of the dimension, with the same points
pub record AgreeIn (dim : ℕ) (p q : Polyhedron) : Type 0 where
  pub first : p.cons.dim ≡ dim
  pub second : q.cons.dim ≡ dim
  pub points : (v : List ℤ) → IsPoint dim v → In p.cons v ↔ In q.cons v

-- ---- related lists
pub pointwise_back : {A B : Type 0} (R : A → B → Type 0) (S : B → A → Type 0) (xs : List A) (ys : List B) → ((x : A) (y : B) → R x y → S y x) → Pointwise R xs ys → Pointwise S ys xs
pointwise_back R S xs ys f h = record { as_many = sym h.as_many; each = λ i e d below. f (get_or xs i d) (get_or ys i e) (h.each i d e (omega (arith, below, h.as_many))) }

-- the elements at a place are related
pub pointwise_at : {A B : Type 0} (R : A → B → Type 0) (xs : List A) (ys : List B) (i : ℕ) (x : A) (y : B) → Pointwise R xs ys → slice_get xs i ≡ Some x → slice_get ys i ≡ Some y → R x y
pointwise_at R xs ys i x y h at_x at_y =
    subst (λ (a : _). R a y) (get_or_from_slice_get xs i x x at_x)
    (subst (λ (b : _). R (get_or xs i x) b) (get_or_from_slice_get ys i y y at_y) (h.each i x y (slice_get_within xs i x at_x)))

-- ---- members that agree
agree_back : (dim : ℕ) (p q : Polyhedron) → AgreeIn dim p q → AgreeIn dim q p
agree_back dim p q a = record { first = a.second; second = a.first; points = λ v pt. let m = a.points v pt in (m.1, m.0) }

-- of members that agree, the one includes the other where theirs do
included_alike : (dim : ℕ) (p q r s : Polyhedron) → AgreeIn dim p q → AgreeIn dim r s → IsIncluded p r → IsIncluded q s
included_alike dim p q r s a b i v pt h =
    let at : IsPoint dim v = subst (λ (n : ℕ). IsPoint n v) a.second pt in
    (b.points v at).0 (i v (subst (λ (n : ℕ). IsPoint n v) (sym a.first) at) ((a.points v at).1 h))

same_points_alike : (dim : ℕ) (p q r s : Polyhedron) → AgreeIn dim p q → AgreeIn dim r s → HaveSamePoints p r → HaveSamePoints q s
same_points_alike dim p q r s a b same v pt =
    let at : IsPoint dim v = subst (λ (n : ℕ). IsPoint n v) a.second pt in
    let m = same v (subst (λ (n : ℕ). IsPoint n v) (sym a.first) at) in
    (λ h. (b.points v at).0 (m.0 ((a.points v at).1 h)), λ h. (a.points v at).0 (m.1 ((b.points v at).1 h)))

empty_alike : (dim : ℕ) (p q : Polyhedron) → AgreeIn dim p q → HasNoPoint p → HasNoPoint q
empty_alike dim p q a none v w =
    let at : IsPoint dim v = subst (λ (n : ℕ). IsPoint n v) a.second w.point in
    none v (record { point = subst (λ (n : ℕ). IsPoint n v) (sym a.first) at; holds = (a.points v at).1 w.holds })

-- ---- what is left out
module _ (dim : ℕ) (ms ns : List Polyhedron) (alike : Pointwise (AgreeIn dim) ms ns) (i : ℕ) (p q : Polyhedron) (at_p : slice_get ms i ≡ Some p) (at_q : slice_get ns i ≡ Some q) where
  superseded_alike : IsSuperseded ms i p → IsSuperseded ns i q
  superseded_alike s = record { index = s.index; other = other; at = at; differs = s.differs; supersedes = record { includes = included_alike dim p q s.other other here there s.supersedes.includes; first = first s.supersedes.first } }
    where
      other : Polyhedron
      other = get_or ns s.index s.other

      at : slice_get ns s.index ≡ Some other
      at = slice_get-get_or ns s.index s.other (let w = slice_get_within ms s.index s.other s.at in omega (arith, w, alike.as_many))

      here : AgreeIn dim p q
      here = pointwise_at (AgreeIn dim) ms ns i p q alike at_p at_q

      there : AgreeIn dim s.other other
      there = pointwise_at (AgreeIn dim) ms ns s.index s.other other alike s.at at

      first : (s.index < i) ⊎ (¬ (HaveSamePoints p s.other)) → (s.index < i) ⊎ (¬ (HaveSamePoints q other))
      first (inl l) = inl l
      first (inr n) = inr (λ same. n (same_points_alike dim q p other s.other (agree_back dim p q here) (agree_back dim s.other other there) same))

  left_out_alike : IsLeftOut ms i p → IsLeftOut ns i q
  left_out_alike (inl none) = inl (empty_alike dim p q (pointwise_at (AgreeIn dim) ms ns i p q alike at_p at_q) none)
  left_out_alike (inr s) = inr (superseded_alike s)

-- ---- one choice
one_mark : (b c : Bool) (A B : Type 0) → (A → B) → (B → A) → MatchBool b (¬ A) A → MatchBool c (¬ B) B → b ≡ c
one_mark true true A B f g h k = refl
one_mark true false A B f g h k = absurd (h (g k))
one_mark false true A B f g h k = absurd (k (f h))
one_mark false false A B f g h k = refl

has_at : (xs : List Polyhedron) (i : ℕ) → i < length xs → (x : Polyhedron) × (slice_get xs i ≡ Some x)
has_at [] i h = absurd (omega (arith, h))
has_at (x ∷ xs) i h = (get_or (x ∷ xs) i x, slice_get-get_or (x ∷ xs) i x h)

one_choice : (dim : ℕ) (ms ns : List Polyhedron) (keep marks : List Bool) → Pointwise (AgreeIn dim) ms ns → length keep ≡ length ms → length marks ≡ length ns → AreMarks ms keep → AreMarks ns marks → keep ≡ marks
one_choice dim ms ns keep marks alike l m h k = ext_get_or false keep marks (omega (arith, l, m, alike.as_many)) each
  where
    each : (i : ℕ) → i < length keep → get_or keep i false ≡ get_or marks i false
    each i below = one_mark (get_or keep i false) (get_or marks i false) (IsLeftOut ms i p.0) (IsLeftOut ns i q.0)
        (left_out_alike dim ms ns alike i p.0 q.0 p.1 q.1) (left_out_alike dim ns ms back i q.0 p.0 q.1 p.1) (h.each i p.0 below p.1) (k.each i q.0 marked_too q.1)
      where
        within : i < length ms
        within = omega (arith, below, l)

        also : i < length ns
        also = omega (arith, within, alike.as_many)

        marked_too : i < length marks
        marked_too = omega (arith, also, m)

        p : (x : Polyhedron) × (slice_get ms i ≡ Some x)
        p = has_at ms i within

        q : (x : Polyhedron) × (slice_get ns i ≡ Some x)
        q = has_at ns i also

        back : Pointwise (AgreeIn dim) ns ms
        back = pointwise_back (AgreeIn dim) (AgreeIn dim) ms ns (agree_back dim) alike

-- lists that are related element by element, and agree in all points, are reduced to such lists
pub reduced_same : (R : Polyhedron → Polyhedron → Type 0) (dim : ℕ) (ms ns part rest : List Polyhedron) → Pointwise (AgreeIn dim) ms ns → Pointwise R ms ns → IsReduced ms part → IsReduced ns rest → Pointwise R part rest
reduced_same R dim ms ns part rest agree same h k =
    let one : h.keep ≡ k.keep = one_choice dim ms ns h.keep k.keep agree h.as_many k.as_many h.marks k.marks in
    let marked_same : Pointwise R (marked h.keep ms) (marked h.keep ns) = pointwise_marked R h.keep ms ns same in
    subst (λ (xs : List Polyhedron). Pointwise R xs rest) (sym h.is_part)
    (subst (λ (ys : List Polyhedron). Pointwise R (marked h.keep ms) ys) (ap (λ (keep : List Bool). marked keep ns) one ∙ sym k.is_part) marked_same)
