-- The vectors that a list of rows admits.
use Rattle.std.proofs.Common.{◌≡◌, ◌⊎◌, inl, inr, ℕ, ◌+◌, ◌-◌, ◌<◌, ◌≤◌, List, ◌++◌, length, slice_index_or, Bool, true, false, ℤ, pos, neg_ℤ, ◌≤ℤ◌, refl, sym, ap, ◌∙◌, subst, arith}
use Rattle.std.specs.Prelude.{◌↔◌, All}
use Rattle.std.proofs.lemmas.Int.{ints}
use Rattle.std.proofs.lemmas.Bool.{cases_lt}
use Rattle.std.proofs.lemmas.List.{get_or_append_left, get_or-append_right, get_or-append-add, length-append}
use Rattle.std.proofs.lemmas.List.Elements.{All-from_all_within, AllWithin-from_all}
use Rattle.row_core.specs.Vectors.{dot}
use Rattle.row_core.specs.Lists.{Row}
use Rattle.cone_laws.specs.Cones.{Meets, Upto, Spans, Generates, negated}
use Rattle.cone_laws.specs.Canon.{IsSystem, Canon}
use Rattle.cone_laws.specs.UniqueLaws.{AdmitSame}
use Rattle.cone_laws.proofs.Columns.{dot_comm, dot-negated}
use Rattle.cone_laws.proofs.Spanning.{at_least_zero_on_spanned}
use Rattle.cone_laws.proofs.UptoRows.{Asks, both_zero}
use Rattle.cone_laws.specs.Members.{ConeOf}

-- ---- all rows of a list
pub cone_meets : (width : ℕ) (rows : List Row) (v : List ℤ) → ConeOf width rows v → All (Meets v) rows
cone_meets width rows v u = All-from_all_within (Meets v) rows u.meets

pub cone_from : (width : ℕ) (rows : List Row) (v : List ℤ) → length v ≡ width → All (Meets v) rows → ConeOf width rows v
cone_from width rows v w h = record { wide = w; meets = AllWithin-from_all (Meets v) rows h }

-- ---- one list after another
pub first_alone : (width : ℕ) (rows more : List Row) (k : ℕ) (v : List ℤ) → k ≤ length rows → Upto width (rows ++ more) k v ↔ Upto width rows k v
first_alone width rows more k v h = (
  (λ u. record { wide = u.wide; meets = λ m d low high. subst (Meets v) (get_or_append_left rows more d m (omega arith)) (u.meets m d low high) }),
  (λ u. record { wide = u.wide; meets = λ m d low high. subst (Meets v) (sym (get_or_append_left rows more d m (omega arith))) (u.meets m d low high) }),
)

pub rows_of_both : (width : ℕ) (rows more : List Row) (v : List ℤ) → ConeOf width (rows ++ more) v ↔ (ConeOf width rows v × ConeOf width more v)
rows_of_both width rows more v = (apart, together)
  where
    apart : ConeOf width (rows ++ more) v → ConeOf width rows v × ConeOf width more v
    apart u = (
      record { wide = u.wide; meets = λ m d low high. subst (Meets v) (get_or_append_left rows more d m high) (u.meets m d low (omega (arith, length-append rows more))) },
      record { wide = u.wide; meets = λ m d low high. subst (Meets v) (get_or-append-add rows more m d) (u.meets (length rows + m) d (omega arith) (omega (arith, length-append rows more))) },
    )

    together : ConeOf width rows v × ConeOf width more v → ConeOf width (rows ++ more) v
    together p = record { wide = p.0.wide; meets = λ m d low high. by_place m d high (cases_lt m (length rows)) }
      where
        by_place : (m : ℕ) (d : Row) → m < length (rows ++ more) → (m < length rows) ⊎ (length rows ≤ m) → Meets v (slice_index_or (rows ++ more) m d)
        by_place m d high (inl l) = subst (Meets v) (sym (get_or_append_left rows more d m l)) (p.0.meets m d (omega arith) l)
        by_place m d high (inr l) = subst (Meets v) (sym (get_or-append_right rows more (length rows) m d refl l)) (p.1.meets (m - length rows) d (omega arith) (omega (arith, length-append rows more)))

-- ---- what a system spans
pub zero_of_signs : (x y : ℤ) → pos 0 ≤ℤ x → pos 0 ≤ℤ y → y ≡ neg_ℤ x → x ≡ pos 0
zero_of_signs x y h k e = omega (arith, ints)

zero_least : (x : ℤ) → x ≡ pos 0 → pos 0 ≤ℤ x
zero_least x e = omega (arith, ints)

zero_negated : (x y : ℤ) → x ≡ pos 0 → y ≡ neg_ℤ x → y ≡ pos 0
zero_negated x y e f = omega (arith, ints)

pub negated_dot : (a v : List ℤ) → dot (negated a) v ≡ neg_ℤ (dot a v)
negated_dot a v = dot_comm (negated a) v ∙ dot-negated v a ∙ ap neg_ℤ (dot_comm v a)

spanned_asks : (a : List ℤ) (eq : Bool) (lines rays : List (List ℤ)) (v : List ℤ) → All (λ l. dot a l ≡ pos 0) lines → All (λ r. Asks eq (dot a r)) rays → Spans lines rays v → Asks eq (dot a v)
spanned_asks a false lines rays v f g s = at_least_zero_on_spanned a lines rays v f g s
spanned_asks a true lines rays v f g s =
    zero_of_signs (dot a v) (dot (negated a) v)
    (at_least_zero_on_spanned a lines rays v f (λ i d b. zero_least (dot a (slice_index_or rays i d)) (g i d b)) s)
    (at_least_zero_on_spanned (negated a) lines rays v
    (λ i d b. zero_negated (dot a (slice_index_or lines i d)) (dot (negated a) (slice_index_or lines i d)) (f i d b) (negated_dot a (slice_index_or lines i d)))
    (λ i d b. zero_least (dot (negated a) (slice_index_or rays i d)) (zero_negated (dot a (slice_index_or rays i d)) (dot (negated a) (slice_index_or rays i d)) (g i d b) (negated_dot a (slice_index_or rays i d))))
    s)
    (negated_dot a v)

pub spanned_within : (width : ℕ) (rows : List Row) (k : ℕ) (lines rays : List (List ℤ)) (v : List ℤ) → Generates (Upto width rows k) lines rays → length v ≡ width → Spans lines rays v → Upto width rows k v
spanned_within width rows k lines rays v g w s = record {
  wide = w;
  meets = λ m d low high. spanned_asks (slice_index_or rows m d).0 (slice_index_or rows m d).1 lines rays v
      (λ i e b. both_zero width rows k (slice_index_or lines i e) (g.lines_within i e b).0 (g.lines_within i e b).1 m d high)
      (λ i e b. (g.rays_within i e b).meets m d low high) s;
}

-- ---- one set under two descriptions
module _ (C D : List ℤ → Type 0) (lines rays : List (List ℤ)) (f : (v : List ℤ) → C v → D v) (g : (v : List ℤ) → D v → C v) where
  pub system_same : IsSystem C lines rays → IsSystem D lines rays
  system_same s = record {
    generates = record {
      lines_within = λ i d h. (f (slice_index_or lines i d) (s.generates.lines_within i d h).0, f (negated (slice_index_or lines i d)) (s.generates.lines_within i d h).1);
      rays_within = λ i d h. f (slice_index_or rays i d) (s.generates.rays_within i d h);
      spans = λ v m. s.generates.spans v (g v m);
    };
    lineality = λ v m n. s.lineality v (g v m) (g (negated v) n);
    echelon = s.echelon;
    primitive_lines = s.primitive_lines;
    primitive_rays = s.primitive_rays;
    irredundant = s.irredundant;
  }

  pub canon_same : Canon C lines rays → Canon D lines rays
  canon_same c = record { system = system_same c.system; sorted = c.sorted }

pub same_cone : (width : ℕ) (rows : List Row) (k : ℕ) (others : List Row) (n : ℕ) (lines rays : List (List ℤ)) → AdmitSame width rows k others n → (IsSystem (Upto width rows k) lines rays → IsSystem (Upto width others n) lines rays) × (Canon (Upto width rows k) lines rays → Canon (Upto width others n) lines rays)
same_cone width rows k others n lines rays same = (
  system_same (Upto width rows k) (Upto width others n) lines rays same.first same.second,
  canon_same (Upto width rows k) (Upto width others n) lines rays same.first same.second,
)
