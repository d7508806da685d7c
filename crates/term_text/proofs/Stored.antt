-- Constraints stored one after another.
use Rattle.std.proofs.Common.{◌≡◌, ℕ, ◌+◌, ◌<◌, List, [], ◌∷◌, ◌++◌, map, length, take, get_or, refl, sym, ◌∙◌, ap, subst, arith, Bool, true, false, length-append}
use Rattle.std.specs.Prelude.{◌==◌, ◌&&◌, Result, Ok, Err, MatchResult}
use Rattle.std.proofs.lemmas.List.{take_more, map-append, get_or_push, get_or-map, length-map, take_all}
use Rattle.std.proofs.lemmas.List.Elements.{All-push, All-get_or, All-nil, All-take}
use Rattle.std.proofs.Math.Seq.{take-append_seam}
use Rattle.cons_sys.specs.Constraints.{Constraint, Constraints}
use Rattle.term_text.specs.declared.terms.ValueErr.{ValueErr}
use Rattle.term_text.specs.declared.terms.ValueErr.TheVariants.{OutOfRange, TooLarge, ZeroDivisor, Memory}
use Rattle.term_text.specs.declared.terms.Term.{Term}
use Rattle.term_text.specs.declared.terms.Relation.TheVariants.{AtLeast}
use Rattle.term_text.specs.Terms.{AreWithin, Stay}
use Rattle.term_text.specs.Sums.{Sum, HasSummed, Gains}
use Rattle.term_text.specs.Values.{Comparison, number_term, never}
use Rattle.term_text.specs.Reading.{first_mark, con_read, cons_read}
use Rattle.term_text.specs.Systems.{IsStored, AreStored, AllStay, Adds, StopsAt, HaveRead, StopAt, IsConsOf, IsConsOfFault}

-- the row of each constraint stays
abbrev OneStays : ℕ → Comparison → Type 0
OneStays dim c = Stay dim c.terms

abbrev OneIsWithin : ℕ → Comparison → Type 0
OneIsWithin dim c = AreWithin dim c.terms

are_stored_push : (dim : ℕ) (cs : List Comparison) (rs : List Constraint) (c : Comparison) (r : Constraint) → AreStored dim cs rs → IsStored dim c r → AreStored dim (cs ++ c ∷ []) (rs ++ r ∷ [])
are_stored_push dim [] [] c r h one = (one, tt)
are_stored_push dim [] (y ∷ rs) c r h one = elim h [ ]
are_stored_push dim (x ∷ cs) [] c r h one = elim h [ ]
are_stored_push dim (x ∷ cs) (y ∷ rs) c r h one = (h.0, are_stored_push dim cs rs c r h.1 one)

stay_last : (dim : ℕ) (cs : List Comparison) (c : Comparison) → AllStay dim (cs ++ c ∷ []) → Stay dim c.terms
stay_last dim cs c all = let last : OneStays dim (get_or (cs ++ c ∷ []) (length cs) c) = All-get_or (OneStays dim) (cs ++ c ∷ []) (length cs) c (omega (arith, length-append cs (c ∷ []))) all in subst (OneStays dim) (get_or_push cs c c (length cs) refl) last

stay_front : (dim : ℕ) (cs : List Comparison) (c : Comparison) → AllStay dim (cs ++ c ∷ []) → AllStay dim cs
stay_front dim cs c all = rw (take-append_seam cs (c ∷ [])) at (All-take (OneStays dim) (length cs) (cs ++ c ∷ []) all)

pub have_read_none : (dim : ℕ) (list : List Constraint) → list ≡ [] → HaveRead dim [] list true
have_read_none dim list e = record {
  within = All-nil (OneIsWithin dim);
  stored = λ t. (All-nil (OneStays dim), rw e tt);
  leaves = λ t. cc;
}

pub have_read_more : (dim : ℕ) (cs : List Comparison) (list new : List Constraint) (c : Comparison) (fits added : Bool) → HaveRead dim cs list fits → Adds dim list new c added → HaveRead dim (cs ++ c ∷ []) new (fits && added)
have_read_more dim cs list new c true true so_far (within, stay, (r, stored, e)) = record {
  within = All-push (OneIsWithin dim) cs c so_far.within within;
  stored = λ t. (All-push (OneStays dim) cs c (so_far.stored refl).0 stay, rw e (are_stored_push dim cs list c r (so_far.stored refl).1 stored));
  leaves = λ t. cc;
}
have_read_more dim cs list new c true false so_far (within, leaves) = record {
  within = All-push (OneIsWithin dim) cs c so_far.within within;
  stored = λ t. cc;
  leaves = λ t all. leaves (stay_last dim cs c all);
}
have_read_more dim cs list new c false true so_far (within, stay, (r, stored, e)) = record {
  within = All-push (OneIsWithin dim) cs c so_far.within within;
  stored = λ t. cc;
  leaves = λ t all. so_far.leaves refl (stay_front dim cs c all);
}
have_read_more dim cs list new c false false so_far (within, leaves) = record {
  within = All-push (OneIsWithin dim) cs c so_far.within within;
  stored = λ t. cc;
  leaves = λ t all. so_far.leaves refl (stay_front dim cs c all);
}

-- the first n parts, and one more
pub parts_more : (parts : List (List ℕ)) (n : ℕ) (part : List ℕ) → n < length parts → part ≡ get_or parts n part → map con_read (take (n + 1) parts) ≡ map con_read (take n parts) ++ con_read part ∷ []
parts_more parts n part h e = ap (map con_read) (take_more parts n part h) ∙ map-append con_read (take n parts) (get_or parts n part ∷ []) ∙ ap (λ p. map con_read (take n parts) ++ con_read p ∷ []) (sym e)

-- one part stops the reading of all
pub stop_at : (dim : ℕ) (parts : List (List ℕ)) (n : ℕ) (part : List ℕ) (e : ValueErr) → n < length parts → part ≡ get_or parts n part → StopsAt dim (con_read part) e → StopAt dim (map con_read parts) e
stop_at dim parts n part OutOfRange h e stops = λ all.
    let one : OneIsWithin dim (get_or (map con_read parts) n (con_read part)) = All-get_or (OneIsWithin dim) (map con_read parts) n (con_read part) (omega (arith, length-map parts con_read)) all in
    let same : get_or (map con_read parts) n (con_read part) ≡ con_read part = get_or-map con_read parts n part (con_read part) h ∙ ap con_read (sym e) in
    stops (subst (OneIsWithin dim) same one)
stop_at dim parts n part TooLarge h e stops = stops
stop_at dim parts n part ZeroDivisor h e stops = stops
stop_at dim parts n part Memory h e stops = tt

-- one part more was read
pub read_more : (dim d : ℕ) (parts : List (List ℕ)) (n m : ℕ) (part : List ℕ) (list new : List Constraint) (fits added : Bool) → m ≡ n + 1 → d ≡ dim → (n < length parts) × (part ≡ get_or parts n part) → HaveRead dim (map con_read (take n parts)) list fits → Adds d list new (con_read part) added → HaveRead dim (map con_read (take m parts)) new (fits && added)
read_more dim d parts n m part list new fits added e same (h, is) so_far adds =
    let one : Adds dim list new (con_read part) added = subst (λ x. Adds x list new (con_read part) added) same adds in
    let more : HaveRead dim (map con_read (take (n + 1) parts)) new (fits && added) = rw (parts_more parts n part h is) (have_read_more dim (map con_read (take n parts)) list new (con_read part) fits added so_far one) in
    subst (λ x. HaveRead dim (map con_read (take x parts)) new (fits && added)) (sym e) more

-- one part stops the reading of all
pub stop_all : (dim d : ℕ) (parts : List (List ℕ)) (n : ℕ) (part : List ℕ) (e : ValueErr) → d ≡ dim → (n < length parts) × (part ≡ get_or parts n part) → StopsAt d (con_read part) e → StopAt dim (map con_read parts) e
stop_all dim d parts n part e same (h, is) stops = stop_at dim parts n part e h is (subst (λ x. StopsAt x (con_read part) e) same stops)

-- all parts were read
pub read_all : (dim : ℕ) (parts : List (List ℕ)) (n : ℕ) (list : List Constraint) (fits : Bool) → n ≡ length parts → HaveRead dim (map con_read (take n parts)) list fits → HaveRead dim (map con_read parts) list fits
read_all dim parts n list fits e so_far = rw (take_all n parts (omega arith)) at so_far

stop_one : (dim : ℕ) (c : Comparison) (e : ValueErr) → StopsAt dim c e → StopAt dim (c ∷ []) e
stop_one dim c OutOfRange stops = λ all. stops (All-get_or (OneIsWithin dim) (c ∷ []) 0 c (omega arith) all)
stop_one dim c TooLarge stops = stops
stop_one dim c ZeroDivisor stops = stops
stop_one dim c Memory stops = tt

-- a list of one constraint
pub read_one : (dim : ℕ) (list new : List Constraint) (c : Comparison) (r : Result Bool ValueErr) → list ≡ [] → MatchResult r (Adds dim list new c) (StopsAt dim c) → MatchResult r (HaveRead dim (c ∷ []) new) (StopAt dim (c ∷ []))
read_one dim list new c (Ok added) e adds = have_read_more dim [] list new c true added (have_read_none dim list e) adds
read_one dim list new c (Err fault) e stops = stop_one dim c fault stops

cons_read-false : (w : List ℕ) → (first_mark w == 116) ≡ false → (first_mark w == 102) ≡ true → cons_read w ≡ never ∷ []
cons_read-false w no_t an_f = rw (no_t, an_f) refl

-- the text false
pub read_false : (dim : ℕ) (w : List ℕ) (list new : List Constraint) (r : Result Bool ValueErr) → list ≡ [] → (first_mark w == 116) ≡ false → (first_mark w == 102) ≡ true → MatchResult r (Adds dim list new never) (StopsAt dim never) → MatchResult r (HaveRead dim (cons_read w) new) (StopAt dim (cons_read w))
read_false dim w list new r e no_t an_f one = subst (λ cs. MatchResult r (HaveRead dim cs new) (StopAt dim cs)) (sym (cons_read-false w no_t an_f)) (read_one dim list new never r e one)

-- the system of constraints that were read
pub system_of : (dim d : ℕ) (cs : List Comparison) (system : Constraints) (fits : Bool) → system.dim ≡ d → d ≡ dim → fits ≡ true → HaveRead d cs system.list fits → IsConsOf dim cs system
system_of dim d cs system fits over same all read =
    let at_dim : HaveRead dim cs system.list fits = subst (λ x. HaveRead x cs system.list fits) same read in
    record { within = at_dim.within; stay = (at_dim.stored all).0; over = over ∙ same; list = (at_dim.stored all).1 }

-- a number on the way left the range
pub no_system : (dim d : ℕ) (cs : List Comparison) (list : List Constraint) (fits : Bool) → d ≡ dim → fits ≡ false → HaveRead d cs list fits → IsConsOfFault dim cs TooLarge
no_system dim d cs list fits same not_all read =
    let at_dim : HaveRead dim cs list fits = subst (λ x. HaveRead x cs list fits) same read in
    (at_dim.within, at_dim.leaves not_all)

abbrev minus_one : Term
minus_one = number_term true 1

-- the constraint -1 >= 0, from the sum of its one term
pub adds_never : (dim : ℕ) (list new : List Constraint) (none one : Sum) (r : Result Bool ValueErr) → HasSummed [] none → Gains (minus_one ∷ []) none one → MatchResult r (λ added. (ts : List Term) → HasSummed ts one → Adds dim list new (record { terms = ts; relation = AtLeast }) added) (λ e. e ≡ Memory) → MatchResult r (Adds dim list new never) (StopsAt dim never)
adds_never dim list new none one (Ok added) start gains adds = adds (minus_one ∷ []) (gains.more [] start)
adds_never dim list new none one (Err e) start gains is = rw is tt
