-- Lists of constraints and of generators: those of the cases, each a positive multiple of what is
-- stored.
use Rattle.std.proofs.Common.{◌≡◌, ◌≢◌, ℕ, ◌<◌, List, [], ◌∷◌, ◌++◌, zero, suc, ℤ, pos, negsuc, ◌+ℤ◌, ◌*ℤ◌, refl, ap, sym, ◌∙◌, subst, arith, inl, inr, append_assoc, append-nil, ◌==◌, if◌then◌else◌}
use Rattle.std.specs.Prelude.{All, codes, ◌↔◌, ◌<ℤ◌}
use Rattle.std.proofs.lemmas.Int.{ints}
use Rattle.std.proofs.lemmas.List.Elements.{All-nil, All-cons, All-head, All-tail}
use Rattle.grammar.specs.Form.{Form, Matches, Times}
use Rattle.grammar.specs.Grammar.{◌·◌, ◌⋯◌, symbol, blanks, alone}
use Rattle.grammar.specs.Cases.{con_cases, cons_cases}
use Rattle.row_core.specs.Vectors.{dot, scale}
use Rattle.row_core.specs.Content.{IsPrimitiveOf}
use Rattle.row_core.proofs.DotLemmas.{dot_comm, dot-scale}
use Rattle.cons_sys.specs.Constraints.{Constraint, Constraints, Satisfies}
use Rattle.cons_sys.specs.Kinds.{Allows}
use Rattle.cons_sys.specs.declared.kind.ConKind.{ConKind}
use Rattle.cons_sys.specs.declared.kind.ConKind.TheVariants.{Ge, Gt}
use Rattle.cons_sys.proofs.Signs.{SameSign, same_sign, Allows-same_sign}
use Rattle.term_text.specs.Terms.{AreWithin, Stay}
use Rattle.term_text.specs.Values.{Comparison, con_by, cons_by, further_cons_by, never, alone_by}
use Rattle.term_text.specs.Texts.{IsConRow}
use Rattle.term_text.specs.Systems.{kind_of, IsConsOf, IsCons}
use Rattle.term_text.specs.Systems as stored_cons
use Rattle.soundness.specs.TextsNumbers.{Tokens, AreTokens}
use Rattle.soundness.specs.TextsExpressions.{at_column}
use Rattle.soundness.specs.TextsSystems as systems
use Rattle.soundness.specs.TextsSystems.{SaysConstraint, AreListed, AreConstraints}
use Rattle.soundness.proofs.PointLaws.{SaysConstraints}
use Rattle.soundness.proofs.TextTokens.{no_blanks, symbol_is, token_is, token_before, tokens_of, behind_blanks, alone_tokens}
use Rattle.soundness.proofs.TextRows.{column_wide, column_cell, same_rows}
use Rattle.soundness.proofs.TextSums.{IsShort}
use Rattle.soundness.proofs.TextValues.{Is, con_law}

-- ---- lists of one form
-- each element is related to the one at its place
abbrev pub AreRelated : {A B : Type 0} → (A → B → Type 0) → List A → List B → Type 0
AreRelated R [] [] = Unit {0}
AreRelated R [] (b ∷ bs) = ⊥
AreRelated R (a ∷ as_read) [] = ⊥
AreRelated R (a ∷ as_read) (b ∷ bs) = R a b × AreRelated R as_read bs

-- the text is tokens that mean an element which is related to this one
pub record HasRelated {A B : Type 0} (Means : Tokens → A → Type 0) (R : A → B → Type 0) (w : List ℕ) (b : B) : Type 0 where
  pub element : A
  pub is : Is Means w element
  pub related : R element b

-- the text is tokens that mean elements which are related to these
pub record HaveRelated {A B : Type 0} (Means : Tokens → List A → Type 0) (R : A → B → Type 0) (w : List ℕ) (bs : List B) : Type 0 where
  pub elements : List A
  pub are : Is Means w elements
  pub related : AreRelated R elements bs

-- n times a comma and the form
abbrev pub further_of : {T : Type 0} (f : Form) → ((w : List ℕ) → Matches f w → T) → (n : ℕ) (w : List ℕ) → Times (Matches (blanks · (symbol 44 ⋯ f))) n w → List T
further_of f by zero w none = []
further_of f by (suc n) w (u, v, e, (b1, w1, e1, blanks1, (comma, w2, e2, is_comma, (b2, x, e3, blanks2, is))), others) = by x is ∷ further_of f by n v others

module _ {T A B : Type 0} (f : Form) (by : (w : List ℕ) → Matches f w → T) (Means : Tokens → A → Type 0) (R : A → B → Type 0) (Good : T → B → Type 0) (law : (w : List ℕ) (m : Matches f w) (b : B) → Good (by w m) b → HasRelated Means R w b) where
  pub listed_law : (n : ℕ) (w u v : List ℕ) (m : Matches f u) (others : Times (Matches (blanks · (symbol 44 ⋯ f))) n v) → w ≡ u ++ v → (bs : List B) → AreRelated Good (by u m ∷ further_of f by n v others) bs → HaveRelated (AreListed Means) R w bs
  listed_law zero w u v m none e [] good = absurd good
  listed_law zero w u v m none e (b ∷ []) good =
      let h : HasRelated Means R u b = law u m b good.0 in
      record {
        elements = h.element ∷ [];
        are = record {
          pieces = h.is.pieces ++ [];
          split = tokens_of h.is.pieces [] w u v e h.is.split (subst (AreTokens []) (sym none) no_blanks);
          means = subst (λ (ts : Tokens). AreListed Means ts (h.element ∷ [])) (sym (append-nil h.is.pieces)) (systems.last h.is.pieces h.element h.is.means);
        };
        related = (h.related, tt);
      }
  listed_law zero w u v m none e (b ∷ c ∷ bs) good = absurd good.1
  listed_law (suc n) w u v m others e [] good = absurd good
  listed_law (suc n) w u v m (x, y, e0, (b1, w1, e1, blanks1, (comma, w2, e2, is_comma, (b2, z, e3, blanks2, is))), others) e (b ∷ bs) good =
      let h : HasRelated Means R u b = law u m b good.0 in
      let q : HaveRelated (AreListed Means) R (z ++ y) bs = listed_law n (z ++ y) z y is others refl bs good.1 in
      let w3 : List ℕ = b2 ++ (z ++ y) in
      record {
        elements = h.element ∷ q.elements;
        are = record {
          pieces = h.is.pieces ++ codes "," ∷ q.are.pieces;
          split = tokens_of h.is.pieces (codes "," ∷ q.are.pieces) w u v e h.is.split
              (behind_blanks (codes "," ∷ q.are.pieces) v b1 (w1 ++ y) (e0 ∙ (ap (λ (t : List ℕ). t ++ y) e1 ∙ append_assoc b1 w1 y)) blanks1
              (token_before (codes ",") q.are.pieces (w1 ++ y) comma (w2 ++ y) (ap (λ (t : List ℕ). t ++ y) e2 ∙ append_assoc comma w2 y) (symbol_is 44 comma is_comma)
              (behind_blanks q.are.pieces (w2 ++ y) b2 (z ++ y) (ap (λ (t : List ℕ). t ++ y) e3 ∙ append_assoc b2 z y) blanks2 q.are.split)));
          means = systems.next h.is.pieces q.are.pieces h.element q.elements h.is.means q.are.means;
        };
        related = (h.related, q.related);
      }

-- ---- constraints
-- the row of the one is a positive multiple of that of the other, and the kinds are the same
pub record IsWritten (written stored : Constraint) : Type 0 where
  pub multiple : IsPrimitiveOf written.0 stored.0
  pub kind : stored.1 ≡ written.1

-- the constraint can be read, and this is what is stored of it
pub record IsGoodCon (dim : ℕ) (c : Comparison) (stored : Constraint) : Type 0 where
  pub within : AreWithin dim c.terms
  pub short : All IsShort c.terms
  pub is : stored_cons.IsStored dim c stored

good_cons : (dim : ℕ) (cs : List Comparison) (stored : List Constraint) → stored_cons.AllWithin dim cs → stored_cons.AllStay dim cs → stored_cons.AreStored dim cs stored → AreRelated (IsGoodCon dim) cs stored
good_cons dim [] [] within stay h = tt
good_cons dim [] (r ∷ rs) within stay h = absurd h
good_cons dim (c ∷ cs) [] within stay h = absurd h
good_cons dim (c ∷ cs) (r ∷ rs) within stay h = (
  record { within = All-head (λ (c : Comparison). AreWithin dim c.terms) c cs within; short = (All-head (λ (c : Comparison). Stay dim c.terms) c cs stay).numbers; is = h.0 },
  good_cons dim cs rs (All-tail (λ (c : Comparison). AreWithin dim c.terms) c cs within) (All-tail (λ (c : Comparison). Stay dim c.terms) c cs stay) h.1,
)

further_same : (n : ℕ) (w : List ℕ) (m : Times (Matches (blanks · (symbol 44 ⋯ con_cases))) n w) → further_cons_by n w m ≡ further_of con_cases con_by n w m
further_same zero w none = refl
further_same (suc n) w (u, v, e, (b1, w1, e1, blanks1, (comma, w2, e2, is_comma, (b2, x, e3, blanks2, is))), others) = ap (λ (cs : List Comparison). con_by x is ∷ cs) (further_same n v others)

-- the row of what never holds
never_row : (dim : ℕ) (row : List ℤ) → IsConRow dim never row → at_column dim dim (negsuc 0) ≡ row
never_row dim row is = same_rows dim (at_column dim dim (negsuc 0)) row (column_wide dim dim (negsuc 0) (omega arith)) is.wide (λ j le. column_cell dim dim j (negsuc 0) ∙ (plus_none (if dim == j then negsuc 0 else pos 0) ∙ sym (is.cells j le)))
  where
    plus_none : (z : ℤ) → z ≡ z +ℤ pos 0
    plus_none z = omega (arith, ints)

module _ (dim : ℕ) where
  con_element : (w : List ℕ) (m : Matches con_cases w) (stored : Constraint) → IsGoodCon dim (con_by w m) stored → HasRelated (SaysConstraint dim) IsWritten w stored
  con_element w m stored g = record {
    element = (g.is.row, kind_of (con_by w m).relation);
    is = con_law dim w m g.is.row g.within g.short g.is.sums;
    related = record { multiple = g.is.primitive; kind = g.is.kind };
  }

  cons_law : (w : List ℕ) (m : Matches cons_cases w) (stored : List Constraint) → AreRelated (IsGoodCon dim) (cons_by w m) stored → HaveRelated (AreConstraints dim) IsWritten w stored
  cons_law w (inl always) [] good = record {
    elements = [];
    are = record { pieces = codes "true" ∷ []; split = token_is w (codes "true") always; means = systems.always };
    related = tt;
  }
  cons_law w (inl always) (r ∷ rs) good = absurd good
  cons_law w (inr (inl empty)) [] good = absurd good
  cons_law w (inr (inl empty)) (r ∷ []) good = record {
    elements = (at_column dim dim (negsuc 0), Ge) ∷ [];
    are = record { pieces = codes "false" ∷ []; split = token_is w (codes "false") empty; means = systems.never };
    related = (
      record {
        multiple = subst (λ (v : List ℤ). IsPrimitiveOf v r.0) (sym (never_row dim good.0.is.row good.0.is.sums)) good.0.is.primitive;
        kind = good.0.is.kind;
      },
      tt,
    );
  }
  cons_law w (inr (inl empty)) (r ∷ s ∷ rs) good = absurd good.1
  cons_law w (inr (inr (first, v, e, is_first, (n, others)))) stored good =
      let h : HaveRelated (AreListed (SaysConstraint dim)) IsWritten w stored = listed_law con_cases con_by (SaysConstraint dim) IsWritten (IsGoodCon dim) con_element n w first v is_first others e stored
      (subst (λ (cs : List Comparison). AreRelated (IsGoodCon dim) (con_by first is_first ∷ cs) stored) (further_same n v others) good) in
      record { elements = h.elements; are = record { pieces = h.are.pieces; split = h.are.split; means = systems.constraints h.are.pieces h.elements h.are.means }; related = h.related }

-- ---- the points of both lists
positive_times : (n : ℕ) → 0 < n → pos 0 <ℤ pos n
positive_times n h = omega (arith, ints, h)

one_times : (x y : ℤ) → x ≡ y → pos 1 *ℤ x ≡ y
one_times x y e = omega (arith, ints, e)

times_one : (x y : ℤ) → x ≡ y → y ≡ pos 1 *ℤ x
times_one x y e = omega (arith, ints, e)

module _ (row stored v : List ℤ) (p : IsPrimitiveOf row stored) where
  value : dot row v ≡ pos p.multiple.times *ℤ dot stored v
  value = ap (λ (w : List ℤ). dot w v) p.multiple.same ∙ (dot_comm (scale (pos p.multiple.times) stored) v ∙ (dot-scale v (pos p.multiple.times) stored ∙ ap (λ (z : ℤ). pos p.multiple.times *ℤ z) (dot_comm v stored)))

  stored_sign : SameSign (dot row v) (dot stored v)
  stored_sign = same_sign (pos 1) (pos p.multiple.times) (dot row v) (dot stored v) (omega (arith, ints)) (positive_times p.multiple.times p.multiple.positive) (one_times (dot row v) (pos p.multiple.times *ℤ dot stored v) value)

  written_sign : SameSign (dot stored v) (dot row v)
  written_sign = same_sign (pos p.multiple.times) (pos 1) (dot stored v) (dot row v) (positive_times p.multiple.times p.multiple.positive) (omega (arith, ints)) (times_one (dot row v) (pos p.multiple.times *ℤ dot stored v) value)

satisfied : (v : List ℤ) (c d : Constraint) → IsWritten c d → Satisfies v c ↔ Satisfies v d
satisfied v c d is = (
  λ h. subst (λ (k : ConKind). Allows k (dot d.0 v)) (sym is.kind) (Allows-same_sign c.1 (dot c.0 v) (dot d.0 v) (stored_sign c.0 d.0 v is.multiple) h),
  λ h. Allows-same_sign c.1 (dot d.0 v) (dot c.0 v) (written_sign c.0 d.0 v is.multiple) (subst (λ (k : ConKind). Allows k (dot d.0 v)) is.kind h),
)

all_satisfied : (v : List ℤ) (cs ds : List Constraint) → AreRelated IsWritten cs ds → All (Satisfies v) ds ↔ All (Satisfies v) cs
all_satisfied v [] [] h = (λ a. a, λ a. a)
all_satisfied v [] (d ∷ ds) h = absurd h
all_satisfied v (c ∷ cs) [] h = absurd h
all_satisfied v (c ∷ cs) (d ∷ ds) h =
    let one = satisfied v c d h.0 in
    let rest = all_satisfied v cs ds h.1 in (
      λ a. All-cons (Satisfies v) c cs (one.1 (All-head (Satisfies v) d ds a)) (rest.0 (All-tail (Satisfies v) d ds a)),
      λ a. All-cons (Satisfies v) d ds (one.0 (All-head (Satisfies v) c cs a)) (rest.1 (All-tail (Satisfies v) c cs a)),
    )

-- a constraint of the one list is strict where that of the other is
same_strict : (cs ds : List Constraint) → AreRelated IsWritten cs ds → All (λ (d : Constraint). d.1 ≢ Gt) ds → All (λ (c : Constraint). c.1 ≢ Gt) cs
same_strict [] [] h each = All-nil (λ (c : Constraint). c.1 ≢ Gt)
same_strict [] (d ∷ ds) h each = absurd h
same_strict (c ∷ cs) [] h each = absurd h
same_strict (c ∷ cs) (d ∷ ds) h each =
    All-cons (λ (c : Constraint). c.1 ≢ Gt) c cs (λ e. All-head (λ (d : Constraint). d.1 ≢ Gt) d ds each (h.0.kind ∙ e))
    (same_strict cs ds h.1 (All-tail (λ (d : Constraint). d.1 ≢ Gt) d ds each))

cons_alone : (dim : ℕ) (text : List ℕ) (system : Constraints) (m : Matches (alone cons_cases) text) → IsConsOf dim (alone_by cons_cases cons_by text m) system → SaysConstraints dim text system
cons_alone dim text system (b1, w1, e1, before, (x, b2, e2, is, behind)) h =
    let q : HaveRelated (AreConstraints dim) IsWritten x system.list = cons_law dim x is system.list (good_cons dim (cons_by x is) system.list h.within h.stay h.list) in
    record {
      list = q.elements;
      is_text = record { pieces = q.are.pieces; split = alone_tokens q.are.pieces text b1 w1 x b2 e1 before e2 behind q.are.split; means = q.are.means };
      same = λ v. all_satisfied v q.elements system.list q.related;
      kinds = λ nnc lack closed. same_strict q.elements system.list q.related (lack closed);
    }

-- a list of constraints that a text means
pub constraints_text : (dim : ℕ) (text : List ℕ) (system : Constraints) → IsCons dim text system → SaysConstraints dim text system
constraints_text dim text system s = cons_alone dim text system s.form s.holds
