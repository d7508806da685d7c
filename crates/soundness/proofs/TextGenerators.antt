-- Lists of generators: those of the cases span the points of those that are stored.
use Rattle.std.proofs.Common.{◌≡◌, ◌≢◌, ℕ, ◌^◌, ◌<◌, List, [], ◌∷◌, ◌++◌, zero, suc, ℤ, refl, ap, ◌∙◌, subst, inl, inr}
use Rattle.std.specs.Prelude.{All, codes}
use Rattle.std.proofs.lemmas.List.Elements.{All-nil, All-cons, All-head, All-tail}
use Rattle.grammar.specs.Form.{Matches, Times}
use Rattle.grammar.specs.Grammar.{◌·◌, ◌⋯◌, symbol, blanks, alone}
use Rattle.grammar.specs.Cases.{gen_cases, gens_cases}
use Rattle.gens_sys.specs.Generators.{Generator, Generators}
use Rattle.gens_sys.specs.declared.kind.GenKind.TheVariants.{Line, Ray, ClosurePoint}
use Rattle.term_text.specs.Terms.{AreWithin}
use Rattle.term_text.specs.Values.{alone_by}
use Rattle.expr_text.specs.Generators.{GeneratorTerms, gen_by, gens_by, further_gens_by}
use Rattle.expr_text.specs.GeneratorSystems.{VectorStays, IsVector, HasDivisor, IsGensOf, IsGens}
use Rattle.expr_text.specs.GeneratorSystems as stored_gens
use Rattle.soundness.specs.TextsSystems as systems
use Rattle.soundness.specs.TextsSystems.{IsGenerator, AreListed, AreGenerators}
use Rattle.soundness.proofs.PointLaws.{SaysGenerators}
use Rattle.soundness.proofs.TextTokens.{token_is, alone_tokens}
use Rattle.soundness.proofs.TextSums.{IsShort}
use Rattle.soundness.proofs.TextValues.{Is, point_law, enclosed_over, enclosed_direction}
use Rattle.soundness.proofs.ScaledGenerators.{IsScaled, scaled_span, behind_own}
use Rattle.soundness.proofs.TextLists.{AreRelated, HasRelated, HaveRelated, further_of, listed_law}

-- the generator can be read, and this is what is stored of it
pub record IsGood (dim : ℕ) (g : GeneratorTerms) (stored : Generator) : Type 0 where
  pub within : AreWithin dim g.terms
  pub short : All IsShort g.terms
  pub low : g.last < 2 ^ 127
  pub positive : HasDivisor g.kind g.last
  pub is : stored_gens.IsStored dim g stored

good_gens : (dim : ℕ) (gs : List GeneratorTerms) (stored : List Generator) → stored_gens.AllWithin dim gs → stored_gens.AllStay dim gs → stored_gens.AllHaveDivisors gs → stored_gens.AreStored dim gs stored → AreRelated (IsGood dim) gs stored
good_gens dim [] [] within stay divisors h = tt
good_gens dim [] (r ∷ rs) within stay divisors h = absurd h
good_gens dim (g ∷ gs) [] within stay divisors h = absurd h
good_gens dim (g ∷ gs) (r ∷ rs) within stay divisors h =
    let here : VectorStays dim g.terms g.last = All-head (λ (g : GeneratorTerms). VectorStays dim g.terms g.last) g gs stay in (
      record {
        within = All-head (λ (g : GeneratorTerms). AreWithin dim g.terms) g gs within;
        short = here.terms.numbers;
        low = here.last_entry;
        positive = All-head (λ (g : GeneratorTerms). HasDivisor g.kind g.last) g gs divisors;
        is = h.0;
      },
      good_gens dim gs rs (All-tail (λ (g : GeneratorTerms). AreWithin dim g.terms) g gs within) (All-tail (λ (g : GeneratorTerms). VectorStays dim g.terms g.last) g gs stay) (All-tail (λ (g : GeneratorTerms). HasDivisor g.kind g.last) g gs divisors) h.1,
    )

further_same : (n : ℕ) (w : List ℕ) (m : Times (Matches (blanks · (symbol 44 ⋯ gen_cases))) n w) → further_gens_by n w m ≡ further_of gen_cases gen_by n w m
further_same zero w none = refl
further_same (suc n) w (u, v, e, (b1, w1, e1, blanks1, (comma, w2, e2, is_comma, (b2, x, e3, blanks2, is))), others) = ap (λ (gs : List GeneratorTerms). gen_by x is ∷ gs) (further_same n v others)

module _ (dim : ℕ) where
  gen_is : (w : List ℕ) (m : Matches gen_cases w) (row : List ℤ) → AreWithin dim (gen_by w m).terms → All IsShort (gen_by w m).terms → (gen_by w m).last < 2 ^ 127 → HasDivisor (gen_by w m).kind (gen_by w m).last → IsVector dim (gen_by w m).terms (gen_by w m).last row → Is (IsGenerator dim) w (row, (gen_by w m).kind)
  gen_is w (inl point) row within short low positive v = point_law dim w point row within short low positive v.wide v.coordinates v.last_cell
  gen_is w (inr (inl closure_point)) row within short low positive v = enclosed_over dim (codes "c(") ClosurePoint systems.closure_point w closure_point row within short low positive v.wide v.coordinates v.last_cell
  gen_is w (inr (inr (inl ray))) row within short low positive v = enclosed_direction dim (codes "r(") Ray systems.ray w ray row within short v.wide v.coordinates v.last_cell
  gen_is w (inr (inr (inr line_text))) row within short low positive v = enclosed_direction dim (codes "l(") Line systems.straight w line_text row within short v.wide v.coordinates v.last_cell

  gen_element : (w : List ℕ) (m : Matches gen_cases w) (stored : Generator) → IsGood dim (gen_by w m) stored → HasRelated (IsGenerator dim) IsScaled w stored
  gen_element w m stored g = record {
    element = (g.is.row, (gen_by w m).kind);
    is = gen_is w m g.is.row g.within g.short g.low g.positive g.is.sums;
    related = record { multiple = g.is.primitive.multiple; kind = g.is.kind };
  }

  gens_law : (w : List ℕ) (m : Matches gens_cases w) (stored : List Generator) → AreRelated (IsGood dim) (gens_by w m) stored → HaveRelated (AreGenerators dim) IsScaled w stored
  gens_law w (inl no_generator) [] good = record {
    elements = [];
    are = record { pieces = codes "none" ∷ []; split = token_is w (codes "none") no_generator; means = systems.no_generator };
    related = tt;
  }
  gens_law w (inl no_generator) (r ∷ rs) good = absurd good
  gens_law w (inr (first, v, e, is_first, (n, others))) stored good =
      let h : HaveRelated (AreListed (IsGenerator dim)) IsScaled w stored = listed_law gen_cases gen_by (IsGenerator dim) IsScaled (IsGood dim) gen_element n w first v is_first others e stored
      (subst (λ (gs : List GeneratorTerms). AreRelated (IsGood dim) (gen_by first is_first ∷ gs) stored) (further_same n v others) good) in
      record { elements = h.elements; are = record { pieces = h.are.pieces; split = h.are.split; means = systems.generators h.are.pieces h.elements h.are.means }; related = h.related }

-- a generator of the one list is a closure point where that of the other is
same_closure_points : (gs hs : List Generator) → AreRelated IsScaled gs hs → All (λ (h : Generator). h.1 ≢ ClosurePoint) hs → All (λ (g : Generator). g.1 ≢ ClosurePoint) gs
same_closure_points [] [] related each = All-nil (λ (g : Generator). g.1 ≢ ClosurePoint)
same_closure_points [] (h ∷ hs) related each = absurd related
same_closure_points (g ∷ gs) [] related each = absurd related
same_closure_points (g ∷ gs) (h ∷ hs) related each =
    All-cons (λ (g : Generator). g.1 ≢ ClosurePoint) g gs (λ e. All-head (λ (h : Generator). h.1 ≢ ClosurePoint) h hs each (related.0.kind ∙ e))
    (same_closure_points gs hs related.1 (All-tail (λ (h : Generator). h.1 ≢ ClosurePoint) h hs each))

gens_alone : (dim : ℕ) (text : List ℕ) (system : Generators) (m : Matches (alone gens_cases) text) → IsGensOf dim (alone_by gens_cases gens_by text m) system → SaysGenerators dim text system
gens_alone dim text system (b1, w1, e1, before, (x, b2, e2, is, behind)) h =
    let q : HaveRelated (AreGenerators dim) IsScaled x system.list = gens_law dim x is system.list (good_gens dim (gens_by x is) system.list h.within h.stay h.divisors h.stored) in
    record {
      list = q.elements;
      is_text = record { pieces = q.are.pieces; split = alone_tokens q.are.pieces text b1 w1 x b2 e1 before e2 behind q.are.split; means = q.are.means };
      same = λ own v. scaled_span (record { dim = dim; list = own ++ q.elements }) (record { dim = dim; list = own ++ system.list }) (behind_own own q.elements system.list q.related) v;
      kinds = λ nnc lack closed. same_closure_points q.elements system.list q.related (lack closed);
    }

-- a list of generators that a text means
pub generators_text : (dim : ℕ) (text : List ℕ) (system : Generators) → IsGens dim text system → SaysGenerators dim text system
generators_text dim text system s = gens_alone dim text system s.form s.holds
