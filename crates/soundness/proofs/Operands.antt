-- What the tests of a command say of its operands.
use Rattle.std.proofs.Common.{◌≡◌, ◌≢◌, ℕ, ◌+◌, ◌<◌, ◌≤◌, List, [], ◌∷◌, All, Bool, true, false, refl, ap, inl, inr, arith}
use Rattle.std.proofs.lemmas.List.Elements.{All-nil, All-cons, All-head, All-tail}
use Rattle.std.proofs.lemmas.Bool.{cases_lt}
use Rattle.poly_pair.specs.Polyhedra.{Polyhedron}
use Rattle.poly_pair.specs.declared.topology.Topology.{Topology}
use Rattle.poly_pair.specs.declared.topology.Topology.TheVariants.{Closed, Nnc}
use Rattle.script_text.specs.declared.command.Operator.{Operator}
use Rattle.line_values.specs.Order.{Conditions, Passes}
use Rattle.line_values.specs.Meaning.{alike}
use Rattle.poly_makers.specs.Operators.{adds_dims, fitting_by, fitting, FitDimsBy, Fits}
use Rattle.soundness.specs.Points.{AreAlike}
use Rattle.soundness.proofs.PointLaws.{is_nnc, set_of}

pub one_topology : (s t : Topology) → ¬ (s ≢ t) → s ≡ t
one_topology Closed Closed h = refl
one_topology Nnc Nnc h = refl
one_topology Closed Nnc h = absurd (h (λ e. cc))
one_topology Nnc Closed h = absurd (h (λ e. cc))

pub at_most : (m n : ℕ) → ¬ (m < n) → n ≤ m
at_most m n h =
    elim (cases_lt m n) [
      | inl less ↦ absurd (h less)
      | inr least ↦ omega (arith, least)
    ]

pub below : (m n : ℕ) → ¬ (m ≤ n) → n < m
below m n h =
    elim (cases_lt n m) [
      | inl less ↦ less
      | inr least ↦ absurd (h (omega (arith, least)))
    ]

pub no_less : (m n : ℕ) → m ≤ n → n < m → ⊥
no_less m n most less = omega (arith, most, less)

pub one_number : (m n : ℕ) → ¬ (m ≢ n) → m ≡ n
one_number m n h =
    elim (cases_lt m n) [
      | inl less ↦ absurd (h (λ e. omega (arith, less, e)))
      | inr least ↦ elim (cases_lt n m) [
        | inl more ↦ absurd (h (λ e. omega (arith, more, e)))
        | inr most ↦ omega (arith, least, most)
      ]
    ]

-- what isn't false of all elements is true of each
pub all_of : {A : Type 0} (P : A → Type 0) → ((a : A) → ¬ (¬ (P a)) → P a) → (xs : List A) → ¬ (¬ (All P xs)) → All P xs
all_of P decide [] h = All-nil P
all_of P decide (x ∷ xs) h = All-cons P x xs (decide x (λ n. h (λ all. n (All-head P x xs all)))) (all_of P decide xs (λ n. h (λ all. n (All-tail P x xs all))))

-- numbers of which none is too large
pub all_below : (dim : ℕ) (vars : List ℕ) → ¬ (¬ (All (λ (i : ℕ). i < dim) vars)) → All (λ (i : ℕ). i < dim) vars
all_below dim vars h = all_of (λ (i : ℕ). i < dim) (λ v n. below dim v (λ most. n (no_less dim v most))) vars h

-- two polyhedra
pub are_alike : (p q : Polyhedron) (others : Conditions) → Passes (alike p q others) → AreAlike (set_of p) (set_of q)
are_alike p q others passes = record { kind = ap is_nnc (one_topology p.topology q.topology passes.1.0); variables = one_number p.cons.dim q.cons.dim passes.1.1.1.0 }

-- those of an operator
fit_by : (adds : Bool) (p q : Polyhedron) (others : Conditions) → Passes (fitting_by adds p q others) → (p.topology ≡ q.topology) × FitDimsBy adds p q
fit_by true p q others passes = (one_topology p.topology q.topology passes.1.0, at_most _ (p.cons.dim + q.cons.dim) passes.1.1.1.1.0)
fit_by false p q others passes = (one_topology p.topology q.topology passes.1.0, one_number p.cons.dim q.cons.dim passes.1.1.1.0)

pub fit_operator : (op : Operator) (p q : Polyhedron) (others : Conditions) → Passes (fitting op p q others) → Fits op p q
fit_operator op p q others passes = fit_by (adds_dims op) p q others passes
