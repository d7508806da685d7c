use Rattle.std.specs.Prelude.{◌≡◌, ℕ, ◌+◌, ◌*◌, ◌<◌, List, length, ℤ, None, slice_index_or}
use Rattle.std.proofs.lemmas.Nat.{mul-add-lt}
use Rattle.std.proofs.lemmas.List.{with_items_is}
use Rattle.std.proofs.Common.{arith, rules, ◌∙◌, ap, sym, subst}
use Rattle.difference_bounds.specs.Walks.{Bound}
use Rattle.difference_bounds.specs.Tables.{Table, bounds_of}
use Rattle.difference_bounds.specs.Laws.{IsGreater}
use Rattle.difference_bounds.specs.Words.{IsStored, AreRaised, cells_of}
use Rattle.difference_bounds.proofs.CellLemmas.{cell_greater, stored_raised}
use Rattle.difference_bounds.proofs.table.BoundTable.raise_words.Goals as goal

-- the tables are as large as each other
as_long : (s t : Table) (ws vs : List ℤ) (bs cs : List Bound) → IsStored s ws bs → IsStored t vs cs → s.places ≡ t.places → length vs ≡ length ws
as_long s t ws vs bs cs p q e = q.worded.full ∙ (q.table.full ∙ (sym (ap (λ (k : ℕ). k * k) e) ∙ sym (p.worded.full ∙ p.table.full)))

pub invariant_of-self : goal.invariant_of-self
invariant_of-self c =
    let m = c.self.inside.places in
    let ws = c.self.inside.words.items in
    let vs = c.other.inside.words.items in
    let zs = c.raise.new.left in
    let bs = c.self.inside.fractions.items in
    let cs = c.other.inside.fractions.items in
    let same : m ≡ c.other.inside.places = ap (λ (t : Table). t.places) c.self.view_is ∙ (sym c.requires ∙ sym (ap (λ (t : Table). t.places) c.other.view_is)) in
    let lv : length vs ≡ length ws = as_long _ _ ws vs bs cs c.self.invariant c.other.invariant same in
    let lz : length zs ≡ length ws = c.raise.ensures.full ∙ ap length c.deref_mut.ensures.value in
    let eb : length bs ≡ 0 = search rules in
    let ec : length cs ≡ 0 = search rules in
    let raised : AreRaised ws vs zs = subst (λ (xs : List ℤ). AreRaised xs vs zs) c.deref_mut.ensures.value (subst (λ (xs : List ℤ). AreRaised c.deref_mut.result.now xs zs) c.deref.ensures.value c.raise.ensures.raised) in
    let is = with_items_is c.self.inside.words zs (omega (arith, lz, c.self.inside.words.ok)) in
    subst (λ (xs : List ℤ). IsStored (record { places = m; cells = cells_of xs bs }) xs bs) (sym is) (stored_raised m ws vs zs bs cs c.self.invariant c.other.invariant.worded eb ec lv lz raised)

pub returns-clause-raised : goal.returns-clause-raised
returns-clause-raised c = λ t i j li lj.
    let m = c.self.inside.places in
    let ws = c.self.inside.words.items in
    let vs = c.other.inside.words.items in
    let zs = c.raise.new.left in
    let bs = c.self.inside.fractions.items in
    let cs = c.other.inside.fractions.items in
    let here : m ≡ c.args.self.now.places = ap (λ (t : Table). t.places) c.self.view_is in
    let same : m ≡ c.other.inside.places = here ∙ (sym c.requires ∙ sym (ap (λ (t : Table). t.places) c.other.view_is)) in
    let lv : length vs ≡ length ws = as_long _ _ ws vs bs cs c.self.invariant c.other.invariant same in
    let lz : length zs ≡ length ws = c.raise.ensures.full ∙ ap length c.deref_mut.ensures.value in
    let eb : length bs ≡ 0 = search rules in
    let ec : length cs ≡ 0 = search rules in
    let raised : AreRaised ws vs zs = subst (λ (xs : List ℤ). AreRaised xs vs zs) c.deref_mut.ensures.value (subst (λ (xs : List ℤ). AreRaised c.deref_mut.result.now xs zs) c.deref.ensures.value c.raise.ensures.raised) in
    let is = with_items_is c.self.inside.words zs (omega (arith, lz, c.self.inside.words.ok)) in
    let within : i * m + j < m * m = mul-add-lt i m j m (subst (λ (n : ℕ). i < n) (sym here) li) (subst (λ (n : ℕ). j < n) (sym here) lj) in
    let below : i * m + j < length ws = omega (arith, within, c.self.invariant.table.full, c.self.invariant.worded.full) in
    let greater = cell_greater m ws vs zs bs cs c.self.invariant c.other.invariant.worded eb ec lv lz raised (i * m + j) below in
    let there : slice_index_or (cells_of vs cs) (i * m + j) None ≡ bounds_of c.args.other.now i j = ap (λ (n : ℕ). slice_index_or (cells_of vs cs) (i * n + j) None) same ∙ ap (λ (t : Table). bounds_of t i j) c.other.view_is in
    subst (λ (xs : List ℤ). IsGreater (bounds_of c.args.self.now i j) (bounds_of c.args.other.now i j) (slice_index_or (cells_of xs bs) (i * m + j) None)) (sym is)
    (subst (λ (b : Bound). IsGreater b (bounds_of c.args.other.now i j) (slice_index_or (cells_of zs bs) (i * m + j) None)) (ap (λ (t : Table). bounds_of t i j) c.self.view_is)
    (subst (λ (b : Bound). IsGreater (slice_index_or (cells_of ws bs) (i * m + j) None) b (slice_index_or (cells_of zs bs) (i * m + j) None)) there greater))
