use Rattle.std.specs.Prelude.{◌≡◌, ℕ, ◌<◌}
use Rattle.std.proofs.Common.{arith, sym, ap, subst}
use Rattle.difference_bounds.specs.Tables.{Table, bounds_of}
use Rattle.difference_bounds.proofs.WordLemmas.{word_within}
use Rattle.difference_bounds.proofs.PlaceWords.{place_fits, row_fits, word_below, word_read}
use Rattle.difference_bounds.proofs.table.BoundTable.word.Goals as goal

pub overflow_mul-i : goal.overflow_mul-i
overflow_mul-i c = row_fits c.self.inside.places c.args.i c.self.invariant.table.few (subst (λ (n : ℕ). c.args.i < n) (sym (ap (λ (t : Table). t.places) c.self.view_is)) c.requires.row)

pub overflow_add-i : goal.overflow_add-i
overflow_add-i c =
    let same : c.args.self.now.places ≡ c.self.inside.places = sym (ap (λ (t : Table). t.places) c.self.view_is) in
    place_fits c.self.inside.places c.args.i c.args.j c.self.invariant.table.few (subst (λ (n : ℕ). c.args.i < n) same c.requires.row) (subst (λ (n : ℕ). c.args.j < n) same c.requires.column)

pub index-requires : goal.index-requires
index-requires c =
    let s = c.self.inside in
    let same : c.args.self.now.places ≡ s.places = sym (ap (λ (t : Table). t.places) c.self.view_is) in
    let below = word_below _ c.args.self.now s.words.items s.fractions.items s.places c.args.i c.args.j c.self.invariant c.self.view_is same (subst (λ (n : ℕ). c.args.i < n) same c.requires.row) (subst (λ (n : ℕ). c.args.j < n) same c.requires.column) in
    omega (arith, below, s.words.ok)

pub returns-clause-word : goal.returns-clause-word
returns-clause-word c =
    let s = c.self.inside in
    let same : c.args.self.now.places ≡ s.places = sym (ap (λ (t : Table). t.places) c.self.view_is) in
    word_read _ c.args.self.now s.words.items s.fractions.items s.places c.args.i c.args.j c.self.invariant c.self.view_is same (subst (λ (n : ℕ). c.args.i < n) same c.requires.row) (subst (λ (n : ℕ). c.args.j < n) same c.requires.column) c.index.result.now c.index.ensures

pub returns-clause-within : goal.returns-clause-within
returns-clause-within c = word_within (bounds_of c.args.self.now c.args.i c.args.j) _ (returns-clause-word c)
