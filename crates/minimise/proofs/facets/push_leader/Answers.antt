use Rattle.std.proofs.Common.{ℕ, ◌<◌, ◌≤◌, List, length, ◌++◌, ◌∷◌, [], sym, ◌∙◌, subst, arith, slice_index_or}
use Rattle.std.proofs.lemmas.Bool.{false≢true}
use Rattle.std.proofs.lemmas.List.Elements.{All-push, All-same}
use Rattle.sat_matrix.specs.Tables.{bits_of, IsWithinSome}
use Rattle.sat_matrix.specs.Counts.{ones}
use Rattle.minimise.specs.Facets.{IsUneven}
use Rattle.minimise.proofs.FacetLemmas.{apart_more, led_more, led_by_itself}
use Rattle.minimise.proofs.facets.push_leader.Goals as goal

pub returns-clause-uneven : goal.returns-clause-uneven
returns-clause-uneven c =
    let rows = c.args.table.now.rows in
    All-same (IsUneven c.args.table.now.rows) c.push.new.self.items (c.args.places.now.items ++ c.args.row ∷ []) c.in_ok-push.ensures.items
    (All-push (IsUneven rows) c.args.places.now.items c.args.row c.requires.uneven c.requires.row)

pub returns-clause-apart : goal.returns-clause-apart
returns-clause-apart c =
    let wide = c.columns.ensures.rectangular in
    apart_more c.args.table.now.rows c.args.places.now.items c.push.new.self.items c.args.row c.in_ok-push.ensures.items c.requires.apart
    (λ l. false≢true (sym c.if-is_within_some.false ∙ c.is_within_some.ensures.1 (subst (λ (ps : List ℕ). IsWithinSome c.args.table.now.rows c.args.row ps) (sym c.deref.ensures.value) l)))
    (λ q h. wide (slice_index_or c.args.places.now.items q 0) (c.requires.uneven q 0 h).0 ∙ sym (wide c.args.row c.requires.row.0)) (λ q h. c.requires.no_longer q 0 h)

pub returns-clause-no_longer : goal.returns-clause-no_longer
returns-clause-no_longer c =
    let P : ℕ → Type 0 = λ p. ones (bits_of c.args.table.now.rows c.args.row) ≤ ones (bits_of c.args.table.now.rows p) in
    All-same P c.push.new.self.items (c.args.places.now.items ++ c.args.row ∷ []) c.in_ok-push.ensures.items
    (All-push P c.args.places.now.items c.args.row c.requires.no_longer (omega arith))

pub returns-clause-others : goal.returns-clause-others
returns-clause-others c = led_more c.args.table.now.rows c.args.places.now.items c.push.new.self.items c.args.row c.in_ok-push.ensures.items

pub returns-clause-led : goal.returns-clause-led
returns-clause-led c = led_by_itself c.args.table.now.rows c.args.places.now.items c.push.new.self.items c.args.row c.in_ok-push.ensures.items

pub returns-clause-at_most_one : goal.returns-clause-at_most_one
returns-clause-at_most_one c = omega (arith, c.in_ok-push.ensures.len)

pub is_within_some-requires-clause-among : goal.is_within_some-requires-clause-among
is_within_some-requires-clause-among c =
    let P : List ℕ → Type 0 = λ places. (q : ℕ) → q < length places → slice_index_or places q 0 < length c.args.table.now.rows in
    subst P (sym c.deref.ensures.value) (λ q h. (c.requires.uneven q 0 h).0)

pub returns-then-is_within_some-clause-led : goal.returns-then-is_within_some-clause-led
returns-then-is_within_some-clause-led c =
    let P : List ℕ → Type 0 = λ places. IsWithinSome c.args.table.now.rows c.args.row places in
    subst P c.deref.ensures.value (c.is_within_some.ensures.0 c.if-is_within_some.true)
