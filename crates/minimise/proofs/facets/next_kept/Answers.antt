use Rattle.std.proofs.Common.{◌≡◌, List, ℕ, get_or, arith, sym, ◌∙◌, subst}
use Rattle.std.proofs.lemmas.Bool.{false≢true}
use Rattle.std.proofs.lemmas.List.{get_or_default}
use Rattle.sat_matrix.specs.Tables.{IsCoveredAmong}
use Rattle.minimise.specs.Facets.{AreKept}
use Rattle.minimise.proofs.KeptPlaces.{kept_more, kept_removed}
use Rattle.minimise.proofs.facets.next_kept.Goals as goal

pub covered_among-requires-clause-row : goal.covered_among-requires-clause-row
covered_among-requires-clause-row c = omega (arith, (c.requires.kept.uneven c.args.at c.index.result.now c.requires.at).0, c.index.ensures)

pub covered_among-requires-clause-among : goal.covered_among-requires-clause-among
covered_among-requires-clause-among c = λ q h. ((subst (λ (ps : List ℕ). AreKept c.args.table.now.rows ps c.args.at) (sym c.deref.ensures.value) c.requires.kept).uneven q 0 h).0

pub returns-then-not-covered_among-clause-kept : goal.returns-then-not-covered_among-clause-kept
returns-then-not-covered_among-clause-kept c =
    let items = c.args.places.now.items in
    let here : c.index.result.now ≡ get_or c.args.places.now.items c.args.at 0 = c.index.ensures ∙ get_or_default items c.args.at c.index.result.now 0 c.requires.at in
    kept_more c.args.table.now.rows items c.args.at c.requires.kept
    (λ l. false≢true (sym c.if-not-covered_among.true ∙ c.covered_among.ensures.1
    (subst (λ (ps : List ℕ). IsCoveredAmong c.args.table.now.rows c.index.result.now ps) (sym c.deref.ensures.value) (subst (λ (n : ℕ). IsCoveredAmong c.args.table.now.rows n c.args.places.now.items) (sym here) l))))

pub returns-clause-kept : goal.returns-clause-kept
returns-clause-kept c =
    let items = c.args.places.now.items in
    let here : c.index.result.now ≡ get_or c.args.places.now.items c.args.at 0 = c.index.ensures ∙ get_or_default items c.args.at c.index.result.now 0 c.requires.at in
    let covered : IsCoveredAmong c.args.table.now.rows c.index.result.now c.args.places.now.items =
    subst (λ (ps : List ℕ). IsCoveredAmong c.args.table.now.rows c.index.result.now ps) c.deref.ensures.value (c.covered_among.ensures.0 c.if-not-covered_among.false) in
    subst (λ (ps : List ℕ). AreKept c.args.table.now.rows ps c.args.at) (sym c.remove-place.ensures.items)
    (kept_removed c.args.table.now.rows c.args.table.now.columns items c.args.at c.columns-columns.ensures.rectangular c.requires.at c.requires.kept (subst (λ (n : ℕ). IsCoveredAmong c.args.table.now.rows n c.args.places.now.items) here covered))
