use Rattle.std.specs.Prelude.{◌≡◌, ◌++◌, ◌∷◌, [], ℤ}
use Rattle.std.proofs.Common.{ap, ◌∙◌}
use Rattle.std.proofs.lemmas.List.Elements.{All-same}
use Rattle.flat_rows.specs.Flat.{Flat}
use Rattle.row_core.specs.Lists.{Row}
use Rattle.row_store.specs.Vectors.{with_mark}
use Rattle.row_store.proofs.MarkedVectors.{pushed_seen, bits_pushed}
use Rattle.row_core.proofs.RowListLemmas.{marked_push}
use Rattle.row_store.proofs.vectors.VectorList.push.Goals as goal

pub returns-clause-rows : goal.returns-clause-rows
returns-clause-rows c =
    pushed_seen c.self.inside.eq c.args.eq c.self.inside.store c.args.self.now c.push_reserved.new.self.rows c.args.row.now c.self.view_is c.requires.alike (c.push_reserved.ensures.rows ∙ ap (λ (s : Flat ℤ). s.rows ++ c.args.row.now ∷ []) c.in_ok-reserve.ensures.ok)

pub returns-clause-marked : goal.returns-clause-marked
returns-clause-marked c =
    let rows : with_mark c.args.eq c.push_reserved.new.self.rows ≡ c.args.self.now.rows ++ (c.args.row.now, c.args.eq) ∷ [] =
    pushed_seen c.self.inside.eq c.args.eq c.self.inside.store c.args.self.now c.push_reserved.new.self.rows c.args.row.now c.self.view_is c.requires.alike (c.push_reserved.ensures.rows ∙ ap (λ (s : Flat ℤ). s.rows ++ c.args.row.now ∷ []) c.in_ok-reserve.ensures.ok) in
    All-same (λ (row : Row). row.1 ≡ c.args.eq) (with_mark c.args.eq c.push_reserved.new.self.rows) (c.args.self.now.rows ++ (c.args.row.now, c.args.eq) ∷ []) rows (marked_push c.args.eq c.args.self.now.rows c.args.row.now c.requires.alike)

pub invariant_of-self-2 : goal.invariant_of-self-2
invariant_of-self-2 c =
    bits_pushed c.self.inside.store.rows c.push_reserved.new.self.rows c.args.row.now c.self.inside.bits c.bits.result c.max-self-inside.result (c.push_reserved.ensures.rows ∙ ap (λ (s : Flat ℤ). s.rows ++ c.args.row.now ∷ []) c.in_ok-reserve.ensures.ok)
    c.max-self-inside.ensures c.self.invariant c.bits.ensures.within
