use Rattle.std.proofs.Common.{refl, sym, subst}
use Rattle.flat_rows.specs.Flat.{AreCells}
use Rattle.flat_rows.proofs.Flat.{cells_seen, lent_seen}
use Rattle.flat_rows.proofs.rows.FlatRows.cells_mut.Goals as goal

pub returns : goal.returns
returns g c =
    let long = sym c.self.inside.cells.ok.0 in (
      (refl, λ w. lent_seen _ _ _ _ _ c.self.inside.cells.items w _ c.self.invariant long c.self.view_is),
      record {
        writes_back = tt;
        cells = subst (AreCells c.args.self.now) (sym c.as_mut_slice.ensures.value) (cells_seen _ _ _ _ _ _ _ c.self.invariant long c.self.view_is);
      },
    )
