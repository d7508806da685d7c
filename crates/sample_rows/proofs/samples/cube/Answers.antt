use Rattle.std.proofs.Common.{[], refl, sym, subst}
use Rattle.sample_rows.proofs.StoredRows.{AreStored, none_stored, stored_more}
use Rattle.sample_rows.proofs.samples.cube.Goals as goal

pub returns-clause-list : goal.returns-clause-list
returns-clause-list c =
    let none = subst (AreStored []) (sym c.new-cons.ensures.empty) none_stored in
    let first = stored_more _ _ _ _ _ none refl c.in_ok-push.ensures.list in
    let second = stored_more _ _ _ _ _ first refl c.in_ok-push-2.ensures.list in
    let third = stored_more _ _ _ _ _ second refl c.in_ok-push-3.ensures.list in
    let fourth = stored_more _ _ _ _ _ third refl c.in_ok-push-4.ensures.list in
    let fifth = stored_more _ _ _ _ _ fourth refl c.in_ok-push-5.ensures.list in
    stored_more _ _ _ _ _ fifth refl c.in_ok-push-6.ensures.list
