use Rattle.std.proofs.Common.{◌++◌, ◌∙◌, ap, codes}
use Rattle.std.specs.Map.{keys_of}
use Rattle.name_table.specs.Listing.{spaced}
use Rattle.name_table.proofs.ListingLemmas.{names_in, keys_named, one_more_name, all_names}
use Rattle.name_table.proofs.names.Names.push_names.Goals as goal

pub loop-name-init : goal.loop-name-init
loop-name-init g c =
    ap (λ ns. c.args.text.now ++ spaced ns) (ap names_in (c.into_iter-name-iterator.ensures.into_iter_gives ∙ c.keys-name-items.ensures.rest)
    ∙ (keys_named c.self.inside.entries.entries ∙ ap keys_of c.self.view_is))

pub loop-name-preserved : goal.loop-name-preserved
loop-name-preserved g c =
    one_more_name c.loop-name.text c.push-in-loop-name.new.self (c.args.text.now ++ spaced (keys_of c.args.self.now)) c.loop-name.name-iterator c.next.new.self c.in-Some.name.now c.in-Some.ensures.steps
    (c.in_ok-push-2.ensures ∙ (ap (λ w. w ++ c.as_slice.result.now) c.in_ok-push.ensures ∙ ap (λ w. (c.loop-name.text ++ codes " ") ++ w) c.as_slice.ensures.value))
    c.loop-name.invariant

pub returns : goal.returns
returns g c = all_names c.loop-name.text (c.args.text.now ++ spaced (keys_of c.args.self.now)) c.loop-name.name-iterator c.in-None.ensures.steps.0 c.loop-name.invariant
