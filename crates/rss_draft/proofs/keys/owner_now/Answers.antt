use Rattle.std.proofs.Common.{sym, ◌∙◌}
use Rattle.std.proofs.lemmas.Result.{IfOk-weaker}
use Rattle.rss_base.specs.Listings.{image_at}
use Rattle.rss_base.proofs.Steps.{done, rests}
use Rattle.rss_model.proofs.LogLists.{some_of}
use Rattle.rss_access.specs.Changes.{both}
use Rattle.rss_draft.specs.Views.{said}
use Rattle.rss_draft.proofs.OwnersNow.{owner_said, owner_saved}
use Rattle.rss_draft.proofs.Searched.{searches_call, lacks_memory}
use Rattle.rss_draft.proofs.keys.owner_now.Goals as goal

pub returns-in_default-clause-did : goal.returns-in_default-clause-did
returns-in_default-clause-did g c = lacks_memory {most = 0} (rests _)

pub returns-in-Some-clause-owner : goal.returns-in-Some-clause-owner
returns-in-Some-clause-owner g c =
    owner_said (both (g.P.Pages.view c.args.tuples.now.pages) c.args.catalog.now) (said c.args.draft.now) c.args.number c.args.values.now c.in-Ok.key c.in-Ok.ensures c.in-Some.said (sym c.owner.ensures ∙ c.in-Some.is)

pub returns-in-Some-clause-did : goal.returns-in-Some-clause-did
returns-in-Some-clause-did g c = searches_call {most = 0} (done _ (rests _))

pub returns-clause-owner : goal.returns-clause-owner
returns-clause-owner g c = IfOk-weaker c.find_owner.result _ _ (λ found finds.
    owner_saved (both (g.P.Pages.view c.args.tuples.now.pages) c.args.catalog.now) (said c.args.draft.now) c.args.number c.args.values.now c.in-Ok.key c.in-Ok.ensures (sym c.owner.ensures ∙ c.in-None.is) found finds) c.find_owner.ensures.owner

pub returns-clause-did : goal.returns-clause-did
returns-clause-did g c =
    let some = some_of (image_at c.args.catalog.now.listing c.args.number) c.requires.there in
    searches_call (c.find_owner.ensures.did some.0 some.1)
