use Rattle.std.proofs.Common.{rules, tests, ap, sym, subst, ◌∙◌}
use Rattle.std.specs.Prelude.{Option, None, is_some}
use Rattle.std.proofs.lemmas.Option.{same_Some}
use Rattle.rss_base.specs.Listings.{relation_at}
use Rattle.rss_base.specs.declared.tid.Tid.{Tid}
use Rattle.rss_base.specs.declared.image.ImageEntry.{ImageEntry}
use Rattle.rss_base.proofs.Steps.{done, rests}
use Rattle.rss_access.specs.Imaging.{IsOwner}
use Rattle.rss_draft.proofs.FreeNow.{taken_off, taken_none, taken_by}
use Rattle.rss_draft.proofs.Searched.{searches_call, search_fails, search_done}
use Rattle.rss_draft.proofs.free.is_taken_in.Goals as goal

pub returns-then-not-is_unique_of-clause-is : goal.returns-then-not-is_unique_of-clause-is
returns-then-not-is_unique_of-clause-is g c = λ saved tables over looks. taken_off c.is_unique_of.result c.is_unique_of.ensures c.if-not-is_unique_of.true

pub returns-then-not-is_unique_of-clause-did : goal.returns-then-not-is_unique_of-clause-did
returns-then-not-is_unique_of-clause-did g c = searches_call {most = 0} (done _ (rests _))

pub owner_now-requires-clause-there : goal.owner_now-requires-clause-there
owner_now-requires-clause-there g c = ap is_some (c.is_unique_of.ensures.0 c.if-not-is_unique_of.false).at

pub owner_now-requires-clause-spelled : goal.owner_now-requires-clause-spelled
owner_now-requires-clause-spelled g c = λ image relation listed.
    let u = c.is_unique_of.ensures.0 c.if-not-is_unique_of.false in
    c.requires.spelled relation (ap (relation_at c.args.catalog.now.listing) (sym u.of ∙ ap (λ (i : ImageEntry). i.relation) (same_Some _ _ (sym u.at ∙ listed.at))) ∙ listed.within)

pub returns-in_err-owner-clause-did : goal.returns-in_err-owner-clause-did
returns-in_err-owner-clause-did g c = search_fails _ c.from_residual.ensures.1 c.in_err-owner.ensures.did

pub returns-in-Some-clause-is : goal.returns-in-Some-clause-is
returns-in-Some-clause-is g c = λ saved tables over looks.
    taken_by c.requires.listed c.requires.spelled c.is_unique_of.result c.is_unique_of.ensures c.if-not-is_unique_of.false c.in-Some.owner
    (subst (λ (o : Option Tid). IsOwner tables c.args.catalog.now.listing c.args.image c.args.values.now None o) c.in-Some.is (c.in_ok-owner.ensures.owner saved tables over looks))
    _ (search (rules, tests))

pub returns-in-Some-clause-did : goal.returns-in-Some-clause-did
returns-in-Some-clause-did g c = search_done {most = 0} (rests _) c.in_ok-owner.ensures.did _

pub returns-in-None-clause-is : goal.returns-in-None-clause-is
returns-in-None-clause-is g c = λ saved tables over looks.
    taken_none (subst (λ (o : Option Tid). IsOwner tables c.args.catalog.now.listing c.args.image c.args.values.now None o) c.in-None.is (c.in_ok-owner.ensures.owner saved tables over looks))

pub returns-in-None-clause-did : goal.returns-in-None-clause-did
returns-in-None-clause-did g c = search_done {most = 0} (rests _) c.in_ok-owner.ensures.did _
