use Rattle.std.proofs.Common.{sym, ◌∙◌}
use Rattle.rss_base.proofs.Steps.{done, rests, then, then_call}
use Rattle.rss_draft.proofs.FoundAs.{used_link}
use Rattle.rss_draft.proofs.Looping.{over_then, alter_then}
use Rattle.rss_draft.proofs.PlacesFit.{connect_orphan, connect_absent, connect_decides}
use Rattle.rss_draft.proofs.Searched.{searches_call, search_fails}
use Rattle.rss_draft.proofs.fit.fits_connect.Goals as goal

pub returns-then-not-used-clause-did : goal.returns-then-not-used-clause-did
returns-then-not-used-clause-did g c = searches_call {most = 0} (done _ (rests _))

pub has_parent_now-requires-clause-listed : goal.has_parent_now-requires-clause-listed
has_parent_now-requires-clause-listed g c = sym (used_link c.args.catalog.now.listing c.args.link) ∙ sym c.used.ensures ∙ c.if-not-used.false

pub returns-then-not-under-clause-fits : goal.returns-then-not-under-clause-fits
returns-then-not-under-clause-fits g c = λ saved tables over looks has. connect_orphan has c.in_ok-under.under (c.in_ok-under.ensures.has saved tables over) c.if-not-under.true

pub link-requires : goal.link-requires
link-requires g c = sym (used_link c.args.catalog.now.listing c.args.link) ∙ sym c.used.ensures ∙ c.if-not-used.false

pub is_there_now-requires-clause-may : goal.is_there_now-requires-clause-may
is_there_now-requires-clause-may g c = alter_then c.in_ok-under.ensures.did.step c.requires

pub returns-in_err-there-clause-did : goal.returns-in_err-there-clause-did
returns-in_err-there-clause-did g c = search_fails _ c.from_residual-in_err-there.ensures.1 (searches_call (then_call c.in_ok-under.ensures.did.step c.in_err-there.ensures.did))

pub returns-then-not-there-clause-fits : goal.returns-then-not-there-clause-fits
returns-then-not-there-clause-fits g c = λ saved tables over looks has.
    connect_absent has c.in_ok-under.under (c.in_ok-under.ensures.has saved tables over) c.link.result.now c.link.ensures.is c.in_ok-there.there
    (c.in_ok-there.ensures.is saved tables (over_then c.in_ok-under.ensures.did.step over)) c.if-not-there.true

pub returns-then-not-there-clause-did : goal.returns-then-not-there-clause-did
returns-then-not-there-clause-did g c = searches_call (done _ (then c.in_ok-under.ensures.did.step c.in_ok-there.ensures.did.step))

pub stands_now-requires-clause-may : goal.stands_now-requires-clause-may
stands_now-requires-clause-may g c = alter_then (then c.in_ok-under.ensures.did.step c.in_ok-there.ensures.did.step) c.requires

pub returns-in_err-stands-clause-did : goal.returns-in_err-stands-clause-did
returns-in_err-stands-clause-did g c = search_fails _ c.from_residual-in_err-stands.ensures.1 (searches_call (then_call (then c.in_ok-under.ensures.did.step c.in_ok-there.ensures.did.step) c.in_err-stands.ensures.did))

pub returns-clause-fits : goal.returns-clause-fits
returns-clause-fits g c = λ saved tables over looks has.
    let step = then c.in_ok-under.ensures.did.step c.in_ok-there.ensures.did.step in
    connect_decides has c.in_ok-under.under (c.in_ok-under.ensures.has saved tables over) c.link.result.now c.link.ensures.is c.in_ok-there.there
    (c.in_ok-there.ensures.is saved tables (over_then c.in_ok-under.ensures.did.step over)) c.if-not-under.false c.if-not-there.false c.link.ensures.safe.child
    c.in_ok-stands.stands (c.in_ok-stands.ensures.is saved tables (over_then step over) looks)

pub returns-clause-did : goal.returns-clause-did
returns-clause-did g c = searches_call (done _ (then (then c.in_ok-under.ensures.did.step c.in_ok-there.ensures.did.step) c.in_ok-stands.ensures.did.step))
