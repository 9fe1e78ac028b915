-- What the call below does, with the tables that the pages have then.
use Rattle.std.proofs.Common.{arith}
use Rattle.rss_base.specs.declared.place.Place.TheVariants.{Link as LinkPlace}
use Rattle.rss_access.specs.Changes.{both}
use Rattle.rss_access.proofs.ChainMade.{may_relink, no_room_fails, link_there, ends_back, relists_off, takes_two, spare_kept, heap_touched, listed_link_of, alters_chain, chain_fails, chain_ends, still_off, disconnect_misfits_at}
use Rattle.rss_access.proofs.chains.take_out.Goals as goal

pub returns-in_err-try_room : goal.returns-in_err-try_room
returns-in_err-try_room g c = no_room_fails _ _ c.from_residual.ensures.1 c.in_err-try_room.ensures.place (λ tuple. tuple) c.in_err-try_room.ensures.none

pub disconnect-requires : goal.disconnect-requires
disconnect-requires g c = may_relink (both (g.P.Pages.view c.args.tuples.now.pages) c.args.catalog.now) (g.met.P.Pages.few_slots c.args.tuples.now.pages) c.requires

pub returns-in_err-disconnect : goal.returns-in_err-disconnect
returns-in_err-disconnect g c =
    let relinks = c.in_err-disconnect.ensures.relinks in
    chain_fails _ _ c.from_residual-in_err-disconnect.ensures.1 relinks.did.step relinks.unlisted relinks.did.failed relinks.did.memory
    (λ place is told has. disconnect_misfits_at c.args.membership (g.met.P.Pages.few_slots c.args.tuples.now.pages) (c.in_err-disconnect.ensures.none place is told)) relinks.kept

pub settle-requires-clause-listed : goal.settle-requires-clause-listed
settle-requires-clause-listed g c =
    let relinks = c.in_ok-disconnect.ensures.relinks in
    let listed = listed_link_of relinks in
    link_there listed.1 (relinks.lists listed.0 listed.1)

pub returns : goal.returns
returns g c =
    let relinks = c.in_ok-disconnect.ensures.relinks in
    let listed = listed_link_of relinks in
    let ends = relinks.lists listed.0 listed.1 in
    let m = c.args.membership in
    let step = relinks.did.step in
    let alters = alters_chain (g.met.P.Pages.few_slots c.args.tuples.now.pages) c.in_ok-try_room.ensures.room relinks c.in_ok-disconnect.ensures.disconnects in
    let before = g.met.P.Pages.are_counted c.args.tuples.now.pages in
    let after = g.met.P.Pages.are_counted c.disconnect.new.tuples.pages in
    let heap = heap_touched c.args.catalog.now.listing m.link in
    chain_ends (LinkPlace m.link) c.settle.result step alters (still_off m step c.requires alters) (relists_off listed.1 ends m.parent m.left m.child)
    (λ room. takes_two heap step before after (omega (arith, room, c.of-before.ensures.spare)))
    (λ told. omega (arith, spare_kept heap step before after (relinks.takes told), c.of-before.ensures.spare))
    c.settle.ensures.room c.settle.ensures.same c.settle.ensures.taken (ends_back c.args.catalog.now c.disconnect.new.catalog c.settle.new.catalog c.settle.result listed.1 ends (c.of-before.ensures.ends listed.0 listed.1) c.settle.ensures.back)
