use Rattle.std.proofs.Common.{◌≡◌, ◌++◌, List, [], ◌∷◌, length, Some, refl, sym, ◌∙◌, ap, arith, length-append}
use Rattle.std.proofs.lemmas.Option.{same_Some}
use Rattle.rss_base.specs.Listings.{relation_at}
use Rattle.rss_base.specs.declared.link.LinkEntry.{LinkEntry}
use Rattle.rss_base.specs.declared.tid.Tid.{Tid}
use Rattle.rss_base.proofs.Steps as pages
use Rattle.rss_link.proofs.TupleSteps.{stepped, then, told_then, within}
use Rattle.rss_members.proofs.Later.{chain_then, spells_then}
use Rattle.rss_access.specs.Changes.{both}
use Rattle.rss_access.proofs.ChainTables.{members_of}
use Rattle.rss_draft.proofs.ChainsNow.{may_chain, spelled_once}
use Rattle.rss_draft.proofs.ChainRead.{none_read, read_more, read_all, read_most, chain_few}
use Rattle.rss_draft.proofs.Searched.{searches_call, lacks_memory, search_fails}
use Rattle.rss_draft.proofs.reading.saved_chain.Goals as goal

pub loop-place-init : goal.loop-place-init
loop-place-init g c = record {
  step = record { below = pages.rests _; heaps = c.requires.may.heaps; others = λ told segment tid off. refl };
  reads = λ told tables link spells at. none_read c.new-tids.ensures.items _;
  many = ap (λ (l : List Tid). length l) c.new-tids.ensures.items;
}

pub next_member-requires : goal.next_member-requires
next_member-requires g c = chain_then c.loop-place.invariant.step c.args.catalog.now
    (may_chain (both (g.P.Pages.view c.args.tuples.now.pages) c.args.catalog.now) (g.met.P.Pages.few_slots c.args.tuples.now.pages) c.requires.may c.args.link c.args.parent c.requires.listed c.requires.form)

pub returns-in_err-found-clause-did : goal.returns-in_err-found-clause-did
returns-in_err-found-clause-did g c =
    search_fails _ c.from_residual.ensures.1 (searches_call (pages.then_call c.loop-place.invariant.step.below c.in_err-found.ensures.did.below))

pub returns-in_default-clause-are : goal.returns-in_default-clause-are
returns-in_default-clause-are g c = λ told tables link spells fit at.
    let so = c.loop-place.invariant in
    let its = members_of (both (g.P.Pages.view c.args.tuples.now.pages) c.args.catalog.now) (g.met.P.Pages.few_slots c.args.tuples.now.pages) spells fit.tuples fit.links fit.tids in
    read_all c.loop-place.tids.items c.loop-place.last _ _ (spelled_once its c.args.link link at c.args.parent) (so.reads told tables link its at)
    (c.in_ok-found.ensures.next (told_then so.step told) tables link (spells_then so.step c.args.catalog.now told its) at) c.in_default.ensures.none

pub returns-in_default-clause-did : goal.returns-in_default-clause-did
returns-in_default-clause-did g c = searches_call (pages.done _ (then c.loop-place.invariant.step (stepped c.in_ok-found.ensures.did)).below)

pub returns-then-is_err-clause-did : goal.returns-then-is_err-clause-did
returns-then-is_err-clause-did g c = lacks_memory (then c.loop-place.invariant.step (stepped c.in_ok-found.ensures.did)).below

pub loop-place-preserved : goal.loop-place-preserved
loop-place-preserved g c =
    let so = c.loop-place.invariant in
    let tid = c.in-Some.tid in
    let items : c.push.new.self.items ≡ c.loop-place.tids.items ++ tid ∷ [] = rw c.if-is_err.ensures.negation at c.push.ensures.items in
    record {
      step = within (λ key none. none) (λ segment t none. none) (omega arith) (then so.step (stepped c.in_ok-found.ensures.did));
      reads = λ told tables link spells at.
          read_more c.loop-place.tids.items c.loop-place.last _ tid (spelled_once spells c.args.link link at c.args.parent) (so.reads told tables link spells at)
          (sym (c.in_ok-found.ensures.next (told_then so.step told) tables link (spells_then so.step c.args.catalog.now told spells) at) ∙ c.in-Some.ensures.some) items;
      many = omega (arith, ap (λ (l : List Tid). length l) items, length-append c.loop-place.tids.items (tid ∷ []), so.many);
    }

pub returns-clause-are : goal.returns-clause-are
returns-clause-are g c = λ told tables link spells fit at.
    let so = c.loop-place.invariant in
    let view = both (g.P.Pages.view c.args.tuples.now.pages) c.args.catalog.now in
    let small = g.met.P.Pages.few_slots c.args.tuples.now.pages in
    let its = members_of view small spells fit.tuples fit.links fit.tids in
    let same : c.link.result.now ≡ link = same_Some _ _ (sym c.link.ensures.is ∙ at) in
    let child : relation_at c.args.catalog.now.listing link.child ≡ Some c.relation.result.now = ap (λ (l : LinkEntry). relation_at c.args.catalog.now.listing l.child) (sym same) ∙ c.relation.ensures.is in
    read_most c.loop-place.tids.items c.loop-place.last _ (so.reads told tables link its at)
    (omega (arith, chain_few view small spells fit c.args.link link at c.relation.result.now child c.args.parent (spelled_once its c.args.link link at c.args.parent), so.many, c.loop-place-test.false))

pub returns-clause-did : goal.returns-clause-did
returns-clause-did g c = searches_call (pages.done _ c.loop-place.invariant.step.below)
