use Rattle.std.proofs.Common.{◌≡◌, ◌∙◌, sym, ap, subst, arith}
use Rattle.std.specs.Prelude.{None}
use Rattle.rss_base.specs.Listings.{relation_at}
use Rattle.rss_catalog.specs.Catalogs.{CatalogView}
use Rattle.rss_session.specs.Parts.{view}
use Rattle.rss_session.specs.Uniques.{IsNextUnique}
use Rattle.rss_session.proofs.Behind.{looks_as, looks_failed, looks_itself, looks_then}
use Rattle.rss_session.proofs.Duplicates.{none_begun, none_many, none_more, none_owned, some_owned}
use Rattle.rss_session.proofs.NextUniques.{of_relation}
use Rattle.rss_session.proofs.session.Session.find_duplicate.Goals as goal

pub loop-place-init : goal.loop-place-init
loop-place-init g c = record {
  looks = looks_itself tt c.requires.ready;
  none = none_begun (view g.S.Pages.view c.args.self.now) c.args.number c.args.values.now c.args.own;
}

pub returns-in_default-clause-looks : goal.returns-in_default-clause-looks
returns-in_default-clause-looks g c = looks_as None c.loop-place.invariant.looks

pub returns-in_default-clause-finds : goal.returns-in_default-clause-finds
returns-in_default-clause-finds g c =
    let none : c.next_unique.result ≡ None = cc in
    none_more c.loop-place.invariant.looks c.loop-place.invariant.none
    (subst (IsNextUnique (view g.S.Pages.view c.loop-place.self).store.catalog.listing c.args.number c.loop-place.after) none c.next_unique.ensures.next)

pub find_owner-requires-clause-ready : goal.find_owner-requires-clause-ready
find_owner-requires-clause-ready g c = c.loop-place.invariant.looks.ready

pub find_owner-requires-clause-spelled : goal.find_owner-requires-clause-spelled
find_owner-requires-clause-spelled g c = λ entry relation listed.
    let of = rw c.in-Some.is at c.next_unique.ensures.of in
    let its : entry.relation ≡ c.args.number = of_relation listed.at of in
    c.requires.spelled relation (ap (λ (catalog : CatalogView). relation_at catalog.listing c.args.number) (sym c.loop-place.invariant.looks.catalog)
    ∙ ap (relation_at (view g.S.Pages.view c.loop-place.self).store.catalog.listing) (sym its) ∙ listed.within)

pub returns-in_err-owner-clause-looks : goal.returns-in_err-owner-clause-looks
returns-in_err-owner-clause-looks g c = looks_failed c.from_residual.result c.from_residual.ensures.1 (looks_then c.loop-place.invariant.looks c.in_err-owner.ensures.looks)

pub returns-in-Some-owner-clause-looks : goal.returns-in-Some-owner-clause-looks
returns-in-Some-owner-clause-looks g c = looks_as _ (looks_then c.loop-place.invariant.looks c.in_ok-owner.ensures.looks)

pub returns-in-Some-owner-clause-finds : goal.returns-in-Some-owner-clause-finds
returns-in-Some-owner-clause-finds g c =
    some_owned c.loop-place.invariant.looks c.loop-place.invariant.none (rw c.in-Some.is at c.next_unique.ensures.next) c.image.ensures.is (rw c.in-Some.is at c.next_unique.ensures.of) c.in_ok-owner.ensures.owner c.in-Some-owner.is c.duplicate.ensures.is

pub loop-place-preserved : goal.loop-place-preserved
loop-place-preserved g c = let none : c.in_ok-owner.owner ≡ None = cc in record {
  looks = looks_as tt (looks_then c.loop-place.invariant.looks c.in_ok-owner.ensures.looks);
  none = none_owned c.loop-place.invariant.looks c.loop-place.invariant.none (rw c.in-Some.is at c.next_unique.ensures.next) c.image.ensures.is (rw c.in-Some.is at c.next_unique.ensures.of) c.in_ok-owner.ensures.owner none;
}

pub returns-clause-looks : goal.returns-clause-looks
returns-clause-looks g c = looks_as None c.loop-place.invariant.looks

pub returns-clause-finds : goal.returns-clause-finds
returns-clause-finds g c = none_many c.loop-place.invariant.looks c.loop-place.invariant.none (omega arith)
