use Rattle.std.proofs.Common.{◌∙◌, arith, refl, sym, ap, subst}
use Rattle.std.specs.Prelude.{Some, None, is_some, option_copied}
use Rattle.rss_base.specs.Listings.{image_at, relation_at}
use Rattle.rss_base.specs.TupleTypes.{kinds}
use Rattle.rss_base.specs.declared.place.Place.TheVariants.{Tuple as TuplePlace}
use Rattle.rss_catalog.specs.Catalogs.{CatalogView}
use Rattle.rss_model.proofs.Lengths.{row_line}
use Rattle.rss_scan.specs.Scans.{told as scans_told}
use Rattle.rss_scan.specs.declared.cursor.Path.{Path}
use Rattle.rss_session.proofs.Behind.{looks_as, looks_then, nothing_then}
use Rattle.rss_session.proofs.Starts.{image_entry}
use Rattle.rss_rsi.specs.Parts.{parts_of, session_of}
use Rattle.rss_rsi.specs.Views.{AreLong}
use Rattle.rss_rsi.proofs.ImageScans.{costs_levels, goes_at, long_last, named_as, never_lost, never_unread, none_found, row_found}
use Rattle.rss_rsi.proofs.Bodied.{comes_before, costly_comes, costly_there, costs_still, idle_still, lent_there, read_never, read_only, still_looks}
use Rattle.rss_rsi.proofs.Looks.{costly_fails, passed_on, ready_looked, still_at, few_fields}
use Rattle.rss_lock.specs.Table.{told}
use Rattle.rss_lock.specs.declared.locks.Locks.{Locks as LockTable}
use Rattle.rss_session.specs.Parts.{view as session_view}
use Rattle.rss_rsi.proofs.Scans.{cursor_long, has_scan}
use Rattle.rss_rsi.proofs.Ways.{rss_parts}
use Rattle.rss_rsi.proofs.engine.Rss.find_entry.Goals as goal

pub next_entry-requires-clause-long : goal.next_entry-requires-clause-long
next_entry-requires-clause-long g c =
    let has = sym c.get.ensures ∙ ap option_copied c.in-Some.is in
    let at = goes_at c.requires.along has c.in-Image.field-0 c.in-Image.start c.in-Image.is in
    let all = cursor_long c.args.self.now.session.store.catalog.listing (session_of c.args.self.now).opened (scans_told c.args.self.now.scans) c.args.transaction c.args.scan (c.args.self.now.ready c.requires.up).scans has in
    let long = subst (λ (path : Path). AreLong c.args.self.now.session.store.catalog.listing path c.in-Some.cursor.now.last) c.in-Image.is all in
    long.0 c.args.number at.0 at.1

pub next_entry-requires-clause-last_long : goal.next_entry-requires-clause-last_long
next_entry-requires-clause-last_long g c =
    let has = sym c.get.ensures ∙ ap option_copied c.in-Some.is in
    let at = goes_at c.requires.along has c.in-Image.field-0 c.in-Image.start c.in-Image.is in
    let all = cursor_long c.args.self.now.session.store.catalog.listing (session_of c.args.self.now).opened (scans_told c.args.self.now.scans) c.args.transaction c.args.scan (c.args.self.now.ready c.requires.up).scans has in
    let long = subst (λ (path : Path). AreLong c.args.self.now.session.store.catalog.listing path c.in-Some.cursor.now.last) c.in-Image.is all in
    long_last c.args.self.now.session.store.catalog.listing c.in-Image.field-0 c.args.number at.0 at.1 c.in-Some.cursor.now.last long.1

pub returns-in_err-found-clause-fails : goal.returns-in_err-found-clause-fails
returns-in_err-found-clause-fails g c =
    passed_on c.from_residual.result c.from_residual.ensures.1
    (costly_fails _ _ (record { fault = _; is = refl; looks = c.in_err-found.ensures.looks }) _ _ refl c.requires.up (λ up. absurd (cc (up))))

pub returns-in_err-found-clause-costs : goal.returns-in_err-found-clause-costs
returns-in_err-found-clause-costs g c =
    let here = image_entry c.args.self.now.session.store.catalog.listing c.requires.along.image c.args.number c.requires.along.named in
    let costs = c.in_err-found.ensures.costs here.entry here.at in
    costs_levels (parts_of c.args.self.now) (rss_parts g.S.Pages.view c.next_entry.new.self c.args.self.now.locks c.args.self.now.scans) c.args.transaction c.args.scan c.args.number c.requires.along here.at (omega (arith, costs.0)) (omega (arith, costs.1))

pub invariant_of-self-2 : goal.invariant_of-self-2
invariant_of-self-2 g c = record { ready = λ up. ready_looked (parts_of c.args.self.now) _ {found = c.in_ok-found.found} (c.args.self.now.ready c.requires.up) c.in_ok-found.ensures.looks (record { locks = refl; scans = refl }) }

pub returns-in_default-found-clause-finds : goal.returns-in_default-found-clause-finds
returns-in_default-found-clause-finds g c =
    let has = sym c.get.ensures ∙ ap option_copied c.in-Some.is in
    let at = goes_at c.requires.along has c.in-Image.field-0 c.in-Image.start c.in-Image.is in
    none_found has c.in-Image.field-0 c.in-Image.start c.in-Image.is c.args.number at.0 (c.args.self.now.ready c.requires.up).session (rw c.in_default-found.is at c.in_ok-found.ensures.next)

pub returns-in_default-found-clause-costs : goal.returns-in_default-found-clause-costs
returns-in_default-found-clause-costs g c =
    let here = image_entry c.args.self.now.session.store.catalog.listing c.requires.along.image c.args.number c.requires.along.named in
    let costs = c.in_ok-found.ensures.costs here.entry here.at in
    costs_levels (parts_of c.args.self.now) (rss_parts g.S.Pages.view c.next_entry.new.self c.args.self.now.locks c.args.self.now.scans) c.args.transaction c.args.scan c.args.number c.requires.along here.at (omega (arith, costs.0)) (omega (arith, costs.1))

pub image-requires : goal.image-requires
image-requires g c =
    let here = image_entry c.args.self.now.session.store.catalog.listing c.requires.along.image c.args.number c.requires.along.named in
    ap is_some (ap (λ (catalog : CatalogView). image_at catalog.listing c.args.number) c.in_ok-found.ensures.looks.catalog ∙ here.at)

pub returns-in_err-at-clause-fails : goal.returns-in_err-at-clause-fails
returns-in_err-at-clause-fails g c =
    let has = sym c.get.ensures ∙ ap option_copied c.in-Some.is in
    let at = goes_at c.requires.along has c.in-Image.field-0 c.in-Image.start c.in-Image.is in
    let here = image_entry c.args.self.now.session.store.catalog.listing c.in-Image.field-0 c.args.number at.0 in
    let looks = c.in_ok-found.ensures.looks in
    let listed = ap (λ (catalog : CatalogView). image_at catalog.listing c.args.number) (sym looks.catalog) ∙ c.image.ensures.is in
    let within = ap (λ (catalog : CatalogView). relation_at catalog.listing c.image.result.now.relation) (sym looks.catalog) ∙ c.relation.ensures.is in
    let there = c.in_err-at.ensures.ends.by in
    passed_on c.from_residual-in_err-at.result c.from_residual-in_err-at.ensures.1
    (costly_there (parts_of c.args.self.now) (parts_of c.there.new.self) looks _ _ c.in_err-at.ensures.calls c.requires.up there.0 (λ finds told state is_in.
    let of = has_scan is_in c.args.transaction c.args.scan c.in-Some.cursor.now has in
    never_lost has c.in-Image.field-0 c.in-Image.start c.in-Image.is c.args.number (record { at = listed; within = within }) (named_as c.args.self.now.session.store.catalog.listing c.args.number listed here.at here.named) (c.args.self.now.ready c.requires.up).session
    (rw c.in-Some-found.is at c.in_ok-found.ensures.next) looks finds refl state of.scan (record { told = told; is_in = is_in; there = of.there })) there.1)

pub returns-in_err-at-clause-idle : goal.returns-in_err-at-clause-idle
returns-in_err-at-clause-idle g c = nothing_then c.in_ok-found.ensures.idle c.in_err-at.ensures.idle

pub returns-in_err-at-clause-costs : goal.returns-in_err-at-clause-costs
returns-in_err-at-clause-costs g c =
    let here = image_entry c.args.self.now.session.store.catalog.listing c.requires.along.image c.args.number c.requires.along.named in
    let costs = c.in_ok-found.ensures.costs here.entry here.at in
    let more = c.in_err-at.ensures.costs in
    costs_levels (parts_of c.args.self.now) (parts_of c.there.new.self) c.args.transaction c.args.scan c.args.number c.requires.along here.at (omega (arith, costs.0, more.asks_high)) (omega (arith, costs.1, more.writes_high))

pub tuple_at-requires-clause-up : goal.tuple_at-requires-clause-up
tuple_at-requires-clause-up g c = c.in_ok-at.ensures.ends.by.0

pub tuple_at-requires-clause-known : goal.tuple_at-requires-clause-known
tuple_at-requires-clause-known g c = ap is_some (still_at c.image.result.now.relation c.in_ok-at.ensures.ends.by.1.looks.catalog c.relation.ensures.is)

pub tuple_at-requires-clause-there : goal.tuple_at-requires-clause-there
tuple_at-requires-clause-there g c = c.in_ok-at.ensures.ends.by.1.there

pub returns-in_err-tuple-clause-fails : goal.returns-in_err-tuple-clause-fails
returns-in_err-tuple-clause-fails g c =
    let has = sym c.get.ensures ∙ ap option_copied c.in-Some.is in
    let at = goes_at c.requires.along has c.in-Image.field-0 c.in-Image.start c.in-Image.is in
    let here = image_entry c.args.self.now.session.store.catalog.listing c.in-Image.field-0 c.args.number at.0 in
    let looks = c.in_ok-found.ensures.looks in
    let listed = ap (λ (catalog : CatalogView). image_at catalog.listing c.args.number) (sym looks.catalog) ∙ c.image.ensures.is in
    let within = ap (λ (catalog : CatalogView). relation_at catalog.listing c.image.result.now.relation) (sym looks.catalog) ∙ c.relation.ensures.is in
    let there = c.in_ok-at.ensures.ends.by.1 in
    let read = c.in_err-tuple.ensures in
    let comes = read.comes c.relation.result.now (still_at c.image.result.now.relation there.looks.catalog c.relation.ensures.is) in
    let finds = lent_there there.stands there.looks.goes.told.0 comes in
    passed_on c.from_residual-in_err-tuple.result c.from_residual-in_err-tuple.ensures.1
    (costly_comes (parts_of c.args.self.now) (parts_of c.tuple_at.new.self) _ _ (read.calls ∙ c.in_ok-at.ensures.calls) c.requires.up
    (record { locks = ap (λ (t : LockTable). (told t).locks) (read.locks ∙ c.in_ok-at.ensures.locks); scans = ap scans_told (read.scans ∙ c.in_ok-at.ensures.scans) }) c.tuple_at.new.self.down (TuplePlace c.relation.result.now.segment c.in-Some-found.tid)
    (λ none told state is_in.
    let of = has_scan is_in c.args.transaction c.args.scan c.in-Some.cursor.now has in
    never_unread has c.in-Image.field-0 c.in-Image.start c.in-Image.is c.args.number (record { at = listed; within = within }) (named_as c.args.self.now.session.store.catalog.listing c.args.number listed here.at here.named) (c.args.self.now.ready c.requires.up).session
    (rw c.in-Some-found.is at c.in_ok-found.ensures.next) looks finds refl None (read_never none) refl state of.scan (record { told = told; is_in = is_in; there = of.there }))
    (still_looks g.S.Pages.view (session_of c.args.self.now) read.session (looks_then looks there.looks)) _ (comes_before there.looks.catalog comes) read.ends)

pub returns-in_err-tuple-clause-idle : goal.returns-in_err-tuple-clause-idle
returns-in_err-tuple-clause-idle g c = idle_still g.S.Pages.view (session_of c.args.self.now) c.in_err-tuple.ensures.session (nothing_then c.in_ok-found.ensures.idle c.in_ok-at.ensures.idle)

pub returns-in_err-tuple-clause-costs : goal.returns-in_err-tuple-clause-costs
returns-in_err-tuple-clause-costs g c =
    let here = image_entry c.args.self.now.session.store.catalog.listing c.requires.along.image c.args.number c.requires.along.named in
    let costs = c.in_ok-found.ensures.costs here.entry here.at in
    let more = costs_still g.S.Pages.view (session_view g.S.Pages.view c.next_entry.new.self) c.in_err-tuple.ensures.session c.in_ok-at.ensures.costs in
    costs_levels (parts_of c.args.self.now) (parts_of c.tuple_at.new.self) c.args.transaction c.args.scan c.args.number c.requires.along here.at (omega (arith, costs.0, more.asks_high)) (omega (arith, costs.1, more.writes_high))

pub returns-clause-looks : goal.returns-clause-looks
returns-clause-looks g c =
    still_looks g.S.Pages.view (session_of c.args.self.now) c.in_ok-tuple.ensures.session
    (looks_as (Some (c.in-Some-found.key, c.in-Some-found.tid, c.in_ok-tuple.tuple)) (looks_then c.in_ok-found.ensures.looks c.in_ok-at.ensures.ends.by.1.looks))

pub returns-clause-finds : goal.returns-clause-finds
returns-clause-finds g c =
    let has = sym c.get.ensures ∙ ap option_copied c.in-Some.is in
    let at = goes_at c.requires.along has c.in-Image.field-0 c.in-Image.start c.in-Image.is in
    let here = image_entry c.args.self.now.session.store.catalog.listing c.in-Image.field-0 c.args.number at.0 in
    let looks = c.in_ok-found.ensures.looks in
    let listed = ap (λ (catalog : CatalogView). image_at catalog.listing c.args.number) (sym looks.catalog) ∙ c.image.ensures.is in
    let within = ap (λ (catalog : CatalogView). relation_at catalog.listing c.image.result.now.relation) (sym looks.catalog) ∙ c.relation.ensures.is in
    let all = cursor_long c.args.self.now.session.store.catalog.listing (session_of c.args.self.now).opened (scans_told c.args.self.now.scans) c.args.transaction c.args.scan (c.args.self.now.ready c.requires.up).scans has in
    let long = subst (λ (path : Path). AreLong c.args.self.now.session.store.catalog.listing path c.in-Some.cursor.now.last) c.in-Image.is all in
    let there = c.in_ok-at.ensures.ends.by.1 in
    let comes = c.in_ok-tuple.ensures.comes c.relation.result.now (still_at c.image.result.now.relation there.looks.catalog c.relation.ensures.is) in
    let finds = lent_there there.stands there.looks.goes.told.0 comes in
    let read = comes_before there.looks.catalog comes in
    let spelled = read.is.spelled in
    row_found has c.in-Image.field-0 c.in-Image.start c.in-Image.is c.args.number (record { at = listed; within = within }) (named_as c.args.self.now.session.store.catalog.listing c.args.number listed here.at here.named) (c.args.self.now.ready c.requires.up).session
    (rw c.in-Some-found.is at c.in_ok-found.ensures.next) looks finds refl (Some c.in_ok-tuple.tuple) (read_only read)
    long.0 at.0 at.1 (rw c.in-Some-found.is at c.in_ok-found.ensures.wide)
    c.in_ok-tuple.tuple refl
    (row_line c.in-Some-found.tid (kinds c.relation.result.now.fields) c.in_ok-tuple.tuple (omega (arith, c.tid_is_spelled.ensures.page)) (omega (arith, c.tid_is_spelled.ensures.slot)) spelled.fit c.relation.ensures.safe.narrow (few_fields c.relation.ensures.safe) spelled.storable)

pub returns-clause-costs : goal.returns-clause-costs
returns-clause-costs g c =
    let here = image_entry c.args.self.now.session.store.catalog.listing c.requires.along.image c.args.number c.requires.along.named in
    let costs = c.in_ok-found.ensures.costs here.entry here.at in
    let more = costs_still g.S.Pages.view (session_view g.S.Pages.view c.next_entry.new.self) c.in_ok-tuple.ensures.session c.in_ok-at.ensures.costs in
    costs_levels (parts_of c.args.self.now) (parts_of c.tuple_at.new.self) c.args.transaction c.args.scan c.args.number c.requires.along here.at (omega (arith, costs.0, more.asks_high)) (omega (arith, costs.1, more.writes_high))

pub returns-clause-idle : goal.returns-clause-idle
returns-clause-idle g c = idle_still g.S.Pages.view (session_of c.args.self.now) c.in_ok-tuple.ensures.session (nothing_then c.in_ok-found.ensures.idle c.in_ok-at.ensures.idle)
