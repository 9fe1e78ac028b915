use Rattle.std.proofs.Common.{◌≡◌, ℕ, true, false, refl, sym, ◌∙◌, ap, arith}
use Rattle.std.specs.Prelude.{Option, Some, None, is_some}
use Rattle.rss_model.specs.Machine.{State}
use Rattle.rss_model.specs.Spares.{page_counts}
use Rattle.rss_trans.specs.Tables.{told}
use Rattle.rss_trans.specs.Transactions.{is_open, transaction_in}
use Rattle.rss_trans.proofs.Told.{open_saves}
use Rattle.rss_store.specs.Parts.{view as store_view}
use Rattle.rss_store.proofs.Altered.{fault_passed}
use Rattle.rss_session.specs.Calls.{HasMarks}
use Rattle.rss_session.specs.Parts.{view}
use Rattle.rss_session.specs.Sessions.{SessionView}
use Rattle.rss_session.specs.Shown.{Shows}
use Rattle.rss_session.proofs.Aborted.{abort_room, ready_aborted, aborts_some, aborts_none}
use Rattle.rss_session.proofs.Ended.{ready_left}
use Rattle.rss_session.proofs.Restored.{still_open, undone_own, none_own}
use Rattle.rss_session.proofs.Passing.{goes_still}
use Rattle.rss_session.proofs.SavePoints.{gone_saves}
use Rattle.rss_catalog.specs.Catalogs.{CatalogView}
use Rattle.rss_store.proofs.Definitions.{same_then}
use Rattle.rss_session.proofs.StaysOpen.{put_stay, others_stay, same_listed}
use Rattle.rss_session.proofs.session.Session.abort.Goals as goal

-- a position was found, or none
found : (first : Option ℕ) → is_some first ≡ true → (position : ℕ) × (first ≡ Some position)
found None some = absurd (cc (some))
found (Some position) some = (position, refl)

found_none : (first : Option ℕ) → is_some first ≡ false → first ≡ None
found_none None none = refl
found_none (Some position) none = absurd (cc (none))

-- the transaction has the save points that the state says
marked : (old : SessionView) (t : ℕ) (state : State) → is_open old.opened t ≡ true → Shows old state → HasMarks state t (transaction_in old.opened t).saves
marked old t state opened shows = open_saves shows.told t opened

pub gone-requires : goal.gone-requires
gone-requires g c = still_open (view g.S.Pages.view c.args.self.now) (view g.S.Pages.view c.undo_after.new.self) c.args.transaction 0 c.in_ok-first.first c.requires.ready c.requires.open c.in_ok-first.ensures.takes

pub abort-requires-clause-room : goal.abort-requires-clause-room
abort-requires-clause-room g c =
    let some = found c.in_ok-first.first (sym c.is_some.ensures ∙ c.if-is_some.true) in
    abort_room (view g.S.Pages.view c.args.self.now) (view g.S.Pages.view c.undo_after.new.self) c.args.transaction c.in_ok-first.first c.requires.ready c.requires.open c.in_ok-first.ensures.takes some.0 some.1 c.requires.early

pub returns-then-is_some-clause-ready : goal.returns-then-is_some-clause-ready
returns-then-is_some-clause-ready g c =
    let some = found c.in_ok-first.first (sym c.is_some.ensures ∙ c.if-is_some.true) in
    let mid = view g.S.Pages.view c.undo_after.new.self in
    let new : SessionView = record { store = store_view g.S.Pages.view c.abort.new.self; opened = told c.gone.new.self; heap = mid.heap; surviving = mid.surviving; entries = mid.entries; survived = mid.survived } in
    ready_aborted (view g.S.Pages.view c.args.self.now) mid c.args.transaction c.in_ok-first.first c.requires.ready c.requires.open c.in_ok-first.ensures.takes some.0 some.1
    new c.in_ok-first.ensures.ready (record { heap = refl; surviving = refl; entries = refl; survived = refl }) c.abort.ensures.catalog (ap (λ p. page_counts (g.S.Pages.view p)) c.abort.ensures.pages) c.abort.ensures.ready c.gone.ensures c.abort.ensures.log

pub returns-then-is_some-clause-shows : goal.returns-then-is_some-clause-shows
returns-then-is_some-clause-shows g c = λ on state kept shows.
    let some = found c.in_ok-first.first (sym c.is_some.ensures ∙ c.if-is_some.true) in
    let old = view g.S.Pages.view c.args.self.now in
    let mid = view g.S.Pages.view c.undo_after.new.self in
    let new : SessionView = record { store = store_view g.S.Pages.view c.abort.new.self; opened = told c.gone.new.self; heap = mid.heap; surviving = mid.surviving; entries = mid.entries; survived = mid.survived } in
    let has = marked old c.args.transaction state c.requires.open shows in
    let own = undone_own old mid c.args.transaction 0 c.in_ok-first.first state (transaction_in old.opened c.args.transaction).saves has shows c.in_ok-first.ensures.takes some.0 some.1 in
    aborts_some old mid new c.args.transaction c.in_ok-first.first state kept shows (c.in_ok-first.ensures.back on state (transaction_in old.opened c.args.transaction).saves kept has shows)
    c.gone.ensures (record { heap = refl; surviving = refl; entries = refl; survived = refl }) c.abort.ensures.catalog (omega (arith, own)) (c.abort.ensures.cuts (c.in_ok-first.ensures.goes.told.0 on))

pub returns-else-is_some-clause-ready : goal.returns-else-is_some-clause-ready
returns-else-is_some-clause-ready g c =
    let mid = view g.S.Pages.view c.undo_after.new.self in
    let new : SessionView = record { store = mid.store; opened = told c.gone.new.self; heap = mid.heap; surviving = mid.surviving; entries = mid.entries; survived = mid.survived } in
    ready_left mid new c.args.transaction c.in_ok-first.ensures.ready
    (still_open (view g.S.Pages.view c.args.self.now) mid c.args.transaction 0 c.in_ok-first.first c.requires.ready c.requires.open c.in_ok-first.ensures.takes) c.gone.ensures refl (record { heap = refl; surviving = refl; entries = refl; survived = refl })

pub returns-else-is_some-clause-shows : goal.returns-else-is_some-clause-shows
returns-else-is_some-clause-shows g c = λ on state kept shows.
    let old = view g.S.Pages.view c.args.self.now in
    let mid = view g.S.Pages.view c.undo_after.new.self in
    let new : SessionView = record { store = mid.store; opened = told c.gone.new.self; heap = mid.heap; surviving = mid.surviving; entries = mid.entries; survived = mid.survived } in
    let has = marked old c.args.transaction state c.requires.open shows in
    let back = c.in_ok-first.ensures.back on state (transaction_in old.opened c.args.transaction).saves kept has shows in
    let takes = c.in_ok-first.ensures.takes in
    let few = none_own mid c.args.transaction 0 c.in_ok-first.first state back (found_none c.in_ok-first.first (sym c.is_some.ensures ∙ c.if-is_some.false)) in
    aborts_none old mid new c.args.transaction c.in_ok-first.first state kept shows back c.gone.ensures (record { heap = refl; surviving = refl; entries = refl; survived = refl }) refl (omega (arith, few)) refl takes.root takes.backing

pub returns-then-is_some-clause-goes : goal.returns-then-is_some-clause-goes
returns-then-is_some-clause-goes g c = goes_still _ c.in_ok-first.ensures.goes (λ i. g.S.Pages.view (c.abort.ensures.pages i)) c.abort.ensures.root (gone_saves _ c.args.transaction c.gone.ensures.transactions)

pub returns-else-is_some-clause-goes : goal.returns-else-is_some-clause-goes
returns-else-is_some-clause-goes g c = goes_still _ c.in_ok-first.ensures.goes refl refl (gone_saves _ c.args.transaction c.gone.ensures.transactions)

pub returns-then-is_some-clause-others : goal.returns-then-is_some-clause-others
returns-then-is_some-clause-others g c = λ u off is. others_stay _ c.args.transaction c.gone.ensures.transactions u off (put_stay _ c.args.transaction _ c.in_ok-first.ensures.takes.opened.transactions u is)

pub returns-else-is_some-clause-others : goal.returns-else-is_some-clause-others
returns-else-is_some-clause-others g c = λ u off is. others_stay _ c.args.transaction c.gone.ensures.transactions u off (put_stay _ c.args.transaction _ c.in_ok-first.ensures.takes.opened.transactions u is)

pub returns-in_err-first-clause-sound : goal.returns-in_err-first-clause-sound
returns-in_err-first-clause-sound g c = λ place is on. c.in_err-first.ensures.sound place (fault_passed c.from_residual.ensures.1 is) on

pub returns-then-is_some-clause-listed : goal.returns-then-is_some-clause-listed
returns-then-is_some-clause-listed g c = same_then c.in_ok-first.ensures.takes.listed (same_listed (ap (λ (catalog : CatalogView). catalog.listing) c.abort.ensures.catalog))
