use Rattle.std.proofs.Common.{◌≡◌, ℕ, ◌≤◌, true, false, length, refl, ◌∙◌, ap, arith}
use Rattle.std.specs.Prelude.{Option, is_some}
use Rattle.std.proofs.lemmas.Result.{on_ok_weaker}
use Rattle.rss_trans.specs.Tables.{told}
use Rattle.rss_trans.specs.Transactions.{OpenView, transaction_in, newest_after}
use Rattle.rss_store.specs.Parts.{view as store_view}
use Rattle.rss_store.proofs.Nexts.{counts_still, on_ok_both}
use Rattle.rss_session.specs.Parts.{view}
use Rattle.rss_session.specs.Sessions.{SessionView}
use Rattle.rss_session.proofs.Fewer.{some_newer, none_newer}
use Rattle.rss_session.proofs.Ended.{end_room, ready_ended, ready_left, may_commit, own_some, shows_ended, shows_left}
use Rattle.rss_session.proofs.Passing.{goes_committed, goes_opened}
use Rattle.rss_session.proofs.SavePoints.{gone_saves}
use Rattle.rss_session.proofs.StaysOpen.{others_stay}
use Rattle.rss_session.proofs.session.Session.commit.Goals as goal

-- it has no changes
none_is : {found : Option ℕ} (open_now : OpenView) (t : ℕ) → found ≡ newest_after (transaction_in open_now t) 0 → false ≡ is_some found → length (transaction_in open_now t).changes ≡ 0
none_is open_now t is none = let few = none_newer (transaction_in open_now t) 0 (none ∙ ap is_some is) in omega (arith, few)

pub returns-then-not-changed-clause-ready : goal.returns-then-not-changed-clause-ready
returns-then-not-changed-clause-ready g c = ready_left (view g.S.Pages.view c.args.self.now) _ c.args.transaction c.requires.ready c.requires.open c.gone.ensures refl (record { heap = refl; surviving = refl; entries = refl; survived = refl })

pub returns-then-not-changed-clause-shows : goal.returns-then-not-changed-clause-shows
returns-then-not-changed-clause-shows g c = λ on state kept fit shows.
    shows_left (view g.S.Pages.view c.args.self.now) _ c.args.transaction c.gone.ensures (record { heap = refl; surviving = refl; entries = refl; survived = refl }) refl state kept shows (none_is (told c.args.self.now.open) c.args.transaction c.newest.ensures c.if-not-changed.ensures) refl

pub returns-then-not-changed-clause-goes : goal.returns-then-not-changed-clause-goes
returns-then-not-changed-clause-goes g c = goes_opened _ (gone_saves _ c.args.transaction c.gone.ensures.transactions)

-- it has changes
some_are : {found : Option ℕ} (open_now : OpenView) (t : ℕ) → found ≡ newest_after (transaction_in open_now t) 0 → true ≡ is_some found → 1 ≤ length (transaction_in open_now t).changes
some_are open_now t is some = let more = some_newer (transaction_in open_now t) 0 (some ∙ ap is_some is) in omega (arith, more)

pub commit-requires-clause-room : goal.commit-requires-clause-room
commit-requires-clause-room g c =
    let old = view g.S.Pages.view c.args.self.now in
    let new : SessionView = record { store = old.store; opened = told c.gone.new.self; heap = old.heap; surviving = old.surviving; entries = old.entries; survived = old.survived } in
    end_room old new c.args.transaction c.requires.ready c.requires.open c.gone.ensures (some_are (told c.args.self.now.open) c.args.transaction c.newest.ensures c.if-not-changed.ensures) c.requires.early

pub returns-clause-ready : goal.returns-clause-ready
returns-clause-ready g c =
    let old = view g.S.Pages.view c.args.self.now in
    let new : SessionView = record { store = store_view g.S.Pages.view c.commit.new.self; opened = told c.gone.new.self; heap = old.heap; surviving = old.surviving; entries = old.entries; survived = old.survived } in
    on_ok_both c.commit.result (λ ready pages.
    ready_ended old new c.args.transaction c.requires.ready c.requires.open c.gone.ensures ready (record { heap = refl; surviving = refl; entries = refl; survived = refl }) c.commit.ensures.catalog
    (counts_still old.store.pages new.store.pages (g.met.S.Pages.are_counted c.args.self.now.store.tuples.pages) (g.met.S.Pages.are_counted c.commit.new.self.tuples.pages) pages.slots pages.mapped pages.shadow)
    (some_are (told c.args.self.now.open) c.args.transaction c.newest.ensures c.if-not-changed.ensures) c.commit.ensures.log) c.commit.ensures.ready c.commit.ensures.pages

pub returns-clause-shows : goal.returns-clause-shows
returns-clause-shows g c =
    let old = view g.S.Pages.view c.args.self.now in
    let new : SessionView = record { store = store_view g.S.Pages.view c.commit.new.self; opened = told c.gone.new.self; heap = old.heap; surviving = old.surviving; entries = old.entries; survived = old.survived } in
    on_ok_weaker c.commit.result (λ commits on state kept fit shows.
    let some = some_are (told c.args.self.now.open) c.args.transaction c.newest.ensures c.if-not-changed.ensures in
    let own = own_some old new c.args.transaction c.gone.ensures (record { heap = refl; surviving = refl; entries = refl; survived = refl }) c.commit.ensures.catalog state kept shows some in
    shows_ended old new c.args.transaction c.gone.ensures (record { heap = refl; surviving = refl; entries = refl; survived = refl }) c.commit.ensures.catalog state kept shows some
    (commits on state shows.store (may_commit c.args.transaction state own kept shows.counted.rooms fit))) c.commit.ensures.shows

pub returns-clause-moments : goal.returns-clause-moments
returns-clause-moments g c = λ on state kept fit shows.
    let old = view g.S.Pages.view c.args.self.now in
    let new : SessionView = record { store = store_view g.S.Pages.view c.commit.new.self; opened = told c.gone.new.self; heap = old.heap; surviving = old.surviving; entries = old.entries; survived = old.survived } in
    let own = own_some old new c.args.transaction c.gone.ensures (record { heap = refl; surviving = refl; entries = refl; survived = refl }) c.commit.ensures.catalog state kept shows (some_are (told c.args.self.now.open) c.args.transaction c.newest.ensures c.if-not-changed.ensures) in
    c.commit.ensures.moments on state shows.store (may_commit c.args.transaction state own kept shows.counted.rooms fit)

pub returns-clause-goes : goal.returns-clause-goes
returns-clause-goes g c = goes_committed c.commit.ensures.did c.commit.ensures.size (gone_saves _ c.args.transaction c.gone.ensures.transactions) (λ none. none)

pub returns-clause-still : goal.returns-clause-still
returns-clause-still g c = λ none.
    let some = some_are (told c.args.self.now.open) c.args.transaction c.newest.ensures c.if-not-changed.ensures in
    absurd (omega (arith, some, none))

pub returns-then-not-changed-clause-others : goal.returns-then-not-changed-clause-others
returns-then-not-changed-clause-others g c = others_stay _ c.args.transaction c.gone.ensures.transactions

pub returns-clause-others : goal.returns-clause-others
returns-clause-others g c = others_stay _ c.args.transaction c.gone.ensures.transactions
