use Rattle.std.proofs.Common.{ℕ, ◌+◌, ◌≤◌, List, length, sym, ◌∙◌, ap, subst, arith}
use Rattle.std.proofs.lemmas.Bool.{true≢false}
use Rattle.rss_base.specs.LogRecords.{record_size, marks_most}
use Rattle.rss_base.specs.Listings.{Listing, relation_at}
use Rattle.rss_base.specs.Paged.{mapped_of}
use Rattle.rss_base.specs.declared.key.Space.TheVariants.{Home, Overflow}
use Rattle.rss_base.specs.declared.log_record.LogRecord.TheVariants as records
use Rattle.rss_base.proofs.Moments.{started}
use Rattle.rss_model.specs.Spares.{live_of}
use Rattle.rss_trans.specs.Transactions.{transaction_in}
use Rattle.rss_store.specs.Commits.{HasLogRoom, least_mark, CanCheckpoint, Saves}
use Rattle.rss_store.specs.Parts.{view as store_view}
use Rattle.rss_session.specs.Parts.{view}
use Rattle.rss_session.specs.Sessions.{sums_in}
use Rattle.rss_session.specs.Weighing.{survived_now}
use Rattle.rss_session.proofs.Passing.{goes_committed, goes_damaged, checks_failed, checkpoint_later}
use Rattle.rss_session.proofs.Saved.{half, head_low, size_most, log_room, ready_saved}
use Rattle.rss_session.proofs.session.Session.save_all.Goals as goal

-- there is no room behind it
pub returns-then-not-has_saved_room-clause-sound : goal.returns-then-not-has_saved_room-clause-sound
returns-then-not-has_saved_room-clause-sound g c = λ place is on room. true≢false (sym (c.has_saved_room.ensures.1 room) ∙ c.if-not-has_saved_room.true)

pub returns-then-not-has_saved_room-clause-moments : goal.returns-then-not-has_saved_room-clause-moments
returns-then-not-has_saved_room-clause-moments g c = λ on stored next can. started _ _

pub returns-then-not-has_saved_room-clause-goes : goal.returns-then-not-has_saved_room-clause-goes
returns-then-not-has_saved_room-clause-goes g c = goes_damaged (view g.S.Pages.view c.args.self.now) _

-- the store takes none
pub returns-in_err-checkpoint-clause-goes : goal.returns-in_err-checkpoint-clause-goes
returns-in_err-checkpoint-clause-goes g c =
    let store = c.in_err-checkpoint.ensures in
    checks_failed c.from_residual.result c.from_residual.ensures.1 (goes_committed store.did store.size (λ t. omega arith) (λ still. true≢false (sym still.0)))

-- there is
pub checkpoint-requires-clause-half : goal.checkpoint-requires-clause-half
checkpoint-requires-clause-half g c = half c.requires.ready (c.has_saved_room.ensures.0 c.if-not-has_saved_room.false)

pub checkpoint-requires-clause-low : goal.checkpoint-requires-clause-low
checkpoint-requires-clause-low g c =
    let log = c.args.self.now.store.log in
    subst (λ (marks : List (ℕ × ℕ)). log.head ≤ least_mark log.end marks) (sym c.marks-marks.ensures.marks) (head_low c.requires.ready)

pub checkpoint-requires-clause-room : goal.checkpoint-requires-clause-room
checkpoint-requires-clause-room g c =
    let log = c.args.self.now.store.log in
    let is = c.marks-marks.ensures.marks in
    let few = subst (λ (marks : List (ℕ × ℕ)). length marks ≤ marks_most) is c.marks-marks.ensures.few in
    subst (λ (marks : List (ℕ × ℕ)). HasLogRoom log (record_size (records.Checkpoint marks)) (least_mark log.end marks)) (sym is) (log_room c.requires.ready few c.requires.may c.requires.early)

pub returns-in_err-checkpoint-clause-moments : goal.returns-in_err-checkpoint-clause-moments
returns-in_err-checkpoint-clause-moments g c = λ told stored next can.
    c.in_err-checkpoint.ensures.moments told stored next
    (subst (λ (marks : List (ℕ × ℕ)). CanCheckpoint (view g.S.Pages.view c.args.self.now).store marks stored next) (sym c.marks-marks.ensures.marks) can)

pub returns-in_err-checkpoint-clause-appends : goal.returns-in_err-checkpoint-clause-appends
returns-in_err-checkpoint-clause-appends g c =
    let is = c.marks-marks.ensures.marks in
    let few = subst (λ (marks : List (ℕ × ℕ)). length marks ≤ marks_most) is c.marks-marks.ensures.few in
    omega (arith, c.in_err-checkpoint.ensures.appends, size_most c.requires.ready few, ap (λ (marks : List (ℕ × ℕ)). record_size (records.Checkpoint marks)) is)

pub returns-clause-ready : goal.returns-clause-ready
returns-clause-ready g c =
    let store = c.in_ok-checkpoint.ensures in
    let saves = subst (λ (marks : List (ℕ × ℕ)). Saves marks (view g.S.Pages.view c.args.self.now).store (store_view g.S.Pages.view c.checkpoint.new.self)) c.marks-marks.ensures.marks store.saves in
    let room = c.has_saved_room.ensures.0 c.if-not-has_saved_room.false in
    ready_saved c.requires.ready c.requires.may room store.ready store.saved saves c.checkpointed.ensures.did (λ number. c.entries_of-self.ensures number ∙ ap (λ (l : Listing). live_of l number) store.listing)
    (λ number relation at.
    c.survived_of-self.ensures number relation (ap (λ (l : Listing). relation_at l number) store.listing ∙ at)
    ∙ ap (λ m. survived_now (record (view g.S.Pages.view c.args.self.now).opened { transactions = m }) number) c.checkpointed.ensures.did.transactions) store.listing
    c.heap-self.ensures (ap (λ s. s.p) c.sums.ensures) store.did.slots (g.met.S.Pages.are_counted c.checkpoint.new.self.tuples.pages)

pub returns-clause-shows : goal.returns-clause-shows
returns-clause-shows g c = λ told stored next can.
    c.in_ok-checkpoint.ensures.shows told stored next
    (subst (λ (marks : List (ℕ × ℕ)). CanCheckpoint (view g.S.Pages.view c.args.self.now).store marks stored next) (sym c.marks-marks.ensures.marks) can)

pub returns-clause-moments : goal.returns-clause-moments
returns-clause-moments g c = λ told stored next can.
    c.in_ok-checkpoint.ensures.moments told stored next
    (subst (λ (marks : List (ℕ × ℕ)). CanCheckpoint (view g.S.Pages.view c.args.self.now).store marks stored next) (sym c.marks-marks.ensures.marks) can)

pub returns-clause-anew : goal.returns-clause-anew
returns-clause-anew g c =
    let store = c.in_ok-checkpoint.ensures in
    let is = c.marks-marks.ensures.marks in
    let saves = subst (λ (marks : List (ℕ × ℕ)). Saves marks (view g.S.Pages.view c.args.self.now).store (store_view g.S.Pages.view c.checkpoint.new.self)) is store.saves in
    let now = view g.S.Pages.view c.args.self.now in
    let did = c.checkpointed.ensures.did in
    let surviving = ap (λ s. s.p) c.sums.ensures in
    record {
      transactions = did.transactions;
      places = c.checkpointed.ensures.room;
      since = did.since;
      since_of = did.since_of;
      heap = c.heap-self.ensures ∙ (λ i. mapped_of (saves.mapped i) Home (store.did.slots i) + mapped_of (saves.mapped i) Overflow (store.did.slots i));
      surviving = surviving ∙ ap (λ m. (sums_in (record now.opened { transactions = m })).p) did.transactions;
      entries = λ number. c.entries_of-self.ensures number ∙ ap (λ (l : Listing). live_of l number) store.listing;
      survived = λ number relation at.
          c.survived_of-self.ensures number relation (ap (λ (l : Listing). relation_at l number) store.listing ∙ at)
          ∙ ap (λ m. survived_now (record now.opened { transactions = m }) number) did.transactions;
      pages = saves.pages;
      head = saves.head;
      end = saves.end;
      listing = store.listing;
      checkpoint = saves.checkpoint;
      unchanged = saves.unchanged;
    }

pub returns-clause-appends : goal.returns-clause-appends
returns-clause-appends g c =
    let is = c.marks-marks.ensures.marks in
    let few = subst (λ (marks : List (ℕ × ℕ)). length marks ≤ marks_most) is c.marks-marks.ensures.few in
    omega (arith, c.in_ok-checkpoint.ensures.appends, size_most c.requires.ready few, ap (λ (marks : List (ℕ × ℕ)). record_size (records.Checkpoint marks)) is)

pub returns-clause-goes : goal.returns-clause-goes
returns-clause-goes g c =
    let store = c.in_ok-checkpoint.ensures in
    let opened = (view g.S.Pages.view c.args.self.now).opened in
    goes_committed store.did store.size
    (λ t. omega (arith, ap (λ m. length (transaction_in (record opened { transactions = m }) t).saves) c.checkpointed.ensures.did.transactions))
    (λ still. checkpoint_later c.requires.ready.store _ store.saves.checkpoint still.1)
