use Rattle.std.proofs.Common.{◌≡◌, ℕ, ◌+◌, ◌-◌, Bool, List, ◌++◌, length, inl, inr, ⊎_elim, refl, sym, ◌∙◌, ap, subst, arith}
use Rattle.rss_base.specs.LogRecords.{ArePlaced, record_size}
use Rattle.rss_base.specs.declared.log_record.LogRecord.TheVariants as records
use Rattle.rss_base.specs.declared.root.Root.{Root}
use Rattle.rss_base.proofs.Moments.{widened, then, no_more, continues, continues_then, rises_since}
use Rattle.rss_buffer.proofs.SavingSteps.{saving_then}
use Rattle.rss_log.specs.Logs.{LogView, HasRecords, with_head}
use Rattle.rss_catalog.specs.Catalogs.{CatalogView}
use Rattle.rss_store.specs.Commits.{least_mark, new_pieces}
use Rattle.rss_store.specs.Parts.{view}
use Rattle.rss_store.specs.Stores.{StoreView}
use Rattle.rss_store.proofs.Growing.{Appends}
use Rattle.rss_store.proofs.Nexts.{fixes_now}
use Rattle.rss_store.proofs.Passed.{writes_all, unsaved, saved_so, half_saved}
use Rattle.rss_store.proofs.Checkpointed.{IsPrepared, saved_same, saved_can, saved_moments, saved_left, saved_next, saved_store, saved_ready, saved_all, saves_so, stands_saved, slots_last, log_pages_last, head_high}
use Rattle.rss_store.proofs.store.DurableStore.checkpoint.Goals as goal

-- ---- the catalog is written

pub returns-in_err-store-clause-writes : goal.returns-in_err-store-clause-writes
returns-in_err-store-clause-writes g c =
    λ keys has. omega (arith, c.store.ensures.did.step.passes.writes_high)

pub returns-in_err-store-clause-moments : goal.returns-in_err-store-clause-moments
returns-in_err-store-clause-moments g c = λ told stored next can.
    widened (c.in_err-store.ensures.did.step.passes.leaves.moments c.requires.ready.settled_now told) (λ image has. inl (can.disk.fixes image has))

-- ---- the pages are saved

pub returns-in_err-save-clause-moments : goal.returns-in_err-save-clause-moments
returns-in_err-save-clause-moments g c = λ told stored next can.
    let pages = c.store.new.pages in
    let step = c.in_ok-store.ensures.did.step in
    let mid_told = step.passes.leaves.told.0 told in
    widened (saved_moments c.requires.ready step c.in_err-save.ensures.only can.disk told (λ settled. g.met.S.Pages.stays pages settled mid_told)) (λ image was. inl was)

pub returns-in_err-save-clause-did : goal.returns-in_err-save-clause-did
returns-in_err-save-clause-did g c =
    let save = c.in_err-save.ensures in
    unsaved c.in_ok-store.ensures.did.step (g.met.S.Saving.saveable c.store.new.pages) save.did.step (g.met.S.Saving.saveable c.save.new.self) _ c.from_residual-in_err-save.ensures.1 save.did.fault c.requires.ready.settled_now (λ told. continues (save.only.moments told)) (save.did.cause refl)

pub returns-in_err-save-clause-writes : goal.returns-in_err-save-clause-writes
returns-in_err-save-clause-writes g c =
    λ keys has. omega (arith, writes_all c.in_ok-store.ensures.did.step (g.met.S.Saving.saveable c.store.new.pages) c.in_err-save.ensures.writes keys has)

-- ---- the root is selected

pub select-requires : goal.select-requires
select-requires g c =
    let self = c.args.self.now in
    let marks = c.args.marks in
    let pages = c.store.new.pages in
    let log = c.append-checkpoint.new.self in
    let store = c.in_ok-store.ensures in
    let save = c.in_ok-save.ensures in
    let append = c.append-checkpoint.ensures in
    let appends : Appends (records.Checkpoint marks) c.append-checkpoint.result self.log log = record { position = append.position; grown = append.appended; records = append.records } in
    let prepared : IsPrepared (view g.S.Pages.view self) marks (g.S.Pages.view pages) (g.S.Pages.view c.save.new.self) (g.S.Saving.saving pages) (g.S.Saving.saving c.save.new.self) log = record {
      count = _;
      at = c.append-checkpoint.result;
      step = store.did.step;
      stores = store.stores;
      saveable = g.met.S.Saving.saveable pages;
      saveable_now = g.met.S.Saving.saveable c.save.new.self;
      saving = save.did.step;
      only = save.only;
      pages = save.saved;
      backing = save.backing;
      appends = appends;
    } in
    let heads : c.least_mark-head.result ≡ least_mark self.log.end marks = c.least_mark-head.ensures ∙ ap (λ (n : ℕ). least_mark n marks) c.end.ensures.end in
    let root_is = saved_same self.root (1 - self.root.area) c.append-checkpoint.result heads c.end-2.ensures.end c.tail_of.ensures in
    saved_can c.requires.ready prepared c.requires.low c.requires.room append.position root_is

pub returns-in_err-select-clause-moments : goal.returns-in_err-select-clause-moments
returns-in_err-select-clause-moments g c = λ told stored next can.
    let self = c.args.self.now in
    let marks = c.args.marks in
    let pages = c.store.new.pages in
    let log = c.append-checkpoint.new.self in
    let store = c.in_ok-store.ensures in
    let save = c.in_ok-save.ensures in
    let append = c.append-checkpoint.ensures in
    let appends : Appends (records.Checkpoint marks) c.append-checkpoint.result self.log log = record { position = append.position; grown = append.appended; records = append.records } in
    let prepared : IsPrepared (view g.S.Pages.view self) marks (g.S.Pages.view pages) (g.S.Pages.view c.save.new.self) (g.S.Saving.saving pages) (g.S.Saving.saving c.save.new.self) log = record {
      count = _;
      at = c.append-checkpoint.result;
      step = store.did.step;
      stores = store.stores;
      saveable = g.met.S.Saving.saveable pages;
      saveable_now = g.met.S.Saving.saveable c.save.new.self;
      saving = save.did.step;
      only = save.only;
      pages = save.saved;
      backing = save.backing;
      appends = appends;
    } in
    let heads : c.least_mark-head.result ≡ least_mark self.log.end marks = c.least_mark-head.ensures ∙ ap (λ (n : ℕ). least_mark n marks) c.end.ensures.end in
    let root_is = saved_same self.root (1 - self.root.area) c.append-checkpoint.result heads c.end-2.ensures.end c.tail_of.ensures in
    let mid_told = store.did.step.passes.leaves.told.0 told in
    let saved_told = save.did.step.told.0 mid_told in
    let holds = g.met.S.Pages.holds pages mid_told in
    let left = saved_left c.requires.ready store.did.step save.only can.disk told (λ settled. g.met.S.Pages.stays pages settled mid_told) in
    let is = saved_next c.requires.ready prepared c.requires.low c.requires.room can told holds _ c.append-checkpoint.result append.position root_is {catalog = c.store.new.self} left in
    let first = saved_moments c.requires.ready store.did.step save.only can.disk told (λ settled. g.met.S.Pages.stays pages settled mid_told) in
    then (widened first (λ image was. inl was)) (c.in_err-select.ensures.moments saved_told _ _ _ is)
    (λ image. ⊎_elim (λ was. inl was) (λ store. inr (saved_store c.requires.ready prepared c.requires.low c.requires.room can told holds _ c.append-checkpoint.result append.position root_is image store)))

pub returns-in_err-select-clause-did : goal.returns-in_err-select-clause-did
returns-in_err-select-clause-did g c =
    let save = c.in_ok-save.ensures in
    let select = c.in_err-select.ensures in
    unsaved c.in_ok-store.ensures.did.step (g.met.S.Saving.saveable c.store.new.pages) (saving_then save.did.step select.did.step) (g.met.S.Saving.saveable c.select.new.self.tuples.pages) _ c.from_residual-in_err-select.ensures.1 select.did.fault c.requires.ready.settled_now
    (λ told. continues_then (continues (save.only.moments told)) (continues (select.only.moments (save.did.step.told.0 told)))) (rises_since save.did.step.later (select.did.cause refl))

pub returns-in_err-select-clause-writes : goal.returns-in_err-select-clause-writes
returns-in_err-select-clause-writes g c =
    let self = c.args.self.now in
    let log_end : c.append-checkpoint.new.self.end ≡ self.log.end + record_size (records.Checkpoint c.args.marks) = ap (λ (l : LogView). l.end) c.append-checkpoint.ensures.appended in
    λ keys has. omega (arith, writes_all c.in_ok-store.ensures.did.step (g.met.S.Saving.saveable c.store.new.pages) c.in_ok-save.ensures.writes keys has, c.in_err-select.ensures.writes, ap (new_pieces self.root) log_end)

-- ---- the map is adopted

pub set_head-requires-clause-high : goal.set_head-requires-clause-high
set_head-requires-clause-high g c =
    let self = c.args.self.now in
    let marks = c.args.marks in
    let pages = c.store.new.pages in
    let log = c.append-checkpoint.new.self in
    let store = c.in_ok-store.ensures in
    let save = c.in_ok-save.ensures in
    let append = c.append-checkpoint.ensures in
    let appends : Appends (records.Checkpoint marks) c.append-checkpoint.result self.log log = record { position = append.position; grown = append.appended; records = append.records } in
    let prepared : IsPrepared (view g.S.Pages.view self) marks (g.S.Pages.view pages) (g.S.Pages.view c.save.new.self) (g.S.Saving.saving pages) (g.S.Saving.saving c.save.new.self) log = record {
      count = _;
      at = c.append-checkpoint.result;
      step = store.did.step;
      stores = store.stores;
      saveable = g.met.S.Saving.saveable pages;
      saveable_now = g.met.S.Saving.saveable c.save.new.self;
      saving = save.did.step;
      only = save.only;
      pages = save.saved;
      backing = save.backing;
      appends = appends;
    } in
    let heads : c.least_mark-head.result ≡ least_mark self.log.end marks = c.least_mark-head.ensures ∙ ap (λ (n : ℕ). least_mark n marks) c.end.ensures.end in
    let root_is = saved_same self.root (1 - self.root.area) c.append-checkpoint.result heads c.end-2.ensures.end c.tail_of.ensures in
    omega (arith, heads, head_high c.requires.ready prepared c.requires.low c.requires.room, ap (λ (l : LogView). l.end) c.in_ok-select.ensures.log)

pub adopt-requires-clause-half : goal.adopt-requires-clause-half
adopt-requires-clause-half g c =
    half_saved c.in_ok-store.ensures.did.step (g.met.S.Saving.saveable c.store.new.pages) (saving_then c.in_ok-save.ensures.did.step c.in_ok-select.ensures.did.step) (g.met.S.Saving.saveable c.select.new.self.tuples.pages) c.in_ok-store.ensures.stores c.requires.half

pub returns-clause-did : goal.returns-clause-did
returns-clause-did g c =
    let save = c.in_ok-save.ensures in
    let select = c.in_ok-select.ensures in
    let adopt = c.adopt.ensures in
    saved_so c.in_ok-store.ensures.did.step (g.met.S.Saving.saveable c.store.new.pages) (saving_then (saving_then save.did.step select.did.step) adopt.did) (g.met.S.Saving.saveable c.adopt.new.self) tt c.requires.ready.settled_now (λ told.
    let saved_told = save.did.step.told.0 told in
    continues_then (continues_then (continues (save.only.moments told)) (continues (select.only.moments saved_told))) (continues (adopt.adopted.moments (select.did.step.told.0 saved_told))))

pub returns-clause-ready : goal.returns-clause-ready
returns-clause-ready g c =
    let self = c.args.self.now in
    let marks = c.args.marks in
    let pages = c.store.new.pages in
    let log = c.append-checkpoint.new.self in
    let store = c.in_ok-store.ensures in
    let save = c.in_ok-save.ensures in
    let append = c.append-checkpoint.ensures in
    let appends : Appends (records.Checkpoint marks) c.append-checkpoint.result self.log log = record { position = append.position; grown = append.appended; records = append.records } in
    let prepared : IsPrepared (view g.S.Pages.view self) marks (g.S.Pages.view pages) (g.S.Pages.view c.save.new.self) (g.S.Saving.saving pages) (g.S.Saving.saving c.save.new.self) log = record {
      count = _;
      at = c.append-checkpoint.result;
      step = store.did.step;
      stores = store.stores;
      saveable = g.met.S.Saving.saveable pages;
      saveable_now = g.met.S.Saving.saveable c.save.new.self;
      saving = save.did.step;
      only = save.only;
      pages = save.saved;
      backing = save.backing;
      appends = appends;
    } in
    let heads : c.least_mark-head.result ≡ least_mark self.log.end marks = c.least_mark-head.ensures ∙ ap (λ (n : ℕ). least_mark n marks) c.end.ensures.end in
    let root_is = saved_same self.root (1 - self.root.area) c.append-checkpoint.result heads c.end-2.ensures.end c.tail_of.ensures in
    let select = c.in_ok-select.ensures in
    let adopt = c.adopt.ensures in
    let steps = saving_then select.did.step adopt.did in
    let saveable_last = g.met.S.Saving.saveable c.adopt.new.self in
    let shadow = adopt.adopted.shadow ∙ select.did.step.current ∙ save.did.step.current in
    let moved : c.set_head.new.self ≡ with_head log (least_mark self.log.end marks) = c.set_head.ensures.moved ∙ (λ i. with_head (select.log i) (heads i)) in
    let listing : c.select.new.self.catalog.listing ≡ self.catalog.listing = ap (λ (k : CatalogView). k.listing) select.catalog ∙ store.same in
    saved_ready c.requires.ready prepared c.requires.low c.requires.room _ append.position root_is steps saveable_last shadow moved listing select.selected.root select.selected.number (adopt.adopted.area ∙ select.selected.area) adopt.adopted.settled
    (ap (λ (k : CatalogView). length k.pending) select.catalog ∙ ap (λ (b : List Bool). length b) store.written)

pub returns-clause-saved : goal.returns-clause-saved
returns-clause-saved g c =
    let self = c.args.self.now in
    let marks = c.args.marks in
    let pages = c.store.new.pages in
    let log = c.append-checkpoint.new.self in
    let store = c.in_ok-store.ensures in
    let save = c.in_ok-save.ensures in
    let append = c.append-checkpoint.ensures in
    let appends : Appends (records.Checkpoint marks) c.append-checkpoint.result self.log log = record { position = append.position; grown = append.appended; records = append.records } in
    let prepared : IsPrepared (view g.S.Pages.view self) marks (g.S.Pages.view pages) (g.S.Pages.view c.save.new.self) (g.S.Saving.saving pages) (g.S.Saving.saving c.save.new.self) log = record {
      count = _;
      at = c.append-checkpoint.result;
      step = store.did.step;
      stores = store.stores;
      saveable = g.met.S.Saving.saveable pages;
      saveable_now = g.met.S.Saving.saveable c.save.new.self;
      saving = save.did.step;
      only = save.only;
      pages = save.saved;
      backing = save.backing;
      appends = appends;
    } in
    let heads : c.least_mark-head.result ≡ least_mark self.log.end marks = c.least_mark-head.ensures ∙ ap (λ (n : ℕ). least_mark n marks) c.end.ensures.end in
    let root_is = saved_same self.root (1 - self.root.area) c.append-checkpoint.result heads c.end-2.ensures.end c.tail_of.ensures in
    let select = c.in_ok-select.ensures in
    let adopt = c.adopt.ensures in
    let steps = saving_then select.did.step adopt.did in
    let saveable_last = g.met.S.Saving.saveable c.adopt.new.self in
    let shadow = adopt.adopted.shadow ∙ select.did.step.current ∙ save.did.step.current in
    let moved : c.set_head.new.self ≡ with_head log (least_mark self.log.end marks) = c.set_head.ensures.moved ∙ (λ i. with_head (select.log i) (heads i)) in
    let listing : c.select.new.self.catalog.listing ≡ self.catalog.listing = ap (λ (k : CatalogView). k.listing) select.catalog ∙ store.same in
    saved_all c.requires.ready prepared c.requires.low c.requires.room _ append.position root_is steps saveable_last shadow moved listing select.selected.root

pub returns-clause-saves : goal.returns-clause-saves
returns-clause-saves g c =
    let self = c.args.self.now in
    let marks = c.args.marks in
    let pages = c.store.new.pages in
    let log = c.append-checkpoint.new.self in
    let store = c.in_ok-store.ensures in
    let save = c.in_ok-save.ensures in
    let append = c.append-checkpoint.ensures in
    let appends : Appends (records.Checkpoint marks) c.append-checkpoint.result self.log log = record { position = append.position; grown = append.appended; records = append.records } in
    let prepared : IsPrepared (view g.S.Pages.view self) marks (g.S.Pages.view pages) (g.S.Pages.view c.save.new.self) (g.S.Saving.saving pages) (g.S.Saving.saving c.save.new.self) log = record {
      count = _;
      at = c.append-checkpoint.result;
      step = store.did.step;
      stores = store.stores;
      saveable = g.met.S.Saving.saveable pages;
      saveable_now = g.met.S.Saving.saveable c.save.new.self;
      saving = save.did.step;
      only = save.only;
      pages = save.saved;
      backing = save.backing;
      appends = appends;
    } in
    let heads : c.least_mark-head.result ≡ least_mark self.log.end marks = c.least_mark-head.ensures ∙ ap (λ (n : ℕ). least_mark n marks) c.end.ensures.end in
    let root_is = saved_same self.root (1 - self.root.area) c.append-checkpoint.result heads c.end-2.ensures.end c.tail_of.ensures in
    let select = c.in_ok-select.ensures in
    let adopt = c.adopt.ensures in
    let steps = saving_then select.did.step adopt.did in
    let saveable_last = g.met.S.Saving.saveable c.adopt.new.self in
    let shadow = adopt.adopted.shadow ∙ select.did.step.current ∙ save.did.step.current in
    let moved : c.set_head.new.self ≡ with_head log (least_mark self.log.end marks) = c.set_head.ensures.moved ∙ (λ i. with_head (select.log i) (heads i)) in
    let listing : c.select.new.self.catalog.listing ≡ self.catalog.listing = ap (λ (k : CatalogView). k.listing) select.catalog ∙ store.same in
    saves_so c.requires.ready prepared c.requires.low c.requires.room _ append.position root_is steps saveable_last shadow moved listing select.selected.root

pub returns-clause-moments : goal.returns-clause-moments
returns-clause-moments g c = λ told stored next can.
    let self = c.args.self.now in
    let marks = c.args.marks in
    let pages = c.store.new.pages in
    let log = c.append-checkpoint.new.self in
    let store = c.in_ok-store.ensures in
    let save = c.in_ok-save.ensures in
    let append = c.append-checkpoint.ensures in
    let appends : Appends (records.Checkpoint marks) c.append-checkpoint.result self.log log = record { position = append.position; grown = append.appended; records = append.records } in
    let prepared : IsPrepared (view g.S.Pages.view self) marks (g.S.Pages.view pages) (g.S.Pages.view c.save.new.self) (g.S.Saving.saving pages) (g.S.Saving.saving c.save.new.self) log = record {
      count = _;
      at = c.append-checkpoint.result;
      step = store.did.step;
      stores = store.stores;
      saveable = g.met.S.Saving.saveable pages;
      saveable_now = g.met.S.Saving.saveable c.save.new.self;
      saving = save.did.step;
      only = save.only;
      pages = save.saved;
      backing = save.backing;
      appends = appends;
    } in
    let heads : c.least_mark-head.result ≡ least_mark self.log.end marks = c.least_mark-head.ensures ∙ ap (λ (n : ℕ). least_mark n marks) c.end.ensures.end in
    let root_is = saved_same self.root (1 - self.root.area) c.append-checkpoint.result heads c.end-2.ensures.end c.tail_of.ensures in
    let mid_told = store.did.step.passes.leaves.told.0 told in
    let saved_told = save.did.step.told.0 mid_told in
    let holds = g.met.S.Pages.holds pages mid_told in
    let left = saved_left c.requires.ready store.did.step save.only can.disk told (λ settled. g.met.S.Pages.stays pages settled mid_told) in
    let is = saved_next c.requires.ready prepared c.requires.low c.requires.room can told holds _ c.append-checkpoint.result append.position root_is {catalog = c.store.new.self} left in
    let first = saved_moments c.requires.ready store.did.step save.only can.disk told (λ settled. g.met.S.Pages.stays pages settled mid_told) in
    let select = c.in_ok-select.ensures in
    let adopt = c.adopt.ensures in
    let steps = saving_then select.did.step adopt.did in
    let saveable_last = g.met.S.Saving.saveable c.adopt.new.self in
    let shadow = adopt.adopted.shadow ∙ select.did.step.current ∙ save.did.step.current in
    let moved : c.set_head.new.self ≡ with_head log (least_mark self.log.end marks) = c.set_head.ensures.moved ∙ (λ i. with_head (select.log i) (heads i)) in
    let listing : c.select.new.self.catalog.listing ≡ self.catalog.listing = ap (λ (k : CatalogView). k.listing) select.catalog ∙ store.same in
    then
    (then (widened first (λ image was. inl was)) (select.moments saved_told _ _ _ is)
    (λ image. ⊎_elim (λ was. inl was) (λ store. inr (saved_store c.requires.ready prepared c.requires.low c.requires.room can told holds _ c.append-checkpoint.result append.position root_is image store))))
    (adopt.adopted.moments (select.did.step.told.0 saved_told))
    (λ image leaves. inr (saved_store c.requires.ready prepared c.requires.low c.requires.room can told holds _ c.append-checkpoint.result append.position root_is image (select.leaves saved_told _ _ _ is image leaves)))

pub returns-clause-shows : goal.returns-clause-shows
returns-clause-shows g c = λ told stored next can.
    let self = c.args.self.now in
    let marks = c.args.marks in
    let pages = c.store.new.pages in
    let log = c.append-checkpoint.new.self in
    let store = c.in_ok-store.ensures in
    let save = c.in_ok-save.ensures in
    let append = c.append-checkpoint.ensures in
    let appends : Appends (records.Checkpoint marks) c.append-checkpoint.result self.log log = record { position = append.position; grown = append.appended; records = append.records } in
    let prepared : IsPrepared (view g.S.Pages.view self) marks (g.S.Pages.view pages) (g.S.Pages.view c.save.new.self) (g.S.Saving.saving pages) (g.S.Saving.saving c.save.new.self) log = record {
      count = _;
      at = c.append-checkpoint.result;
      step = store.did.step;
      stores = store.stores;
      saveable = g.met.S.Saving.saveable pages;
      saveable_now = g.met.S.Saving.saveable c.save.new.self;
      saving = save.did.step;
      only = save.only;
      pages = save.saved;
      backing = save.backing;
      appends = appends;
    } in
    let heads : c.least_mark-head.result ≡ least_mark self.log.end marks = c.least_mark-head.ensures ∙ ap (λ (n : ℕ). least_mark n marks) c.end.ensures.end in
    let root_is = saved_same self.root (1 - self.root.area) c.append-checkpoint.result heads c.end-2.ensures.end c.tail_of.ensures in
    let mid_told = store.did.step.passes.leaves.told.0 told in
    let saved_told = save.did.step.told.0 mid_told in
    let holds = g.met.S.Pages.holds pages mid_told in
    let left = saved_left c.requires.ready store.did.step save.only can.disk told (λ settled. g.met.S.Pages.stays pages settled mid_told) in
    let is = saved_next c.requires.ready prepared c.requires.low c.requires.room can told holds _ c.append-checkpoint.result append.position root_is {catalog = c.store.new.self} left in
    let first = saved_moments c.requires.ready store.did.step save.only can.disk told (λ settled. g.met.S.Pages.stays pages settled mid_told) in
    let select = c.in_ok-select.ensures in
    let adopt = c.adopt.ensures in
    let steps = saving_then select.did.step adopt.did in
    let saveable_last = g.met.S.Saving.saveable c.adopt.new.self in
    let shadow = adopt.adopted.shadow ∙ select.did.step.current ∙ save.did.step.current in
    let moved : c.set_head.new.self ≡ with_head log (least_mark self.log.end marks) = c.set_head.ensures.moved ∙ (λ i. with_head (select.log i) (heads i)) in
    let listing : c.select.new.self.catalog.listing ≡ self.catalog.listing = ap (λ (k : CatalogView). k.listing) select.catalog ∙ store.same in
    let new_told = select.did.step.told.0 saved_told in
    let new : StoreView = record {
      pages = g.S.Pages.view c.adopt.new.self;
      catalog = c.select.new.self.catalog;
      log = c.set_head.new.self;
      root = c.select.new.self.root;
      number = c.select.new.self.number;
    } in
    stands_saved c.requires.ready prepared c.requires.low c.requires.room new append.position root_is steps saveable_last shadow moved listing can told holds
    (λ gone ps has placed. c.set_head.ensures.records gone ps (subst (λ (l : LogView). HasRecords l (gone ++ ps)) (sym select.log) has)
    (subst (λ (l : LogView). ArePlaced l.head gone c.least_mark-head.result) (sym select.log) (subst (ArePlaced log.head gone) (sym heads) placed)))
    select.selected.root select.selected.number (g.met.S.Pages.are_counted c.adopt.new.self)
    (fixes_now saveable_last
    (slots_last c.requires.ready prepared c.requires.low c.requires.room new append.position root_is steps saveable_last shadow moved listing ∙ c.requires.ready.size)
    (log_pages_last c.requires.ready prepared c.requires.low c.requires.room new append.position root_is steps saveable_last shadow moved listing ∙ c.requires.ready.log_pages)
    shadow (adopt.did.told.0 new_told) (g.met.S.Pages.reads_as_image c.adopt.new.self))
    (λ image leaves. select.leaves saved_told _ _ _ is image (no_more (adopt.adopted.moments new_told) image leaves))

pub returns-clause-writes : goal.returns-clause-writes
returns-clause-writes g c =
    let self = c.args.self.now in
    let log_end : c.append-checkpoint.new.self.end ≡ self.log.end + record_size (records.Checkpoint c.args.marks) = ap (λ (l : LogView). l.end) c.append-checkpoint.ensures.appended in
    λ keys has. omega (arith, writes_all c.in_ok-store.ensures.did.step (g.met.S.Saving.saveable c.store.new.pages) c.in_ok-save.ensures.writes keys has, c.in_ok-select.ensures.writes, c.adopt.ensures.adopted.writes, ap (new_pieces self.root) log_end)

pub returns-clause-version : goal.returns-clause-version
returns-clause-version g c = ap (λ (r : Root). r.version) c.in_ok-select.ensures.selected.root
