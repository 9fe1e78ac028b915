use Rattle.std.proofs.Common.{refl, sym, ◌∙◌, ap, arith}
use Rattle.std.proofs.lemmas.Result.{on_ok_weaker}
use Rattle.rss_base.specs.LogRecords.{IsSpellable}
use Rattle.rss_base.specs.Notes.{Noted}
use Rattle.rss_base.specs.Paged.{Held}
use Rattle.rss_base.specs.declared.log_record.LogRecord.TheVariants as records
use Rattle.rss_base.specs.declared.root.Root.{Root}
use Rattle.rss_catalog.specs.Catalogs.{CatalogView}
use Rattle.rss_store.proofs.Growing.{Appends}
use Rattle.rss_store.proofs.Pieces.{slots_still, mapped_still}
use Rattle.rss_store.proofs.Nexts.{on_ok_both, fixes_now}
use Rattle.rss_store.proofs.Spelled.{alter_still, can_alter}
use Rattle.rss_store.proofs.Selected.{checkpoint_stays}
use Rattle.rss_store.proofs.Ended.{grown_same, ended_can, ended_ready, ended_next, ended_moments, ended_shows}
use Rattle.rss_store.proofs.store.DurableStore.commit.Goals as goal

pub select-requires : goal.select-requires
select-requires g c =
    let append = c.append.ensures in
    let appends : Appends (records.End c.args.transaction) c.append.result c.args.self.now.log c.append.new.self = record { position = append.position; grown = append.appended; records = append.records } in
    ended_can c.requires.ready c.requires.room appends c.end.result c.tail_of.result c.end.ensures.end c.tail_of.ensures

pub returns-clause-ready : goal.returns-clause-ready
returns-clause-ready g c =
    let append = c.append.ensures in
    let appends : Appends (records.End c.args.transaction) c.append.result c.args.self.now.log c.append.new.self = record { position = append.position; grown = append.appended; records = append.records } in
    let select = c.select.ensures in
    let step = select.did.step in
    let saveable = g.met.S.Saving.saveable c.args.self.now.tuples.pages in
    let saveable_now = g.met.S.Saving.saveable c.select.new.self.tuples.pages in
    let slots = slots_still step saveable saveable_now in
    on_ok_weaker c.select.result (λ selected. ended_ready c.requires.ready c.requires.room appends (grown_same c.args.self.now.root c.end.ensures.end c.tail_of.ensures) selected select.log select.catalog
    slots (mapped_still step saveable saveable_now) step.log_pages
    (alter_still slots (ap (λ (k : CatalogView). k.listing) select.catalog) step.told.1 (λ told key off. ap (λ (h : Held). h key) (step.held told)) (λ key off. ap (λ (n : Noted). n key) step.notes) (can_alter c.requires.ready))) select.selected

pub returns-clause-moments : goal.returns-clause-moments
returns-clause-moments g c = λ told state shows may.
    let append = c.append.ensures in
    let appends : Appends (records.End c.args.transaction) c.append.result c.args.self.now.log c.append.new.self = record { position = append.position; grown = append.appended; records = append.records } in
    let spellable : IsSpellable (records.End c.args.transaction) = record { bounded = tt; fits = omega arith } in
    let pages = c.args.self.now.tuples.pages in
    let stays = g.met.S.Pages.stays pages c.requires.ready.settled_now told in
    let reads = g.met.S.Pages.reads_as_image pages in
    let is = grown_same c.args.self.now.root c.end.ensures.end c.tail_of.ensures in
    ended_moments appends spellable shows may c.requires.ready _ is told stays reads (c.select.ensures.moments told _ _ _ (ended_next appends spellable shows may c.requires.ready _ is told stays reads))

pub returns-clause-shows : goal.returns-clause-shows
returns-clause-shows g c =
    let append = c.append.ensures in
    let appends : Appends (records.End c.args.transaction) c.append.result c.args.self.now.log c.append.new.self = record { position = append.position; grown = append.appended; records = append.records } in
    let spellable : IsSpellable (records.End c.args.transaction) = record { bounded = tt; fits = omega arith } in
    let pages = c.args.self.now.tuples.pages in
    let pages_now = c.select.new.self.tuples.pages in
    let select = c.select.ensures in
    let step = select.did.step in
    let reads = g.met.S.Pages.reads_as_image pages in
    let is = grown_same c.args.self.now.root c.end.ensures.end c.tail_of.ensures in
    let saveable_now = g.met.S.Saving.saveable pages_now in
    let slots = slots_still step (g.met.S.Saving.saveable pages) saveable_now in
    let mapped = mapped_still step (g.met.S.Saving.saveable pages) saveable_now in
    on_ok_both c.select.result (λ selected leaves told state shows may.
    let stays = g.met.S.Pages.stays pages c.requires.ready.settled_now told in
    let next = ended_next appends spellable shows may c.requires.ready _ is told stays reads in
    ended_shows appends spellable shows may c.requires.ready _ is told stays reads selected select.log select.catalog (step.held told) slots mapped (g.met.S.Pages.are_counted pages) (g.met.S.Pages.are_counted pages_now)
    (fixes_now saveable_now (slots ∙ c.requires.ready.size) (step.log_pages ∙ c.requires.ready.log_pages) (selected.shadow ∙ sym shows.disk.owners_are) (step.told.0 told) (g.met.S.Pages.reads_as_image pages_now) (leaves told _ _ _ next))) select.selected select.leaves

pub returns-clause-version : goal.returns-clause-version
returns-clause-version g c = on_ok_weaker c.select.result (λ selected. ap (λ (r : Root). r.version) selected.root) c.select.ensures.selected

pub returns-clause-checkpoint : goal.returns-clause-checkpoint
returns-clause-checkpoint g c = checkpoint_stays _ _ _ c.select.result c.select.ensures.selected c.select.ensures.unselected refl
