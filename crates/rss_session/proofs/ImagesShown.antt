-- The tables of a state in which a session may be are such as its images show.
use Rattle.std.proofs.Common.{ℕ, ap, arith}
use Rattle.rss_base.specs.declared.image.ImageEntry.{ImageEntry}
use Rattle.rss_base.specs.declared.relation.RelationEntry.{RelationEntry}
use Rattle.rss_base.specs.declared.root.Root.{Root}
use Rattle.rss_model.specs.Kept.{Kept}
use Rattle.rss_model.specs.Machine.{StoreSize, State, now}
use Rattle.rss_stored.specs.Store.{IsListedImage}
use Rattle.rss_model.proofs.StepKeeping.{kept_fit}
use Rattle.rss_access.proofs.Spelling.{all_storable}
use Rattle.rss_entries.proofs.Lists.{listed_shows}
use Rattle.rss_entries.proofs.Shown.{Shows as ShowsImage}
use Rattle.rss_session.specs.Sessions.{SessionView, IsReady}
use Rattle.rss_session.specs.Shown.{Shows}

pub image_shown : {view : SessionView} {state : State} {number : ℕ} {image : ImageEntry} {relation : RelationEntry} → IsReady view → Kept state → Shows view state → IsListedImage view.store.catalog.listing number image relation → ShowsImage (now state) image relation
image_shown {state = state} ready kept shows at =
    let fit = (kept_fit state kept).1 in
    let slots = ap (λ (size : StoreSize). size.slots) shows.store.tied.size in
    let root = ap (λ (r : Root). r.slots) shows.store.disk.root_is in
    let most = ready.store.formed.slots_most in
    listed_shows (now state) shows.store.spells.listed shows.store.spells.defines at fit.tuples (all_storable shows.store.spells)
    (λ name tid there. let id = fit.tids name tid there in record { page = omega (arith, id.page, slots, root, most); slot = omega (arith, id.slot) })
