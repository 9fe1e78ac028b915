-- That a change finds room, and takes two home or overflow pages at most.
use Rattle.std.proofs.Common.{◌≡◌, ℕ, ◌+◌, ◌≤◌, Bool, true, false, if◌then◌else◌, ◌==◌, refl, sym, ◌∙◌, ap, arith}
use Rattle.std.specs.Prelude.{Option, Some, None}
use Rattle.std.proofs.lemmas.Bool.{eq-eqb, eqb-true}
use Rattle.std.proofs.lemmas.Option.{none-some}
use Rattle.rss_base.specs.Listings.{Listing, relation_at}
use Rattle.rss_base.specs.Paged.{mapped_of, mapped_pages}
use Rattle.rss_base.specs.declared.change.Change as told
use Rattle.rss_base.specs.declared.change.Change.TheVariants.{Insert, Delete, Update, Connect, Disconnect}
use Rattle.rss_base.specs.declared.key.Space.TheVariants.{Image}
use Rattle.rss_base.specs.declared.relation.RelationEntry.{RelationEntry}
use Rattle.rss_model.specs.Machine.{State}
use Rattle.rss_model.specs.Spares.{page_counts}
use Rattle.rss_stored.proofs.ImageRooms.{bound_rises}
use Rattle.rss_model.proofs.Sparing.{spare_for_next}
use Rattle.rss_stored.proofs.StorePages.{pages_split}
use Rattle.rss_entries.proofs.Rooms.{room_within}
use Rattle.rss_access.specs.Changes.{HasRoom, HasRoomFor, Takes}
use Rattle.rss_store.specs.Changing.{access}
use Rattle.rss_store.specs.Stores.{StoreView, IsReady as IsStoreReady}
use Rattle.rss_session.specs.Changes.{relation_told}
use Rattle.rss_session.specs.Sessions.{SessionView, most_in, IsReady, sums_in}
use Rattle.rss_session.specs.Sessions as sessions
use Rattle.rss_session.specs.Shown.{Shows}
use Rattle.rss_session.specs.Weighing.{most_with, images_with}
use Rattle.rss_session.proofs.Noted.{Goes}
use Rattle.rss_session.proofs.Traffic.{most_counted, with_more}
use Rattle.rss_session.proofs.Weighed.{few_slots}

-- a tuple more of the relation is within what is allowed with a change more of it
within_with : (number n live : ℕ) (most : ℕ → ℕ) → live ≤ most n → (if n == number then live + 1 else live) ≤ most_with (Some number) most n
within_with number n live most few = by (n == number) refl
  where
    by : (b : Bool) → (n == number) ≡ b → (if b then live + 1 else live) ≤ most_with (Some number) most n
    by true is =
        let back : (number == n) ≡ true = eq-eqb number n (sym (eqb-true n number is)) in
        let more : most_with (Some number) most n ≡ most n + 2 = ap (λ (b : Bool). if b then most n + 2 else most n) back in
        omega (arith, more, few)
    by false is = omega (arith, few, with_more (Some number) most n)

-- with a change of a chain there is none more, since no relation has the number 0
within_chain : (listing : Listing) (n live : ℕ) (relation : RelationEntry) (most : ℕ → ℕ) → relation_at listing n ≡ Some relation → live ≤ most n → (if n == 0 then live + 1 else live) ≤ most n
within_chain listing n live relation most at few = by (n == 0) refl
  where
    by : (b : Bool) → (n == 0) ≡ b → (if b then live + 1 else live) ≤ most n
    by true is = absurd (none-some relation (ap (relation_at listing) (sym (eqb-true n 0 is)) ∙ at))
    by false is = few

-- one that goes on finds room, with a tuple more of a relation within what is allowed
room_more : {view : SessionView} {state : State} {t size : ℕ} (counted : Option ℕ) (number : ℕ) → ((n live : ℕ) (relation : RelationEntry) → relation_at view.store.catalog.listing n ≡ Some relation → live ≤ most_in view n → (if n == number then live + 1 else live) ≤ most_with counted (most_in view) n)
    → IsReady view → Goes view t counted size → Shows view state → HasRoom (access view.store) number
room_more {view = view} {state = state} counted number more ready goes shows =
    let listing : Listing = view.store.catalog.listing in
    let rises = bound_rises listing (most_in view) (most_with counted (most_in view)) (λ other relation at. with_more counted (most_in view) other) in
    let spare = spare_for_next (sessions.counts view) (images_with view counted) (sums_in view.opened).p (page_counts view.store.pages) (omega (arith, goes.room, ready.store.size)) ready.pages (omega (arith, ready.saved, rises)) in
    let within = room_within listing number (most_with counted (most_in view)) (λ n relation at.
    more n relation.live relation at
    (omega (arith, shows.store.spells.counts n relation at, shows.counted.rooms.metered.tuples relation.name, most_counted shows.counted (few_slots ready shows) n relation at))) in
    omega (arith, spare, within)

room_tuple : {view : SessionView} {state : State} {t size : ℕ} (number : ℕ) → IsReady view → Goes view t (Some number) size → Shows view state → HasRoom (access view.store) number
room_tuple {view = view} number = room_more {view = view} (Some number) number (λ n live relation at few. within_with number n live (most_in view) few)

room_chain : {view : SessionView} {state : State} {t size : ℕ} → IsReady view → Goes view t None size → Shows view state → HasRoom (access view.store) 0
room_chain {view = view} = room_more {view = view} None 0 (λ n live relation at few. within_chain view.store.catalog.listing n live relation (most_in view) at few)

-- any change that goes on does
pub room_next : {view : SessionView} {state : State} {t size : ℕ} (told_change : told.Change) → IsReady view → Goes view t (relation_told told_change) size → Shows view state → HasRoomFor (access view.store) told_change
room_next (Insert relation tid values) ready goes shows = room_tuple relation ready goes shows
room_next (Delete relation tid values) ready goes shows = room_tuple relation ready goes shows
room_next (Update relation tid was next) ready goes shows = room_tuple relation ready goes shows
room_next (Connect link parent child left) ready goes shows = room_chain ready goes shows
room_next (Disconnect link parent child left) ready goes shows = room_chain ready goes shows

-- beside the pages of images, two more are there at most
pub mapped_two : (old new : StoreView) → IsStoreReady old → IsStoreReady new → Takes 2 old.pages new.pages
    → mapped_pages new.pages.slots new.pages.mapped + mapped_of old.pages.mapped Image old.pages.slots ≤ mapped_pages old.pages.slots old.pages.mapped + 2 + mapped_of new.pages.mapped Image new.pages.slots
mapped_two old new ready ready_new takes = omega (
  arith,
  pages_split old.pages.mapped old.pages.slots ready.system,
  pages_split new.pages.mapped new.pages.slots ready_new.system,
  takes.heap,
)
