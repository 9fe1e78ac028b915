-- The room that the room number asks for is enough for each change and each way back.
use Rattle.std.proofs.Common.{ℕ, ◌+◌, ◌-◌, ◌≤◌, ap, arith}
use Rattle.rss_base.specs.PageMap.{page_count}
use Rattle.rss_base.specs.Paged.{Backing, mapped_of, mapped_pages}
use Rattle.rss_base.specs.Steps.{PagesView, Keys, PagesStep, AreCounted}
use Rattle.rss_base.specs.StoredPages.{mapped_by}
use Rattle.rss_base.specs.declared.key.Space.TheVariants.{Image}
use Rattle.rss_model.specs.Spares.{ChangeCounts, PageCounts, HasMade, with_one, SessionBegins, SessionChanges, SessionGoesBack, SessionForgets, SparesForAll, SparesForNext, page_counts, times_in_restart, times_in_session, TakesTwo, NumberLeavesRoom, SparesTwo, MakesOnceMore}

pub number_leaves_room : NumberLeavesRoom
number_leaves_room definitions meter pages room = omega (arith, room)

pub spare_in_session : SparesTwo times_in_session
spare_in_session counts pages times more room made saved few = omega (arith, room, made.before, made.now, made.all, saved, few)

pub spare_in_restart : SparesTwo times_in_restart
spare_in_restart counts pages times more room made saved few = omega (arith, room, made.before, made.now, made.all, saved, few)

pub once_more : MakesOnceMore
once_more counts times old new made takes = record {
  before = omega (arith, made.before, takes.saved, takes.saved_images);
  now = omega (arith, made.now, takes.mapped);
  all = takes.all;
}

-- a step of pages that maps two more at most beside those of images
pub takes_two : {touched : Keys} {asks writes : ℕ} {old new : PagesView} → PagesStep touched asks writes old new → AreCounted new → mapped_pages new.slots new.mapped + mapped_of old.mapped Image old.slots ≤ mapped_pages old.slots old.mapped + 2 + mapped_of new.mapped Image new.slots → TakesTwo (page_counts old) (page_counts new)
takes_two step counted two = record {
  slots = step.passes.slots;
  saved = ap (λ (b : Backing). page_count b.shadow) step.passes.backing;
  saved_images = λ i. mapped_of (mapped_by (step.passes.backing i).shadow) Image (step.passes.slots i);
  mapped = two;
  all = counted;
}

-- ---- a session

-- so many times at most, and so more at most
made_more : (counts : ChangeCounts) (times most : ℕ) (pages : PageCounts) → times ≤ most → HasMade counts times pages → HasMade counts most pages
made_more counts times most pages few made = record { before = made.before; now = omega (arith, made.now, few); all = made.all }

pub session_begins : SessionBegins
session_begins counts pages made = record { most = omega arith; made = made_more counts 0 (times_in_session counts - counts.surviving) pages (omega arith) made }

-- one change more is allowed
made_with_one : (counts : ChangeCounts) (images times : ℕ) (pages : PageCounts) → HasMade counts times pages → HasMade (with_one images counts) times pages
made_with_one counts images times pages made = record { before = made.before; now = made.now; all = made.all }

pub session_changes : SessionChanges
session_changes counts images listed old new is takes =
    let left : ℕ = times_in_session counts - listed in record {
      most = omega (arith, is.most);
      made = made_more (with_one images counts) (left + 1) (times_in_session (with_one images counts) - (listed + 1)) new (omega (arith, is.most)) (once_more (with_one images counts) left old new (made_with_one counts images left old is.made) takes);
    }

pub session_goes_back : SessionGoesBack
session_goes_back counts listed old new is takes =
    let left : ℕ = times_in_session counts - (listed + 1) in record {
      most = omega (arith, is.most);
      made = made_more counts (left + 1) (times_in_session counts - listed) new (omega (arith, is.most)) (once_more counts left old new is.made takes);
    }

pub session_forgets : SessionForgets
session_forgets counts listed fewer pages is le = record {
  most = omega (arith, is.most, le);
  made = made_more counts (times_in_session counts - listed) (times_in_session counts - fewer) pages (omega (arith, is.most, le)) is.made;
}

pub spare_for_all : SparesForAll
spare_for_all counts listed pages room is saved = spare_in_session counts pages (times_in_session counts - listed) listed room is.made saved (omega (arith, is.most))

pub spare_for_next : SparesForNext
spare_for_next counts images listed pages room is saved =
    let left : ℕ = times_in_session counts - listed in
    spare_in_session (with_one images counts) pages left (1 + (listed + 1)) room (made_with_one counts images left pages is.made) saved (omega (arith, is.most))
