-- Changes that are made one after another.
use Rattle.std.proofs.Common.{◌≡◌, inl, inr, ℕ, ◌+◌, ◌*◌, ◌≤◌, List, [], ◌∷◌, ◌++◌, length, get_or, take, drop, append_assoc, add-one, refl, sym, ◌∙◌, ap, subst, arith}
use Rattle.std.specs.Prelude.{◌<◌, map, Option, Some, None, Result, Ok, Err, IsErrAnd, OnOk}
use Rattle.std.proofs.Math.Seq.{drop-cons}
use Rattle.std.proofs.lemmas.Result.{err_from_is_err_and}
use Rattle.std.proofs.lemmas.List.{take_more, take-append-drop, map-append}
use Rattle.rss_base.specs.DiskRule.{IsTold}
use Rattle.rss_base.specs.Steps.{PagesView, PagesStep}
use Rattle.rss_base.specs.declared.fault.PageFault.{PageFault}
use Rattle.rss_base.specs.declared.fault.PageFault.TheVariants.{Device as DeviceFailed, Damaged, NoMemory}
use Rattle.rss_base.specs.declared.key.PageKey.{PageKey}
use Rattle.rss_base.specs.declared.place.Place.{Place}
use Rattle.rss_base.specs.declared.place.Place.TheVariants.{Log as LogPlace}
use Rattle.rss_base.specs.declared.link.LinkEntry.{LinkEntry}
use Rattle.rss_base.specs.declared.relation.RelationEntry.{RelationEntry}
use Rattle.rss_base.specs.declared.change.Change as told
use Rattle.rss_base.specs.declared.change.Change.TheVariants.{Insert, Delete, Update, Connect, Disconnect}
use Rattle.rss_base.specs.Listings.{Listing, relation_at, link_at}
use Rattle.rss_base.proofs.Steps.{rests, then, within}
use Rattle.rss_log.specs.Logs.{LogView}
use Rattle.rss_model.specs.Tables.{Tables}
use Rattle.rss_access.specs.Written.{content_of}
use Rattle.rss_members.specs.Calls.{pages_in_link}
use Rattle.rss_access.specs.Changes.{AccessView, alter_cost, Takes, HasRoomFor, applied, pages_of_relation, pages_told, Makes, NoneApplies, CanAlter, CanApply}
use Rattle.rss_access.proofs.Altering.{applies_by}
use Rattle.rss_access.proofs.Rerooting.{same_images}
use Rattle.rss_access.proofs.Telling.{none_applies}
use Rattle.rss_restart.specs.declared.restarting.Way.{Way}
use Rattle.rss_restart.specs.Walks.{Turn, turn, directed, recorded, Move, turns_of, moved, TellsAt, TellsNone, StepsTo, NoStep, CanWalk, Leads, NoWalk, Walks}
use Rattle.rss_restart.specs.Walks.{Counted}
use Rattle.rss_restart.specs.Walks.Counted.{counts_none, counts_more}
use Rattle.rss_catalog.specs.Catalogs.{CatalogView}
use Rattle.rss_restart.specs.Restarting.{KeepsCatalog}
use Rattle.rss_restart.proofs.Keeping.{keeps_itself, keeps_then, keeps_made}
use Rattle.rss_restart.proofs.Moving.{walks_on, no_step_walks, told_once}

-- ---- lists

nothing_turns : (next : Turn) (turns : List Turn) → [] ≡ next ∷ turns → ⊥
nothing_turns next turns same = cc (same)

-- changes by the parts of their turns
record Parts (front : List Move) (one two : List Turn) : Type 0 where
  first : List Move
  second : List Move
  is : front ≡ first ++ second
  first_is : turns_of first ≡ one
  second_is : turns_of second ≡ two

parted : (front : List Move) (one two : List Turn) → turns_of front ≡ one ++ two → Parts front one two
parted front [] two is = record { first = []; second = front; is = refl; first_is = refl; second_is = is }
parted [] (next ∷ one) two is = absurd (nothing_turns next (one ++ two) is)
parted (m ∷ front) (next ∷ one) two is =
    let here : m.next ≡ next = cc (is) in
    let others : turns_of front ≡ one ++ two = cc (is) in
    let rest = parted front one two others in
    record {
      first = m ∷ rest.first;
      second = rest.second;
      is = ap (λ (ms : List Move). m ∷ ms) rest.is;
      first_is = λ i. here i ∷ rest.first_is i;
      second_is = rest.second_is;
    }

pub moved_both : (tables : Tables) (one two : List Move) → moved tables (one ++ two) ≡ moved (moved tables one) two
moved_both tables [] two = refl
moved_both tables (m ∷ one) two = moved_both (applied tables m.change) one two

-- ---- where they lead

pub leads_nowhere : {log : LogView} (view : AccessView) → Leads log [] view view
leads_nowhere view told tables [] rest is can = can
leads_nowhere view told tables (m ∷ front) rest is can = absurd (nothing_turns m.next (turns_of front) (sym is))

-- one change more
leads_one : {log : LogView} {next : Turn} {old new : AccessView} → StepsTo log next old new → new.pages.slots ≡ old.pages.slots → Leads log (next ∷ []) old new
leads_one step slots told tables [] rest is can = absurd (nothing_turns _ _ is)
leads_one {log = log} {next = next} {old = old} {new = new} step slots told tables (m ∷ []) rest is can =
    let here : m.next ≡ next = cc (is) in
    walks_on can (subst (λ (n : Turn). StepsTo log n old new) (sym here) step) told slots
leads_one {next = next} step slots told tables (m ∷ k ∷ front) rest is can =
    let more : k.next ∷ turns_of front ≡ [] = cc (is) in
    absurd (nothing_turns k.next (turns_of front) (sym more))

leads_both : {log : LogView} {one two : List Turn} {old mid new : AccessView} → Leads log one old mid → (IsTold old.pages.disk → IsTold mid.pages.disk) → Leads log two mid new → Leads log (one ++ two) old new
leads_both {log = log} {one = one} {two = two} {old = old} {mid = mid} {new = new} lead still last told tables front rest is can =
    let parts = parted front one two is in
    let whole : CanWalk log old tables (parts.first ++ (parts.second ++ rest)) =
    subst (λ (ms : List Move). CanWalk log old tables ms) (ap (λ (ms : List Move). ms ++ rest) parts.is ∙ append_assoc parts.first parts.second rest) can in
    subst (λ (t : Tables). CanWalk log new t rest) (sym (ap (moved tables) parts.is ∙ moved_both tables parts.first parts.second))
    (last (still told) (moved tables parts.first) parts.second rest parts.second_is (lead told tables parts.first (parts.second ++ rest) parts.first_is whole))

pub leads_more : {log : LogView} {turns : List Turn} {next : Turn} {old mid new : AccessView} → Leads log turns old mid → (IsTold old.pages.disk → IsTold mid.pages.disk) → StepsTo log next mid new → new.pages.slots ≡ mid.pages.slots → Leads log (turns ++ next ∷ []) old new
leads_more lead still step slots = leads_both lead still (leads_one step slots)

-- where one of them can't be made, they can't all be
pub leads_no_more : {log : LogView} {turns : List Turn} (after : List Turn) (next : Turn) {old mid : AccessView} → Leads log turns old mid → IsTold old.pages.disk → NoStep log next mid → NoWalk log (turns ++ next ∷ after) old
leads_no_more {log = log} {turns = turns} after next {old = old} {mid = mid} lead told none tables front rest is can =
    let parts = parted front turns (next ∷ after) is in
    let whole : CanWalk log old tables (parts.first ++ (parts.second ++ rest)) =
    subst (λ (ms : List Move). CanWalk log old tables ms) (ap (λ (ms : List Move). ms ++ rest) parts.is ∙ append_assoc parts.first parts.second rest) can in
    by rest parts.second parts.second_is (lead told tables parts.first (parts.second ++ rest) parts.first_is whole)
  where
    by : {reached : Tables} (rest : List Move) (second : List Move) → turns_of second ≡ next ∷ after → CanWalk log mid reached (second ++ rest) → ⊥
    by rest [] is can = nothing_turns next after is
    by rest (m ∷ second) is can =
        let here : m.next ≡ next = cc (is) in
        no_step_walks can (subst (λ (n : Turn). NoStep log n mid) (sym here) none)

-- ---- by the positions of their records

pub turns_more : (way : Way) (positions : List ℕ) (i : ℕ) → i < length positions → map (turn way) (take (i + 1) positions) ≡ map (turn way) (take i positions) ++ turn way (get_or positions i 0) ∷ []
turns_more way positions i low = ap (map (turn way)) (take_more positions i 0 low) ∙ map-append (turn way) (take i positions) (get_or positions i 0 ∷ [])

pub turns_all : (way : Way) (positions : List ℕ) (i : ℕ) → i < length positions → map (turn way) positions ≡ map (turn way) (take i positions) ++ turn way (get_or positions i 0) ∷ map (turn way) (drop (i + 1) positions)
turns_all way positions i low =
    ap (map (turn way)) (sym (take-append-drop i positions))
    ∙ map-append (turn way) (take i positions) (drop i positions)
    ∙ ap (λ (ps : List ℕ). map (turn way) (take i positions) ++ map (turn way) ps) (drop-cons positions i 0 low)
    ∙ ap (λ (n : ℕ). map (turn way) (take i positions) ++ turn way (get_or positions i 0) ∷ map (turn way) (drop n positions)) (sym (add-one i))

-- ---- what they pass on

-- pages that images may have now are those that they had
content_was : {old mid : AccessView} → KeepsCatalog old mid → (key : PageKey) → content_of mid.catalog.listing key → content_of old.catalog.listing key
content_was keeps key (inl heap) = inl heap
content_was keeps key (inr image) = inr (image.0, same_images keeps.images image.1)

takes_none : (pages : PagesView) → Takes 0 pages pages
takes_none pages = record { heap = omega arith; places = omega arith }

takes_both : {T : Type 0} (old mid new : PagesView) (m n all : ℕ) (result : Result T PageFault) → all ≡ m + n → Takes m old mid → OnOk result (Takes n mid new) → OnOk result (Takes all old new)
takes_both old mid new m n all (Ok value) sum one two = record { heap = omega (arith, sum, one.heap, two.heap); places = omega (arith, sum, one.places, two.places) }
takes_both old mid new m n all (Err fault) sum one two = tt

pub walks_nothing : {log : LogView} (view : AccessView) → Walks {T = Unit {0}} log 0 view view (Ok tt)
walks_nothing view = record {
  made = 0;
  few = omega arith;
  step = rests view.pages;
  takes = takes_none view.pages;
  keeps = keeps_itself view;
  failed = λ is. absurd (cc);
  memory = λ is. absurd (cc);
  place = λ place is. absurd (cc);
}

module _ {T U : Type 0} {log : LogView} {most more : ℕ} {old mid new : AccessView} {value : U} where
  pub walks_then : {result : Result T PageFault} → Walks log most old mid (Ok value) → Walks log more mid new result → Walks log (most + more) old new result
  walks_then {result = result} one two =
      let next : PagesStep (content_of mid.catalog.listing) (two.made * alter_cost old.pages.slots) (two.made * alter_cost old.pages.slots) mid.pages new.pages =
      subst (λ (n : ℕ). PagesStep (content_of mid.catalog.listing) (two.made * alter_cost n) (two.made * alter_cost n) mid.pages new.pages) one.step.passes.slots two.step in
      record {
        made = one.made + two.made;
        few = omega (arith, one.few, two.few);
        step = within (λ key is. is) (omega arith) (omega arith) (then one.step (within {asks_now = two.made * alter_cost old.pages.slots} {outs_now = two.made * alter_cost old.pages.slots} (λ key is. content_was one.keeps key is) (omega arith) (omega arith) next));
        takes = takes_both old.pages mid.pages new.pages (2 * one.made) (2 * two.made) (2 * (one.made + two.made)) result (omega arith) one.takes two.takes;
        keeps = keeps_then one.keeps one.step.passes.leaves.told.0 two.keeps;
        failed = λ is. let rose = two.failed is in omega (arith, rose, one.step.passes.later);
        memory = two.memory;
        place = two.place;
      }

-- the error is passed on
pub walks_fail : {T U : Type 0} {log : LogView} {most : ℕ} {old new : AccessView} {fault : PageFault} (result : Result U PageFault) → IsErrAnd result (λ why. why ≡ fault) → Walks {T = T} log most old new (Err fault) → Walks log most old new result
walks_fail {U = U} {log = log} {most = most} {old = old} {new = new} {fault = fault} result is walks =
    let why = err_from_is_err_and result is in
    subst (λ (r : Result U PageFault). Walks log most old new r) (sym (why.1 ∙ ap Err why.2)) (record {
      made = walks.made;
      few = walks.few;
      step = walks.step;
      takes = tt;
      keeps = walks.keeps;
      failed = λ is. let same : fault ≡ DeviceFailed = cc in walks.failed (ap Err same);
      memory = λ is. let same : fault ≡ NoMemory = cc in walks.memory (ap Err same);
      place = λ place is. let same : fault ≡ Damaged place = cc in walks.place place (ap Err same);
    })

pub walks_within : {T : Type 0} {log : LogView} {most many : ℕ} {old new : AccessView} {result : Result T PageFault} → most ≤ many → Walks log most old new result → Walks log many old new result
walks_within few walks = record { made = walks.made; few = omega (arith, few, walks.few); step = walks.step; takes = walks.takes; keeps = walks.keeps; failed = walks.failed; memory = walks.memory; place = walks.place }

-- ---- one change

content_of_relation : (listing : Listing) (found : Option RelationEntry) (key : PageKey) → pages_of_relation listing found key → content_of listing key
content_of_relation listing None key is = absurd is
content_of_relation listing (Some relation) key is = is.1

content_of_link : (listing : Listing) (number : ℕ) (found : Option LinkEntry) (key : PageKey) → pages_in_link listing number found key → content_of listing key
content_of_link listing number None key is = absurd is
content_of_link listing number (Some link) key is = inl is.1.1

pub content_told : (listing : Listing) (change : told.Change) (key : PageKey) → pages_told listing change key → content_of listing key
content_told listing (Insert number tid values) key is = content_of_relation listing (relation_at listing number) key is
content_told listing (Delete number tid values) key is = content_of_relation listing (relation_at listing number) key is
content_told listing (Update number tid from to) key is = content_of_relation listing (relation_at listing number) key is
content_told listing (Connect link parent child left) key is = content_of_link listing link (link_at listing link) key is
content_told listing (Disconnect link parent child left) key is = content_of_link listing link (link_at listing link) key is

same_place : {T : Type 0} {one two : Place} → ◌≡◌ {A = Result T PageFault} (Err (Damaged one)) (Err (Damaged two)) → two ≡ one
same_place is = cc (is)

-- nothing is done, and the place of the record is damaged
pub walks_refused : {T : Type 0} {log : LogView} (at : ℕ) (view : AccessView) → log.head ≤ at → at ≤ log.end → Walks {T = T} log 1 view view (Err (Damaged (LogPlace at)))
walks_refused at view low high = record {
  made = 0;
  few = omega arith;
  step = rests view.pages;
  takes = tt;
  keeps = keeps_itself view;
  failed = λ is. absurd (cc);
  memory = λ is. absurd (cc);
  place = λ place is. record { at = at; low = low; high = high; is = same_place is };
}

module _ {T : Type 0} {change : told.Change} {old new : AccessView} {result : Result T PageFault} (makes : Makes change old new result) where
  made_step : PagesStep (content_of old.catalog.listing) (1 * alter_cost old.pages.slots) (1 * alter_cost old.pages.slots) old.pages new.pages
  made_step = within (λ key is. content_told old.catalog.listing change key is) (omega arith) (omega arith) makes.step

-- a change was made
pub walks_made : {T : Type 0} {log : LogView} {change : told.Change} {old new : AccessView} (value : T) → Makes change old new (Ok value) → Walks log 1 old new (Ok value)
walks_made value makes = record {
  made = 1;
  few = omega arith;
  step = made_step makes;
  takes = makes.takes;
  keeps = keeps_made _ _ (made_step makes) _ makes;
  failed = λ is. absurd (cc);
  memory = λ is. absurd (cc);
  place = λ place is. absurd (cc);
}

-- it was not
pub walks_recorded : {T U : Type 0} {log : LogView} {change : told.Change} {old new : AccessView} (at : ℕ) (fault : PageFault) → log.head ≤ at → at ≤ log.end → Makes {T = U} change old new (Err fault) → Walks {T = T} log 1 old new (Err (recorded at fault))
walks_recorded at DeviceFailed low high makes = record {
  made = 1;
  few = omega arith;
  step = made_step makes;
  takes = tt;
  keeps = keeps_made _ _ (made_step makes) _ makes;
  failed = λ is. makes.failed refl;
  memory = λ is. absurd (cc);
  place = λ place is. absurd (cc);
}
walks_recorded at (Damaged place) low high makes = record {
  made = 1;
  few = omega arith;
  step = made_step makes;
  takes = tt;
  keeps = keeps_made _ _ (made_step makes) _ makes;
  failed = λ is. absurd (cc);
  memory = λ is. absurd (cc);
  place = λ other is. record { at = at; low = low; high = high; is = same_place is };
}
walks_recorded at NoMemory low high makes = absurd (makes.memory refl)

-- ---- a change that can't be made

pub none_told : {log : LogView} (next : Turn) {view : AccessView} → TellsNone log next.at → NoStep log next view
none_told next none told_change tells room tables change can = none told_change tells

none_applied : {log : LogView} (next : Turn) {view : AccessView} {told_change : told.Change} → TellsAt log next.at told_change → (HasRoomFor view (directed next.way told_change) → NoneApplies (directed next.way told_change) view) → NoStep log next view
none_applied next {view = view} {told_change = told_change} tells none other tells_too room tables change can =
    let same = told_once tells_too tells in
    none (subst (λ (c : told.Change). HasRoomFor view (directed next.way c)) same room) tables change (subst (λ (c : told.Change). CanApply view (directed next.way c) tables change) same can)

pub none_recorded : {T U : Type 0} {log : LogView} (next : Turn) {old new : AccessView} {told_change : told.Change} (fault : PageFault) (place : Place) → CanAlter old → TellsAt log next.at told_change → Makes {T = U} (directed next.way told_change) old new (Err fault) → ◌≡◌ {A = Result T PageFault} (Err (recorded next.at fault)) (Err (Damaged place)) → IsTold old.pages.disk → NoStep log next old
none_recorded next DeviceFailed place may tells makes is told = absurd (cc (is))
none_recorded next {told_change = told_change} (Damaged found) place may tells makes is told = none_applied next tells (λ room. none_applies may told (makes.damaged found refl told) room)
none_recorded next NoMemory place may tells makes is told = absurd (cc (is))

-- ---- a change that is made

pub steps_made : {T : Type 0} {log : LogView} (next : Turn) {old new : AccessView} {told_change : told.Change} (value : T) → TellsAt log next.at told_change → Makes (directed next.way told_change) old new (Ok value) → StepsTo log next old new
steps_made next {told_change = told_change} value tells makes = record {
  told_change = told_change;
  tells = tells;
  applies = applies_by (directed next.way told_change) (Ok value) makes;
  relists = makes.relists;
  takes = makes.takes;
}

-- ---- the error that is passed on

pub passed_on : {T U : Type 0} {result : Result U PageFault} {fault : PageFault} {place : Place} → IsErrAnd result (λ why. why ≡ fault) → result ≡ Err (Damaged place) → ◌≡◌ {A = Result T PageFault} (Err fault) (Err (Damaged place))
passed_on {U = U} {result = result} {fault = fault} {place = place} is damaged =
    let why = err_from_is_err_and result is in
    let same : ◌≡◌ {A = Result U PageFault} (Err fault) (Err (Damaged place)) = sym (why.1 ∙ ap Err why.2) ∙ damaged in
    let one : fault ≡ Damaged place = cc (same) in
    ap Err one

-- ---- the counts

pub counted_both : {log : LogView} {one two : List Turn} {old mid new : CatalogView} → Counted log one old mid → Counted log two mid new → Counted log (one ++ two) old new
counted_both counts_none rest = rest
counted_both (counts_more tells relists front) rest = counts_more tells relists (counted_both front rest)

pub counted_more : {log : LogView} {turns : List Turn} {next : Turn} {start : CatalogView} {old new : AccessView} → Counted log turns start old.catalog → StepsTo log next old new → Counted log (turns ++ next ∷ []) start new.catalog
counted_more counted step = counted_both counted (counts_more step.tells step.relists counts_none)
