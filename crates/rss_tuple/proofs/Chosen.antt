-- The identifier that a new tuple gets.
use Rattle.std.proofs.Common.{◌≡◌, inl, inr, ℕ, ◌+◌, ◌≤◌, ◌<◌, List, [], Option, Some, None, replicate, refl, sym, ◌∙◌, ap, subst, arith}
use Rattle.std.specs.Prelude.{is_some, Result, MatchOption, IfSome}
use Rattle.std.proofs.lemmas.Bool.{cases_Bool, cases_lt, cases_eq}
use Rattle.rss_base.specs.DiskRule.{IsTold}
use Rattle.rss_base.specs.PageMap.{IsKey}
use Rattle.rss_base.specs.Paged.{Held, Mapped, page_key, IsUnmappedAt, IsFirstFrom, NoneFrom}
use Rattle.rss_base.specs.Steps.{PagesView, pages_in, PagesCall}
use Rattle.rss_base.specs.declared.fault.PageFault.{PageFault}
use Rattle.rss_base.specs.declared.key.PageKey.{PageKey}
use Rattle.rss_base.specs.declared.key.Space.TheVariants.{Home}
use Rattle.rss_base.specs.declared.tid.Tid.{Tid}
use Rattle.rss_page.specs.Content.{Content, Empty}
use Rattle.rss_page.specs.Slotted.{entries, body_bytes}
use Rattle.rss_page.proofs.Sums.{bodies_fit}
use Rattle.rss_tuple.specs.declared.finding.Spot.{Spot}
use Rattle.rss_tuple.specs.Directory.{contents_in, homes, overflows, bodies_of, tid_at}
use Rattle.rss_tuple.specs.Heaps.{AreHeaps}
use Rattle.rss_tuple.specs.TupleSteps.{TuplesCall, IsLeast, NoneIs, tuples_in, no_tuple}
use Rattle.rss_tuple.specs.Placing.{IsOpen, IsSpot, IsNew, IsFree, IsChosen, home_for, in_room, on_new, by_entry}
use Rattle.rss_tuple.specs.Edits.{KeepsEntries}
use Rattle.rss_tuple.specs.Spots.{IsFirstOpen, NoneOpen, IsFoundSpot}
use Rattle.rss_tuple.specs.Picks.{IsPicked, NonePicked}
use Rattle.rss_tuple.proofs.Seen.{on_ok, linked_same}
use Rattle.rss_page.proofs.Blanks.{blank_empty}
use Rattle.rss_tuple.proofs.Spots.{the_bytes, least_same}
use Rattle.rss_tuple.proofs.Placed.{empty_there, none_same}
use Rattle.rss_tuple.proofs.Changes.{absent_empty, empty_absent}

-- ---- home pages that aren't mapped

module _ (view : PagesView) (segment : ℕ) (barred : List Tid) (from number : ℕ) (page : List ℕ) (blank : entries page ≡ replicate 128 Empty) (first : IsFirstFrom (IsUnmappedAt view.slots view.mapped segment Home) from number) (lesser : (tid : Tid) → tid.page < from → IsNew view segment barred tid → ⊥) where
  open_blank : (tid : Tid) → IsOpen [] barred tid → IsOpen (entries page) barred tid
  open_blank tid is = record { low = is.low; empty = blank_empty page blank tid.slot; allowed = is.allowed }

  before_new : (tid : Tid) → tid.page < number → IsNew view segment barred tid → ⊥
  before_new tid low is = elim (cases_lt tid.page from) [
    | inl earlier ↦ lesser tid earlier is
    | inr later ↦ first.none_before tid.page later low (record { within = is.within; free = is.unmapped })
  ]

  at_new : (tid : Tid) → tid.page ≡ number → IsNew view segment barred tid → IsOpen (entries page) barred (tid_at number tid.slot)
  at_new tid here is = subst (λ (n : ℕ). IsOpen (entries page) barred (tid_at n tid.slot)) here (open_blank tid is.open_there)

  pub found_new : (slot : ℕ) → IsFirstOpen (entries page) barred number slot → IsLeast (IsNew view segment barred) (tid_at number slot)
  found_new slot found = record {
    has = record {
      within = first.has.within;
      unmapped = first.has.free;
      open_there = record { low = found.is.low; empty = refl; allowed = found.is.allowed };
    };
    least = λ tid before is. elim before [
      | inl earlier ↦ before_new tid earlier is
      | inr there ↦ found.lesser tid.slot there.1 (at_new tid there.0 is)
    ];
  }

  pub more_new : NoneOpen (entries page) barred number → (tid : Tid) → tid.page < number + 1 → IsNew view segment barred tid → ⊥
  more_new none tid low is = elim (cases_eq tid.page number) [
    | inl here ↦ none tid.slot (at_new tid here is)
    | inr differ ↦ before_new tid (omega (arith, differ)) is
  ]

pub none_new : (view : PagesView) (segment : ℕ) (barred : List Tid) (from : ℕ) → NoneFrom (IsUnmappedAt view.slots view.mapped segment Home) from → ((tid : Tid) → tid.page < from → IsNew view segment barred tid → ⊥) → NoneIs (IsNew view segment barred)
none_new view segment barred from none lesser = λ tid is. elim (cases_lt tid.page from) [
  | inl earlier ↦ lesser tid earlier is
  | inr later ↦ none tid.page later (record { within = is.within; free = is.unmapped })
]

new_same : (old new : PagesView) (segment : ℕ) (barred : List Tid) (tid : Tid) → new.slots ≡ old.slots → new.mapped ≡ old.mapped → IsNew old segment barred tid → IsNew new segment barred tid
new_same old new segment barred tid slots mapped is = record {
  within = omega (arith, slots, is.within);
  unmapped = ap (λ (m : Mapped). m (page_key segment Home tid.page)) mapped ∙ is.unmapped;
  open_there = is.open_there;
}

least_new : (old new : PagesView) (segment : ℕ) (barred : List Tid) (tid : Tid) → new.slots ≡ old.slots → new.mapped ≡ old.mapped → IsLeast (IsNew old segment barred) tid → IsLeast (IsNew new segment barred) tid
least_new old new segment barred tid slots mapped least = record {
  has = new_same old new segment barred tid slots mapped least.has;
  least = λ other below is. least.least other below (new_same new old segment barred other (sym slots) (sym mapped) is);
}

no_new : (old new : PagesView) (segment : ℕ) (barred : List Tid) → new.slots ≡ old.slots → new.mapped ≡ old.mapped → NoneIs (IsNew old segment barred) → NoneIs (IsNew new segment barred)
no_new old new segment barred slots mapped never = λ tid is. never tid (new_same new old segment barred tid (sym slots) (sym mapped) is)

-- ---- what was picked

pub picked_room : (segment length : ℕ) (barred : List Tid) (bytes : List ℕ) (spot : Spot) (old new : PagesView) → IsFoundSpot old new (home_for segment length barred) bytes spot → IsKey new.slots (page_key segment Home spot.tid.page) → new.slots ≡ old.slots → IsPicked old segment length barred spot.tid
picked_room segment length barred bytes spot old new found key slots = record {
  named = record { within = omega (arith, key.number, slots); low = found.there.has.first.is.low; allowed = found.there.has.first.is.allowed };
  chosen = λ told. in_room (found.least told);
}

module _ (segment length : ℕ) (barred : List Tid) (old mid : PagesView) (kept : KeepsEntries old mid) (slots : mid.slots ≡ old.slots) (none : IsTold old.disk → NoneIs (IsSpot old (home_for segment length barred))) where
  pub picked_new : (tid : Tid) → IsLeast (IsNew mid segment barred) tid → IsPicked old segment length barred tid
  picked_new tid least =
      let before = least_new mid old segment barred tid (sym slots) (sym kept.mapped) least in
      let is = before.has in
      record {
        named = record { within = is.within; low = is.open_there.low; allowed = is.open_there.allowed };
        chosen = λ told. on_new (none told) before;
      }

  pub picked_entry : (bytes : List ℕ) (spot : Spot) (new : PagesView) → NoneIs (IsNew mid segment barred) → (IsTold old.disk → IsTold mid.disk) → IsFoundSpot mid new (home_for segment 0 barred) bytes spot → IsKey new.slots (page_key segment Home spot.tid.page) → new.slots ≡ mid.slots → IsPicked old segment length barred spot.tid
  picked_entry bytes spot new never told_mid found key same = record {
    named = record { within = omega (arith, key.number, slots, same); low = found.there.has.first.is.low; allowed = found.there.has.first.is.allowed };
    chosen = λ told. by_entry (none told) (no_new mid old segment barred (sym slots) (sym kept.mapped) never) (least_same mid old (home_for segment 0 barred) spot.tid (sym kept.mapped) (sym (kept.held told)) (found.least (told_mid told)));
  }

  pub none_picked : NoneIs (IsNew mid segment barred) → (IsTold old.disk → NoneIs (IsSpot mid (home_for segment 0 barred))) → NonePicked old segment barred
  none_picked never no_spot = record {
    no_spot = λ told. none_same mid old (sym kept.mapped) (sym (kept.held told)) (home_for segment 0 barred) (no_spot told);
    no_new = no_new mid old segment barred (sym slots) (sym kept.mapped) never;
  }

-- ---- free identifiers

pub chosen_empty : (view : PagesView) (segment length : ℕ) (barred : List Tid) (tid : Tid) → ((key : PageKey) → is_some (view.held key) ≡ view.mapped key) → IsChosen view segment length barred tid → homes view.held segment tid.page tid.slot ≡ Empty
chosen_empty view segment length barred tid holds (in_room least) = least.has.open_there.empty
chosen_empty view segment length barred tid holds (on_new none least) = empty_there view (page_key segment Home tid.page) tid.slot (holds (page_key segment Home tid.page)) least.has.unmapped
chosen_empty view segment length barred tid holds (by_entry none never least) = least.has.open_there.empty

pub free_picked : (view : PagesView) (segment length : ℕ) (barred : List Tid) (tid : Tid) → ((key : PageKey) → is_some (view.held key) ≡ view.mapped key) → IsPicked view segment length barred tid → IsTold view.disk → IsFree (tuples_in view) segment barred tid
free_picked view segment length barred tid holds picked told = record {
  named = picked.named;
  absent = empty_absent (overflows view.held segment) (homes view.held segment tid.page tid.slot) (chosen_empty view segment length barred tid holds (picked.chosen told));
}

pub none_free : (view : PagesView) (segment : ℕ) (barred : List Tid) → ((key : PageKey) → is_some (view.held key) ≡ view.mapped key) → AreHeaps view → IsTold view.disk → NonePicked view segment barred → NoneIs (IsFree (tuples_in view) segment barred)
none_free view segment barred holds are told none tid free = elim (cases_Bool (view.mapped key)) [
  | inl mapped ↦
      let there = the_bytes (view.held key) (holds key ∙ mapped) in
      let heap = are.formed key there.0 (inl refl) there.1 in
      none.no_spot told tid (record {
        mapped = mapped;
        bytes = subst (λ (l : List Content). body_bytes l + 0 ≤ 3056) (sym (ap contents_in there.1)) (let few = bodies_fit there.0 heap.formed.slotted in omega arith);
        open_there = record { low = free.named.low; empty = empty; allowed = free.named.allowed };
      })
  | inr unmapped ↦ none.no_new tid (record { within = free.named.within; unmapped = unmapped; open_there = record { low = free.named.low; empty = refl; allowed = free.named.allowed } })
]
  where
    key : PageKey
    key = page_key segment Home tid.page

    empty : homes view.held segment tid.page tid.slot ≡ Empty
    empty = absent_empty (overflows view.held segment) (homes view.held segment tid.page tid.slot) (λ p s is. (are.linked segment).leads tid.page tid.slot p s is) free.absent

-- ---- the call

-- the pages are those of a tuple store still
pub heaps_kept : {old mid : PagesView} → KeepsEntries old mid → (IsTold old.disk → AreHeaps old) → IsTold old.disk → AreHeaps mid
heaps_kept {old = old} {mid = mid} kept are told = record { formed = kept.formed told; linked = linked_same old.held mid.held (kept.held told) (are told).linked }

pub chosen_call : {T : Type 0} {cost segment : ℕ} {old new : PagesView} {result : Result T PageFault} → (IsTold old.disk → AreHeaps old) → KeepsEntries old new → PagesCall (pages_in segment Home) cost cost old new result → TuplesCall (pages_in segment Home) no_tuple cost (tuples_in old) (tuples_in new) result
chosen_call {old = old} {new = new} {result = result} are kept call = record {
  below = call;
  heaps = on_ok result (heaps_kept kept are);
  others = on_ok result (λ told s t off. ap (λ (h : Held). bodies_of h s t) (kept.held told));
}

-- what is said of an identifier that was found, and where none was
pub if_found : (N : Type 0) {P Q : Tid → Type 0} (found : Option Tid) → ((tid : Tid) → P tid → Q tid) → MatchOption found N P → IfSome found Q
if_found N None follows is = tt
if_found N (Some tid) follows is = follows tid is

pub if_none_found : {N : Type 0} (P : Tid → Type 0) (found : Option Tid) → MatchOption found N P → found ≡ None → N
if_none_found P None is none = is
if_none_found P (Some tid) is none = absurd (cc)

-- two calls that change no page
pub kept_then : {old mid new : PagesView} → (IsTold old.disk → IsTold mid.disk) → KeepsEntries old mid → KeepsEntries mid new → KeepsEntries old new
kept_then told_mid one two = record {
  mapped = two.mapped ∙ one.mapped;
  held = λ told. two.held (told_mid told) ∙ one.held told;
  changed = λ key is. one.changed key (two.changed key is);
  formed = λ told. two.formed (told_mid told);
}
