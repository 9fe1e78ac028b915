-- All pages of a segment, once they were looked at.
use Rattle.std.proofs.Common.{◌≡◌, inl, inr, ℕ, ◌≤◌, Bool, true, List, Option, Some, None, get_or, length, refl, sym, ◌∙◌, ap, subst, arith, replicate}
use Rattle.std.specs.Prelude.{is_some, Result}
use Rattle.std.specs.Int.{bit_at}
use Rattle.std.proofs.lemmas.Bool.{cases_lt}
use Rattle.std.proofs.lemmas.List.{get_or_past, get_or-replicate, length-replicate}
use Rattle.std.proofs.lemmas.Nat.Bits.{bit_at-zero}
use Rattle.rss_base.specs.PageMap.{IsKey}
use Rattle.rss_base.specs.Paged.{Held, page_key}
use Rattle.rss_base.specs.Steps.{PagesView, Keys, pages_in}
use Rattle.rss_base.specs.declared.place.Place.{Place}
use Rattle.rss_base.specs.declared.fault.PageFault.{PageFault}
use Rattle.rss_base.specs.declared.key.PageKey.{PageKey}
use Rattle.rss_base.specs.declared.key.Space.{Space}
use Rattle.rss_base.specs.declared.key.Space.TheVariants.{Home, Overflow}
use Rattle.rss_base.specs.declared.tid.Tid.{Tid}
use Rattle.rss_page.specs.Content.{Content, Empty, Here, Forward}
use Rattle.rss_page.specs.Slotted.{entries}
use Rattle.rss_page.specs.Surveyed.{held_at}
use Rattle.rss_tuple.specs.Directory.{contents, contents_in, content_at, homes, overflows, bodies_of, body_in, body_by, tid_at}
use Rattle.rss_tuple.specs.Heaps.{IsHeap, AreLinked}
use Rattle.rss_tuple.specs.TupleSteps.{pages_for}
use Rattle.rss_base.specs.Looking.{LooksStep, ChecksPages}
use Rattle.rss_tuple.specs.Checked.{pages_of, IsSound, IsNoted}
use Rattle.rss_tuple.specs.Flaws.{ArePagesRight, IsBodyRight, AreEntriesRight, AreLed, IsFirstUnled}
use Rattle.rss_tuple.specs.Looks.{LooksCall, IsRoomNoted, IsNotedAt, AreMarked, AreAllMarked, IsFirstUnmarked, IsMarked, in_front, AreSeen}
use Rattle.rss_tuple.proofs.Flaws.{below_other}
use Rattle.rss_tuple.proofs.Seen.{some_there, high_empty}
use Rattle.rss_tuple.proofs.Spots.{low_number}
use Rattle.rss_base.proofs.Looking.{looks_within}

-- ---- the pages of a segment

pub in_home : (segment : ℕ) (key : PageKey) → pages_in segment Home key → pages_of segment key
in_home segment key is = (ap (λ (k : PageKey). k.segment) is, inl (ap (λ (k : PageKey). k.space) is))

pub in_overflow : (segment : ℕ) (key : PageKey) → pages_in segment Overflow key → pages_of segment key
in_overflow segment key is = (ap (λ (k : PageKey). k.segment) is, inr (ap (λ (k : PageKey). k.space) is))

-- a page of one tuple is one of its segment
pub heap_key : (segment : ℕ) (tid : Tid) (key : PageKey) → pages_for segment tid key → pages_of segment key
heap_key segment tid key (inl home_page) = (ap (λ (k : PageKey). k.segment) home_page, inl (ap (λ (k : PageKey). k.space) home_page))
heap_key segment tid key (inr over) = (ap (λ (k : PageKey). k.segment) over, inr (ap (λ (k : PageKey). k.space) over))

key_as : (segment : ℕ) (space : Space) (key : PageKey) → key.segment ≡ segment → key.space ≡ space → page_key segment space key.number ≡ key
key_as segment space key in_segment in_space = λ i. record { segment = sym in_segment i; space = sym in_space i; number = key.number }

-- before the first look nothing is marked
pub none_marked : (count page slot : ℕ) → IsMarked (replicate count 0) page slot → ⊥
none_marked count page slot is = elim (cases_lt page count) [
  | inl low ↦ omega (arith, ap (λ (n : ℕ). bit_at n slot) (get_or-replicate count page 0 0 low), bit_at-zero slot, is)
  | inr high ↦ omega (arith, ap (λ (n : ℕ). bit_at n slot) (get_or_past (replicate count 0) page 0 (omega (arith, length-replicate {A = ℕ} count 0))), bit_at-zero slot, is)
]

-- ---- what was looked at

module _ (start : PagesView) (segment : ℕ) (is_good : List ℕ → Bool) (marks : List ℕ) (holds : (key : PageKey) → is_some (start.held key) ≡ start.mapped key) (allowed : (key : PageKey) → start.mapped key ≡ true → IsKey start.slots key) where
  -- a home entry that holds something was looked at
  inside : (p s : ℕ) → (homes start.held segment p s ≡ Empty → ⊥) → in_front start.slots 0 p s
  inside p s some =
      let there : start.mapped (page_key segment Home p) ≡ true = sym (holds (page_key segment Home p)) ∙ some_there start.held (page_key segment Home p) s some in
      inl (low_number start.slots segment Home p refl (allowed (page_key segment Home p) there))

  leads_some : (p s tp ts : ℕ) → homes start.held segment p s ≡ Forward tp ts → homes start.held segment p s ≡ Empty → ⊥
  leads_some p s tp ts forward none = let never : Forward tp ts ≡ Empty = sym forward ∙ none in cc

  body_some : (content : Content) (body : List ℕ) → body_by (overflows start.held segment) content ≡ Some body → content ≡ Empty → ⊥
  body_some content body is none = let never : None ≡ Some body = sym (ap (body_by (overflows start.held segment)) none) ∙ is in cc

  module _ (seen : AreSeen (homes start.held segment) (overflows start.held segment) is_good marks (in_front start.slots 0)) where
    once : (p s q r tp ts : ℕ) → homes start.held segment p s ≡ Forward tp ts → homes start.held segment q r ≡ Forward tp ts → (q ≡ p) × (r ≡ s)
    once p s q r tp ts forward again = seen.once p s q r tp ts (inside p s (leads_some p s tp ts forward)) (inside q r (leads_some q r tp ts again)) forward again

    good : (tid : Tid) (body : List ℕ) → bodies_of start.held segment tid ≡ Some body → IsBodyRight is_good body
    good tid body is = seen.good tid.page tid.slot body (inside tid.page tid.slot (body_some (homes start.held segment tid.page tid.slot) body is)) is

    -- so each is right
    pub entries_right : AreEntriesRight start.held segment is_good
    entries_right tid = record {
      leads = λ tp ts forward. seen.leads tid.page tid.slot tp ts (inside tid.page tid.slot (leads_some tid.page tid.slot tp ts forward)) forward;
      first = λ tp ts other forward again below. below_other other tid below (once tid.page tid.slot other.page other.slot tp ts forward again);
      good = good tid;
    }

    -- an overflow page whose entries are marked is led to
    led_by : (p : ℕ) → AreMarked (contents start.held (page_key segment Overflow p)) (get_or marks p 0) → AreLed start.held segment p
    led_by p marked s some = elim (cases_lt s 128) [
      | inl few ↦ let by = seen.led p s (marked s few some) in record { from_page = by.from_page; from_slot = by.from_slot; forward = by.forward }
      | inr high ↦ absurd (some (high_empty start.held (page_key segment Overflow p) s high))
    ]

    -- and the first one that has an entry without a mark isn't
    pub first_unled : (page : ℕ) → IsFirstUnmarked start.held segment marks page → IsFirstUnled start.held segment page
    first_unled page first = record {
      slot = first.has.slot;
      holds = first.has.holds;
      unled = λ led. first.has.unmarked (seen.marked led.from_page led.from_slot page first.has.slot (inside led.from_page led.from_slot (leads_some led.from_page led.from_slot page first.has.slot led.forward)) led.forward);
      earlier = λ other less. led_by other (first.earlier other less);
    }

    module _ (marked : AreAllMarked start.held segment marks) (right : ArePagesRight start.held (pages_of segment)) where
      linked : AreLinked (homes start.held segment) (overflows start.held segment)
      linked = record {
        leads = λ p s tp ts forward. seen.leads p s tp ts (inside p s (leads_some p s tp ts forward)) forward;
        led = λ p s some. led_by p (marked p) s some;
        once = once;
      }

      short_home : (p s : ℕ) (body : List ℕ) → homes start.held segment p s ≡ Here body → length body ≤ 2400
      short_home p s body is = (good (tid_at p s) body (ap (body_by (overflows start.held segment)) is)).short

      short_over : (p s : ℕ) (body : List ℕ) → overflows start.held segment p s ≡ Here body → length body ≤ 2400
      short_over p s body is =
          let led = linked.led p s (λ none. let never : Here body ≡ Empty = sym is ∙ none in absurd (cc)) in
          (good (tid_at led.from_page led.from_slot) body (ap (body_by (overflows start.held segment)) led.forward ∙ ap body_in is)).short

      short_page : (key : PageKey) (bytes : List ℕ) → pages_of segment key → start.held key ≡ Some bytes → (slot : ℕ) (body : List ℕ) → held_at (entries bytes) slot ≡ Here body → length body ≤ 2400
      short_page key bytes of is slot body here = elim of.1 [
        | inl at ↦ short_home key.number slot body (ap (λ (k : PageKey). content_at start.held k slot) (key_as segment Home key of.0 at) ∙ ap (λ (p : Option (List ℕ)). held_at (contents_in p) slot) is ∙ here)
        | inr at ↦ short_over key.number slot body (ap (λ (k : PageKey). content_at start.held k slot) (key_as segment Overflow key of.0 at) ∙ ap (λ (p : Option (List ℕ)). held_at (contents_in p) slot) is ∙ here)
      ]

      pub all_sound : IsSound start.held segment is_good
      all_sound = record {
        formed = λ key bytes of is.
            let page = right key bytes of is in
            record { formed = page.formed; some = page.some; short = short_page key bytes of is; noted = tt };
        linked = linked;
        good = λ tid body is. (good tid body is).good;
      }

-- its home pages and then its overflow pages were noted
pub all_noted : {asks : ℕ} {mid new : PagesView} (held : Held) (segment : ℕ) → ((k : ℕ) → IsNotedAt held mid (page_key segment Home k)) → ((k : ℕ) → IsNotedAt held new (page_key segment Overflow k)) → LooksStep (pages_in segment Overflow) asks mid new → (key : PageKey) (bytes : List ℕ) → pages_of segment key → held key ≡ Some bytes → IsRoomNoted key bytes (new.notes key)
all_noted {mid = mid} {new = new} held segment home overflow looks key bytes of is = elim of.1 [
  | inl at ↦
      let off = λ (there : pages_in segment Overflow key). let never : Home ≡ Overflow = sym at ∙ ap (λ (k : PageKey). k.space) there in absurd (cc) in
      subst (λ (n : Option ℕ). IsRoomNoted key bytes n) (sym (looks.step.notes_off key off)) (subst (IsNotedAt held mid) (key_as segment Home key of.0 at) (home key.number) bytes is)
  | inr at ↦ subst (IsNotedAt held new) (key_as segment Overflow key of.0 at) (overflow key.number) bytes is
]

-- where the bodies of a page are short, its note is as it should be
pub noted_short : (key : PageKey) (bytes : List ℕ) (note : Option ℕ) → IsHeap key bytes None → IsRoomNoted key bytes note → IsNoted key bytes note
noted_short key bytes note heap noted = record {
  heap = record { formed = heap.formed; some = heap.some; short = heap.short; noted = noted.covers };
  room = noted.room;
  is = noted.is;
  exact = noted.exact;
}

-- what a look passes on
pub checks : {T : Type 0} {names : Place → Type 0} {noted : Keys} {asks asks_now : ℕ} {old new : PagesView} {result : Result T PageFault} → asks ≤ asks_now → LooksCall names noted asks old new result → ChecksPages noted asks_now old new result
checks few call = record { looks = looks_within (λ key is. is) few call.looks; failed = call.failed }
