-- The first place at which tuples are broken, one segment after another.
use Rattle.std.proofs.Common.{◌≡◌, ◌⊎◌, inl, inr, ⊎_elim, ℕ, ◌+◌, ◌<◌, ◌≤◌, true, refl, sym, subst, arith}
use Rattle.std.specs.Prelude.{Option, Some, None, is_some, min, nat_lt}
use Rattle.std.proofs.lemmas.Bool.{cases_eq, cases_lt, cases_Bool, cond-true, cond-false, ltb-true, ltb-false}
use Rattle.rss_base.specs.Listings.{Listing, ListingFits}
use Rattle.rss_base.specs.PageMap.{space_code, IsSegmentOf, IsKey}
use Rattle.rss_base.specs.Paged.{Held}
use Rattle.rss_base.specs.Sizes.{segments}
use Rattle.rss_base.specs.declared.key.PageKey.{PageKey}
use Rattle.rss_base.specs.declared.key.Space.{Space}
use Rattle.rss_base.specs.declared.place.Place.{Place}
use Rattle.rss_base.specs.declared.place.Place.TheVariants.{Page as PagePlace}
use Rattle.rss_page.specs.Slotted.{IsHeapKey}
use Rattle.rss_check.specs.Lines.{Line, HeapPages, line_number, ComesBefore, IsFirst, IsLeast, AreUnbroken, IsFirstIfAny}
use Rattle.rss_check.specs.Tuples.{BreaksIn, page_in, entry_in, unled_in, count_in, BreaksTuples, rank_of, earlier_of}
use Rattle.rss_check.proofs.FirstFaults.{same_line}
use Rattle.rss_check.proofs.Found.{segment_within}
use Rattle.rss_check.proofs.Orders.{before_one, one_before, first_most, first_as}
use Rattle.rss_check.proofs.SegmentFirst.{gone_unbroken, none_held}

-- broken in a segment with a lower number
pub record BreaksBelow (number : ℕ) (held : Held) (slots : ℕ) (listing : Listing) (line : Line) (place : Place) : Type 0 where
  pub segment : ℕ
  pub low : segment < number
  pub breaks : BreaksIn held slots listing segment line place

-- the segment of a page of tuples that a map may name
pub heap_segment : (key : PageKey) → IsHeapKey key → IsSegmentOf key.space key.segment → (1 ≤ key.segment) × (key.segment ≤ segments)
heap_segment key (inl home) is = subst (λ (s : Space). IsSegmentOf s key.segment) home is
heap_segment key (inr over) is = subst (λ (s : Space). IsSegmentOf s key.segment) over is

module _ {held : Held} {slots : ℕ} {listing : Listing} where
  -- ---- ranks

  -- behind the pages the line follows by the rank
  line_ranked : {segment : ℕ} {line : Line} {place : Place} → BreaksIn held slots listing segment line place → 4 ≤ line_number line → line_number line ≡ 4 + min (rank_of place) 2
  line_ranked (page_in key bytes of there not) high = absurd (omega (arith, high))
  line_ranked (entry_in tid not) high = omega arith
  line_ranked (unled_in page slot some not) high = omega arith
  line_ranked (count_in number relation at within wrong) high = omega arith

  past_pages : {segment : ℕ} {line : Line} {place : Place} → ((page : Place) → BreaksIn held slots listing segment HeapPages page → ⊥) → BreaksIn held slots listing segment line place → 4 ≤ line_number line
  past_pages none (page_in key bytes of there not) = absurd (none (PagePlace key) (page_in key bytes of there not))
  past_pages none (entry_in tid not) = omega arith
  past_pages none (unled_in page slot some not) = omega arith
  past_pages none (count_in number relation at within wrong) = omega arith

  before_pages : {segment : ℕ} {line : Line} {place : Place} → line_number line < 3 → BreaksIn held slots listing segment line place → ⊥
  before_pages low (page_in key bytes of there not) = omega (arith, low)
  before_pages low (entry_in tid not) = omega (arith, low)
  before_pages low (unled_in page slot some not) = omega (arith, low)
  before_pages low (count_in number relation at within wrong) = omega (arith, low)

  -- in one line a place that comes before is ranked lower, or as high and in no later segment
  before_ranked : {s t : ℕ} {line : Line} {p q : Place} → BreaksIn held slots listing s line p → BreaksIn held slots listing t line q → ComesBefore p q → (rank_of p < rank_of q) ⊎ ((rank_of p ≡ rank_of q) × (s ≤ t))
  before_ranked (page_in a bytes of there not) (page_in b bytes' of' there' not') before =
      inr (refl, omega (arith, first_most a.segment (space_code a.space) a.number b.segment (space_code b.space) b.number before, of.0, of'.0))
  before_ranked {s} {t} (entry_in a not) (entry_in b not') before = inr (refl, first_most s a.page a.slot t b.page b.slot before)
  before_ranked {s} {t} (unled_in a slot some not) (unled_in b slot' some' not') before = inr (refl, first_most s 2 a t 2 b before)
  before_ranked (count_in a relation at within wrong) (count_in b relation' at' within' wrong') before = inl (omega (arith, before_one a b before))

  -- and one that is ranked lower comes before
  ranked_before : {s t : ℕ} {line : Line} {p q : Place} → BreaksIn held slots listing s line p → BreaksIn held slots listing t line q → rank_of p < rank_of q → ComesBefore p q
  ranked_before (page_in a bytes of there not) (page_in b bytes' of' there' not') less = absurd (omega (arith, less))
  ranked_before (entry_in a not) (entry_in b not') less = absurd (omega (arith, less))
  ranked_before (unled_in a slot some not) (unled_in b slot' some' not') less = absurd (omega (arith, less))
  ranked_before (count_in a relation at within wrong) (count_in b relation' at' within' wrong') less = one_before a b (omega (arith, less))

  pages_before : {s t : ℕ} {p q : Place} → BreaksIn held slots listing s HeapPages p → BreaksIn held slots listing t HeapPages q → ComesBefore p q → s ≤ t
  pages_before (page_in a bytes of there not) (page_in b bytes' of' there' not') before =
      omega (arith, first_most a.segment (space_code a.space) a.number b.segment (space_code b.space) b.number before, of.0, of'.0)

  -- ---- one segment more

  module _ {number : ℕ} where
    widened : {line : Line} {place : Place} → BreaksBelow number held slots listing line place → BreaksBelow (number + 1) held slots listing line place
    widened is = record { segment = is.segment; low = omega (arith, is.low); breaks = is.breaks }

    added : {line : Line} {place : Place} → BreaksIn held slots listing number line place → BreaksBelow (number + 1) held slots listing line place
    added is = record { segment = number; low = omega arith; breaks = is }

    parted : {line : Line} {place : Place} → BreaksBelow (number + 1) held slots listing line place → BreaksBelow number held slots listing line place ⊎ BreaksIn held slots listing number line place
    parted {line} {place} is = elim (cases_eq is.segment number) [
      | inl same ↦ inr (subst (λ (s : ℕ). BreaksIn held slots listing s line place) same is.breaks)
      | inr other ↦ inl (record { segment = is.segment; low = omega (arith, is.low, other); breaks = is.breaks })
    ]

    -- its pages are right
    pub pages_more : ((place : Place) → BreaksBelow number held slots listing HeapPages place → ⊥) → ((place : Place) → BreaksIn held slots listing number HeapPages place → ⊥) → (place : Place) → BreaksBelow (number + 1) held slots listing HeapPages place → ⊥
    pages_more before here place is = ⊎_elim (before place) (here place) (parted is)

    -- nothing is wrong in it
    first_before : {p : Place} → IsFirst (BreaksBelow number held slots listing) p → AreUnbroken (BreaksIn held slots listing number) → IsFirst (BreaksBelow (number + 1) held slots listing) p
    first_before first none = record {
      line = first.line;
      breaks = widened first.breaks;
      earlier = λ line at low is. ⊎_elim (first.earlier line at low) (none line at) (parted is);
      least = λ at is before. ⊎_elim (λ old. first.least at old before) (none first.line at) (parted is);
    }

    -- or only in it
    first_here : {q : Place} → AreUnbroken (BreaksBelow number held slots listing) → IsFirst (BreaksIn held slots listing number) q → IsFirst (BreaksBelow (number + 1) held slots listing) q
    first_here none first = record {
      line = first.line;
      breaks = added first.breaks;
      earlier = λ line at low is. ⊎_elim (none line at) (first.earlier line at low) (parted is);
      least = λ at is before. ⊎_elim (none first.line at) (λ new. first.least at new before) (parted is);
    }

    -- or in both
    module _ (before : (place : Place) → BreaksBelow number held slots listing HeapPages place → ⊥) (here : (place : Place) → BreaksIn held slots listing number HeapPages place → ⊥) where
      module _ {p q : Place} (one : IsFirst (BreaksBelow number held slots listing) p) (two : IsFirst (BreaksIn held slots listing number) q) where
        one_ranked : line_number one.line ≡ 4 + min (rank_of p) 2
        one_ranked = line_ranked one.breaks.breaks (past_pages (λ page is. before page (record { segment = one.breaks.segment; low = one.breaks.low; breaks = is })) one.breaks.breaks)

        two_ranked : line_number two.line ≡ 4 + min (rank_of q) 2
        two_ranked = line_ranked two.breaks (past_pages here two.breaks)

        -- the second one is ranked lower
        old_least : rank_of q < rank_of p → (at : Place) → BreaksBelow number held slots listing two.line at → ComesBefore at q → ⊥
        old_least less at old first = elim (cases_lt (line_number two.line) (line_number one.line)) [
          | inl low ↦ one.earlier two.line at low old
          | inr high ↦
              let same : line_number two.line ≡ line_number one.line = omega (arith, high, less, one_ranked, two_ranked) in
              let moved : BreaksBelow number held slots listing one.line at = subst (λ (l : Line). BreaksBelow number held slots listing l at) (same_line two.line one.line same) old in
              let below : rank_of at < rank_of p = ⊎_elim (λ (low : rank_of at < rank_of q). omega (arith, low, less)) (λ (tie : (rank_of at ≡ rank_of q) × (old.segment ≤ number)). omega (arith, tie.0, less)) (before_ranked old.breaks two.breaks first) in
              one.least at moved (ranked_before moved.breaks one.breaks.breaks below)
        ]

        second_first : rank_of q < rank_of p → IsFirst (BreaksBelow (number + 1) held slots listing) q
        second_first less = record {
          line = two.line;
          breaks = added two.breaks;
          earlier = λ line at low is. ⊎_elim (one.earlier line at (omega (arith, low, less, one_ranked, two_ranked))) (two.earlier line at low) (parted is);
          least = λ at is first. ⊎_elim (λ old. old_least less at old first) (λ new. two.least at new first) (parted is);
        }

        -- it isn't
        new_least : rank_of p ≤ rank_of q → (at : Place) → BreaksIn held slots listing number one.line at → ComesBefore at p → ⊥
        new_least most at new first = elim (cases_lt (line_number one.line) (line_number two.line)) [
          | inl low ↦ two.earlier one.line at low new
          | inr high ↦
              let same : line_number one.line ≡ line_number two.line = omega (arith, high, most, one_ranked, two_ranked) in
              let moved : BreaksIn held slots listing number two.line at = subst (λ (l : Line). BreaksIn held slots listing number l at) (same_line one.line two.line same) new in
              ⊎_elim (λ (low : rank_of at < rank_of p). two.least at moved (ranked_before moved two.breaks (omega (arith, low, most))))
              (λ (tie : (rank_of at ≡ rank_of p) × (number ≤ one.breaks.segment)). omega (arith, tie.1, one.breaks.low)) (before_ranked new one.breaks.breaks first)
        ]

        first_first : rank_of p ≤ rank_of q → IsFirst (BreaksBelow (number + 1) held slots listing) p
        first_first most = record {
          line = one.line;
          breaks = widened one.breaks;
          earlier = λ line at low is. ⊎_elim (one.earlier line at low) (two.earlier line at (omega (arith, low, most, one_ranked, two_ranked))) (parted is);
          least = λ at is first. ⊎_elim (λ old. one.least at old first) (λ new. new_least most at new first) (parted is);
        }

      pub first_more : (wrong found : Option Place) → IsFirstIfAny (BreaksBelow number held slots listing) wrong → IsFirstIfAny (BreaksIn held slots listing number) found → IsFirstIfAny (BreaksBelow (number + 1) held slots listing) (earlier_of wrong found)
      first_more None None one two = λ line at is. ⊎_elim (one line at) (two line at) (parted is)
      first_more None (Some q) one two = first_here one two
      first_more (Some p) None one two = first_before one two
      first_more (Some p) (Some q) one two = elim (cases_Bool (nat_lt (rank_of q) (rank_of p))) [
        | inl less ↦ subst (IsFirstIfAny (BreaksBelow (number + 1) held slots listing)) (sym (cond-true (nat_lt (rank_of q) (rank_of p)) (Some q) (Some p) less)) (second_first one two (ltb-true (rank_of q) (rank_of p) less))
        | inr most ↦ subst (IsFirstIfAny (BreaksBelow (number + 1) held slots listing)) (sym (cond-false (nat_lt (rank_of q) (rank_of p)) (Some q) (Some p) most)) (first_first one two (ltb-false (rank_of q) (rank_of p) most))
      ]

    -- nothing is wrong in it
    pub first_past : (wrong : Option Place) → IsFirstIfAny (BreaksBelow number held slots listing) wrong → AreUnbroken (BreaksIn held slots listing number) → IsFirstIfAny (BreaksBelow (number + 1) held slots listing) wrong
    first_past None one none = λ line at is. ⊎_elim (one line at) (none line at) (parted is)
    first_past (Some p) one none = first_before one none

    -- a page isn't right
    pub page_first : {place : Place} → ((page : Place) → BreaksBelow number held slots listing HeapPages page → ⊥) → IsLeast (BreaksIn held slots listing number HeapPages) place → IsFirst (BreaksTuples held slots listing) place
    page_first before here = record {
      line = HeapPages;
      breaks = record { segment = number; breaks = here.breaks };
      earlier = λ line at low is. before_pages low is.breaks;
      least = λ at is first. elim (cases_eq is.segment number) [
        | inl same ↦ here.least at (subst (λ (s : ℕ). BreaksIn held slots listing s HeapPages at) same is.breaks) first
        | inr other ↦ before at (record { segment = is.segment; low = omega (arith, other, pages_before is.breaks here.breaks first); breaks = is.breaks })
      ];
    }

  -- ---- all segments

  module _ (fits : ListingFits listing) (allowed : (key : PageKey) → is_some (held key) ≡ true → IsKey slots key) where
    outside_unbroken : (segment : ℕ) → (1 ≤ segment → segment ≤ segments → ⊥) → {line : Line} {place : Place} → BreaksIn held slots listing segment line place → ⊥
    outside_unbroken segment outside breaks = gone_unbroken held slots listing segment
        (λ key of. none_held (held key) (λ there.
        let within = heap_segment key of.1 (allowed key there).segment in
        outside (omega (arith, within.0, of.0)) (omega (arith, within.1, of.0))))
        (λ number relation at of.
        let within = segment_within fits number relation at in
        outside (omega (arith, within.0, of)) (omega (arith, within.1, of))) breaks

    -- below the first there is none
    pub first_none : AreUnbroken (BreaksBelow 1 held slots listing)
    first_none line place is = outside_unbroken is.segment (λ low high. omega (arith, low, is.low)) is.breaks

    module _ {number : ℕ} (all : segments < number) where
      below : {line : Line} {place : Place} → BreaksTuples held slots listing line place → BreaksBelow number held slots listing line place
      below is = elim (cases_lt is.segment number) [
        | inl low ↦ record { segment = is.segment; low = low; breaks = is.breaks }
        | inr past ↦ absurd (outside_unbroken is.segment (λ low high. omega (arith, high, past, all)) is.breaks)
      ]

-- what is first below is first of all
pub first_all : (held : Held) {slots : ℕ} {listing : Listing} → ListingFits listing → ((key : PageKey) → is_some (held key) ≡ true → IsKey slots key) → {number : ℕ} → segments < number → (wrong : Option Place) → IsFirstIfAny (BreaksBelow number held slots listing) wrong → IsFirstIfAny (BreaksTuples held slots listing) wrong
first_all held fits allowed all None none = λ line place is. none line place (below fits allowed all is)
first_all held fits allowed all (Some p) first = first_as (λ line at is. record { segment = is.segment; breaks = is.breaks }) (λ line at is. below fits allowed all is) first
