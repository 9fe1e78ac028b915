-- What a look at a segment finds wrong is the first that is broken in it.
use Rattle.std.proofs.Common.{◌≡◌, inl, inr, ℕ, ◌-◌, ◌<◌, ◌≤◌, true, false, List, get_or, refl, sym, ◌∙◌, ap, subst, arith}
use Rattle.std.specs.Prelude.{Option, Some, None, is_some}
use Rattle.std.proofs.lemmas.Bool.{cases_eq, true≢false}
use Rattle.std.proofs.lemmas.Option.{none-some, same_Some}
use Rattle.rss_base.specs.Listings.{Listing, ListingFits, segment_at, relation_at}
use Rattle.rss_base.specs.Paged.{Held, Mapped, page_key}
use Rattle.rss_base.specs.Sizes.{relations_most}
use Rattle.rss_base.specs.declared.key.PageKey.{PageKey}
use Rattle.rss_base.specs.declared.key.Space.TheVariants.{Home, Overflow}
use Rattle.rss_base.specs.declared.place.Place.{Place}
use Rattle.rss_base.specs.declared.place.Place.TheVariants.{Page as PagePlace, Tuple as TuplePlace, Count as CountPlace}
use Rattle.rss_base.specs.declared.relation.RelationEntry.{RelationEntry}
use Rattle.rss_base.specs.declared.tid.Tid.{Tid}
use Rattle.rss_page.specs.Content.{Empty, Forward}
use Rattle.rss_tuple.specs.Directory.{homes, overflows, body_by}
use Rattle.rss_tuple.specs.Checked.{pages_of, tuples_of, IsSound}
use Rattle.rss_tuple.specs.Flaws.{ArePagesRight, NamesPage, AreEntriesRight, IsFirstWrongEntry, IsFirstUnled, IsFirstFlaw}
use Rattle.rss_tuple.specs.declared.flaw.Flaw.{Flaw}
use Rattle.rss_tuple.specs.declared.flaw.Flaw.TheVariants.{Entry, Unled}
use Rattle.rss_tuple.proofs.Flaws.{sound_right}
use Rattle.rss_catalog.specs.Defined.{HasFewTuples}
use Rattle.rss_access.specs.Bodies.{is_body}
use Rattle.rss_check.specs.Checks.{AreSeen, IsSegmentOf, IsCountOf}
use Rattle.rss_check.specs.Lines.{Line, HeapPages, Entries, Led, Counts, line_number, ComesBefore, IsFirst, IsLeast, AreUnbroken}
use Rattle.rss_check.specs.Faults.{IsHeapPage}
use Rattle.rss_check.specs.Tuples.{BreaksIn, page_in, entry_in, unled_in, count_in, place_of_flaw, IsFirstMapped}
use Rattle.rss_check.proofs.Census.{count_right, used_within}
use Rattle.rss_check.proofs.Empties.{entry_none}
use Rattle.rss_check.proofs.Orders.{before_one, page_before, overflow_before, tuple_before}

pub none_held : (bytes : Option (List ℕ)) → (is_some bytes ≡ true → ⊥) → bytes ≡ None
none_held None lacks = refl
none_held (Some bytes) lacks = absurd (lacks refl)

module _ (held : Held) (slots : ℕ) (listing : Listing) (segment : ℕ) where
  -- ---- a segment that is listed

  module _ (listed : is_some (segment_at listing segment) ≡ true) where
    in_listed : (key : PageKey) → pages_of segment key → is_some (segment_at listing key.segment) ≡ true
    in_listed key of = ap (λ (n : ℕ). is_some (segment_at listing n)) of.0 ∙ listed

    -- each of its pages is right
    pub pages_right : ArePagesRight held (pages_of segment) → {place : Place} → BreaksIn held slots listing segment HeapPages place → ⊥
    pages_right right (page_in key bytes of there not) = not (record { segment = in_listed key of; right = right key bytes of there })

    earlier_right : {place other : Place} (names : NamesPage held (pages_of segment) place) → BreaksIn held slots listing segment HeapPages other → ComesBefore other (PagePlace names.key) → ⊥
    earlier_right names (page_in key bytes of there not) before =
        not (record { segment = in_listed key of; right = names.first.earlier key bytes (of, page_before segment key names.key of names.first.inside before) there })

    -- or this is the first one that isn't
    pub page_least : {place : Place} → NamesPage held (pages_of segment) place → IsLeast (BreaksIn held slots listing segment HeapPages) place
    page_least names = subst (IsLeast (BreaksIn held slots listing segment HeapPages)) (sym names.is) (record {
      breaks = page_in names.key names.first.bytes names.first.inside names.first.there (λ is. names.first.wrong is.right);
      least = λ other breaks before. earlier_right names breaks before;
    })

    -- ---- a flaw

    module _ (right : ArePagesRight held (pages_of segment)) where
      before_entries : {line : Line} {place : Place} → line_number line < 4 → BreaksIn held slots listing segment line place → ⊥
      before_entries low (page_in key bytes of there not) = pages_right right (page_in key bytes of there not)
      before_entries low (entry_in tid not) = omega (arith, low)
      before_entries low (unled_in page slot some not) = omega (arith, low)
      before_entries low (count_in number relation at within wrong) = omega (arith, low)

      before_led : AreEntriesRight held segment (is_body listing segment) → {line : Line} {place : Place} → line_number line < 5 → BreaksIn held slots listing segment line place → ⊥
      before_led entries low (page_in key bytes of there not) = pages_right right (page_in key bytes of there not)
      before_led entries low (entry_in tid not) = not (entries tid)
      before_led entries low (unled_in page slot some not) = omega (arith, low)
      before_led entries low (count_in number relation at within wrong) = omega (arith, low)

      entry_least : {tid : Tid} {place : Place} → IsFirstWrongEntry held segment (is_body listing segment) tid → BreaksIn held slots listing segment Entries place → ComesBefore place (TuplePlace segment tid) → ⊥
      entry_least {tid} wrong (entry_in other not) before = not (wrong.earlier other (tuple_before segment other tid before))

      led_least : {page : ℕ} {place : Place} → IsFirstUnled held segment page → BreaksIn held slots listing segment Led place → ComesBefore place (PagePlace (page_key segment Overflow page)) → ⊥
      led_least {page} wrong (unled_in other slot some not) before = not (wrong.earlier other (overflow_before segment other page before) slot some)

      pub flaw_first : (flaw : Flaw) → IsFirstFlaw held segment (is_body listing segment) flaw → IsFirst (BreaksIn held slots listing segment) (place_of_flaw segment flaw)
      flaw_first (Entry tid) wrong = record {
        line = Entries;
        breaks = entry_in tid wrong.wrong;
        earlier = λ line place low breaks. before_entries low breaks;
        least = λ other breaks before. entry_least wrong breaks before;
      }
      flaw_first (Unled page) wrong = record {
        line = Led;
        breaks = unled_in page wrong.1.slot wrong.1.holds wrong.1.unled;
        earlier = λ line place low breaks. before_led wrong.0 low breaks;
        least = λ other breaks before. led_least wrong.1 breaks before;
      }

    -- ---- a count

    module _ (sound : IsSound held segment (is_body listing segment)) where
      sound_page : (key : PageKey) (bytes : List ℕ) → pages_of segment key → held key ≡ Some bytes → IsHeapPage listing key bytes
      sound_page key bytes of there =
          let heap = sound.formed key bytes of there in
          record { segment = in_listed key of; right = record { formed = heap.formed; some = heap.some } }

      before_counts : {line : Line} {place : Place} → line_number line < 6 → BreaksIn held slots listing segment line place → ⊥
      before_counts low (page_in key bytes of there not) = not (sound_page key bytes of there)
      before_counts low (entry_in tid not) = not (sound_right held segment (is_body listing segment) sound tid)
      before_counts low (unled_in page slot some not) = not (sound.linked.led page slot some)
      before_counts low (count_in number relation at within wrong) = omega (arith, low)

      module _ (fits : ListingFits listing) (counts : List ℕ) (seen : AreSeen counts (tuples_of held segment slots)) where
        -- the relation of this number has as many tuples as were seen
        abbrev IsRight : ℕ → Type 0
        IsRight number = IsCountOf listing segment number (get_or counts (number - 1) 0)

        count_least : (number : ℕ) → number ≤ relations_most → ((k : ℕ) → 1 ≤ k → k < number → IsRight k) → {place : Place} → BreaksIn held slots listing segment Counts place → ComesBefore place (CountPlace number) → ⊥
        count_least number high lesser (count_in k relation at within wrong) before =
            let less : k < number = before_one k number before in
            let low = used_within listing k fits.relation_places (ap is_some at) in
            wrong (count_right listing segment k held slots (get_or counts (k - 1) 0) (seen.right k low.0 low.1) (lesser k low.0 less) relation at within).0

        count_breaks : HasFewTuples listing → (number : ℕ) → 1 ≤ number → number ≤ relations_most → (IsRight number → ⊥) → BreaksIn held slots listing segment Counts (CountPlace number)
        count_breaks few number low high not = by (relation_at listing number) refl
          where
            by : (found : Option RelationEntry) → relation_at listing number ≡ found → BreaksIn held slots listing segment Counts (CountPlace number)
            by None none = absurd (not (λ relation at within. absurd (none-some relation (sym none ∙ at))))
            by (Some relation) at = elim (cases_eq relation.segment segment) [
              | inl within ↦ count_in number relation at within (λ same. not (λ other there of.
                  let live = ap (λ (r : RelationEntry). r.live) (same_Some relation other (sym at ∙ there)) in
                  let most = few number other there in
                  (omega (arith, seen.right number low high, same, live, most), omega (arith, most))))
              | inr off ↦ absurd (not (λ other there of. absurd (off (ap (λ (r : RelationEntry). r.segment) (same_Some relation other (sym at ∙ there)) ∙ of))))
            ]

        pub count_first : HasFewTuples listing → (number : ℕ) → 1 ≤ number → number ≤ relations_most → ((k : ℕ) → 1 ≤ k → k < number → IsRight k) → (IsRight number → ⊥) → IsFirst (BreaksIn held slots listing segment) (CountPlace number)
        count_first few number low high lesser not = record {
          line = Counts;
          breaks = count_breaks few number low high not;
          earlier = λ line place less breaks. before_counts less breaks;
          least = λ other breaks before. count_least number high lesser breaks before;
        }

    -- ---- nothing is wrong

    segment_right : IsSegmentOf held slots listing segment → {line : Line} {place : Place} → BreaksIn held slots listing segment line place → ⊥
    segment_right is (page_in key bytes of there not) = not (sound_page is.sound key bytes of there)
    segment_right is (entry_in tid not) = not (sound_right held segment (is_body listing segment) is.sound tid)
    segment_right is (unled_in page slot some not) = not (is.sound.linked.led page slot some)
    segment_right is (count_in number relation at within wrong) = wrong (is.counts number relation at within).0

    pub segment_unbroken : IsSegmentOf held slots listing segment → AreUnbroken (BreaksIn held slots listing segment)
    segment_unbroken is line place breaks = segment_right is breaks

  -- ---- a segment of which no page of tuples is there, and which no relation has

  pub gone_unbroken : ((key : PageKey) → pages_of segment key → held key ≡ None) → ((number : ℕ) (relation : RelationEntry) → relation_at listing number ≡ Some relation → relation.segment ≡ segment → ⊥) → {line : Line} {place : Place} → BreaksIn held slots listing segment line place → ⊥
  gone_unbroken gone none (page_in key bytes of there not) = none-some bytes (sym (gone key of) ∙ there)
  gone_unbroken gone none (entry_in tid not) =
      let empty : homes held segment tid.page tid.slot ≡ Empty = entry_none held segment Home tid.page tid.slot (gone (page_key segment Home tid.page) (refl, inl refl)) in
      not (record {
        leads = λ page slot forward. let never : Empty ≡ Forward page slot = sym empty ∙ forward in absurd (cc);
        first = λ page slot other forward again below. let never : Empty ≡ Forward page slot = sym empty ∙ forward in cc;
        good = λ body is. absurd (none-some body (sym (ap (body_by (overflows held segment)) empty) ∙ is));
      })
  gone_unbroken gone none (unled_in page slot some not) = some (entry_none held segment Overflow page slot (gone (page_key segment Overflow page) (refl, inr refl)))
  gone_unbroken gone none (count_in number relation at within wrong) = none number relation at within

  -- ---- a segment that isn't listed

  module _ (mapped : Mapped) (holds : (key : PageKey) → is_some (held key) ≡ mapped key) where
    pub unlisted_unbroken : ListingFits listing → is_some (segment_at listing segment) ≡ false → ((key : PageKey) → pages_of segment key → mapped key ≡ true → ⊥) → AreUnbroken (BreaksIn held slots listing segment)
    unlisted_unbroken fits none gone line place breaks = gone_unbroken
        (λ key of. none_held (held key) (λ there. gone key of (sym (holds key) ∙ there)))
        (λ number relation at within. true≢false (sym (fits.relations number relation at).segment ∙ ap (λ (n : ℕ). is_some (segment_at listing n)) within ∙ none)) breaks

    mapped_earlier : {key : PageKey} {place : Place} → IsFirstMapped mapped segment key → BreaksIn held slots listing segment HeapPages place → ComesBefore place (PagePlace key) → ⊥
    mapped_earlier {key} first (page_in other bytes of there not) before = first.earlier other of (page_before segment other key of first.inside before) (sym (holds other) ∙ ap is_some there)

    -- its first page is no page of tuples
    pub unlisted_least : {key : PageKey} → is_some (segment_at listing segment) ≡ false → IsFirstMapped mapped segment key → IsLeast (BreaksIn held slots listing segment HeapPages) (PagePlace key)
    unlisted_least {key} none first = by (held key) refl
      where
        by : (found : Option (List ℕ)) → held key ≡ found → IsLeast (BreaksIn held slots listing segment HeapPages) (PagePlace key)
        by None there = absurd (true≢false (sym first.there ∙ sym (holds key) ∙ ap is_some there))
        by (Some bytes) there = record {
          breaks = page_in key bytes first.inside there (λ is. true≢false (sym is.segment ∙ ap (λ (n : ℕ). is_some (segment_at listing n)) first.inside.0 ∙ none));
          least = λ other breaks before. mapped_earlier first breaks before;
        }
