-- A walk over the directory.
use Rattle.std.proofs.Common.{◌≡◌, inl, inr, ℕ, ◌+◌, ◌<◌, ◌≤◌, ◌∙◌, max, Bool, true, false, Option, Some, None, List, length, take, get_or, sym, ap, subst, arith}
use Rattle.std.specs.Prelude.{◌↔◌, ◌&&◌, if◌then◌else◌, IsTrue, MatchOption, unwrap_or}
use Rattle.std.proofs.lemmas.Bool.{cases_lt, cases_eq, false≢true}
use Rattle.std.proofs.lemmas.List.{take_all, get_or_past}
use Rattle.std.proofs.lemmas.List.Sums.{sum_by-take-le}
use Rattle.rss_page.specs.declared.entry_form.Entry.{Entry}
use Rattle.rss_page.specs.declared.entry_form.Entry.TheVariants.{Empty as EmptyEntry, Here as HereEntry, Forward as ForwardEntry}
use Rattle.rss_page.specs.declared.surveying.Survey.{Survey}
use Rattle.rss_page.specs.Content.{Content, Empty, body_length}
use Rattle.rss_page.specs.Slotted.{entry_of, entries, body_bytes, place_of, length_of, IsAllowed, IsSlotted}
use Rattle.rss_page.specs.Surveyed.{held_at, is_empty, AllTaken, IsFirstEmpty, IsSurvey, GoesOnWith}
use Rattle.rss_page.proofs.Contents.{length-entries, held_is}
use Rattle.rss_page.proofs.Claimed.{entry_within}
use Rattle.rss_page.proofs.Sums.{body_more, bodies_fit}

-- a fact on the first slots, and the next one
first_more : (P : ℕ → Type 0) (count : ℕ) → ((slot : ℕ) → slot < count → P slot) → P count → (slot : ℕ) → slot < count + 1 → P slot
first_more P count before here slot few = elim (cases_eq slot count) [
  | inl same ↦ subst P (sym same) here
  | inr differ ↦ before slot (omega (arith, differ))
]

-- the bodies of the first slots end at this place or before it
abbrev pub FirstEndBy : List ℕ → ℕ → ℕ → Type 0
FirstEndBy page count end = (slot : ℕ) → slot < count → place_of (entry_of page slot) + length_of (entry_of page slot) ≤ end

-- what a walk over the first slots finds
pub record IsSurveyOf (page : List ℕ) (count : ℕ) (survey : Survey) : Type 0 where
  pub free : survey.free + body_bytes (take count (entries page)) ≡ 3056
  pub low : 1040 ≤ survey.end
  pub high : survey.end ≤ 4096
  pub ends : FirstEndBy page count survey.end
  pub least : (end : ℕ) → 1040 ≤ end → FirstEndBy page count end → survey.end ≤ end
  pub empty : MatchOption survey.first_empty (AllTaken (entries page) count) (IsFirstEmpty (entries page))
  pub vacant : IsTrue survey.is_vacant ↔ ((slot : ℕ) → slot < count → held_at (entries page) slot ≡ Empty)

pub walk_none : (page : List ℕ) (found : Survey) → found.free ≡ 3056 → found.end ≡ 1040 → found.first_empty ≡ None → found.is_vacant ≡ true → IsSurveyOf page 0 found
walk_none page found free end first vacant = record {
  free = omega (arith, free);
  low = omega (arith, end);
  high = omega (arith, end);
  ends = λ slot few. absurd (omega arith);
  least = λ other low ends. omega (arith, end);
  empty = subst (λ (o : Option ℕ). MatchOption o (AllTaken (entries page) 0) (IsFirstEmpty (entries page))) (sym first) (λ slot few. absurd (omega arith));
  vacant = (λ is. λ slot few. absurd (omega arith), λ each. vacant);
}

-- the next slot's body fits in what was free
pub walk_fits : (page : List ℕ) (slot : ℕ) (found : Survey) → IsSlotted page → slot < 128 → IsSurveyOf page slot found → length_of (entry_of page slot) ≤ found.free
walk_fits page slot found is low before = omega (arith, before.free, body_more page slot is.size (is.spelled slot low).allowed low, sum_by-take-le body_length (entries page) (slot + 1), bodies_fit page is)

-- an empty entry is the least one, where none was found before
empty_found : (contents : List Content) (slot : ℕ) (first : Option ℕ) → slot < 128 → held_at contents slot ≡ Empty → MatchOption first (AllTaken contents slot) (IsFirstEmpty contents) → IsFirstEmpty contents (unwrap_or first slot)
empty_found contents slot None low here before = record { low = low; empty = here; lesser = before }
empty_found contents slot (Some other) low here before = before

-- an entry that holds something is no empty one
taken_more : (contents : List Content) (slot : ℕ) (first : Option ℕ) → (held_at contents slot ≡ Empty → ⊥) → MatchOption first (AllTaken contents slot) (IsFirstEmpty contents) → MatchOption first (AllTaken contents (slot + 1)) (IsFirstEmpty contents)
taken_more contents slot None here before = first_more (λ n. held_at contents n ≡ Empty → ⊥) slot before here
taken_more contents slot (Some other) here before = before

-- all entries are empty so far, exactly where they were and this one is
vacant_more : (contents : List Content) (slot : ℕ) (vacant : Bool) → held_at contents slot ≡ Empty → (IsTrue vacant ↔ ((other : ℕ) → other < slot → held_at contents other ≡ Empty)) → IsTrue vacant ↔ ((other : ℕ) → other < slot + 1 → held_at contents other ≡ Empty)
vacant_more contents slot vacant here before = (λ is. first_more (λ n. held_at contents n ≡ Empty) slot (before.0 is) here, λ each. before.1 (λ other few. each other (omega arith)))

vacant_no_more : (contents : List Content) (slot : ℕ) → (held_at contents slot ≡ Empty → ⊥) → IsTrue false ↔ ((other : ℕ) → other < slot + 1 → held_at contents other ≡ Empty)
vacant_no_more contents slot here = (λ is. absurd (false≢true is), λ each. absurd (here (each slot (omega arith))))

-- the least empty slot, once the next entry is known
first_with : (page : List ℕ) (slot : ℕ) (entry : Entry) (first : Option ℕ) → slot < 128 → entry ≡ entry_of page slot → MatchOption first (AllTaken (entries page) slot) (IsFirstEmpty (entries page)) → MatchOption (if is_empty entry then Some (unwrap_or first slot) else first) (AllTaken (entries page) (slot + 1)) (IsFirstEmpty (entries page))
first_with page slot EmptyEntry first low is before = empty_found (entries page) slot first low (held_is page slot EmptyEntry low is) before
first_with page slot (HereEntry place count) first low is before = taken_more (entries page) slot first (λ same. cc (sym (held_is page slot (HereEntry place count) low is) ∙ same)) before
first_with page slot (ForwardEntry to to_slot) first low is before = taken_more (entries page) slot first (λ same. cc (sym (held_is page slot (ForwardEntry to to_slot) low is) ∙ same)) before

-- and whether all are empty
vacant_with : (page : List ℕ) (slot : ℕ) (entry : Entry) (vacant : Bool) → slot < 128 → entry ≡ entry_of page slot → (IsTrue vacant ↔ ((other : ℕ) → other < slot → held_at (entries page) other ≡ Empty)) → IsTrue (is_empty entry && vacant) ↔ ((other : ℕ) → other < slot + 1 → held_at (entries page) other ≡ Empty)
vacant_with page slot EmptyEntry vacant low is before = vacant_more (entries page) slot vacant (held_is page slot EmptyEntry low is) before
vacant_with page slot (HereEntry place count) vacant low is before = vacant_no_more (entries page) slot (λ same. cc (sym (held_is page slot (HereEntry place count) low is) ∙ same))
vacant_with page slot (ForwardEntry to to_slot) vacant low is before = vacant_no_more (entries page) slot (λ same. cc (sym (held_is page slot (ForwardEntry to to_slot) low is) ∙ same))

-- the walk goes on
pub walk_more : (page : List ℕ) (slot : ℕ) (entry : Entry) (found now : Survey) → length page ≡ 4096 → IsAllowed (get_or page 0 0) (entry_of page slot) → slot < 128 → entry ≡ entry_of page slot → IsSurveyOf page slot found → GoesOnWith slot entry found now → IsSurveyOf page (slot + 1) now
walk_more page slot entry found now size allowed low is before goes =
    let within = entry_within (get_or page 0 0) (entry_of page slot) allowed in
    let place = ap place_of is in
    let long = ap length_of is in
    let end : now.end ≡ max found.end (place_of (entry_of page slot) + length_of (entry_of page slot)) = omega (arith, goes.end, place, long) in
    let sum = body_more page slot size allowed low in
    record {
      free = omega (arith, before.free, goes.free, long, sum);
      low = omega (arith, before.low, goes.end);
      high = omega (arith, before.high, end, within);
      ends = first_more (λ n. place_of (entry_of page n) + length_of (entry_of page n) ≤ now.end) slot (λ other few. omega (arith, before.ends other few, end)) (omega (arith, end));
      least = λ other least ends. omega (arith, end, before.least other least (λ n few. ends n (omega arith)), ends slot (omega arith));
      empty = subst (λ (o : Option ℕ). MatchOption o (AllTaken (entries page) (slot + 1)) (IsFirstEmpty (entries page))) (sym goes.first) (first_with page slot entry found.first_empty low is before.empty);
      vacant = subst (λ (b : Bool). IsTrue b ↔ ((other : ℕ) → other < slot + 1 → held_at (entries page) other ≡ Empty)) (sym goes.vacant) (vacant_with page slot entry found.is_vacant low is before.vacant);
    }

-- the walk over the whole directory
pub walk_all : (page : List ℕ) (found : Survey) → IsSurveyOf page 128 found → IsSurvey page found
walk_all page found all = record {
  free = omega (arith, all.free, ap body_bytes (take_all 128 (entries page) (omega (arith, length-entries page))));
  low = all.low;
  high = all.high;
  ends = all.ends;
  least = all.least;
  empty = all.empty;
  vacant = (
    λ is. λ slot. elim (cases_lt slot 128) [
      | inl few ↦ all.vacant.0 is slot few
      | inr past ↦ get_or_past (entries page) slot Empty (omega (arith, length-entries page))
    ],
    λ each. all.vacant.1 (λ slot few. each slot),
  );
}
