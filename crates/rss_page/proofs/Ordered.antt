-- A walk over the directory, so long as bodies stand in the order of their slots.
use Rattle.std.proofs.Common.{◌≡◌, ◌⊎◌, inl, inr, ℕ, ◌+◌, ◌<◌, ◌≤◌, List, length, get_or, refl, sym, subst, arith}
use Rattle.std.proofs.lemmas.Bool.{cases_lt, cases_eq}
use Rattle.rss_page.specs.declared.entry_form.Entry.{Entry}
use Rattle.rss_page.specs.declared.entry_form.Entry.TheVariants.{Empty as EmptyEntry, Here as HereEntry, Forward as ForwardEntry}
use Rattle.rss_page.specs.declared.surveying.Survey.{Survey}
use Rattle.rss_page.specs.Slotted.{entry_at, entry_of, place_of, length_of, IsInBody, IsAllowed, IsEntry}
use Rattle.rss_page.specs.Surveyed.{StandsFrom, IsOrdered}
use Rattle.rss_page.proofs.Sums.{body_more}
use Rattle.rss_page.proofs.Walks.{FirstEndBy, IsSurveyOf}

-- ---- one entry

stands_sooner : (from later : ℕ) (entry : Entry) → from ≤ later → StandsFrom later entry → StandsFrom from entry
stands_sooner from later EmptyEntry low stands = tt
stands_sooner from later (HereEntry place count) low stands = omega arith
stands_sooner from later (ForwardEntry page slot) low stands = tt

stands_behind : (from byte : ℕ) (entry : Entry) → StandsFrom from entry → IsInBody entry byte → from ≤ byte
stands_behind from byte EmptyEntry stands inside = absurd (omega (arith, inside.high))
stands_behind from byte (HereEntry place count) stands inside = omega (arith, inside.low)
stands_behind from byte (ForwardEntry page slot) stands inside = absurd (omega (arith, inside.high))

-- a body stands between this place and the page's end
stands_within : (space from : ℕ) (entry : Entry) → IsAllowed space entry → StandsFrom from entry → (length_of entry ≡ 0) ⊎ ((from ≤ place_of entry) × (place_of entry + length_of entry ≤ 4096))
stands_within space from EmptyEntry allowed stands = inl refl
stands_within space from (HereEntry place count) allowed stands = inr (stands, allowed.high)
stands_within space from (ForwardEntry page slot) allowed stands = inl refl

-- an entry that stands behind each of the first ones stands behind where they end
stands_last : (page : List ℕ) (count space end : ℕ) (entry : Entry) → IsAllowed space entry → ((place : ℕ) → 1040 ≤ place → FirstEndBy page count place → end ≤ place)
    → ((slot : ℕ) → slot < count → StandsFrom (place_of (entry_of page slot) + length_of (entry_of page slot)) entry) → StandsFrom end entry
stands_last page count space end EmptyEntry allowed least each = tt
stands_last page count space end (HereEntry place length) allowed least each = least place allowed.low each
stands_last page count space end (ForwardEntry to_page to_slot) allowed least each = tt

-- ---- the walk

-- What a walk over the first slots finds of any bytes, so long as bodies stand in the order of their slots. What is free of the 3,056 bytes is at least what stands behind the last body.
pub record IsOrderedSurveyOf (page : List ℕ) (count : ℕ) (found : Survey) : Type 0 where
  pub spelled : (slot : ℕ) → slot < count → IsEntry (get_or page 0 0) (entry_at page slot)
  pub order : (low high : ℕ) → low < high → high < count → StandsFrom (place_of (entry_of page low) + length_of (entry_of page low)) (entry_of page high)
  pub survey : IsSurveyOf page count found
  pub room : 4096 ≤ found.free + found.end

pub ordered_more : (page : List ℕ) (slot : ℕ) (found now : Survey) → length page ≡ 4096 → slot < 128 → IsEntry (get_or page 0 0) (entry_at page slot) → StandsFrom found.end (entry_of page slot) → IsOrderedSurveyOf page slot found → IsSurveyOf page (slot + 1) now → IsOrderedSurveyOf page (slot + 1) now
ordered_more page slot found now size low is stands before after =
    let later : found.end ≤ now.end = before.survey.least now.end after.low (λ other few. after.ends other (omega arith)) in
    let sum = body_more page slot size is.allowed low in
    record {
      spelled = λ other few. elim (cases_eq other slot) [
        | inl same ↦ subst (λ (n : ℕ). IsEntry (get_or page 0 0) (entry_at page n)) (sym same) is
        | inr differ ↦ before.spelled other (omega (arith, differ))
      ];
      order = λ one other lt few. elim (cases_eq other slot) [
        | inl same ↦ subst (λ (n : ℕ). StandsFrom (place_of (entry_of page one) + length_of (entry_of page one)) (entry_of page n)) (sym same) (stands_sooner _ found.end (entry_of page slot) (before.survey.ends one (omega (arith, same))) stands)
        | inr differ ↦ before.order one other lt (omega (arith, differ))
      ];
      survey = after;
      room = elim (stands_within (get_or page 0 0) found.end (entry_of page slot) is.allowed stands) [
        | inl none_there ↦ omega (arith, none_there, sum, before.survey.free, after.free, before.room, later)
        | inr body ↦ omega (arith, body.0, sum, before.survey.free, after.free, before.room, after.ends slot (omega arith))
      ];
    }

-- the walk over the whole directory
pub ordered_all : (page : List ℕ) (found : Survey) → length page ≡ 4096 → IsOrderedSurveyOf page 128 found → IsOrdered page
ordered_all page found size all = record {
  slotted = record {
    size = size;
    spelled = all.spelled;
    apart = λ a b byte a_low b_low in_a in_b. elim (cases_eq a b) [
      | inl same ↦ same
      | inr differ ↦ elim (cases_lt a b) [
        | inl lt ↦ absurd (omega (arith, in_a.high, stands_behind _ byte (entry_of page b) (all.order a b lt b_low) in_b))
        | inr from ↦ absurd (omega (arith, in_b.high, stands_behind _ byte (entry_of page a) (all.order b a (omega (arith, differ)) a_low) in_a))
      ]
    ];
  };
  order = all.order;
}

-- the walk stops at a body that is out of order
pub ordered_no_more : (page : List ℕ) (slot : ℕ) (found : Survey) → slot < 128 → IsOrderedSurveyOf page slot found → (StandsFrom found.end (entry_of page slot) → ⊥) → IsOrdered page → ⊥
ordered_no_more page slot found low before not is = not (stands_last page slot (get_or page 0 0) found.end (entry_of page slot) (is.slotted.spelled slot low).allowed before.survey.least (λ other few. is.order other slot few low))
