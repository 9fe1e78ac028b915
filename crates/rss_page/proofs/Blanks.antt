-- What is found in a page whose entries are all empty.
use Rattle.std.proofs.Common.{◌≡◌, inl, inr, ℕ, ◌*◌, true, Option, Some, List, replicate, get_or, sym, ◌∙◌, ap, subst, arith}
use Rattle.std.specs.Prelude.{MatchOption}
use Rattle.std.proofs.lemmas.Bool.{cases_lt}
use Rattle.std.proofs.lemmas.List.{get_or_past, get_or-replicate}
use Rattle.std.proofs.lemmas.List.Folds.{sum_by-replicate}
use Rattle.rss_page.specs.declared.surveying.Survey.{Survey}
use Rattle.rss_page.specs.Content.{Content, Empty, Here, body_length}
use Rattle.rss_page.specs.Slotted.{entry_of, entries, body_bytes}
use Rattle.rss_page.specs.Surveyed.{held_at, AllTaken, IsFirstEmpty, IsSurvey}
use Rattle.rss_page.proofs.Contents.{length-entries, entries_at, no_place}

pub blank_empty : (page : List ℕ) → entries page ≡ replicate 128 Empty → (slot : ℕ) → held_at (entries page) slot ≡ Empty
blank_empty page is slot = elim (cases_lt slot 128) [
  | inl low ↦ ap (λ (l : List Content). get_or l slot Empty) is ∙ get_or-replicate 128 slot Empty Empty low
  | inr high ↦ get_or_past (entries page) slot Empty (omega (arith, length-entries page))
]

pub blank_bytes : (page : List ℕ) → entries page ≡ replicate 128 Empty → body_bytes (entries page) ≡ 0
blank_bytes page is =
    let all : body_bytes (entries page) ≡ 128 * 0 = ap (λ (l : List Content). body_bytes l) is ∙ sum_by-replicate body_length 128 Empty in
    omega (arith, all)

pub blank_survey : (page : List ℕ) (found : Survey) → found.free ≡ 3056 → found.end ≡ 1040 → found.first_empty ≡ Some 0 → found.is_vacant ≡ true → entries page ≡ replicate 128 Empty → IsSurvey page found
blank_survey page found free end first vacant is = record {
  free = omega (arith, free, blank_bytes page is);
  low = omega (arith, end);
  high = omega (arith, end);
  ends = λ slot low.
      let empty = sym (entries_at page slot low) ∙ blank_empty page is slot in
      let none_there = no_place page (entry_of page slot) (λ body here. let never : Empty ≡ Here body = sym empty ∙ here in absurd (cc)) in
      omega (arith, none_there, end);
  least = λ other low ends. omega (arith, end);
  empty = subst (λ (o : Option ℕ). MatchOption o (AllTaken (entries page) 128) (IsFirstEmpty (entries page))) (sym first) (record {
    low = omega arith;
    empty = blank_empty page is 0;
    lesser = λ slot few. absurd (omega arith);
  });
  vacant = (λ all. blank_empty page is, λ each. vacant);
}
