-- A page that is looked at, and the entries in it.
use Rattle.std.proofs.Common.{◌≡◌, ℕ, ◌+◌, Bool, List, Option, Some, sym, ◌∙◌, ap, subst}
use Rattle.std.specs.Prelude.{flat_map}
use Rattle.std.specs.List.{range_with_len}
use Rattle.rss_base.specs.DiskRule.{IsTold}
use Rattle.rss_base.specs.Paged.{Held, page_key}
use Rattle.rss_base.specs.Notes.{Noted}
use Rattle.rss_base.specs.Steps.{PagesView, no_page}
use Rattle.rss_base.specs.declared.key.PageKey.{PageKey}
use Rattle.rss_base.specs.declared.key.Space.{Space}
use Rattle.rss_base.specs.declared.key.Space.TheVariants.{Home}
use Rattle.rss_base.proofs.Steps.{all_notes}
use Rattle.rss_page.specs.Content.{Content}
use Rattle.rss_page.specs.Slotted.{entries}
use Rattle.rss_page.specs.Surveyed.{held_at}
use Rattle.rss_tuple.specs.Directory.{contents_in, homes, overflows, body_by, tid_at}
use Rattle.rss_base.specs.Looking.{LooksStep}
use Rattle.rss_tuple.specs.Checked.{Rows, row_of, row_at, rows_on}
use Rattle.rss_tuple.specs.Looks.{LooksAt, Sees, IsRoomNoted, IsNotedAt, in_front, MarksGoal, MayHold, MayStand, AreSeen, StopsAt}
use Rattle.rss_tuple.proofs.Flaws.{stops_at}
use Rattle.rss_tuple.proofs.SeenHomes.{seen_more, front_more, front_within, front_here, flat_more, sees_as, sees_then}

-- what the entries hold of a page
pub entry_is : (held : Held) (segment number : ℕ) (key : PageKey) (page : List ℕ) → key ≡ page_key segment Home number → held key ≡ Some page → (slot : ℕ) → homes held segment number slot ≡ held_at (entries page) slot
entry_is held segment number key page names there slot = ap (λ (k : PageKey). held_at (contents_in (held k)) slot) (sym names) ∙ ap (λ (p : Option (List ℕ)). held_at (contents_in p) slot) there

-- it is noted since, and no other page was
pub noted_still : {asks : ℕ} (segment number : ℕ) (space : Space) (key : PageKey) (page : List ℕ) (old mid now : PagesView) → key ≡ page_key segment space number → LooksAt key page old mid → LooksStep no_page asks mid now → IsTold old.disk → IsNotedAt old.held now (page_key segment space number)
noted_still segment number space key page old mid now names at looks told = subst (IsNotedAt old.held now) names (λ bytes is.
    let same : page ≡ bytes = let both : Some page ≡ Some bytes = sym (at.held told) ∙ is in cc in
    subst (λ (n : Option ℕ). IsRoomNoted key bytes n) (sym (ap (λ (notes : Noted). notes key) (all_notes looks.step))) (subst (λ (b : List ℕ). IsRoomNoted key b (mid.notes key)) same at.noted))

module _ (held now : Held) (segment number slot : ℕ) (content : Content) (same : now ≡ held) (here : homes held segment number slot ≡ content) where
  -- one entry more was looked at, by the same rule
  pub page_seen : (is_good rule : List ℕ → Bool) (marks marks_now : List ℕ) → rule ≡ is_good → AreSeen (homes held segment) (overflows held segment) is_good marks (in_front number slot) → MayHold (overflows now segment) marks rule content → MarksGoal content marks marks_now
      → AreSeen (homes held segment) (overflows held segment) is_good marks_now (in_front number (slot + 1))
  page_seen is_good rule marks marks_now agrees seen holds goal = seen_more (homes held segment) (overflows held segment) is_good marks (in_front number slot) seen number slot marks_now (in_front number (slot + 1)) (front_more number slot) (front_within number slot) (front_here number slot)
      (subst (λ (c : Content). MayHold (overflows held segment) marks is_good c) (sym here) (subst (λ (h : Held). MayHold (overflows h segment) marks is_good content) same (subst (λ (r : List ℕ → Bool). MayHold (overflows now segment) marks r content) agrees holds)))
      (subst (λ (c : Content). MarksGoal c marks marks_now) (sym here) goal)

  -- and its tuple was shown
  pub page_shown : {V : Type 0} {is_good : V → List ℕ → Bool} {saw : V → Rows → Type 0} {first old new : V} → Sees is_good saw first old (flat_map (row_at held segment number) (range_with_len 0 slot)) → Sees is_good saw old new (row_of (tid_at number slot) (body_by (overflows now segment) content))
      → Sees is_good saw first new (flat_map (row_at held segment number) (range_with_len 0 (slot + 1)))
  page_shown before last =
      let row : row_of (tid_at number slot) (body_by (overflows now segment) content) ≡ row_at held segment number slot =
      ap (λ (h : Held). row_of (tid_at number slot) (body_by (overflows h segment) content)) same ∙ ap (λ (c : Content). row_of (tid_at number slot) (body_by (overflows held segment) c)) (sym here) in
      sees_as (sym (flat_more (row_at held segment number) slot)) (sees_then before (sees_as row last))

  -- if it isn't right, the look ends there
  pub page_stops : (is_good rule : List ℕ → Bool) (marks : List ℕ) → rule ≡ is_good → AreSeen (homes held segment) (overflows held segment) is_good marks (in_front number slot) → (MayStand now segment marks rule content → ⊥) → StopsAt held segment is_good (tid_at number slot)
  page_stops is_good rule marks agrees seen wrong = stops_at held segment is_good marks number slot seen (λ stands. wrong
      (subst (λ (r : List ℕ → Bool). MayStand now segment marks r content) (sym agrees) (subst (λ (h : Held). MayStand h segment marks is_good content) (sym same) (subst (λ (c : Content). MayStand held segment marks is_good c) here stands))))

-- all entries of a page were shown
pub page_whole : {V : Type 0} {is_good : V → List ℕ → Bool} {saw : V → Rows → Type 0} {old new : V} (held : Held) (segment number slot : ℕ) → slot ≡ 128 → Sees is_good saw old new (flat_map (row_at held segment number) (range_with_len 0 slot)) → Sees is_good saw old new (rows_on held segment number)
page_whole held segment number slot all sees = sees_as (ap (λ (n : ℕ). flat_map (row_at held segment number) (range_with_len 0 n)) all) sees
