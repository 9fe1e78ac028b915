-- Which pages are mapped that weren't.
use Rattle.std.proofs.Common.{◌≡◌, ◌≢◌, ◌⊎◌, inl, inr, ⊎_elim, ℕ, List, None, length, true, false, sym, ◌∙◌, ap, subst}
use Rattle.std.proofs.lemmas.Bool.{cases_Bool}
use Rattle.rss_base.specs.DiskRule.{IsTold}
use Rattle.rss_base.specs.Paged.{Mapped, Held, is_same, page_key}
use Rattle.rss_base.specs.Steps.{PagesView, Keys, no_page, only, PagesStep}
use Rattle.rss_base.specs.declared.key.PageKey.{PageKey}
use Rattle.rss_base.specs.declared.key.Space.TheVariants.{Home, Overflow}
use Rattle.rss_base.specs.declared.tid.Tid.{Tid}
use Rattle.rss_base.proofs.Keys.{is_same-true, is_same-itself}
use Rattle.rss_base.proofs.Steps.{is_in}
use Rattle.rss_tuple.specs.Placing.{FitsHome, NeverFitsAway, TakesOnly, MayTake, TakesOne, overflow_for, home, overflow}
use Rattle.rss_tuple.specs.Puts.{PutsAway}
use Rattle.rss_tuple.proofs.Placed.{fits_same, away_same, none_same}

not_same : (other key : PageKey) → is_same other key ≡ false → other ≢ key
not_same other key differ is = let same : is_same other key ≡ true = ap (λ (k : PageKey). is_same k key) is ∙ is_same-itself key in let never : true ≡ false = sym same ∙ differ in absurd (cc)

-- ---- only one page was touched

-- it was mapped, or may be taken
pub takes_step : {keys : Keys} {asks outs : ℕ} {key : PageKey} {old new : PagesView} → PagesStep (only key) asks outs old new → (old.mapped key ≡ true) ⊎ keys key → TakesOnly keys old new
takes_step {keys = keys} {key = key} {old = old} step this = record {
  each = λ other is. elim (cases_Bool (is_same other key)) [
    | inl same ↦ subst (λ (k : PageKey). (old.mapped k ≡ true) ⊎ keys k) (sym (is_same-true other key same)) this
    | inr differ ↦ inl (sym (step.mapped_off other (not_same other key differ)) ∙ is)
  ];
}

-- ---- one step after another

pub takes_then : {keys : Keys} {old mid new : PagesView} → TakesOnly keys old mid → TakesOnly keys mid new → TakesOnly keys old new
takes_then one two = record { each = λ key is. ⊎_elim (λ there. one.each key there) (λ may. inr may) (two.each key is) }

pub takes_same : {keys : Keys} {old mid new : PagesView} → mid.mapped ≡ old.mapped → TakesOnly keys mid new → TakesOnly keys old new
takes_same same takes = record { each = λ key is. ⊎_elim (λ there. inl (sym (ap (λ (m : Mapped). m key) same) ∙ there)) (λ may. inr may) (takes.each key is) }

pub takes_among : {keys more : Keys} {old new : PagesView} → ((key : PageKey) → keys key → more key) → TakesOnly keys old new → TakesOnly more old new
takes_among wider takes = record { each = λ key is. ⊎_elim (λ there. inl there) (λ may. inr (wider key may)) (takes.each key is) }

-- no page was taken after that
pub takes_more : {keys : Keys} {old mid new : PagesView} → TakesOnly keys old mid → TakesOnly no_page mid new → TakesOnly keys old new
takes_more one none = takes_then one (takes_among (λ key never. absurd never) none)

-- ---- the page of a body

-- none
pub takes_none : {segment : ℕ} {tid : Tid} {body : List ℕ} {old new : PagesView} → TakesOnly no_page old new → TakesOne segment tid body old new
takes_none {segment = segment} {tid = tid} none = record {
  page = page_key segment Home tid.page;
  one = takes_among (λ key never. absurd never) none;
  may = λ told. takes_among (λ key never. absurd never) none;
}

-- the home page
pub takes_home : {asks outs segment : ℕ} {tid : Tid} {body : List ℕ} {key : PageKey} {old new : PagesView} → key ≡ page_key segment Home tid.page → (IsTold old.disk → old.held key ≡ None) → PagesStep (only key) asks outs old new → TakesOne segment tid body old new
takes_home {key = key} at none step = record {
  page = key;
  one = takes_step step (inr (λ i. key));
  may = λ told. takes_step step (inr (home at (none told)));
}

-- an overflow page, where there was no room
pub takes_away : {segment : ℕ} {tid to : Tid} {body : List ℕ} {old mid new : PagesView} → (IsTold old.disk → FitsHome old segment tid (length body) → ⊥) → (IsTold old.disk → NeverFitsAway old segment tid (length body)) → (IsTold old.disk → PutsAway segment body to old mid) → TakesOnly (only (page_key segment Overflow to.page)) old mid → TakesOnly no_page mid new → TakesOne segment tid body old new
takes_away {segment = segment} {tid = tid} {to = to} {body = body} {old = old} full away puts one none =
    let all = takes_more one none in
    let one_key = page_key segment Overflow to.page in
    record {
      page = one_key;
      one = all;
      may = λ told. record {
        each = λ key is. elim (all.each key is) [
          | inl there ↦ inl there
          | inr at ↦ elim (puts told).place [
            | inl least ↦ inl (ap (λ (k : PageKey). old.mapped k) at ∙ least.has.mapped)
            | inr fresh ↦ inr (overflow (is_in one_key (λ i. one_key) key at) (full told) (away told) fresh.no_room)
          ]
        ];
      };
    }

-- ---- before a page was read, and after an entry was emptied

may_same : (old new : PagesView) (segment : ℕ) (tid : Tid) (body : List ℕ) (key : PageKey) → new.mapped ≡ old.mapped → new.held ≡ old.held → MayTake old segment tid body key → MayTake new segment tid body key
may_same old new segment tid body key mapped held (home at gone) = home at (ap (λ (h : Held). h key) held ∙ gone)
may_same old new segment tid body key mapped held (overflow at full away none) = overflow at (fits_same old new held segment tid (length body) full)
    (λ p s fits. away p s (away_same old new held segment tid (length body) p s fits))
    (none_same old new mapped held (overflow_for segment (length body)) none)

pub one_before : {segment : ℕ} {tid : Tid} {body : List ℕ} {old mid new : PagesView} → (IsTold old.disk → IsTold mid.disk) → mid.mapped ≡ old.mapped → (IsTold old.disk → mid.held ≡ old.held) → TakesOne segment tid body mid new → TakesOne segment tid body old new
one_before {segment = segment} {tid = tid} {body = body} {old = old} {mid = mid} told_mid mapped held takes = record {
  page = takes.page;
  one = takes_same mapped takes.one;
  may = λ told. takes_among (λ key may. may_same mid old segment tid body key (sym mapped) (sym (held told)) may) (takes_same mapped (takes.may (told_mid told)));
}

pub one_more : {segment : ℕ} {tid : Tid} {body : List ℕ} {old mid new : PagesView} → TakesOne segment tid body old mid → TakesOnly no_page mid new → TakesOne segment tid body old new
one_more takes none = record { page = takes.page; one = takes_more takes.one none; may = λ told. takes_more (takes.may told) none }
