-- How the pages of a listing are written, one after another.
use Rattle.std.proofs.Common.{◌≡◌, ℕ, ◌+◌, ◌-◌, ◌*◌, ◌<◌, ◌≤◌, Bool, true, false, cond, List, length, take, drop, get_or, Option, Some, All, sym, ◌∙◌, ap, subst, inl, inr, arith}
use Rattle.std.specs.Prelude.{Result, Ok, Err, IsErrAnd, count_by}
use Rattle.std.proofs.lemmas.Bool.{cases_eq, cases_lt}
use Rattle.std.proofs.lemmas.List.{get_or_past, take_all, take-append-drop}
use Rattle.std.proofs.lemmas.List.Elements.{All-take, All-drop}
use Rattle.std.proofs.lemmas.List.Sums.{count_by_more_yes, count_by_more_no, sum_by-append}
use Rattle.rss_base.specs.DiskRule.{IsTold}
use Rattle.rss_base.specs.Paged.{page_key}
use Rattle.rss_base.specs.Steps.{PagesView, PagesStep, PagesCall, WritesPage, only, no_page}
use Rattle.rss_base.specs.Listings.{catalog_page, numbered}
use Rattle.rss_base.specs.declared.relation.RelationEntry.{RelationEntry}
use Rattle.rss_base.specs.declared.fault.PageFault.{PageFault}
use Rattle.rss_base.specs.declared.key.PageKey.{PageKey}
use Rattle.rss_base.specs.declared.key.Space.TheVariants.{System}
use Rattle.rss_base.proofs.Steps.{then, among, done, fails, then_call, untouched_call, written_here, held_off-with}
use Rattle.rss_catalog.specs.Catalogs.{CatalogView, IsPending, IsSafe, pending_pages, StoresListing}
use Rattle.rss_catalog.specs.Reading.{HasFewFields}
use Rattle.rss_catalog.proofs.Numbered.{has_number}
use Rattle.rss_catalog.specs.Loading.{Form, page_with, part}

-- ---- the bytes of a page

-- safe relations have few fields
pub few_all : (items : List (Option RelationEntry)) → ((number : ℕ) (entry : RelationEntry) → numbered items number ≡ Some entry → IsSafe entry) → All HasFewFields items
few_all items safe k d low entry is = (safe (k + 1) entry (has_number items k d entry low is)).few

pub few_part : (items now : List (Option RelationEntry)) (from count : ℕ) → ((number : ℕ) (entry : RelationEntry) → numbered items number ≡ Some entry → IsSafe entry) → now ≡ items → All HasFewFields (take count (drop from now))
few_part items now from count safe same = All-take HasFewFields count (drop from now) (All-drop HasFewFields from now (subst (λ (l : List (Option RelationEntry)). All HasFewFields l) (sym same) (few_all items safe)))

-- a page of entries as it was put together
pub page_is : {X : Type 0} (form : Form X) (items now listed : List (Option X)) (before first many : ℕ) (page : List ℕ) → page ≡ page_with form (take (first + many - first) (drop first now)) → now ≡ items → items ≡ listed → first ≡ form.count * before → many ≡ form.count → page ≡ page_with form (part form before listed)
page_is form items now listed before first many page is same those here count =
    let long : first + many - first ≡ form.count = omega (arith, count) in
    is ∙ (λ i. page_with form (take (long i) (drop (here i) ((same ∙ those) i))))

-- ---- the pages that were written

-- those below a number that have changed are written
pub record StoresBelow (catalog : CatalogView) (number : ℕ) (old now : PagesView) : Type 0 where
  pub mapped : now.mapped ≡ old.mapped
  pub wrote : IsTold old.disk → (page : ℕ) → page < number → IsPending catalog page → now.held (page_key 0 System page) ≡ Some (catalog_page catalog.listing page)
  pub step : PagesStep (pending_pages catalog) 0 (count_by (λ b. b) (take number catalog.pending)) old now

-- a page that has not changed isn't written
pub stored_skip : (catalog : CatalogView) (number : ℕ) (old now : PagesView) → StoresBelow catalog number old now → number < length catalog.pending → get_or catalog.pending number false ≡ false → StoresBelow catalog (number + 1) old now
stored_skip catalog number old now so low not = record {
  mapped = so.mapped;
  wrote = λ told page less is. elim (cases_eq page number) [
    | inl here ↦ let there = ap (λ (n : ℕ). get_or catalog.pending n false) (sym here) ∙ is in absurd (cc)
    | inr off ↦ so.wrote told page (omega (arith, off)) is
  ];
  step = subst (λ (n : ℕ). PagesStep (pending_pages catalog) 0 n old now) (sym (count_by_more_no (λ b. b) catalog.pending number false low not)) so.step;
}

-- and one that has is
pub stored_one : (catalog : CatalogView) (number : ℕ) (old mid new : PagesView) (key : PageKey) (bytes : List ℕ) → StoresBelow catalog number old mid → number < length catalog.pending → get_or catalog.pending number false ≡ true
    → key ≡ page_key 0 System number → bytes ≡ catalog_page catalog.listing number → WritesPage key bytes mid new → PagesStep (only key) 0 1 mid new → StoresBelow catalog (number + 1) old new
stored_one catalog number old mid new key bytes so low found here is wrote step =
    record {
      mapped = wrote.mapped ∙ so.mapped;
      wrote = λ told page less waits.
          let told_now = so.step.passes.leaves.told.0 told in
          elim (cases_eq page number) [
            | inl there ↦ ap (λ (n : ℕ). new.held (page_key 0 System n)) there ∙ ap new.held (sym here) ∙ written_here key mid new wrote told_now ∙ ap Some is ∙ ap (λ (n : ℕ). Some (catalog_page catalog.listing n)) (sym there)
            | inr off ↦ held_off-with key mid new (Some bytes) (wrote.held told_now) (page_key 0 System page) (λ same. off (ap (λ (k : PageKey). k.number) (same ∙ here))) ∙ so.wrote told page (omega (arith, off)) waits
          ];
      step = subst (λ (n : ℕ). PagesStep (pending_pages catalog) 0 n old new) (sym (count_by_more_yes (λ b. b) catalog.pending number false low found))
          (then so.step (among (λ other at. record { page = number; is = at ∙ here; pending = found }) step));
    }

-- all of them
pub stored_all : (catalog : CatalogView) (number : ℕ) (old new : PagesView) → StoresBelow catalog number old new → length catalog.pending ≤ number → PagesCall {T = Unit {0}} (pending_pages catalog) 0 (count_by (λ b. b) catalog.pending) old new (Ok tt)
stored_all catalog number old new so all = done tt (subst (λ (l : List Bool). PagesStep (pending_pages catalog) 0 (count_by (λ b. b) l) old new) (take_all number catalog.pending all) so.step)

-- a front of a list has no more of them than the list
count_front : (number : ℕ) (flags : List Bool) → count_by (λ b. b) (take number flags) ≤ count_by (λ b. b) flags
count_front number flags =
    omega (arith, sym (ap (count_by (λ (b : Bool). b)) (take-append-drop number flags)) ∙ sum_by-append (λ (b : Bool). cond b 1 0) (take number flags) (drop number flags))

-- a write that fails ends it
pub store_fails : {T U : Type 0} (catalog : CatalogView) (number : ℕ) (old mid new : PagesView) (result : Result U PageFault) (fault : PageFault) → StoresBelow catalog number old mid → number < length catalog.pending → get_or catalog.pending number false ≡ true
    → IsErrAnd result (λ why. why ≡ fault) → PagesCall {T = T} no_page 0 1 mid new (Err fault) → PagesCall (pending_pages catalog) 0 (count_by (λ b. b) catalog.pending) old new result
store_fails catalog number old mid new result fault so low found is call =
    let more = count_by_more_yes (λ b. b) catalog.pending number false low found in
    let rest = count_front (number + 1) catalog.pending in
    fails result is (λ one there. there) (omega arith) (omega (arith, more, rest)) (then_call so.step (untouched_call call))

pub stored_listing : (catalog : CatalogView) (number : ℕ) (old new : PagesView) → StoresBelow catalog number old new → length catalog.pending ≤ number → StoresListing catalog old new
stored_listing catalog number old new so all = record {
  mapped = so.mapped;
  wrote = λ told page is. elim (cases_lt page number) [
    | inl low ↦ so.wrote told page low is
    | inr past ↦ let none = get_or_past catalog.pending page false (omega (arith, all, past)) in absurd (cc)
  ];
}
