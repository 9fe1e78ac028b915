-- Entries of home and overflow pages where a tuple is put or taken away.
use Rattle.std.proofs.Common.{◌≡◌, inl, inr, ℕ, ◌<◌, true, false, List, Option, Some, None, length, get_or, refl, sym, ◌∙◌, ap, subst}
use Rattle.std.specs.Prelude.{is_some}
use Rattle.std.proofs.lemmas.Bool.{cases_Bool, cases_eq}
use Rattle.rss_base.specs.DiskRule.{IsTold}
use Rattle.rss_base.specs.Paged.{Held, Mapped, is_same, page_key}
use Rattle.rss_base.specs.Steps.{PagesView, Keys, no_page, only, pages_in, PagesStep}
use Rattle.rss_base.specs.declared.key.PageKey.{PageKey}
use Rattle.rss_base.specs.declared.key.Space.{Space}
use Rattle.rss_base.specs.declared.key.Space.TheVariants.{Home, Overflow}
use Rattle.rss_base.specs.declared.tid.Tid.{Tid}
use Rattle.rss_base.proofs.Keys.{is_same-true, is_same-itself}
use Rattle.rss_base.proofs.Steps.{then, is_in}
use Rattle.rss_page.specs.Content.{Content, Empty, Here, Forward}
use Rattle.rss_page.specs.Slotted.{entries, entry_of, HasRoom, IsAllowed, IsWellFormed}
use Rattle.rss_page.specs.declared.entry_form.Entry.TheVariants.{Forward as ForwardEntry}
use Rattle.rss_page.specs.Surveyed.{held_at}
use Rattle.rss_tuple.specs.declared.finding.Spot.{Spot}
use Rattle.rss_tuple.specs.Directory.{contents_in, contents, content_at, homes, overflows, body_in, body_by, tid_at}
use Rattle.rss_tuple.specs.Heaps.{AreFormed, HasBody}
use Rattle.rss_tuple.specs.TupleSteps.{IsLeast, NoneIs, pages_for}
use Rattle.rss_tuple.specs.Placing.{Wanted, IsSpot, IsPlaced, FitsHome, FitsAway, NeverFitsAway, overflow_for, at_home, stays, moves, on_new}
use Rattle.rss_tuple.specs.Edits.{IsRead, IsCopied, SetsEntry, FillsPage, KeepsEntries, Moves}
use Rattle.rss_tuple.specs.Puts.{Changed, TakesAway, PutsAway, Puts}
use Rattle.rss_tuple.specs.Spots.{IsFoundSpot}
use Rattle.rss_tuple.proofs.Seen.{some_there}
use Rattle.rss_tuple.proofs.Sets.{sets_taken, none_held}
use Rattle.rss_tuple.proofs.Spots.{spot_same, least_same}

-- ---- keys

pub home_apart : (s p t q : ℕ) → page_key s Home p ≡ page_key t Overflow q → ⊥
home_apart s p t q is = let space : Home ≡ Overflow = ap (λ (k : PageKey). k.space) is in absurd (cc)

pub over_apart : (s p t q : ℕ) → page_key s Overflow p ≡ page_key t Home q → ⊥
over_apart s p t q is = home_apart t q s p (sym is)

pub same_number : (s t : ℕ) (space other : Space) (p q : ℕ) → page_key s space p ≡ page_key t other q → p ≡ q
same_number s t space other p q is = ap (λ (k : PageKey). k.number) is

-- a home page is no overflow page of a segment
pub home_off : (s p t : ℕ) → pages_in t Overflow (page_key s Home p) → ⊥
home_off s p t is = home_apart s p t p is

-- ---- one entry among all

pub step_at : {asks outs : ℕ} {key one : PageKey} {old new : PagesView} → key ≡ one → PagesStep (only key) asks outs old new → PagesStep (only one) asks outs old new
step_at {asks = asks} {outs = outs} {old = old} {new = new} at step = subst (λ (k : PageKey). PagesStep (only k) asks outs old new) at step

-- each other entry of each page stays
pub entry_off : {asks outs : ℕ} {key : PageKey} {slot : ℕ} {content : Content} {old new : PagesView} → SetsEntry key slot content old new → PagesStep (only key) asks outs old new → IsTold old.disk → (other : PageKey) (at : ℕ) → (other ≡ key → at ≡ slot → ⊥) → content_at new.held other at ≡ content_at old.held other at
entry_off {key = key} {slot = slot} {old = old} {new = new} sets step told other at off = elim (cases_Bool (is_same other key)) [
  | inl same ↦
      let is = is_same-true other key same in
      subst (λ (k : PageKey). content_at new.held k at ≡ content_at old.held k at) (sym is) (sets.others at (off is))
  | inr differ ↦ ap (λ (page : Option (List ℕ)). held_at (contents_in page) at) (step.held_off told other (λ is. let same : is_same other key ≡ true = ap (λ (k : PageKey). is_same k key) is ∙ is_same-itself key in let never : true ≡ false = sym same ∙ differ in absurd (cc)))
]

-- pages that weren't touched say the same
pub same_at : {touched : Keys} {asks outs : ℕ} {old new : PagesView} → PagesStep touched asks outs old new → IsTold old.disk → (key : PageKey) (slot : ℕ) → (touched key → ⊥) → content_at new.held key slot ≡ content_at old.held key slot
same_at step told key slot off = ap (λ (page : Option (List ℕ)). held_at (contents_in page) slot) (step.held_off told key off)

-- what isn't mapped holds nothing
pub empty_there : (view : PagesView) (key : PageKey) (slot : ℕ) → is_some (view.held key) ≡ view.mapped key → view.mapped key ≡ false → content_at view.held key slot ≡ Empty
empty_there view key slot holds unmapped = ap (λ (page : Option (List ℕ)). held_at (contents_in page) slot) (none_held (view.held key) (holds ∙ unmapped))

pub read_off : {touched : Keys} {asks outs : ℕ} {old new : PagesView} {key : PageKey} {bytes : List ℕ} → PagesStep touched asks outs old new → (touched key → ⊥) → IsRead old key bytes → IsRead new key bytes
read_off {key = key} step off read = record {
  mapped = step.mapped_off key off ∙ read.mapped;
  formed = read.formed;
  held = λ told. let before = step.passes.leaves.told.1 told in step.held_off before key off ∙ read.held before;
}

-- ---- a body in an overflow page

pub taken_away : (segment number : ℕ) (body : List ℕ) (key : PageKey) (old mid new : PagesView) → key ≡ page_key segment Overflow number → old.mapped (page_key segment Overflow number) ≡ false → is_some (old.held (page_key segment Overflow number)) ≡ old.mapped (page_key segment Overflow number)
    → PagesStep (only (page_key segment Overflow number)) 0 1 old mid → FillsPage key 0 body mid new → PagesStep (only key) 0 1 mid new → AreFormed old → IsTold old.disk → TakesAway segment body (tid_at number 0) old new
taken_away segment number body key old mid new at unmapped holds took fills filled formed told =
    let one = page_key segment Overflow number in
    let there = subst (λ (k : PageKey). FillsPage k 0 body mid new) at fills in
    let step = then took (subst (λ (k : PageKey). PagesStep (only k) 0 1 mid new) at filled) in
    record {
      unmapped = unmapped;
      first = refl;
      sets = sets_taken one 0 body old mid new (none_held (old.held one) (holds ∙ unmapped)) there (took.passes.leaves.told.0 told) step formed told;
      off = λ k off. step.held_off told k off;
    }

-- another entry of the overflow pages
pub away_off : (segment p s page slot : ℕ) → ((p ≡ page) → (s ≡ slot) → ⊥) → page_key segment Overflow p ≡ page_key segment Overflow page → s ≡ slot → ⊥
away_off segment p s page slot off same at = off (same_number segment segment Overflow Overflow p page same) at

pub puts_found : {asks outs : ℕ} (segment length_there : ℕ) (body : List ℕ) (bytes : List ℕ) (spot : Spot) (key : PageKey) (old mid new : PagesView) → length_there ≡ length body → key ≡ page_key segment Overflow spot.tid.page → IsFoundSpot old mid (overflow_for segment length_there) bytes spot → KeepsEntries old mid → SetsEntry key spot.tid.slot (Here body) mid new → PagesStep (only key) asks outs mid new → IsTold old.disk → IsTold mid.disk → PutsAway segment body spot.tid old new
puts_found segment length_there body bytes spot key old mid new long at found kept sets_key step_key told told_mid =
    let one = page_key segment Overflow spot.tid.page in
    let sets = subst (λ (k : PageKey). SetsEntry k spot.tid.slot (Here body) mid new) at sets_key in
    let step = step_at at step_key in
    let least = subst (λ (n : ℕ). IsLeast (IsSpot old (overflow_for segment n)) spot.tid) long (found.least told) in
    record {
      place = inl least;
      was = least.has.open_there.empty;
      here = sets.here;
      others = λ p s off. entry_off sets step told_mid (page_key segment Overflow p) s (away_off segment p s spot.tid.page spot.tid.slot off) ∙ ap (λ (h : Held). content_at h (page_key segment Overflow p) s) (kept.held told);
      formed = sets.formed;
    }

pub puts_taken : (segment length_there : ℕ) (body : List ℕ) (to : Tid) (old mid new : PagesView) → length_there ≡ length body → (IsTold old.disk → NoneIs (IsSpot old (overflow_for segment length_there))) → KeepsEntries old mid → ((key : PageKey) → is_some (old.held key) ≡ old.mapped key) → IsTold old.disk → TakesAway segment body to mid new → PutsAway segment body to old new
puts_taken segment length_there body to old mid new long none kept holds told takes =
    let one = page_key segment Overflow to.page in
    let unmapped = sym (ap (λ (m : Mapped). m one) kept.mapped) ∙ takes.unmapped in
    record {
      place = inr (record {
        no_room = subst (λ (n : ℕ). NoneIs (IsSpot old (overflow_for segment n))) long (none told);
        unmapped = unmapped;
        first = takes.first;
      });
      was = empty_there old one to.slot (holds one) unmapped;
      here = subst (λ (n : ℕ). content_at new.held one n ≡ Here body) (sym takes.first) takes.sets.here;
      others = λ p s off. elim (cases_eq p to.page) [
        | inl same ↦ subst (λ (n : ℕ). overflows new.held segment n s ≡ overflows old.held segment n s) (sym same) (takes.sets.others s (λ at. off same (at ∙ sym takes.first)) ∙ ap (λ (h : Held). content_at h one s) (kept.held told))
        | inr differ ↦ ap (λ (page : Option (List ℕ)). held_at (contents_in page) s) (takes.off (page_key segment Overflow p) (λ is. differ (same_number segment segment Overflow Overflow p to.page is)) ∙ ap (λ (h : Held). h (page_key segment Overflow p)) (kept.held told))
      ];
      formed = takes.sets.formed;
    }

-- ---- a body is put

-- another home entry
home_other : (segment p s page slot : ℕ) → ((p ≡ page) → (s ≡ slot) → ⊥) → page_key segment Home p ≡ page_key segment Home page → s ≡ slot → ⊥
home_other segment p s page slot off same at = off (same_number segment segment Home Home p page same) at

pub puts_home : {asks outs : ℕ} (segment : ℕ) (tid : Tid) (body : List ℕ) (key : PageKey) (old new : PagesView) → key ≡ page_key segment Home tid.page → FitsHome old segment tid (length body) → SetsEntry key tid.slot (Here body) old new → PagesStep (only key) asks outs old new → IsTold old.disk → Puts segment tid body old new
puts_home segment tid body key old new at fits sets_key step_key told =
    let sets = subst (λ (k : PageKey). SetsEntry k tid.slot (Here body) old new) at sets_key in
    let step = step_at at step_key in
    record {
      placed = subst (IsPlaced old segment tid body) (sym sets.here) (at_home fits);
      others = λ p s off. entry_off sets step told (page_key segment Home p) s (home_other segment p s tid.page tid.slot off);
      kept = λ p s off. entry_off sets step told (page_key segment Overflow p) s (λ same. absurd (over_apart segment p segment tid.page same));
      came = λ p s is. let never : Here body ≡ Forward p s = sym sets.here ∙ is in absurd (cc);
      fresh = λ p s is. let never : Here body ≡ Forward p s = sym sets.here ∙ is in absurd (cc);
      formed = sets.formed;
    }

pub forward_page : (a b c d : ℕ) → Forward a b ≡ Forward c d → a ≡ c
forward_page a b c d is = cc

pub forward_slot : (a b c d : ℕ) → Forward a b ≡ Forward c d → b ≡ d
forward_slot a b c d is = cc

pub puts_forward : {asks outs asks_then outs_then : ℕ} (segment : ℕ) (tid : Tid) (body : List ℕ) (to : Tid) (key : PageKey) (old mid new : PagesView) → key ≡ page_key segment Home tid.page → (FitsHome old segment tid (length body) → ⊥) → NeverFitsAway old segment tid (length body) → PutsAway segment body to old mid → PagesStep (pages_in segment Overflow) asks outs old mid
    → SetsEntry key tid.slot (Forward to.page to.slot) mid new → PagesStep (only key) asks_then outs_then mid new → IsTold old.disk → IsTold mid.disk → Puts segment tid body old new
puts_forward segment tid body to key old mid new at full away puts first sets_key step_key told told_mid =
    let sets = subst (λ (k : PageKey). SetsEntry k tid.slot (Forward to.page to.slot) mid new) at sets_key in
    let step = step_at at step_key in
    let over = λ (p s : ℕ). entry_off sets step told_mid (page_key segment Overflow p) s (λ same. absurd (over_apart segment p segment tid.page same)) in
    record {
      placed = subst (IsPlaced old segment tid body) (sym sets.here) (elim puts.place [
        | inl least ↦ moves full away least
        | inr fresh ↦ subst (λ (n : ℕ). IsPlaced old segment tid body (Forward to.page n)) (sym fresh.first) (on_new full away fresh.no_room fresh.unmapped)
      ]);
      others = λ p s off. entry_off sets step told_mid (page_key segment Home p) s (home_other segment p s tid.page tid.slot off) ∙ same_at first told (page_key segment Home p) s (home_off segment p segment);
      kept = λ p s off. over p s ∙ puts.others p s (λ page slot. off (sets.here ∙ (λ i. Forward (sym page i) (sym slot i))));
      came = λ p s is.
          let to_there = sym sets.here ∙ is in
          over p s ∙ subst (λ (n : ℕ). overflows mid.held segment n s ≡ Here body) (forward_page to.page to.slot p s to_there) (subst (λ (n : ℕ). overflows mid.held segment to.page n ≡ Here body) (forward_slot to.page to.slot p s to_there) puts.here);
      fresh = λ p s is.
          let to_there = sym sets.here ∙ is in
          subst (λ (n : ℕ). overflows old.held segment n s ≡ Empty) (forward_page to.page to.slot p s to_there) (subst (λ (n : ℕ). overflows old.held segment to.page n ≡ Empty) (forward_slot to.page to.slot p s to_there) puts.was);
      formed = sets.formed;
    }

-- ---- the same before a page was read

pub fits_same : (old new : PagesView) → new.held ≡ old.held → (segment : ℕ) (tid : Tid) (count : ℕ) → (FitsHome old segment tid count → ⊥) → FitsHome new segment tid count → ⊥
fits_same old new held segment tid count never fits = never (subst (λ (h : Held). HasRoom (contents h (page_key segment Home tid.page)) tid.slot count) held fits)

pub away_same : (old new : PagesView) → new.held ≡ old.held → (segment : ℕ) (tid : Tid) (count page slot : ℕ) → FitsAway new segment tid count page slot → FitsAway old segment tid count page slot
away_same old new held segment tid count page slot fits = record {
  leads = subst (λ (h : Held). homes h segment tid.page tid.slot ≡ Forward page slot) held fits.leads;
  room = subst (λ (h : Held). HasRoom (contents h (page_key segment Overflow page)) slot count) held fits.room;
}

pub none_same : (old new : PagesView) → new.mapped ≡ old.mapped → new.held ≡ old.held → (wanted : Wanted) → NoneIs (IsSpot old wanted) → NoneIs (IsSpot new wanted)
none_same old new mapped held wanted none = λ tid spot. none tid (spot_same new old wanted tid (sym mapped) (sym held) spot)

pub placed_same : (old new : PagesView) (segment : ℕ) (tid : Tid) (body : List ℕ) (content : Content) → new.mapped ≡ old.mapped → new.held ≡ old.held → IsPlaced old segment tid body content → IsPlaced new segment tid body content
placed_same old new segment tid body Empty mapped held placed = elim placed [ ]
placed_same old new segment tid body (Here _) mapped held (at_home fits) = at_home (subst (λ (h : Held). HasRoom (contents h (page_key segment Home tid.page)) tid.slot (length body)) (sym held) fits)
placed_same old new segment tid body (Forward page slot) mapped held (stays full fits) = stays (fits_same old new held segment tid (length body) full) (away_same new old (sym held) segment tid (length body) page slot fits)
placed_same old new segment tid body (Forward _ _) mapped held (moves full away least) = moves (fits_same old new held segment tid (length body) full) (λ p s fits. away p s (away_same old new held segment tid (length body) p s fits)) (least_same old new (overflow_for segment (length body)) _ mapped held least)
placed_same old new segment tid body (Forward page _) mapped held (on_new full away none unmapped) = on_new (fits_same old new held segment tid (length body) full) (λ p s fits. away p s (away_same old new held segment tid (length body) p s fits)) (none_same old new mapped held (overflow_for segment (length body)) none) (ap (λ (m : Mapped). m (page_key segment Overflow page)) mapped ∙ unmapped)

pub puts_before : (segment : ℕ) (tid : Tid) (body : List ℕ) (old mid new : PagesView) → mid.mapped ≡ old.mapped → mid.held ≡ old.held → Puts segment tid body mid new → Puts segment tid body old new
puts_before segment tid body old mid new mapped held puts =
    let entry = λ (key : PageKey) (slot : ℕ). ap (λ (h : Held). content_at h key slot) held in
    record {
      placed = placed_same mid old segment tid body _ (sym mapped) (sym held) puts.placed;
      others = λ p s off. puts.others p s off ∙ entry (page_key segment Home p) s;
      kept = λ p s off. puts.kept p s off ∙ entry (page_key segment Overflow p) s;
      came = puts.came;
      fresh = λ p s is. sym (entry (page_key segment Overflow p) s) ∙ puts.fresh p s is;
      formed = puts.formed;
    }

-- ---- the tuple has changed

-- what a home entry holds where a body was put
pub placed_body : (view : PagesView) (segment : ℕ) (tid : Tid) (body : List ℕ) (content : Content) (overflow : ℕ → ℕ → Content) → IsPlaced view segment tid body content → ((p s : ℕ) → content ≡ Forward p s → overflow p s ≡ Here body) → body_by overflow content ≡ Some body
placed_body view segment tid body Empty overflow placed came = elim placed [ ]
placed_body view segment tid body (Here _) overflow (at_home fits) came = refl
placed_body view segment tid body (Forward page slot) overflow (stays full fits) came = ap body_in (came page slot refl)
placed_body view segment tid body (Forward page slot) overflow (moves full away least) came = ap body_in (came page slot refl)
placed_body view segment tid body (Forward page slot) overflow (on_new full away none unmapped) came = ap body_in (came page slot refl)

pub has_body : {content : Content} {body : List ℕ} → content ≡ Here body → HasBody content
has_body {body = body} is = record { body = body; is = is }

-- where no body stood in an overflow page
pub changed_puts : (segment : ℕ) (tid : Tid) (body : List ℕ) (old new : PagesView) → ((p s : ℕ) → homes old.held segment tid.page tid.slot ≡ Forward p s → ⊥) → Puts segment tid body old new → Changed segment tid (Some body) old new
changed_puts segment tid body old new never puts = record {
  formed = puts.formed;
  body = placed_body old segment tid body _ (overflows new.held segment) puts.placed puts.came;
  moves = record {
    homes = puts.others;
    kept = λ p s was now. puts.kept p s now;
    left = λ p s was now. absurd (never p s was);
    came = λ p s is. has_body (puts.came p s is);
    fresh = λ p s is was. puts.fresh p s is;
  };
}

-- a home entry is emptied that held the body
pub changed_here : {asks outs : ℕ} (segment : ℕ) (tid : Tid) (key : PageKey) (old new : PagesView) → key ≡ page_key segment Home tid.page → ((p s : ℕ) → homes old.held segment tid.page tid.slot ≡ Forward p s → ⊥) → SetsEntry key tid.slot Empty old new → PagesStep (only key) asks outs old new → IsTold old.disk → Changed segment tid None old new
changed_here segment tid key old new at never sets_key step_key told =
    let sets = subst (λ (k : PageKey). SetsEntry k tid.slot Empty old new) at sets_key in
    let step = step_at at step_key in
    record {
      formed = sets.formed;
      body = ap (body_by (overflows new.held segment)) sets.here;
      moves = record {
        homes = λ p s off. entry_off sets step told (page_key segment Home p) s (home_other segment p s tid.page tid.slot off);
        kept = λ p s was now. entry_off sets step told (page_key segment Overflow p) s (λ same. absurd (over_apart segment p segment tid.page same));
        left = λ p s was now. absurd (never p s was);
        came = λ p s is. let no : Empty ≡ Forward p s = sym sets.here ∙ is in absurd (cc);
        fresh = λ p s is was. let no : Empty ≡ Forward p s = sym sets.here ∙ is in absurd (cc);
      };
    }

-- a home entry is emptied, and then the overflow entry to which it led
pub changed_away : {asks outs asks_then outs_then : ℕ} (segment : ℕ) (tid : Tid) (page slot : ℕ) (key away : PageKey) (old mid new : PagesView) → key ≡ page_key segment Home tid.page → away ≡ page_key segment Overflow page → homes old.held segment tid.page tid.slot ≡ Forward page slot
    → SetsEntry key tid.slot Empty old mid → PagesStep (only key) asks outs old mid → SetsEntry away slot Empty mid new → PagesStep (only away) asks_then outs_then mid new → IsTold old.disk → IsTold mid.disk → Changed segment tid None old new
changed_away segment tid page slot key away old mid new at away_at leads sets_key step_key sets_away step_away told told_mid =
    let one = subst (λ (k : PageKey). SetsEntry k tid.slot Empty old mid) at sets_key in
    let step = step_at at step_key in
    let two = subst (λ (k : PageKey). SetsEntry k slot Empty mid new) away_at sets_away in
    let step_two = step_at away_at step_away in
    let home_now = λ (p s : ℕ). entry_off two step_two told_mid (page_key segment Home p) s (λ same. absurd (home_apart segment p segment page same)) in
    let none : homes new.held segment tid.page tid.slot ≡ Empty = home_now tid.page tid.slot ∙ one.here in
    record {
      formed = two.formed;
      body = ap (body_by (overflows new.held segment)) none;
      moves = record {
        homes = λ p s off. home_now p s ∙ entry_off one step told (page_key segment Home p) s (home_other segment p s tid.page tid.slot off);
        kept = λ p s was now. entry_off two step_two told_mid (page_key segment Overflow p) s (away_off segment p s page slot (λ same_page same_slot. was (leads ∙ (λ i. Forward (sym same_page i) (sym same_slot i)))))
            ∙ entry_off one step told (page_key segment Overflow p) s (λ same. absurd (over_apart segment p segment tid.page same));
        left = λ p s was now.
            let there = sym leads ∙ was in
            subst (λ (n : ℕ). overflows new.held segment n s ≡ Empty) (forward_page page slot p s there) (subst (λ (n : ℕ). overflows new.held segment page n ≡ Empty) (forward_slot page slot p s there) two.here);
        came = λ p s is. let no : Empty ≡ Forward p s = sym none ∙ is in absurd (cc);
        fresh = λ p s is was. let no : Empty ≡ Forward p s = sym none ∙ is in absurd (cc);
      };
    }

-- ---- a page that was read

pub read_at : {asks outs : ℕ} {old new : PagesView} {key : PageKey} {bytes : List ℕ} → PagesStep no_page asks outs old new → IsRead new key bytes → IsTold old.disk → (slot : ℕ) → content_at old.held key slot ≡ held_at (entries bytes) slot
read_at {key = key} step read told slot = sym (same_at step told key slot (λ none. none)) ∙ ap (λ (page : Option (List ℕ)). held_at (contents_in page) slot) (read.held (step.passes.leaves.told.0 told))

pub changed_before : (segment : ℕ) (tid : Tid) (now : Option (List ℕ)) (old mid new : PagesView) → mid.held ≡ old.held → Changed segment tid now mid new → Changed segment tid now old new
changed_before segment tid now old mid new held changed = record {
  formed = changed.formed;
  body = changed.body;
  moves = subst (λ (h : Held). Moves tid.page tid.slot (homes h segment) (overflows h segment) (homes new.held segment) (overflows new.held segment)) held changed.moves;
}

-- a page with an entry that holds something is mapped
pub mapped_there : (view : PagesView) (key one : PageKey) (slot : ℕ) → key ≡ one → is_some (view.held one) ≡ view.mapped one → (content_at view.held one slot ≡ Empty → ⊥) → view.mapped key ≡ true
mapped_there view key one slot at holds some = ap (λ (k : PageKey). view.mapped k) at ∙ sym holds ∙ some_there view.held one slot some

-- an overflow page of the segment is one of those for a tuple
pub over : (segment page : ℕ) (tid : Tid) (one : PageKey) → one ≡ page_key segment Overflow page → (key : PageKey) → key ≡ one → pages_for segment tid key
over segment page tid one at key is = inr (is_in one at key is)

-- a forward of a well-formed page leads to one of the slots of a page
pub low_forward : (key : PageKey) (bytes : List ℕ) (slot page to_slot : ℕ) → IsWellFormed key bytes → slot < 128 → ForwardEntry page to_slot ≡ entry_of bytes slot → to_slot < 128
low_forward key bytes slot page to_slot formed low is =
    let allowed = subst (IsAllowed (get_or bytes 0 0)) (sym is) (formed.slotted.spelled slot low).allowed in
    allowed.slot_low

pub held_there : (key one : PageKey) (slot : ℕ) → key ≡ one → (held : Held) (content : Content) → content_at held key slot ≡ content → content_at held one slot ≡ content
held_there key one slot at held content is = subst (λ (k : PageKey). content_at held k slot ≡ content) at is

pub copied_key : {view : PagesView} {key one : PageKey} {bytes : List ℕ} → key ≡ one → IsCopied view key bytes → IsCopied view one bytes
copied_key {view = view} {bytes = bytes} at copied = subst (λ (k : PageKey). IsCopied view k bytes) at copied

pub read_key : {view : PagesView} {key one : PageKey} {bytes : List ℕ} → key ≡ one → IsRead view key bytes → IsRead view one bytes
read_key {view = view} {bytes = bytes} at read = subst (λ (k : PageKey). IsRead view k bytes) at read

-- an entry of a page that was read has a body, and leads nowhere
pub stands_here : {view : PagesView} {segment : ℕ} (tid : Tid) {bytes body : List ℕ} → IsRead view (page_key segment Home tid.page) bytes → held_at (entries bytes) tid.slot ≡ Here body → IsTold view.disk → (p s : ℕ) → homes view.held segment tid.page tid.slot ≡ Forward p s → ⊥
stands_here tid {body = body} read is told p s leads =
    let never : Here body ≡ Forward p s = sym is ∙ sym (ap (λ (page : Option (List ℕ)). held_at (contents_in page) tid.slot) (read.held told)) ∙ leads in absurd (cc)

-- what a page that was read has room for
pub room_read : (view : PagesView) (key : PageKey) (page : List ℕ) (slot count : ℕ) → IsRead view key page → IsTold view.disk → HasRoom (contents_in (view.held key)) slot count → HasRoom (entries page) slot count
room_read view key page slot count read told room = subst (λ (p : Option (List ℕ)). HasRoom (contents_in p) slot count) (read.held told) room

pub room_back : (view : PagesView) (key : PageKey) (page : List ℕ) (slot count : ℕ) → IsRead view key page → IsTold view.disk → HasRoom (entries page) slot count → HasRoom (contents_in (view.held key)) slot count
room_back view key page slot count read told room = subst (λ (p : Option (List ℕ)). HasRoom (contents_in p) slot count) (sym (read.held told)) room

-- the body of a tuple whose home page was read
pub body_read : {asks outs : ℕ} {old new : PagesView} {segment : ℕ} (tid : Tid) {bytes body : List ℕ} → PagesStep no_page asks outs old new → IsRead new (page_key segment Home tid.page) bytes → held_at (entries bytes) tid.slot ≡ Here body → IsTold old.disk → body_by (overflows old.held segment) (homes old.held segment tid.page tid.slot) ≡ Some body
body_read {old = old} {segment = segment} tid step read is told = ap (body_by (overflows old.held segment)) (read_at step read told tid.slot ∙ is)
