-- A tuple whose body is replaced.
use Rattle.std.proofs.Common.{◌≡◌, inl, inr, ℕ, ◌+◌, ◌≤◌, List, Some, length, sym, ◌∙◌, ap, subst}
use Rattle.std.specs.Prelude.{Result, Err, IsErrAnd, OnOk}
use Rattle.rss_base.specs.DiskRule.{IsTold}
use Rattle.rss_base.specs.Paged.{page_key}
use Rattle.rss_base.specs.Steps.{PagesView, Keys, no_page, only, PagesStep, PagesCall}
use Rattle.rss_base.specs.declared.fault.PageFault.{PageFault}
use Rattle.rss_base.specs.declared.key.PageKey.{PageKey}
use Rattle.rss_base.specs.declared.key.Space.TheVariants.{Home, Overflow}
use Rattle.rss_base.specs.declared.tid.Tid.{Tid}
use Rattle.rss_page.specs.Content.{Empty, Here, Forward}
use Rattle.rss_page.specs.Slotted.{HasRoom}
use Rattle.rss_tuple.specs.Directory.{contents, homes, overflows, body_in, body_by}
use Rattle.rss_tuple.specs.Heaps.{HasBody}
use Rattle.rss_tuple.specs.Placing.{IsPlaced, FitsHome, NeverFitsAway, TakesOne, stays}
use Rattle.rss_tuple.specs.Edits.{SetsEntry}
use Rattle.rss_tuple.specs.Puts.{Puts, Moved, MovesBody}
use Rattle.rss_tuple.specs.TupleSteps.{pages_for}
use Rattle.rss_base.proofs.Steps.{untouched, then_call, widens, fails, all_held, all_mapped}
use Rattle.rss_tuple.proofs.Seen.{not_ok, on_ok_then}
use Rattle.rss_tuple.proofs.Links.{not_empty, leads_there}
use Rattle.rss_tuple.proofs.Taken.{one_before}
use Rattle.rss_tuple.proofs.Placed.{home_apart, entry_off, step_at, away_off, has_body, placed_body, placed_same, changed_before, changed_puts, forward_page, forward_slot}

-- where no body stood in an overflow page
pub moved_puts : (segment : ℕ) (tid : Tid) (body : List ℕ) (old new : PagesView) → ((p s : ℕ) → homes old.held segment tid.page tid.slot ≡ Forward p s → ⊥) → Puts segment tid body old new → Moved segment tid body old new
moved_puts segment tid body old new never puts = record { changed = changed_puts segment tid body old new never puts; placed = puts.placed }

pub moved_before : (segment : ℕ) (tid : Tid) (body : List ℕ) (old mid new : PagesView) → mid.mapped ≡ old.mapped → mid.held ≡ old.held → Moved segment tid body mid new → Moved segment tid body old new
moved_before segment tid body old mid new mapped held moved = record {
  changed = changed_before segment tid (Some body) old mid new held moved.changed;
  placed = placed_same mid old segment tid body _ (sym mapped) (sym held) moved.placed;
}

-- the body stays where it stands
pub moved_stays : {asks outs : ℕ} (segment : ℕ) (tid : Tid) (body : List ℕ) (page slot : ℕ) (key : PageKey) (old new : PagesView) → key ≡ page_key segment Overflow page → homes old.held segment tid.page tid.slot ≡ Forward page slot → (FitsHome old segment tid (length body) → ⊥) → HasRoom (contents old.held key) slot (length body)
    → SetsEntry key slot (Here body) old new → PagesStep (only key) asks outs old new → IsTold old.disk → Moved segment tid body old new
moved_stays segment tid body page slot key old new at leads full room sets_key step_key told =
    let sets = subst (λ (k : PageKey). SetsEntry k slot (Here body) old new) at sets_key in
    let step = step_at at step_key in
    let home_now = λ (p s : ℕ). entry_off sets step told (page_key segment Home p) s (λ same. absurd (home_apart segment p segment page same)) in
    let now : homes new.held segment tid.page tid.slot ≡ Forward page slot = home_now tid.page tid.slot ∙ leads in
    record {
      changed = record {
        formed = sets.formed;
        body = ap (body_by (overflows new.held segment)) now ∙ ap body_in sets.here;
        moves = record {
          homes = λ p s off. home_now p s;
          kept = λ p s was is. entry_off sets step told (page_key segment Overflow p) s (away_off segment p s page slot (λ same_page same_slot. was (leads ∙ (λ i. Forward (sym same_page i) (sym same_slot i)))));
          left = λ p s was is. absurd (is (now ∙ sym leads ∙ was));
          came = λ p s is.
              let there = sym now ∙ is in
              has_body (subst (λ (n : ℕ). overflows new.held segment n s ≡ Here body) (forward_page page slot p s there) (subst (λ (n : ℕ). overflows new.held segment page n ≡ Here body) (forward_slot page slot p s there) sets.here));
          fresh = λ p s is was. absurd (was (leads ∙ sym now ∙ is));
        };
      };
      placed = subst (IsPlaced old segment tid body) (sym now) (stays full (record { leads = leads; room = subst (λ (k : PageKey). HasRoom (contents old.held k) slot (length body)) at room }));
    }

-- the body is put elsewhere, and then the overflow entry is emptied where it stood
pub moved_away : {asks outs : ℕ} (segment : ℕ) (tid : Tid) (body : List ℕ) (page slot : ℕ) (key : PageKey) (old mid new : PagesView) → key ≡ page_key segment Overflow page → homes old.held segment tid.page tid.slot ≡ Forward page slot → HasBody (overflows old.held segment page slot) → Puts segment tid body old mid
    → SetsEntry key slot Empty mid new → PagesStep (only key) asks outs mid new → IsTold mid.disk → Moved segment tid body old new
moved_away segment tid body page slot key old mid new at leads has puts sets_key step_key told =
    let sets = subst (λ (k : PageKey). SetsEntry k slot Empty mid new) at sets_key in
    let step = step_at at step_key in
    let home_now = λ (p s : ℕ). entry_off sets step told (page_key segment Home p) s (λ same. absurd (home_apart segment p segment page same)) in
    let home_here = home_now tid.page tid.slot in
    let came_now : (p s : ℕ) → homes new.held segment tid.page tid.slot ≡ Forward p s → overflows new.held segment p s ≡ Here body = λ p s is.
    let mid_is = sym home_here ∙ is in
    entry_off sets step told (page_key segment Overflow p) s (away_off segment p s page slot (λ same_page same_slot. not_empty (overflows old.held segment page slot) has ((λ i. overflows old.held segment (sym same_page i) (sym same_slot i)) ∙ puts.fresh p s mid_is))) ∙ puts.came p s mid_is in
    let placed : IsPlaced old segment tid body (homes new.held segment tid.page tid.slot) = subst (IsPlaced old segment tid body) (sym home_here) puts.placed in
    record {
      changed = record {
        formed = sets.formed;
        body = placed_body old segment tid body _ (overflows new.held segment) placed came_now;
        moves = record {
          homes = λ p s off. home_now p s ∙ puts.others p s off;
          kept = λ p s was now. entry_off sets step told (page_key segment Overflow p) s (away_off segment p s page slot (λ same_page same_slot. was (leads ∙ (λ i. Forward (sym same_page i) (sym same_slot i))))) ∙ puts.kept p s (λ is. now (home_here ∙ is));
          left = λ p s was now.
              let there = sym leads ∙ was in
              subst (λ (n : ℕ). overflows new.held segment n s ≡ Empty) (forward_page page slot p s there) (subst (λ (n : ℕ). overflows new.held segment page n ≡ Empty) (forward_slot page slot p s there) sets.here);
          came = λ p s is. has_body (came_now p s is);
          fresh = λ p s is was. puts.fresh p s (sym home_here ∙ is);
        };
      };
      placed = placed;
    }

-- only the place to which the entry leads could be where the body fits
pub never_away : (view : PagesView) (segment : ℕ) (tid : Tid) (count page slot : ℕ) (key : PageKey) → key ≡ page_key segment Overflow page → homes view.held segment tid.page tid.slot ≡ Forward page slot → (HasRoom (contents view.held key) slot count → ⊥) → NeverFitsAway view segment tid count
never_away view segment tid count page slot key at leads never p s fits =
    let there = sym leads ∙ fits.leads in
    never (subst (λ (k : PageKey). HasRoom (contents view.held k) slot count) (sym at) (subst (λ (n : ℕ). HasRoom (contents view.held (page_key segment Overflow n)) slot count) (sym (forward_page page slot p s there)) (subst (λ (n : ℕ). HasRoom (contents view.held (page_key segment Overflow p)) n count) (sym (forward_slot page slot p s there)) fits.room)))

-- the body that a tuple had elsewhere is still there when it was put anew
pub still_there : (segment : ℕ) (tid : Tid) (body : List ℕ) (page slot : ℕ) (old mid : PagesView) → HasBody (overflows old.held segment page slot) → Puts segment tid body old mid → HasBody (overflows mid.held segment page slot)
still_there segment tid body page slot old mid has puts = elim (leads_there (homes mid.held segment tid.page tid.slot) page slot) [
  | inl there ↦ absurd (not_empty (overflows old.held segment page slot) has (puts.fresh page slot there))
  | inr not_there ↦ subst HasBody (sym (puts.kept page slot not_there)) has
]

-- ---- a call that moves a body

-- it failed
pub moves_fails : {T U : Type 0} {touched : Keys} {asks outs cost segment : ℕ} {tid : Tid} {body : List ℕ} {old new : PagesView} {fault : PageFault} (result : Result U PageFault) → IsErrAnd result (λ why. why ≡ fault) → ((one : PageKey) → touched one → pages_for segment tid one) → asks ≤ cost → outs ≤ cost
    → PagesCall {T = T} touched asks outs old new (Err fault) → MovesBody segment tid body cost old new result
moves_fails {segment = segment} {tid = tid} {body = body} {old = old} {new = new} {fault = fault} result is wider few_asks few_outs call = record {
  moved = not_ok fault (IsTold old.disk → Moved segment tid body old new) result is;
  takes = not_ok fault (TakesOne segment tid body old new) result is;
  did = fails result is wider few_asks few_outs call;
}

-- a page was read before
pub moves_after : {T : Type 0} {cost most segment : ℕ} {tid : Tid} {body : List ℕ} {old mid new : PagesView} {result : Result T PageFault} → PagesStep no_page 1 1 old mid → MovesBody segment tid body cost mid new result → 1 + cost ≤ most → MovesBody segment tid body most old new result
moves_after {cost = cost} {segment = segment} {tid = tid} {body = body} {old = old} {mid = mid} {new = new} {result = result} step moves few = record {
  moved = on_ok_then result (λ moved told. moved_before segment tid body old mid new (all_mapped step) (all_held step told) (moved (step.passes.leaves.told.0 told))) moves.moved;
  takes = on_ok_then result (one_before step.passes.leaves.told.0 (all_mapped step) (all_held step)) moves.takes;
  did = widens (λ key there. there) few few (then_call {asks_then = cost} {outs_then = cost} (untouched step) moves.did);
}

-- no body stood in an overflow page
pub moves_puts : {T : Type 0} {cost segment : ℕ} {tid : Tid} {body : List ℕ} {old new : PagesView} {result : Result T PageFault} → (IsTold old.disk → (p s : ℕ) → homes old.held segment tid.page tid.slot ≡ Forward p s → ⊥) → OnOk result (IsTold old.disk → Puts segment tid body old new) → OnOk result (TakesOne segment tid body old new) → PagesCall (pages_for segment tid) cost cost old new result → MovesBody segment tid body cost old new result
moves_puts {segment = segment} {tid = tid} {body = body} {old = old} {new = new} {result = result} never puts takes call = record {
  moved = on_ok_then result (λ puts told. moved_puts segment tid body old new (never told) (puts told)) puts;
  takes = takes;
  did = call;
}
