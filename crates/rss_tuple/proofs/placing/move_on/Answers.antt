use Rattle.std.proofs.Common.{◌≡◌, ◌∙◌, inl, inr, ◌+◌, ◌<◌, ◌≤◌, ℕ, List, Option, sym, ap, subst, arith, length}
use Rattle.rss_base.specs.DiskRule.{IsTold}
use Rattle.rss_base.specs.Paged.{Held, page_key}
use Rattle.rss_base.specs.Steps.{PagesView}
use Rattle.rss_base.specs.declared.tid.Tid.{Tid}
use Rattle.rss_base.specs.declared.key.PageKey.{PageKey}
use Rattle.rss_base.specs.declared.key.Space.TheVariants.{Home, Overflow}
use Rattle.rss_base.proofs.Steps.{untouched, within, then, then_call, widens, all_held, all_mapped}
use Rattle.rss_page.specs.Content.{Forward}
use Rattle.rss_page.specs.Slotted.{entries, HasRoom}
use Rattle.rss_page.specs.Surveyed.{held_at}
use Rattle.rss_tuple.specs.Directory.{contents_in, content_at, homes, overflows}
use Rattle.rss_tuple.specs.Heaps.{HasBody}
use Rattle.rss_tuple.specs.Edits.{IsRead}
use Rattle.rss_tuple.proofs.Links.{not_empty}
use Rattle.rss_tuple.proofs.Seen.{on_ok, on_ok_then, formed_after}
use Rattle.rss_tuple.proofs.Placed.{read_off, room_read, room_back, puts_before, mapped_there, over}
use Rattle.rss_tuple.proofs.Taken.{takes_step, takes_none, one_before, one_more}
use Rattle.rss_tuple.proofs.Changes.{spare_after, spare_away}
use Rattle.rss_tuple.proofs.Moved.{moved_stays, moved_away, never_away, still_there, moves_fails, moves_after}
use Rattle.rss_tuple.proofs.placing.move_on.Goals as goal
use Rattle.rss_tuple.proofs.placing.move_on.Goals.{In_ok-place-in-None}

-- where the home entry leads
leads : (view : PagesView) (segment : ℕ) (tid : Tid) (page : List ℕ) (to to_slot : ℕ) → IsRead view (page_key segment Home tid.page) page → held_at (entries page) tid.slot ≡ Forward to to_slot → IsTold view.disk → homes view.held segment tid.page tid.slot ≡ Forward to to_slot
leads view segment tid page to to_slot read is told = ap (λ (p : Option (List ℕ)). held_at (contents_in p) tid.slot) (read.held told) ∙ is

pub stays-requires-clause-body : goal.stays-requires-clause-body
stays-requires-clause-body g c = λ told.
    let view = g.P.Pages.view c.args.pages.now in
    let lead = leads view c.args.segment c.args.tid c.args.page.now c.args.to c.args.to_slot c.requires.home.read c.requires.leads told in
    subst (λ (k : PageKey). HasBody (content_at view.held k c.args.to_slot)) (sym c.overflow-key.ensures) (((c.requires.heaps told).linked c.args.segment).leads c.args.tid.page c.args.tid.slot c.args.to c.args.to_slot lead)

pub stays-requires-clause-may : goal.stays-requires-clause-may
stays-requires-clause-may g c =
    let view = g.P.Pages.view c.args.pages.now in
    let one = page_key c.args.segment Overflow c.args.to in
    record {
      heap = inr (ap (λ (k : PageKey). k.space) c.overflow-key.ensures);
      mapped = λ told.
          let lead = leads view c.args.segment c.args.tid c.args.page.now c.args.to c.args.to_slot c.requires.home.read c.requires.leads told in
          mapped_there view c.overflow-key.result one c.args.to_slot c.overflow-key.ensures (g.met.P.Pages.holds c.args.pages.now told one)
          (not_empty (content_at view.held one c.args.to_slot) (((c.requires.heaps told).linked c.args.segment).leads c.args.tid.page c.args.tid.slot c.args.to c.args.to_slot lead));
      formed = λ told. (c.requires.heaps told).formed;
    }

pub returns-in_err-there : goal.returns-in_err-there
returns-in_err-there g c = moves_fails _ c.from_residual.ensures.1 (λ key none. absurd none) (omega arith) (omega arith) c.in_err-there.ensures.did

-- ---- where the body stays

pub put_here-requires-clause-may : goal.put_here-requires-clause-may
put_here-requires-clause-may g c = record {
  read = rw c.in-Some.is at c.in_ok-there.ensures.read;
  low = c.requires.to_slot;
  formed = formed_after c.in_ok-there.ensures.did.step (λ told. (c.requires.heaps told).formed);
}

pub returns-in-Some : goal.returns-in-Some
returns-in-Some g c =
    let step = c.in_ok-there.ensures.did.step in
    let there = rw c.in-Some.is at c.in_ok-there.ensures.stays in
    let read_away = rw c.in-Some.is at c.in_ok-there.ensures.read in
    let view = g.P.Pages.view c.stays.new.pages in
    moves_after {cost = 1} step (record {
      moved = on_ok_then c.put_here.result (λ sets mid.
          let read = read_off step (λ none. none) c.requires.home.read in
          let lead = leads view c.args.segment c.args.tid c.args.page.now c.args.to c.args.to_slot read c.requires.leads mid in
          moved_stays c.args.segment c.args.tid c.args.body.now c.args.to c.args.to_slot c.overflow-key.result _ _ c.overflow-key.ensures lead
          (λ fits. there.not_home (room_read view (page_key c.args.segment Home c.args.tid.page) c.args.page.now c.args.tid.slot (length c.args.body.now) read mid fits))
          (room_back view c.overflow-key.result c.stays.new.away c.args.to_slot (length c.args.body.now) read_away mid there.room)
          (sets mid) c.put_here.ensures.did.step mid)
          c.put_here.ensures.sets;
      takes = on_ok c.put_here.result (takes_none (takes_step c.put_here.ensures.did.step (inl read_away.mapped)));
      did = widens (over c.args.segment c.args.to c.args.tid c.overflow-key.result c.overflow-key.ensures) (omega arith) (omega arith) c.put_here.ensures.did;
    }) (omega arith)

-- ---- where it is put elsewhere

pub place-requires-clause-home : goal.place-requires-clause-home
place-requires-clause-home g c = record {
  read = read_off c.in_ok-there.ensures.did.step (λ none. none) c.requires.home.read;
  low = c.requires.home.low;
}

pub place-requires-clause-formed : goal.place-requires-clause-formed
place-requires-clause-formed g c = formed_after c.in_ok-there.ensures.did.step (λ told. (c.requires.heaps told).formed)

pub place-requires-clause-away : goal.place-requires-clause-away
place-requires-clause-away g c = λ mid full.
    let old = g.P.Pages.view c.args.pages.now in
    let now = g.P.Pages.view c.stays.new.pages in
    let step = c.in_ok-there.ensures.did.step in
    let told = step.passes.leaves.told.1 mid in
    let read = read_off step (λ none. none) c.requires.home.read in
    let lead = leads now c.args.segment c.args.tid c.args.page.now c.args.to c.args.to_slot read c.requires.leads mid in
    let never : HasRoom (contents_in (old.held c.overflow-key.result)) c.args.to_slot (length c.args.body.now) → ⊥ = λ room. (rw c.in-None.is at c.in_ok-there.ensures.leaves) told (record {
      not_home = λ fits. full (room_back now (page_key c.args.segment Home c.args.tid.page) c.args.page.now c.args.tid.slot (length c.args.body.now) read mid fits);
      room = room;
    }) in
    let lead_old = leads old c.args.segment c.args.tid c.args.page.now c.args.to c.args.to_slot c.requires.home.read c.requires.leads told in
    let spare : 0 < old.spare = spare_away old c.args.segment c.args.tid (length c.args.body.now) c.args.to c.args.to_slot c.overflow-key.result c.overflow-key.ensures c.requires.room told (c.requires.heaps told) lead_old c.requires.to_slot never in
    record {
      never = never_away now c.args.segment c.args.tid (length c.args.body.now) c.args.to c.args.to_slot c.overflow-key.result c.overflow-key.ensures lead
          (λ room. never (subst (λ (h : Held). HasRoom (contents_in (h c.overflow-key.result)) c.args.to_slot (length c.args.body.now)) (all_held step told) room));
      room = omega (arith, spare, spare_after step (all_mapped step) (g.met.P.Pages.are_counted c.args.pages.now) (g.met.P.Pages.are_counted c.stays.new.pages));
    }

pub returns-in_err-place-in-None : goal.returns-in_err-place-in-None
returns-in_err-place-in-None g c =
    let slots = c.in_ok-there.ensures.did.step.passes.slots in
    let most = (g.P.Pages.view c.args.pages.now).slots + 3 in
    let fewer : (g.P.Pages.view c.stays.new.pages).slots + 3 ≤ most = omega (arith, slots) in
    moves_fails _ c.from_residual-in_err-place-in-None.ensures.1 (λ key there. there) (omega arith) (omega arith) (then_call {asks_then = most} {outs_then = most} (untouched c.in_ok-there.ensures.did.step) (widens (λ key there. there) fewer fewer c.in_err-place-in-None.ensures.did))

-- the body that is left stands where it stood
left : (g : _) (c : In_ok-place-in-None g) → IsTold (g.P.Pages.view c.place.new.pages).disk → HasBody (overflows (g.P.Pages.view c.place.new.pages).held c.args.segment c.args.to c.args.to_slot)
left g c next =
    let old = g.P.Pages.view c.args.pages.now in
    let step = c.in_ok-there.ensures.did.step in
    let placed = c.in_ok-place-in-None.ensures in
    let mid = placed.did.step.passes.leaves.told.1 next in
    let told = step.passes.leaves.told.1 mid in
    let lead = leads old c.args.segment c.args.tid c.args.page.now c.args.to c.args.to_slot c.requires.home.read c.requires.leads told in
    let body = ((c.requires.heaps told).linked c.args.segment).leads c.args.tid.page c.args.tid.slot c.args.to c.args.to_slot lead in
    let puts = puts_before c.args.segment c.args.tid c.args.body.now old (g.P.Pages.view c.stays.new.pages) (g.P.Pages.view c.place.new.pages) (all_mapped step) (all_held step told) (placed.puts mid) in
    still_there c.args.segment c.args.tid c.args.body.now c.args.to c.args.to_slot _ _ body puts

pub clear-requires-clause-may : goal.clear-requires-clause-may
clear-requires-clause-may g c =
    let placed = c.in_ok-place-in-None.ensures in
    let one = page_key c.args.segment Overflow c.args.to in
    record {
      heap = inr (ap (λ (k : PageKey). k.space) c.overflow-key.ensures);
      mapped = λ next.
          mapped_there (g.P.Pages.view c.place.new.pages) c.overflow-key.result one c.args.to_slot c.overflow-key.ensures (g.met.P.Pages.holds c.place.new.pages next one)
          (not_empty (content_at (g.P.Pages.view c.place.new.pages).held one c.args.to_slot) (left g (goal.at.clear-requires-clause-may g c).In_ok-place-in-None next));
      formed = λ told. (placed.puts (placed.did.step.passes.leaves.told.1 told)).formed;
    }

pub clear-requires-clause-body : goal.clear-requires-clause-body
clear-requires-clause-body g c = λ next.
    subst (λ (k : PageKey). HasBody (content_at (g.P.Pages.view c.place.new.pages).held k c.args.to_slot)) (sym c.overflow-key.ensures) (left g (goal.at.clear-requires-clause-body g c).In_ok-place-in-None next)

pub returns-in_ok-place-in-None : goal.returns-in_ok-place-in-None
returns-in_ok-place-in-None g c =
    let old = g.P.Pages.view c.args.pages.now in
    let step = c.in_ok-there.ensures.did.step in
    let placed = c.in_ok-place-in-None.ensures in
    let most = old.slots + 3 in
    let fewer : (g.P.Pages.view c.stays.new.pages).slots + 3 ≤ most = omega (arith, step.passes.slots) in
    record {
      moved = on_ok_then c.clear.result (λ sets told.
          let mid = step.passes.leaves.told.0 told in
          let next = placed.did.step.passes.leaves.told.0 mid in
          let lead = leads old c.args.segment c.args.tid c.args.page.now c.args.to c.args.to_slot c.requires.home.read c.requires.leads told in
          let body = ((c.requires.heaps told).linked c.args.segment).leads c.args.tid.page c.args.tid.slot c.args.to c.args.to_slot lead in
          moved_away c.args.segment c.args.tid c.args.body.now c.args.to c.args.to_slot c.overflow-key.result _ _ _ c.overflow-key.ensures lead body
          (puts_before c.args.segment c.args.tid c.args.body.now _ _ _ (all_mapped step) (all_held step told) (placed.puts mid)) (sets next) c.clear.ensures.edits.did.step next)
          c.clear.ensures.edits.sets;
      takes = on_ok_then c.clear.result (λ there. one_before step.passes.leaves.told.0 (all_mapped step) (all_held step) (one_more placed.takes (takes_step c.clear.ensures.edits.did.step (inl there)))) c.clear.ensures.there;
      did = widens (λ key there. there) (omega arith) (omega arith) (then_call {asks_then = 2} {outs_then = 2} (then {asks_then = most} {outs_then = most} (untouched step) (within (λ key there. there) fewer fewer placed.did.step)) (widens (over c.args.segment c.args.to c.args.tid c.overflow-key.result c.overflow-key.ensures) (omega arith) (omega arith) c.clear.ensures.edits.did));
    }
