use Rattle.std.proofs.Common.{◌≡◌, ◌∙◌, inl, inr, sym, ap, subst, arith}
use Rattle.std.specs.Prelude.{Err}
use Rattle.rss_base.specs.DiskRule.{IsTold}
use Rattle.rss_base.specs.Paged.{page_key}
use Rattle.rss_base.specs.declared.fault.PageFault.TheVariants.{Damaged}
use Rattle.rss_base.specs.declared.place.Place.TheVariants.{Page as PagePlace}
use Rattle.rss_base.specs.declared.key.PageKey.{PageKey}
use Rattle.rss_base.specs.declared.key.Space.TheVariants.{Home, Overflow}
use Rattle.rss_base.proofs.Steps.{rests, among, then_call, widens, fails}
use Rattle.rss_page.specs.Content.{Forward}
use Rattle.rss_page.specs.Slotted.{entries}
use Rattle.rss_page.specs.Surveyed.{held_at}
use Rattle.rss_tuple.specs.Directory.{content_at, homes, overflows}
use Rattle.rss_tuple.specs.Heaps.{HasBody}
use Rattle.rss_tuple.specs.Edits.{MayChange, HoldsAt, IsRead}
use Rattle.rss_tuple.proofs.Links.{not_empty}
use Rattle.rss_tuple.proofs.Seen.{on_ok, on_ok_then, found_damaged}
use Rattle.rss_tuple.proofs.Placed.{changed_here, changed_away, copied_key, read_at, mapped_there, entry_off, over_apart, over}
use Rattle.rss_tuple.proofs.Taken.{takes_step, takes_then}
use Rattle.rss_tuple.proofs.Sets.{read_copied, ill_formed, damage_told, holds_at}
use Rattle.rss_tuple.proofs.Changes.{entry_there}
use Rattle.rss_tuple.proofs.placing.remove_from.Goals as goal
use Rattle.rss_tuple.proofs.placing.remove_from.Goals.{After-home-key, In_ok-entry_in, In-Forward, In_ok-clear_in-in-Forward}

-- the copy of the home page, which is well-formed where the device tells its contents
read_home : (g : _) (c : After-home-key g) → IsTold (g.P.Pages.view c.args.pages.now).disk → IsRead (g.P.Pages.view c.args.pages.now) (page_key c.args.segment Home c.args.tid.page) c.args.page.now
read_home g c told = read_copied (inl (λ i. Home)) (λ told. (c.requires.there.heaps told).formed) c.requires.copied told

-- what its entry holds
home_entry : (g : _) (c : After-home-key g) → IsTold (g.P.Pages.view c.args.pages.now).disk → homes (g.P.Pages.view c.args.pages.now).held c.args.segment c.args.tid.page c.args.tid.slot ≡ held_at (entries c.args.page.now) c.args.tid.slot
home_entry g c told = read_at {asks = 0} {outs = 0} (rests (g.P.Pages.view c.args.pages.now)) (read_home g c told) told c.args.tid.slot

may_change : (g : _) (c : In_ok-entry_in g) → MayChange (g.P.Pages.view c.args.pages.now) c.home-key.result c.args.tid.slot c.args.page.now
may_change g c = record {
  header = c.in_ok-entry_in.ensures.header;
  copied = copied_key (sym c.home-key.ensures) c.requires.copied;
  low = c.requires.low;
  formed = λ told. (c.requires.there.heaps told).formed;
}

-- ---- where the page isn't what it should be

pub returns-in_err-entry_in-clause-did : goal.returns-in_err-entry_in-clause-did
returns-in_err-entry_in-clause-did g c =
    fails {asks = 0} {outs = 0} _ c.from_residual.ensures.1 (λ key none. absurd none) (omega arith) (omega arith) (ill_formed _ _ _ (rests (g.P.Pages.view c.args.pages.now)) (inl (ap (λ (k : PageKey). k.space) c.home-key.ensures)) (λ told. (c.requires.there.heaps told).formed) (copied_key (sym c.home-key.ensures) c.requires.copied).held c.in_err-entry_in.ensures.ill c.in_err-entry_in.ensures.damaged)

pub returns-in_err-entry_in-clause-ill : goal.returns-in_err-entry_in-clause-ill
returns-in_err-entry_in-clause-ill g c = λ ill. damage_told _ c.from_residual.ensures.1 c.in_err-entry_in.ensures.damaged c.home-key.ensures

pub returns-in-Empty-clause-did : goal.returns-in-Empty-clause-did
returns-in-Empty-clause-did g c =
    let view = g.P.Pages.view c.args.pages.now in
    found_damaged c.damaged.result c.damaged.ensures (rests view) (λ told.
    entry_there view c.args.segment c.args.tid c.requires.there told (home_entry g (goal.at.returns-in-Empty-clause-did g c).After-home-key told ∙ (rw c.in-Empty.is at c.in_ok-entry_in.ensures.holds)))

pub returns-in-Empty-clause-ill : goal.returns-in-Empty-clause-ill
returns-in-Empty-clause-ill g c = λ ill. ap Err (c.damaged.ensures ∙ ap (λ (k : PageKey). Damaged (PagePlace k)) c.home-key.ensures)

-- ---- where the body stands at home

pub clear_in-requires : goal.clear_in-requires
clear_in-requires g c = may_change g (goal.at.clear_in-requires g c).In_ok-entry_in

pub returns-in-Here-clause-changed : goal.returns-in-Here-clause-changed
returns-in-Here-clause-changed g c =
    on_ok_then c.clear_in.result (λ sets told.
    let here = home_entry g (goal.at.returns-in-Here-clause-changed g c).After-home-key told ∙ (rw c.in-Here.is at c.in_ok-entry_in.ensures.holds) in
    changed_here c.args.segment c.args.tid c.home-key.result _ _ c.home-key.ensures (λ p s is. let never = sym here ∙ is in absurd (cc)) (sets told) c.clear_in.ensures.did.step told)
    c.clear_in.ensures.sets

pub returns-in-Here-clause-takes : goal.returns-in-Here-clause-takes
returns-in-Here-clause-takes g c = on_ok c.clear_in.result (takes_step c.clear_in.ensures.did.step (inl (may_change g (goal.at.returns-in-Here-clause-takes g c).In_ok-entry_in).copied.mapped))

pub returns-in-Here-clause-ill : goal.returns-in-Here-clause-ill
returns-in-Here-clause-ill g c = λ ill. absurd (ill (holds_at c.home-key.ensures c.in_ok-entry_in.ensures.header (rw c.in-Here.is at c.in_ok-entry_in.ensures.holds) (λ is. absurd (cc))))

pub returns-in-Here-clause-did : goal.returns-in-Here-clause-did
returns-in-Here-clause-did g c = widens (λ key is. inl (is ∙ c.home-key.ensures)) (omega arith) (omega arith) c.clear_in.ensures.did

-- ---- where it stands in an overflow page

pub clear_in-requires-in-Forward : goal.clear_in-requires-in-Forward
clear_in-requires-in-Forward g c = may_change g (goal.at.clear_in-requires-in-Forward g c).In_ok-entry_in

-- where the home entry leads
leads : (g : _) (c : In-Forward g) → IsTold (g.P.Pages.view c.args.pages.now).disk → homes (g.P.Pages.view c.args.pages.now).held c.args.segment c.args.tid.page c.args.tid.slot ≡ Forward c.in-Forward.to c.in-Forward.to_slot
leads g c told = home_entry g (goal.at.In-Forward g c).After-home-key told ∙ (rw c.in-Forward.is at c.in_ok-entry_in.ensures.holds)

stands : (g : _) (c : In-Forward g) → HoldsAt (page_key c.args.segment Home c.args.tid.page) c.args.tid.slot c.args.page.now
stands g c = holds_at c.home-key.ensures c.in_ok-entry_in.ensures.header (rw c.in-Forward.is at c.in_ok-entry_in.ensures.holds) (λ is. absurd (cc))

pub returns-in_err-clear_in-in-Forward-clause-ill : goal.returns-in_err-clear_in-in-Forward-clause-ill
returns-in_err-clear_in-in-Forward-clause-ill g c = λ ill. absurd (ill (stands g (goal.at.returns-in_err-clear_in-in-Forward-clause-ill g c).In-Forward))

pub returns-in_err-clear_in-in-Forward-clause-did : goal.returns-in_err-clear_in-in-Forward-clause-did
returns-in_err-clear_in-in-Forward-clause-did g c =
    fails _ c.from_residual-in_err-clear_in-in-Forward.ensures.1 (λ key is. inl (is ∙ c.home-key.ensures)) (omega arith) (omega arith) c.in_err-clear_in-in-Forward.ensures.did

-- and there a body stands yet
body_away : (g : _) (c : In_ok-clear_in-in-Forward g) → IsTold (g.P.Pages.view c.clear_in-in-Forward.new.pages).disk → HasBody (overflows (g.P.Pages.view c.clear_in-in-Forward.new.pages).held c.args.segment c.in-Forward.to c.in-Forward.to_slot)
body_away g c told_new =
    let cleared = c.in_ok-clear_in-in-Forward.ensures in
    let key = page_key c.args.segment Overflow c.in-Forward.to in
    let told = cleared.did.step.passes.leaves.told.1 told_new in
    let off = λ (same : key ≡ c.home-key.result). over_apart c.args.segment c.in-Forward.to c.args.segment c.args.tid.page (same ∙ c.home-key.ensures) in
    let body = ((c.requires.there.heaps told).linked c.args.segment).leads c.args.tid.page c.args.tid.slot c.in-Forward.to c.in-Forward.to_slot (leads g (goal.at.In_ok-clear_in-in-Forward g c).In-Forward told) in
    subst HasBody (sym (entry_off (cleared.sets told) cleared.did.step told key c.in-Forward.to_slot (λ same. absurd (off same)))) body

pub clear-requires-clause-may : goal.clear-requires-clause-may
clear-requires-clause-may g c =
    let cleared = c.in_ok-clear_in-in-Forward.ensures in
    let key = page_key c.args.segment Overflow c.in-Forward.to in
    record {
      heap = inr (ap (λ (k : PageKey). k.space) c.overflow.ensures);
      mapped = λ told.
          mapped_there (g.P.Pages.view c.clear_in-in-Forward.new.pages) c.overflow.result key c.in-Forward.to_slot c.overflow.ensures (g.met.P.Pages.holds c.clear_in-in-Forward.new.pages told key)
          (not_empty _ (body_away g (goal.at.clear-requires-clause-may g c).In_ok-clear_in-in-Forward told));
      formed = λ told. (cleared.sets (cleared.did.step.passes.leaves.told.1 told)).formed;
    }

pub clear-requires-clause-body : goal.clear-requires-clause-body
clear-requires-clause-body g c = λ told.
    subst (λ (k : PageKey). HasBody (content_at (g.P.Pages.view c.clear_in-in-Forward.new.pages).held k c.in-Forward.to_slot)) (sym c.overflow.ensures) (body_away g (goal.at.clear-requires-clause-body g c).In_ok-clear_in-in-Forward told)

pub returns-in_ok-clear_in-in-Forward-clause-changed : goal.returns-in_ok-clear_in-in-Forward-clause-changed
returns-in_ok-clear_in-in-Forward-clause-changed g c =
    let cleared = c.in_ok-clear_in-in-Forward.ensures in
    on_ok_then c.clear.result (λ sets told.
    let next = cleared.did.step.passes.leaves.told.0 told in
    changed_away c.args.segment c.args.tid c.in-Forward.to c.in-Forward.to_slot c.home-key.result c.overflow.result _ _ _ c.home-key.ensures c.overflow.ensures
    (leads g (goal.at.returns-in_ok-clear_in-in-Forward-clause-changed g c).In-Forward told)
    (cleared.sets told) cleared.did.step (sets next) c.clear.ensures.edits.did.step told next)
    c.clear.ensures.edits.sets

pub returns-in_ok-clear_in-in-Forward-clause-takes : goal.returns-in_ok-clear_in-in-Forward-clause-takes
returns-in_ok-clear_in-in-Forward-clause-takes g c =
    let first = takes_step c.in_ok-clear_in-in-Forward.ensures.did.step (inl (may_change g (goal.at.returns-in_ok-clear_in-in-Forward-clause-takes g c).In_ok-entry_in).copied.mapped) in
    on_ok_then c.clear.result (λ there. takes_then first (takes_step c.clear.ensures.edits.did.step (inl there))) c.clear.ensures.there

pub returns-in_ok-clear_in-in-Forward-clause-ill : goal.returns-in_ok-clear_in-in-Forward-clause-ill
returns-in_ok-clear_in-in-Forward-clause-ill g c = λ ill. absurd (ill (stands g (goal.at.returns-in_ok-clear_in-in-Forward-clause-ill g c).In-Forward))

pub returns-in_ok-clear_in-in-Forward-clause-did : goal.returns-in_ok-clear_in-in-Forward-clause-did
returns-in_ok-clear_in-in-Forward-clause-did g c =
    then_call {asks_then = 2} {outs_then = 2} (among (λ key is. inl (is ∙ c.home-key.ensures)) c.in_ok-clear_in-in-Forward.ensures.did.step) (widens (over c.args.segment c.in-Forward.to c.args.tid c.overflow.result c.overflow.ensures) (omega arith) (omega arith) c.clear.ensures.edits.did)
