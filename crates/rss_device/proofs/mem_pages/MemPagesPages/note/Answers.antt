use Rattle.std.proofs.Common.{rules, refl, arith, ◌≡◌, ◌∙◌, Some, None, sym, ap}
use Rattle.std.proofs.lemmas.List.{get_or_read}
use Rattle.rss_base.proofs.Calls.{leaves_rests}
use Rattle.rss_base.proofs.Moments.{same_device, drives_nothing}
use Rattle.rss_base.proofs.Steps.{noted}
use Rattle.rss_device.specs.MemPages.{place_at, page_in}
use Rattle.rss_device.proofs.Places.{changes_own, stored_at, stored_put, follows, stays_mapped, held_kept, placed_after, same_backing}
use Rattle.rss_device.proofs.mem_pages.MemPagesPages.note.Goals as goal

pub invariant_of-self : goal.invariant_of-self
invariant_of-self c =
    record { placed = placed_after _ _ _ _ c.args.self.now.placed (changes_own _ _ _ _ c.args.self.now.placed c.place-at.ensures.has (λ other differs. differs)) (c.args.self.now.placed.allowed _ _ c.place-at.ensures.has) }

pub returns-clause-noted : goal.returns-clause-noted
returns-clause-noted c =
    let places = c.args.self.now.places.items in
    let there : place_at places c.place-at.result ≡ Some c.in-Some.stored = sym (get_or_read places c.place-at.result c.index.result.now c.place-at.ensures.within c.index.ensures None) ∙ c.in-Some.is in
    let was = stored_at places c.place-at.result c.args.key c.args.self.now.placed c.place-at.ensures.has ∙ there in
    let put = stored_put _ _ _ c.in-Some.stored.page (Some c.args.number) (changes_own _ _ _ _ c.args.self.now.placed c.place-at.ensures.has (λ other differs. differs)) in
    let follows = follows places _ _ _ put in
    record {
      mapped = follows.mapped ∙ stays_mapped places c.args.key c.requires.mapped;
      held = follows.held ∙ held_kept _ c.args.key _ (ap page_in was);
      changed = refl;
      notes = follows.notes;
    }

pub returns-clause-idle : goal.returns-clause-idle
returns-clause-idle c = record { device = same_device _; in_memory = (returns-clause-noted c).mapped }

pub returns-clause-did : goal.returns-clause-did
returns-clause-did c = noted (record { slots = search rules; backing = same_backing (search rules); leaves = leaves_rests _ _ _; later = omega arith; asks_low = omega arith; asks_high = omega arith; writes_low = omega arith; writes_high = omega arith; outs_high = omega arith; drives = drives_nothing _ }) (returns-clause-noted c)
