use Rattle.std.proofs.Common.{◌∙◌, inl, ap, arith}
use Rattle.std.specs.Prelude.{Err}
use Rattle.rss_base.specs.Paged.{page_key}
use Rattle.rss_base.specs.declared.fault.PageFault.TheVariants.{Damaged}
use Rattle.rss_base.specs.declared.place.Place.TheVariants.{Page as PagePlace}
use Rattle.rss_base.specs.declared.key.PageKey.{PageKey}
use Rattle.rss_base.specs.declared.key.Space.TheVariants.{Home}
use Rattle.rss_base.proofs.Steps.{rests, untouched, then_call, fails, all_held, all_mapped}
use Rattle.rss_tuple.proofs.Seen.{on_ok_then, found_damaged, high_empty}
use Rattle.rss_tuple.proofs.Placed.{changed_before, copied_key, mapped_there}
use Rattle.rss_tuple.proofs.Taken.{takes_same}
use Rattle.rss_tuple.proofs.Changes.{entry_there, has_after}
use Rattle.rss_tuple.proofs.placing.remove.Goals as goal

pub returns-then-tid-from-clause-did : goal.returns-then-tid-from-clause-did
returns-then-tid-from-clause-did g c =
    let view = g.P.Pages.view c.args.pages.now in
    found_damaged c.damaged.result c.damaged.ensures (rests view) (λ told.
    entry_there view c.args.segment c.args.tid c.requires told (high_empty view.held (page_key c.args.segment Home c.args.tid.page) c.args.tid.slot (omega (arith, c.from.ensures, c.if-tid-from.true))))

pub returns-then-tid-from-clause-nowhere : goal.returns-then-tid-from-clause-nowhere
returns-then-tid-from-clause-nowhere g c = λ nowhere. ap Err (c.damaged.ensures ∙ ap (λ (k : PageKey). Damaged (PagePlace k)) c.home-key.ensures)

pub load_there-requires : goal.load_there-requires
load_there-requires g c =
    let view = g.P.Pages.view c.args.pages.now in
    let key = page_key c.args.segment Home c.args.tid.page in
    record {
      heap = inl (ap (λ (k : PageKey). k.space) c.home-key.ensures);
      mapped = λ told. mapped_there view c.home-key.result key c.args.tid.slot c.home-key.ensures (g.met.P.Pages.holds c.args.pages.now told key) (entry_there view c.args.segment c.args.tid c.requires told);
      formed = λ told. (c.requires.heaps told).formed;
    }

pub returns-in_err-load_there-clause-did : goal.returns-in_err-load_there-clause-did
returns-in_err-load_there-clause-did g c = fails _ c.from_residual.ensures.1 (λ key none. absurd none) (omega arith) (omega arith) c.in_err-load_there.ensures.did

pub remove_from-requires-clause-copied : goal.remove_from-requires-clause-copied
remove_from-requires-clause-copied g c = copied_key c.home-key.ensures (record { mapped = c.in_ok-load_there.ensures.mapped; held = c.loaded.ensures })

pub remove_from-requires-clause-there : goal.remove_from-requires-clause-there
remove_from-requires-clause-there g c = has_after c.in_ok-load_there.ensures.did.step c.requires

pub returns-clause-changed : goal.returns-clause-changed
returns-clause-changed g c =
    let step = c.in_ok-load_there.ensures.did.step in
    on_ok_then c.remove_from.result (λ changed told. changed_before c.args.segment c.args.tid _ _ _ _ (all_held step told) (changed (step.passes.leaves.told.0 told))) c.remove_from.ensures.changed

pub returns-clause-takes : goal.returns-clause-takes
returns-clause-takes g c = on_ok_then c.remove_from.result (λ takes. takes_same (all_mapped c.in_ok-load_there.ensures.did.step) takes) c.remove_from.ensures.takes

pub returns-clause-did : goal.returns-clause-did
returns-clause-did g c = then_call (untouched c.in_ok-load_there.ensures.did.step) c.remove_from.ensures.did
