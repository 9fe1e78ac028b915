use Rattle.std.proofs.Common.{rules, ◌∙◌, inl, ap, arith}
use Rattle.std.specs.Prelude.{Err}
use Rattle.rss_base.specs.Paged.{page_key}
use Rattle.rss_base.specs.declared.fault.PageFault.TheVariants.{Damaged}
use Rattle.rss_base.specs.declared.place.Place.TheVariants.{Page as PagePlace}
use Rattle.rss_base.specs.declared.key.PageKey.{PageKey}
use Rattle.rss_base.specs.declared.key.Space.TheVariants.{Home}
use Rattle.rss_base.proofs.Steps.{rests}
use Rattle.rss_tuple.proofs.Seen.{found_damaged, high_empty}
use Rattle.rss_tuple.proofs.Placed.{copied_key, mapped_there}
use Rattle.rss_tuple.proofs.Changes.{entry_there, replace_after}
use Rattle.rss_tuple.proofs.Moved.{moves_fails, moves_after}
use Rattle.rss_tuple.proofs.placing.replace.Goals as goal

pub returns-then-tid-from-clause-moves : goal.returns-then-tid-from-clause-moves
returns-then-tid-from-clause-moves g c =
    let view = g.P.Pages.view c.args.pages.now in
    record {
      moved = search rules;
      takes = search rules;
      did = found_damaged c.damaged.result c.damaged.ensures (rests view) (λ told.
          entry_there view c.args.segment c.args.tid c.requires.there told (high_empty view.held (page_key c.args.segment Home c.args.tid.page) c.args.tid.slot (omega (arith, c.from.ensures, c.if-tid-from.true))));
    }

pub returns-then-tid-from-clause-nowhere : goal.returns-then-tid-from-clause-nowhere
returns-then-tid-from-clause-nowhere g c = λ nowhere. ap Err (c.damaged.ensures ∙ ap (λ (k : PageKey). Damaged (PagePlace k)) c.home-key.ensures)

pub load_there-requires : goal.load_there-requires
load_there-requires g c =
    let view = g.P.Pages.view c.args.pages.now in
    let key = page_key c.args.segment Home c.args.tid.page in
    record {
      heap = inl (ap (λ (k : PageKey). k.space) c.home-key.ensures);
      mapped = λ told. mapped_there view c.home-key.result key c.args.tid.slot c.home-key.ensures (g.met.P.Pages.holds c.args.pages.now told key) (entry_there view c.args.segment c.args.tid c.requires.there told);
      formed = λ told. (c.requires.there.heaps told).formed;
    }

pub returns-in_err-load_there-clause-moves : goal.returns-in_err-load_there-clause-moves
returns-in_err-load_there-clause-moves g c = moves_fails _ c.from_residual.ensures.1 (λ key none. absurd none) (omega arith) (omega arith) c.in_err-load_there.ensures.did

pub replace_in-requires-clause-copied : goal.replace_in-requires-clause-copied
replace_in-requires-clause-copied g c = copied_key c.home-key.ensures (record { mapped = c.in_ok-load_there.ensures.mapped; held = c.loaded.ensures })

pub replace_in-requires-clause-may : goal.replace_in-requires-clause-may
replace_in-requires-clause-may g c = replace_after c.in_ok-load_there.ensures.did.step (g.met.P.Pages.are_counted c.args.pages.now) (g.met.P.Pages.are_counted c.load_there.new.pages) c.requires

pub returns-clause-moves : goal.returns-clause-moves
returns-clause-moves g c =
    let step = c.in_ok-load_there.ensures.did.step in
    moves_after step c.replace_in.ensures.moves (omega (arith, step.passes.slots))
