use Rattle.std.proofs.Common.{◌∙◌, List, sym, ap, subst, arith}
use Rattle.rss_base.specs.Paged.{Held}
use Rattle.rss_base.proofs.Steps.{all_held, fails}
use Rattle.rss_page.specs.Content.{Content}
use Rattle.rss_page.specs.Slotted.{HasRoom}
use Rattle.rss_tuple.specs.Directory.{contents_in}
use Rattle.rss_page.specs.Surveyed.{held_at}
use Rattle.rss_tuple.proofs.Links.{not_empty}
use Rattle.rss_tuple.proofs.Seen.{found_damaged}
use Rattle.rss_tuple.proofs.Sets.{ill_formed}
use Rattle.rss_tuple.proofs.placing.stays.Goals as goal

pub returns-in_err-there-clause-did : goal.returns-in_err-there-clause-did
returns-in_err-there-clause-did g c = fails _ c.from_residual-in_err-there.ensures.1 (λ key none. none) (omega arith) (omega arith) (ill_formed _ _ _ c.in_ok-load_there.ensures.did.step c.requires.may.heap c.requires.may.formed c.loaded.ensures c.in_err-there.ensures.ill c.in_err-there.ensures.damaged)

pub returns-then-is_empty-clause-did : goal.returns-then-is_empty-clause-did
returns-then-is_empty-clause-did g c =
    let step = c.in_ok-load_there.ensures.did.step in
    found_damaged c.damaged.result c.damaged.ensures step (λ told.
    let same = sym (ap (λ (h : Held). contents_in (h c.args.key)) (all_held step told)) ∙ ap contents_in (c.loaded.ensures (step.passes.leaves.told.0 told)) in
    not_empty _ (c.requires.body told) (ap (λ (l : List Content). held_at l c.args.to_slot) same ∙ c.is_empty.ensures.0 c.if-is_empty.true))

pub returns-else-has_room-2-clause-leaves : goal.returns-else-has_room-2-clause-leaves
returns-else-has_room-2-clause-leaves g c = λ told stays.
    let step = c.in_ok-load_there.ensures.did.step in
    let same = sym (ap (λ (h : Held). contents_in (h c.args.key)) (all_held step told)) ∙ ap contents_in (c.loaded.ensures (step.passes.leaves.told.0 told)) in
    let fits = c.has_room-2.ensures.1 (subst (λ (l : List Content). HasRoom l c.args.to_slot c.args.length) same stays.room) in
    absurd (cc)
