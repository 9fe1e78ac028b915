use Rattle.std.proofs.Common.{◌≡◌, ◌+◌, ◌≤◌, ℕ, true, false, length, ap, subst, ◌∙◌}
use Rattle.rss_base.specs.Paged.{page_key}
use Rattle.rss_base.specs.declared.key.PageKey.{PageKey}
use Rattle.rss_base.specs.declared.key.Space.TheVariants.{Image}
use Rattle.rss_base.proofs.Steps.{done}
use Rattle.rss_levels.specs.Entries.{Pairwise}
use Rattle.rss_levels.specs.Rows.{Row, IsBefore, marks}
use Rattle.rss_image.specs.Checking.{IsSeen, IsSeenUnder, StandsBefore}
use Rattle.rss_image.proofs.Calls.{held_mapped, lent_page}
use Rattle.rss_image.proofs.Walked.{never_held}
use Rattle.rss_image.proofs.checking.find_leaf.Goals as goal

pub returns-then-not-has-clause-never : goal.returns-then-not-has-clause-never
returns-then-not-has-clause-never g c = λ no told row seen stands room.
    let view = g.P.Pages.view c.args.pages.now in
    never_held c.args.of view.slots view.held 0 c.args.number c.args.low.now c.args.fewest row
    (λ next entries holds many.
    let never : false ≡ true = c.if-not-has.ensures ∙ ap (λ (k : PageKey). view.mapped k) c.node_key-key.ensures ∙ held_mapped view (g.met.P.Pages.holds c.args.pages.now told) (page_key c.args.of.segment Image c.args.number) holds.bytes holds.held in
    absurd (cc)) stands

pub returns-clause-sees : goal.returns-clause-sees
returns-clause-sees g c = λ yes told.
    let old = g.P.Pages.view c.args.pages.now in
    let there = lent_page c.args.of c.args.number c.node_key-key.result c.loaded.result.now old _ c.in_ok-load.ensures.did.step c.node_key-key.ensures c.loaded.ensures told in
    subst (λ (n : ℕ). (row : Row) → IsSeen c.args.of.width row c.args.seen.now.pages c.args.seen.now → Pairwise IsBefore (marks row) → IsSeenUnder c.args.of n old.held 0 c.args.number c.args.low.now c.args.fewest row c.args.seen.now.pages c.leaf_in.new.seen) c.slots-slots.ensures (c.leaf_in.ensures.sees yes old.held there)

pub returns-clause-never : goal.returns-clause-never
returns-clause-never g c = λ no told.
    let old = g.P.Pages.view c.args.pages.now in
    let there = lent_page c.args.of c.args.number c.node_key-key.result c.loaded.result.now old _ c.in_ok-load.ensures.did.step c.node_key-key.ensures c.loaded.ensures told in
    subst (λ (n : ℕ). (row : Row) → IsSeen c.args.of.width row c.args.seen.now.pages c.args.seen.now → (stands : StandsBefore c.args.of n old.held 0 c.args.number c.args.low.now c.args.fewest row) → c.args.seen.now.pages + length stands.ns ≤ n → ⊥) c.slots-slots.ensures (c.leaf_in.ensures.never no old.held there)

pub returns-clause-did : goal.returns-clause-did
returns-clause-did g c = done _ c.in_ok-load.ensures.did.step
