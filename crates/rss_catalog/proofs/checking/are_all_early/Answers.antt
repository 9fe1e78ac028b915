-- A late link was found at its place, or at none of the places.
use Rattle.std.proofs.Common.{◌≡◌, ◌∙◌, ◌+◌, sym, refl, arith, false, None}
use Rattle.rss_base.specs.declared.link.LinkEntry.{LinkEntry}
use Rattle.rss_catalog.proofs.Numbered.{has_number}
use Rattle.rss_catalog.proofs.Tested.{each_all}
use Rattle.rss_catalog.proofs.checking.are_all_early.Goals as goal

pub returns-in-loop-link : goal.returns-in-loop-link
returns-in-loop-link c = (
  λ it. absurd (cc),
  λ all. sym (all (c.loop-link.link-index + 1) c.in-Some.link (has_number c.args.links.now c.loop-link.link-index None c.in-Some.link c.loop-link-test.true c.in-Some.is)) ∙ c.if-link.true,
)

pub returns : goal.returns
returns c = (λ it. each_all (λ (link : LinkEntry). link.late ≡ false) c.args.links.now c.loop-link.link-index (omega arith) c.loop-link.invariant, λ all. refl)
