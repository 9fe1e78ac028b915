use Rattle.std.proofs.Common.{◌≡◌, ◌-◌, ◌≤◌, ◌<◌, ◌*◌, ℕ, length}
use Rattle.rss_base.specs.DiskRule.{IsTold}
use Rattle.rss_base.specs.Paged.{page_key}
use Rattle.rss_base.specs.Steps.{pages_in}
use Rattle.rss_base.specs.declared.key.Space.TheVariants.{Home}
use Rattle.rss_base.specs.Looking.{LooksStep}
use Rattle.rss_tuple.specs.Checked.{tuples_of}
use Rattle.rss_tuple.specs.Directory.{homes, overflows}
use Rattle.rss_tuple.specs.Looks.{IsNotedAt, Sees, in_front, AreSeen}
use Rattle.rss_tuple.proofs.checking.look_at_homes.Given as goal

abbrev pub invariant-loop-number : goal.invariant-loop-number
invariant-loop-number g l = record {
  low : l.from ≤ (g.P.Pages.view l.fn.pages).slots;
  size : length l.led ≡ (g.P.Pages.view l.fn.pages).slots;
  looks : LooksStep (pages_in l.segment Home) (129 * l.from) (g.P.Pages.view l.fn.pages) (g.P.Pages.view l.pages);
  noted : IsTold (g.P.Pages.view l.fn.pages).disk → (k : ℕ) → k < l.from → IsNotedAt (g.P.Pages.view l.fn.pages).held (g.P.Pages.view l.pages) (page_key l.segment Home k);
  seen : IsTold (g.P.Pages.view l.fn.pages).disk → AreSeen (homes (g.P.Pages.view l.fn.pages).held l.segment) (overflows (g.P.Pages.view l.fn.pages).held l.segment) (g.V.Visitor.is_good l.fn.visitor) l.led (in_front l.from 0);
  shown : IsTold (g.P.Pages.view l.fn.pages).disk → Sees g.V.Visitor.is_good g.V.Visitor.saw l.fn.visitor l.visitor (tuples_of (g.P.Pages.view l.fn.pages).held l.segment l.from);
}

abbrev pub decreases-loop-number : goal.decreases-loop-number
decreases-loop-number g l = (g.P.Pages.view l.pages).slots - l.from
