use Rattle.std.proofs.Common.{◌≡◌, length}
use Rattle.std.specs.Prelude.{flat_map}
use Rattle.std.specs.List.{range_with_len}
use Rattle.rss_base.specs.DiskRule.{IsTold}
use Rattle.rss_base.specs.Steps.{no_page}
use Rattle.rss_tuple.specs.Directory.{homes, overflows}
use Rattle.rss_base.specs.Looking.{LooksStep}
use Rattle.rss_tuple.specs.Checked.{row_at}
use Rattle.rss_tuple.specs.Looks.{Sees, in_front, AreSeen}
use Rattle.rss_tuple.proofs.checking.look_at_home.Given as goal

abbrev pub invariant-loop-slot : goal.invariant-loop-slot
invariant-loop-slot g l = record {
  looks : LooksStep no_page l.slot (g.P.Pages.view l.initial.pages) (g.P.Pages.view l.pages);
  size : length l.led ≡ (g.P.Pages.view l.initial.pages).slots;
  seen : IsTold (g.P.Pages.view l.fn.pages).disk → AreSeen (homes (g.P.Pages.view l.fn.pages).held l.segment) (overflows (g.P.Pages.view l.fn.pages).held l.segment) (g.V.Visitor.is_good l.fn.visitor) l.led (in_front l.number l.slot);
  shown : IsTold (g.P.Pages.view l.fn.pages).disk → Sees g.V.Visitor.is_good g.V.Visitor.saw l.fn.visitor l.visitor (flat_map (row_at (g.P.Pages.view l.fn.pages).held l.segment l.number) (range_with_len 0 l.slot));
}
