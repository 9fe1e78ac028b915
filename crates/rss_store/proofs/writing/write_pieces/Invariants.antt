use Rattle.std.proofs.Common.{◌≡◌, ◌≢◌, ◌+◌, ◌-◌, ◌/◌, ◌≤◌}
use Rattle.rss_base.specs.DiskRule.{Told, WritesIn}
use Rattle.rss_base.specs.Sizes.{piece_bytes}
use Rattle.rss_base.specs.Layout.{log_at}
use Rattle.rss_base.specs.LogPages.{IsNewPiece}
use Rattle.rss_buffer.specs.Saving.{SavingStep}
use Rattle.rss_buffer.specs.declared.stage.Stage.TheVariants.{Switched}
use Rattle.rss_store.specs.Selecting.{HoldsPiecesWithin}
use Rattle.rss_store.proofs.writing.write_pieces.Given as goal

abbrev pub invariant-loop-number : goal.invariant-loop-number
invariant-loop-number g l = record {
  first : l.first ≡ log_at l.root.slots;
  ring : l.ring ≡ l.root.log_pages;
  low : l.root.end / piece_bytes ≤ l.number;
  written : Told (g.S.Pages.view l.pages).disk (HoldsPiecesWithin l.root l.log l.number);
  only : WritesIn (IsNewPiece l.root l.log.end) (g.S.Pages.view l.initial.pages).disk (g.S.Pages.view l.pages).disk;
  stage : (g.S.Saving.saving l.initial.pages).stage ≢ Switched → (g.S.Saving.saving l.pages).stage ≡ (g.S.Saving.saving l.initial.pages).stage;
  backing : (g.S.Pages.view l.pages).backing ≡ (g.S.Pages.view l.initial.pages).backing;
  writes : (g.S.Pages.view l.pages).writes ≤ (g.S.Pages.view l.initial.pages).writes + (l.number - l.root.end / piece_bytes);
  did : SavingStep (g.S.Pages.view l.initial.pages) (g.S.Pages.view l.pages) (g.S.Saving.saving l.initial.pages) (g.S.Saving.saving l.pages);
}
