-- The pages before this one are there.
use Rattle.std.proofs.Common.{◌≡◌, ℕ, ◌<◌, true}
use Rattle.rss_base.specs.Paged.{page_key}
use Rattle.rss_base.specs.declared.key.Space.TheVariants.{System}
use Rattle.rss_catalog.proofs.loading.first_unmapped.Given as goal

abbrev pub invariant-loop-number : goal.invariant-loop-number
invariant-loop-number g l = (p : ℕ) → p < l.number → (g.P.Pages.view l.pages).mapped (page_key 0 System p) ≡ true
