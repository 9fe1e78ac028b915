-- The entries of the pages before this one were read, and a page was looked at for each.
use Rattle.std.proofs.Common.{Ok}
use Rattle.rss_base.specs.Steps.{no_page}
use Rattle.rss_base.specs.Looking.{ChecksPages}
use Rattle.rss_catalog.specs.Loading.{LoadsEntries}
use Rattle.rss_catalog.proofs.loading.load_entries.Given as goal

abbrev pub invariant-loop-before : goal.invariant-loop-before
invariant-loop-before g l = record {
  loads : LoadsEntries g.E.Entry.form l.first l.before (g.P.Pages.view l.fn.pages) l.entries.items l.fn.right l.right;
  did : ChecksPages {T = Unit {0}} no_page l.before (g.P.Pages.view l.fn.pages) (g.P.Pages.view l.pages) (Ok tt);
}
