-- A page that was read and compared is one more page of entries.
use Rattle.rss_base.proofs.Looking.{passed_on}
use Rattle.rss_catalog.proofs.PagesRead.{seen}
use Rattle.rss_catalog.proofs.loading.load_entry_page.Goals as goal

pub returns-in_err-load_page-clause-unread : goal.returns-in_err-load_page-clause-unread
returns-in_err-load_page-clause-unread g c = λ place is. c.in_err-load_page.ensures.unread place (passed_on _ c.from_residual.ensures.1 is)

pub returns-in-Ok-clause-loads : goal.returns-in-Ok-clause-loads
returns-in-Ok-clause-loads g c = record {
  bytes = c.loaded.result.now;
  has = seen c.args.number _ _ c.in_ok-load_page.ensures.did (c.requires.mapped c.args.number c.requires.within) c.key_of.ensures c.loaded.ensures;
  added = c.in-Ok.ensures.read;
  formed = c.in-Ok.ensures.formed;
}
