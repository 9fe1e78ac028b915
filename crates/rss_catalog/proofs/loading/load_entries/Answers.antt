-- A page more is read, as it was at the first look, and the entries of all pages are loaded at the end.
use Rattle.std.proofs.Common.{◌≡◌, ℕ, Ok, subst, arith}
use Rattle.rss_base.proofs.Looking.{passed_on, checks_none}
use Rattle.rss_catalog.specs.Loading.{LoadsEntries}
use Rattle.rss_catalog.proofs.PagesRead.{looked, looked_back, unread_after, there_after, adds_after, entries_none, loads_more, checks_more, checks_ends, no_fault}
use Rattle.rss_catalog.proofs.loading.load_entries.Goals as goal

pub loop-before-init : goal.loop-before-init
loop-before-init g c = record {
  loads = entries_none g.E.Entry.form c.args.first _ _ _ c.in-Ok.ensures.items c.requires.before;
  did = checks_none _ (Ok tt) (λ is. absurd (no_fault tt is));
}

pub load_entry_page-requires-clause-mapped : goal.load_entry_page-requires-clause-mapped
load_entry_page-requires-clause-mapped g c = there_after (looked c.loop-before.invariant.did) c.requires.mapped

pub returns-in_err-is_right-clause-unread : goal.returns-in_err-is_right-clause-unread
returns-in_err-is_right-clause-unread g c = λ place is. unread_after (looked_back (looked c.loop-before.invariant.did)) (c.in_err-is_right.ensures.unread place (passed_on _ c.from_residual.ensures.1 is))

pub returns-in_err-is_right-clause-did : goal.returns-in_err-is_right-clause-did
returns-in_err-is_right-clause-did g c = checks_ends _ (omega arith) (passed_on _ c.from_residual.ensures.1) c.loop-before.invariant.did c.in_err-is_right.ensures.did

pub loop-before-preserved : goal.loop-before-preserved
loop-before-preserved g c = record {
  loads = loads_more g.E.Entry.form c.args.first c.args.count c.loop-before.before _ _ _ _ _ _ _ c.requires.form c.loop-before-test.true c.requires.before c.loop-before.invariant.loads (adds_after (looked_back (looked c.loop-before.invariant.did)) c.in_ok-is_right.ensures.loads) c.with_page.ensures;
  did = checks_more (omega arith) c.loop-before.invariant.did c.in_ok-is_right.ensures.did;
}

pub returns-clause-loads : goal.returns-clause-loads
returns-clause-loads g c =
    let all : c.loop-before.before ≡ c.args.count = omega arith in
    subst (λ (n : ℕ). LoadsEntries g.E.Entry.form c.args.first n (g.P.Pages.view c.args.pages.now) c.loop-before.entries.items c.args.right.now c.loop-before.right) all c.loop-before.invariant.loads
