use Rattle.std.proofs.Common.{◌≡◌, sym, ◌∙◌, ap, arith}
use Rattle.std.specs.Prelude.{Some}
use Rattle.rss_base.specs.declared.refusal.Refusal.TheVariants.{LogFull}
use Rattle.rss_trans.specs.declared.sums.Sums.{Sums}
use Rattle.rss_session.specs.Parts.{view}
use Rattle.rss_session.specs.Sessions.{owed_by, owed_for}
use Rattle.rss_session.specs.Weighing.{saved_free}
use Rattle.rss_session.proofs.Lines.{log_full_line}
use Rattle.rss_session.proofs.Weighed.{may_save, may_not_save}
use Rattle.rss_session.proofs.session.Session.test_checkpoint.Goals as goal

pub returns-then-needed-free-clause-tests : goal.returns-then-needed-free-clause-tests
returns-then-needed-free-clause-tests g c =
    let now = view g.S.Pages.view c.args.self.now in
    let owed : c.owed_for-needed.result ≡ owed_by now.opened = c.owed_for-needed.ensures ∙ ap (λ (s : Sums). owed_for s.p s.q) c.sums-sums.ensures in
    let free : c.saved_free-free.result ≡ saved_free now = c.saved_free-free.ensures in (
      λ told state shows. may_not_save c.requires.ready shows (omega (arith, c.if-needed-free.true, free, owed)) ∙ sym (λ i. Some (LogFull (free i) (owed i))),
      log_full_line c.saved_free-free.result c.owed_for-needed.result (omega arith) (omega arith),
    )

pub returns-clause-may : goal.returns-clause-may
returns-clause-may g c = omega (arith, c.if-needed-free.false, c.saved_free-free.ensures, c.owed_for-needed.ensures, ap (λ (s : Sums). s.p) c.sums-sums.ensures, ap (λ (s : Sums). s.q) c.sums-sums.ensures)

pub returns-clause-tests : goal.returns-clause-tests
returns-clause-tests g c = λ told state shows. may_save c.requires.ready shows (returns-clause-may g c)
