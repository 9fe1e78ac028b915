-- No image that was passed has the key for another tuple.
use Rattle.std.specs.Prelude.{Ok, ⊤}
use Rattle.rss_session.specs.Looks.{LooksOn}
use Rattle.rss_session.specs.Parts.{view}
use Rattle.rss_session.proofs.Duplicates.{NonePassed}
use Rattle.rss_session.proofs.session.Session.find_duplicate.Given as goal

abbrev pub invariant-loop-place : goal.invariant-loop-place
invariant-loop-place g l = record {
  looks : LooksOn {T = ⊤} (view g.S.Pages.view l.fn.self) (view g.S.Pages.view l.self) (Ok tt);
  none : NonePassed (view g.S.Pages.view l.fn.self) l.number l.values l.own l._place l.after;
}
