-- What there is to see of a session.
use Rattle.std.specs.Prelude.{slice_index}
use Rattle.rss_base.specs.Steps.{PagesView}
use Rattle.rss_store.specs.Parts.{view as store_view}
use Rattle.rss_trans.specs.Tables.{told}
use Rattle.rss_session.specs.Sessions.{SessionView}
use Rattle.rss_session.specs.declared.session.Session.{Session}

-- over pages of which this is to be seen
abbrev pub view : {S : Type 0} → (S → PagesView) → Session S → SessionView
view pages_view session = record {
  store = store_view pages_view session.store;
  opened = told session.«open»;
  heap = session.heap;
  surviving = session.surviving;
  entries = λ number. slice_index session.entries number;
  survived = λ number. slice_index session.survived number;
}
