-- A fetch, by what was found.
use Rattle.std.proofs.Common.{[], ◌≡◌, ℕ, ◌+◌, List, refl, sym, ◌∙◌, ap, subst, arith}
use Rattle.std.specs.Prelude.{None, Ok, is_some}
use Rattle.rss_base.specs.declared.answer.Reply.TheVariants.{Tuple as TupleReply}
use Rattle.rss_base.specs.declared.call.Call.TheVariants.{Fetch}
use Rattle.rss_base.specs.declared.name.Name.{Name}
use Rattle.rss_base.specs.declared.need.Need.{Need}
use Rattle.rss_base.specs.declared.tid.Tid.{Tid}
use Rattle.rss_base.specs.declared.value.Value.{Value}
use Rattle.rss_stored.specs.Calls.{IsCallOf}
use Rattle.rss_model.specs.Locks.{granted}
use Rattle.rss_model.specs.Steps.{admission, locked}
use Rattle.rss_model.specs.Steps.StepBy.{fetches}
use Rattle.rss_stored.proofs.Endings.{comes_to}
use Rattle.rss_session.specs.Admissions.{Says}
use Rattle.rss_session.specs.Sessions.{SessionView}
use Rattle.rss_rsi.specs.Views.{RssParts, engine_view}
use Rattle.rss_rsi.specs.Looking.{LooksFor, LooksUp, FindsHeld}
use Rattle.rss_rsi.specs.declared.locking.Access.TheVariants.{Read}
use Rattle.rss_rsi.proofs.Claims.{free_as, locked_as}
use Rattle.rss_rsi.proofs.Looks.{goes_looked}
use Rattle.rss_rsi.proofs.TupleTests.{fetch_busy, fetch_lacks, fetch_passes}
use Rattle.rss_rsi.proofs.Spelled.{still_scans}
use Rattle.rss_rsi.proofs.Ways.{shows_locked, answers, leads_by}

module _ (parts : RssParts) (t : ℕ) (relation : Name) (tid : Tid) (admitted : Says parts.session (λ state. admission state t relation) None) where
  -- it looks for its tuple first
  pub fetch_looks : LooksFor parts t relation tid Read [] (Fetch t relation tid)
  fetch_looks = record {
    may = record { stop = record { names = tt; granule = tt; memory = refl }; asks = omega arith; writes = omega arith };
    by = refl;
    needs_are = λ state is_in. refl;
    busy_so = λ told state is_in bar. fetch_busy state t relation tid (admitted told state is_in.shows) bar;
    lacks = λ told state is_in. fetch_lacks state t relation tid (admitted told state is_in.shows);
  }

  -- and gives what is found, whose locks it holds then
  pub fetch_gives : {mid new : RssParts} {number n m : ℕ} {values : List Value} {list : List Need} {up up_now : Type 0} → FindsHeld parts mid t number relation tid Read [] values list
      → new.session ≡ mid.session → new.locks.locks ≡ granted t list mid.locks.locks → new.scans ≡ parts.scans → up → up_now → m ≡ n + 1
      → IsCallOf (engine_view parts n up) (engine_view new m up_now) (Fetch t relation tid) (Ok (TupleReply values))
  fetch_gives {new = new} {values = values} {list = list} found same taken scans was_up is_up calls =
      let looked = subst (λ (session : SessionView). LooksUp parts.session session values) (sym same) found.looked in
      comes_to was_up (goes_looked {new = new} looked.looks looked.costs fetch_looks.may calls) (answers is_up found.finds.short (λ told state is_in. tt) (λ told state is_in.
      let has = found.finds.has told state is_in in
      let listed = found.lists told state is_in in
      leads_by (locked (Fetch t relation tid) state) looked.looks.moments told is_in
      (fetches t relation tid values (fetch_passes state t relation tid (admitted told state is_in.shows) (free_as is_in (Fetch t relation tid) listed found.claimed) (ap is_some has)) has)
      (shows_locked _ (looked.looks.shows told state is_in.shows))
      (locked_as is_in (Fetch t relation tid) listed t refl ∙ ap (granted t list) (sym found.claimed.same) ∙ sym taken)
      (still_scans scans refl is_in.scanned)))
