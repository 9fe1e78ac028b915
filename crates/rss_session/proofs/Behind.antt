-- Looks one behind the other, and by other results.
use Rattle.std.proofs.Common.{◌≡◌, ◌∙◌, ℕ, refl, sym, ap, subst, arith}
use Rattle.std.specs.Prelude.{Result, Ok, Err, IsErrAnd}
use Rattle.std.proofs.lemmas.Result.{err_from_is_err_and}
use Rattle.rss_base.specs.declared.fault.PageFault.{PageFault}
use Rattle.rss_base.specs.Steps.{PagesStep, no_page}
use Rattle.rss_base.proofs.Moments.{started, then}
use Rattle.rss_base.proofs.Steps.{idle_rests, idle_then, still_in_memory}
use Rattle.rss_session.specs.Looks.{LooksOn, CostsNothing}
use Rattle.rss_session.specs.Sessions.{SessionView, IsReady}
use Rattle.rss_session.proofs.Passing.{goes_opened, goes_then}

-- it gives something else
pub looks_as : {T U : Type 0} {old new : SessionView} {found : T} (given : U) → LooksOn old new (Ok found) → LooksOn old new (Ok given)
looks_as given looks = record {
  ready = looks.ready;
  shows = looks.shows;
  catalog = looks.catalog;
  log = looks.log;
  opened = looks.opened;
  sound = λ place is. absurd (cc (is));
  moments = looks.moments;
  goes = record {
    told = looks.goes.told;
    history = looks.goes.history;
    later = looks.goes.later;
    failed = λ is. absurd (cc (is));
    memory = λ is. cc (is);
    slots = looks.goes.slots;
    log_pages = looks.goes.log_pages;
    frames = looks.goes.frames;
    saves = looks.goes.saves;
    unsaved = looks.goes.unsaved;
  };
}

-- nothing was looked at
pub looks_itself : {T : Type 0} {session : SessionView} (found : T) → IsReady session → LooksOn session session (Ok found)
looks_itself {session = session} found ready = record {
  ready = ready;
  shows = λ told state shows. shows;
  catalog = refl;
  log = refl;
  opened = refl;
  sound = λ place is. absurd (cc (is));
  moments = λ told state kept shows. started session.store.pages.disk _;
  goes = goes_opened {opened = session.opened} found (λ t. omega arith);
}

-- a second one behind the first
pub looks_then : {T U : Type 0} {old mid new : SessionView} {found : T} {result : Result U PageFault} → LooksOn old mid (Ok found) → LooksOn mid new result → LooksOn old new result
looks_then one two = record {
  ready = two.ready;
  shows = λ told state shows. two.shows (one.goes.told.0 told) state (one.shows told state shows);
  catalog = two.catalog ∙ one.catalog;
  log = two.log ∙ one.log;
  opened = two.opened ∙ one.opened;
  sound = λ place is told. two.sound place is (one.goes.told.0 told);
  moments = λ told state kept shows. then (one.moments told state kept shows) (two.moments (one.goes.told.0 told) state kept (one.shows told state shows)) (λ image holds. holds);
  goes = goes_then one.goes two.goes;
}

-- ---- where all pages are in memory

pub costs_nothing : {asks outs : ℕ} {old new : SessionView} → PagesStep no_page asks outs old.store.pages new.store.pages → CostsNothing old new
costs_nothing step = record {
  idle = step.idle (λ key none. none);
  still = λ are. still_in_memory step (λ key none. none) are (step.idle (λ key none. none) are);
}

pub nothing_itself : (session : SessionView) → CostsNothing session session
nothing_itself session = record { idle = λ are. idle_rests session.store.pages; still = λ are. are }

pub nothing_then : {old mid new : SessionView} → CostsNothing old mid → CostsNothing mid new → CostsNothing old new
nothing_then one two = record {
  idle = λ are. idle_then (one.idle are) (two.idle (one.still are));
  still = λ are. two.still (one.still are);
}

-- ---- looks by other results

-- the fault of one is passed on
fails_as : {T U : Type 0} {old new : SessionView} {fault : PageFault} → LooksOn {T = T} old new (Err fault) → LooksOn {T = U} old new (Err fault)
fails_as {T = T} {U = U} {fault = fault} looks = record {
  ready = tt;
  shows = looks.shows;
  catalog = looks.catalog;
  log = looks.log;
  opened = looks.opened;
  sound = λ place is. looks.sound place (same is);
  moments = looks.moments;
  goes = record {
    told = looks.goes.told;
    history = looks.goes.history;
    later = looks.goes.later;
    failed = λ is. looks.goes.failed (same is);
    memory = λ is. looks.goes.memory (same is);
    slots = looks.goes.slots;
    log_pages = looks.goes.log_pages;
    frames = looks.goes.frames;
    saves = looks.goes.saves;
    unsaved = looks.goes.unsaved;
  };
}
  where
    same : {other : PageFault} → ◌≡◌ {A = Result U PageFault} (Err fault) (Err other) → ◌≡◌ {A = Result T PageFault} (Err fault) (Err other)
    same {other = other} is = let one : fault ≡ other = cc (is) in ap Err one

pub looks_failed : {T U : Type 0} {old new : SessionView} {fault : PageFault} (result : Result U PageFault) → IsErrAnd result (λ why. why ≡ fault) → LooksOn {T = T} old new (Err fault) → LooksOn old new result
looks_failed {old = old} {new = new} result is looks =
    let why = err_from_is_err_and result is in
    subst (LooksOn old new) (sym (why.1 ∙ ap Err why.2)) (fails_as looks)
