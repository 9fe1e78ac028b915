-- What a call commits, by its answer.
use Rattle.std.proofs.Common.{◌≡◌, refl, sym, ap}
use Rattle.std.specs.Prelude.{ℕ, Bool, true, false, if◌then◌else◌, Option, Some, None, unwrap_or, Ok, Err}
use Rattle.rss_base.specs.declared.call.Call.{Call}
use Rattle.rss_base.specs.declared.call.Call.TheVariants.{End}
use Rattle.rss_base.specs.declared.answer.Reply.TheVariants.{Ok as Done, Number}
use Rattle.rss_base.specs.declared.refusal.Refusal.{Refusal}
use Rattle.rss_model.specs.Tables.{Tables}
use Rattle.rss_model.specs.Machine.{State}
use Rattle.rss_model.specs.Defining.{defined}
use Rattle.rss_model.specs.Callers.{caller}
use Rattle.rss_model.specs.Scans.{Path}
use Rattle.rss_model.specs.Steps.{keeps_locks, left_by, locked_by, path_of}
use Rattle.rss_model.specs.Commits.{committed, MayCommit}

-- a call that is refused commits nothing
pub refused_commits : (old : State) (call : Call) (why : Refusal) → committed old call (Err why) ≡ old.base
refused_commits old (End t) why = refl
refused_commits old call why = refl

-- one that defines commits what it defines
pub defined_commits : (old : State) (call : Call) (next : Tables) → defined call old.base ≡ Some next → next ≡ committed old call (Ok Done)
defined_commits old (End t) next so = absurd (cc)
defined_commits old call next so = ap (λ (tables : Option Tables). unwrap_or tables old.base) (sym so)

pub defines_may : (call : Call) (before next : Tables) → defined call before ≡ Some next → MayCommit call
defines_may (End t) before next so = tt
defines_may call before next so = cc

-- ---- steps that leave what is committed

pub locked_base : (by : Option ℕ) (call : Call) (old : State) → (locked_by by call old).base ≡ old.base
locked_base None call old = refl
locked_base (Some t) call old = refl

pub locked_size : (by : Option ℕ) (call : Call) (old : State) → (locked_by by call old).size ≡ old.size
locked_size None call old = refl
locked_size (Some t) call old = refl

either : (keeps : Bool) (by : Option ℕ) (call : Call) (old : State) → (if keeps then locked_by by call old else old).base ≡ old.base
either true by call old = locked_base by call old
either false by call old = refl

pub left_base : (old : State) (call : Call) (why : Refusal) → (left_by old call why).base ≡ old.base
left_base old call why = either (keeps_locks why) (caller call) call old

-- a call that opens a scan commits nothing
pub opened_commits : (old : State) (call : Call) (path : Path) (number : ℕ) → path_of call ≡ Some path → old.base ≡ committed old call (Ok (Number number))
opened_commits old (End t) path number is = refl
opened_commits old call path number is = refl
