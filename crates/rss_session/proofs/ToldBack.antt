-- That the log tells of each change that may be taken back.
use Rattle.std.proofs.Common.{◌≡◌, ℕ, zero, suc, ◌+◌, ◌<◌, List, [], ◌∷◌, ◌++◌, length, get_or, ◌∙◌, ap, subst, arith}
use Rattle.std.specs.Prelude.{Contains}
use Rattle.std.proofs.lemmas.List.{map-append}
use Rattle.rss_base.specs.LogRecords.{BeginsWith, Placed, record_size}
use Rattle.rss_base.specs.declared.log_record.LogRecord.TheVariants as records
use Rattle.rss_log.specs.Logs.{HasRecords, bytes_from}
use Rattle.rss_log.proofs.LogViews.{listed}
use Rattle.rss_model.specs.EngineLogs.{EngineLog, all_logged}
use Rattle.rss_stored.specs.LogLaws.{TakesBack}
use Rattle.rss_model.specs.Machine.{State}
use Rattle.rss_model.specs.Meanings.{Logged, as_bytes}
use Rattle.rss_model.specs.Records.{Changed}
use Rattle.rss_stored.proofs.LogTurning.{changes_turn_back}
use Rattle.rss_restart.specs.Walks.{TellsAt}
use Rattle.rss_store.specs.Changing.{IsOwnAt}
use Rattle.rss_store.specs.Shown.{HoldsLogged, ShowsBack}
use Rattle.rss_store.specs.Stores.{StoreView}
use Rattle.rss_store.proofs.Ways.{stands}

-- ---- a record that is listed begins at its position

-- what stands before it, and behind it
parts_at : {A : Type 0} (xs : List A) (k : ℕ) (x : A) → k < length xs → get_or xs k x ≡ x → (front : List A) × ((behind : List A) × (xs ≡ front ++ x ∷ behind))
parts_at [] k x low is = absurd (omega (arith, low))
parts_at {A = A} (y ∷ ys) zero x low is = ([], (ys, ap (λ (z : A). z ∷ ys) is))
parts_at {A = A} (y ∷ ys) (suc k) x low is = let rest = parts_at ys k x (omega (arith, low)) is in (y ∷ rest.0, (rest.1.0, ap (λ (l : List A). y ∷ l) rest.1.1))

begins_there : {view : StoreView} {log : EngineLog} (l : Logged) → HoldsLogged view log → Contains (all_logged log) l → BeginsWith (bytes_from view.log l.at) l.told (bytes_from view.log (l.at + record_size l.told))
begins_there {view = view} {log = log} l logged there =
    let parts = parts_at (all_logged log) there.0 l there.1 there.2 in
    let placed : Logged → Placed = λ k. record { at = k.at; is = k.told } in
    listed view.log (as_bytes parts.0) (as_bytes parts.1.0) (placed l) (subst (HasRecords view.log) (ap as_bytes parts.1.1 ∙ map-append placed parts.0 (l ∷ parts.1.0)) logged.records)

-- ---- what may be taken back

-- what it is, as the log tells it
pub turned_back : (view : StoreView) (state : State) (t n position : ℕ) → IsOwnAt state t n position → (way : ShowsBack view state t (n + 1)) → TakesBack way.shows.stored.listing way.shows.log state t n position
turned_back view state t n position own way =
    let shown = way.shows in
    changes_turn_back shown.stored.listing shown.stored.saved shown.log state t n position shown.tied.ties (stands shown.tied.ties own)

pub tells_back : (view : StoreView) (state : State) (t n position : ℕ) (own : IsOwnAt state t n position) (way : ShowsBack view state t (n + 1)) → TellsAt view.log position (turned_back view state t n position own way).told_change
tells_back view state t n position own way =
    let shown = way.shows in
    let back = turned_back view state t n position own way in
    record {
      by = t;
      rest = _;
      begins = begins_there (record { at = position; told = records.Change t back.told_change; is = Changed back.change }) shown.logged back.there;
    }
