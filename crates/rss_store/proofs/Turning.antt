-- A change that is taken back: what is shown with one change of a transaction less.
use Rattle.std.proofs.Common.{◌≡◌, inl, inr, ℕ, zero, suc, ◌+◌, ◌<◌, List, [], ◌∷◌, ◌++◌, length, refl, sym, ◌∙◌, ap, subst, arith}
use Rattle.std.specs.Prelude.{map, slice_index_or, Contains, Result, Ok, Err, OnOk}
use Rattle.rss_base.specs.DiskRule.{IsTold}
use Rattle.rss_base.specs.LogRecords.{ArePlaced, BeginsWith, record_size}
use Rattle.rss_base.specs.Paged.{mapped_of}
use Rattle.rss_base.specs.Steps.{AreCounted}
use Rattle.rss_base.specs.declared.change.Change as told
use Rattle.rss_base.specs.declared.fault.PageFault.{PageFault}
use Rattle.rss_base.specs.declared.key.Space.TheVariants.{Overflow}
use Rattle.rss_base.specs.declared.log_record.LogRecord.TheVariants as records
use Rattle.rss_base.specs.declared.root.Root.{Root}
use Rattle.rss_log.specs.Logs.{LogView, HasRecords, bytes_from}
use Rattle.rss_log.proofs.LogViews.{listed}
use Rattle.rss_model.specs.Tables.{Contents, Tables}
use Rattle.rss_model.specs.Changes.{Change, maker, kept_to, undo, undone}
use Rattle.rss_model.specs.Fits.{Fits}
use Rattle.rss_model.specs.Machine.{State, with_changes, now}
use Rattle.rss_model.specs.Meanings.{Logged, as_bytes}
use Rattle.rss_model.specs.Meter.{MayLead}
use Rattle.rss_model.specs.Records.{Changed}
use Rattle.rss_model.specs.Steps.{MayUndo}
use Rattle.rss_model.specs.Spares.{change_counts, page_counts, IsInSession}
use Rattle.rss_model.specs.EngineLogs.{EngineLog, all_logged}
use Rattle.rss_stored.specs.LogLaws.{IsToldBy, ChangesTurnBack, TakesBack}
use Rattle.rss_stored.specs.Store.{SpellsTables}
use Rattle.rss_model.proofs.Mixing.{In}
use Rattle.rss_model.proofs.Sparing.{session_goes_back}
use Rattle.rss_access.proofs.Altering.{alters_leads}
use Rattle.rss_access.specs.Told.{reversed, turned}
use Rattle.rss_access.specs.Changes.{taken_back, CanUndo, NoneUndoes, Undoes, Makes}
use Rattle.rss_access.proofs.Telling.{can_turned}
use Rattle.rss_restart.specs.Walks.{TellsAt}
use Rattle.rss_restart.proofs.Moving.{told_once}
use Rattle.rss_store.specs.Changing.{access, IsOwnAt, TakesBackOne}
use Rattle.rss_store.specs.Shown.{HoldsLogged, ShowsWith, ShowsBack}
use Rattle.rss_store.specs.Stores.{StoreView, IsReady}
use Rattle.rss_store.proofs.Definitions.{told_same}
use Rattle.rss_store.proofs.Altered.{leaves_made, written_made, definitions_made, two_made}
use Rattle.rss_store.proofs.Making.{slots_shown}
use Rattle.rss_store.proofs.Ways.{stands, one_less, cut_undone, undoes_more}

-- ---- a record that is listed begins at its position

in_contained : {A : Type 0} (xs : List A) (x : A) → Contains xs x → In x xs
in_contained {A = A} xs x there = by xs there.0 there.1 there.2
  where
    by : (xs : List A) (k : ℕ) → k < length xs → slice_index_or xs k x ≡ x → In x xs
    by [] k low is = absurd (omega (arith, low))
    by (y ∷ ys) zero low is = inl is
    by (y ∷ ys) (suc k) low is = inr (by ys k (omega (arith, low)) is)

in_mapped : {A B : Type 0} (f : A → B) (xs : List A) (x : A) → In x xs → In (f x) (map f xs)
in_mapped f [] x is = absurd is
in_mapped f (y ∷ ys) x (inl is) = inl (ap f is)
in_mapped f (y ∷ ys) x (inr is) = inr (in_mapped f ys x is)

in_parts : {A : Type 0} (xs : List A) (x : A) → In x xs → (front : List A) × ((behind : List A) × (xs ≡ front ++ x ∷ behind))
in_parts [] x is = absurd is
in_parts {A = A} (y ∷ ys) x (inl is) = ([], (ys, ap (λ (k : A). k ∷ ys) is))
in_parts {A = A} (y ∷ ys) x (inr is) = let rest = in_parts ys x is in (y ∷ rest.0, (rest.1.0, ap (λ (l : List A). y ∷ l) rest.1.1))

begins_there : {view : StoreView} {log : EngineLog} (l : Logged) → HoldsLogged view log → Contains (all_logged log) l → BeginsWith (bytes_from view.log l.at) l.told (bytes_from view.log (l.at + record_size l.told))
begins_there {view = view} {log = log} l logged there =
    let parts = in_parts (as_bytes (all_logged log)) (record { at = l.at; is = l.told }) (in_mapped (λ (k : Logged). record { at = k.at; is = k.told }) (all_logged log) l (in_contained (all_logged log) l there)) in
    listed view.log parts.0 parts.1.0 (record { at = l.at; is = l.told }) (subst (HasRecords view.log) parts.1.1 logged.records)

-- ---- what may be taken back

module _ {old : StoreView} (turns : ChangesTurnBack) (ready : IsReady old) (state : State) (t n position : ℕ) (own : IsOwnAt state t n position) (way : ShowsBack old state t (n + 1)) where
  abbrev shown : ShowsWith old state (kept_to maker t (n + 1) state.changes) way.over
  shown = way.shows

  abbrev tables : Tables
  tables = with_changes state.base (kept_to maker t (n + 1) state.changes)

  back : TakesBack shown.stored.listing shown.log state t n position
  back = turns shown.stored.listing shown.stored.saved shown.log state t n position shown.tied.ties (stands shown.tied.ties own)

  told_now : IsToldBy old.catalog.listing back.told_change back.change
  told_now = told_same shown.definitions back.told

  -- its record begins there
  begins : BeginsWith (bytes_from old.log position) (records.Change t back.told_change) (bytes_from old.log (position + record_size (records.Change t back.told_change)))
  begins = begins_there (record { at = position; told = records.Change t back.told_change; is = Changed back.change }) shown.logged back.there

  tells : TellsAt old.log position back.told_change
  tells = record { by = t; rest = _; begins = begins }

  same_leaves : taken_back tables back.change ≡ with_changes state.base (kept_to maker t n state.changes)
  same_leaves = ap (λ (c : Contents). record state.base { contents = c }) back.leaves

  can_take_back : CanUndo (access old) back.told_change tables back.change
  can_take_back = record {
    spells = shown.spells;
    tells = record { maker = refl; item = told_now.tells.item };
    means = told_now.means;
    holds = back.finds;
    fit = subst (λ (slots : ℕ). Fits slots tables) (slots_shown ready shown) back.fits;
    fit_next = subst (Fits old.pages.slots) (sym same_leaves) (subst (λ (slots : ℕ). Fits slots (with_changes state.base (kept_to maker t n state.changes))) (slots_shown ready shown) back.fits_then);
  }

  -- ---- what can't be so

  pub may_be_undone : {found : told.Change} → TellsAt old.log position found → NoneUndoes found (access old) → ⊥
  may_be_undone found none = none tables back.change (subst (λ (c : told.Change). CanUndo (access old) c tables back.change) (told_once tells found) can_take_back)

  -- ---- what follows

  module _ {T : Type 0} (new : StoreView) {value : T} {found : told.Change} (tells_found : TellsAt old.log position found) (made : Makes (reversed found) (access old) (access new) (Ok value)) (undoes_found : Undoes found (access old) (access new))
      (root : new.root ≡ old.root) (number : new.number ≡ old.number) (same_log : new.log ≡ old.log) (counted : AreCounted new.pages) (on : IsTold old.pages.disk) where
    abbrev over : ℕ
    over = mapped_of new.pages.mapped Overflow new.pages.slots

    same : found ≡ back.told_change
    same = told_once tells_found tells

    makes : Makes (reversed back.told_change) (access old) (access new) (Ok value)
    makes = subst (λ (c : told.Change). Makes (reversed c) (access old) (access new) (Ok value)) same made

    undoes : Undoes back.told_change (access old) (access new)
    undoes = subst (λ (c : told.Change). Undoes c (access old) (access new)) same undoes_found

    fewer : length (kept_to maker t (n + 1) state.changes) ≡ length (kept_to maker t n state.changes) + 1
    fewer = one_less t n state.changes back.change back.last

    lead : MayLead tables (taken_back tables back.change) back.change.item way.over over
    lead = subst (λ (before : ℕ). MayLead tables (taken_back tables back.change) back.change.item before over) (sym shown.over_is)
        (alters_leads (access old) (access new) (reversed back.told_change) makes.step makes.alters on tables (turned back.change) (can_turned can_take_back))

    pub takes_one : ShowsBack new state t n
    takes_one = record {
      over = over;
      shows = record {
        log = shown.log;
        stored = shown.stored;
        disk = leaves_made old new makes root on number ready.settled_now shown.disk;
        tied = shown.tied;
        logged = record {
          head_is = ap (λ (l : LogView). l.head) same_log ∙ shown.logged.head_is;
          end_is = ap (λ (l : LogView). l.end) same_log ∙ shown.logged.end_is;
          records = subst (λ (l : LogView). HasRecords l (as_bytes (all_logged shown.log))) (sym same_log) shown.logged.records;
          until = subst (λ (r : Root). ArePlaced shown.log.head (as_bytes (shown.log.older ++ shown.log.written)) r.end) (sym root) shown.logged.until;
        };
        definitions = definitions_made old new makes root shown.definitions;
        spells = subst (SpellsTables new.pages.held new.catalog.listing) same_leaves (undoes on tables back.change can_take_back);
        written = written_made old new makes root on ready shown.written;
        heap = shown.heap;
        session = session_goes_back (change_counts state.base.definitions state.meter) (length (kept_to maker t n state.changes)) (page_counts old.pages) (page_counts new.pages)
            (subst (λ (count : ℕ). IsInSession (change_counts state.base.definitions state.meter) count (page_counts old.pages)) fewer shown.session) (two_made old new makes root ready counted);
        over_is = refl;
      };
      way = subst (λ (cs : List Change). MayUndo (now state) cs state.meter.over over) (sym back.last)
          (undoes_more back.change way.way (subst (λ (c : Contents). MayLead (record (now state) { contents = c }) (record (now state) { contents = undo c back.change }) back.change.item way.over over) (sym (cut_undone t (n + 1) shown.tied.ties)) lead));
    }

-- by the result
pub takes_by : {T : Type 0} {found : told.Change} (old new : StoreView) (position : ℕ) (result : Result T PageFault) → ChangesTurnBack → IsReady old → TellsAt old.log position found → Makes (reversed found) (access old) (access new) result → OnOk result (Undoes found (access old) (access new))
    → new.root ≡ old.root → new.number ≡ old.number → new.log ≡ old.log → AreCounted new.pages → OnOk result (IsTold old.pages.disk → TakesBackOne old new position)
takes_by old new position (Ok value) turns ready found made undone root number log counted = λ told state t n own way. takes_one turns ready state t n position own way new found made undone root number log counted told
takes_by old new position (Err fault) turns ready found made undone root number log counted = tt
