-- The opening of a device for a run, and its refusal.
use Rattle.std.proofs.Common.{◌≡◌, ◌⊎◌, inl, inr, ℕ, List, [], Some, refl, sym, ◌∙◌, ap, subst, arith}
use Rattle.rss_base.specs.DiskRule.{Disk, Pages, Told, IsTold, Leaves, Passes, Continues}
use Rattle.rss_base.specs.Devices.{DeviceView, OnlyReads}
use Rattle.rss_base.proofs.Flows.{gives_none, some_none, some_then}
use Rattle.rss_base.specs.declared.place.Place.{Place}
use Rattle.rss_base.specs.declared.place.Place.TheVariants.{Room}
use Rattle.rss_base.specs.declared.fault.OpenFault.{OpenFault}
use Rattle.rss_base.specs.declared.fault.OpenFault.TheVariants.{Device as DeviceFailed, NotAStore as NotFit, Damaged as NoStore, NoMemory as LacksMemory}
use Rattle.std.specs.FinMap as map
use Rattle.rss_model.specs.Meter.{at_rest}
use Rattle.rss_model.specs.Tables.{Tables}
use Rattle.rss_model.specs.Machine.{StoreSize, State, IsAtRest}
use Rattle.rss_model.specs.ReplyText.{not_a_store_line, damaged_line}
use Rattle.rss_stored.specs.Store.{Stored, IsStore, OpensTo, OpensIn, IsOverfull, IsNoStore, overflow_pages, size_of}
use Rattle.rss_model.specs.Runs.{Turn, Run}
use Rattle.rss_model.specs.Serial.{serial, RunsSerially}
use Rattle.rss_model.proofs.Serially.{is_serial}
use Rattle.rss_stored.proofs.LogPlaced.{stores_fit}
use Rattle.rss_store.specs.Opening.{MayLeave as StoreLeaves, PassesOpening, IsHandedBack}
use Rattle.rss_rsi.specs.Opening.{BeginsIn, IsOpened}
use Rattle.rss_check.specs.Refused.{IsFoundAt}
use Rattle.rss_check.proofs.Refused.{found_once, found_none}
use Rattle.rss_base.specs.Streams.{Stream}
use Rattle.rss_top.specs.Run.{World, Window, Ended, EndedSerially, IsStop, IsFailedOpening, MayLeave, BeginsAt, ImagesAt, IsRun}
use Rattle.rss_top.specs.Run.IsRun.{unopened, opened}
use Rattle.rss_stored.specs.Calls.{EngineView}
use Rattle.rss_top.specs.Manners.{Manner, IsSound, first_stand}
use Rattle.rss_top.specs.Lines.{View, DriverView, IsScriptEnd, RunsScript, beginning, on, seen}
use Rattle.rss_top.specs.Says.{Says, TellsDamage}
use Rattle.rss_top.specs.Says.IsSaid.{said, unsaid}
use Rattle.rss_top.specs.Programs.{IsLeftAlone, IsRefusal, IsRefused, IsRunFrom, IsTurnedAway, IsRunEnd, IsFaultless, IsScriptRun}
use Rattle.rss_top.specs.Programs.IsRefusal.{says, fails}
use Rattle.rss_top.specs.declared.status.Status.{Status}
use Rattle.rss_top.specs.declared.status.Status.TheVariants.{Ok, ReadFault, WriteFault, DeviceFault, NotAStore, Damaged, NoMemory, TooLong}
use Rattle.rss_base.proofs.Moments.{rises_since, widened}
use Rattle.rss_top.proofs.Endings.{stop_is_cut, damaged_is_cut, layout_is_cut, taken_cut, not_too_long, by_said, said_is_cut, says_some, tells_no_damage, tells_damage}
use Rattle.rss_top.proofs.Stories.{played_is_run}

-- ---- the state in which a run begins

-- of a store's size and tables
as_state : (P : StoreSize → Tables → Type 0) {size : StoreSize} {tables : Tables} (state : State) → state.size ≡ size → state.base ≡ tables → P size tables → P state.size state.base
as_state P {tables = tables} state same_size committed is = subst (λ (t : Tables). P state.size t) (sym committed) (subst (λ (s : StoreSize). P s tables) (sym same_size) is)

-- of the size and the tables to which the pages open
as_opened : (P : StoreSize → Tables → Type 0) {pages : Pages} {size : StoreSize} {tables : Tables} (opens : OpensTo pages size tables) → P (size_of opens.stored.root) opens.stored.tables → P size tables
as_opened P {size = size} opens is = subst (λ (t : Tables). P size t) (sym opens.holds) (subst (λ (s : StoreSize). P s opens.stored.tables) (sym opens.same_size) is)

-- what a stop within the opening leaves, by the first state
leaves_at : (before : Disk) (stored : Stored) (first : State) → first.size ≡ size_of stored.root → first.base ≡ stored.tables → (image : Pages) → StoreLeaves before stored image → MayLeave before first image
leaves_at before stored first same_size committed image (inl left) = inl left
leaves_at before stored first same_size committed image (inr holds) = inr (as_state (OpensTo image) first same_size committed holds)

-- ---- the store is open

-- what a stop within the opening leaves, seen from a later device
opening_window : {before opened after : Disk} {P : Pages → Type 0} → Passes before opened P → Continues opened after → Window after before.moment opened.moment P
opening_window opening history = record { later = opening.later; each = λ t image lt le left. opening.each t image lt le ((history.past t image le).0 left) }

module _ {manner : Manner} {rate : ℕ} {settled : Type 0} {owed : ℕ} {device below : DeviceView} {engine : EngineView} {sink : Stream} {ended : View manner} {source_old source_new : Stream} {status : Status} (sound : IsSound manner)
    (opening : IsOpened device engine) (passes : PassesOpening device below) (leaves : (image : Pages) → Leaves below.disk image → Leaves engine.disk image)
    (ran : RunsScript rate (record { world = on below sink; shows = engine.shows; memory = manner.start; is_up = engine.is_up; is_settled = settled; calls = engine.calls; owed = owed }) ended source_old source_new status) (tells : TellsDamage status sink ended.world.sink) where
  module _ {pages : Pages} {stored : Stored} (told : device.disk.contents ≡ Some pages) (store : IsStore pages stored) where
    abbrev found : BeginsIn stored engine
    found = opening.begins pages told stored store

    end_at : Ended status (beginning manner (first_stand manner found.state) (on below sink) source_old) ended.world source_new.bytes
    end_at = ran.ended (passes.told (record { pages = pages; is = told })) found.state found.shows

    serially : (made : List Turn) (last : State) → Run found.state made last → RunsSerially found.state (serial made) last.base
    serially made last run =
        let stands : OpensTo pages (size_of stored.root) stored.tables = record { stored = stored; store = store; same_size = refl; holds = refl } in
        is_serial (size_of stored.root) stored.tables found.state last made found.rest.idle (stores_fit pages (size_of stored.root) stored.tables stands) run

    ended_serially : EndedSerially status (beginning manner (first_stand manner found.state) (on below sink) source_old) ended.world source_new.bytes
    ended_serially = record {
      ended = end_at;
      whole = λ is. serially _ _ (end_at.whole is).run;
      halted = λ is. serially _ _ (played_is_run sound (end_at.halted is).story.played);
      stopped = λ is. serially _ _ (played_is_run sound (end_at.stopped is).played);
    }

    begins_at : ImagesAt below.disk.moment ended.world.disk (BeginsAt found.state)
    begins_at image left =
        let history = ran.passes.history (passes.told (record { pages = pages; is = told })) in
        let opens = found.opens image (leaves image ((history.past below.disk.moment image (omega arith)).0 left)) in
        let idle = found.rest.idle in
        record {
          opens = as_state (OpensTo image) found.state idle.same_size idle.committed opens.holds;
          begins = as_state (λ size tables. OpensIn image size tables found.state) found.state idle.same_size idle.committed opens.begins;
        }

    run_at : IsRun manner status found.state (on device sink) ended.world source_old.bytes source_new.bytes
    run_at =
        let known : IsTold device.disk = record { pages = pages; is = told } in
        let idle = found.rest.idle in
        opened below.disk.moment opening.not_spent
        (opening_window (widened (passes.moments pages told stored store) (leaves_at device.disk stored found.state idle.same_size idle.committed)) (ran.passes.history (passes.told known)))
        (λ read is other is_store rested. opening_window ((passes.rested read is other is_store rested).moments known) (ran.passes.history (passes.told known)))
        begins_at ended_serially

  -- damage is found in no store
  none_damaged : (place : Place) → status ≡ Damaged place → Told device.disk IsNoStore
  none_damaged place is pages told size tables opens = (end_at told opens.store).undamaged place is

  -- the cause of a status, and that it is no fault, where there is none
  ends_by : (end : Status) → ((place : Place) → end ≡ Damaged place → Told device.disk IsNoStore) → IsScriptEnd (on below sink) ended.world source_old source_new end
      → IsRunEnd (on device sink) ended.world source_old source_new end
      × (IsFaultless (on device sink) ended.world source_old source_new → (end ≡ TooLong → ⊥) → ((place : Place) → end ≡ Damaged place → ⊥) → (end ≡ Ok) ⊎ (end ≡ NoMemory))
  ends_by Ok none cause = (tt, λ faultless short sound. inl refl)
  ends_by NoMemory none cause = (tt, λ faultless short sound. inr refl)
  ends_by TooLong none cause = (tt, λ faultless short sound. absurd (short refl))
  ends_by ReadFault none cause = (cause, λ faultless short sound. absurd (faultless.source cause))
  ends_by WriteFault none cause = (cause, λ faultless short sound. absurd (faultless.sink cause))
  ends_by DeviceFault none cause = (rises_since passes.later cause, λ faultless short sound. absurd (faultless.device (rises_since passes.later cause)))
  ends_by (Damaged place) none cause = (
    λ pages told. inr (record { none = none place refl pages told; unbroken = λ other. opening.unbroken other pages told; not_overfull = opening.not_overfull pages told }),
    λ faultless short sound. absurd (sound place refl),
  )
  ends_by end none cause = absurd cause

  pub script_ran : IsScriptRun manner status (on device sink) ended.world source_old source_new
  script_ran = record {
    run = λ size tables pages told opens.
        let first = (found told opens.store).state in
        record {
          first = first;
          begins = as_opened (λ s t. IsAtRest s t first) opens (found told opens.store).rest;
          run = run_at told opens.store;
        };
    complete = λ size tables pages told opens script source short faultless. (ends_by status none_damaged ran.cause).1 faultless (not_too_long script source short ran.taken) (end_at told opens.store).undamaged;
    broken = λ place pages told broken. absurd (opening.unbroken place pages told broken);
    overfull = λ pages told over. absurd (opening.not_overfull pages told over);
    no_tables = λ pages told none. absurd (none (opening.tables pages told));
    spent = λ pages told is. absurd (opening.not_spent pages told is);
    cause = (ends_by status none_damaged ran.cause).0;
    taken = ran.taken;
    tells = tells;
  }

-- ---- it isn't

-- the state in which the pages would be opened
abbrev opening_state : {pages : Pages} {size : StoreSize} {tables : Tables} → OpensTo pages size tables → State
opening_state {size = size} {tables = tables} opens = record {
  size = size;
  base = tables;
  changes = [];
  marks = map.empty;
  locks = map.empty;
  scans = map.empty;
  meter = at_rest size.slots tables (overflow_pages opens.stored) opens.stored.root.head opens.stored.root.end;
}

opening_rest : {pages : Pages} {size : StoreSize} {tables : Tables} (opens : OpensTo pages size tables) → IsAtRest size tables (opening_state opens)
opening_rest opens = record { idle = record { same_size = refl; committed = refl; none_changed = refl; none_open = refl; none_locked = refl; none_scanned = refl }; meter = refl }

-- the device is handed back as it came
left_alone : {device back : DeviceView} {sink_old sink_new source : Stream} → OnlyReads device back → IsLeftAlone (on device sink_old) (on back sink_new) source source
left_alone reads = record { unread = refl; writes = reads.same_writes; moments = reads.moments }

-- the place that a map of too many pages has
named_room : {fault : OpenFault} {place : Place} → fault ≡ NoStore place → (fault ≡ NoStore Room) ⊎ (fault ≡ DeviceFailed) ⊎ (fault ≡ LacksMemory) → place ≡ Room
named_room is named = grind arith

-- neither it nor what a look finds is the other
no_room : {fault : OpenFault} {place : Place} → fault ≡ NotFit place → (fault ≡ NoStore Room) ⊎ (fault ≡ DeviceFailed) ⊎ (fault ≡ LacksMemory) → ⊥
no_room is named = grind arith

only_over : {Over : Type 0} {fault : OpenFault} {place other : Place} → fault ≡ NoStore place → (fault ≡ NotFit other) ⊎ (fault ≡ DeviceFailed) ⊎ (fault ≡ LacksMemory) ⊎ Over → Over
only_over is (inl named) = absurd (cc)
only_over is (inr (inl failed)) = absurd (cc)
only_over is (inr (inr (inl lacks))) = absurd (cc)
only_over is (inr (inr (inr over))) = over

module _ (manner : Manner) {device back : DeviceView} {fault : OpenFault} (handed : IsHandedBack device back fault) where
  -- what a stop leaves of a store, by a state in which it would be opened
  passes_store : {pages : Pages} {size : StoreSize} {tables : Tables} → device.disk.contents ≡ Some pages → (opens : OpensTo pages size tables) → Passes device.disk back.disk (MayLeave device.disk (opening_state opens))
  passes_store {pages = pages} told opens = widened (handed.passes.moments pages told opens.stored opens.store) (leaves_at device.disk opens.stored (opening_state opens) opens.same_size opens.holds)

  -- what is damaged opens to no tables
  none_opens : {place : Place} → fault ≡ NoStore place → Told device.disk IsNoStore
  none_opens {place = place} is pages told size tables opens = (handed.refused.refused pages told).no_store place is opens.stored opens.store

  module _ (sink_old sink_new source : Stream) where
    abbrev before : World
    before = on device sink_old

    abbrev after : World
    after = on back sink_new

    -- the opening failed
    unopened_from : {status : Status} {pages : Pages} {size : StoreSize} {tables : Tables} → device.disk.contents ≡ Some pages → OpensTo pages size tables → IsFailedOpening status → sink_new.bytes ≡ sink_old.bytes → IsRunFrom manner (IsAtRest size tables) status before after source.bytes source.bytes
    unopened_from told opens failed silent = record {
      first = opening_state opens;
      begins = opening_rest opens;
      run = unopened failed (passes_store told opens) refl silent;
    }

    unopened_ends : {status : Status} → IsFailedOpening status → sink_new.bytes ≡ sink_old.bytes → ((meant : Status) → IsRefusal meant status before after) → IsRunEnd before after source source status → (IsFaultless before after source source → (status ≡ Ok) ⊎ (status ≡ NoMemory))
        → IsScriptRun manner status before after source source
    unopened_ends {status = status} failed silent refusal cause complete =
        let stops : IsStop status = inr failed in
        record {
          run = λ size tables pages told opens. unopened_from told opens failed silent;
          complete = λ size tables pages told opens script given short faultless. complete faultless;
          broken = λ place pages told found. inl (record { alone = left_alone (handed.broken place pages told found); refusal = refusal (NotAStore place) });
          overfull = λ pages told over. record { alone = left_alone (handed.overfull pages told over); refusal = refusal (Damaged Room) };
          no_tables = λ pages told none. record { place = Room; refused = inl (record { alone = left_alone (handed.tables pages told none); refusal = refusal (NotAStore Room) }) };
          spent = λ pages told spent. left_alone (handed.spent pages told spent);
          cause = cause;
          taken = taken_cut [] (gives_none source.bytes) (omega arith) (stop_is_cut stops);
          tells = record { last = λ place is. absurd (grind arith) };
        }

    pub failed_opening : fault ≡ DeviceFailed → sink_new ≡ sink_old → IsScriptRun manner DeviceFault before after source source
    failed_opening is same =
        let silent = ap (λ (s : Stream). s.bytes) same in
        unopened_ends (inl refl) silent (λ meant. fails refl silent) (handed.cause is) (λ faultless. absurd (faultless.device (handed.cause is)))

    pub lacked_opening : sink_new ≡ sink_old → IsScriptRun manner NoMemory before after source source
    lacked_opening same = unopened_ends (inr refl) (ap (λ (s : Stream). s.bytes) same) (λ meant. says (record { later = omega (arith, ap (λ (s : Stream). s.faults) same); how = unsaid refl same })) tt (λ faultless. inr refl)

    -- a look found no store at this place
    module _ {place : Place} {status : Status} (is : fault ≡ NotFit place) (line : Says (NotAStore place) (not_a_store_line place) status sink_old sink_new) where
      found_there : Told device.disk (λ pages. IsFoundAt pages place)
      found_there pages told = (handed.refused.refused pages told).named place is

      none_there : Told device.disk IsNoStore
      none_there pages told size tables opens = found_none (found_there pages told) opens.stored opens.store

      refused_there : IsRefused (NotAStore place) status before after source source
      refused_there = record { alone = left_alone (handed.reads place is); refusal = says line }

      pub look_refused : IsScriptRun manner status before after source source
      look_refused = record {
        run = λ size tables pages told opens. absurd (none_there pages told size tables opens);
        complete = λ size tables pages told opens. absurd (none_there pages told size tables opens);
        broken = λ other pages told found. inl (subst (λ (p : Place). IsRefused (NotAStore p) status before after source source) (found_once (found_there pages told) found) refused_there);
        overfull = λ pages told over. absurd (no_room is ((handed.refused.refused pages told).overfull over));
        no_tables = λ pages told none. record { place = place; refused = inl refused_there };
        spent = λ pages told spent. left_alone (handed.spent pages told spent);
        cause = by_said (IsRunEnd before after source source) line
            (λ takes. (found_there, record { alone = refused_there.alone; refusal = says (record { later = line.later; how = said refl takes }) }))
            (λ front rises. rises)
            (λ silent. tt);
        taken = taken_cut [] (gives_none source.bytes) (omega arith) (said_is_cut (layout_is_cut place) line);
        tells = tells_no_damage line;
      }

    -- the pages are no store
    module _ {place : Place} {status : Status} (is : fault ≡ NoStore place) (line : Says (Damaged place) (damaged_line place) status sink_old sink_new) where
      turned_away : Told device.disk (λ pages. IsTurnedAway place pages before after source source)
      turned_away pages told =
          let known = (handed.refused.refused pages told) in
          record {
            why = none_opens is pages told;
            late = handed.refused.late place is (record { pages = pages; is = told });
            over = λ room. known.only_overfull (is ∙ ap NoStore room);
            unread = refl;
            alone = λ room. left_alone (handed.overfull pages told (known.only_overfull (is ∙ ap NoStore room)));
            keeps = λ position at. handed.keeps position (is ∙ ap NoStore at) pages told;
          }

      pub store_refused : IsScriptRun manner status before after source source
      store_refused = record {
        run = λ size tables pages told opens. absurd (none_opens is pages told size tables opens);
        complete = λ size tables pages told opens. absurd (none_opens is pages told size tables opens);
        broken = λ other pages told found. inr (only_over is ((handed.refused.refused pages told).names other found));
        overfull = λ pages told over. subst (λ (p : Place). IsRefused (Damaged p) status before after source source) (named_room is ((handed.refused.refused pages told).overfull over)) (record { alone = left_alone (handed.overfull pages told over); refusal = says line });
        no_tables = λ pages told none. record { place = place; refused = inr (record { alone = left_alone (handed.tables pages told none); refusal = says line }) };
        spent = λ pages told spent. left_alone (handed.spent pages told spent);
        cause = by_said (IsRunEnd before after source source) line
            (λ takes pages told. inl (turned_away pages told)) (λ front rises. rises) (λ silent. tt);
        taken = taken_cut [] (gives_none source.bytes) (omega arith) (said_is_cut (damaged_is_cut place) line);
        tells = tells_damage (some_none _) line;
      }

-- ---- a line found the store damaged

module _ {manner : Manner} {rate : ℕ} (driver : DriverView manner) {old : View manner} {before after : Stream} {source_old source_new : Stream} {place : Place} {status : Status} (ran : RunsScript rate old (seen driver before) source_old source_new (Damaged place)) (line : Says (Damaged place) (damaged_line place) status before after) where
  pub damage_refused : RunsScript rate old (seen driver after) source_old source_new status
  damage_refused =
      let cut = said_is_cut (damaged_is_cut place) line in
      record {
        passes = record {
          told = ran.passes.told;
          history = ran.passes.history;
          device = ran.passes.device;
          sink = omega (arith, ran.passes.sink, line.later);
          said = some_then ran.passes.said (says_some line);
        };
        cause = by_said (IsScriptEnd old.world (seen driver after).world source_old source_new) line
            (λ takes. ran.cause) (λ front rises. rises_since ran.passes.sink rises) (λ silent. tt);
        taken = taken_cut ran.taken.given ran.taken.gives ran.taken.most cut;
        calls = ran.calls;
        up = λ ok. absurd (cut.within (inl ok));
        ended = λ told state shows. absurd ((ran.ended told state shows).undamaged place refl);
      }

  pub damage_told : TellsDamage status old.world.sink after
  damage_told = tells_damage ran.passes.said line
