-- A look leaves the session as it was.
use Rattle.std.proofs.Common.{◌≡◌, inl, inr, ℕ, ◌≤◌, true, Bool, List, refl, sym, ◌∙◌, ap, subst, arith}
use Rattle.std.specs.Prelude.{Option, Some, None, Result, Ok, Err, IfOk, IfSome, ◌==◌, ◌&&◌}
use Rattle.std.specs.Bool.{Decides}
use Rattle.std.specs.Set.{is_member}
use Rattle.rss_base.specs.DiskRule.{IsTold}
use Rattle.std.proofs.lemmas.Bool.{cases_Bool}
use Rattle.std.proofs.lemmas.Bool.Decides.{Decides-and, Decides-eqb, Decides-like, not_from_Decides}
use Rattle.std.proofs.lemmas.Map.Made.{is_member-Decides}
use Rattle.std.proofs.lemmas.Option.{none-some}
use Rattle.rss_base.specs.Listings.{segment_at}
use Rattle.rss_base.specs.Paged.{Held, Mapped, Fixed, Backing, HasFixed, mapped_of, mapped_pages, page_key}
use Rattle.rss_base.specs.PageMap.{page_count}
use Rattle.rss_base.specs.StoredPages.{mapped_by}
use Rattle.rss_base.specs.Steps.{PagesView, PassesOn, AreCounted}
use Rattle.rss_base.specs.declared.key.Space.TheVariants.{Overflow, Image, System}
use Rattle.rss_base.specs.declared.fault.PageFault.{PageFault}
use Rattle.rss_base.specs.declared.name.Name.{Name}
use Rattle.rss_base.specs.declared.relation.RelationEntry.{RelationEntry}
use Rattle.rss_base.specs.declared.root.Root.{Root}
use Rattle.rss_base.specs.declared.tid.Tid.{Tid}
use Rattle.rss_base.proofs.Moments.{widened}
use Rattle.rss_tuple.specs.Heaps.{AreHeaps}
use Rattle.rss_model.specs.Fits.{Fits}
use Rattle.rss_model.specs.Kept.{Kept}
use Rattle.rss_model.specs.Machine.{StoreSize, State, now}
use Rattle.rss_model.specs.Spares.{PageCounts, page_counts, change_counts, HasRoomFor, IsInSession}
use Rattle.rss_stored.specs.Store.{IsListed, SpellsTables}
use Rattle.rss_model.specs.Tables.{segment_of}
use Rattle.rss_stored.proofs.Listed.{listed, stands_within}
use Rattle.rss_model.proofs.StepKeeping.{kept_fit}
use Rattle.rss_tuple.specs.declared.body_at.BodyAt.{BodyAt}
use Rattle.rss_tuple.proofs.Located.{stands_so}
use Rattle.rss_access.specs.Tuples.{body_at, FindsBody, FindsBodyAt}
use Rattle.rss_tuple.specs.Placing.{IsNameable, IsChosen, IsFree}
use Rattle.rss_tuple.specs.TupleSteps.{NoneIs, tuples_in}
use Rattle.rss_access.specs.Written.{AreWritten}
use Rattle.rss_access.proofs.Spelling.{found_values, found_none, none_beside}
use Rattle.rss_store.proofs.Spelled.{has_tables_still}
use Rattle.rss_session.specs.Sessions.{SessionView, IsReady, sums_in}
use Rattle.rss_session.specs.Sessions as sessions
use Rattle.rss_session.specs.Shown.{Shows}
use Rattle.rss_session.specs.Calls.{KeepsTables}
use Rattle.rss_session.specs.Looks.{IsRelationIn, FindsTuple, FindsTupleAt, IsPlace, FindsPlace, HasNoPlace}

-- the session with other pages
abbrev pub with_pages : PagesView → SessionView → SessionView
with_pages pages view = record view { store = record view.store { pages = pages } }

module _ (old : SessionView) {pages : PagesView} {asks writes : ℕ} (passes : PassesOn asks writes old.store.pages pages) (mapped : pages.mapped ≡ old.store.pages.mapped) (counted_old : AreCounted old.store.pages) (counted : AreCounted pages) where
  spare_same : pages.spare ≡ old.store.pages.spare
  spare_same =
      let there : mapped_pages pages.slots pages.mapped ≡ mapped_pages old.store.pages.slots old.store.pages.mapped = λ i. mapped_pages (passes.slots i) (mapped i) in
      let saved : page_count pages.backing.shadow ≡ page_count old.store.pages.backing.shadow = ap (λ (b : Backing). page_count b.shadow) passes.backing in
      omega (arith, counted_old, counted, there, saved, passes.slots)

  counts_same : page_counts pages ≡ page_counts old.store.pages
  counts_same = λ i. record {
    slots = passes.slots i;
    saved = page_count (passes.backing i).shadow;
    saved_images = mapped_of (mapped_by (passes.backing i).shadow) Image (passes.slots i);
    mapped = mapped_pages (passes.slots i) (mapped i);
    images = mapped_of (mapped i) Image (passes.slots i);
    spare = spare_same i;
  }

  pub ready_looked : IsReady old → (IsTold old.store.pages.disk → pages.held ≡ old.store.pages.held) → (IsTold pages.disk → AreHeaps pages) → IsReady (with_pages pages old)
  ready_looked ready held heaps = record {
    store = record {
      number_low = ready.store.number_low;
      number_high = ready.store.number_high;
      formed = ready.store.formed;
      size = passes.slots ∙ ready.store.size;
      log_pages = ap (λ (b : Backing). b.log_pages) passes.backing ∙ ready.store.log_pages;
      area = ap (λ (b : Backing). b.area) passes.backing ∙ ready.store.area;
      log = ready.store.log;
      system = λ page low. ap (λ (m : Mapped). m (page_key 0 System page)) mapped ∙ ready.store.system page low;
      pending_places = ready.store.pending_places;
      settled_now = passes.leaves.stays_settled ready.store.settled_now;
      heaps = heaps;
      tables = has_tables_still passes.slots refl passes.leaves.told.1 (λ told key off. ap (λ (h : Held). h key) (held told)) ready.store.tables;
    };
    pages = subst (IsInSession (sessions.counts old) (sums_in old.opened).p) (sym counts_same) ready.pages;
    room = subst (HasRoomFor (sessions.counts old)) (sym counts_same) ready.room;
    saved = subst (λ (p : PageCounts). p.saved_images ≤ (sessions.counts old).images) (sym counts_same) ready.saved;
    log = ready.log;
    placed = ready.placed;
    numbers = ready.numbers;
  }

  module _ (settled : old.store.pages.settled ≡ true) (told : IsTold old.store.pages.disk) (held : pages.held ≡ old.store.pages.held) {state : State} (shows : Shows old state) where
    pub shows_looked : Shows (with_pages pages old) state
    shows_looked = record {
      store = record {
        log = shows.store.log;
        stored = shows.store.stored;
        disk = record {
          number_is = shows.store.disk.number_is;
          root_is = shows.store.disk.root_is;
          owners_are = shows.store.disk.owners_are ∙ ap (λ (b : Backing). b.shadow) (sym passes.backing);
          fixes = λ image has. shows.store.disk.fixes image (subst (λ (fixed : Fixed). HasFixed fixed image) (passes.leaves.same settled told) has);
        };
        tied = shows.store.tied;
        logged = record { head_is = shows.store.logged.head_is; end_is = shows.store.logged.end_is; records = shows.store.logged.records; until = shows.store.logged.until };
        definitions = shows.store.definitions;
        spells = subst (λ (h : Held). SpellsTables h old.store.catalog.listing (now state)) (sym held) shows.store.spells;
        written = subst (λ (h : Held). AreWritten h old.store.catalog) (sym held) shows.store.written;
        heap = shows.store.heap;
        session = subst (IsInSession (change_counts state.base.definitions state.meter) _) (sym counts_same) shows.store.session;
        over_is = shows.store.over_is ∙ (λ i. mapped_of (sym mapped i) Overflow (sym passes.slots i));
      };
      listed = shows.listed;
      list = shows.list;
      told = shows.told;
      counted = record { each = shows.counted.each; since = shows.counted.since; heap = shows.counted.heap; surviving = shows.counted.surviving; rooms = shows.counted.rooms };
      rested = λ none all. shows.rested none all ∙ ap (λ (b : Backing). mapped_of (mapped_by b.shadow) Overflow old.store.root.slots) (sym passes.backing);
    }

-- at each moment of it a stop leaves the committed tables
pub keeps_looked : {old : SessionView} {pages : PagesView} {asks writes : ℕ} → PassesOn asks writes old.store.pages pages → old.store.pages.settled ≡ true → KeepsTables old (with_pages pages old)
keeps_looked passes settled = λ told state kept shows.
    widened (passes.leaves.moments settled told) (λ image has. record {
      stored = shows.store.stored;
      store = shows.store.disk.fixes image has;
      same_size = shows.store.tied.size;
      holds = sym shows.store.tied.tables;
    })

-- what was found
pub finds_tuple : {view : SessionView} {segment number : ℕ} {tid : Tid} {there : Bool} {body : List ℕ} → FindsBody segment number tid view.store.pages there body → FindsTuple view segment number tid there body
finds_tuple {view = view} {segment = segment} {number = number} {tid = tid} {there = there} {body = body} finds = record {
  some = λ is state relation kept shows in_it.
      let found = found_values shows.store.spells (kept_fit state kept).1 number relation in_it.at tid body (subst (λ (b : Bool). FindsBody relation.segment number tid view.store.pages b body) is (subst (λ (s : ℕ). FindsBody s number tid view.store.pages there body) (sym in_it.within) finds)) in
      record { values = found.values; spelled = found.body; holds = found.holds };
  none = λ is state relation kept shows in_it.
      found_none shows.store.spells (kept_fit state kept).1 number relation in_it.at tid body (subst (λ (b : Bool). FindsBody relation.segment number tid view.store.pages b body) is (subst (λ (s : ℕ). FindsBody s number tid view.store.pages there body) (sym in_it.within) finds));
}

pub finds_at : (view : SessionView) (segment number : ℕ) (tid : Tid) (pages : Held) (found : Option BodyAt) → FindsBodyAt segment number tid view.store.pages pages found → FindsTupleAt view segment number tid pages found
finds_at view segment number tid pages None finds = finds_tuple finds
finds_at view segment number tid pages (Some at) finds = stands_so (λ bytes its. finds_tuple its) finds

-- ---- identifiers for new tuples

-- a state that is shown has as many slots
pub slots_shown : {view : SessionView} {state : State} → IsReady view → Shows view state → view.store.pages.slots ≡ state.size.slots
slots_shown ready shows = ready.store.size ∙ ap (λ (r : Root). r.slots) (sym shows.store.disk.root_is) ∙ ap (λ (s : StoreSize). s.slots) (sym shows.store.tied.size)

-- whose tables fit
pub fits_shown : {view : SessionView} {state : State} → IsReady view → Kept state → Shows view state → Fits view.store.pages.slots (now state)
fits_shown {state = state} ready kept shows = subst (λ (n : ℕ). Fits n (now state)) (sym (slots_shown ready shows)) (kept_fit state kept).1

-- the relations of a segment have its name
module _ {view : SessionView} {state : State} (shows : Shows view state) {segment number : ℕ} {relation : RelationEntry} (in_it : IsRelationIn view segment number relation) where
  its_segment : (name : Name) × IsListed view.store.catalog.listing number relation name
  its_segment = listed shows.store.spells.listed shows.store.spells.defines number relation in_it.at

  stands : segment_of (now state) relation.name ≡ Some its_segment.0
  stands = stands_within (now state) shows.store.spells.listed shows.store.spells.defines number relation in_it.at its_segment.0 its_segment.1.within

-- where a new tuple gets its identifier
module _ (view : SessionView) (segment length : ℕ) (barred : List Tid) (ready : IsReady view) where
  finds_place : {tid : Tid} → IsNameable view.store.pages.slots barred tid → (IsTold view.store.pages.disk → IsChosen view.store.pages segment length barred tid) → (IsTold view.store.pages.disk → body_at view.store.pages segment tid ≡ None) → IsPlace view segment length barred tid
  finds_place {tid = tid} named chosen absent = record {
    named = named;
    chosen = chosen;
    free = λ told state number relation kept shows in_it t alone. record {
      within = record { page = omega (arith, named.within, slots_shown ready shows); slot = named.low };
      absent = λ other same.
          none_beside shows.store.spells (kept_fit state kept).1 relation.segment (its_segment shows in_it).0 (its_segment shows in_it).1.within other (same ∙ stands shows in_it) tid
          (ap (λ (s : ℕ). body_at view.store.pages s tid) in_it.within ∙ absent told);
      alone = alone;
    };
  }

  pub place_found : (result : Result (Option Tid) PageFault) → IfOk result (λ found. IfSome found (IsNameable view.store.pages.slots barred))
      → IfOk result (λ found. IfSome found (λ tid. IsTold view.store.pages.disk → IsFree (tuples_in view.store.pages) segment barred tid))
      → IfOk result (λ found. IfSome found (λ tid. IsTold view.store.pages.disk → IsChosen view.store.pages segment length barred tid)) → IfOk result (FindsPlace view segment length barred)
  place_found (Ok None) named free chosen = tt
  place_found (Ok (Some tid)) named free chosen = finds_place named chosen (λ told. (free told).absent)
  place_found (Err fault) named free chosen = tt

-- whether two identifiers are one
same_tid : Tid → Tid → Bool
same_tid a b = (a.page == b.page) && (a.slot == b.slot)

tid_decides : (a b : Tid) → Decides (same_tid a b) (a ≡ b)
unfolding same_tid
tid_decides a b = Decides-like (same_tid a b)
    (λ (both : (a.page ≡ b.page) × (a.slot ≡ b.slot)) i. record { page = both.0 i; slot = both.1 i })
    (λ same. (ap (λ (t : Tid). t.page) same, ap (λ (t : Tid). t.slot) same))
    (Decides-and (a.page == b.page) (a.slot == b.slot) (Decides-eqb a.page b.page) (Decides-eqb a.slot b.slot))

-- where no identifier of the segment that isn't barred is free in the pages, none is in the machine
pub has_no_place : {view : SessionView} {segment : ℕ} {barred : List Tid} → IsReady view → (IsTold view.store.pages.disk → NoneIs (IsFree (tuples_in view.store.pages) segment barred)) → HasNoPlace view segment barred
has_no_place {view = view} {segment = segment} {barred = barred} ready none told state number relation kept shows in_it t tid free =
    let is_barred = is_member-Decides tid_decides barred tid in
    elim (cases_Bool (is_member same_tid barred tid)) [
      | inl is ↦ is_barred.0 is
      | inr off ↦ absurd (none told tid (record {
        named = record { within = omega (arith, free.within.page, slots_shown ready shows); low = free.within.slot; allowed = not_from_Decides _ is_barred off };
        absent = by (body_at view.store.pages segment tid) refl;
      }))
    ]
  where
    by : (body : Option (List ℕ)) → body_at view.store.pages segment tid ≡ body → body ≡ None
    by None is = refl
    by (Some body) is =
        let of = shows.store.spells.contents.bodies_are segment tid body is in
        let name = its_segment shows in_it in
        let same : segment_at view.store.catalog.listing of.relation.segment ≡ Some name.0 = ap (segment_at view.store.catalog.listing) (of.within ∙ sym in_it.within) ∙ name.1.within in
        let other = stands_within (now state) shows.store.spells.listed shows.store.spells.defines of.number of.relation of.at name.0 same in
        absurd (none-some _ (sym (free.absent of.relation.name (other ∙ sym (stands shows in_it))) ∙ of.holds))
