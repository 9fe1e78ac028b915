-- The log of an engine with one record more: its records, its lists, and what it says.
use Rattle.std.proofs.Common.{◌≡◌, ℕ, ◌+◌, List, [], ◌∷◌, ◌++◌, append_assoc, refl, sym, ◌∙◌, ap, subst}
use Rattle.std.specs.Prelude.{All}
use Rattle.std.proofs.lemmas.List.Elements.{All-append, All-from_recursion}
use Rattle.rss_base.specs.declared.log_record.LogRecord.{LogRecord}
use Rattle.rss_base.specs.LogRecords as bytes
use Rattle.rss_base.specs.LogRecords.{ArePlaced, IsSpellable, record_size}
use Rattle.rss_base.specs.Listings.{Listing}
use Rattle.rss_record.proofs.Parsing.{placed_append}
use Rattle.rss_model.specs.Tables.{Definitions, Contents, Tables}
use Rattle.rss_model.specs.Changes.{Change, after}
use Rattle.rss_model.specs.Fits.{Fits}
use Rattle.rss_model.specs.Machine.{State}
use Rattle.rss_model.specs.Kept.{up_to, FitMixed}
use Rattle.rss_model.specs.Records.{LogEntry, Placed, Listed, changes_in, listed, committed_by, list_after, recovered}
use Rattle.rss_model.specs.Recovers.{base_at}
use Rattle.rss_model.specs.Meanings.{Logged, as_bytes, as_entries, Says, MeansIt}
use Rattle.rss_model.specs.Ties.{newer, records, Ties}
use Rattle.rss_model.specs.EngineLogs.{EngineLog, newer_logged, all_logged, entries_of, lists_saved, lists_now, FitsMixed, FitsAlong, AreOwn, IsMeterOf, TiesState}
use Rattle.rss_stored.proofs.LogPlaced.{entries_append, bytes_append}
use Rattle.rss_model.proofs.LogAppending.{list_after-append, in_row}

-- ---- tables on the way

module _ (slots : ℕ) (saved : Tables) where
  fits_append : (base : Contents) (ls : List Listed) (ps : List Placed) (p : Placed) → FitsAlong slots saved base ls ps
      → FitsMixed slots saved (recovered base ls (ps ++ p ∷ [])) (changes_in (list_after ls (ps ++ p ∷ []))) → FitsAlong slots saved base ls (ps ++ p ∷ [])
  fits_append base ls [] p along last = (along, last)
  fits_append base ls (q ∷ ps) p along last = (along.0, fits_append (committed_by base ls q.is) (listed ls q.at q.is) ps p along.1 last)

  -- behind the last record
  pub fits_last : (base : Contents) (ls : List Listed) (ps : List Placed) → FitsAlong slots saved base ls ps → FitsMixed slots saved (recovered base ls ps) (changes_in (list_after ls ps))
  fits_last base ls [] along = along
  fits_last base ls (p ∷ ps) along = fits_last (committed_by base ls p.is) (listed ls p.at p.is) ps along.1

  -- before the first one
  pub fits_first : (base : Contents) (ls : List Listed) (ps : List Placed) → FitsAlong slots saved base ls ps → FitsMixed slots saved base (changes_in ls)
  fits_first base ls [] along = along
  fits_first base ls (p ∷ ps) along = along.0

  fits_with : (base : Contents) (ls : List Listed) (ps qs : List Placed) (p : Placed) → qs ≡ ps ++ p ∷ [] → FitsAlong slots saved base ls ps
      → FitsMixed slots saved (recovered base ls qs) (changes_in (list_after ls qs)) → FitsAlong slots saved base ls qs
  fits_with base ls ps qs p is along last =
      subst (FitsAlong slots saved base ls) (sym is)
      (fits_append base ls ps p along (subst (λ (k : List Placed). FitsMixed slots saved (recovered base ls k) (changes_in (list_after ls k))) is last))

-- what fits in a state fits over the tables of the checkpoint
pub fits_state : (state : State) (saved : Tables) → state.base.definitions ≡ saved.definitions → FitMixed state → FitsMixed state.size.slots saved state.base.contents state.changes
fits_state state saved same fit =
    λ counts. subst (λ (d : Definitions). Fits state.size.slots (record { definitions = d; contents = after state.base.contents (up_to counts state.changes) })) same (fit counts)

-- and what is committed now fits with any of the changes
pub fits_now : (listing : Listing) (saved : Tables) (log : EngineLog) (state : State) → TiesState listing saved log state → FitsMixed state.size.slots saved state.base.contents state.changes
fits_now listing saved log state is =
    let start : Contents = base_at saved.contents (as_entries log.older) in
    let ls : List Listed = lists_saved log in
    let ps : List Placed = newer (entries_of log) in
    let changes : changes_in (list_after ls ps) ≡ state.changes = ap changes_in (sym (list_after-append [] (as_entries log.older) ps)) ∙ is.ties.changes_are in
    subst (λ (b : Contents). FitsMixed state.size.slots saved b state.changes) is.ties.base_is
    (subst (λ (cs : List Change). FitsMixed state.size.slots saved (recovered start ls ps) cs) changes (fits_last state.size.slots saved start ls ps is.fits))

-- ---- one record more

-- the log with other records behind the last checkpoint
abbrev pub with_newer : EngineLog → List Logged → List Logged → ℕ → EngineLog
with_newer log written pending end = record {
  head = log.head;
  older = log.older;
  written = written;
  pending = pending;
  end = end;
}

module _ (log : EngineLog) (told : LogRecord) (entry : LogEntry) (written pending : List Logged) (grown : written ++ pending ≡ newer_logged log ++ record { at = log.end; told = told; is = entry } ∷ []) where
  abbrev last : Logged
  last = record { at = log.end; told = told; is = entry }

  abbrev placed : Placed
  placed = record { at = log.end; is = entry }

  abbrev next : EngineLog
  next = with_newer log written pending (log.end + record_size told)

  pub all_grown : all_logged next ≡ all_logged log ++ last ∷ []
  all_grown = ap (λ (ls : List Logged). log.older ++ ls) grown ∙ sym (append_assoc log.older (newer_logged log) (last ∷ []))

  newer_is : newer (entries_of next) ≡ newer (entries_of log) ++ placed ∷ []
  newer_is =
      sym (entries_append written pending) ∙ ap as_entries grown ∙ entries_append (newer_logged log) (last ∷ [])
      ∙ ap (λ (ps : List Placed). ps ++ placed ∷ []) (entries_append log.written log.pending)

  pub lists_grown : lists_now next ≡ listed (lists_now log) log.end entry
  lists_grown =
      ap (λ (ps : List Placed). list_after [] (as_entries log.older ++ ps)) newer_is
      ∙ ap (list_after []) (sym (in_row (as_entries log.older) (newer (entries_of log)) (placed ∷ [])))
      ∙ list_after-append [] (records (entries_of log)) (placed ∷ [])

  placed_grown : ArePlaced log.head (as_bytes (all_logged log)) log.end → IsSpellable told → ArePlaced log.head (as_bytes (all_logged next)) (log.end + record_size told)
  placed_grown front formed =
      let until : ℕ = log.end + record_size told in
      subst (λ (ls : List Logged). ArePlaced log.head (as_bytes ls) until) (sym all_grown)
      (subst (λ (ps : List bytes.Placed). ArePlaced log.head ps until) (sym (bytes_append (all_logged log) (last ∷ [])))
      (placed_append log.head log.end until (as_bytes (all_logged log)) (as_bytes (last ∷ [])) front (refl, formed, refl)))

  module _ (listing : Listing) where
    abbrev says : Logged → Type 0
    says l = Says listing l.told l.is

    abbrev means : Logged → Type 0
    means l = MeansIt listing l.told l.is

    own_grown : AreOwn listing log → Says listing told entry → MeansIt listing told entry → AreOwn listing next
    own_grown own it_says it_means = record {
      say = subst (All says) (sym all_grown) (All-append says (all_logged log) (last ∷ []) own.say (All-from_recursion says (last ∷ []) (it_says, tt)));
      newer = subst (All means) (sym grown) (All-append means (newer_logged log) (last ∷ []) own.newer (All-from_recursion means (last ∷ []) (it_means, tt)));
      listed = own.listed;
    }

    -- the tie of a state that follows
    pub ties_grown : (saved : Tables) (state then : State) → TiesState listing saved log state → Ties then.base.contents then.changes saved.contents (entries_of next)
        → then.base.definitions ≡ saved.definitions → then.size.slots ≡ state.size.slots → FitMixed then
        → IsSpellable told → Says listing told entry → MeansIt listing told entry → IsMeterOf saved.contents next then.meter
        → TiesState listing saved next then
    ties_grown saved state then is ties definitions slots fit formed it_says it_means meter =
        let start : Contents = base_at saved.contents (as_entries log.older) in
        let ls : List Listed = lists_saved log in
        let here : FitsMixed then.size.slots saved then.base.contents then.changes = fits_state then saved definitions fit in
        let changes : changes_in (list_after ls (newer (entries_of next))) ≡ then.changes =
        ap changes_in (sym (list_after-append [] (as_entries log.older) (newer (entries_of next)))) ∙ ties.changes_are in
        let end : FitsMixed then.size.slots saved (recovered start ls (newer (entries_of next))) (changes_in (list_after ls (newer (entries_of next)))) =
        subst (λ (b : Contents). FitsMixed then.size.slots saved b (changes_in (list_after ls (newer (entries_of next))))) (sym ties.base_is)
        (subst (λ (cs : List Change). FitsMixed then.size.slots saved then.base.contents cs) (sym changes) here) in
        let along : FitsAlong then.size.slots saved start ls (newer (entries_of log)) = subst (λ (n : ℕ). FitsAlong n saved start ls (newer (entries_of log))) (sym slots) is.fits in
        record {
          ties = ties;
          definitions = definitions;
          fields = is.fields;
          fits = fits_with then.size.slots saved start ls (newer (entries_of log)) (newer (entries_of next)) placed newer_is along end;
          placed = placed_grown is.placed formed;
          own = own_grown is.own it_says it_means;
          meter = meter;
        }
