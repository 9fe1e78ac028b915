-- What is shown of a store hangs on the state's size, committed tables, changes and meter alone; and what a step that undoes or commits nothing leaves.
use Rattle.std.proofs.Common.{◌≡◌, ℕ, ◌+◌, ◌<◌, ◌≤◌, List, [], ◌∷◌, length, map, refl, sym, ◌∙◌, ap, subst, arith}
use Rattle.std.specs.Ordering.{nat_cmp}
use Rattle.std.specs.FinMap.{FinMap}
use Rattle.rss_base.specs.Paged.{mapped_of}
use Rattle.rss_base.specs.StoredPages.{mapped_by}
use Rattle.rss_base.specs.declared.key.Space.TheVariants.{Overflow}
use Rattle.rss_model.specs.Changes.{Change, maker, own, others, theirs, kept_to}
use Rattle.rss_model.specs.Locks.{Locks}
use Rattle.rss_model.specs.Machine.{State}
use Rattle.rss_model.specs.Meter.{Stamp}
use Rattle.rss_model.specs.Records.{Listed, changes_in}
use Rattle.rss_model.specs.EngineLogs.{stamp_of}
use Rattle.rss_model.specs.Scans.{Scans}
use Rattle.rss_model.specs.Spares.{ChangeCounts, PageCounts, IsInSession}
use Rattle.rss_model.specs.Steps.{stamp_by, size_for}
use Rattle.rss_model.proofs.Metering.{kept_none}
use Rattle.rss_trans.specs.Told.{IsListOf}
use Rattle.rss_trans.proofs.Noting.{all_stay, back_listed}
use Rattle.rss_store.specs.Stores.{StoreView}
use Rattle.rss_store.specs.Shown.{ShowsWith}

pub shows_same : {view : StoreView} {state : State} {there : List Change} {over : ℕ} (marks : FinMap nat_cmp (List ℕ)) (locks : Locks) (scans : Scans)
    → ShowsWith view state there over → ShowsWith view (record state { marks = marks; locks = locks; scans = scans }) there over
shows_same marks locks scans shows =
    let ties = shows.tied.ties in
    record {
      log = shows.log;
      stored = shows.stored;
      disk = shows.disk;
      tied = record {
        ties = record { ties = ties.ties; definitions = ties.definitions; fields = ties.fields; fits = ties.fits; placed = ties.placed; own = ties.own; meter = ties.meter };
        older = shows.tied.older;
        newer = shows.tied.newer;
        size = shows.tied.size;
        tables = shows.tied.tables;
      };
      logged = shows.logged;
      definitions = shows.definitions;
      spells = shows.spells;
      written = shows.written;
      heap = shows.heap;
      session = shows.session;
      over_is = shows.over_is;
    }

-- ---- sizes of records

pub size_some : (changes : List Change) (size : ℕ) → 1 ≤ length changes → size_for changes size ≡ size
size_some [] size some = absurd (omega (arith, some))
size_some (change ∷ changes) size some = refl

pub none_there : {A : Type 0} (items : List A) → length items ≡ 0 → items ≡ []
none_there [] none = refl
none_there (item ∷ items) none = absurd (omega (arith, none))

pub none_more : (n : ℕ) → n + 0 ≡ n
none_more n = omega arith

-- ---- where all stay

module _ {changes : List Change} {stamps : List Stamp} {listed : List Listed} (list : IsListOf changes stamps listed) (t : ℕ) where
  of_listed : (n : ℕ) → length (own t changes) ≤ n → length (own t (changes_in listed)) ≤ n
  of_listed n few = subst (λ (cs : List Change). length (own t cs) ≤ n) (sym list.changes_are) few

  pub changes_kept : (n : ℕ) → length (own t changes) ≤ n → kept_to maker t n changes ≡ changes
  changes_kept n few = sym (back_listed changes stamps listed t n list).changes_are ∙ ap changes_in (all_stay listed t n (of_listed n few)) ∙ list.changes_are

  pub stamps_kept : (n : ℕ) → length (own t changes) ≤ n → kept_to stamp_by t n stamps ≡ stamps
  stamps_kept n few = sym (back_listed changes stamps listed t n list).stamps_are ∙ ap (map stamp_of) (all_stay listed t n (of_listed n few)) ∙ list.stamps_are

  pub changes_all : length (own t changes) ≡ 0 → others t changes ≡ changes
  changes_all none = sym (kept_none maker t changes) ∙ changes_kept 0 (omega (arith, none))

  pub stamps_all : length (own t changes) ≡ 0 → theirs stamp_by t stamps ≡ stamps
  stamps_all none = sym (kept_none stamp_by t stamps) ∙ stamps_kept 0 (omega (arith, none))

-- ---- since a checkpoint

-- where no change was made since, not as many are listed as survived once one is listed no more
pub not_rested : (counts : ChangeCounts) (listed fewer : ℕ) (pages : PageCounts) → IsInSession counts listed pages → fewer < listed → counts.since ≡ 0 → fewer ≡ counts.surviving → ⊥
not_rested counts listed fewer pages session less none same = omega (arith, session.most, less, none, same)

-- how many overflow pages there were then, where neither the root nor the map of that checkpoint was changed
pub overflow_still : (old mid new : StoreView) → mid.root ≡ old.root → mid.pages.backing ≡ old.pages.backing → new ≡ mid
    → mapped_of (mapped_by old.pages.backing.shadow) Overflow old.root.slots ≡ mapped_of (mapped_by new.pages.backing.shadow) Overflow new.root.slots
overflow_still old mid new root backing same =
    (λ i. mapped_of (mapped_by (sym backing i).shadow) Overflow (sym root i).slots)
    ∙ ap (λ (s : StoreView). mapped_of (mapped_by s.pages.backing.shadow) Overflow s.root.slots) (sym same)
