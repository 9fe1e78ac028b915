-- A log at rest, by its bytes and by its records.
use Rattle.std.proofs.Common.{◌≡◌, ℕ, ◌+◌, List, [], ◌∷◌, ◌++◌, refl, sym, ◌∙◌, ap, subst, arith}
use Rattle.std.specs.Prelude.{All, Option, Some, None, ◌==◌, true}
use Rattle.std.proofs.lemmas.Bool.{eq-eqb}
use Rattle.std.proofs.lemmas.List.Elements.{recursion_from_All}
use Rattle.rss_base.specs.declared.log_record.LogRecord.{LogRecord}
use Rattle.rss_base.specs.declared.log_record.LogRecord.TheVariants as records
use Rattle.rss_base.specs.DiskRule.{Pages}
use Rattle.rss_base.specs.Listings.{Listing}
use Rattle.rss_base.specs.LogRecords.{record_size, ArePlaced, BeginsWith}
use Rattle.rss_record.proofs.Parsing.{some_bytes, placed_length, placed_split}
use Rattle.rss_record.proofs.Records.{one_front}
use Rattle.rss_log.specs.Logs.{LogView, HasRecords, bytes_from}
use Rattle.rss_log.proofs.LogViews.{listed}
use Rattle.rss_model.specs.Records.{LogEntry, Listed}
use Rattle.rss_model.specs.Recovers.{older_of, first_in, named_in, NamesLists, IsCheckpointOf, BeginsAtCheckpoint}
use Rattle.rss_model.specs.Meanings.{Logged, as_bytes, as_entries, Says, says_change, says_restore, says_end, says_abort, says_checkpoint}
use Rattle.rss_stored.specs.Store.{Stored, listed_at, IsStore}
use Rattle.rss_stored.specs.LogLaws.{IsRested}
use Rattle.rss_model.proofs.LogLists.{all_back}
use Rattle.rss_stored.proofs.LogPlaced.{bytes_append, told_at}
use Rattle.rss_store.specs.Opening.{RestsAt, NamesNone}

-- ---- lists and the transactions that are named

-- where nothing is named, nothing is listed
none_listed : (ls : List Listed) → ((t : ℕ) → first_in t ls ≡ None) → ls ≡ []
none_listed [] none = refl
none_listed (l ∷ ls) none = absurd (some_first (first_in l.change.by ls) (here ∙ none l.change.by))
  where
    here : older_of (first_in l.change.by ls) (Some l.at) ≡ first_in l.change.by (l ∷ ls)
    here = let e : (l.change.by == l.change.by) ≡ true = eq-eqb l.change.by l.change.by refl in rw e refl

    some_first : (o : Option ℕ) → older_of o (Some l.at) ≡ None → ⊥
    some_first None is = cc (is)
    some_first (Some first) is = cc (is)

-- and where nothing is listed, nothing is named
none_named : (named : List (ℕ × ℕ)) → ((t : ℕ) → named_in t named ≡ None) → named ≡ []
none_named [] none = refl
none_named (n ∷ rest) none = absurd (some_is (here ∙ none n.0))
  where
    here : Some n.1 ≡ named_in n.0 (n ∷ rest)
    here = let e : (n.0 == n.0) ≡ true = eq-eqb n.0 n.0 refl in rw e refl

    some_is : ◌≡◌ {A = Option ℕ} (Some n.1) None → ⊥
    some_is is = cc (is)

-- ---- the record at the last checkpoint

checkpoint_told : {listing : Listing} {told : LogRecord} {entry : LogEntry} (ls : List Listed) → Says listing told entry → IsCheckpointOf ls entry → (named : List (ℕ × ℕ)) × ((told ≡ records.Checkpoint named) × NamesLists named ls)
checkpoint_told ls (says_change tells) is = elim is [ ]
checkpoint_told ls says_restore is = elim is [ ]
checkpoint_told ls says_end is = elim is [ ]
checkpoint_told ls says_abort is = elim is [ ]
checkpoint_told ls (says_checkpoint {marks = marks}) is = (marks, (refl, is))

-- It names what is listed there, and these records stand behind it.
pub record StandsThere (log : LogView) (stored : Stored) : Type 0 where
  pub named : List (ℕ × ℕ)
  pub first : Logged
  pub after : List Logged
  pub newer : stored.newer ≡ first ∷ after
  pub names : NamesLists named (listed_at stored)
  pub begins : BeginsWith (bytes_from log stored.root.checkpoint) (records.Checkpoint named) (bytes_from log (stored.root.checkpoint + record_size (records.Checkpoint named)))
  pub placed : ArePlaced (stored.root.checkpoint + record_size (records.Checkpoint named)) (as_bytes after) log.end

module _ {pages : Pages} {stored : Stored} (log : LogView) (store : IsStore pages stored) (head : log.head ≡ stored.root.head) (has : HasRecords log (as_bytes (stored.older ++ stored.newer))) where
  says : Logged → Type 0
  says l = Says stored.listing l.told l.is

  stands_by : (newer : List Logged) → stored.newer ≡ newer → StandsThere log stored
  unfolding says
  stands_by [] is = absurd (subst (λ (n : List Logged). BeginsAtCheckpoint (listed_at stored) (as_entries n)) is store.log.recovers.begins)
  stands_by (l ∷ after) is =
      let begins : BeginsAtCheckpoint (listed_at stored) (as_entries (l ∷ after)) = subst (λ (n : List Logged). BeginsAtCheckpoint (listed_at stored) (as_entries n)) is store.log.recovers.begins in
      let say = subst (λ (n : List Logged). All says (stored.older ++ n)) is store.log.logged.say in
      let it_says : says l = (all_back says stored.older (l ∷ after) (recursion_from_All says (stored.older ++ l ∷ after) say)).0 in
      let told = checkpoint_told (listed_at stored) it_says begins.0 in
      let records_are : HasRecords log (as_bytes stored.older ++ told_at l ∷ as_bytes after) = subst (HasRecords log) (ap (λ (n : List Logged). as_bytes (stored.older ++ n)) is ∙ bytes_append stored.older (l ∷ after)) has in
      let parts : (mid : ℕ) × (ArePlaced log.head (as_bytes stored.older) mid × ArePlaced mid (told_at l ∷ as_bytes after) log.end) = placed_split log.head log.end (as_bytes stored.older) (told_at l ∷ as_bytes after) records_are.placed in
      let mid : parts.0 ≡ stored.root.checkpoint = omega (arith, head, placed_length log.head parts.0 (as_bytes stored.older) parts.1.0, placed_length stored.root.head stored.root.checkpoint (as_bytes stored.older) store.log.checkpoint) in
      let at : l.at ≡ stored.root.checkpoint = parts.1.1.0 ∙ mid in
      let stands = listed log (as_bytes stored.older) (as_bytes after) (told_at l) records_are in
      record {
        named = told.0;
        first = l;
        after = after;
        newer = is;
        names = told.1.1;
        begins = subst (λ (r : LogRecord). BeginsWith (bytes_from log stored.root.checkpoint) r (bytes_from log (stored.root.checkpoint + record_size r))) told.1.0
            (subst (λ (n : ℕ). BeginsWith (bytes_from log n) l.told (bytes_from log (n + record_size l.told))) at stands);
        placed = subst (λ (r : LogRecord). ArePlaced (stored.root.checkpoint + record_size r) (as_bytes after) log.end) told.1.0
            (subst (λ (n : ℕ). ArePlaced (n + record_size l.told) (as_bytes after) log.end) mid parts.1.1.2);
      }

  -- in each store
  pub stands_there : StandsThere log stored
  stands_there = stands_by stored.newer refl

-- ---- at rest

none_behind : (from until : ℕ) (ls : List Logged) → ArePlaced from (as_bytes ls) until → until ≡ from → ls ≡ []
none_behind from until [] placed same = refl
none_behind from until (l ∷ ls) placed same = absurd (omega (arith, same, some_bytes l.told, placed_length (from + record_size l.told) until (as_bytes ls) placed.2))

same_marks : (named other : List (ℕ × ℕ)) → records.Checkpoint named ≡ records.Checkpoint other → named ≡ other
same_marks named other is = cc (is)

no_more : (one two : Logged) (after : List Logged) → one ∷ after ≡ two ∷ [] → after ≡ []
no_more one two after is = cc (is)

module _ {log : LogView} {stored : Stored} (there : StandsThere log stored) where
  pub not_none : NamesNone log stored.root.checkpoint → ⊥
  not_none none = none there.named _ there.begins

  pub rests : IsRested stored → RestsAt log stored.root.checkpoint
  rests rested =
      let named : there.named ≡ [] = none_named there.named (λ t. there.names.firsts t ∙ ap (first_in t) rested.none_listed) in
      let after : there.after ≡ [] = no_more there.first rested.record_only there.after (sym there.newer ∙ rested.alone) in
      let last : stored.root.checkpoint + record_size (records.Checkpoint there.named) ≡ log.end = subst (λ (ls : List Logged). ArePlaced (stored.root.checkpoint + record_size (records.Checkpoint there.named)) (as_bytes ls) log.end) after there.placed in
      let begins = subst (λ (n : ℕ). BeginsWith (bytes_from log stored.root.checkpoint) (records.Checkpoint there.named) (bytes_from log n)) last there.begins in
      record {
        begins = subst (λ (marks : List (ℕ × ℕ)). BeginsWith (bytes_from log stored.root.checkpoint) (records.Checkpoint marks) (bytes_from log log.end)) named begins;
        last = sym last ∙ ap (λ (marks : List (ℕ × ℕ)). stored.root.checkpoint + record_size (records.Checkpoint marks)) named;
      }

  pub rested : RestsAt log stored.root.checkpoint → IsRested stored
  rested is =
      let same = one_front (records.Checkpoint there.named) (records.Checkpoint []) _ _ there.begins.spellable is.begins.spellable (sym there.begins.is ∙ is.begins.is) in
      let named : there.named ≡ [] = same_marks there.named [] same.0 in
      let last : log.end ≡ stored.root.checkpoint + record_size (records.Checkpoint there.named) = is.last ∙ ap (λ (marks : List (ℕ × ℕ)). stored.root.checkpoint + record_size (records.Checkpoint marks)) (sym named) in
      record {
        record_only = there.first;
        alone = there.newer ∙ ap (λ (ls : List Logged). there.first ∷ ls) (none_behind _ _ there.after there.placed last);
        none_listed = none_listed (listed_at stored) (λ t. sym (there.names.firsts t) ∙ ap (named_in t) named);
      }
