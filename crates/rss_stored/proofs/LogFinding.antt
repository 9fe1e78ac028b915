-- A change that is listed stands in the log at its position, and its record means something.
use Rattle.std.proofs.Common.{◌≡◌, ◌⊎◌, inl, inr, ⊎_elim, ℕ, suc, ◌+◌, ◌<◌, ◌≤◌, List, [], ◌∷◌, ◌++◌, refl, sym, ◌∙◌, ap, subst, arith}
use Rattle.std.specs.Prelude.{Bool, true, not, ◌==◌, Contains}
use Rattle.std.specs.List.{list_any}
use Rattle.std.proofs.lemmas.Bool.{eqb-true}
use Rattle.rss_base.specs.LogRecords.{ArePlaced, IsSpellable, record_size}
use Rattle.rss_base.specs.Listings.{Listing}
use Rattle.rss_record.proofs.Parsing.{some_bytes, placed_length, placed_split}
use Rattle.rss_model.specs.Records.{LogEntry, Changed, Restore, End, Abort, Checkpoint, Placed, Listed, is_by, is_cut, listed, list_after}
use Rattle.rss_model.specs.Meanings.{Logged, as_bytes, as_entries, MeansIt, is_listed}
use Rattle.rss_model.specs.Ties.{newer}
use Rattle.rss_model.specs.EngineLogs.{EngineLog, newer_logged, all_logged, entries_of, lists_saved, lists_now, AreOwn}
use Rattle.rss_model.proofs.LogLists.{by_test}
use Rattle.rss_stored.proofs.LogPlaced.{bytes_append, entries_append}
use Rattle.rss_model.proofs.LogAppending.{list_after-append}
use Rattle.rss_model.proofs.Mixing.{In, each_of, in_filter, in_parts}

-- ---- elements

module _ {A : Type 0} where
  pub contains_in : (xs : List A) (a : A) → In a xs → Contains xs a
  contains_in [] a is = absurd is
  contains_in (x ∷ xs) a (inl e) = (0, omega arith, e)
  contains_in (x ∷ xs) a (inr is) = let rest = contains_in xs a is in (suc rest.0, omega (arith, rest.1), rest.2)

  -- one that passes a test
  pub any_of : (p : A → Bool) (xs : List A) → list_any p xs ≡ true → (a : A) × In a xs × (p a ≡ true)
  any_of p [] some = absurd (cc (some))
  any_of p (x ∷ xs) some = by_test (p x)
      (λ e. (x, inl refl, e))
      (λ e. let rest = any_of p xs (simp e at some) in (rest.0, inr rest.1, rest.2))

  pub of_any : (p : A → Bool) (xs : List A) (a : A) → In a xs → p a ≡ true → list_any p xs ≡ true
  of_any p [] a is e = absurd is
  of_any p (x ∷ xs) a (inl same) e = let here : p x ≡ true = ap p same ∙ e in simp here
  of_any p (x ∷ xs) a (inr is) e = by_test (p x) (λ f. simp f) (λ f. simp f (of_any p xs a is e))

-- ---- where records stand

-- from their first position on, and before their end
pub stands_in : (from until : ℕ) (ls : List Logged) (m : Logged) → ArePlaced from (as_bytes ls) until → In m ls → (from ≤ m.at) × (m.at < until) × IsSpellable m.told
stands_in from until [] m placed is = absurd is
stands_in from until (l ∷ ls) m placed (inl e) =
    let at : m.at ≡ from = sym (ap (λ (k : Logged). k.at) e) ∙ placed.0 in (
      omega arith,
      omega (arith, some_bytes l.told, placed_length (from + record_size l.told) until (as_bytes ls) placed.2),
      subst (λ (k : Logged). IsSpellable k.told) e placed.1,
    )
stands_in from until (l ∷ ls) m placed (inr is) =
    let rest = stands_in (from + record_size l.told) until ls m placed.2 is in
    (omega (arith, rest.0), rest.1, rest.2)

-- ---- where listed changes come from

-- a record says this change, at its position
pub record StandsIn (ls : List Logged) (k : Listed) : Type 0 where
  pub logged : Logged
  pub there : In logged ls
  pub at : logged.at ≡ k.at
  pub is : logged.is ≡ Changed k.change

further : (l : Logged) (ls : List Logged) (k : Listed) → StandsIn ls k → StandsIn (l ∷ ls) k
further l ls k stands = record { logged = stands.logged; there = inr stands.there; at = stands.at; is = stands.is }

from_record : (k : Listed) (lists : List Listed) (l : Logged) (ls : List Logged) (entry : LogEntry) → l.is ≡ entry → In k (listed lists l.at entry) → In k lists ⊎ StandsIn (l ∷ ls) k
from_record k lists l ls (Changed c) is (inl e) = inr (record { logged = l; there = inl refl; at = ap (λ (m : Listed). m.at) e; is = is ∙ ap (λ (m : Listed). Changed m.change) e })
from_record k lists l ls (Changed c) is (inr old) = inl old
from_record k lists l ls (Restore t first) is old = inl (in_filter (λ m. not (is_cut t first m)) lists k old).0
from_record k lists l ls (End t) is old = inl (in_filter (λ m. not (is_by t m)) lists k old).0
from_record k lists l ls (Abort t) is old = inl (in_filter (λ m. not (is_by t m)) lists k old).0
from_record k lists l ls (Checkpoint named) is old = inl old

pub listed_from : (k : Listed) (lists : List Listed) (ls : List Logged) → In k (list_after lists (as_entries ls)) → In k lists ⊎ StandsIn ls k
listed_from k lists [] is = inl is
listed_from k lists (l ∷ ls) is = ⊎_elim
    (λ old. from_record k lists l ls l.is refl old)
    (λ stands. inr (further l ls k stands))
    (listed_from k (listed lists l.at l.is) ls is)

-- ---- the log of an engine

module _ (listing : Listing) (log : EngineLog) (placed : ArePlaced log.head (as_bytes (all_logged log)) log.end) where
  abbrev all_entries : lists_now log ≡ list_after (lists_saved log) (as_entries (newer_logged log))
  all_entries =
      list_after-append [] (as_entries log.older) (newer (entries_of log))
      ∙ ap (list_after (lists_saved log)) (sym (entries_append log.written log.pending))

  -- what is listed now stands in it
  pub stands_now : (k : Listed) → In k (lists_now log) → StandsIn (all_logged log) k
  stands_now k is =
      let all : lists_now log ≡ list_after [] (as_entries (all_logged log)) =
      ap (λ (ps : List Placed). list_after [] (as_entries log.older ++ ps)) (sym (entries_append log.written log.pending))
      ∙ ap (list_after []) (sym (entries_append log.older (newer_logged log))) in
      ⊎_elim (λ (none : ⊥). absurd none) (λ stands. stands) (listed_from k [] (all_logged log) (subst (In k) all is))

  -- no newer record stands where an older one does
  apart : (m n : Logged) → In m log.older → In n (newer_logged log) → n.at ≡ m.at → ⊥
  apart m n old new same =
      let split = placed_split log.head log.end (as_bytes log.older) (as_bytes (newer_logged log)) (subst (λ ps. ArePlaced log.head ps log.end) (bytes_append log.older (newer_logged log)) placed) in
      let before = stands_in log.head split.0 log.older m split.1.0 old in
      let behind = stands_in split.0 log.end (newer_logged log) n split.1.1 new in
      let less : m.at < split.0 = before.1 in
      let more : split.0 ≤ n.at = behind.0 in
      omega arith

  -- so an older one was listed at the checkpoint where it is now
  still_listed : (m : Logged) → In m log.older → is_listed m.at (lists_now log) ≡ true → is_listed m.at (lists_saved log) ≡ true
  still_listed m old now =
      let found = any_of (λ (l : Listed). l.at == m.at) (lists_now log) now in
      let at : found.0.at ≡ m.at = eqb-true found.0.at m.at found.2 in
      ⊎_elim
      (λ there. of_any (λ (l : Listed). l.at == m.at) (lists_saved log) found.0 there found.2)
      (λ (stands : StandsIn (newer_logged log) found.0). absurd (apart m stands.logged old stands.there (stands.at ∙ at)))
      (listed_from found.0 (lists_saved log) (newer_logged log) (subst (In found.0) all_entries found.1))

  -- and what is listed now means something
  pub means_now : AreOwn listing log → (m : Logged) → In m (all_logged log) → is_listed m.at (lists_now log) ≡ true → MeansIt listing m.told m.is
  means_now own m is now = ⊎_elim
      (λ old. each_of (λ (l : Logged). is_listed l.at (lists_saved log) ≡ true → MeansIt listing l.told l.is) log.older own.listed m old (still_listed m old now))
      (λ new. each_of (λ (l : Logged). MeansIt listing l.told l.is) (newer_logged log) own.newer m new)
      (in_parts log.older (newer_logged log) m is)
