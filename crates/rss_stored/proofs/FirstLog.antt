-- The first log: it has one record, and the tables of its checkpoint are recovered.
use Rattle.std.proofs.Common.{◌≡◌, ℕ, ◌+◌, true, List, [], ◌∷◌, Option, refl, sym, ◌∙◌, ap, arith}
use Rattle.std.proofs.lemmas.List.Elements.{All-from_recursion}
use Rattle.std.specs.List.{AllByRecursion}
use Rattle.rss_base.specs.DiskRule.{Pages}
use Rattle.rss_base.specs.Layout.{log_at}
use Rattle.rss_base.specs.Listings.{Listing}
use Rattle.rss_base.specs.LogRecords as bytes
use Rattle.rss_base.specs.LogRecords.{record_size, ArePlaced, Parses}
use Rattle.rss_base.specs.LogPages.{log_from, log_bytes}
use Rattle.rss_base.specs.declared.key.PageKey.{PageKey}
use Rattle.rss_base.specs.declared.log_record.LogRecord.{LogRecord}
use Rattle.rss_base.specs.declared.log_record.LogRecord.TheVariants as records
use Rattle.rss_base.specs.declared.root.Root.{Root}
use Rattle.rss_record.proofs.Parsing.{some_bytes, placed_length}
use Rattle.rss_model.specs.Tables.{Contents, Tables}
use Rattle.rss_model.specs.Fits.{Fits}
use Rattle.rss_model.specs.Records.{LogEntry, Checkpoint}
use Rattle.rss_model.specs.Recovers.{Recovers}
use Rattle.rss_model.specs.Meanings.{Logged, as_bytes, as_entries, Says, says_change, says_restore, says_end, says_abort, says_checkpoint, MeansIt, IsLogged, is_listed}
use Rattle.rss_stored.specs.Store.{Stored, HasLog}
use Rattle.rss_stored.proofs.LogPlaced.{told_at}

-- ---- a root with the first log

-- the log of a root as it is made: it has one record, of a checkpoint at which no transaction is open
pub record HasFirstLog (root : Root) : Type 0 where
  pub head : root.head ≡ 0
  pub checkpoint : root.checkpoint ≡ 0
  pub end : root.end ≡ 2
  pub tail : root.tail ≡ 9 ∷ 0 ∷ []

-- the record of the first log
abbrev pub first_record : Logged
first_record = record { at = 0; told = records.Checkpoint []; is = Checkpoint [] }

-- a store with the first log, by which the tables of its checkpoint are recovered
abbrev pub first_stored : ℕ → Root → List (Option PageKey) → Listing → Tables → Stored
first_stored number root owners listing tables = record {
  number = number;
  root = root;
  owners = owners;
  listing = listing;
  saved = tables;
  older = [];
  newer = first_record ∷ [];
  tables = tables;
}

pub first_parses : (pages : Pages) (root : Root) → HasFirstLog root → Parses (log_bytes pages root) root.head (as_bytes (first_record ∷ [])) root.end
first_parses pages root first = record {
  spells = λ i. log_from pages (log_at root.slots) root.log_pages (first.head i) (first.end i) (first.tail i);
  placed = (sym first.head, record { bounded = omega arith; fits = tt }, omega (arith, first.head, first.end));
}

first_logged : (listing : Listing) → IsLogged listing [] [] (first_record ∷ [])
first_logged listing = record {
  say = All-from_recursion (λ (l : Logged). Says listing l.told l.is) (first_record ∷ []) (says_checkpoint, tt);
  listed = All-from_recursion (λ (l : Logged). is_listed l.at [] ≡ true → MeansIt listing l.told l.is) [] tt;
  later = ((λ never. tt), tt);
}

first_recovers : (contents : Contents) → Recovers contents [] (as_entries (first_record ∷ [])) contents
first_recovers contents = record {
  begins = (record { rising = tt; firsts = λ t. refl }, tt);
  lone = (tt, tt);
  undoes = tt;
  redoes = (tt, tt);
  is = refl;
}

-- with tables that fit it has a log
pub first_log : (pages : Pages) (number : ℕ) (root : Root) (owners : List (Option PageKey)) (listing : Listing) (tables : Tables) → HasFirstLog root → Fits root.slots tables → HasLog pages (first_stored number root owners listing tables)
first_log pages number root owners listing tables first fit = record {
  parses = first_parses pages root first;
  checkpoint = first.head ∙ sym first.checkpoint;
  logged = first_logged listing;
  recovers = first_recovers tables.contents;
  way = record { undo = fit; redo = (fit, fit) };
  definitions = refl;
}

-- a log of that one record is the first one
pub first_of : {pages : Pages} {number : ℕ} {root : Root} {owners : List (Option PageKey)} {listing : Listing} {tables : Tables} → HasLog pages (first_stored number root owners listing tables) → HasFirstLog root
first_of {pages = pages} {root = root} log =
    let head : root.head ≡ 0 = sym log.parses.placed.0 in
    let end : root.end ≡ 2 = omega (arith, head, log.parses.placed.2) in
    record {
      head = head;
      checkpoint = sym log.checkpoint ∙ head;
      end = end;
      tail = (λ i. log_from pages (log_at root.slots) root.log_pages (sym head i) (sym end i) root.tail) ∙ log.parses.spells;
    }

-- ---- a store with the first log

says_first : {listing : Listing} {r : LogRecord} {e : LogEntry} → Says listing r e → r ≡ records.Checkpoint [] → e ≡ Checkpoint []
says_first (says_change one) is = absurd (cc (is))
says_first says_restore is = absurd (cc (is))
says_first says_end is = absurd (cc (is))
says_first says_abort is = absurd (cc (is))
says_first (says_checkpoint {marks = marks}) is = let same : marks ≡ [] = cc (is) in ap Checkpoint same

none_before : (head until : ℕ) (older : List Logged) → ArePlaced head (as_bytes older) until → head ≡ until → older ≡ []
none_before head until [] placed same = refl
none_before head until (l ∷ older) placed same = absurd (omega (arith, same, some_bytes l.told, placed_length (head + record_size l.told) until (as_bytes older) placed.2))

one_record : (listing : Listing) (newer : List Logged) → AllByRecursion (λ l. Says listing l.told l.is) newer → as_bytes newer ≡ as_bytes (first_record ∷ []) → newer ≡ first_record ∷ []
one_record listing [] say same = absurd (cc (same))
one_record listing (l ∷ m ∷ rest) say same = absurd (cc (same))
one_record listing (l ∷ []) say same =
    let first : told_at l ≡ told_at first_record = cc (same) in
    let told : l.told ≡ records.Checkpoint [] = ap (λ (p : bytes.Placed). p.is) first in
    let at : l.at ≡ 0 = ap (λ (p : bytes.Placed). p.at) first in
    let entry : l.is ≡ Checkpoint [] = says_first say.0 told in
    λ i. record { at = at i; told = told i; is = entry i } ∷ []
