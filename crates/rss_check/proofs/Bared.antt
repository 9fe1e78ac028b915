-- What the records of a log say of transactions and items is told by their bytes, whatever the items held.
use Rattle.std.proofs.Common.{◌≡◌, ℕ, List, [], ◌∷◌, ◌++◌, length, refl, sym, ◌∙◌, ap, subst, arith}
use Rattle.std.specs.Prelude.{Bool, None, not, ◌&&◌, ◌==◌, nat_le, filter, map, count_by}
use Rattle.std.specs.List.{AllByRecursion}
use Rattle.std.proofs.lemmas.List.{length-map}
use Rattle.std.proofs.lemmas.List.Sums.{sum_by-cons}
use Rattle.rss_base.specs.declared.item.Item.{Item}
use Rattle.rss_base.specs.declared.log_record.LogRecord.{LogRecord}
use Rattle.rss_base.specs.LogRecords as bytes
use Rattle.rss_base.specs.Listings.{Listing}
use Rattle.rss_base.specs.declared.name.Name.{Name}
use Rattle.rss_model.specs.Changes.{Change}
use Rattle.rss_model.specs.Meter.{counts_for, changes_of}
use Rattle.rss_model.specs.Records.{LogEntry, Changed, Restore, End, Abort, Checkpoint, Placed, Listed, changes_in, listed, list_after}
use Rattle.rss_model.specs.Restart.{OnlyBy, Lone, LoneAlong}
use Rattle.rss_model.specs.Meanings.{Logged, as_bytes, as_entries, Says, says_change, says_restore, says_end, says_abort, says_checkpoint, is_change, is_change_of}
use Rattle.rss_model.proofs.Counts.{one_if}
use Rattle.rss_model.proofs.LogLists.{by_test}
use Rattle.rss_stored.proofs.LogPlaced.{told_at}

-- ---- without contents

abbrev bare : Change → Change
bare change = record change { old = None; new = None }

abbrev bare_entry : LogEntry → LogEntry
bare_entry (Changed change) = Changed (bare change)
bare_entry (Restore t first) = Restore t first
bare_entry (End t) = End t
bare_entry (Abort t) = Abort t
bare_entry (Checkpoint named) = Checkpoint named

abbrev bare_placed : Placed → Placed
bare_placed p = record { at = p.at; is = bare_entry p.is }

abbrev bare_listed : Listed → Listed
bare_listed l = record { at = l.at; change = bare l.change }

-- the records of a log, without contents
abbrev pub bared : List Logged → List Placed
bared logged = map bare_placed (as_entries logged)

-- ---- the same bytes

abbrev pub AllSay : Listing → List Logged → Type 0
AllSay listing ls = AllByRecursion (λ (l : Logged). Says listing l.told l.is) ls

says_twice : {listing : Listing} {r : LogRecord} {e f : LogEntry} → Says listing r e → Says listing r f → bare_entry e ≡ bare_entry f
says_twice (says_change one) (says_change other) =
    let by = one.maker ∙ sym other.maker in
    let item = one.item ∙ sym other.item in
    λ i. Changed (record { by = by i; item = item i; old = None; new = None })
says_twice says_restore says_restore = refl
says_twice says_end says_end = refl
says_twice says_abort says_abort = refl
says_twice says_checkpoint says_checkpoint = refl

pub bytes_twice : (listing : Listing) (xs ys : List Logged) → as_bytes xs ≡ as_bytes ys → AllSay listing xs → AllSay listing ys → bared xs ≡ bared ys
bytes_twice listing [] [] same say say_too = refl
bytes_twice listing [] (b ∷ ys) same say say_too = absurd (cc (same))
bytes_twice listing (a ∷ xs) [] same say say_too = absurd (cc (same))
bytes_twice listing (a ∷ xs) (b ∷ ys) same say say_too =
    let first : told_at a ≡ told_at b = cc (same) in
    let rest : as_bytes xs ≡ as_bytes ys = cc (same) in
    let at = ap (λ (p : bytes.Placed). p.at) first in
    let told_is = ap (λ (p : bytes.Placed). p.is) first in
    let is = says_twice say.0 (subst (λ (r : LogRecord). Says listing r b.is) (sym told_is) say_too.0) in
    let later = bytes_twice listing xs ys rest say.1 say_too.1 in
    λ i. record { at = at i; is = is i } ∷ later i

-- ---- lists

filter_bare : (p : ℕ → ℕ → Bool) (ls : List Listed) → map bare_listed (filter (λ (l : Listed). p l.change.by l.at) ls) ≡ filter (λ (l : Listed). p l.change.by l.at) (map bare_listed ls)
filter_bare p [] = refl
filter_bare p (l ∷ ls) = by_test (p l.change.by l.at)
    (λ e. rw e (ap (λ (ks : List Listed). bare_listed l ∷ ks) (filter_bare p ls)))
    (λ e. rw e (filter_bare p ls))

listed_bare : (ls : List Listed) (at : ℕ) (e : LogEntry) → map bare_listed (listed ls at e) ≡ listed (map bare_listed ls) at (bare_entry e)
listed_bare ls at (Changed change) = refl
listed_bare ls at (Restore t first) = filter_bare (λ by position. not ((by == t) && nat_le first position)) ls
listed_bare ls at (End t) = filter_bare (λ by position. not (by == t)) ls
listed_bare ls at (Abort t) = filter_bare (λ by position. not (by == t)) ls
listed_bare ls at (Checkpoint named) = refl

after_bare : (ls : List Listed) (ps : List Placed) → map bare_listed (list_after ls ps) ≡ list_after (map bare_listed ls) (map bare_placed ps)
after_bare ls [] = refl
after_bare ls (p ∷ ps) = after_bare (listed ls p.at p.is) ps ∙ ap (λ (ks : List Listed). list_after ks (map bare_placed ps)) (listed_bare ls p.at p.is)

-- the lists of the same records
pub lists_twice : (ps qs : List Placed) → map bare_placed ps ≡ map bare_placed qs → map bare_listed (list_after [] ps) ≡ map bare_listed (list_after [] qs)
lists_twice ps qs same = after_bare [] ps ∙ ap (list_after []) same ∙ sym (after_bare [] qs)

-- ---- whose changes an item has

only_to : (t : ℕ) (item : Item) (ls : List Listed) → OnlyBy t item (changes_in ls) → OnlyBy t item (changes_in (map bare_listed ls))
only_to t item [] is = tt
only_to t item (l ∷ ls) is = (is.0, only_to t item ls is.1)

only_back : (t : ℕ) (item : Item) (ls : List Listed) → OnlyBy t item (changes_in (map bare_listed ls)) → OnlyBy t item (changes_in ls)
only_back t item [] is = tt
only_back t item (l ∷ ls) is = (is.0, only_back t item ls is.1)

lone_to : (ls : List Listed) → Lone (changes_in ls) → Lone (changes_in (map bare_listed ls))
lone_to [] is = tt
lone_to (l ∷ ls) is = (only_to l.change.by l.change.item ls is.0, lone_to ls is.1)

lone_back : (ls : List Listed) → Lone (changes_in (map bare_listed ls)) → Lone (changes_in ls)
lone_back [] is = tt
lone_back (l ∷ ls) is = (only_back l.change.by l.change.item ls is.0, lone_back ls is.1)

along_to : (ls : List Listed) (ps : List Placed) → LoneAlong ls ps → LoneAlong (map bare_listed ls) (map bare_placed ps)
along_to ls [] is = lone_to ls is
along_to ls (p ∷ ps) is = (lone_to ls is.0, subst (λ (ks : List Listed). LoneAlong ks (map bare_placed ps)) (listed_bare ls p.at p.is) (along_to (listed ls p.at p.is) ps is.1))

along_back : (ls : List Listed) (ps : List Placed) → LoneAlong (map bare_listed ls) (map bare_placed ps) → LoneAlong ls ps
along_back ls [] is = lone_back ls is
along_back ls (p ∷ ps) is = (lone_back ls is.0, along_back (listed ls p.at p.is) ps (subst (λ (ks : List Listed). LoneAlong ks (map bare_placed ps)) (sym (listed_bare ls p.at p.is)) is.1))

pub along_twice : (ps qs : List Placed) → map bare_placed ps ≡ map bare_placed qs → LoneAlong [] ps → LoneAlong [] qs
along_twice ps qs same is = along_back [] qs (subst (LoneAlong []) same (along_to [] ps is))

-- after the first records
pub lone_at : (ls : List Listed) (xs ys : List Placed) → LoneAlong ls (xs ++ ys) → Lone (changes_in (list_after ls xs))
lone_at ls [] [] is = is
lone_at ls [] (y ∷ ys) is = is.0
lone_at ls (x ∷ xs) ys is = lone_at (listed ls x.at x.is) xs ys is.1

-- ---- counts

pub long_twice : (ls ks : List Listed) → map bare_listed ls ≡ map bare_listed ks → length ls ≡ length ks
long_twice ls ks same = sym (length-map ls bare_listed) ∙ ap length same ∙ length-map ks bare_listed

of_bare : (relation : Name) (ls : List Listed) → changes_of (changes_in (map bare_listed ls)) relation ≡ changes_of (changes_in ls) relation
of_bare relation [] = refl
of_bare relation (l ∷ ls) = omega (
  arith,
  sum_by-cons (λ (c : Change). one_if (counts_for c.item relation)) (bare l.change) (changes_in (map bare_listed ls)),
  sum_by-cons (λ (c : Change). one_if (counts_for c.item relation)) l.change (changes_in ls),
  of_bare relation ls,
)

pub of_twice : (relation : Name) (ls ks : List Listed) → map bare_listed ls ≡ map bare_listed ks → changes_of (changes_in ls) relation ≡ changes_of (changes_in ks) relation
of_twice relation ls ks same = sym (of_bare relation ls) ∙ ap (λ (ms : List Listed). changes_of (changes_in ms) relation) same ∙ of_bare relation ks

-- a test of records that reads no contents
module _ (test : LogEntry → Bool) (blind : (e : LogEntry) → test (bare_entry e) ≡ test e) where
  counted_bare : (xs : List Logged) → count_by (λ (l : Logged). test l.is) xs ≡ count_by (λ (p : Placed). test p.is) (bared xs)
  counted_bare [] = refl
  counted_bare (x ∷ xs) = omega (
    arith,
    sum_by-cons (λ (l : Logged). one_if (test l.is)) x xs,
    sum_by-cons (λ (p : Placed). one_if (test p.is)) (record { at = x.at; is = bare_entry x.is }) (bared xs),
    ap one_if (blind x.is),
    counted_bare xs,
  )

  counted_twice : (xs ys : List Logged) → bared xs ≡ bared ys → count_by (λ (l : Logged). test l.is) xs ≡ count_by (λ (l : Logged). test l.is) ys
  counted_twice xs ys same = counted_bare xs ∙ ap (count_by (λ (p : Placed). test p.is)) same ∙ sym (counted_bare ys)

pub changes_twice : (xs ys : List Logged) → bared xs ≡ bared ys → count_by (λ (l : Logged). is_change l.is) xs ≡ count_by (λ (l : Logged). is_change l.is) ys
changes_twice = counted_twice is_change blind
  where
    blind : (e : LogEntry) → is_change (bare_entry e) ≡ is_change e
    blind (Changed change) = refl
    blind (Restore t first) = refl
    blind (End t) = refl
    blind (Abort t) = refl
    blind (Checkpoint named) = refl

pub changes_of_twice : (relation : Name) (xs ys : List Logged) → bared xs ≡ bared ys → count_by (λ (l : Logged). is_change_of relation l.is) xs ≡ count_by (λ (l : Logged). is_change_of relation l.is) ys
changes_of_twice relation = counted_twice (is_change_of relation) blind
  where
    blind : (e : LogEntry) → is_change_of relation (bare_entry e) ≡ is_change_of relation e
    blind (Changed change) = refl
    blind (Restore t first) = refl
    blind (End t) = refl
    blind (Abort t) = refl
    blind (Checkpoint named) = refl
