-- The same bytes are read in one way: what two readings make of a change is the same where it is undone or done again.
use Rattle.std.proofs.Common.{◌≡◌, ℕ, Bool, true, false, List, [], ◌∷◌, ◌++◌, refl, sym, ◌∙◌, ap, subst}
use Rattle.std.specs.Prelude.{not, ◌&&◌, ◌==◌, nat_le, filter, Option, Some, None}
use Rattle.std.specs.List.{AllByRecursion}
use Rattle.std.proofs.lemmas.Bool.{eq-eqb}
use Rattle.std.proofs.lemmas.List.Elements.{recursion_from_All}
use Rattle.std.proofs.lemmas.Option.{same_Some}
use Rattle.rss_base.specs.declared.tid.Tid.{Tid}
use Rattle.rss_base.specs.declared.value.Value.{Value}
use Rattle.rss_base.specs.declared.relation.RelationEntry.{RelationEntry}
use Rattle.rss_base.specs.declared.change.Change as told
use Rattle.rss_base.specs.declared.change.Change.TheVariants.{Insert, Delete, Update, Connect, Disconnect}
use Rattle.rss_base.specs.declared.log_record.LogRecord.{LogRecord}
use Rattle.rss_base.specs.LogRecords as bytes
use Rattle.rss_base.specs.Prefixes.{is_tid}
use Rattle.rss_base.specs.TupleTypes.{kinds, misfit, tuple_bytes}
use Rattle.rss_base.specs.Listings.{Listing}
use Rattle.rss_model.specs.Items.{Content, Values}
use Rattle.rss_model.specs.Tables.{Contents, content}
use Rattle.rss_model.specs.Chains.{tuples_in, chain_content, stands_in, with_behind, without}
use Rattle.rss_model.specs.Changes.{Change, undo, undone, apply}
use Rattle.rss_model.specs.Records.{LogEntry, Listed, changes_in, listed, list_after}
use Rattle.rss_model.specs.Restart.{survives_by, survives, stays, losers, redo, redone, restarted, UndoFinds, FindsOld, RedoFinds}
use Rattle.rss_model.specs.Recovers.{lists_at}
use Rattle.rss_model.specs.Meanings.{Logged, as_bytes, as_entries, Says, says_change, says_restore, says_end, says_abort, says_checkpoint, TellsValues, TellsPlace, Means, MeansIt, is_listed, is_redone, RedoneMean, IsLogged}
use Rattle.rss_model.proofs.LogLists.{by_test, filter_same, false_true, all_front, all_back}
use Rattle.rss_stored.proofs.LogPlaced.{told_at}
use Rattle.rss_stored.proofs.Spelled.{tuple_bytes_same}
use Rattle.rss_model.proofs.Standing.{tid_itself, tid_same, or_first, or_second, or_none}

-- ---- what is told of values

values_once : {listing : Listing} {number : ℕ} {spelled : List ℕ} {a b : Option Content} → TellsValues listing number spelled a → TellsValues listing number spelled b → a ≡ b
values_once one other =
    let relation : one.relation ≡ other.relation = same_Some _ _ (sym one.at ∙ other.at) in
    let fit : misfit (kinds one.relation.fields) other.values ≡ None = ap (λ (r : RelationEntry). misfit (kinds r.fields) other.values) relation ∙ other.spells.fit in
    let values : one.values ≡ other.values = tuple_bytes_same 1 (kinds one.relation.fields) one.values other.values one.spells.fit fit one.spells.storable other.spells.storable (sym one.spells.same ∙ other.spells.same ∙ ap (λ (r : RelationEntry). tuple_bytes (kinds r.fields) other.values) (sym relation)) in
    one.is ∙ ap (λ (v : List Value). Some (Values v)) values ∙ sym other.is

-- ---- what is told of places in chains

tuples_of : (tids : List Tid) → tuples_in (chain_content tids) ≡ tids
tuples_of [] = refl
tuples_of (tid ∷ tids) = refl

content_once : (a b : List Tid) → chain_content a ≡ chain_content b → a ≡ b
content_once a b same = sym (tuples_of a) ∙ ap tuples_in same ∙ tuples_of b

apart_first : (child tid : Tid) (tids : List Tid) → stands_in child (tid ∷ tids) ≡ false → (is_tid tid child ≡ false) × (stands_in child tids ≡ false)
apart_first child tid tids off =
    let parts = or_none (is_tid child tid) (stands_in child tids) off in
    (by_test (is_tid tid child) (λ e. false_true (turned tid child e) parts.0) (λ e. e), parts.1)
  where
    turned : (a b : Tid) → is_tid a b ≡ true → is_tid b a ≡ true
    turned a b e = subst (λ (c : Tid). is_tid c a ≡ true) (tid_same a b e) (tid_itself a)

-- a tuple that comes and goes leaves the chain as it was
off_again : (child : Tid) (tids : List Tid) → stands_in child tids ≡ false → without child tids ≡ tids
off_again child [] off = refl
off_again child (tid ∷ tids) off =
    let parts = apart_first child tid tids off in
    let other : is_tid tid child ≡ false = parts.0 in
    rw other (ap (λ (l : List Tid). tid ∷ l) (off_again child tids parts.1))

without_behind : (left : Option Tid) (child : Tid) (tids : List Tid) → stands_in child tids ≡ false → without child (with_behind left child tids) ≡ tids
without_behind None child tids off = let here : is_tid child child ≡ true = tid_itself child in rw here (off_again child tids off)
without_behind (Some left) child [] off = let here : is_tid child child ≡ true = tid_itself child in rw here
without_behind (Some left) child (tid ∷ tids) off =
    let here : is_tid child child ≡ true = tid_itself child in
    let parts = apart_first child tid tids off in
    let other : is_tid tid child ≡ false = parts.0 in
    by_test (is_tid tid left)
    (λ e. rw (e, other, here) (ap (λ (l : List Tid). tid ∷ l) (off_again child tids parts.1)))
    (λ e. rw (e, other) (ap (λ (l : List Tid). tid ∷ l) (without_behind (Some left) child tids parts.1)))

module _ {listing : Listing} {number : ℕ} {parent left : Option Tid} {child : Tid} {off on off_too on_too : Option Content} (one : TellsPlace listing number parent child left off on) (other : TellsPlace listing number parent child left off_too on_too) where
  place_on : off ≡ off_too → on ≡ on_too
  place_on same =
      let tids : one.tids ≡ other.tids = content_once one.tids other.tids (sym one.without ∙ same ∙ other.without) in
      one.with ∙ ap (λ (l : List Tid). chain_content (with_behind left child l)) tids ∙ sym other.with

  place_off : on ≡ on_too → off ≡ off_too
  place_off same =
      let both : with_behind left child one.tids ≡ with_behind left child other.tids = content_once _ _ (sym one.with ∙ same ∙ other.with) in
      let tids : one.tids ≡ other.tids = sym (without_behind left child one.tids one.apart) ∙ ap (without child) both ∙ without_behind left child other.tids other.apart in
      one.without ∙ ap chain_content tids ∙ sym other.without

-- ---- what is told of changes

-- where both find the same new content, they tell the same old one, and the other way round
old_once : (listing : Listing) (change : told.Change) (a b : Change) → Means listing change a → Means listing change b → a.new ≡ b.new → a.old ≡ b.old
old_once listing (Insert relation tid values) a b one other same = one.0 ∙ sym other.0
old_once listing (Delete relation tid values) a b one other same = values_once one.0 other.0
old_once listing (Update relation tid old new) a b one other same = values_once one.0 other.0
old_once listing (Connect link parent child left) a b one other same = place_off one other same
old_once listing (Disconnect link parent child left) a b one other same = place_on one other same

new_once : (listing : Listing) (change : told.Change) (a b : Change) → Means listing change a → Means listing change b → a.old ≡ b.old → a.new ≡ b.new
new_once listing (Insert relation tid values) a b one other same = values_once one.1 other.1
new_once listing (Delete relation tid values) a b one other same = one.1 ∙ sym other.1
new_once listing (Update relation tid old new) a b one other same = values_once one.1 other.1
new_once listing (Connect link parent child left) a b one other same = place_on one other same
new_once listing (Disconnect link parent child left) a b one other same = place_off one other same

-- ---- two readings of a list of changes

-- of one change, each of which means what was told if it is in these lists
record Twin (listing : Listing) (lists others : List Listed) (l k : Listed) : Type 0 where
  at : l.at ≡ k.at
  by : l.change.by ≡ k.change.by
  item : l.change.item ≡ k.change.item
  told_is : told.Change
  one : is_listed l.at lists ≡ true → Means listing told_is l.change
  other : is_listed k.at others ≡ true → Means listing told_is k.change

module _ (listing : Listing) (lists others : List Listed) where
  abbrev Twins : List Listed → List Listed → Type 0
  Twins [] [] = Unit {0}
  Twins [] (k ∷ ks) = ⊥
  Twins (l ∷ ls) [] = ⊥
  Twins (l ∷ ls) (k ∷ ks) = Twin listing lists others l k × Twins ls ks

  -- parts by a test of the transaction and the position
  twins_part : (p : ℕ → ℕ → Bool) (ls ks : List Listed) → Twins ls ks → Twins (filter (λ l. p l.change.by l.at) ls) (filter (λ l. p l.change.by l.at) ks)
  twins_part p [] [] twins = tt
  twins_part p [] (k ∷ ks) twins = absurd twins
  twins_part p (l ∷ ls) [] twins = absurd twins
  twins_part p (l ∷ ls) (k ∷ ks) twins =
      let same : p l.change.by l.at ≡ p k.change.by k.at = λ i. p (twins.0.by i) (twins.0.at i) in
      let rest = twins_part p ls ks twins.1 in
      by_test (p l.change.by l.at)
      (λ e. let f : p k.change.by k.at ≡ true = sym same ∙ e in rw (e, f) (twins.0, rest))
      (λ e. let f : p k.change.by k.at ≡ false = sym same ∙ e in rw (e, f) rest)

  -- after a record that was read twice
  twins_listed : {r : LogRecord} {e f : LogEntry} (at : ℕ) (ls ks : List Listed) → Says listing r e → Says listing r f → (is_listed at lists ≡ true → MeansIt listing r e) → (is_listed at others ≡ true → MeansIt listing r f) → Twins ls ks → Twins (listed ls at e) (listed ks at f)
  twins_listed at ls ks (says_change {told_change = change} one) (says_change other) means means_too twins =
      (record { at = refl; by = one.maker ∙ sym other.maker; item = one.item ∙ sym other.item; told_is = change; one = means; other = means_too }, twins)
  twins_listed at ls ks (says_restore {by = t} {position = first}) says_restore means means_too twins = twins_part (λ by position. not ((by == t) && nat_le first position)) ls ks twins
  twins_listed at ls ks (says_end {by = t}) says_end means means_too twins = twins_part (λ by position. not (by == t)) ls ks twins
  twins_listed at ls ks (says_abort {by = t}) says_abort means means_too twins = twins_part (λ by position. not (by == t)) ls ks twins
  twins_listed at ls ks says_checkpoint says_checkpoint means means_too twins = twins

  -- where both are undone in the same contents, they are the same
  twins_same : (ls ks : List Listed) → Twins ls ks → AllByRecursion (λ l. is_listed l.at lists ≡ true) ls → AllByRecursion (λ k. is_listed k.at others ≡ true) ks
      → (contents : Contents) → UndoFinds contents (changes_in ls) → UndoFinds contents (changes_in ks) → ls ≡ ks
  twins_same [] [] twins in_lists in_others contents finds finds_too = refl
  twins_same [] (k ∷ ks) twins in_lists in_others contents finds finds_too = absurd twins
  twins_same (l ∷ ls) [] twins in_lists in_others contents finds finds_too = absurd twins
  twins_same (l ∷ ls) (k ∷ ks) twins in_lists in_others contents finds finds_too =
      let twin = twins.0 in
      let new : l.change.new ≡ k.change.new = sym finds.0 ∙ ap (content contents) twin.item ∙ finds_too.0 in
      let old : l.change.old ≡ k.change.old = old_once listing twin.told_is l.change k.change (twin.one in_lists.0) (twin.other in_others.0) new in
      let same : l ≡ k = λ i. record { at = twin.at i; change = record { by = twin.by i; item = twin.item i; old = old i; new = new i } } in
      let rest : ls ≡ ks = twins_same ls ks twins.1 in_lists.1 in_others.1 (undo contents l.change) finds.1 (subst (λ (m : Listed). UndoFinds (undo contents m.change) (changes_in ks)) (sym same) finds_too.1) in
      λ i. same i ∷ rest i

-- each change of a list is in it
all_listed_in : (ls lists : List Listed) → ((at : ℕ) → is_listed at ls ≡ true → is_listed at lists ≡ true) → AllByRecursion (λ l. is_listed l.at lists ≡ true) ls
all_listed_in [] lists more = tt
all_listed_in (l ∷ ls) lists more = (
  more l.at (or_first (l.at == l.at) (is_listed l.at ls) (eq-eqb l.at l.at refl)),
  all_listed_in ls lists (λ at is. more at (or_second (l.at == at) (is_listed at ls) is)),
)

-- ---- two readings of the same bytes

abbrev AllSay : Listing → List Logged → Type 0
AllSay listing ls = AllByRecursion (λ l. Says listing l.told l.is) ls

abbrev AllMean : Listing → List Listed → List Logged → Type 0
AllMean listing lists ls = AllByRecursion (λ l. is_listed l.at lists ≡ true → MeansIt listing l.told l.is) ls

-- the first records and the others
record FirstSame (a b : Logged) (xs ys : List Logged) : Type 0 where
  at : a.at ≡ b.at
  told_is : a.told ≡ b.told
  rest : as_bytes xs ≡ as_bytes ys

first_same : (a b : Logged) (xs ys : List Logged) → as_bytes (a ∷ xs) ≡ as_bytes (b ∷ ys) → FirstSame a b xs ys
first_same a b xs ys same =
    let first : told_at a ≡ told_at b = cc (same) in
    let rest : as_bytes xs ≡ as_bytes ys = cc (same) in
    record { at = ap (λ (p : bytes.Placed). p.at) first; told_is = ap (λ (p : bytes.Placed). p.is) first; rest = rest }

none_some : (l : Logged) (ls : List Logged) → as_bytes [] ≡ as_bytes (l ∷ ls) → ⊥
none_some l ls e = cc (e)

module _ (listing : Listing) where
  after_twice : (lists others : List Listed) (xs ys : List Logged) → as_bytes xs ≡ as_bytes ys → AllSay listing xs → AllSay listing ys → AllMean listing lists xs → AllMean listing others ys
      → (ls ks : List Listed) → Twins listing lists others ls ks → Twins listing lists others (list_after ls (as_entries xs)) (list_after ks (as_entries ys))
  after_twice lists others [] [] same say say_too mean mean_too ls ks twins = twins
  after_twice lists others [] (b ∷ ys) same say say_too mean mean_too ls ks twins = absurd (none_some b ys same)
  after_twice lists others (a ∷ xs) [] same say say_too mean mean_too ls ks twins = absurd (none_some a xs (sym same))
  after_twice lists others (a ∷ xs) (b ∷ ys) same say say_too mean mean_too ls ks twins =
      let first = first_same a b xs ys same in
      let says_b : Says listing a.told b.is = subst (λ (r : LogRecord). Says listing r b.is) (sym first.told_is) say_too.0 in
      let means_b : is_listed a.at others ≡ true → MeansIt listing a.told b.is = subst (λ (r : LogRecord). is_listed a.at others ≡ true → MeansIt listing r b.is) (sym first.told_is) (subst (λ (n : ℕ). is_listed n others ≡ true → MeansIt listing b.told b.is) (sym first.at) mean_too.0) in
      let step : Twins listing lists others (listed ls a.at a.is) (listed ks a.at b.is) = twins_listed listing lists others a.at ls ks say.0 says_b mean.0 means_b twins in
      after_twice lists others xs ys first.rest say.1 say_too.1 mean.1 mean_too.1 (listed ls a.at a.is) (listed ks b.at b.is)
      (subst (λ (n : ℕ). Twins listing lists others (listed ls a.at a.is) (listed ks n b.is)) first.at step)

  -- what survives is told by the bytes
  survives_by_twice : {r : LogRecord} {e f : LogEntry} (t at : ℕ) (later : Bool) → Says listing r e → Says listing r f → survives_by t at e later ≡ survives_by t at f later
  survives_by_twice t at later (says_change one) (says_change other) = refl
  survives_by_twice t at later says_restore says_restore = refl
  survives_by_twice t at later says_end says_end = refl
  survives_by_twice t at later says_abort says_abort = refl
  survives_by_twice t at later says_checkpoint says_checkpoint = refl

  survives_twice : (t at : ℕ) (xs ys : List Logged) → as_bytes xs ≡ as_bytes ys → AllSay listing xs → AllSay listing ys → survives t at (as_entries xs) ≡ survives t at (as_entries ys)
  survives_twice t at [] [] same say say_too = refl
  survives_twice t at [] (b ∷ ys) same say say_too = absurd (none_some b ys same)
  survives_twice t at (a ∷ xs) [] same say say_too = absurd (none_some a xs (sym same))
  survives_twice t at (a ∷ xs) (b ∷ ys) same say say_too =
      let first = first_same a b xs ys same in
      let says_b : Says listing a.told b.is = subst (λ (r : LogRecord). Says listing r b.is) (sym first.told_is) say_too.0 in
      survives_by_twice t at (survives t at (as_entries xs)) say.0 says_b ∙ ap (survives_by t at b.is) (survives_twice t at xs ys first.rest say.1 say_too.1)

  -- and what is done again in the same contents is the same
  redo_twice : {r : LogRecord} {e f : LogEntry} (contents : Contents) (at : ℕ) (xs ys : List Logged) → Says listing r e → Says listing r f
      → ((t : ℕ) → survives t at (as_entries xs) ≡ survives t at (as_entries ys))
      → (is_redone e at xs ≡ true → MeansIt listing r e) → (is_redone f at ys ≡ true → MeansIt listing r f)
      → FindsOld contents at e (as_entries xs) → FindsOld contents at f (as_entries ys) → redo contents at e (as_entries xs) ≡ redo contents at f (as_entries ys)
  redo_twice contents at xs ys (says_change {told_change = change} {made = c} one) (says_change {made = d} other) same means means_too finds finds_too =
      let by : c.by ≡ d.by = one.maker ∙ sym other.maker in
      let item : c.item ≡ d.item = one.item ∙ sym other.item in
      let both : survives c.by at (as_entries xs) ≡ survives d.by at (as_entries ys) = same c.by ∙ ap (λ (t : ℕ). survives t at (as_entries ys)) by in
      by_test (survives c.by at (as_entries xs))
      (λ e. let f : survives d.by at (as_entries ys) ≡ true = sym both ∙ e in
      let old : c.old ≡ d.old = sym (finds e) ∙ ap (content contents) item ∙ finds_too f in
      let new : c.new ≡ d.new = new_once listing change c d (means e) (means_too f) old in
      let changed : c ≡ d = λ i. record { by = by i; item = item i; old = old i; new = new i } in
      rw (e, f) (ap (apply contents) changed))
      (λ e. let f : survives d.by at (as_entries ys) ≡ false = sym both ∙ e in rw (e, f))
  redo_twice contents at xs ys says_restore says_restore same means means_too finds finds_too = refl
  redo_twice contents at xs ys says_end says_end same means means_too finds finds_too = refl
  redo_twice contents at xs ys says_abort says_abort same means means_too finds finds_too = refl
  redo_twice contents at xs ys says_checkpoint says_checkpoint same means means_too finds finds_too = refl

  redone_twice : (xs ys : List Logged) → as_bytes xs ≡ as_bytes ys → AllSay listing xs → AllSay listing ys → RedoneMean listing xs → RedoneMean listing ys
      → (contents : Contents) → RedoFinds contents (as_entries xs) → RedoFinds contents (as_entries ys) → redone contents (as_entries xs) ≡ redone contents (as_entries ys)
  redone_twice [] [] same say say_too mean mean_too contents finds finds_too = refl
  redone_twice [] (b ∷ ys) same say say_too mean mean_too contents finds finds_too = absurd (none_some b ys same)
  redone_twice (a ∷ xs) [] same say say_too mean mean_too contents finds finds_too = absurd (none_some a xs (sym same))
  redone_twice (a ∷ xs) (b ∷ ys) same say say_too mean mean_too contents finds finds_too =
      let first = first_same a b xs ys same in
      let says_b : Says listing a.told b.is = subst (λ (r : LogRecord). Says listing r b.is) (sym first.told_is) say_too.0 in
      let means_b : is_redone b.is a.at ys ≡ true → MeansIt listing a.told b.is = subst (λ (r : LogRecord). is_redone b.is a.at ys ≡ true → MeansIt listing r b.is) (sym first.told_is) (subst (λ (n : ℕ). is_redone b.is n ys ≡ true → MeansIt listing b.told b.is) (sym first.at) mean_too.0) in
      let finds_b : FindsOld contents a.at b.is (as_entries ys) = subst (λ (n : ℕ). FindsOld contents n b.is (as_entries ys)) (sym first.at) finds_too.0 in
      let step : redo contents a.at a.is (as_entries xs) ≡ redo contents a.at b.is (as_entries ys) = redo_twice contents a.at xs ys say.0 says_b (λ t. survives_twice t a.at xs ys first.rest say.1 say_too.1) mean.0 means_b finds.0 finds_b in
      let here : redo contents a.at a.is (as_entries xs) ≡ redo contents b.at b.is (as_entries ys) = step ∙ ap (λ (n : ℕ). redo contents n b.is (as_entries ys)) first.at in
      redone_twice xs ys first.rest say.1 say_too.1 mean.1 mean_too.1 (redo contents a.at a.is (as_entries xs)) finds.1 (subst (λ (k : Contents). RedoFinds k (as_entries ys)) (sym here) finds_too.1)
      ∙ ap (λ (k : Contents). redone k (as_entries ys)) here

-- ---- restart

-- One reading of a log over the contents of the checkpoint: what is undone and what is done again means what is told, and finds what its change tells.
pub record Reading (listing : Listing) (saved : Contents) (older newer : List Logged) : Type 0 where
  pub logged : IsLogged listing (lists_at (as_entries older)) older newer
  pub undoes : UndoFinds saved (changes_in (lists_at (as_entries older)))
  pub redoes : RedoFinds (undone saved (changes_in (losers (as_entries newer) (lists_at (as_entries older))))) (as_entries newer)

module _ {listing : Listing} {saved : Contents} (older others newer later : List Logged) (one : Reading listing saved older newer) (other : Reading listing saved others later) (before : as_bytes older ≡ as_bytes others) (behind : as_bytes newer ≡ as_bytes later) where
  abbrev lists : List Listed
  lists = lists_at (as_entries older)

  abbrev lists_too : List Listed
  lists_too = lists_at (as_entries others)

  say_older : AllSay listing older
  say_older = all_front (λ l. Says listing l.told l.is) older newer (recursion_from_All (λ (l : Logged). Says listing l.told l.is) (older ++ newer) one.logged.say)

  say_others : AllSay listing others
  say_others = all_front (λ l. Says listing l.told l.is) others later (recursion_from_All (λ (l : Logged). Says listing l.told l.is) (others ++ later) other.logged.say)

  say_newer : AllSay listing newer
  say_newer = all_back (λ l. Says listing l.told l.is) older newer (recursion_from_All (λ (l : Logged). Says listing l.told l.is) (older ++ newer) one.logged.say)

  say_later : AllSay listing later
  say_later = all_back (λ l. Says listing l.told l.is) others later (recursion_from_All (λ (l : Logged). Says listing l.told l.is) (others ++ later) other.logged.say)

  mean_older : AllMean listing lists older
  mean_older = recursion_from_All (λ (l : Logged). is_listed l.at lists ≡ true → MeansIt listing l.told l.is) older one.logged.listed

  mean_others : AllMean listing lists_too others
  mean_others = recursion_from_All (λ (l : Logged). is_listed l.at lists_too ≡ true → MeansIt listing l.told l.is) others other.logged.listed

  -- the changes in the lists of the checkpoint are the same
  lists_once : lists ≡ lists_too
  lists_once =
      twins_same listing lists lists_too lists lists_too
      (after_twice listing lists lists_too older others before say_older say_others mean_older mean_others [] [] tt)
      (all_listed_in lists lists (λ at is. is)) (all_listed_in lists_too lists_too (λ at is. is)) saved one.undoes other.undoes

  losers_once : losers (as_entries newer) lists ≡ losers (as_entries later) lists_too
  losers_once =
      filter_same (λ l. not (stays (as_entries newer) l)) (λ l. not (stays (as_entries later) l)) lists (λ l. ap not (survives_twice listing l.change.by l.at newer later behind say_newer say_later))
      ∙ ap (losers (as_entries later)) lists_once

  -- so restart makes the same of them
  pub restarts_once : restarted saved lists (as_entries newer) ≡ restarted saved lists_too (as_entries later)
  restarts_once =
      let start : undone saved (changes_in (losers (as_entries newer) lists)) ≡ undone saved (changes_in (losers (as_entries later) lists_too)) = ap (λ (l : List Listed). undone saved (changes_in l)) losers_once in
      redone_twice listing newer later behind say_newer say_later one.logged.later other.logged.later
      (undone saved (changes_in (losers (as_entries newer) lists))) one.redoes (subst (λ (k : Contents). RedoFinds k (as_entries later)) (sym start) other.redoes)
      ∙ ap (λ (k : Contents). redone k (as_entries later)) start
