-- The changes of a transaction turn back, from the newest on.
use Rattle.std.proofs.Common.{◌≡◌, inl, ℕ, suc, ◌+◌, ◌<◌, ◌≤◌, List, [], ◌∷◌, ◌++◌, length, append-nil, refl, sym, ◌∙◌, ap, subst, arith}
use Rattle.std.specs.Prelude.{true, false, nat_le, ◌==◌}
use Rattle.std.proofs.lemmas.Bool.{eq-eqb}
use Rattle.std.proofs.lemmas.Bool.Decides.{nat_tests}
use Rattle.rss_base.specs.declared.change.Change as told
use Rattle.rss_base.specs.declared.log_record.LogRecord.{LogRecord}
use Rattle.rss_base.specs.declared.log_record.LogRecord.TheVariants as records
use Rattle.rss_base.specs.LogRecords.{IsSpellable}
use Rattle.rss_base.specs.Listings.{Listing}
use Rattle.rss_model.specs.Tables.{Definitions, Contents, Tables, content}
use Rattle.rss_model.specs.Changes.{Change, maker, own, others, kept_to, cut_off, after, undo, Chained}
use Rattle.rss_model.specs.Fits.{Fits}
use Rattle.rss_model.specs.Machine.{State, with_changes}
use Rattle.rss_model.specs.Records.{LogEntry, Changed, Listed, changes_in}
use Rattle.rss_model.specs.Restart.{Lone}
use Rattle.rss_model.specs.Meanings.{IsChangeTold, Says, says_change, says_restore, says_end, says_abort, says_checkpoint, Means, MeansIt, Logged, is_listed}
use Rattle.rss_model.specs.Ties.{StandsAt, here, older}
use Rattle.rss_model.specs.EngineLogs.{EngineLog, all_logged, lists_now, TiesState}
use Rattle.rss_stored.specs.LogLaws.{TakesBack, ChangesTurnBack}
use Rattle.rss_model.proofs.LogLists.{by_same, all_back}
use Rattle.rss_model.proofs.LogChanging.{NotAt}
use Rattle.rss_model.proofs.LogKeeping.{cut_own_none}
use Rattle.rss_model.proofs.LogTying.{lone_last}
use Rattle.rss_model.proofs.Metering.{off_here, off_few, off_other}
use Rattle.rss_model.proofs.Mixing.{In, each_of, in_right, own_here, own_off, others_here, others_off, cut_here, cut_off_it}
use Rattle.rss_stored.proofs.LogGrowing.{fits_now}
use Rattle.rss_model.proofs.LogWay.{undo_below, finds_below, mixed_cut, mixed_now}
use Rattle.rss_stored.proofs.LogFinding.{contains_in, of_any, StandsIn, stands_in, stands_now, means_now}

-- ---- the parts of a list

-- the change that has so many older ones of its transaction, between those that are newer and those that are older
record IsPart (t n at : ℕ) (ls : List Listed) : Type 0 where
  pub newer : List Listed
  pub it : Listed
  pub older : List Listed
  pub all : ls ≡ newer ++ it ∷ older
  pub by : it.change.by ≡ t
  pub count : length (own t (changes_in older)) ≡ n
  pub place : it.at ≡ at

part_of : (t n at : ℕ) (ls : List Listed) → StandsAt t n at ls → IsPart t n at ls
part_of t n at [] none = elim none [ ]
part_of t n at (l ∷ ls) (here _ _ by count is) = record { newer = []; it = l; older = ls; all = refl; by = by; count = count; place = is }
part_of t n at (l ∷ ls) (older _ _ rest) =
    let part = part_of t n at ls rest in record {
      newer = l ∷ part.newer;
      it = part.it;
      older = part.older;
      all = ap (λ (k : List Listed). l ∷ k) part.all;
      by = part.by;
      count = part.count;
      place = part.place;
    }

changes_parted : (ws : List Listed) (l : Listed) (ls : List Listed) → changes_in (ws ++ l ∷ ls) ≡ changes_in ws ++ l.change ∷ changes_in ls
changes_parted [] l ls = refl
changes_parted (w ∷ ws) l ls = ap (λ (cs : List Change). w.change ∷ cs) (changes_parted ws l ls)

in_middle : {A : Type 0} (xs : List A) (a : A) (ys : List A) → In a (xs ++ a ∷ ys)
in_middle xs a ys = in_right xs (a ∷ ys) a (inl refl)

-- ---- what stays of changes

own_behind : (t : ℕ) (ws cs : List Change) → length (own t cs) ≤ length (own t (ws ++ cs))
own_behind t [] cs = omega arith
own_behind t (w ∷ ws) cs = by_same w.by t
    (λ e. omega (arith, ap (λ (l : List Change). length l) (own_here t w (ws ++ cs) e), own_behind t ws cs))
    (λ e. omega (arith, ap (λ (l : List Change). length l) (own_off t w (ws ++ cs) e), own_behind t ws cs))

-- of those that are newer the others' stay
kept_above : (t m : ℕ) (ws cs : List Change) → m ≤ length (own t cs) → kept_to maker t m (ws ++ cs) ≡ others t ws ++ kept_to maker t m cs
kept_above t m [] cs le = refl
kept_above t m (w ∷ ws) cs le = by_same w.by t
    (λ e.
    let more : length (own t cs) ≤ length (own t (ws ++ cs)) = own_behind t ws cs in
    let f : nat_le m (length (own t (ws ++ cs))) ≡ true = grind (arith, nat_tests) in
    cut_here t m w (ws ++ cs) e f ∙ kept_above t m ws cs le ∙ ap (λ (l : List Change). l ++ kept_to maker t m cs) (sym (others_here t w ws e)))
    (λ e. cut_off_it t m w (ws ++ cs) e ∙ ap (λ (l : List Change). w ∷ l) (kept_above t m ws cs le) ∙ ap (λ (l : List Change). l ++ kept_to maker t m cs) (sym (others_off t w ws e)))

-- and the transaction's go
gone_above : (t m : ℕ) (ws cs : List Change) → m ≤ length (own t cs) → cut_off maker t m (ws ++ cs) ≡ own t ws ++ cut_off maker t m cs
gone_above t m [] cs le = refl
gone_above t m (w ∷ ws) cs le = by_same w.by t
    (λ e.
    let more : length (own t cs) ≤ length (own t (ws ++ cs)) = own_behind t ws cs in
    let f : nat_le m (length (own t (ws ++ cs))) ≡ true = grind (arith, nat_tests) in
    off_here t m w (ws ++ cs) e f ∙ ap (λ (l : List Change). w ∷ l) (gone_above t m ws cs le) ∙ ap (λ (l : List Change). l ++ cut_off maker t m cs) (sym (own_here t w ws e)))
    (λ e. off_other t m w (ws ++ cs) e ∙ gone_above t m ws cs le ∙ ap (λ (l : List Change). l ++ cut_off maker t m cs) (sym (own_off t w ws e)))

-- where the transaction has no more than so many, none goes
none_gone : (t m : ℕ) (cs : List Change) → length (own t cs) ≤ m → cut_off maker t m cs ≡ []
none_gone t m [] le = refl
none_gone t m (c ∷ cs) le = by_same c.by t
    (λ e.
    let less : length (own t cs) < m = omega (arith, le, ap (λ (l : List Change). length l) (own_here t c cs e)) in
    let f : nat_le m (length (own t cs)) ≡ false = grind (arith, nat_tests) in
    off_few t m c cs f ∙ none_gone t m cs (omega (arith, less)))
    (λ e. off_other t m c cs e ∙ none_gone t m cs (omega (arith, le, ap (λ (l : List Change). length l) (own_off t c cs e))))

-- they are of other items
items_off : (t : ℕ) (ws : List Change) (c : Change) (cs : List Change) → c.by ≡ t → Lone (ws ++ c ∷ cs) → NotAt c.item (others t ws)
items_off t [] c cs by lone = tt
items_off t (w ∷ ws) c cs by lone = by_same w.by t
    (λ e. subst (NotAt c.item) (sym (others_here t w ws e)) (items_off t ws c cs by lone.1))
    (λ e. subst (NotAt c.item) (sym (others_off t w ws e))
    ((λ same. e (sym ((all_back (λ d. d.item ≡ w.item → d.by ≡ w.by) ws (c ∷ cs) lone.0).0 (sym same)) ∙ by)), items_off t ws c cs by lone.1))

chained_back : (base : Contents) (ws cs : List Change) → Chained base (ws ++ cs) → Chained base cs
chained_back base [] cs chained = chained
chained_back base (w ∷ ws) cs chained = chained_back base ws cs chained.1

-- ---- what a record says

record IsSaid (listing : Listing) (told_record : LogRecord) (change : Change) : Type 0 where
  pub told_change : told.Change
  pub is : told_record ≡ records.Change change.by told_change
  pub tells : IsChangeTold listing change.by told_change change

said : {listing : Listing} {told_record : LogRecord} {entry : LogEntry} {change : Change} → Says listing told_record entry → entry ≡ Changed change → IsSaid listing told_record change
said {listing = listing} {change = change} (says_change {by = by} {told_change = told_change} {made = made} tells) is =
    let same : made ≡ change = cc (is) in
    let here : IsChangeTold listing by told_change change = subst (IsChangeTold listing by told_change) same tells in record {
      told_change = told_change;
      is = ap (λ (b : ℕ). records.Change b told_change) (sym here.maker);
      tells = subst (λ (b : ℕ). IsChangeTold listing b told_change change) (sym here.maker) here;
    }
said says_restore is = absurd (cc (is))
said says_end is = absurd (cc (is))
said says_abort is = absurd (cc (is))
said says_checkpoint is = absurd (cc (is))

-- ---- a way back

module _ (listing : Listing) (saved : Tables) (log : EngineLog) (state : State) (t n first : ℕ) (is : TiesState listing saved log state) (stands : StandsAt t n first (lists_now log)) where
  part : IsPart t n first (lists_now log)
  part = part_of t n first (lists_now log) stands

  abbrev change : Change
  change = part.it.change

  abbrev newer_ones : List Change
  newer_ones = changes_in part.newer

  abbrev older_ones : List Change
  older_ones = changes_in part.older

  all_changes : state.changes ≡ newer_ones ++ change ∷ older_ones
  all_changes = sym is.ties.changes_are ∙ ap changes_in part.all ∙ changes_parted part.newer part.it part.older

  so_many : length (own t (change ∷ older_ones)) ≡ suc n
  so_many = ap (λ (l : List Change). length l) (own_here t change older_ones part.by) ∙ ap suc part.count

  with_it : kept_to maker t (n + 1) state.changes ≡ others t newer_ones ++ change ∷ older_ones
  with_it =
      ap (kept_to maker t (n + 1)) all_changes
      ∙ kept_above t (n + 1) newer_ones (change ∷ older_ones) (omega (arith, so_many))
      ∙ ap (λ (l : List Change). others t newer_ones ++ l) (cut_own_none t (n + 1) (change ∷ older_ones) (omega (arith, so_many)))

  without_it : kept_to maker t n state.changes ≡ others t newer_ones ++ older_ones
  without_it =
      let count : length (own t older_ones) ≡ n = part.count in
      let all : nat_le n (length (own t older_ones)) ≡ true = grind (arith, nat_tests) in
      ap (kept_to maker t n) all_changes
      ∙ kept_above t n newer_ones (change ∷ older_ones) (omega (arith, so_many))
      ∙ ap (λ (l : List Change). others t newer_ones ++ l) (cut_here t n change older_ones part.by all ∙ cut_own_none t n older_ones (omega (arith, count)))

  is_last : cut_off maker t n state.changes ≡ cut_off maker t (n + 1) state.changes ++ change ∷ []
  is_last =
      let count : length (own t older_ones) ≡ n = part.count in
      let all : nat_le n (length (own t older_ones)) ≡ true = grind (arith, nat_tests) in
      let gone : cut_off maker t n state.changes ≡ own t newer_ones ++ change ∷ [] =
      ap (cut_off maker t n) all_changes
      ∙ gone_above t n newer_ones (change ∷ older_ones) (omega (arith, so_many))
      ∙ ap (λ (l : List Change). own t newer_ones ++ l) (off_here t n change older_ones part.by all ∙ ap (λ (l : List Change). change ∷ l) (none_gone t n older_ones (omega (arith, count)))) in
      let gone_before : cut_off maker t (n + 1) state.changes ≡ own t newer_ones =
      ap (cut_off maker t (n + 1)) all_changes
      ∙ gone_above t (n + 1) newer_ones (change ∷ older_ones) (omega (arith, so_many))
      ∙ ap (λ (l : List Change). own t newer_ones ++ l) (none_gone t (n + 1) (change ∷ older_ones) (omega (arith, so_many)))
      ∙ append-nil (own t newer_ones) in
      gone ∙ sym (ap (λ (l : List Change). l ++ change ∷ []) gone_before)

  off : NotAt change.item (others t newer_ones)
  off = items_off t newer_ones change older_ones part.by (subst Lone (ap changes_in part.all ∙ changes_parted part.newer part.it part.older) (lone_last is.ties))

  found_it : change.old ≡ content (after state.base.contents older_ones) change.item
  found_it = (chained_back state.base.contents newer_ones (change ∷ older_ones) (subst (Chained state.base.contents) all_changes is.ties.chained)).0

  fits_kept : (m : ℕ) → Fits state.size.slots (with_changes state.base (kept_to maker t m state.changes))
  fits_kept m =
      subst (λ (d : Definitions). Fits state.size.slots (record { definitions = d; contents = after state.base.contents (kept_to maker t m state.changes) })) (sym is.definitions)
      (mixed_now state.size.slots saved state.base.contents (kept_to maker t m state.changes)
      (mixed_cut state.size.slots saved state.base.contents t m state.changes (fits_now listing saved log state is)))

  in_lists : In part.it (lists_now log)
  in_lists = subst (In part.it) (sym part.all) (in_middle part.newer part.it part.older)

  in_log : StandsIn (all_logged log) part.it
  in_log = stands_now listing log is.placed part.it in_lists

  abbrev it_says : Says listing in_log.logged.told in_log.logged.is
  it_says = each_of (λ (l : Logged). Says listing l.told l.is) (all_logged log) is.own.say in_log.logged in_log.there

  it_is : IsSaid listing in_log.logged.told change
  it_is = said it_says in_log.is

  it_means : Means listing it_is.told_change change
  it_means =
      let now : is_listed in_log.logged.at (lists_now log) ≡ true = of_any (λ (l : Listed). l.at == in_log.logged.at) (lists_now log) part.it in_lists (eq-eqb part.it.at in_log.logged.at (sym in_log.at)) in
      let means : MeansIt listing in_log.logged.told in_log.logged.is = means_now listing log is.placed is.own in_log.logged in_log.there now in
      subst (λ (r : LogRecord). MeansIt listing r (Changed change)) it_is.is (subst (MeansIt listing in_log.logged.told) in_log.is means)

  it_stands : In (record { at = first; told = records.Change t it_is.told_change; is = Changed change }) (all_logged log)
  it_stands =
      let same : in_log.logged ≡ record { at = first; told = records.Change t it_is.told_change; is = Changed change } =
      λ i. record {
        at = (in_log.at ∙ part.place) i;
        told = (it_is.is ∙ ap (λ (b : ℕ). records.Change b it_is.told_change) part.by) i;
        is = in_log.is i;
      } in
      subst (λ (l : Logged). In l (all_logged log)) same in_log.there

  takes_back : TakesBack listing log state t n first
  takes_back = record {
    told_change = it_is.told_change;
    change = change;
    by = part.by;
    told = record {
      tells = it_is.tells;
      means = it_means;
      spellable = subst IsSpellable it_is.is (stands_in log.head log.end (all_logged log) in_log.logged is.placed in_log.there).2;
    };
    there = contains_in (all_logged log) _ it_stands;
    finds = ap (λ (cs : List Change). content (after state.base.contents cs) change.item) with_it ∙ finds_below state.base.contents (others t newer_ones) change older_ones off;
    leaves =
        ap (λ (cs : List Change). undo (after state.base.contents cs) change) with_it
        ∙ undo_below state.base.contents (others t newer_ones) change older_ones off found_it
        ∙ ap (after state.base.contents) (sym without_it);
    fits = fits_kept (n + 1);
    fits_then = fits_kept n;
    last = is_last;
  }

pub changes_turn_back : ChangesTurnBack
changes_turn_back listing saved log state t n first is stands = takes_back listing saved log state t n first is stands
