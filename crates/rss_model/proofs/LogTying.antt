-- What each kind of step keeps of the tie between the machine and the log, and what it implies.
use Rattle.std.proofs.Common.{◌≡◌, ℕ, ◌+◌, ◌<◌, ◌≤◌, List, [], ◌∷◌, ◌++◌, refl, sym, ◌∙◌, ap, subst, arith}
use Rattle.std.specs.Prelude.{true, false, not}
use Rattle.std.specs.List.{AllByRecursion}
use Rattle.rss_model.specs.Tables.{Contents, content}
use Rattle.rss_model.specs.Changes.{Change, after, own, others}
use Rattle.rss_model.specs.Records.{LogEntry, Changed, Restore, End, Abort, Checkpoint, Placed, Listed, changes_in, is_by, own_in, others_in, is_cut, cut, listed, committed_by as committed, list_after, recovered, Rise}
use Rattle.rss_model.specs.Changes.{undone}
use Rattle.rss_model.specs.Restart.{losers, restarted, UndoFinds, RedoFinds}
use Rattle.rss_model.specs.Changes.{Chained}
use Rattle.rss_model.specs.Restart.{OnlyBy, Lone, LoneAlong}
use Rattle.rss_model.specs.Ties.{TellsOld, ChainedAlong}
use Rattle.rss_model.specs.Recovers.{NamesLists, IsCheckpointOf, is_checkpoint, BeginsAtCheckpoint, lists_at, base_at, Recovers, Restarts}
use Rattle.rss_model.specs.Ties.{is_plain, Log, newer, records, lists, pushed, saved, checkpointed, cut_own, StandsAt, Ties}
use Rattle.rss_model.proofs.Surviving.{winners, Falls}
use Rattle.rss_model.proofs.LogLists.{false_true, all_append, all_weaker}
use Rattle.rss_model.proofs.LogChanging.{undo_all, finds_all, after_undone, chained_undone}
use Rattle.rss_model.proofs.LogUndoing.{undo_losers, undo_finds}
use Rattle.rss_model.proofs.LogRedoing.{lone_now, restart_law, redo_finds}
use Rattle.rss_model.proofs.LogAppending.{list_after-append, recovered-append, lone_append, lone_front, lone_back, chained_append, chained_front, below_after, falls_after, rise_append, rise_front, rise_split, in_row, none_behind, lone_part, head_list, head_lone}
use Rattle.rss_model.proofs.LogKeeping.{chained_part, closed_others, closed_cut, chained_ended, own_changes, others_changes, cut_place}

-- ---- the way of restart

pub restarts : (from until : ℕ) (tables base : Contents) (older newer : List Placed) → Rise from (older ++ newer) until → Recovers tables older newer base → Restarts tables older newer base
restarts from until tables base older newer rise is =
    let ls : List Listed = lists_at older in
    let start : Contents = base_at tables older in
    let back : after start (changes_in ls) ≡ tables = after_undone tables (changes_in ls) is.undoes in
    let chained : Chained start (changes_in ls) = chained_undone tables (changes_in ls) is.undoes in
    let falls : Falls ls = falls_after from until [] older tt tt (rise_front from until older newer rise) in
    let lone : LoneAlong ls newer = lone_back [] older newer is.lone in
    record {
      gives = ap (λ (k : Contents). restarted k ls newer) (sym back) ∙ restart_law start ls newer chained falls lone ∙ sym is.is;
      undo = subst (λ (k : Contents). UndoFinds k (changes_in (losers newer ls))) back (undo_finds start newer ls chained (lone_now ls newer lone) falls);
      redo = is.redoes;
    }

-- ---- records that are in memory alone

plain_record : (base : Contents) (ls : List Listed) (r : LogEntry) → is_plain r ≡ true → committed base ls r ≡ base
plain_record base ls (Changed c) plain = refl
plain_record base ls (Restore t first) plain = refl
plain_record base ls (End t) plain = false_true plain refl
plain_record base ls (Abort t) plain = refl
plain_record base ls (Checkpoint named) plain = refl

-- they commit nothing
pub plain_recovered : (base : Contents) (ls : List Listed) (ps : List Placed) → AllByRecursion (λ p. is_plain p.is ≡ true) ps → recovered base ls ps ≡ base
plain_recovered base ls [] plain = refl
plain_recovered base ls (p ∷ ps) plain =
    ap (λ (k : Contents). recovered k (listed ls p.at p.is) ps) (plain_record base ls p.is plain.0) ∙ plain_recovered base (listed ls p.at p.is) ps plain.1

plain_no : (r : LogEntry) → is_plain r ≡ true → is_checkpoint r ≡ false
plain_no (Changed c) plain = refl
plain_no (Restore t first) plain = refl
plain_no (End t) plain = refl
plain_no (Abort t) plain = refl
plain_no (Checkpoint named) plain = false_true plain refl

begins_append : (ls : List Listed) (ps qs : List Placed) → BeginsAtCheckpoint ls ps → AllByRecursion (λ q. is_checkpoint q.is ≡ false) qs → BeginsAtCheckpoint ls (ps ++ qs)
begins_append ls [] qs begins none = elim begins [ ]
begins_append ls (p ∷ ps) qs begins none = (begins.0, all_append (λ q. is_checkpoint q.is ≡ false) ps qs begins.1 none)

-- ---- what the tie implies

module _ {base : Contents} {changes : List Change} {tables : Contents} {log : Log} (ties : Ties base changes tables log) where
  -- what the selected root has recovers the committed tables
  pub ties_recovers : Recovers tables log.older log.written base
  ties_recovers =
      let ls : List Listed = lists_at log.older in
      let start : Contents = base_at tables log.older in
      let chained : Chained start (changes_in ls) = chained_undone tables (changes_in ls) ties.undoes in
      let falls : Falls ls = falls_after log.head log.end [] log.older tt tt (rise_front log.head log.end log.older (newer log) ties.rise) in
      let lone_all : LoneAlong ls (newer log) = lone_back [] log.older (newer log) ties.lone in
      let lone : LoneAlong ls log.written = lone_front ls log.written log.pending lone_all in
      let back : after start (changes_in ls) ≡ tables = after_undone tables (changes_in ls) ties.undoes in
      let undo : undone tables (changes_in (losers log.written ls)) ≡ after start (changes_in (winners log.written ls)) =
      ap (λ (k : Contents). undone k (changes_in (losers log.written ls))) (sym back) ∙ undo_losers start log.written ls chained (lone_now ls log.written lone) falls in
      record {
        begins = ties.begins;
        lone = lone_append [] log.older log.written (lone_front [] log.older (newer log) ties.lone) lone;
        undoes = ties.undoes;
        redoes = subst (λ (k : Contents). RedoFinds k log.written) (sym undo) (finds lone);
        is = sym ties.base_is ∙ recovered-append start ls log.written log.pending ∙ plain_recovered (recovered start ls log.written) (list_after ls log.written) log.pending ties.plain;
      }
    where
      start : Contents
      start = base_at tables log.older

      ls : List Listed
      ls = lists_at log.older

      finds : LoneAlong ls log.written → RedoFinds (after start (changes_in (winners log.written ls))) log.written
      finds lone =
          let split : (mid : ℕ) × (Rise log.head log.older mid × Rise mid (newer log) log.end) = rise_split log.head log.end log.older (newer log) ties.rise in
          redo_finds start split.0 log.end ls log.written (below_after log.head split.0 [] log.older tt split.1.0) (rise_front split.0 log.end log.written log.pending split.1.1) lone (chained_front start ls log.written log.pending ties.tells)

  -- all lists, from those at the checkpoint on
  lists_now : lists log ≡ list_after (lists_at log.older) (newer log)
  lists_now = list_after-append [] log.older (newer log)

  pub lone_last : Lone (changes_in (lists log))
  lone_last = lone_end [] (records log) ties.lone
    where
      lone_end : (ls : List Listed) (ps : List Placed) → LoneAlong ls ps → Lone (changes_in (list_after ls ps))
      lone_end ls [] lone = lone
      lone_end ls (p ∷ ps) lone = lone_end (listed ls p.at p.is) ps lone.1

  pub falls_last : Falls (lists log)
  falls_last = falls_after log.head log.end [] (records log) tt tt ties.rise

  pub chained_last : Chained base (changes_in (lists log))
  chained_last = subst (Chained base) (sym ties.changes_are) ties.chained

  -- ---- one record more

  module _ (r : LogEntry) (size : ℕ) (some : 0 < size) where
    abbrev p : Placed
    p = record { at = log.end; is = r }

    -- the records with this one
    abbrev grown : List Placed
    grown = newer log ++ p ∷ []

    row : records log ++ p ∷ [] ≡ log.older ++ grown
    row = in_row log.older (newer log) (p ∷ [])

    list_grown : list_after [] (log.older ++ grown) ≡ listed (lists log) log.end r
    list_grown = ap (list_after []) (sym row) ∙ list_after-append [] (records log) (p ∷ [])

    rise_grown : Rise log.head (log.older ++ grown) (log.end + size)
    rise_grown = subst (λ (ps : List Placed). Rise log.head ps (log.end + size)) row (rise_append log.head log.end (log.end + size) (records log) (p ∷ []) ties.rise (omega arith, omega arith))

    lone_grown : Lone (changes_in (listed (lists log) log.end r)) → LoneAlong [] (log.older ++ grown)
    lone_grown lone = subst (LoneAlong []) row (lone_append [] (records log) (p ∷ []) ties.lone (lone_last, lone))

    tells_grown : TellsOld base (lists log) r → ChainedAlong (base_at tables log.older) (lists_at log.older) grown
    tells_grown tells = chained_append (base_at tables log.older) (lists_at log.older) (newer log) (p ∷ []) ties.tells
        (subst (λ (k : Contents). TellsOld k (list_after (lists_at log.older) (newer log)) r) (sym ties.base_is) (subst (λ (l : List Listed). TellsOld base l r) lists_now tells), tt)

    base_grown : recovered (base_at tables log.older) (lists_at log.older) grown ≡ committed base (lists log) r
    base_grown = recovered-append (base_at tables log.older) (lists_at log.older) (newer log) (p ∷ []) ∙ ap (λ (k : Contents). committed k (list_after (lists_at log.older) (newer log)) r) ties.base_is ∙ ap (λ (l : List Listed). committed base l r) (sym lists_now)

    -- in memory alone
    ties_push : is_plain r ≡ true → Lone (changes_in (listed (lists log) log.end r)) → TellsOld base (lists log) r → Chained base (changes_in (listed (lists log) log.end r)) → Ties base (changes_in (listed (lists log) log.end r)) tables (pushed log r size)
    ties_push plain lone tells chained =
        let same : log.written ++ (log.pending ++ p ∷ []) ≡ grown = sym (in_row log.written log.pending (p ∷ [])) in
        record {
          rise = subst (λ (ps : List Placed). Rise log.head (log.older ++ ps) (log.end + size)) (sym same) rise_grown;
          begins = ties.begins;
          plain = all_append (λ q. is_plain q.is ≡ true) log.pending (p ∷ []) ties.plain (plain, tt);
          lone = subst (λ (ps : List Placed). LoneAlong [] (log.older ++ ps)) (sym same) (lone_grown lone);
          undoes = ties.undoes;
          tells = subst (ChainedAlong (base_at tables log.older) (lists_at log.older)) (sym same) (tells_grown tells);
          base_is = ap (recovered (base_at tables log.older) (lists_at log.older)) same ∙ base_grown ∙ plain_record base (lists log) r plain;
          changes_are = ap (λ (ps : List Placed). changes_in (list_after [] (log.older ++ ps))) same ∙ ap changes_in list_grown;
          chained = chained;
        }

  -- ---- each kind of step

  -- a change, which tells the content that stands there, of an item that no other transaction changed
  pub ties_change : (c : Change) (size : ℕ) → 0 < size → c.old ≡ content (after base changes) c.item → OnlyBy c.by c.item changes → Ties base (c ∷ changes) tables (pushed log (Changed c) size)
  ties_change c size some tells only =
      let now = ties.changes_are in
      subst (λ (cs : List Change). Ties base (c ∷ cs) tables (pushed log (Changed c) size)) now
      (ties_push (Changed c) size some refl
      (subst (OnlyBy c.by c.item) (sym now) only, lone_last)
      (tells ∙ ap (λ (cs : List Change). content (after base cs) c.item) (sym now))
      (tells ∙ ap (λ (cs : List Change). content (after base cs) c.item) (sym now), chained_last))

  -- going back to a save point is one record: the position of the first change that is undone
  pub ties_restore : (t n first size : ℕ) → 0 < size → StandsAt t n first (lists log) → Ties base (cut_own t n changes) tables (pushed log (Restore t first) size)
  ties_restore t n first size some stands =
      let is : changes_in (cut t first (lists log)) ≡ cut_own t n changes = cut_place t n first (lists log) falls_last stands ∙ ap (cut_own t n) ties.changes_are in
      subst (λ (cs : List Change). Ties base cs tables (pushed log (Restore t first) size)) is
      (ties_push (Restore t first) size some refl (lone_part (λ l. not (is_cut t first l)) (lists log) lone_last) tt (chained_part base (λ l. not (is_cut t first l)) (lists log) (closed_cut t first (lists log) lone_last falls_last) chained_last))

  pub ties_abort : (t size : ℕ) → 0 < size → Ties base (others t changes) tables (pushed log (Abort t) size)
  ties_abort t size some =
      let is : changes_in (others_in t (lists log)) ≡ others t changes = others_changes t (lists log) ∙ ap (others t) ties.changes_are in
      subst (λ (cs : List Change). Ties base cs tables (pushed log (Abort t) size)) is
      (ties_push (Abort t) size some refl (lone_part (λ l. not (is_by t l)) (lists log) lone_last) tt (chained_part base (λ l. not (is_by t l)) (lists log) (closed_others t (lists log) lone_last) chained_last))

  -- all records are on the disk: an end
  pub ties_end : (t size : ℕ) → 0 < size → Ties (after base (own t changes)) (others t changes) tables (saved (pushed log (End t) size))
  ties_end t size some =
      let mine : changes_in (own_in t (lists log)) ≡ own t changes = own_changes t (lists log) ∙ ap (own t) ties.changes_are in
      let rest : changes_in (others_in t (lists log)) ≡ others t changes = others_changes t (lists log) ∙ ap (others t) ties.changes_are in
      let last : Placed = record { at = log.end; is = End t } in
      let same : (log.written ++ (log.pending ++ last ∷ [])) ++ [] ≡ newer log ++ last ∷ [] = none_behind (log.written ++ (log.pending ++ last ∷ [])) ∙ sym (in_row log.written log.pending (last ∷ [])) in
      record {
        rise = subst (λ (ps : List Placed). Rise log.head (log.older ++ ps) (log.end + size)) (sym same) (rise_grown (End t) size some);
        begins = begins_append (lists_at log.older) log.written (log.pending ++ last ∷ []) ties.begins
            (all_append (λ q. is_checkpoint q.is ≡ false) log.pending (last ∷ []) (all_weaker (λ q. is_plain q.is ≡ true) (λ q. is_checkpoint q.is ≡ false) log.pending (λ q plain. plain_no q.is plain) ties.plain) (refl, tt));
        plain = tt;
        lone = subst (λ (ps : List Placed). LoneAlong [] (log.older ++ ps)) (sym same) (lone_grown (End t) size some (lone_part (λ l. not (is_by t l)) (lists log) lone_last));
        undoes = ties.undoes;
        tells = subst (ChainedAlong (base_at tables log.older) (lists_at log.older)) (sym same) (tells_grown (End t) size some tt);
        base_is = ap (recovered (base_at tables log.older) (lists_at log.older)) same ∙ base_grown (End t) size some ∙ ap (after base) mine;
        changes_are = ap (λ (ps : List Placed). changes_in (list_after [] (log.older ++ ps))) same ∙ ap changes_in (list_grown (End t) size some) ∙ rest;
        chained = subst (λ (cs : List Change). Chained (after base cs) (others t changes)) mine (subst (Chained (after base (changes_in (own_in t (lists log))))) rest (chained_ended base t (lists log) lone_last chained_last));
      }

  -- A checkpoint: the tables are those of now, and the head moves to where a change that stands in a list comes first, or to the new record.
  pub ties_checkpoint : (head size : ℕ) (dropped kept : List Placed) (named : List (ℕ × ℕ)) → 0 < size → records log ≡ dropped ++ kept → Rise log.head dropped head → Rise head kept log.end
      → AllByRecursion (λ (l : Listed). head ≤ l.at) (lists log) → NamesLists named (lists log) → Ties base changes (after base changes) (checkpointed log head kept named size)
  ties_checkpoint head size dropped kept named some split first rise all names =
      let all_split : AllByRecursion (λ (l : Listed). head ≤ l.at) (list_after [] (dropped ++ kept)) = subst (λ (ps : List Placed). AllByRecursion (λ (l : Listed). head ≤ l.at) (list_after [] ps)) split all in
      let same : list_after [] kept ≡ lists log = head_list log.head head log.end dropped kept first rise all_split ∙ ap (list_after []) (sym split) in
      let now : changes_in (list_after [] kept) ≡ changes = ap changes_in same ∙ ties.changes_are in
      let lone : LoneAlong [] kept = head_lone log.head head log.end dropped kept first rise all_split (subst (LoneAlong []) split ties.lone) in
      let last : Lone (changes_in (list_after [] kept)) = subst (λ (l : List Listed). Lone (changes_in l)) (sym same) lone_last in
      let p : Placed = record { at = log.end; is = Checkpoint named } in
      let start : undone (after base changes) (changes_in (list_after [] kept)) ≡ base = ap (undone (after base changes)) now ∙ undo_all base changes ties.chained in
      record {
        rise = rise_append head log.end (log.end + size) kept (p ∷ []) rise (omega arith, omega arith);
        begins = (subst (NamesLists named) (sym same) names, tt);
        plain = tt;
        lone = lone_append [] kept (p ∷ []) lone (last, last);
        undoes = subst (UndoFinds (after base changes)) (sym now) (finds_all base changes ties.chained);
        tells = (tt, tt);
        base_is = start;
        changes_are = ap changes_in (list_after-append [] kept (p ∷ [])) ∙ now;
        chained = ties.chained;
      }

-- ---- an opening

pub at_it : (ls : List Listed) (at : ℕ) (r : LogEntry) → IsCheckpointOf ls r → listed ls at r ≡ ls
at_it ls at (Changed c) is = elim is [ ]
at_it ls at (Restore t first) is = elim is [ ]
at_it ls at (End t) is = elim is [ ]
at_it ls at (Abort t) is = elim is [ ]
at_it ls at (Checkpoint named) is = refl

pub commits_none : (base : Contents) (ls : List Listed) (r : LogEntry) → IsCheckpointOf ls r → (committed base ls r ≡ base) × TellsOld base ls r
commits_none base ls (Changed c) is = elim is [ ]
commits_none base ls (Restore t first) is = elim is [ ]
commits_none base ls (End t) is = elim is [ ]
commits_none base ls (Abort t) is = elim is [ ]
commits_none base ls (Checkpoint named) is = (refl, tt)

-- A store of whose lists none is open, and behind whose Checkpoint record nothing stands: its tables are those that are recovered.
pub ties_rest : (from until : ℕ) (tables base : Contents) (older : List Placed) (p : Placed) → Rise from (older ++ p ∷ []) until → Recovers tables older (p ∷ []) base → lists_at older ≡ []
    → (tables ≡ base) × Ties base [] tables (record { head = from; older = older; written = p ∷ []; pending = []; end = until })
ties_rest from until tables base older p rise is none =
    let ls : List Listed = lists_at older in
    let start : base_at tables older ≡ tables = ap (λ (l : List Listed). undone tables (changes_in l)) none in
    let same : recovered (base_at tables older) ls (p ∷ []) ≡ base_at tables older = (commits_none (base_at tables older) ls p.is is.begins.0).0 in
    let now : list_after [] (older ++ p ∷ []) ≡ [] = list_after-append [] older (p ∷ []) ∙ at_it ls p.at p.is is.begins.0 ∙ none in (
      sym (is.is ∙ same ∙ start),
      record {
        rise = rise;
        begins = is.begins;
        plain = tt;
        lone = is.lone;
        undoes = is.undoes;
        tells = ((commits_none (base_at tables older) ls p.is is.begins.0).1, tt);
        base_is = sym is.is;
        changes_are = ap changes_in now;
        chained = tt;
      },
    )

-- After a checkpoint with nothing open, as restart ends with one: its tables are the committed ones.
pub ties_opened : (base : Contents) (head size : ℕ) → 0 < size → Ties base [] base (record { head = head; older = []; written = record { at = head; is = Checkpoint [] } ∷ []; pending = []; end = head + size })
ties_opened base head size some = record {
  rise = (omega arith, omega arith);
  begins = (record { rising = tt; firsts = λ t. refl }, tt);
  plain = tt;
  lone = (tt, tt);
  undoes = tt;
  tells = (tt, tt);
  base_is = refl;
  changes_are = refl;
  chained = tt;
}
