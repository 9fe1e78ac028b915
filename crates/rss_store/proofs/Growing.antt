-- A record more in the log in memory.
use Rattle.std.proofs.Common.{◌≡◌, ℕ, ◌+◌, ◌-◌, ◌^◌, ◌<◌, ◌≤◌, List, [], ◌∷◌, ◌++◌, length, append_assoc, sym, ◌∙◌, ap, subst, arith}
use Rattle.std.proofs.lemmas.List.{drop-append-le, length-append, map-append}
use Rattle.rss_base.specs.LogRecords.{Placed, ArePlaced, record_bytes, record_size}
use Rattle.rss_base.specs.declared.log_record.LogRecord.{LogRecord}
use Rattle.rss_base.specs.declared.root.Root.{Root}
use Rattle.rss_check.specs.Layouts.{IsLogBehind, appended_since}
use Rattle.rss_store.proofs.Nexts.{seamed}
use Rattle.rss_log.specs.Logs.{LogView, bytes_from, HasRecords, piece_start, free_of, with_bytes}
use Rattle.rss_model.specs.Records.{LogEntry}
use Rattle.rss_model.specs.Meanings.{Logged, as_bytes}
use Rattle.rss_model.specs.EngineLogs.{EngineLog, all_logged, appended}
use Rattle.rss_store.specs.Stores.{StoreView}
use Rattle.rss_store.specs.Shown.{HoldsLogged}

-- the log stays that of the root
behind_still : {root : Root} {log : LogView} (bytes : List ℕ) → IsLogBehind root log → length bytes ≤ free_of log → log.end + length bytes < 2 ^ 64 → IsLogBehind root (with_bytes log bytes)
behind_still {root = root} {log = log} bytes behind room limit = record {
  is_log = record {
    ring = record {
      some = behind.is_log.ring.some;
      most = behind.is_log.ring.most;
      order = omega (arith, behind.is_log.ring.order);
      room = omega (arith, behind.is_log.ring.room, room);
      limit = limit;
    };
    long = omega (arith, behind.is_log.long, behind.is_log.ring.order, length-append log.kept bytes);
  };
  pages = behind.pages;
  head = behind.head;
  later = omega (arith, behind.later);
  bytes = seamed (bytes_from (with_bytes log bytes) (piece_start root.end)) root.tail (appended_since root log ++ bytes) (drop-append-le (piece_start root.end - piece_start log.head) log.kept bytes (omega (arith, behind.is_log.long, behind.later))
      ∙ ap (λ (l : List ℕ). l ++ bytes) behind.bytes
      ∙ append_assoc root.tail (appended_since root log) bytes);
}

-- all records with it
all_appended : (log : EngineLog) (told : LogRecord) (entry : LogEntry) → as_bytes (all_logged (appended log told entry)) ≡ as_bytes (all_logged log) ++ record { at = log.end; is = told } ∷ []
all_appended log told entry =
    let last : Logged = record { at = log.end; told = told; is = entry } in
    let grown : log.older ++ (log.written ++ (log.pending ++ last ∷ [])) ≡ (log.older ++ (log.written ++ log.pending)) ++ last ∷ [] =
    ap (λ (l : List Logged). log.older ++ l) (sym (append_assoc log.written log.pending (last ∷ []))) ∙ sym (append_assoc log.older (log.written ++ log.pending) (last ∷ [])) in
    ap as_bytes grown ∙ map-append _ (all_logged log) (last ∷ [])

-- the log has this record at its end
pub record Appends (told : LogRecord) (at : ℕ) (old new : LogView) : Type 0 where
  pub position : at ≡ old.end
  pub grown : new ≡ with_bytes old (record_bytes told)
  pub records : (ps : List Placed) → HasRecords old ps → HasRecords new (ps ++ record { at = at; is = told } ∷ [])

pub logged_appended : {old new : StoreView} {log : EngineLog} {told : LogRecord} {at : ℕ} (entry : LogEntry) → new.root ≡ old.root → Appends told at old.log new.log → HoldsLogged old log → HoldsLogged new (appended log told entry)
logged_appended {new = new} {log = log} {told = told} {at = at} entry root appends logged = record {
  head_is = ap (λ (l : LogView). l.head) appends.grown ∙ logged.head_is;
  end_is = ap (λ (l : LogView). l.end) appends.grown ∙ ap (λ (n : ℕ). n + record_size told) logged.end_is;
  records = subst (HasRecords new.log) same (appends.records (as_bytes (all_logged log)) logged.records);
  until = subst (λ (r : Root). ArePlaced log.head (as_bytes (log.older ++ log.written)) r.end) (sym root) logged.until;
}
  where
    same : as_bytes (all_logged log) ++ record { at = at; is = told } ∷ [] ≡ as_bytes (all_logged (appended log told entry))
    same = ap (λ (n : ℕ). as_bytes (all_logged log) ++ record { at = n; is = told } ∷ []) (appends.position ∙ logged.end_is) ∙ sym (all_appended log told entry)

-- and the log stays that of the root
pub behind_grown : {root : Root} {old new : LogView} (bytes : List ℕ) → new ≡ with_bytes old bytes → IsLogBehind root old → length bytes ≤ free_of old → old.end + length bytes < 2 ^ 64 → IsLogBehind root new
behind_grown {root = root} bytes grown behind room limit = subst (IsLogBehind root) (sym grown) (behind_still bytes behind room limit)

pub behind_appended : {root : Root} {told : LogRecord} {at : ℕ} {old new : LogView} → Appends told at old new → IsLogBehind root old → record_size told ≤ free_of old → old.end + record_size told < 2 ^ 64 → IsLogBehind root new
behind_appended {told = told} appends behind room limit = behind_grown (record_bytes told) appends.grown behind room limit
