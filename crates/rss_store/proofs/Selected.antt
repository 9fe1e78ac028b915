-- A root that is selected: what a stop leaves at each moment, and what it leaves then.
use Rattle.std.proofs.Common.{◌≡◌, ◌⊎◌, inl, inr, ⊎_elim, ℕ, ◌+◌, ◌-◌, ◌/◌, ◌<◌, ◌≤◌, List, ◌++◌, length, drop, refl, sym, ◌∙◌, ap, subst, arith, drop-drop}
use Rattle.std.specs.Prelude.{Result, Ok, Err, OnOk, OnErr}
use Rattle.std.proofs.lemmas.List.{length-append, length-drop}
use Rattle.std.proofs.lemmas.Option.{same_Some}
use Rattle.std.proofs.Math.Seq.{drop-append_seam}
use Rattle.rss_base.specs.DiskRule.{Disk, Pages, Told, IsTold, Leaves, SameOff, TornIn, Passes, WritesIn}
use Rattle.rss_base.specs.Sizes.{piece_bytes}
use Rattle.rss_base.specs.Layout.{log_at, root_page, device_pages, IsWellFormed}
use Rattle.rss_base.specs.LogPages.{log_bytes, IsNewPiece, HasRoom, Grows}
use Rattle.rss_base.specs.LogRecords as bytes
use Rattle.rss_base.specs.LogRecords.{ArePlaced, Parses}
use Rattle.rss_base.specs.Paged.{Held}
use Rattle.rss_base.specs.StoredPages.{SavesPages}
use Rattle.rss_base.specs.declared.root.Root.{Root}
use Rattle.rss_base.proofs.Moments.{widened, then, now}
use Rattle.rss_record.proofs.Parsing.{placed_length, placed_split, parses_drop}
use Rattle.rss_root.specs.Roots.{IsPhase, IsSwitchPlace, IsSwitched}
use Rattle.rss_log.specs.Logs.{LogView, bytes_from, piece_start}
use Rattle.rss_log.proofs.LogRing.{next_log}
use Rattle.rss_log.proofs.Growth.{grown}
use Rattle.rss_model.specs.Meanings.{Logged, as_bytes}
use Rattle.rss_stored.specs.LogLaws.{HoldsLog}
use Rattle.rss_stored.specs.Store.{Stored, IsStore}
use Rattle.rss_stored.proofs.LogPlaced.{bytes_append}
use Rattle.rss_check.specs.Layouts.{IsLogBehind, appended_since}
use Rattle.rss_store.specs.Commits.{IsEndPlace, selector as as_selector, root as as_root, piece as as_piece}
use Rattle.rss_store.specs.Stores.{StoreView}
use Rattle.rss_store.specs.Selecting.{HoldsPiecesWithin, CanSelect, IsNextStore, Selects}
use Rattle.rss_store.proofs.Places.{IsNext, piece_place, saves_logging, store_growing, store_switching, store_switched}

-- ---- the bytes behind the root that was last written

module _ {root : Root} {log : LogView} (formed : IsWellFormed root) (behind : IsLogBehind root log) where
  order : root.head ≤ root.end
  order = omega (arith, formed.head_first, formed.before_end)

  rest_of : (m n : ℕ) → drop m (drop n log.kept) ≡ drop (m + n) log.kept
  rest_of m n = drop-drop m n log.kept ∙ ap (λ (k : ℕ). drop k log.kept) (omega arith)

  pub more_is : drop (root.end - root.head) (bytes_from log root.head) ≡ (appended_since root log)
  more_is =
      let in_order : root.head ≤ root.end = order in
      rest_of (root.end - root.head) (root.head - piece_start log.head)
      ∙ ap (λ (k : ℕ). drop k log.kept) (omega (arith, behind.head, formed.tail))
      ∙ sym (rest_of (length root.tail) (piece_start root.end - piece_start log.head))
      ∙ ap (drop (length root.tail)) behind.bytes
      ∙ drop-append_seam root.tail (appended_since root log)

  pub length-more : log.end ≡ root.end + length (appended_since root log)
  length-more =
      let in_order : root.head ≤ root.end = order in
      let long : length (bytes_from log (piece_start root.end)) ≡ length log.kept - (piece_start root.end - piece_start log.head) = length-drop (piece_start root.end - piece_start log.head) log.kept in
      omega (arith, long, behind.is_log.long, ap length behind.bytes, length-append root.tail (appended_since root log), formed.tail, behind.later, behind.head)

  pub has_room : HasRoom root log.end
  has_room = omega (arith, behind.is_log.ring.room, behind.pages, behind.head)

  -- the log of the root grows by them
  pub grows_by : (pages : Pages) → log_at root.slots + root.log_pages ≤ length pages → HoldsPiecesWithin root log (log.end / piece_bytes) pages → (next : Root) → next.end ≡ log.end → next.tail ≡ bytes_from log (piece_start log.end) → Grows root (appended_since root log) pages next.end next.tail
  grows_by pages room held next end tail =
      let in_order : root.head ≤ root.end = order in
      let grows : Grows root (appended_since root log) pages log.end (bytes_from log (piece_start log.end)) = grown log root (appended_since root log) pages behind.is_log (omega (arith, behind.head)) length-more behind.bytes (held room) in
      subst (λ (e : ℕ). Grows root (appended_since root log) pages e next.tail) (sym end) (subst (λ (t : List ℕ). Grows root (appended_since root log) pages log.end t) (sym tail) grows)

-- ---- the store of the next root

module _ {view : StoreView} {next : Root} {stored after : Stored} {held : Held} (can : CanSelect view next) (is : IsNextStore view next stored after held) where
  abbrev root : Root
  root = view.root

  abbrev before_records : List Logged
  before_records = stored.older ++ stored.newer

  abbrev after_records : List Logged
  after_records = after.older ++ after.newer

  -- the records that the root doesn't have stand behind its own
  behind_parse : ArePlaced root.head (as_bytes before_records) root.end → Parses (appended_since view.root view.log) root.end (as_bytes is.appended) next.end
  behind_parse placed =
      let all : Parses (bytes_from view.log view.log.head) view.log.head (as_bytes before_records ++ as_bytes is.appended) view.log.end =
      subst (λ (ps : List bytes.Placed). Parses (bytes_from view.log view.log.head) view.log.head ps view.log.end) (bytes_append before_records is.appended) is.records in
      let here : Parses (bytes_from view.log root.head) root.head (as_bytes before_records ++ as_bytes is.appended) view.log.end =
      subst (λ (n : ℕ). Parses (bytes_from view.log n) n (as_bytes before_records ++ as_bytes is.appended) view.log.end) can.log.head all in
      let split : (mid : ℕ) × (ArePlaced root.head (as_bytes before_records) mid × ArePlaced mid (as_bytes is.appended) view.log.end) =
      placed_split root.head view.log.end (as_bytes before_records) (as_bytes is.appended) here.placed in
      let same : split.0 ≡ root.end = placed_length root.head split.0 (as_bytes before_records) split.1.0 ∙ sym (placed_length root.head root.end (as_bytes before_records) placed) in
      let back : ArePlaced root.end (as_bytes is.appended) view.log.end = subst (λ (n : ℕ). ArePlaced n (as_bytes is.appended) view.log.end) same split.1.1 in
      subst (λ (n : ℕ). Parses (appended_since view.root view.log) root.end (as_bytes is.appended) n) (sym can.of_log.end)
      (subst (λ (bytes : List ℕ). Parses bytes root.end (as_bytes is.appended) view.log.end) (more_is can.formed can.log) (parses_drop root.end (as_bytes before_records) (as_bytes is.appended) here placed back))

  -- its log stands in these pages
  next_holds_log : (pages : Pages) → IsStore pages stored → HoldsPiecesWithin root view.log (view.log.end / piece_bytes) pages → HoldsLog pages after.root after.older after.newer
  next_holds_log pages here written =
      let size : length pages ≡ device_pages root = here.root_there.size ∙ ap device_pages is.root_is in
      let room : log_at root.slots + root.log_pages ≤ length pages = omega (arith, size) in
      let old : Parses (log_bytes pages root) root.head (as_bytes before_records) root.end = subst (λ (r : Root). Parses (log_bytes pages r) r.head (as_bytes before_records) r.end) is.root_is here.log.parses in
      let row : as_bytes before_records ++ as_bytes is.appended ≡ as_bytes is.dropped ++ as_bytes after_records =
      sym (bytes_append before_records is.appended) ∙ ap as_bytes is.split ∙ bytes_append is.dropped after_records in
      let grows : Grows root (appended_since view.root view.log) pages next.end next.tail = grows_by can.formed can.log pages room written next can.of_log.end can.of_log.tail in
      let parses : Parses (log_bytes pages next) next.head (as_bytes after_records) next.end =
      next_log pages pages root next (appended_since view.root view.log) (as_bytes before_records) (as_bytes is.appended) (as_bytes is.dropped) (as_bytes after_records) can.of_log.slots can.of_log.log_pages
      (omega (arith, can.formed.head_first, can.formed.before_end)) can.of_log.formed.tail (λ q log. refl) grows old (behind_parse old.placed) row is.gone is.stay in
      record {
        parses = subst (λ (r : Root). Parses (log_bytes pages r) r.head (as_bytes after_records) r.end) (sym is.root_next) parses;
        checkpoint = subst (λ (r : Root). ArePlaced r.head (as_bytes after.older) r.checkpoint) (sym is.root_next) is.checkpoint;
      }

  -- ---- while pieces are written

  module _ {old mid : Disk} (left : (image : Pages) → Leaves old image → IsStore image stored) (pieces : WritesIn (IsNewPiece root view.log.end) old mid) (told : IsTold old) where
    growing : (image : Pages) → TornIn (IsNewPiece root view.log.end) (Leaves old) image → IsStore image stored
    growing image torn =
        store_growing view.log.end (subst (λ (r : Root). HasRoom r view.log.end) (sym is.root_is) (has_room can.formed can.log)) (left torn.before torn.was)
        (subst (λ (r : Root). SameOff (IsNewPiece r view.log.end) torn.before image) (sym is.root_is) torn.same)

    pub pieces_moments : Passes old mid (λ image. IsStore image stored)
    pieces_moments = widened (pieces.moments told) growing

    pub pieces_left : (image : Pages) → Leaves mid image → IsStore image stored
    pieces_left image leaves = ⊎_elim (left image) (growing image) (now (pieces.moments told) image leaves)

    -- ---- while the root is switched

    module _ (told_mid : IsTold mid) (reads : Told mid (Leaves mid)) (written : Told mid (HoldsPiecesWithin root view.log (view.log.end / piece_bytes))) (saves : Told old (λ pages. SavesPages root.log_pages next.area pages after.owners held)) where
      here : IsStore told_mid.pages stored
      here = pieces_left told_mid.pages (reads told_mid.pages told_mid.is)

      off_pieces : SameOff (IsNewPiece root view.log.end) told.pages told_mid.pages
      off_pieces =
          let kept = pieces.kept told.pages told.is in
          subst (λ (p : Pages). SameOff (IsNewPiece root view.log.end) told.pages p) (same_Some kept.after told_mid.pages (sym kept.told ∙ told_mid.is)) kept.same

      saves_mid : SavesPages root.log_pages next.area told_mid.pages after.owners held
      saves_mid =
          let some : 0 < root.log_pages = omega (arith, can.formed.log_least) in
          saves_logging can.of_log.formed.area (record {
            size = off_pieces.size;
            others = λ q off. off_pieces.others q (λ new. off (subst (λ (n : ℕ). (log_at n ≤ q) × (q < log_at n + root.log_pages)) (sym is.count) (piece_place root.slots root.log_pages _ _ q some new)));
          }) (saves told.pages told.is)

      is_next : IsNext told_mid.pages root after held
      is_next = record {
        formed = subst IsWellFormed (sym is.root_next) can.of_log.formed;
        slots = ap (λ (r : Root). r.slots) is.root_next ∙ can.of_log.slots;
        log_pages = ap (λ (r : Root). r.log_pages) is.root_next ∙ can.of_log.log_pages;
        count = is.count;
        saves = subst (λ (r : Root). SavesPages root.log_pages r.area told_mid.pages after.owners held) (sym is.root_next) saves_mid;
        log = next_holds_log told_mid.pages here (written told_mid.pages told_mid.is);
        meant = is.meant;
      }

      number_next : after.number ≡ 3 - stored.number
      number_next = is.number_next ∙ ap (λ (n : ℕ). 3 - n) (sym is.number_is)

      -- the numbers and roots as they are written
      named : (T : ℕ → Root → Type 0) → T (3 - view.number) next → T (3 - stored.number) after.root
      named T has = subst (λ (n : ℕ). T (3 - n) after.root) (sym is.number_is) (subst (T (3 - view.number)) (sym is.root_next) has)

      phase : (image : Pages) → IsPhase mid told_mid.pages (3 - view.number) (root_page next) image → IsStore image stored ⊎ IsStore image after
      phase image at = store_switching is_next mid is.root_is number_next pieces_left here (named (λ n r. IsPhase mid told_mid.pages n (root_page r) image) at)

      pub select_moments : {new : Disk} → Passes mid new (IsPhase mid told_mid.pages (3 - view.number) (root_page next)) → Passes old new (λ image. IsStore image stored ⊎ IsStore image after)
      select_moments phases = then (widened pieces_moments (λ image was. inl was)) phases phase

      pub select_leaves : {new : Disk} → IsSwitched told_mid.pages (3 - view.number) (root_page next) new → (image : Pages) → Leaves new image → IsStore image after
      select_leaves {new = new} switched = store_switched is_next new is.root_is number_next here (named (λ n r. IsSwitched told_mid.pages n (root_page r) new) switched)

-- the last checkpoint stays, if the root names it
pub checkpoint_stays : {T E : Type 0} (next : Root) (old new : StoreView) (result : Result T E) → OnOk result (Selects next old new) → OnErr result (new.root ≡ old.root) → next.checkpoint ≡ old.root.checkpoint → new.root.checkpoint ≡ old.root.checkpoint
checkpoint_stays next old new (Ok value) selected unselected same = ap (λ (r : Root). r.checkpoint) selected.root ∙ same
checkpoint_stays next old new (Err fault) selected unselected same = ap (λ (r : Root). r.checkpoint) unselected

-- ---- what is written

pub end_piece : {number : ℕ} {root : Root} {end : ℕ} (q : ℕ) → IsNewPiece root end q → IsEndPlace number root end q
end_piece q is = as_piece is

pub end_switch : {number : ℕ} {root : Root} {end : ℕ} (q : ℕ) → IsSwitchPlace (3 - number) q → IsEndPlace number root end q
end_switch q (inl is) = as_selector is
end_switch q (inr is) = as_root is
