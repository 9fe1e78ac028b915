-- Pieces of the log while they are written.
use Rattle.std.proofs.Common.{◌≡◌, ◌≢◌, inl, inr, ℕ, ◌+◌, ◌-◌, ◌*◌, ◌/◌, ◌%◌, ◌<◌, ◌≤◌, List, [], ◌++◌, length, take, set, Option, Some, refl, sym, ◌∙◌, ap, subst, arith, length-set, get_or-set_same, get_or-set_other}
use Rattle.std.proofs.lemmas.Bool.{cases_lt}
use Rattle.std.proofs.lemmas.List.{length-drop, length-take}
use Rattle.std.proofs.Math.Seq.{take-append_seam}
use Rattle.std.proofs.lemmas.Option.{same_Some}
use Rattle.std.proofs.Math.Nat.{mod-lt}
use Rattle.rss_base.specs.DiskRule.{Disk, Pages, Told, IsTold, IsAt, WritesIn}
use Rattle.rss_base.specs.Sizes.{piece_bytes}
use Rattle.rss_base.specs.Layout.{log_at, IsWellFormed}
use Rattle.rss_base.specs.LogPages.{piece, IsNewPiece}
use Rattle.rss_base.specs.Steps.{PagesView}
use Rattle.rss_base.specs.StoredPages.{mapped_by}
use Rattle.rss_base.specs.declared.key.PageKey.{PageKey}
use Rattle.rss_base.specs.declared.fault.PageFault.{PageFault}
use Rattle.rss_base.specs.declared.fault.PageFault.TheVariants.{Device as DeviceFailed}
use Rattle.rss_base.proofs.Moments.{rises_since}
use Rattle.rss_buffer.proofs.SavingSteps.{saving_then}
use Rattle.std.specs.Prelude.{Result, Err, IsErrAnd}
use Rattle.std.proofs.lemmas.Result.{err_from_is_err_and}
use Rattle.rss_base.specs.declared.root.Root.{Root}
use Rattle.rss_buffer.specs.Saved.{unsynced}
use Rattle.rss_buffer.specs.Saving.{SavingView, AreSaveable, SavingStep, SavingCall}
use Rattle.rss_buffer.specs.declared.stage.Stage.{Stage}
use Rattle.rss_buffer.specs.declared.stage.Stage.TheVariants.{Changing, Saved, Switched}
use Rattle.rss_log.specs.Logs.{LogView, IsLog, bytes_from, piece_of, piece_start}
use Rattle.rss_log.proofs.RingBytes.{ring_apart}
use Rattle.rss_check.specs.Layouts.{IsLogBehind}
use Rattle.rss_store.specs.Selecting.{HoldsPieces, HoldsPiecesWithin}

-- a full piece has all of its bytes
pub length-piece_of : (log : LogView) (k : ℕ) → IsLog log → log.head / piece_bytes ≤ k → k < log.end / piece_bytes → length (piece_of log k) ≡ piece_bytes
length-piece_of log k is low high =
    let rest : length (bytes_from log (k * piece_bytes)) ≡ length log.kept - (k * piece_bytes - piece_start log.head) = length-drop (k * piece_bytes - piece_start log.head) log.kept in
    omega (arith, is.long, rest, length-take piece_bytes (bytes_from log (k * piece_bytes)))

-- a page that begins with it
pub front_piece : (log : LogView) (k : ℕ) (rest page : List ℕ) → IsLog log → log.head / piece_bytes ≤ k → k < log.end / piece_bytes → page ≡ piece_of log k ++ rest → take piece_bytes page ≡ piece_of log k
front_piece log k rest page is low high same =
    let long : length (piece_of log k) ≡ piece_bytes = length-piece_of log k is low high in
    ap (take piece_bytes) same ∙ whole (piece_of log k) rest long
  where
    whole : (xs ys : List ℕ) → length xs ≡ piece_bytes → take piece_bytes (xs ++ ys) ≡ xs
    whole xs ys long = ap (λ (n : ℕ). take n (xs ++ ys)) (sym long) ∙ take-append_seam xs ys

-- none as yet
pub none_held : (root : Root) (log : LogView) (pages : Pages) → HoldsPiecesWithin root log (root.end / piece_bytes) pages
none_held root log pages room k low high = absurd (omega (arith, low, high))

module _ {root : Root} {log : LogView} (formed : IsWellFormed root) (behind : IsLogBehind root log) where
  some : 0 < root.log_pages
  some = omega (arith, formed.log_least)

  -- the new pieces are no more than there are log pages
  near : (j k : ℕ) → root.end / piece_bytes ≤ j → j < k → k < log.end / piece_bytes → k < j + root.log_pages
  near j k low less high = omega (arith, behind.is_log.ring.room, behind.pages, behind.head, formed.head_first, formed.before_end)

  pub head_low : log.head / piece_bytes ≤ root.end / piece_bytes
  head_low = omega (arith, behind.head, formed.head_first, formed.before_end)

  -- where it is written
  pub at_new : (k : ℕ) → root.end / piece_bytes ≤ k → k < log.end / piece_bytes → IsNewPiece root log.end (log_at root.slots + k % root.log_pages)
  at_new k low high = record { index = k; low = low; high = omega arith; is = refl }

  -- one more stands there
  pub one_more : {old new : Disk} (k : ℕ) (page : List ℕ) → root.end / piece_bytes ≤ k → k < log.end / piece_bytes → take piece_bytes page ≡ piece_of log k
      → WritesIn (IsAt (log_at root.slots + k % root.log_pages)) old new → Told old (λ pages. new.contents ≡ Some (set pages (log_at root.slots + k % root.log_pages) page))
      → Told old (HoldsPiecesWithin root log k) → Told new (HoldsPiecesWithin root log (k + 1))
  one_more {old = old} k page low high front only written held pages told room j first below =
      let at : ℕ = log_at root.slots + k % root.log_pages in
      let was : IsTold old = only.told.1 (record { pages = pages; is = told }) in
      let before : Pages = was.pages in
      let same : set before at page ≡ pages = same_Some (set before at page) pages (sym (written before was.is) ∙ told) in
      let long : length before ≡ length pages = sym (length-set before at page) ∙ ap (λ (p : Pages). length p) same in
      let within : at < length before = omega (arith, mod-lt k some, long) in
      let known : HoldsPieces root log k before = held before was.is (omega (arith, long, room)) in
      ap (λ (p : Pages). piece p (log_at root.slots) root.log_pages j) (sym same) ∙ elim (cases_lt j k) as (λ _. piece (set before at page) (log_at root.slots) root.log_pages j ≡ piece_of log j) [
        | inl less ↦ ap (take piece_bytes) (get_or-set_other before at (log_at root.slots + j % root.log_pages) page [] (λ e. ring_apart root.log_pages j k less (near j k first less high) (omega (arith, e)))) ∙ known j first less
        | inr past ↦
            let here : j ≡ k = omega (arith, below, past) in
            ap (λ (i : ℕ). piece (set before at page) (log_at root.slots) root.log_pages i) here ∙ ap (take piece_bytes) (get_or-set_same before at page [] within) ∙ front ∙ ap (piece_of log) (sym here)
      ]

-- ---- calls by which pages are saved

-- before the first call
pub no_step : (pages : PagesView) (saving : SavingView) → SavingStep pages pages saving saving
no_step pages saving = record {
  current = refl;
  waiting = λ key waits. waits;
  held = λ told. refl;
  notes = refl;
  log_pages = refl;
  frames = refl;
  asks = refl;
  told = (λ told. told, λ told. told);
  later = omega arith;
}

-- one that fails after others
pub saving_failed : {T U : Type 0} {old mid new : PagesView} {before between after : SavingView} {fault : PageFault} (result : Result U PageFault) → IsErrAnd result (λ why. why ≡ fault) → SavingStep old mid before between → SavingCall {T = T} mid new between after (Err fault) → SavingCall old new before after result
saving_failed {U = U} {old = old} {new = new} {before = before} {after = after} result is step call =
    let why = err_from_is_err_and result is in
    let same : result ≡ Err DeviceFailed = why.1 ∙ ap Err (why.2 ∙ call.fault) in
    subst (λ (r : Result U PageFault). SavingCall old new before after r) (sym same) (record {
      step = saving_then step call.step;
      fault = refl;
      cause = λ error. rises_since step.later (call.cause refl);
    })

-- they leave the number of slots, and what is mapped
module _ {old new : PagesView} {before after : SavingView} (step : SavingStep old new before after) (saveable : AreSaveable old before) (saveable_now : AreSaveable new after) where
  pub slots_still : new.slots ≡ old.slots
  slots_still = saveable_now.slots ∙ ap (λ (owners : List (Option PageKey)). length owners) step.current ∙ sym saveable.slots

  pub mapped_still : new.mapped ≡ old.mapped
  mapped_still = saveable_now.mapped ∙ ap mapped_by step.current ∙ sym saveable.mapped

-- what isn't switched as yet stays so
pub unsynced_still : (stage : Stage) → stage ≢ Switched → unsynced stage ≡ stage
unsynced_still Changing not = refl
unsynced_still (Saved area) not = refl
unsynced_still Switched not = absurd (not refl)
