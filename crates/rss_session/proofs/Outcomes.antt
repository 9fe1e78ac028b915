-- What comes of a change, by the tests that were made.
use Rattle.std.proofs.Common.{◌≡◌, ◌⊎◌, ⊎_elim, ℕ, ◌<◌, ◌≤◌, Bool, true, false, ◌&&◌, nat_le, refl, arith}
use Rattle.std.specs.Prelude.{nat_lt, Option, Ok, Err}
use Rattle.std.proofs.lemmas.Bool.Decides.{nat_tests}
use Rattle.rss_base.specs.declared.refusal.Refusal.TheVariants.{Full, LogFull}
use Rattle.rss_log.specs.Logs.{free_of}
use Rattle.rss_session.specs.Sessions.{SessionView}
use Rattle.rss_session.specs.Weighing.{room_with, needed_with, goes_on, saved_room_with, saved_free, weighed}

module _ (view : SessionView) (t : ℕ) (number : Option ℕ) (size : ℕ) where
  pub goes_on_so : room_with view number ≤ view.store.root.slots → needed_with view t size ≤ free_of view.store.log → Ok false ≡ weighed view t number size
  goes_on_so room free =
      let pages : nat_le (room_with view number) view.store.root.slots ≡ true = grind (arith, nat_tests, room) in
      let log : nat_le (needed_with view t size) (free_of view.store.log) ≡ true = grind (arith, nat_tests, free) in
      rw (pages, log) refl

  -- it doesn't go on as it is where it has no room for its pages, or none in the log
  pub stays_off : (view.store.root.slots < room_with view number) ⊎ (free_of view.store.log < needed_with view t size) → goes_on view t number size ≡ false
  stays_off = ⊎_elim
      (λ full. let pages : nat_le (room_with view number) view.store.root.slots ≡ false = grind (arith, nat_tests, full) in rw pages refl)
      (λ full. let log : nat_le (needed_with view t size) (free_of view.store.log) ≡ false = grind (arith, nat_tests, full) in rw log (none (nat_le (room_with view number) view.store.root.slots)))
    where
      none : (b : Bool) → (b && false) ≡ false
      none true = refl
      none false = refl

  pub is_full : goes_on view t number size ≡ false → view.store.root.slots < saved_room_with view number → Err (Full view.store.root.slots (saved_room_with view number)) ≡ weighed view t number size
  is_full off full =
      let pages : nat_lt view.store.root.slots (saved_room_with view number) ≡ true = grind (arith, nat_tests, full) in
      rw (off, pages) refl

  pub log_is_full : goes_on view t number size ≡ false → saved_room_with view number ≤ view.store.root.slots → saved_free view < needed_with view t size → Err (LogFull (saved_free view) (needed_with view t size)) ≡ weighed view t number size
  log_is_full off room full =
      let pages : nat_lt view.store.root.slots (saved_room_with view number) ≡ false = grind (arith, nat_tests, room) in
      let log : nat_le (needed_with view t size) (saved_free view) ≡ false = grind (arith, nat_tests, full) in
      rw (off, pages, log) refl

  pub saves_first : goes_on view t number size ≡ false → saved_room_with view number ≤ view.store.root.slots → needed_with view t size ≤ saved_free view → Ok true ≡ weighed view t number size
  saves_first off room free =
      let pages : nat_lt view.store.root.slots (saved_room_with view number) ≡ false = grind (arith, nat_tests, room) in
      let log : nat_le (needed_with view t size) (saved_free view) ≡ true = grind (arith, nat_tests, free) in
      rw (off, pages, log) refl
