-- Which pages wait to be written, as pages move between memory and their slots.
use Rattle.std.proofs.Common.{◌≡◌, inl, inr, ℕ, ◌+◌, ◌<◌, ◌≤◌, true, false, cond, List, Option, Some, None, option_map, refl, sym, ◌∙◌, ap, arith, ⊎_elim}
use Rattle.std.proofs.Math.Path.{fun_ext}
use Rattle.std.proofs.lemmas.Bool.{cases_Bool, cond-true, cond-false}
use Rattle.rss_buffer.proofs.Cuts.{IsLeft, AreApart, left_of}
use Rattle.rss_base.specs.Paged.{Mapped, is_same, with_mapped, AreAmong, HasEach, WritesWaiting}
use Rattle.rss_base.specs.declared.key.PageKey.{PageKey}
use Rattle.rss_frames.specs.Frames.{Frame, FrameOf}
use Rattle.rss_buffer.proofs.Lookups.{with_frame}
use Rattle.rss_buffer.specs.Waiting.{is_changed, waiting_in, Settles}
use Rattle.rss_buffer.specs.Buffered.{NoneChanged, unchanged}

-- ---- after a change at one page

waiting-now : (frames frames_now : FrameOf) (key : PageKey) (frame : Option Frame) → frames_now ≡ with_frame frames key frame → waiting_in frames_now ≡ with_mapped (waiting_in frames) key (is_changed frame)
waiting-now frames frames_now key frame now =
    ap waiting_in now ∙ fun_ext (λ other. elim (is_same other key) as (λ b. is_changed (cond b frame (frames other)) ≡ cond b (is_changed frame) (is_changed (frames other))) [ true ↦ refl | false ↦ refl ])

among-less : (waiting : Mapped) (key : PageKey) → AreAmong (with_mapped waiting key false) waiting
among-less waiting key = λ other is. elim (cases_Bool (is_same other key)) [
  | inl here ↦ let no = sym (cond-true (is_same other key) false (waiting other) here) ∙ is in absurd (cc)
  | inr off ↦ sym (cond-false (is_same other key) false (waiting other) off) ∙ is
]

-- a page that leaves memory, or stands in its slot now, doesn't wait
pub waits-less : (frames frames_now : FrameOf) (key : PageKey) (frame : Option Frame) → frames_now ≡ with_frame frames key frame → is_changed frame ≡ false → AreAmong (waiting_in frames_now) (waiting_in frames)
waits-less frames frames_now key frame now clean = λ other is.
    among-less (waiting_in frames) key other (sym (ap (λ (w : Mapped). w other) (waiting-now frames frames_now key frame now ∙ ap (with_mapped (waiting_in frames) key) clean)) ∙ is)

pub waits-alike : (frames frames_now : FrameOf) → frames_now ≡ frames → AreAmong (waiting_in frames_now) (waiting_in frames)
waits-alike frames frames_now same = λ key is. ap (λ (f : FrameOf). waiting_in f key) (sym same) ∙ is

pub changed-waits : (frames : FrameOf) (key : PageKey) (frame : Frame) → frames key ≡ Some frame → frame.changed ≡ true → waiting_in frames key ≡ true
changed-waits frames key frame there changed = ap is_changed there ∙ changed

pub unchanged-clean : (frame : Option Frame) → is_changed (option_map unchanged frame) ≡ false
unchanged-clean None = refl
unchanged-clean (Some frame) = refl

pub clean-waits : (frames : FrameOf) (key : PageKey) → ((frame : Frame) → frames key ≡ Some frame → frame.changed ≡ false) → waiting_in frames key ≡ false
clean-waits frames key clean = by (frames key) clean
  where
    by : (o : Option Frame) → ((frame : Frame) → o ≡ Some frame → frame.changed ≡ false) → is_changed o ≡ false
    by None is = refl
    by (Some frame) is = is frame refl

pub none-waits : (frames : FrameOf) → NoneChanged frames → (key : PageKey) → waiting_in frames key ≡ false
none-waits frames none key = clean-waits frames key (none key)

-- those that wait are among none
pub none-among : {changed : Mapped} (frames : FrameOf) → AreAmong (waiting_in frames) changed → ((key : PageKey) → changed key ≡ false) → NoneChanged frames
none-among frames among none = λ key frame there. elim (cases_Bool frame.changed) [
  | inl changed ↦
      let waits = among key (changed-waits frames key frame there changed) in
      let no = sym (none key) ∙ waits in
      absurd (cc)
  | inr clean ↦ clean
]

-- ---- how many are written

pub settles-rests : (waiting : Mapped) (writes : ℕ) → Settles waiting waiting writes writes
settles-rests waiting writes = record { fewer = λ key is. is; each = λ keys has. (keys, has, omega arith) }

pub settles-then : {before between after : Mapped} {writes writes_mid writes_now : ℕ} → Settles before between writes writes_mid → Settles between after writes_mid writes_now → Settles before after writes writes_now
settles-then one two = record {
  fewer = λ key is. one.fewer key (two.fewer key is);
  each = λ keys has.
      let first = one.each keys has in
      let second = two.each first.0 first.1 in
      (second.0, second.1, omega (arith, first.2, second.2));
}

-- so many pages wait, no two of them the same
pub record AreWaiting (waiting : Mapped) (count : ℕ) : Type 0 where
  pub key : (k : ℕ) → k < count → PageKey
  pub apart : AreApart count key
  pub waits : (k : ℕ) (less : k < count) → waiting (key k less) ≡ true

-- what is left of a list of the pages that wait
left : {waiting : Mapped} {count : ℕ} (are : AreWaiting waiting count) (keys : List PageKey) → HasEach keys waiting → IsLeft count are.key keys
left {count = count} are keys has = left_of count are.key keys are.apart (λ k less. has (are.key k less) (are.waits k less))

-- they are written together
pub settles-run : {waiting waiting_now : Mapped} {count writes writes_now : ℕ} (are : AreWaiting waiting count) → ((k : ℕ) (less : k < count) → waiting_now (are.key k less) ≡ false) → AreAmong waiting_now waiting → writes_now ≤ writes + count → Settles waiting waiting_now writes writes_now
settles-run {waiting_now = waiting_now} are settled fewer few = record {
  fewer = fewer;
  each = λ keys has.
      let without = left are keys has in
      let still_there : HasEach without.rest waiting_now = λ other still.
      ⊎_elim (λ at. let no : true ≡ false = sym still ∙ ap waiting_now (sym at.2) ∙ settled at.0 at.1 in absurd (cc)) (λ rest. rest) (without.others other (has other (fewer other still))) in
      (without.rest, still_there, omega (arith, without.shorter, few));
}

-- of a list of the pages that wait they are written at most
pub writes-run : {waiting : Mapped} {count : ℕ} (writes writes_now : ℕ) → AreWaiting waiting count → writes_now ≤ writes + count → WritesWaiting waiting 0 writes writes_now
writes-run writes writes_now are few = λ keys has. omega (arith, few, (left are keys has).shorter)

pub settles-count : {waiting waiting_now : Mapped} {writes writes_now : ℕ} → Settles waiting waiting_now writes writes_now → WritesWaiting waiting 0 writes writes_now
settles-count settles = λ keys has.
    let rest = settles.each keys has in
    omega (arith, rest.2)

-- some are written, and then some others of those that wait
pub settles-writes : {waiting waiting_mid : Mapped} {writes writes_mid writes_now : ℕ} → Settles waiting waiting_mid writes writes_mid → WritesWaiting waiting_mid 0 writes_mid writes_now → WritesWaiting waiting 0 writes writes_now
settles-writes settles then = λ keys has.
    let rest = settles.each keys has in
    omega (arith, rest.2, then rest.0 rest.1)
