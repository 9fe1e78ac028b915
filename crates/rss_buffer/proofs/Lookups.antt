-- The frames of pages.
use Rattle.std.proofs.Common.{◌≡◌, ◌≢◌, ◌+◌, ◌<◌, ℕ, Bool, true, false, cond, inl, inr, List, [], ◌∷◌, length, Option, Some, None, IsSome, is_some, option_map, refl, sym, ◌∙◌, ap, subst}
use Rattle.std.proofs.Math.Path.{fun_ext}
use Rattle.std.proofs.lemmas.Bool.{cases_Bool}
use Rattle.std.proofs.lemmas.Option.{same_Some}
use Rattle.rss_base.specs.declared.key.PageKey.{PageKey}
use Rattle.std.specs.List.{slice_range}
use Rattle.rss_base.specs.DiskRule.{Disk}
use Rattle.rss_base.specs.Paged.{is_same}
use Rattle.rss_base.specs.Steps.{with_bytes}
use Rattle.rss_base.proofs.Keys.{is_same-true, is_same-itself, is_same-other}
use Rattle.rss_frames.specs.State.{State}
use Rattle.rss_frames.specs.Entries.{Held, Shows, AreDistinct, IsEntry, entry, others, bytes_of, changed_to, fronted, written, both_changed, settled, entries, eldest, newest, name_of}
use Rattle.std.specs.Prelude.{Result, Ok, Err, OnErr}
use Rattle.rss_buffer.specs.Gathered.{IsInFrame}
use Rattle.rss_frames.specs.Entries.{unchanged as unmarked}
use Rattle.rss_frames.proofs.Looked.{entry_key, entry_others, entry_first, entry_new, entry_fronted, entry_settled, entry_eldest, none_eldest, entry_newest, newest_fronted, newest_apart}
use Rattle.rss_frames.specs.Frames.{Frame, FrameOf, frame_of, frame_among, frame_in, IsNewest, ReadsIn, CopiesFrame}
use Rattle.rss_buffer.specs.Buffered.{unchanged}

-- ---- the frames after a change at one page

-- the same frames, but that this page has this one, or none
abbrev pub with_frame : FrameOf → PageKey → Option Frame → FrameOf
with_frame frames key frame other = cond (is_same other key) frame (frames other)

-- the same frames, but that this page, where it is in memory, stands in its slot now
abbrev pub with_unchanged : FrameOf → PageKey → FrameOf
with_unchanged frames key = with_frame frames key (option_map unchanged (frames key))

pub with_frame-same : (frames : FrameOf) (key : PageKey) (frame : Option Frame) → with_frame frames key frame key ≡ frame
with_frame-same frames key frame = rw (is_same-itself key)

pub with_frame-other : (frames : FrameOf) (key : PageKey) (frame : Option Frame) (other : PageKey) → other ≢ key → with_frame frames key frame other ≡ frames other
with_frame-other frames key frame other apart = rw (is_same-other other key apart)

-- a page in memory stays there as another one comes
pub stays-with : (frames : FrameOf) (key : PageKey) (frame : Frame) (other : PageKey) → IsSome (frames other) → IsSome (with_frame frames key (Some frame) other)
stays-with frames key frame other some = elim (cases_Bool (is_same other key)) [
  | inl same ↦ rw same refl
  | inr off ↦ rw off some
]

-- ---- the frames among entries that were changed

-- what is found of a page, or else of the others
among_cond : (b : Bool) (o p : Option Held) → option_map frame_of (cond b o p) ≡ cond b (option_map frame_of o) (option_map frame_of p)
among_cond true o p = refl
among_cond false o p = refl

pub among_others : (key : PageKey) (es : List Held) → frame_among (others key es) ≡ with_frame (frame_among es) key None
among_others key es = fun_ext (λ other. ap (option_map frame_of) (entry_others key other es) ∙ among_cond (is_same other key) None (entry other es))

pub among_first : (key : PageKey) (e : Held) (es : List Held) → e.key ≡ key → frame_among (e ∷ others key es) ≡ with_frame (frame_among es) key (Some (frame_of e))
among_first key e es at = fun_ext (λ other. ap (option_map frame_of) (entry_first key other e es at) ∙ among_cond (is_same other key) (Some e) (entry other es))

pub among_new : (e : Held) (es : List Held) → frame_among (e ∷ es) ≡ with_frame (frame_among es) e.key (Some (frame_of e))
among_new e es = fun_ext (λ other. ap (option_map frame_of) (entry_new other e es) ∙ among_cond (is_same other e.key) (Some e) (entry other es))

pub among_fronted : (key : PageKey) (es : List Held) → frame_among (fronted key es) ≡ frame_among es
among_fronted key es = fun_ext (λ other. ap (option_map frame_of) (entry_fronted key other es))

pub among_settled : (key : PageKey) (es : List Held) → frame_among (settled key es) ≡ with_unchanged (frame_among es) key
among_settled key es = fun_ext (λ other. ap (option_map frame_of) (entry_settled key other es) ∙ by other (entry other es) refl)
  where
    here : (other : PageKey) (e : Held) → is_same other key ≡ true → entry other es ≡ Some e → Some (frame_of (unmarked key e)) ≡ with_unchanged (frame_among es) key other
    here other e same is =
        let at : other ≡ key = is_same-true other key same in
        let marked : is_same e.key key ≡ true = ap (λ (k : PageKey). is_same k key) (entry_key other es e is ∙ at) ∙ is_same-itself key in
        let there : frame_among es key ≡ Some (frame_of e) = ap (λ (k : PageKey). frame_among es k) (sym at) ∙ ap (option_map frame_of) is in
        rw (same, marked, there) refl

    by : (other : PageKey) (o : Option Held) → entry other es ≡ o → option_map frame_of (option_map (unmarked key) o) ≡ with_unchanged (frame_among es) key other
    by other None is = elim (cases_Bool (is_same other key)) [
      | inl same ↦
          let none : frame_among es key ≡ None = ap (λ (k : PageKey). frame_among es k) (sym (is_same-true other key same)) ∙ ap (option_map frame_of) is in
          rw (same, none) refl
      | inr off ↦ rw off (sym (ap (option_map frame_of) is))
    ]
    by other (Some e) is = elim (cases_Bool (is_same other key)) [
      | inl same ↦ here other e same is
      | inr off ↦
          let unmarked : is_same e.key key ≡ false = ap (λ (k : PageKey). is_same k key) (entry_key other es e is) ∙ off in
          rw (off, unmarked) (sym (ap (option_map frame_of) is))
    ]

-- two pages are used, and one of them is written
pub among_both : (from to : PageKey) (mark : Bool) (v w : List ℕ) (es : List Held) → from ≢ to → IsEntry from w mark es → frame_among (both_changed to from mark v w es) ≡ with_frame (frame_among es) to (Some (record { page = v; changed = true }))
unfolding others
among_both from to mark v w es apart is =
    let e : Held = record { key = from; bytes = w; changed = mark } in
    let put : FrameOf → FrameOf = λ frames. with_frame frames to (Some (record { page = v; changed = true })) in
    let stays : e ∷ others to (others from es) ≡ others to (e ∷ others from es) = rw (is_same-other from to apart) refl in
    let front : e ∷ others from es ≡ fronted from es = rw is refl in
    ap (λ (l : List Held). frame_among (changed_to to v ∷ l)) stays
    ∙ among_first to (changed_to to v) (e ∷ others from es) refl
    ∙ ap (λ (l : List Held). put (frame_among l)) front
    ∙ ap put (among_fronted from es)

-- the frame of an entry with these bytes
pub bytes_frame : (o : Option Held) (bytes : List ℕ) → bytes_of o ≡ Some bytes → (frame : Frame) × (option_map frame_of o ≡ Some frame) × (frame.page ≡ bytes)
bytes_frame None bytes is = absurd (cc)
bytes_frame (Some e) bytes is = (frame_of e, refl, same_Some _ _ is)

-- ---- the same of frames that show their entries

pub in_shown : {s : State} {es : List Held} {n : ℕ} → Shows s es n → frame_in s ≡ frame_among es
in_shown shows = ap frame_among shows.are

-- the same frames, but for the page that was put, that came, that was taken out, that was used, or that was settled
module _ (s : State) (key : PageKey) {now : State} {n : ℕ} where
  pub put_shown : {bytes : List ℕ} → Shows now (written key bytes (entries s)) n → frame_in now ≡ with_frame (frame_in s) key (Some (record { page = bytes; changed = true }))
  put_shown {bytes = bytes} shows = in_shown shows ∙ among_first key (changed_to key bytes) (entries s) refl

  pub gone_shown : Shows now (others key (entries s)) n → frame_in now ≡ with_frame (frame_in s) key None
  gone_shown shows = in_shown shows ∙ among_others key (entries s)

  pub used_shown : Shows now (fronted key (entries s)) n → frame_in now ≡ frame_in s
  used_shown shows = in_shown shows ∙ among_fronted key (entries s)

  pub settled_shown : Shows now (settled key (entries s)) n → frame_in now ≡ with_unchanged (frame_in s) key
  settled_shown shows = in_shown shows ∙ among_settled key (entries s)

pub came_shown : {key : PageKey} {at : ℕ} {disk : Disk} {s now : State} (came : ReadsIn key at disk s now) → frame_in now ≡ with_frame (frame_in s) key (Some (record { page = came.bytes; changed = false }))
came_shown {s = s} came = ap frame_among came.now ∙ among_new _ (entries s)

pub copied_shown : {from to : PageKey} {from_at to_at count : ℕ} {s now : State} → from ≢ to → (copied : CopiesFrame from from_at to to_at count s now)
    → frame_in now ≡ with_frame (frame_in s) to (Some (record { page = with_bytes copied.bytes to_at (slice_range copied.source.page from_at (from_at + count)); changed = true }))
copied_shown {from = from} {to = to} {s = s} apart copied =
    in_shown copied.now ∙ among_both from to copied.source.changed _ copied.source.page (entries s) apart copied.from_there

pub none_shown : {s : State} {n : ℕ} → Shows s [] n → (key : PageKey) → frame_in s key ≡ None
unfolding entry
none_shown shows key = ap (λ (f : FrameOf). f key) (in_shown shows)

-- the page that was used last is in memory
pub newest_there : (s : State) (key : PageKey) → IsNewest key s → IsSome (frame_in s key)
newest_there s key is = by (newest (entries s)) refl is
  where
    by : (o : Option Held) → newest (entries s) ≡ o → option_map (λ e. e.key) o ≡ Some key → IsSome (frame_in s key)
    by None last same = absurd (cc)
    by (Some e) last same =
        let at : e.key ≡ key = same_Some _ _ same in
        subst (λ (k : PageKey). IsSome (frame_in s k)) at (ap (λ o. is_some (option_map frame_of o)) (entry_newest (entries s) e last))

pub newest_shown : {s : State} {es : List Held} {n : ℕ} {key : PageKey} → Shows s es n → option_map (λ e. e.key) (newest es) ≡ Some key → IsNewest key s
newest_shown shows is = ap (λ (es : List Held). option_map (λ e. e.key) (newest es)) shows.are ∙ is

pub none_from : {T : Type 0} (o : Option T) → is_some o ≡ false → o ≡ None
none_from None is = refl
none_from (Some x) is = absurd (cc)

pub newest_used : (s : State) (key : PageKey) {now : State} {n : ℕ} → Shows now (fronted key (entries s)) n → IsSome (frame_in s key) → IsNewest key now
newest_used s key {now} shows = by (entry key (entries s)) refl
  where
    by : (o : Option Held) → entry key (entries s) ≡ o → IsSome (option_map frame_of o) → IsNewest key now
    by None is there = absurd (cc)
    by (Some e) is there = newest_shown shows (ap (option_map (λ e. e.key)) (newest_fronted key (entries s) e is) ∙ ap Some (entry_key key (entries s) e is))

-- ---- the page that wasn't used for the longest time

pub eldest_none : (es : List Held) → None ≡ option_map name_of (eldest es) → es ≡ []
eldest_none es = by (eldest es) refl
  where
    by : (o : Option Held) → eldest es ≡ o → None ≡ option_map name_of o → es ≡ []
    by None last is = none_eldest es last
    by (Some e) last is = absurd (cc)

module _ (es : List Held) (key : PageKey) (changed : Bool) (distinct : AreDistinct es) (is : Some (key, changed) ≡ option_map name_of (eldest es)) where
  the_eldest : (e : Held) × (eldest es ≡ Some e) × ((key, changed) ≡ name_of e)
  the_eldest = by (eldest es) refl is
    where
      by : (o : Option Held) → eldest es ≡ o → Some (key, changed) ≡ option_map name_of o → (e : Held) × (eldest es ≡ Some e) × ((key, changed) ≡ name_of e)
      by None last same = absurd (cc)
      by (Some e) last same = (e, last, same_Some _ _ same)

  pub eldest_there : IsInFrame (frame_among es) key changed
  eldest_there =
      let name = the_eldest.2 in
      let there : entry key es ≡ Some the_eldest.0 = ap (λ (n : PageKey × Bool). entry n.0 es) name ∙ entry_eldest es the_eldest.0 distinct the_eldest.1 in
      record { frame = frame_of the_eldest.0; there = ap (option_map frame_of) there; mark = ap (λ (n : PageKey × Bool). n.1) (sym name) }

  pub eldest_apart : 1 < length es → option_map (λ e. e.key) (newest es) ≡ Some key → ⊥
  eldest_apart two = by (newest es) refl
    where
      by : (o : Option Held) → newest es ≡ o → option_map (λ e. e.key) o ≡ Some key → ⊥
      by None first same = absurd (cc)
      by (Some new) first same = newest_apart es new the_eldest.0 distinct two first the_eldest.1 (same_Some _ _ same ∙ ap (λ (n : PageKey × Bool). n.0) the_eldest.2)

-- ---- results

pub on_err : {T E P : Type 0} (result : Result T E) → P → OnErr result P
on_err (Ok x) p = tt
on_err (Err e) p = p
