-- One more event of a device in memory.
use Rattle.std.proofs.Common.{◌≡◌, ◌≢◌, ◌⊎◌, inl, inr, ℕ, ◌+◌, get_or, ◌<◌, ◌≤◌, List, [], ◌∷◌, ◌++◌, length, take, set, refl, sym, ◌∙◌, ap, subst, arith, length-append, length-set, get_or-set_same, get_or-set_other}
use Rattle.std.proofs.lemmas.List.{take_all, take-append-le, ext_get_or, take_more}
use Rattle.std.proofs.lemmas.Bool.{cases_eq}
use Rattle.std.specs.Prelude.{Bool, true, false, if◌then◌else◌}
use Rattle.rss_base.proofs.Moments.{started, none_changed}
use Rattle.rss_base.specs.DiskRule.{Pages, page, Leaves, LeavesOnly, IsAt, SameOff, TornIn, Passes, WritesIn}
use Rattle.rss_device.specs.Memory.{Among, IsPage, Held, step, replay, at_first, IsImage, IsKept, disk_of}
use Rattle.rss_device.specs.MemoryLaws.{all_events, same_some}
use Rattle.rss_device.specs.declared.event.Event.{Event}
use Rattle.rss_device.specs.declared.event.Event.TheVariants.{Wrote, Torn, Synced}

pub replay-append : (held : Held) (events later : List Event) → replay held (events ++ later) ≡ replay (replay held events) later
replay-append held [] later = refl
replay-append held (e ∷ events) later = replay-append (step held e) events later

pub replay-push : (held : Held) (events : List Event) (event : Event) → replay held (events ++ event ∷ []) ≡ step (replay held events) event
replay-push held events event = replay-append held events (event ∷ [])

pub replay_more : (held : Held) (events : List Event) (i : ℕ) (d : Event) → i < length events → replay held (take (i + 1) events) ≡ step (replay held (take i events)) (get_or events i d)
replay_more held events i d lt = ap (λ (es : List Event). replay held es) (take_more events i d lt) ∙ replay-push held (take i events) (get_or events i d)

module _ (first : Pages) (events : List Event) (pages : Pages) (event : Event) where
  abbrev so_far : Held
  so_far = replay (at_first first) events

  -- at the moment of the event
  at_event : (now : Pages) (t : ℕ) (image : Pages) → length events < t → t ≤ length (events ++ event ∷ []) → (disk_of first (events ++ event ∷ []) now).images t image → IsImage (step so_far event) image
  at_event now t image lt le left =
      let last : take t (events ++ event ∷ []) ≡ events ++ event ∷ [] = take_all t (events ++ event ∷ []) (omega (arith, length-append events (event ∷ []))) in
      subst (λ (h : Held). IsImage h image) (ap (λ (es : List Event). replay (at_first first) es) last ∙ replay-push (at_first first) events event) left

  pub one_more : (later : List Event) (after : Pages) (P : Pages → Type 0) → later ≡ events ++ event ∷ [] → ((image : Pages) → IsImage (step so_far event) image → P image) → Passes (disk_of first events pages) (disk_of first later after) P
  one_more later after P is has = subst (λ (es : List Event). Passes (disk_of first events pages) (disk_of first es after) P) (sym is) (record {
    later = omega (arith, length-append events (event ∷ []));
    past = λ t image le.
        let same : take t (events ++ event ∷ []) ≡ take t events = take-append-le t events (event ∷ []) le in (
          subst (λ (es : List Event). IsImage (replay (at_first first) es) image) same,
          subst (λ (es : List Event). IsImage (replay (at_first first) es) image) (sym same),
        );
    each = λ t image lt le left. has image (at_event after t image lt le left);
  })

  pub leaves_now : (image : Pages) → IsImage so_far image → Leaves (disk_of first events pages) image
  leaves_now image is = subst (λ (es : List Event). IsImage (replay (at_first first) es) image) (sym (all_events events)) is

  pub left_now : (image : Pages) → Leaves (disk_of first events pages) image → IsImage so_far image
  left_now image left = subst (λ (es : List Event). IsImage (replay (at_first first) es) image) (all_events events) left

pub in_front : (xs : List ℕ) (x q : ℕ) → q ≢ x → Among (x ∷ xs) q → Among xs q
in_front xs x q other (inl e) = absurd (other e)
in_front xs x q other (inr there) = there

-- what a loose page may hold
abbrev MayHold : Held → ℕ → List ℕ → Type 0
MayHold held q bytes = (bytes ≡ page held.synced q) ⊎ ((bytes ≡ page held.pages q) ⊎ IsPage bytes)

-- an image with any bytes in one page was an image before, with other bytes there
torn : (held : Held) (at : ℕ) (image : Pages) → at < length held.pages → length image ≡ length held.pages
    → ((q : ℕ) → q ≢ at → (Among held.loose q → ⊥) → page image q ≡ page held.pages q)
    → ((q : ℕ) → q ≢ at → Among held.loose q → MayHold held q (page image q))
    → TornIn (IsAt at) (IsImage held) image
torn held at image room size kept loose =
    let back = set image at (page held.pages at) in
    let there : page back at ≡ page held.pages at = get_or-set_same image at (page held.pages at) [] (omega (arith, size)) in
    record {
      before = back;
      was = record {
        size = length-set image at (page held.pages at) ∙ size;
        kept = λ q not. elim (cases_eq q at) [
          | inl same ↦ subst (λ (n : ℕ). page back n ≡ page held.pages n) (sym same) there
          | inr other ↦ get_or-set_other image at q (page held.pages at) [] other ∙ kept q other not
        ];
        loose = λ q is. elim (cases_eq q at) [
          | inl same ↦ inr (inl (subst (λ (n : ℕ). page back n ≡ page held.pages n) (sym same) there))
          | inr other ↦ subst (MayHold held q) (sym (get_or-set_other image at q (page held.pages at) [] other)) (loose q other is)
        ];
      };
      same = record { size = sym (length-set image at (page held.pages at)); others = λ q other. sym (get_or-set_other image at q (page held.pages at) [] other) };
    }

pub torn_write : (held : Held) (at : ℕ) (image : Pages) → at < length held.pages → IsImage (step held (Torn at)) image → TornIn (IsAt at) (IsImage held) image
torn_write held at image room is = torn held at image room is.size (λ q other not. is.kept q (λ in_it. not (in_front held.loose at q other in_it))) (λ q other in_it. is.loose q (inr in_it))

pub whole_write : (held : Held) (at : ℕ) (bytes : List ℕ) (image : Pages) → at < length held.pages → IsImage (step held (Wrote at bytes)) image → TornIn (IsAt at) (IsImage held) image
whole_write held at bytes image room is =
    torn held at image room (is.size ∙ length-set held.pages at bytes)
    (λ q other not. is.kept q (λ in_it. not (in_front held.loose at q other in_it)) ∙ get_or-set_other held.pages at q bytes [] other)
    (λ q other in_it. subst (λ (p : List ℕ). (page image q ≡ page held.synced q) ⊎ ((page image q ≡ p) ⊎ IsPage (page image q))) (get_or-set_other held.pages at q bytes [] other) (is.loose q (inr in_it)))

-- after a sync a stop leaves what a read gives, which it could leave before
pub synced_only : (held : Held) (image : Pages) → IsImage (step held Synced) image → image ≡ held.pages
synced_only held image is = ext_get_or [] image held.pages is.size (λ q lt. is.kept q (λ none. none))

pub synced_before : (held : Held) (image : Pages) → IsImage (step held Synced) image → IsImage held image
synced_before held image is = record { size = is.size; kept = λ q not. is.kept q (λ none. none); loose = λ q in_it. inr (inl (is.kept q (λ none. none))) }

-- what is known of a device in memory
module _ (first : Pages) (events : List Event) (pages : Pages) (kept : IsKept first events pages) where
  pub kept_after : (later : List Event) (event : Event) (after : Pages) → later ≡ events ++ event ∷ [] → after ≡ (step (replay (at_first first) events) event).pages → IsKept first later after
  kept_after later event after is now = now ∙ sym (ap (λ (h : Held). h.pages) (ap (λ (es : List Event). replay (at_first first) es) is ∙ replay-push (at_first first) events event))

  room : (at : ℕ) → at < length pages → at < length (replay (at_first first) events).pages
  room at lt = subst (λ (p : Pages). at < length p) kept lt

  leaves : (at : ℕ) (image : Pages) → TornIn (IsAt at) (IsImage (replay (at_first first) events)) image → TornIn (IsAt at) (Leaves (disk_of first events pages)) image
  leaves at image torn = record { before = torn.before; was = leaves_now first events pages Synced torn.before torn.was; same = torn.same }

  pub tears : (later : List Event) (at : ℕ) (after : Pages) → at < length pages → later ≡ events ++ Torn at ∷ [] → Passes (disk_of first events pages) (disk_of first later after) (TornIn (IsAt at) (Leaves (disk_of first events pages)))
  tears later at after lt is = one_more first events pages (Torn at) later after _ is (λ image left. leaves at image (torn_write (replay (at_first first) events) at image (room at lt) left))

  pub writes : (later : List Event) (at : ℕ) (bytes : List ℕ) (after : Pages) → at < length pages → later ≡ events ++ Wrote at bytes ∷ [] → Passes (disk_of first events pages) (disk_of first later after) (TornIn (IsAt at) (Leaves (disk_of first events pages)))
  writes later at bytes after lt is = one_more first events pages (Wrote at bytes) later after _ is (λ image left. leaves at image (whole_write (replay (at_first first) events) at bytes image (room at lt) left))

  pub syncs : (later : List Event) → later ≡ events ++ Synced ∷ [] → Passes (disk_of first events pages) (disk_of first later pages) (Leaves (disk_of first events pages))
  syncs later is = one_more first events pages Synced later pages _ is (λ image left. leaves_now first events pages Synced image (synced_before (replay (at_first first) events) image left))

  pub synced : (later : List Event) (after : Pages) → later ≡ events ++ Synced ∷ [] → LeavesOnly (disk_of first later after) pages
  synced later after is image left =
      let there = left_now first later after Synced image left in
      synced_only (replay (at_first first) events) image (subst (λ (h : Held). IsImage h image) (ap (λ (es : List Event). replay (at_first first) es) is ∙ replay-push (at_first first) events Synced) there) ∙ sym kept

-- a push whose answer is let go
pub either : {xs ys zs : List Event} (b : Bool) → xs ≡ (if b then ys else zs) → (xs ≡ ys) ⊎ (xs ≡ zs)
either true e = inl e
either false e = inr e

pub kept_same : (first pages : Pages) (events later : List Event) → later ≡ events → IsKept first events pages → IsKept first later pages
kept_same first pages events later same kept = subst (λ (es : List Event). IsKept first es pages) (sym same) kept

-- what is written in one page: what a read gives, and what a stop leaves
pub written_at : (first : Pages) (events later : List Event) (pages : Pages) (at : ℕ) (bytes : List ℕ) → Passes (disk_of first events pages) (disk_of first later (set pages at bytes)) (TornIn (IsAt at) (Leaves (disk_of first events pages)))
    → WritesIn (IsAt at) (disk_of first events pages) (disk_of first later (set pages at bytes))
written_at first events later pages at bytes passes = record {
  told = (λ told. record { pages = set pages at bytes; is = refl }, λ told. record { pages = pages; is = refl });
  kept = λ before told. record {
    after = set pages at bytes;
    told = refl;
    same = subst (λ (p : Pages). SameOff (IsAt at) p (set pages at bytes)) (same_some told) (record { size = length-set pages at bytes; others = λ q other. get_or-set_other pages at q bytes [] other });
  };
  moments = λ told. passes;
}

-- what was written in no page
pub written_none : (first : Pages) (events later : List Event) (pages : Pages) (at : ℕ) → Passes (disk_of first events pages) (disk_of first later pages) (TornIn (IsAt at) (Leaves (disk_of first events pages)))
    → WritesIn (IsAt at) (disk_of first events pages) (disk_of first later pages)
written_none first events later pages at passes = record {
  told = (λ told. record { pages = pages; is = refl }, λ told. record { pages = pages; is = refl });
  kept = λ before told. record { after = before; told = told; same = none_changed before };
  moments = λ told. passes;
}

pub stays : (first pages : Pages) (events later : List Event) (P : Pages → Type 0) → later ≡ events → Passes (disk_of first events pages) (disk_of first later pages) P
stays first pages events later P same = subst (λ (es : List Event). Passes (disk_of first events pages) (disk_of first es pages) P) (sym same) (started (disk_of first events pages) P)

pub at_true : (xs ys zs : Pages) (b : Bool) → b ≡ true → xs ≡ (if b then ys else zs) → xs ≡ ys
at_true xs ys zs true is e = e
at_true xs ys zs false is e = absurd (cc (is))

-- nothing is loose at first
pub fresh_only : (first pages : Pages) (events : List Event) → events ≡ [] → first ≡ pages → LeavesOnly (disk_of first events pages) pages
fresh_only first pages events none same image left =
    let is : IsImage (at_first first) image = subst (λ (es : List Event). IsImage (replay (at_first first) (take (length es) es)) image) none left in
    ext_get_or [] image first is.size (λ q lt. is.kept q (λ no. no)) ∙ same
