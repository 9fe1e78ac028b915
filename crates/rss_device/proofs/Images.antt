-- What a stop of a device in memory leaves, by its events.
use Rattle.std.proofs.Common.{◌≡◌, ◌≢◌, inl, inr, ℕ, zero, suc, ◌+◌, ◌-◌, get_or, ◌<◌, ◌≤◌, List, [], ◌∷◌, ◌++◌, length, take, drop, set, replicate, refl, sym, ◌∙◌, ap, subst, arith, length-append, length-drop, take-append-drop, length-set, get_or-set_same, get_or-set_other}
use Rattle.std.proofs.lemmas.List.{length-take, length-replicate, get_or-replicate, get_or_past, get_or_default, get_or-drop, take_more, take_rest}
use Rattle.std.proofs.Math.Seq.{take-nil}
use Rattle.std.proofs.Math.Nat.{sub-zero}
use Rattle.std.specs.Prelude.{All}
use Rattle.std.proofs.lemmas.Bool.{cases_eq, cases_lt}
use Rattle.rss_base.specs.DiskRule.{Pages, page}
use Rattle.rss_device.specs.Memory.{Among, IsPage, Held, step, replay, at_first, resized, up_to, IsImage}
use Rattle.rss_device.specs.MemoryLaws.{as_read}
use Rattle.rss_device.specs.Stop.{Allows, IsFilled, IsLeft, IsUnsynced, IsSettled, nothing, after_sync}
use Rattle.rss_device.specs.declared.event.Event.{Event}
use Rattle.rss_device.specs.declared.event.Event.TheVariants.{Wrote, Torn, Synced, Sized}
use Rattle.rss_device.specs.declared.image.Unsynced.{Unsynced}
use Rattle.rss_device.specs.declared.image.Unsynced.TheVariants.{Old, New, Filled}
use Rattle.rss_device.proofs.Events.{replay-push, replay-append, in_front}

length-resized : (n : ℕ) (pages : Pages) → length (resized n pages) ≡ n
length-resized n pages =
    let zeros : List ℕ = replicate 4096 0 in
    omega (arith, length-append (take n pages) (replicate (n - length pages) zeros), length-take n pages, length-replicate (n - length pages) zeros)

among_up_to : (n q : ℕ) → q < n → Among (up_to n) q
among_up_to zero q lt = absurd (omega arith)
among_up_to (suc n) q lt = elim (cases_eq q n) [
  | inl same ↦ inl same
  | inr other ↦ inr (among_up_to n q (omega arith))
]

-- every place that isn't below n is past its pages
past : (n q : ℕ) (pages : Pages) → length pages ≡ n → (Among (up_to n) q → ⊥) → page pages q ≡ []
past n q pages long not = elim (cases_lt q n) [
  | inl inside ↦ absurd (not (among_up_to n q inside))
  | inr outside ↦ get_or_past pages q [] (omega arith)
]

-- a page that isn't loose is as it was at the last sync
pub record Agrees (held : Held) : Type 0 where
  pub size : length held.synced ≡ length held.pages
  pub same : (q : ℕ) → (Among held.loose q → ⊥) → page held.synced q ≡ page held.pages q

agrees_step : (held : Held) (event : Event) → Agrees held → Agrees (step held event)
agrees_step held (Wrote at bytes) agrees = record {
  size = agrees.size ∙ sym (length-set held.pages at bytes);
  same = λ q not. agrees.same q (λ in_it. not (inr in_it)) ∙ sym (get_or-set_other held.pages at q bytes [] (λ e. not (inl e)));
}
agrees_step held (Torn at) agrees = record { size = agrees.size; same = λ q not. agrees.same q (λ in_it. not (inr in_it)) }
agrees_step held Synced agrees = record { size = refl; same = λ q not. refl }
agrees_step held (Sized n) agrees = record {
  size = length-resized n held.synced ∙ sym (length-resized n held.pages);
  same = λ q not. past n q (resized n held.synced) (length-resized n held.synced) not ∙ sym (past n q (resized n held.pages) (length-resized n held.pages) not);
}

agrees_on : (held : Held) (events : List Event) → Agrees held → Agrees (replay held events)
agrees_on held [] agrees = agrees
agrees_on held (event ∷ events) agrees = agrees_on (step held event) events (agrees_step held event agrees)

pub agrees : (first : Pages) (events : List Event) → Agrees (replay (at_first first) events)
agrees first events = agrees_on (at_first first) events (record { size = refl; same = λ q not. refl })

-- each of these is an image
pub left_is_image : (unsynced : Unsynced) (held : Held) (image : Pages) → Agrees held → IsLeft unsynced held image → IsImage held image
left_is_image Old held image agrees left = subst (IsImage held) (sym left) (record { size = agrees.size; kept = agrees.same; loose = λ q in_it. inl refl })
left_is_image New held image agrees left = subst (IsImage held) (sym left) (as_read held)
left_is_image (Filled fill) held image agrees left = record {
  size = left.size;
  kept = left.kept;
  loose = λ q in_it. elim (cases_lt q (length held.pages)) [
    | inl inside ↦ inr (inr (left.whole q in_it inside))
    | inr outside ↦ inr (inl (get_or_past image q [] (omega (arith, left.size)) ∙ sym (get_or_past held.pages q [] outside)))
  ];
}

-- where nothing is loose
pub settled_left : (unsynced : Unsynced) (held : Held) (image : Pages) → held.synced ≡ held.pages → held.loose ≡ [] → image ≡ held.pages → IsLeft unsynced held image
settled_left Old held image same settled is = is ∙ sym same
settled_left New held image same settled is = is
settled_left (Filled fill) held image same settled is = record {
  size = ap length is;
  kept = λ q not. ap (λ (p : Pages). page p q) is;
  filled = λ q in_it lt. absurd (subst (λ (l : List ℕ). Among l q) settled in_it);
  whole = λ q in_it lt. absurd (subst (λ (l : List ℕ). Among l q) settled in_it);
}

pub settled : (first : Pages) (events : List Event) → IsSettled events → let held = replay (at_first first) events in (held.synced ≡ held.pages) × (held.loose ≡ [])
settled first _ nothing = (refl, refl)
settled first _ (after_sync events) = let more = replay-push (at_first first) events Synced in (ap (λ (h : Held). h.synced) more ∙ sym (ap (λ (h : Held). h.pages) more), ap (λ (h : Held). h.loose) more)

full_page : (fill : ℕ) → fill < 256 → IsPage (replicate 4096 fill)
full_page fill fits = (length-replicate 4096 fill, λ k d lt. subst (λ (b : ℕ). b < 256) (sym (get_or-replicate 4096 k fill d (omega (arith, length-replicate {A = ℕ} 4096 fill)))) fits)

filled_of : (fill : ℕ) (held : Held) (image : Pages) → fill < 256 → length image ≡ length held.pages
    → ((q : ℕ) → (Among held.loose q → ⊥) → page image q ≡ page held.pages q)
    → ((q : ℕ) → Among held.loose q → q < length held.pages → page image q ≡ replicate 4096 fill)
    → IsFilled fill held image
filled_of fill held image fits size kept filled = record { size = size; kept = kept; filled = filled; whole = λ q in_it lt. subst IsPage (sym (filled q in_it lt)) (full_page fill fits) }

-- a write fills its page
pub filled_write : (fill at : ℕ) (held : Held) (after image : Pages) → fill < 256 → length after ≡ length held.pages → ((q : ℕ) → q ≢ at → page after q ≡ page held.pages q) → IsFilled fill held image → IsFilled fill (record { pages = after; synced = held.synced; loose = at ∷ held.loose }) (set image at (replicate 4096 fill))
filled_write fill at held after image fits size others is =
    let full : List ℕ = replicate 4096 fill in
    filled_of fill (record { pages = after; synced = held.synced; loose = at ∷ held.loose }) (set image at full) fits
    (length-set image at full ∙ is.size ∙ sym size)
    (λ q not. get_or-set_other image at q full [] (λ e. not (inl e)) ∙ is.kept q (λ in_it. not (inr in_it)) ∙ sym (others q (λ e. not (inl e))))
    (λ q in_it lt. elim (cases_eq q at) [
      | inl same ↦ subst (λ (n : ℕ). page (set image at full) n ≡ full) (sym same) (get_or-set_same image at full [] (omega (arith, size, is.size)))
      | inr other ↦ get_or-set_other image at q full [] other ∙ is.filled q (in_front held.loose at q other in_it) (omega (arith, size))
    ])

-- a new size leaves all pages loose
pub filled_size : (n fill : ℕ) (held : Held) (image : Pages) → fill < 256 → image ≡ replicate n (replicate 4096 fill) → IsFilled fill (step held (Sized n)) image
filled_size n fill held image fits is =
    let full : List ℕ = replicate 4096 fill in
    let long : length image ≡ n = ap length is ∙ length-replicate n full in
    filled_of fill (step held (Sized n)) image fits (long ∙ sym (length-resized n held.pages))
    (λ q not. past n q image long not ∙ sym (past n q (resized n held.pages) (length-resized n held.pages) not))
    (λ q in_it lt. ap (λ (p : Pages). page p q) is ∙ get_or-replicate n q full [] (omega (arith, length-resized n held.pages)))

-- cleared, and made long again
pub cleared : (n long : ℕ) (full : List ℕ) (front : Pages) → front ≡ [] → long ≡ 0 → take n front ++ replicate (n - long) full ≡ replicate n full
cleared n long full front none no_pages = rw (none, no_pages, take-nil, sub-zero) refl

-- up to an event that is a sync
pub synced_now : (events : List Event) (i synced : ℕ) (d : Event) → synced ≡ i + 1 → i < length events → get_or events i d ≡ Synced → IsSettled (take synced events)
synced_now events i synced d is lt sync = subst IsSettled (sym (ap (λ (n : ℕ). take n events) is ∙ take_more events i d lt ∙ ap (λ (e : Event). take i events ++ e ∷ []) sync)) (after_sync (take i events))

pub unsynced_at : (events : List Event) (k i : ℕ) (d e : Event) → k ≡ i → i < length events → IsUnsynced (get_or events i d) → IsUnsynced (get_or events k e)
unsynced_at events k i d e is lt at_i = subst IsUnsynced (get_or_default events i d e lt ∙ ap (λ (n : ℕ). get_or events n e) (sym is)) at_i

pub unsynced_rest : (events : List Event) (synced : ℕ) → ((k : ℕ) → synced ≤ k → k < length events → IsUnsynced (get_or events k Synced)) → All IsUnsynced (drop synced events)
unsynced_rest events synced none k d lt =
    let inside : synced + k < length events = omega (arith, length-drop synced events, lt) in
    subst IsUnsynced (sym (get_or-drop synced events k d ∙ get_or_default events (synced + k) d Synced inside)) (none (synced + k) (omega arith) inside)

allowed : (unsynced : Unsynced) (events : List Event) → All IsUnsynced events → All (Allows unsynced) events
allowed Old events is = is
allowed New events is = λ k d lt. tt
allowed (Filled fill) events is = is

-- from the last sync on
pub left_after : (unsynced : Unsynced) (first : Pages) (events : List Event) (synced : ℕ) (at_sync image : Pages) → IsSettled (take synced events) → All IsUnsynced (drop synced events)
    → at_sync ≡ (replay (at_first first) (take synced events)).pages
    → ((held : Held) → All (Allows unsynced) (take (length events - synced) (drop synced events)) → IsLeft unsynced held at_sync → IsLeft unsynced (replay held (take (length events - synced) (drop synced events))) image)
    → IsLeft unsynced (replay (at_first first) events) image
left_after unsynced first events synced at_sync image is_settled is_unsynced at_sync-is goes_on =
    let held : Held = replay (at_first first) (take synced events) in
    let rest = take_rest events synced in
    let same = settled first (take synced events) is_settled in
    let from_sync : IsLeft unsynced (replay held (drop synced events)) image = subst (λ (es : List Event). IsLeft unsynced (replay held es) image) rest
    (goes_on held (subst (All (Allows unsynced)) (sym rest) (allowed unsynced (drop synced events) is_unsynced)) (settled_left unsynced held at_sync same.0 same.1 at_sync-is)) in
    subst (λ (h : Held). IsLeft unsynced h image) (sym (replay-append (at_first first) (take synced events) (drop synced events)) ∙ ap (λ (es : List Event). replay (at_first first) es) (take-append-drop synced events)) from_sync
