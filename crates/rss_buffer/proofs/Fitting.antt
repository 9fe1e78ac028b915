-- No more pages are in memory than are mapped.
use Rattle.std.proofs.Common.{◌≡◌, ◌≢◌, ◌≤◌, ℕ, true, List, [], ◌∷◌, length, set, Option, Some, None, IsSome, refl, sym, ◌∙◌, ap, arith}
use Rattle.std.proofs.lemmas.Option.{same_Some}
use Rattle.rss_base.specs.PageMap.{owner_of, page_count}
use Rattle.rss_base.specs.StoredPages.{mapped_by}
use Rattle.rss_base.specs.declared.key.PageKey.{PageKey}
use Rattle.rss_base.proofs.Keys.{is_same-itself, is_same-other, owner_of-slot_of, the_slot}
use Rattle.rss_frames.specs.State.{State}
use Rattle.rss_frames.specs.Entries.{Held, AreDistinct, entries, entry}
use Rattle.rss_shadow.specs.Maps.{Maps}
use Rattle.rss_shadow.proofs.Counts.{Owners, one_page, Assigns-set, owned_within}
use Rattle.rss_shadow.proofs.Owned.{mapped-owned}
use Rattle.rss_frames.specs.Frames.{frame_in, frame_of}
use Rattle.rss_buffer.specs.Buffered.{AreFrames}

-- a page that is apart from the first one is among the others
entry_behind : (e : Held) (es : List Held) (key : PageKey) → e.key ≢ key → entry key (e ∷ es) ≡ entry key es
unfolding entry
entry_behind e es key apart = rw (is_same-other e.key key apart) refl

entry_front : (e : Held) (es : List Held) → entry e.key (e ∷ es) ≡ Some e
unfolding entry
entry_front e es = rw (is_same-itself e.key) refl

-- the pages behind the first one are mapped, once this one has no slot
mapped_behind : (e : Held) (es : List Held) (owners : Owners) (slot : ℕ) → entry e.key es ≡ None → owner_of owners slot ≡ Some e.key → ((key : PageKey) → IsSome (entry key (e ∷ es)) → mapped_by owners key ≡ true) → (key : PageKey) → IsSome (entry key es) → mapped_by (set owners slot None) key ≡ true
mapped_behind e es owners slot once owned mapped key there =
    let apart : e.key ≢ key = λ at. let none : entry key es ≡ None = ap (λ (k : PageKey). entry k es) (sym at) ∙ once in cc in
    let its = the_slot owners key (mapped key (rw (entry_behind e es key apart) there)) in
    let its_own = owner_of-slot_of owners key its.0 its.1 in
    let off : its.0 ≢ slot = λ at. apart (same_Some _ _ (sym owned ∙ ap (owner_of owners) (sym at) ∙ its_own)) in
    let one = Assigns-set owners slot None (owned_within owners slot e.key owned) in
    mapped-owned (set owners slot None) key its.0 (one.others its.0 off ∙ its_own)

entries_few : (es : List Held) (owners : Owners) → AreDistinct es → ((key : PageKey) → IsSome (entry key es) → mapped_by owners key ≡ true) → length es ≤ page_count owners
unfolding AreDistinct
entries_few [] owners distinct mapped = omega arith
entries_few (e ∷ es) owners distinct mapped =
    let found = the_slot owners e.key (mapped e.key (rw (entry_front e es) refl)) in
    let owned = owner_of-slot_of owners e.key found.0 found.1 in
    let one = Assigns-set owners found.0 None (owned_within owners found.0 e.key owned) in
    let rest = entries_few es (set owners found.0 None) distinct.1 (mapped_behind e es owners found.0 distinct.0 owned mapped) in
    omega (arith, rest, one.pages, ap one_page owned)

-- the pages in memory are mapped
pub frames_few : (s : State) (maps : Maps) → AreDistinct (entries s) → AreFrames maps (frame_in s) → length (entries s) ≤ page_count maps.current
frames_few s maps distinct frames = entries_few (entries s) maps.current distinct (λ key there. by key (entry key (entries s)) refl there)
  where
    by : (key : PageKey) (o : Option Held) → entry key (entries s) ≡ o → IsSome o → mapped_by maps.current key ≡ true
    by key None is there = absurd (cc)
    by key (Some e) is there = frames.mapped key (frame_of e) (rw is refl)
