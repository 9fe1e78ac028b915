-- Pages in places.
use Rattle.std.proofs.Common.{◌≡◌, ◌≢◌, ◌⊎◌, ◌↔◌, ℕ, zero, suc, ◌+◌, ◌<◌, ◌≤◌, Bool, true, false, cond, List, [], ◌∷◌, length, replicate, set, inl, inr, Option, Some, None, refl, sym, ◌∙◌, ap, subst, arith}
use Rattle.std.specs.Prelude.{if◌then◌else◌, ◌&&◌, ◌==◌, is_some, is_none, IfSome, count_by, All}
use Rattle.std.specs.Option.{option_or}
use Rattle.std.proofs.Math.Path.{fun_ext}
use Rattle.std.proofs.lemmas.Bool.{cases_Bool, cases_eq, false_from_ne_true, true_from_ne_false, cond-true, cond-false, true≢false, both_ways, ne_eqb, and_right}
use Rattle.std.proofs.lemmas.List.{get_or-set_same, get_or-set_other, length-set, get_or_default}
use Rattle.std.proofs.lemmas.List.Sums.{sum_by-le, sum_by-set, count_by-le-length}
use Rattle.rss_base.specs.PageMap.{IsKey, space_code}
use Rattle.rss_base.specs.Notes.{with_note, MayDo}
use Rattle.rss_base.specs.Paged.{Held, with_page, with_mapped, page_key, is_same, IsLeastUnmapped, IsUnmappedAt, IsFirstFrom, NoneFrom}
use Rattle.rss_base.specs.declared.key.Space.{Space}
use Rattle.rss_base.specs.declared.key.PageKey.{PageKey}
use Rattle.rss_base.proofs.Keys.{is_same-true, is_same-itself}
use Rattle.rss_device.specs.MemPages.{has_key, place_at, StoredOf, stored_in, with_stored, page_in, held_in, note_in, noted_in, placed_in, free_in, ArePlaces, no_backing}
use Rattle.rss_device.specs.MemPagesLaws.{mapped_at}
use Rattle.rss_device.specs.declared.stored.Stored.{Stored}

-- ---- searches

pub none_counted : {X : Type 0} (p : X → Bool) (xs : List X) → All (λ x. p x ≡ false) xs → count_by p xs ≡ 0
none_counted p xs none =
    let le = sum_by-le (λ x. cond (p x) 1 0) 0 xs (λ k d below. rw (none k d below) (omega arith)) in
    omega arith

-- ---- what a place has

abbrev own : PageKey → Option Stored → Option Stored
own key None = None
own key (Some stored) = if is_same key stored.key then Some stored else None

stored-cons : (place : Option Stored) (places : List (Option Stored)) (key : PageKey) → stored_in (place ∷ places) key ≡ option_or (own key place) (stored_in places key)
stored-cons None places key = refl
stored-cons (Some stored) places key = elim (cases_Bool (is_same key stored.key)) [
  | inl same ↦ rw same
  | inr other ↦ rw other
]

lacks : (place : Option Stored) (key : PageKey) → has_key key place ≡ false → own key place ≡ None
lacks None key is = refl
lacks (Some stored) key is = rw is

own-has : (place : Option Stored) (key : PageKey) → has_key key place ≡ true → own key place ≡ place
own-has None key is = refl
own-has (Some stored) key is = rw is

has_other : (place : Option Stored) (key other : PageKey) → has_key key place ≡ true → is_same other key ≡ false → has_key other place ≡ false
has_other None key other is differs = cc
has_other (Some stored) key other is differs = subst (λ (k : PageKey). is_same other k ≡ false) (is_same-true key stored.key is) differs

or_none : {X : Type 0} (o : Option X) → option_or o None ≡ o
or_none None = refl
or_none (Some x) = refl

-- ---- what all places have

none_stored : (places : List (Option Stored)) (key : PageKey) → All (λ place. has_key key place ≡ false) places → stored_in places key ≡ None
none_stored [] key none = refl
none_stored (place ∷ places) key none =
    stored-cons place places key ∙ rw (lacks place key (none zero place (omega arith))) (none_stored places key (λ k d below. none (suc k) d (omega arith)))

stored_only : (places : List (Option Stored)) (at : ℕ) (key : PageKey) → ((k : ℕ) → k ≢ at → has_key key (place_at places k) ≡ false) → stored_in places key ≡ own key (place_at places at)
stored_only [] at key others = refl
stored_only (place ∷ places) zero key others =
    stored-cons place places key ∙ rw (none_stored places key (λ k d below. rw (get_or_default places k d None below) (others (suc k) (λ e. omega arith)))) (or_none (own key place))
stored_only (place ∷ places) (suc at) key others =
    stored-cons place places key ∙ rw (lacks place key (others zero (λ e. omega arith))) (stored_only places at key (λ k differs. others (suc k) (λ e. differs (omega arith))))

stored-set : (places : List (Option Stored)) (at : ℕ) (new : Option Stored) (key : PageKey) → own key new ≡ own key (place_at places at) → stored_in (set places at new) key ≡ stored_in places key
stored-set [] at new key same = refl
stored-set (place ∷ places) zero new key same =
    stored-cons new places key ∙ ap (λ (o : Option Stored). option_or o (stored_in places key)) same ∙ sym (stored-cons place places key)
stored-set (place ∷ places) (suc at) new key same =
    stored-cons place (set places at new) key ∙ ap (option_or (own key place)) (stored-set places at new key same) ∙ sym (stored-cons place places key)

mapped_by : (places : List (Option Stored)) (at : ℕ) (key : PageKey) → has_key key (place_at places at) ≡ true → placed_in places key ≡ true
unfolding placed_in
mapped_by [] at key is = cc
mapped_by (None ∷ places) zero key is = cc
mapped_by (None ∷ places) (suc at) key is = mapped_by places at key is
mapped_by (Some stored ∷ places) zero key is = rw is
mapped_by (Some stored ∷ places) (suc at) key is = elim (cases_Bool (is_same key stored.key)) [
  | inl same ↦ rw same
  | inr other ↦ rw other (mapped_by places at key is)
]

within : (places : List (Option Stored)) (at : ℕ) (key : PageKey) → has_key key (place_at places at) ≡ true → at < length places
within [] at key is = cc
within (place ∷ places) zero key is = omega arith
within (place ∷ places) (suc at) key is = let below = within places at key is in omega arith

pub none_has : (places : List (Option Stored)) (key : PageKey) → All (λ place. has_key key place ≡ false) places → placed_in places key ≡ false
unfolding placed_in
none_has places key none = rw (none_stored places key none)

-- ---- one place changes

-- No other place has this page, this place has no other, and the new one has no other either.
pub record Changes (places : List (Option Stored)) (at : ℕ) (key : PageKey) (new : Option Stored) : Type 0 where
  pub inside : at < length places
  pub alone : (k : ℕ) → has_key key (place_at places k) ≡ true → k ≡ at
  pub before : (other : PageKey) → is_same other key ≡ false → has_key other (place_at places at) ≡ false
  pub after : (other : PageKey) → is_same other key ≡ false → has_key other new ≡ false

only_after : (places : List (Option Stored)) (at : ℕ) (key : PageKey) (new : Option Stored) → Changes places at key new → (k : ℕ) → k ≢ at → has_key key (place_at (set places at new) k) ≡ false
only_after places at key new changes k differs =
    rw (get_or-set_other places at k new None differs) (false_from_ne_true (has_key key (place_at places k)) (λ has. differs (changes.alone k has)))

pub stored_after : (places : List (Option Stored)) (at : ℕ) (key : PageKey) (new : Option Stored) → Changes places at key new → stored_in (set places at new) ≡ with_stored (stored_in places) key (own key new)
stored_after places at key new changes = fun_ext (λ other. elim (cases_Bool (is_same other key)) [
  | inl same ↦ rw same (rw (is_same-true other key same) (stored_only (set places at new) at key (only_after places at key new changes) ∙ ap (own key) (get_or-set_same places at new None changes.inside)))
  | inr differs ↦ rw differs (stored-set places at new other (lacks new other (changes.after other differs) ∙ sym (lacks (place_at places at) other (changes.before other differs))))
])

-- what the pages have where this one has this, or none
pub stored_put : (places : List (Option Stored)) (at : ℕ) (key : PageKey) (page : List ℕ) (noted : Option ℕ) → Changes places at key (Some (record { key = key; page = page; note = noted })) → stored_in (set places at (Some (record { key = key; page = page; note = noted }))) ≡ with_stored (stored_in places) key (Some (record { key = key; page = page; note = noted }))
stored_put places at key page noted changes =
    stored_after places at key (Some (record { key = key; page = page; note = noted })) changes ∙ ap (with_stored (stored_in places) key) (own-has (Some (record { key = key; page = page; note = noted })) key (is_same-itself key))

pub stored_gone : (places : List (Option Stored)) (at : ℕ) (key : PageKey) → Changes places at key None → stored_in (set places at None) ≡ with_stored (stored_in places) key None
stored_gone places at key changes = stored_after places at key None changes

-- what a page's place has
pub stored_at : (places : List (Option Stored)) (at : ℕ) (key : PageKey) → ArePlaces places → has_key key (place_at places at) ≡ true → stored_in places key ≡ place_at places at
stored_at places at key placed has =
    stored_only places at key (λ k differs. false_from_ne_true (has_key key (place_at places k)) (λ also. differs (placed.distinct k at key also has)))
    ∙ own-has (place_at places at) key has

-- what this tells of the pages
pub record Follows (places now : List (Option Stored)) (key : PageKey) (stored : Option Stored) : Type 0 where
  pub mapped : placed_in now ≡ with_mapped (placed_in places) key (is_some stored)
  pub held : held_in now ≡ with_page (held_in places) key (page_in stored)
  pub notes : noted_in now ≡ with_note (noted_in places) key (note_in stored)

pub follows : (places now : List (Option Stored)) (key : PageKey) (stored : Option Stored) → stored_in now ≡ with_stored (stored_in places) key stored → Follows places now key stored
unfolding placed_in
follows places now key stored is = record {
  mapped = fun_ext (λ other. ap (λ (all : StoredOf). is_some (all other)) is ∙ through (λ s. is_some s) (is_same other key) (stored_in places other));
  held = fun_ext (λ other. ap (λ (all : StoredOf). page_in (all other)) is ∙ through page_in (is_same other key) (stored_in places other));
  notes = fun_ext (λ other. ap (λ (all : StoredOf). note_in (all other)) is ∙ through note_in (is_same other key) (stored_in places other));
}
  where
    through : {X : Type 0} (f : Option Stored → X) (b : Bool) (was : Option Stored) → f (cond b stored was) ≡ cond b (f stored) (f was)
    through f true was = refl
    through f false was = refl

-- a page that was mapped still is
pub stays_mapped : (places : List (Option Stored)) (key : PageKey) → placed_in places key ≡ true → with_mapped (placed_in places) key true ≡ placed_in places
stays_mapped places key mapped = fun_ext (λ other. elim (cases_Bool (is_same other key)) [
  | inl same ↦ cond-true (is_same other key) true (placed_in places other) same ∙ sym (ap (placed_in places) (is_same-true other key same) ∙ mapped)
  | inr differs ↦ cond-false (is_same other key) true (placed_in places other) differs
])

-- a page that keeps what it holds
pub held_kept : (held : Held) (key : PageKey) (bytes : Option (List ℕ)) → held key ≡ bytes → with_page held key bytes ≡ held
held_kept held key bytes is = fun_ext (λ other. elim (cases_Bool (is_same other key)) [
  | inl same ↦ cond-true (is_same other key) bytes (held other) same ∙ sym (ap held (is_same-true other key same) ∙ is)
  | inr differs ↦ cond-false (is_same other key) bytes (held other) differs
])

none_at : (n : ℕ) (key : PageKey) → stored_in (replicate n None) key ≡ None
none_at zero key = refl
none_at (suc n) key = none_at n key

pub none_noted : (n : ℕ) (key : PageKey) → noted_in (replicate n None) key ≡ None
none_noted n key = ap note_in (none_at n key)

pub none_mapped : (n : ℕ) (key : PageKey) → placed_in (replicate n None) key ≡ false
unfolding placed_in
none_mapped n key = ap is_some (none_at n key)

-- the places stay sound if the new place's page is allowed
module _ (places : List (Option Stored)) (at : ℕ) (key : PageKey) (new : Option Stored) (placed : ArePlaces places) (changes : Changes places at key new) (allowed : IsKey (length places) key) where
  new_key : (other : PageKey) → has_key other new ≡ true → other ≡ key
  new_key other has = is_same-true other key (true_from_ne_false (is_same other key) (λ differs. both_ways (has_key other new) (changes.after other differs) has))

  -- what has a page now
  now_has : (k : ℕ) (other : PageKey) → has_key other (place_at (set places at new) k) ≡ true → ((k ≡ at) × (other ≡ key)) ⊎ ((k ≢ at) × (has_key other (place_at places k) ≡ true))
  now_has k other has = elim (cases_eq k at) [
    | inl same ↦ inl (same, new_key other (rw (← get_or-set_same places at new None changes.inside) (subst (λ (j : ℕ). has_key other (place_at (set places at new) j) ≡ true) same has)))
    | inr differs ↦ inr (differs, rw (← get_or-set_other places at k new None differs) has)
  ]

  pub placed_after : ArePlaces (set places at new)
  placed_after = record {
    least = rw (length-set places at new) placed.least;
    most = rw (length-set places at new) placed.most;
    distinct = λ s t other has also. elim (now_has s other has) [
      | inl (here, is) ↦ elim (now_has t other also) [
        | inl (there, _) ↦ here ∙ sym there
        | inr (differs, had) ↦ absurd (differs (changes.alone t (subst (λ (k : PageKey). has_key k (place_at places t) ≡ true) is had)))
      ]
      | inr (differs, had) ↦ elim (now_has t other also) [
        | inl (there, is) ↦ absurd (differs (changes.alone s (subst (λ (k : PageKey). has_key k (place_at places s) ≡ true) is had)))
        | inr (other_too, had_too) ↦ placed.distinct s t other had had_too
      ]
    ];
    allowed = λ s other has. rw (length-set places at new) (elim (now_has s other has) [
      | inl (here, is) ↦ subst (λ (k : PageKey). IsKey (length places) k) (sym is) allowed
      | inr (differs, had) ↦ placed.allowed s other had
    ]);
  }

-- a page that has the place changes, or goes
pub changes_own : (places : List (Option Stored)) (at : ℕ) (key : PageKey) (new : Option Stored) → ArePlaces places → has_key key (place_at places at) ≡ true → ((other : PageKey) → is_same other key ≡ false → has_key other new ≡ false) → Changes places at key new
changes_own places at key new placed has after = record {
  inside = within places at key has;
  alone = λ k also. placed.distinct k at key also has;
  before = λ other differs. has_other (place_at places at) key other has differs;
  after = after;
}

-- a page that isn't mapped gets a place that is free
pub changes_free : (places : List (Option Stored)) (at : ℕ) (key : PageKey) (page : List ℕ) (noted : Option ℕ) → at < length places → place_at places at ≡ None → placed_in places key ≡ false → Changes places at key (Some (record { key = key; page = page; note = noted }))
changes_free places at key page noted inside free unmapped = record {
  inside = inside;
  alone = λ k has. absurd (both_ways (placed_in places key) unmapped (mapped_by places k key has));
  before = λ other differs. rw free;
  after = λ other differs. differs;
}

-- ---- how many places are free

free_none : (place : Option Stored) (key : PageKey) → has_key key place ≡ true → is_none place ≡ false
free_none None key is = cc
free_none (Some stored) key is = refl

freed : (places : List (Option Stored)) (at : ℕ) (key : PageKey) → has_key key (place_at places at) ≡ true → free_in (set places at None) ≡ free_in places + 1
freed places at key has =
    let count = sum_by-set (λ (place : Option Stored). cond (is_none place) 1 0) places at None None (within places at key has) in
    let used = rw (free_none (place_at places at) key has) at count in
    omega arith

other_number : (segment : ℕ) (space : Space) (k n : ℕ) → k < n → is_same (page_key segment space k) (page_key segment space n) ≡ false
other_number segment space k n less = and_right ((segment == segment) && (space_code space == space_code space)) (k == n) (ne_eqb k n (λ e. omega arith))

-- Where so many pages of a segment and a space are mapped, as many places are used.
pub filled : (n : ℕ) (places : List (Option Stored)) (segment : ℕ) (space : Space) → ((k : ℕ) → k < n → placed_in places (page_key segment space k) ≡ true) → n + free_in places ≤ length places
unfolding placed_in
filled zero places segment space all = let few = count_by-le-length is_none places in omega arith
filled (suc n) places segment space all =
    let found = mapped_at places (page_key segment space n) (all n (omega arith)) in
    let at = found.0 in
    let lacks_it = λ (k : ℕ) (less : k < n). lacks (place_at places at) (page_key segment space k) (has_other (place_at places at) (page_key segment space n) (page_key segment space k) found.1 (other_number segment space k n less)) in
    let stay = λ (k : ℕ) (less : k < n). ap is_some (stored-set places at None (page_key segment space k) (sym (lacks_it k less))) ∙ all k (omega arith) in
    let rest = filled n (set places at None) segment space stay in
    let count = freed places at (page_key segment space n) found.1 in
    let size : length (set places at None) ≡ length places = length-set places at None in
    omega arith

-- ---- which page may do

module _ (places : List (Option Stored)) (key : PageKey) (least : ℕ) where
  abbrev May : Type 0
  May = MayDo (placed_in places) (noted_in places) least key.segment key.space key.number

  abbrev IsGreat : Option ℕ → Type 0
  IsGreat note = IfSome note (λ note. least ≤ note)

  pub may_do_by : (stored : Stored) (note : Option ℕ) → stored_in places key ≡ Some stored → stored.note ≡ note → May ↔ IsGreat note
  unfolding placed_in
  may_do_by stored note is noted =
      let noted_is : noted_in places key ≡ note = ap note_in is ∙ noted in
      (λ may. subst IsGreat noted_is may.note, λ great. record { mapped = ap (λ (o : Option Stored). is_some o) is; note = subst IsGreat (sym noted_is) great })

  pub may_not : stored_in places key ≡ None → May → ⊥
  unfolding placed_in
  may_not is may = true≢false (sym may.mapped ∙ ap (λ (o : Option Stored). is_some o) is)

-- ---- the first page that isn't mapped

-- so it is the least one
pub least_first : (places : List (Option Stored)) (segment : ℕ) (space : Space) (number : ℕ) → IsFirstFrom (IsUnmappedAt (length places) (placed_in places) segment space) 0 number → IsLeastUnmapped (placed_in places) segment space number
least_first places segment space number first = record {
  free = first.has.free;
  lesser = λ k less. true_from_ne_false (placed_in places (page_key segment space k)) (λ free. first.none_before k (omega arith) less (record { within = omega (arith, less, first.has.within); free = free }));
}

-- and there is one where a place is free
pub some_unmapped : (places : List (Option Stored)) (segment : ℕ) (space : Space) → 0 < free_in places → NoneFrom (IsUnmappedAt (length places) (placed_in places) segment space) 0 → ⊥
some_unmapped places segment space room none =
    let used = filled (length places) places segment space (λ k less. true_from_ne_false (placed_in places (page_key segment space k)) (λ free. none k (omega arith) (record { within = less; free = free }))) in
    omega (arith, used, room)

-- as many places, and so the pages stand on the same
pub same_backing : {slots slots_now : ℕ} → slots_now ≡ slots → no_backing slots_now ≡ no_backing slots
same_backing same = ap no_backing same
