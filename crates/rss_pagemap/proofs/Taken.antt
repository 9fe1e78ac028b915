-- A table while its entries are taken.
use Rattle.std.proofs.Common.{◌≡◌, ◌≢◌, ◌⊎◌, inl, inr, ℕ, ◌+◌, ◌<◌, List, [], ◌∷◌, ◌++◌, length, replicate, Option, Some, None, IfSome, Bool, true, false, not, refl, sym, ◌∙◌, ap, subst, arith}
use Rattle.std.specs.List.{Contains, list_any}
use Rattle.std.specs.List.Sorted.{IsPermutation}
use Rattle.std.specs.Vec.{vec_capacity}
use Rattle.std.proofs.lemmas.Bool.{cases_lt}
use Rattle.std.proofs.lemmas.Option.{MatchOption-at_some, same_Some}
use Rattle.std.proofs.lemmas.List.{get_or_append_left, get_or_push, length_push}
use Rattle.std.proofs.lemmas.List.Elements.{Contains-append_cases, Contains-append_left, Contains-append_right, Contains-push, Contains-push_cases}
use Rattle.std.proofs.lemmas.List.Sorted.{Contains-permutation, IsPermutation-sym}
use Rattle.std.proofs.lemmas.Map.Views.{Contains-from_any, list_any-from_Contains}
use Rattle.rss_base.specs.PageMap.{IsKey, owner_of, IsEntry, IsOwned}
use Rattle.rss_base.specs.declared.key.PageKey.{PageKey}
use Rattle.rss_base.specs.declared.place.Place.TheVariants.{Slot}
use Rattle.rss_base.specs.declared.fault.OpenFault.TheVariants.{NotAStore}
use Rattle.rss_pagemap.specs.declared.reading.Reading.{Reading}
use Rattle.rss_pagemap.specs.Taking.{IsReading, RefusesEntry, no_entry, no_zeros}
use Rattle.rss_pagemap.proofs.Keys.{keys_same, keys_exact, keys_laws}
use Rattle.rss_pagemap.proofs.Owners.{owned_within}

-- ---- an entry that is refused, at a slot's number

pub no_entry_at : (slots : ℕ) (entry : List ℕ) (owners : List (Option PageKey)) (slot : ℕ) → slot ≡ length owners → slot < slots → ((owner : Option PageKey) → IsEntry slots entry owner → IsOwned owners owner) → RefusesEntry slots entry owners (NotAStore (Slot slot))
no_entry_at slots entry owners slot is within refused = subst (λ (n : ℕ). RefusesEntry slots entry owners (NotAStore (Slot n))) (sym is) (no_entry (omega arith) refused)

pub not_zeros : (slots : ℕ) (entry : List ℕ) (owners : List (Option PageKey)) (slot : ℕ) → slot ≡ length owners → slot ≡ slots → entry ≢ replicate 8 0 → RefusesEntry slots entry owners (NotAStore (Slot slot))
not_zeros slots entry owners slot is all other = subst (λ (n : ℕ). RefusesEntry slots entry owners (NotAStore (Slot n))) (sym all) (no_zeros (omega arith) other)

-- ---- one owner more

-- the owners in front keep their slots
kept_push : (owners : List (Option PageKey)) (owner : Option PageKey) (s : ℕ) (key : PageKey) → owner_of owners s ≡ Some key → owner_of (owners ++ owner ∷ []) s ≡ Some key
kept_push owners owner s key is = get_or_append_left owners (owner ∷ []) None s (owned_within owners s key is) ∙ is

-- an owner is the one that was pushed, or one in front
push_cases : (owners : List (Option PageKey)) (owner : Option PageKey) (s : ℕ) (key : PageKey) → owner_of (owners ++ owner ∷ []) s ≡ Some key → ((s ≡ length owners) × (owner ≡ Some key)) ⊎ (owner_of owners s ≡ Some key)
push_cases owners owner s key is = elim (cases_lt s (length owners)) [
  | inl lt ↦ inr (sym (get_or_append_left owners (owner ∷ []) None s lt) ∙ is)
  | inr le ↦
      let last : length owners ≡ s = omega (arith, owned_within (owners ++ owner ∷ []) s key is, length_push owners owner) in
      inl (sym last, sym (get_or_push owners owner None s last) ∙ is)
]

-- a key that a set doesn't add is there
pub seen_key : (keys : List PageKey) (key : PageKey) → false ≡ not (list_any (keys_same key) keys) → Contains keys key
seen_key keys key there = Contains-from_any keys_exact key keys (is_there (list_any (keys_same key) keys) there)
  where
    is_there : (b : Bool) → false ≡ not b → b ≡ true
    is_there true e = refl
    is_there false e = cc

-- what is seen at an owner: a key that wasn't, or nothing
pub record Sees (owner : Option PageKey) (old new : List PageKey) : Type 0 where
  pub fresh : (key : PageKey) → owner ≡ Some key → Contains old key → ⊥
  pub kept : (key : PageKey) → Contains old key → Contains new key
  pub added : (key : PageKey) → owner ≡ Some key → Contains new key
  pub only : (key : PageKey) → Contains new key → Contains old key ⊎ (owner ≡ Some key)

pub sees_none : (owner : Option PageKey) (old new : List PageKey) → ((key : PageKey) → owner ≡ Some key → ⊥) → new ≡ old → Sees owner old new
sees_none owner old new none same = record {
  fresh = λ key is has. none key is;
  kept = λ key has. subst (λ (l : List PageKey). Contains l key) (sym same) has;
  added = λ key is. absurd (none key is);
  only = λ key has. inl (subst (λ (l : List PageKey). Contains l key) same has);
}

pub sees_key : (owner : Option PageKey) (key : PageKey) (old new : List PageKey) → owner ≡ Some key → true ≡ not (list_any (keys_same key) old) → IsPermutation (key ∷ old) new → Sees owner old new
sees_key owner key old new is absent moved =
    let one = λ (other : PageKey) (same : owner ≡ Some other). same_Some key other (sym is ∙ same) in
    record {
      fresh = λ other same has. let found = list_any-from_Contains keys_laws key old (subst (Contains old) (sym (one other same)) has) in cc;
      kept = λ other has. Contains-permutation (key ∷ old) new other moved (Contains-append_right (key ∷ []) old other has);
      added = λ other same. subst (Contains new) (one other same) (Contains-permutation (key ∷ old) new key moved (Contains-append_left (key ∷ []) old key (Contains-push [] key)));
      only = λ other has. elim (Contains-append_cases (key ∷ []) old other (Contains-permutation new (key ∷ old) other (IsPermutation-sym (key ∷ old) new moved) has)) [
        | inl first ↦ inr (is ∙ ap Some (elim (Contains-push_cases [] key other first) [ inl none ↦ absurd (omega (arith, none.1)) | inr same ↦ same ]))
        | inr earlier ↦ inl earlier
      ];
    }

-- the next owner is taken
pub reading_more : (old new : Reading) (owner : Option PageKey) → IsReading old → length old.owners.items < old.slots → new.slots ≡ old.slots → vec_capacity new.owners ≡ vec_capacity old.owners → new.owners.items ≡ old.owners.items ++ owner ∷ [] → IfSome owner (IsKey old.slots)
    → Sees owner old.seen.keys new.seen.keys → IsReading new
reading_more old new owner is room slots capacity pushed allowed sees =
    let owners : List (Option PageKey) = old.owners.items in
    let cases = λ (s : ℕ) (key : PageKey) (has : owner_of new.owners.items s ≡ Some key). push_cases owners owner s key (subst (λ (l : List (Option PageKey)). owner_of l s ≡ Some key) pushed has) in
    let fits = is.within in
    let long : length new.owners.items ≡ length owners + 1 = ap (λ (l : List (Option PageKey)). length l) pushed ∙ length_push owners owner in
    record {
      least = omega (arith, is.least);
      most = omega (arith, is.most);
      within = omega arith;
      room = omega (arith, is.room);
      allowed = λ s key has. subst (λ (n : ℕ). IsKey n key) (sym slots) (elim (cases s key has) [
        | inl last ↦ MatchOption-at_some _ _ key last.1 allowed
        | inr earlier ↦ is.allowed s key earlier
      ]);
      distinct = λ s t key one two. elim (cases s key one) [
        | inl s_last ↦ elim (cases t key two) [
          | inl t_last ↦ s_last.0 ∙ sym t_last.0
          | inr t_earlier ↦ absurd (sees.fresh key s_last.1 (is.seen t key t_earlier))
        ]
        | inr s_earlier ↦ elim (cases t key two) [
          | inl t_last ↦ absurd (sees.fresh key t_last.1 (is.seen s key s_earlier))
          | inr t_earlier ↦ is.distinct s t key s_earlier t_earlier
        ]
      ];
      seen = λ s key has. elim (cases s key has) [
        | inl last ↦ sees.added key last.1
        | inr earlier ↦ sees.kept key (is.seen s key earlier)
      ];
      owned = λ key has. subst (λ (l : List (Option PageKey)). IsOwned l (Some key)) (sym pushed) (elim (sees.only key has) [
        | inl earlier ↦
            let before : IsOwned owners (Some key) = is.owned key earlier in
            record { key = before.key; is = before.is; slot = before.slot; owned = kept_push owners owner before.slot before.key before.owned }
        | inr last ↦ record { key = key; is = refl; slot = length owners; owned = get_or_push owners owner None (length owners) refl ∙ last }
      ]);
    }
