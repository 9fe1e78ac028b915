-- The counts of tuples that a look through a segment makes.
use Rattle.std.proofs.Common.{◌≡◌, inl, inr, ℕ, zero, suc, ◌+◌, ◌-◌, ◌^◌, ◌≤◌, true, false, List, [], ◌∷◌, ◌++◌, length, get_or, set, replicate, refl, sym, ◌∙◌, ap, arith, length-set, get_or-set_same, get_or-set_other}
use Rattle.std.specs.Prelude.{Option, Some, None, is_some, option_map, min, map as list_map}
use Rattle.std.proofs.lemmas.Bool.{cases_eq, eq-eqb, ne_eqb}
use Rattle.std.proofs.lemmas.List.{get_or-replicate}
use Rattle.std.proofs.lemmas.List.Sums.{sum_by-append}
use Rattle.rss_base.specs.Sizes.{relations_most}
use Rattle.rss_base.specs.Listings.{Listing, numbered, names_of, relation_at}
use Rattle.rss_base.specs.declared.refusal.Kind.TheVariants.{Relation as RelationKind}
use Rattle.rss_base.specs.declared.relation.RelationEntry.{RelationEntry}
use Rattle.rss_base.specs.declared.tid.Tid.{Tid}
use Rattle.rss_base.specs.Paged.{Held}
use Rattle.rss_tuple.specs.Checked.{Row, Rows, tuples_of}
use Rattle.rss_model.specs.Fits.{tuple_limit}
use Rattle.rss_model.proofs.Counts.{one_if}
use Rattle.rss_stored.proofs.Listed.{at_place}
use Rattle.rss_model.proofs.LogLists.{some_of}
use Rattle.rss_stored.proofs.Relisted.{number_within_list}
use Rattle.rss_check.specs.Checks.{begins_with, count_of, seen_of, AreSeen, IsSegmentOf, IsCountOf}

-- a number has a name exactly where it has a relation
pub relation_used : (listing : Listing) (number : ℕ) → is_some (numbered (names_of RelationKind listing) number) ≡ is_some (relation_at listing number)
relation_used listing zero = refl
relation_used listing (suc k) = ap is_some (at_place (names_of RelationKind listing) k) ∙ named listing.relations k ∙ sym (ap is_some (at_place listing.relations k))
  where
    one : (found : Option RelationEntry) → is_some (option_map (λ (r : RelationEntry). r.name) found) ≡ is_some found
    one None = refl
    one (Some relation) = refl

    named : (items : List (Option RelationEntry)) (k : ℕ) → is_some (get_or (list_map (option_map (λ (r : RelationEntry). r.name)) items) k None) ≡ is_some (get_or items k None)
    named [] k = refl
    named (found ∷ items) zero = one found
    named (found ∷ items) (suc k) = named items k

-- a number that is used is one of a relation
pub used_within : (listing : Listing) (number : ℕ) → length listing.relations ≡ relations_most → is_some (relation_at listing number) ≡ true → (1 ≤ number) × (number ≤ relations_most)
used_within listing number places used =
    let some = some_of (relation_at listing number) used in
    let within = number_within_list listing.relations number some.0 some.1 in
    (within.0, omega (arith, within.1, places))

-- one tuple more
count_more : (number : ℕ) (rows : Rows) (tid : Tid) (body : List ℕ) → count_of number (rows ++ (tid, body) ∷ []) ≡ count_of number rows + one_if (begins_with number body)
count_more number rows tid body =
    let parts = sum_by-append (λ (row : Row). one_if (begins_with number row.1)) rows ((tid, body) ∷ []) in
    omega (arith, parts)

module _ (counts : List ℕ) (rows : Rows) (tid : Tid) (seen : AreSeen counts rows) where
  -- one that begins with another number, or with none, counts for none of these
  same_count : (number : ℕ) (body : List ℕ) → begins_with number body ≡ false → seen_of number (rows ++ (tid, body) ∷ []) ≡ seen_of number rows
  same_count number body off =
      let none : count_of number (rows ++ (tid, body) ∷ []) ≡ count_of number rows = omega (arith, count_more number rows tid body, ap one_if off) in
      ap (λ (n : ℕ). min n (2 ^ 32 - 1)) none

  pub seen_none : (body : List ℕ) → body ≡ [] → AreSeen counts (rows ++ (tid, body) ∷ [])
  seen_none body is = record {
    places = seen.places;
    right = λ number low high. seen.right number low high ∙ sym (same_count number body (ap (begins_with number) is));
  }

  module _ (body : List ℕ) (first : ℕ) (rest : List ℕ) (is : body ≡ first ∷ rest) (first_low : 1 ≤ first) (first_high : first ≤ relations_most) where
    seen_more : (now : List ℕ) → now ≡ set counts (first - 1) (min (get_or counts (first - 1) 0 + 1) (2 ^ 32 - 1)) → AreSeen now (rows ++ (tid, body) ∷ [])
    seen_more now put = record {
      places = ap (λ (l : List ℕ). length l) put ∙ length-set counts (first - 1) (min (get_or counts (first - 1) 0 + 1) (2 ^ 32 - 1)) ∙ seen.places;
      right = λ number low high. ap (λ (l : List ℕ). get_or l (number - 1) 0) put ∙ elim (cases_eq number first) [
        | inl here ↦
            let on : begins_with number body ≡ true = ap (begins_with number) is ∙ eq-eqb first number (sym here) in
            let more = count_more number rows tid body in
            let before : get_or counts (first - 1) 0 ≡ seen_of number rows = ap (λ (n : ℕ). get_or counts (n - 1) 0) (sym here) ∙ seen.right number low high in
            ap (λ (n : ℕ). get_or (set counts (first - 1) (min (get_or counts (first - 1) 0 + 1) (2 ^ 32 - 1))) (n - 1) 0) here
            ∙ get_or-set_same counts (first - 1) (min (get_or counts (first - 1) 0 + 1) (2 ^ 32 - 1)) 0 (omega (arith, first_low, first_high, seen.places))
            ∙ omega (arith, before, more, ap one_if on)
        | inr off ↦
            get_or-set_other counts (first - 1) (number - 1) (min (get_or counts (first - 1) 0 + 1) (2 ^ 32 - 1)) 0 (λ same. off (omega (arith, same, low, first_low)))
            ∙ seen.right number low high ∙ sym (same_count number body (ap (begins_with number) is ∙ ne_eqb first number (λ same. off (sym same))))
      ];
    }

    -- as it is put there
    pub seen_put : (from value : ℕ) → from ≡ first → value ≡ min (get_or counts (from - 1) 0 + 1) (2 ^ 32 - 1) → AreSeen (set counts (from - 1) value) (rows ++ (tid, body) ∷ [])
    seen_put from value number now = seen_more (set counts (from - 1) value)
        (λ i. set counts (number i - 1) ((now ∙ ap (λ (n : ℕ). min (get_or counts (n - 1) 0 + 1) (2 ^ 32 - 1)) number) i))

-- no tuple was seen as yet
pub seen_first : AreSeen (replicate 48 0) []
seen_first = record {
  places = refl;
  right = λ number low high. get_or-replicate 48 (number - 1) 0 0 (omega (arith, high));
}

-- ---- the counts of a segment

-- what was seen of a relation is what it has, where that isn't too much
pub count_right : (listing : Listing) (segment number : ℕ) (held : Held) (slots seen : ℕ) → seen ≡ seen_of number (tuples_of held segment slots) → IsCountOf listing segment number seen → (relation : RelationEntry) → relation_at listing number ≡ Some relation → relation.segment ≡ segment → (count_of number (tuples_of held segment slots) ≡ relation.live) × (relation.live ≤ tuple_limit)
count_right listing segment number held slots seen is count relation at within =
    let both = count relation at within in
    (omega (arith, both.0, both.1, is), both.1)

pub count_wrong : (listing : Listing) (segment number : ℕ) (held : Held) (slots seen : ℕ) → seen ≡ seen_of number (tuples_of held segment slots) → IsSegmentOf held slots listing segment → IsCountOf listing segment number seen
count_wrong listing segment number held slots seen is sound relation at within =
    let both = sound.counts number relation at within in
    (omega (arith, both.0, both.1, is), both.1)
