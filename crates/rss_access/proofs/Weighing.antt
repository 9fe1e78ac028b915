-- How many bytes the tuples of a page have: by their bodies, and by the relations of the segment.
use Rattle.std.proofs.Common.{◌≡◌, inl, inr, ℕ, ◌+◌, ◌≤◌, Bool, true, List, [], ◌∷◌, refl, sym, ◌∙◌, ap, arith}
use Rattle.std.specs.Prelude.{Option, Some, None, option_map, unwrap_or, filter, sum_by}
use Rattle.std.specs.FinMap as map
use Rattle.std.specs.List.{list_any, range_with_len}
use Rattle.std.specs.Ordering.{eq_by_cmp}
use Rattle.std.specs.Cmp.{Equal-is}
use Rattle.std.proofs.lemmas.Bool.{cases_Bool, or_cases, cond-true, cond-false}
use Rattle.std.proofs.lemmas.List.Sums.{sum_by-cons, sum_by-le-sum_by}
use Rattle.rss_base.specs.Listings.{Listing, ListingFits, segment_at}
use Rattle.rss_base.specs.declared.name.Name.{Name}
use Rattle.rss_base.specs.declared.tid.Tid.{Tid}
use Rattle.rss_tuple.specs.Directory.{Bodies, tid_at}
use Rattle.rss_model.specs.Items.{Content, name_cmp}
use Rattle.rss_model.specs.Tables.{Tables}
use Rattle.rss_model.specs.Meter.{is_in_segment, relations_in, body_size, held_size, bytes_of, bytes_on}
use Rattle.rss_stored.specs.Store.{Defines, SpellsContents}
use Rattle.rss_stored.proofs.Prefixes.{size_is}
use Rattle.rss_model.proofs.Codes.{name_apart}
use Rattle.rss_model.proofs.Frees.{stands_in, is_listed}
use Rattle.rss_stored.proofs.Listed.{stands_within}
use Rattle.rss_access.specs.Tuples.{size_of_body, bytes_at}

-- ---- sums of sums

sum_none : {A : Type 0} (ys : List A) → sum_by (λ (a : A). 0) ys ≡ 0
sum_none [] = refl
sum_none {A = A} (y ∷ ys) = omega (arith, sum_by-cons (λ (a : A). 0) y ys, sum_none ys)

sum_both : {A : Type 0} (f g : A → ℕ) (ys : List A) → sum_by (λ a. f a + g a) ys ≡ sum_by f ys + sum_by g ys
sum_both f g [] = refl
sum_both f g (y ∷ ys) = omega (arith, sum_both f g ys, sum_by-cons f y ys, sum_by-cons g y ys, sum_by-cons (λ a. f a + g a) y ys)

-- rows and columns add up to the same
pub sums_turned : {A B : Type 0} (f : A → B → ℕ) (xs : List A) (ys : List B) → sum_by (λ a. sum_by (f a) ys) xs ≡ sum_by (λ b. sum_by (λ a. f a b) xs) ys
sums_turned f [] ys = sym (sum_none ys)
sums_turned {A = A} {B = B} f (x ∷ xs) ys =
    let first : sum_by (λ a. sum_by (f a) ys) (x ∷ xs) ≡ sum_by (f x) ys + sum_by (λ a. sum_by (f a) ys) xs = sum_by-cons (λ a. sum_by (f a) ys) x xs in
    let split : sum_by (λ b. sum_by (λ a. f a b) (x ∷ xs)) ys ≡ sum_by (f x) ys + sum_by (λ b. sum_by (λ a. f a b) xs) ys =
    ap (λ (g : B → ℕ). sum_by g ys) (λ i b. sum_by-cons (λ (a : A). f a b) x xs i) ∙ sum_both (f x) (λ b. sum_by (λ a. f a b) xs) ys in
    omega (arith, first, split, sums_turned f xs ys)

-- one name of those that are kept
kept_less : (test : Name → Bool) (g : Name → ℕ) (list : List Name) (name : Name) → list_any (eq_by_cmp name_cmp name) list ≡ true → test name ≡ true → g name ≤ sum_by g (filter test list)
kept_less test g [] name there is = absurd (cc)
kept_less test g (k ∷ list) name there is = elim (or_cases (eq_by_cmp name_cmp name k) (list_any (eq_by_cmp name_cmp name) list) there) [
  | inl same ↦
      let here : name ≡ k = name_apart name k ((Equal-is (name_cmp name k)).0 same) in
      let kept = ap (sum_by g) (cond-true (test k) (k ∷ filter test list) (filter test list) (ap test (sym here) ∙ is)) in
      omega (arith, kept, sum_by-cons g k (filter test list), ap g here)
  | inr later ↦
      let rest = kept_less test g list name later is in
      elim (cases_Bool (test k)) [
        | inl on ↦ omega (arith, rest, ap (sum_by g) (cond-true (test k) (k ∷ filter test list) (filter test list) on), sum_by-cons g k (filter test list))
        | inr off ↦ omega (arith, rest, ap (sum_by g) (cond-false (test k) (k ∷ filter test list) (filter test list) off))
      ]
]

le_by : {a b c : ℕ} → a ≤ b → b ≡ c → a ≤ c
le_by less same = omega (arith, less, same)

-- ---- the bytes of a page

module _ {listing : Listing} {bodies : Bodies} (tables : Tables) (fits : ListingFits listing) (defines : Defines listing tables.definitions) (spells : SpellsContents listing bodies tables.contents) (n : ℕ) (segment : Name) (named : segment_at listing n ≡ Some segment) where
  -- how many bytes a tuple of a relation has
  abbrev size_at : Tid → Name → ℕ
  size_at tid relation = held_size tables relation tid

  -- a body is that of a tuple of one of the relations
  body_less : (tid : Tid) (body : Option (List ℕ)) → bodies n tid ≡ body → size_of_body body ≤ sum_by (size_at tid) (relations_in tables segment)
  body_less tid None is = omega arith
  body_less tid (Some body) is =
      let of = spells.bodies_are n tid body is in
      let stands = stands_within tables fits defines of.number of.relation of.at segment (ap (segment_at listing) of.within ∙ named) in
      let size : size_at tid of.relation.name ≡ size_of_body (Some body) = ap (λ (held : Option Content). unwrap_or (option_map (body_size tables.definitions of.relation.name) held) 0) of.holds ∙ size_is fits defines of.number of.relation of.at tables.contents tid of.values ∙ ap (λ (b : List ℕ). size_of_body (Some b)) (sym of.is) in
      omega (arith, size, kept_less (is_in_segment tables segment) (size_at tid) (map.keys tables.definitions.relations) of.relation.name (is_listed tables segment of.relation.name stands) (stands_in tables segment of.relation.name stands))

  -- the tuples of the segment's relations have all bytes of its bodies
  pub bytes_less : (page : ℕ) → bytes_at bodies n page ≤ bytes_on tables segment page
  unfolding bytes_of
  bytes_less page =
      le_by (sum_by-le-sum_by (λ slot. size_of_body (bodies n (tid_at page slot))) (λ slot. sum_by (size_at (tid_at page slot)) (relations_in tables segment)) (range_with_len 0 128) (λ slot. body_less (tid_at page slot) _ refl))
      (sums_turned (λ slot. size_at (tid_at page slot)) (range_with_len 0 128) (relations_in tables segment))
