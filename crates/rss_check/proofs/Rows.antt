-- The tuples of all segments as a list, and the contents whose tuples these are.
use Rattle.std.proofs.Common.{◌≡◌, ◌≢◌, ◌⊎◌, inl, inr, ⊎_elim, ℕ, suc, zero, ◌+◌, ◌*◌, ◌<◌, ◌≤◌, Bool, true, false, List, [], ◌∷◌, ◌++◌, drop, take, refl, sym, ◌∙◌, ap, subst, arith}
use Rattle.std.specs.Prelude.{Option, Some, None, is_some, flat_map, map as list_map, count_by, length, ◌==◌, ◌&&◌}
use Rattle.std.specs.List.{range_with_len}
use Rattle.std.specs.Ordering.{eq_by_cmp}
use Rattle.std.specs.FinMap as map
use Rattle.std.specs.FinMap.{get-empty}
use Rattle.std.proofs.Math.Numerals.{add-one}
use Rattle.std.proofs.lemmas.Bool.{cases_Bool, cases_eq, true≢false, cond-true, cond-false, and_parts, eqb-true, leb-true, le-leb}
use Rattle.std.proofs.lemmas.Bool.Decides.{eqb_tells}
use Rattle.std.proofs.lemmas.List.Sums.{sum_by-append, sum_by-cons}
use Rattle.std.proofs.lemmas.List.{take-append-drop, length-take-le, length-append, drop_at}
use Rattle.std.proofs.lemmas.Option.{none-some, same_Some}
use Rattle.rss_base.specs.Paged.{Held}
use Rattle.rss_base.specs.Sizes.{segments}
use Rattle.rss_base.specs.TupleTypes.{kinds, Spells}
use Rattle.rss_base.specs.Listings.{Listing, ListingFits, relation_at}
use Rattle.rss_base.specs.Prefixes.{prefix_size}
use Rattle.rss_base.specs.declared.name.Name.{Name}
use Rattle.rss_base.specs.declared.relation.RelationEntry.{RelationEntry}
use Rattle.rss_base.specs.declared.tid.Tid.{Tid}
use Rattle.rss_base.specs.declared.item.Item.{Item}
use Rattle.rss_base.specs.declared.item.Item.TheVariants.{Tuple as TupleItem}
use Rattle.rss_base.specs.declared.value.Value.{Value}
use Rattle.rss_base.specs.declared.value.FieldForm.{FieldForm}
use Rattle.rss_value.specs.Spelled.{is_spelled}
use Rattle.rss_value.proofs.Spelling.{is_spelled_exactly}
use Rattle.rss_tuple.specs.Directory.{Bodies, bodies_of, tid_at}
use Rattle.rss_tuple.specs.Checked.{Row, row_of, row_at, rows_on, tuples_of}
use Rattle.rss_model.specs.Items.{Content, Values, item_cmp, name_cmp}
use Rattle.rss_model.specs.Tables.{Contents, content, put, is_tuple_of, tuple_count}
use Rattle.rss_model.specs.Fits.{IsIdentifier}
use Rattle.rss_model.proofs.Codes.{item_total, item_apart, name_total, name_apart}
use Rattle.rss_model.proofs.Contents.{tied, not_tied, same_item_of, content_put}
use Rattle.rss_model.proofs.Counts.{one_if, counts_same, counts_put, counts_none}
use Rattle.rss_model.proofs.Putting.{same_parts}
use Rattle.rss_stored.proofs.Relisted.{number_of}
use Rattle.rss_access.specs.Bodies.{is_body, is_values_of}
use Rattle.rss_check.specs.Checks.{begins_with, count_of}

-- ---- lists

-- each of them has a property
abbrev pub Each : {A : Type 0} → (A → Type 0) → List A → Type 0
Each P [] = Unit {0}
Each P (a ∷ list) = P a × Each P list

-- this is one of them
abbrev pub Has : {A : Type 0} → List A → A → Type 0
Has [] a = ⊥
Has (first ∷ list) a = (a ≡ first) ⊎ Has list a

-- their places rise, from one on and below another
abbrev pub Rising : {A : Type 0} → (A → ℕ) → ℕ → ℕ → List A → Type 0
Rising place low high [] = low ≤ high
Rising place low high (a ∷ list) = (low ≤ place a) × Rising place (place a + 1) high list

module _ {A : Type 0} where
  each_append : (P : A → Type 0) (one other : List A) → Each P one → Each P other → Each P (one ++ other)
  each_append P [] other first second = second
  each_append P (a ∷ one) other first second = (first.0, each_append P one other first.1 second)

  each_flat : (P : A → Type 0) (f : ℕ → List A) (list : List ℕ) → ((k : ℕ) → Each P (f k)) → Each P (flat_map f list)
  each_flat P f [] each = tt
  each_flat P f (k ∷ list) each = each_append P (f k) (flat_map f list) (each k) (each_flat P f list each)

  pub each_among : (P Q : A → Type 0) (list : List A) → ((a : A) → P a → Q a) → Each P list → Each Q list
  each_among P Q [] is each = tt
  each_among P Q (a ∷ list) is each = (is a each.0, each_among P Q list is each.1)

  each_both : (P Q R : A → Type 0) (list : List A) → ((a : A) → P a → Q a → R a) → Each P list → Each Q list → Each R list
  each_both P Q R [] is one other = tt
  each_both P Q R (a ∷ list) is one other = (is a one.0 other.0, each_both P Q R list is one.1 other.1)

  each_map : {B : Type 0} (P : A → Type 0) (f : B → A) (list : List B) → Each (λ b. P (f b)) list → Each P (list_map f list)
  each_map P f [] each = tt
  each_map P f (b ∷ list) each = (each.0, each_map P f list each.1)

  pub each_has : (P : A → Type 0) (list : List A) (a : A) → Each P list → Has list a → P a
  each_has P [] a each has = absurd has
  each_has P (first ∷ list) a each has = ⊎_elim (λ here. subst P (sym here) each.0) (λ there. each_has P list a each.1 there) has

  has_first : (one other : List A) (a : A) → Has one a → Has (one ++ other) a
  has_first [] other a has = absurd has
  has_first (first ∷ one) other a has = ⊎_elim (λ here. inl here) (λ there. inr (has_first one other a there)) has

  has_second : (one other : List A) (a : A) → Has other a → Has (one ++ other) a
  has_second [] other a has = has
  has_second (first ∷ one) other a has = inr (has_second one other a has)

  has_flat : (f : ℕ → List A) (k : ℕ) (a : A) → Has (f k) a → (n low : ℕ) → low ≤ k → k < low + n → Has (flat_map f (range_with_len low n)) a
  has_flat f k a has zero low from below = absurd (omega arith)
  has_flat f k a has (suc n) low from below = elim (cases_eq k low) [
    | inl here ↦ has_first (f low) _ a (subst (λ (j : ℕ). Has (f j) a) here has)
    | inr off ↦ has_second (f low) _ a (has_flat f k a has n (low + 1) (omega (arith, off)) (omega arith))
  ]

  has_map : {B : Type 0} (f : B → A) (list : List B) (b : B) → Has list b → Has (list_map f list) (f b)
  has_map f [] b has = absurd has
  has_map f (first ∷ list) b has = ⊎_elim (λ here. inl (ap f here)) (λ there. inr (has_map f list b there)) has

  module _ (place : A → ℕ) where
    rising_below : (low more high : ℕ) (list : List A) → low ≤ more → Rising place more high list → Rising place low high list
    rising_below low more high [] lower rising = omega arith
    rising_below low more high (a ∷ list) lower rising = (omega (arith, rising.0), rising.1)

    rising_append : (low mid high : ℕ) (one other : List A) → Rising place low mid one → Rising place mid high other → Rising place low high (one ++ other)
    rising_append low mid high [] other first second = rising_below low mid high other first second
    rising_append low mid high (a ∷ one) other first second = (first.0, rising_append (place a + 1) mid high one other first.1 second)

    rising_flat : (f : ℕ → List A) (at : ℕ → ℕ) → ((k : ℕ) → Rising place (at k) (at (k + 1)) (f k)) → (n low : ℕ) → Rising place (at low) (at (low + n)) (flat_map f (range_with_len low n))
    rising_flat f at each zero low = let here : low + 0 ≡ low = omega arith in omega (arith, ap at here)
    rising_flat f at each (suc n) low =
        let rest = rising_flat f at each n (low + 1) in
        let same : low + 1 + n ≡ low + suc n = omega arith in
        rising_append (at low) (at (low + 1)) (at (low + suc n)) (f low) (flat_map f (range_with_len (low + 1) n)) (each low) (subst (λ (m : ℕ). Rising place (at (low + 1)) (at m) (flat_map f (range_with_len (low + 1) n))) same rest)

    -- a place below all of them is none of theirs
    rising_apart : (at low high : ℕ) (list : List A) → at < low → Rising place low high list → Each (λ a. place a ≡ at → ⊥) list
    rising_apart at low high [] below rising = tt
    rising_apart at low high (a ∷ list) below rising = (
      (λ same. absurd (omega (arith, rising.0, below, same))),
      rising_apart at (place a + 1) high list (omega (arith, rising.0)) rising.1,
    )

    rising_map : {B : Type 0} (f : B → A) (from : B → ℕ) (more low high : ℕ) (list : List B) → ((b : B) → place (f b) ≡ more + from b) → Rising from low high list → Rising place (more + low) (more + high) (list_map f list)
    rising_map f from more low high [] is rising = omega (arith, rising)
    rising_map f from more low high (b ∷ list) is rising = (
      omega (arith, rising.0, is b),
      subst (λ (n : ℕ). Rising place n (more + high) (list_map f list)) (let e : more + (from b + 1) ≡ place (f b) + 1 = omega (arith, is b) in e) (rising_map f from more (from b + 1) high list is rising.1),
    )

  -- ---- how many pass a test

  pub count_none : (f : A → Bool) (list : List A) → Each (λ a. f a ≡ false) list → count_by f list ≡ 0
  count_none f [] each = refl
  count_none f (a ∷ list) each = omega (arith, count_none f list each.1, sum_by-cons (λ (b : A). one_if (f b)) a list, ap one_if each.0)

  count_alike : {B : Type 0} (f : A → Bool) (h : B → A) (g : B → Bool) (list : List B) → Each (λ b. f (h b) ≡ g b) list → count_by f (list_map h list) ≡ count_by g list
  count_alike f h g [] each = refl
  count_alike f h g (b ∷ list) each = omega (arith, count_alike f h g list each.1, sum_by-cons (λ (a : A). one_if (f a)) (h b) (list_map h list), sum_by-cons (λ (a : _). one_if (g a)) b list, ap one_if each.0)

  -- those of one list among many, where the others have none
  count_off : (f : A → Bool) (g : ℕ → List A) (s : ℕ) → ((k : ℕ) → k ≢ s → count_by f (g k) ≡ 0) → (n low : ℕ) → s < low → count_by f (flat_map g (range_with_len low n)) ≡ 0
  count_off f g s none zero low past = refl
  count_off f g s none (suc n) low past = omega (arith, sum_by-append (λ (a : A). one_if (f a)) (g low) (flat_map g (range_with_len (low + 1) n)), none low (λ same. absurd (omega (arith, same))), count_off f g s none n (low + 1) (omega arith))

  count_one : (f : A → Bool) (g : ℕ → List A) (s : ℕ) → ((k : ℕ) → k ≢ s → count_by f (g k) ≡ 0) → (n low : ℕ) → low ≤ s → s < low + n → count_by f (flat_map g (range_with_len low n)) ≡ count_by f (g s)
  count_one f g s none zero low from below = absurd (omega arith)
  count_one f g s none (suc n) low from below =
      let parts = sum_by-append (λ (a : A). one_if (f a)) (g low) (flat_map g (range_with_len (low + 1) n)) in
      elim (cases_eq s low) [
        | inl here ↦ omega (arith, parts, ap (λ (k : ℕ). count_by f (g k)) here, count_off f g s none n (low + 1) (omega (arith, here)))
        | inr off ↦ omega (arith, parts, none low (λ same. off (sym same)), count_one f g s none n (low + 1) (omega (arith, off)) (omega arith))
      ]

-- what is left of them, and the first of them, have it too
pub each_drop : {A : Type 0} (P : A → Type 0) (k : ℕ) (list : List A) → Each P list → Each P (drop k list)
each_drop P zero list each = each
each_drop P (suc k) [] each = tt
each_drop P (suc k) (a ∷ list) each = each_drop P k list each.1

pub each_take : {A : Type 0} (P : A → Type 0) (k : ℕ) (list : List A) → Each P list → Each P (take k list)
each_take P zero list each = tt
each_take P (suc k) [] each = tt
each_take P (suc k) (a ∷ list) each = (each.0, each_take P k list each.1)

-- ---- the tuples of a segment

-- where an identifier stands among all of a segment
abbrev pub place_of : Tid → ℕ
place_of tid = tid.page * 128 + tid.slot

abbrev row_place : Row → ℕ
row_place row = place_of row.0

row_each : (P : Row → Type 0) (tid : Tid) (body : Option (List ℕ)) → ((b : List ℕ) → body ≡ Some b → P (tid, b)) → Each P (row_of tid body)
row_each P tid None is = tt
row_each P tid (Some body) is = (is body refl, tt)

row_has : (tid : Tid) (body : List ℕ) (there : Option (List ℕ)) → there ≡ Some body → Has (row_of tid there) (tid, body)
row_has tid body None is = absurd (none-some body is)
row_has tid body (Some b) is = inl (ap (λ (c : List ℕ). (tid, c)) (sym (same_Some b body is)))

row_rising : (page slot : ℕ) (body : Option (List ℕ)) → Rising row_place (page * 128 + slot) (page * 128 + (slot + 1)) (row_of (tid_at page slot) body)
row_rising page slot None = omega arith
row_rising page slot (Some body) = (omega arith, omega arith)

module _ (held : Held) (segment slots : ℕ) where
  pub rows_of : Each (λ (row : Row). bodies_of held segment row.0 ≡ Some row.1) (tuples_of held segment slots)
  rows_of = each_flat _ (rows_on held segment) (range_with_len 0 slots) (λ page. each_flat _ (row_at held segment page) (range_with_len 0 128) (λ slot. row_each _ (tid_at page slot) _ (λ body is. is)))

  rows_have : (tid : Tid) (body : List ℕ) → tid.page < slots → tid.slot < 128 → bodies_of held segment tid ≡ Some body → Has (tuples_of held segment slots) (tid, body)
  rows_have tid body page slot is =
      has_flat (rows_on held segment) tid.page (tid, body) (has_flat (row_at held segment tid.page) tid.slot (tid, body) (row_has tid body _ is) 128 0 (omega arith) (omega arith)) slots 0 (omega arith) (omega arith)

  rows_rise : Rising row_place 0 (slots * 128) (tuples_of held segment slots)
  rows_rise =
      let last : 0 + slots ≡ slots = omega arith in
      subst (λ (n : ℕ). Rising row_place 0 (n * 128) (tuples_of held segment slots)) last (rising_flat row_place (rows_on held segment) (λ page. page * 128) (λ page. on page) slots 0)
    where
      on : (page : ℕ) → Rising row_place (page * 128) ((page + 1) * 128) (rows_on held segment page)
      on page =
          let all = rising_flat row_place (row_at held segment page) (λ slot. page * 128 + slot) (λ slot. row_rising page slot (bodies_of held segment (tid_at page slot))) 128 0 in
          let first : page * 128 + 0 ≡ page * 128 = omega arith in
          let last : page * 128 + 128 ≡ (page + 1) * 128 = omega arith in
          subst (λ (n : ℕ). Rising row_place n ((page + 1) * 128) (rows_on held segment page)) first (subst (λ (n : ℕ). Rising row_place (page * 128 + 0) n (rows_on held segment page)) last all)

-- ---- the tuples of all segments

-- a tuple with the number of its segment
abbrev pub Spot : Type 0
Spot = ℕ × Row

abbrev spots_in : Held → ℕ → ℕ → List Spot
spots_in held slots segment = list_map (λ (row : Row). (segment, row)) (tuples_of held segment slots)

abbrev pub spots_of : Held → ℕ → List Spot
spots_of held slots = flat_map (spots_in held slots) (range_with_len 1 segments)

-- it stands there
abbrev pub IsAt : Bodies → Spot → Type 0
IsAt bodies spot = bodies spot.0 spot.1.0 ≡ Some spot.1.1

-- where the places of a segment begin, if each has so many
abbrev first_place : ℕ → ℕ → ℕ
first_place size zero = 0
first_place size (suc segment) = first_place size segment + size

abbrev pub spot_place : ℕ → Spot → ℕ
spot_place slots spot = first_place (slots * 128) spot.0 + place_of spot.1.0

-- A tuple stands in a segment that there may be, and has an identifier of a store of so many slots.
pub record IsNamedIn (slots segment : ℕ) (tid : Tid) : Type 0 where
  pub low : 1 ≤ segment
  pub high : segment ≤ segments
  pub named : IsIdentifier slots tid

module _ (held : Held) (slots : ℕ) where
  pub spots_at : Each (IsAt (bodies_of held)) (spots_of held slots)
  spots_at = each_flat _ (spots_in held slots) (range_with_len 1 8) (λ segment. each_map _ (λ (row : Row). (segment, row)) (tuples_of held segment slots) (rows_of held segment slots))

  pub spots_have : (segment : ℕ) (tid : Tid) (body : List ℕ) → IsNamedIn slots segment tid → bodies_of held segment tid ≡ Some body → Has (spots_of held slots) (segment, (tid, body))
  spots_have segment tid body named is =
      has_flat (spots_in held slots) segment (segment, (tid, body)) (has_map (λ (row : Row). (segment, row)) (tuples_of held segment slots) (tid, body) (rows_have held segment slots tid body named.named.page named.named.slot is)) 8 1 named.low (omega (arith, named.high))

  pub spots_rise : Rising (spot_place slots) (first_place (slots * 128) 1) (first_place (slots * 128) 9) (spots_of held slots)
  spots_rise = rising_flat (spot_place slots) (spots_in held slots) (first_place (slots * 128)) (λ segment. on segment) 8 1
    where
      on : (segment : ℕ) → Rising (spot_place slots) (first_place (slots * 128) segment) (first_place (slots * 128) (segment + 1)) (spots_in held slots segment)
      on segment =
          let all = rising_map (spot_place slots) (λ (row : Row). (segment, row)) row_place (first_place (slots * 128) segment) 0 (slots * 128) (tuples_of held segment slots) (λ row. refl) (rows_rise held segment slots) in
          let first : first_place (slots * 128) segment + 0 ≡ first_place (slots * 128) segment = omega arith in
          let last : first_place (slots * 128) segment + slots * 128 ≡ first_place (slots * 128) (segment + 1) = ap (first_place (slots * 128)) (sym (add-one segment)) in
          subst (λ (n : ℕ). Rising (spot_place slots) n (first_place (slots * 128) (segment + 1)) (spots_in held slots segment)) first
          (subst (λ (n : ℕ). Rising (spot_place slots) (first_place (slots * 128) segment + 0) n (spots_in held slots segment)) last all)

-- ---- what a body says

-- the values that bytes spell, where they spell some
abbrev values_if : (fields : List FieldForm) (bytes : List ℕ) (test : Bool) → is_spelled fields bytes ≡ test → List Value
values_if fields bytes true is = ((is_spelled_exactly fields bytes).0 is).0
values_if fields bytes false is = []

abbrev pub values_in : List FieldForm → List ℕ → List Value
values_in fields bytes = values_if fields bytes (is_spelled fields bytes) refl

pub values_spelled : (fields : List FieldForm) (bytes : List ℕ) → is_spelled fields bytes ≡ true → Spells fields bytes (values_in fields bytes)
values_spelled fields bytes is = by (is_spelled fields bytes) refl is
  where
    by : (test : Bool) (so : is_spelled fields bytes ≡ test) → test ≡ true → Spells fields bytes (values_if fields bytes test so)
    by true so holds = ((is_spelled_exactly fields bytes).0 so).1
    by false so holds = absurd (cc)

-- of a relation that may be there
abbrev name_if : Option RelationEntry → Name
name_if None = record { bytes = [] }
name_if (Some relation) = relation.name

abbrev held_if : Option RelationEntry → List ℕ → Content
held_if None bytes = Values []
held_if (Some relation) bytes = Values (values_in (kinds relation.fields) bytes)

-- the name of the relation that a body begins with the number of
abbrev pub named_by : Listing → List ℕ → Name
named_by listing [] = name_if None
named_by listing (number ∷ bytes) = name_if (relation_at listing number)

-- what a tuple with this body holds: the values behind its blocks
abbrev pub held_by : Listing → List ℕ → Content
held_by listing [] = Values []
held_by listing (number ∷ bytes) = held_if (relation_at listing number) (drop (prefix_size listing.links number) bytes)

-- the body is one of a relation of this segment
pub record IsRelationBody (listing : Listing) (segment : ℕ) (body : List ℕ) : Type 0 where
  pub number : ℕ
  pub prefix : List ℕ
  pub bytes : List ℕ
  pub relation : RelationEntry
  pub is : body ≡ number ∷ (prefix ++ bytes)
  pub long : length prefix ≡ prefix_size listing.links number
  pub at : relation_at listing number ≡ Some relation
  pub within : relation.segment ≡ segment
  pub spelled : Spells (kinds relation.fields) bytes (values_in (kinds relation.fields) bytes)
  pub named : named_by listing body ≡ relation.name
  pub holds : held_by listing body ≡ Values (values_in (kinds relation.fields) bytes)

pub relation_body : (listing : Listing) (segment : ℕ) (body : List ℕ) → is_body listing segment body ≡ true → IsRelationBody listing segment body
relation_body listing segment [] good = absurd (cc)
relation_body listing segment (number ∷ rest) good = by (relation_at listing number) refl (and_parts _ _ good).1
  where
    room : prefix_size listing.links number ≤ length rest
    room = leb-true (prefix_size listing.links number) (length rest) (and_parts _ _ good).0

    by : (found : Option RelationEntry) → relation_at listing number ≡ found → is_values_of found segment (drop (prefix_size listing.links number) rest) ≡ true → IsRelationBody listing segment (number ∷ rest)
    by None at is = absurd (cc)
    by (Some relation) at is =
        let parts = and_parts (relation.segment == segment) (is_spelled (kinds relation.fields) (drop (prefix_size listing.links number) rest)) is in
        record {
          number = number;
          prefix = take (prefix_size listing.links number) rest;
          bytes = drop (prefix_size listing.links number) rest;
          relation = relation;
          is = ap (λ (l : List ℕ). number ∷ l) (sym (take-append-drop (prefix_size listing.links number) rest));
          long = length-take-le (prefix_size listing.links number) rest room;
          at = at;
          within = eqb-true relation.segment segment parts.0;
          spelled = values_spelled (kinds relation.fields) (drop (prefix_size listing.links number) rest) parts.1;
          named = ap name_if at;
          holds = ap (λ (o : Option RelationEntry). held_if o (drop (prefix_size listing.links number) rest)) at;
        }

-- where blocks stand in front of bytes, these are looked at
pub body_of_bytes : (listing : Listing) (segment number : ℕ) (prefix bytes : List ℕ) → length prefix ≡ prefix_size listing.links number → is_body listing segment (number ∷ (prefix ++ bytes)) ≡ is_values_of (relation_at listing number) segment bytes
body_of_bytes listing segment number prefix bytes long =
    let room : prefix_size listing.links number ≤ length (prefix ++ bytes) = omega (arith, long, length-append prefix bytes) in
    ap (λ (t : Bool). t && is_values_of (relation_at listing number) segment (drop (prefix_size listing.links number) (prefix ++ bytes))) (le-leb (prefix_size listing.links number) (length (prefix ++ bytes)) room)
    ∙ ap (is_values_of (relation_at listing number) segment) (drop_at prefix bytes (prefix_size listing.links number) long)

-- ---- the contents of tuples

abbrev pub item_of : Listing → Spot → Item
item_of listing spot = TupleItem (named_by listing spot.1.1) spot.1.0

abbrev pub contents_of : Listing → List Spot → Contents
contents_of listing [] = map.empty
contents_of listing (spot ∷ spots) = put (contents_of listing spots) (item_of listing spot) (Some (held_by listing spot.1.1))

-- What is there is one of them.
pub record IsSpotOf (listing : Listing) (spots : List Spot) (item : Item) (c : Content) : Type 0 where
  pub spot : Spot
  pub has : Has spots spot
  pub is : item_of listing spot ≡ item
  pub holds : held_by listing spot.1.1 ≡ c

module _ (listing : Listing) where
  none_at : (item : Item) (spots : List Spot) → Each (λ spot. item_of listing spot ≡ item → ⊥) spots → content (contents_of listing spots) item ≡ None
  none_at item [] each = get-empty item_cmp item
  none_at item (spot ∷ spots) each = content_put (contents_of listing spots) (item_of listing spot) (Some (held_by listing spot.1.1)) item ∙ elim (cases_Bool (eq_by_cmp item_cmp item (item_of listing spot))) [
    | inl same ↦ absurd (each.0 (sym (same_item_of item (item_of listing spot) same)))
    | inr apart ↦ cond-false _ _ _ apart ∙ none_at item spots each.1
  ]

  some_at : (spot : Spot) (spots : List Spot) → Each (λ other. item_of listing other ≡ item_of listing spot → held_by listing other.1.1 ≡ held_by listing spot.1.1) spots → Has spots spot → content (contents_of listing spots) (item_of listing spot) ≡ Some (held_by listing spot.1.1)
  some_at spot [] each has = absurd has
  some_at spot (first ∷ spots) each has = content_put (contents_of listing spots) (item_of listing first) (Some (held_by listing first.1.1)) (item_of listing spot) ∙ elim (cases_Bool (eq_by_cmp item_cmp (item_of listing spot) (item_of listing first))) [
    | inl same ↦ cond-true _ _ _ same ∙ ap Some (each.0 (sym (same_item_of _ _ same)))
    | inr apart ↦ cond-false _ _ _ apart ∙ some_at spot spots each.1 (⊎_elim (λ here. absurd (true≢false (sym (tied item_total item_apart (item_of listing first)) ∙ ap (λ (s : Spot). eq_by_cmp item_cmp (item_of listing s) (item_of listing first)) (sym here) ∙ apart))) (λ there. there) has)
  ]

  pub only_at : (item : Item) (c : Content) (spots : List Spot) → content (contents_of listing spots) item ≡ Some c → IsSpotOf listing spots item c
  only_at item c [] is = absurd (none-some c (sym (get-empty item_cmp item) ∙ is))
  only_at item c (spot ∷ spots) is =
      let found = content_put (contents_of listing spots) (item_of listing spot) (Some (held_by listing spot.1.1)) item in
      elim (cases_Bool (eq_by_cmp item_cmp item (item_of listing spot))) [
        | inl same ↦ record { spot = spot; has = inl refl; is = sym (same_item_of item (item_of listing spot) same); holds = same_Some _ _ (sym (found ∙ cond-true _ _ _ same) ∙ is) }
        | inr apart ↦
            let rest = only_at item c spots (sym (found ∙ cond-false _ _ _ apart) ∙ is) in
            record { spot = rest.spot; has = inr rest.has; is = rest.is; holds = rest.holds }
      ]

  -- none of a relation
  pub none_of : (name : Name) (spots : List Spot) → Each (λ spot. is_tuple_of name (item_of listing spot) ≡ false) spots → tuple_count (contents_of listing spots) name ≡ 0
  none_of name [] each = counts_none name
  none_of name (spot ∷ spots) each = counts_same (contents_of listing spots) (item_of listing spot) (Some (held_by listing spot.1.1)) name each.0 ∙ none_of name spots each.1

  -- those of a relation, where no two are one item
  counted : (P : Spot → Type 0) (place : Spot → ℕ) (name : Name) (low high : ℕ) (spots : List Spot) → ((one other : Spot) → P one → P other → item_of listing one ≡ item_of listing other → place one ≡ place other) → Each P spots → Rising place low high spots
      → tuple_count (contents_of listing spots) name ≡ count_by (λ spot. is_tuple_of name (item_of listing spot)) spots
  counted P place name low high [] same each rising = counts_none name
  counted P place name low high (spot ∷ spots) same each rising =
      let apart = rising_apart place (place spot) (place spot + 1) high spots (omega arith) rising.1 in
      let others = each_both P (λ other. place other ≡ place spot → ⊥) (λ other. item_of listing other ≡ item_of listing spot → ⊥) spots (λ other good off is. off (same other spot good each.0 is)) each.1 apart in
      let none : content (contents_of listing spots) (item_of listing spot) ≡ None = none_at (item_of listing spot) spots others in
      let rest = counted P place name (place spot + 1) high spots same each.1 rising.1 in
      let parts = sum_by-cons (λ (s : Spot). one_if (is_tuple_of name (item_of listing s))) spot spots in
      elim (cases_Bool (is_tuple_of name (item_of listing spot))) [
        | inl on ↦ omega (arith, rest, parts, ap one_if on, counts_put (contents_of listing spots) (item_of listing spot) (Some (held_by listing spot.1.1)) name on, ap (λ (o : Option Content). one_if (is_some o)) none)
        | inr off ↦ omega (arith, rest, parts, ap one_if off, counts_same (contents_of listing spots) (item_of listing spot) (Some (held_by listing spot.1.1)) name off)
      ]

-- ---- the tuples of sound segments

-- each tuple has a body of a relation of its segment, and an identifier
pub record AreGood (listing : Listing) (held : Held) (slots : ℕ) : Type 0 where
  pub fits : ListingFits listing
  pub good : (segment : ℕ) (tid : Tid) (body : List ℕ) → bodies_of held segment tid ≡ Some body → is_body listing segment body ≡ true
  pub named : (segment : ℕ) (tid : Tid) (body : List ℕ) → bodies_of held segment tid ≡ Some body → IsNamedIn slots segment tid

module _ {listing : Listing} (fits : ListingFits listing) where
  -- relations of one name are one
  pub same_number : (m n : ℕ) (a b : RelationEntry) → relation_at listing m ≡ Some a → relation_at listing n ≡ Some b → a.name ≡ b.name → m ≡ n
  same_number m n a b one other same = fits.relations_once m n a.name (number_of listing m a one) (number_of listing n b other ∙ ap Some (sym same))

  pub same_relation : (m n : ℕ) (a b : RelationEntry) → relation_at listing m ≡ Some a → relation_at listing n ≡ Some b → m ≡ n → a ≡ b
  same_relation m n a b one other same = same_Some _ _ (sym one ∙ ap (relation_at listing) same ∙ other)

module _ {listing : Listing} {held : Held} {slots : ℕ} (all : AreGood listing held slots) where
  pub body_at_spot : (spot : Spot) → IsAt (bodies_of held) spot → IsRelationBody listing spot.0 spot.1.1
  body_at_spot spot is = relation_body listing spot.0 spot.1.1 (all.good spot.0 spot.1.0 spot.1.1 is)

  -- one item is that of one tuple
  same_segment : (one other : Spot) → IsAt (bodies_of held) one → IsAt (bodies_of held) other → item_of listing one ≡ item_of listing other → (one.0 ≡ other.0) × (one.1.0 ≡ other.1.0)
  same_segment one other first second is =
      let a = body_at_spot one first in
      let b = body_at_spot other second in
      let parts = same_parts (named_by listing one.1.1) (named_by listing other.1.1) one.1.0 other.1.0 is in
      let number = same_number all.fits a.number b.number a.relation b.relation a.at b.at (sym a.named ∙ parts.0 ∙ b.named) in
      let relation = same_relation all.fits a.number b.number a.relation b.relation a.at b.at number in
      (sym a.within ∙ ap (λ (r : RelationEntry). r.segment) relation ∙ b.within, parts.1)

  same_place : (one other : Spot) → IsAt (bodies_of held) one → IsAt (bodies_of held) other → item_of listing one ≡ item_of listing other → spot_place slots one ≡ spot_place slots other
  same_place one other first second is =
      let same = same_segment one other first second is in
      λ i. first_place (slots * 128) (same.0 i) + place_of (same.1 i)

  same_body : (one other : Spot) → IsAt (bodies_of held) one → IsAt (bodies_of held) other → item_of listing one ≡ item_of listing other → one.1.1 ≡ other.1.1
  same_body one other first second is =
      let same = same_segment one other first second is in
      same_Some _ _ (sym first ∙ (λ i. bodies_of held (same.0 i) (same.1 i)) ∙ second)

  -- a tuple is found by its item
  pub found_at : (segment : ℕ) (tid : Tid) (body : List ℕ) → bodies_of held segment tid ≡ Some body → content (contents_of listing (spots_of held slots)) (TupleItem (named_by listing body) tid) ≡ Some (held_by listing body)
  found_at segment tid body is =
      some_at listing (segment, (tid, body)) (spots_of held slots)
      (each_among _ _ (spots_of held slots) (λ other stands same. ap (held_by listing) (same_body other (segment, (tid, body)) stands is same)) (spots_at held slots))
      (spots_have held slots segment tid body (all.named segment tid body is) is)

  -- and nothing else is
  pub found_spot : (item : Item) (c : Content) → content (contents_of listing (spots_of held slots)) item ≡ Some c → (spot : Spot) × IsAt (bodies_of held) spot × (item_of listing spot ≡ item) × (held_by listing spot.1.1 ≡ c)
  found_spot item c is =
      let of = only_at listing item c (spots_of held slots) is in
      (of.spot, each_has _ (spots_of held slots) of.spot (spots_at held slots) of.has, of.is, of.holds)

  pub all_counted : (name : Name) → tuple_count (contents_of listing (spots_of held slots)) name ≡ count_by (λ spot. is_tuple_of name (item_of listing spot)) (spots_of held slots)
  all_counted name = counted listing (IsAt (bodies_of held)) (spot_place slots) name (first_place (slots * 128) 1) (first_place (slots * 128) 9) (spots_of held slots) same_place (spots_at held slots) (spots_rise held slots)

  -- of a relation that is listed: those of its segment that begin with its number
  module _ (number : ℕ) (relation : RelationEntry) (at : relation_at listing number ≡ Some relation) (low : 1 ≤ relation.segment) (high : relation.segment ≤ segments) where
    abbrev test : Spot → Bool
    test spot = is_tuple_of relation.name (item_of listing spot)

    -- a tuple of the relation begins with its number
    begins : (segment : ℕ) (tid : Tid) (body : List ℕ) → IsRelationBody listing segment body → test (segment, (tid, body)) ≡ begins_with number body
    begins segment tid body of = elim (eqb_tells of.number number) [
      | inl here ↦
          let same = same_relation all.fits of.number number of.relation relation of.at at here.1 in
          ap (eq_by_cmp name_cmp relation.name) (of.named ∙ ap (λ (r : RelationEntry). r.name) same) ∙ tied name_total name_apart relation.name ∙ sym (ap (begins_with number) of.is ∙ here.0)
      | inr off ↦
          not_tied name_total name_apart relation.name (named_by listing body) (λ same. off.1 (same_number all.fits of.number number of.relation relation of.at at (sym of.named ∙ sym same)))
          ∙ sym (ap (begins_with number) of.is ∙ off.0)
    ]

    -- one of another segment doesn't
    elsewhere : (segment : ℕ) (tid : Tid) (body : List ℕ) → segment ≢ relation.segment → IsRelationBody listing segment body → test (segment, (tid, body)) ≡ false
    elsewhere segment tid body other of = not_tied name_total name_apart relation.name (named_by listing body) (λ same.
        let number_too = same_number all.fits of.number number of.relation relation of.at at (sym of.named ∙ sym same) in
        other (sym of.within ∙ ap (λ (r : RelationEntry). r.segment) (same_relation all.fits of.number number of.relation relation of.at at number_too)))

    pub relation_counted : tuple_count (contents_of listing (spots_of held slots)) relation.name ≡ count_of number (tuples_of held relation.segment slots)
    relation_counted =
        all_counted relation.name
        ∙ count_one test (spots_in held slots) relation.segment (λ segment other.
        count_none test (spots_in held slots segment) (each_map _ (λ (row : Row). (segment, row)) (tuples_of held segment slots)
        (each_among _ _ (tuples_of held segment slots) (λ row stands. elsewhere segment row.0 row.1 other (body_at_spot (segment, row) stands)) (rows_of held segment slots)))) 8 1 low (omega (arith, high))
        ∙ count_alike test (λ (row : Row). (relation.segment, row)) (λ (row : Row). begins_with number row.1) (tuples_of held relation.segment slots)
        (each_among _ _ (tuples_of held relation.segment slots) (λ row stands. begins relation.segment row.0 row.1 (body_at_spot (relation.segment, row) stands)) (rows_of held relation.segment slots))
