-- The first entries of a list, and nothing at the other places.
use Rattle.std.proofs.Common.{◌≡◌, ℕ, zero, suc, ◌+◌, ◌-◌, ◌*◌, ◌<◌, ◌≤◌, List, ◌++◌, length, take, drop, get_or, map, replicate, Option, Some, None, refl, sym, ◌∙◌, ap, inl, inr, arith, add-one, mul-zero, mul-suc, length-append, append-nil}
use Rattle.std.specs.Prelude.{option_map}
use Rattle.std.proofs.lemmas.Bool.{cases_lt}
use Rattle.std.proofs.lemmas.Option.{none-some, same_Some}
use Rattle.std.proofs.lemmas.List.{length-take, length-replicate, take_all, take_at, get_or-take, get_or_append_left, get_or-append-add, get_or-replicate}
use Rattle.std.proofs.Math.Seq.{take-add}
use Rattle.rss_base.specs.Listings.{numbered}
use Rattle.rss_base.specs.declared.name.Name.{Name}
use Rattle.rss_catalog.specs.Defined.{front}
use Rattle.rss_catalog.specs.Checking.{AreOnce, IsTaken}
use Rattle.rss_catalog.proofs.Numbered.{numbered_within, numbered_map, has_number, place_has}

-- ---- what has a number is what the list has there

-- what a part of each has, an entry has
pub map_has : {A B : Type 0} (f : A → B) (items : List (Option A)) (number : ℕ) (part : B) → numbered (map (option_map f) items) number ≡ Some part → (item : A) × (numbered items number ≡ Some item) × (f item ≡ part)
map_has {A = A} {B = B} f items number part is = by (numbered items number) refl (sym (numbered_map f items number) ∙ is) where
  by : (o : Option A) → numbered items number ≡ o → option_map f o ≡ Some part → (item : A) × (numbered items number ≡ Some item) × (f item ≡ part)
  by None at none = absurd (none-some part none)
  by (Some item) at some = (item, at, same_Some (f item) part some)

pub has_map : {A B : Type 0} (f : A → B) (items : List (Option A)) (number : ℕ) (item : A) → numbered items number ≡ Some item → numbered (map (option_map f) items) number ≡ Some (f item)
has_map f items number item is = numbered_map f items number ∙ ap (option_map f) is

pub front_all : {X : Type 0} (most count : ℕ) (items : List (Option X)) → length items ≡ most → most ≤ count → front most count items ≡ items
front_all {X = X} most count items long all =
    let none : most - count ≡ 0 = omega (arith, all) in
    (λ i. take_all count items (omega (arith, long, all)) i ++ replicate {A = Option X} (none i) None) ∙ append-nil items

pub length_front : {X : Type 0} (most count : ℕ) (items : List (Option X)) → length items ≡ most → length (front most count items) ≡ most
length_front {X = X} most count items long = length-append (take count items) (replicate (most - count) None) ∙ omega (arith, long, length-take count items, length-replicate {A = Option X} (most - count) None)

-- what stands behind those in front
none_behind : {X : Type 0} (most count k : ℕ) (items : List (Option X)) (item : X) → count ≤ length items → count ≤ k → k < most → get_or (front most count items) k None ≡ Some item → ⊥
none_behind {X = X} most count k items item few past low is =
    let long : length (take count items) ≡ count = length-take count items ∙ omega (arith, few) in
    let at : length (take count items) + (k - count) ≡ k = omega (arith, long, past) in
    none-some item (sym (ap (λ (n : ℕ). get_or (front most count items) n None) (sym at) ∙ get_or-append-add (take count items) (replicate (most - count) None) (k - count) None ∙ get_or-replicate (most - count) (k - count) None None (omega (arith, past, low))) ∙ is)

pub front_at : {X : Type 0} (most count : ℕ) (items : List (Option X)) (number : ℕ) (item : X) → length items ≡ most → numbered (front most count items) number ≡ Some item → (number ≤ count) × (numbered items number ≡ Some item)
front_at {X = X} most count items number item long is =
    let within = numbered_within (front most count items) number item is in
    let whole = length_front most count items long in
    let at = place_has (front most count items) number item is in
    let few = length-take count items in
    let back : number - 1 + 1 ≡ number = omega (arith, within) in
    elim (cases_lt (number - 1) count) [
      | inl low ↦
          let here : number - 1 < length (take count items) = omega (arith, few, low, within, whole, long) in
          (omega (arith, low), ap (λ (n : ℕ). numbered items n) (sym back) ∙ has_number items (number - 1) None item (omega (arith, within, whole, long)) (sym (get_or_append_left (take count items) (replicate (most - count) None) None (number - 1) here ∙ get_or-take count items (number - 1) None low) ∙ at))
      | inr past ↦ absurd (none_behind most count (number - 1) items item (omega (arith, past, within, whole, long)) past (omega (arith, within, whole)) at)
    ]

pub at_front : {X : Type 0} (most count : ℕ) (items : List (Option X)) (number : ℕ) (item : X) → length items ≡ most → number ≤ count → numbered items number ≡ Some item → numbered (front most count items) number ≡ Some item
at_front {X = X} most count items number item long low is =
    let within = numbered_within items number item is in
    let whole = length_front most count items long in
    let few = length-take count items in
    let back : number - 1 + 1 ≡ number = omega (arith, within) in
    ap (λ (n : ℕ). numbered (front most count items) n) (sym back)
    ∙ has_number (front most count items) (number - 1) None item (omega (arith, within, whole, long)) (get_or_append_left (take count items) (replicate (most - count) None) None (number - 1) (omega (arith, few, within, low)) ∙ get_or-take count items (number - 1) None (omega (arith, within, low)) ∙ place_has items number item is)

-- ---- names

module _ {X : Type 0} (name : X → Name) (most count : ℕ) (items : List (Option X)) (long : length items ≡ most) where
  named_front : (number : ℕ) (found : Name) → numbered (map (option_map name) (front most count items)) number ≡ Some found → (number ≤ count) × (numbered (map (option_map name) items) number ≡ Some found)
  named_front number found is =
      let has = map_has name (front most count items) number found is in
      let at = front_at most count items number has.0 long has.1 in
      (at.0, has_map name items number has.0 at.1 ∙ ap Some has.2)

  front_named : (number : ℕ) (found : Name) → number ≤ count → numbered (map (option_map name) items) number ≡ Some found → numbered (map (option_map name) (front most count items)) number ≡ Some found
  front_named number found low is =
      let has = map_has name items number found is in
      has_map name (front most count items) number has.0 (at_front most count items number has.0 long low has.1) ∙ ap Some has.2

  -- a name that stands once in all stands once in front
  pub once_front : AreOnce (map (option_map name) items) → AreOnce (map (option_map name) (front most count items))
  once_front once one other found is_one is_other = once one other found (named_front one found is_one).1 (named_front other found is_other).1

  -- so does one that stands once before a place
  pub once_below : (names : List (Option Name)) (place : ℕ) → names ≡ map (option_map name) items → count ≤ place → ((j k : ℕ) (found : Name) → j < k → k < place → get_or names j None ≡ Some found → get_or names k None ≡ Some found → ⊥) → AreOnce (map (option_map name) (front most count items))
  once_below names place same few apart one other found is_one is_other =
      let a = named_front one found is_one in
      let b = named_front other found is_other in
      let a_low = numbered_within (map (option_map name) items) one found a.1 in
      let b_low = numbered_within (map (option_map name) items) other found b.1 in
      let a_at : get_or names (one - 1) None ≡ Some found = ap (λ (l : List (Option Name)). get_or l (one - 1) None) same ∙ place_has (map (option_map name) items) one found a.1 in
      let b_at : get_or names (other - 1) None ≡ Some found = ap (λ (l : List (Option Name)). get_or l (other - 1) None) same ∙ place_has (map (option_map name) items) other found b.1 in
      elim (cases_lt one other) [
        | inl less ↦ absurd (apart (one - 1) (other - 1) found (omega (arith, a_low, less)) (omega (arith, b_low, b.0, few)) a_at b_at)
        | inr rest ↦ elim (cases_lt other one) [
          | inl more ↦ absurd (apart (other - 1) (one - 1) found (omega (arith, b_low, more)) (omega (arith, a_low, a.0, few)) b_at a_at)
          | inr same_number ↦ omega (arith, rest, same_number)
        ]
      ]

  -- and a name that stands before a place stands twice in front
  pub twice_front : (names : List (Option Name)) (place : ℕ) → names ≡ map (option_map name) items → place < length names → place < count → IsTaken (take place names) (get_or names place None) → AreOnce (map (option_map name) (front most count items)) → ⊥
  twice_front names place same low within taken once =
      let found = taken.0 in
      let at = taken.2 in
      let k = at.0 in
      let few = length-take place names in
      let below : k < place = omega (arith, at.1, few) in
      let there : get_or names k (Some found) ≡ Some found = sym (get_or-take place names k (Some found) below) ∙ at.2 in
      let one : numbered (map (option_map name) items) (k + 1) ≡ Some found = ap (λ (l : List (Option Name)). numbered l (k + 1)) (sym same) ∙ has_number names k (Some found) found (omega (arith, below, low)) there in
      let other : numbered (map (option_map name) items) (place + 1) ≡ Some found = ap (λ (l : List (Option Name)). numbered l (place + 1)) (sym same) ∙ has_number names place None found low taken.1 in
      let is = once (k + 1) (place + 1) found (front_named (k + 1) found (omega (arith, below, within)) one) (front_named (place + 1) found (omega (arith, within)) other) in
      omega (arith, is, below)

-- ---- what is said of each

-- each that fits before a place fits in front
pub each_below : {X : Type 0} (Fits : X → Type 0) (most count : ℕ) (items : List (Option X)) (place : ℕ) → length items ≡ most → count ≤ place → ((k : ℕ) (item : X) → k < place → get_or items k None ≡ Some item → Fits item) → (number : ℕ) (item : X) → numbered (front most count items) number ≡ Some item → Fits item
each_below Fits most count items place long few each number item is =
    let at = front_at most count items number item long is in
    let within = numbered_within items number item at.1 in
    each (number - 1) item (omega (arith, within, at.0, few)) (place_has items number item at.1)

-- ---- fronts that are the same

-- one part more of a width
more_of : (n k : ℕ) → n * (k + 1) ≡ n * k + n
more_of n k = ap (λ (m : ℕ). n * m) (add-one k) ∙ mul-suc n k ∙ omega arith

pub take_parts : {X : Type 0} (count : ℕ) (a b : List X) (parts : ℕ) → ((k : ℕ) → k < parts → take count (drop (count * k) a) ≡ take count (drop (count * k) b)) → take (count * parts) a ≡ take (count * parts) b
take_parts count a b zero same = ap (λ (n : ℕ). take n a) (mul-zero count) ∙ sym (ap (λ (n : ℕ). take n b) (mul-zero count))
take_parts count a b (suc parts) same =
    let more : count * suc parts ≡ count * parts + count = ap (λ (n : ℕ). count * n) (sym (add-one parts)) ∙ more_of count parts in
    ap (λ (n : ℕ). take n a) more ∙ take-add (count * parts) count a
    ∙ (λ i. take_parts count a b parts (λ k low. same k (omega (arith, low))) i ++ same parts (omega arith) i)
    ∙ sym (take-add (count * parts) count b) ∙ sym (ap (λ (n : ℕ). take n b) more)

-- the front of a list whose first entries are those of another front
pub front_same : {X : Type 0} (most count : ℕ) (a l : List (Option X)) → length a ≡ most → length (front most count l) ≡ most → (count ≤ most → take count a ≡ take count (front most count l)) → (most ≤ count → take most a ≡ take most (front most count l)) → front most count a ≡ front most count l
front_same {X = X} most count a l long whole same all = elim (cases_lt most count) [
  | inl more ↦ front_all most count a long (omega (arith, more)) ∙ sym (take_all most a (omega (arith, long))) ∙ all (omega (arith, more)) ∙ take_all most (front most count l) (omega (arith, whole))
  | inr few ↦
      let rest : List (Option X) = replicate (most - count) None in
      let here : length (take count l) ≡ count = omega (arith, sym whole ∙ length-append (take count l) rest, length-replicate {A = Option X} (most - count) None, few) in
      (λ i. (same few ∙ take_at (take count l) rest count here) i ++ rest)
]
