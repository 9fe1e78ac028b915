-- The blocks of a prefix: how long they are, and what two that are the same say alike.
use Rattle.std.proofs.Common.{◌≡◌, inl, inr, ℕ, zero, suc, true, false, List, [], ◌∷◌, ◌++◌, length, get_or, drop, refl, sym, ◌∙◌, ap, subst, arith, length-append}
use Rattle.std.specs.Prelude.{Option, Some, None, IfSome, option_and_then, flat_map, replicate}
use Rattle.std.proofs.lemmas.List.Sums.{sum_by-cons}
use Rattle.std.proofs.lemmas.Option.{none-some}
use Rattle.rss_base.specs.LogRecords.{tid_bytes, place_bytes}
use Rattle.rss_base.specs.Listings.{Listing, IsSpelled}
use Rattle.rss_base.specs.Prefixes.{Neighbours, Ends, ChildPlace, Part, Outside, Member, Child, Parent, is_tid, first_of, neighbours_from, neighbours_in, neighbours_bytes, member_block, child_block, parent_block, block_size, listed_block_size, prefix_size, early_part, ends_of}
use Rattle.rss_base.specs.declared.name.Name.{Name}
use Rattle.rss_base.specs.declared.tid.Tid.{Tid}
use Rattle.rss_base.specs.declared.link.LinkEntry.{LinkEntry}
use Rattle.rss_model.specs.Tables.{Contents}
use Rattle.rss_model.specs.Chains.{chain, chain_with, stands_in, StandOnce}
use Rattle.rss_stored.specs.Store.{place_of, block_of, listed_block, prefix_of}
use Rattle.rss_model.proofs.LogLists.{by_test, false_true}
use Rattle.rss_model.proofs.Mixing.{In}
use Rattle.rss_stored.proofs.Places.{length-place_bytes, tid_parts, place_parts}
use Rattle.rss_base.proofs.Fronts.{front_parts}
use Rattle.rss_model.proofs.Standing.{stands_of, tid_itself, tid_apart}

-- ---- lengths

neighbours_long : (neighbours : Neighbours) → length (neighbours_bytes neighbours) ≡ 12
neighbours_long neighbours = omega (arith, length-append (place_bytes neighbours.previous) (place_bytes neighbours.next), length-place_bytes neighbours.previous, length-place_bytes neighbours.next)

member_long : (neighbours : Option Neighbours) → length (member_block neighbours) ≡ 13
member_long None = refl
member_long (Some neighbours) = omega (arith, neighbours_long neighbours)

child_long : (place : Option ChildPlace) → length (child_block place) ≡ 18
child_long None = refl
child_long (Some place) = omega (arith, length-append (tid_bytes place.parent) (neighbours_bytes place.neighbours), length-place_bytes (Some place.parent), neighbours_long place.neighbours)

parent_long : (ends : Ends) → length (parent_block ends) ≡ 12
parent_long ends = omega (arith, length-append (place_bytes ends.first) (place_bytes ends.last), length-place_bytes ends.first, length-place_bytes ends.last)

module _ (contents : Contents) (number : ℕ) (tid : Tid) where
  block_long : (link : Name) (part : Part) → length (block_of contents link tid part) ≡ block_size part
  block_long link Outside = refl
  block_long link Member = member_long (neighbours_in (chain contents link None) tid)
  block_long link Child = child_long (place_of contents tid (chain_with contents link tid))
  block_long link Parent = parent_long (ends_of (chain contents link (Some tid)))

  listed_long : (link : Option LinkEntry) → length (listed_block contents number tid link) ≡ listed_block_size number link
  listed_long None = refl
  listed_long (Some link) = block_long link.name (early_part link number)

  blocks_long : (links : List (Option LinkEntry)) → length (flat_map (listed_block contents number tid) links) ≡ prefix_size links number
  blocks_long [] = refl
  blocks_long (link ∷ links) = omega (arith, length-append (listed_block contents number tid link) (flat_map (listed_block contents number tid) links), listed_long link, blocks_long links, sum_by-cons (listed_block_size number) link links)

-- how long a prefix is, the listing says
pub prefix_long : (listing : Listing) (contents : Contents) (number : ℕ) (tid : Tid) → length (prefix_of listing contents number tid) ≡ prefix_size listing.links number
prefix_long listing contents number tid = blocks_long contents number tid listing.links

-- ---- one block of a prefix

module _ (f g : Option LinkEntry → List ℕ) (long : (link : Option LinkEntry) → length (f link) ≡ length (g link)) where
  parts_same : (links : List (Option LinkEntry)) → flat_map f links ≡ flat_map g links → (k : ℕ) (link : LinkEntry) → get_or links k None ≡ Some link → f (Some link) ≡ g (Some link)
  parts_same [] same k link at = absurd (none-some link at)
  parts_same (first ∷ links) same zero link at =
      subst (λ (o : Option LinkEntry). f o ≡ g o) at (front_parts (f first) (g first) (flat_map f links) (flat_map g links) (long first) same).0
  parts_same (first ∷ links) same (suc k) link at =
      parts_same links (front_parts (f first) (g first) (flat_map f links) (flat_map g links) (long first) same).1 k link at

-- prefixes that are the same have the same blocks
pub block_same : (listing : Listing) (a b : Contents) (number : ℕ) (tid : Tid) → prefix_of listing a number tid ≡ prefix_of listing b number tid → (k : ℕ) (link : LinkEntry) → get_or listing.links k None ≡ Some link
    → block_of a link.name tid (early_part link number) ≡ block_of b link.name tid (early_part link number)
block_same listing a b number tid same k link at =
    parts_same (listed_block a number tid) (listed_block b number tid) (λ l. listed_long a number tid l ∙ sym (listed_long b number tid l)) listing.links same k link at

-- ---- what a block says

abbrev pub next_among : Option Neighbours → Option Tid
next_among neighbours = option_and_then (λ n. n.next) neighbours

abbrev pub next_at : Option ChildPlace → Option Tid
next_at place = option_and_then (λ p. p.neighbours.next) place

-- a next one that is named can be spelled
abbrev pub IsNextSpelled : Neighbours → Type 0
IsNextSpelled neighbours = IfSome neighbours.next IsSpelled

pub record IsPlaceSpelled (place : ChildPlace) : Type 0 where
  pub parent : IsSpelled place.parent
  pub next : IsNextSpelled place.neighbours

last_place : (a b : Option Tid) → IfSome a IsSpelled → IfSome b IsSpelled → place_bytes a ≡ place_bytes b → a ≡ b
last_place a b one other same = (place_parts a b [] [] one other (ap (λ (l : List ℕ). l ++ []) same)).0

next_said : (a b : Neighbours) → IsNextSpelled a → IsNextSpelled b → neighbours_bytes a ≡ neighbours_bytes b → a.next ≡ b.next
next_said a b one other same =
    let parts = front_parts (place_bytes a.previous) (place_bytes b.previous) (place_bytes a.next) (place_bytes b.next) (length-place_bytes a.previous ∙ sym (length-place_bytes b.previous)) same in
    last_place a.next b.next one other parts.1

pub member_says : (a b : Option Neighbours) → IfSome a IsNextSpelled → IfSome b IsNextSpelled → member_block a ≡ member_block b → next_among a ≡ next_among b
member_says None None one other same = refl
member_says None (Some b) one other same = let never : 0 ≡ 1 = ap (λ (l : List ℕ). get_or l 0 0) same in absurd (omega (arith, never))
member_says (Some a) None one other same = let never : 1 ≡ 0 = ap (λ (l : List ℕ). get_or l 0 0) same in absurd (omega (arith, never))
member_says (Some a) (Some b) one other same = next_said a b one other (ap (drop 1) same)

pub child_says : (a b : Option ChildPlace) → IfSome a IsPlaceSpelled → IfSome b IsPlaceSpelled → child_block a ≡ child_block b → next_at a ≡ next_at b
child_says None None one other same = refl
child_says None (Some b) one other same = absurd (none-some b.parent (place_parts None (Some b.parent) (replicate 12 255) (neighbours_bytes b.neighbours) tt other.parent same).0)
child_says (Some a) None one other same = absurd (none-some a.parent (sym (place_parts (Some a.parent) None (neighbours_bytes a.neighbours) (replicate 12 255) one.parent tt same).0))
child_says (Some a) (Some b) one other same =
    next_said a.neighbours b.neighbours one.next other.next (tid_parts a.parent b.parent (neighbours_bytes a.neighbours) (neighbours_bytes b.neighbours) one.parent other.parent same).1

pub parent_says : (a b : Ends) → IfSome a.first IsSpelled → IfSome b.first IsSpelled → parent_block a ≡ parent_block b → a.first ≡ b.first
parent_says a b one other same = (place_parts a.first b.first (place_bytes a.last) (place_bytes b.last) one other same).0

-- ---- from each tuple to the next

-- this leads along the list, from each tuple to the next and from the last to none
abbrev pub Leads : (Tid → Option Tid) → List Tid → Type 0
Leads next [] = Unit {0}
Leads next (tid ∷ tids) = (next tid ≡ first_of tids) × Leads next tids

pub leads_too : (f g : Tid → Option Tid) (tids : List Tid) → ((tid : Tid) → In tid tids → f tid ≡ g tid) → Leads f tids → Leads g tids
leads_too f g [] same leads = tt
leads_too f g (tid ∷ tids) same leads = (sym (same tid (inl refl)) ∙ leads.0, leads_too f g tids (λ t is. same t (inr is)) leads.1)

-- lists with the same first tuple, and of each of its tuples the same next one, are the same
pub walk_same : (f g : Tid → Option Tid) (xs ys : List Tid) → Leads f xs → Leads g ys → ((tid : Tid) → In tid xs → f tid ≡ g tid) → first_of xs ≡ first_of ys → xs ≡ ys
walk_same f g [] [] one other same first = refl
walk_same f g [] (y ∷ ys) one other same first = absurd (none-some y first)
walk_same f g (x ∷ xs) [] one other same first = absurd (none-some x (sym first))
walk_same f g (x ∷ xs) (y ∷ ys) one other same first =
    let here : x ≡ y = same_first x y first in
    let next : first_of xs ≡ first_of ys = sym one.0 ∙ same x (inl refl) ∙ ap g here ∙ other.0 in
    let rest = walk_same f g xs ys one.1 other.1 (λ t is. same t (inr is)) next in
    λ i. here i ∷ rest i
  where
    same_first : (x y : Tid) → Some x ≡ Some y → x ≡ y
    same_first x y same = cc

-- of a list in which none stands twice, the neighbours lead along it
leads_from : (before : Option Tid) (tids : List Tid) → StandOnce tids → Leads (λ tid. next_among (neighbours_from before tids tid)) tids
leads_from before [] once = tt
leads_from before (other ∷ tids) once = (
  rw (tid_itself other) refl,
  leads_too (λ t. next_among (neighbours_from (Some other) tids t)) (λ t. next_among (neighbours_from before (other ∷ tids) t)) tids
      (λ t is. let apart : is_tid other t ≡ false = tid_apart other t (λ same. false_true (subst (λ (x : Tid). stands_in x tids ≡ true) (sym same) (stands_of tids t is)) once.0) in rw apart refl)
      (leads_from (Some other) tids once.1),
)

pub leads_in : (tids : List Tid) → StandOnce tids → Leads (λ tid. next_among (neighbours_in tids tid)) tids
leads_in tids once = leads_from None tids once

-- what of all tuples is so, is so of the next one
pub first_is : (P : Tid → Type 0) (tids : List Tid) → ((tid : Tid) → In tid tids → P tid) → IfSome (first_of tids) P
first_is P [] each = tt
first_is P (tid ∷ tids) each = each tid (inl refl)

pub next_is : (P : Tid → Type 0) (before : Option Tid) (tids : List Tid) (tid : Tid) → ((t : Tid) → In t tids → P t) → IfSome (neighbours_from before tids tid) (λ n. IfSome n.next P)
next_is P before [] tid each = tt
next_is P before (other ∷ tids) tid each = by_test (is_tid other tid)
    (λ e. rw e (first_is P tids (λ t is. each t (inr is))))
    (λ e. rw e (next_is P (Some other) tids tid (λ t is. each t (inr is))))
