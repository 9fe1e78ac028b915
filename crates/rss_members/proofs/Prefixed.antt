-- The prefix of a tuple: how long its blocks are, and where each stands.
use Rattle.std.proofs.Common.{◌≡◌, ℕ, ◌+◌, ◌-◌, ◌≤◌, suc, List, [], ◌∷◌, ◌++◌, length, get_or, take, drop, Option, Some, None, refl, sym, ◌∙◌, ap, subst, arith, append_assoc}
use Rattle.std.specs.Prelude.{flat_map, sum_by}
use Rattle.std.proofs.lemmas.List.{length-append, take_at, drop_at, take-append-drop}
use Rattle.std.proofs.lemmas.List.Concat.{flat_map-cons}
use Rattle.std.proofs.lemmas.List.Sums.{sum_by-cons}
use Rattle.std.proofs.lemmas.Grind.{flat_map-append}
use Rattle.std.proofs.Math.Seq.{drop-cons}
use Rattle.rss_base.specs.LogRecords.{place_bytes, tid_bytes}
use Rattle.rss_base.specs.Listings.{Listing, numbered, link_at}
use Rattle.rss_base.specs.Prefixes.{Neighbours, ChildPlace, Part, Outside, Member, Child, Parent, early_part, block_size, listed_block_size, prefix_size, member_block, child_block, ends_of}
use Rattle.rss_base.specs.TupleTypes.{tuple_bytes}
use Rattle.rss_base.specs.declared.name.Name.{Name}
use Rattle.rss_base.specs.declared.tid.Tid.{Tid}
use Rattle.rss_base.specs.declared.value.Value.{Value}
use Rattle.rss_base.specs.declared.link.LinkEntry.{LinkEntry}
use Rattle.rss_catalog.proofs.Numbered.{numbered_at, numbered_within}
use Rattle.rss_model.specs.Tables.{Contents}
use Rattle.rss_stored.specs.Store.{fields_at, block_of, listed_block, body_of}
use Rattle.rss_link.specs.Blocks.{HasBytes}
use Rattle.rss_link.proofs.Pointers.{long_pointer}
use Rattle.rss_link.proofs.BlockBytes.{length-parent_block}
use Rattle.rss_members.specs.Members.{block_at, blank_block, blank_listed}

-- ---- lengths

pub long_member : (neighbours : Option Neighbours) → length (member_block neighbours) ≡ 13
long_member None = refl
long_member (Some n) = omega (arith, length-append (place_bytes n.previous) (place_bytes n.next), long_pointer n.previous, long_pointer n.next)

pub long_child : (place : Option ChildPlace) → length (child_block place) ≡ 18
long_child None = refl
long_child (Some p) = omega (arith, length-append (tid_bytes p.parent) (place_bytes p.neighbours.previous ++ place_bytes p.neighbours.next), length-append (place_bytes p.neighbours.previous) (place_bytes p.neighbours.next), long_pointer (Some p.parent), long_pointer p.neighbours.previous, long_pointer p.neighbours.next)

pub long_block : (contents : Contents) (link : Name) (tid : Tid) (part : Part) → length (block_of contents link tid part) ≡ block_size part
long_block contents link tid Outside = refl
long_block contents link tid Member = long_member _
long_block contents link tid Child = long_child _
long_block contents link tid Parent = length-parent_block _

pub long_listed : (contents : Contents) (number : ℕ) (tid : Tid) (item : Option LinkEntry) → length (listed_block contents number tid item) ≡ listed_block_size number item
long_listed contents number tid None = refl
long_listed contents number tid (Some link) = long_block contents link.name tid (early_part link number)

pub long_items : {A : Type 0} (f : A → List ℕ) (size : A → ℕ) (same : (item : A) → length (f item) ≡ size item) (items : List A) → length (flat_map f items) ≡ sum_by size items
long_items f size same [] = refl
long_items f size same (item ∷ items) = ap length (flat_map-cons f item items) ∙ length-append (f item) (flat_map f items) ∙ (λ i. same item i + long_items f size same items i) ∙ sym (sum_by-cons size item items)

pub long_prefix : (contents : Contents) (number : ℕ) (tid : Tid) (items : List (Option LinkEntry)) → length (flat_map (listed_block contents number tid) items) ≡ prefix_size items number
long_prefix contents number tid items = long_items (listed_block contents number tid) (listed_block_size number) (long_listed contents number tid) items

pub long_blank_block : (part : Part) → length (blank_block part) ≡ block_size part
long_blank_block Outside = refl
long_blank_block Member = refl
long_blank_block Child = refl
long_blank_block Parent = length-parent_block (ends_of [])

pub size_most : (part : Part) → block_size part ≤ 18
size_most Outside = omega arith
size_most Member = omega arith
size_most Child = omega arith
size_most Parent = omega arith

pub long_blank_listed : (number : ℕ) (item : Option LinkEntry) → length (blank_listed number item) ≡ listed_block_size number item
long_blank_listed number None = refl
long_blank_listed number (Some link) = long_blank_block (early_part link number)

pub long_blank : (number : ℕ) (items : List (Option LinkEntry)) → length (flat_map (blank_listed number) items) ≡ prefix_size items number
long_blank number items = long_items (blank_listed number) (listed_block_size number) (long_blank_listed number) items

-- ---- places

-- the list with what has a number between those before it and those behind it
pub split_items : {A : Type 0} (items : List (Option A)) (number : ℕ) (item : A) → numbered items number ≡ Some item → items ≡ take (number - 1) items ++ (Some item ∷ drop number items)
split_items {A = A} items number item is =
    let within = numbered_within items number item is in
    let low : 1 ≤ number = within.0 in
    let high : number ≤ length items = within.1 in
    let here : get_or items (number - 1) None ≡ Some item = sym (numbered_at items number low high) ∙ is in
    let next : suc (number - 1) ≡ number = omega (arith, low) in
    sym (take-append-drop (number - 1) items)
    ∙ ap (λ (l : List (Option A)). take (number - 1) items ++ l) (drop-cons items (number - 1) None (omega (arith, low, high)) ∙ (λ i. here i ∷ drop (next i) items))

-- the bytes between others
pub has_between : (front bytes back : List ℕ) (at : ℕ) → length front ≡ at → HasBytes (front ++ (bytes ++ back)) at bytes
has_between front bytes back at long = ap (take (length bytes)) (drop_at front (bytes ++ back) at long) ∙ take_at bytes back (length bytes) refl

-- ---- the block of a link in a body

module _ (contents : Contents) (relation : ℕ) (tid : Tid) where
  -- what stands before it, and behind it, where these are the items of all links
  abbrev pub front_of : List (Option LinkEntry) → ℕ → List ℕ
  front_of items number = relation ∷ flat_map (listed_block contents relation tid) (take (number - 1) items)

  abbrev pub back_of : List (Option LinkEntry) → ℕ → List ℕ → List ℕ
  back_of items number values = flat_map (listed_block contents relation tid) (drop number items) ++ values

  pub long_front : (items : List (Option LinkEntry)) (number : ℕ) → length (front_of items number) ≡ 1 + prefix_size (take (number - 1) items) relation
  long_front items number = omega (arith, long_prefix contents relation tid (take (number - 1) items))

  pub cut_items : (items : List (Option LinkEntry)) (number : ℕ) (link : LinkEntry) (values : List ℕ) → numbered items number ≡ Some link
      → relation ∷ (flat_map (listed_block contents relation tid) items ++ values) ≡ front_of items number ++ (block_of contents link.name tid (early_part link relation) ++ back_of items number values)
  cut_items items number link values at =
      let block : List ℕ = block_of contents link.name tid (early_part link relation) in
      let front : List ℕ = flat_map (listed_block contents relation tid) (take (number - 1) items) in
      let back : List ℕ = flat_map (listed_block contents relation tid) (drop number items) in
      let cut : flat_map (listed_block contents relation tid) items ≡ front ++ (block ++ back) =
      ap (flat_map (listed_block contents relation tid)) (split_items items number link at)
      ∙ flat_map-append (listed_block contents relation tid) (take (number - 1) items) (Some link ∷ drop number items)
      ∙ ap (λ (l : List ℕ). front ++ l) (flat_map-cons (listed_block contents relation tid) (Some link) (drop number items)) in
      ap (λ (l : List ℕ). relation ∷ l)
      (ap (λ (l : List ℕ). l ++ values) cut
      ∙ append_assoc front (block ++ back) values
      ∙ ap (λ (l : List ℕ). front ++ l) (append_assoc block back values))

  pub has_block : (listing : Listing) (number : ℕ) (link : LinkEntry) (values : List Value) → link_at listing number ≡ Some link
      → HasBytes (body_of listing contents relation tid values) (block_at listing number relation) (block_of contents link.name tid (early_part link relation))
  has_block listing number link values at =
      let block : List ℕ = block_of contents link.name tid (early_part link relation) in
      subst (λ (body : List ℕ). HasBytes body (block_at listing number relation) block) (sym (cut_items listing.links number link (tuple_bytes (fields_at listing relation) values) at))
      (has_between (front_of listing.links number) block (back_of listing.links number (tuple_bytes (fields_at listing relation) values)) (block_at listing number relation) (long_front listing.links number))
