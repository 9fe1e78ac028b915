-- Blocks and the sum of their sizes, one link after another.
use Rattle.std.proofs.Common.{◌≡◌, ℕ, suc, ◌+◌, ◌<◌, ◌≤◌, false, List, [], ◌∷◌, ◌++◌, length, take, drop, get_or, Option, Some, None, refl, sym, ◌∙◌, ap, arith, inl, inr, append_assoc}
use Rattle.std.specs.Prelude.{is_some, option_map, flat_map}
use Rattle.std.proofs.lemmas.Bool.{cases_lt}
use Rattle.std.proofs.lemmas.List.{take_all, get_or-drop, take-append-drop, append-nil, length-append}
use Rattle.std.proofs.lemmas.List.Concat.{flat_map-cons}
use Rattle.std.proofs.lemmas.Grind.{flat_map-append}
use Rattle.std.proofs.Math.Seq.{take-suc}
use Rattle.std.proofs.lemmas.List.Sums.{sum_by-cons, sum_by_more, sum_by-take-drop, sum_by-take-le}
use Rattle.rss_base.specs.Listings.{Listing, numbered, names_of, link_at}
use Rattle.rss_base.specs.Prefixes.{listed_block_size, prefix_size}
use Rattle.rss_base.specs.declared.link.LinkEntry.{LinkEntry}
use Rattle.rss_base.specs.declared.refusal.Kind.TheVariants.{Link as LinkKind}
use Rattle.rss_catalog.proofs.Numbered.{numbered_past, numbered_map, unused_none}
use Rattle.rss_stored.proofs.Listed.{at_place}
use Rattle.rss_members.specs.Members.{blank_listed}
use Rattle.rss_members.proofs.Prefixed.{long_blank_listed, long_blank}

pub link_used : (listing : Listing) (number : ℕ) → is_some (numbered (names_of LinkKind listing) number) ≡ is_some (link_at listing number)
link_used listing number = ap is_some (numbered_map (λ (link : LinkEntry). link.name) listing.links number) ∙ same (link_at listing number)
  where
    same : (o : Option LinkEntry) → is_some (option_map (λ (link : LinkEntry). link.name) o) ≡ is_some o
    same None = refl
    same (Some link) = refl

-- one link more
more_links : (items : List (Option LinkEntry)) (relation i : ℕ) → prefix_size (take (i + 1) items) relation ≡ prefix_size (take i items) relation + listed_block_size relation (numbered items (i + 1))
more_links items relation i =
    let next : suc i ≡ i + 1 = omega arith in
    let here : get_or items i None ≡ numbered items (i + 1) = sym (at_place items i) ∙ ap (numbered items) next in
    elim (cases_lt i (length items)) [
      | inl within ↦ sum_by_more (listed_block_size relation) items i None within ∙ ap (λ (o : Option LinkEntry). prefix_size (take i items) relation + listed_block_size relation o) here
      | inr past ↦
          let all : take (i + 1) items ≡ take i items = take_all (i + 1) items (omega arith) ∙ sym (take_all i items past) in
          let none : listed_block_size relation (numbered items (i + 1)) ≡ 0 = ap (listed_block_size relation) (numbered_past items (i + 1) (omega arith)) in
          omega (arith, ap (λ (l : List (Option LinkEntry)). prefix_size l relation) all, none)
    ]

none_after : (items : List (Option LinkEntry)) (relation : ℕ) → ((k : ℕ) → get_or items k None ≡ None) → prefix_size items relation ≡ 0
none_after [] relation none = refl
none_after (item ∷ items) relation none =
    let here : listed_block_size relation item ≡ 0 = ap (listed_block_size relation) (none 0) in
    omega (arith, sum_by-cons (listed_block_size relation) item items, here, none_after items relation (λ k. none (suc k)))

-- where no link has a number behind these
pub all_links : (items : List (Option LinkEntry)) (relation i : ℕ) → ((number : ℕ) → i < number → numbered items number ≡ None) → prefix_size (take i items) relation ≡ prefix_size items relation
all_links items relation i behind =
    let rest : prefix_size (drop i items) relation ≡ 0 = none_after (drop i items) relation (λ k. get_or-drop i items k None ∙ sym (at_place items (i + k)) ∙ behind (suc (i + k)) (omega arith)) in
    omega (arith, sum_by-take-drop (listed_block_size relation) items i, rest)

module _ (listing : Listing) (relation place sum : ℕ) (before : sum ≡ prefix_size (take place listing.links) relation) where
  pub link_added : {link : LinkEntry} {more now : ℕ} → link_at listing (place + 1) ≡ Some link → more ≡ listed_block_size relation (Some link) → now ≡ sum + more → now ≡ prefix_size (take (place + 1) listing.links) relation
  link_added at more_is now_is = now_is ∙ (λ i. before i + (more_is ∙ ap (listed_block_size relation) (sym at)) i) ∙ sym (more_links listing.links relation place)

  pub link_passed : {now : ℕ} → is_some (numbered (names_of LinkKind listing) (place + 1)) ≡ false → now ≡ sum → now ≡ prefix_size (take (place + 1) listing.links) relation
  link_passed free same =
      let at : link_at listing (place + 1) ≡ None = unused_none _ (sym (link_used listing (place + 1)) ∙ free) in
      let none : listed_block_size relation (link_at listing (place + 1)) ≡ 0 = ap (listed_block_size relation) at in
      omega (arith, more_links listing.links relation place, none, before, same)

-- ---- the blocks of a tuple outside of all chains

none_blank : (items : List (Option LinkEntry)) (relation : ℕ) → ((k : ℕ) → get_or items k None ≡ None) → flat_map (blank_listed relation) items ≡ []
none_blank [] relation none = refl
none_blank (item ∷ items) relation none =
    flat_map-cons (blank_listed relation) item items ∙ (λ i. ap (blank_listed relation) (none 0) i ++ none_blank items relation (λ k. none (suc k)) i)

pub all_blank : (items : List (Option LinkEntry)) (relation i : ℕ) → ((number : ℕ) → i < number → numbered items number ≡ None) → flat_map (blank_listed relation) (take i items) ≡ flat_map (blank_listed relation) items
all_blank items relation i behind =
    let front : List ℕ = flat_map (blank_listed relation) (take i items) in
    let rest : flat_map (blank_listed relation) (drop i items) ≡ [] = none_blank (drop i items) relation (λ k. get_or-drop i items k None ∙ sym (at_place items (i + k)) ∙ behind (suc (i + k)) (omega arith)) in
    sym (append-nil front) ∙ ap (λ (l : List ℕ). front ++ l) (sym rest) ∙ sym (flat_map-append (blank_listed relation) (take i items) (drop i items)) ∙ ap (flat_map (blank_listed relation)) (take-append-drop i items)

more_blank : (items : List (Option LinkEntry)) (relation i : ℕ) → flat_map (blank_listed relation) (take (i + 1) items) ≡ flat_map (blank_listed relation) (take i items) ++ blank_listed relation (numbered items (i + 1))
more_blank items relation i =
    let next : suc i ≡ i + 1 = omega arith in
    let here : get_or items i None ≡ numbered items (i + 1) = sym (at_place items i) ∙ ap (numbered items) next in
    let front : List ℕ = flat_map (blank_listed relation) (take i items) in
    elim (cases_lt i (length items)) [
      | inl within ↦
          ap (λ (k : ℕ). flat_map (blank_listed relation) (take k items)) (sym next)
          ∙ ap (flat_map (blank_listed relation)) (take-suc items i None within)
          ∙ flat_map-append (blank_listed relation) (take i items) (get_or items i None ∷ [])
          ∙ ap (λ (l : List ℕ). front ++ l) (flat_map-cons (blank_listed relation) (get_or items i None) [] ∙ append-nil (blank_listed relation (get_or items i None)) ∙ ap (blank_listed relation) here)
      | inr past ↦
          let all : take (i + 1) items ≡ take i items = take_all (i + 1) items (omega arith) ∙ sym (take_all i items past) in
          ap (flat_map (blank_listed relation)) all ∙ sym (append-nil front) ∙ ap (λ (l : List ℕ). front ++ l) (sym (ap (blank_listed relation) (numbered_past items (i + 1) (omega arith))))
    ]

module _ (listing : Listing) (relation place : ℕ) (start body : List ℕ) (before : body ≡ start ++ flat_map (blank_listed relation) (take place listing.links)) where
  pub blank_added : {link : LinkEntry} (more : List ℕ) {now : List ℕ} → link_at listing (place + 1) ≡ Some link → more ≡ blank_listed relation (Some link) → now ≡ body ++ more
      → now ≡ start ++ flat_map (blank_listed relation) (take (place + 1) listing.links)
  blank_added more at more_is now_is =
      now_is ∙ (λ i. before i ++ (more_is ∙ ap (blank_listed relation) (sym at)) i)
      ∙ append_assoc start (flat_map (blank_listed relation) (take place listing.links)) (blank_listed relation (link_at listing (place + 1)))
      ∙ ap (λ (l : List ℕ). start ++ l) (sym (more_blank listing.links relation place))

  pub blank_passed : {now : List ℕ} → is_some (numbered (names_of LinkKind listing) (place + 1)) ≡ false → now ≡ body → now ≡ start ++ flat_map (blank_listed relation) (take (place + 1) listing.links)
  blank_passed free same =
      let at : link_at listing (place + 1) ≡ None = unused_none _ (sym (link_used listing (place + 1)) ∙ free) in
      let front : List ℕ = flat_map (blank_listed relation) (take place listing.links) in
      same ∙ before ∙ ap (λ (l : List ℕ). start ++ l) (sym (append-nil front) ∙ ap (λ (l : List ℕ). front ++ l) (sym (ap (blank_listed relation) at)) ∙ sym (more_blank listing.links relation place))

  -- there is room for one block more
  pub room_more : (most : ℕ) {link : LinkEntry} (more : List ℕ) → link_at listing (place + 1) ≡ Some link → more ≡ blank_listed relation (Some link) → length start + prefix_size listing.links relation ≤ most → length body + length more ≤ most
  room_more most more at more_is room =
      let front : List ℕ = flat_map (blank_listed relation) (take place listing.links) in
      let size : length more ≡ listed_block_size relation (link_at listing (place + 1)) = ap length (more_is ∙ ap (blank_listed relation) (sym at)) ∙ long_blank_listed relation (link_at listing (place + 1)) in
      omega (arith, ap length before, length-append start front, long_blank relation (take place listing.links), size, more_links listing.links relation place, sum_by-take-le (listed_block_size relation) listing.links (place + 1), room)
