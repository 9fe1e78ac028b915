-- What a relation has to do with links, and in how many it is.
use Rattle.std.proofs.Common.{◌≡◌, ◌⊎◌, ℕ, ◌+◌, ◌-◌, ◌<◌, ◌≤◌, Bool, true, false, cond, List, [], length, get_or, Option, Some, None, refl, sym, ◌∙◌, ap, subst, inl, inr, arith}
use Rattle.std.specs.Prelude.{count_by, IfSome, is_some, ◌==◌}
use Rattle.std.proofs.lemmas.Bool.{cases_Bool, eq-eqb, eqb-true, or_left, or_right, or_cases, false_from_ne_true}
use Rattle.std.proofs.lemmas.List.Sums.{sum_by-set}
use Rattle.rss_base.specs.Listings.{Listing, LinkFits, numbered, with_number, relation_at, link_at, has_role, is_parent_in, roles_of}
use Rattle.rss_base.specs.declared.link.LinkEntry.{LinkEntry}
use Rattle.rss_base.specs.declared.relation.RelationEntry.{RelationEntry}
use Rattle.rss_catalog.specs.Catalogs.{HasRoleLeft, IsSafeLink}
use Rattle.rss_catalog.specs.Defined.{endless}
use Rattle.rss_catalog.specs.Checking.{AreLinksIn, HaveFewRoles, IsLinkIn, listing_of}
use Rattle.rss_catalog.proofs.Numbered.{numbered_at, numbered_within, has_number, used_has}
use Rattle.rss_catalog.proofs.Counts.{counts_none}

-- ---- the relations of a link

pub child_role : (link : LinkEntry) → has_role link.child (Some link) ≡ true
child_role link = or_left (link.child == link.child) (is_parent_in link.parent link.child) (eq-eqb link.child link.child refl)

parent_there : (parent : Option ℕ) (number : ℕ) → parent ≡ Some number → is_parent_in parent number ≡ true
parent_there parent number is = ap (λ (o : Option ℕ). is_parent_in o number) is ∙ eq-eqb number number refl

pub parent_role : (link : LinkEntry) (number : ℕ) → link.parent ≡ Some number → has_role number (Some link) ≡ true
parent_role link number is = or_right (link.child == number) (is_parent_in link.parent number) (parent_there link.parent number is)

parent_is : (parent : Option ℕ) (number : ℕ) → is_parent_in parent number ≡ true → parent ≡ Some number
parent_is None number is = absurd (cc)
parent_is (Some parent) number is = ap Some (eqb-true parent number is)

pub role_cases : (link : LinkEntry) (number : ℕ) → has_role number (Some link) ≡ true → (link.child ≡ number) ⊎ (link.parent ≡ Some number)
role_cases link number has = elim (or_cases (link.child == number) (is_parent_in link.parent number) has) [
  | inl child ↦ inl (eqb-true link.child number child)
  | inr parent ↦ inr (parent_is link.parent number parent)
]

-- each of them is listed
pub role_listed : (listing : Listing) (link : LinkEntry) (number : ℕ) → IsSafeLink listing link → has_role number (Some link) ≡ true → is_some (relation_at listing number) ≡ true
role_listed listing link number safe has = elim (role_cases link number has) [
  | inl child ↦ ap (λ (n : ℕ). is_some (relation_at listing n)) (sym child) ∙ safe.child
  | inr parent ↦ (subst (λ (o : Option ℕ). IfSome o (λ n. (is_some (relation_at listing n) ≡ true) × (n ≡ link.child → ⊥))) parent safe.parent).0
]

-- what is said of the value that there is, with what it is
pub some_then : {X : Type 0} {P Q : X → Type 0} (o : Option X) → IfSome o P → ((x : X) → o ≡ Some x → P x → Q x) → IfSome o Q
some_then None is then = is
some_then (Some x) is then = then x refl is

-- a link that fits is safe
pub safe_link : (listing : Listing) (link : LinkEntry) → LinkFits listing link → IsSafeLink listing link
safe_link listing link fit = record { child = fit.child; parent = fit.parent; first = fit.first; last = fit.last }

-- a link is safe where its relations are listed
pub safe_link_moves : (old new : Listing) (link : LinkEntry) → IsSafeLink old link → ((number : ℕ) → has_role number (Some link) ≡ true → is_some (relation_at old number) ≡ true → is_some (relation_at new number) ≡ true) → IsSafeLink new link
safe_link_moves old new link safe listed = record {
  child = listed link.child (child_role link) safe.child;
  parent = some_then link.parent safe.parent (λ number is has. (listed number (parent_role link number is) has.0, has.1));
  first = safe.first;
  last = safe.last;
}

-- and fits there
pub link_moves : (old new : Listing) (link : LinkEntry) → LinkFits old link → ((number : ℕ) → has_role number (Some link) ≡ true → is_some (relation_at old number) ≡ true → is_some (relation_at new number) ≡ true) → LinkFits new link
link_moves old new link fit listed =
    let safe = safe_link_moves old new link (safe_link old link fit) listed in
    record { name = fit.name; child = safe.child; parent = safe.parent; first = safe.first; last = safe.last; early = fit.early }

-- and so where the relations are the same
pub link_stays : (old new : Listing) (link : LinkEntry) → new.relations ≡ old.relations → LinkFits old link → LinkFits new link
link_stays old new link same fit = link_moves old new link fit (λ number has listed. ap (λ (l : List (Option RelationEntry)). is_some (numbered l number)) same ∙ listed)

-- ---- in how many links a relation is

-- a part or none
abbrev bit : ℕ → Option LinkEntry → ℕ
bit number link = cond (has_role number link) 1 0

-- what is no relation is in no link
part_off : (entries : List (Option RelationEntry)) (number : ℕ) (link : Option LinkEntry) → ((entry : LinkEntry) → link ≡ Some entry → IsLinkIn entries entry) → (is_some (numbered entries number) ≡ true → ⊥) → has_role number link ≡ false
part_off entries number None fit none = refl
part_off entries number (Some link) fit none = false_from_ne_true _ (λ has. none (role_listed (listing_of [] entries [] []) (endless link) number (safe_link _ (endless link) (fit link refl).fits) has))

pub roles_off : (entries : List (Option RelationEntry)) (links : List (Option LinkEntry)) (number : ℕ) → AreLinksIn entries links → (is_some (numbered entries number) ≡ true → ⊥) → count_by (has_role number) links ≡ 0
roles_off entries links number each none = counts_none (has_role number) links (λ k d low. part_off entries number (get_or links k d) (λ entry is. each (k + 1) entry (has_number links k d entry low is)) none)

-- so it is enough to count those of the relations
pub few_all : (entries : List (Option RelationEntry)) (links : List (Option LinkEntry)) (count : ℕ) → AreLinksIn entries links → length entries ≤ count → ((k : ℕ) → k < count → count_by (has_role (k + 1)) links ≤ 16) → HaveFewRoles links
few_all entries links count each all few number = elim (cases_Bool (is_some (numbered entries number))) [
  | inl listed ↦
      let has = used_has (numbered entries number) listed in
      let within = numbered_within entries number has.0 has.1 in
      let here : number - 1 + 1 ≡ number = omega (arith, within) in
      subst (λ (n : ℕ). count_by (has_role n) links ≤ 16) here (few (number - 1) (omega (arith, within, all)))
  | inr off ↦ let none = roles_off entries links number each (λ listed. absurd (cc)) in omega (arith, none)
]

-- ---- where a link is put at a place

-- the count of the others stays
roles_put : (links : List (Option LinkEntry)) (number : ℕ) (item was : Option LinkEntry) (relation : ℕ) → 1 ≤ number → number ≤ length links → get_or links (number - 1) None ≡ was
    → count_by (has_role relation) (with_number links number item) + bit relation was ≡ count_by (has_role relation) links + bit relation item
roles_put links number item was relation low high is =
    (λ i. count_by (has_role relation) (with_number links number item) + bit relation (sym is i)) ∙ sum_by-set (bit relation) links (number - 1) item None (omega arith)

-- a link of relations that may have one more
bit_left : (listing : Listing) (link : LinkEntry) (relation : ℕ) → HasRoleLeft listing link → roles_of listing relation ≤ 16 → roles_of listing relation + bit relation (Some link) ≤ 16
bit_left listing link relation left few = elim (cases_Bool (has_role relation (Some link))) [
  | inr none ↦ let is : bit relation (Some link) ≡ 0 = ap (λ (b : Bool). cond b 1 0) none in omega (arith, is, few)
  | inl has ↦
      let is : bit relation (Some link) ≡ 1 = ap (λ (b : Bool). cond b 1 0) has in
      let room : roles_of listing relation < 16 = elim (role_cases link relation has) [
        | inl child ↦ subst (λ (n : ℕ). roles_of listing n < 16) child left.child
        | inr parent ↦ subst (λ (o : Option ℕ). IfSome o (λ n. roles_of listing n < 16)) parent left.parent
      ] in
      omega (arith, is, room)
]

pub roles_added : (listing : Listing) (number : ℕ) (link : LinkEntry) → 1 ≤ number → number ≤ length listing.links → link_at listing number ≡ None → HasRoleLeft listing link → HaveFewRoles listing.links → HaveFewRoles (with_number listing.links number (Some link))
roles_added listing number link low high free left few relation =
    let put = roles_put listing.links number (Some link) None relation low high (sym (numbered_at listing.links number low high) ∙ free) in
    omega (arith, put, bit_left listing link relation left (few relation))

pub roles_dropped : (links : List (Option LinkEntry)) (number : ℕ) → 1 ≤ number → number ≤ length links → HaveFewRoles links → HaveFewRoles (with_number links number None)
roles_dropped links number low high few relation = omega (arith, roles_put links number None (get_or links (number - 1) None) relation low high refl, few relation)

-- a link with the same relations
pub roles_kept : (links : List (Option LinkEntry)) (number : ℕ) (link was : LinkEntry) → numbered links number ≡ Some was → ((relation : ℕ) → has_role relation (Some link) ≡ has_role relation (Some was)) → HaveFewRoles links → HaveFewRoles (with_number links number (Some link))
roles_kept links number link was is same few relation =
    let within = numbered_within links number was is in
    let put = roles_put links number (Some link) (Some was) relation within.0 within.1 (sym (numbered_at links number within.0 within.1) ∙ is) in
    let bits : bit relation (Some link) ≡ bit relation (Some was) = ap (λ (b : Bool). cond b 1 0) (same relation) in
    omega (arith, put, bits, few relation)
