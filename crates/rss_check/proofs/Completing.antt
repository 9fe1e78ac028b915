-- Tuples, the rows of images and chains are the same in a listing whose images have levels and whose links have no ends that are none.
use Rattle.std.proofs.Common.{◌≡◌, ℕ, ◌+◌, ◌-◌, Bool, true, false, cond, List, [], ◌∷◌, length, take, drop, refl, sym, ◌∙◌, ap, subst}
use Rattle.std.specs.Prelude.{Option, Some, None, is_some, map, option_map, nat_le, not as negated, ◌&&◌}
use Rattle.std.proofs.lemmas.List.{take-map}
use Rattle.std.proofs.lemmas.List.Sums.{sum_by-cons}
use Rattle.rss_base.specs.Listings.{Listing, numbered, relation_at}
use Rattle.rss_base.specs.Paged.{Held}
use Rattle.rss_base.specs.Prefixes.{listed_block_size, prefix_size}
use Rattle.rss_base.specs.Trees.{Pair}
use Rattle.rss_base.specs.declared.image.ImageEntry.{ImageEntry}
use Rattle.rss_base.specs.declared.link.LinkEntry.{LinkEntry}
use Rattle.rss_base.specs.declared.name.Name.{Name}
use Rattle.rss_base.specs.declared.place.Place.{Place}
use Rattle.rss_base.specs.declared.relation.RelationEntry.{RelationEntry}
use Rattle.rss_tuple.specs.Directory.{bodies_of}
use Rattle.rss_tuple.specs.Flaws.{IsEntryRight}
use Rattle.rss_catalog.specs.Defined.{endless, has_ends, mended, completed}
use Rattle.rss_link.specs.declared.link.Chains.{Chains}
use Rattle.rss_link.specs.Checking.{linkage_of}
use Rattle.rss_link.specs.Links.{SpellChains}
use Rattle.rss_members.specs.Members.{block_at, segment_of, of_parents, chains_of, listed_ends}
use Rattle.rss_access.specs.Bodies.{HoldsBytes, is_values_of, is_body}
use Rattle.rss_access.specs.Rows.{IsPairOfRow, HasRows}
use Rattle.rss_check.specs.Checks.{relations_of}
use Rattle.rss_check.specs.Lines.{Line}
use Rattle.rss_check.specs.Rows.{HasLists}
use Rattle.rss_check.specs.Tuples.{BreaksIn, page_in, entry_in, unled_in, count_in, BreaksTuples}

-- ---- bodies

block_mended : (number : ℕ) (link : Option LinkEntry) → listed_block_size number (option_map mended link) ≡ listed_block_size number link
block_mended number None = refl
block_mended number (Some link) = by (has_ends link)
  where
    by : (b : Bool) → listed_block_size number (Some (cond b link (endless link))) ≡ listed_block_size number (Some link)
    by true = refl
    by false = refl

prefix_mended : (number : ℕ) (links : List (Option LinkEntry)) → prefix_size (map (option_map mended) links) number ≡ prefix_size links number
prefix_mended number [] = refl
prefix_mended number (link ∷ links) =
    sum_by-cons (listed_block_size number) (option_map mended link) (map (option_map mended) links)
    ∙ (λ i. block_mended number link i + prefix_mended number links i)
    ∙ sym (sum_by-cons (listed_block_size number) link links)

pub body_completed : (listing : Listing) (segment : ℕ) → is_body (completed listing) segment ≡ is_body listing segment
body_completed listing segment = λ i body. same body i
  where
    same : (body : List ℕ) → is_body (completed listing) segment body ≡ is_body listing segment body
    same [] = refl
    same (number ∷ bytes) = ap (λ (n : ℕ). nat_le n (length bytes) && is_values_of (relation_at listing number) segment (drop n bytes)) (prefix_mended number listing.links)

-- ---- what is broken

module _ {held : Held} {slots : ℕ} {a b : Listing} (names : a.segments ≡ b.segments) (relations : a.relations ≡ b.relations) (bodies : (segment : ℕ) → is_body a segment ≡ is_body b segment) where
  breaks_alike : {segment : ℕ} {line : Line} {place : Place} → BreaksIn held slots a segment line place → BreaksIn held slots b segment line place
  breaks_alike (page_in key bytes of there not) =
      page_in key bytes of there (λ is. not (record { segment = ap (λ (s : List (Option Name)). is_some (numbered s key.segment)) names ∙ is.segment; right = is.right }))
  breaks_alike {segment} (entry_in tid not) = entry_in tid (λ right. not (subst (λ (good : List ℕ → Bool). IsEntryRight held segment good tid) (sym (bodies segment)) right))
  breaks_alike (unled_in page slot some not) = unled_in page slot some not
  breaks_alike (count_in number relation at within wrong) = count_in number relation (ap (λ (r : List (Option RelationEntry)). numbered r number) (sym relations) ∙ at) within wrong

  pub tuples_alike : {line : Line} {place : Place} → BreaksTuples held slots a line place → BreaksTuples held slots b line place
  tuples_alike is = record { segment = is.segment; breaks = breaks_alike is.breaks }

-- ---- rows of images

-- where prefixes are as long
module _ {a b : Listing} (same : (number : ℕ) → prefix_size a.links number ≡ prefix_size b.links number) where
  bytes_alike : {number : ℕ} {body bytes : List ℕ} → HoldsBytes a number body bytes → HoldsBytes b number body bytes
  bytes_alike {number} of = record { prefix = of.prefix; long = of.long ∙ same number; is = of.is }

  pair_alike : {held : Held} {image : ImageEntry} {relation : RelationEntry} {pair : Pair}
      → IsPairOfRow held a image relation pair → IsPairOfRow held b image relation pair
  pair_alike of = record {
    body = of.body;
    values = of.values;
    there = of.there;
    is = record { bytes = of.is.bytes; holds = bytes_alike of.is.holds; spelled = of.is.spelled };
    key = of.key;
  }

rows_alike : {a b : Listing} → ((number : ℕ) → prefix_size a.links number ≡ prefix_size b.links number)
    → {held : Held} {slots number : ℕ} {image : ImageEntry} {relation : RelationEntry} {nodes : List ℕ}
    → HasRows held slots a number image relation nodes → HasRows held slots b number image relation nodes
rows_alike {a} {b} same rows = record {
  pairs = rows.pairs;
  tree = rows.tree;
  once = rows.once;
  within = rows.within;
  rows = λ pair. (
    λ there. pair_alike {a = a} {b = b} same ((rows.rows pair).0 there),
    λ of. (rows.rows pair).1 (pair_alike {a = b} {b = a} (λ number. sym (same number)) of),
  );
  single = rows.single;
}

module _ (listing : Listing) {held : Held} {slots number : ℕ} {image : ImageEntry} {relation : RelationEntry} {nodes : List ℕ} where
  pub rows_completed : HasRows held slots listing number image relation nodes
      → HasRows held slots (completed listing) number image relation nodes
  rows_completed = rows_alike {a = listing} {b = completed listing} (λ n. sym (prefix_mended n listing.links))

  pub rows_listed : HasRows held slots (completed listing) number image relation nodes
      → HasRows held slots listing number image relation nodes
  rows_listed = rows_alike {a = completed listing} {b = listing} (λ n. prefix_mended n listing.links)

-- ---- chains

block_completed : (listing : Listing) (number relation : ℕ) → block_at (completed listing) number relation ≡ block_at listing number relation
block_completed listing number relation =
    ap (λ (links : List (Option LinkEntry)). 1 + prefix_size links relation) (take-map (option_map mended) (number - 1) listing.links)
    ∙ ap (λ (n : ℕ). 1 + n) (prefix_mended relation (take (number - 1) listing.links))

chains_completed : (listing : Listing) (number : ℕ) (link : LinkEntry) → chains_of (completed listing) number link ≡ chains_of listing number link
chains_completed listing number link = λ i. record {
  link = number;
  unary = negated (is_some link.parent);
  parent_segment = of_parents (segment_of listing) link.parent;
  child_segment = segment_of listing link.child;
  parent_at = of_parents (λ relation. block_completed listing number relation i) link.parent;
  child_at = block_completed listing number link.child i;
}

lists_by : {a b : Listing} {held : Held} {number : ℕ} {link : LinkEntry} → chains_of a number link ≡ chains_of b number link
    → HasLists held a number link → HasLists held b number link
lists_by {held = held} {link = link} same has = record {
  lists = has.lists;
  spells = subst (λ (c : Chains). SpellChains c (listed_ends link) (bodies_of held)
      (linkage_of c (relations_of link) (bodies_of held) has.lists)) same has.spells;
  no_ends = has.no_ends;
}

module _ (listing : Listing) {held : Held} {number : ℕ} {link : LinkEntry} where
  pub lists_completed : HasLists held listing number link → HasLists held (completed listing) number link
  lists_completed = lists_by {a = listing} {b = completed listing} (sym (chains_completed listing number link))

  pub lists_listed : HasLists held (completed listing) number link → HasLists held listing number link
  lists_listed = lists_by {a = completed listing} {b = listing} (chains_completed listing number link)
