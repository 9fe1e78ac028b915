-- A pair is put into an image.
use Rattle.std.proofs.Common.{◌≡◌, ◌≢◌, ◌<◌, true, zero, drop, ◌≤◌, ◌+◌, ◌-◌, ℕ, suc, List, [], ◌∷◌, ◌++◌, length, refl, ap, sym, subst, ◌∙◌, arith, Some}
use Rattle.std.proofs.lemmas.List.{append-nil, length-map, drop-drop, length-append}
use Rattle.rss_base.specs.Paged.{Held}
use Rattle.rss_base.specs.Steps.{PagesView}
use Rattle.rss_base.specs.Entries.{Entry}
use Rattle.rss_base.specs.Nodes.{node_most}
use Rattle.rss_levels.specs.Entries.{Each, Pairwise, zeros}
use Rattle.rss_levels.specs.Rows.{Part, Row, IsTree, AreDistinct, name, names, pages}
use Rattle.rss_levels.specs.Spots.{IsOwn, LosesNone, Inserts, AreMade, with_pair}
use Rattle.rss_levels.proofs.Pages.{IsHeld, own_back, keeps_then, loses_both, stack_held}
use Rattle.rss_levels.proofs.Counts.{tree_pages, TreeRoom, tree_room, tree_levels}
use Rattle.rss_levels.proofs.Once.{AreSame, tree_one}
use Rattle.rss_levels.proofs.Made.{made_names}
use Rattle.rss_levels.proofs.Lists.{each_left}
use Rattle.rss_levels.specs.Spots.{IsMade}
use Rattle.std.specs.Prelude.{replicate}
use Rattle.std.specs.Int.{w16, from_be_bytes, to_be_bytes}
use Rattle.std.proofs.lemmas.Nat.{from_be_bytes-to_be_bytes_2}
use Rattle.rss_base.specs.LogRecords.{tid_bytes}
use Rattle.rss_base.specs.declared.tid.Tid.{Tid}
use Rattle.rss_node.specs.Pairs.{pair_bytes}
use Rattle.std.specs.Ordering.{nat_cmp, is_lt}
use Rattle.std.specs.Cmp.{nat_cmp_is}
use Rattle.std.specs.declared.cmp.Ordering.TheVariants.{Less}
use Rattle.rss_base.specs.Sizes.{page_entries}
use Rattle.rss_image.proofs.Insertion.{same_node}
use Rattle.rss_node.specs.Nodes.{NodeView}
use Rattle.rss_levels.proofs.Trees.{root_spot, tree_whole, tree_split}
use Rattle.rss_node.specs.declared.pair.Nodes.{Nodes}
use Rattle.rss_image.specs.Trees.{cells_of, spells, KeepsPages, LosesNoPage}
use Rattle.rss_image.specs.Images.{nodes_of, has_slot, ImageTree, pages_of, Rooted, Becomes, MayPut, HasSpare, HasFewPages, HasFewLevels, SpellOne}
use Rattle.rss_image.specs.Inserted.{MayInsert, ImageSpot}
use Rattle.rss_image.specs.declared.image.Image.{Image}

abbrev pub spot_of : (image : Image) (held : Held) (pair : List ℕ) (pairs : List (List ℕ)) (tree : ImageTree image held pairs) → length pair ≡ image.width + 6 → ImageSpot (nodes_of image) held (image.levels - 1) image.root pair pairs
spot_of image held pair pairs tree long = root_spot (spells (nodes_of image)) (cells_of (nodes_of image) held) image.width image.root image.levels pair pairs tree.top tree.lower tree.tree long

-- there is room for one more pair
pub has_room : (image : Image) (view : PagesView) (pairs : List (List ℕ)) (tree : ImageTree image view.held pairs) → 31 ≤ node_most image.width → HasSpare image view → TreeRoom image.width view.spare ((tree.top ∷ []) ∷ tree.lower)
has_room image view pairs tree many spare =
    tree_room (spells (nodes_of image)) (cells_of (nodes_of image) view.held) image.width image.root image.levels pairs tree.top tree.lower tree.tree (omega arith) view.spare (spare pairs tree)

pub may_insert : (image : Image) (view : PagesView) (pair : List ℕ) → length pair ≡ image.width + 6 → 31 ≤ node_most image.width → MayPut image view.held pair → HasSpare image view → MayInsert (nodes_of image) view.held view.spare (image.levels - 1) image.root pair
may_insert image view pair long many may spare = record {
  pairs = may.pairs;
  spot = spot_of image view.held pair may.pairs may.tree long;
  absent = may.absent;
  room = (has_room image view may.pairs may.tree many spare).rows_room;
}

-- what `still_counted` says of the pages before a call and after it
abbrev pub StillCounted : Nodes → PagesView → PagesView → List ℕ → Type 0
StillCounted of old new own = (now : List ℕ) → Pairwise (λ a b. a ≢ b) now → Each (IsHeld (cells_of of new.held)) now → Each (IsOwn own (cells_of of old.held)) now → KeepsPages of own old new → LosesNoPage of own now old new → new.spare + length now ≡ old.spare + length own

-- zeros are those of an entry
pub zeros_slot : (width : ℕ) → has_slot width (zeros width) ≡ true
zeros_slot width =
    let four : width + 4 ≡ suc (suc (suc (suc width))) = omega arith in
    let six : width + 6 ≡ suc (suc (suc (suc (suc (suc width))))) = omega arith in
    let tail : drop {A = ℕ} (width + 4) (replicate (width + 6) 0) ≡ replicate 2 0 = (λ i. drop {A = ℕ} (four i) (replicate (six i) 0)) ∙ behind width in
    ap (λ (l : List ℕ). is_lt (nat_cmp (from_be_bytes w16 l) page_entries)) tail
  where
    behind : (n : ℕ) → drop {A = ℕ} n (replicate (suc (suc n)) 0) ≡ replicate 2 0
    behind zero = refl
    behind (suc n) = behind n

pub long_pair : (width : ℕ) (key : List ℕ) (tid : Tid) (pair : List ℕ) → pair ≡ pair_bytes key tid → length key ≡ width → length pair ≡ width + 6
long_pair width key tid pair is long = ap length is ∙ length-append key (tid_bytes tid) ∙ ap (λ (n : ℕ). n + 6) long

-- an identifier's own bytes name its entry
pub slot_pair : (width : ℕ) (key : List ℕ) (tid : Tid) (pair : List ℕ) → pair ≡ pair_bytes key tid → length key ≡ width → tid.slot < page_entries → has_slot width pair ≡ true
slot_pair width key tid pair is long low =
    let cut : drop (width + 4) pair ≡ to_be_bytes w16 tid.slot =
    ap (drop (width + 4)) is
    ∙ ap (λ (n : ℕ). drop (n + 4) (key ++ tid_bytes tid)) (sym long)
    ∙ sym (drop-drop 4 (length key) (key ++ tid_bytes tid))
    ∙ ap (drop 4) (drop_front key (tid_bytes tid)) in
    let slot : from_be_bytes w16 (drop (width + 4) pair) ≡ tid.slot = ap (from_be_bytes w16) cut ∙ from_be_bytes-to_be_bytes_2 tid.slot (omega (arith, low)) in
    ap (λ (n : ℕ). is_lt (nat_cmp n page_entries)) slot ∙ lt_is tid.slot page_entries low
  where
    drop_front : (xs ys : List ℕ) → drop (length xs) (xs ++ ys) ≡ ys
    drop_front [] ys = refl
    drop_front (x ∷ xs) ys = drop_front xs ys

    lt_is : (n m : ℕ) → n < m → is_lt (nat_cmp n m) ≡ true
    lt_is n m lt = ap is_lt (sym (nat_cmp_is n m Less lt))

pub no_extra : (extra : Row) → names extra ≡ [] → extra ≡ []
no_extra [] is = refl
no_extra (p ∷ extra) is = absurd (cc)

module _ (image : Image) (old : PagesView) (pair : List ℕ) (pairs : List (List ℕ)) (tree : ImageTree image old.held pairs) (long : length pair ≡ image.width + 6) (many : 31 ≤ node_most image.width) (slot : has_slot image.width pair ≡ true) where
  pub became_whole : (new : PagesView) → Inserts (spot_of image old.held pair pairs tree long) (cells_of (nodes_of image) new.held) [] → StillCounted (nodes_of image) old new (pages_of tree) → Becomes image image old new (pages_of tree) (with_pair pair pairs)
  became_whole new ins counted =
      let row : ins.head ∷ (ins.extra ++ []) ≡ ins.head ∷ [] = ap (λ (r : Row). ins.head ∷ r) (append-nil ins.extra ∙ no_extra ins.extra ins.names_are) in
      let cells = cells_of (nodes_of image) new.held in
      let own_now : Each (IsOwn (pages_of tree) (cells_of (nodes_of image) old.held)) (pages ((ins.head ∷ []) ∷ ins.rest)) = subst (λ (r : Row). Each (IsOwn (pages_of tree) (cells_of (nodes_of image) old.held)) (pages (r ∷ ins.rest))) row ins.own in
      let loses : LosesNone (pages_of tree) (pages ((ins.head ∷ []) ∷ ins.rest)) (cells_of (nodes_of image) old.held) cells = subst (λ (r : Row). LosesNone (pages_of tree) (pages (r ∷ ins.rest)) (cells_of (nodes_of image) old.held) cells) row ins.loses_none in
      let distinct = subst (λ (r : Row). AreDistinct (r ∷ ins.rest)) row ins.distinct_now in
      let held = subst (λ (r : Row). Each (IsHeld cells) (pages (r ∷ ins.rest))) row (stack_held (spells (nodes_of image)) image.width cells (with_pair pair pairs) (ins.head ∷ (ins.extra ++ [])) ins.rest ins.stack_now) in
      let made = subst (λ (r : Row). AreMade (has_slot image.width) (r ∷ ins.rest)) row (ins.made (has_slot image.width) slot tree.made) in
      record {
        tree = record { top = ins.head; lower = ins.rest; tree = tree_whole (spells (nodes_of image)) (cells_of (nodes_of image) old.held) image.width image.root image.levels pair pairs tree.top tree.lower tree.tree long (omega arith) (cells_of (nodes_of image) new.held) ins; made = made };
        own_pages = own_now;
        keeps = ins.keeps;
        loses_none = loses;
        spare = counted (pages ((ins.head ∷ []) ∷ ins.rest)) distinct held own_now ins.keeps loses;
      }

  pub became_split : (mid new : PagesView) (e : Entry) (number : ℕ) → Inserts (spot_of image old.held pair pairs tree long) (cells_of (nodes_of image) mid.held) (e ∷ []) → Rooted (nodes_of image) image.levels image.root e number mid new
      → StillCounted (nodes_of image) old new (pages_of tree) → Becomes image (record image { root = number; levels = image.levels + 1 }) old new (pages_of tree) (with_pair pair pairs)
  became_split mid new e number ins rooted counted =
      let of : Nodes = nodes_of image in
      let top : Part = record { number = number; low = zeros image.width; items = record { pair = zeros image.width; child = image.root } ∷ e ∷ [] } in
      let row : Row = ins.head ∷ (ins.extra ++ []) in
      let tree_made = tree_split (spells of) (cells_of of old.held) image.width image.root image.levels pair pairs tree.top tree.lower tree.tree long (omega arith) (cells_of of mid.held) (cells_of of new.held) e ins number rooted.held rooted.fresh rooted.keeps (omega arith) in
      let height : suc image.levels ≡ image.levels + 1 = omega arith in
      let now_pages : List ℕ = number ∷ pages (row ∷ ins.rest) in
      let own_now : Each (IsOwn (pages_of tree) (cells_of of old.held)) now_pages = (own_back (pages_of tree) (cells_of of old.held) (cells_of of mid.held) ins.keeps number rooted.fresh, ins.own) in
      let keeps = keeps_then (pages_of tree) [] (pages_of tree) (cells_of of old.held) (cells_of of mid.held) (cells_of of new.held) (λ n is. is) (λ n is. absurd is) ins.keeps rooted.keeps in
      let loses = loses_both (pages_of tree) (pages (row ∷ ins.rest)) [] (number ∷ []) (cells_of of old.held) (cells_of of mid.held) (cells_of of new.held) ins.loses_none rooted.loses_none in
      let rows_made = ins.made (has_slot image.width) slot tree.made in
      let named = made_names (has_slot image.width) ins.extra (each_left (IsMade (has_slot image.width)) ins.extra [] rows_made.0.1) in
      let entry_made : has_slot image.width e.pair ≡ true = (subst (Each (λ x. has_slot image.width x.pair ≡ true)) ins.names_are named).0 in
      let made : AreMade (has_slot image.width) ((top ∷ []) ∷ row ∷ ins.rest) = (((zeros_slot image.width, (zeros_slot image.width, (entry_made, tt))), tt), rows_made) in
      record {
        tree = record { top = top; lower = row ∷ ins.rest; tree = subst (λ (n : ℕ). IsTree (spells of) (cells_of of new.held) image.width number n (with_pair pair pairs) top (row ∷ ins.rest)) height tree_made; made = made };
        own_pages = own_now;
        keeps = keeps;
        loses_none = loses;
        spare = counted (number ∷ pages (row ∷ ins.rest)) tree_made.distinct (stack_held (spells of) image.width (cells_of of new.held) (with_pair pair pairs) (top ∷ []) (row ∷ ins.rest) tree_made.stack) own_now keeps loses;
      }

-- a new root has room, where the old one was split
pub root_room : (image : Image) (old : PagesView) (pair : List ℕ) (pairs : List (List ℕ)) (tree : ImageTree image old.held pairs) (long : length pair ≡ image.width + 6) → 31 ≤ node_most image.width → HasSpare image old → (mid : PagesView) (e : Entry) → Inserts (spot_of image old.held pair pairs tree long) (cells_of (nodes_of image) mid.held) (e ∷ []) → image.levels + 1 ≤ old.spare
root_room image old pair pairs tree long many spare mid e ins =
    let room = has_room image old pairs tree many spare in
    let more : 1 ≡ length ins.extra = sym (ap (λ (l : List Entry). length l) ins.names_are) ∙ length-map ins.extra name in
    let all = room.root_room (ins.full_rows (omega (arith, more))) in
    omega (arith, all, tree.tree.high)

pub few_pages : (image : Image) (held : Held) → 31 ≤ node_most image.width → HasFewPages image held
few_pages image held many pairs tree = tree_pages (spells (nodes_of image)) (cells_of (nodes_of image) held) image.width image.root image.levels pairs tree.top tree.lower tree.tree (omega arith)

pub few_levels : (image : Image) (held : Held) → 31 ≤ node_most image.width → HasFewLevels image held
few_levels image held many pairs tree few = tree_levels (spells (nodes_of image)) (cells_of (nodes_of image) held) image.width image.root image.levels pairs tree.top tree.lower tree.tree (omega arith) (omega (arith, few))

-- the pages spell one tree
pub same_rows : (image : Image) (held : Held) (pairs others : List (List ℕ)) (top other : Part) (lower rest : List Row) → IsTree (spells (nodes_of image)) (cells_of (nodes_of image) held) image.width image.root image.levels pairs top lower → IsTree (spells (nodes_of image)) (cells_of (nodes_of image) held) image.width image.root image.levels others other rest
    → AreSame ((top ∷ []) ∷ lower) ((other ∷ []) ∷ rest) pairs others
same_rows image held pairs others top other lower rest =
    tree_one (spells (nodes_of image)) (cells_of (nodes_of image) held) image.width (λ bytes level number next after es ds one two. ap (λ (n : NodeView). n.entries) (same_node (nodes_of image) (λ n. Some bytes) level number next after es ds (record { bytes = bytes; held = refl; spells = one }) (record { bytes = bytes; held = refl; spells = two }))) image.root image.levels pairs others top other lower rest

-- and one list
pub spell_one : (image : Image) (held : Held) → SpellOne image held
spell_one image held pairs others tree other =
    let same = same_rows image held pairs others tree.top other.top tree.lower other.lower tree.tree other.tree in
    record { pairs_are = same.pairs_are; pages_are = ap pages same.rows_are }
