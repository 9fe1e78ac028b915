-- The marks that checks of images leave, row by row.
use Rattle.std.proofs.Common.{◌≡◌, inl, inr, ⊎_elim, ℕ, zero, suc, ◌+◌, ◌-◌, ◌*◌, ◌/◌, ◌%◌, ◌<◌, ◌≤◌, true, List, [], ◌∷◌, ◌++◌, length, get_or, set, replicate, refl, sym, ◌∙◌, ap, subst, arith}
use Rattle.std.specs.Prelude.{Some, None, is_some, map as list_map, Contains}
use Rattle.std.specs.Global.{Vec}
use Rattle.std.specs.Int.{bit_at}
use Rattle.std.specs.Vec.{with_items}
use Rattle.std.proofs.lemmas.Bool.{cases_eq, cases_lt}
use Rattle.std.proofs.lemmas.List.{length-map, length-set, length-replicate, with_items_is, get_or-map, map-set, map_push, get_or-set_same, get_or-set_other, get_or-replicate, get_or_past, replicate_more}
use Rattle.std.proofs.lemmas.Nat.Bits.{bit_at-zero}
use Rattle.std.proofs.lemmas.Option.{none-some}
use Rattle.rss_base.specs.Listings.{Listing, segment_at, image_at}
use Rattle.rss_base.specs.PageMap.{IsKey, IsSegmentOf}
use Rattle.rss_base.specs.Paged.{Held, Mapped, page_key, IsMappedAt, IsFirstFrom, NoneFrom}
use Rattle.rss_base.specs.Sizes.{segments}
use Rattle.rss_base.specs.declared.image.ImageEntry.{ImageEntry}
use Rattle.rss_base.specs.declared.relation.RelationEntry.{RelationEntry}
use Rattle.rss_base.specs.declared.key.PageKey.{PageKey}
use Rattle.rss_base.specs.declared.key.Space.{Space}
use Rattle.rss_base.specs.declared.key.Space.TheVariants.{Image as ImageSpace}
use Rattle.rss_image.specs.Marks.{IsMarked, MarksAll}
use Rattle.rss_entries.proofs.Kept.{image_node}
use Rattle.rss_entries.proofs.Showing.{same_entry, at_same}
use Rattle.rss_entries.proofs.Standing.{contained, containing}
use Rattle.rss_stored.specs.Store.{IsListedImage}
use Rattle.rss_stored.proofs.ImagePages.{image_once}
use Rattle.rss_access.specs.Changes.{AccessView}
use Rattle.rss_access.specs.Rows.{HasRows, HasRowsIn}
use Rattle.rss_check.specs.Marks.{row_of, AreZeros, AreRows, AreBlank, KeepsRows, AreMarked, AreOwnMarks, IsUnmarkedIn, IsUnmarked, IsFirstUnmarked}
use Rattle.rss_check.specs.Rows.{HasSomeRows, IsUsed}
use Rattle.rss_check.proofs.Orders.{image_before}

abbrev items_of : Vec ℕ → List ℕ
items_of row = row.items

-- ---- a row that is read, and one that is written

pub row_there : (rows : List (Vec ℕ)) (segment : ℕ) (other : Vec ℕ) → 1 ≤ segment → segment ≤ length rows
    → row_of rows segment ≡ (get_or rows (segment - 1) other).items
row_there rows zero other low high = absurd (omega (arith, low))
row_there rows (suc place) other low high =
    let at : place ≡ suc place - 1 = omega arith in
    get_or-map items_of rows place other [] (omega (arith, high)) ∙ ap (λ (i : ℕ). (get_or rows i other).items) at

-- the words of a row that is read
pub row_lent : (rows : List (Vec ℕ)) (segment : ℕ) {place : ℕ} (other : Vec ℕ) {lent : List ℕ} → 1 ≤ segment
    → segment ≤ length rows → place ≡ segment - 1
    → other ≡ get_or rows place other → lent ≡ other.items → lent ≡ row_of rows segment
row_lent rows segment {place} other low high at read is =
    is ∙ ap (λ (row : Vec ℕ). row.items) read ∙ ap (λ (i : ℕ). (get_or rows i other).items) at
    ∙ sym (row_there rows segment other low high)

pub row_set : (rows : List (Vec ℕ)) (segment : ℕ) (row : Vec ℕ) → 1 ≤ segment → segment ≤ length rows
    → row_of (set rows (segment - 1) row) segment ≡ row.items
row_set rows zero row low high = absurd (omega (arith, low))
row_set rows (suc place) row low high =
    let at : suc place - 1 ≡ place = omega arith in
    ap (λ (i : ℕ). row_of (set rows i row) (suc place)) at
    ∙ ap (λ (l : List (List ℕ)). get_or l place []) (map-set items_of rows place row)
    ∙ get_or-set_same (list_map items_of rows) place row.items [] (omega (arith, high, length-map rows items_of))

pub row_off : (rows : List (Vec ℕ)) (segment other : ℕ) (row : Vec ℕ) → 1 ≤ segment → (other ≡ segment → ⊥)
    → row_of (set rows (segment - 1) row) other ≡ row_of rows other
row_off rows segment zero row low off = refl
row_off rows segment (suc place) row low off =
    ap (λ (l : List (List ℕ)). get_or l place []) (map-set items_of rows (segment - 1) row)
    ∙ get_or-set_other (list_map items_of rows) (segment - 1) place row.items []
    (λ same. off (omega (arith, same, low)))

-- a row is put in place of one with as many words
pub keeps_set : (rows : List (Vec ℕ)) (segment : ℕ) (row : Vec ℕ) → 1 ≤ segment → segment ≤ length rows
    → length row.items ≡ length (row_of rows segment) → KeepsRows segment rows (set rows (segment - 1) row)
keeps_set rows segment row low high long = record {
  rows = length-set rows (segment - 1) row;
  words = ap (λ (l : List ℕ). length l) (row_set rows segment row low high) ∙ long;
  off = λ other off. row_off rows segment other row low off;
}

-- the words that were lent are those of the row again
pub row_written : {count number : ℕ} {at : AccessView} {image : ImageEntry} {relation : RelationEntry} (row : Vec ℕ)
    {lent marks : List ℕ} → lent ≡ row.items
    → HasRowsIn count lent marks at number image relation
    → HasRowsIn count row.items (with_items row marks).items at number image relation
row_written {count} {number} {at} {image} {relation} row {lent} {marks} is has =
    let long : length marks ≡ row.len = has.marked.only.size ∙ ap (λ (l : List ℕ). length l) is ∙ sym row.ok.0 in
    subst (λ (l : List ℕ). HasRowsIn count l (with_items row marks).items at number image relation) is
    (subst (λ (l : List ℕ). HasRowsIn count lent l at number image relation) (sym (with_items_is row marks long)) has)

pub row_size : (row : Vec ℕ) (marks : List ℕ) → length (with_items row marks).items ≡ length row.items
row_size row marks = sym (with_items row marks).ok.0 ∙ row.ok.0

-- the row of a segment was changed
module _ (rows : List (Vec ℕ)) (segment : ℕ) {place : ℕ} (old : Vec ℕ) (low : 1 ≤ segment)
    (high : segment ≤ length rows) (at_place : place ≡ segment - 1) (read : old ≡ get_or rows place old) where
  row_read : row_of rows segment ≡ old.items
  row_read =
      row_there rows segment old low high ∙ ap (λ (i : ℕ). (get_or rows i old).items) (sym at_place)
      ∙ ap (λ (row : Vec ℕ). row.items) (sym read)

  pub keeps_at : (new : Vec ℕ) → length new.items ≡ length old.items → KeepsRows segment rows (set rows place new)
  keeps_at new long = subst (λ (i : ℕ). KeepsRows segment rows (set rows i new)) (sym at_place)
      (keeps_set rows segment new low high (long ∙ ap (λ (l : List ℕ). length l) (sym row_read)))

  pub marks_at : {count number : ℕ} {at : AccessView} {image : ImageEntry} {relation : RelationEntry} (new : Vec ℕ)
      → HasRowsIn count old.items new.items at number image relation
      → HasRowsIn count (row_of rows segment) (row_of (set rows place new) segment) at number image relation
  marks_at {count} {number} {at} {image} {relation} new has =
      let written : row_of (set rows place new) segment ≡ new.items = ap (λ (i : ℕ). row_of
      (set rows i new) segment) at_place ∙ row_set rows segment new low high in
      subst (λ (l : List ℕ). HasRowsIn count l (row_of (set rows place new) segment) at number image relation)
      (sym row_read)
      (subst (λ (l : List ℕ). HasRowsIn count old.items l at number image relation) (sym written) has)

-- ---- rows without marks

unset : (row : List ℕ) (page : ℕ) → get_or row (page / 64) 0 ≡ 0 → IsMarked row page → ⊥
unset row page none marked =
    let bit : 0 ≡ 1 = sym (ap (λ (n : ℕ). bit_at n (page % 64)) none ∙ bit_at-zero (page % 64)) ∙ marked in
    omega (arith, bit)

pub none_set : (page : ℕ) → IsMarked [] page → ⊥
none_set page marked = unset [] page (get_or_past [] (page / 64) 0 (omega arith)) marked

zeros_unset : (words page : ℕ) → IsMarked (replicate words 0) page → ⊥
zeros_unset words page marked = unset (replicate words 0) page (elim (cases_lt (page / 64) words) [
  | inl low ↦ get_or-replicate words (page / 64) 0 0 low
  | inr past ↦ get_or_past (replicate words 0) (page / 64) 0 (omega (arith, past, length-replicate {A = ℕ} words 0))
]) marked

pub zeros_none : (words : ℕ) → AreZeros 0 words []
zeros_none words = refl

pub zeros_more : (count words : ℕ) (rows : List (Vec ℕ)) (row : Vec ℕ) → AreZeros count words rows
    → row.items ≡ replicate words 0
    → AreZeros (count + 1) words (rows ++ row ∷ [])
zeros_more count words rows row zeros is =
    map_push items_of rows row ∙ (λ i. zeros i ++ is i ∷ []) ∙ replicate_more count (replicate {A = ℕ} words 0)

pub zeros_long : (count words : ℕ) (rows : List (Vec ℕ)) → AreZeros count words rows → length rows ≡ count
zeros_long count words rows zeros =
    sym (length-map rows items_of) ∙ ap (λ (l : List (List ℕ)). length l) zeros
    ∙ length-replicate {A = List ℕ} count (replicate words 0)

zero_row : (words : ℕ) (rows : List (Vec ℕ)) → AreZeros segments words rows → (place : ℕ) → place < segments
    → row_of rows (suc place) ≡ replicate words 0
zero_row words rows zeros place low =
    ap (λ (l : List (List ℕ)). get_or l place []) zeros ∙ get_or-replicate segments place (replicate words 0) [] low

pub zeros_rows : {slots : ℕ} (words : ℕ) {rows : List (Vec ℕ)} → slots ≤ 64 * words → AreZeros segments words rows
    → AreRows slots rows
zeros_rows {slots} words {rows} room zeros = record {
  eight = zeros_long segments words rows zeros;
  wide = wide;
}
  where
    wide : (segment : ℕ) → 1 ≤ segment → segment ≤ segments → slots ≤ 64 * length (row_of rows segment)
    wide zero low high = absurd (omega (arith, low))
    wide (suc place) low high =
        omega (
          arith,
          room,
          ap (λ (l : List ℕ). length l)
              (zero_row words rows zeros place (omega (arith, high))),
          length-replicate {A = ℕ} words 0,
        )

pub zeros_blank : (words : ℕ) (rows : List (Vec ℕ)) → AreZeros segments words rows → AreBlank rows
zeros_blank words rows zeros zero page marked = none_set page marked
zeros_blank words rows zeros (suc place) page marked = elim (cases_lt place segments) [
  | inl low ↦ zeros_unset words page
      (subst (λ (r : List ℕ). IsMarked r page) (zero_row words rows zeros place low) marked)
  | inr past ↦ none_set page (subst (λ (r : List ℕ). IsMarked r page)
      (get_or_past (list_map items_of rows) place []
      (omega (arith, past, zeros_long segments words rows zeros, length-map rows items_of))) marked)
]

-- ---- one row that changed

pub rows_more : {slots segment : ℕ} {old new : List (Vec ℕ)} → AreRows slots old → KeepsRows segment old new
    → AreRows slots new
rows_more {slots} {segment} {old} {new} so keeps = record {
  eight = keeps.rows ∙ so.eight;
  wide = λ other low high. elim (cases_eq other segment) [
    | inl here ↦ omega (
      arith,
      so.wide other low high,
      ap (λ (s : ℕ). length (row_of new s)) here,
      keeps.words,
      ap (λ
          (s : ℕ). length (row_of old s)) here,
    )
    | inr off ↦ omega (arith, so.wide other low high, ap (λ (l : List ℕ). length l) (keeps.off other off))
  ];
}

pub own_none : (rows : List (Vec ℕ)) (listing : Listing) → AreBlank rows → AreOwnMarks listing rows
own_none rows listing blank segment page marked = absurd (blank segment page marked)

pub own_more : (listing : Listing) {segment : ℕ} {old new : List (Vec ℕ)} → is_some (segment_at listing segment) ≡ true
    → AreOwnMarks listing old → KeepsRows segment old new → AreOwnMarks listing new
own_more listing {segment} there own keeps other page marked = elim (cases_eq other segment) [
  | inl here ↦ ap (λ (s : ℕ). is_some (segment_at listing s)) here ∙ there
  | inr off ↦ own other page (subst (λ (r : List ℕ). IsMarked r page) (keeps.off other off) marked)
]

-- ---- one image after another

-- none has the number 0
none_zero : (listing : Listing) (number : ℕ) (image : ImageEntry) → number ≤ 0 → image_at listing number ≡ Some image
    → ⊥
none_zero listing zero image low is = none-some image is
none_zero listing (suc number) image low is = omega (arith, low)

module _ {held : Held} {slots : ℕ} {listing : Listing} where
  pub marked_none : {rows : List (Vec ℕ)} → AreBlank rows → AreMarked 0 held slots listing rows
  marked_none blank = record {
    each = λ number image relation low listed. absurd (none_zero listing number image low listed.at);
    all = λ number image relation nodes page low listed has among. absurd (none_zero listing number image low listed.at);
    used = λ segment page marked. absurd (blank segment page marked);
  }

  -- a number that has no image
  pub marked_past : {most : ℕ} {rows : List (Vec ℕ)} → image_at listing (most + 1) ≡ None
      → AreMarked most held slots listing rows
      → AreMarked (most + 1) held slots listing rows
  marked_past {most} none so = record {
    each = λ number image relation low listed. so.each number image relation (before number image low listed.at) listed;
    all = λ number image relation nodes page low listed has among. so.all number image relation nodes page
        (before number image low listed.at) listed has among;
    used = so.used;
  }
    where
      before : (number : ℕ) (image : ImageEntry) → number ≤ most + 1 → image_at listing number ≡ Some image
          → number ≤ most
      before number image low is = elim (cases_eq number (most + 1)) [
        | inl here ↦ absurd (none-some image (sym none ∙ ap (image_at listing) (sym here) ∙ is))
        | inr other ↦ omega (arith, low, other)
      ]

  -- an image's pages have numbers below the slots
  pub pages_low : ((key : PageKey) → is_some (held key) ≡ true → IsKey slots key)
      → {number : ℕ} {image : ImageEntry} {relation : RelationEntry} {nodes : List ℕ}
      → HasRows held slots listing number image relation nodes
      → (page : ℕ) → Contains nodes page → page < slots
  pages_low allowed {relation = relation} {nodes = nodes} rows page among =
      let node = image_node rows.tree page (contained nodes page among) in
      (allowed (page_key relation.segment ImageSpace page) (ap is_some node.at.there)).number

  module _ {most : ℕ} {old new : List (Vec ℕ)} (so : AreMarked most held slots listing old) {image : ImageEntry}
      {relation : RelationEntry}
      (listed : IsListedImage listing (most + 1) image relation) {nodes : List ℕ}
      (rows : HasRows held slots listing (most + 1) image relation nodes)
      (marks : MarksAll nodes (row_of old relation.segment) (row_of new relation.segment))
      (keeps : KeepsRows relation.segment old new)
      (low : (page : ℕ) → Contains nodes page → page < 64 * length (row_of old relation.segment)) where
    -- what was marked still is
    still : (segment page : ℕ) → IsMarked (row_of old segment) page → IsMarked (row_of new segment) page
    still segment page marked = elim (cases_eq segment relation.segment) [
      | inl here ↦ subst (λ (s : ℕ). IsMarked (row_of new s) page) (sym here)
          (marks.only.kept page (subst (λ (s : ℕ). IsMarked (row_of old s) page) here marked))
      | inr other ↦ subst (λ (r : List ℕ). IsMarked r page) (sym (keeps.off segment other)) marked
    ]

    used_here : (page : ℕ) → Contains nodes page → IsUsed held slots listing (page_key relation.segment ImageSpace page)
    used_here page among = record {
      number = most + 1;
      image = image;
      relation = relation;
      nodes = nodes;
      listed = listed;
      rows = rows;
      segment = refl;
      among = among;
    }

    used_now : (segment page : ℕ) → IsMarked (row_of new segment) page
        → IsUsed held slots listing (page_key segment ImageSpace page)
    used_now segment page marked = elim (cases_eq segment relation.segment) [
      | inl here ↦ subst (λ (s : ℕ). IsUsed held slots listing (page_key s ImageSpace page)) (sym here)
          (⊎_elim (λ was. so.used relation.segment page was) (λ mine. used_here page (containing nodes page mine))
          (marks.only.only page (subst (λ (s : ℕ). IsMarked (row_of new s) page) here marked)))
      | inr other ↦ so.used segment page (subst (λ (r : List ℕ). IsMarked r page) (keeps.off segment other) marked)
    ]

    pub marked_more : AreMarked (most + 1) held slots listing new
    marked_more = record {
      each = λ number other its few is. elim (cases_eq number (most + 1)) [
        | inl here ↦ at_same (λ n e r. HasSomeRows held slots listing n e r) (sym here)
            (same_entry listed is (sym here)) (record { nodes = nodes; rows = rows })
        | inr before ↦ so.each number other its (omega (arith, few, before)) is
      ];
      all = λ number other its ns page few is has among. elim (cases_eq number (most + 1)) [
        | inl here ↦
            let entry = same_entry is listed here in
            let has_here : HasRows held slots listing (most + 1) image relation ns = at_same
            (λ n e r. HasRows held slots listing n e r ns) here entry has in
            let mine : Contains nodes page = subst (λ (l : List ℕ). Contains l page)
            (image_once has_here.tree rows.tree) among in
            subst (λ (r : RelationEntry). IsMarked (row_of new r.segment) page) (sym entry.relation)
            (marks.all page (contained nodes page mine) (low page mine))
        | inr before ↦ still its.segment page
            (so.all number other its ns page (omega (arith, few, before)) is has among)
      ];
      used = used_now;
    }

-- ---- pages that aren't marked

-- a page of images that may be is one of these segments
image_segment : {slots : ℕ} (key : PageKey) → key.space ≡ ImageSpace → IsKey slots key
    → (1 ≤ key.segment) × (key.segment ≤ segments)
image_segment key space may = subst (λ (s : Space). IsSegmentOf s key.segment) space may.segment

module _ {mapped : Mapped} {segment from : ℕ} {row : List ℕ}
    (before : (k : ℕ) → k < from → IsUnmarkedIn mapped segment row k → ⊥) where
  -- the next page is marked
  pub marked_next : {number : ℕ} → IsFirstFrom (IsMappedAt mapped segment ImageSpace) from number → IsMarked row number
      → (k : ℕ) → k < number + 1 → IsUnmarkedIn mapped segment row k → ⊥
  marked_next {number} next marked k low is = elim (cases_lt k from) [
    | inl early ↦ before k early is
    | inr late ↦ elim (cases_eq k number) [
      | inl here ↦ is.unmarked (subst (IsMarked row) (sym here) marked)
      | inr other ↦ next.none_before k late (omega (arith, low, other)) is.there
    ]
  ]

  -- it isn't
  pub unmarked_next : {number : ℕ} → IsFirstFrom (IsMappedAt mapped segment ImageSpace) from number
      → (IsMarked row number → ⊥)
      → IsFirstFrom (IsUnmarkedIn mapped segment row) 0 number
  unmarked_next {number} next unmarked = record {
    later = omega arith;
    has = record { there = next.has; unmarked = unmarked };
    none_before = λ k some low is. elim (cases_lt k from) [
      | inl early ↦ before k early is
      | inr late ↦ next.none_before k late low is.there
    ];
  }

  -- there is no next page
  pub none_next : NoneFrom (IsMappedAt mapped segment ImageSpace) from → NoneFrom (IsUnmarkedIn mapped segment row) 0
  none_next none k some is = elim (cases_lt k from) [
    | inl early ↦ before k early is
    | inr late ↦ none k late is.there
  ]

-- one segment more has none
pub segments_more : {mapped : Mapped} (rows : List (Vec ℕ)) (segment : ℕ) {row : List ℕ}
    → ((s : ℕ) → 1 ≤ s → s < segment → NoneFrom (IsUnmarkedIn mapped s (row_of rows s)) 0)
    → row ≡ row_of rows segment → NoneFrom (IsUnmarkedIn mapped segment row) 0
    → (s : ℕ) → 1 ≤ s → s < segment + 1 → NoneFrom (IsUnmarkedIn mapped s (row_of rows s)) 0
segments_more {mapped} rows segment {row} before same here s low less = elim (cases_eq s segment) [
  | inl at ↦ subst (λ (n : ℕ). NoneFrom (IsUnmarkedIn mapped n (row_of rows n)) 0) (sym at)
      (subst (λ (r : List ℕ). NoneFrom (IsUnmarkedIn mapped segment r) 0) same here)
  | inr other ↦ before s low (omega (arith, less, other))
]

module _ {slots : ℕ} {mapped : Mapped} (allowed : (key : PageKey) → mapped key ≡ true → IsKey slots key)
    {rows : List (Vec ℕ)} where
  -- by its segment and its number
  unmarked_at : (key : PageKey) → IsUnmarked mapped rows key
      → IsUnmarkedIn mapped key.segment (row_of rows key.segment) key.number
  unmarked_at key is =
      let key_is : key ≡ page_key key.segment ImageSpace key.number = λ i. record { segment = key.segment; space = is.space i; number = key.number } in
      record { there = ap mapped (sym key_is) ∙ is.there; unmarked = is.unmarked }

  -- the first one of a segment behind those that have none
  pub unmarked_first : {segment number : ℕ} {row : List ℕ}
      → ((s : ℕ) → 1 ≤ s → s < segment → NoneFrom (IsUnmarkedIn mapped s (row_of rows s)) 0)
      → row ≡ row_of rows segment → IsFirstFrom (IsUnmarkedIn mapped segment row) 0 number
      → IsFirstUnmarked mapped rows (page_key segment ImageSpace number)
  unmarked_first {segment} {number} lesser same found =
      let first = subst (λ (r : List ℕ). IsFirstFrom (IsUnmarkedIn mapped segment r) 0 number) same found in
      record {
        is = record { space = refl; there = first.has.there; unmarked = first.has.unmarked };
        earlier = λ other is before. elim (image_before other
            (page_key segment ImageSpace number) is.space refl before) [
              | inl less ↦ lesser other.segment
                  (image_segment other is.space (allowed other is.there)).0 less other.number (omega arith)
                  (unmarked_at other is)
              | inr last ↦ first.none_before other.number (omega arith) last.1
                  (subst (λ (s : ℕ). IsUnmarkedIn mapped s (row_of rows s) other.number) last.0 (unmarked_at other is))
            ];
      }

  -- no segment has any
  pub none_unmarked : {segment : ℕ} → segments < segment
      → ((s : ℕ) → 1 ≤ s → s < segment → NoneFrom (IsUnmarkedIn mapped s (row_of rows s)) 0)
      → (key : PageKey) → IsUnmarked mapped rows key → ⊥
  none_unmarked all none key is =
      let within = image_segment key is.space (allowed key is.there) in
      none key.segment within.0 (omega (arith, all, within.1)) key.number (omega arith) (unmarked_at key is)
