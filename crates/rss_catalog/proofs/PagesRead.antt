-- What the pages of the system space are found to hold, one page after another.
use Rattle.std.proofs.Common.{◌≡◌, ◌↔◌, ℕ, ◌+◌, ◌-◌, ◌*◌, ◌<◌, ◌≤◌, Bool, true, false, cond, List, [], ◌++◌, length, take, drop, get_or, Option, Some, None, All, refl, sym, ◌∙◌, ap, subst, inl, inr, arith, add-one, mul-zero, mul-suc, length-append}
use Rattle.std.specs.Prelude.{IsTrue, Result, Ok, Err, map, flat_map, min, is_some, replicate, ◌==◌}
use Rattle.std.proofs.lemmas.Bool.{cases_eq, cases_lt}
use Rattle.std.proofs.lemmas.Option.{none-some, same_Some}
use Rattle.std.proofs.lemmas.List.{length-map, length-take, length-drop, length-replicate, same_lists, get_or-take, get_or-drop, take_all, take_rest, drop_at, take-append-le, drop-append-le}
use Rattle.std.proofs.lemmas.List.Elements.{All-map}
use Rattle.std.proofs.Math.Nat.{mul-le-mul_left}
use Rattle.std.specs.Str.{bytes_eq}
use Rattle.std.proofs.lemmas.Slice.Eq.{bytes_eq-Decides}
use Rattle.rss_base.specs.Sizes.{page_bytes}
use Rattle.rss_base.specs.DiskRule.{IsTold}
use Rattle.rss_base.specs.Paged.{Mapped, Held, page_key}
use Rattle.rss_base.specs.Steps.{PagesView, no_page}
use Rattle.rss_base.specs.Looking.{ChecksPages}
use Rattle.rss_base.specs.Listings.{Listing, HoldsListing, catalog_page, padded, segment_spelled}
use Rattle.rss_base.specs.declared.name.Name.{Name}
use Rattle.rss_base.specs.declared.relation.RelationEntry.{RelationEntry}
use Rattle.rss_base.specs.declared.image.ImageEntry.{ImageEntry}
use Rattle.rss_base.specs.declared.link.LinkEntry.{LinkEntry}
use Rattle.rss_base.specs.declared.place.Place.{Place}
use Rattle.rss_base.specs.declared.fault.PageFault.{PageFault}
use Rattle.rss_base.specs.declared.fault.PageFault.TheVariants.{Damaged, Device as DeviceFailed}
use Rattle.rss_base.specs.declared.key.PageKey.{PageKey}
use Rattle.rss_base.specs.declared.key.Space.TheVariants.{System}
use Rattle.rss_base.proofs.Looking.{checks_then, checks_as, checks_within}
use Rattle.rss_catalog.specs.Catalogs.{HasSystemPages}
use Rattle.rss_catalog.specs.Defined.{front, up_to, IsListable, AreDefinitions, IsFirstFlaw, undefined}
use Rattle.rss_catalog.specs.Reading.{pieces, segment_of, relation_of, entry_of, HasFewFields}
use Rattle.rss_catalog.specs.Loading.{IsUnread, HasPage, LoadsSegments, Form, segment_form, relation_form, image_form, link_form, page_with, part, HasForm, ReadsPage, AddsPage, GoesRight, LoadsEntries}
use Rattle.rss_catalog.specs.Checking.{listing_of, IsFirstBad}
use Rattle.rss_catalog.proofs.Plain.{links_page_is, images_page_is}
use Rattle.rss_catalog.proofs.Pieces.{length-pieces}
use Rattle.rss_catalog.proofs.Spelled.{length-fields_of}
use Rattle.rss_catalog.proofs.Fronts.{take_parts, front_same}
use Rattle.rss_catalog.proofs.Tested.{HasPlaces, links_last, links_none, up_to_last}
use Rattle.rss_catalog.proofs.Read.{has_segments, has_relations, has_images, has_links, part_all, images_long, links_long, relations_page_is}

-- ---- a page

-- a page that was lent holds the same as before it was looked at
pub seen : {T : Type 0} {old mid : PagesView} {result : Result T PageFault} {asks : ℕ} (number : ℕ) (key : PageKey) (bytes : List ℕ) → ChecksPages no_page asks old mid result → old.mapped (page_key 0 System number) ≡ true → key ≡ page_key 0 System number → (IsTold mid.disk → mid.held key ≡ Some bytes) → HasPage old number bytes
seen {mid = mid} number key bytes did mapped same lent = record {
  mapped = mapped;
  holds = λ told. ap (λ (h : Held). h (page_key 0 System number)) (sym (did.looks.held told)) ∙ ap mid.held (sym same) ∙ lent (did.looks.step.passes.leaves.told.0 told);
}

-- a page that was compared with what it is spelled as
pub is_page : (page spelled target : List ℕ) (same : Bool) → same ≡ bytes_eq page spelled → spelled ≡ target → IsTrue same ↔ (page ≡ target)
is_page page spelled target same is form = (
  λ yes. (bytes_eq-Decides page spelled).0 (sym is ∙ yes) ∙ form,
  λ here. is ∙ (bytes_eq-Decides page spelled).1 (here ∙ sym form),
)

-- ---- the segments

-- the page as it reads, after it was compared with what spells that
pub loads_segments : (old : PagesView) (items now : List (Option Name)) (page spelled : List ℕ) (is_right : Bool) (right : ℕ) → HasPage old 0 page → items ≡ map segment_of (pieces 16 8 page) → now ≡ items → is_right ≡ bytes_eq page spelled → spelled ≡ padded page_bytes (flat_map segment_spelled now) → GoesRight 0 0 is_right right → LoadsSegments old items right
loads_segments old items now page spelled is_right right has is same equal form goes =
    let it : spelled ≡ padded page_bytes (flat_map segment_spelled items) = form ∙ ap (λ (l : List (Option Name)). padded page_bytes (flat_map segment_spelled l)) same in
    let compared = is_page page spelled (page_with segment_form items) is_right equal it in
    record {
      places = ap length is ∙ length-map (pieces 16 8 page) segment_of ∙ length-pieces 16 8 page;
      high = elim (cases_eq right 1) [
        | inl one ↦ omega (arith, one)
        | inr off ↦ omega (arith, goes.stays off)
      ];
      reads = record {
        bytes = page;
        has = has;
        read = is;
        formed = λ low. elim (cases_eq right 1) [
          | inl one ↦ compared.0 (goes.all one).1
          | inr off ↦ absurd (omega (arith, goes.stays off, low))
        ];
        unlike = λ none here. absurd (omega (arith, none, goes.goes (compared.1 here) refl));
      };
    }

-- ---- entries

-- the relations of a page have no more fields than a relation may have
read_entry : (b : Bool) (read entry : RelationEntry) → cond b None (Some read) ≡ Some entry → read ≡ entry
read_entry true read entry is = absurd (none-some entry is)
read_entry false read entry is = same_Some read entry is

few_read : (bytes : List ℕ) → HasFewFields (relation_of bytes)
few_read bytes entry is =
    let same = read_entry (get_or bytes 0 0 == 0) (entry_of bytes) entry is in
    let count = min (get_or bytes 17 0) 16 in
    let long = length-fields_of (count - get_or bytes 18 0) count (drop 32 bytes) in
    omega (arith, long, ap (λ (e : RelationEntry). length e.fields) same)

pub few_eight : (page : List ℕ) → All HasFewFields (map relation_of (pieces 512 8 page))
few_eight page = All-map HasFewFields relation_of (pieces 512 8 page) (λ k d low. few_read (get_or (pieces 512 8 page) k d))

-- the entries that were read last
pub last_read : {X : Type 0} (items read now new : List (Option X)) (first : ℕ) → new ≡ items ++ read → now ≡ new → first ≡ length items → take (length now - first) (drop first now) ≡ read
last_read items read now new first is same here =
    take_rest now first ∙ ap (drop first) (same ∙ is) ∙ drop_at items read first (sym here)

-- one page more of a width
width_more : (n k : ℕ) → n * (k + 1) ≡ n * k + n
width_more n k = ap (λ (m : ℕ). n * m) (add-one k) ∙ mul-suc n k ∙ omega arith

-- the entries of the pages before stay, and those of the next page stand behind them
part_before : {X : Type 0} (form : Form X) (items read : List (Option X)) (page count : ℕ) → length items ≡ form.count * count → page < count → part form page (items ++ read) ≡ part form page items
part_before form items read page count long low =
    let room : form.count * (page + 1) ≤ form.count * count = mul-le-mul_left form.count (omega arith) in
    let more = width_more form.count page in
    ap (take form.count) (drop-append-le (form.count * page) items read (omega (arith, room, more, long))) ∙ take-append-le form.count (drop (form.count * page) items) read (omega (arith, room, more, long, length-drop (form.count * page) items))

part_next : {X : Type 0} (form : Form X) (items read : List (Option X)) (count : ℕ) → length items ≡ form.count * count → length read ≡ form.count → part form count (items ++ read) ≡ read
part_next form items read count long read_long =
    ap (take form.count) (drop_at items read (form.count * count) long) ∙ take_all form.count read (omega (arith, read_long))

-- what was read before the last page
reads_before : {X : Type 0} {form : Form X} {old : PagesView} {page number was right : ℕ} {is : Bool} {items : List (Option X)} → page < number → GoesRight number was is right → ReadsPage form old page items was → ReadsPage form old page items right
reads_before {page = page} {number = number} {was = was} {right = right} less goes reads = elim (cases_eq right (number + 1)) [
  | inl all ↦
      let at = (goes.all all).0 in
      record {
        bytes = reads.bytes;
        has = reads.has;
        read = reads.read;
        formed = λ low. reads.formed (omega (arith, at, less));
        unlike = λ here. absurd (omega (arith, here, all, less));
      }
  | inr off ↦
      let same = goes.stays off in
      record {
        bytes = reads.bytes;
        has = reads.has;
        read = reads.read;
        formed = λ low. reads.formed (omega (arith, low, same));
        unlike = λ here. reads.unlike (here ∙ same);
      }
]

-- and the last page itself
reads_last : {X : Type 0} {form : Form X} {old : PagesView} {number was right : ℕ} {is : Bool} {items new : List (Option X)} → was ≤ number → GoesRight number was is right → (adds : AddsPage form old number items new is) → ReadsPage form old number (form.read adds.bytes) right
reads_last {number = number} {was = was} {right = right} few goes adds = record {
  bytes = adds.bytes;
  has = adds.has;
  read = refl;
  formed = λ low. elim (cases_eq right (number + 1)) [
    | inl all ↦ adds.formed.0 (goes.all all).1
    | inr off ↦ absurd (omega (arith, goes.stays off, low, few))
  ];
  unlike = λ here equal. absurd (omega (arith, here, goes.goes (adds.formed.1 equal) (sym (goes.stays (λ all. omega (arith, all, here))) ∙ sym here)));
}

pub loads_more : {X : Type 0} (form : Form X) (first count before : ℕ) (old : PagesView) (items new : List (Option X)) (start was right : ℕ) (is : Bool) → HasForm form first count → before < count → start ≤ first → LoadsEntries form first before old items start was → AddsPage form old (first + before) items new is → GoesRight (first + before) was is right → LoadsEntries form first (before + 1) old new start right
loads_more form first count before old items new start was right is has low begins so adds goes =
    let read = form.read adds.bytes in
    let long = has.long adds.bytes in
    let more = width_more form.count before in
    record {
      places = ap length adds.added ∙ length-append items read ∙ omega (arith, so.places, long, more);
      reads = λ page less. elim (cases_eq page before) [
        | inl there ↦ subst (λ (n : ℕ). ReadsPage form old (first + n) (part form n new) right) (sym there)
            (subst (λ (l : List (Option _)). ReadsPage form old (first + before) l right) (sym (ap (part form before) adds.added ∙ part_next form items read before so.places long)) (reads_last so.high goes adds))
        | inr off ↦ subst (λ (l : List (Option _)). ReadsPage form old (first + page) l right) (sym (ap (part form page) adds.added ∙ part_before form items read page before so.places (omega (arith, less, off)))) (reads_before (omega (arith, less, off)) goes (so.reads page (omega (arith, less, off))))
      ];
      low = elim (cases_eq right (first + before + 1)) [
        | inl all ↦ omega (arith, all, begins)
        | inr off ↦ omega (arith, so.low, goes.stays off)
      ];
      high = elim (cases_eq right (first + before + 1)) [
        | inl all ↦ omega (arith, all)
        | inr off ↦ omega (arith, so.high, goes.stays off)
      ];
      stays = λ less. elim (cases_eq right (first + before + 1)) [
        | inl all ↦ absurd (omega (arith, (goes.all all).0, so.stays less, less))
        | inr off ↦ goes.stays off ∙ so.stays less
      ];
    }

-- ---- the same pages, before and after a look

pub record SamePages (old new : PagesView) : Type 0 where
  pub told : IsTold old.disk ↔ IsTold new.disk
  pub mapped : new.mapped ≡ old.mapped
  pub held : IsTold old.disk → new.held ≡ old.held

pub looked : {T : Type 0} {asks : ℕ} {old new : PagesView} {result : Result T PageFault} → ChecksPages no_page asks old new result → SamePages old new
looked did = record { told = did.looks.step.passes.leaves.told; mapped = did.looks.mapped; held = did.looks.held }

pub looked_back : {old new : PagesView} → SamePages old new → SamePages new old
looked_back same = record { told = (same.told.1, same.told.0); mapped = sym same.mapped; held = λ told. sym (same.held (same.told.1 told)) }

pub has_after : {old new : PagesView} {number : ℕ} {bytes : List ℕ} → SamePages old new → HasPage old number bytes → HasPage new number bytes
has_after {number = number} same has = record {
  mapped = ap (λ (m : Mapped). m (page_key 0 System number)) same.mapped ∙ has.mapped;
  holds = λ told. ap (λ (h : Held). h (page_key 0 System number)) (same.held (same.told.1 told)) ∙ has.holds (same.told.1 told);
}

pub unread_after : {old new : PagesView} {place : Place} → SamePages old new → IsUnread old place → IsUnread new place
unread_after same unread = record { named = unread.named; untold = λ told. unread.untold (same.told.1 told) }

pub there_after : {old new : PagesView} → SamePages old new → HasSystemPages old.mapped → HasSystemPages new.mapped
there_after same has page low = ap (λ (m : Mapped). m (page_key 0 System page)) same.mapped ∙ has page low

pub adds_after : {X : Type 0} {form : Form X} {number : ℕ} {items more : List (Option X)} {is : Bool} {old new : PagesView} → SamePages old new → AddsPage form old number items more is → AddsPage form new number items more is
adds_after same adds = record { bytes = adds.bytes; has = has_after same adds.has; added = adds.added; formed = adds.formed }

reads_after : {X : Type 0} {form : Form X} {number right : ℕ} {items : List (Option X)} {old new : PagesView} → SamePages old new → ReadsPage form old number items right → ReadsPage form new number items right
reads_after same reads = record { bytes = reads.bytes; has = has_after same reads.has; read = reads.read; formed = reads.formed; unlike = reads.unlike }

pub entries_after : {X : Type 0} {form : Form X} {first count start right : ℕ} {items : List (Option X)} {old new : PagesView} → SamePages old new → LoadsEntries form first count old items start right → LoadsEntries form first count new items start right
entries_after same so = record { places = so.places; reads = λ page low. reads_after same (so.reads page low); low = so.low; high = so.high; stays = so.stays }

pub entries_none : {X : Type 0} (form : Form X) (first start : ℕ) (view : PagesView) (items : List (Option X)) → items ≡ [] → start ≤ first → LoadsEntries form first 0 view items start start
entries_none form first start view items none few = record {
  places = ap length none ∙ sym (mul-zero form.count);
  reads = λ page low. absurd (omega arith);
  low = omega arith;
  high = omega (arith, few);
  stays = λ less. refl;
}

-- ---- looks in a row

-- what succeeds is no fault
pub no_fault : {T : Type 0} (value : T) → ◌≡◌ {A = Result T PageFault} (Ok value) (Err DeviceFailed) → ⊥
no_fault value is = cc

-- one page more was looked at
pub checks_more : {T U : Type 0} {asks asks_then asks_now : ℕ} {old mid new : PagesView} {first : Result T PageFault} {second : Result U PageFault} → asks + asks_then ≤ asks_now → ChecksPages no_page asks old mid first → ChecksPages no_page asks_then mid new second → ChecksPages {T = Unit {0}} no_page asks_now old new (Ok tt)
checks_more few one two = checks_within (λ key is. is) few (checks_as (Ok tt) (λ is. absurd (no_fault tt is)) (checks_then one two))

-- and the look ends with the error of the last call
pub checks_ends : {T U V : Type 0} {asks asks_then asks_now : ℕ} {old mid new : PagesView} {first : Result T PageFault} {second : Result U PageFault} (result : Result V PageFault) → asks + asks_then ≤ asks_now → (result ≡ Err DeviceFailed → second ≡ Err DeviceFailed) → ChecksPages no_page asks old mid first → ChecksPages no_page asks_then mid new second → ChecksPages no_page asks_now old new result
checks_ends result few is one two = checks_within (λ key same. same) few (checks_as result is (checks_then one two))

-- damage is no fault of the device
pub no_device : {T U : Type 0} {fault : PageFault} {place : Place} {result : Result T PageFault} → fault ≡ Damaged place → ◌≡◌ {A = Result U PageFault} (Err fault) (Err DeviceFailed) → result ≡ Err DeviceFailed
no_device {fault = fault} {place = place} is error = let same : Damaged place ≡ DeviceFailed = cc in absurd (cc)

-- a part of the first ones is a part of all
part_of : {X : Type 0} (count from most : ℕ) (items : List X) → from + count ≤ most → take count (drop from (take most items)) ≡ take count (drop from items)
part_of count from most items room = same_lists (take count (drop from (take most items))) (take count (drop from items))
    (omega (arith, room, length-take count (drop from (take most items)), length-drop from (take most items), length-take most items, length-take count (drop from items), length-drop from items))
    (λ k d low.
    let less : k < count = omega (arith, low, length-take count (drop from (take most items))) in
    get_or-take count (drop from (take most items)) k d less ∙ get_or-drop from (take most items) k d ∙ get_or-take most items (from + k) d (omega (arith, less, room)) ∙ sym (get_or-drop from items k d) ∙ sym (get_or-take count (drop from items) k d less))

-- a part of the pages in front is a part of all
part_front : {X : Type 0} (count most pages : ℕ) (items : List (Option X)) (before : ℕ) → length (front most (count * pages) items) ≡ most → count * (before + 1) ≤ most → before < pages → take count (drop (count * before) (front most (count * pages) items)) ≡ take count (drop (count * before) items)
part_front {X = X} count most pages items before long room low =
    let more = width_more count before in
    let within : count * (before + 1) ≤ count * pages = mul-le-mul_left count (omega (arith, low)) in
    let rest : List (Option X) = replicate (most - count * pages) None in
    let whole = take (count * pages) items in
    let enough : count * (before + 1) ≤ length whole = omega (arith, within, room, sym long ∙ length-append whole rest, length-replicate {A = Option X} (most - count * pages) None) in
    ap (take count) (drop-append-le (count * before) whole rest (omega (arith, enough, more))) ∙ take-append-le count (drop (count * before) whole) rest (omega (arith, enough, more, length-drop (count * before) whole))
    ∙ part_of count (count * before) (count * pages) items (omega (arith, within, more))

-- ---- the whole catalog

-- what was read before pages of another kind
reads_later : {X : Type 0} {form : Form X} {old : PagesView} {page first was right : ℕ} {items : List (Option X)} → page < first → was ≤ right → (was < first → right ≡ was) → ReadsPage form old page items was → ReadsPage form old page items right
reads_later {page = page} {first = first} {was = was} {right = right} less low stays reads = elim (cases_lt was first) [
  | inl short ↦
      let same = stays short in
      record { bytes = reads.bytes; has = reads.has; read = reads.read; formed = λ lower. reads.formed (omega (arith, lower, same)); unlike = λ here. reads.unlike (here ∙ same) }
  | inr enough ↦ record { bytes = reads.bytes; has = reads.has; read = reads.read; formed = λ lower. reads.formed (omega (arith, enough, less)); unlike = λ here. absurd (omega (arith, here, enough, low, less)) }
]

-- so many pages of a kind
abbrev pub Reads : {X : Type 0} → Form X → ℕ → ℕ → PagesView → List (Option X) → ℕ → Type 0
Reads form first count pages items right = (before : ℕ) → before < count → ReadsPage form pages (first + before) (part form before items) right

-- All pages were read as a listing, and so many of them are in form, from the first one on.
pub record ReadsAll (pages : PagesView) (listing : Listing) (right : ℕ) : Type 0 where
  pub places : HasPlaces listing
  pub segments : Reads segment_form 0 1 pages listing.segments right
  pub relations : Reads relation_form 1 6 pages listing.relations right
  pub images : Reads image_form 7 2 pages listing.images right
  pub links : Reads link_form 9 1 pages listing.links right

-- what was read in a row was there before
pub all_after : {T U V : Type 0} {asks asks_relations asks_images : ℕ} {old mid next last : PagesView} {names : List (Option Name)} {entries : List (Option RelationEntry)} {images : List (Option ImageEntry)} {links : List (Option LinkEntry)} {first : Result T PageFault} {second : Result U PageFault} {third : Result V PageFault} (one two three four : ℕ)
    → LoadsSegments old names one → ChecksPages no_page asks old mid first → LoadsEntries relation_form 1 6 mid entries one two → ChecksPages no_page asks_relations mid next second → LoadsEntries image_form 7 2 next images two three → ChecksPages no_page asks_images next last third → LoadsEntries link_form 9 1 last links three four → ReadsAll old (listing_of names entries images links) four
all_after {old = old} {names = names} one two three four segments did_one relations did_two images did_three links =
    let first_relations = entries_after (looked_back (looked did_one)) relations in
    let first_images = entries_after (looked_back (looked (checks_then did_one did_two))) images in
    let first_links = entries_after (looked_back (looked (checks_then (checks_then did_one did_two) did_three))) links in
    record {
      places = record { segments_long = segments.places; relations_long = relations.places; images_long = images.places; links_long = links.places };
      segments = λ before low.
          let here : 0 + before ≡ 0 = omega (arith, low) in
          let whole : part segment_form before names ≡ names = part_all names 8 before segments.places (omega (arith, low)) in
          subst (λ (n : ℕ). ReadsPage segment_form old n (part segment_form before names) four) (sym here)
          (subst (λ (l : List (Option Name)). ReadsPage segment_form old 0 l four) (sym whole)
          (reads_later {first = 9} (omega arith) links.low links.stays (reads_later {first = 7} (omega arith) images.low images.stays (reads_later {first = 1} (omega arith) relations.low relations.stays segments.reads))));
      relations = λ before low. reads_later {first = 9} (omega (arith, low)) links.low links.stays (reads_later {first = 7} (omega (arith, low)) images.low images.stays (first_relations.reads before low));
      images = λ before low. reads_later {first = 9} (omega (arith, low)) links.low links.stays (first_images.reads before low);
      links = first_links.reads;
    }

-- what is said of each page is said of the pages of each kind
by_kind : (P : ℕ → Type 0) → ((before : ℕ) → before < 1 → P (0 + before)) → ((before : ℕ) → before < 6 → P (1 + before)) → ((before : ℕ) → before < 2 → P (7 + before)) → ((before : ℕ) → before < 1 → P (9 + before)) → (page : ℕ) → page < 10 → P page
by_kind P segments relations images links page low = elim (cases_lt page 1) [
  | inl here ↦ subst P (omega arith) (segments page here)
  | inr some ↦ elim (cases_lt page 7) [
    | inl here ↦ subst P (omega (arith, some)) (relations (page - 1) (omega (arith, some, here)))
    | inr past ↦ elim (cases_lt page 9) [
      | inl here ↦ subst P (omega (arith, past)) (images (page - 7) (omega (arith, past, here)))
      | inr last ↦ subst P (omega (arith, last)) (links (page - 9) (omega (arith, last, low)))
    ]
  ]
]

-- what the pages of relations and of images are
page_relations : (listing : Listing) (before : ℕ) → before < 6 → page_with relation_form (part relation_form before listing.relations) ≡ catalog_page listing (1 + before)
page_relations listing before low = ap (λ (n : ℕ). page_with relation_form (take 8 (drop (8 * n) listing.relations))) (omega arith) ∙ sym (relations_page_is listing (1 + before) (omega arith) (omega (arith, low)))

page_images : (listing : Listing) (before : ℕ) → before < 2 → page_with image_form (part image_form before listing.images) ≡ catalog_page listing (7 + before)
page_images listing before low = ap (λ (n : ℕ). page_with image_form (take 64 (drop (64 * n) listing.images))) (omega arith) ∙ sym (images_page_is listing (7 + before) (omega arith) (omega (arith, low)))

-- a page of a listing that is in form
module _ {pages : PagesView} {listing : Listing} {right : ℕ} (all : ReadsAll pages listing right) where
  -- the page that spells what was read of it
  abbrev Spells : ℕ → Type 0
  Spells page = page < right → HasPage pages page (catalog_page listing page)

  spells_by : {X : Type 0} (form : Form X) (page : ℕ) (items : List (Option X)) → ReadsPage form pages page items right → page_with form items ≡ catalog_page listing page → Spells page
  spells_by form page items reads is low = subst (λ (bytes : List ℕ). HasPage pages page bytes) (reads.formed low ∙ is) reads.has

  -- what each page of a listing is spelled by
  page_segments : (before : ℕ) → before < 1 → page_with segment_form (part segment_form before listing.segments) ≡ catalog_page listing (0 + before)
  page_segments before low =
      let here : 0 + before ≡ 0 = omega (arith, low) in
      ap (page_with segment_form) (part_all listing.segments 8 before all.places.segments_long (omega (arith, low))) ∙ ap (catalog_page listing) (sym here)

  page_links : (before : ℕ) → before < 1 → page_with link_form (part link_form before listing.links) ≡ catalog_page listing (9 + before)
  page_links before low = ap (page_with link_form) (part_all listing.links 64 before all.places.links_long (omega (arith, low))) ∙ sym (links_page_is listing (9 + before) (omega arith))

  pub spells_page : (page : ℕ) → page < 10 → Spells page
  spells_page = by_kind Spells
      (λ before low. spells_by segment_form (0 + before) (part segment_form before listing.segments) (all.segments before low) (page_segments before low))
      (λ before low. spells_by relation_form (1 + before) (part relation_form before listing.relations) (all.relations before low) (page_relations listing before low))
      (λ before low. spells_by image_form (7 + before) (part image_form before listing.images) (all.images before low) (page_images listing before low))
      (λ before low. spells_by link_form (9 + before) (part link_form before listing.links) (all.links before low) (page_links before low))

  -- ---- another listing that the pages up to one spell

  module _ (told : IsTold pages.disk) (page : ℕ) (other : Listing) (listable : IsListable (up_to page other)) (spelled : (p : ℕ) → p ≤ page → pages.held (page_key 0 System p) ≡ Some (catalog_page other p)) where
    abbrev upper : Listing
    upper = up_to page other

    -- its pages up to there are those of its definitions up to there
    page_upper : (p : ℕ) → p < 10 → p ≤ page → catalog_page other p ≡ catalog_page upper p
    page_upper = by_kind (λ p. p ≤ page → catalog_page other p ≡ catalog_page upper p)
        (λ before low few. let here : 0 + before ≡ 0 = omega (arith, low) in ap (catalog_page other) here ∙ ap (catalog_page upper) (sym here))
        (λ before low few. sym (page_relations other before low) ∙ ap (page_with relation_form) (sym (part_front 8 48 page other.relations before listable.fit.relation_places (omega (arith, low)) (omega (arith, few)))) ∙ page_relations upper before low)
        (λ before low few. sym (page_images other before low) ∙ ap (page_with image_form) (sym (part_front 64 128 (page - 6) other.images before (images_long upper listable) (omega (arith, low)) (omega (arith, few)))) ∙ page_images upper before low)
        (λ before low few. links_page_is other (9 + before) (omega arith) ∙ ap (λ (l : List (Option LinkEntry)). page_with link_form l) (sym (links_last other page (omega (arith, few)))) ∙ sym (links_page_is upper (9 + before) (omega arith)))

    -- so a page reads as a part of it
    bytes_of : {X : Type 0} (form : Form X) (p : ℕ) (items : List (Option X)) → (reads : ReadsPage form pages p items right) → p < 10 → p ≤ page → reads.bytes ≡ catalog_page upper p
    bytes_of form p items reads low few = same_Some reads.bytes (catalog_page upper p) (sym (reads.has.holds told) ∙ spelled p few ∙ ap Some (page_upper p low few))

    read_as : {X : Type 0} (form : Form X) (first count before : ℕ) (items : List (Option X)) → HasForm form first count → before < count → ReadsPage form pages (first + before) items right → first + before ≤ page → items ≡ part form before (form.listed upper)
    read_as form first count before items has low reads few =
        reads.read ∙ ap form.read (bytes_of form (first + before) items reads (omega (arith, has.within, low)) few) ∙ has.back before low upper listable

    -- and is in form
    formed_by : {X : Type 0} (form : Form X) (first count before : ℕ) (items : List (Option X)) → HasForm form first count → before < count → (reads : ReadsPage form pages (first + before) items right) → first + before ≤ page → reads.bytes ≡ page_with form items
    formed_by form first count before items has low reads few =
        let is = bytes_of form (first + before) items reads (omega (arith, has.within, low)) few in
        is ∙ has.formed before low upper listable ∙ ap (λ (bytes : List ℕ). page_with form (form.read bytes)) (sym is) ∙ ap (page_with form) (sym reads.read)

    -- the page that isn't in form stands behind
    pub unlike_behind : right < 10 → right ≤ page → ⊥
    unlike_behind less few = by_kind (λ p. p ≡ right → p ≤ page → ⊥)
        (λ before low here within. (all.segments before low).unlike here (formed_by segment_form 0 1 before (part segment_form before listing.segments) has_segments low (all.segments before low) within))
        (λ before low here within. (all.relations before low).unlike here (formed_by relation_form 1 6 before (part relation_form before listing.relations) has_relations low (all.relations before low) within))
        (λ before low here within. (all.images before low).unlike here (formed_by image_form 7 2 before (part image_form before listing.images) has_images low (all.images before low) within))
        (λ before low here within. (all.links before low).unlike here (formed_by link_form 9 1 before (part link_form before listing.links) has_links low (all.links before low) within))
        right less refl few

    -- the listing that was read is the same up to there
    segments_same : listing.segments ≡ other.segments
    segments_same = sym (part_all listing.segments 8 0 all.places.segments_long refl) ∙ read_as segment_form 0 1 0 (part segment_form 0 listing.segments) has_segments (omega arith) (all.segments 0 (omega arith)) (omega arith) ∙ part_all other.segments 8 0 listable.fit.segment_places refl

    relations_same : front 48 (8 * page) listing.relations ≡ front 48 (8 * page) other.relations
    relations_same = front_same 48 (8 * page) listing.relations other.relations all.places.relations_long listable.fit.relation_places
        (λ few. take_parts 8 listing.relations upper.relations page (λ k low. read_as relation_form 1 6 k (part relation_form k listing.relations) has_relations (omega (arith, few, low)) (all.relations k (omega (arith, few, low))) (omega (arith, low))))
        (λ more. take_parts 8 listing.relations upper.relations 6 (λ k low. read_as relation_form 1 6 k (part relation_form k listing.relations) has_relations low (all.relations k low) (omega (arith, more, low))))

    images_same : front 128 (64 * (page - 6)) listing.images ≡ front 128 (64 * (page - 6)) other.images
    images_same = front_same 128 (64 * (page - 6)) listing.images other.images all.places.images_long (images_long upper listable)
        (λ few. take_parts 64 listing.images upper.images (page - 6) (λ k low. read_as image_form 7 2 k (part image_form k listing.images) has_images (omega (arith, few, low)) (all.images k (omega (arith, few, low))) (omega (arith, low))))
        (λ more. take_parts 64 listing.images upper.images 2 (λ k low. read_as image_form 7 2 k (part image_form k listing.images) has_images low (all.images k low) (omega (arith, more, low))))

    links_same : (up_to page listing).links ≡ upper.links
    links_same = elim (cases_lt 8 page) [
      | inl past ↦
          let whole = links_last other page (omega (arith, past)) in
          links_last listing page (omega (arith, past)) ∙ sym (part_all listing.links 64 0 all.places.links_long refl) ∙ read_as link_form 9 1 0 (part link_form 0 listing.links) has_links (omega arith) (all.links 0 (omega arith)) (omega (arith, past)) ∙ part_all upper.links 64 0 (links_long upper listable) refl
      | inr few ↦ links_none listing page (omega (arith, few)) ∙ sym (links_none other page (omega (arith, few)))
    ]

    pub upper_same : up_to page listing ≡ upper
    upper_same = λ i. record { segments = segments_same i; relations = relations_same i; images = images_same i; links = links_same i }

  -- ---- the first page that is no definition

  pub bad_page : (page : ℕ) → IsFirstBad (λ p. AreDefinitions (up_to p listing)) 10 page → IsTold pages.disk → ((p : ℕ) → p < 10 → is_some (pages.held (page_key 0 System p)) ≡ true) → min page right < 10 → IsFirstFlaw pages.held (min page right)
  bad_page page bad told there low = undefined low
      (λ is. elim (cases_lt right page) [
        | inl short ↦ unlike_behind told (min page right) is.listing is.are.listable is.spells (omega (arith, short, low)) (omega (arith, short))
        | inr few ↦
            let here : min page right ≡ page = omega (arith, few) in
            bad.not (omega (arith, here, low)) (subst (λ (n : ℕ). AreDefinitions (up_to n listing)) here (subst AreDefinitions (sym (upper_same told (min page right) is.listing is.are.listable is.spells)) is.are))
      ])
      there
      (λ p less. record {
        listing = listing;
        spells = λ q few. (spells_page q (omega (arith, few, less, low)) (omega (arith, few, less))).holds told;
        are = bad.before p (omega (arith, less));
      })

  -- there is none
  pub all_right : (page : ℕ) → IsFirstBad (λ p. AreDefinitions (up_to p listing)) 10 page → 10 ≤ min page right → AreDefinitions listing
  all_right page bad all_in = subst AreDefinitions (up_to_last listing all.places) (bad.before 9 (omega (arith, all_in)))

  pub all_held : 10 ≤ right → IsTold pages.disk → HoldsListing pages.held listing
  all_held all_in told page low = (spells_page page low (omega (arith, all_in, low))).holds told
