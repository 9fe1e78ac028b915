-- There is one first place at most.
use Rattle.std.proofs.Common.{◌≡◌, ℕ, ⊎_elim, [], ◌∷◌, refl, sym, ◌∙◌, ap, subst}
use Rattle.std.proofs.lemmas.Bool.{cases_order}
use Rattle.std.specs.Prelude.{slice_index_or}
use Rattle.std.specs.Cmp.{IsTotalOrder}
use Rattle.std.specs.Cmp.Lexicographic.{on_texts}
use Rattle.std.specs.FinMap.{nat_cmp-IsAntisymmetric, slice_cmp-IsAntisymmetric}
use Rattle.std.specs.Ordering.{nat_cmp, ordering_reverse}
use Rattle.std.specs.Cmp.Lexicographic.{slice_cmp}
use Rattle.std.specs.declared.cmp.Ordering.{Ordering}
use Rattle.std.specs.declared.cmp.Ordering.TheVariants.{Less, Equal, Greater}
use Rattle.rss_base.specs.DiskRule.{Pages}
use Rattle.rss_base.specs.PageMap.{space_code}
use Rattle.rss_base.specs.declared.key.PageKey.{PageKey}
use Rattle.rss_base.specs.declared.key.Space.{Space}
use Rattle.rss_base.specs.declared.key.Space.TheVariants.{Home, Overflow, Image as ImageSpace, System}
use Rattle.rss_base.specs.Paged.{page_key}
use Rattle.rss_base.specs.declared.tid.Tid.{Tid}
use Rattle.rss_base.specs.declared.place.Place.{Place}
use Rattle.rss_base.specs.declared.place.Place.TheVariants.{Catalog as CatalogPlace, Page as PagePlace, Tuple as TuplePlace, Count as CountPlace, Image as ImagePlace, Link as LinkPlace, Log as LogPlace}
use Rattle.rss_stored.proofs.Stores.{broken_once}
use Rattle.rss_check.specs.Lines.{Line, Layout, SystemPages, Definitions, HeapPages, Entries, Led, Counts, Images, Reached, Links, Records, Marks, Items, Way, Room, line_number, numbers_of, ComesBefore}
use Rattle.rss_check.specs.Faults.{Breaks, layout, unmapped, undefined, heap_page, entry, unled, count, image, unused, link, no_record, marks, shared, no_way, no_room, IsFirstFault, FaultsAreOne}

-- ---- lines by their numbers

abbrev line_at : ℕ → Line
line_at n = slice_index_or (Layout ∷ SystemPages ∷ Definitions ∷ HeapPages ∷ Entries ∷ Led ∷ Counts ∷ Images ∷ Reached
    ∷ Links ∷ Records ∷ Marks ∷ Items ∷ Way ∷ []) n Room

back : (line : Line) → line_at (line_number line) ≡ line
back Layout = refl
back SystemPages = refl
back Definitions = refl
back HeapPages = refl
back Entries = refl
back Led = refl
back Counts = refl
back Images = refl
back Reached = refl
back Links = refl
back Records = refl
back Marks = refl
back Items = refl
back Way = refl
back Room = refl

pub same_line : (a b : Line) → line_number a ≡ line_number b → a ≡ b
same_line a b is = sym (back a) ∙ ap line_at is ∙ back b

-- ---- places of one line by their numbers

same_space : (a b : Space) → space_code a ≡ space_code b → a ≡ b
same_space Home Home is = refl
same_space Overflow Overflow is = refl
same_space ImageSpace ImageSpace is = refl
same_space System System is = refl
same_space a b is = absurd (cc)

one : {a b : ℕ} → a ∷ [] ≡ b ∷ [] → a ≡ b
one is = cc (is)

first_of : {a b c x y z : ℕ} → a ∷ b ∷ c ∷ [] ≡ x ∷ y ∷ z ∷ [] → a ≡ x
first_of is = cc (is)

second_of : {a b c x y z : ℕ} → a ∷ b ∷ c ∷ [] ≡ x ∷ y ∷ z ∷ [] → b ≡ y
second_of is = cc (is)

third_of : {a b c x y z : ℕ} → a ∷ b ∷ c ∷ [] ≡ x ∷ y ∷ z ∷ [] → c ≡ z
third_of is = cc (is)

same_key : (a b : PageKey) → numbers_of (PagePlace a) ≡ numbers_of (PagePlace b) → a ≡ b
same_key a b is =
    let segment : a.segment ≡ b.segment = first_of is in
    let code : space_code a.space ≡ space_code b.space = second_of is in
    let number : a.number ≡ b.number = third_of is in
    let space : a.space ≡ b.space = same_space a.space b.space code in
    λ i. record { segment = segment i; space = space i; number = number i }

same_tuple : (s t : ℕ) (a b : Tid) → numbers_of (TuplePlace s a) ≡ numbers_of (TuplePlace t b) → TuplePlace s a ≡ TuplePlace t b
same_tuple s t a b is =
    let segment : s ≡ t = first_of is in
    let page : a.page ≡ b.page = second_of is in
    let slot : a.slot ≡ b.slot = third_of is in
    λ i. TuplePlace (segment i) (record { page = page i; slot = slot i })

same_place : {pages : Pages} {line : Line} {p q : Place} → Breaks pages line p → Breaks pages line q → numbers_of p ≡ numbers_of q → p ≡ q
same_place (layout a) (layout b) is = broken_once a b
same_place (unmapped l m w n) (unmapped l' m' w' n') is = ap CatalogPlace (one is)
same_place (undefined l m w n) (undefined l' m' w' n') is = ap CatalogPlace (one is)
same_place (heap_page a k b s h n) (heap_page a' k' b' s' h' n') is = ap PagePlace (same_key k k' is)
same_place (entry a s t n) (entry a' s' t' n') is = same_tuple s s' t t' is
same_place (unled a s p l o n) (unled a' s' p' l' o' n') is = ap PagePlace (same_key (page_key s Overflow p) (page_key s' Overflow p') is)
same_place (count a k r t n) (count a' k' r' t' n') is = ap CountPlace (one is)
same_place (image a k i r t n) (image a' k' i' r' t' n') is = ap ImagePlace (one is)
same_place (unused a k s t n) (unused a' k' s' t' n') is = ap PagePlace (same_key k k' is)
same_place (link a k l t n) (link a' k' l' t' n') is = ap LinkPlace (one is)
same_place (no_record l p f r e d b n) (no_record l' p' f' r' e' d' b' n') is = ap LogPlace (one is)
same_place (marks a n) (marks a' n') is = ap LogPlace (one is)
same_place (shared a o n f b c r s l) (shared a' o' n' f' b' c' r' s' l') is = ap LogPlace (one is)
same_place (no_way a n) (no_way a' n') is = ap LogPlace (one is)
same_place (no_room a s o l b) (no_room a' s' o' l' b') is = refl

texts : IsTotalOrder (λ (a b : Place). slice_cmp nat_cmp (numbers_of a) (numbers_of b))
texts = on_texts numbers_of

turned_less : (r : Ordering) → r ≡ Greater → ordering_reverse r ≡ Less
turned_less r is = ap ordering_reverse is

neither : (p q : Place) (r : Ordering) → slice_cmp nat_cmp (numbers_of p) (numbers_of q) ≡ r → (ComesBefore p q → ⊥) → (ComesBefore q p → ⊥) → numbers_of p ≡ numbers_of q
neither p q Less is first second = absurd (first is)
neither p q Equal is first second = slice_cmp-IsAntisymmetric nat_cmp-IsAntisymmetric (numbers_of p) (numbers_of q) is
neither p q Greater is first second = absurd (second (texts.antisymm q p ∙ turned_less _ is))

in_line : {pages : Pages} {p q : Place} (one : IsFirstFault pages p) (two : IsFirstFault pages q) → one.line ≡ two.line → p ≡ q
in_line {pages} {p} {q} one two same =
    let other : Breaks pages one.line q = subst (λ (l : Line). Breaks pages l q) (sym same) two.breaks in
    let mine : Breaks pages two.line p = subst (λ (l : Line). Breaks pages l p) same one.breaks in
    same_place one.breaks other (neither p q _ refl (two.least p mine) (one.least q other))

pub faults_are_one : FaultsAreOne
faults_are_one pages a b first second = ⊎_elim
    (λ same. in_line first second (same_line first.line second.line same))
    (⊎_elim
    (λ less. absurd (second.earlier first.line a less first.breaks))
    (λ less. absurd (first.earlier second.line b less second.breaks)))
    (cases_order (line_number first.line) (line_number second.line))
