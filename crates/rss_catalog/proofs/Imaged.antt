-- How many bytes an image has in the catalog, and what those bytes read as.
use Rattle.std.proofs.Common.{◌≡◌, ℕ, ◌+◌, ◌-◌, ◌<◌, ◌^◌, Bool, true, false, List, [], ◌∷◌, ◌++◌, length, take, drop, get_or, replicate, Option, Some, None, refl, ◌∙◌, ap, arith, length-append}
use Rattle.std.specs.Prelude.{◌==◌}
use mir.Val.{bool_byte}
use Rattle.std.specs.Int.{w32, to_be_bytes, from_be_bytes}
use Rattle.std.proofs.lemmas.Nat.{from_be_bytes-to_be_bytes_4}
use Rattle.std.proofs.lemmas.Bool.{cond-false}
use Rattle.std.proofs.lemmas.List.{take_at, append_assoc, length-replicate, get_or_append_left}
use Rattle.rss_base.specs.Names.{IsName}
use Rattle.rss_base.specs.Listings.{Listing, ImageFits, image_spelled, flag_byte}
use Rattle.rss_base.specs.declared.image.ImageEntry.{ImageEntry}
use Rattle.rss_catalog.specs.Defined.{unrooted, IsRooted}
use Rattle.rss_catalog.specs.Reading.{image_entry_of, image_of}
use Rattle.rss_catalog.proofs.Spelled.{name_long, name_begins, behind, drop_behind}

-- an image as far as it is spelled
pub record IsDrawn (image : ImageEntry) : Type 0 where
  pub name : IsName image.name
  pub long : length image.fields ≡ 16
  pub root : image.root < 2 ^ 32

abbrev pub AreDrawn : Option ImageEntry → Type 0
AreDrawn image = (entry : ImageEntry) → image ≡ Some entry → IsDrawn entry

-- what is spelled in front of the zeros
abbrev head_of : ImageEntry → List ℕ
head_of image =
    image.name.bytes ++ image.relation ∷ flag_byte image.is_unique ∷ image.count ∷ image.levels ∷ []
    ++ to_be_bytes w32 image.root ++ image.fields

head_long : (image : ImageEntry) → length image.name.bytes ≡ 16 → length (head_of image) ≡ 24 + length image.fields
head_long image name =
    let four : List ℕ = image.relation ∷ flag_byte image.is_unique ∷ image.count ∷ image.levels ∷ [] in
    length-append (image.name.bytes ++ four ++ to_be_bytes w32 image.root) image.fields
    ∙ omega (arith, length-append (image.name.bytes ++ four) (to_be_bytes w32 image.root), length-append image.name.bytes four, name)

pub image_long : (image : Option ImageEntry) → AreDrawn image → length (image_spelled image) ≡ 64
image_long None is = refl
image_long (Some entry) is =
    let drawn = is entry refl in
    let long = head_long entry (name_long entry.name drawn.name) in
    length-append (head_of entry) (replicate (64 - length (head_of entry)) 0)
    ∙ omega (arith, long, drawn.long, length-replicate {A = ℕ} (64 - length (head_of entry)) 0)

-- parts in a row, from the first on
regroup : (a b c d e : List ℕ) → (((a ++ b) ++ c) ++ d) ++ e ≡ a ++ (b ++ (c ++ (d ++ e)))
regroup a b c d e = simp append_assoc

pub flag_back : (flag : Bool) → (flag_byte flag == 1) ≡ flag
flag_back true = refl
flag_back false = refl

-- a flag as it is put
pub flag_is : (flag : Bool) → bool_byte flag ≡ flag_byte flag
flag_is true = refl
flag_is false = refl

entry_back : (entry : ImageEntry) → IsDrawn entry → image_entry_of (image_spelled (Some entry)) ≡ entry
entry_back entry drawn =
    let name = entry.name.bytes in
    let long = name_long entry.name drawn.name in
    let zeros = 64 - length (head_of entry) in
    let tail : List ℕ = entry.relation ∷ flag_byte entry.is_unique ∷ entry.count ∷ entry.levels ∷ (to_be_bytes w32 entry.root ++ (entry.fields ++ replicate zeros 0)) in
    let whole : image_spelled (Some entry) ≡ name ++ tail = regroup name (entry.relation ∷ flag_byte entry.is_unique ∷ entry.count ∷ entry.levels ∷ []) (to_be_bytes w32 entry.root) entry.fields (replicate zeros 0) in
    let unique : (get_or (name ++ tail) 17 0 == 1) ≡ entry.is_unique = ap (λ (n : ℕ). n == 1) (behind name tail 17 1 long refl) ∙ flag_back entry.is_unique in
    let root : from_be_bytes w32 (take 4 (drop 20 (name ++ tail))) ≡ entry.root = ap (λ (l : List ℕ). from_be_bytes w32 (take 4 l)) (drop_behind name tail 20 4 long refl) ∙ from_be_bytes-to_be_bytes_4 entry.root drawn.root in
    let fields : take 16 (drop 24 (name ++ tail)) ≡ entry.fields = ap (take 16) (drop_behind name tail 24 8 long refl) ∙ take_at entry.fields (replicate zeros 0) 16 drawn.long in
    ap image_entry_of whole
    ∙ (λ i. record { name = record { bytes = take_at name tail 16 long i }; relation = behind name tail 16 0 long refl i; is_unique = unique i; count = behind name tail 18 2 long refl i; fields = fields i; levels = behind name tail 19 3 long refl i; root = root i })

-- an image begins with its name
first_of : (entry : ImageEntry) → IsDrawn entry → (get_or (image_spelled (Some entry)) 0 0 == 0) ≡ false
first_of entry drawn =
    let name = entry.name.bytes in
    let long = name_long entry.name drawn.name in
    let zeros = replicate (64 - length (head_of entry)) 0 in
    let tail : List ℕ = entry.relation ∷ flag_byte entry.is_unique ∷ entry.count ∷ entry.levels ∷ (to_be_bytes w32 entry.root ++ (entry.fields ++ zeros)) in
    let whole : image_spelled (Some entry) ≡ name ++ tail = regroup name (entry.relation ∷ flag_byte entry.is_unique ∷ entry.count ∷ entry.levels ∷ []) (to_be_bytes w32 entry.root) entry.fields zeros in
    ap (λ (b : ℕ). b == 0) (ap (λ (l : List ℕ). get_or l 0 0) whole ∙ get_or_append_left name tail 0 0 (omega (arith, long))) ∙ name_begins entry.name drawn.name

pub image_back : (image : Option ImageEntry) → AreDrawn image → image_of (image_spelled image) ≡ image
image_back None is = refl
image_back (Some entry) is =
    let drawn = is entry refl in
    let bytes = image_spelled (Some entry) in
    let first : (get_or bytes 0 0 == 0) ≡ false = first_of entry drawn in
    cond-false (get_or bytes 0 0 == 0) None (Some (image_entry_of bytes)) first ∙ ap Some (entry_back entry drawn)

-- the parts of an image, put one behind another
pub put_image : (image : ImageEntry) (old one two three four new : List ℕ) (flag : ℕ) → one ≡ old ++ image.name.bytes → flag ≡ flag_byte image.is_unique → two ≡ one ++ image.relation ∷ flag ∷ image.count ∷ image.levels ∷ [] → three ≡ two ++ to_be_bytes w32 image.root → four ≡ three ++ image.fields → new ≡ four ++ replicate 24 0
    → length image.name.bytes ≡ 16 → length image.fields ≡ 16 → new ≡ old ++ image_spelled (Some image)
put_image image old one two three four new flag now_one same now_two now_three now_four now name fields =
    let zeros : 24 ≡ 64 - length (head_of image) = omega (arith, head_long image name, fields) in
    now ∙ ap (λ (l : List ℕ). l ++ replicate 24 0) (now_four ∙ ap (λ (l : List ℕ). l ++ image.fields) (now_three ∙ ap (λ (l : List ℕ). l ++ to_be_bytes w32 image.root) now_two)) ∙ (λ i. ((((now_one i ++ image.relation ∷ same i ∷ image.count ∷ image.levels ∷ []) ++ to_be_bytes w32 image.root) ++ image.fields) ++ replicate (zeros i) 0)) ∙ simp append_assoc

-- an image that may be listed is one
pub drawn_of : (listing : Listing) (image : ImageEntry) → ImageFits listing (unrooted image) → IsRooted image → IsDrawn image
drawn_of listing image fits rooted = record { name = fits.name; long = fits.long; root = rooted.root }
