-- No two values and no two items have one code, so items and names are in a total order in which only equals tie.
use Rattle.std.proofs.Common.{◌≡◌, ℕ, List, [], ◌∷◌, ◌++◌, length, take, refl, sym, ◌∙◌, ap}
use Rattle.std.proofs.lemmas.List.{append_cancel_left}
use Rattle.std.proofs.Math.Seq.{take-append_seam}
use Rattle.std.specs.Prelude.{pos, negsuc, Some, None}
use Rattle.std.specs.Cmp.{IsTotalOrder}
use Rattle.std.specs.Cmp.Lexicographic.{on_texts}
use Rattle.std.specs.FinMap.{IsAntisymmetric, nat_cmp-IsAntisymmetric, slice_cmp-IsAntisymmetric}
use Rattle.rss_base.specs.declared.name.Name.{Name}
use Rattle.rss_base.specs.declared.tid.Tid.{Tid}
use Rattle.rss_base.specs.declared.value.Value.{Value}
use Rattle.rss_base.specs.declared.value.Value.TheVariants.{Int, Text, Undefined}
use Rattle.rss_base.specs.declared.item.Item.{Item}
use Rattle.rss_base.specs.declared.item.Item.TheVariants.{Segment, Relation, Tuple, Chain, Key}
use Rattle.rss_model.specs.Items.{value_code, values_code, item_code, item_cmp, name_cmp}

-- two lists in a row, of which the first are as long
pub split_alike : {A : Type 0} (a b xs ys : List A) → length a ≡ length b → a ++ xs ≡ b ++ ys → (a ≡ b) × (xs ≡ ys)
split_alike a b xs ys long is =
    let front : a ≡ b = sym (take-append_seam a xs) ∙ ap (λ (n : ℕ). take n (a ++ xs)) long ∙ ap (λ (l : List _). take (length b) l) is ∙ take-append_seam b ys in
    (front, append_cancel_left b xs ys (ap (λ (l : List _). l ++ xs) (sym front) ∙ is))

pub same_name : (a b : Name) → a.bytes ≡ b.bytes → a ≡ b
same_name a b is = λ i. record { bytes = is i }

pub same_tid : (a b : Tid) → a.page ≡ b.page → a.slot ≡ b.slot → a ≡ b
same_tid a b pages slots = λ i. record { page = pages i; slot = slots i }

value_code_split : (v w : Value) (xs ys : List ℕ) → value_code v ++ xs ≡ value_code w ++ ys → (v ≡ w) × (xs ≡ ys)
value_code_split (Int (pos m)) (Int (pos n)) xs ys is = let e : m ≡ n = cc in let rest : xs ≡ ys = cc in (ap (λ (k : ℕ). Int (pos k)) e, rest)
value_code_split (Int (negsuc m)) (Int (negsuc n)) xs ys is = let e : m ≡ n = cc in let rest : xs ≡ ys = cc in (ap (λ (k : ℕ). Int (negsuc k)) e, rest)
value_code_split (Text a) (Text b) xs ys is =
    let long : length a ≡ length b = cc in
    let rest : a ++ xs ≡ b ++ ys = cc in
    let parts = split_alike a b xs ys long rest in
    (ap Text parts.0, parts.1)
value_code_split (Int (pos m)) (Int (negsuc n)) xs ys is = absurd (cc)
value_code_split (Int (negsuc m)) (Int (pos n)) xs ys is = absurd (cc)
value_code_split (Int (pos m)) (Text b) xs ys is = absurd (cc)
value_code_split (Int (negsuc m)) (Text b) xs ys is = absurd (cc)
value_code_split (Text a) (Int (pos n)) xs ys is = absurd (cc)
value_code_split (Text a) (Int (negsuc n)) xs ys is = absurd (cc)
value_code_split Undefined Undefined xs ys is = let rest : xs ≡ ys = cc in (refl, rest)
value_code_split Undefined (Int (pos n)) xs ys is = absurd (cc)
value_code_split Undefined (Int (negsuc n)) xs ys is = absurd (cc)
value_code_split Undefined (Text b) xs ys is = absurd (cc)
value_code_split (Int (pos m)) Undefined xs ys is = absurd (cc)
value_code_split (Int (negsuc m)) Undefined xs ys is = absurd (cc)
value_code_split (Text a) Undefined xs ys is = absurd (cc)

values_code_same : (vs ws : List Value) → values_code vs ≡ values_code ws → vs ≡ ws
values_code_same [] [] is = refl
values_code_same (v ∷ vs) (w ∷ ws) is =
    let parts = value_code_split v w (values_code vs) (values_code ws) is in
    λ i. parts.0 i ∷ values_code_same vs ws parts.1 i
values_code_same [] (Int (pos n) ∷ ws) is = absurd (cc)
values_code_same [] (Int (negsuc n) ∷ ws) is = absurd (cc)
values_code_same [] (Text b ∷ ws) is = absurd (cc)
values_code_same [] (Undefined ∷ ws) is = absurd (cc)
values_code_same (Int (pos n) ∷ vs) [] is = absurd (cc)
values_code_same (Int (negsuc n) ∷ vs) [] is = absurd (cc)
values_code_same (Text b ∷ vs) [] is = absurd (cc)
values_code_same (Undefined ∷ vs) [] is = absurd (cc)

pub same_item : (a b : Item) → item_code a ≡ item_code b → a ≡ b
same_item (Segment m) (Segment n) is = let bytes : m.bytes ≡ n.bytes = cc in ap Segment (same_name m n bytes)
same_item (Relation m) (Relation n) is = let bytes : m.bytes ≡ n.bytes = cc in ap Relation (same_name m n bytes)
same_item (Tuple m s) (Tuple n t) is =
    let bytes : m.bytes ≡ n.bytes = cc in
    let names : m ≡ n = same_name m n bytes in
    let pages : s.page ≡ t.page = cc in
    let slots : s.slot ≡ t.slot = cc in
    let tids : s ≡ t = same_tid s t pages slots in
    λ i. Tuple (names i) (tids i)
same_item (Chain m None) (Chain n None) is = let bytes : m.bytes ≡ n.bytes = cc in ap (λ (l : Name). Chain l None) (same_name m n bytes)
same_item (Chain m (Some s)) (Chain n (Some t)) is =
    let bytes : m.bytes ≡ n.bytes = cc in
    let names : m ≡ n = same_name m n bytes in
    let pages : s.page ≡ t.page = cc in
    let slots : s.slot ≡ t.slot = cc in
    let tids : s ≡ t = same_tid s t pages slots in
    λ i. Chain (names i) (Some (tids i))
same_item (Chain m None) (Chain n (Some t)) is = absurd (cc)
same_item (Chain m (Some s)) (Chain n None) is = absurd (cc)
same_item (Key m vs) (Key n ws) is =
    let long : length m.bytes ≡ length n.bytes = cc in
    let rest : m.bytes ++ values_code vs ≡ n.bytes ++ values_code ws = cc in
    let parts = split_alike m.bytes n.bytes (values_code vs) (values_code ws) long rest in
    let names : m ≡ n = same_name m n parts.0 in
    let values : vs ≡ ws = values_code_same vs ws parts.1 in
    λ i. Key (names i) (values i)
same_item (Chain m None) b is = absurd (cc)
same_item (Chain m (Some s)) b is = absurd (cc)
same_item a (Chain n None) is = absurd (cc)
same_item a (Chain n (Some t)) is = absurd (cc)
same_item a b is = absurd (cc)

pub item_total : IsTotalOrder item_cmp
item_total = on_texts item_code

pub item_apart : IsAntisymmetric item_cmp
item_apart a b tie = same_item a b (slice_cmp-IsAntisymmetric nat_cmp-IsAntisymmetric (item_code a) (item_code b) tie)

pub name_total : IsTotalOrder name_cmp
name_total = on_texts (λ (n : Name). n.bytes)

pub name_apart : IsAntisymmetric name_cmp
name_apart a b tie = same_name a b (slice_cmp-IsAntisymmetric nat_cmp-IsAntisymmetric a.bytes b.bytes tie)
