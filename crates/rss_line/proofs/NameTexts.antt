-- A name is read from its bytes.
use Rattle.std.proofs.Common.{◌≡◌, ◌∙◌, ℕ, ◌-◌, List, [], ◌∷◌, ◌++◌, length, replicate, ap, sym, subst, arith, refl}
use Rattle.rss_base.specs.declared.name.Name.{Name}
use Rattle.rss_base.specs.Names.{IsName, IsNameText}
use Rattle.rss_model.specs.Script.{IsNameWord}
use Rattle.rss_line.proofs.Plain.{name_is}

-- the bytes, and then zeros
abbrev pub padded : List ℕ → List ℕ
padded word = word ++ replicate (16 - length word) 0

is_from : (word : List ℕ) (name : Name) → IsNameText word → name.bytes ≡ padded word → (is : IsName name) × (is.first ∷ is.rest ≡ word)
is_from [] name text e = absurd text
is_from (first ∷ rest) name text e =
    let room : 16 - length (first ∷ rest) ≡ 15 - length rest = omega arith in
    let few = text.2 in
    (record { first = first; rest = rest; bytes = e ∙ ap (λ k. (first ∷ rest) ++ replicate k 0) room; letter = text.0; each = text.1; few = omega (arith, few) }, refl)

pub name_from : (word : List ℕ) (name : Name) → IsNameText word → name.bytes ≡ padded word → IsNameWord word name
name_from word name text e = let found = is_from word name text e in
    record { spelled = sym (name_is found.0 ∙ found.1); is_name = found.0 }

text_of : {name : Name} (is : IsName name) → IsNameText (is.first ∷ is.rest) × (name.bytes ≡ padded (is.first ∷ is.rest))
text_of is =
    let few = is.few in
    let room : 15 - length is.rest ≡ 16 - length (is.first ∷ is.rest) = omega arith in
    ((is.letter, is.each, omega (arith, few)), is.bytes ∙ ap (λ k. (is.first ∷ is.rest) ++ replicate k 0) room)

pub name_text_of : (word : List ℕ) (name : Name) → IsNameWord word name → IsNameText word × (name.bytes ≡ padded word)
name_text_of word name is = subst (λ (w : List ℕ). IsNameText w × (name.bytes ≡ padded w)) (sym (is.spelled ∙ name_is is.is_name)) (text_of is.is_name)

pub same_name : (x y : Name) → x.bytes ≡ y.bytes → x ≡ y
same_name x y e = ap (λ b. record { bytes = b }) e
