-- A line is cut into words in one way.
use Rattle.std.proofs.Common.{◌≡◌, ◌∙◌, ◌⊎◌, inl, inr, ℕ, suc, ◌+◌, ◌<◌, cond, length-append, Bool, true, false, not, ◌==◌, List, [], ◌∷◌, ◌++◌, length, get_or, drop, refl, ap, sym, subst, arith, append_assoc}
use Rattle.std.specs.Prelude.{◌≢◌, if◌then◌else◌}
use Rattle.std.specs.List.{list_all, prefix_len}
use Rattle.std.proofs.lemmas.Bool.{cases_eq, eq-eqb, ne_eqb, eqb-true, eqb-false, and_parts, false≢true}
use Rattle.std.proofs.lemmas.List.Elements.{All-nil, All-cons, All-head, All-tail, All-append}
use Rattle.rss_model.specs.Spellings.{space, quote, doubled}
use Rattle.rss_model.specs.Script.{AreSpaces, IsApart, Begins}
use Rattle.rss_line.specs.Reads.{is_space, IsOff, IsBare, IsPlain, Skips, ReadsFront}

-- ---- lists that begin alike

pub same_head : {a b : ℕ} {x y : List ℕ} → a ∷ x ≡ b ∷ y → a ≡ b
same_head e = ap (λ l. get_or l 0 0) e

pub same_tail : {a b : ℕ} {x y : List ℕ} → a ∷ x ≡ b ∷ y → x ≡ y
same_tail e = ap (drop 1) e

pub not_empty : {b : ℕ} {x : List ℕ} → [] ≡ b ∷ x → ⊥
not_empty e = omega (arith, ap length e)

-- ---- a bare front

pub same_front : (v w x y : List ℕ) → IsBare v → IsBare w → IsApart x → IsApart y → v ++ x ≡ w ++ y → (v ≡ w) × (x ≡ y)
same_front [] [] x y bare_v bare_w at_x at_y e = (refl, e)
same_front [] (b ∷ w) [] y bare_v bare_w at_x at_y e = absurd (not_empty e)
same_front [] (b ∷ w) (c ∷ x) y bare_v bare_w at_x at_y e = absurd (All-head (λ n. n ≢ space) b w bare_w (sym (same_head e) ∙ at_x))
same_front (a ∷ v) [] x [] bare_v bare_w at_x at_y e = absurd (not_empty (sym e))
same_front (a ∷ v) [] x (c ∷ y) bare_v bare_w at_x at_y e = absurd (All-head (λ n. n ≢ space) a v bare_v (same_head e ∙ at_y))
same_front (a ∷ v) (b ∷ w) x y bare_v bare_w at_x at_y e =
    let rest = same_front v w x y (All-tail (λ n. n ≢ space) a v bare_v) (All-tail (λ n. n ≢ space) b w bare_w) at_x at_y (same_tail e) in
    (ap (λ n. n ∷ v) (same_head e) ∙ ap (λ l. b ∷ l) rest.0, rest.1)

-- ---- spaces before a word

-- what begins with no space
abbrev pub IsSolid : List ℕ → Type 0
IsSolid [] = ⊥
IsSolid (b ∷ bytes) = b ≢ space

pub plain_solid : (word : List ℕ) → IsPlain word → IsSolid word
plain_solid [] is = is.some refl
plain_solid (b ∷ word) is = All-head (λ n. n ≢ space) b word is.bare

pub cut : (s t new word rest : List ℕ) → AreSpaces s → AreSpaces t → IsOff space new → IsSolid word → s ++ new ≡ t ++ (word ++ rest) → new ≡ word ++ rest
cut [] [] new word rest in_s in_t off solid e = e
cut [] (b ∷ t) [] word rest in_s in_t off solid e = absurd (not_empty e)
cut [] (b ∷ t) (c ∷ new) word rest in_s in_t off solid e = absurd (off (same_head e ∙ All-head (λ n. n ≡ space) b t in_t))
cut (a ∷ s) [] new [] rest in_s in_t off solid e = absurd solid
cut (a ∷ s) [] new (b ∷ word) rest in_s in_t off solid e = absurd (solid (sym (same_head e) ∙ All-head (λ n. n ≡ space) a s in_s))
cut (a ∷ s) (b ∷ t) new word rest in_s in_t off solid e =
    cut s t new word rest (All-tail (λ n. n ≡ space) a s in_s) (All-tail (λ n. n ≡ space) b t in_t) off solid (same_tail e)

-- where spaces were skipped, what begins with a word does so at once
pub skipped : {old new word rest : List ℕ} → Skips old new → IsSolid word → Begins old word rest → new ≡ word ++ rest
skipped {new = new} {word = word} {rest = rest} skips solid begins =
    cut skips.spaces begins.spaces new word rest skips.before begins.before skips.off solid (sym skips.parts ∙ begins.parts)

pub unskipped : {old new word rest : List ℕ} → Skips old new → Begins new word rest → Begins old word rest
unskipped {word = word} {rest = rest} skips begins = record {
  spaces = skips.spaces ++ begins.spaces;
  before = All-append (λ n. n ≡ space) skips.spaces begins.spaces skips.before begins.before;
  parts = skips.parts ∙ (ap (λ l. skips.spaces ++ l) begins.parts ∙ sym (append_assoc skips.spaces begins.spaces (word ++ rest)));
  apart = begins.apart;
}

pub at_once : {bytes word rest : List ℕ} → bytes ≡ word ++ rest → IsApart rest → Begins bytes word rest
at_once parts apart = record { spaces = []; before = All-nil (λ n. n ≡ space); parts = parts; apart = apart }

no_word : (s word rest : List ℕ) → IsSolid word → AreSpaces (s ++ (word ++ rest)) → ⊥
no_word [] [] rest solid all = solid
no_word [] (b ∷ word) rest solid all = solid (All-head (λ n. n ≡ space) b (word ++ rest) all)
no_word (a ∷ s) word rest solid all = no_word s word rest solid (All-tail (λ n. n ≡ space) a (s ++ (word ++ rest)) all)

-- what stands among spaces is one
pub spaces_append : (s : List ℕ) (b : ℕ) (rest : List ℕ) → AreSpaces (s ++ b ∷ rest) → b ≡ space
spaces_append [] b rest all = All-head (λ n. n ≡ space) b rest all
spaces_append (a ∷ s) b rest all = spaces_append s b rest (All-tail (λ n. n ≡ space) a (s ++ b ∷ rest) all)

-- spaces alone begin with no word
pub no_begin : {bytes word rest : List ℕ} → AreSpaces bytes → IsSolid word → Begins bytes word rest → ⊥
no_begin {bytes = bytes} {word = word} {rest = rest} all solid begins =
    no_word begins.spaces word rest solid (subst AreSpaces begins.parts all)

-- the plain word that comes next
pub plain_next : {old mid front new word rest : List ℕ} → Skips old mid → ReadsFront mid front new → Begins old word rest → IsPlain word → (front ≡ word) × (new ≡ rest)
plain_next {front = front} {new = new} {word = word} {rest = rest} skips reads begins plain =
    same_front front word new rest reads.bare plain.bare reads.apart begins.apart
    (sym reads.parts ∙ skipped skips (plain_solid word plain) begins)

-- ---- a text

-- where a text stops: at the end, or at a quote with no other behind it
abbrev pub IsStop : List ℕ → Type 0
IsStop [] = Unit {0}
IsStop (b ∷ bytes) = (b ≡ quote) × IsOff quote bytes

-- what a byte of a text is written as
pub at_quote : (b : ℕ) (bytes : List ℕ) → b ≡ quote → doubled (b ∷ bytes) ≡ quote ∷ quote ∷ doubled bytes
at_quote b bytes is = ap (λ t. if t then quote ∷ quote ∷ doubled bytes else b ∷ doubled bytes) (eq-eqb b quote is)

pub off_quote : (b : ℕ) (bytes : List ℕ) → (b ≡ quote → ⊥) → doubled (b ∷ bytes) ≡ b ∷ doubled bytes
off_quote b bytes is = ap (λ t. if t then quote ∷ quote ∷ doubled bytes else b ∷ doubled bytes) (ne_eqb b quote is)

-- what begins with another byte doesn't begin with this one
pub no_second : {byte : ℕ} (x bytes : List ℕ) → IsOff byte x → x ≡ byte ∷ bytes → ⊥
no_second [] bytes off e = not_empty e
no_second (c ∷ x) bytes off e = off (same_head e)

no_stop : (b : ℕ) (bytes x y : List ℕ) → (b ≡ quote) ⊎ (b ≡ quote → ⊥) → IsStop x → x ≡ doubled (b ∷ bytes) ++ y → ⊥
no_stop b bytes [] y (inl is) stop e = not_empty (e ∙ ap (λ l. l ++ y) (at_quote b bytes is))
no_stop b bytes (c ∷ x) y (inl is) stop e = no_second x (doubled bytes ++ y) stop.1 (same_tail (e ∙ ap (λ l. l ++ y) (at_quote b bytes is)))
no_stop b bytes [] y (inr is) stop e = not_empty (e ∙ ap (λ l. l ++ y) (off_quote b bytes is))
no_stop b bytes (c ∷ x) y (inr is) stop e = is (sym (same_head (e ∙ ap (λ l. l ++ y) (off_quote b bytes is))) ∙ stop.0)

same_step : (a b : ℕ) (text bytes x y : List ℕ) → (doubled text ++ x ≡ doubled bytes ++ y → (text ≡ bytes) × (x ≡ y))
    → (a ≡ quote) ⊎ (a ≡ quote → ⊥) → (b ≡ quote) ⊎ (b ≡ quote → ⊥)
    → doubled (a ∷ text) ++ x ≡ doubled (b ∷ bytes) ++ y → (a ∷ text ≡ b ∷ bytes) × (x ≡ y)
same_step a b text bytes x y on (inl p) (inl q) e =
    let rest = on (same_tail (same_tail (ap (λ l. l ++ x) (sym (at_quote a text p)) ∙ (e ∙ ap (λ l. l ++ y) (at_quote b bytes q))))) in
    (ap (λ n. n ∷ text) (p ∙ sym q) ∙ ap (λ l. b ∷ l) rest.0, rest.1)
same_step a b text bytes x y on (inl p) (inr q) e =
    absurd (q (sym (same_head (ap (λ l. l ++ x) (sym (at_quote a text p)) ∙ (e ∙ ap (λ l. l ++ y) (off_quote b bytes q))))))
same_step a b text bytes x y on (inr p) (inl q) e =
    absurd (p (same_head (ap (λ l. l ++ x) (sym (off_quote a text p)) ∙ (e ∙ ap (λ l. l ++ y) (at_quote b bytes q)))))
same_step a b text bytes x y on (inr p) (inr q) e =
    let same = ap (λ l. l ++ x) (sym (off_quote a text p)) ∙ (e ∙ ap (λ l. l ++ y) (off_quote b bytes q)) in
    let rest = on (same_tail same) in
    (ap (λ n. n ∷ text) (same_head same) ∙ ap (λ l. b ∷ l) rest.0, rest.1)

-- a text is read in one way
pub same_text : (text bytes x y : List ℕ) → IsStop x → IsStop y → doubled text ++ x ≡ doubled bytes ++ y → (text ≡ bytes) × (x ≡ y)
same_text [] [] x y stop_x stop_y e = (refl, e)
same_text [] (b ∷ bytes) x y stop_x stop_y e = absurd (no_stop b bytes x y (cases_eq b quote) stop_x e)
same_text (a ∷ text) [] x y stop_x stop_y e = absurd (no_stop a text y x (cases_eq a quote) stop_y (sym e))
same_text (a ∷ text) (b ∷ bytes) x y stop_x stop_y e =
    same_step a b text bytes x y (same_text text bytes x y stop_x stop_y) (cases_eq a quote) (cases_eq b quote) e

pub apart_off : (x : List ℕ) → IsApart x → IsOff quote x
apart_off [] apart = tt
apart_off (b ∷ x) apart = λ is. omega (arith, is, apart)

-- ---- spaces by a test

pub spaces_from : (bytes : List ℕ) → list_all is_space bytes ≡ true → AreSpaces bytes
spaces_from [] test = All-nil (λ n. n ≡ space)
spaces_from (b ∷ bytes) test = let parts = and_parts (b == space) (list_all is_space bytes) test in
    All-cons (λ n. n ≡ space) b bytes (eqb-true b space parts.0) (spaces_from bytes parts.1)

pub spaces_test : (bytes : List ℕ) → AreSpaces bytes → list_all is_space bytes ≡ true
spaces_test [] all = refl
spaces_test (b ∷ bytes) all = rw (eq-eqb b space (All-head (λ n. n ≡ space) b bytes all)) (spaces_test bytes (All-tail (λ n. n ≡ space) b bytes all))

clash : (t : Bool) → t ≡ true → not t ≡ true → ⊥
clash true is off = false≢true off
clash false is off = false≢true is

pub bare_from : (bytes : List ℕ) → list_all (λ b. not (b == space)) bytes ≡ true → IsBare bytes
bare_from [] test = All-nil (λ n. n ≢ space)
bare_from (b ∷ bytes) test = let parts = and_parts (not (b == space)) (list_all (λ b. not (b == space)) bytes) test in
    All-cons (λ n. n ≢ space) b bytes (λ is. clash (b == space) (eq-eqb b space is) parts.0) (bare_from bytes parts.1)

-- spaces are skipped by how many there are
skips_one : (b : ℕ) (bytes : List ℕ) (t : Bool) → (b == space) ≡ t → Skips bytes (drop (prefix_len is_space bytes) bytes)
    → Skips (b ∷ bytes) (drop (cond t (1 + prefix_len is_space bytes) 0) (b ∷ bytes))
skips_one b bytes false is rest = record { spaces = []; before = All-nil (λ n. n ≡ space); parts = refl; off = eqb-false b space is }
skips_one b bytes true is rest =
    let one : suc (prefix_len is_space bytes) ≡ 1 + prefix_len is_space bytes = omega arith in
    subst (λ k. Skips (b ∷ bytes) (drop k (b ∷ bytes))) one (record {
      spaces = b ∷ rest.spaces;
      before = All-cons (λ n. n ≡ space) b rest.spaces (eqb-true b space is) rest.before;
      parts = ap (λ l. b ∷ l) rest.parts;
      off = rest.off;
    })

pub skips_counted : (bytes : List ℕ) → Skips bytes (drop (prefix_len is_space bytes) bytes)
skips_counted [] = record { spaces = []; before = All-nil (λ n. n ≡ space); parts = refl; off = tt }
skips_counted (b ∷ bytes) = skips_one b bytes (b == space) refl (skips_counted bytes)

-- what is left is shorter
pub shorter : {bytes word rest : List ℕ} → IsSolid word → Begins bytes word rest → length rest < length bytes
shorter {word = []} solid begins = absurd solid
shorter {bytes = bytes} {word = b ∷ word} {rest = rest} solid begins =
    omega (arith, ap length begins.parts, length-append begins.spaces ((b ∷ word) ++ rest), length-append (b ∷ word) rest)
