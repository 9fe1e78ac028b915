-- An entry of a home page, and the entry of an overflow page to which it leads.
use Rattle.std.proofs.Common.{◌≡◌, ℕ, Bool, true, false, List, Option, Some, refl, sym, ◌∙◌, ap, subst}
use Rattle.std.specs.Prelude.{is_some}
use Rattle.rss_base.specs.Paged.{Held, page_key}
use Rattle.rss_base.specs.declared.key.Space.TheVariants.{Overflow}
use Rattle.rss_page.specs.Content.{Content, Empty, Here, Forward}
use Rattle.rss_page.specs.Slotted.{entries}
use Rattle.rss_page.specs.Surveyed.{held_at}
use Rattle.rss_tuple.specs.Directory.{Entries, contents_in, overflows, body_in}
use Rattle.rss_tuple.specs.Heaps.{HasBody}
use Rattle.rss_tuple.specs.Flaws.{IsBodyRight}
use Rattle.rss_tuple.specs.Looks.{IsMarked, HasGood, MayHold, MayStand}
use Rattle.rss_tuple.proofs.Seen.{some_there}

-- it leads to a body that may stand there, and that wasn't marked
pub holds_moved : (overflow : Entries) (marks : List ℕ) (is_good : List ℕ → Bool) (page slot : ℕ) (content : Content) → overflow page slot ≡ content → (IsMarked marks page slot → ⊥) → HasGood is_good content → MayHold overflow marks is_good (Forward page slot)
holds_moved overflow marks is_good page slot content there fresh has = record {
  leads = λ p s is. subst (λ (c : Content). HasBody c) (same p s is) (record { body = has.body; is = there ∙ has.is });
  fresh = λ p s is marked. fresh (back p s is marked);
  good = λ body is. subst (λ (b : List ℕ). IsBodyRight is_good b) (the_body body (sym (ap body_in (there ∙ has.is)) ∙ is)) has.good;
}
  where
    same : (p s : ℕ) → Forward page slot ≡ Forward p s → overflow page slot ≡ overflow p s
    same p s is = let one : page ≡ p = cc in let two : slot ≡ s = cc in cc

    back : (p s : ℕ) → Forward page slot ≡ Forward p s → IsMarked marks p s → IsMarked marks page slot
    back p s is marked =
        let one : p ≡ page = cc in
        let two : s ≡ slot = cc in
        subst (λ (n : ℕ). IsMarked marks n slot) one (subst (λ (n : ℕ). IsMarked marks p n) two marked)

    the_body : (body : List ℕ) → Some has.body ≡ Some body → has.body ≡ body
    the_body body is = cc

-- what the entry of a page holds
pub content_of_page : (held : Held) (segment page slot : ℕ) (bytes : List ℕ) → held (page_key segment Overflow page) ≡ Some bytes → overflows held segment page slot ≡ held_at (entries bytes) slot
content_of_page held segment page slot bytes is = ap (λ (p : Option (List ℕ)). held_at (contents_in p) slot) is

module _ (held : Held) (segment : ℕ) (marks : List ℕ) (is_good : List ℕ → Bool) (page slot : ℕ) (sound : MayStand held segment marks is_good (Forward page slot)) where
  -- so a page is mapped where it leads
  pub leads_somewhere : is_some (held (page_key segment Overflow page)) ≡ false → ⊥
  leads_somewhere none =
      let has = sound.holds.leads page slot refl in
      let there : is_some (held (page_key segment Overflow page)) ≡ true = some_there held (page_key segment Overflow page) slot (λ empty. let never : Here has.body ≡ Empty = sym has.is ∙ empty in cc) in
      let never : true ≡ false = sym there ∙ none in cc

  -- and a body that may stand there
  pub leads_to_good : (content : Content) → overflows held segment page slot ≡ content → HasGood is_good content
  leads_to_good content there =
      let has = sound.holds.leads page slot refl in
      record { body = has.body; is = sym there ∙ has.is; good = sound.holds.good has.body (ap body_in has.is) }
