-- What the items hold once one of them is put.
use Rattle.std.proofs.Common.{◌≡◌, ◌≢◌, true, false, cond, refl, ◌∙◌, ap}
use Rattle.std.specs.Prelude.{Option, Some, None}
use Rattle.std.proofs.lemmas.Bool.{cond-true, cond-false}
use Rattle.std.specs.Ordering.{eq_by_cmp, is_eq}
use Rattle.std.specs.Cmp.{IsTotalOrder, Equal-is, tied_itself}
use Rattle.std.specs.FinMap.{IsAntisymmetric, get-insert, get-remove}
use Rattle.std.specs.declared.cmp.Ordering.{Ordering}
use Rattle.rss_base.specs.declared.item.Item.{Item}
use Rattle.rss_model.specs.Items.{Content, item_cmp}
use Rattle.rss_model.specs.Tables.{Contents, content, put}
use Rattle.rss_model.proofs.Codes.{item_total, item_apart}

module _ {K : Type 0} {R : K → K → Ordering} (total : IsTotalOrder R) (apart : IsAntisymmetric R) where
  pub tied : (a : K) → eq_by_cmp R a a ≡ true
  tied a = ap is_eq (tied_itself total a)

  pub not_tied : (a b : K) → a ≢ b → eq_by_cmp R a b ≡ false
  not_tied a b other = elim (is_eq (R a b)) as (λ t. is_eq (R a b) ≡ t → t ≡ false) [
    | true ↦ λ e. absurd (other (apart a b ((Equal-is (R a b)).0 e)))
    | false ↦ λ e. refl
  ] refl

-- items that tie are one
pub same_item_of : (a b : Item) → eq_by_cmp item_cmp a b ≡ true → a ≡ b
same_item_of a b tie = item_apart a b ((Equal-is (item_cmp a b)).0 tie)

-- ---- an item that is put

pub content_put : (contents : Contents) (item : Item) (held : Option Content) (q : Item) → content (put contents item held) q ≡ cond (eq_by_cmp item_cmp q item) held (content contents q)
unfolding put
content_put contents item None q = get-remove item_total contents item q
content_put contents item (Some held) q = get-insert item_total contents item held q

pub content_here : (contents : Contents) (item : Item) (held : Option Content) → content (put contents item held) item ≡ held
content_here contents item held = content_put contents item held item ∙ cond-true _ _ _ (tied item_total item_apart item)

pub content_elsewhere : (contents : Contents) (item : Item) (held : Option Content) (q : Item) → q ≢ item → content (put contents item held) q ≡ content contents q
content_elsewhere contents item held q other = content_put contents item held q ∙ cond-false _ _ _ (not_tied item_total item_apart q item other)
