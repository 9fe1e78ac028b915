-- Facts of a tuple store of which any two proofs are equal.
use Rattle.std.proofs.Common.{◌≡◌, ◌⊎◌, inl, inr, ℕ, List, Option, sym, ◌∙◌, ap}
use Rattle.std.proofs.Props.{props}
use mathlib.Core.HLevel.{is_prop→PathP}
use mathlib.Core.Sum.{⊎_set}
use Rattle.rss_base.specs.Steps.{PagesView}
use Rattle.rss_base.specs.declared.key.Space.{Space}
use Rattle.rss_base.specs.declared.key.Space.TheVariants.{Home, Overflow}
use Rattle.rss_base.specs.declared.key.PageKey.{PageKey}
use Rattle.rss_page.specs.declared.entry_form.Entry.{Entry}
use Rattle.rss_page.specs.declared.entry_form.Entry.TheVariants.{Empty as EmptyEntry, Here as HereEntry, Forward as ForwardEntry}
use Rattle.rss_page.specs.Content.{Content, Here, Forward}
use Rattle.rss_page.specs.Slotted.{IsAllowed}
use Rattle.rss_tuple.specs.Directory.{Entries}
use Rattle.rss_tuple.specs.Heaps.{IsHeap, HasBody, IsLed, AreLinked, AreHeaps}

-- ---- one of two facts that exclude each other

pub apart_prop : {A B : Type 0} → IsProp A → IsProp B → (A → B → ⊥) → IsProp (A ⊎ B)
apart_prop a b apart (inl x) (inl y) = ap inl (a x y)
apart_prop a b apart (inl x) (inr y) = absurd (apart x y)
apart_prop a b apart (inr x) (inl y) = absurd (apart y x)
apart_prop a b apart (inr x) (inr y) = ap inr (b x y)

pub heap_key-prop : (space : Space) → IsProp ((space ≡ Home) ⊎ (space ≡ Overflow))
heap_key-prop space = apart_prop (hlevel props) (hlevel props) (λ home over. absurd (cc))

-- ---- one page

pub IsAllowed-prop : (space : ℕ) (entry : Entry) → IsProp (IsAllowed space entry)
IsAllowed-prop space EmptyEntry = hlevel props
IsAllowed-prop space (HereEntry place length) = hlevel props
IsAllowed-prop space (ForwardEntry page slot) = hlevel props

pub IsHeap-prop : (key : PageKey) (bytes : List ℕ) (note : Option ℕ) → IsProp (IsHeap key bytes note)
IsHeap-prop key bytes note = hlevel (props, heap_key-prop, IsAllowed-prop)

-- ---- forwards and their goals

Content-set : IsSet Content
Content-set = hlevel (props, ⊎_set)

HasBody-prop : (content : Content) → IsProp (HasBody content)
HasBody-prop content x y =
    let goal : Here x.body ≡ Here y.body = sym x.is ∙ y.is in
    let same : x.body ≡ y.body = cc in
    λ i. record {
      body = same i;
      is = is_prop→PathP (λ j. content ≡ Here (same j)) (λ j. Content-set content (Here (same j))) x.is y.is i;
    }

module _ {home overflow : Entries} (linked : AreLinked home overflow) where
  -- one entry leads there alone
  IsLed-prop : (page slot : ℕ) → IsProp (IsLed home page slot)
  IsLed-prop page slot x y =
      let same = linked.once y.from_page y.from_slot x.from_page x.from_slot page slot y.forward x.forward in
      λ i. record {
        from_page = same.0 i;
        from_slot = same.1 i;
        forward = is_prop→PathP (λ j. home (same.0 j) (same.1 j) ≡ Forward page slot) (λ j. Content-set (home (same.0 j) (same.1 j)) (Forward page slot)) x.forward y.forward i;
      }

pub AreLinked-prop : (home overflow : Entries) → IsProp (AreLinked home overflow)
AreLinked-prop home overflow x y = λ i. record {
  leads = λ page slot to_page to_slot is. HasBody-prop (overflow to_page to_slot) (x.leads page slot to_page to_slot is) (y.leads page slot to_page to_slot is) i;
  led = λ page slot some. IsLed-prop x page slot (x.led page slot some) (y.led page slot some) i;
  once = λ page slot other_page other_slot to_page to_slot one two. each (x.once page slot other_page other_slot to_page to_slot one two) (y.once page slot other_page other_slot to_page to_slot one two) i;
}
  where
    each : {a b c d : ℕ} → IsProp ((a ≡ b) × (c ≡ d))
    each = hlevel props

pub AreHeaps-prop : (view : PagesView) → IsProp (AreHeaps view)
AreHeaps-prop view = hlevel (props, IsHeap-prop, AreLinked-prop)
