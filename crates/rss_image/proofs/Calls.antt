-- Calls on pages, by what the image pages hold.
use Rattle.std.proofs.Common.{if◌then◌else◌, ◌≡◌, ◌≢◌, inl, inr, ⊎_elim, ℕ, ◌+◌, Bool, true, false, List, [], ◌∷◌, Option, Some, None, refl, sym, ◌∙◌, ap, subst, arith}
use Rattle.std.specs.Prelude.{Err, is_some}
use Rattle.rss_base.specs.DiskRule.{IsTold}
use Rattle.rss_base.specs.PageMap.{IsKey, page_count}
use Rattle.rss_base.specs.Paged.{Mapped, Held, page_key, mapped_pages}
use Rattle.rss_base.specs.Steps.{PagesView, Keys, PagesStep, PagesCall, AreCounted, WritesPage, TakesPage, GivesPage, no_page}
use Rattle.rss_base.specs.declared.fault.PageFault.{PageFault}
use Rattle.rss_base.specs.declared.fault.PageFault.TheVariants.{Device as DeviceFailed, Damaged, NoMemory}
use Rattle.rss_base.specs.declared.key.PageKey.{PageKey}
use Rattle.rss_base.specs.declared.place.Place.{Place}
use Rattle.rss_base.specs.declared.key.Space.TheVariants.{Image}
use Rattle.std.proofs.lemmas.Bool.{cond-true}
use Rattle.rss_base.specs.Paged.{is_same}
use Rattle.rss_base.proofs.Keys.{is_same-itself}
use Rattle.rss_base.proofs.Counts.{one_more}
use Rattle.rss_base.proofs.Steps.{written_here, held_off-with, mapped_off-with, all_held, all_mapped}
use Rattle.rss_base.specs.Entries.{Entry}
use Rattle.rss_node.specs.Nodes.{NodeView, IsNodeOf, Spells}
use Rattle.rss_node.specs.declared.pair.Nodes.{Nodes}
use Rattle.rss_image.specs.Trees.{cells_of, node_of, HoldsNode, HasNode, KeepsPages, LosesNoPage, Writes}
use Rattle.rss_levels.specs.Entries.{IsIn}
use Rattle.rss_levels.proofs.Pages.{same_or_not, loses_both}

-- a page is found damaged, on a device that doesn't tell its contents
pub damage : {T : Type 0} {touched : Keys} {asks outs : ℕ} {old new : PagesView} {fault : PageFault} {place : Place} → PagesStep touched asks outs old new → fault ≡ Damaged place → (IsTold old.disk → ⊥) → PagesCall {T = T} touched asks outs old new (Err fault)
damage {fault = fault} {place = place} step is never = record {
  step = step;
  failed = λ other. let same : fault ≡ DeviceFailed = cc in let both : Damaged place ≡ DeviceFailed = sym is ∙ same in absurd (cc);
  sound = λ there other told. never told;
  memory = λ other. let same : fault ≡ NoMemory = cc in let both : Damaged place ≡ NoMemory = sym is ∙ same in absurd (cc);
}

pub node_is : (of : Nodes) (level number : ℕ) (node : NodeView) → IsNodeOf of level number node → node ≡ node_of of level number node.next node.entries
node_is of level number node is = λ i. record { width = is.width i; segment = is.segment i; image = is.image i; level = is.level_is i; number = is.number_is i; next = node.next; entries = node.entries }

pub is_node_of : (of : Nodes) (level number next : ℕ) (entries : List Entry) → IsNodeOf of level number (node_of of level number next entries)
is_node_of of level number next entries = record { width = refl; segment = refl; image = refl; level_is = refl; number_is = refl }

-- what is held is mapped
pub held_mapped : (view : PagesView) → ((key : PageKey) → is_some (view.held key) ≡ view.mapped key) → (key : PageKey) (bytes : List ℕ) → view.held key ≡ Some bytes → view.mapped key ≡ true
held_mapped view law key bytes held = sym (law key) ∙ ap is_some held

none_of : (c : Option (List ℕ)) → is_some c ≡ false → c ≡ None
none_of None is = refl
none_of (Some bytes) is = cc

pub unmapped_none : (view : PagesView) → ((key : PageKey) → is_some (view.held key) ≡ view.mapped key) → (key : PageKey) → view.mapped key ≡ false → view.held key ≡ None
unmapped_none view law key free = none_of (view.held key) (law key ∙ free)

-- a page that was brought into memory, by the bytes that are lent
pub lent_page : {asks outs : ℕ} (of : Nodes) (number : ℕ) (key : PageKey) (page : List ℕ) (old new : PagesView) → PagesStep no_page asks outs old new → key ≡ page_key of.segment Image number → (IsTold new.disk → new.held key ≡ Some page) → IsTold old.disk → cells_of of old.held number ≡ Some page
lent_page of number key page old new step at there told = sym (ap (λ (h : Held). cells_of of h number) (all_held step told)) ∙ sym (ap new.held at) ∙ there (step.passes.leaves.told.0 told)

-- the node that was read
pub read_holds : (of : Nodes) (level number : ℕ) (held : Held) (page : List ℕ) (node : NodeView) → cells_of of held number ≡ Some page → Spells page node → IsNodeOf of level number node → HoldsNode of held level number node.next node.entries
read_holds of level number held page node there spelled is = record {
  bytes = page;
  held = there;
  spells = subst (λ (n : NodeView). Spells page n) (node_is of level number node is) spelled;
}

-- the bytes of a page that holds a node spell it
pub page_spells : (of : Nodes) (level number next : ℕ) (entries : List Entry) (held : Held) (page : List ℕ) → cells_of of held number ≡ Some page → HoldsNode of held level number next entries → Spells page (node_of of level number next entries)
page_spells of level number next entries held page there holds =
    let same : Some holds.bytes ≡ Some page = sym holds.held ∙ there in
    let bytes : holds.bytes ≡ page = cc in
    subst (λ (l : List ℕ). Spells l (node_of of level number next entries)) bytes holds.spells

-- and so they spell one
pub never_ill : (of : Nodes) (level number : ℕ) (held : Held) (page : List ℕ) → cells_of of held number ≡ Some page → HasNode of held level number → ((node : NodeView) → IsNodeOf of level number node → Spells page node → ⊥) → ⊥
never_ill of level number held page there has none = none (node_of of level number has.next has.entries) (is_node_of of level number has.next has.entries) (page_spells of level number has.next has.entries held page there has.holds)

key_number : (a b : PageKey) → a ≡ b → a.number ≡ b.number
key_number a b is = ap (λ (k : PageKey). k.number) is

-- a page was written
pub node_written : (of : Nodes) (level number : ℕ) (key : PageKey) (page : List ℕ) (node : NodeView) (old new : PagesView) → key ≡ page_key of.segment Image number → Spells page node → IsNodeOf of level number node → WritesPage key page old new → IsTold old.disk → Writes of level number node old new
node_written of level number key page node old new at spelled is does told = record {
  holds = record { bytes = page; held = sym (ap new.held at) ∙ written_here key old new does told; spells = subst (λ (n : NodeView). Spells page n) (node_is of level number node is) spelled };
  keeps = record { same = λ n bytes off was. held_off-with key old new (Some page) (does.held told) (page_key of.segment Image n) (λ is. off (inl (sym (key_number (page_key of.segment Image n) (page_key of.segment Image number) (is ∙ at))))) ∙ was };
  loses_none = λ n is. ⊎_elim (λ (there : IsIn (number ∷ []) n). inl there) (λ (none : old.held (page_key of.segment Image n) ≡ None). ⊎_elim
      (λ (here : number ≡ n). inl (inl here))
      (λ (off : number ≡ n → ⊥). inr (held_off-with key old new (Some page) (does.held told) (page_key of.segment Image n) (λ is. off (sym (key_number (page_key of.segment Image n) (page_key of.segment Image number) (is ∙ at)))) ∙ none))
      (same_or_not number n)) is;
}

-- a page was taken
pub page_taken : (of : Nodes) (key : PageKey) (old new : PagesView) → TakesPage key old new → old.held key ≡ None → IsTold old.disk → KeepsPages of [] old new
page_taken of key old new does none told = record { same = λ n bytes off was. held_off-with key old new _ (does.held told) (page_key of.segment Image n) (λ is. let never : Some bytes ≡ None = sym was ∙ ap old.held is ∙ none in absurd (cc)) ∙ was }

-- no page is lost where one was taken
pub taken_loses : (of : Nodes) (number : ℕ) (old new : PagesView) → TakesPage (page_key of.segment Image number) old new → IsTold old.disk → LosesNoPage of [] (number ∷ []) old new
taken_loses of number old new does told n is = ⊎_elim (λ (there : ⊥). absurd there) (λ (none : old.held (page_key of.segment Image n) ≡ None). ⊎_elim
    (λ (here : number ≡ n). inl (inl here))
    (λ (off : number ≡ n → ⊥). inr (held_off-with (page_key of.segment Image number) old new _ (does.held told) (page_key of.segment Image n) (λ is. off (sym (key_number (page_key of.segment Image n) (page_key of.segment Image number) is))) ∙ none))
    (same_or_not number n)) is

-- and none where one was given
pub given_loses : (of : Nodes) (number : ℕ) (key : PageKey) (old new : PagesView) → key ≡ page_key of.segment Image number → GivesPage key old new → IsTold old.disk → LosesNoPage of (number ∷ []) [] old new
given_loses of number key old new at does told n is = inr (⊎_elim (gone n) (λ (none : old.held (page_key of.segment Image n) ≡ None). ⊎_elim
    (λ (here : number ≡ n). gone n (inl here))
    (λ (off : number ≡ n → ⊥). held_off-with key old new None (does.held told) (page_key of.segment Image n) (λ is. off (sym (key_number (page_key of.segment Image n) (page_key of.segment Image number) (is ∙ at)))) ∙ none)
    (same_or_not number n)) is)
  where
    there : new.held key ≡ None
    there = ap (λ (h : Held). h key) (does.held told) ∙ cond-true (is_same key key) None (old.held key) (is_same-itself key)

    gone : (n : ℕ) → IsIn (number ∷ []) n → new.held (page_key of.segment Image n) ≡ None
    gone n is = ⊎_elim (λ (same : number ≡ n). sym (ap new.held (at ∙ ap (page_key of.segment Image) same)) ∙ there) (λ (none : ⊥). absurd none) is

pub spare_taken : (old new : PagesView) (key : PageKey) → AreCounted old → AreCounted new → new.slots ≡ old.slots → new.backing ≡ old.backing → IsKey old.slots key → old.mapped key ≡ false → new.mapped key ≡ true → ((other : PageKey) → (other ≡ key → ⊥) → new.mapped other ≡ old.mapped other) → old.spare ≡ new.spare + 1
spare_taken old new key one two slots backing allowed free taken others =
    let more : mapped_pages old.slots new.mapped ≡ mapped_pages old.slots old.mapped + 1 = one_more old.mapped new.mapped old.slots key allowed free taken others in
    let counted : new.spare + mapped_pages old.slots new.mapped + page_count old.backing.shadow ≡ old.slots = (λ i. new.spare + mapped_pages (sym slots i) new.mapped + page_count ((sym backing i).shadow)) ∙ two ∙ slots in
    omega (arith, more, one, counted)

-- a step that touched nothing
pub keeps_none : {asks outs : ℕ} (of : Nodes) (old new : PagesView) → PagesStep no_page asks outs old new → IsTold old.disk → cells_of of new.held ≡ cells_of of old.held
keeps_none of old new step told = ap (λ (h : Held). cells_of of h) (all_held step told)

pub taken_mapped : (old new : PagesView) (key : PageKey) → TakesPage key old new → new.mapped key ≡ true
taken_mapped old new key does = ap (λ (m : Mapped). m key) does.mapped ∙ cond-true (is_same key key) true (old.mapped key) (is_same-itself key)

cond_grows : (test now : Bool) → now ≡ true → (if test then true else now) ≡ true
cond_grows true now is = refl
cond_grows false now is = is

pub taken_grows : (old new : PagesView) (key : PageKey) → TakesPage key old new → (other : PageKey) → old.mapped other ≡ true → new.mapped other ≡ true
taken_grows old new key does other is = ap (λ (m : Mapped). m other) does.mapped ∙ cond_grows (is_same other key) (old.mapped other) is

pub spare_kept : (old new : PagesView) → AreCounted old → AreCounted new → new.slots ≡ old.slots → new.backing ≡ old.backing → new.mapped ≡ old.mapped → new.spare ≡ old.spare
spare_kept old new one two slots backing mapped =
    let counted : new.spare + mapped_pages old.slots old.mapped + page_count old.backing.shadow ≡ old.slots = (λ i. new.spare + mapped_pages (sym slots i) (sym mapped i) + page_count ((sym backing i).shadow)) ∙ two ∙ slots in
    omega (arith, one, counted)

-- ---- a node is divided

pub record Divides (of : Nodes) (level number other : ℕ) (left right : NodeView) (old new : PagesView) : Type 0 where
  pub left_held : HoldsNode of new.held level number left.next left.entries
  pub right_held : HoldsNode of new.held level other right.next right.entries
  pub keeps : KeepsPages of (number ∷ []) old new
  pub loses_none : LosesNoPage of (number ∷ []) (number ∷ other ∷ []) old new

pub divides : (of : Nodes) (level number other : ℕ) (left right : NodeView) (old one two new : PagesView) → is_some (old.held (page_key of.segment Image number)) ≡ true → cells_of of old.held other ≡ None
    → KeepsPages of [] old one → LosesNoPage of [] (other ∷ []) old one → Writes of level other right one two → Writes of level number left two new → Divides of level number other left right old new
divides of level number other left right old one two new there fresh taken loses put_right put_left =
    let apart : other ≢ number = λ same. let never : true ≡ false = sym there ∙ ap (λ (n : ℕ). is_some (cells_of of old.held n)) (sym same) ∙ ap is_some fresh in absurd (cc) in
    record {
      left_held = put_left.holds;
      right_held = record { bytes = put_right.holds.bytes; held = put_left.keeps.same other put_right.holds.bytes (λ is. ⊎_elim (λ (same : number ≡ other). apart (sym same)) (λ (none : ⊥). none) is) put_right.holds.held; spells = put_right.holds.spells };
      keeps = record {
        same = λ n bytes off was.
            let not_other : other ≢ n = λ same. let never : Some bytes ≡ None = sym was ∙ ap (cells_of of old.held) (sym same) ∙ fresh in absurd (cc) in
            put_left.keeps.same n bytes off (put_right.keeps.same n bytes (λ is. ⊎_elim not_other (λ (none : ⊥). none) is) (taken.same n bytes (λ is. is) was));
      };
      loses_none = loses_both [] (other ∷ []) (number ∷ []) (number ∷ []) (cells_of of old.held) (cells_of of two.held) (cells_of of new.held) (λ n is. put_right.loses_none n (loses n is)) put_left.loses_none;
    }

pub spare_rests : {asks outs : ℕ} (old new : PagesView) → PagesStep no_page asks outs old new → AreCounted old → AreCounted new → new.spare ≡ old.spare
spare_rests old new step one two = spare_kept old new one two step.passes.slots step.passes.backing (all_mapped step)

pub held_is_mapped : (of : Nodes) (view : PagesView) (level number next : ℕ) (entries : List Entry) → ((key : PageKey) → is_some (view.held key) ≡ view.mapped key) → HoldsNode of view.held level number next entries → view.mapped (page_key of.segment Image number) ≡ true
held_is_mapped of view level number next entries law holds = held_mapped view law (page_key of.segment Image number) holds.bytes holds.held

-- a page was given
pub given_unmapped : (old new : PagesView) (key one : PageKey) → one ≡ key → GivesPage one old new → new.mapped key ≡ false
given_unmapped old new key one at does = subst (λ (k : PageKey). new.mapped k ≡ false) at (ap (λ (m : Mapped). m one) does.mapped ∙ cond-true (is_same one one) false (old.mapped one) (is_same-itself one))

pub spare_given : (old new : PagesView) (one : PageKey) → AreCounted old → AreCounted new → new.slots ≡ old.slots → new.backing ≡ old.backing → IsKey old.slots one → old.mapped one ≡ true → GivesPage one old new → new.spare ≡ old.spare + 1
spare_given old new one before now slots backing allowed there does =
    spare_taken new old one now before (sym slots) (sym backing) (subst (λ (n : ℕ). IsKey n one) (sym slots) allowed) (given_unmapped old new one one refl does) there (λ other off. sym (mapped_off-with one old new false does.mapped other off))
