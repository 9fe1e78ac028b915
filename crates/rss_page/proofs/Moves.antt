-- Bodies that are moved together, one after the other.
use Rattle.std.proofs.Common.{◌≡◌, inl, inr, ℕ, ◌+◌, ◌<◌, ◌≤◌, List, take, set, get_or, refl, sym, ◌∙◌, ap, subst, arith, get_or-set_same, get_or-set_other}
use Rattle.std.proofs.lemmas.Bool.{cases_eq}
use Rattle.std.proofs.lemmas.List.{take_all}
use Rattle.std.proofs.lemmas.List.Sums.{sum_by_more, sum_by-take-le}
use Rattle.rss_page.specs.declared.entry_form.Entry.{Entry}
use Rattle.rss_page.specs.Content.{Content, Empty, Here, body_length}
use Rattle.rss_page.specs.Slotted.{part, entry_of, entries, content_of, body_bytes, place_of, length_of, IsSlotted, Becomes, EndBy, OthersEndBy, OthersStay}
use Rattle.rss_page.proofs.Contents.{length-entries, entries_at, entries_are, no_place}
use Rattle.rss_page.proofs.Sums.{bodies_fit}

-- where an entry now holds no body, the bodies end where they did
pub ends_without : (old new : List ℕ) (slot end : ℕ) (content : Content) → Becomes old new (set (entries old) slot content) → OthersStay old new slot → OthersEndBy old slot end → slot < 128 → ((body : List ℕ) → content ≡ Here body → ⊥) → EndBy new end
ends_without old new slot end content becomes stay ends low not other other_low = elim (cases_eq other slot) [
  | inl same ↦ subst (λ (n : ℕ). place_of (entry_of new n) + length_of (entry_of new n) ≤ end) (sym same) (omega (arith, no_place new (entry_of new slot) (λ body is. not body (sym (holds_now) ∙ is))))
  | inr differ ↦ subst (λ (e : Entry). place_of e + length_of e ≤ end) (sym (stay other other_low differ)) (ends other other_low differ)
]
  where
    holds_now : content_of new (entry_of new slot) ≡ content
    holds_now = sym (entries_at new slot low) ∙ ap (λ (l : List Content). get_or l slot Empty) becomes.holds ∙ get_or-set_same (entries old) slot content Empty (omega (arith, length-entries old))

-- the first entries were moved to a page in which bodies stand together
pub record AreMoved (from page : List ℕ) (count end : ℕ) : Type 0 where
  pub header : part page 0 16 ≡ part from 0 16
  pub slotted : IsSlotted page
  pub same : (slot : ℕ) → slot < count → get_or (entries page) slot Empty ≡ get_or (entries from) slot Empty
  pub ends : EndBy page end
  pub close : end ≡ 1040 + body_bytes (take count (entries from))

-- the next one has room
pub move_fits : (from page : List ℕ) (slot end : ℕ) → IsSlotted from → slot < 128 → AreMoved from page slot end → end + body_length (get_or (entries from) slot Empty) ≤ 4096
move_fits from page slot end is low moved = omega (arith, moved.close, sum_by_more body_length (entries from) slot Empty (omega (arith, length-entries from)), sum_by-take-le body_length (entries from) (slot + 1), bodies_fit from is)

pub move_more : (from page new : List ℕ) (slot end now : ℕ) → slot < 128 → AreMoved from page slot end → Becomes page new (set (entries page) slot (get_or (entries from) slot Empty)) → EndBy new now → now ≡ end + body_length (get_or (entries from) slot Empty) → AreMoved from new (slot + 1) now
move_more from page new slot end now low moved becomes ends is = record {
  header = becomes.header ∙ moved.header;
  slotted = becomes.slotted;
  same = λ other few. ap (λ (l : List Content). get_or l other Empty) becomes.holds ∙ elim (cases_eq other slot) [
    | inl here ↦ subst (λ (n : ℕ). get_or (set (entries page) slot (get_or (entries from) slot Empty)) n Empty ≡ get_or (entries from) n Empty) (sym here) (get_or-set_same (entries page) slot (get_or (entries from) slot Empty) Empty (omega (arith, length-entries page)))
    | inr differ ↦ get_or-set_other (entries page) slot other (get_or (entries from) slot Empty) Empty differ ∙ moved.same other (omega (arith, differ))
  ];
  ends = ends;
  close = omega (arith, is, moved.close, sum_by_more body_length (entries from) slot Empty (omega (arith, length-entries from)));
}

pub moved_all : (from page : List ℕ) (end : ℕ) → AreMoved from page 128 end → Becomes from page (entries from)
moved_all from page end moved = record {
  header = moved.header;
  slotted = moved.slotted;
  holds = entries_are page (entries from) (length-entries from) (λ slot low. sym (entries_at page slot low) ∙ moved.same slot low);
  formed = λ key was. record { space = was.space; header = moved.header ∙ was.header; slotted = moved.slotted };
}

pub moved_close : (from page : List ℕ) (end : ℕ) → AreMoved from page 128 end → end ≡ 1040 + body_bytes (entries from)
moved_close from page end moved = moved.close ∙ ap (λ (l : List Content). 1040 + body_bytes l) (take_all 128 (entries from) (omega (arith, length-entries from)))

-- one change after another
pub then_becomes : {old mid new : List ℕ} {first second : List Content} → Becomes old mid first → Becomes mid new second → Becomes old new second
then_becomes one two = record { header = two.header ∙ one.header; slotted = two.slotted; holds = two.holds; formed = λ key was. two.formed key (one.formed key was) }

pub moved_none : (from page : List ℕ) (now : List Content) → Becomes from page now → EndBy page 1040 → AreMoved from page 0 1040
moved_none from page now becomes ends = record { header = becomes.header; slotted = becomes.slotted; same = λ slot few. absurd (omega arith); ends = ends; close = refl }
