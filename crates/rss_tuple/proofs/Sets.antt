-- A page of which one entry was changed, among the others.
use Rattle.std.proofs.Common.{◌≡◌, ◌≢◌, inl, inr, ℕ, ◌+◌, ◌≤◌, ◌<◌, true, false, List, Option, Some, None, length, set, get_or, replicate, refl, sym, ◌∙◌, ap, subst, arith, get_or-set_same, get_or-set_other}
use Rattle.std.specs.Prelude.{is_some, Result, Ok, Err, IsErrAnd}
use Rattle.std.proofs.lemmas.Bool.{cases_Bool, cases_eq}
use Rattle.std.proofs.lemmas.List.Sums.{sum_by-set}
use Rattle.rss_base.specs.DiskRule.{IsTold}
use Rattle.rss_base.specs.Paged.{Held, is_same}
use Rattle.rss_base.specs.Notes.{Noted}
use Rattle.rss_base.specs.Steps.{PagesView, Keys, no_page, only, WritesPage, GivesPage, PagesStep, PagesCall}
use Rattle.rss_base.specs.declared.fault.PageFault.{PageFault}
use Rattle.rss_base.specs.declared.fault.PageFault.TheVariants.{Damaged}
use Rattle.rss_base.specs.declared.place.Place.TheVariants.{Page as PagePlace}
use Rattle.rss_base.specs.declared.key.PageKey.{PageKey}
use Rattle.rss_base.proofs.Keys.{is_same-true, is_same-itself}
use Rattle.rss_base.proofs.Steps.{written_here, untouched, then_call, fails, all_held}
use Rattle.std.proofs.lemmas.Bool.{cond-true}
use Rattle.rss_page.specs.Content.{Content, Empty, Here, body_length}
use Rattle.rss_page.specs.Slotted.{entries, HasRoom, Sets, IsHeader, IsHeapKey, IsWellFormed}
use Rattle.rss_page.specs.Surveyed.{held_at, IsVacant}
use Rattle.rss_page.proofs.Blanks.{blank_bytes}
use Rattle.rss_page.proofs.Contents.{length-entries}
use Rattle.rss_tuple.specs.Directory.{contents_in, content_at}
use Rattle.rss_tuple.specs.Heaps.{IsHeap, AreFormed}
use Rattle.rss_tuple.specs.Edits.{IsRead, IsCopied, HoldsAt, SetsEntry, FillsPage, Edits}
use Rattle.rss_tuple.proofs.Seen.{not_ok, on_ok_then, content_after, found_damaged}

-- ---- all pages, where one was changed

pub formed_but : {asks outs : ℕ} (key : PageKey) (old new : PagesView) → PagesStep (only key) asks outs old new → IsTold old.disk → AreFormed old → ((bytes : List ℕ) → new.held key ≡ Some bytes → IsHeap key bytes (new.notes key)) → AreFormed new
formed_but key old new step told formed here = λ other bytes heap is. elim (cases_Bool (is_same other key)) [
  | inl same ↦
      let at : key ≡ other = sym (is_same-true other key same) in
      subst (λ (k : PageKey). IsHeap k bytes (new.notes k)) at (here bytes (ap (λ (h : PageKey). new.held h) at ∙ is))
  | inr differ ↦
      let off = λ (is_key : other ≡ key). let same : is_same other key ≡ true = ap (λ (k : PageKey). is_same k key) is_key ∙ is_same-itself key in let never : true ≡ false = sym same ∙ differ in absurd (cc) in
      subst (λ (n : Option ℕ). IsHeap other bytes n) (sym (step.notes_off other off)) (formed other bytes heap (sym (step.held_off told other off) ∙ is))
]

-- ---- one page

-- the entries of a page of which one was changed
pub entry_set : (old new : List ℕ) (slot : ℕ) (content : Content) → slot < 128 → entries new ≡ set (entries old) slot content → held_at (entries new) slot ≡ content
entry_set old new slot content low is = ap (λ (l : List Content). get_or l slot Empty) is ∙ get_or-set_same (entries old) slot content Empty (omega (arith, length-entries old))

pub entry_kept : (old new : List ℕ) (slot other : ℕ) (content : Content) → other ≢ slot → entries new ≡ set (entries old) slot content → held_at (entries new) other ≡ held_at (entries old) other
entry_kept old new slot other content off is = ap (λ (l : List Content). get_or l other Empty) is ∙ get_or-set_other (entries old) slot other content Empty off

-- bodies stay short
pub set_short : (old new : List ℕ) (slot : ℕ) (content : Content) → slot < 128 → entries new ≡ set (entries old) slot content → ((other : ℕ) (body : List ℕ) → held_at (entries old) other ≡ Here body → length body ≤ 2400) → ((body : List ℕ) → content ≡ Here body → length body ≤ 2400)
    → (other : ℕ) (body : List ℕ) → held_at (entries new) other ≡ Here body → length body ≤ 2400
set_short old new slot content low is short few = λ other body here. elim (cases_eq other slot) [
  | inl same ↦ few body (sym (ap (λ (n : ℕ). held_at (entries new) n) same ∙ entry_set old new slot content low is) ∙ here)
  | inr differ ↦ short other body (sym (entry_kept old new slot other content differ is) ∙ here)
]

-- a page is written with one entry changed
module _ (key : PageKey) (slot : ℕ) (content : Content) (bytes now : List ℕ) (old new : PagesView) where
  content_new : new.held key ≡ Some now → (other : ℕ) → content_at new.held key other ≡ held_at (entries now) other
  content_new is other = ap (λ (page : Option (List ℕ)). held_at (contents_in page) other) is

  content_old : old.held key ≡ Some bytes → (other : ℕ) → content_at old.held key other ≡ held_at (entries bytes) other
  content_old is other = ap (λ (page : Option (List ℕ)). held_at (contents_in page) other) is

  pub sets_written : {asks outs : ℕ} → IsRead old key bytes → slot < 128 → Sets bytes now slot content → (IsVacant (entries now) → ⊥) → ((body : List ℕ) → content ≡ Here body → length body ≤ 2400) → WritesPage key now old new → PagesStep (only key) asks outs old new → AreFormed old → IsTold old.disk → SetsEntry key slot content old new
  sets_written read low sets some few wrote step formed told =
      let there = read.held told in
      let here = written_here key old new wrote told in
      let heap = formed key bytes read.formed.space there in
      record {
        here = content_new here slot ∙ entry_set bytes now slot content low sets.holds;
        others = λ other off. content_new here other ∙ entry_kept bytes now slot other content off sets.holds ∙ sym (content_old there other);
        formed = formed_but key old new step told formed (λ other is.
            let same : now ≡ other = let e : Some now ≡ Some other = sym here ∙ is in cc in
            subst (λ (b : List ℕ). IsHeap key b (new.notes key)) same (subst (λ (n : Option ℕ). IsHeap key now n) (sym (ap (λ (n : Noted). n key) wrote.notes ∙ cond-true (is_same key key) None (old.notes key) (is_same-itself key))) (record {
              formed = sets.formed key read.formed;
              some = some;
              short = set_short bytes now slot content low sets.holds heap.short few;
              noted = tt;
            })));
      }

  -- a page is given whose other entries were empty
  pub sets_given : {asks outs : ℕ} → IsRead old key bytes → slot < 128 → Sets bytes now slot Empty → IsVacant (entries now) → GivesPage key old new → PagesStep (only key) asks outs old new → AreFormed old → IsTold old.disk → SetsEntry key slot Empty old new
  sets_given read low sets vacant gave step formed told =
      let gone : new.held key ≡ None = ap (λ (h : Held). h key) (gave.held told) ∙ cond-true (is_same key key) None (old.held key) (is_same-itself key) in
      let none = λ (other : ℕ). ap (λ (page : Option (List ℕ)). held_at (contents_in page) other) gone in
      record {
        here = none slot;
        others = λ other off. none other ∙ sym (vacant other) ∙ entry_kept bytes now slot other Empty off sets.holds ∙ sym (content_old (read.held told) other);
        formed = formed_but key old new step told formed (λ other is. let never : None ≡ Some other = sym gone ∙ is in absurd (cc));
      }

-- an entry that holds something isn't vacant
pub set_some : (now : List ℕ) (slot : ℕ) (content : Content) → content ≢ Empty → held_at (entries now) slot ≡ content → IsVacant (entries now) → ⊥
set_some now slot content some here vacant = some (sym here ∙ vacant slot)

-- ---- a page with one body

-- in a page whose entries are all empty there is room for each body of a tuple
pub blank_room : (page : List ℕ) (slot count : ℕ) → entries page ≡ replicate 128 Empty → slot < 128 → count ≤ 2400 → HasRoom (entries page) slot count
blank_room page slot count is low few =
    let sums = sum_by-set body_length (entries page) slot Empty Empty (omega (arith, length-entries page)) in
    omega (arith, sums, blank_bytes page is)

-- a page is taken and filled
pub sets_taken : {asks outs : ℕ} (key : PageKey) (slot : ℕ) (body : List ℕ) (old mid new : PagesView) → old.held key ≡ None → FillsPage key slot body mid new → IsTold mid.disk → PagesStep (only key) asks outs old new → AreFormed old → IsTold old.disk → SetsEntry key slot (Here body) old new
sets_taken key slot body old mid new none fills mid_told step formed told =
    let there = written_here key mid new fills.written mid_told in
    let now = λ (other : ℕ). ap (λ (page : Option (List ℕ)). held_at (contents_in page) other) there in
    record {
      here = now slot ∙ fills.here;
      others = λ other off. now other ∙ fills.others other off ∙ sym (ap (λ (page : Option (List ℕ)). held_at (contents_in page) other) none);
      formed = formed_but key old new step told formed (λ bytes is.
          let same : fills.bytes ≡ bytes = let e : Some fills.bytes ≡ Some bytes = sym there ∙ is in cc in
          subst (λ (b : List ℕ). IsHeap key b (new.notes key)) same (subst (λ (n : Option ℕ). IsHeap key fills.bytes n) (sym (ap (λ (n : Noted). n key) fills.written.notes ∙ cond-true (is_same key key) None (mid.notes key) (is_same-itself key))) fills.heap));
    }

-- what isn't mapped holds nothing
pub none_held : (page : Option (List ℕ)) → is_some page ≡ false → page ≡ None
none_held None is = refl
none_held (Some bytes) is = absurd (cc)

-- ---- a page that is read

-- a copy of a page in memory that a walk found well-formed
pub is_read : (view : PagesView) (key : PageKey) (bytes : List ℕ) → view.mapped key ≡ true → IsWellFormed key bytes → (IsTold view.disk → view.held key ≡ Some bytes) → IsRead view key bytes
is_read view key bytes mapped formed held = record { mapped = mapped; formed = formed; held = held }

-- a copy is well-formed where the device tells its contents
pub read_copied : {view : PagesView} {key : PageKey} {bytes : List ℕ} → IsHeapKey key → (IsTold view.disk → AreFormed view) → IsCopied view key bytes → IsTold view.disk → IsRead view key bytes
read_copied {key = key} {bytes = bytes} heap formed copied told = record {
  mapped = copied.mapped;
  formed = (formed told key bytes heap (copied.held told)).formed;
  held = copied.held;
}

-- where it is found to be ill-formed, the device tells nothing
pub ill_formed : {asks outs : ℕ} {old mid : PagesView} (key : PageKey) (bytes : List ℕ) (fault : PageFault) → PagesStep no_page asks outs old mid → IsHeapKey key → (IsTold old.disk → AreFormed old) → (IsTold mid.disk → mid.held key ≡ Some bytes) → (IsWellFormed key bytes → ⊥) → fault ≡ Damaged (PagePlace key) → PagesCall {T = Unit {0}} no_page asks outs old mid (Err fault)
ill_formed key bytes fault step heap formed held ill is = found_damaged fault is step (λ told. ill (formed told key bytes heap (ap (λ (h : Held). h key) (sym (all_held step told)) ∙ held (step.passes.leaves.told.0 told))).formed)

-- ---- a page that isn't what it should be

pub damage_told : {T : Type 0} {fault : PageFault} {key one : PageKey} (result : Result T PageFault) → IsErrAnd result (λ why. why ≡ fault) → fault ≡ Damaged (PagePlace key) → key ≡ one → result ≡ Err (Damaged (PagePlace one))
damage_told (Ok value) is named at = absurd is
damage_told (Err e) is named at = ap Err (is ∙ named ∙ ap (λ (k : PageKey). Damaged (PagePlace k)) at)

-- it isn't that of an entry that holds something
pub holds_at : {key one : PageKey} {slot : ℕ} {bytes : List ℕ} {content : Content} → key ≡ one → IsHeader key bytes → held_at (entries bytes) slot ≡ content → content ≢ Empty → HoldsAt one slot bytes
holds_at {bytes = bytes} at header is some = record {
  header = subst (λ (k : PageKey). IsHeader k bytes) at header;
  some = λ empty. some (sym is ∙ empty);
}

-- ---- a call that edits

-- it failed
pub edits_fails : {T U : Type 0} {touched : Keys} {asks outs cost : ℕ} {key : PageKey} {slot : ℕ} {content : Content} {old new : PagesView} {fault : PageFault} (result : Result U PageFault) → IsErrAnd result (λ why. why ≡ fault) → ((one : PageKey) → touched one → only key one) → asks ≤ cost → outs ≤ cost
    → PagesCall {T = T} touched asks outs old new (Err fault) → Edits key slot content cost old new result
edits_fails {key = key} {slot = slot} {content = content} {old = old} {new = new} {fault = fault} result is wider few_asks few_outs call = record {
  sets = not_ok fault (IsTold old.disk → SetsEntry key slot content old new) result is;
  did = fails result is wider few_asks few_outs call;
}

-- a page was read before
pub edits_after : {T : Type 0} {cost : ℕ} {key : PageKey} {slot : ℕ} {content : Content} {old mid new : PagesView} {result : Result T PageFault} → PagesStep no_page 1 1 old mid → Edits key slot content cost mid new result → Edits key slot content (1 + cost) old new result
edits_after {key = key} {result = result} step edits = record {
  sets = on_ok_then result (λ sets told.
      let there = sets (step.passes.leaves.told.0 told) in
      record {
        here = there.here;
        others = λ other off. there.others other off ∙ content_after step key other told;
        formed = there.formed;
      })
      edits.sets;
  did = then_call (untouched step) edits.did;
}
