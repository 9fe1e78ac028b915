-- Pages that were looked at for a free entry and room, and those that were passed over by their notes.
use Rattle.std.proofs.Common.{◌≡◌, ◌⊎◌, inl, inr, ℕ, ◌+◌, ◌≤◌, ◌<◌, true, List, length, Option, Some, None, refl, sym, ◌∙◌, ap, subst, arith}
use Rattle.std.specs.Prelude.{is_some, IfSome, MatchOption, Result, Err, IsErrAnd}
use Rattle.std.proofs.lemmas.Bool.{cases_lt, cases_eq, cond-true}
use Rattle.std.proofs.lemmas.List.Sums.{sum_by-set}
use Rattle.rss_base.specs.DiskRule.{IsTold}
use Rattle.rss_base.specs.PageMap.{IsKey}
use Rattle.rss_base.specs.Paged.{Held, Mapped, page_key, is_same, IsFirstFrom, NoneFrom}
use Rattle.rss_base.specs.Notes.{Noted, is_noted_space, MayDo}
use Rattle.rss_base.specs.Steps.{PagesView, NotesPage, only, pages_in, PagesStep, PagesCall}
use Rattle.rss_base.specs.declared.fault.PageFault.{PageFault}
use Rattle.rss_base.specs.declared.key.PageKey.{PageKey}
use Rattle.rss_base.specs.declared.key.Space.{Space}
use Rattle.rss_base.specs.declared.key.Space.TheVariants.{Home, Overflow, Image, System}
use Rattle.rss_base.specs.declared.tid.Tid.{Tid}
use Rattle.rss_base.proofs.Keys.{is_same-itself}
use Rattle.rss_base.proofs.Steps.{then, then_call, among, within, widens, fails, is_in}
use Rattle.rss_page.specs.Content.{Content, Empty, body_length}
use Rattle.rss_page.specs.Slotted.{entries, body_bytes, HasRoom}
use Rattle.rss_page.proofs.Contents.{length-entries}
use Rattle.rss_page.specs.Surveyed.{held_at, AllTaken, IsFirstEmpty}
use Rattle.rss_tuple.specs.declared.finding.Spot.{Spot}
use Rattle.rss_tuple.specs.Directory.{contents_in, contents, tid_at}
use Rattle.rss_tuple.specs.Heaps.{CoversRoom, AreFormed}
use Rattle.rss_tuple.specs.TupleSteps.{IsLeast, NoneIs}
use Rattle.rss_tuple.specs.Placing.{Wanted, IsOpen, IsSpot}
use Rattle.rss_tuple.specs.Edits.{IsRead, KeepsEntries}
use Rattle.rss_tuple.specs.Spots.{HasSpot, HasNoSpot, IsPassedBy, IsRoom, ReadsSpot, IsFoundSpot}
use Rattle.rss_tuple.proofs.Sets.{formed_but}

pub noted_heap : (space : Space) → is_noted_space space ≡ true → (space ≡ Home) ⊎ (space ≡ Overflow)
noted_heap Home is = inl refl
noted_heap Overflow is = inr refl
noted_heap Image is = absurd (cc)
noted_heap System is = absurd (cc)

-- what is mapped holds bytes
pub the_bytes : (page : Option (List ℕ)) → is_some page ≡ true → (bytes : List ℕ) × (page ≡ Some bytes)
the_bytes None is = absurd (cc)
the_bytes (Some bytes) is = (bytes, refl)

-- where no identifier is barred, the first empty entry is the first open one
pub spot_unbarred : (held : List Content) (count number : ℕ) (barred : List Tid) (first : Option ℕ) → length barred ≡ 0 → body_bytes held + count ≤ 3056 → MatchOption first (AllTaken held 128) (IsFirstEmpty held) → MatchOption first (HasNoSpot held count barred number) (HasSpot held count barred number)
spot_unbarred held count number barred None none few taken = λ room slot is. taken slot is.low is.empty
spot_unbarred held count number barred (Some slot) none few first = record {
  bytes = few;
  first = record {
    is = record { low = first.low; empty = first.empty; allowed = λ has. omega (arith, has.1) };
    lesser = λ other less is. first.lesser other less is.empty;
  };
}

-- where a page has so many free bytes, a body of this length fits at each slot
pub spot_room : (page : List ℕ) (slot count : ℕ) → slot < 128 → body_bytes (entries page) + count ≤ 3056 → HasRoom (entries page) slot count
spot_room page slot count low few =
    let sums = sum_by-set body_length (entries page) slot Empty Empty (omega (arith, length-entries page)) in
    omega (arith, sums, few)

-- the key that a search looks at
abbrev pub key_of : Wanted → ℕ → PageKey
key_of wanted number = page_key wanted.segment wanted.space number

pub spot_same : (old new : PagesView) (wanted : Wanted) (tid : Tid) → new.mapped ≡ old.mapped → new.held ≡ old.held → IsSpot old wanted tid → IsSpot new wanted tid
spot_same old new wanted tid mapped held spot =
    let key = key_of wanted tid.page in
    let same : contents old.held key ≡ contents new.held key = ap (λ (h : Held). contents h key) (sym held) in
    record {
      mapped = ap (λ (m : Mapped). m key) mapped ∙ spot.mapped;
      bytes = subst (λ (l : List Content). body_bytes l + wanted.length ≤ 3056) same spot.bytes;
      open_there = subst (λ (l : List Content). IsOpen l wanted.barred tid) same spot.open_there;
    }

pub least_same : (old new : PagesView) (wanted : Wanted) (tid : Tid) → new.mapped ≡ old.mapped → new.held ≡ old.held → IsLeast (IsSpot old wanted) tid → IsLeast (IsSpot new wanted) tid
least_same old new wanted tid mapped held least = record {
  has = spot_same old new wanted tid mapped held least.has;
  least = λ other below spot. least.least other below (spot_same new old wanted other (sym mapped) (sym held) spot);
}

-- a page with room isn't passed over by its note
pub may_do : (view : PagesView) (wanted : Wanted) (tid : Tid) → AreFormed view → ((key : PageKey) → is_some (view.held key) ≡ view.mapped key) → is_noted_space wanted.space ≡ true → IsSpot view wanted tid → MayDo view.mapped view.notes (wanted.length + 1) wanted.segment wanted.space tid.page
may_do view wanted tid formed holds noted spot =
    let key = key_of wanted tid.page in
    let there = the_bytes (view.held key) (holds key ∙ spot.mapped) in
    let heap = formed key there.0 (noted_heap wanted.space noted) there.1 in
    let same : contents view.held key ≡ entries there.0 = ap contents_in there.1 in
    record {
      mapped = spot.mapped;
      note = enough (view.notes key) (entries there.0) heap.noted (subst (λ (l : List Content). body_bytes l + wanted.length ≤ 3056) same spot.bytes) tid.slot spot.open_there.low (ap (λ (l : List Content). held_at l tid.slot) (sym same) ∙ spot.open_there.empty);
    }
  where
    enough : (note : Option ℕ) (l : List Content) → IfSome note (CoversRoom l) → body_bytes l + wanted.length ≤ 3056 → (slot : ℕ) → slot < 128 → held_at l slot ≡ Empty → IfSome note (λ n. wanted.length + 1 ≤ n)
    enough None l covers few slot low empty = tt
    enough (Some n) l covers few slot low empty = omega (arith, covers slot low empty)

-- all pages below this number were looked at or passed over, and none of them has what is looked for
pub record Searched (start now : PagesView) (wanted : Wanted) (from : ℕ) : Type 0 where
  pub within_slots : from ≤ start.slots
  pub step : PagesStep (pages_in wanted.segment wanted.space) from from start now
  pub kept : KeepsEntries start now
  pub lesser : IsTold start.disk → (tid : Tid) → tid.page < from → IsSpot start wanted tid → ⊥

module _ (start now : PagesView) (wanted : Wanted) (from : ℕ) (so : Searched start now wanted from) (holds : IsTold now.disk → (key : PageKey) → is_some (now.held key) ≡ now.mapped key) (noted : is_noted_space wanted.space ≡ true) where
  may_now : IsTold start.disk → (tid : Tid) → IsSpot start wanted tid → MayDo now.mapped now.notes (wanted.length + 1) wanted.segment wanted.space tid.page
  may_now told tid spot = may_do now wanted tid (so.kept.formed told) (holds (so.step.passes.leaves.told.0 told)) noted (spot_same start now wanted tid so.kept.mapped (so.kept.held told) spot)

  before : (number : ℕ) → IsFirstFrom (MayDo now.mapped now.notes (wanted.length + 1) wanted.segment wanted.space) from number → IsTold start.disk → (tid : Tid) → tid.page < number → IsSpot start wanted tid → ⊥
  before number first told tid low spot = elim (cases_lt tid.page from) [
    | inl lesser ↦ so.lesser told tid lesser spot
    | inr later ↦ first.none_before tid.page later low (may_now told tid spot)
  ]

  pub none_found : NoneFrom (MayDo now.mapped now.notes (wanted.length + 1) wanted.segment wanted.space) from → IsTold start.disk → NoneIs (IsSpot start wanted)
  none_found none told = λ tid spot. elim (cases_lt tid.page from) [
    | inl lesser ↦ so.lesser told tid lesser spot
    | inr later ↦ none tid.page later (may_now told tid spot)
  ]

  pub kept_too : (new : PagesView) → KeepsEntries now new → KeepsEntries start new
  kept_too new kept = record {
    mapped = kept.mapped ∙ so.kept.mapped;
    held = λ told. kept.held (so.step.passes.leaves.told.0 told) ∙ so.kept.held told;
    changed = λ key is. so.kept.changed key (kept.changed key is);
    formed = λ told. kept.formed (so.step.passes.leaves.told.0 told);
  }

  pub searched_more : {T : Type 0} {result : Result T PageFault} (new : PagesView) (number : ℕ) → IsFirstFrom (MayDo now.mapped now.notes (wanted.length + 1) wanted.segment wanted.space) from number → KeepsEntries now new → number < start.slots → (IsTold start.disk → HasNoSpot (contents start.held (key_of wanted number)) wanted.length wanted.barred number)
      → PagesCall (only (key_of wanted number)) 1 1 now new result → Searched start new wanted (number + 1)
  searched_more new number first kept low none call = record {
    within_slots = omega arith;
    step = within (λ key there. there) (omega (arith, first.later)) (omega (arith, first.later)) (then so.step (among (is_in (key_of wanted number) refl) call.step));
    kept = kept_too new kept;
    lesser = λ told tid page spot. elim (cases_eq tid.page number) [
      | inl at ↦ none told (subst (λ (n : ℕ). body_bytes (contents start.held (key_of wanted n)) + wanted.length ≤ 3056) at spot.bytes) tid.slot (subst (λ (n : ℕ). IsOpen (contents start.held (key_of wanted n)) wanted.barred (tid_at n tid.slot)) at spot.open_there)
      | inr off ↦ before number first told tid (omega (arith, off)) spot
    ];
  }

  module _ (new : PagesView) (number : ℕ) (bytes : List ℕ) (spot : Spot) (first : IsFirstFrom (MayDo now.mapped now.notes (wanted.length + 1) wanted.segment wanted.space) from number) (kept : KeepsEntries now new) (told_new : IsTold start.disk → IsTold new.disk) (there : ReadsSpot new (key_of wanted number) bytes wanted.length wanted.barred spot) where
    same_contents : IsTold start.disk → contents start.held (key_of wanted number) ≡ entries bytes
    same_contents told = ap (λ (h : Held). contents h (key_of wanted number)) (sym ((kept_too new kept).held told)) ∙ ap contents_in (there.read.held (told_new told))

    least_spot : IsTold start.disk → IsLeast (IsSpot start wanted) (tid_at number spot.tid.slot)
    least_spot told =
        let same = same_contents told in
        record {
          has = record {
            mapped = sym (ap (λ (m : Mapped). m (key_of wanted number)) (kept_too new kept).mapped) ∙ there.read.mapped;
            bytes = subst (λ (l : List Content). body_bytes l + wanted.length ≤ 3056) (sym same) there.has.bytes;
            open_there = subst (λ (l : List Content). IsOpen l wanted.barred (tid_at number spot.tid.slot)) (sym same) there.has.first.is;
          };
          least = λ other low is. elim low [
            | inl page ↦ before number first told other page is
            | inr at ↦ there.has.first.lesser other.slot at.1 (subst (λ (l : List Content). IsOpen l wanted.barred (tid_at number other.slot)) same (subst (λ (n : ℕ). IsOpen (contents start.held (key_of wanted n)) wanted.barred (tid_at n other.slot)) at.0 is.open_there))
          ];
        }

    pub found_spot : IsFoundSpot start new wanted bytes spot
    found_spot = record {
      there = subst (λ (n : ℕ). ReadsSpot new (key_of wanted n) bytes wanted.length wanted.barred spot) (sym there.page) there;
      least = λ told. subst (λ (n : ℕ). IsLeast (IsSpot start wanted) (tid_at n spot.tid.slot)) (sym there.page) (least_spot told);
    }

-- the last page was looked at
pub search_step : (start now new : PagesView) (wanted : Wanted) (from number : ℕ) → Searched start now wanted from → from ≤ number → number < start.slots → PagesStep (only (key_of wanted number)) 1 1 now new → PagesStep (pages_in wanted.segment wanted.space) start.slots start.slots start new
search_step start now new wanted from number so later low step = within (λ key there. there) (omega arith) (omega arith) (then so.step (among (is_in (key_of wanted number) refl) step))

pub search_fails : {T U : Type 0} {fault : PageFault} (start now new : PagesView) (wanted : Wanted) (from number : ℕ) (result : Result U PageFault) → IsErrAnd result (λ why. why ≡ fault) → Searched start now wanted from → from ≤ number → number < start.slots → PagesCall {T = T} (only (key_of wanted number)) 1 1 now new (Err fault) → PagesCall (pages_in wanted.segment wanted.space) start.slots start.slots start new result
search_fails start now new wanted from number result is so later low call = fails result is (λ key there. there) (omega arith) (omega arith) (then_call {asks_then = 1} {outs_then = 1} so.step (widens (is_in (key_of wanted number) refl) (omega arith) (omega arith) call))

-- a page of a segment and a space that is mapped has a number below the slots
pub low_number : (slots : ℕ) (segment : ℕ) (space : Space) (number : ℕ) → is_noted_space space ≡ true → IsKey slots (page_key segment space number) → number < slots
low_number slots segment Home number is key = key.number
low_number slots segment Overflow number is key = key.number
low_number slots segment Image number is key = absurd (cc)
low_number slots segment System number is key = absurd (cc)

-- the room of a page that hasn't what is looked for
pub passed_by : (view : PagesView) (key : PageKey) (held : List Content) (count : ℕ) (barred : List Tid) (number room : ℕ) → view.notes key ≡ Some room → IsRoom held room → HasNoSpot held count barred number → IsPassedBy view key count barred
passed_by view key held count barred number room noted is none = record {
  note = room;
  noted = noted;
  small = λ unbarred. elim (cases_lt count room) [
    | inl more ↦
        let no_tids : length barred ≡ 0 = ap length unbarred in
        let taken : (slot : ℕ) → slot < 128 → held_at held slot ≡ Empty → ⊥ = λ slot low empty.
        let at = is.free slot low empty in
        none (omega arith) slot (record { low = low; empty = empty; allowed = λ has. omega (arith, has.1) }) in
        let zero = is.full taken in
        absurd (omega arith)
    | inr few ↦ few
  ];
}

-- the room that is noted covers the room
pub covers : (contents : List Content) (room : ℕ) → IsRoom contents room → CoversRoom contents room
covers contents room is = λ slot low empty. let at = is.free slot low empty in omega arith

-- a number is noted on a page, which is no less than its room
pub noted_kept : (key : PageKey) (number : ℕ) (bytes : List ℕ) (mid new : PagesView) → NotesPage key number mid new → PagesStep (only key) 0 0 mid new → IsRead mid key bytes → CoversRoom (entries bytes) number → IsTold mid.disk → AreFormed mid → AreFormed new
noted_kept key number bytes mid new notes step read room told formed =
    formed_but key mid new step told formed (λ other is.
    let there = sym (ap (λ (h : Held). h key) notes.held) ∙ is in
    let same : bytes ≡ other = let e : Some bytes ≡ Some other = sym (read.held told) ∙ there in cc in
    let heap = formed key other read.formed.space there in
    record {
      formed = heap.formed;
      some = heap.some;
      short = heap.short;
      noted = subst (λ (n : Option ℕ). IfSome n (CoversRoom (entries other))) (sym (ap (λ (n : Noted). n key) notes.notes ∙ cond-true (is_same key key) (Some number) (mid.notes key) (is_same-itself key))) (subst (λ (b : List ℕ). CoversRoom (entries b) number) same room);
    })
