-- What is right in a segment, as its entries are looked at one after the other.
use Rattle.std.proofs.Common.{◌≡◌, inl, inr, ℕ, ◌≤◌, Bool, List, Option, Some, None, get_or, refl, ◌∙◌, ap, arith, length}
use Rattle.std.specs.Prelude.{IfNone, IfSome}
use Rattle.rss_base.specs.Paged.{Held, page_key}
use Rattle.rss_base.specs.Tids.{IsBelow}
use Rattle.rss_base.specs.declared.key.PageKey.{PageKey}
use Rattle.rss_base.specs.declared.key.Space.TheVariants.{Home, Overflow}
use Rattle.rss_base.specs.declared.place.Place.{Place}
use Rattle.rss_base.specs.declared.tid.Tid.{Tid}
use Rattle.rss_page.specs.Content.{Content, Empty, Here, Forward}
use Rattle.rss_tuple.specs.Directory.{contents_in, content_at, homes, overflows, body_in, body_by, tid_at}
use Rattle.rss_tuple.specs.Checked.{pages_of, IsSound}
use Rattle.rss_tuple.specs.Flaws.{NamesPage, IsEntryRight, AreEntriesRight, IsFirstFlaw, flaw_of}
use Rattle.rss_tuple.specs.Looks.{in_front, MayHold, MayStand, AreSeen, StopsAt}
use Rattle.rss_tuple.specs.declared.flaw.Flaw.{Flaw}
use Rattle.rss_tuple.specs.declared.flaw.Flaw.TheVariants.{Entry, Unled}

-- ---- the order of identifiers

pub below_other : (a b : Tid) → IsBelow a b → (a.page ≡ b.page) × (a.slot ≡ b.slot) → ⊥
below_other a b below same = elim below [
  | inl less ↦ omega (arith, less, same.0)
  | inr less ↦ omega (arith, less.1, same.1)
]

-- what is below an entry in front of one is in front of it
front_below : (page slot : ℕ) (other tid : Tid) → in_front page slot tid.page tid.slot → IsBelow other tid → in_front page slot other.page other.slot
front_below page slot other tid inside below = elim inside [
  | inl before ↦ elim below [
    | inl less ↦ inl (omega (arith, before, less))
    | inr less ↦ inl (omega (arith, before, less.0))
  ]
  | inr at ↦ elim below [
    | inl less ↦ inl (omega (arith, at.0, less))
    | inr less ↦ inr (less.0 ∙ at.0, omega (arith, at.1, less.1))
  ]
]

-- ---- entries that were looked at

module _ (held : Held) (segment : ℕ) (is_good : List ℕ → Bool) (marks : List ℕ) (page slot : ℕ) (seen : AreSeen (homes held segment) (overflows held segment) is_good marks (in_front page slot)) where
  right_before : (tid : Tid) → in_front page slot tid.page tid.slot → IsEntryRight held segment is_good tid
  right_before tid inside = record {
    leads = λ p s forward. seen.leads tid.page tid.slot p s inside forward;
    first = λ p s other forward again below. below_other other tid below (seen.once tid.page tid.slot other.page other.slot p s inside (front_below page slot other tid inside below) forward again);
    good = λ body is. seen.good tid.page tid.slot body inside is;
  }

  right_holds : IsEntryRight held segment is_good (tid_at page slot) → MayHold (overflows held segment) marks is_good (homes held segment page slot)
  right_holds right = record {
    leads = λ p s forward. right.leads p s forward;
    fresh = λ p s forward marked.
        let by = seen.led p s marked in
        right.first p s (tid_at by.from_page by.from_slot) forward by.forward by.inside;
    good = λ body is. right.good body is;
  }

  -- the next one isn't right
  pub stops_at : (MayStand held segment marks is_good (homes held segment page slot) → ⊥) → StopsAt held segment is_good (tid_at page slot)
  stops_at wrong = record {
    earlier = λ other below. right_before other below;
    wrong = λ formed right. wrong (record { formed = formed; holds = right_holds right });
  }

-- ---- a segment that is sound

module _ (held : Held) (segment : ℕ) (is_good : List ℕ → Bool) (sound : IsSound held segment is_good) where
  -- its bodies are short
  short_at : (key : PageKey) (slot : ℕ) (body : List ℕ) → pages_of segment key → content_at held key slot ≡ Here body → length body ≤ 2400
  short_at key slot body of is = there (held key) refl is
    where
      there : (page : Option (List ℕ)) → held key ≡ page → get_or (contents_in page) slot Empty ≡ Here body → length body ≤ 2400
      there None none here = let never : Empty ≡ Here body = here in absurd (cc)
      there (Some bytes) some here = (sound.formed key bytes of some).short slot body here

  short_in : (page slot : ℕ) (body : List ℕ) (content : Content) → overflows held segment page slot ≡ content → body_in content ≡ Some body → length body ≤ 2400
  short_in page slot body Empty at is = absurd (cc)
  short_in page slot body (Here other) at is = short_at (page_key segment Overflow page) slot body (refl, inr refl) (at ∙ ap Here (let same : other ≡ body = cc in same))
  short_in page slot body (Forward to_page to_slot) at is = absurd (cc)

  short_by : (page slot : ℕ) (body : List ℕ) (content : Content) → homes held segment page slot ≡ content → body_by (overflows held segment) content ≡ Some body → length body ≤ 2400
  short_by page slot body Empty at is = absurd (cc)
  short_by page slot body (Here other) at is = short_at (page_key segment Home page) slot body (refl, inl refl) (at ∙ ap Here (let same : other ≡ body = cc in same))
  short_by page slot body (Forward to_page to_slot) at is = short_in to_page to_slot body (overflows held segment to_page to_slot) refl is

  -- its entries are right
  pub sound_right : AreEntriesRight held segment is_good
  sound_right tid = record {
    leads = λ p s forward. sound.linked.leads tid.page tid.slot p s forward;
    first = λ p s other forward again below. below_other other tid below (sound.linked.once tid.page tid.slot other.page other.slot p s forward again);
    good = λ body is. record { good = sound.good tid body is; short = short_by tid.page tid.slot body (homes held segment tid.page tid.slot) refl is };
  }

  -- so there is no flaw
  pub flaw_unsound : (flaw : Flaw) → IsFirstFlaw held segment is_good flaw → ⊥
  flaw_unsound (Entry tid) wrong = wrong.wrong (sound_right tid)
  flaw_unsound (Unled page) wrong = wrong.1.unled (sound.linked.led page wrong.1.slot wrong.1.holds)

  -- and each page is right
  pub page_unsound : (place : Place) → NamesPage held (pages_of segment) place → ⊥
  page_unsound place names =
      let heap = sound.formed names.key names.first.bytes names.first.inside names.first.there in
      names.first.wrong (record { formed = heap.formed; some = heap.some })

-- ---- the first flaw of two

pub none_both : {T : Type 0} (P Q : Type 0) (found : Option T) → IfNone found P → IfNone found Q → IfNone found (P × Q)
none_both P Q None p q = (p, q)
none_both P Q (Some value) p q = tt

-- there is none, if there is neither of them
pub none_flawed : (P Q R : Type 0) (wrong : Option Tid) (unled : Option ℕ) → (P → Q → R) → IfNone wrong P → IfNone unled Q → IfNone (flaw_of wrong unled) R
none_flawed P Q R (Some tid) unled follows p q = tt
none_flawed P Q R None (Some page) follows p q = tt
none_flawed P Q R None None follows p q = follows p q

-- or it is one of them
pub one_flawed : (S : Tid → Type 0) (P : Type 0) (U : ℕ → Type 0) (R : Flaw → Type 0) (wrong : Option Tid) (unled : Option ℕ) → ((tid : Tid) → S tid → R (Entry tid)) → ((page : ℕ) → P → U page → R (Unled page)) → IfSome wrong S → IfNone wrong P → IfSome unled U → IfSome (flaw_of wrong unled) R
one_flawed S P U R (Some tid) unled entry page s p u = entry tid s
one_flawed S P U R None (Some number) entry page s p u = page number p u
one_flawed S P U R None None entry page s p u = tt
