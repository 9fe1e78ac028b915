-- Where bodies stand in pages.
use Rattle.std.proofs.Common.{◌≡◌, ℕ, ◌≤◌, true, List, refl, sym, ◌∙◌, ap, subst}
use Rattle.std.specs.Prelude.{Option, Some, None, option_map, Result, Ok, Err, IfOk, IfSome}
use Rattle.std.proofs.lemmas.Option.{same_Some}
use Rattle.rss_base.specs.Paged.{Held}
use Rattle.rss_base.specs.Steps.{PagesView}
use Rattle.rss_base.specs.declared.fault.PageFault.{PageFault}
use Rattle.rss_base.specs.declared.key.PageKey.{PageKey}
use Rattle.rss_page.specs.Content.{Content}
use Rattle.rss_page.specs.Slotted.{part, content_of, entries, length_of, IsAllowed}
use Rattle.rss_page.specs.Surveyed.{held_at}
use Rattle.rss_page.specs.declared.entry_form.Entry.{Entry}
use Rattle.rss_page.specs.declared.entry_form.Entry.TheVariants.{Empty as EmptyEntry, Here as HereEntry, Forward as ForwardEntry}
use Rattle.rss_tuple.specs.Directory.{contents_in, content_at}
use Rattle.rss_tuple.specs.Finding.{IsFetched, IsHeldBy, IsInForm}
use Rattle.rss_tuple.specs.Heaps.{body_most}
use Rattle.rss_tuple.specs.Located.{body_there, StandsAt}
use Rattle.rss_tuple.specs.declared.body_at.BodyAt.{BodyAt}

-- ---- what is said of a body

-- it holds of the bytes that are lent
pub said_of : {held : Held} {says : List ℕ → Type 0} {at : BodyAt} {bytes : List ℕ} → StandsAt held says at → body_there held at ≡ Some bytes → says bytes
said_of {says = says} stands lent = subst says (same_Some _ _ (sym stands.there ∙ lent)) stands.so

pub stands_so : {held : Held} {says says_now : List ℕ → Type 0} {at : BodyAt} → ((bytes : List ℕ) → says bytes → says_now bytes) → StandsAt held says at → StandsAt held says_now at
stands_so follows stands = record { bytes = stands.bytes; there = stands.there; so = follows stands.bytes stands.so }

-- a body that was copied
pub fetched_as : {body : Option (List ℕ)} {bytes read : List ℕ} → body ≡ Some bytes → read ≡ bytes → IsFetched body true read
fetched_as {read = read} is same = subst (λ (b : Option (List ℕ)). IsFetched b true read) (sym is) (refl, same)

-- ---- entries

module _ (held : Held) (key : PageKey) {page : List ℕ} (there : held key ≡ Some page) where
  says_so : {content : Content} (found : Entry) → content ≡ content_of page found → IsHeldBy held key content found
  says_so EmptyEntry is = is
  says_so (HereEntry place length) is = record { bytes = part page place length; there = ap (option_map (λ (bytes : List ℕ). part bytes place length)) there; so = is }
  says_so (ForwardEntry to slot) is = is

  -- an entry of the page that was read
  pub held_by : {content : Content} (slot : ℕ) → content ≡ content_at held key slot → (found : Entry) → held_at (entries page) slot ≡ content_of page found → IsHeldBy held key content found
  held_by slot same found holds = says_so found (same ∙ ap (λ (p : Option (List ℕ)). held_at (contents_in p) slot) there ∙ holds)

-- it may stand there, in a page that is in memory
entry_in_form : (view : PagesView) {key : PageKey} (space : ℕ) → view.in_memory key ≡ true → (found : Entry) → IsAllowed space found → length_of found ≤ body_most → IsInForm view key found
entry_in_form view space there EmptyEntry allowed short = tt
entry_in_form view space there (HereEntry place length) allowed short = record { there = there; stands = allowed; short = short }
entry_in_form view space there (ForwardEntry to slot) allowed short = allowed.slot_low

pub in_form : (view : PagesView) {key : PageKey} (space : ℕ) → view.in_memory key ≡ true → (result : Result Entry PageFault) → IfOk result (IsAllowed space) → IfOk result (λ found. length_of found ≤ body_most) → IfOk result (IsInForm view key)
in_form view space there (Ok found) allowed short = entry_in_form view space there found allowed short
in_form view space there (Err fault) allowed short = tt

pub taken_in_form : (view : PagesView) {key : PageKey} (space : ℕ) → view.in_memory key ≡ true → (result : Result (Option (ℕ × Entry)) PageFault) → IfOk result (λ found. IfSome found (λ taken. IsAllowed space taken.1)) → IfOk result (λ found. IfSome found (λ taken. length_of taken.1 ≤ body_most))
    → IfOk result (λ found. IfSome found (λ taken. IsInForm view key taken.1))
taken_in_form view space there (Ok None) allowed short = tt
taken_in_form view space there (Ok (Some taken)) allowed short = entry_in_form view space there taken.1 allowed short
taken_in_form view space there (Err fault) allowed short = tt
