-- The keys of open scans, which are as long as those of their images, whatever becomes of a listing that defines the same.
use Rattle.std.proofs.Common.{◌≡◌, ℕ, Bool, true, false, cond, not, List, refl, sym, ◌∙◌, ap, eq-eqb}
use Rattle.std.specs.Prelude.{Option, Some, None, ◌==◌, is_some, option_map}
use Rattle.std.specs.FinMap.{get, get-retain_keys, nat_cmp-IsAntisymmetric}
use Rattle.std.proofs.lemmas.Bool.{true≢false}
use Rattle.std.proofs.lemmas.Option.{none-some, same_Some}
use Rattle.rss_base.specs.Listings.{Listing, IsNumberOf, link_at, names_of, numbered, relation_at}
use Rattle.rss_base.specs.declared.name.Name.{Name}
use Rattle.rss_base.specs.declared.tid.Tid.{Tid}
use Rattle.rss_base.specs.declared.image.ImageEntry.{ImageEntry}
use Rattle.rss_base.specs.declared.link.LinkEntry.{LinkEntry}
use Rattle.rss_base.specs.declared.refusal.Kind.TheVariants.{Image as ImageKind, Link as LinkKind}
use Rattle.rss_catalog.proofs.Numbered.{numbered_map}
use Rattle.rss_members.specs.Calls.{HasForm}
use Rattle.rss_model.specs.Meanings.{SameDefinitions, endless, rootless}
use Rattle.rss_scan.specs.Scans.{OpenScans, closed_for, is_of}
use Rattle.rss_scan.specs.declared.cursor.Path.{Path}
use Rattle.rss_scan.specs.declared.cursor.Path.TheVariants.{Relation, Image, Link}
use Rattle.rss_scan.specs.declared.cursor.Scan.{Scan}
use Rattle.rss_entries.specs.Rooms.{width_of}
use Rattle.rss_store.proofs.Definitions.{image_names, image_still, relation_still, same_back}
use Rattle.rss_session.specs.Imaging.{IsKeyLong}
use Rattle.rss_rsi.specs.Views.{IsLongFor, HasChain, AreLong}

abbrev link_name : LinkEntry → Name
link_name link = link.name

module _ {one other : Listing} (same : SameDefinitions one other) where
  -- the keys of an image are as long
  key_still : (number : ℕ) (key : List ℕ) → IsKeyLong one number key → IsKeyLong other number key
  key_still number key long image relation listed =
      let was = image_still (same_back same) number image listed.at in
      let its = relation_still (same_back same) image.relation relation listed.within in
      let as_was : rootless was.0 ≡ rootless image = was.1.1 in
      long was.0 its.0 (record { at = was.1.0; within = ap (λ (e : ImageEntry). relation_at one e.relation) as_was ∙ its.1.0 })
      ∙ (λ i. width_of (as_was i) (its.1.1 i))

  long_for : (image : Name) (key : List ℕ) → IsLongFor one image key → IsLongFor other image key
  long_for image key long number named first = key_still number key (long number (as_was number named) (λ k low is. first k low (now_so k is)))
    where
      as_was : (k : ℕ) → IsNumberOf ImageKind other image k → IsNumberOf ImageKind one image k
      as_was k is = ap (λ (names : List (Option Name)). numbered names k) (sym (image_names same)) ∙ is

      now_so : (k : ℕ) → IsNumberOf ImageKind one image k → IsNumberOf ImageKind other image k
      now_so k is = ap (λ (names : List (Option Name)). numbered names k) (image_names same) ∙ is

  -- a chain may be there still
  names_through : (link : Option LinkEntry) → option_map link_name link ≡ option_map link_name (option_map endless link)
  names_through None = refl
  names_through (Some link) = refl

  links_same : (number : ℕ) → option_map endless (link_at other number) ≡ option_map endless (link_at one number)
  links_same number = sym (numbered_map endless other.links number) ∙ ap (λ (links : List (Option LinkEntry)). numbered links number) same.links ∙ numbered_map endless one.links number

  link_named : (number : ℕ) → numbered (names_of LinkKind other) number ≡ numbered (names_of LinkKind one) number
  link_named number =
      numbered_map link_name other.links number ∙ names_through (link_at other number) ∙ ap (option_map link_name) (links_same number)
      ∙ sym (names_through (link_at one number)) ∙ sym (numbered_map link_name one.links number)

  form_still : (number : ℕ) (parent : Option Tid) → HasForm one number parent → HasForm other number parent
  form_still number parent has entry at = by (link_at one number) refl (sym (links_same number) ∙ ap (option_map endless) at)
    where
      by : (found : Option LinkEntry) → link_at one number ≡ found → option_map endless (link_at one number) ≡ Some (endless entry) → is_some entry.parent ≡ is_some parent
      by None is shown = absurd (none-some _ (ap (option_map endless) (sym is) ∙ shown))
      by (Some was) is shown =
          let same_entry : endless was ≡ endless entry = same_Some _ _ (ap (option_map endless) (sym is) ∙ shown) in
          ap (λ (e : LinkEntry). is_some e.parent) (sym same_entry) ∙ has was is

  chain_still : (link : Name) (parent : Option Tid) → HasChain one link parent → HasChain other link parent
  chain_still link parent has = (
    (λ unlisted. has.0 (λ number is. unlisted number (link_named number ∙ is))),
    (λ number named first. form_still number parent (has.1 number (sym (link_named number) ∙ named) (λ k low is. first k low (link_named k ∙ is)))),
  )

  pub long_still : (path : Path) (last : Option (List ℕ × Tid)) → AreLong one path last → AreLong other path last
  long_still (Relation relation) last are = tt
  long_still (Image image start) None are = (long_for image start are.0, tt)
  long_still (Image image start) (Some given) are = (long_for image start are.0, long_for image given.0 are.1)
  long_still (Link link parent) last are = chain_still link parent are

-- what is left of the scans where those of a transaction are closed
pub closed_left : (t : ℕ) (scans : OpenScans) (number : ℕ) (scan : Scan) → get (closed_for t scans) number ≡ Some scan → (get scans number ≡ Some scan) × (scan.owner ≡ t → ⊥)
closed_left t scans number scan has = by (get scans number) refl (sym (get-retain_keys scans (λ n. not (is_of t (get scans n))) number (λ x tie. ap (λ (n : ℕ). not (is_of t (get scans n))) (sym (nat_cmp-IsAntisymmetric number x tie)))) ∙ has)
  where
    kept : (found : Scan) (b : Bool) → (found.owner == t) ≡ b → cond (not b) (Some found) None ≡ Some scan → (found ≡ scan) × (scan.owner ≡ t → ⊥)
    kept found true is has = absurd (none-some _ has)
    kept found false is has =
        let one : found ≡ scan = same_Some _ _ has in
        (one, λ mine. true≢false (sym (eq-eqb found.owner t (ap (λ (s : Scan). s.owner) one ∙ mine)) ∙ is))

    by : (o : Option Scan) → get scans number ≡ o → cond (not (is_of t (get scans number))) (get scans number) None ≡ Some scan → (get scans number ≡ Some scan) × (scan.owner ≡ t → ⊥)
    by None at has = absurd (none-some _ (sym (ap (λ (o : Option Scan). cond (not (is_of t o)) o None) at) ∙ has))
    by (Some found) at has =
        let its = kept found (found.owner == t) refl (sym (ap (λ (o : Option Scan). cond (not (is_of t o)) o None) at) ∙ has) in
        (at ∙ ap (λ (s : Scan). Some s) its.0, its.1)
