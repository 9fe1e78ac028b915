-- The place at which the roots of a device are out of form.
use Rattle.std.proofs.Common.{◌≡◌, ◌≢◌, ℕ, ◌≤◌, List, length, refl, sym, ◌∙◌, ap, subst, arith, Result, Err}
use Rattle.rss_base.specs.DiskRule.{Pages, page}
use Rattle.rss_base.specs.Layout.{device_pages, selected_by, root_of, IsRootPage, HasRoot, IsRootFault, few, no_root, other_size}
use Rattle.rss_base.specs.declared.root.Root.{Root}
use Rattle.rss_base.specs.declared.fault.OpenFault.{OpenFault}
use Rattle.rss_base.specs.declared.fault.OpenFault.TheVariants.{NotAStore}
use Rattle.rss_base.specs.declared.place.Place.{Place}
use Rattle.rss_base.specs.declared.place.Place.TheVariants.{Size, Root as RootPlace}
use Rattle.rss_root.proofs.Reading.{same_root}

-- there is one such place at most
pub fault_once : (pages : Pages) (place other : Place) → IsRootFault pages place → IsRootFault pages other → place ≡ other
fault_once pages _ _ (few less) (few less') = refl
fault_once pages _ _ (few less) (no_root three is none) = absurd (omega arith)
fault_once pages _ _ (few less) (other_size three is apart) = refl
fault_once pages _ _ (no_root three is none) (few less) = absurd (omega arith)
fault_once pages _ _ (no_root three is none) (no_root three' is' none') = ap RootPlace (is ∙ sym is')
fault_once pages _ _ (no_root three is none) (other_size {root = root} three' there apart) = absurd (none root there)
fault_once pages _ _ (other_size three there apart) (few less) = refl
fault_once pages _ _ (other_size {root = root} three there apart) (no_root three' is none) = absurd (none root there)
fault_once pages _ _ (other_size three there apart) (other_size three' there' apart') = refl

size_least : (root : Root) → 3 ≤ device_pages root
size_least root = omega arith

-- pages with a root are out of form nowhere
pub root_no_fault : (pages : Pages) (number : ℕ) (root : Root) (place : Place) → HasRoot pages number root → IsRootFault pages place → ⊥
root_no_fault pages number root _ has (few less) = omega (arith, size_least root, has.size)
root_no_fault pages number root _ has (no_root three is none) = none root has.there
root_no_fault pages number root _ has (other_size {root = other} three there apart) = apart (has.size ∙ ap device_pages (same_root (root_of pages) root other has.there there))

-- what stands at the place that a selector names is the selected root
at_selected : (pages : Pages) (selector bytes : List ℕ) (at : ℕ) → selector ≡ page pages 0 → bytes ≡ page pages at → at ≡ selected_by selector → bytes ≡ root_of pages
at_selected pages selector bytes at first second is = second ∙ ap (page pages) (is ∙ ap selected_by first)

-- no root was read
pub root_fault : (pages : Pages) (selector bytes : List ℕ) (at : ℕ) → 3 ≤ length pages → selector ≡ page pages 0 → bytes ≡ page pages at → at ≡ selected_by selector → ((root : Root) → IsRootPage bytes root → ⊥) → IsRootFault pages (RootPlace (selected_by selector))
root_fault pages selector bytes at three first second is none = no_root three (ap selected_by first) (λ root there. none root (subst (λ (l : List ℕ). IsRootPage l root) (sym (at_selected pages selector bytes at first second is)) there))

-- the root that was read tells of another size
pub size_fault : (pages : Pages) (selector bytes : List ℕ) (at : ℕ) (root : Root) → 3 ≤ length pages → selector ≡ page pages 0 → bytes ≡ page pages at → at ≡ selected_by selector → IsRootPage bytes root → length pages ≢ device_pages root → IsRootFault pages Size
size_fault pages selector bytes at root three first second is there apart = other_size three (subst (λ (l : List ℕ). IsRootPage l root) (at_selected pages selector bytes at first second is) there) apart

-- the root that was read tells of this size
pub root_found : (pages : Pages) (selector bytes : List ℕ) (at : ℕ) (root : Root) → selector ≡ page pages 0 → bytes ≡ page pages at → at ≡ selected_by selector → IsRootPage bytes root → length pages ≡ device_pages root → HasRoot pages (selected_by selector) root
root_found pages selector bytes at root first second is there size = record { selects = ap selected_by first; there = subst (λ (l : List ℕ). IsRootPage l root) (at_selected pages selector bytes at first second is) there; size = size }

-- an error that names a place names the fault, and no other
pub fault_from_named : {X : Type 0} {pages : Pages} {place : Place} → IsRootFault pages place → (other : Place) → ◌≡◌ {A = Result X OpenFault} (Err (NotAStore place)) (Err (NotAStore other)) → IsRootFault pages other
fault_from_named {pages = pages} {place = place} fault other is = let same : place ≡ other = cc in subst (IsRootFault pages) same fault

pub named_from_fault : {X : Type 0} {pages : Pages} {place : Place} → IsRootFault pages place → (other : Place) → IsRootFault pages other → ◌≡◌ {A = Result X OpenFault} (Err (NotAStore place)) (Err (NotAStore other))
named_from_fault {pages = pages} {place = place} fault other there = let same : place ≡ other = fault_once pages place other fault there in cc
