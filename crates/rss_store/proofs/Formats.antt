-- An empty store, as it is written.
use Rattle.std.proofs.Common.{◌≡◌, inl, inr, ℕ, ◌+◌, ◌<◌, List, [], length, set, replicate, Option, Some, refl, sym, ◌∙◌, ap, subst, arith, length-set, get_or-set_same, get_or-set_other}
use Rattle.std.proofs.lemmas.Bool.{cases_eq}
use Rattle.std.proofs.lemmas.Option.{same_Some}
use Rattle.rss_base.specs.DiskRule.{Pages, page}
use Rattle.rss_base.specs.Layout.{map_at, slots_at, device_pages, root_page, selected_by, IsWellFormed}
use Rattle.rss_base.specs.PageMap.{owner_of, IsMap, HoldsMap}
use Rattle.rss_base.specs.Paged.{Held, page_key}
use Rattle.rss_base.specs.StoredPages.{StandInSlots, SavesPages, HoldsPages}
use Rattle.rss_base.specs.declared.root.Root.{Root}
use Rattle.rss_base.specs.declared.key.Space.TheVariants.{System}
use Rattle.rss_base.specs.declared.key.PageKey.{PageKey}
use Rattle.rss_buffer.proofs.Saves.{saves_map, holds_pages}
use Rattle.rss_store.specs.Formatted.{AreSizes, first_root, first_owners, IsFormatted, HoldsZeros}
use Rattle.rss_store.proofs.FirstOwners.{owners_length, owner_first, owner_is}

-- ---- zeros

pub no_zeros : (before : Pages) (first : ℕ) (contents : Option Pages) → contents ≡ Some before → HoldsZeros before first 0 contents
no_zeros before first contents told = record { after = before; told = told; same = record { size = refl; others = λ q off. refl }; zeros = λ k lt. absurd (omega arith) }

-- one page more
pub more_zeros : (before : Pages) (first count : ℕ) (contents new : Option Pages) → first + count < length before → (so_far : HoldsZeros before first count contents) → new ≡ Some (set so_far.after (first + count) (replicate 4096 0)) → HoldsZeros before first (count + 1) new
more_zeros before first count contents new room so_far now =
    let at = first + count in
    let zeros : List ℕ = replicate 4096 0 in
    record {
      after = set so_far.after at zeros;
      told = now;
      same = record {
        size = length-set so_far.after at zeros ∙ so_far.same.size;
        others = λ q off. get_or-set_other so_far.after at q zeros [] (λ here. off (omega (arith, here), omega (arith, here))) ∙ so_far.same.others q (λ within. off (within.0, omega (arith, within.1)));
      };
      zeros = λ k lt. elim (cases_eq k count) [
        | inl here ↦ ap (λ (n : ℕ). page (set so_far.after at zeros) (first + n)) here ∙ get_or-set_same so_far.after at zeros [] (omega (arith, so_far.same.size))
        | inr other ↦ get_or-set_other so_far.after at (first + k) zeros [] (λ here. other (omega (arith, here))) ∙ so_far.zeros k (omega (arith, other))
      ];
    }

-- ---- what is written

first_formed : (slots log_pages : ℕ) → AreSizes slots log_pages → IsWellFormed (first_root slots log_pages)
first_formed slots log_pages sizes = record {
  version_least = omega arith;
  version_most = omega arith;
  slots_least = sizes.slots_least;
  slots_most = sizes.slots_most;
  log_least = sizes.log_least;
  log_most = sizes.log_most;
  area = omega arith;
  head_first = omega arith;
  before_end = omega arith;
  end_limit = omega arith;
  room = omega (arith, sizes.log_least);
  tail = refl;
}

-- each page is zeros
abbrev all_zeros : Held
all_zeros key = Some (replicate 4096 0)

is_formatted : (slots log_pages : ℕ) (root : Root) (table : List (Option PageKey)) (image : Pages) → length table ≡ slots → root ≡ first_root slots log_pages → table ≡ first_owners slots → HoldsPages image 1 root table all_zeros → IsFormatted slots log_pages image
is_formatted slots log_pages root table image long is_root is_table holds =
    let at_first : HoldsPages image 1 (first_root slots log_pages) table all_zeros = subst (λ (r : Root). HoldsPages image 1 r table all_zeros) is_root holds in
    record {
      root_there = at_first.root_there;
      map = subst (IsMap slots image (map_at slots 0)) is_table (subst (λ (n : ℕ). IsMap n image (map_at n 0) table) long at_first.saved.map);
      system = λ number lt.
          let owned : owner_of table number ≡ Some (page_key 0 System number) = ap (λ (l : List (Option PageKey)). owner_of l number) is_table ∙ owner_first slots 10 number lt in
          ap (λ (n : ℕ). page image (slots_at n log_pages + number)) (sym long)
          ∙ sym (same_Some (replicate 4096 0) (page image (slots_at (length table) log_pages + number)) (at_first.saved.stand number (page_key 0 System number) owned));
    }

-- The slots of the system pages are written first, then the map, and the root and the selector last.
pub formatted : (slots log_pages first count : ℕ) (root : Root) (table : List (Option PageKey)) (before : Pages) (zeroed mapped : Option Pages) (rooted selector : List ℕ) → AreSizes slots log_pages → root ≡ first_root slots log_pages → table ≡ first_owners slots → first ≡ slots_at slots log_pages → count ≡ 10 → length before ≡ device_pages root
    → rooted ≡ root_page root → selected_by selector ≡ 1 → (zeros : HoldsZeros before first count zeroed) → (written : HoldsMap zeros.after (map_at (length table) root.area) table mapped) → IsFormatted slots log_pages (set (set written.after 1 rooted) 0 selector)
formatted slots log_pages first count root table before zeroed mapped rooted selector sizes is_root is_table at_first ten size spelled names zeros written =
    let long : length table ≡ slots = ap (λ (l : List (Option PageKey)). length l) is_table ∙ owners_length slots 10 (omega (arith, sizes.slots_least)) in
    let count_is : length table ≡ root.slots = long ∙ sym (ap (λ (r : Root). r.slots) is_root) in
    let log : root.log_pages ≡ log_pages = ap (λ (r : Root). r.log_pages) is_root in
    let place : first ≡ slots_at (length table) root.log_pages = at_first ∙ ap (λ (n : ℕ). slots_at n log_pages) (sym long) ∙ ap (slots_at (length table)) (sym log) in
    let low : root.area < 2 = omega (arith, ap (λ (r : Root). r.area) is_root) in
    let stand : StandInSlots (slots_at (length table) root.log_pages) zeros.after table all_zeros = λ slot key owned.
    let there = owner_is slots 10 slot key (ap (λ (l : List (Option PageKey)). owner_of l slot) (sym is_table) ∙ owned) in
    ap Some (sym (ap (λ (n : ℕ). page zeros.after (n + slot)) (sym place) ∙ zeros.zeros slot (omega (arith, there.within)))) in
    let saves : SavesPages root.log_pages root.area written.after table all_zeros = saves_map root.log_pages root.area table all_zeros zeros.after mapped low stand written written.after written.told in
    let formed : IsWellFormed root = subst (λ (r : Root). IsWellFormed r) (sym is_root) (first_formed slots log_pages sizes) in
    let holds = holds_pages written.after 1 root selector table all_zeros (omega arith) (omega arith) names formed count_is (written.same.size ∙ zeros.same.size ∙ size) saves in
    subst (λ (bytes : List ℕ). IsFormatted slots log_pages (set (set written.after 1 bytes) 0 selector)) (sym spelled)
    (is_formatted slots log_pages root table (set (set written.after 1 (root_page root)) 0 selector) long is_root is_table holds)
