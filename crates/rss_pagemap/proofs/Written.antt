-- A page of a map area as it is made, and an area as it is written run by run.
use Rattle.std.proofs.Common.{◌≡◌, inl, inr, ℕ, ◌+◌, ◌-◌, ◌*◌, ◌/◌, ◌%◌, ◌<◌, ◌≤◌, List, ◌++◌, length, take, drop, Option, Some, None, IfSome, refl, sym, ◌∙◌, ap, subst, arith}
use Rattle.std.proofs.lemmas.Bool.{cases_eq, cases_lt}
use Rattle.std.proofs.lemmas.List.{get_or_past}
use Rattle.std.proofs.lemmas.Nat.{row_fits}
use Rattle.std.specs.Prelude.{Result}
use Rattle.rss_base.specs.DiskRule.{Pages, Places, page, SameOff, IsWithin, IsRewrittenIn}
use Rattle.rss_base.specs.Runs.{HoldsRun}
use Rattle.rss_base.specs.Devices.{DeviceView, WritesPages}
use Rattle.rss_base.specs.declared.fault.Failed.{Failed}
use Rattle.rss_base.specs.Layout.{map_pages, map_at, log_at}
use Rattle.rss_base.specs.PageMap.{IsTable, owner_of, entry_bytes, entry_at, HoldsMap}
use Rattle.rss_base.specs.declared.key.PageKey.{PageKey}
use Rattle.rss_base.proofs.Moments.{changed_then, changed_among}
use Rattle.rss_pagemap.specs.Spelling.{HasEntries, HasPages}
use Rattle.rss_pagemap.proofs.Entries.{entry_put, entry_kept}

-- more writes are allowed
pub wrote_within : {T : Type 0} {places : Places} {count more : ℕ} {old new : DeviceView} {result : Result T Failed} → count ≤ more → WritesPages places count old new result → WritesPages places more old new result
wrote_within few wrote = record { only = wrote.only; size = wrote.size; writes = omega (arith, few, wrote.writes); cause = wrote.cause }

entry_long : (owner : Option PageKey) → length (entry_bytes owner) ≡ 8
entry_long None = refl
entry_long (Some key) = refl

-- the next entry is written
pub entries_put : (owners : List (Option PageKey)) (first place start : ℕ) (page bytes new : List ℕ) → place < 512 → length page ≡ 4096 → HasEntries owners first place page → start ≡ 8 * place → bytes ≡ entry_bytes (owner_of owners (first + place)) → new ≡ take start page ++ bytes ++ drop (start + length bytes) page
    → HasEntries owners first (place + 1) new
entries_put owners first place start page bytes new within long has at_start is put k lt =
    let eight : length bytes ≡ 8 = ap (λ (l : List ℕ). length l) is ∙ entry_long (owner_of owners (first + place)) in
    let made : new ≡ take (8 * place) page ++ bytes ++ drop (8 * place + length bytes) page = put ∙ ap (λ (n : ℕ). take n page ++ bytes ++ drop (n + length bytes) page) at_start in
    ap (λ (l : List ℕ). take 8 (drop (8 * k) l)) made ∙ elim (cases_eq k place) [
      | inl here ↦ subst (λ (n : ℕ). take 8 (drop (8 * n) (take (8 * place) page ++ bytes ++ drop (8 * place + length bytes) page)) ≡ entry_bytes (owner_of owners (first + n))) (sym here) (entry_put page bytes place eight (omega arith) ∙ is)
      | inr other ↦ entry_kept page bytes place k eight (omega arith) other ∙ has k (omega (arith, other))
    ]

-- ---- an area

pub area_ends : (slots area : ℕ) → area < 2 → map_at slots area + map_pages slots ≤ log_at slots
area_ends slots area two = omega (arith, row_fits area (map_pages slots) 2 (map_pages slots) two (omega arith))

-- so many pages of the area are written, and none outside it
pub record IsWrittenTo (before : Pages) (first : ℕ) (owners : List (Option PageKey)) (count : ℕ) (contents : Option Pages) : Type 0 where
  pub after : Pages
  pub told : contents ≡ Some after
  pub same : SameOff (IsWithin first (map_pages (length owners))) before after
  pub written : (k : ℕ) → k < count → HasEntries owners (512 * k) 512 (page after (first + k))

-- a run is written
pub more_written : {before : Pages} {first : ℕ} {owners : List (Option PageKey)} {count more : ℕ} {contents new : Option Pages} (run : Pages) (at : ℕ) → at ≡ first + count → more ≡ length run → count + more ≤ map_pages (length owners) → HasPages owners count more run
    → (so_far : IsWrittenTo before first owners count contents) → (kept : IsRewrittenIn (IsWithin at (length run)) so_far.after new) → HoldsRun at run kept.after → IsWrittenTo before first owners (count + more) new
more_written {first = first} {owners = owners} {count = count} run at begins long within has so_far kept holds = record {
  after = kept.after;
  told = kept.told;
  same = changed_then so_far.same (changed_among (λ q is. (omega (arith, is), omega (arith, is))) kept.same);
  written = λ k lt. elim (cases_lt k count) [
    | inl before ↦ subst (HasEntries owners (512 * k) 512) (sym (kept.same.others (first + k) (λ inside. omega (arith, inside)))) (so_far.written k before)
    | inr past ↦
        let here : first + k ≡ at + (k - count) = omega arith in
        let same : page kept.after (first + k) ≡ page run (k - count) = ap (page kept.after) here ∙ holds (k - count) (omega arith) in
        let slots : 512 * k ≡ 512 * (count + (k - count)) = omega arith in
        subst (HasEntries owners (512 * k) 512) (sym same) (subst (λ (n : ℕ). HasEntries owners n 512 (page run (k - count))) (sym slots) (has (k - count) (omega arith)))
  ];
}

-- all pages of a table's area
pub all_written : (before : Pages) (first : ℕ) (owners : List (Option PageKey)) (contents : Option Pages) → IsTable owners → IsWrittenTo before first owners (map_pages (length owners)) contents → HoldsMap before first owners contents
all_written before first owners contents table so_far = record {
  after = so_far.after;
  told = so_far.told;
  same = so_far.same;
  map = record {
    count = refl;
    begins = record {
      entries = λ s lt. record { spelled = spelled s (omega arith); allowed = if_some (owner_of owners s) (table.allowed s) };
      distinct = table.distinct;
    };
    rest = λ s past within. spelled s within ∙ ap entry_bytes (get_or_past owners s None past);
  };
}
  where
    spelled : (s : ℕ) → s < 512 * map_pages (length owners) → entry_at so_far.after first s ≡ entry_bytes (owner_of owners s)
    spelled s within = so_far.written (s / 512) (omega arith) (s % 512) (omega arith) ∙ ap (λ (n : ℕ). entry_bytes (owner_of owners n)) (omega arith)

    if_some : {P : PageKey → Type 0} (owner : Option PageKey) → ((key : PageKey) → owner ≡ Some key → P key) → IfSome owner P
    if_some None each = tt
    if_some (Some key) each = each key refl
