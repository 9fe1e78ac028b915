-- A run of pages that a device in memory writes one by one.
use Rattle.std.proofs.Common.{◌≡◌, ℕ, ◌+◌, ◌<◌, length, set, ◌∙◌, [], arith, get_or-set_same, get_or-set_other, inl, inr}
use Rattle.std.proofs.lemmas.Bool.{cases_lt}
use Rattle.rss_base.proofs.Moments.{writes_then, writes_one}
use Rattle.rss_base.specs.DiskRule.{Pages, Places, IsAt, page}
use Rattle.rss_base.specs.Devices.{DeviceView}
use Rattle.rss_device.specs.Memory.{OnlyTouches}

-- one of these pages more
pub touches_more : {places : Places} {at : ℕ} {old mid new : DeviceView} → places at → OnlyTouches places old mid → OnlyTouches (IsAt at) mid new → OnlyTouches places old new
touches_more inside before one = record {
  only = writes_then before.only (writes_one inside one.only);
  size = one.size ∙ before.size;
  writes = one.writes ∙ before.writes;
  faults = one.faults ∙ before.faults;
}

-- one page of the run more
pub holds_more : (pages later run : Pages) (at k : ℕ) → at + k < length pages → later ≡ set pages (at + k) (page run k) → ((j : ℕ) → j < k → page pages (at + j) ≡ page run j) → (j : ℕ) → j < k + 1 → page later (at + j) ≡ page run j
holds_more pages later run at k room is holds j lt = rw is (elim (cases_lt j k) [
  | inl before ↦ get_or-set_other pages (at + k) (at + j) (page run k) [] (λ same. omega (arith, same)) ∙ holds j before
  | inr here ↦ let same : j ≡ k = omega arith in rw same (get_or-set_same pages (at + k) (page run k) [] room)
])
