-- The selector and the two roots while one takes the place of the other.
use Rattle.std.specs.Prelude.{◌≡◌, ◌⊎◌, ℕ, List, slice_set, Some}
use Rattle.rss_base.specs.DiskRule.{Disk, Pages, page, Told, Leaves, LeavesOnly, Places, IsAt, SameOff, TornIn, Passes}
use Rattle.rss_base.specs.Layout.{selected_by, selected, root_of}
use Rattle.rss_base.specs.declared.place.Place.{Place}
use Rattle.rss_base.specs.declared.place.Place.TheVariants.{Size, Root}

-- each image selects this root, and has these bytes there
pub record Selects (disk : Disk) (number : ℕ) (bytes : List ℕ) : Type 0 where
  pub selected_one : (image : Pages) → Leaves disk image → selected image ≡ number
  pub there : (image : Pages) → Leaves disk image → page image number ≡ bytes

-- the selected root has the one bytes or the other
abbrev pub SelectsEither : List ℕ → List ℕ → Pages → Type 0
SelectsEither before after pages = (root_of pages ≡ before) ⊎ (root_of pages ≡ after)

-- Within a switch: the other root may hold any bytes, or the other root is whole and the selector may
-- hold any bytes.
abbrev pub IsPhase : Disk → Pages → ℕ → List ℕ → Pages → Type 0
IsPhase disk pages other root image =
    TornIn (IsAt other) (Leaves disk) image ⊎ SameOff (IsAt 0) (slice_set pages other root) image

-- the pages that a switch writes: the selector and the other root
abbrev pub IsSwitchPlace : ℕ → Places
IsSwitchPlace other q = (q ≡ 0) ⊎ (q ≡ other)

-- a call that passes through these phases only
abbrev pub IsSwitching : ℕ → List ℕ → Disk → Disk → Type 0
IsSwitching other root old new = Told old (λ pages. Passes old new (IsPhase old pages other root))

-- after a switch a stop leaves the pages as they were but for the other root and a selector that
-- names it
pub record IsSwitched (before : Pages) (other : ℕ) (root : List ℕ) (disk : Disk) : Type 0 where
  pub selector : List ℕ
  pub names_it : selected_by selector ≡ other
  pub told : disk.contents ≡ Some (slice_set (slice_set before other root) 0 selector)
  pub only : LeavesOnly disk (slice_set (slice_set before other root) 0 selector)

-- a place that the roots have
abbrev pub IsRootPlace : Place → Type 0
IsRootPlace Size = Unit {0}
IsRootPlace (Root number) = Unit {0}
IsRootPlace place = ⊥
