-- What is kept where the changes stay as they are.
use Rattle.std.proofs.Common.{◌≡◌, inl, ℕ, ◌≤◌, Bool, true, false, List, [], ◌∷◌, refl, sym, ◌∙◌, ap, subst}
use Rattle.std.specs.Prelude.{Option, Some, None, is_some, if◌then◌else◌}
use Rattle.std.specs.Ordering.{nat_cmp}
use Rattle.std.specs.FinMap as finite
use Rattle.std.specs.FinMap.{FinMap}
use Rattle.rss_base.specs.declared.name.Name.{Name}
use Rattle.rss_base.specs.declared.item.Item.{Item}
use Rattle.rss_base.specs.declared.item.Item.TheVariants.{Relation as RelationItem, Key as KeyItem}
use Rattle.rss_base.specs.declared.need.Need.{Need}
use Rattle.rss_base.specs.declared.need.Mode.{Mode}
use Rattle.rss_base.specs.declared.need.Mode.TheVariants.{S, X}
use Rattle.rss_base.specs.declared.call.Call.{Call}
use Rattle.rss_base.specs.declared.refusal.Refusal.{Refusal}
use Rattle.rss_model.specs.Items.{Content}
use Rattle.rss_model.specs.Tables.{LinkDef, Definitions}
use Rattle.rss_model.specs.Images.{key_in}
use Rattle.rss_model.specs.Changes.{Change}
use Rattle.rss_model.specs.Locks.{Locks, held, Holds, granted, AreApart}
use Rattle.rss_model.specs.Scans.{Scan, Scans, scans_most, path_relation}
use Rattle.rss_model.specs.Meter.{Meter}
use Rattle.rss_model.specs.Machine.{State, now}
use Rattle.rss_model.specs.Needs.{needs}
use Rattle.rss_model.specs.Callers.{caller}
use Rattle.rss_model.specs.Steps.{is_open, transaction_limit, refusal, keeps_locks, locked_by, left_by}
use Rattle.rss_model.specs.Kept.{HoldsKeys, IsGuarded, Kept}
use Rattle.rss_model.proofs.LogLists.{by_same}
use Rattle.rss_model.proofs.Locking.{held_others, holds_more, apart_granted}
use Rattle.rss_model.proofs.Mixing.{each_of, all_of}
use Rattle.rss_model.proofs.Testing.{Clears, clears}

-- what is guarded stays so under more locks
pub guards_to : (a b : State) (c : Change) → b.base.definitions ≡ a.base.definitions → ((i : Item) (m : Mode) → Holds a.locks c.by i m → Holds b.locks c.by i m) → IsGuarded a c → IsGuarded b c
guards_to a b c same more g = record {
  item = more _ _ g.item;
  above = λ relation tid at. more _ _ (g.above relation tid at);
  keys = λ relation tid at. let both = g.keys relation tid at in (keys_to relation c.old both.0, keys_to relation c.new both.1);
  child = λ link parent definition tid at there moved. more _ _ (g.child link parent definition tid at (links link definition there) moved);
  members = λ link parent definition at there. more _ _ (g.members link parent definition at (links link definition there));
  parent = λ link relation tid definition at there has. more _ _ (g.parent link relation tid definition at (links link definition there) has);
}
  where
    links : (link : Name) (definition : LinkDef) → finite.get b.base.definitions.links link ≡ Some definition → finite.get a.base.definitions.links link ≡ Some definition
    links link definition there = ap (λ (d : Definitions). finite.get d.links link) (sym same) ∙ there

    keys_to : (relation : Name) (known : Option Content) → HoldsKeys a c.by relation known → HoldsKeys b c.by relation known
    keys_to relation known holds values name image is there of unique =
        subst (λ (d : Definitions). Holds b.locks c.by (KeyItem name (key_in d image values)) X) (sym same)
        (more _ _ (holds values name image is (ap (λ (d : Definitions). finite.get d.images name) (sym same) ∙ there) of unique))

module _ {old : State} (kept : Kept old) where
  -- other save points, locks, scans and another meter
  pub keeps_open : (marks : FinMap nat_cmp (List ℕ)) (locks : Locks) (scans : Scans) (meter : Meter)
      → finite.len marks ≤ transaction_limit → finite.len scans ≤ scans_most
      → ((u : ℕ) → is_open old u ≡ true → is_some (finite.get marks u) ≡ true)
      → ((u : ℕ) (i : Item) (m : Mode) → held locks u i ≡ Some m → is_some (finite.get marks u) ≡ true)
      → ((number : ℕ) (scan : Scan) → finite.get scans number ≡ Some scan → is_some (finite.get marks scan.by) ≡ true)
      → ((number : ℕ) (scan : Scan) (relation : Name) → finite.get scans number ≡ Some scan → path_relation old.base scan.path ≡ Some relation → Holds locks scan.by (RelationItem relation) S)
      → ((number : ℕ) (scan : Scan) → finite.get scans number ≡ Some scan → is_some (path_relation old.base scan.path) ≡ true)
      → ((u : ℕ) (i : Item) (m : Mode) → Holds old.locks u i m → Holds locks u i m) → AreApart locks
      → Kept (record old { marks = marks; locks = locks; scans = scans; meter = meter })
  keeps_open marks locks scans meter few few_scans still holders scanners scanned along more apart = record {
    few = few;
    few_scans = few_scans;
    opened = all_of _ old.changes (λ c is. still c.by (each_of (λ c. is_open old c.by ≡ true) old.changes kept.opened c is));
    holders = holders;
    scanners = scanners;
    scanned = scanned;
    along = along;
    kinds = kept.kinds;
    chained = kept.chained;
    fit = kept.fit;
    guarded = all_of _ old.changes (λ c is. guards_to old (record old { marks = marks; locks = locks; scans = scans; meter = meter }) c refl (more c.by) (each_of (IsGuarded old) old.changes kept.guarded c is));
    apart = apart;
    counted = kept.counted;
  }

  pub keeps_meter : (meter : Meter) → Kept (record old { meter = meter })
  keeps_meter meter = keeps_open old.marks old.locks old.scans meter kept.few kept.few_scans (λ u is. is) kept.holders kept.scanners kept.scanned kept.along (λ u i m holds. holds) kept.apart

  pub keeps_marks : (marks : FinMap nat_cmp (List ℕ)) → finite.len marks ≤ transaction_limit → ((u : ℕ) → is_open old u ≡ true → is_some (finite.get marks u) ≡ true) → Kept (record old { marks = marks })
  keeps_marks marks few still = keeps_open marks old.locks old.scans old.meter few kept.few_scans still (λ u i m is. still u (kept.holders u i m is)) (λ number scan is. still scan.by (kept.scanners number scan is)) kept.scanned kept.along (λ u i m holds. holds) kept.apart

  pub keeps_scans : (scans : Scans) → finite.len scans ≤ scans_most → ((number : ℕ) (scan : Scan) → finite.get scans number ≡ Some scan → is_open old scan.by ≡ true)
      → ((number : ℕ) (scan : Scan) (relation : Name) → finite.get scans number ≡ Some scan → path_relation old.base scan.path ≡ Some relation → Holds old.locks scan.by (RelationItem relation) S)
      → ((number : ℕ) (scan : Scan) → finite.get scans number ≡ Some scan → is_some (path_relation old.base scan.path) ≡ true) → Kept (record old { scans = scans })
  keeps_scans scans few scanners scanned along = keeps_open old.marks old.locks scans old.meter kept.few few (λ u is. is) kept.holders scanners scanned along (λ u i m holds. holds) kept.apart

  -- the locks of a list
  pub keeps_granted : (t : ℕ) (list : List Need) → Clears old t list → Kept (record old { locks = granted t list old.locks })
  keeps_granted t [] clear = kept
  keeps_granted t (n ∷ rest) clear = keeps_open old.marks (granted t (n ∷ rest) old.locks) old.scans old.meter kept.few kept.few_scans (λ u is. is)
      (λ u i m is. by_same u t
      (λ e. subst (λ (v : ℕ). is_open old v ≡ true) (sym e) (clear n (inl refl)).0)
      (λ e. kept.holders u i m (sym (held_others t (n ∷ rest) old.locks u i e) ∙ is)))
      kept.scanners
      (λ number scan relation is at. holds_more t (n ∷ rest) old.locks scan.by (RelationItem relation) S (kept.scanned number scan relation is at))
      kept.along
      (λ u i m holds. holds_more t (n ∷ rest) old.locks u i m holds)
      (apart_granted t (n ∷ rest) old.locks kept.apart (λ need is. (clear need is).1))

  -- a call that gets so far has its locks
  pub keeps_locked : (by : Option ℕ) (call : Call) → ((t : ℕ) → by ≡ Some t → Clears old t (needs (now old) call)) → Kept (locked_by by call old)
  keeps_locked None call clear = kept
  keeps_locked (Some t) call clear = keeps_granted t (needs (now old) call) (clear t refl)

  pub keeps_refused : (call : Call) (why : Refusal) → refusal old call ≡ Some why → Kept (left_by old call why)
  keeps_refused call why is = by (keeps_locks why) refl
    where
      by : (b : Bool) → keeps_locks why ≡ b → Kept (if b then locked_by (caller call) call old else old)
      by true keeps = keeps_locked (caller call) call (λ t by. clears old t call (Some why) by is keeps)
      by false keeps = kept
