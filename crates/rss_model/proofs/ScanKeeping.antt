-- What is kept where scans are opened, go on and are closed.
use Rattle.std.proofs.Common.{◌≡◌, ℕ, ◌≤◌, Bool, true, false, refl, sym, ◌∙◌, ap, subst, arith}
use Rattle.std.specs.Prelude.{Option, Some, None, is_some, option_map, option_and_then, nat_le, ◌==◌}
use Rattle.std.specs.FinMap as finite
use Rattle.std.proofs.lemmas.Bool.{eqb-true, leb-false}
use Rattle.std.proofs.lemmas.Option.{same_Some}
use Rattle.rss_base.specs.declared.name.Name.{Name}
use Rattle.rss_base.specs.declared.item.Item.TheVariants.{Relation}
use Rattle.rss_base.specs.declared.need.Mode.TheVariants.{IS, S}
use Rattle.rss_base.specs.declared.call.Call.{Call}
use Rattle.rss_base.specs.declared.call.Call.TheVariants.{OpenRelation, OpenImage, OpenLink}
use Rattle.rss_model.specs.Tables.{ImageDef, LinkDef}
use Rattle.rss_model.specs.Locks.{Holds}
use Rattle.rss_model.specs.Scans.{Path, Scan, Scans, scans_most, if_by, scan_of, new_scan, path_relation}
use Rattle.rss_model.specs.Images.{Entry}
use Rattle.rss_model.specs.Machine.{State, now}
use Rattle.rss_model.specs.Callers.{caller}
use Rattle.rss_model.specs.Needs.{need, needs, reading_all, upper_needs, link_scan_needs, image_scan_needs}
use Rattle.rss_model.specs.Refusals.{tests, refusal, has_form}
use Rattle.rss_model.specs.Steps.{is_open, locked, locked_by, path_of, with_scan, with_given}
use Rattle.rss_model.specs.Kept.{Kept}
use Rattle.rss_model.proofs.LogLists.{by_test, by_same, none_some}
use Rattle.rss_model.proofs.Locking.{holds_it}
use Rattle.rss_model.proofs.Mixing.{In, in_right}
use Rattle.rss_model.proofs.OpenKeeping.{keeps_granted, keeps_scans}
use Rattle.rss_model.proofs.Testing.{all_none, holds, holds_not, clears, relation_need}
use Rattle.rss_model.proofs.EndKeeping.{insert_here, insert_other, insert_len, insert_more, remove_here, remove_other, remove_len}

-- a call that may open a scan: there is room for one more, and its list has all of the relation
record MayOpen (old : State) (call : Call) (t : ℕ) (path : Path) : Type 0 where
  few : nat_le scans_most (finite.len old.scans) ≡ false
  opened : is_open old t ≡ true
  along : is_some (path_relation old.base path) ≡ true
  reads : (relation : Name) → path_relation old.base path ≡ Some relation → In (need (Relation relation) S) (needs (now old) call)

some_path : {a b : Path} → Some a ≡ Some b → a ≡ b
some_path e = cc (e)

mapped : (o : Option ImageDef) → is_some o ≡ true → is_some (option_map (λ (d : ImageDef). d.relation) o) ≡ true
mapped None is = is
mapped (Some d) is = refl

formed : (given : Bool) (o : Option LinkDef) → has_form o given ≡ true → is_some (option_map (λ (d : LinkDef). d.child) o) ≡ true
formed given None is = absurd (cc (is))
formed given (Some d) is = refl

may_open : (old : State) (call : Call) (t : ℕ) (path : Path) → refusal old call ≡ None → caller call ≡ Some t → path_of call ≡ Some path → MayOpen old call t path
may_open old (OpenRelation u relation) t path is by along =
    let passed = all_none (tests old (OpenRelation u relation)) is in record {
      few = holds_not (nat_le scans_most (finite.len old.scans)) _ (passed 2 None (omega arith));
      opened = subst (λ (v : ℕ). is_open old v ≡ true) (same_Some _ _ by) (holds (is_open old u) _ (passed 0 None (omega arith)));
      along = ap (λ (p : Path). is_some (path_relation old.base p)) (sym (some_path along));
      reads = λ r at.
          let same : relation ≡ r = same_Some _ _ (ap (path_relation old.base) (some_path along) ∙ at) in
          subst (λ (n : Name). In (need (Relation n) S) (reading_all (now old) relation)) same (relation_need (now old) relation IS S);
    }
may_open old (OpenImage u image start) t path is by along =
    let passed = all_none (tests old (OpenImage u image start)) is in record {
      few = holds_not (nat_le scans_most (finite.len old.scans)) _ (passed 3 None (omega arith));
      opened = subst (λ (v : ℕ). is_open old v ≡ true) (same_Some _ _ by) (holds (is_open old u) _ (passed 0 None (omega arith)));
      along = ap (λ (p : Path). is_some (path_relation old.base p)) (sym (some_path along)) ∙ mapped (finite.get old.base.definitions.images image) (holds (is_some (finite.get old.base.definitions.images image)) _ (passed 1 None (omega arith)));
      reads = λ r at. in_image (finite.get old.base.definitions.images image) r (ap (path_relation old.base) (some_path along) ∙ at);
    }
  where
    in_image : (o : Option ImageDef) (r : Name) → option_map (λ (d : ImageDef). d.relation) o ≡ Some r → In (need (Relation r) S) (image_scan_needs (now old) o)
    in_image None r at = none_some at
    in_image (Some d) r at = subst (λ (n : Name). In (need (Relation n) S) (reading_all (now old) d.relation)) (same_Some _ _ at) (relation_need (now old) d.relation IS S)
may_open old (OpenLink u link parent) t path is by along =
    let passed = all_none (tests old (OpenLink u link parent)) is in record {
      few = holds_not (nat_le scans_most (finite.len old.scans)) _ (passed 2 None (omega arith));
      opened = subst (λ (v : ℕ). is_open old v ≡ true) (same_Some _ _ by) (holds (is_open old u) _ (passed 0 None (omega arith)));
      along = ap (λ (p : Path). is_some (path_relation old.base p)) (sym (some_path along)) ∙ formed (is_some parent) (finite.get old.base.definitions.links link) (holds (has_form (finite.get old.base.definitions.links link) (is_some parent)) _ (passed 1 None (omega arith)));
      reads = λ r at. in_link (finite.get old.base.definitions.links link) r (ap (path_relation old.base) (some_path along) ∙ at);
    }
  where
    in_link : (o : Option LinkDef) (r : Name) → option_map (λ (d : LinkDef). d.child) o ≡ Some r → In (need (Relation r) S) (link_scan_needs (now old) parent o)
    in_link None r at = none_some at
    in_link (Some d) r at = subst (λ (n : Name). In (need (Relation n) S) (link_scan_needs (now old) parent (Some d))) (same_Some _ _ at) (in_right (upper_needs (now old) d.parent parent) (reading_all (now old) d.child) _ (relation_need (now old) d.child IS S))
may_open old call t path is by along = none_some along

-- one scan is as given, and the others are as they were
module _ {old : State} (kept : Kept old) (number : ℕ) (scan : Scan) (opened : is_open old scan.by ≡ true) (few : finite.len (finite.insert old.scans number scan) ≤ scans_most)
    (reads : (relation : Name) → path_relation old.base scan.path ≡ Some relation → Holds old.locks scan.by (Relation relation) S)
    (along : is_some (path_relation old.base scan.path) ≡ true) where
  pub keeps_scan : Kept (with_scan number scan old)
  keeps_scan = keeps_scans kept (finite.insert old.scans number scan) few
      (λ k s is. by_same k number
      (λ e. subst (λ (x : Scan). is_open old x.by ≡ true) (same_Some _ _ (sym (insert_here old.scans number scan k e) ∙ is)) opened)
      (λ e. kept.scanners k s (sym (insert_other old.scans number scan k e) ∙ is)))
      (λ k s relation is at. by_same k number
      (λ e. let same : scan ≡ s = same_Some _ _ (sym (insert_here old.scans number scan k e) ∙ is) in
      subst (λ (x : Scan). Holds old.locks x.by (Relation relation) S) same (reads relation (ap (λ (x : Scan). path_relation old.base x.path) same ∙ at)))
      (λ e. kept.scanned k s relation (sym (insert_other old.scans number scan k e) ∙ is) at))
      (λ k s is. by_same k number
      (λ e. ap (λ (x : Scan). is_some (path_relation old.base x.path)) (sym (same_Some _ _ (sym (insert_here old.scans number scan k e) ∙ is))) ∙ along)
      (λ e. kept.along k s (sym (insert_other old.scans number scan k e) ∙ is)))

pub keeps_opening : {old : State} → Kept old → (call : Call) (t number : ℕ) (path : Path) → refusal old call ≡ None → caller call ≡ Some t → path_of call ≡ Some path → Kept (with_scan number (new_scan t path) (locked call old))
keeps_opening {old = old} kept call t number path is by along =
    let may = may_open old call t path is by along in
    subst (λ (o : Option ℕ). Kept (with_scan number (new_scan t path) (locked_by o call old))) (sym by)
    (keeps_scan (keeps_granted kept t (needs (now old) call) (clears old t call None by is (tt {0}))) number (new_scan t path) may.opened
    (omega (arith, insert_more old.scans number (new_scan t path), leb-false scans_most (finite.len old.scans) may.few))
    (λ relation at. holds_it t (needs (now old) call) old.locks (need (Relation relation) S) (may.reads relation at)) may.along)

-- the scan of a number
pub its_scan : (scans : Scans) (t number : ℕ) (scan : Scan) → scan_of scans t number ≡ Some scan → (finite.get scans number ≡ Some scan) × (scan.by ≡ t)
its_scan scans t number scan is = by (finite.get scans number) refl
  where
    of : (s : Scan) → if_by t s ≡ Some scan → (s ≡ scan) × (s.by ≡ t)
    of s e = by_test (s.by == t) (λ f. (same_Some _ _ (rw f at e), eqb-true s.by t f)) (λ f. none_some (rw f at e))

    by : (o : Option Scan) → finite.get scans number ≡ o → (finite.get scans number ≡ Some scan) × (scan.by ≡ t)
    by None e = none_some (sym (ap (option_and_then (if_by t)) e) ∙ is)
    by (Some s) e = let parts = of s (sym (ap (option_and_then (if_by t)) e) ∙ is) in (e ∙ ap (λ (x : Scan). Some x) parts.0, ap (λ (x : Scan). x.by) (sym parts.0) ∙ parts.1)

pub keeps_giving : {old : State} → Kept old → (t number : ℕ) (scan : Scan) (given : Entry) → scan_of old.scans t number ≡ Some scan → Kept (with_scan number (with_given scan given) old)
keeps_giving {old = old} kept t number scan given has =
    let its = its_scan old.scans t number scan has in
    keeps_scan kept number (with_given scan given) (kept.scanners number scan its.0)
    (omega (arith, insert_len old.scans number (with_given scan given) (ap is_some its.0), kept.few_scans))
    (λ relation at. kept.scanned number scan relation its.0 at) (kept.along number scan its.0)

pub keeps_closing : {old : State} → Kept old → (number : ℕ) → Kept (record old { scans = finite.remove old.scans number })
keeps_closing {old = old} kept number = keeps_scans kept (finite.remove old.scans number) (omega (arith, remove_len old.scans number, kept.few_scans))
    (λ k s is. kept.scanners k s (was k s is)) (λ k s relation is at. kept.scanned k s relation (was k s is) at) (λ k s is. kept.along k s (was k s is))
  where
    was : (k : ℕ) (s : Scan) → finite.get (finite.remove old.scans number) k ≡ Some s → finite.get old.scans k ≡ Some s
    was k s is = by_same k number (λ e. none_some (sym (remove_here old.scans number k e) ∙ is)) (λ e. sym (remove_other old.scans number k e) ∙ is)
