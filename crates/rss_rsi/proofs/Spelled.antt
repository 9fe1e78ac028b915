-- The open scans in the machine and in the engine: what is done with them leaves them alike.
use Rattle.std.proofs.Common.{◌≡◌, ℕ, Bool, true, false, cond, List, refl, sym, ◌∙◌, ap, subst}
use Rattle.std.specs.Prelude.{Option, Some, None, is_some, is_none, option_map}
use Rattle.std.specs.Cmp.{nat_cmp_total}
use Rattle.std.specs.FinMap as map
use Rattle.std.specs.FinMap.{FinMap, get-empty, get-insert, get-remove, get-retain_keys, nat_cmp-IsAntisymmetric}
use Rattle.std.specs.Ordering.{eq_by_cmp, nat_cmp}
use Rattle.std.proofs.lemmas.Bool.{true≢false}
use Rattle.std.proofs.lemmas.Option.{none-some, same_Some}
use Rattle.rss_base.specs.declared.tid.Tid.{Tid}
use Rattle.rss_model.specs.Images.{Entry}
use Rattle.rss_model.specs.Kept.{Kept}
use Rattle.rss_model.specs.Machine.{State}
use Rattle.rss_model.specs.Scans.{Scans, closed, new_scan, scan_of}
use Rattle.rss_model.specs.Scans.{Path as MachinePath, Scan as MachineScan}
use Rattle.rss_model.specs.Steps.{with_given}
use Rattle.rss_model.specs.Tables.{Definitions}
use Rattle.rss_scan.specs.Scans.{OpenScans, begun, closed_for, given}
use Rattle.rss_scan.specs.Ties.{spelled}
use Rattle.rss_scan.specs.declared.cursor.Path.{Path}
use Rattle.rss_scan.proofs.Spelled.{added_spelled, closed_spelled, given_spelled, removed_spelled}
use Rattle.rss_rsi.specs.Views.{AreScans, HasKeys, spelling}

-- what is in a map without one number, or with another scan there
removed_from : (scans : Scans) (number q : ℕ) (scan : MachineScan) → map.get (map.remove scans number) q ≡ Some scan → map.get scans q ≡ Some scan
removed_from scans number q scan is = by (eq_by_cmp nat_cmp q number) (sym (get-remove nat_cmp_total scans number q) ∙ is)
  where
    by : (b : Bool) → cond b None (map.get scans q) ≡ Some scan → map.get scans q ≡ Some scan
    by true is = absurd (none-some _ is)
    by false is = is

put_keys : (definitions : Definitions) (machine : Scans) (number : ℕ) (put : MachineScan) → HasKeys definitions put.path put.last → ((q : ℕ) (scan : MachineScan) → map.get machine q ≡ Some scan → HasKeys definitions scan.path scan.last)
    → (q : ℕ) (scan : MachineScan) → map.get (map.insert machine number put) q ≡ Some scan → HasKeys definitions scan.path scan.last
put_keys definitions machine number put keys others q scan is = by (eq_by_cmp nat_cmp q number) (sym (get-insert nat_cmp_total machine number put q) ∙ is)
  where
    by : (b : Bool) → cond b (Some put) (map.get machine q) ≡ Some scan → HasKeys definitions scan.path scan.last
    by true is = subst (λ (s : MachineScan). HasKeys definitions s.path s.last) (same_Some _ _ is) keys
    by false is = others q scan is

-- nothing is open in either
pub none_open : (definitions : Definitions) (machine : Scans) (scans : OpenScans) → ((number : ℕ) → map.get machine number ≡ None) → ((number : ℕ) → map.get scans number ≡ None) → AreScans definitions machine scans
none_open definitions machine scans none other = record {
  spelled = λ number. other number ∙ ap (option_map (spelled (spelling definitions))) (sym (none number));
  keys = λ number scan is. absurd (none-some _ (sym (none number) ∙ is));
}

-- none is open in the engine where none is in the machine
pub vacant : {definitions : Definitions} {machine : Scans} {scans : OpenScans} → AreScans definitions machine scans → ((number : ℕ) → map.get machine number ≡ None) → (number : ℕ) → map.get scans number ≡ None
vacant {definitions = definitions} are none number = are.spelled number ∙ ap (option_map (spelled (spelling definitions))) (none number)

-- no scan is open where no transaction is
pub none_scanning : {state : State} → Kept state → state.marks ≡ map.empty → (number : ℕ) → map.get state.scans number ≡ None
none_scanning {state = state} kept closed number = by (map.get state.scans number) refl
  where
    by : (o : Option MachineScan) → map.get state.scans number ≡ o → o ≡ None
    by None at = refl
    by (Some scan) at = absurd (true≢false (sym (kept.scanners number scan at)
        ∙ ap (λ (marks : FinMap nat_cmp (List ℕ)). is_some (map.get marks scan.by)) closed ∙ ap (λ (o : Option (List ℕ)). is_some o) (get-empty {X = List ℕ} nat_cmp scan.by)))

-- as they were
pub still_scans : {definitions : Definitions} {old new : OpenScans} {was next : Scans} → new ≡ old → next ≡ was → AreScans definitions was old → AreScans definitions next new
still_scans {definitions = definitions} {old = old} {next = next} same as_was are = subst (AreScans definitions next) (sym same) (subst (λ (m : Scans). AreScans definitions m old) (sym as_was) are)

pub closed_scans : {definitions : Definitions} {machine : Scans} {scans : OpenScans} (t : ℕ) → AreScans definitions machine scans → AreScans definitions (closed t machine) (closed_for t scans)
closed_scans {definitions = definitions} {machine = machine} {scans = scans} t are = record {
  spelled = closed_spelled (spelling definitions) machine scans t are.spelled;
  keys = λ number scan is. are.keys number scan (left number scan is);
}
  where
    left : (number : ℕ) (scan : MachineScan) → map.get (closed t machine) number ≡ Some scan → map.get machine number ≡ Some scan
    left number scan is = by (is_none (scan_of machine t number)) (sym (get-retain_keys machine (λ n. is_none (scan_of machine t n)) number (λ x tie. ap (λ (n : ℕ). is_none (scan_of machine t n)) (sym (nat_cmp-IsAntisymmetric number x tie)))) ∙ is)
      where
        by : (b : Bool) → cond b (map.get machine number) None ≡ Some scan → map.get machine number ≡ Some scan
        by true is = is
        by false is = absurd (none-some _ is)

pub removed_scans : {definitions : Definitions} {machine : Scans} {scans : OpenScans} (number : ℕ) → AreScans definitions machine scans → AreScans definitions (map.remove machine number) (map.remove scans number)
removed_scans {definitions = definitions} {machine = machine} {scans = scans} number are = record {
  spelled = removed_spelled (spelling definitions) machine scans number are.spelled;
  keys = λ q scan is. are.keys q scan (removed_from machine number q scan is);
}

pub added_scans : {definitions : Definitions} {machine : Scans} {scans : OpenScans} (t number : ℕ) (along : MachinePath) (path : Path) → AreScans definitions machine scans → spelling definitions along None ≡ (begun t path).cursor → HasKeys definitions along None
    → AreScans definitions (map.insert machine number (new_scan t along)) (map.insert scans number (begun t path))
added_scans {definitions = definitions} {machine = machine} {scans = scans} t number along path are same keys = record {
  spelled = added_spelled (spelling definitions) machine scans t number along path are.spelled same;
  keys = put_keys definitions machine number (new_scan t along) keys are.keys;
}

pub given_scans : {definitions : Definitions} {machine : Scans} {scans : OpenScans} (number : ℕ) (scan : MachineScan) (next : Entry) (key : List ℕ) (tid : Tid) → AreScans definitions machine scans
    → spelling definitions scan.path (Some next) ≡ (given key tid (spelled (spelling definitions) scan)).cursor → HasKeys definitions scan.path (Some next)
    → AreScans definitions (map.insert machine number (with_given scan next)) (map.insert scans number (given key tid (spelled (spelling definitions) scan)))
given_scans {definitions = definitions} {machine = machine} {scans = scans} number scan next key tid are same keys = record {
  spelled = given_spelled (spelling definitions) machine scans number scan next key tid are.spelled same;
  keys = put_keys definitions machine number (with_given scan next) keys are.keys;
}
