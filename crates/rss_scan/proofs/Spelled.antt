-- What is done with the open scans and with the machine's leaves them spelled alike.
use Rattle.std.proofs.Common.{◌≡◌, ℕ, suc, Bool, true, false, not, cond, T, ◌&&◌, List, [], ◌∷◌, length, refl, sym, ◌∙◌, ap, subst}
use Rattle.std.specs.Prelude.{Option, Some, None, ◌==◌, is_none, option_map, option_and_then}
use Rattle.std.specs.Ordering.{eq_by_cmp, is_lt, nat_cmp}
use Rattle.std.specs.Cmp.{nat_cmp_total}
use Rattle.std.specs.FinMap as map
use Rattle.std.specs.FinMap.{nat_cmp-IsAntisymmetric, get-empty, get-insert, get-remove, get-retain_keys, get-entries, len-entries, entries_sorted}
use Rattle.std.specs.FinMap.Entries as listed
use Rattle.rss_model.specs.Scans.{Scans, if_by, scan_of, new_scan}
use Rattle.rss_model.specs.Scans.{Scan as MachineScan}
use Rattle.rss_model.specs.Steps.{with_given}
use Rattle.rss_scan.specs.declared.cursor.Scan.{Scan}
use Rattle.rss_scan.specs.Scans.{OpenScans, begun, given, if_owner, is_of}
use Rattle.rss_scan.specs.Ties.{Spelling, spelled, AreSpelled, NoneSpelled, AddedSpelled, GivenSpelled, RemovedSpelled, ClosedSpelled, FoundSpelled, CountedSpelled}

-- the same is put under a number
put_spelled : (spell : Spelling) (machine : Scans) (scans : OpenScans) (number : ℕ) (other : MachineScan) (scan : Scan) → AreSpelled spell machine scans → scan ≡ spelled spell other → AreSpelled spell (map.insert machine number other) (map.insert scans number scan)
put_spelled spell machine scans number other scan same is q =
    get-insert nat_cmp_total scans number scan q
    ∙ (λ i. cond (eq_by_cmp nat_cmp q number) (Some (is i)) (same q i))
    ∙ by (eq_by_cmp nat_cmp q number)
    ∙ ap (option_map (spelled spell)) (sym (get-insert nat_cmp_total machine number other q))
  where
    by : (b : Bool) → cond b (Some (spelled spell other)) (option_map (spelled spell) (map.get machine q)) ≡ option_map (spelled spell) (cond b (Some other) (map.get machine q))
    by true = refl
    by false = refl

pub none_spelled : NoneSpelled
none_spelled spell q = get-empty nat_cmp q ∙ ap (option_map (spelled spell)) (sym (get-empty nat_cmp q))

pub added_spelled : AddedSpelled
added_spelled spell machine scans t number along path same here = put_spelled spell machine scans number (new_scan t along) (begun t path) same (λ i. record { owner = t; cursor = sym here i })

pub given_spelled : GivenSpelled
given_spelled spell machine scans number scan next key tid same here = put_spelled spell machine scans number (with_given scan next) (given key tid (spelled spell scan)) same (λ i. record { owner = scan.by; cursor = sym here i })

-- those that pass a test, which is the same of both
kept_spelled : (spell : Spelling) (o : Option MachineScan) (b : Bool) → cond b (option_map (spelled spell) o) None ≡ option_map (spelled spell) (cond b o None)
kept_spelled spell o true = refl
kept_spelled spell o false = refl

gone_spelled : (spell : Spelling) (o : Option MachineScan) (b : Bool) → cond b None (option_map (spelled spell) o) ≡ option_map (spelled spell) (cond b None o)
gone_spelled spell o true = refl
gone_spelled spell o false = refl

pub removed_spelled : RemovedSpelled
removed_spelled spell machine scans number same q =
    get-remove nat_cmp_total scans number q
    ∙ ap (cond (eq_by_cmp nat_cmp q number) None) (same q)
    ∙ gone_spelled spell (map.get machine q) (eq_by_cmp nat_cmp q number)
    ∙ ap (option_map (spelled spell)) (sym (get-remove nat_cmp_total machine number q))

found_in : (spell : Spelling) (t : ℕ) (o : Option MachineScan) → option_and_then (if_owner t) (option_map (spelled spell) o) ≡ option_map (λ (scan : MachineScan). spell scan.path scan.last) (option_and_then (if_by t) o)
found_in spell t None = refl
found_in spell t (Some scan) = by (scan.by == t)
  where
    by : (b : Bool) → cond b (Some (spell scan.path scan.last)) None ≡ option_map (λ (scan : MachineScan). spell scan.path scan.last) (cond b (Some scan) None)
    by true = refl
    by false = refl

pub found_spelled : FoundSpelled
found_spelled spell machine scans t number same = ap (option_and_then (if_owner t)) (same number) ∙ found_in spell t (map.get machine number)

-- whose it is
owner_test : (spell : Spelling) (t : ℕ) (o : Option MachineScan) → not (is_of t (option_map (spelled spell) o)) ≡ is_none (option_and_then (if_by t) o)
owner_test spell t None = refl
owner_test spell t (Some scan) = by (scan.by == t)
  where
    by : (b : Bool) → not b ≡ is_none (cond b (Some scan) None)
    by true = refl
    by false = refl

pub closed_spelled : ClosedSpelled
closed_spelled spell machine scans t same q =
    get-retain_keys scans (λ n. not (is_of t (map.get scans n))) q (λ x tie. ap (λ (n : ℕ). not (is_of t (map.get scans n))) (sym (nat_cmp-IsAntisymmetric q x tie)))
    ∙ (λ i. cond ((ap (λ (o : Option Scan). not (is_of t o)) (same q) ∙ owner_test spell t (map.get machine q)) i) (same q i) None)
    ∙ kept_spelled spell (map.get machine q) (is_none (scan_of machine t q))
    ∙ ap (option_map (spelled spell)) (sym (get-retain_keys machine (λ n. is_none (scan_of machine t n)) q (λ x tie. ap (λ (n : ℕ). is_none (scan_of machine t n)) (sym (nat_cmp-IsAntisymmetric q x tie)))))

-- ---- as many

-- the keys alone
keys_only : {A : Type 0} → List (ℕ × A) → List (ℕ × Unit {0})
keys_only [] = []
keys_only (e ∷ es) = (e.0, tt) ∷ keys_only es

length_only : {A : Type 0} (es : List (ℕ × A)) → length (keys_only es) ≡ length es
unfolding keys_only
length_only [] = refl
length_only (e ∷ es) = ap suc (length_only es)

below_only : {A : Type 0} (x : ℕ) (es : List (ℕ × A)) → listed.below_all nat_cmp x (keys_only es) ≡ listed.below_all nat_cmp x es
unfolding keys_only
below_only x [] = refl
below_only x (e ∷ es) = ap (λ (b : Bool). is_lt (nat_cmp x e.0) && b) (below_only x es)

sorted_only : {A : Type 0} (es : List (ℕ × A)) → listed.is_sorted nat_cmp (keys_only es) ≡ listed.is_sorted nat_cmp es
unfolding keys_only
sorted_only [] = refl
sorted_only (e ∷ es) = λ i. below_only e.0 es i && sorted_only es i

abbrev mark : {A : Type 0} → Option A → Option (Unit {0})
mark None = None
mark (Some a) = Some tt

find_only : {A : Type 0} (q : ℕ) (es : List (ℕ × A)) → listed.find nat_cmp q (keys_only es) ≡ mark (listed.find nat_cmp q es)
unfolding keys_only
find_only q [] = refl
find_only q (e ∷ es) = ap (cond (eq_by_cmp nat_cmp q e.0) (Some tt)) (find_only q es) ∙ by (eq_by_cmp nat_cmp q e.0)
  where
    by : (b : Bool) → cond b (Some tt) (mark (listed.find nat_cmp q es)) ≡ mark (cond b (Some e.1) (listed.find nat_cmp q es))
    by true = refl
    by false = refl

same_mark : (spell : Spelling) (o : Option MachineScan) → mark (option_map (spelled spell) o) ≡ mark o
same_mark spell None = refl
same_mark spell (Some scan) = refl

pub counted_spelled : CountedSpelled
counted_spelled spell machine scans same =
    let lists : keys_only (map.entries scans) ≡ keys_only (map.entries machine) = listed.same_entries nat_cmp nat_cmp_total nat_cmp-IsAntisymmetric (keys_only (map.entries scans)) (keys_only (map.entries machine))
    (subst T (sym (sorted_only (map.entries scans))) (entries_sorted scans))
    (subst T (sym (sorted_only (map.entries machine))) (entries_sorted machine))
    (λ q. find_only q (map.entries scans) ∙ ap mark (sym (get-entries scans q)) ∙ ap mark (same q) ∙ same_mark spell (map.get machine q) ∙ ap mark (get-entries machine q) ∙ sym (find_only q (map.entries machine))) in
    len-entries scans ∙ sym (length_only (map.entries scans)) ∙ ap (λ (l : List (ℕ × Unit {0})). length l) lists ∙ length_only (map.entries machine) ∙ sym (len-entries machine)
