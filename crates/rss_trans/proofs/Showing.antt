-- The open transactions, as their records show them.
use Rattle.std.proofs.Common.{◌≡◌, ◌≢◌, ◌⊎◌, inl, inr, ℕ, suc, ◌<◌, Bool, true, false, cond, List, [], ◌∷◌, length, get_or, set, refl, sym, ◌∙◌, ap, subst, arith, get_or-set_same, get_or-set_other, eqb-true, eq-eqb}
use Rattle.std.specs.Prelude.{Option, Some, None, is_some, IsSome, option_map, unwrap_or, slice_get, ◌==◌}
use Rattle.std.specs.BTreeMap.{insert_entry}
use Rattle.std.specs.List.{AllByRecursion}
use Rattle.std.specs.Map.{lookup, remove_entry, keys_of}
use Rattle.std.specs.declared.cmp.Ordering.{Ordering}
use Rattle.std.specs.declared.cmp.Ordering.TheVariants.{Less, Equal, Greater}
use Rattle.std.specs.Ordering.{nat_cmp, match_ordering}
use Rattle.std.proofs.Common.{replicate}
use Rattle.std.proofs.lemmas.List.{get_or_past, get_or-replicate, length-replicate}
use Rattle.std.proofs.lemmas.Bool.{cases_lt}
use Rattle.rss_trans.specs.Transactions.{Transaction, nothing}
use Rattle.rss_trans.specs.Tallies.{Kept}
use Rattle.rss_trans.specs.Tables.{at, find, changed, kept_at, shown, IsApart}
use mathlib.Core.Bool.{true≢false}

cases : (b : Bool) → (b ≡ true) ⊎ (b ≡ false)
cases true = inl refl
cases false = inr refl

if_true : {A : Type 0} (b : Bool) (x y : A) → b ≡ true → cond b x y ≡ x
if_true b x y e = ap (λ (c : Bool). cond c x y) e

if_false : {A : Type 0} (b : Bool) (x y : A) → b ≡ false → cond b x y ≡ y
if_false b x y e = ap (λ (c : Bool). cond c x y) e

abbrev Keys : Type 0
Keys = List (ℕ × ℕ)

abbrev Slots : Type 0
Slots = List (Option Kept)

pub length-shown : (es : Keys) (slots : Slots) → length (shown es slots) ≡ length es
length-shown [] slots = refl
length-shown (e ∷ es) slots = ap suc (length-shown es slots)

pub keys_of-shown : (es : Keys) (slots : Slots) → keys_of (shown es slots) ≡ keys_of es
keys_of-shown [] slots = refl
keys_of-shown (e ∷ es) slots = ap (λ (l : List ℕ). e.0 ∷ l) (keys_of-shown es slots)

pub find-shown : (t : ℕ) (es : Keys) (slots : Slots) → find t (shown es slots) ≡ option_map (λ key. (kept_at slots key).transaction) (lookup (at t) es)
find-shown t [] slots = refl
find-shown t (e ∷ es) slots = elim (cases (at t e.0)) [
  | inl so ↦
      if_true (at t e.0) (Some (kept_at slots e.1).transaction) (find t (shown es slots)) so
      ∙ sym (ap (option_map (λ key. (kept_at slots key).transaction)) (if_true (at t e.0) (Some e.1) (lookup (at t) es) so))
  | inr apart ↦
      if_false (at t e.0) (Some (kept_at slots e.1).transaction) (find t (shown es slots)) apart
      ∙ find-shown t es slots
      ∙ sym (ap (option_map (λ key. (kept_at slots key).transaction)) (if_false (at t e.0) (Some e.1) (lookup (at t) es) apart))
]

-- what is found has a key, and what has a key is found
pub found_key : (t : ℕ) (es : Keys) (slots : Slots) → IsSome (find t (shown es slots)) → IsSome (lookup (at t) es)
found_key t es slots some = by (lookup (at t) es) (ap is_some (sym (find-shown t es slots)) ∙ some)
  where
    by : (o : Option ℕ) → is_some (option_map (λ key. (kept_at slots key).transaction) o) ≡ true → IsSome o
    by None e = e
    by (Some key) e = refl

pub key_found : (t : ℕ) (es : Keys) (slots : Slots) → IsSome (lookup (at t) es) → IsSome (find t (shown es slots))
key_found t es slots some = ap is_some (find-shown t es slots) ∙ by (lookup (at t) es) some
  where
    by : (o : Option ℕ) → IsSome o → is_some (option_map (λ key. (kept_at slots key).transaction) o) ≡ true
    by None e = e
    by (Some key) e = refl

-- ---- of each entry

pub all_found : (P : ℕ → Type 0) (t : ℕ) (es : Keys) (key : ℕ) → lookup (at t) es ≡ Some key → AllByRecursion (λ e. P e.1) es → P key
all_found P t [] key is all = absurd (cc)
all_found P t (e ∷ es) key is all = elim (cases (at t e.0)) [
  | inl so ↦ let same : Some e.1 ≡ Some key = sym (if_true (at t e.0) (Some e.1) (lookup (at t) es) so) ∙ is in let one : e.1 ≡ key = cc in subst P one all.0
  | inr apart ↦ all_found P t es key (sym (if_false (at t e.0) (Some e.1) (lookup (at t) es) apart) ∙ is) all.1
]

pub all_so : {A : Type 0} (P Q : A → Type 0) (xs : List A) → ((x : A) → P x → Q x) → AllByRecursion P xs → AllByRecursion Q xs
all_so P Q [] so all = tt
all_so P Q (x ∷ xs) so all = (so x all.0, all_so P Q xs so all.1)

pub shown_same : (es : Keys) (slots new : Slots) → AllByRecursion (λ e. kept_at new e.1 ≡ kept_at slots e.1) es → shown es new ≡ shown es slots
shown_same [] slots new all = refl
shown_same (e ∷ es) slots new all = λ i. (e.0, (all.0 i).transaction) ∷ shown_same es slots new all.1 i

set_other : (slots : Slots) (key other : ℕ) (slot : Option Kept) → other ≢ key → kept_at (set slots key slot) other ≡ kept_at slots other
set_other slots key other slot off = ap (λ (o : Option Kept). unwrap_or o (record { transaction = nothing; room = 0 })) (get_or-set_other slots key other slot None off)

pub set_same : (slots : Slots) (key : ℕ) (kept : Kept) → key < length slots → kept_at (set slots key (Some kept)) key ≡ kept
set_same slots key kept within = ap (λ (o : Option Kept). unwrap_or o (record { transaction = nothing; room = 0 })) (get_or-set_same slots key (Some kept) None within)

pub within_slots : (slots : Slots) (key : ℕ) → IsSome (get_or slots key None) → key < length slots
within_slots slots key some = elim (cases_lt key (length slots)) [
  | inl below ↦ below
  | inr past ↦ absurd (let none : Option Kept = None in let e : is_some none ≡ true = ap is_some (sym (get_or_past slots key None past)) ∙ some in cc)
]

-- ---- one transaction's record is changed

pub shown_set : (t : ℕ) (step : Transaction → Transaction) (es : Keys) (slots : Slots) (key : ℕ) (kept : Kept) → lookup (at t) es ≡ Some key → IsApart es → key < length slots → kept.transaction ≡ step (kept_at slots key).transaction → shown es (set slots key (Some kept)) ≡ changed t step (shown es slots)
shown_set t step [] slots key kept is apart within made = refl
shown_set t step (e ∷ es) slots key kept is apart within made = elim (cases (at t e.0)) [
  | inl so ↦
      let found : Some e.1 ≡ Some key = sym (if_true (at t e.0) (Some e.1) (lookup (at t) es) so) ∙ is in
      let one : e.1 ≡ key = cc in
      let here : (kept_at (set slots key (Some kept)) e.1).transaction ≡ step (kept_at slots e.1).transaction =
      ap (λ (k : ℕ). (kept_at (set slots key (Some kept)) k).transaction) one ∙ ap (λ (k : Kept). k.transaction) (set_same slots key kept within) ∙ made ∙ ap (λ (k : ℕ). step (kept_at slots k).transaction) (sym one) in
      let others : shown es (set slots key (Some kept)) ≡ shown es slots = shown_same es slots (set slots key (Some kept)) (all_so (λ f. f.1 ≢ e.1) (λ f. kept_at (set slots key (Some kept)) f.1 ≡ kept_at slots f.1) es (λ f off. set_other slots key f.1 (Some kept) (λ same. off (same ∙ sym one))) apart.0) in
      (λ i. (e.0, here i) ∷ others i)
      ∙ sym (if_true (at t e.0) ((e.0, step (kept_at slots e.1).transaction) ∷ shown es slots) ((e.0, (kept_at slots e.1).transaction) ∷ changed t step (shown es slots)) so)
  | inr off ↦
      let later : lookup (at t) es ≡ Some key = sym (if_false (at t e.0) (Some e.1) (lookup (at t) es) off) ∙ is in
      let differs : key ≢ e.1 = all_found (λ k. k ≢ e.1) t es key later apart.0 in
      let here : (kept_at (set slots key (Some kept)) e.1).transaction ≡ (kept_at slots e.1).transaction = ap (λ (k : Kept). k.transaction) (set_other slots key e.1 (Some kept) (λ same. differs (sym same))) in
      (λ i. (e.0, here i) ∷ shown_set t step es slots key kept later apart.1 within made i)
      ∙ sym (if_false (at t e.0) ((e.0, step (kept_at slots e.1).transaction) ∷ shown es slots) ((e.0, (kept_at slots e.1).transaction) ∷ changed t step (shown es slots)) off)
]

pub there_set : (es : Keys) (slots : Slots) (key : ℕ) (kept : Kept) → key < length slots → AllByRecursion (λ e. IsSome (get_or slots e.1 None)) es → AllByRecursion (λ e. IsSome (get_or (set slots key (Some kept)) e.1 None)) es
there_set es slots key kept within all = all_so (λ e. IsSome (get_or slots e.1 None)) (λ e. IsSome (get_or (set slots key (Some kept)) e.1 None)) es (λ e some. elim (cases (e.1 == key)) [
  | inl so ↦ ap is_some (ap (λ (k : ℕ). get_or (set slots key (Some kept)) k None) (eqb-true e.1 key so) ∙ get_or-set_same slots key (Some kept) None within)
  | inr off ↦ ap is_some (get_or-set_other slots key e.1 (Some kept) None (λ same. true≢false (sym (eq-eqb e.1 key same) ∙ off))) ∙ some
]) all

-- no step is no change
pub changed_id : (t : ℕ) (es : List (ℕ × Transaction)) → changed t (λ x. x) es ≡ es
changed_id t [] = refl
changed_id t (e ∷ es) = elim (cases (at t e.0)) [
  | inl so ↦ if_true (at t e.0) (e ∷ es) (e ∷ changed t (λ x. x) es) so
  | inr off ↦ if_false (at t e.0) (e ∷ es) (e ∷ changed t (λ x. x) es) off ∙ ap (λ (l : List (ℕ × Transaction)). e ∷ l) (changed_id t es)
]

-- ---- one more transaction

module _ (slots new : Slots) (key : ℕ) (same : (other : ℕ) → other ≢ key → get_or new other None ≡ get_or slots other None) where
  kept_same : (other : ℕ) → other ≢ key → kept_at new other ≡ kept_at slots other
  kept_same other off = ap (λ (o : Option Kept). unwrap_or o (record { transaction = nothing; room = 0 })) (same other off)

  pub shown_insert : (t : ℕ) (fresh : Transaction) (es : Keys) → (kept_at new key).transaction ≡ fresh → AllByRecursion (λ e. e.1 ≢ key) es → shown (insert_entry nat_cmp es t key) new ≡ insert_entry nat_cmp (shown es slots) t fresh
  shown_insert t fresh [] made all = λ i. (t, made i) ∷ []
  shown_insert t fresh (e ∷ es) made all = by (nat_cmp t e.0) (shown_insert t fresh es made all.1)
    where
      others : shown es new ≡ shown es slots
      others = shown_same es slots new (all_so (λ f. f.1 ≢ key) (λ f. kept_at new f.1 ≡ kept_at slots f.1) es (λ f off. kept_same f.1 off) all.1)

      by : (o : Ordering) → shown (insert_entry nat_cmp es t key) new ≡ insert_entry nat_cmp (shown es slots) t fresh → shown (match_ordering o ((t, key) ∷ e ∷ es) ((e.0, key) ∷ es) (e ∷ insert_entry nat_cmp es t key)) new ≡ match_ordering o ((t, fresh) ∷ (e.0, (kept_at slots e.1).transaction) ∷ shown es slots) ((e.0, fresh) ∷ shown es slots) ((e.0, (kept_at slots e.1).transaction) ∷ insert_entry nat_cmp (shown es slots) t fresh)
      by Less later = λ i. (t, made i) ∷ (e.0, (kept_same e.1 all.0 i).transaction) ∷ others i
      by Equal later = λ i. (e.0, made i) ∷ others i
      by Greater later = λ i. (e.0, (kept_same e.1 all.0 i).transaction) ∷ later i

  others : (fs : Keys) → AllByRecursion (λ e. e.1 ≢ key) fs → AllByRecursion (λ e. IsSome (get_or slots e.1 None)) fs → AllByRecursion (λ e. IsSome (get_or new e.1 None)) fs
  others [] off all = tt
  others (f ∷ fs) off all = (ap is_some (same f.1 off.0) ∙ all.0, others fs off.1 all.1)

  pub there_insert : (t : ℕ) (es : Keys) → IsSome (get_or new key None) → AllByRecursion (λ e. e.1 ≢ key) es → AllByRecursion (λ e. IsSome (get_or slots e.1 None)) es → AllByRecursion (λ e. IsSome (get_or new e.1 None)) (insert_entry nat_cmp es t key)
  there_insert t [] some off all = (some, tt)
  there_insert t (e ∷ es) some off all = by (nat_cmp t e.0) (others es off.1 all.1) (there_insert t es some off.1 all.1)
    where
      here : (k : ℕ) → k ≢ key → IsSome (get_or slots k None) → IsSome (get_or new k None)
      here k away is = ap is_some (same k away) ∙ is

      by : (o : Ordering) → AllByRecursion (λ e. IsSome (get_or new e.1 None)) es → AllByRecursion (λ e. IsSome (get_or new e.1 None)) (insert_entry nat_cmp es t key) → AllByRecursion (λ e. IsSome (get_or new e.1 None)) (match_ordering o ((t, key) ∷ e ∷ es) ((e.0, key) ∷ es) (e ∷ insert_entry nat_cmp es t key))
      by Less rest later = (some, (here e.1 off.0 all.0, rest))
      by Equal rest later = (some, rest)
      by Greater rest later = (here e.1 off.0 all.0, later)

-- a key that is new to all is apart from them
all_insert : (P : ℕ × ℕ → Type 0) (es : Keys) (t key : ℕ) → ((n : ℕ) → P (n, key)) → AllByRecursion P es → AllByRecursion P (insert_entry nat_cmp es t key)
all_insert P [] t key new all = (new t, tt)
all_insert P (e ∷ es) t key new all = by (nat_cmp t e.0) (all_insert P es t key new all.1)
  where
    by : (o : Ordering) → AllByRecursion P (insert_entry nat_cmp es t key) → AllByRecursion P (match_ordering o ((t, key) ∷ e ∷ es) ((e.0, key) ∷ es) (e ∷ insert_entry nat_cmp es t key))
    by Less later = (new t, all)
    by Equal later = (new e.0, all.1)
    by Greater later = (all.0, later)

pub apart_insert : (es : Keys) (t key : ℕ) → AllByRecursion (λ e. e.1 ≢ key) es → IsApart es → IsApart (insert_entry nat_cmp es t key)
apart_insert [] t key off apart = (tt, tt)
apart_insert (e ∷ es) t key off apart = by (nat_cmp t e.0) (apart_insert es t key off.1 apart.1)
  where
    by : (o : Ordering) → IsApart (insert_entry nat_cmp es t key) → IsApart (match_ordering o ((t, key) ∷ e ∷ es) ((e.0, key) ∷ es) (e ∷ insert_entry nat_cmp es t key))
    by Less later = (off, apart)
    by Equal later = (off.1, apart.1)
    by Greater later = (all_insert (λ f. f.1 ≢ e.1) es t key (λ n same. off.0 (sym same)) apart.0, later)

-- occupied keys are not the vacant one
pub off_vacant : (slots : Slots) (key : ℕ) (es : Keys) → get_or slots key None ≡ None → AllByRecursion (λ e. IsSome (get_or slots e.1 None)) es → AllByRecursion (λ e. e.1 ≢ key) es
off_vacant slots key es vacant all = all_so (λ e. IsSome (get_or slots e.1 None)) (λ e. e.1 ≢ key) es (λ e some same. let empty : Option Kept = None in let none : is_some empty ≡ true = ap is_some (sym (ap (λ (k : ℕ). get_or slots k None) same ∙ vacant)) ∙ some in cc) all

-- ---- one transaction less

remove_all : (P : ℕ × ℕ → Type 0) (t : ℕ) (es : Keys) → AllByRecursion P es → AllByRecursion P (remove_entry (at t) es)
remove_all P t [] all = tt
remove_all P t (e ∷ es) all = by (at t e.0) (remove_all P t es all.1)
  where
    by : (b : Bool) → AllByRecursion P (remove_entry (at t) es) → AllByRecursion P (cond b es (e ∷ remove_entry (at t) es))
    by true later = all.1
    by false later = (all.0, later)

pub apart_remove : (t : ℕ) (es : Keys) → IsApart es → IsApart (remove_entry (at t) es)
apart_remove t [] apart = tt
apart_remove t (e ∷ es) apart = by (at t e.0) (apart_remove t es apart.1)
  where
    by : (b : Bool) → IsApart (remove_entry (at t) es) → IsApart (cond b es (e ∷ remove_entry (at t) es))
    by true later = apart.1
    by false later = (remove_all (λ f. f.1 ≢ e.1) t es apart.0, later)

-- the others have other keys
off_removed : (t : ℕ) (es : Keys) (key : ℕ) → lookup (at t) es ≡ Some key → IsApart es → AllByRecursion (λ e. e.1 ≢ key) (remove_entry (at t) es)
off_removed t [] key is apart = tt
off_removed t (e ∷ es) key is apart = elim (cases (at t e.0)) [
  | inl so ↦
      let found : Some e.1 ≡ Some key = sym (if_true (at t e.0) (Some e.1) (lookup (at t) es) so) ∙ is in
      let one : e.1 ≡ key = cc in
      subst (AllByRecursion (λ f. f.1 ≢ key)) (sym (if_true (at t e.0) es (e ∷ remove_entry (at t) es) so)) (all_so (λ f. f.1 ≢ e.1) (λ f. f.1 ≢ key) es (λ f off same. off (same ∙ sym one)) apart.0)
  | inr away ↦
      let later : lookup (at t) es ≡ Some key = sym (if_false (at t e.0) (Some e.1) (lookup (at t) es) away) ∙ is in
      let differs : key ≢ e.1 = all_found (λ k. k ≢ e.1) t es key later apart.0 in
      subst (AllByRecursion (λ f. f.1 ≢ key)) (sym (if_false (at t e.0) es (e ∷ remove_entry (at t) es) away)) (λ same. differs (sym same), off_removed t es key later apart.1)
]

remove-shown : (t : ℕ) (es : Keys) (slots : Slots) → shown (remove_entry (at t) es) slots ≡ remove_entry (at t) (shown es slots)
remove-shown t [] slots = refl
remove-shown t (e ∷ es) slots = by (at t e.0) (remove-shown t es slots)
  where
    by : (b : Bool) → shown (remove_entry (at t) es) slots ≡ remove_entry (at t) (shown es slots) → shown (cond b es (e ∷ remove_entry (at t) es)) slots ≡ cond b (shown es slots) ((e.0, (kept_at slots e.1).transaction) ∷ remove_entry (at t) (shown es slots))
    by true later = refl
    by false later = ap (λ (l : List (ℕ × Transaction)). (e.0, (kept_at slots e.1).transaction) ∷ l) later

pub shown_remove : (t : ℕ) (es : Keys) (slots : Slots) (key : ℕ) → lookup (at t) es ≡ Some key → IsApart es → shown (remove_entry (at t) es) (set slots key None) ≡ remove_entry (at t) (shown es slots)
shown_remove t es slots key is apart =
    shown_same (remove_entry (at t) es) slots (set slots key None) (all_so (λ f. f.1 ≢ key) (λ f. kept_at (set slots key None) f.1 ≡ kept_at slots f.1) (remove_entry (at t) es) (λ f off. set_other slots key f.1 None off) (off_removed t es key is apart))
    ∙ remove-shown t es slots

pub there_remove : (t : ℕ) (es : Keys) (slots : Slots) (key : ℕ) → lookup (at t) es ≡ Some key → IsApart es → AllByRecursion (λ e. IsSome (get_or slots e.1 None)) es → AllByRecursion (λ e. IsSome (get_or (set slots key None) e.1 None)) (remove_entry (at t) es)
there_remove t es slots key is apart all = both (remove_entry (at t) es) (off_removed t es key is apart) (remove_all (λ e. IsSome (get_or slots e.1 None)) t es all)
  where
    both : (fs : Keys) → AllByRecursion (λ e. e.1 ≢ key) fs → AllByRecursion (λ e. IsSome (get_or slots e.1 None)) fs → AllByRecursion (λ e. IsSome (get_or (set slots key None) e.1 None)) fs
    both [] off some = tt
    both (f ∷ fs) off some = (ap is_some (get_or-set_other slots key f.1 None None off.0) ∙ some.0, both fs off.1 some.1)

-- ---- a list of zeros

pub zero_in : (n k : ℕ) → get_or (replicate {A = ℕ} n 0) k 0 ≡ 0
zero_in n k = elim (cases_lt k n) [
  | inl below ↦ get_or-replicate {A = ℕ} n k 0 0 below
  | inr above ↦ get_or_past (replicate {A = ℕ} n 0) k 0 (omega (arith, length-replicate {A = ℕ} n 0))
]

-- ---- the first

pub first-shown : (es : Keys) (slots : Slots) → slice_get (keys_of (shown es slots)) 0 ≡ option_map (λ e. e.0) (slice_get es 0)
first-shown [] slots = refl
first-shown (e ∷ es) slots = refl

pub none-shown : (es : Keys) (slots : Slots) → (0 < length es → false ≡ true) → None ≡ slice_get (keys_of (shown es slots)) 0
none-shown [] slots none = refl
none-shown (e ∷ es) slots none = absurd (true≢false (sym (none (omega arith))))
