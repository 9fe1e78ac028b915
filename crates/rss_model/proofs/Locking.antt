-- Locks are taken and released.
use Rattle.std.proofs.Common.{◌≡◌, inl, inr, ⊎_elim, ℕ, Bool, true, false, List, [], ◌∷◌, refl, sym, ◌∙◌, ap, subst}
use Rattle.std.specs.Prelude.{not, ◌&&◌, ◌||◌, ◌==◌, if◌then◌else◌, Option, Some, None, find, option_map, unwrap_or, map as list_map}
use Rattle.std.specs.List.{list_any}
use Rattle.std.specs.Ordering.{eq_by_cmp}
use Rattle.std.specs.Cmp.{IsTotalOrder, Equal-is}
use Rattle.std.specs.Cmp.Lexicographic.{on_texts}
use Rattle.std.specs.FinMap as map
use Rattle.std.specs.FinMap.{FinMap, IsAntisymmetric, get-insert, get-retain_keys, get-entries, slice_cmp-IsAntisymmetric, nat_cmp-IsAntisymmetric}
use Rattle.std.specs.FinMap.Entries.{find as found}
use Rattle.std.specs.declared.cmp.Ordering.{Ordering}
use Rattle.std.proofs.lemmas.Bool.{ne_eqb, eq-eqb}
use Rattle.std.proofs.lemmas.Option.{same_Some}
use Rattle.rss_base.specs.declared.item.Item.{Item}
use Rattle.rss_base.specs.declared.need.Need.{Need}
use Rattle.rss_base.specs.declared.need.Mode.{Mode}
use Rattle.rss_base.specs.declared.need.Mode.TheVariants.{IS, IX, S, SIX, X}
use Rattle.rss_model.specs.Items.{item_code, is_item}
use Rattle.rss_model.specs.Locks.{disagree, joined, Covers, Claim, claim_code, claim_cmp, claim, Locks, held, Holds, with_mode, with_lock, granted, released, bars, barred_by, first_bar, AreApart}
use Rattle.rss_model.proofs.Codes.{same_item}
use Rattle.rss_model.proofs.Contents.{tied, not_tied}
use Rattle.rss_model.proofs.Modes.{joins_disagree, disagree_alike}
use Rattle.rss_model.proofs.LogLists.{by_test, by_same, false_true}
use Rattle.rss_model.proofs.LogChanging.{by_item, item_true}
use Rattle.rss_model.proofs.Mixing.{In}

-- ---- claims

pub claim_total : IsTotalOrder claim_cmp
claim_total = on_texts claim_code

claim_same : (a b : Claim) → claim_code a ≡ claim_code b → a ≡ b
claim_same a b is =
    let bys : a.by ≡ b.by = cc in
    let codes : item_code a.item ≡ item_code b.item = cc in
    let items : a.item ≡ b.item = same_item a.item b.item codes in
    λ i. record { by = bys i; item = items i }

pub claim_apart : IsAntisymmetric claim_cmp
claim_apart a b tie = claim_same a b (slice_cmp-IsAntisymmetric nat_cmp-IsAntisymmetric (claim_code a) (claim_code b) tie)

-- ---- entries of a map

module _ {K V : Type 0} {R : K → K → Ordering} (apart : IsAntisymmetric R) where
  pub in_found : (es : List (K × V)) (q : K) (v : V) → found R q es ≡ Some v → In (q, v) es
  in_found [] q v is = absurd (cc (is))
  in_found (e ∷ es) q v is = by_test (eq_by_cmp R q e.0)
      (λ t. inl (let value : e.1 ≡ v = same_Some _ _ (rw t at is) in let key : e.0 ≡ q = sym (apart q e.0 ((Equal-is (R q e.0)).0 t)) in λ i. (key i, value i)))
      (λ t. inr (in_found es q v (rw t at is)))

  pub in_entries : (m : FinMap R V) (q : K) (v : V) → map.get m q ≡ Some v → In (q, v) (map.entries m)
  in_entries m q v is = in_found (map.entries m) q v (sym (get-entries m q) ∙ is)

pub in_keys : {A B : Type 0} (es : List (A × B)) (a : A) (b : B) → In (a, b) es → In a (list_map (λ e. e.0) es)
in_keys [] a b is = absurd is
in_keys (e ∷ es) a b (inl g) = inl (ap (λ (p : _ × _). p.0) g)
in_keys (e ∷ es) a b (inr is) = inr (in_keys es a b is)

pub none_of : {A : Type 0} (p : A → Bool) (xs : List A) → find p xs ≡ None → (a : A) → In a xs → p a ≡ false
none_of p [] none a is = absurd is
none_of p (x ∷ xs) none a is = by_test (p x)
    (λ e. absurd (some_none (rw e at none)))
    (λ e. ⊎_elim (λ f. ap p (sym f) ∙ e) (λ f. none_of p xs (rw e at none) a f) is)
  where
    some_none : {A : Type 0} {x : A} → Some x ≡ None → ⊥
    some_none e = cc (e)

pub find_in : {A : Type 0} (p : A → Bool) (xs : List A) (a : A) → find p xs ≡ Some a → In a xs × (p a ≡ true)
find_in p [] a is = absurd (cc (is))
find_in p (x ∷ xs) a is = by_test (p x)
    (λ e. let same : x ≡ a = same_Some _ _ (rw e at is) in (inl same, ap p (sym same) ∙ e))
    (λ e. let rest = find_in p xs a (rw e at is) in (inr rest.0, rest.1))

pub any_in : {A : Type 0} (p : A → Bool) (xs : List A) → list_any p xs ≡ true → (x : A) × In x xs × (p x ≡ true)
any_in p [] is = absurd (cc (is))
any_in p (x ∷ xs) is = by_test (p x) (λ e. (x, inl refl, e)) (λ e. let rest = any_in p xs (rw e at is) in (rest.0, inr rest.1, rest.2))

pub in_any : {A : Type 0} (p : A → Bool) (xs : List A) (x : A) → In x xs → p x ≡ true → list_any p xs ≡ true
in_any p [] x is passes = absurd is
in_any p (y ∷ xs) x (inl e) passes = let here : p y ≡ true = ap p e ∙ passes in rw here refl
in_any p (y ∷ xs) x (inr is) passes = by_test (p y) (λ e. rw e refl) (λ e. rw e (in_any p xs x is passes))

-- ---- one lock

module _ (t : ℕ) (need : Need) (locks : Locks) where
  pub held_here : held (with_lock t need locks) t need.item ≡ Some (with_mode (held locks t need.item) need.mode)
  held_here = get-insert claim_total locks (claim t need.item) (with_mode (held locks t need.item) need.mode) (claim t need.item) ∙ rw (tied claim_total claim_apart (claim t need.item))

  pub held_there : (u : ℕ) (item : Item) → (u ≡ t → item ≡ need.item → ⊥) → held (with_lock t need locks) u item ≡ held locks u item
  held_there u item other = get-insert claim_total locks (claim t need.item) (with_mode (held locks t need.item) need.mode) (claim u item)
      ∙ rw (not_tied claim_total claim_apart (claim u item) (claim t need.item) (λ e. other (ap (λ (c : Claim). c.by) e) (ap (λ (c : Claim). c.item) e)))

-- a mode that has another in it and one more
joined_again : (a b c : Mode) → joined (joined a b) c ≡ joined (joined a c) b
joined_again IS IS IS = refl
joined_again IS IS IX = refl
joined_again IS IS S = refl
joined_again IS IS SIX = refl
joined_again IS IS X = refl
joined_again IS IX IS = refl
joined_again IS IX IX = refl
joined_again IS IX S = refl
joined_again IS IX SIX = refl
joined_again IS IX X = refl
joined_again IS S IS = refl
joined_again IS S IX = refl
joined_again IS S S = refl
joined_again IS S SIX = refl
joined_again IS S X = refl
joined_again IS SIX IS = refl
joined_again IS SIX IX = refl
joined_again IS SIX S = refl
joined_again IS SIX SIX = refl
joined_again IS SIX X = refl
joined_again IS X IS = refl
joined_again IS X IX = refl
joined_again IS X S = refl
joined_again IS X SIX = refl
joined_again IS X X = refl
joined_again IX IS IS = refl
joined_again IX IS IX = refl
joined_again IX IS S = refl
joined_again IX IS SIX = refl
joined_again IX IS X = refl
joined_again IX IX IS = refl
joined_again IX IX IX = refl
joined_again IX IX S = refl
joined_again IX IX SIX = refl
joined_again IX IX X = refl
joined_again IX S IS = refl
joined_again IX S IX = refl
joined_again IX S S = refl
joined_again IX S SIX = refl
joined_again IX S X = refl
joined_again IX SIX IS = refl
joined_again IX SIX IX = refl
joined_again IX SIX S = refl
joined_again IX SIX SIX = refl
joined_again IX SIX X = refl
joined_again IX X IS = refl
joined_again IX X IX = refl
joined_again IX X S = refl
joined_again IX X SIX = refl
joined_again IX X X = refl
joined_again S IS IS = refl
joined_again S IS IX = refl
joined_again S IS S = refl
joined_again S IS SIX = refl
joined_again S IS X = refl
joined_again S IX IS = refl
joined_again S IX IX = refl
joined_again S IX S = refl
joined_again S IX SIX = refl
joined_again S IX X = refl
joined_again S S IS = refl
joined_again S S IX = refl
joined_again S S S = refl
joined_again S S SIX = refl
joined_again S S X = refl
joined_again S SIX IS = refl
joined_again S SIX IX = refl
joined_again S SIX S = refl
joined_again S SIX SIX = refl
joined_again S SIX X = refl
joined_again S X IS = refl
joined_again S X IX = refl
joined_again S X S = refl
joined_again S X SIX = refl
joined_again S X X = refl
joined_again SIX IS IS = refl
joined_again SIX IS IX = refl
joined_again SIX IS S = refl
joined_again SIX IS SIX = refl
joined_again SIX IS X = refl
joined_again SIX IX IS = refl
joined_again SIX IX IX = refl
joined_again SIX IX S = refl
joined_again SIX IX SIX = refl
joined_again SIX IX X = refl
joined_again SIX S IS = refl
joined_again SIX S IX = refl
joined_again SIX S S = refl
joined_again SIX S SIX = refl
joined_again SIX S X = refl
joined_again SIX SIX IS = refl
joined_again SIX SIX IX = refl
joined_again SIX SIX S = refl
joined_again SIX SIX SIX = refl
joined_again SIX SIX X = refl
joined_again SIX X IS = refl
joined_again SIX X IX = refl
joined_again SIX X S = refl
joined_again SIX X SIX = refl
joined_again SIX X X = refl
joined_again X IS IS = refl
joined_again X IS IX = refl
joined_again X IS S = refl
joined_again X IS SIX = refl
joined_again X IS X = refl
joined_again X IX IS = refl
joined_again X IX IX = refl
joined_again X IX S = refl
joined_again X IX SIX = refl
joined_again X IX X = refl
joined_again X S IS = refl
joined_again X S IX = refl
joined_again X S S = refl
joined_again X S SIX = refl
joined_again X S X = refl
joined_again X SIX IS = refl
joined_again X SIX IX = refl
joined_again X SIX S = refl
joined_again X SIX SIX = refl
joined_again X SIX X = refl
joined_again X X IS = refl
joined_again X X IX = refl
joined_again X X S = refl
joined_again X X SIX = refl
joined_again X X X = refl

pub covers_more : (now mode more : Mode) → Covers now mode → Covers (joined now more) mode
covers_more now mode more covers = joined_again now more mode ∙ ap (λ (m : Mode). joined m more) covers

pub covers_it : (m : Mode) → Covers m m
covers_it IS = refl
covers_it IX = refl
covers_it S = refl
covers_it SIX = refl
covers_it X = refl

pub covers_joined : (now mode : Mode) → Covers (joined now mode) mode
covers_joined now mode = joined_again now mode mode ∙ joined_twice now mode
  where
    joined_twice : (now mode : Mode) → joined (joined now mode) mode ≡ joined now mode
    joined_twice IS IS = refl
    joined_twice IS IX = refl
    joined_twice IS S = refl
    joined_twice IS SIX = refl
    joined_twice IS X = refl
    joined_twice IX IS = refl
    joined_twice IX IX = refl
    joined_twice IX S = refl
    joined_twice IX SIX = refl
    joined_twice IX X = refl
    joined_twice S IS = refl
    joined_twice S IX = refl
    joined_twice S S = refl
    joined_twice S SIX = refl
    joined_twice S X = refl
    joined_twice SIX IS = refl
    joined_twice SIX IX = refl
    joined_twice SIX S = refl
    joined_twice SIX SIX = refl
    joined_twice SIX X = refl
    joined_twice X IS = refl
    joined_twice X IX = refl
    joined_twice X S = refl
    joined_twice X SIX = refl
    joined_twice X X = refl

-- what covers a mode disagrees with what that disagrees with
pub disagrees_too : (now mode with' : Mode) → Covers now mode → disagree mode with' ≡ true → disagree now with' ≡ true
disagrees_too now mode with' covers bad = ap (λ (m : Mode). disagree m with') (sym covers) ∙ joins_disagree now mode with' ∙ ap (λ (b : Bool). disagree now with' || b) bad ∙ or_true (disagree now with')
  where
    or_true : (b : Bool) → (b || true) ≡ true
    or_true true = refl
    or_true false = refl

pub holds_here : (t : ℕ) (need : Need) (locks : Locks) → Holds (with_lock t need locks) t need.item need.mode
holds_here t need locks = record {
  now = with_mode (held locks t need.item) need.mode;
  there = held_here t need locks;
  covers = by (held locks t need.item);
}
  where
    by : (o : Option Mode) → Covers (with_mode o need.mode) need.mode
    by None = covers_it need.mode
    by (Some now) = covers_joined now need.mode

pub holds_still : (t : ℕ) (need : Need) (locks : Locks) (u : ℕ) (item : Item) (mode : Mode) → Holds locks u item mode → Holds (with_lock t need locks) u item mode
holds_still t need locks u item mode holds = by_same u t
    (λ e. by_item item need.item
    (λ f. let there : held locks t need.item ≡ Some holds.now = (λ i. held locks (sym e i) (sym f i)) ∙ holds.there in
    record {
      now = joined holds.now need.mode;
      there = (λ i. held (with_lock t need locks) (e i) (f i)) ∙ held_here t need locks ∙ ap (λ (o : Option Mode). Some (with_mode o need.mode)) there;
      covers = covers_more holds.now mode need.mode holds.covers;
    })
    (λ f. record { now = holds.now; there = held_there t need locks u item (λ g. f) ∙ holds.there; covers = holds.covers }))
    (λ e. record { now = holds.now; there = held_there t need locks u item (λ g h. e g) ∙ holds.there; covers = holds.covers })

-- no other bars it
abbrev pub IsClear : Locks → ℕ → Need → Type 0
IsClear locks t need = (u : ℕ) (mode : Mode) → (u ≡ t → ⊥) → held locks u need.item ≡ Some mode → disagree mode need.mode ≡ false

pub apart_more : (t : ℕ) (need : Need) (locks : Locks) → AreApart locks → IsClear locks t need → AreApart (with_lock t need locks)
apart_more t need locks apart clear v u item one other first second bad = by_same v u (λ e. e) (λ differ. by_item item need.item
    (λ f. by_same v t
    (λ e. by_same u t
    (λ g. absurd (differ (e ∙ sym g)))
    (λ g. by_mode u other g (sym (held_there t need locks u item (λ h k. g h)) ∙ second) one (sym (held_here t need locks) ∙ (λ i. held (with_lock t need locks) (sym e i) (sym f i)) ∙ first) f bad differ e))
    (λ e. by_same u t
    (λ g. by_mode v one e (sym (held_there t need locks v item (λ h k. e h)) ∙ first) other (sym (held_here t need locks) ∙ (λ i. held (with_lock t need locks) (sym g i) (sym f i)) ∙ second) f (disagree_alike other one ∙ bad) (λ h. differ (sym h)) g)
    (λ g. apart v u item one other (sym (held_there t need locks v item (λ h k. e h)) ∙ first) (sym (held_there t need locks u item (λ h k. g h)) ∙ second) bad)))
    (λ f. apart v u item one other (sym (held_there t need locks v item (λ h. f)) ∙ first) (sym (held_there t need locks u item (λ h. f)) ∙ second) bad))
  where
    by_mode : {G : Type 0} (u : ℕ) (other : Mode) → (u ≡ t → ⊥) → held locks u item ≡ Some other → (one : Mode) → Some (with_mode (held locks t need.item) need.mode) ≡ Some one → item ≡ need.item → disagree one other ≡ true → {v : ℕ} → (v ≡ u → ⊥) → v ≡ t → G
    by_mode u other off there one is f bad differ e = absurd (no (held locks t need.item) refl)
      where
        clear_now : disagree need.mode other ≡ false
        clear_now = disagree_alike need.mode other ∙ clear u other off ((λ i. held locks u (sym f i)) ∙ there)

        no : (o : Option Mode) → held locks t need.item ≡ o → ⊥
        no None none = false_true (ap (λ (m : Mode). disagree m other) (same_Some _ _ (ap (λ (q : Option Mode). Some (with_mode q need.mode)) (sym none) ∙ is)) ∙ bad) clear_now
        no (Some now) some = by_test (disagree now other)
            (λ h. differ (e ∙ apart t u need.item now other some ((λ i. held locks u (sym f i)) ∙ there) h))
            (λ h. false_true (sym (joins_disagree now need.mode other) ∙ ap (λ (m : Mode). disagree m other) (same_Some _ _ (ap (λ (q : Option Mode). Some (with_mode q need.mode)) (sym some) ∙ is)) ∙ bad)
            ((λ i. h i || clear_now i)))

-- ---- the locks of a list

pub holds_more : (t : ℕ) (needs : List Need) (locks : Locks) (u : ℕ) (item : Item) (mode : Mode) → Holds locks u item mode → Holds (granted t needs locks) u item mode
holds_more t [] locks u item mode holds = holds
holds_more t (need ∷ needs) locks u item mode holds = holds_more t needs (with_lock t need locks) u item mode (holds_still t need locks u item mode holds)

pub holds_it : (t : ℕ) (needs : List Need) (locks : Locks) (need : Need) → In need needs → Holds (granted t needs locks) t need.item need.mode
holds_it t [] locks need is = absurd is
holds_it t (first ∷ needs) locks need (inl e) = holds_more t needs (with_lock t first locks) t need.item need.mode (subst (λ (n : Need). Holds (with_lock t first locks) t n.item n.mode) e (holds_here t first locks))
holds_it t (first ∷ needs) locks need (inr is) = holds_it t needs (with_lock t first locks) need is

pub held_others : (t : ℕ) (needs : List Need) (locks : Locks) (u : ℕ) (item : Item) → (u ≡ t → ⊥) → held (granted t needs locks) u item ≡ held locks u item
held_others t [] locks u item off = refl
held_others t (need ∷ needs) locks u item off = held_others t needs (with_lock t need locks) u item off ∙ held_there t need locks u item (λ e f. off e)

pub apart_granted : (t : ℕ) (needs : List Need) (locks : Locks) → AreApart locks → ((need : Need) → In need needs → IsClear locks t need) → AreApart (granted t needs locks)
apart_granted t [] locks apart clear = apart
apart_granted t (need ∷ needs) locks apart clear = apart_granted t needs (with_lock t need locks) (apart_more t need locks apart (clear need (inl refl)))
    (λ n is u mode off there. clear n (inr is) u mode off (sym (held_there t need locks u n.item (λ e f. off e)) ∙ there))

-- ---- what is not barred

both_false : (a b : Bool) → (a && b) ≡ false → a ≡ true → b ≡ false
both_false true b e f = e
both_false false b e f = false_true f refl

pub clear_of : (locks : Locks) (t : ℕ) (need : Need) → barred_by locks t need ≡ None → IsClear locks t need
clear_of locks t need none u mode off there =
    let no : bars t need (claim u need.item, mode) ≡ false = none_of (bars t need) (map.entries locks) (unmapped (λ lock. lock.0.by) (find (bars t need) (map.entries locks)) none) (claim u need.item, mode) (in_entries claim_apart locks (claim u need.item) mode there) in
    both_false (is_item need.item need.item) (disagree mode need.mode) (both_false (not (u == t)) _ no (ap not (ne_eqb u t off))) (item_true need.item need.item refl)
  where
    unmapped : (f : Claim × Mode → ℕ) (o : Option (Claim × Mode)) → option_map f o ≡ None → o ≡ None
    unmapped f None is = refl
    unmapped f (Some a) is = absurd (cc (is))

pub clear_needs : (locks : Locks) (t : ℕ) (needs : List Need) → first_bar locks t needs ≡ None → (need : Need) → In need needs → IsClear locks t need
clear_needs locks t [] none need is = absurd is
clear_needs locks t (first ∷ needs) none need is =
    let parts = by (λ holder. record { item = first.item; holder = holder }) (barred_by locks t first) none in
    ⊎_elim (λ e. subst (IsClear locks t) e (clear_of locks t first parts.0)) (λ f. clear_needs locks t needs parts.1 need f) is
  where
    by : {A B : Type 0} (f : A → B) {rest : Option B} (o : Option A) → unwrap_or (option_map (λ a. Some (f a)) o) rest ≡ None → (o ≡ None) × (rest ≡ None)
    by f None is = (refl, is)
    by f (Some a) is = absurd (cc (is))

-- ---- released

pub held_released : (t u : ℕ) (locks : Locks) (item : Item) → held (released t locks) u item ≡ (if not (u == t) then held locks u item else None)
held_released t u locks item = get-retain_keys locks (λ c. not (c.by == t)) (claim u item) (λ x tie. ap (λ (c : Claim). not (c.by == t)) (sym (claim_apart (claim u item) x tie)))

pub released_others : (t u : ℕ) (locks : Locks) (item : Item) → (u ≡ t → ⊥) → held (released t locks) u item ≡ held locks u item
released_others t u locks item off = held_released t u locks item ∙ rw (ne_eqb u t off)

pub released_was : (t u : ℕ) (locks : Locks) (item : Item) (mode : Mode) → held (released t locks) u item ≡ Some mode → (u ≡ t → ⊥) × (held locks u item ≡ Some mode)
released_was t u locks item mode is = by_same u t
    (λ e. absurd (none_some (sym (held_released t u locks item ∙ rw (eq-eqb u t e)) ∙ is)))
    (λ e. (e, sym (released_others t u locks item e) ∙ is))
  where
    none_some : {A : Type 0} {x : A} → None ≡ Some x → ⊥
    none_some e = cc (e)

pub released_holds : (t u : ℕ) (locks : Locks) (item : Item) (mode : Mode) → (u ≡ t → ⊥) → Holds locks u item mode → Holds (released t locks) u item mode
released_holds t u locks item mode off holds = record { now = holds.now; there = released_others t u locks item off ∙ holds.there; covers = holds.covers }

pub apart_released : (t : ℕ) (locks : Locks) → AreApart locks → AreApart (released t locks)
apart_released t locks apart v u item one other first second bad = apart v u item one other (released_was t v locks item one first).1 (released_was t u locks item other second).1 bad

-- ---- who holds what disagrees is the same

pub one_holder : (locks : Locks) → AreApart locks → (t u : ℕ) (item : Item) (a b : Mode) → Holds locks t item a → Holds locks u item b → disagree a b ≡ true → t ≡ u
one_holder locks apart t u item a b first second bad = apart t u item first.now second.now first.there second.there
    (disagrees_too first.now a second.now first.covers (disagree_alike a second.now ∙ disagrees_too second.now b a second.covers (disagree_alike b a ∙ bad)))
