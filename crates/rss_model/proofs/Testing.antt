-- What the tests of a call say, and the locks of its list.
use Rattle.std.proofs.lemmas.Option.{same_Some}
use Rattle.std.proofs.Common.{◌≡◌, inl, inr, ℕ, zero, suc, Bool, true, false, List, [], ◌∷◌, ◌++◌, refl, sym, ◌∙◌, ap, subst, arith}
use Rattle.std.specs.Prelude.{Option, Some, None, option_map, All, flat_map, filter}
use Rattle.std.specs.List.{AllByRecursion}
use Rattle.std.specs.FinMap as finite
use Rattle.rss_base.specs.declared.name.Name.{Name}
use Rattle.rss_base.specs.declared.value.Value.{Value}
use Rattle.rss_base.specs.declared.value.FieldForm.{FieldForm}
use Rattle.rss_base.specs.declared.item.Item.{Item}
use Rattle.rss_base.specs.declared.item.Item.TheVariants.{Segment, Relation, Tuple, Chain, Key}
use Rattle.rss_base.specs.declared.need.Need.{Need}
use Rattle.rss_base.specs.declared.need.Mode.{Mode}
use Rattle.rss_base.specs.declared.call.Call.{Call}
use Rattle.rss_base.specs.declared.call.Call.TheVariants.{Insert, Fetch, Update, Delete, Connect, Disconnect, Parent, OpenRelation, OpenImage, OpenLink, Lock}
use Rattle.rss_base.specs.declared.refusal.Refusal.{Refusal}
use Rattle.rss_base.specs.declared.refusal.Refusal.TheVariants.{BadTuple}
use Rattle.rss_model.specs.Tables.{ImageDef, Tables}
use Rattle.rss_model.specs.Images.{unique_images}
use Rattle.rss_model.specs.Locks.{Bar, first_bar}
use Rattle.rss_model.specs.Machine.{State, now}
use Rattle.rss_model.specs.Callers.{caller}
use Rattle.rss_model.specs.Defining.{refused_unless, refused_if}
use Rattle.rss_model.specs.Needs.{need, needs, segment_needs, relation_needs, key_need, keys_of_each, key_needs}
use Rattle.rss_model.specs.Refusals.{is_open, misfit_of, first_of, refusal, unless_open, busy, if_busy_for, unless_key_fits, image_of, unless_granule}
use Rattle.rss_model.specs.Steps.{keeps_locks}
use Rattle.rss_model.proofs.Codes.{name_total, name_apart}
use Rattle.rss_model.proofs.Contents.{tied}
use Rattle.rss_model.proofs.LogLists.{by_test, false_true, none_some}
use Rattle.rss_model.proofs.Locking.{IsClear, clear_needs, in_entries}
use Rattle.rss_model.proofs.Mixing.{In, in_left, in_right}

-- ---- a call that isn't refused

pub all_none : (options : List (Option Refusal)) → first_of options ≡ None → All (λ o. o ≡ None) options
all_none [] is k d lt = absurd (omega arith)
all_none (None ∷ rest) is zero d lt = refl
all_none (None ∷ rest) is (suc k) d lt = all_none rest is k d (omega (arith, lt))
all_none (Some why ∷ rest) is k d lt = absurd (cc (is))

pub holds : (b : Bool) (why : Refusal) → refused_unless b why ≡ None → b ≡ true
holds true why is = refl
holds false why is = absurd (cc (is))

pub holds_not : (b : Bool) (why : Refusal) → refused_if b why ≡ None → b ≡ false
holds_not true why is = absurd (cc (is))
holds_not false why is = refl

-- ---- the tests before the locks

-- what comes of it keeps no locks
abbrev pub Early : Option Refusal → Type 0
Early o = (why : Refusal) → o ≡ Some why → keeps_locks why ≡ false

-- nothing comes of it, or what keeps the locks
abbrev pub Keeps : Option Refusal → Type 0
Keeps None = Unit {0}
Keeps (Some why) = keeps_locks why ≡ true

pub early_unless : (b : Bool) (why : Refusal) → keeps_locks why ≡ false → Early (refused_unless b why)
early_unless true why off w is = none_some is
early_unless false why off w is = ap keeps_locks (sym (same_Some _ _ is)) ∙ off

pub early_if : (b : Bool) (why : Refusal) → keeps_locks why ≡ false → Early (refused_if b why)
early_if true why off w is = ap keeps_locks (sym (same_Some _ _ is)) ∙ off
early_if false why off w is = none_some is

pub early_map : {A : Type 0} (f : A → Refusal) (o : Option A) → ((a : A) → keeps_locks (f a) ≡ false) → Early (option_map f o)
early_map f None off w is = none_some is
early_map f (Some a) off w is = ap keeps_locks (sym (same_Some _ _ is)) ∙ off a

pub early_fields : (fields : Option (List FieldForm)) (values : List Value) → Early (misfit_of fields values)
early_fields None values w is = none_some is
early_fields (Some fields) values w is = early_map BadTuple _ (λ k. refl) w is

pub early_key : (state : State) (image : Option ImageDef) (start : Option (List Value)) → Early (unless_key_fits state image start)
early_key state None start w is = none_some is
early_key state (Some image) None w is = none_some is
early_key state (Some image) (Some key) w is = early_map BadTuple _ (λ k. refl) w is

pub early_busy : (state : State) (t : ℕ) (call : Call) → Early (if_busy_for state t call)
early_busy state t call = early_map busy (first_bar state.locks t (needs (now state) call)) (λ bar. refl)

pub passed_front : (front rest : List (Option Refusal)) (r : Option Refusal) → AllByRecursion Early front → first_of (front ++ rest) ≡ r → Keeps r → AllByRecursion (λ o. o ≡ None) front
passed_front [] rest r early is keeps = tt
passed_front (None ∷ front) rest r early is keeps = (refl, passed_front front rest r early.1 is keeps)
passed_front (Some why ∷ front) rest None early is keeps = none_some (sym is)
passed_front (Some why ∷ front) rest (Some w) early is keeps = false_true (subst (λ (v : Refusal). keeps_locks v ≡ true) (sym (same_Some _ _ is)) keeps) (early.0 why refl)

-- ---- the locks of a call

-- who makes the call is open, and nobody bars it
abbrev pub Clears : State → ℕ → List Need → Type 0
Clears state t list = (n : Need) → In n list → (is_open state t ≡ true) × IsClear state.locks t n

clears_of : (state : State) (t : ℕ) (call : Call) → unless_open state t ≡ None → if_busy_for state t call ≡ None → Clears state t (needs (now state) call)
clears_of state t call opened free n is = (holds (is_open state t) _ opened, clear_needs state.locks t (needs (now state) call) (unmapped (first_bar state.locks t (needs (now state) call)) free) n is)
  where
    unmapped : (o : Option Bar) → option_map busy o ≡ None → o ≡ None
    unmapped None is = refl
    unmapped (Some bar) is = absurd (cc (is))

-- the call gets so far as to have its locks
pub clears : (state : State) (t : ℕ) (call : Call) (r : Option Refusal) → caller call ≡ Some t → refusal state call ≡ r → Keeps r → Clears state t (needs (now state) call)
clears state t (Insert u relation values) r by is keeps = subst (λ (v : ℕ). Clears state v (needs (now state) (Insert u relation values))) (cc (by)) (
    let all = passed_front (unless_open state u ∷ _ ∷ _ ∷ _ ∷ _ ∷ if_busy_for state u (Insert u relation values) ∷ []) _ r
    (early_unless _ _ refl, (early_unless _ _ refl, (early_fields _ values, (early_if _ _ refl, (early_unless _ _ refl, (early_busy state u (Insert u relation values), tt)))))) is keeps in
    clears_of state u (Insert u relation values) all.0 all.1.1.1.1.1.0)
clears state t (Fetch u relation tid) r by is keeps = subst (λ (v : ℕ). Clears state v (needs (now state) (Fetch u relation tid))) (cc (by)) (
    let all = passed_front (unless_open state u ∷ _ ∷ if_busy_for state u (Fetch u relation tid) ∷ []) _ r
    (early_unless _ _ refl, (early_unless _ _ refl, (early_busy state u (Fetch u relation tid), tt))) is keeps in
    clears_of state u (Fetch u relation tid) all.0 all.1.1.0)
clears state t (Update u relation tid values) r by is keeps = subst (λ (v : ℕ). Clears state v (needs (now state) (Update u relation tid values))) (cc (by)) (
    let all = passed_front (unless_open state u ∷ _ ∷ _ ∷ if_busy_for state u (Update u relation tid values) ∷ []) _ r
    (early_unless _ _ refl, (early_unless _ _ refl, (early_fields _ values, (early_busy state u (Update u relation tid values), tt)))) is keeps in
    clears_of state u (Update u relation tid values) all.0 all.1.1.1.0)
clears state t (Delete u relation tid) r by is keeps = subst (λ (v : ℕ). Clears state v (needs (now state) (Delete u relation tid))) (cc (by)) (
    let all = passed_front (unless_open state u ∷ _ ∷ if_busy_for state u (Delete u relation tid) ∷ []) _ r
    (early_unless _ _ refl, (early_unless _ _ refl, (early_busy state u (Delete u relation tid), tt))) is keeps in
    clears_of state u (Delete u relation tid) all.0 all.1.1.0)
clears state t (Connect u link child parent spot) r by is keeps = subst (λ (v : ℕ). Clears state v (needs (now state) (Connect u link child parent spot))) (cc (by)) (
    let all = passed_front (unless_open state u ∷ _ ∷ if_busy_for state u (Connect u link child parent spot) ∷ []) _ r
    (early_unless _ _ refl, (early_unless _ _ refl, (early_busy state u (Connect u link child parent spot), tt))) is keeps in
    clears_of state u (Connect u link child parent spot) all.0 all.1.1.0)
clears state t (Disconnect u link child) r by is keeps = subst (λ (v : ℕ). Clears state v (needs (now state) (Disconnect u link child))) (cc (by)) (
    let all = passed_front (unless_open state u ∷ _ ∷ if_busy_for state u (Disconnect u link child) ∷ []) _ r
    (early_unless _ _ refl, (early_unless _ _ refl, (early_busy state u (Disconnect u link child), tt))) is keeps in
    clears_of state u (Disconnect u link child) all.0 all.1.1.0)
clears state t (Parent u link child) r by is keeps = subst (λ (v : ℕ). Clears state v (needs (now state) (Parent u link child))) (cc (by)) (
    let all = passed_front (unless_open state u ∷ _ ∷ if_busy_for state u (Parent u link child) ∷ []) _ r
    (early_unless _ _ refl, (early_unless _ _ refl, (early_busy state u (Parent u link child), tt))) is keeps in
    clears_of state u (Parent u link child) all.0 all.1.1.0)
clears state t (OpenRelation u relation) r by is keeps = subst (λ (v : ℕ). Clears state v (needs (now state) (OpenRelation u relation))) (cc (by)) (
    let all = passed_front (unless_open state u ∷ _ ∷ _ ∷ if_busy_for state u (OpenRelation u relation) ∷ []) _ r
    (early_unless _ _ refl, (early_unless _ _ refl, (early_if _ _ refl, (early_busy state u (OpenRelation u relation), tt)))) is keeps in
    clears_of state u (OpenRelation u relation) all.0 all.1.1.1.0)
clears state t (OpenImage u image start) r by is keeps = subst (λ (v : ℕ). Clears state v (needs (now state) (OpenImage u image start))) (cc (by)) (
    let all = passed_front (unless_open state u ∷ _ ∷ _ ∷ _ ∷ if_busy_for state u (OpenImage u image start) ∷ []) _ r
    (early_unless _ _ refl, (early_unless _ _ refl, (early_key state (image_of state image) start, (early_if _ _ refl, (early_busy state u (OpenImage u image start), tt))))) is keeps in
    clears_of state u (OpenImage u image start) all.0 all.1.1.1.1.0)
clears state t (OpenLink u link parent) r by is keeps = subst (λ (v : ℕ). Clears state v (needs (now state) (OpenLink u link parent))) (cc (by)) (
    let all = passed_front (unless_open state u ∷ _ ∷ _ ∷ if_busy_for state u (OpenLink u link parent) ∷ []) _ r
    (early_unless _ _ refl, (early_unless _ _ refl, (early_if _ _ refl, (early_busy state u (OpenLink u link parent), tt)))) is keeps in
    clears_of state u (OpenLink u link parent) all.0 all.1.1.1.0)
clears state t (Lock u item exclusive) r by is keeps = subst (λ (v : ℕ). Clears state v (needs (now state) (Lock u item exclusive))) (cc (by)) (
    let all = passed_front (unless_open state u ∷ _ ∷ if_busy_for state u (Lock u item exclusive) ∷ []) _ r
    (early_unless _ _ refl, (early_granule item, (early_busy state u (Lock u item exclusive), tt))) is keeps in
    clears_of state u (Lock u item exclusive) all.0 all.1.1.0)
  where
    early_granule : (item : Item) → Early (unless_granule state item)
    early_granule (Segment name) = early_unless _ _ refl
    early_granule (Relation name) = early_unless _ _ refl
    early_granule (Tuple relation tid) = λ w is. none_some is
    early_granule (Chain link parent) = λ w is. none_some is
    early_granule (Key image values) = λ w is. none_some is
clears state t call r by is keeps = λ n is_in. absurd is_in

-- ---- the needs of a list

pub in_flat : {A B : Type 0} (f : A → List B) (xs : List A) (x : A) (b : B) → In x xs → In b (f x) → In b (flat_map f xs)
in_flat f [] x b is here = absurd is
in_flat f (y ∷ xs) x b (inl e) here = in_left (f y) (flat_map f xs) b (subst (λ (z : _). In b (f z)) (sym e) here)
in_flat f (y ∷ xs) x b (inr is) here = in_right (f y) (flat_map f xs) b (in_flat f xs x b is here)

pub passes_filter : {A : Type 0} (p : A → Bool) (xs : List A) (a : A) → In a xs → p a ≡ true → In a (filter p xs)
passes_filter p [] a is passes = absurd is
passes_filter p (x ∷ xs) a (inl e) passes = let here : p x ≡ true = ap p e ∙ passes in rw here (inl e)
passes_filter p (x ∷ xs) a (inr is) passes = by_test (p x) (λ e. rw e (inr (passes_filter p xs a is passes))) (λ e. rw e (passes_filter p xs a is passes))

pub relation_need : (tables : Tables) (relation : Name) (coarse mode : Mode) → In (need (Relation relation) mode) (relation_needs tables relation coarse mode)
relation_need tables relation coarse mode = in_right (segment_needs _ coarse) (need (Relation relation) mode ∷ []) (need (Relation relation) mode) (inl refl)

pub unique_in : (tables : Tables) (name : Name) (image : ImageDef) → finite.get tables.definitions.images name ≡ Some image → image.is_unique ≡ true → In (name, image) (unique_images tables.definitions image.relation)
unique_in tables name image there unique = passes_filter _ (finite.entries tables.definitions.images) (name, image) (in_entries name_apart tables.definitions.images name image there) (rw (unique, tied name_total name_apart image.relation) refl)

key_in_each : (tables : Tables) (all : List (List Value)) (values : List Value) (image : Name × ImageDef) → In values all → In (key_need tables values image) (keys_of_each tables all image)
key_in_each tables [] values image is = absurd is
key_in_each tables (first ∷ all) values image (inl e) = inl (ap (λ (v : List Value). key_need tables v image) e)
key_in_each tables (first ∷ all) values image (inr is) = inr (key_in_each tables all values image is)

pub key_needed : (tables : Tables) (relation : Name) (all : List (List Value)) (values : List Value) (name : Name) (image : ImageDef) → In values all → finite.get tables.definitions.images name ≡ Some image → image.relation ≡ relation → image.is_unique ≡ true
    → In (key_need tables values (name, image)) (key_needs tables relation all)
key_needed tables relation all values name image is there of unique =
    subst (λ (r : Name). In (key_need tables values (name, image)) (key_needs tables r all)) of
    (in_flat (keys_of_each tables all) (unique_images tables.definitions image.relation) (name, image) (key_need tables values (name, image)) (unique_in tables name image there unique) (key_in_each tables all values (name, image) is))
