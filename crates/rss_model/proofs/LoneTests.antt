-- The tests of a transaction's call come out alike where it is alone, but for those that hang on others.
use Rattle.std.proofs.Common.{◌≡◌, ◌⊎◌, inl, inr, ⊎_elim, Bool, true, false, List, [], ◌∷◌, ◌++◌, refl, sym, ◌∙◌, ap}
use Rattle.std.specs.Prelude.{Option, Some, None, is_some, option_map, option_and_then, map as list_map}
use Rattle.std.specs.List.{AllByRecursion}
use Rattle.std.proofs.lemmas.Option.{same_Some}
use Rattle.rss_base.specs.declared.name.Name.{Name}
use Rattle.rss_base.specs.declared.tid.Tid.{Tid}
use Rattle.rss_base.specs.declared.item.Item.TheVariants.{Tuple}
use Rattle.rss_base.specs.declared.refusal.Refusal.{Refusal}
use Rattle.rss_base.specs.declared.refusal.Refusal.TheVariants.{NoTuple}
use Rattle.rss_model.specs.Tables.{LinkDef, content}
use Rattle.rss_model.specs.Changes.{Change}
use Rattle.rss_model.specs.Locks.{Bar}
use Rattle.rss_model.specs.Machine.{State, now}
use Rattle.rss_model.specs.Rules.{Verdict, GoesOn, SavesFirst, NoRoom, NoLogRoom, refusal_by, verdict, if_no_room}
use Rattle.rss_model.specs.Defining.{refused_unless, refused_if}
use Rattle.rss_model.specs.Refusals.{first_of, busy, unless_child, unless_live_below, unless_parent}
use Rattle.rss_model.specs.Steps.{keeps_locks}
use Rattle.rss_model.specs.Serial.{is_of_others, but_of_others}
use Rattle.rss_model.proofs.LogLists.{false_true, none_some}

-- ---- tests that are alike

abbrev pub Same : Option Refusal → Option Refusal → Type 0
Same a b = but_of_others a ≡ but_of_others b

abbrev pub AllSame : List (Option Refusal) → List (Option Refusal) → Type 0
AllSame [] [] = Unit {0}
AllSame [] (b ∷ bs) = ⊥
AllSame (a ∷ as') [] = ⊥
AllSame (a ∷ as') (b ∷ bs) = Same a b × AllSame as' bs

-- nothing of others comes of it
abbrev pub NotOthers : Option Refusal → Type 0
NotOthers None = Unit {0}
NotOthers (Some why) = is_of_others why ≡ false

-- what comes of it keeps locks, or hangs on others
abbrev pub Late : Option Refusal → Type 0
Late o = (why : Refusal) → o ≡ Some why → (keeps_locks why ≡ true) ⊎ (is_of_others why ≡ true)

-- as far as nothing comes of those before
abbrev pub SameTo : List (Option Refusal) → List (Option Refusal) → Type 0
SameTo [] [] = Unit {0}
SameTo [] (b ∷ bs) = ⊥
SameTo (a ∷ as') [] = ⊥
SameTo (a ∷ as') (b ∷ bs) = Same a b × (a ≡ None → SameTo as' bs)

pub same_append : (as' bs cs ds : List (Option Refusal)) → AllSame as' bs → SameTo cs ds → SameTo (as' ++ cs) (bs ++ ds)
same_append [] [] cs ds first second = second
same_append [] (b ∷ bs) cs ds first second = absurd first
same_append (a ∷ as') [] cs ds first second = absurd first
same_append (a ∷ as') (b ∷ bs) cs ds first second = (first.0, λ none. same_append as' bs cs ds first.1 second)

pub to_of : (as' bs : List (Option Refusal)) → AllSame as' bs → SameTo as' bs
to_of [] [] same = same
to_of [] (b ∷ bs) same = absurd same
to_of (a ∷ as') [] same = absurd same
to_of (a ∷ as') (b ∷ bs) same = (same.0, λ none. to_of as' bs same.1)

skip : (o : Option Refusal) (rest : List (Option Refusal)) → o ≡ None → first_of (o ∷ rest) ≡ first_of rest
skip o rest is = ap (λ (p : Option Refusal). first_of (p ∷ rest)) is

pub lone_first : (as' bs : List (Option Refusal)) (r : Option Refusal) → first_of as' ≡ r → NotOthers r → SameTo as' bs → first_of (list_map but_of_others bs) ≡ r
lone_first [] [] r is off same = is
lone_first [] (b ∷ bs) r is off same = absurd same
lone_first (a ∷ as') [] r is off same = absurd same
lone_first (None ∷ as') (b ∷ bs) r is off same = skip (but_of_others b) (list_map but_of_others bs) (sym same.0) ∙ lone_first as' bs r is off (same.1 refl)
lone_first (Some why ∷ as') (b ∷ bs) None is off same = none_some (sym is)
lone_first (Some why ∷ as') (b ∷ bs) (Some w) is off same =
    let here : w ≡ why = sym (same_Some _ _ is) in
    let kept : but_of_others (Some why) ≡ Some why = rw (ap is_of_others (sym here) ∙ off) refl in
    ap (λ (p : Option Refusal). first_of (p ∷ list_map but_of_others bs)) (sym same.0 ∙ kept) ∙ is

-- what comes of the tests before the locks
pub early_first : (front back : List (Option Refusal)) (why : Refusal) → AllByRecursion Late back → first_of (front ++ back) ≡ Some why → keeps_locks why ≡ false → is_of_others why ≡ false → first_of front ≡ Some why
early_first [] [] why late is keeps off = is
early_first [] (None ∷ back) why late is keeps off = early_first [] back why late.1 is keeps off
early_first [] (Some w ∷ back) why late is keeps off =
    let same : w ≡ why = same_Some _ _ is in
    ⊎_elim (λ e. false_true (ap keeps_locks (sym same) ∙ e) keeps) (λ e. false_true (ap is_of_others (sym same) ∙ e) off) (late.0 w refl)
early_first (None ∷ front) back why late is keeps off = early_first front back why late is keeps off
early_first (Some w ∷ front) back why late is keeps off = is

pub first_front : (front back : List (Option Refusal)) (why : Refusal) → first_of (list_map but_of_others front) ≡ Some why → first_of (list_map but_of_others (front ++ back)) ≡ Some why
first_front [] back why is = none_some is
first_front (o ∷ front) back why is = by (but_of_others o) is (first_front front back why)
  where
    by : (p : Option Refusal) → first_of (p ∷ list_map but_of_others front) ≡ Some why → (first_of (list_map but_of_others front) ≡ Some why → first_of (list_map but_of_others (front ++ back)) ≡ Some why) → first_of (p ∷ list_map but_of_others (front ++ back)) ≡ Some why
    by None e rest = rest e
    by (Some w) e rest = e

-- ---- tests of others

others_if : (b : Bool) (why : Refusal) → is_of_others why ≡ true → but_of_others (refused_if b why) ≡ None
others_if true why of = rw of refl
others_if false why of = refl

others_unless : (b : Bool) (why : Refusal) → is_of_others why ≡ true → but_of_others (refused_unless b why) ≡ None
others_unless true why of = refl
others_unless false why of = rw of refl

pub both_if : (b c : Bool) (why : Refusal) → is_of_others why ≡ true → Same (refused_if b why) (refused_if c why)
both_if b c why of = others_if b why of ∙ sym (others_if c why of)

pub both_unless : (b c : Bool) (why : Refusal) → is_of_others why ≡ true → Same (refused_unless b why) (refused_unless c why)
both_unless b c why of = others_unless b why of ∙ sym (others_unless c why of)

pub others_busy : (o : Option Bar) → but_of_others (option_map busy o) ≡ None
others_busy None = refl
others_busy (Some bar) = refl

pub others_full : (state : State) (o : Option Change) → but_of_others (option_and_then (if_no_room state) o) ≡ None
others_full state None = refl
others_full state (Some c) = by (verdict state c)
  where
    by : (v : Verdict) → but_of_others (refusal_by v) ≡ None
    by GoesOn = refl
    by SavesFirst = refl
    by (NoRoom a b) = refl
    by (NoLogRoom a b) = refl

pub late_full : (state : State) (o : Option Change) → Late (option_and_then (if_no_room state) o)
late_full state None why is = none_some is
late_full state (Some c) why is = by (verdict state c) is
  where
    by : (v : Verdict) → refusal_by v ≡ Some why → (keeps_locks why ≡ true) ⊎ (is_of_others why ≡ true)
    by GoesOn e = none_some e
    by SavesFirst e = none_some e
    by (NoRoom a b) e = inr (ap is_of_others (sym (same_Some _ _ e)))
    by (NoLogRoom a b) e = inr (ap is_of_others (sym (same_Some _ _ e)))

pub late_unless : (b : Bool) (why : Refusal) → keeps_locks why ≡ true → Late (refused_unless b why)
late_unless true why keeps w is = none_some is
late_unless false why keeps w is = inl (ap keeps_locks (sym (same_Some _ _ is)) ∙ keeps)

pub late_if : (b : Bool) (why : Refusal) → keeps_locks why ≡ true → Late (refused_if b why)
late_if true why keeps w is = inl (ap keeps_locks (sym (same_Some _ _ is)) ∙ keeps)
late_if false why keeps w is = none_some is

pub late_map : {A : Type 0} (f : A → Refusal) (o : Option A) → ((a : A) → keeps_locks (f a) ≡ true) → Late (option_map f o)
late_map f None keeps w is = none_some is
late_map f (Some a) keeps w is = inl (ap keeps_locks (sym (same_Some _ _ is)) ∙ keeps a)

pub late_first : {A : Type 0} (f : A → Option Refusal) (xs : List A) → ((a : A) → Late (f a)) → Late (first_of (list_map f xs))
late_first f [] late why is = none_some is
late_first f (x ∷ xs) late why is = by (f x) (late x) is (late_first f xs late why)
  where
    by : (o : Option Refusal) → Late o → first_of (o ∷ list_map f xs) ≡ Some why → (first_of (list_map f xs) ≡ Some why → (keeps_locks why ≡ true) ⊎ (is_of_others why ≡ true)) → (keeps_locks why ≡ true) ⊎ (is_of_others why ≡ true)
    by None its e rest = rest e
    by (Some w) its e rest = its why e

pub late_child : (state : State) (o : Option LinkDef) (child : Tid) → Late (unless_child state o child)
late_child state None child w is = none_some is
late_child state (Some d) child w is = late_unless (is_some (content (now state).contents (Tuple d.child child))) (NoTuple d.child child) refl w is

late_below : (state : State) (above : Option Name) (parent : Option Tid) → Late (unless_live_below state above parent)
late_below state None parent w is = none_some is
late_below state (Some r) None w is = none_some is
late_below state (Some r) (Some p) w is = late_unless (is_some (content (now state).contents (Tuple r p))) (NoTuple r p) refl w is

pub late_parent : (state : State) (o : Option LinkDef) (parent : Option Tid) → Late (unless_parent state o parent)
late_parent state None parent w is = none_some is
late_parent state (Some d) parent w is = late_below state d.parent parent w is
