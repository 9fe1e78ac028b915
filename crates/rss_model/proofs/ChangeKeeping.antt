-- What is kept where a change is made.
use Rattle.std.proofs.Common.{◌≡◌, ◌⊎◌, inl, inr, ⊎_elim, ℕ, ◌+◌, ◌≤◌, ◌<◌, Bool, true, false, List, [], ◌∷◌, length, refl, sym, ◌∙◌, ap, subst, arith}
use Rattle.std.specs.Prelude.{Option, Some, None, is_some, is_none, option_map, option_and_then, ◌&&◌, not, nat_le, count_by, find, map as list_map}
use Rattle.std.specs.FinMap as finite
use Rattle.std.proofs.lemmas.Bool.Decides.{nat_tests}
use Rattle.std.proofs.lemmas.Option.{same_Some}
use Rattle.std.proofs.lemmas.List.Sums.{sum_by-cons}
use Rattle.std.specs.Cmp.{Equal-is}
use Rattle.rss_base.specs.declared.name.Name.{Name}
use Rattle.rss_base.specs.declared.tid.Tid.{Tid}
use Rattle.rss_base.specs.declared.value.Value.{Value}
use Rattle.rss_base.specs.declared.item.Item.{Item}
use Rattle.rss_base.specs.declared.item.Item.TheVariants.{Segment, Relation, Tuple, Chain, Key}
use Rattle.rss_base.specs.declared.need.Mode.TheVariants.{X}
use Rattle.rss_base.specs.declared.refusal.Refusal.{Refusal}
use Rattle.rss_base.specs.declared.refusal.Refusal.TheVariants.{Duplicate, Connected}
use Rattle.rss_base.specs.Prefixes.{is_tid}
use Rattle.rss_base.specs.declared.field.FieldDef.{FieldDef}
use Rattle.rss_model.specs.Items.{Content, Values, name_cmp, is_name}
use Rattle.rss_model.specs.Tables.{ImageDef, LinkDef, Tables, Contents, content, put, fields_in, segment_of, tuple_count, is_tuple_of}
use Rattle.rss_model.specs.Chains.{tuples_in, stands_in, chain, chain_with, has_tuple, is_parent_relation, is_this, is_connected}
use Rattle.rss_model.specs.Images.{is_key, key_in, has_key, is_other, tid_of, owner_of_key, unique_images}
use Rattle.rss_model.specs.Changes.{Change, IsTupleChange, IsChange, is_delete_of, own, after, Chained}
use Rattle.rss_model.specs.Changes.IsChange.{of_tuple}
use Rattle.rss_model.specs.Fits.{Fits, IsIdentifier, IsLive, IsTupleOf, tuple_limit}
use Rattle.rss_model.specs.Locks.{Locks, Holds, AreApart}
use Rattle.rss_model.specs.Machine.{State, with_changes, now}
use Rattle.rss_model.specs.Refusals.{first_of, tuple_change, if_owned, if_duplicate, if_connected, used_tuples}
use Rattle.rss_model.specs.Steps.{is_open, changed}
use Rattle.rss_model.specs.Kept.{up_to, IsGuarded, Kept, FitMixed}
use Rattle.rss_model.proofs.Codes.{name_total, name_apart, item_apart}
use Rattle.rss_model.proofs.Testing.{unique_in}
use Rattle.rss_model.proofs.Contents.{tied}
use Rattle.rss_model.proofs.Counts.{one_if, counts_same, counts_put}
use Rattle.rss_model.proofs.Counting.{used_in, mixed_uses}
use Rattle.rss_model.proofs.LogLists.{by_test, by_same, false_true}
use Rattle.rss_model.proofs.Locking.{one_holder, in_entries, none_of, find_in, in_keys}
use Rattle.rss_model.proofs.Mixing.{In, each_of, all_of, many, own_here, own_off, up_skip, up_take, Lone, at_least}
use Rattle.rss_model.proofs.OpenKeeping.{guards_to}
use Rattle.rss_model.proofs.Putting.{fits_put}
use Rattle.rss_model.proofs.Refitting.{NewKeys, keys_put, Unlinked, links_put}
use Rattle.rss_model.proofs.Standing.{tid_same, or_none}
use Rattle.rss_model.proofs.Viewing.{same_key, keyed, keyed_of, keyed_is, stands, AreGuarded, same_keyed, same_stands, same_below}

-- ---- the changes of a state

pub lone_of : (locks : Locks) (cs : List Change) → AreApart locks → ((c : Change) → In c cs → Holds locks c.by c.item X) → Lone cs
lone_of locks cs apart holds c d c_in d_in same = one_holder locks apart c.by d.by c.item X X (holds c c_in) (subst (λ (i : Item). Holds locks d.by i X) (sym same) (holds d d_in)) refl

own_short : (t : ℕ) (cs : List Change) → length (own t cs) ≤ length cs
own_short t [] = omega arith
own_short t (c ∷ cs) = by_same c.by t
    (λ e. omega (arith, ap length (own_here t c cs e), own_short t cs))
    (λ e. omega (arith, ap length (own_off t c cs e), own_short t cs))

pub not_many : (n t : ℕ) (cs : List Change) → length cs < n → nat_le n (length (own t cs)) ≡ false
not_many n t cs more = let few : length (own t cs) < n = omega (arith, more, own_short t cs) in grind (arith, nat_tests)

-- where many are taken, all are
pub up_all : (n : ℕ) (cs : List Change) → length cs < n → up_to (λ u. n) cs ≡ cs
up_all n [] more = refl
up_all n (c ∷ cs) more = up_take (λ u. n) c cs (not_many n c.by cs (omega (arith, more))) ∙ ap (λ (l : List Change). c ∷ l) (up_all n cs (omega (arith, more)))

pub up_none : (cs : List Change) → up_to (λ u. 0) cs ≡ []
up_none [] = refl
up_none (c ∷ cs) = up_skip (λ u. 0) c cs (at_least _) ∙ up_none cs

pub base_fits : (state : State) → FitMixed state → Fits state.size.slots state.base
base_fits state fit = subst (λ (l : List Change). Fits state.size.slots (with_changes state.base l)) (up_none state.changes) (fit (λ u. 0))

pub now_fits : (state : State) → FitMixed state → Fits state.size.slots (now state)
now_fits state fit = subst (λ (l : List Change). Fits state.size.slots (with_changes state.base l)) (up_all (length state.changes + 1) state.changes (omega arith)) (fit (λ u. length state.changes + 1))

pub guards_of : {state : State} → Kept state → AreGuarded state
guards_of {state = state} kept = each_of (IsGuarded state) state.changes kept.guarded

-- ---- any change

module _ {state : State} (kept : Kept state) (c : Change) (over : ℕ) (has : is_open state c.by ≡ true) (kind : IsChange c) (was : c.old ≡ content (now state).contents c.item) (guard : IsGuarded state c)
    (counted : (relation : Name) → used_tuples (changed c over state) relation ≤ tuple_limit)
    (fits : (counts : ℕ → ℕ) → many counts c.by state.changes ≡ false → Fits state.size.slots (with_changes state.base (up_to counts state.changes))
    → ((relation : Name) → tuple_count (put (after state.base.contents (up_to counts state.changes)) c.item c.new) relation ≤ tuple_limit) → Fits state.size.slots (with_changes state.base (c ∷ up_to counts state.changes))) where
  abbrev new : State
  new = changed c over state

  all_chained : Chained state.base.contents (c ∷ state.changes)
  all_chained = (was, kept.chained)

  all_guarded : (d : Change) → In d (c ∷ state.changes) → IsGuarded state d
  all_guarded d (inl e) = subst (IsGuarded state) e guard
  all_guarded d (inr is) = guards_of kept d is

  all_lone : Lone (c ∷ state.changes)
  all_lone = lone_of state.locks (c ∷ state.changes) kept.apart (λ d is. (all_guarded d is).item)

  few_mixed : (counts : ℕ → ℕ) (relation : Name) → many counts c.by state.changes ≡ false → tuple_count (put (after state.base.contents (up_to counts state.changes)) c.item c.new) relation ≤ tuple_limit
  few_mixed counts relation few =
      let uses = mixed_uses relation state.base.contents counts (c ∷ state.changes) all_lone all_chained in
      let same = ap (used_in relation state.base.contents) (up_take counts c state.changes few) in
      omega (arith, uses, same, counted relation)

  fit_mixed : FitMixed new
  fit_mixed counts = by_test (many counts c.by state.changes)
      (λ e. subst (λ (l : List Change). Fits state.size.slots (with_changes state.base l)) (sym (up_skip counts c state.changes e)) (kept.fit counts))
      (λ e. subst (λ (l : List Change). Fits state.size.slots (with_changes state.base l)) (sym (up_take counts c state.changes e)) (fits counts e (kept.fit counts) (λ relation. few_mixed counts relation e)))

  pub keeps_change : Kept (changed c over state)
  keeps_change = record {
    few = kept.few;
    few_scans = kept.few_scans;
    opened = all_of (λ d. is_open state d.by ≡ true) (c ∷ state.changes) (λ d is. ⊎_elim (λ e. ap (λ (k : Change). is_open state k.by) (sym e) ∙ has) (λ i. each_of (λ k. is_open state k.by ≡ true) state.changes kept.opened d i) is);
    holders = kept.holders;
    scanners = kept.scanners;
    scanned = kept.scanned;
    along = kept.along;
    kinds = all_of IsChange (c ∷ state.changes) (λ d is. ⊎_elim (λ e. subst IsChange e kind) (λ i. each_of IsChange state.changes kept.kinds d i) is);
    chained = all_chained;
    fit = fit_mixed;
    guarded = all_of (IsGuarded new) (c ∷ state.changes) (λ d is. guards_to state new d refl (λ i m holds. holds) (all_guarded d is));
    apart = kept.apart;
    counted = counted;
  }

-- ---- a tuple

-- one tuple more
abbrev pub grows : Option (List Value) → Option (List Value) → ℕ
grows None None = 0
grows None (Some values) = 1
grows (Some values) next = 0

-- a tuple that is gone counts as deleted
used_after : (was next : Option (List Value)) (before now gone : ℕ) → now + one_if (is_some (option_map Values was)) ≡ before + one_if (is_some (option_map Values next))
    → now + (one_if (true && is_some (option_map Values was) && is_none (option_map Values next)) + gone) ≤ before + gone + grows was next
used_after None None before now gone is = omega (arith, is)
used_after None (Some values) before now gone is = omega (arith, is)
used_after (Some values) None before now gone is = omega (arith, is)
used_after (Some values) (Some next) before now gone is = omega (arith, is)

-- no other tuple has now the key of the new values in a unique image
abbrev pub AreFresh : State → Name → Tid → Option (List Value) → Type 0
AreFresh state relation tid next = (values : List Value) → next ≡ Some values → (name : Name) (image : ImageDef) → finite.get state.base.definitions.images name ≡ Some image → image.is_unique ≡ true → image.relation ≡ relation
    → (other : Tid) → keyed (key_in state.base.definitions image) (key_in state.base.definitions image values) (content (now state).contents (Tuple image.relation other)) ≡ true → other ≡ tid

-- what goes stands now in no chain, and has none
abbrev pub IsUnlinked : State → Name → Tid → Option (List Value) → Type 0
IsUnlinked state relation tid next = next ≡ None → (link : Name) (definition : LinkDef) → finite.get state.base.definitions.links link ≡ Some definition
    → (definition.child ≡ relation → (parent : Option Tid) → stands tid (content (now state).contents (Chain link parent)) ≡ false)
    × (definition.parent ≡ Some relation → content (now state).contents (Chain link (Some tid)) ≡ None)

module _ {state : State} (kept : Kept state) (t : ℕ) (relation : Name) (tid : Tid) (was next : Option (List Value)) (over : ℕ) (has : is_open state t ≡ true) (kind : IsTupleChange (tuple_change t relation tid was next))
    (there : content (now state).contents (Tuple relation tid) ≡ option_map Values was) (room : used_tuples state relation + grows was next ≤ tuple_limit) (guard : IsGuarded state (tuple_change t relation tid was next))
    (tuple : (values : List Value) → next ≡ Some values → IsTupleOf (now state) relation (Values values)) (within : IsIdentifier state.size.slots tid)
    (alone : (counts : ℕ → ℕ) → many counts t state.changes ≡ false → Fits state.size.slots (with_changes state.base (up_to counts state.changes)) → (other : Name) → segment_of state.base other ≡ segment_of state.base relation
    → IsLive (with_changes state.base (up_to counts state.changes)) other tid → other ≡ relation)
    (fresh : AreFresh state relation tid next) (unlinked : IsUnlinked state relation tid next) where
  abbrev change : Change
  change = tuple_change t relation tid was next

  counted_now : (other : Name) → used_tuples (changed change over state) other ≤ tuple_limit
  counted_now other =
      let more = sum_by-cons (λ (c : Change). one_if (is_delete_of other c)) change state.changes in
      by_test (is_tuple_of other (Tuple relation tid))
      (λ on.
      let same : other ≡ relation = name_apart other relation ((Equal-is (name_cmp other relation)).0 on) in
      let counts = counts_put (now state).contents (Tuple relation tid) (option_map Values next) other on in
      let held = ap (λ (o : Option Content). one_if (is_some o)) there in
      let less = used_after was next (tuple_count (now state).contents other) (tuple_count (now (changed change over state)).contents other) (count_by (is_delete_of other) state.changes) (omega (arith, counts, held)) in
      let is = ap (λ (b : Bool). one_if (b && is_some (option_map Values was) && is_none (option_map Values next))) on in
      omega (arith, more, less, is, room, ap (used_tuples state) same))
      (λ off.
      let is = ap (λ (b : Bool). one_if (b && is_some (option_map Values was) && is_none (option_map Values next))) off in
      omega (arith, more, is, counts_same (now state).contents (Tuple relation tid) (option_map Values next) other off, kept.counted other))

  guards : AreGuarded state
  guards = guards_of kept

  module _ (counts : ℕ → ℕ) (few : many counts t state.changes ≡ false) where
    abbrev mixed : Tables
    mixed = with_changes state.base (up_to counts state.changes)

    new_keys : NewKeys mixed relation tid next
    new_keys values is name image defined unique of other key tie found =
        let here : key ≡ key_in state.base.definitions image values = sym (same_key _ key tie) in
        let holds = (guard.keys relation tid refl).1 values name image (ap (option_map Values) is) defined of unique in
        let seen = same_keyed state kept.apart guards kept.chained t counts few name image (key_in state.base.definitions image values) defined unique holds other in
        fresh values is name image defined unique of other (sym seen ∙ ap (keyed (key_in state.base.definitions image) (key_in state.base.definitions image values)) found.there
        ∙ keyed_is (key_in state.base.definitions image) (key_in state.base.definitions image values) found.values (subst (λ (k : List Value). is_key (key_in state.base.definitions image found.values) k ≡ true) here found.is))

    no_links : Unlinked mixed relation tid next
    no_links gone link definition defined =
        let free = unlinked gone link definition defined in (
          λ of parent. same_stands state kept.apart guards kept.chained t counts few link definition tid X defined (subst (λ (n : Name). Holds state.locks t (Tuple n tid) X) (sym of) guard.item) parent ∙ free.0 of parent,
          λ of. same_below state kept.apart guards kept.chained t counts few link relation definition tid defined of guard.item ∙ free.1 of,
        )

    fits_now : Fits state.size.slots mixed → ((other : Name) → tuple_count (put mixed.contents (Tuple relation tid) (option_map Values next)) other ≤ tuple_limit) → Fits state.size.slots (with_changes state.base (change ∷ up_to counts state.changes))
    fits_now fit less = fits_put fit relation tid next (λ values is. let of = tuple values is in record { fields = of.fields; values = of.values; defined = of.defined; tuple = of.tuple; fit = of.fit }) within
        (λ other segment lives. alone counts few fit other segment lives) less (keys_put mixed relation tid next new_keys fit.keys) (links_put mixed relation tid next no_links fit.links)

  pub keeps_tuple : Kept (changed (tuple_change t relation tid was next) over state)
  keeps_tuple = keeps_change kept change over has (of_tuple refl kind) (sym there) guard counted_now (λ counts few fit less. fits_now counts few fit less)

-- ---- what the tests say of keys

first_none : {A : Type 0} (f : A → Option Refusal) (xs : List A) → first_of (list_map f xs) ≡ None → (x : A) → In x xs → f x ≡ None
first_none f [] none x is = absurd is
first_none f (y ∷ xs) none x is =
    let parts = by (f y) refl in ⊎_elim (λ e. ap f (sym e) ∙ parts.0) (λ i. first_none f xs parts.1 x i) is
  where
    by : (o : Option Refusal) → f y ≡ o → (f y ≡ None) × (first_of (list_map f xs) ≡ None)
    by None e = (e, sym (ap (λ (o : Option Refusal). first_of (o ∷ list_map f xs)) e) ∙ none)
    by (Some why) e = absurd (clash (sym (ap (λ (o : Option Refusal). first_of (o ∷ list_map f xs)) e) ∙ none))
      where
        clash : Some why ≡ None → ⊥
        clash g = cc (g)

keyed_tuple : (relation : Name) (fields : List FieldDef) (names : List Name) (key : List Value) (but : Option Tid) (held : Item × Content) → has_key relation fields names key but held ≡ true → tid_of held.0 ≡ None → ⊥
keyed_tuple relation fields names key but (Segment name, held) is none = absurd (cc (is))
keyed_tuple relation fields names key but (Relation name, held) is none = absurd (cc (is))
keyed_tuple relation fields names key but (Tuple name tid, held) is none = absurd (cc (none))
keyed_tuple relation fields names key but (Chain link parent, held) is none = absurd (cc (is))
keyed_tuple relation fields names key but (Key image values, held) is none = absurd (cc (is))

module _ (tables : Tables) (image : ImageDef) (but : Option Tid) (key : List Value) (none : owner_of_key tables image but key ≡ None) where
  abbrev owns : Item × Content → Bool
  owns = has_key image.relation (fields_in tables.definitions image.relation) image.fields key but

  nobody : find owns (finite.entries tables.contents) ≡ None
  unfolding owner_of_key
  nobody = by (find owns (finite.entries tables.contents)) refl
    where
      by : (o : Option (Item × Content)) → find owns (finite.entries tables.contents) ≡ o → find owns (finite.entries tables.contents) ≡ None
      by None e = e
      by (Some held) e = absurd (keyed_tuple image.relation _ image.fields key but held (find_in owns (finite.entries tables.contents) held e).1
          (sym (ap (option_and_then (λ (h : Item × Content). tid_of h.0)) e) ∙ none))

  pub not_owned : (other : Tid) → keyed (key_in tables.definitions image) key (content tables.contents (Tuple image.relation other)) ≡ true → is_other but other ≡ false
  not_owned other is =
      let of = keyed_of (key_in tables.definitions image) key (content tables.contents (Tuple image.relation other)) is in
      let no = none_of owns (finite.entries tables.contents) nobody (Tuple image.relation other, Values of.0) (in_entries item_apart tables.contents (Tuple image.relation other) (Values of.0) of.1) in
      let named : is_name image.relation image.relation ≡ true = tied name_total name_apart image.relation in
      by_test (is_other but other) (λ e. absurd (false_true (rw (named, of.2, e) refl) no)) (λ e. e)

pub fresh_of : (state : State) (relation : Name) (tid : Tid) (but : Option Tid) (values : List Value) → (but ≡ None) ⊎ (but ≡ Some tid) → if_duplicate state relation but values ≡ None → AreFresh state relation tid (Some values)
fresh_of state relation tid but values which none next is name image defined unique of other has =
    let value : values ≡ next = same_Some _ _ is in
    let listed : In (name, image) (unique_images state.base.definitions relation) = subst (λ (r : Name). In (name, image) (unique_images state.base.definitions r)) of (unique_in state.base name image defined unique) in
    let owner = unmapped (owner_of_key (now state) image but (key_in state.base.definitions image values)) (first_none (if_owned state but values) (unique_images state.base.definitions relation) none (name, image) listed) in
    let no = not_owned (now state) image but (key_in state.base.definitions image values) owner other (subst (λ (v : List Value). keyed (key_in state.base.definitions image) (key_in state.base.definitions image v) (content (now state).contents (Tuple image.relation other)) ≡ true) (sym value) has) in
    ⊎_elim (λ e. absurd (false_true (ap (λ (b : Option Tid). is_other b other) e) no)) (λ e. sym (tid_same tid other (negated (is_tid tid other) (sym (ap (λ (b : Option Tid). is_other b other) e) ∙ no)))) which
  where
    unmapped : (o : Option Tid) → option_map (Duplicate name) o ≡ None → o ≡ None
    unmapped None is = refl
    unmapped (Some a) is = absurd (cc (is))

    negated : (b : Bool) → not b ≡ false → b ≡ true
    negated true e = refl
    negated false e = absurd (cc (e))

-- ---- what they say of links

-- a tuple is in no chain of the link
pub in_no_chain : (contents : Contents) (link : Name) (tid : Tid) → chain_with contents link tid ≡ None → (parent : Option Tid) → stands tid (content contents (Chain link parent)) ≡ false
unfolding chain_with
in_no_chain contents link tid none parent = by_test (stands_in tid (chain contents link parent)) (λ e. absurd (found e)) (λ e. e)
  where
    some : (o : Option Content) → stands_in tid (tuples_in o) ≡ true → (held : Content) × (o ≡ Some held)
    some None e = absurd (cc (e))
    some (Some held) e = (held, refl)

    found : stands_in tid (chain contents link parent) ≡ true → ⊥
    found e =
        let held = some (content contents (Chain link parent)) e in
        let no = none_of (has_tuple contents link tid) (finite.keys contents) none (Chain link parent) (in_keys (finite.entries contents) (Chain link parent) held.0 (in_entries item_apart contents (Chain link parent) held.0 held.1)) in
        let named : is_name link link ≡ true = tied name_total name_apart link in
        false_true (rw (named, e) refl) no

pub unlinked_of : (state : State) (relation : Name) (tid : Tid) → if_connected state relation tid ≡ None → IsUnlinked state relation tid None
unlinked_of state relation tid none gone link definition defined =
    let no = none_of (is_connected (now state).contents relation tid) (finite.entries state.base.definitions.links) (unmapped (find (is_connected (now state).contents relation tid) (finite.entries state.base.definitions.links)) none) (link, definition) (in_entries name_apart state.base.definitions.links link definition defined) in
    let parts = or_none _ _ no in (
      λ of parent. in_no_chain (now state).contents link tid (no_some _ (both_false (is_name relation definition.child) _ parts.0 (subst (λ (n : Name). is_name relation n ≡ true) (sym of) (tied name_total name_apart relation)))) parent,
      λ of. no_some _ (both_false (is_parent_relation definition relation) _ parts.1 (ap (λ (o : Option Name). is_this o relation) of ∙ tied name_total name_apart relation)),
    )
  where
    unmapped : (o : Option (Name × LinkDef)) → option_map Connected (option_map (λ (l : Name × LinkDef). l.0) o) ≡ None → o ≡ None
    unmapped None is = refl
    unmapped (Some a) is = absurd (cc (is))

    no_some : {A : Type 0} (o : Option A) → is_some o ≡ false → o ≡ None
    no_some None e = refl
    no_some (Some a) e = absurd (cc (e))

    both_false : (a b : Bool) → (a && b) ≡ false → a ≡ true → b ≡ false
    both_false true b e f = e
    both_false false b e f = false_true f refl
