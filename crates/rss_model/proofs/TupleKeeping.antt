-- What is kept where a tuple is inserted, updated or deleted.
use Rattle.std.proofs.Common.{◌≡◌, ◌⊎◌, inl, inr, ⊎_elim, ℕ, true, false, List, [], ◌∷◌, refl, sym, ◌∙◌, ap, subst, arith}
use Rattle.std.specs.Prelude.{Option, Some, None, is_some, option_map, nat_le}
use Rattle.std.specs.FinMap as finite
use Rattle.std.proofs.lemmas.Bool.{leb-false, true≢false}
use Rattle.std.proofs.lemmas.Option.{same_Some}
use Rattle.rss_base.specs.declared.name.Name.{Name}
use Rattle.rss_base.specs.declared.tid.Tid.{Tid}
use Rattle.rss_base.specs.declared.value.Value.{Value}
use Rattle.rss_base.specs.declared.value.FieldForm.{FieldForm}
use Rattle.rss_base.specs.declared.item.Item.TheVariants.{Relation, Tuple, Key}
use Rattle.rss_base.specs.declared.need.Need.{Need}
use Rattle.rss_base.specs.declared.need.Mode.{Mode}
use Rattle.rss_base.specs.declared.need.Mode.TheVariants.{IX, X}
use Rattle.rss_base.specs.declared.call.Call.{Call}
use Rattle.rss_base.specs.declared.call.Call.TheVariants.{Insert, Update, Delete}
use Rattle.rss_base.specs.declared.refusal.Refusal.TheVariants.{BadTuple}
use Rattle.rss_base.specs.TupleTypes.{misfit}
use Rattle.rss_model.specs.Items.{Content, Values}
use Rattle.rss_model.specs.Tables.{ImageDef, fields_of, segment_of}
use Rattle.rss_model.specs.Images.{key_in}
use Rattle.rss_model.specs.Changes.{IsTupleChange}
use Rattle.rss_model.specs.Changes.IsTupleChange.{insert, update, delete}
use Rattle.rss_model.specs.Fits.{IsLive, IsTupleOf, tuple_limit}
use Rattle.rss_model.specs.Locks.{held, Holds, granted}
use Rattle.rss_model.specs.Machine.{State, now}
use Rattle.rss_model.specs.Needs.{need, needs, changing, tuple_changed, tuple_keys, keys_where_live, key_needs, key_need}
use Rattle.rss_model.specs.Refusals.{misfit_of, tests, refusal, tuple_change, insertion, replacement, deletion, used_tuples}
use Rattle.rss_model.specs.Steps.{is_open, changed, locked, holding, IsFree, HasValues}
use Rattle.rss_model.specs.Kept.{IsGuarded, Kept}
use Rattle.rss_model.proofs.Locking.{IsClear, holds_it, holds_more, held_others}
use Rattle.rss_model.proofs.Mixing.{In, in_left, in_right}
use Rattle.rss_model.proofs.OpenKeeping.{keeps_granted}
use Rattle.rss_model.proofs.Testing.{all_none, holds, holds_not, clears, relation_need, key_needed}
use Rattle.rss_model.proofs.Viewing.{same_alone, same_held}
use Rattle.rss_model.proofs.ChangeKeeping.{AreFresh, IsUnlinked, guards_of, now_fits, keeps_tuple, fresh_of, unlinked_of}
use Rattle.rss_model.proofs.LogLists.{none_some}
use Rattle.rss_model.proofs.Putting.{values_of}

-- the tuple fits the fields of its relation
fits_of : (fields : Option (List FieldForm)) (values : List Value) → is_some fields ≡ true → misfit_of fields values ≡ None → (of : List FieldForm) × (fields ≡ Some of) × (misfit of values ≡ None)
fits_of None values some is = absurd (cc (some))
fits_of (Some fields) values some is = (fields, refl, none (misfit fields values) is)
  where
    none : (o : Option ℕ) → option_map BadTuple o ≡ None → o ≡ None
    none None is = refl
    none (Some k) is = absurd (cc (is))

tuple_of : (state : State) (relation : Name) (values : List Value) → is_some (fields_of state.base relation) ≡ true → misfit_of (fields_of state.base relation) values ≡ None → (put : List Value) → Some values ≡ Some put → IsTupleOf (now state) relation (Values put)
tuple_of state relation values defined fit put is =
    let fields = fits_of (fields_of state.base relation) values defined fit in
    subst (λ (v : List Value). IsTupleOf (now state) relation (Values v)) (same_Some _ _ is) (record { fields = fields.0; values = values; defined = fields.1; tuple = refl; fit = fields.2 })

-- who holds the tuple, its relation and its keys
guard_tuple : (state : State) (t : ℕ) (relation : Name) (tid : Tid) (was next : Option (List Value)) → Holds state.locks t (Tuple relation tid) X → Holds state.locks t (Relation relation) IX
    → ((values : List Value) (name : Name) (image : ImageDef) → (was ≡ Some values) ⊎ (next ≡ Some values) → finite.get state.base.definitions.images name ≡ Some image → image.relation ≡ relation → image.is_unique ≡ true → Holds state.locks t (Key name (key_in state.base.definitions image values)) X)
    → IsGuarded state (tuple_change t relation tid was next)
guard_tuple state t relation tid was next item above keys = record {
  item = item;
  above = λ other id at. subst (λ (n : Name). Holds state.locks t (Relation n) IX) (named at) above;
  keys = λ other id at. (
    (λ values name image is there of unique. keys values name image (inl (values_of was values is)) there (of ∙ sym (named at)) unique),
    (λ values name image is there of unique. keys values name image (inr (values_of next values is)) there (of ∙ sym (named at)) unique),
  );
  child = λ link parent definition id at there moved. absurd (cc (at));
  members = λ link parent definition at there. absurd (cc (at));
  parent = λ link other id definition at there has. absurd (cc (at));
}
  where
    named : {a b : Name} {s u : Tid} → Tuple a s ≡ Tuple b u → a ≡ b
    named e = cc (e)

-- ---- insert

module _ {old : State} (kept : Kept old) (t : ℕ) (relation : Name) (values : List Value) (tid : Tid) (over : ℕ) (is : refusal old (Insert t relation values) ≡ None) (free : IsFree old t relation tid) where
  abbrev call : Call
  call = Insert t relation values

  abbrev before : State
  before = record old { locks = granted t (needs (now old) call) old.locks }

  abbrev holder : State
  holder = holding t (Tuple relation tid) before

  before_kept : Kept before
  before_kept = keeps_granted kept t (needs (now old) call) (clears old t call None refl is (tt {0}))

  opened : is_open old t ≡ true
  opened = holds (is_open old t) _ (all_none (tests old call) is 0 None (omega arith))

  not_held : (other : Name) (u : ℕ) (mode : Mode) → segment_of old.base other ≡ segment_of old.base relation → (u ≡ t → ⊥) → held before.locks u (Tuple other tid) ≡ Some mode → ⊥
  not_held other u mode segment off there = none_some (sym (free.alone other u segment off) ∙ sym (held_others t (needs (now old) call) old.locks u (Tuple other tid) off) ∙ there)

  holder_kept : Kept holder
  holder_kept = keeps_granted before_kept t (need (Tuple relation tid) X ∷ []) (λ n is_in. ⊎_elim (λ e. (opened, subst (IsClear before.locks t) e (λ u mode off there. absurd (not_held relation u mode refl off there)))) (λ none. absurd none) is_in)

  its : (n : Need) → In n (needs (now old) call) → Holds holder.locks t n.item n.mode
  its n is_in = holds_more t (need (Tuple relation tid) X ∷ []) before.locks t n.item n.mode (holds_it t (needs (now old) call) old.locks n is_in)

  nobody : (other : Name) (u : ℕ) → segment_of old.base other ≡ segment_of old.base relation → (u ≡ t → ⊥) → Holds holder.locks u (Tuple other tid) X → ⊥
  nobody other u segment off hold = not_held other u hold.now segment off (sym (held_others t (need (Tuple relation tid) X ∷ []) before.locks u (Tuple other tid) off) ∙ hold.there)

  guard : IsGuarded holder (insertion t relation tid values)
  guard = guard_tuple holder t relation tid None (Some values) (holds_it t (need (Tuple relation tid) X ∷ []) before.locks (need (Tuple relation tid) X) (inl refl))
      (its (need (Relation relation) IX) (in_left (changing (now old) relation) _ _ (relation_need (now old) relation IX IX)))
      (λ v name image which there of unique. ⊎_elim (λ e. none_some e) (λ e. its (key_need (now old) v (name, image)) (in_right (changing (now old) relation) (key_needs (now old) relation (values ∷ [])) (key_need (now old) v (name, image)) (key_needed (now old) relation (values ∷ []) v name image (inl (same_Some _ _ e)) there of unique))) which)

  pub keeps_insert : Kept (changed (insertion t relation tid values) over (holding t (Tuple relation tid) (locked (Insert t relation values) old)))
  keeps_insert =
      let passed = all_none (tests old call) is in
      let few : nat_le tuple_limit (used_tuples old relation) ≡ false = holds_not (nat_le tuple_limit (used_tuples old relation)) _ (passed 3 None (omega arith)) in
      keeps_tuple holder_kept t relation tid None (Some values) over opened (insert refl refl) (free.absent relation refl) (omega (arith, leb-false tuple_limit (used_tuples old relation) few)) guard
      (tuple_of holder relation values (holds (is_some (fields_of old.base relation)) _ (passed 1 None (omega arith))) (passed 2 None (omega arith))) free.within
      (λ counts few_counts fit other segment lives. absurd (true≢false (sym lives ∙ ap is_some (same_alone holder holder_kept.apart (guards_of holder_kept) holder_kept.chained t counts few_counts (Tuple other tid) (λ u off hold. nobody other u segment off hold) ∙ free.absent other segment))))
      (fresh_of holder relation tid None values (inl refl) (passed 6 None (omega arith)))
      (λ gone. none_some (sym gone))

-- ---- a tuple that is there

module _ {old : State} (kept : Kept old) (t : ℕ) (relation : Name) (tid : Tid) (was : List Value) (next : Option (List Value)) (over : ℕ) (list : List Need) (opened : is_open old t ≡ true) (there : HasValues old relation tid was)
    (mid_kept : Kept (record old { locks = granted t list old.locks })) (kind : IsTupleChange (tuple_change t relation tid (Some was) next))
    (first : (n : Need) → In n (tuple_changed (now old) relation tid) → In n list)
    (keys : (values : List Value) (name : Name) (image : ImageDef) → (Some was ≡ Some values) ⊎ (next ≡ Some values) → finite.get old.base.definitions.images name ≡ Some image → image.relation ≡ relation → image.is_unique ≡ true → In (key_need (now old) values (name, image)) list) where
  abbrev mid : State
  mid = record old { locks = granted t list old.locks }

  pub guard_live : IsGuarded (record old { locks = granted t list old.locks }) (tuple_change t relation tid (Some was) next)
  guard_live = guard_tuple mid t relation tid (Some was) next
      (holds_it t list old.locks (need (Tuple relation tid) X) (first _ (in_right (changing (now old) relation) (need (Tuple relation tid) X ∷ []) _ (inl refl))))
      (holds_it t list old.locks (need (Relation relation) IX) (first _ (in_left (changing (now old) relation) (need (Tuple relation tid) X ∷ []) _ (relation_need (now old) relation IX IX))))
      (λ values name image which defined of unique. holds_it t list old.locks (key_need (now old) values (name, image)) (keys values name image which defined of unique))

  pub keeps_live : ((values : List Value) → next ≡ Some values → IsTupleOf (now old) relation (Values values))
      → AreFresh old relation tid next → IsUnlinked old relation tid next
      → Kept (changed (tuple_change t relation tid (Some was) next) over (record old { locks = granted t list old.locks }))
  keeps_live tuple fresh unlinked =
      let lives : IsLive (now old) relation tid = ap is_some there in
      keeps_tuple mid_kept t relation tid (Some was) next over opened kind there (omega (arith, kept.counted relation)) guard_live
      (λ values is. let of = tuple values is in record { fields = of.fields; values = of.values; defined = of.defined; tuple = of.tuple; fit = of.fit })
      ((now_fits old kept.fit).tids relation tid lives)
      (λ counts few fit other segment also. fit.alone other relation tid also (ap is_some (same_held mid mid_kept.apart (guards_of mid_kept) mid_kept.chained t counts few (Tuple relation tid) X guard_live.item) ∙ lives) segment)
      fresh unlinked

-- the keys of what is there and of what comes
live_keys : (old : State) (relation : Name) (tid : Tid) (was : List Value) (all : List (List Value)) (values : List Value) (name : Name) (image : ImageDef) → HasValues old relation tid was → In values (was ∷ all)
    → finite.get old.base.definitions.images name ≡ Some image → image.relation ≡ relation → image.is_unique ≡ true → In (key_need (now old) values (name, image)) (tuple_keys (now old) relation tid all)
live_keys old relation tid was all values name image there is defined of unique =
    subst (λ (o : Option Content). In (key_need (now old) values (name, image)) (keys_where_live (now old) relation o all)) (sym there)
    (key_needed (now old) relation (was ∷ all) values name image is defined of unique)

pub keeps_update : {old : State} → Kept old → (t : ℕ) (relation : Name) (tid : Tid) (was values : List Value) (over : ℕ) → refusal old (Update t relation tid values) ≡ None → HasValues old relation tid was
    → Kept (changed (replacement t relation tid was values) over (locked (Update t relation tid values) old))
keeps_update {old = old} kept t relation tid was values over is there =
    let call : Call = Update t relation tid values in
    let passed = all_none (tests old (Update t relation tid values)) is in
    let opened : is_open old t ≡ true = holds (is_open old t) _ (passed 0 None (omega arith)) in
    let mid = keeps_granted kept t (needs (now old) (Update t relation tid values)) (clears old t (Update t relation tid values) None refl is (tt {0})) in
    keeps_live kept t relation tid was (Some values) over (needs (now old) (Update t relation tid values)) opened there mid (update refl refl)
    (λ n is_in. in_left (tuple_changed (now old) relation tid) (tuple_keys (now old) relation tid (values ∷ [])) n is_in)
    (λ v name image which defined of unique. in_right (tuple_changed (now old) relation tid) (tuple_keys (now old) relation tid (values ∷ [])) _
    (live_keys old relation tid was (values ∷ []) v name image there (⊎_elim (λ e. inl (same_Some _ _ e)) (λ e. inr (inl (same_Some _ _ e))) which) defined of unique))
    (tuple_of old relation values (holds (is_some (fields_of old.base relation)) _ (passed 1 None (omega arith))) (passed 2 None (omega arith)))
    (fresh_of old relation tid (Some tid) values (inr refl) (passed 5 None (omega arith)))
    (λ gone. none_some (sym gone))

pub keeps_delete : {old : State} → Kept old → (t : ℕ) (relation : Name) (tid : Tid) (was : List Value) (over : ℕ) → refusal old (Delete t relation tid) ≡ None → HasValues old relation tid was
    → Kept (changed (deletion t relation tid was) over (locked (Delete t relation tid) old))
keeps_delete {old = old} kept t relation tid was over is there =
    let passed = all_none (tests old (Delete t relation tid)) is in
    let opened : is_open old t ≡ true = holds (is_open old t) _ (passed 0 None (omega arith)) in
    let mid = keeps_granted kept t (needs (now old) (Delete t relation tid)) (clears old t (Delete t relation tid) None refl is (tt {0})) in
    keeps_live kept t relation tid was None over (needs (now old) (Delete t relation tid)) opened there mid (delete refl refl)
    (λ n is_in. in_left (tuple_changed (now old) relation tid) (tuple_keys (now old) relation tid []) n is_in)
    (λ v name image which defined of unique. in_right (tuple_changed (now old) relation tid) (tuple_keys (now old) relation tid []) _
    (live_keys old relation tid was [] v name image there (⊎_elim (λ e. inl (same_Some _ _ e)) (λ e. none_some e) which) defined of unique))
    (λ values gone. none_some gone)
    (λ values gone. none_some gone)
    (unlinked_of old relation tid (passed 4 None (omega arith)))
