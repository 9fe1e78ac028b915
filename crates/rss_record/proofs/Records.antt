-- A record that is read is the record that was written, and what was written is read again.
use Rattle.std.proofs.Common.{◌≡◌, ℕ, ◌+◌, ◌-◌, ◌^◌, ◌<◌, ◌≤◌, Bool, true, false, cond, eqb, List, [], ◌∷◌, ◌++◌, length, drop, Option, Some, None, refl, sym, ap, subst, ◌∙◌, append_assoc, arith, inl, inr, ◌⊎◌}
use Rattle.std.specs.Prelude.{◌||◌}
use Rattle.std.specs.Int.{w32, w64, to_be_bytes}
use Rattle.std.proofs.lemmas.Bool.{eqb-true, cases_Bool}
use Rattle.std.proofs.lemmas.List.{length-append, drop_at}
use Rattle.rss_base.specs.declared.tid.Tid.{Tid}
use Rattle.rss_base.specs.declared.change.Change.{Change}
use Rattle.rss_base.specs.declared.change.Change.TheVariants.{Insert, Delete, Update, Connect, Disconnect}
use Rattle.rss_base.specs.declared.log_record.LogRecord.{LogRecord}
use Rattle.rss_base.specs.declared.log_record.LogRecord.TheVariants as records
use Rattle.rss_base.specs.LogRecords.{tid_bytes, place_bytes, sized_bytes, change_bytes, record_bytes, IsShort, IsChangeBounded, DoesChangeFit, record_size, IsBounded, longest_record, IsSpellable, BeginsWith}
use Rattle.rss_record.specs.Reading.{◌>>=◌, Front, byte_at, number_at, tid_at, place_at, values_at, tuple_change, tuple_change_at, chain_change_at, change_at, by_kind_at, marks_at, record_at}
use Rattle.rss_record.proofs.FieldBytes.{IsBytes, IsBytes-rest, IsTid, IsPlace, bind_some, some_is, chosen, Takes, wide32, wide64, number_takes, number_again, tid_takes, tid_again, place_takes, place_again, values_takes, values_again, marks_takes, marks_again}
use Rattle.rss_record.proofs.Marks.{length-marks_bytes}

-- a byte in front of what was taken
byte_takes : (bytes : List ℕ) (f : ℕ × List ℕ) → IsBytes bytes → byte_at bytes ≡ Some f → Takes bytes (f.0 ∷ []) f.1
byte_takes [] f fits e = absurd cc
byte_takes (b ∷ bytes) f fits e = subst (λ (y : ℕ × List ℕ). Takes (b ∷ bytes) (y.0 ∷ []) y.1) (some_is (b, bytes) f e) (record { parts = refl; rest_fits = IsBytes-rest b bytes fits })

-- ---- what is read is spelled so: changes

-- the bytes of a change of this kind by a transaction, and those behind it
record IsFront (kind by : ℕ) (bytes : List ℕ) (f : Change × List ℕ) : Type 0 where
  is : kind ∷ (to_be_bytes w32 by ++ bytes) ≡ change_bytes by f.0 ++ f.1
  bounded : IsChangeBounded f.0
  fits : DoesChangeFit f.0

IsTupleKind : ℕ → Type 0
IsTupleKind kind = (kind ≡ 1) ⊎ ((kind ≡ 2) ⊎ (kind ≡ 3))

module _ (by relation : ℕ) (tid : Tid) (values rest bytes : List ℕ) (f : Change × List ℕ) (parts : bytes ≡ relation ∷ (tid_bytes tid ++ (sized_bytes values ++ rest))) (is_tid : IsTid tid) (short : IsShort values) (fits : IsBytes rest) where
  insert_front : tuple_change 1 relation tid values rest ≡ Some f → IsFront 1 by bytes f
  insert_front e = subst (IsFront 1 by bytes) (some_is (Insert relation tid values, rest) f e) (record { is = ap (λ (l : List ℕ). 1 ∷ (to_be_bytes w32 by ++ l)) parts; bounded = (is_tid.0, short); fits = is_tid.1 })

  delete_front : tuple_change 2 relation tid values rest ≡ Some f → IsFront 2 by bytes f
  delete_front e = subst (IsFront 2 by bytes) (some_is (Delete relation tid values, rest) f e) (record { is = ap (λ (l : List ℕ). 2 ∷ (to_be_bytes w32 by ++ l)) parts; bounded = (is_tid.0, short); fits = is_tid.1 })

  update_front : tuple_change 3 relation tid values rest ≡ Some f → IsFront 3 by bytes f
  update_front e =
      let a = bind_some (values_at rest) (λ to. Some (Update relation tid values to.0, to.1)) f e in
      let to = values_takes rest a.0 fits a.1 in
      let both : bytes ≡ relation ∷ (tid_bytes tid ++ (sized_bytes values ++ (sized_bytes a.0.0 ++ a.0.1))) = parts ∙ ap (λ (l : List ℕ). relation ∷ (tid_bytes tid ++ (sized_bytes values ++ l))) to.0.parts in
      let grouped : sized_bytes values ++ (sized_bytes a.0.0 ++ a.0.1) ≡ (sized_bytes values ++ sized_bytes a.0.0) ++ a.0.1 = sym (append_assoc (sized_bytes values) (sized_bytes a.0.0) a.0.1) in
      subst (IsFront 3 by bytes) (some_is (Update relation tid values a.0.0, a.0.1) f a.2)
      (record { is = ap (λ (l : List ℕ). 3 ∷ (to_be_bytes w32 by ++ l)) both ∙ ap (λ (l : List ℕ). 3 ∷ (to_be_bytes w32 by ++ (relation ∷ (tid_bytes tid ++ l)))) grouped; bounded = (is_tid.0, short, to.1); fits = is_tid.1 })

  tuple_front : (kind : ℕ) → IsTupleKind kind → tuple_change kind relation tid values rest ≡ Some f → IsFront kind by bytes f
  unfolding IsTupleKind
  tuple_front kind which e = elim which [
    | inl is ↦ subst (λ (k : ℕ). tuple_change k relation tid values rest ≡ Some f → IsFront k by bytes f) (sym is) insert_front e
    | inr other ↦ elim other [
      | inl is ↦ subst (λ (k : ℕ). tuple_change k relation tid values rest ≡ Some f → IsFront k by bytes f) (sym is) delete_front e
      | inr is ↦ subst (λ (k : ℕ). tuple_change k relation tid values rest ≡ Some f → IsFront k by bytes f) (sym is) update_front e
    ]
  ]

tuple_takes : (kind by : ℕ) (bytes : List ℕ) (f : Change × List ℕ) → IsTupleKind kind → IsBytes bytes → tuple_change_at kind bytes ≡ Some f → IsFront kind by bytes f
unfolding tuple_change_at
tuple_takes kind by bytes f which fits e =
    let a = bind_some (byte_at bytes) (λ relation. tid_at relation.1 >>= λ tid. values_at tid.1 >>= λ values. tuple_change kind relation.0 tid.0 values.0 values.1) f e in
    let b = bind_some (tid_at a.0.1) (λ tid. values_at tid.1 >>= λ values. tuple_change kind a.0.0 tid.0 values.0 values.1) f a.2 in
    let d = bind_some (values_at b.0.1) (λ values. tuple_change kind a.0.0 b.0.0 values.0 values.1) f b.2 in
    let relation : Takes bytes (a.0.0 ∷ []) a.0.1 = byte_takes bytes a.0 fits a.1 in
    let tid = tid_takes a.0.1 b.0 relation.rest_fits b.1 in
    let values = values_takes b.0.1 d.0 tid.0.rest_fits d.1 in
    let parts : bytes ≡ a.0.0 ∷ (tid_bytes b.0.0 ++ (sized_bytes d.0.0 ++ d.0.1)) = relation.parts ∙ ap (λ (l : List ℕ). a.0.0 ∷ l) (tid.0.parts ∙ ap (λ (l : List ℕ). tid_bytes b.0.0 ++ l) values.0.parts) in
    tuple_front by a.0.0 b.0.0 d.0.0 d.0.1 bytes f parts tid.1 values.1 values.0.rest_fits kind which d.2

chain_takes : (kind by : ℕ) (bytes : List ℕ) (f : Change × List ℕ) → (kind ≡ 4) ⊎ (kind ≡ 5) → IsBytes bytes → chain_change_at kind bytes ≡ Some f → IsFront kind by bytes f
unfolding chain_change_at
chain_takes kind by bytes f which fits e =
    let last : ℕ → Option Tid → Tid → Option Tid → List ℕ → ℕ → Front Change = λ link parent child left rest k. cond (eqb k 4) (Some (Connect link parent child left, rest)) (Some (Disconnect link parent child left, rest)) in
    let a = bind_some (byte_at bytes) (λ link. place_at link.1 >>= λ parent. tid_at parent.1 >>= λ child. place_at child.1 >>= λ left. last link.0 parent.0 child.0 left.0 left.1 kind) f e in
    let b = bind_some (place_at a.0.1) (λ parent. tid_at parent.1 >>= λ child. place_at child.1 >>= λ left. last a.0.0 parent.0 child.0 left.0 left.1 kind) f a.2 in
    let c = bind_some (tid_at b.0.1) (λ child. place_at child.1 >>= λ left. last a.0.0 b.0.0 child.0 left.0 left.1 kind) f b.2 in
    let d = bind_some (place_at c.0.1) (λ left. last a.0.0 b.0.0 c.0.0 left.0 left.1 kind) f c.2 in
    let link : Takes bytes (a.0.0 ∷ []) a.0.1 = byte_takes bytes a.0 fits a.1 in
    let parent = place_takes a.0.1 b.0 link.rest_fits b.1 in
    let child = tid_takes b.0.1 c.0 parent.0.rest_fits c.1 in
    let left = place_takes c.0.1 d.0 child.0.rest_fits d.1 in
    let behind : b.0.1 ≡ (tid_bytes c.0.0 ++ place_bytes d.0.0) ++ d.0.1 = child.0.parts ∙ ap (λ (l : List ℕ). tid_bytes c.0.0 ++ l) left.0.parts in
    let parts : bytes ≡ (a.0.0 ∷ (place_bytes b.0.0 ++ (tid_bytes c.0.0 ++ place_bytes d.0.0))) ++ d.0.1 =
    link.parts ∙ ap (λ (l : List ℕ). a.0.0 ∷ l) (parent.0.parts ∙ ap (λ (l : List ℕ). place_bytes b.0.0 ++ l) behind ∙ sym (append_assoc (place_bytes b.0.0) (tid_bytes c.0.0 ++ place_bytes d.0.0) d.0.1)) in
    let P : ℕ → Type 0 = λ k. last a.0.0 b.0.0 c.0.0 d.0.0 d.0.1 k ≡ Some f → IsFront k by bytes f in
    elim which [
      | inl is ↦ subst P (sym is) (λ (e : last a.0.0 b.0.0 c.0.0 d.0.0 d.0.1 4 ≡ Some f). subst (IsFront 4 by bytes) (some_is (Connect a.0.0 b.0.0 c.0.0 d.0.0, d.0.1) f e) (record { is = ap (λ (l : List ℕ). 4 ∷ (to_be_bytes w32 by ++ l)) parts; bounded = (parent.1.0, child.1.0, left.1.0); fits = (parent.1.1, child.1.1, left.1.1) })) d.2
      | inr is ↦ subst P (sym is) (λ (e : last a.0.0 b.0.0 c.0.0 d.0.0 d.0.1 5 ≡ Some f). subst (IsFront 5 by bytes) (some_is (Disconnect a.0.0 b.0.0 c.0.0 d.0.0, d.0.1) f e) (record { is = ap (λ (l : List ℕ). 5 ∷ (to_be_bytes w32 by ++ l)) parts; bounded = (parent.1.0, child.1.0, left.1.0); fits = (parent.1.1, child.1.1, left.1.1) })) d.2
    ]

one_of_two : (n a b : ℕ) → (eqb n a || eqb n b) ≡ true → (n ≡ a) ⊎ (n ≡ b)
one_of_two n a b e = elim (cases_Bool (eqb n a)) [
  | inl is ↦ inl (eqb-true n a is)
  | inr not ↦ inr (eqb-true n b (ap (λ (t : Bool). t || eqb n b) (sym not) ∙ e))
]

one_of_three : (n : ℕ) → (eqb n 1 || eqb n 2 || eqb n 3) ≡ true → IsTupleKind n
unfolding IsTupleKind
one_of_three n e = elim (cases_Bool (eqb n 1 || eqb n 2)) [
  | inl is ↦ elim (one_of_two n 1 2 is) [ inl one ↦ inl one | inr two ↦ inr (inl two) ]
  | inr not ↦ inr (inr (eqb-true n 3 (ap (λ (t : Bool). t || eqb n 3) (sym not) ∙ e)))
]

no_front : {A : Type 0} {x : A} → None ≡ Some x → ⊥
no_front e = cc

change_takes : (kind by : ℕ) (bytes : List ℕ) (f : Change × List ℕ) → IsBytes bytes → change_at kind bytes ≡ Some f → IsFront kind by bytes f
unfolding change_at
change_takes kind by bytes f fits e = elim (chosen (eqb kind 1 || eqb kind 2 || eqb kind 3) (tuple_change_at kind bytes) (cond (eqb kind 4 || eqb kind 5) (chain_change_at kind bytes) None) (Some f) e) [
  | inl tuple ↦ tuple_takes kind by bytes f (one_of_three kind tuple.0) fits tuple.1
  | inr other ↦ elim (chosen (eqb kind 4 || eqb kind 5) (chain_change_at kind bytes) None (Some f) other.1) [
    | inl chain ↦ chain_takes kind by bytes f (one_of_two kind 4 5 chain.0) fits chain.1
    | inr none ↦ absurd (no_front none.1)
  ]
]

-- ---- records

-- the bytes of a record, and those behind it
pub record IsRecordFront (bytes : List ℕ) (f : LogRecord × List ℕ) : Type 0 where
  pub is : bytes ≡ record_bytes f.0 ++ f.1
  pub spellable : IsSpellable f.0

by_kind_takes : (kind by : ℕ) (bytes : List ℕ) (f : LogRecord × List ℕ) → by < 2 ^ 32 → IsBytes bytes → by_kind_at kind by bytes ≡ Some f → IsRecordFront (kind ∷ (to_be_bytes w32 by ++ bytes)) f
unfolding by_kind_at
by_kind_takes kind by bytes f low fits e =
    let behind : ℕ → List ℕ = λ k. k ∷ (to_be_bytes w32 by ++ bytes) in
    let restore : Front LogRecord = number_at w64 bytes >>= λ position. Some (records.Restore by position.0, position.1) in
    let change : Front LogRecord = change_at kind bytes >>= λ change. Some (records.Change by change.0, change.1) in
    let abort : Front LogRecord = cond (eqb kind 8) (Some (records.Abort by, bytes)) change in
    let end : Front LogRecord = cond (eqb kind 7) (Some (records.End by, bytes)) abort in
    elim (chosen (eqb kind 6) restore end (Some f) e) [
      | inl six ↦
          let a = bind_some (number_at w64 bytes) (λ position. Some (records.Restore by position.0, position.1)) f six.1 in
          let position = number_takes w64 (2 ^ 64) wide64 bytes a.0 fits a.1 in
          let kind_is : kind ≡ 6 = eqb-true kind 6 six.0 in
          subst (IsRecordFront (behind kind)) (some_is (records.Restore by a.0.0, a.0.1) f a.2)
          (record { is = ap behind kind_is ∙ ap (λ (l : List ℕ). 6 ∷ (to_be_bytes w32 by ++ l)) position.0.parts; spellable = record { bounded = tt; fits = (low, position.1) } })
      | inr past ↦ elim (chosen (eqb kind 7) (Some (records.End by, bytes)) abort (Some f) past.1) [
        | inl seven ↦ subst (IsRecordFront (behind kind)) (some_is (records.End by, bytes) f seven.1) (record { is = ap behind (eqb-true kind 7 seven.0); spellable = record { bounded = tt; fits = low } })
        | inr further ↦ elim (chosen (eqb kind 8) (Some (records.Abort by, bytes)) change (Some f) further.1) [
          | inl eight ↦ subst (IsRecordFront (behind kind)) (some_is (records.Abort by, bytes) f eight.1) (record { is = ap behind (eqb-true kind 8 eight.0); spellable = record { bounded = tt; fits = low } })
          | inr last ↦
              let a = bind_some (change_at kind bytes) (λ change. Some (records.Change by change.0, change.1)) f last.1 in
              let front = change_takes kind by bytes a.0 fits a.1 in
              subst (IsRecordFront (behind kind)) (some_is (records.Change by a.0.0, a.0.1) f a.2) (record { is = front.is; spellable = record { bounded = front.bounded; fits = (low, front.fits) } })
        ]
      ]
    ]

pub record_takes : (bytes : List ℕ) (f : LogRecord × List ℕ) → IsBytes bytes → record_at bytes ≡ Some f → IsRecordFront bytes f
unfolding record_at
record_takes [] f fits e = absurd cc
record_takes (kind ∷ bytes) f fits e =
    let rest_fits : IsBytes bytes = IsBytes-rest kind bytes fits in
    elim (chosen (eqb kind 9) (marks_at bytes >>= λ marks. Some (records.Checkpoint marks.0, marks.1)) (number_at w32 bytes >>= λ by. by_kind_at kind by.0 by.1) (Some f) e) [
      | inl nine ↦
          let a = bind_some (marks_at bytes) (λ marks. Some (records.Checkpoint marks.0, marks.1)) f nine.1 in
          let marks = marks_takes bytes a.0 rest_fits a.1 in
          subst (IsRecordFront (kind ∷ bytes)) (some_is (records.Checkpoint a.0.0, a.0.1) f a.2)
          (record { is = λ i. eqb-true kind 9 nine.0 i ∷ marks.0 i; spellable = record { bounded = marks.1; fits = marks.2 } })
      | inr other ↦
          let a = bind_some (number_at w32 bytes) (λ by. by_kind_at kind by.0 by.1) f other.1 in
          let by = number_takes w32 (2 ^ 32) wide32 bytes a.0 rest_fits a.1 in
          subst (λ (l : List ℕ). IsRecordFront (kind ∷ l) f) (sym by.0.parts) (by_kind_takes kind a.0.0 a.0.1 f by.1 by.0.rest_fits a.2)
    ]

-- ---- what is spelled is read again

insert_again : (relation : ℕ) (tid : Tid) (values rest : List ℕ) → IsTid tid → IsShort values → tuple_change_at 1 (relation ∷ (tid_bytes tid ++ (sized_bytes values ++ rest))) ≡ Some (Insert relation tid values, rest)
unfolding tuple_change_at
insert_again relation tid values rest is short = rw (tid_again tid (sized_bytes values ++ rest) is, values_again values rest short) refl

delete_again : (relation : ℕ) (tid : Tid) (values rest : List ℕ) → IsTid tid → IsShort values → tuple_change_at 2 (relation ∷ (tid_bytes tid ++ (sized_bytes values ++ rest))) ≡ Some (Delete relation tid values, rest)
unfolding tuple_change_at
delete_again relation tid values rest is short = rw (tid_again tid (sized_bytes values ++ rest) is, values_again values rest short) refl

update_again : (relation : ℕ) (tid : Tid) (values to rest : List ℕ) → IsTid tid → IsShort values → IsShort to → tuple_change_at 3 (relation ∷ (tid_bytes tid ++ (sized_bytes values ++ (sized_bytes to ++ rest)))) ≡ Some (Update relation tid values to, rest)
unfolding tuple_change_at
update_again relation tid values to rest is short short_too = rw (tid_again tid (sized_bytes values ++ (sized_bytes to ++ rest)) is, values_again values (sized_bytes to ++ rest) short, values_again to rest short_too) refl

connect_again : (link : ℕ) (parent : Option Tid) (child : Tid) (left : Option Tid) (rest : List ℕ) → IsPlace parent → IsTid child → IsPlace left → chain_change_at 4 (link ∷ (place_bytes parent ++ (tid_bytes child ++ (place_bytes left ++ rest)))) ≡ Some (Connect link parent child left, rest)
unfolding chain_change_at
connect_again link parent child left rest has_parent is has_left = rw (place_again parent (tid_bytes child ++ (place_bytes left ++ rest)) has_parent, tid_again child (place_bytes left ++ rest) is, place_again left rest has_left) refl

disconnect_again : (link : ℕ) (parent : Option Tid) (child : Tid) (left : Option Tid) (rest : List ℕ) → IsPlace parent → IsTid child → IsPlace left → chain_change_at 5 (link ∷ (place_bytes parent ++ (tid_bytes child ++ (place_bytes left ++ rest)))) ≡ Some (Disconnect link parent child left, rest)
unfolding chain_change_at
disconnect_again link parent child left rest has_parent is has_left = rw (place_again parent (tid_bytes child ++ (place_bytes left ++ rest)) has_parent, tid_again child (place_bytes left ++ rest) is, place_again left rest has_left) refl

-- behind the kind and the transaction
behind_by : (kind by : ℕ) (bytes : List ℕ) → by < 2 ^ 32 → eqb kind 9 ≡ false → record_at (kind ∷ (to_be_bytes w32 by ++ bytes)) ≡ by_kind_at kind by bytes
unfolding record_at
behind_by kind by bytes low not = rw (not, number_again w32 (2 ^ 32) wide32 by bytes low) refl

pub record_again : (r : LogRecord) (rest : List ℕ) → IsSpellable r → record_at (record_bytes r ++ rest) ≡ Some (r, rest)
unfolding change_at by_kind_at record_at
record_again (records.Change by (Insert relation tid values)) rest is =
    behind_by 1 by (relation ∷ (tid_bytes tid ++ (sized_bytes values ++ rest))) is.fits.0 refl ∙ rw (insert_again relation tid values rest (is.bounded.0, is.fits.1) is.bounded.1) refl
record_again (records.Change by (Delete relation tid values)) rest is =
    behind_by 2 by (relation ∷ (tid_bytes tid ++ (sized_bytes values ++ rest))) is.fits.0 refl ∙ rw (delete_again relation tid values rest (is.bounded.0, is.fits.1) is.bounded.1) refl
record_again (records.Change by (Update relation tid values to)) rest is =
    let grouped : (sized_bytes values ++ sized_bytes to) ++ rest ≡ sized_bytes values ++ (sized_bytes to ++ rest) = append_assoc (sized_bytes values) (sized_bytes to) rest in
    ap (λ (l : List ℕ). record_at (3 ∷ (to_be_bytes w32 by ++ (relation ∷ (tid_bytes tid ++ l))))) grouped
    ∙ behind_by 3 by (relation ∷ (tid_bytes tid ++ (sized_bytes values ++ (sized_bytes to ++ rest)))) is.fits.0 refl
    ∙ rw (update_again relation tid values to rest (is.bounded.0, is.fits.1) is.bounded.1 is.bounded.2) refl
record_again (records.Change by (Connect link parent child left)) rest is =
    let grouped : (place_bytes parent ++ (tid_bytes child ++ place_bytes left)) ++ rest ≡ place_bytes parent ++ (tid_bytes child ++ (place_bytes left ++ rest)) = append_assoc (place_bytes parent) (tid_bytes child ++ place_bytes left) rest in
    ap (λ (l : List ℕ). record_at (4 ∷ (to_be_bytes w32 by ++ (link ∷ l)))) grouped
    ∙ behind_by 4 by (link ∷ (place_bytes parent ++ (tid_bytes child ++ (place_bytes left ++ rest)))) is.fits.0 refl
    ∙ rw (connect_again link parent child left rest (is.bounded.0, is.fits.1.0) (is.bounded.1, is.fits.1.1) (is.bounded.2, is.fits.1.2)) refl
record_again (records.Change by (Disconnect link parent child left)) rest is =
    let grouped : (place_bytes parent ++ (tid_bytes child ++ place_bytes left)) ++ rest ≡ place_bytes parent ++ (tid_bytes child ++ (place_bytes left ++ rest)) = append_assoc (place_bytes parent) (tid_bytes child ++ place_bytes left) rest in
    ap (λ (l : List ℕ). record_at (5 ∷ (to_be_bytes w32 by ++ (link ∷ l)))) grouped
    ∙ behind_by 5 by (link ∷ (place_bytes parent ++ (tid_bytes child ++ (place_bytes left ++ rest)))) is.fits.0 refl
    ∙ rw (disconnect_again link parent child left rest (is.bounded.0, is.fits.1.0) (is.bounded.1, is.fits.1.1) (is.bounded.2, is.fits.1.2)) refl
record_again (records.Restore by position) rest is =
    behind_by 6 by (to_be_bytes w64 position ++ rest) is.fits.0 refl ∙ rw (number_again w64 (2 ^ 64) wide64 position rest is.fits.1) refl
record_again (records.End by) rest is = behind_by 7 by rest is.fits refl
record_again (records.Abort by) rest is = behind_by 8 by rest is.fits refl
record_again (records.Checkpoint marks) rest is = rw (marks_again marks rest is.bounded is.fits) refl

-- ---- no record is a prefix of another

pub one_front : (r s : LogRecord) (rest others : List ℕ) → IsSpellable r → IsSpellable s → record_bytes r ++ rest ≡ record_bytes s ++ others → (r ≡ s) × (rest ≡ others)
one_front r s rest others first second e =
    let same : (r, rest) ≡ (s, others) = some_is (r, rest) (s, others) (sym (record_again r rest first) ∙ ap record_at e ∙ record_again s others second) in
    (ap (λ (f : LogRecord × List ℕ). f.0) same, ap (λ (f : LogRecord × List ℕ). f.1) same)

-- ---- sizes

length-place_bytes : (place : Option Tid) → length (place_bytes place) ≡ 6
length-place_bytes None = refl
length-place_bytes (Some tid) = refl

-- an Update of the longest values is the longest record
pub record_most : (r : LogRecord) → IsBounded r → record_size r ≤ longest_record
record_most (records.Change by (Insert relation tid values)) bounded = omega (arith, bounded.1)
record_most (records.Change by (Delete relation tid values)) bounded = omega (arith, bounded.1)
record_most (records.Change by (Update relation tid values to)) bounded = omega (arith, bounded.1, bounded.2, length-append values (sized_bytes to))
record_most (records.Change by (Connect link parent child left)) bounded = omega (arith, length-append (place_bytes parent) (tid_bytes child ++ place_bytes left), length-place_bytes parent, length-place_bytes left)
record_most (records.Change by (Disconnect link parent child left)) bounded = omega (arith, length-append (place_bytes parent) (tid_bytes child ++ place_bytes left), length-place_bytes parent, length-place_bytes left)
record_most (records.Restore by position) bounded = omega arith
record_most (records.End by) bounded = omega arith
record_most (records.Abort by) bounded = omega arith
record_most (records.Checkpoint marks) bounded = omega (arith, length-marks_bytes marks)

-- ---- what bytes begin with

pub refuses : (bytes : List ℕ) → record_at bytes ≡ None → (r : LogRecord) (rest : List ℕ) → BeginsWith bytes r rest → ⊥
refuses bytes none r rest begins = no_front (sym none ∙ ap record_at begins.is ∙ record_again r rest begins.spellable)

-- the record that was read, by how many bytes were left
pub begins : (bytes : List ℕ) (r : LogRecord) (rest : List ℕ) (left : ℕ) → IsBytes bytes → record_at bytes ≡ Some (r, rest) → left ≡ length rest
    → BeginsWith bytes r (drop (length bytes - left) bytes) × (length bytes - left ≡ record_size r) × (left ≤ length bytes)
begins bytes r rest left fits e is =
    let front = record_takes bytes (r, rest) fits e in
    let size : length bytes ≡ record_size r + length rest = ap length front.is ∙ length-append (record_bytes r) rest in
    let gone : length bytes - left ≡ record_size r = omega (arith, size) in
    let behind : drop (length bytes - left) bytes ≡ rest = ap (λ (n : ℕ). drop n bytes) gone ∙ ap (drop (record_size r)) front.is ∙ drop_at (record_bytes r) rest (record_size r) refl in
    (record { spellable = front.spellable; is = front.is ∙ ap (λ (l : List ℕ). record_bytes r ++ l) (sym behind) }, gone, omega (arith, size))
