-- What is kept of open transactions stays what the machine has of them.
use Rattle.std.proofs.Common.{◌≡◌, inl, inr, ℕ, ◌+◌, ◌-◌, Bool, true, false, cond, List, [], ◌∷◌, ◌++◌, length, map, take, refl, sym, ◌∙◌, ap, subst, arith}
use Rattle.std.specs.Prelude.{Option, Some, None, is_some, option_map, unwrap_or}
use Rattle.std.specs.Ordering.{eq_by_cmp, nat_cmp}
use Rattle.std.specs.Cmp.{Equal-is, nat_cmp_total, eq_by_cmp_equiv}
use Rattle.std.specs.FinMap as finite
use Rattle.std.specs.FinMap.{FinMap, nat_cmp-IsAntisymmetric, get-empty, get-insert, get-remove}
use Rattle.std.proofs.lemmas.Bool.{cases_Bool, cond-true, cond-false, eq-eqb, ne_eqb}
use Rattle.std.proofs.lemmas.Option.{same_Some}
use Rattle.rss_base.specs.declared.item.Item.{Item}
use Rattle.rss_base.specs.declared.item.Item.TheVariants.{Segment, Relation, Tuple, Chain, Key}
use Rattle.rss_base.specs.declared.name.Name.{Name}
use Rattle.rss_base.specs.declared.refusal.Kind.TheVariants as kinds
use Rattle.rss_base.specs.declared.relation.RelationEntry.{RelationEntry}
use Rattle.rss_base.specs.Listings.{Listing, IsNumberOf, numbered, names_of, with_count}
use Rattle.rss_model.specs.Changes.{own, kept_to}
use Rattle.rss_model.specs.Records.{Listed, changes_in, is_by, own_in, others_in}
use Rattle.rss_model.specs.Meanings.{SameDefinitions}
use Rattle.rss_model.proofs.LogLists.{by_same}
use Rattle.rss_trans.specs.declared.noted.Noted.{Noted}
use Rattle.rss_trans.specs.Transactions.{Transaction, OpenView, nothing, is_open, transaction_in, with_change, with_save, cut_at, without_newest}
use Rattle.rss_trans.specs.Told.{IsNumbered, AreNotesOf, TellsOpen, listed_by, NoneTells, SameTells, CheckpointTells, RelistedTells, RecountedTells, BeginTells, ChangeTells, SaveTells, CutTells, TakenTells, EndTells, AbortTells}
use Rattle.rss_trans.proofs.Noting.{notes_count, count_listed, oldest, oldest_again, notes_oldest, own_kept, own_kept_other, others_kept, own_of_others, own_of_others_other}

abbrev pub Marked : Type 0
Marked = FinMap nat_cmp (List ℕ)

abbrev pub saves_of : Transaction → List ℕ
saves_of transaction = transaction.saves

abbrev pub done : Option Transaction → Transaction
done o = unwrap_or o nothing

-- ---- keys

pub key_here : (q t : ℕ) → q ≡ t → eq_by_cmp nat_cmp q t ≡ true
key_here q t e = subst (λ (k : ℕ). eq_by_cmp nat_cmp k t ≡ true) (sym e) ((eq_by_cmp_equiv nat_cmp_total).refl t)

pub key_off : (q t : ℕ) → (q ≡ t → ⊥) → eq_by_cmp nat_cmp q t ≡ false
key_off q t off = elim (cases_Bool (eq_by_cmp nat_cmp q t)) [
  | inl e ↦ absurd (off (nat_cmp-IsAntisymmetric q t ((Equal-is (nat_cmp q t)).0 e)))
  | inr e ↦ e
]

-- ---- what one of them has

module _ {listing : Listing} {view : OpenView} {marks : Marked} {ls : List Listed} (is : TellsOpen listing view marks ls) (t : ℕ) where
  -- it is open where it has marks
  pub open_is : is_open view t ≡ is_some (finite.get marks t)
  open_is = by (finite.get view.transactions t) ∙ ap is_some (is.saves t)
    where
      by : (o : Option Transaction) → is_some o ≡ is_some (option_map saves_of o)
      by None = refl
      by (Some x) = refl

  pub open_saves : is_open view t ≡ true → finite.get marks t ≡ Some (transaction_in view t).saves
  open_saves opened = sym (is.saves t) ∙ by (finite.get view.transactions t) opened
    where
      by : (o : Option Transaction) → is_some o ≡ true → option_map saves_of o ≡ Some (done o).saves
      by None opened = absurd (cc (opened))
      by (Some x) opened = refl

  module _ (saves : List ℕ) (has : finite.get marks t ≡ Some saves) where
    pub marked_open : is_open view t ≡ true
    marked_open = open_is ∙ ap is_some has

    pub marked_saves : (transaction_in view t).saves ≡ saves
    marked_saves = same_Some (transaction_in view t).saves saves (sym (open_saves marked_open) ∙ has)

  pub count_own : length (transaction_in view t).changes ≡ length (own t (changes_in ls))
  count_own = notes_count listing (transaction_in view t).changes (own_in t ls) (is.changes t) ∙ count_listed t ls

-- ---- another has the place of one

module _ {listing : Listing} {old : OpenView} {marks : Marked} {ls : List Listed} (is : TellsOpen listing old marks ls) (t : ℕ) where
  pub put_told : (new : OpenView) (other : Marked) (ks : List Listed) (x : Transaction) → new.transactions ≡ finite.insert old.transactions t x
      → ((q : ℕ) → finite.get other q ≡ cond (eq_by_cmp nat_cmp q t) (Some x.saves) (finite.get marks q))
      → AreNotesOf listing x.changes (own_in t ks) → ((q : ℕ) → (q ≡ t → ⊥) → own_in q ks ≡ own_in q ls)
      → TellsOpen listing new other ks
  put_told new other ks x put marked notes rest = record {
    saves = λ q. ap (option_map saves_of) (got q)
        ∙ by (eq_by_cmp nat_cmp q t) (finite.get old.transactions q)
        ∙ ap (cond (eq_by_cmp nat_cmp q t) (Some x.saves)) (is.saves q)
        ∙ sym (marked q);
    changes = λ q. by_same q t
        (λ e. subst (λ (u : ℕ). AreNotesOf listing (transaction_in new u).changes (own_in u ks)) (sym e)
        (subst (λ (y : Transaction). AreNotesOf listing y.changes (own_in t ks)) (sym (ap done (got t ∙ cond-true _ _ _ (key_here t t refl)))) notes))
        (λ off. subst (λ (y : Transaction). AreNotesOf listing y.changes (own_in q ks)) (sym (ap done (got q ∙ cond-false _ _ _ (key_off q t off))))
        (subst (AreNotesOf listing (transaction_in old q).changes) (sym (rest q off)) (is.changes q)));
  }
    where
      got : (q : ℕ) → finite.get new.transactions q ≡ cond (eq_by_cmp nat_cmp q t) (Some x) (finite.get old.transactions q)
      got q = ap (λ (m : FinMap nat_cmp Transaction). finite.get m q) put ∙ get-insert nat_cmp_total old.transactions t x q

      by : (b : Bool) (o : Option Transaction) → option_map saves_of (cond b (Some x) o) ≡ cond b (Some x.saves) (option_map saves_of o)
      by true o = refl
      by false o = refl

  -- the marks stay
  pub marks_stay : (saves : List ℕ) → finite.get marks t ≡ Some saves → (q : ℕ) → finite.get marks q ≡ cond (eq_by_cmp nat_cmp q t) (Some saves) (finite.get marks q)
  marks_stay saves has q = by_same q t
      (λ e. ap (finite.get marks) e ∙ has ∙ sym (cond-true _ _ _ (key_here q t e)))
      (λ off. sym (cond-false _ _ _ (key_off q t off)))

-- ---- laws

pub none_tells : NoneTells
none_tells listing view none = record {
  saves = λ q. ap (option_map saves_of) (got q) ∙ sym (get-empty nat_cmp q);
  changes = λ q. ap (λ (o : Option Transaction). (done o).changes) (got q);
}
  where
    got : (q : ℕ) → finite.get view.transactions q ≡ None
    got q = ap (λ (m : FinMap nat_cmp Transaction). finite.get m q) none ∙ get-empty nat_cmp q

same_told : {listing : Listing} {old : OpenView} {marks : Marked} {ls : List Listed} → TellsOpen listing old marks ls → (new : OpenView) → new.transactions ≡ old.transactions → TellsOpen listing new marks ls
same_told {listing = listing} {ls = ls} is new same = record {
  saves = λ q. ap (λ (m : FinMap nat_cmp Transaction). option_map saves_of (finite.get m q)) same ∙ is.saves q;
  changes = λ q. subst (λ (m : FinMap nat_cmp Transaction). AreNotesOf listing (done (finite.get m q)).changes (own_in q ls)) (sym same) (is.changes q);
}

pub same_tells : SameTells
same_tells listing old new marks ls is same = same_told is new same.transactions

pub checkpoint_tells : CheckpointTells
checkpoint_tells listing old new marks ls is same = same_told is new same.transactions

-- ---- another listing

module _ (listing other : Listing) (same : (relation : Name) (number : ℕ) → IsNumberOf kinds.Relation listing relation number → IsNumberOf kinds.Relation other relation number) where
  numbered_too : (item : Item) (noted : Option ℕ) → IsNumbered listing item noted → IsNumbered other item noted
  numbered_too (Segment name) noted is = is
  numbered_too (Relation name) noted is = is
  numbered_too (Tuple relation tid) noted is = (is.0, is.1, same relation is.0 is.2)
  numbered_too (Chain link parent) noted is = is
  numbered_too (Key image values) noted is = is

  notes_too : (notes : List Noted) (ls : List Listed) → AreNotesOf listing notes ls → AreNotesOf other notes ls
  notes_too notes [] is = is
  notes_too notes (l ∷ ls) is = (is.0, is.1, is.2, record { position = is.3.position; relation = numbered_too l.change.item is.1.relation is.3.relation; is_delete = is.3.is_delete }, notes_too is.0 ls is.4)

pub relisted_tells : RelistedTells
relisted_tells listing other view marks ls is same = record {
  saves = is.saves;
  changes = λ t. notes_too listing other same (transaction_in view t).changes (own_in t ls) (is.changes t);
}

-- the names of relations are the same, whatever their counts
names_counted : (relations : List (Option RelationEntry)) → map (option_map (λ relation. relation.name)) (map (option_map (with_count 0)) relations) ≡ map (option_map (λ relation. relation.name)) relations
names_counted [] = refl
names_counted (o ∷ relations) = λ i. by o i ∷ names_counted relations i
  where
    by : (o : Option RelationEntry) → option_map (λ relation. relation.name) (option_map (with_count 0) o) ≡ option_map (λ relation. relation.name) o
    by None = refl
    by (Some relation) = refl

pub same_names : (listing other : Listing) → SameDefinitions listing other → names_of kinds.Relation listing ≡ names_of kinds.Relation other
same_names listing other same =
    sym (names_counted listing.relations) ∙ ap (map (option_map (λ relation. relation.name))) (sym same.relations) ∙ names_counted other.relations

pub recounted_tells : RecountedTells
recounted_tells listing other view marks ls is same = relisted_tells listing other view marks ls is (λ relation number at.
    subst (λ (names : List (Option Name)). numbered names number ≡ Some relation) (same_names listing other same) at)

-- ---- steps

pub begin_tells : BeginTells
begin_tells listing old new marks ls t is closed begins =
    put_told is t new (finite.insert marks t []) ls nothing begins.transactions (get-insert nat_cmp_total marks t [])
    (subst (λ (x : Transaction). AreNotesOf listing x.changes (own_in t ls)) (none (finite.get old.transactions t) closed) (is.changes t))
    (λ q off. refl)
  where
    none : (o : Option Transaction) → is_some o ≡ false → done o ≡ nothing
    none None closed = refl
    none (Some x) closed = absurd (cc (closed))

pub change_tells : ChangeTells
change_tells listing old new marks ls note l is opened told notes =
    let t : ℕ = l.change.by in
    let here : is_by t l ≡ true = eq-eqb t t refl in
    put_told is t new marks (l ∷ ls) (with_change note (transaction_in old t)) notes.transactions (marks_stay is t (transaction_in old t).saves (open_saves is t opened))
    (rw here ((transaction_in old t).changes, note, refl, told, is.changes t))
    (λ q off. let other : is_by q l ≡ false = ne_eqb t q (λ e. off (sym e)) in rw other refl)

pub save_tells : SaveTells
save_tells listing old new marks ls t saves is has steps =
    let next : (transaction_in old t).saves ++ length (transaction_in old t).changes ∷ [] ≡ saves ++ length (own t (changes_in ls)) ∷ [] =
    (λ i. marked_saves is t saves has i ++ count_own is t i ∷ []) in
    put_told is t new (finite.insert marks t (saves ++ length (own t (changes_in ls)) ∷ [])) ls (with_save (transaction_in old t)) steps.transactions
    (λ q. get-insert nat_cmp_total marks t (saves ++ length (own t (changes_in ls)) ∷ []) q ∙ ap (λ (s : List ℕ). cond (eq_by_cmp nat_cmp q t) (Some s) (finite.get marks q)) (sym next))
    (is.changes t)
    (λ q off. refl)

pub cut_tells : CutTells
cut_tells listing old new marks ls t save saves is has steps =
    put_told is t new (finite.insert marks t (take save saves)) ls (cut_at save (transaction_in old t)) steps.transactions
    (λ q. get-insert nat_cmp_total marks t (take save saves) q ∙ ap (λ (s : List ℕ). cond (eq_by_cmp nat_cmp q t) (Some (take save s)) (finite.get marks q)) (sym (marked_saves is t saves has)))
    (is.changes t)
    (λ q off. refl)

pub taken_tells : TakenTells
taken_tells listing old new marks ls t n is opened count steps =
    let less : length (transaction_in old t).changes - 1 ≡ n = omega arith in
    let own_then : oldest n (own_in t (kept_to listed_by t (n + 1) ls)) ≡ own_in t (kept_to listed_by t n ls) = ap (oldest n) (own_kept t (n + 1) ls) ∙ oldest_again n (own_in t ls) ∙ sym (own_kept t n ls) in
    put_told is t new marks (kept_to listed_by t n ls) (without_newest (transaction_in old t)) steps.transactions (marks_stay is t (transaction_in old t).saves (open_saves is t opened))
    (subst (λ (m : ℕ). AreNotesOf listing (take m (transaction_in old t).changes) (own_in t (kept_to listed_by t n ls))) (sym less)
    (subst (AreNotesOf listing (take n (transaction_in old t).changes)) own_then
    (notes_oldest listing n (transaction_in old t).changes (own_in t (kept_to listed_by t (n + 1) ls)) (is.changes t))))
    (λ q off. own_kept_other t q n ls off ∙ sym (own_kept_other t q (n + 1) ls off))

pub end_tells : EndTells
end_tells listing old new marks ls t is ends = record {
  saves = λ q. ap (option_map saves_of) (got q)
      ∙ by (eq_by_cmp nat_cmp q t) (finite.get old.transactions q)
      ∙ ap (cond (eq_by_cmp nat_cmp q t) None) (is.saves q)
      ∙ sym (get-remove nat_cmp_total marks t q);
  changes = λ q. by_same q t
      (λ e. subst (λ (y : Transaction). AreNotesOf listing y.changes (own_in q (others_in t ls))) (sym (ap done (got q ∙ cond-true _ _ _ (key_here q t e))))
      (subst (AreNotesOf listing []) (sym (ap (λ (u : ℕ). own_in u (others_in t ls)) e ∙ own_of_others t ls)) refl))
      (λ off. subst (λ (y : Transaction). AreNotesOf listing y.changes (own_in q (others_in t ls))) (sym (ap done (got q ∙ cond-false _ _ _ (key_off q t off))))
      (subst (AreNotesOf listing (transaction_in old q).changes) (sym (own_of_others_other t q ls off)) (is.changes q)));
}
  where
    got : (q : ℕ) → finite.get new.transactions q ≡ cond (eq_by_cmp nat_cmp q t) None (finite.get old.transactions q)
    got q = ap (λ (m : FinMap nat_cmp Transaction). finite.get m q) ends.transactions ∙ get-remove nat_cmp_total old.transactions t q

    by : (b : Bool) (o : Option Transaction) → option_map saves_of (cond b None o) ≡ cond b None (option_map saves_of o)
    by true o = refl
    by false o = refl

pub abort_tells : AbortTells
abort_tells listing old new marks ls t n is ends =
    subst (TellsOpen listing new (finite.remove marks t)) (others_kept t n ls) (end_tells listing old new marks (kept_to listed_by t n ls) t is ends)
