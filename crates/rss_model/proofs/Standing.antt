-- The tuples of a chain, and one that comes or goes.
use Rattle.std.proofs.Common.{◌≡◌, ◌⊎◌, inl, inr, ⊎_elim, Bool, true, false, List, [], ◌∷◌, length, refl, sym, ◌∙◌, ap, subst, arith}
use Rattle.std.specs.Prelude.{not, ◌&&◌, ◌||◌, ◌==◌, Option, Some, None, ◌≤◌}
use Rattle.std.proofs.lemmas.Bool.{eqb-true, eq-eqb}
use Rattle.rss_base.specs.declared.tid.Tid.{Tid}
use Rattle.rss_base.specs.Prefixes.{is_tid}
use Rattle.rss_model.specs.Items.{Content, Tuples}
use Rattle.rss_model.specs.Chains.{tuples_in, chain_content, stands_in, with_behind, without, StandOnce}
use Rattle.rss_model.proofs.Codes.{same_tid}
use Rattle.rss_model.proofs.LogLists.{by_test, false_true}
use Rattle.rss_model.proofs.Mixing.{In}

pub tid_itself : (a : Tid) → is_tid a a ≡ true
tid_itself a = let pages : (a.page == a.page) ≡ true = eq-eqb a.page a.page refl in rw pages (eq-eqb a.slot a.slot refl)

pub tid_same : (a b : Tid) → is_tid a b ≡ true → a ≡ b
tid_same a b is = by_test (a.page == b.page)
    (λ e. same_tid a b (eqb-true a.page b.page e) (eqb-true a.slot b.slot (rw e at is)))
    (λ e. false_true (rw e at is) refl)

pub by_tid : {G : Type 0} (a b : Tid) → (a ≡ b → G) → ((a ≡ b → ⊥) → G) → G
by_tid a b same other = by_test (is_tid a b) (λ e. same (tid_same a b e)) (λ e. other (λ f. false_true (subst (λ (c : Tid). is_tid a c ≡ true) f (tid_itself a)) e))

pub tid_apart : (a b : Tid) → (a ≡ b → ⊥) → is_tid a b ≡ false
tid_apart a b off = by_test (is_tid a b) (λ e. absurd (off (tid_same a b e))) (λ e. e)

pub or_swap : (a b c : Bool) → (a || (b || c)) ≡ (b || (a || c))
or_swap true true c = refl
or_swap true false c = refl
or_swap false b c = refl

pub or_first : (a b : Bool) → a ≡ true → (a || b) ≡ true
or_first a b e = rw e

pub or_second : (a b : Bool) → b ≡ true → (a || b) ≡ true
or_second true b e = refl
or_second false b e = e

pub or_none : (a b : Bool) → (a || b) ≡ false → (a ≡ false) × (b ≡ false)
or_none true b e = absurd (cc (e))
or_none false b e = (refl, e)

pub stands_of : (tids : List Tid) (x : Tid) → In x tids → stands_in x tids ≡ true
stands_of [] x is = absurd is
stands_of (tid ∷ tids) x (inl e) = or_first (is_tid x tid) (stands_in x tids) (subst (λ (y : Tid). is_tid x y ≡ true) (sym e) (tid_itself x))
stands_of (tid ∷ tids) x (inr is) = or_second (is_tid x tid) (stands_in x tids) (stands_of tids x is)

-- ---- one more

pub stands_behind : (left : Option Tid) (child : Tid) (tids : List Tid) (x : Tid) → stands_in x (with_behind left child tids) ≡ (is_tid x child || stands_in x tids)
stands_behind None child tids x = refl
stands_behind (Some left) child [] x = refl
stands_behind (Some left) child (tid ∷ tids) x = by_test (is_tid tid left)
    (λ e. rw e (or_swap (is_tid x tid) (is_tid x child) (stands_in x tids)))
    (λ e. rw e (ap (λ (b : Bool). is_tid x tid || b) (stands_behind (Some left) child tids x) ∙ or_swap (is_tid x tid) (is_tid x child) (stands_in x tids)))

pub in_behind : (left : Option Tid) (child : Tid) (tids : List Tid) (x : Tid) → In x (with_behind left child tids) → (child ≡ x) ⊎ In x tids
in_behind None child tids x is = is
in_behind (Some left) child [] x is = is
in_behind (Some left) child (tid ∷ tids) x is = by_test (is_tid tid left)
    (λ e. ⊎_elim (λ f. inr (inl f)) (λ f. ⊎_elim (λ g. inl g) (λ g. inr (inr g)) f) (rw e at is))
    (λ e. ⊎_elim (λ f. inr (inl f)) (λ f. ⊎_elim (λ g. inl g) (λ g. inr (inr g)) (in_behind (Some left) child tids x f)) (rw e at is))

pub once_behind : (left : Option Tid) (child : Tid) (tids : List Tid) → stands_in child tids ≡ false → StandOnce tids → StandOnce (with_behind left child tids)
once_behind None child tids off once = (off, once)
once_behind (Some left) child [] off once = (refl, tt)
once_behind (Some left) child (tid ∷ tids) off once =
    let parts = or_none (is_tid child tid) (stands_in child tids) off in
    let other : is_tid tid child ≡ false = tid_apart tid child (λ e. false_true (subst (λ (c : Tid). is_tid c tid ≡ true) e (tid_itself tid)) parts.0) in
    by_test (is_tid tid left)
    (λ e. rw e (rw other once.0, (parts.1, once.1)))
    (λ e. rw e (stands_behind (Some left) child tids tid ∙ rw other once.0, once_behind (Some left) child tids parts.1 once.1))

pub some_behind : (left : Option Tid) (child : Tid) (tids : List Tid) → 1 ≤ length (with_behind left child tids)
some_behind None child tids = omega arith
some_behind (Some left) child [] = omega arith
some_behind (Some left) child (tid ∷ tids) = by_test (is_tid tid left) (λ e. rw e (omega arith)) (λ e. rw e (omega arith))

-- ---- one less

pub in_without : (child : Tid) (tids : List Tid) (x : Tid) → In x (without child tids) → In x tids × (is_tid x child ≡ false)
in_without child [] x is = absurd is
in_without child (tid ∷ tids) x is = by_test (is_tid tid child)
    (λ e. let rest = in_without child tids x (rw e at is) in (inr rest.0, rest.1))
    (λ e. ⊎_elim (λ f. (inl f, ap (λ (y : Tid). is_tid y child) (sym f) ∙ e)) (λ f. let rest = in_without child tids x f in (inr rest.0, rest.1)) (rw e at is))

pub stands_without : (child : Tid) (tids : List Tid) (x : Tid) → stands_in x (without child tids) ≡ (stands_in x tids && not (is_tid x child))
stands_without child [] x = refl
stands_without child (tid ∷ tids) x = by_test (is_tid tid child)
    (λ e. rw e (stands_without child tids x ∙ by_test (is_tid x tid)
    (λ f. let g : is_tid x child ≡ true = subst (λ (y : Tid). is_tid y child ≡ true) (sym (tid_same x tid f)) e in rw (f, g) (none (stands_in x tids)))
    (λ f. rw f)))
    (λ e. rw e (ap (λ (b : Bool). is_tid x tid || b) (stands_without child tids x) ∙ by_test (is_tid x tid)
    (λ f. let g : is_tid x child ≡ false = subst (λ (y : Tid). is_tid y child ≡ false) (sym (tid_same x tid f)) e in rw (f, g))
    (λ f. rw f)))
  where
    none : (b : Bool) → (b && false) ≡ false
    none true = refl
    none false = refl

pub once_without : (child : Tid) (tids : List Tid) → StandOnce tids → StandOnce (without child tids)
once_without child [] once = tt
once_without child (tid ∷ tids) once = by_test (is_tid tid child)
    (λ e. rw e (once_without child tids once.1))
    (λ e. rw e (stands_without child tids tid ∙ rw once.0, once_without child tids once.1))

-- ---- what is held of tuples

pub tuples_of : (tids : List Tid) → tuples_in (chain_content tids) ≡ tids
tuples_of [] = refl
tuples_of (tid ∷ tids) = refl

pub content_of : (tids : List Tid) (held : Content) → chain_content tids ≡ Some held → (held ≡ Tuples tids) × (1 ≤ length tids)
content_of [] held is = absurd (cc (is))
content_of (tid ∷ tids) held is = (cc (is), omega arith)
