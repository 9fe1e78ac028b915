-- What stays of a session where its open transactions have the changes that they had. A store shows each state of the same size, tables, changes and meter, whatever its marks, locks and scans are.
use Rattle.std.proofs.Common.{◌≡◌, ℕ, ◌^◌, ◌<◌, true, false, cond, List, [], refl, sym, ◌∙◌, ap, subst, arith}
use Rattle.std.specs.Prelude.{Option, Some, None, is_some, unwrap_or, nat_lt, sum_by, count_by, Result, Ok, Err, OnOk, OnErr, IfOk}
use Rattle.std.specs.Cmp.{nat_cmp_total}
use Rattle.std.specs.FinMap.{FinMap, get, insert, values, get-insert}
use Rattle.std.specs.Ordering.{eq_by_cmp, nat_cmp}
use Rattle.std.proofs.lemmas.Bool.{cond-true, cond-false}
use Rattle.rss_model.specs.Machine.{State}
use Rattle.rss_model.specs.Spares.{page_counts, IsInSession}
use Rattle.rss_model.proofs.LogLists.{by_same}
use Rattle.rss_trans.specs.declared.noted.Noted.{Noted}
use Rattle.rss_trans.specs.Transactions.{Transaction, nothing, OpenView, is_open, transaction_in, IsSame, any, change_count, sums_of}
use Rattle.rss_trans.specs.Told.{SavePoints, TellsOpen}
use Rattle.rss_trans.proofs.Told.{key_here, key_off, same_tells}
use Rattle.rss_session.specs.Sessions.{SessionView, IsReady, AreRising, counts, sums_in}
use Rattle.rss_session.specs.Shown.{Shows}
use Rattle.rss_session.specs.Weighing.{weighed}
use Rattle.rss_session.proofs.Bounds.{session_of}
use Rattle.rss_session.proofs.Steady.{shows_same}
use Rattle.rss_session.proofs.Sums.{insert_sum}
use Rattle.rss_session.proofs.Traffic.{images_still}

-- ---- by the result

pub either : {T E P Q G : Type 0} (result : Result T E) → OnOk result P → OnErr result Q → (P → G) → (Q → G) → G
either (Ok value) ok err at_ok at_err = at_ok ok
either (Err e) ok err at_ok at_err = at_err err

pub if_ok_with : {T E Q : Type 0} {P R : T → Type 0} (result : Result T E) → IfOk result P → OnOk result Q → ((value : T) → P value → Q → R value) → IfOk result R
if_ok_with (Ok value) one other both = both value one other
if_ok_with (Err e) one other both = tt

-- ---- of a session

-- the session with other open transactions
abbrev pub with_opened : SessionView → OpenView → SessionView
with_opened view opened = record { store = view.store; opened = opened; heap = view.heap; surviving = view.surviving; entries = view.entries; survived = view.survived }

-- The open transactions have other save points, but the same changes.
pub shows_opened : {view : SessionView} {state : State} (opened : OpenView) (marks : SavePoints) (shows : Shows view state)
    → TellsOpen view.store.catalog.listing opened marks shows.listed
    → opened.since ≡ view.opened.since → opened.since_of ≡ view.opened.since_of
    → Shows (with_opened view opened) (record state { marks = marks })
shows_opened {view = view} {state = state} opened marks shows told since since_of =
    let counted = shows.counted in
    let metered = counted.rooms.metered in record {
      store = shows_same marks state.locks state.scans shows.store;
      listed = shows.listed;
      list = shows.list;
      told = told;
      counted = record {
        since = record {
          all = since ∙ counted.since.all;
          each = λ relation number numbered. ap (λ (counts : ℕ → ℕ). counts number) since_of ∙ counted.since.each relation number numbered;
          fewer = counted.since.fewer;
        };
        each = counted.each;
        heap = counted.heap;
        surviving = counted.surviving;
        rooms = record {
          metered = record { makers = metered.makers; positions = metered.positions; heap = metered.heap; tuples = metered.tuples; room = metered.room };
          log = counted.rooms.log;
        };
      };
      rested = shows.rested;
    }

-- where nothing was done to them it shows the same states
pub shows_still : {view : SessionView} (opened : OpenView) → IsSame view.opened opened → (state : State) → Shows view state → Shows (with_opened view opened) state
shows_still {view = view} opened same state shows =
    shows_opened opened state.marks shows (same_tells view.store.catalog.listing view.opened opened state.marks shows.listed shows.told same) same.since same.since_of

-- ---- calls may be made

-- the same number of changes is counted, and each change is where it was
pub ready_opened : {view : SessionView} (opened : OpenView) → IsReady view → opened.since ≡ view.opened.since → opened.since_of ≡ view.opened.since_of
    → (sums_in opened).p ≡ (sums_in view.opened).p → (sums_in opened).q ≡ (sums_in view.opened).q
    → ((t : ℕ) → (transaction_in opened t).changes ≡ (transaction_in view.opened t).changes)
    → ((t : ℕ) → is_open opened t ≡ true → t < 2 ^ 32)
    → IsReady (with_opened view opened)
ready_opened {view = view} opened ready since since_of changes changers same numbers = record {
  store = ready.store;
  pages = session_of refl refl since (subst (λ (n : ℕ). IsInSession (counts view) n (page_counts view.store.pages)) (sym changes) ready.pages);
  room = omega (arith, ready.room, since, images);
  saved = omega (arith, ready.saved, images);
  log = omega (arith, ready.log, changes, changers);
  placed = λ t. subst (AreRising view.store.log.head view.store.log.end) (sym (same t)) (ready.placed t);
  numbers = numbers;
}
  where
    images : (counts (with_opened view opened)).images ≡ (counts view).images
    images = images_still {old = view} {new = with_opened view opened} view.store.catalog.listing (record { heap = refl; surviving = refl; entries = refl; survived = refl }) since_of

pub ready_still : {view : SessionView} (opened : OpenView) → IsSame view.opened opened → IsReady view → IsReady (with_opened view opened)
ready_still {view = view} opened same ready =
    ready_opened opened ready same.since same.since_of
    (ap (λ (m : FinMap nat_cmp Transaction). (sums_of any 0 (values m)).p) same.transactions)
    (ap (λ (m : FinMap nat_cmp Transaction). (sums_of any 0 (values m)).q) same.transactions)
    (λ t. ap (λ (m : FinMap nat_cmp Transaction). (unwrap_or (get m t) nothing).changes) same.transactions)
    (λ t opens. ready.numbers t (ap (λ (m : FinMap nat_cmp Transaction). is_some (get m t)) (sym same.transactions) ∙ opens))

-- one that isn't open has done nothing
pub done_nothing : (opened : OpenView) (t : ℕ) → is_open opened t ≡ false → [] ≡ (transaction_in opened t).changes
done_nothing opened t = by (get opened.transactions t)
  where
    by : (o : Option Transaction) → is_some o ≡ false → [] ≡ (unwrap_or o nothing).changes
    by None closed = refl
    by (Some x) closed = absurd (cc (closed))

-- one of them is new, or has the changes that it had
pub ready_with : {view : SessionView} (opened : OpenView) (t : ℕ) (x : Transaction) → IsReady view → t < 2 ^ 32
    → opened.transactions ≡ insert view.opened.transactions t x → opened.since ≡ view.opened.since → opened.since_of ≡ view.opened.since_of
    → x.changes ≡ (transaction_in view.opened t).changes
    → IsReady (with_opened view opened)
ready_with {view = view} opened t x ready low put since since_of same =
    ready_opened opened ready since since_of
    (same_sum (change_count any) refl (ap (count_by any) same))
    (same_sum (λ y. cond (nat_lt 0 (change_count any y)) 1 0) refl (ap (λ (notes : List Noted). cond (nat_lt 0 (count_by any notes)) 1 0) same))
    changes
    numbers
  where
    got : (q : ℕ) → get opened.transactions q ≡ cond (eq_by_cmp nat_cmp q t) (Some x) (get view.opened.transactions q)
    got q = ap (λ (m : FinMap nat_cmp Transaction). get m q) put ∙ get-insert nat_cmp_total view.opened.transactions t x q

    same_sum : (f : Transaction → ℕ) → f nothing ≡ 0 → f x ≡ f (transaction_in view.opened t) → sum_by f (values opened.transactions) ≡ sum_by f (values view.opened.transactions)
    same_sum f none is = omega (arith, ap (λ (m : FinMap nat_cmp Transaction). sum_by f (values m)) put, insert_sum f none view.opened.transactions t x, is)

    changes : (q : ℕ) → (transaction_in opened q).changes ≡ (transaction_in view.opened q).changes
    changes q = by_same q t
        (λ e. ap (λ (u : ℕ). (transaction_in opened u).changes) e ∙ ap (λ (o : Option Transaction). (unwrap_or o nothing).changes) (got t ∙ cond-true _ _ _ (key_here t t refl)) ∙ same ∙ ap (λ (u : ℕ). (transaction_in view.opened u).changes) (sym e))
        (λ off. ap (λ (o : Option Transaction). (unwrap_or o nothing).changes) (got q ∙ cond-false _ _ _ (key_off q t off)))

    numbers : (q : ℕ) → is_open opened q ≡ true → q < 2 ^ 32
    numbers q opens = by_same q t
        (λ e. omega (arith, e, low))
        (λ off. ready.numbers q (sym (ap (λ (o : Option Transaction). is_some o) (got q ∙ cond-false _ _ _ (key_off q t off))) ∙ opens))

-- ---- what is weighed

pub weighed_still : (view : SessionView) (opened : OpenView) → IsSame view.opened opened → (t : ℕ) (number : Option ℕ) (size : ℕ) → weighed (with_opened view opened) t number size ≡ weighed view t number size
weighed_still view opened same t number size =
    λ i. weighed (with_opened view (record { transactions = same.transactions i; since = same.since i; since_of = same.since_of i; room = opened.room })) t number size
