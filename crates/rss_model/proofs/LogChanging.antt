-- What changes leave.
use Rattle.std.proofs.Common.{◌≡◌, List, [], ◌∷◌, refl, sym, ◌∙◌, ap, subst}
use Rattle.std.specs.Prelude.{Bool, true, false, if◌then◌else◌, Option, Some, None}
use Rattle.std.specs.Ordering.{eq_by_cmp}
use Rattle.std.specs.Cmp.{Equal-is}
use Rattle.std.specs.List.{AllByRecursion}
use Rattle.std.specs.FinMap.{get-insert, get-remove, same_map}
use Rattle.rss_base.specs.declared.item.Item.{Item}
use Rattle.rss_model.specs.Items.{Content, item_cmp}
use Rattle.rss_model.specs.Tables.{Contents, content, put}
use Rattle.rss_model.specs.Changes.{Change, after}
use Rattle.rss_model.proofs.Codes.{item_total, item_apart}
use Rattle.rss_model.proofs.Contents.{tied, not_tied}
use Rattle.rss_model.specs.Changes.{undone}
use Rattle.rss_model.specs.Restart.{UndoFinds}
use Rattle.rss_model.specs.Changes.{Chained}
use Rattle.rss_model.proofs.LogLists.{by_test}

-- ---- one item

abbrev pub is_item : Item → Item → Bool
is_item a b = eq_by_cmp item_cmp a b

pub item_true : (a b : Item) → a ≡ b → is_item a b ≡ true
item_true a b e = subst (λ (i : Item). is_item a i ≡ true) e (tied item_total item_apart a)

pub item_false : (a b : Item) → (a ≡ b → ⊥) → is_item a b ≡ false
item_false a b other = not_tied item_total item_apart a b other

pub by_item : {G : Type 0} (a b : Item) → (a ≡ b → G) → ((a ≡ b → ⊥) → G) → G
by_item a b same other = by_test (is_item a b)
    (λ e. same (item_apart a b ((Equal-is (item_cmp a b)).0 e)))
    (λ e. other (λ is. clash (sym (item_true a b is) ∙ e)))
  where
    clash : true ≡ false → ⊥
    clash e = cc (e)

pub content-put : (c : Contents) (item : Item) (x : Option Content) (i : Item) → content (put c item x) i ≡ (if is_item i item then x else content c i)
unfolding put
content-put c item None i = get-remove item_total c item i
content-put c item (Some x) i = get-insert item_total c item x i

pub same_contents : (c d : Contents) → ((i : Item) → content c i ≡ content d i) → c ≡ d
same_contents c d same = same_map item_total item_apart c d same

pub put_here : (c : Contents) (item i : Item) (x : Option Content) → i ≡ item → content (put c item x) i ≡ x
put_here c item i x is = content-put c item x i ∙ rw (item_true i item is)

pub put_other : (c : Contents) (item i : Item) (x : Option Content) → (i ≡ item → ⊥) → content (put c item x) i ≡ content c i
put_other c item i x other = content-put c item x i ∙ rw (item_false i item other)

-- as it was, where the content is put there that stood there
pub put_back : (c : Contents) (item : Item) (x : Option Content) → x ≡ content c item → put c item x ≡ c
put_back c item x is = same_contents _ _ (λ i. by_item i item (λ e. put_here c item i x e ∙ is ∙ ap (content c) (sym e)) (λ e. put_other c item i x e))

-- the last one wins
pub put_twice : (c : Contents) (item : Item) (x y : Option Content) → put (put c item x) item y ≡ put c item y
put_twice c item x y = same_contents _ _ (λ i. by_item i item
    (λ e. put_here (put c item x) item i y e ∙ sym (put_here c item i y e))
    (λ e. put_other (put c item x) item i y e ∙ put_other c item i x e ∙ sym (put_other c item i y e)))

-- changes of different items commute
pub put_both : (c : Contents) (a b : Item) (x y : Option Content) → (a ≡ b → ⊥) → put (put c a x) b y ≡ put (put c b y) a x
put_both c a b x y apart = same_contents _ _ (λ i. by_item i a
    (λ e. let off : i ≡ b → ⊥ = λ f. apart (sym e ∙ f) in
    put_other (put c a x) b i y off ∙ put_here c a i x e ∙ sym (put_here (put c b y) a i x e))
    (λ e. by_item i b
    (λ f. put_here (put c a x) b i y f ∙ sym (put_other (put c b y) a i x e ∙ put_here c b i y f))
    (λ f. put_other (put c a x) b i y f ∙ put_other c a i x e ∙ sym (put_other (put c b y) a i x e ∙ put_other c b i y f))))

-- ---- lists of changes

abbrev pub NotAt : Item → List Change → Type 0
NotAt item cs = AllByRecursion (λ c. c.item ≡ item → ⊥) cs

-- what is off an item leaves it
pub after_off : (base : Contents) (i : Item) (cs : List Change) → NotAt i cs → content (after base cs) i ≡ content base i
after_off base i [] off = refl
after_off base i (c ∷ cs) off = put_other (after base cs) c.item i c.new (λ e. off.0 (sym e)) ∙ after_off base i cs off.1

-- an item stands where it stood alike
pub after_frame : (a b : Contents) (cs : List Change) (i : Item) → content a i ≡ content b i → content (after a cs) i ≡ content (after b cs) i
after_frame a b [] i same = same
after_frame a b (c ∷ cs) i same = by_item i c.item
    (λ e. put_here (after a cs) c.item i c.new e ∙ sym (put_here (after b cs) c.item i c.new e))
    (λ e. put_other (after a cs) c.item i c.new e ∙ after_frame a b cs i same ∙ sym (put_other (after b cs) c.item i c.new e))

pub undone_off : (contents : Contents) (item : Item) (x : Option Content) (cs : List Change) → NotAt item cs → undone (put contents item x) cs ≡ put (undone contents cs) item x
undone_off contents item x [] off = refl
undone_off contents item x (c ∷ cs) off = ap (λ (k : Contents). undone k cs) (put_both contents item c.item x c.old (λ e. off.0 (sym e))) ∙ undone_off (put contents c.item c.old) item x cs off.1

-- one change undone
pub undo_one : (base : Contents) (c : Change) (cs : List Change) → c.old ≡ content (after base cs) c.item → put (after base (c ∷ cs)) c.item c.old ≡ after base cs
undo_one base c cs is = put_twice (after base cs) c.item c.new c.old ∙ put_back (after base cs) c.item c.old is

-- ---- all changes undone

-- from the committed tables on
pub undo_all : (base : Contents) (cs : List Change) → Chained base cs → undone (after base cs) cs ≡ base
undo_all base [] chained = refl
undo_all base (c ∷ cs) chained = ap (λ (k : Contents). undone k cs) (undo_one base c cs chained.0) ∙ undo_all base cs chained.1

pub finds_all : (base : Contents) (cs : List Change) → Chained base cs → UndoFinds (after base cs) cs
finds_all base [] chained = tt
finds_all base (c ∷ cs) chained = (put_here (after base cs) c.item c.item c.new refl, subst (λ (k : Contents). UndoFinds k cs) (sym (undo_one base c cs chained.0)) (finds_all base cs chained.1))

-- and back, from tables on which each undo finds the new content
pub after_undone : (tables : Contents) (cs : List Change) → UndoFinds tables cs → after (undone tables cs) cs ≡ tables
after_undone tables [] finds = refl
after_undone tables (c ∷ cs) finds = ap (λ (k : Contents). put k c.item c.new) (after_undone (put tables c.item c.old) cs finds.1) ∙ put_twice tables c.item c.old c.new ∙ put_back tables c.item c.new (sym finds.0)

pub chained_undone : (tables : Contents) (cs : List Change) → UndoFinds tables cs → Chained (undone tables cs) cs
chained_undone tables [] finds = tt
chained_undone tables (c ∷ cs) finds = (
  sym (ap (λ (k : Contents). content k c.item) (after_undone (put tables c.item c.old) cs finds.1) ∙ put_here tables c.item c.item c.old refl),
  chained_undone (put tables c.item c.old) cs finds.1,
)
