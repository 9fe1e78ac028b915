-- The list of an image: it has each tuple, and where no pair repeats the key before it, no key is there twice.
use Rattle.std.proofs.Common.{◌≡◌, ℕ, inl, ⊎_elim, Bool, true, false, List, [], ◌∷◌, refl, sym, ◌∙◌, ap, subst}
use Rattle.std.specs.Prelude.{ℤ, pos, Option, Some, None, is_some, if◌then◌else◌, flat_map, ⊤, ◌&&◌, map as list_map}
use Rattle.std.specs.Ordering.{nat_cmp, int_cmp, eq_by_cmp, is_eq, is_lt, ordering_then}
use Rattle.std.specs.Cmp.{IsTotalOrder, Equal-is, int_cmp_total, nat_cmp_total, on_total, then_total}
use Rattle.std.specs.Cmp.Lexicographic.{slice_cmp, lists_total, nat_list_cmp_total}
use Rattle.std.specs.FinMap as finite
use Rattle.std.specs.FinMap.{FinMap, IsAntisymmetric, nat_cmp-IsAntisymmetric, get-from_entries, entries_sorted, is_sorted}
use Rattle.std.specs.FinMap.Entries.{find, below_all}
use Rattle.std.specs.declared.cmp.Ordering.{Ordering}
use Rattle.std.specs.declared.cmp.Ordering.TheVariants.{Less, Equal, Greater}
use Rattle.std.proofs.Math.Dec.{T}
use Rattle.rss_base.specs.Trees.{tid_cmp}
use Rattle.rss_base.specs.TupleTypes.{value_cmp, values_cmp}
use Rattle.rss_base.specs.declared.name.Name.{Name}
use Rattle.rss_base.specs.declared.tid.Tid.{Tid}
use Rattle.rss_base.specs.declared.value.Value.{Value}
use Rattle.rss_base.specs.declared.value.Value.TheVariants.{Int, Text, Undefined}
use Rattle.rss_base.specs.declared.item.Item.{Item}
use Rattle.rss_base.specs.declared.item.Item.TheVariants.{Tuple}
use Rattle.rss_model.specs.Items.{Content, Values, is_name}
use Rattle.rss_model.specs.Tables.{ImageDef, Tables, content, fields_in}
use Rattle.rss_model.specs.Images.{Entry, entry, entry_cmp, entry_of, entries_by, image_list, is_key, key_in, key_of, repeated_behind, repeated}
use Rattle.rss_model.proofs.Codes.{name_total, name_apart, item_apart, same_tid}
use Rattle.rss_model.proofs.Contents.{tied}
use Rattle.rss_model.proofs.LogLists.{by_test, false_true}
use Rattle.rss_model.proofs.Locking.{in_entries, in_keys}
use Rattle.rss_model.proofs.Mixing.{In}
use Rattle.rss_model.proofs.Testing.{in_flat}
use Rattle.rss_model.proofs.Viewing.{same_key}

-- ---- the order of entries

-- by what a value is, and then by the number or the text that it has
rank : Value → ℕ
rank Undefined = 0
rank (Int a) = 1
rank (Text b) = 2

number_of : Value → ℤ
number_of Undefined = pos 0
number_of (Int a) = a
number_of (Text b) = pos 0

text_of : Value → List ℕ
text_of Undefined = []
text_of (Int a) = []
text_of (Text b) = b

ranked_cmp : Value → Value → Ordering
ranked_cmp x y =
    ordering_then (nat_cmp (rank x) (rank y))
    (ordering_then (int_cmp (number_of x) (number_of y)) (slice_cmp nat_cmp (text_of x) (text_of y)))

ranked_is : (x y : Value) → ranked_cmp x y ≡ value_cmp x y
unfolding ranked_cmp rank number_of text_of
ranked_is Undefined Undefined = refl
ranked_is Undefined (Int b) = refl
ranked_is Undefined (Text b) = refl
ranked_is (Int a) Undefined = refl
ranked_is (Int a) (Int b) = last (int_cmp a b)
  where
    last : (o : Ordering) → ordering_then o Equal ≡ o
    last Less = refl
    last Equal = refl
    last Greater = refl
ranked_is (Int a) (Text b) = refl
ranked_is (Text a) Undefined = refl
ranked_is (Text a) (Int b) = refl
ranked_is (Text a) (Text b) = refl

ranked_total : IsTotalOrder ranked_cmp
unfolding ranked_cmp
ranked_total = then_total (on_total rank nat_cmp_total)
    (then_total (on_total number_of int_cmp_total) (on_total text_of nat_list_cmp_total))

values_of_total : IsTotalOrder value_cmp
values_of_total = subst IsTotalOrder (λ i x y. ranked_is x y i) ranked_total

pub values_total : IsTotalOrder values_cmp
values_total = lists_total values_of_total

tid_total : IsTotalOrder tid_cmp
tid_total = then_total (on_total (λ (t : Tid). t.page) nat_cmp_total) (on_total (λ (t : Tid). t.slot) nat_cmp_total)

pub entry_total : IsTotalOrder entry_cmp
entry_total = then_total (on_total (λ (e : Entry). e.key) values_total) (on_total (λ (e : Entry). e.tid) tid_total)

then_equal : (a b : Ordering) → ordering_then a b ≡ Equal → (a ≡ Equal) × (b ≡ Equal)
then_equal Less b is = absurd (cc (is))
then_equal Equal b is = (refl, is)
then_equal Greater b is = absurd (cc (is))

pub entry_apart : IsAntisymmetric entry_cmp
entry_apart a b tie =
    let parts = then_equal _ _ tie in
    let ids = then_equal (nat_cmp a.tid.page b.tid.page) (nat_cmp a.tid.slot b.tid.slot) parts.1 in
    let keys : a.key ≡ b.key = same_key a.key b.key (ap is_eq parts.0) in
    let tids : a.tid ≡ b.tid = same_tid a.tid b.tid (nat_cmp-IsAntisymmetric a.tid.page b.tid.page ids.0) (nat_cmp-IsAntisymmetric a.tid.slot b.tid.slot ids.1) in
    λ i. record { key = keys i; tid = tids i }

-- ---- it has each tuple

pub found_in : {K V : Type 0} {R : K → K → Ordering} → IsTotalOrder R → IsAntisymmetric R → (es : List (K × V)) (q : K) (v : V) → In (q, v) es → is_some (find R q es) ≡ true
found_in total apart [] q v is = absurd is
found_in {R = R} total apart (e ∷ es) q v is = by_test (eq_by_cmp R q e.0)
    (λ t. rw t refl)
    (λ t. ⊎_elim (λ f. false_true (subst (λ (k : _). eq_by_cmp R q k ≡ true) (sym (ap (λ (p : _ × _). p.0) f)) (tied total apart q)) t) (λ i. rw t (found_in total apart es q v i)) is)

module _ (tables : Tables) (relation : Name) (names : List Name) where
  abbrev pub given : Item × Content → List (Entry × ⊤)
  given held = entry_of relation (fields_in tables.definitions relation) names held.0 held.1

  abbrev pub the_map : FinMap entry_cmp ⊤
  the_map = finite.from_entries {R = entry_cmp} (flat_map given (finite.entries tables.contents))

  pub listed : (tid : Tid) (values : List Value) → content tables.contents (Tuple relation tid) ≡ Some (Values values) → In (entry (key_of (fields_in tables.definitions relation) names values) tid) (entries_by tables relation names)
  listed tid values there =
      let its = entry (key_of (fields_in tables.definitions relation) names values) tid in
      let named : is_name relation relation ≡ true = tied name_total name_apart relation in
      let one : In (its, tt) (given (Tuple relation tid, Values values)) = rw named (inl refl) in
      let some = found_in entry_total entry_apart (flat_map given (finite.entries tables.contents)) its tt (in_flat given (finite.entries tables.contents) (Tuple relation tid, Values values) (its, tt) (in_entries item_apart tables.contents (Tuple relation tid) (Values values) there) one) in
      let got : finite.get the_map its ≡ Some tt = get-from_entries entry_total (flat_map given (finite.entries tables.contents)) its ∙ only (find entry_cmp its (flat_map given (finite.entries tables.contents))) some in
      in_keys (finite.entries the_map) its tt (in_entries entry_apart the_map its tt got)
    where
      only : (o : Option ⊤) → is_some o ≡ true → o ≡ Some tt
      only None is = absurd (cc (is))
      only (Some tt) is = refl

-- ---- no key is there twice

pub T_parts : (a b : Bool) → T (a && b) → T a × T b
T_parts true b t = (tt, t)
T_parts false b t = absurd t

pub lt_less : (o : Ordering) → T (is_lt o) → o ≡ Less
lt_less Less t = refl
lt_less Equal t = absurd t
lt_less Greater t = absurd t

then_less : (a b : Ordering) → ordering_then a b ≡ Less → is_eq a ≡ false → a ≡ Less
then_less Less b is off = refl
then_less Equal b is off = absurd (cc (off))
then_less Greater b is off = is

none_behind : (b : Bool) (o : Option Tid) (t : Tid) → (if b then Some t else o) ≡ None → (b ≡ false) × (o ≡ None)
none_behind true o t is = absurd (cc (is))
none_behind false o t is = (refl, is)

keys_rise : (e : Entry) (es : List (Entry × ⊤)) → T (below_all entry_cmp e es) → T (is_sorted entry_cmp es) → repeated_behind e.key (list_map (λ p. p.0) es) ≡ None → (f : Entry) → In f (list_map (λ p. p.0) es) → values_cmp e.key f.key ≡ Less
keys_rise e [] below sorted none f is = absurd is
keys_rise e (g ∷ es) below sorted none f is =
    let off = none_behind (is_key e.key g.0.key) _ g.0.tid none in
    let first : values_cmp e.key g.0.key ≡ Less = then_less _ _ (lt_less _ (T_parts _ _ below).0) off.0 in
    ⊎_elim (λ same. subst (λ (h : Entry). values_cmp e.key h.key ≡ Less) same first)
    (λ i. values_total.trans e.key g.0.key f.key first (keys_rise g.0 es (T_parts _ _ sorted).0 (T_parts _ _ sorted).1 off.1 f i)) is

pub keys_once : (es : List (Entry × ⊤)) → T (is_sorted entry_cmp es) → repeated (list_map (λ p. p.0) es) ≡ None → (e f : Entry) → In e (list_map (λ p. p.0) es) → In f (list_map (λ p. p.0) es) → e.key ≡ f.key → e ≡ f
keys_once [] sorted none e f e_in f_in same = absurd e_in
keys_once (g ∷ es) sorted none e f e_in f_in same =
    let parts = T_parts _ _ sorted in
    let rise = keys_rise g.0 es parts.0 parts.1 none in
    ⊎_elim
    (λ a. ⊎_elim (λ b. sym a ∙ b) (λ b. absurd (not_less g.0 f (ap (λ (h : Entry). h.key) a ∙ same) (rise f b))) f_in)
    (λ a. ⊎_elim (λ b. absurd (not_less g.0 e (ap (λ (h : Entry). h.key) b ∙ sym same) (rise e a))) (λ b. keys_once es parts.1 (later es none) e f a b same) f_in)
    e_in
  where
    not_less : (a b : Entry) → a.key ≡ b.key → values_cmp a.key b.key ≡ Less → ⊥
    not_less a b same less = unlike (sym (ap (values_cmp a.key) same ∙ less) ∙ (Equal-is (values_cmp a.key a.key)).0 (tied values_total (λ x y t. same_key x y (ap is_eq t)) a.key))
      where
        unlike : Less ≡ Equal → ⊥
        unlike e = cc (e)

    later : (es : List (Entry × ⊤)) → repeated (list_map (λ p. p.0) (g ∷ es)) ≡ None → repeated (list_map (λ p. p.0) es) ≡ None
    later [] is = refl
    later (h ∷ es) is = (none_behind (is_key g.0.key h.0.key) _ h.0.tid is).1

-- of an image
pub image_once : (tables : Tables) (image : ImageDef) → repeated (image_list tables image) ≡ None → (one other : Tid) (v w : List Value)
    → content tables.contents (Tuple image.relation one) ≡ Some (Values v) → content tables.contents (Tuple image.relation other) ≡ Some (Values w) → key_in tables.definitions image v ≡ key_in tables.definitions image w → one ≡ other
image_once tables image none one other v w first second same =
    ap (λ (e : Entry). e.tid) (keys_once (finite.entries (the_map tables image.relation image.fields)) (entries_sorted (the_map tables image.relation image.fields)) none
    (entry (key_in tables.definitions image v) one) (entry (key_in tables.definitions image w) other) (listed tables image.relation image.fields one v first) (listed tables image.relation image.fields other w second) same)
