-- Two items are the same exactly where `==` says so, and so are two values and two names.
use Rattle.std.proofs.Common.{◌≡◌, Bool, true, false, ◌&&◌, refl, sym, ap}
use Rattle.std.specs.Bool.{Decides}
use Rattle.std.specs.Cmp.{IsEquivalence, decided, signed_Decides, unsigned_Decides, first_so, second_so}
use Rattle.std.specs.Cmp.Lexicographic.{pointwise, pointwise_decides, bytes_decides}
use Rattle.std.specs.Option.{option_eq}
use Rattle.std.specs.Prelude.{nat_eq, Option, Some, None}
use Rattle.rss_base.specs.declared.name.Name.{Name}
use Rattle.rss_base.specs.declared.tid.Tid.{Tid}
use Rattle.rss_base.specs.declared.value.Value.{Value}
use Rattle.rss_base.specs.declared.value.Value.TheVariants.{Int, Text, Undefined}
use Rattle.rss_base.specs.declared.item.Item.{Item}
use Rattle.rss_base.specs.declared.item.Item.TheVariants.{Segment, Relation, Tuple, Chain, Key}
use Rattle.rss_base.specs.contracts.value.ValuePartialEq.TheImpl as value_eq
use Rattle.rss_base.specs.Items.{same_item}
use mathlib.Core.Bool.{true≢false}

abbrev pub same_value : Value → Value → Bool
same_value = (value_eq.ghosts).eq

abbrev pub same_name : Name → Name → Bool
same_name a b = pointwise nat_eq a.bytes b.bytes

abbrev pub same_tid : Tid → Tid → Bool
same_tid s t = nat_eq s.page t.page && nat_eq s.slot t.slot

refuted : {A : Type 0} → false ≡ true → A
refuted e = absurd (true≢false (sym e))

both : (a b : Bool) → a ≡ true → b ≡ true → a && b ≡ true
both true b p q = q
both false b p q = refuted p

pub value_decides : (x y : Value) → Decides (same_value x y) (x ≡ y)
value_decides (Int a) (Int b) = (λ e. ap Int ((signed_Decides a b).0 e), λ e. (signed_Decides a b).1 (cc))
value_decides (Text a) (Text b) = (λ e. ap Text ((bytes_decides a b).0 e), λ e. (bytes_decides a b).1 (cc))
value_decides (Int a) (Text b) = (λ e. refuted e, λ e. absurd (cc))
value_decides (Text a) (Int b) = (λ e. refuted e, λ e. absurd (cc))
value_decides Undefined Undefined = (λ e. refl, λ e. refl)
value_decides Undefined (Int b) = (λ e. refuted e, λ e. absurd (cc))
value_decides Undefined (Text b) = (λ e. refuted e, λ e. absurd (cc))
value_decides (Int a) Undefined = (λ e. refuted e, λ e. absurd (cc))
value_decides (Text a) Undefined = (λ e. refuted e, λ e. absurd (cc))

pub name_decides : (x y : Name) → Decides (same_name x y) (x ≡ y)
name_decides x y = (λ e i. record { bytes = (bytes_decides x.bytes y.bytes).0 e i }, λ e. (bytes_decides x.bytes y.bytes).1 (ap (λ (n : Name). n.bytes) e))

pub tid_decides : (s t : Tid) → Decides (same_tid s t) (s ≡ t)
tid_decides s t = (
  λ e i. record {
    page = (unsigned_Decides s.page t.page).0 (first_so (nat_eq s.page t.page) (nat_eq s.slot t.slot) e) i;
    slot = (unsigned_Decides s.slot t.slot).0 (second_so (nat_eq s.page t.page) (nat_eq s.slot t.slot) e) i;
  },
  λ e. both (nat_eq s.page t.page) (nat_eq s.slot t.slot) ((unsigned_Decides s.page t.page).1 (ap (λ (u : Tid). u.page) e)) ((unsigned_Decides s.slot t.slot).1 (ap (λ (u : Tid). u.slot) e)),
)

parent_decides : (p q : Option Tid) → Decides (option_eq same_tid p q) (p ≡ q)
parent_decides None None = (λ e. refl, λ e. refl)
parent_decides (Some s) (Some t) = (λ e. ap Some ((tid_decides s t).0 e), λ e. (tid_decides s t).1 (cc))
parent_decides None (Some t) = (λ e. refuted e, λ e. absurd (cc))
parent_decides (Some s) None = (λ e. refuted e, λ e. absurd (cc))

-- a name and something else, each by its test
pair_decides : {B C : Type 0} (make : Name → B → C) (E : B → B → Bool) → ((x y : B) → Decides (E x y) (x ≡ y)) → ((m n : Name) (x y : B) → make m x ≡ make n y → (m ≡ n) × (x ≡ y)) → (m n : Name) (x y : B) → Decides (same_name m n && E x y) (make m x ≡ make n y)
pair_decides make E decides split m n x y = (
  λ e i. make ((name_decides m n).0 (first_so (same_name m n) (E x y) e) i) ((decides x y).0 (second_so (same_name m n) (E x y) e) i),
  λ e. let parts = split m n x y e in both (same_name m n) (E x y) ((name_decides m n).1 parts.0) ((decides x y).1 parts.1),
)

pub item_decides : (x y : Item) → Decides (same_item x y) (x ≡ y)
item_decides (Segment m) (Segment n) = (λ e. ap Segment ((name_decides m n).0 e), λ e. (name_decides m n).1 (cc))
item_decides (Relation m) (Relation n) = (λ e. ap Relation ((name_decides m n).0 e), λ e. (name_decides m n).1 (cc))
item_decides (Tuple m s) (Tuple n t) = pair_decides Tuple same_tid tid_decides (λ m n s t e. (cc, cc)) m n s t
item_decides (Chain m p) (Chain n q) = pair_decides Chain (option_eq same_tid) parent_decides (λ m n p q e. (cc, cc)) m n p q
item_decides (Key m vs) (Key n ws) = pair_decides Key (pointwise same_value) (pointwise_decides value_decides) (λ m n vs ws e. (cc, cc)) m n vs ws
item_decides (Segment m) (Relation n) = (λ e. refuted e, λ e. absurd (cc))
item_decides (Segment m) (Tuple n t) = (λ e. refuted e, λ e. absurd (cc))
item_decides (Segment m) (Chain n q) = (λ e. refuted e, λ e. absurd (cc))
item_decides (Segment m) (Key n ws) = (λ e. refuted e, λ e. absurd (cc))
item_decides (Relation m) (Segment n) = (λ e. refuted e, λ e. absurd (cc))
item_decides (Relation m) (Tuple n t) = (λ e. refuted e, λ e. absurd (cc))
item_decides (Relation m) (Chain n q) = (λ e. refuted e, λ e. absurd (cc))
item_decides (Relation m) (Key n ws) = (λ e. refuted e, λ e. absurd (cc))
item_decides (Tuple m s) (Segment n) = (λ e. refuted e, λ e. absurd (cc))
item_decides (Tuple m s) (Relation n) = (λ e. refuted e, λ e. absurd (cc))
item_decides (Tuple m s) (Chain n q) = (λ e. refuted e, λ e. absurd (cc))
item_decides (Tuple m s) (Key n ws) = (λ e. refuted e, λ e. absurd (cc))
item_decides (Chain m p) (Segment n) = (λ e. refuted e, λ e. absurd (cc))
item_decides (Chain m p) (Relation n) = (λ e. refuted e, λ e. absurd (cc))
item_decides (Chain m p) (Tuple n t) = (λ e. refuted e, λ e. absurd (cc))
item_decides (Chain m p) (Key n ws) = (λ e. refuted e, λ e. absurd (cc))
item_decides (Key m vs) (Segment n) = (λ e. refuted e, λ e. absurd (cc))
item_decides (Key m vs) (Relation n) = (λ e. refuted e, λ e. absurd (cc))
item_decides (Key m vs) (Tuple n t) = (λ e. refuted e, λ e. absurd (cc))
item_decides (Key m vs) (Chain n q) = (λ e. refuted e, λ e. absurd (cc))

pub same_item-laws : IsEquivalence same_item
same_item-laws = decided same_item item_decides
