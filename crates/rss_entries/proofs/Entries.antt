-- What the entry of a tuple says of its key's pair, before a move and after it.
use Rattle.std.proofs.Common.{◌≡◌, ◌≢◌, ◌+◌, ◌-◌, ◌/◌, ◌<◌, ◌≤◌, ℕ, Bool, true, List, [], ◌∷◌, length, Option, Some, None, refl, sym, ◌∙◌, ap, subst, arith}
use Rattle.std.specs.Prelude.{IfSome, option_map}
use Rattle.std.proofs.Math.Nat.{div-mul-le_self}
use Rattle.std.proofs.lemmas.Nat.{le-div}
use Rattle.std.proofs.lemmas.List.{append_cancel_right, length-append}
use Rattle.std.proofs.lemmas.List.Sums.{sum_by-cons}
use Rattle.rss_base.specs.LogRecords.{tid_bytes}
use Rattle.rss_base.specs.Steps.{PagesView}
use Rattle.rss_base.specs.TupleTypes.{key_width, key_bytes, key_part_width, SpellsSome, IsKeyOf}
use Rattle.rss_base.specs.declared.tid.Tid.{Tid}
use Rattle.rss_base.specs.declared.value.Value.{Value}
use Rattle.rss_base.specs.declared.value.FieldForm.{FieldForm}
use Rattle.rss_base.specs.Entries.{IsLess}
use Rattle.rss_base.specs.Nodes.{node_least}
use Rattle.rss_levels.specs.Entries.{Pairwise}
use Rattle.rss_value.proofs.Fitting.{AllFit, fitting}
use Rattle.rss_value.proofs.KeyOrders.{form_part, length-key_part}
use Rattle.rss_node.specs.Pairs.{pair_bytes}
use Rattle.rss_image.specs.Images.{nodes_of, ImageTree, pages_of, pairs_most, page_bound, HasSpare, Becomes, Shrinks, CutsMade}
use Rattle.rss_image.specs.declared.image.Image.{Image}
use Rattle.rss_image.proofs.Halves.{many}
use Rattle.rss_image.proofs.Others.{pairs_rise}
use Rattle.rss_image.proofs.Putting.{spell_one}
use Rattle.rss_entries.specs.Moving.{KeyKinds, AreSpelled, HoldsEntry, MayMove, MovesEntry, MakesEntry, moved_pairs, pair_with}
use Rattle.rss_entries.specs.Keyed.{key_with, HasKey, LacksKey, MayCutKey, MayPutKey, without_key, with_key, CutsKey, PutsKey, MakesKey}
use Rattle.rss_entries.proofs.Composed.{becomes_itself, becomes_then}
use Rattle.rss_entries.proofs.Swaps.{stands_in, swap, less_each, less_long}

-- ---- the key's bytes

length-key_bytes : (fields : List FieldForm) (values : List Value) → AllFit fields values → length (key_bytes fields values) ≡ key_width fields
length-key_bytes [] [] all = refl
length-key_bytes [] (v ∷ values) all = absurd all
length-key_bytes (f ∷ fields) [] all = absurd all
length-key_bytes (f ∷ fields) (v ∷ values) all =
    length-append (form_part f v) (key_bytes fields values) ∙ ap (λ (n : ℕ). n + length (key_bytes fields values)) (length-key_part f v all.0)
    ∙ ap (λ (n : ℕ). key_part_width f + n) (length-key_bytes fields values all.1) ∙ sym (sum_by-cons key_part_width f fields)

pub length-key : (fields : List FieldForm) (values : List Value) (key : List ℕ) → IsKeyOf fields values key → length key ≡ key_width fields
length-key fields values key is = ap length is.same ∙ length-key_bytes fields values (fitting 1 fields values is.fit)

-- some values have the bytes
pub record HasValues (fields : List FieldForm) (bytes : Option (List ℕ)) : Type 0 where
  pub values : Option (List Value)
  pub are : AreSpelled fields bytes values

pub has_values : (fields : List FieldForm) (bytes : Option (List ℕ)) → IfSome bytes (SpellsSome fields) → HasValues fields bytes
has_values fields None some = record { values = None; are = tt }
has_values fields (Some bytes) some = record { values = Some some.0; are = some.1 }

-- ---- the entry's pair

-- the key of some values, if there are any
abbrev pub keyed : KeyKinds → Option (List Value) → Option (List ℕ)
keyed key values = option_map (key_with key) values

keyed_there : (key : KeyKinds) (tid : Tid) (was : Option (List Value)) (pairs : List (List ℕ)) → HoldsEntry key tid was pairs → HasKey (keyed key was) tid pairs
keyed_there key tid None pairs holds = tt
keyed_there key tid (Some values) pairs holds = holds.there

keyed_lacks : (key : KeyKinds) (tid : Tid) (was next : Option (List Value)) (pairs : List (List ℕ)) → HoldsEntry key tid was pairs → keyed key was ≢ keyed key next
    → LacksKey (keyed key next) tid (without_key (keyed key was) tid pairs)
keyed_lacks key tid was None pairs holds other = tt
keyed_lacks key tid None (Some values) pairs holds other = holds.none refl values
keyed_lacks key tid (Some old) (Some values) pairs holds other =
    less_each (λ p. p ≢ pair_with key tid values) (pair_with key tid old) pairs (holds.other old values refl (λ same. other (ap Some (append_cancel_right (key_with key old) (key_with key values) (tid_bytes tid) same))))

keyed_moved : (key : KeyKinds) (tid : Tid) (was next : Option (List Value)) (pairs : List (List ℕ)) → with_key (keyed key next) tid (without_key (keyed key was) tid pairs) ≡ moved_pairs key tid was next pairs
keyed_moved key tid None None pairs = refl
keyed_moved key tid None (Some values) pairs = refl
keyed_moved key tid (Some old) None pairs = refl
keyed_moved key tid (Some old) (Some values) pairs = refl

-- the pair of a key that is out is put in again
put_again : (key : Option (List ℕ)) (tid : Tid) (pairs : List (List ℕ)) → Pairwise IsLess pairs → HasKey key tid pairs → with_key key tid (without_key key tid pairs) ≡ pairs
put_again None tid pairs rises has = refl
put_again (Some bytes) tid pairs rises has = swap (pair_bytes bytes tid) pairs rises (stands_in pairs (pair_bytes bytes tid) has)

fewer : (key : Option (List ℕ)) (tid : Tid) (pairs : List (List ℕ)) → length (without_key key tid pairs) ≤ length pairs
fewer None tid pairs = omega arith
fewer (Some bytes) tid pairs = less_long (pair_bytes bytes tid) pairs

-- a list that is no longer needs no more pages
bound_upto : (width a b : ℕ) → width ≤ 120 → a ≤ b → page_bound width a ≤ page_bound width b
bound_upto width a b narrow upto =
    let room = many width narrow in
    let some : 0 < node_least width - 1 = omega (arith, room) in
    let part = div-mul-le_self a (node_least width - 1) in
    let upto_b : a / (node_least width - 1) ≤ b / (node_least width - 1) = le-div (a / (node_least width - 1)) b (node_least width - 1) some (omega (arith, part, upto)) in
    omega (arith, upto_b)

if_cut : (key : Option (List ℕ)) (tid : Tid) (image : Image) (pages : PagesView) (pairs : List (List ℕ)) → ImageTree image pages.held pairs → HasKey key tid pairs → MayCutKey key tid image pages
if_cut None tid image pages pairs tree has = tt
if_cut (Some bytes) tid image pages pairs tree has = record { pairs = pairs; tree = tree; there = has }

if_put : (key : Option (List ℕ)) (tid : Tid) (image : Image) (pages : PagesView) (pairs : List (List ℕ)) → ImageTree image pages.held pairs → LacksKey key tid pairs → length pairs ≤ pairs_most → MayPutKey key tid image pages
if_put None tid image pages pairs tree lacks few = tt
if_put (Some bytes) tid image pages pairs tree lacks few = record { pairs = pairs; tree = tree; absent = lacks; few = few }

-- ---- a move

module _ (key : KeyKinds) (tid : Tid) (was next : Option (List Value)) (old_key new_key : Option (List ℕ)) (old_is : old_key ≡ keyed key was) (new_is : new_key ≡ keyed key next) where
  has_key : (pairs : List (List ℕ)) → HoldsEntry key tid was pairs → HasKey old_key tid pairs
  has_key pairs holds = subst (λ (k : Option (List ℕ)). HasKey k tid pairs) (sym old_is) (keyed_there key tid was pairs holds)

  lacks_key : (pairs : List (List ℕ)) → HoldsEntry key tid was pairs → old_key ≢ new_key → LacksKey new_key tid (without_key old_key tid pairs)
  lacks_key pairs holds other =
      subst (λ (k : Option (List ℕ)). LacksKey k tid (without_key old_key tid pairs)) (sym new_is)
      (subst (λ (k : Option (List ℕ)). LacksKey (keyed key next) tid (without_key k tid pairs)) (sym old_is)
      (keyed_lacks key tid was next pairs holds (λ same. other (old_is ∙ same ∙ sym new_is))))

  moved : (pairs : List (List ℕ)) → with_key new_key tid (without_key old_key tid pairs) ≡ moved_pairs key tid was next pairs
  moved pairs =
      ap (λ (k : Option (List ℕ)). with_key k tid (without_key old_key tid pairs)) new_is
      ∙ ap (λ (k : Option (List ℕ)). with_key (keyed key next) tid (without_key k tid pairs)) old_is
      ∙ keyed_moved key tid was next pairs

  -- the new key's pair is that of the new values
  fine_key : (good : List ℕ → Bool) → IfSome next (λ values. good (pair_with key tid values) ≡ true) → IfSome new_key (λ bytes. good (pair_bytes bytes tid) ≡ true)
  fine_key good fine = subst (λ (k : Option (List ℕ)). IfSome k (λ bytes. good (pair_bytes bytes tid) ≡ true)) (sym new_is) (by next fine)
    where
      by : (values : Option (List Value)) → IfSome values (λ values. good (pair_with key tid values) ≡ true) → IfSome (keyed key values) (λ bytes. good (pair_bytes bytes tid) ≡ true)
      by None fine = tt
      by (Some values) fine = fine

  -- where the key stays
  pub moves_none : (image : Image) (view : PagesView) → old_key ≡ new_key → MovesEntry key tid was next image image view view
  moves_none image view same pairs tree holds =
      let again : pairs ≡ moved_pairs key tid was next pairs =
      sym (put_again old_key tid pairs (pairs_rise tree) (has_key pairs holds))
      ∙ ap (λ (k : Option (List ℕ)). with_key k tid (without_key old_key tid pairs)) same ∙ moved pairs in
      subst (Becomes image image view view (pages_of tree)) again (becomes_itself image view pairs tree)

  pub may_cut : (image : Image) (view : PagesView) → MayMove key tid was image view → MayCutKey old_key tid image view
  may_cut image view may = if_cut old_key tid image view may.pairs may.tree (has_key may.pairs may.holds)

  -- where it is another
  module _ (before mid : Image) (old between : PagesView) (cuts : CutsKey old_key tid before mid old between) where
    shrinks_by : (may : MayMove key tid was before old) → Shrinks before mid old between (pages_of may.tree) (without_key old_key tid may.pairs)
    shrinks_by may = cuts may.pairs may.tree (has_key may.pairs may.holds)

    pub may_put : MayMove key tid was before old → old_key ≢ new_key → MayPutKey new_key tid mid between
    may_put may other =
        let less = without_key old_key tid may.pairs in
        if_put new_key tid mid between less (shrinks_by may).tree (lacks_key may.pairs may.holds other) (omega (arith, fewer old_key tid may.pairs, may.few))

    pub still_spare : MayMove key tid was before old → nodes_of mid ≡ nodes_of before → before.width ≤ 120 → HasSpare mid between
    still_spare may same narrow pairs tree =
        let shrinks = shrinks_by may in
        let one = spell_one mid between.held pairs (without_key old_key tid may.pairs) tree shrinks.tree in
        let width : mid.width ≡ before.width = ap (λ n. n.width) same in
        let long : length pairs + 1 ≤ length may.pairs + 1 = omega (arith, ap length one.pairs_are, fewer old_key tid may.pairs) in
        let bound = bound_upto before.width (length pairs + 1) (length may.pairs + 1) narrow long in
        let here : page_bound mid.width (length pairs + 1) ≡ page_bound before.width (length pairs + 1) = ap (λ (n : ℕ). page_bound n (length pairs + 1)) width in
        omega (arith, may.room may.pairs may.tree, bound, here, shrinks.spare, ap length one.pages_are)

    pub moves_both : (after : Image) (new : PagesView) → nodes_of mid ≡ nodes_of before → old_key ≢ new_key → PutsKey new_key tid mid after between new → MovesEntry key tid was next before after old new
    moves_both after new same other puts pairs tree holds =
        let shrinks = cuts pairs tree (has_key pairs holds) in
        let becomes = puts (without_key old_key tid pairs) shrinks.tree (lacks_key pairs holds other) in
        subst (Becomes before after old new (pages_of tree)) (moved pairs) (becomes_then before mid after same old between new (pages_of tree) (without_key old_key tid pairs) (with_key new_key tid (without_key old_key tid pairs)) shrinks becomes)

    -- what the old pairs and the new one pass, all pass still
    pub makes_both : (after : Image) (new : PagesView) → CutsMade before mid old between → MakesKey new_key tid mid after between new → MakesEntry key tid was next before after old new
    makes_both after new less puts good fine pairs tree holds made =
        let shrunk = (cuts pairs tree (has_key pairs holds)).tree in
        puts good (fine_key good fine) (without_key old_key tid pairs) shrunk (less good pairs tree made (without_key old_key tid pairs) shrunk)
