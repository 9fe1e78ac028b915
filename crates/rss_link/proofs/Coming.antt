-- Tuples that come and go outside all chains.
use Rattle.std.proofs.Common.{◌≡◌, inl, inr, ℕ, Bool, true, false, List, [], ◌∷◌, ◌++◌, Option, Some, None, refl, sym, ◌∙◌, ap, subst}
use Rattle.std.proofs.lemmas.Bool.{cond-true, cond-false}
use Rattle.rss_base.specs.Prefixes.{Ends, ends_of}
use Rattle.rss_base.specs.declared.tid.Tid.{Tid}
use Rattle.rss_tuple.specs.Directory.{Bodies, with_body, is_same_tid}
use Rattle.rss_link.specs.declared.link.Chains.{Chains}
use Rattle.rss_link.specs.declared.blocks.Standing.TheVariants.{Outside}
use Rattle.rss_link.specs.Blocks.{IsNamed, HasStanding, HasEnds}
use Rattle.rss_link.specs.Chains.{Linkage, Stands, IsOutside, IsParent, IsPlaced}
use Rattle.rss_link.specs.Links.{Says, SaysEnds, SpellChains, with_tuple, with_child, with_parent}
use Rattle.rss_link.proofs.Lists.{tid_cases, is_same_tid-itself, is_same_tid-true, false_true, false_where, never_some}
use Rattle.rss_link.proofs.Puts.{body_here, body_off, says_where, ends_where, some_parent}

-- ---- which tuples there are

here_now : (tuples : Tid → Bool) (tid : Tid) (among : Bool) (t : Tid) → t ≡ tid → with_tuple tuples tid among t ≡ among
here_now tuples tid among t is = cond-true (is_same_tid t tid) among (tuples t) (ap (λ (x : Tid). is_same_tid x tid) is ∙ is_same_tid-itself tid)

not_same : (a b : Tid) → (a ≡ b → ⊥) → is_same_tid a b ≡ false
not_same a b off = false_where (is_same_tid a b) (λ is. off (is_same_tid-true a b is))

off_now : (tuples : Tid → Bool) (tid : Tid) (among : Bool) (t : Tid) → (t ≡ tid → ⊥) → with_tuple tuples tid among t ≡ tuples t
off_now tuples tid among t off = cond-false (is_same_tid t tid) among (tuples t) (not_same t tid off)

-- those that were there still are, once one more is
more : (tuples : Tid → Bool) (tid t : Tid) → tuples t ≡ true → with_tuple tuples tid true t ≡ true
more tuples tid t is = elim (tid_cases t tid) [
  | inl same ↦ here_now tuples tid true t same
  | inr off ↦ off_now tuples tid true t off ∙ is
]

-- those that are there were, and were not the one that has gone
fewer : (tuples : Tid → Bool) (tid t : Tid) → with_tuple tuples tid false t ≡ true → (tuples t ≡ true) × (t ≡ tid → ⊥)
fewer tuples tid t is = elim (tid_cases t tid) [
  | inl same ↦ absurd (false_true _ (here_now tuples tid false t same) is)
  | inr off ↦ (sym (off_now tuples tid false t off) ∙ is, off)
]

pub as_parent_of : (unary : Bool) (parents : Tid → Bool) (parent : Tid) → unary ≡ false → parents parent ≡ true → IsParent unary parents (Some parent)
as_parent_of true parents parent kind is = absurd (false_true true kind refl)
as_parent_of false parents parent kind is = is

-- parents among others
still_parent : (unary : Bool) (parents others : Tid → Bool) (parent : Option Tid) → ((tid : Tid) → parent ≡ Some tid → parents tid ≡ true → others tid ≡ true) → IsParent unary parents parent → IsParent unary others parent
still_parent true parents others None more is = tt
still_parent true parents others (Some parent) more is = absurd is
still_parent false parents others None more is = absurd is
still_parent false parents others (Some parent) more is = more parent refl is

module _ (link : Chains) (kept : Ends) (old : Bodies) (linkage : Linkage) (spells : SpellChains link kept old linkage) (tid : Tid) where
  -- ---- one comes

  module _ (body : List ℕ) (named : IsNamed tid) where
    module _ (absent : old link.child_segment tid ≡ None) (block : HasStanding link.unary body link.child_at Outside) where
      abbrev child_new : Bodies
      child_new = with_body old link.child_segment tid (Some body)

      child_was_none : linkage.children tid ≡ true → ⊥
      child_was_none is = let says = (spells.chains.each tid is).says_so in never_some says.body _ absent says.there

      no_parent_there : link.unary ≡ false → link.parent_segment ≡ link.child_segment → linkage.parents tid ≡ true → ⊥
      no_parent_there kind same is =
          let says = spells.chains.ends (Some tid) (as_parent_of link.unary linkage.parents tid kind is) in
          never_some says.body _ (ap (λ (s : ℕ). old s tid) same ∙ absent) says.there

      child_each : (t : Tid) → with_tuple linkage.children tid true t ≡ true → IsPlaced (Says link child_new) linkage.lists t
      child_each t is = elim (tid_cases t tid) [
        | inl same ↦ subst (λ (x : Tid). IsPlaced (Says link child_new) linkage.lists x) (sym same) (record {
          standing = Outside;
          says_so = record { body = body; there = body_here old link.child_segment tid (Some body); block = block };
          is = λ stands. child_was_none (spells.chains.children tid stands);
        })
        | inr off ↦
            let placed = spells.chains.each t (sym (off_now linkage.children tid true t off) ∙ is) in
            record { standing = placed.standing; says_so = says_where link old child_new t placed.standing (body_off old link.child_segment tid (Some body) link.child_segment t (λ segment same. off same)) placed.says_so; is = placed.is }
      ]

      child_ends : (parent : Option Tid) (ends : Ends) → IsParent link.unary linkage.parents parent → SaysEnds link kept old parent ends → SaysEnds link kept child_new parent ends
      child_ends None ends is says = says
      child_ends (Some parent) ends is says =
          let role = some_parent link.unary linkage.parents parent is in
          ends_where link old child_new parent ends (body_off old link.child_segment tid (Some body) link.parent_segment parent
          (λ segment same. no_parent_there role.0 segment (ap linkage.parents (sym same) ∙ role.1))) says

      child_apart : link.unary ≡ false → link.child_segment ≡ link.parent_segment → (t : Tid) → with_tuple linkage.children tid true t ≡ true → linkage.parents t ≡ true → ⊥
      child_apart kind same t is is_parent = elim (tid_cases t tid) [
        | inl it ↦ no_parent_there kind (sym same) (ap linkage.parents (sym it) ∙ is_parent)
        | inr off ↦ spells.apart kind same t (sym (off_now linkage.children tid true t off) ∙ is) is_parent
      ]

      child_named : (t : Tid) → with_tuple linkage.children tid true t ≡ true → IsNamed t
      child_named t is = elim (tid_cases t tid) [
        | inl it ↦ subst IsNamed (sym it) named
        | inr off ↦ spells.named.children t (sym (off_now linkage.children tid true t off) ∙ is)
      ]

      pub child_comes : SpellChains link kept child_new (with_child linkage tid true)
      child_comes = record {
        named = record { children = child_named; parents = spells.named.parents };
        apart = child_apart;
        chains = record {
          each = child_each;
          ends = λ parent is. child_ends parent _ is (spells.chains.ends parent is);
          children = λ t stands. more linkage.children tid t (spells.chains.children t stands);
          parents = spells.chains.parents;
          once = spells.chains.once;
        };
      }

    module _ (kind : link.unary ≡ false) (absent : old link.parent_segment tid ≡ None) (block : HasEnds body link.parent_at (ends_of [])) where
      abbrev parent_new : Bodies
      parent_new = with_body old link.parent_segment tid (Some body)

      parent_was_none : linkage.parents tid ≡ true → ⊥
      parent_was_none is = let says = spells.chains.ends (Some tid) (as_parent_of link.unary linkage.parents tid kind is) in never_some says.body _ absent says.there

      no_child_there : link.child_segment ≡ link.parent_segment → linkage.children tid ≡ true → ⊥
      no_child_there same is = let says = (spells.chains.each tid is).says_so in never_some says.body _ (ap (λ (s : ℕ). old s tid) same ∙ absent) says.there

      no_list : (list : List Tid) → linkage.lists (Some tid) ≡ list → list ≡ []
      no_list [] is = refl
      no_list (x ∷ list) is = absurd (parent_was_none (some_parent link.unary linkage.parents tid (spells.chains.parents x (record { parent = Some tid; before = []; after = list; is = is }))).1)

      parent_each : (t : Tid) → linkage.children t ≡ true → IsPlaced (Says link parent_new) linkage.lists t
      parent_each t is =
          let placed = spells.chains.each t is in
          record { standing = placed.standing; says_so = says_where link old parent_new t placed.standing (body_off old link.parent_segment tid (Some body) link.child_segment t (λ segment same. no_child_there segment (ap linkage.children (sym same) ∙ is))) placed.says_so; is = placed.is }

      parent_ends : (parent : Option Tid) → IsParent link.unary (with_tuple linkage.parents tid true) parent → SaysEnds link kept parent_new parent (ends_of (linkage.lists parent))
      parent_ends None is = spells.chains.ends None (still_parent link.unary (with_tuple linkage.parents tid true) linkage.parents None (λ t none is. absurd (cc)) is)
      parent_ends (Some parent) is =
          let role = some_parent link.unary (with_tuple linkage.parents tid true) parent is in
          elim (tid_cases parent tid) [
            | inl it ↦ subst (λ (p : Tid). SaysEnds link kept parent_new (Some p) (ends_of (linkage.lists (Some p)))) (sym it) (record {
              body = body;
              there = body_here old link.parent_segment tid (Some body);
              block = subst (λ (l : List Tid). HasEnds body link.parent_at (ends_of l)) (sym (no_list (linkage.lists (Some tid)) refl)) block;
            })
            | inr off ↦
                let was = as_parent_of link.unary linkage.parents parent role.0 (sym (off_now linkage.parents tid true parent off) ∙ role.1) in
                ends_where link old parent_new parent _ (body_off old link.parent_segment tid (Some body) link.parent_segment parent (λ segment same. off same)) (spells.chains.ends (Some parent) was)
          ]

      parent_apart : link.unary ≡ false → link.child_segment ≡ link.parent_segment → (t : Tid) → linkage.children t ≡ true → with_tuple linkage.parents tid true t ≡ true → ⊥
      parent_apart binary same t is is_parent = elim (tid_cases t tid) [
        | inl it ↦ no_child_there same (ap linkage.children (sym it) ∙ is)
        | inr off ↦ spells.apart binary same t is (sym (off_now linkage.parents tid true t off) ∙ is_parent)
      ]

      parent_named : (t : Tid) → with_tuple linkage.parents tid true t ≡ true → IsNamed t
      parent_named t is = elim (tid_cases t tid) [
        | inl it ↦ subst IsNamed (sym it) named
        | inr off ↦ spells.named.parents t (sym (off_now linkage.parents tid true t off) ∙ is)
      ]

      pub parent_comes : SpellChains link kept parent_new (with_parent linkage tid true)
      parent_comes = record {
        named = record { children = spells.named.children; parents = parent_named };
        apart = parent_apart;
        chains = record {
          each = parent_each;
          ends = parent_ends;
          children = spells.chains.children;
          parents = λ t stands. still_parent link.unary linkage.parents (with_tuple linkage.parents tid true) stands.parent (λ p at is. more linkage.parents tid p is) (spells.chains.parents t stands);
          once = spells.chains.once;
        };
      }

  -- ---- one goes

  module _ (is_child : linkage.children tid ≡ true) (outside : IsOutside linkage.lists tid) where
    abbrev child_left : Bodies
    child_left = with_body old link.child_segment tid None

    left_each : (t : Tid) → with_tuple linkage.children tid false t ≡ true → IsPlaced (Says link child_left) linkage.lists t
    left_each t is =
        let was = fewer linkage.children tid t is in
        let placed = spells.chains.each t was.0 in
        record { standing = placed.standing; says_so = says_where link old child_left t placed.standing (body_off old link.child_segment tid None link.child_segment t (λ segment same. was.1 same)) placed.says_so; is = placed.is }

    left_ends : (parent : Option Tid) (ends : Ends) → IsParent link.unary linkage.parents parent → SaysEnds link kept old parent ends → SaysEnds link kept child_left parent ends
    left_ends None ends is says = says
    left_ends (Some parent) ends is says =
        let role = some_parent link.unary linkage.parents parent is in
        ends_where link old child_left parent ends (body_off old link.child_segment tid None link.parent_segment parent
        (λ segment same. spells.apart role.0 (sym segment) tid is_child (ap linkage.parents (sym same) ∙ role.1))) says

    still_child : (t : Tid) → Stands linkage.lists t → with_tuple linkage.children tid false t ≡ true
    still_child t stands = off_now linkage.children tid false t (λ same. outside (subst (λ (x : Tid). Stands linkage.lists x) same stands)) ∙ spells.chains.children t stands

    pub child_goes : SpellChains link kept child_left (with_child linkage tid false)
    child_goes = record {
      named = record { children = λ t is. spells.named.children t (fewer linkage.children tid t is).0; parents = spells.named.parents };
      apart = λ kind same t is is_parent. spells.apart kind same t (fewer linkage.children tid t is).0 is_parent;
      chains = record {
        each = left_each;
        ends = λ parent is. left_ends parent _ is (spells.chains.ends parent is);
        children = still_child;
        parents = spells.chains.parents;
        once = spells.chains.once;
      };
    }

  module _ (kind : link.unary ≡ false) (is_parent : linkage.parents tid ≡ true) (empty : linkage.lists (Some tid) ≡ []) where
    abbrev parent_left : Bodies
    parent_left = with_body old link.parent_segment tid None

    none_under : (t : Tid) (stands : Stands linkage.lists t) → stands.parent ≡ Some tid → ⊥
    none_under t stands under = nothing stands.before (sym stands.is ∙ ap linkage.lists under ∙ empty)
      where
        nothing : (before : List Tid) → before ++ t ∷ stands.after ≡ [] → ⊥
        nothing [] is = cc
        nothing (x ∷ before) is = cc

    gone_each : (t : Tid) → linkage.children t ≡ true → IsPlaced (Says link parent_left) linkage.lists t
    gone_each t is =
        let placed = spells.chains.each t is in
        record { standing = placed.standing; says_so = says_where link old parent_left t placed.standing (body_off old link.parent_segment tid None link.child_segment t (λ segment same. spells.apart kind segment tid (ap linkage.children (sym same) ∙ is) is_parent)) placed.says_so; is = placed.is }

    gone_ends : (parent : Option Tid) → IsParent link.unary (with_tuple linkage.parents tid false) parent → SaysEnds link kept parent_left parent (ends_of (linkage.lists parent))
    gone_ends None is = spells.chains.ends None (still_parent link.unary (with_tuple linkage.parents tid false) linkage.parents None (λ t none is. absurd (cc)) is)
    gone_ends (Some parent) is =
        let role = some_parent link.unary (with_tuple linkage.parents tid false) parent is in
        let was = fewer linkage.parents tid parent role.1 in
        ends_where link old parent_left parent _ (body_off old link.parent_segment tid None link.parent_segment parent (λ segment same. was.1 same))
        (spells.chains.ends (Some parent) (as_parent_of link.unary linkage.parents parent role.0 was.0))

    pub parent_goes : SpellChains link kept parent_left (with_parent linkage tid false)
    parent_goes = record {
      named = record { children = spells.named.children; parents = λ t is. spells.named.parents t (fewer linkage.parents tid t is).0 };
      apart = λ binary same t is is_one. spells.apart binary same t is (fewer linkage.parents tid t is_one).0;
      chains = record {
        each = gone_each;
        ends = gone_ends;
        children = spells.chains.children;
        parents = λ t stands. still_parent link.unary linkage.parents (with_tuple linkage.parents tid false) stands.parent (λ p at is. off_now linkage.parents tid false p (λ same. none_under t stands (at ∙ ap Some same)) ∙ is) (spells.chains.parents t stands);
        once = spells.chains.once;
      };
    }
