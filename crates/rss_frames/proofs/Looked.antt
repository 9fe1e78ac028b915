-- What is found of each page among entries that were changed.
use Rattle.std.proofs.Common.{◌≡◌, ◌≢◌, ◌<◌, inl, inr, Bool, true, false, cond, List, [], ◌∷◌, ◌++◌, length, Option, Some, None, option_map, refl, sym, ◌∙◌, ap, subst, arith}
use Rattle.std.specs.Prelude.{option_to_list}
use Rattle.std.proofs.lemmas.Bool.{cases_Bool, cond-true, cond-false}
use Rattle.std.proofs.lemmas.Option.{same_Some}
use Rattle.rss_base.specs.Paged.{is_same}
use Rattle.rss_base.specs.declared.key.PageKey.{PageKey}
use Rattle.rss_base.proofs.Keys.{is_same-true, is_same-itself}
use Rattle.rss_frames.specs.Entries.{Held, entry, others, fronted, unchanged, settled, eldest, newest, AreDistinct}
use Rattle.rss_frames.specs.Frames.{frame_of}

-- what is found of a page is its entry
pub entry_key : (key : PageKey) (es : List Held) (e : Held) → entry key es ≡ Some e → e.key ≡ key
unfolding entry
entry_key key [] e is = absurd (cc)
entry_key key (x ∷ es) e is = elim (cases_Bool (is_same x.key key)) [
  | inl here ↦
      let found : x ≡ e = same_Some x e (sym (cond-true (is_same x.key key) (Some x) (entry key es) here) ∙ is) in
      ap (λ (h : Held). h.key) (sym found) ∙ is_same-true x.key key here
  | inr off ↦ entry_key key es e (sym (cond-false (is_same x.key key) (Some x) (entry key es) off) ∙ is)
]

cond_both : (b : Bool) (o : Option Held) → o ≡ cond b o o
cond_both true o = refl
cond_both false o = refl

pub entry_others : (key other : PageKey) (es : List Held) → entry other (others key es) ≡ cond (is_same other key) None (entry other es)
unfolding entry others
entry_others key other [] = cond_both (is_same other key) None
entry_others key other (x ∷ es) = elim (cases_Bool (is_same x.key key)) [
  | inl gone ↦ rw gone (entry_others key other es ∙ by_gone gone)
  | inr off ↦ rw off (elim (cases_Bool (is_same x.key other)) [
    | inl here ↦ rw here (sym (apart off here))
    | inr later ↦ rw later (entry_others key other es)
  ])
]
  where
    by_gone : is_same x.key key ≡ true → cond (is_same other key) None (entry other es) ≡ cond (is_same other key) None (cond (is_same x.key other) (Some x) (entry other es))
    by_gone gone = elim (cases_Bool (is_same other key)) [
      | inl same ↦ rw same refl
      | inr not ↦
          let at : x.key ≡ key = is_same-true x.key key gone in
          elim (cases_Bool (is_same x.key other)) [
            | inl here ↦
                let never : is_same other key ≡ true = ap (λ (k : PageKey). is_same k key) (sym (is_same-true x.key other here) ∙ at) ∙ is_same-itself key in
                cc
            | inr later ↦ rw (not, later) refl
          ]
    ]

    apart : is_same x.key key ≡ false → is_same x.key other ≡ true → cond (is_same other key) None (Some x) ≡ Some x
    apart off here = elim (cases_Bool (is_same other key)) [
      | inl same ↦
          let never : is_same x.key key ≡ true = ap (λ (k : PageKey). is_same k key) (is_same-true x.key other here) ∙ same in
          cc
      | inr not ↦ rw not refl
    ]

-- a page's entry before all others'
pub entry_first : (key other : PageKey) (e : Held) (es : List Held) → e.key ≡ key → entry other (e ∷ others key es) ≡ cond (is_same other key) (Some e) (entry other es)
unfolding entry
entry_first key other e es at = elim (cases_Bool (is_same other key)) [
  | inl same ↦
      let here : is_same e.key other ≡ true = ap (λ (k : PageKey). is_same k other) (at ∙ sym (is_same-true other key same)) ∙ is_same-itself other in
      rw (same, here) refl
  | inr not ↦ elim (cases_Bool (is_same e.key other)) [
    | inl here ↦
        let never : is_same other key ≡ true = ap (λ (k : PageKey). is_same k key) (sym (is_same-true e.key other here) ∙ at) ∙ is_same-itself key in
        cc
    | inr later ↦ rw (not, later) (entry_others key other es ∙ cond-false (is_same other key) None (entry other es) not)
  ]
]

-- a page that isn't there comes
pub entry_new : (other : PageKey) (e : Held) (es : List Held) → entry other (e ∷ es) ≡ cond (is_same other e.key) (Some e) (entry other es)
unfolding entry
entry_new other e es = elim (cases_Bool (is_same other e.key)) [
  | inl same ↦
      let here : is_same e.key other ≡ true = ap (λ (k : PageKey). is_same e.key k) (is_same-true other e.key same) ∙ is_same-itself e.key in
      rw (same, here) refl
  | inr not ↦ elim (cases_Bool (is_same e.key other)) [
    | inl here ↦
        let never : is_same other e.key ≡ true = ap (λ (k : PageKey). is_same k e.key) (sym (is_same-true e.key other here)) ∙ is_same-itself e.key in
        cc
    | inr later ↦ rw (not, later) refl
  ]
]

-- a page is used
pub entry_fronted : (key other : PageKey) (es : List Held) → entry other (fronted key es) ≡ entry other es
entry_fronted key other es = (elim (entry key es) as (λ o. entry key es ≡ o → entry other (option_to_list o ++ others key es) ≡ entry other es) [
  | None ↦ λ none. entry_others key other es ∙ stays None none
  | Some e ↦ λ some. entry_first key other e es (entry_key key es e some) ∙ stays (Some e) some
]) refl
  where
    stays : (o : Option Held) → entry key es ≡ o → cond (is_same other key) o (entry other es) ≡ entry other es
    stays o is = elim (cases_Bool (is_same other key)) [
      | inl same ↦ rw same (sym is ∙ ap (λ (k : PageKey). entry k es) (sym (is_same-true other key same)))
      | inr not ↦ rw not refl
    ]

-- a page is marked as unchanged
pub entry_settled : (key other : PageKey) (es : List Held) → entry other (settled key es) ≡ option_map (unchanged key) (entry other es)
unfolding entry
entry_settled key other [] = refl
entry_settled key other (x ∷ es) = elim (cases_Bool (is_same x.key other)) [
  | inl here ↦ rw here refl
  | inr later ↦ rw later (entry_settled key other es)
]

-- the page that wasn't used for the longest time is there
pub entry_eldest : (es : List Held) (e : Held) → AreDistinct es → eldest es ≡ Some e → entry e.key es ≡ Some e
unfolding entry eldest AreDistinct
entry_eldest [] e apart is = absurd (cc)
entry_eldest (x ∷ []) e apart is = let found : x ≡ e = same_Some x e is in subst (λ (h : Held). entry h.key (x ∷ []) ≡ Some h) found (rw (is_same-itself x.key) refl)
entry_eldest (x ∷ y ∷ es) e apart is =
    let there = entry_eldest (y ∷ es) e apart.1 is in
    elim (cases_Bool (is_same x.key e.key)) [
      | inl same ↦
          let never : None ≡ Some e = sym apart.0 ∙ ap (λ (k : PageKey). entry k (y ∷ es)) (is_same-true x.key e.key same) ∙ there in
          absurd (cc)
      | inr off ↦ rw off there
    ]

-- and it is the last of all
pub others_eldest : (es : List Held) (e : Held) → AreDistinct es → eldest es ≡ Some e → es ≡ others e.key es ++ e ∷ []
unfolding others eldest AreDistinct
others_eldest [] e apart is = absurd (cc)
others_eldest (x ∷ []) e apart is =
    let found : x ≡ e = same_Some x e is in
    subst (λ (h : Held). x ∷ [] ≡ others h.key (x ∷ []) ++ h ∷ []) found (rw (is_same-itself x.key) refl)
others_eldest (x ∷ y ∷ es) e apart is =
    let there = entry_eldest (y ∷ es) e apart.1 is in
    elim (cases_Bool (is_same x.key e.key)) [
      | inl same ↦
          let never : None ≡ Some e = sym apart.0 ∙ ap (λ (k : PageKey). entry k (y ∷ es)) (is_same-true x.key e.key same) ∙ there in
          absurd (cc)
      | inr off ↦ rw off (ap (λ (l : List Held). x ∷ l) (others_eldest (y ∷ es) e apart.1 is))
    ]

pub none_eldest : (es : List Held) → eldest es ≡ None → es ≡ []
unfolding eldest
none_eldest [] is = refl
none_eldest (x ∷ []) is = absurd (cc)
none_eldest (x ∷ y ∷ es) is = let none = none_eldest (y ∷ es) is in absurd (cc)

-- a page that has no frame has no entry
pub none_entry : (o : Option Held) → option_map frame_of o ≡ None → o ≡ None
none_entry None none = refl
none_entry (Some e) none = absurd (cc)

-- the page that was used last is there
pub entry_newest : (es : List Held) (e : Held) → newest es ≡ Some e → entry e.key es ≡ Some e
unfolding entry
entry_newest [] e is = absurd (cc)
entry_newest (x ∷ es) e is =
    let found : x ≡ e = same_Some x e is in
    subst (λ (h : Held). entry h.key (x ∷ es) ≡ Some h) found (rw (is_same-itself x.key) refl)

-- a page that is used becomes the one that was used last
pub newest_fronted : (key : PageKey) (es : List Held) (e : Held) → entry key es ≡ Some e → newest (fronted key es) ≡ Some e
newest_fronted key es e is = rw is refl

-- where there are two, it isn't the one that wasn't used for the longest time
pub newest_apart : (es : List Held) (new old : Held) → AreDistinct es → 1 < length es → newest es ≡ Some new → eldest es ≡ Some old → new.key ≢ old.key
unfolding entry eldest AreDistinct
newest_apart [] new old apart two is last = absurd (cc)
newest_apart (x ∷ []) new old apart two is last = absurd (omega (arith, two))
newest_apart (x ∷ y ∷ es) new old apart two is last = λ same.
    let found : x ≡ new = same_Some x new is in
    let there : entry old.key (y ∷ es) ≡ Some old = entry_eldest (y ∷ es) old apart.1 last in
    let never : None ≡ Some old = sym apart.0 ∙ ap (λ (k : PageKey). entry k (y ∷ es)) (ap (λ (h : Held). h.key) found ∙ same) ∙ there in
    cc

none_others : (key : PageKey) (es : List Held) → entry key es ≡ None → others key es ≡ es
unfolding entry others
none_others key [] none = refl
none_others key (x ∷ es) none = elim (cases_Bool (is_same x.key key)) [
  | inl here ↦ let never : Some x ≡ None = sym (cond-true (is_same x.key key) (Some x) (entry key es) here) ∙ none in absurd (cc)
  | inr off ↦ rw off (ap (λ (l : List Held). x ∷ l) (none_others key es (sym (cond-false (is_same x.key key) (Some x) (entry key es) off) ∙ none)))
]

-- a page that isn't there is no use of any
pub none_fronted : (key : PageKey) (es : List Held) → entry key es ≡ None → fronted key es ≡ es
none_fronted key es none = rw none (none_others key es none)

-- a page that came is taken out again
pub others_new : (e : Held) (es : List Held) → entry e.key es ≡ None → others e.key (e ∷ es) ≡ es
unfolding others
others_new e es none = rw (is_same-itself e.key) (none_others e.key es none)
