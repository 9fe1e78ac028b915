-- A key gets a value, among entries whose keys rise.
use Rattle.std.proofs.Common.{◌≡◌, inl, inr, ◌+◌, ◌<◌, ◌≤◌, ℕ, suc, Bool, true, false, List, [], ◌∷◌, drop, get_or, length, refl, sym, ◌∙◌, ap, subst, arith}
use Rattle.std.specs.Prelude.{slice_set, Result, Ok, Err, OnOk, OnErr}
use Rattle.std.specs.List.{insert}
use Rattle.std.specs.Ordering.{is_gt, is_eq}
use Rattle.std.specs.Cmp.{IsTotalOrder, Equal-is}
use Rattle.std.proofs.lemmas.Bool.{cases_lt}
use Rattle.std.proofs.lemmas.List.{drop_all, drop_more, get_or_default}
use Rattle.std.specs.FinMap as map
use Rattle.std.specs.FinMap.{put, is_sorted, entries-insert, same_entries_map}
use Rattle.std.specs.FinMap.Entries.{is_sorted-put}
use Rattle.std.specs.declared.cmp.Ordering.{Ordering}
use Rattle.std.specs.declared.cmp.Ordering.TheVariants.{Less, Equal, Greater}
use Rattle.std.proofs.Math.Dec.{T}
use Rattle.rss_plain.specs.Maps.{mapped, place_of}
use Rattle.rss_model.proofs.LogLists.{false_true}
use Rattle.rss_plain.proofs.Lists.{head_of}
use Rattle.rss_plain.proofs.Maps.{entries_mapped}

apart : {o : Ordering} → o ≡ Equal → o ≡ Less → ⊥
apart equal less = let e : Equal ≡ Less = sym equal ∙ less in cc (e)

head_same : {A : Type 0} (x y : A) (xs ys : List A) → x ∷ xs ≡ y ∷ ys → x ≡ y
head_same x y xs ys is = ap (λ (l : List _). get_or l 0 x) is

true_T : (b : Bool) → T b → b ≡ true
true_T true t = refl
true_T false t = absurd t

module _ {K X : Type 0} (R : K → K → Ordering) (key : K) (v : X) where
  -- at a new key
  pub put_new : (es : List (K × X))
      → ((e : K × X) (rest : List (K × X)) → drop (place_of R key es) es ≡ e ∷ rest → R key e.0 ≡ Equal → ⊥)
      → put R key v es ≡ insert es (place_of R key es) (key, v)
  put_new [] none = refl
  put_new (e ∷ es) none = by (R key e.0) refl (put_new es)
    where
      by : (o : Ordering) → R key e.0 ≡ o
          → (((f : K × X) (rest : List (K × X)) → drop (place_of R key es) es ≡ f ∷ rest → R key f.0 ≡ Equal → ⊥)
          → put R key v es ≡ insert es (place_of R key es) (key, v))
          → put R key v (e ∷ es) ≡ insert (e ∷ es) (place_of R key (e ∷ es)) (key, v)
      by Less is below = rw is refl
      by Equal is below = absurd (none e es (rw is refl) is)
      by Greater is below =
          rw is (ap (λ (l : List (K × X)). e ∷ l) (below (λ f rest begins. none f rest (rw is begins))))

  -- at a key that is there
  pub put_same : (es : List (K × X)) (e : K × X) (rest : List (K × X)) → drop (place_of R key es) es ≡ e ∷ rest
      → R key e.0 ≡ Equal
      → put R key v es ≡ slice_set es (place_of R key es) (e.0, v)
  put_same [] e rest = λ begins same. absurd (cc (begins))
  put_same (f ∷ es) e rest = by (R key f.0) refl (put_same es e rest)
    where
      by : (o : Ordering) → R key f.0 ≡ o
          → (drop (place_of R key es) es ≡ e ∷ rest → R key e.0 ≡ Equal
          → put R key v es ≡ slice_set es (place_of R key es) (e.0, v))
          → drop (place_of R key (f ∷ es)) (f ∷ es) ≡ e ∷ rest → R key e.0 ≡ Equal
          → put R key v (f ∷ es) ≡ slice_set (f ∷ es) (place_of R key (f ∷ es)) (e.0, v)
      by Less is below begins same =
          absurd (apart same (ap (λ (p : K × X). R key p.0) (sym (head_same f e es rest (rw is at begins))) ∙ is))
      by Equal is below begins same =
          rw is (ap (λ (p : K × X). (p.0, v) ∷ es) (head_same f e es rest (rw is at begins)))
      by Greater is below begins same = rw is (ap (λ (l : List (K × X)). f ∷ l) (below (rw is at begins) same))

-- where it is found, or isn't, at its place
module _ {K X : Type 0} (R : K → K → Ordering) (key : K) (v : X) (es : List (K × X)) (place : ℕ)
    (is : place ≡ place_of R key es) where
  pub set_there : (e d : K × X) → place < length es → e ≡ get_or es place e → d ≡ get_or es place d
      → is_eq (R key d.0) ≡ true → slice_set es place (e.0, v) ≡ put R key v es
  set_there e d low there tested equal =
      let one : d ≡ e = tested ∙ get_or_default es place d e low ∙ sym there in
      ap (λ (n : ℕ). slice_set es n (e.0, v)) is
      ∙ sym (put_same R key v es e (drop (place + 1) es)
      (ap (λ (n : ℕ). drop n es) (sym is) ∙ head_of es place e low there)
      ((Equal-is (R key e.0)).0 (ap (λ (p : K × X). is_eq (R key p.0)) (sym one) ∙ equal)))

  pub insert_there : ((e : K × X) → place < length es → e ≡ get_or es place e → is_eq (R key e.0) ≡ true → ⊥)
      → insert es place (key, v) ≡ put R key v es
  insert_there none =
      ap (λ (n : ℕ). insert es n (key, v)) is
      ∙ sym (put_new R key v es (λ e rest begins same.
      let at_place : drop place es ≡ e ∷ rest = ap (λ (n : ℕ). drop n es) is ∙ begins in
      elim (cases_lt place (length es)) [
        | inl low ↦ none e low (sym (head_same _ e _ rest (sym (drop_more es place e low) ∙ at_place))) (ap is_eq same)
        | inr past ↦ cc (sym (drop_all place es past) ∙ at_place)
      ]))

  pub insert_past : length es ≤ place → insert es place (key, v) ≡ put R key v es
  insert_past past = insert_there (λ e low there equal. absurd (omega (arith, low, past)))

  pub insert_before : (d : K × X) → place < length es → d ≡ get_or es place d → is_eq (R key d.0) ≡ false
      → insert es place (key, v) ≡ put R key v es
  insert_before d low tested other = insert_there
      (λ e within there equal. false_true equal
      (ap (λ (p : K × X). is_eq (R key p.0)) (there ∙ get_or_default es place e d low ∙ sym tested) ∙ other))

-- and so of the map
pub mapped_put : {K X : Type 0} (R : K → K → Ordering) → IsTotalOrder R → (key : K) (v : X) (old new : List (K × X))
    → is_sorted R old ≡ true → new ≡ put R key v old
    → (is_sorted R new ≡ true) × (mapped R new ≡ map.insert (mapped R old) key v)
mapped_put R total key v old new sorted is =
    let still : is_sorted R new ≡ true = ap (is_sorted R) is
    ∙ true_T _ (is_sorted-put R total key v old (subst T (sym sorted) tt)) in (
      still,
      same_entries_map (mapped R new) (map.insert (mapped R old) key v)
          (entries_mapped R new still ∙ is ∙ ap (put R key v) (sym (entries_mapped R old sorted))
          ∙ sym (entries-insert total (mapped R old) key v)),
    )

-- ---- the place of a key

module _ {K X : Type 0} (R : K → K → Ordering) (key : K) (es : List (K × X)) (e : K × X) (rest : List (K × X))
    (is : es ≡ e ∷ rest) where
  pub place_past : is_gt (R key e.0) ≡ true → place_of R key es ≡ suc (place_of R key rest)
  place_past above = rw (is, above) refl

  pub place_here : is_gt (R key e.0) ≡ false → place_of R key es ≡ 0
  place_here here = rw (is, here) refl

-- ---- what a put that may fail leaves

module _ {K X E : Type 0} (R : K → K → Ordering) (total : IsTotalOrder R) (key : K) (v : X) (old new : List (K × X))
    (sorted : is_sorted R old ≡ true) where
  pub still_sorted : (r : Result (Unit {0}) E) → OnOk r (new ≡ put R key v old) → OnErr r (new ≡ old)
      → is_sorted R new ≡ true
  still_sorted (Ok done) ok err = (mapped_put R total key v old new sorted ok).0
  still_sorted (Err e) ok err = ap (is_sorted R) err ∙ sorted

  pub put_done : (r : Result (Unit {0}) E) (seen : List (K × X)) → old ≡ seen → OnOk r (new ≡ put R key v old)
      → OnOk r (mapped R new ≡ map.insert (mapped R seen) key v)
  put_done (Ok done) seen is ok = (mapped_put R total key v old new sorted ok).1
      ∙ ap (λ (l : List (K × X)). map.insert (mapped R l) key v) is
  put_done (Err e) seen is ok = tt
