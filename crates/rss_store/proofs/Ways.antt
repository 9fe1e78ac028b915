-- Ways back: the changes of a transaction, where their records begin, and which of them is taken back next.
use Rattle.std.proofs.Common.{◌≡◌, ◌⊎◌, inl, inr, ⊎_elim, ℕ, zero, suc, ◌+◌, List, [], ◌∷◌, ◌++◌, length, refl, sym, ◌∙◌, ap, subst, arith}
use Rattle.std.specs.Prelude.{true, false, ◌==◌, map, reverse, slice_get, Some}
use Rattle.std.proofs.lemmas.Bool.{eqb-true, eqb-false}
use Rattle.std.proofs.lemmas.List.{length-append, reverse-append}
use Rattle.std.proofs.lemmas.Option.{none-some, same_Some}
use Rattle.rss_base.specs.Listings.{Listing}
use Rattle.rss_base.specs.declared.item.Item.{Item}
use Rattle.rss_model.specs.Tables.{Tables}
use Rattle.rss_model.specs.Changes.{Change, maker, mine, own, kept_to, cut_off, undo, undone, after}
use Rattle.rss_model.specs.Machine.{State, now}
use Rattle.rss_model.specs.Meter.{Stamp, MayLead}
use Rattle.rss_model.specs.Steps.{stamp_by, MayUndo}
use Rattle.rss_model.specs.Steps.MayUndo.{none, more}
use Rattle.rss_model.specs.Records.{Listed, changes_in}
use Rattle.rss_model.specs.Restart.{OnlyBy, Lone as LoneInOrder}
use Rattle.rss_model.specs.Ties.{StandsAt, here, older}
use Rattle.rss_model.specs.EngineLogs.{EngineLog, lists_now, stamp_of, TiesState}
use Rattle.rss_model.proofs.LogLists.{by_test, filter_yes, filter_no}
use Rattle.rss_model.proofs.LogTying.{lone_last}
use Rattle.rss_model.proofs.Metering.{undo_cut}
use Rattle.rss_model.proofs.Mixing.{In, own_here, own_off, Lone}
use Rattle.rss_model.proofs.Stamps.{kept_and_cut}
use Rattle.rss_store.specs.Changing.{own_positions, IsOwnAt}

-- ---- positions

-- the last of a list or one before it
last_or : {A : Type 0} (xs : List A) (x : A) (n : ℕ) (y : A) → slice_get (xs ++ x ∷ []) n ≡ Some y → (slice_get xs n ≡ Some y) ⊎ ((n ≡ length xs) × (x ≡ y))
last_or [] x zero y is = inr (refl, same_Some _ _ is)
last_or [] x (suc n) y is = absurd (none-some _ is)
last_or (z ∷ xs) x zero y is = inl is
last_or (z ∷ xs) x (suc n) y is = ⊎_elim (λ before. inl before) (λ last. inr (omega (arith, last.0), last.1)) (last_or xs x n y is)

module _ (t : ℕ) where
  abbrev positions : List Listed → List ℕ
  positions ls = own_positions t (map stamp_of ls)

  with_own : (l : Listed) (ls : List Listed) → (l.change.by == t) ≡ true → positions (l ∷ ls) ≡ positions ls ++ l.at ∷ []
  with_own l ls is =
      ap (λ (stamps : List Stamp). reverse (map (λ stamp. stamp.at) stamps)) (filter_yes (λ (s : Stamp). stamp_by s == t) (stamp_of l) (map stamp_of ls) is)
      ∙ reverse-append (l.at ∷ []) (map (λ stamp. stamp.at) (mine stamp_by t (map stamp_of ls)))

  with_other : (l : Listed) (ls : List Listed) → (l.change.by == t) ≡ false → positions (l ∷ ls) ≡ positions ls
  with_other l ls off = ap (λ (stamps : List Stamp). reverse (map (λ stamp. stamp.at) stamps)) (filter_no (λ (s : Stamp). stamp_by s == t) (stamp_of l) (map stamp_of ls) off)

  as_many : (ls : List Listed) → length (positions ls) ≡ length (own t (changes_in ls))
  as_many [] = refl
  as_many (l ∷ ls) = by_test (l.change.by == t)
      (λ is. omega (arith, as_many ls, ap (λ (ps : List ℕ). length ps) (with_own l ls is), length-append (positions ls) (l.at ∷ []), ap (λ (cs : List Change). length cs) (own_here t l.change (changes_in ls) (eqb-true l.change.by t is))))
      (λ off. omega (arith, as_many ls, ap (λ (ps : List ℕ). length ps) (with_other l ls off), ap (λ (cs : List Change). length cs) (own_off t l.change (changes_in ls) (eqb-false l.change.by t off))))

  stands_by : (ls : List Listed) (n position : ℕ) → slice_get (positions ls) n ≡ Some position → StandsAt t n position ls
  stands_by [] n position is = absurd (none-some position is)
  stands_by (l ∷ ls) n position is = by_test (l.change.by == t)
      (λ own. ⊎_elim (λ before. older l ls (stands_by ls n position before)) (λ last. here l ls (eqb-true l.change.by t own) (sym (as_many ls) ∙ sym last.0) last.1)
      (last_or (positions ls) l.at n position (sym (ap (λ (ps : List ℕ). slice_get ps n) (with_own l ls own)) ∙ is)))
      (λ off. older l ls (stands_by ls n position (sym (ap (λ (ps : List ℕ). slice_get ps n) (with_other l ls off)) ∙ is)))

-- the position of a stamp is one of the log
pub stands : {listing : Listing} {saved : Tables} {log : EngineLog} {state : State} {t n position : ℕ} → TiesState listing saved log state → IsOwnAt state t n position → StandsAt t n position (lists_now log)
stands {log = log} {t = t} {n = n} {position = position} ties is =
    stands_by t (lists_now log) n position (sym (ap (λ (stamps : List Stamp). slice_get (own_positions t stamps) n) ties.meter.stamps) ∙ is)

-- ---- what is taken back

-- one change less is kept
pub one_less : (t n : ℕ) (cs : List Change) (c : Change) → cut_off maker t n cs ≡ cut_off maker t (n + 1) cs ++ c ∷ [] → length (kept_to maker t (n + 1) cs) ≡ length (kept_to maker t n cs) + 1
one_less t n cs c last = omega (arith, kept_and_cut maker t n cs, kept_and_cut maker t (n + 1) cs, ap (λ (l : List Change). length l) last, length-append (cut_off maker t (n + 1) cs) (c ∷ []))

-- ---- what is undone

only_in : (t : ℕ) (item : Item) (cs : List Change) (d : Change) → OnlyBy t item cs → In d cs → d.item ≡ item → d.by ≡ t
only_in t item [] d only is same = absurd is
only_in t item (c ∷ cs) d only (inl is) same = ap (λ (k : Change). k.by) (sym is) ∙ only.0 (ap (λ (k : Change). k.item) is ∙ same)
only_in t item (c ∷ cs) d only (inr is) same = only_in t item cs d only.1 is same

in_pairs : (cs : List Change) → LoneInOrder cs → Lone cs
in_pairs [] lone a b is also same = absurd is
in_pairs (c ∷ cs) lone a b (inl is) (inl also) same = ap (λ (k : Change). k.by) (sym is ∙ also)
in_pairs (c ∷ cs) lone a b (inl is) (inr also) same = ap (λ (k : Change). k.by) (sym is) ∙ sym (only_in c.by c.item cs b lone.0 also (sym same ∙ ap (λ (k : Change). k.item) (sym is)))
in_pairs (c ∷ cs) lone a b (inr is) (inl also) same = only_in c.by c.item cs a lone.0 is (same ∙ ap (λ (k : Change). k.item) (sym also)) ∙ ap (λ (k : Change). k.by) also
in_pairs (c ∷ cs) lone a b (inr is) (inr also) same = in_pairs cs lone.1 a b is also same

-- undoing what is cut off leaves what is kept
pub cut_undone : {listing : Listing} {saved : Tables} {log : EngineLog} {state : State} (t n : ℕ) → TiesState listing saved log state → undone (now state).contents (cut_off maker t n state.changes) ≡ after state.base.contents (kept_to maker t n state.changes)
cut_undone {state = state} t n ties = undo_cut t n state.base.contents state.changes (in_pairs state.changes (subst LoneInOrder ties.ties.changes_are (lone_last ties.ties))) ties.ties.chained

-- one change more is undone
pub undoes_more : {tables : Tables} {cs : List Change} {over mid next : ℕ} (c : Change) → MayUndo tables cs over mid
    → MayLead (record tables { contents = undone tables.contents cs }) (record tables { contents = undo (undone tables.contents cs) c }) c.item mid next → MayUndo tables (cs ++ c ∷ []) over next
undoes_more c none lead = more lead none
undoes_more c (more first rest) lead = more first (undoes_more c rest lead)
