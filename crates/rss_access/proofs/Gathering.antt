-- The entries of a relation's tuples, gathered along the tuples of its segment.
use Rattle.std.proofs.Common.{◌≡◌, ◌≢◌, ◌⊎◌, inl, inr, ⊎_elim, ℕ, ◌+◌, true, List, [], ◌∷◌, ◌++◌, refl, sym, ◌∙◌, ap, subst}
use Rattle.std.specs.Prelude.{Option, Some, All, IfSome, is_some, map as list_map}
use Rattle.std.proofs.lemmas.List.Elements.{All-push}
use Rattle.rss_base.specs.DiskRule.{IsTold}
use Rattle.rss_base.specs.Steps.{PagesView, PagesStep, no_page}
use Rattle.rss_base.specs.declared.tid.Tid.{Tid}
use Rattle.rss_base.specs.declared.relation.RelationEntry.{RelationEntry}
use Rattle.rss_base.proofs.Steps.{then}
use Rattle.rss_levels.specs.Entries.{Each, Pairwise}
use Rattle.rss_levels.proofs.Lists.{each_append, each_weaker, pairwise_append}
use Rattle.rss_catalog.specs.Catalogs.{CatalogView}
use Rattle.rss_model.proofs.Mixing.{In}
use Rattle.rss_tuple.specs.Finding.{IsNext}
use Rattle.rss_base.specs.Tids.{IsBelow, IsAfter, IsSpelledTid}
use Rattle.rss_tuple.specs.TupleSteps.{IsLeast, NoneIs, tuples_in}
use Rattle.rss_access.specs.Changes.{both}
use Rattle.rss_access.specs.Filling.{HasBody, IsKeyAt, IsMisspelled, IsEntryLong, keys_by}
use Rattle.rss_access.specs.Tuples.{FindsBody}
use Rattle.rss_access.proofs.NextTuples.{IsTid, cases_tid, after_then, below_never}
use Rattle.rss_access.proofs.Walked.{body_still}

-- a tuple that was found is one of the relation
pub body_found : {pages : PagesView} {number : ℕ} {relation : RelationEntry} {tid : Tid} {body : List ℕ} → FindsBody relation.segment number tid pages true body → (has : HasBody pages number relation tid) × (number ∷ has.rest ≡ body)
body_found {number = number} finds = let found = finds.some refl in (record { rest = finds.rest; there = found.1 ∙ ap (λ (b : List ℕ). Some b) found.0 }, sym found.0)

-- ---- on any device

-- No entry stands behind `last`, and no two are of one tuple.
pub record AreApartTo (last : Option Tid) (entries : List (List ℕ × Tid)) : Type 0 where
  pub passed : Each (λ pair. IsAfter last pair.1 → ⊥) entries
  pub apart : Pairwise (λ a b. a.1 ≢ b.1) entries

module _ {last : Option Tid} {entries : List (List ℕ × Tid)} (so : AreApartTo last entries) (tid : Tid) (behind : IsAfter last tid) where
  pub apart_past : AreApartTo (Some tid) entries
  apart_past = record {
    passed = each_weaker (λ pair. IsAfter last pair.1 → ⊥) (λ pair. IsAfter (Some tid) pair.1 → ⊥) entries (λ pair not after. not (after_then last tid pair.1 behind after)) so.passed;
    apart = so.apart;
  }

  pub apart_more : (key : List ℕ) → AreApartTo (Some tid) (entries ++ (key, tid) ∷ [])
  apart_more key = record {
    passed = each_append (λ pair. IsAfter (Some tid) pair.1 → ⊥) entries ((key, tid) ∷ []) apart_past.passed (below_never tid, tt);
    apart = pairwise_append (λ a b. a.1 ≢ b.1) entries ((key, tid) ∷ []) so.apart (tt, tt)
        (each_weaker (λ pair. IsAfter last pair.1 → ⊥) (λ pair. Each (λ (b : List ℕ × Tid). pair.1 ≢ b.1) ((key, tid) ∷ [])) entries (λ pair not. (λ same. not (subst (IsAfter last) (sym same) behind), tt)) so.passed);
  }

module _ (catalog : CatalogView) (number : ℕ) (relation : RelationEntry) (which : List ℕ) where
  -- ---- where nothing was touched, there are the same tuples

  module _ {start now : PagesView} {asks outs : ℕ} (step : PagesStep no_page asks outs start now) (told : IsTold start.disk) where
    bytes_then : (tid : Tid) → HasBody start number relation tid → HasBody now number relation tid
    bytes_then tid has = record { rest = has.rest; there = body_still step told relation.segment tid ∙ has.there }

    pub key_back : (tid : Tid) (key : List ℕ) → IsKeyAt (both now catalog) number relation which tid key → IsKeyAt (both start catalog) number relation which tid key
    key_back tid key is = record { has = record { rest = is.has.rest; there = sym (body_still step told relation.segment tid) ∙ is.has.there }; bytes = is.bytes; holds = is.holds; spelled = is.spelled; is = is.is }

    pub misspelled_back : (tid : Tid) → IsMisspelled (both now catalog) number relation tid → IsMisspelled (both start catalog) number relation tid
    misspelled_back tid is = record { has = record { rest = is.has.rest; there = sym (body_still step told relation.segment tid) ∙ is.has.there }; not = is.not }

  -- ---- the entries so far

  -- They are those of the tuples that don't stand behind `last`.
  pub record AreGatheredTo (pages : PagesView) (last : Option Tid) (entries : List (List ℕ × Tid)) : Type 0 where
    pub each : Each (λ pair. IsKeyAt (both pages catalog) number relation which pair.1 pair.0) entries
    pub all : (tid : Tid) → HasBody pages number relation tid → IsAfter last tid ⊎ In tid (list_map (λ (pair : List ℕ × Tid). pair.1) entries)

  abbrev tids_in : List (List ℕ × Tid) → List Tid
  tids_in entries = list_map (λ (pair : List ℕ × Tid). pair.1) entries

  module _ {pages : PagesView} {last : Option Tid} {entries : List (List ℕ × Tid)} (so : AreGatheredTo pages last entries) (tid : Tid) (least : (other : Tid) → HasBody pages number relation other → IsAfter last other → IsBelow other tid → ⊥) where
    -- where each tuple stands, once the one with this identifier was looked at
    all_then : (others : List (List ℕ × Tid)) → (HasBody pages number relation tid → In tid (tids_in others)) → ((other : Tid) → In other (tids_in entries) → In other (tids_in others))
        → (other : Tid) → HasBody pages number relation other → IsAfter (Some tid) other ⊎ In other (tids_in others)
    all_then others here more other has = ⊎_elim
        (λ after. elim (cases_tid other tid) [
          | inl before ↦ absurd (least other has after before)
          | inr (inl same) ↦ inr (subst (λ (t : Tid). In t (tids_in others)) (sym same) (here (subst (HasBody pages number relation) same has)))
          | inr (inr beyond) ↦ inl beyond
        ])
        (λ is. inr (more other is)) (so.all other has)

    -- it is another relation's
    pub gathered_past : (HasBody pages number relation tid → ⊥) → AreGatheredTo pages (Some tid) entries
    gathered_past none = record { each = so.each; all = all_then entries (λ has. absurd (none has)) (λ other is. is) }

    -- or it has this key
    pub gathered_more : (key : List ℕ) → IsKeyAt (both pages catalog) number relation which tid key → AreGatheredTo pages (Some tid) (entries ++ (key, tid) ∷ [])
    gathered_more key is = record {
      each = each_append (λ pair. IsKeyAt (both pages catalog) number relation which pair.1 pair.0) entries ((key, tid) ∷ []) so.each (is, tt);
      all = all_then (entries ++ (key, tid) ∷ []) (λ has. at_end entries) (λ other is. in_front entries other is);
    }
      where
        at_end : (front : List (List ℕ × Tid)) → In tid (tids_in (front ++ (key, tid) ∷ []))
        at_end [] = inl refl
        at_end (p ∷ front) = inr (at_end front)

        in_front : (front : List (List ℕ × Tid)) (other : Tid) → In other (tids_in front) → In other (tids_in (front ++ (key, tid) ∷ []))
        in_front [] other is = absurd is
        in_front (p ∷ front) other (inl same) = inl same
        in_front (p ∷ front) other (inr is) = inr (in_front front other is)

  -- They are those of all tuples, none of them twice.
  pub record AreGathered (pages : PagesView) (entries : List (List ℕ × Tid)) : Type 0 where
    pub each : Each (λ pair. IsKeyAt (both pages catalog) number relation which pair.1 pair.0) entries
    pub apart : Pairwise (λ a b. a.1 ≢ b.1) entries
    pub all : (tid : Tid) → HasBody pages number relation tid → In tid (tids_in entries)

  -- behind the last tuple there is none
  gathered_all : {pages : PagesView} {last : Option Tid} {entries : List (List ℕ × Tid)} → AreApartTo last entries → AreGatheredTo pages last entries → ((tid : Tid) → HasBody pages number relation tid → IsAfter last tid → ⊥) → AreGathered pages entries
  gathered_all {entries = entries} apart so none = record {
    each = so.each;
    apart = apart.apart;
    all = λ tid has. ⊎_elim (λ after. absurd (none tid has after)) (λ is. is) (so.all tid has);
  }

  -- ---- the walk

  -- The pages were looked at, and these are the entries of the tuples that don't stand behind `last`.
  pub record Gathered (start now : PagesView) (last : Option Tid) (entries : List (List ℕ × Tid)) : Type 0 where
    pub most : ℕ
    pub step : PagesStep no_page most most start now
    pub are : IsTold start.disk → AreGatheredTo start last entries
    pub apart : AreApartTo last entries
    pub long : All (IsEntryLong (keys_by relation which)) entries
    pub spelled : All (λ pair. IsSpelledTid pair.1) entries
    pub within : IfSome last IsTid

  module _ {start now : PagesView} {last : Option Tid} {entries : List (List ℕ × Tid)} (so : Gathered start now last entries) where
    -- a tuple of the relation is one of the segment's
    next_of : IsTold start.disk → (tid : Tid) → HasBody start number relation tid → IsAfter last tid → IsNext (tuples_in now) relation.segment last tid
    next_of told tid has behind = record { behind = behind; live = subst (λ (o : Option (List ℕ)). is_some o ≡ true) (sym (body_still so.step told relation.segment tid ∙ has.there)) refl }

    pub gathered_end : IsTold start.disk → NoneIs (IsNext (tuples_in now) relation.segment last) → AreGathered start entries
    gathered_end told none = gathered_all so.apart (so.are told) (λ tid has after. none tid (next_of told tid has after))

    module _ (mid : PagesView) {asks outs : ℕ} (on : PagesStep no_page asks outs now mid) (tid : Tid) (behind : IsAfter last tid) (least : IsTold start.disk → IsLeast (IsNext (tuples_in now) relation.segment last) tid) where
      -- the tuple that was found has this key
      pub gathered_key : (key : List ℕ) → IsTold start.disk → IsKeyAt (both mid catalog) number relation which tid key → AreGatheredTo start (Some tid) (entries ++ (key, tid) ∷ [])
      gathered_key key told is = gathered_more (so.are told) tid (λ other has after before. (least told).least other before (next_of told other has after)) key (key_back (then so.step on) told tid key is)

      pub walked_past : (new : PagesView) {most : ℕ} → PagesStep no_page most most now new → IsTid tid → (IsTold start.disk → HasBody mid number relation tid → ⊥) → Gathered start new (Some tid) entries
      walked_past new {most = most} step is none = record {
        most = so.most + most;
        step = then so.step step;
        are = λ told. gathered_past (so.are told) tid (λ other has after before. (least told).least other before (next_of told other has after)) (λ has. none told (bytes_then (then so.step on) told tid has));
        apart = apart_past so.apart tid behind;
        long = so.long;
        spelled = so.spelled;
        within = is;
      }

      pub walked_key : (new : PagesView) {most : ℕ} → PagesStep no_page most most now new → IsTid tid → (key : List ℕ) → IsEntryLong (keys_by relation which) (key, tid) → (IsTold start.disk → IsKeyAt (both mid catalog) number relation which tid key) → Gathered start new (Some tid) (entries ++ (key, tid) ∷ [])
      walked_key new {most = most} step is key long found = record {
        most = so.most + most;
        step = then so.step step;
        are = λ told. gathered_key key told (found told);
        apart = apart_more so.apart tid behind key;
        long = All-push (IsEntryLong (keys_by relation which)) entries (key, tid) so.long long;
        spelled = All-push (λ pair. IsSpelledTid pair.1) entries (key, tid) so.spelled (record { page = is.page; slot = is.slot });
        within = is;
      }
