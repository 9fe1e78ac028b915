-- The walk along the tuples of a segment that counts the rows of an image.
use Rattle.std.proofs.Common.{◌≡◌, ◌≢◌, ◌⊎◌, inl, inr, ⊎_elim, ℕ, zero, suc, ◌+◌, ◌≤◌, ◌^◌, true, false, List, [], ◌∷◌, ◌++◌, length, refl, sym, ◌∙◌, ap, subst, arith}
use Rattle.std.specs.Prelude.{Option, Some, None, is_some, IfSome, Result}
use Rattle.rss_base.specs.DiskRule.{IsTold}
use Rattle.rss_base.specs.Listings.{Listing}
use Rattle.rss_base.specs.Paged.{Held}
use Rattle.rss_base.specs.Steps.{PagesView, PagesStep, PagesCall, no_page}
use Rattle.rss_base.specs.Trees.{Pair}
use Rattle.rss_base.specs.declared.fault.PageFault.{PageFault}
use Rattle.rss_base.specs.declared.tid.Tid.{Tid}
use Rattle.rss_base.proofs.Steps.{rests, then, all_held}
use Rattle.rss_base.specs.Tids.{IsAfter, IsSpelledTid}
use Rattle.rss_levels.specs.Entries.{Pairwise}
use Rattle.rss_tuple.specs.Directory.{bodies_of}
use Rattle.rss_tuple.specs.Finding.{IsNext}
use Rattle.rss_tuple.specs.TupleSteps.{IsLeast, NoneIs, tuples_in}
use Rattle.rss_image.specs.Images.{HasImage}
use Rattle.rss_image.specs.declared.image.Image.{Image}
use Rattle.rss_model.proofs.Mixing.{In}
use Rattle.rss_entries.specs.Moving.{KeyKinds}
use Rattle.rss_entries.proofs.Orders.{each_of_in, in_contains}
use Rattle.rss_access.specs.Bodies.{IsKeyIn, IsSpelledIn}
use Rattle.rss_access.specs.Tuples.{body_at, FindsBody}
use Rattle.rss_access.specs.Checking.{LooksAt}
use Rattle.rss_access.specs.Rows.{IsRow, HasPair, LacksPair, HasRowAt, CountsRow, CountsRows, LacksRow, IsHad}
use Rattle.rss_access.proofs.AsMany.{contains_in}
use Rattle.rss_access.proofs.Bodied.{one_bytes}
use Rattle.rss_access.proofs.NextTuples.{IsTid, after_then, below_never, cases_tid, count_behind, fewer_behind}

-- what a call passes on
pub looks : {T : Type 0} {most : ℕ} {old new : PagesView} {result : Result T PageFault} → PagesCall no_page most most old new result → LooksAt old new result
looks {most = most} call = record { most = most; step = call.step; failed = call.failed; memory = call.memory }

-- where nothing was touched, there is the same to find
module _ {start now : PagesView} {asks outs : ℕ} (step : PagesStep no_page asks outs start now) (told : IsTold start.disk) where
  pub image_still : (image : Image) → HasImage image start.held → HasImage image now.held
  image_still image has = subst (HasImage image) (sym (all_held step told)) has

  pub body_still : (segment : ℕ) (tid : Tid) → body_at now segment tid ≡ body_at start segment tid
  body_still segment tid = ap (λ (h : Held). body_at (record now { held = h }) segment tid) (all_held step told)

  pub counts_back : (listing : Listing) (number : ℕ) (key : KeyKinds) (image : Image) (tid : Tid) (count : ℕ) → CountsRow listing number key image now.held tid count → CountsRow listing number key image start.held tid count
  counts_back listing number key image tid count counts = subst (λ (h : Held). CountsRow listing number key image h tid count) (all_held step told) counts

  pub all_back : (listing : Listing) (number : ℕ) (key : KeyKinds) (image : Image) (count : ℕ) → CountsRows listing number key image now.held count → CountsRows listing number key image start.held count
  all_back listing number key image count counts = subst (λ (h : Held). CountsRows listing number key image h count) (all_held step told) counts

  pub lacks_back : (listing : Listing) (number : ℕ) (key : KeyKinds) (image : Image) → LacksRow listing number key image now.held → LacksRow listing number key image start.held
  lacks_back listing number key image lacks = subst (λ (h : Held). LacksRow listing number key image h) (all_held step told) lacks

-- ---- what an identifier has

module _ (listing : Listing) (number : ℕ) (key : KeyKinds) (image : Image) (view : PagesView) (tid : Tid) where
  -- no tuple of the relation
  pub none_there : FindsBody image.segment number tid view false [] → CountsRow listing number key image view.held tid 0
  none_there finds = record {
    none = λ zero_is pair at row. finds.none refl (row.is.stands.holds.prefix ++ row.is.bytes) (ap (bodies_of view.held image.segment) (sym at) ∙ row.there ∙ ap Some row.is.stands.holds.is);
    one = λ some. absurd (omega (arith, some));
  }

  module _ {body : List ℕ} (finds : FindsBody image.segment number tid view true body) where
    there : bodies_of view.held image.segment tid ≡ Some body
    there = (finds.some refl).1

    -- one whose bytes spell no values
    pub none_spelled : ((bytes : List ℕ) → IsSpelledIn listing number key.fields body bytes → ⊥) → CountsRow listing number key image view.held tid 0
    none_spelled none = record {
      none = λ zero_is pair at row.
          let same : Some row.body ≡ Some body = sym row.there ∙ ap (bodies_of view.held image.segment) at ∙ there in
          let is : row.body ≡ body = cc in
          none row.is.bytes (subst (λ (b : List ℕ). IsSpelledIn listing number key.fields b row.is.bytes) is row.is.stands);
      one = λ some. absurd (omega (arith, some));
    }

    module _ {made : List ℕ} (is : IsKeyIn listing number key body made) where
      abbrev pair_made : Pair
      pair_made = record { key = made; tid = tid }

      row_made : IsRow listing number key image.segment view.held pair_made
      row_made = record { body = body; there = there; is = is }

      -- or one whose pair the image has, or lacks
      pub one_there : HasPair image view.held pair_made → CountsRow listing number key image view.held tid 1
      one_there has = record {
        none = λ zero_is. absurd (omega (arith, zero_is));
        one = λ some. record { pair = pair_made; at = refl; row = row_made; has = has };
      }

      pub lacks_there : LacksPair image view.held pair_made → LacksRow listing number key image view.held
      lacks_there lacks = record { pair = pair_made; row = row_made; lacks = lacks }

-- ---- rows

module _ (listing : Listing) (number : ℕ) (key : KeyKinds) (image : Image) (held : Held) where
  abbrev Row : Pair → Type 0
  Row pair = IsRow listing number key image.segment held pair

  -- an identifier has one row at most
  one_row : (a b : Pair) → Row a → Row b → a.tid ≡ b.tid → a ≡ b
  one_row a b one other same =
      let bodies : Some one.body ≡ Some other.body = sym one.there ∙ ap (bodies_of held image.segment) same ∙ other.there in
      let body : one.body ≡ other.body = cc in
      let bytes : one.is.bytes ≡ other.is.bytes = one_bytes one.is.stands.holds (record { prefix = other.is.stands.holds.prefix; long = other.is.stands.holds.long; is = body ∙ other.is.stands.holds.is }) in
      let values = other.is.stands.spelled in
      let keys : a.key ≡ b.key = one.is.is values.0 (record { fit = values.1.fit; storable = values.1.storable; same = bytes ∙ values.1.same }) ∙ sym (other.is.is values.0 values.1) in
      λ i. record { key = keys i; tid = same i }

  -- a row that was seen
  pub record IsSeenRow (last : Option Tid) (pair : Pair) : Type 0 where
    pub had : IsHad listing number key image held pair
    pub past : IsAfter last pair.tid → ⊥

  -- These rows were seen: all but those that stand behind `last`.
  pub record SeenRows (last : Option Tid) (count : ℕ) : Type 0 where
    pub rows : List Pair
    pub each : (pair : Pair) → In pair rows → IsSeenRow last pair
    pub all : (pair : Pair) → Row pair → IsAfter last pair.tid ⊎ In pair rows
    pub apart : Pairwise (λ a b. a ≢ b) rows
    pub counted : count ≡ length rows

  seen_none : SeenRows None 0
  seen_none = record { rows = []; each = λ pair is. absurd is; all = λ pair row. inl tt; apart = tt; counted = refl }

  -- where none is left, they are all
  seen_all : (last : Option Tid) (count : ℕ) → SeenRows last count → ((pair : Pair) → Row pair → IsAfter last pair.tid → ⊥) → CountsRows listing number key image held count
  seen_all last count seen none = record {
    rows = seen.rows;
    each = λ pair there. (seen.each pair (contains_in seen.rows pair there)).had;
    all = λ pair row. in_contains seen.rows pair (⊎_elim (λ (behind : IsAfter last pair.tid). absurd (none pair row behind)) (λ (there : In pair seen.rows). there) (seen.all pair row));
    apart = seen.apart;
    counted = seen.counted;
  }

  module _ (last : Option Tid) (count : ℕ) (tid : Tid) (seen : SeenRows last count) (behind : IsAfter last tid) (is : IsTid tid) (next : (pair : Pair) → Row pair → IsAfter last pair.tid → (pair.tid ≡ tid) ⊎ IsAfter (Some tid) pair.tid) where
    later : (pair : Pair) → (IsAfter last pair.tid → ⊥) → IsAfter (Some tid) pair.tid → ⊥
    later pair past after = past (after_then last tid pair.tid behind after)

    -- the next identifier has no row
    seen_other : ((pair : Pair) → pair.tid ≡ tid → Row pair → ⊥) → SeenRows (Some tid) count
    seen_other none = record {
      rows = seen.rows;
      each = λ pair there. record { had = (seen.each pair there).had; past = later pair (seen.each pair there).past };
      all = λ pair row. ⊎_elim
          (λ (ahead : IsAfter last pair.tid). ⊎_elim (λ (here : pair.tid ≡ tid). absurd (none pair here row)) (λ (after : IsAfter (Some tid) pair.tid). inl after) (next pair row ahead))
          (λ (there : In pair seen.rows). inr there) (seen.all pair row);
      apart = seen.apart;
      counted = seen.counted;
    }

    -- or it has one
    seen_one : HasRowAt listing number key image held tid → SeenRows (Some tid) (count + 1)
    seen_one one = record {
      rows = one.pair ∷ seen.rows;
      each = λ pair there. ⊎_elim
          (λ (here : one.pair ≡ pair). subst (IsSeenRow (Some tid)) here mine)
          (λ (more : In pair seen.rows). let other = seen.each pair more in let was : IsSeenRow (Some tid) pair = record { had = other.had; past = later pair other.past } in was)
          there;
      all = λ pair row. ⊎_elim
          (λ (ahead : IsAfter last pair.tid). ⊎_elim
          (λ (here : pair.tid ≡ tid). inr (inl (one_row one.pair pair one.row row (one.at ∙ sym here))))
          (λ (after : IsAfter (Some tid) pair.tid). inl after) (next pair row ahead))
          (λ (there : In pair seen.rows). inr (inr there)) (seen.all pair row);
      apart = (each_of_in (λ b. one.pair ≢ b) seen.rows (λ b there same. (seen.each b there).past (subst (IsAfter last) (sym one.at ∙ ap (λ (p : Pair). p.tid) same) behind)), seen.apart);
      counted = omega (arith, seen.counted);
    }
      where
        mine : IsSeenRow (Some tid) one.pair
        mine = record {
          had = record { tid = subst IsSpelledTid (sym one.at) (record { page = is.page; slot = is.slot }); row = one.row; has = one.has };
          past = λ after. below_never tid (subst (IsAfter (Some tid)) one.at after);
        }

-- The pages were looked at, and the rows seen that don't stand behind `last`: so many.
pub record Looked (listing : Listing) (number : ℕ) (key : KeyKinds) (image : Image) (start now : PagesView) (last : Option Tid) (count : ℕ) : Type 0 where
  pub most : ℕ
  pub step : PagesStep no_page most most start now
  pub seen : IsTold start.disk → SeenRows listing number key image start.held last count
  pub few : count + count_behind last ≤ 2 ^ 48 + 1
  pub within : IfSome last IsTid

pub looked_none : (listing : Listing) (number : ℕ) (key : KeyKinds) (image : Image) (start : PagesView) → Looked listing number key image start start None 0
looked_none listing number key image start = record { most = 0; step = rests start; seen = λ told. seen_none listing number key image start.held; few = omega arith; within = tt }

module _ {listing : Listing} {number : ℕ} {key : KeyKinds} {image : Image} {start now : PagesView} {last : Option Tid} {count : ℕ} (so : Looked listing number key image start now last count) where
  -- a row is that of a tuple
  live : IsTold start.disk → (pair : Pair) → IsRow listing number key image.segment start.held pair → IsAfter last pair.tid → IsNext (tuples_in now) image.segment last pair.tid
  live told pair row behind = record { behind = behind; live = subst (λ (o : Option (List ℕ)). is_some o ≡ true) (sym (body_still so.step told image.segment pair.tid ∙ row.there)) refl }

  -- behind the last tuple there is none
  pub looked_all : IsTold start.disk → NoneIs (IsNext (tuples_in now) image.segment last) → CountsRows listing number key image start.held count
  looked_all told none = seen_all listing number key image start.held last count (so.seen told) (λ pair row behind. none pair.tid (live told pair row behind))

  -- the rows of the next one
  pub looked_more : (mid new : PagesView) {asks outs most : ℕ} → PagesStep no_page asks outs now mid → PagesStep no_page most most now new → (tid : Tid) (rows : ℕ) → IsTid tid → IsAfter last tid → rows ≤ 1
      → (IsTold start.disk → IsLeast (IsNext (tuples_in now) image.segment last) tid) → (IsTold start.disk → CountsRow listing number key image mid.held tid rows) → Looked listing number key image start new (Some tid) (count + rows)
  looked_more mid new {most = most} on step tid rows is behind few first counts = record {
    most = so.most + most;
    step = then so.step step;
    seen = λ told. now_seen told rows few (counts_back (then so.step on) told listing number key image tid rows (counts told));
    few = omega (arith, so.few, few, fewer_behind last tid so.within is behind);
    within = is;
  }
    where
      next : IsTold start.disk → (pair : Pair) → IsRow listing number key image.segment start.held pair → IsAfter last pair.tid → (pair.tid ≡ tid) ⊎ IsAfter (Some tid) pair.tid
      next told pair row ahead = elim (cases_tid pair.tid tid) [
        | inl before ↦ absurd ((first told).least pair.tid before (live told pair row ahead))
        | inr (inl same) ↦ inl same
        | inr (inr after) ↦ inr after
      ]

      now_seen : IsTold start.disk → (n : ℕ) → n ≤ 1 → CountsRow listing number key image start.held tid n → SeenRows listing number key image start.held (Some tid) (count + n)
      now_seen told zero low is_so = subst (SeenRows listing number key image start.held (Some tid)) (omega arith) (seen_other listing number key image start.held last count tid (so.seen told) behind is (next told) (is_so.none refl))
      now_seen told (suc zero) low is_so = seen_one listing number key image start.held last count tid (so.seen told) behind is (next told) (is_so.one (omega arith))
      now_seen told (suc (suc n)) low is_so = absurd (omega (arith, low))
