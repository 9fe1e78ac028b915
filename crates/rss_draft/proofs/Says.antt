-- What maps say, and what they say as one thing more is put.
use Rattle.std.proofs.Common.{◌≡◌, Bool, true, false, cond, List, [], ◌∷◌, refl, sym, ◌∙◌, ap}
use Rattle.std.specs.Prelude.{ℕ, ◌&&◌, Option, Some, option_map, Vec}
use Rattle.std.specs.Map.{lookup}
use Rattle.rss_base.specs.declared.name.Name.{Name}
use Rattle.rss_base.specs.declared.tid.Tid.{Tid}
use Rattle.rss_draft.specs.declared.draft.Standing.{Standing}
use Rattle.rss_draft.specs.declared.draft.ImageKey.{ImageKey}
use Rattle.rss_draft.specs.Views.{Entries, said, same_name, same_tid, same_parent, same_key, bytes_of, with_values, with_tuple, with_chain, with_standing, with_owner, with_count}

-- ---- other values at the same keys

one_of : {X Y : Type 0} (f : X → Y) (b : Bool) (x : X) (more : Option Y) (others : Option X) → more ≡ option_map f others → cond b (Some (f x)) more ≡ option_map f (cond b (Some x) others)
one_of f true x more others is = refl
one_of f false x more others is = is

more_said : {X Y : Type 0} (f : X → Y) (b : Bool) (x : X) (now was : Option X) → now ≡ cond b (Some x) was → option_map f now ≡ cond b (Some (f x)) (option_map f was)
more_said f true x now was is = ap (option_map f) is
more_said f false x now was is = ap (option_map f) is

pub looked_up : {K X Y : Type 0} (f : X → Y) (test : K → Bool) (entries : List (K × X)) → lookup test (with_values f entries) ≡ option_map f (lookup test entries)
looked_up f test [] = refl
looked_up f test (e ∷ es) = one_of f (test e.0) e.1 (lookup test (with_values f es)) (lookup test es) (looked_up f test es)

says_more : {K X Y : Type 0} (f : X → Y) (test : K → Bool) (b : Bool) (x : X) (was now : List (K × X)) → lookup test now ≡ cond b (Some x) (lookup test was)
    → lookup test (with_values f now) ≡ cond b (Some (f x)) (lookup test (with_values f was))
says_more f test b x was now is =
    looked_up f test now ∙ more_said f b x (lookup test now) (lookup test was) is
    ∙ (λ i. cond b (Some (f x)) (sym (looked_up f test was) i))

-- ---- one thing more is put

pub tuple_more : {A : Type 0} (relation : Name) (tid : Tid) (values : Option (Vec ℕ A)) (was now : List ((Name × Tid) × Option (Vec ℕ A))) (entries : Entries) → entries.tuples ≡ with_values bytes_of was
    → ((q : Name × Tid) → lookup (λ key. same_name q.0 key.0 && same_tid q.1 key.1) now ≡ cond (same_name relation q.0 && same_tid tid q.1) (Some values) (lookup (λ key. same_name q.0 key.0 && same_tid q.1 key.1) was))
    → said (record entries { tuples = with_values bytes_of now }) ≡ with_tuple relation tid (bytes_of values) (said entries)
tuple_more relation tid values was now entries is updates = λ i. record (said entries) {
  tuples = λ r t. (says_more bytes_of (λ key. same_name r key.0 && same_tid t key.1) (same_name relation r && same_tid tid t) values was now (updates (r, t))
      ∙ (λ j. cond (same_name relation r && same_tid tid t) (Some (bytes_of values)) (lookup (λ key. same_name r key.0 && same_tid t key.1) (sym is j)))) i;
}

abbrev items_of : {A : Type 0} → Vec Tid A → List Tid
items_of tids = tids.items

pub chain_more : {A : Type 0} (link : Name) (parent : Option Tid) (tids : Vec Tid A) (was now : List ((Name × Option Tid) × Vec Tid A)) (entries : Entries) → entries.chains ≡ with_values items_of was
    → ((q : Name × Option Tid) → lookup (λ key. same_name q.0 key.0 && same_parent q.1 key.1) now ≡ cond (same_name link q.0 && same_parent parent q.1) (Some tids) (lookup (λ key. same_name q.0 key.0 && same_parent q.1 key.1) was))
    → said (record entries { chains = with_values items_of now }) ≡ with_chain link parent tids.items (said entries)
chain_more link parent tids was now entries is updates = λ i. record (said entries) {
  chains = λ l p. (says_more items_of (λ key. same_name l key.0 && same_parent p key.1) (same_name link l && same_parent parent p) tids was now (updates (l, p))
      ∙ (λ j. cond (same_name link l && same_parent parent p) (Some tids.items) (lookup (λ key. same_name l key.0 && same_parent p key.1) (sym is j)))) i;
}

pub standing_more : (link : Name) (child : Tid) (standing : Standing) (now : List ((Name × Tid) × Standing)) (entries : Entries)
    → ((q : Name × Tid) → lookup (λ key. same_name q.0 key.0 && same_tid q.1 key.1) now ≡ cond (same_name link q.0 && same_tid child q.1) (Some standing) (lookup (λ key. same_name q.0 key.0 && same_tid q.1 key.1) entries.standings))
    → said (record entries { standings = now }) ≡ with_standing link child standing (said entries)
standing_more link child standing now entries updates = λ i. record (said entries) { standings = λ l t. updates (l, t) i }

pub owner_more : (key : ImageKey) (owner : Option Tid) (now : List (ImageKey × Option Tid)) (entries : Entries)
    → ((q : ImageKey) → lookup (λ k. same_name q.image k.image && same_key q.values k.values) now ≡ cond (same_name key.image q.image && same_key key.values q.values) (Some owner) (lookup (λ k. same_name q.image k.image && same_key q.values k.values) entries.owners))
    → said (record entries { owners = now }) ≡ with_owner key.image key.values owner (said entries)
owner_more key owner now entries updates = λ i. record (said entries) { owners = λ image values. updates (record { image = image; values = values }) i }

pub count_more : (relation : Name) (count : ℕ) (now : List (Name × ℕ)) (entries : Entries)
    → ((q : Name) → lookup (λ name. same_name q name) now ≡ cond (same_name relation q) (Some count) (lookup (λ name. same_name q name) entries.counts))
    → said (record entries { counts = now }) ≡ with_count relation count (said entries)
count_more relation count now entries updates = λ i. record (said entries) { counts = λ r. updates r i }
