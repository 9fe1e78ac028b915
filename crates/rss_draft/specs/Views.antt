-- What a draft says.
use Rattle.std.specs.Prelude.{ℕ, Bool, ◌&&◌, if◌then◌else◌, nat_eq, List, Option, Some, None, option_map, map, Vec}
use Rattle.std.specs.Map.{lookup}
use Rattle.std.specs.Cmp.Lexicographic.{pointwise}
use Rattle.std.specs.Option.{option_eq}
use Rattle.rss_base.specs.declared.name.Name.{Name}
use Rattle.rss_base.specs.declared.tid.Tid.{Tid}
use Rattle.rss_base.specs.declared.value.Value.{Value}
use Rattle.rss_base.specs.contracts.value.ValuePartialEq.TheImpl as value_eq
use Rattle.rss_draft.specs.declared.draft.Standing.{Standing}
use Rattle.rss_draft.specs.declared.draft.ImageKey.{ImageKey}

-- tuples: the bytes of a tuple's values, or that there is no tuple.
-- chains: the tuples of a link's chain, by its parent.
-- standings: where a tuple stands in a link.
-- owners: which tuple has a key in a unique image, or that none has it.
-- counts: how many tuples a relation has.
-- Each may say nothing.
pub record DraftView : Type 0 where
  pub tuples : Name → Tid → Option (Option (List ℕ))
  pub chains : Name → Option Tid → Option (List Tid)
  pub standings : Name → Tid → Option Standing
  pub owners : Name → List Value → Option (Option Tid)
  pub counts : Name → Option ℕ

abbrev pub unchanged : DraftView
unchanged = record {
  tuples = λ relation tid. None;
  chains = λ link parent. None;
  standings = λ link child. None;
  owners = λ image key. None;
  counts = λ relation. None;
}

-- ---- the same, as `==` answers

abbrev pub same_name : Name → Name → Bool
same_name a b = pointwise nat_eq a.bytes b.bytes

abbrev pub same_tid : Tid → Tid → Bool
same_tid a b = nat_eq a.page b.page && nat_eq a.slot b.slot

abbrev pub same_parent : Option Tid → Option Tid → Bool
same_parent a b = option_eq same_tid a b

abbrev pub same_key : List Value → List Value → Bool
same_key a b = pointwise (value_eq.ghosts).eq a b

-- ---- one thing more is said

abbrev pub with_tuple : Name → Tid → Option (List ℕ) → DraftView → DraftView
with_tuple relation tid values draft = record draft {
  tuples = λ r t. if same_name relation r && same_tid tid t then Some values else draft.tuples r t;
}

abbrev pub with_chain : Name → Option Tid → List Tid → DraftView → DraftView
with_chain link parent tids draft = record draft {
  chains = λ l p. if same_name link l && same_parent parent p then Some tids else draft.chains l p;
}

abbrev pub with_standing : Name → Tid → Standing → DraftView → DraftView
with_standing link child standing draft = record draft {
  standings = λ l t. if same_name link l && same_tid child t then Some standing else draft.standings l t;
}

abbrev pub with_owner : Name → List Value → Option Tid → DraftView → DraftView
with_owner image key owner draft = record draft {
  owners = λ i k. if same_name image i && same_key key k then Some owner else draft.owners i k;
}

abbrev pub with_count : Name → ℕ → DraftView → DraftView
with_count relation count draft = record draft {
  counts = λ r. if same_name relation r then Some count else draft.counts r;
}

-- ---- in maps

-- the entries of its maps
pub record Entries : Type 0 where
  pub tuples : List ((Name × Tid) × Option (List ℕ))
  pub chains : List ((Name × Option Tid) × List Tid)
  pub standings : List ((Name × Tid) × Standing)
  pub owners : List (ImageKey × Option Tid)
  pub counts : List (Name × ℕ)

-- what they say
abbrev pub said : Entries → DraftView
said entries = record {
  tuples = λ relation tid. lookup (λ key. same_name relation key.0 && same_tid tid key.1) entries.tuples;
  chains = λ link parent. lookup (λ key. same_name link key.0 && same_parent parent key.1) entries.chains;
  standings = λ link child. lookup (λ key. same_name link key.0 && same_tid child key.1) entries.standings;
  owners = λ image key. lookup (λ k. same_name image k.image && same_key key k.values) entries.owners;
  counts = λ relation. lookup (λ name. same_name relation name) entries.counts;
}

-- the bytes of a tuple's values
abbrev pub bytes_of : {A : Type 0} → Option (Vec ℕ A) → Option (List ℕ)
bytes_of values = option_map (λ bytes. bytes.items) values

-- the same keys with other values
abbrev pub with_values : {K X Y : Type 0} → (X → Y) → List (K × X) → List (K × Y)
with_values f entries = map (λ entry. (entry.0, f entry.1)) entries
