-- What a node that is lent says of the node that lends it.
use Rattle.std.proofs.Common.{◌≡◌, ◌<◌, ◌≤◌, ◌+◌, ◌-◌, ℕ, Bool, List, length, ap, subst, ◌∙◌}
use Rattle.rss_base.specs.Nodes.{node_most}
use Rattle.rss_node.specs.Nodes.{NodeView, IsPassed, entry_at}

module _ {lent node : NodeView} (same : lent ≡ node) where
  pub lent_count : {count : ℕ} → count ≡ length lent.entries → count ≡ length node.entries
  lent_count is = is ∙ ap (λ (n : NodeView). length n.entries) same

  pub lent_few : length lent.entries ≤ node_most lent.width → length node.entries ≤ node_most node.width
  lent_few few = subst (λ (n : NodeView). length n.entries ≤ node_most n.width) same few

  pub lent_width : {width : ℕ} → width ≡ lent.width → width ≡ node.width
  lent_width is = is ∙ ap (λ (n : NodeView). n.width) same

  pub lent_next : {next : ℕ} → next ≡ lent.next → next ≡ node.next
  lent_next is = is ∙ ap (λ (n : NodeView). n.next) same

  pub lent_pair : (at : ℕ) {pair : List ℕ} → pair ≡ (entry_at lent.entries at).pair → pair ≡ (entry_at node.entries at).pair
  lent_pair at is = is ∙ ap (λ (n : NodeView). (entry_at n.entries at).pair) same

  pub lent_long : {long : ℕ} → long ≡ lent.width + 6 → long ≡ node.width + 6
  lent_long is = is ∙ ap (λ (n : NodeView). n.width + 6) same

  pub lent_child : (at : ℕ) {child : ℕ} → child ≡ (entry_at lent.entries at).child → child ≡ (entry_at node.entries at).child
  lent_child at is = is ∙ ap (λ (n : NodeView). (entry_at n.entries at).child) same

  -- ---- the place that a search finds

  pub lent_within : (at : ℕ) → at ≤ length lent.entries → at ≤ length node.entries
  lent_within at is = subst (λ (n : NodeView). at ≤ length n.entries) same is

  pub lent_before : (beyond : Bool) (at : ℕ) (pair : List ℕ) → (0 < at → IsPassed beyond (entry_at lent.entries (at - 1)).pair pair) → 0 < at → IsPassed beyond (entry_at node.entries (at - 1)).pair pair
  lent_before beyond at pair is = subst (λ (n : NodeView). 0 < at → IsPassed beyond (entry_at n.entries (at - 1)).pair pair) same is

  pub lent_here : (beyond : Bool) (at : ℕ) (pair : List ℕ) → (at < length lent.entries → IsPassed beyond (entry_at lent.entries at).pair pair → ⊥) → at < length node.entries → IsPassed beyond (entry_at node.entries at).pair pair → ⊥
  lent_here beyond at pair is = subst (λ (n : NodeView). at < length n.entries → IsPassed beyond (entry_at n.entries at).pair pair → ⊥) same is
