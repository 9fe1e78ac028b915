-- The chain of a link in which a tuple stands, as it is found among all contents.
use Rattle.std.proofs.Common.{◌≡◌, sym, ◌∙◌, ap}
use Rattle.std.specs.Prelude.{Option, Some, None, option_map, ◌&&◌, find}
use Rattle.std.specs.FinMap as finite
use Rattle.rss_base.specs.declared.name.Name.{Name}
use Rattle.rss_base.specs.declared.tid.Tid.{Tid}
use Rattle.rss_base.specs.declared.item.Item.{Item}
use Rattle.rss_base.specs.declared.item.Item.TheVariants.{Chain}
use Rattle.rss_model.specs.Items.{Content, is_chain_of, parent_of}
use Rattle.rss_model.specs.Tables.{Contents}
use Rattle.rss_model.specs.Chains.{tuples_in, stands_in, has_tuple, chain_with}
use Rattle.rss_model.proofs.Codes.{item_total, item_apart}
use Rattle.rss_model.proofs.ChainKeeping.{chain_found}
use Rattle.rss_model.proofs.SeenAlike.{got_in, find_same}
use Rattle.rss_plain.specs.Tests.{is_chain_with}
use Rattle.rss_plain.proofs.Lists.{find_map}

module _ (contents : Contents) (link : Name) (child : Tid) where
  abbrev found : Option (Item × Content)
  found = find (is_chain_with link child) (finite.entries contents)

  found_item : chain_with contents link child ≡ option_map (λ e. e.0) found
  unfolding chain_with
  found_item =
      find_map (λ (e : Item × Content). e.0) (has_tuple contents link child) (finite.entries contents)
      ∙ ap (option_map (λ (e : Item × Content). e.0))
      (find_same (λ e. has_tuple contents link child e.0) (is_chain_with link child) (finite.entries contents)
      (λ e is. ap (λ (o : Option Content). is_chain_of link e.0 && stands_in child (tuples_in o))
      (got_in item_total item_apart contents e.0 e.1 is)))

  -- it is the chain of the parent that it has
  pub found_parent : (parent : Option (Option Tid)) → parent ≡ option_map (λ e. parent_of e.0) found
      → chain_with contents link child ≡ option_map (λ p. Chain link p) parent
  found_parent parent is = by found found_item ∙ ap (option_map (λ p. Chain link p)) (sym is)
    where
      by : (o : Option (Item × Content)) → chain_with contents link child ≡ option_map (λ e. e.0) o
          → chain_with contents link child ≡ option_map (λ p. Chain link p) (option_map (λ e. parent_of e.0) o)
      by None e = e
      by (Some held) e =
          let at = chain_found contents link child held.0 e in
          e ∙ ap (λ (i : Item). Some i) (at.1 ∙ ap (λ (i : Item). Chain link (parent_of i)) (sym at.1))
