use Rattle.std.proofs.Common.{ℕ, length, take, sym, ◌∙◌, ap, subst}
use Rattle.std.specs.Prelude.{All}
use Rattle.rss_base.specs.Listings.{IsFieldNumber}
use Rattle.rss_base.specs.TupleTypes.{chosen}
use Rattle.rss_base.specs.declared.item.Item.TheVariants.{Key}
use Rattle.rss_value.proofs.Fitting.{length-fitting}
use Rattle.rss_rsi.specs.Locking.{IsSayable}
use Rattle.rss_rsi.proofs.Sayable.{key_sayable}
use Rattle.rss_rsi.proofs.keys.key_need.Goals as goal

pub key_values-requires : goal.key_values-requires
key_values-requires c =
    subst (λ (n : ℕ). All (IsFieldNumber (length c.args.tuple.now)) (take n c.args.image.now.fields)) (sym c.from.ensures)
    (subst (λ (n : ℕ). All (IsFieldNumber n) (take c.args.image.now.count c.args.image.now.fields)) (sym (length-fitting c.requires.fields c.args.tuple.now c.requires.fit)) c.requires.within)

pub returns-clause-sayable : goal.returns-clause-sayable
returns-clause-sayable c =
    subst IsSayable (sym (c.key_item.ensures.is ∙ ap (Key c.args.image.now.name) (c.in_ok-key.ensures ∙ ap (λ (n : ℕ). chosen (take n c.args.image.now.fields) c.args.tuple.now) c.from.ensures)))
    (key_sayable c.args.image.now c.args.tuple.now c.requires c.key_item.ensures.long)
