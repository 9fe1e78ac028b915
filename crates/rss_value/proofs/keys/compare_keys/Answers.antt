use Rattle.rss_value.proofs.KeyOrders.{keys_order, keys_same}
use Rattle.rss_value.proofs.keys.compare_keys.Goals as goal

pub returns-clause-values : goal.returns-clause-values
returns-clause-values c fields first second one other = cc (keys_order fields first second _ _ one other)

pub returns-clause-same : goal.returns-clause-same
returns-clause-same c fields first second one other = keys_same fields first second _ _ one other
