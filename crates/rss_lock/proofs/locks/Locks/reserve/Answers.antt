use Rattle.std.proofs.Common.{◌∙◌, ap, rules}
use Rattle.std.specs.HashMap.{spare}
use Rattle.std.proofs.lemmas.Map.Made.{filter_same_pairs}
use Rattle.rss_lock.specs.Table.{mode_of, is_held}
use Rattle.rss_lock.proofs.Telling.{moved_told, moved_table}
use Rattle.rss_lock.proofs.Machine.{kept_locks}
use Rattle.rss_lock.proofs.locks.Locks.reserve.Goals as goal

pub invariant_of-self : goal.invariant_of-self
invariant_of-self c =
    let kept = filter_same_pairs _ (λ e. is_held c.self.inside.holders.places e.1) _ (λ k v b w f t. search rules) _ _ c.retain.ensures.filtered in
    moved_table c.self.inside.holders.places c.self.inside.firsts c.self.inside.items.entries c.retain.new.self.entries c.reserve.new.self.entries (spare c.self.inside.items) (spare c.reserve.new.self) c.retain.ensures.was_unique kept c.reserve.ensures.entries.2 c.self.invariant

pub invariant_of-self-in_err-reserve : goal.invariant_of-self-in_err-reserve
invariant_of-self-in_err-reserve c =
    let kept = filter_same_pairs _ (λ e. is_held c.self.inside.holders.places e.1) _ (λ k v b w f t. search rules) _ _ c.retain.ensures.filtered in
    moved_table c.self.inside.holders.places c.self.inside.firsts c.self.inside.items.entries c.retain.new.self.entries c.reserve.new.self.entries (spare c.self.inside.items) (spare c.reserve.new.self) c.retain.ensures.was_unique kept c.reserve.ensures.entries.2 c.self.invariant

pub returns-in_err-reserve-clause-same : goal.returns-in_err-reserve-clause-same
returns-in_err-reserve-clause-same c =
    let kept = filter_same_pairs _ (λ e. is_held c.self.inside.holders.places e.1) _ (λ k v b w f t. search rules) _ _ c.retain.ensures.filtered in
    kept_locks c.args.self.now _ (moved_told c.self.inside.holders.places c.self.inside.firsts c.self.inside.items.entries c.retain.new.self.entries c.reserve.new.self.entries (spare c.self.inside.items) (spare c.reserve.new.self) c.retain.ensures.was_unique kept c.reserve.ensures.entries.2
    ∙ ap mode_of c.self.view_is)

pub returns-in_ok-reserve-clause-same : goal.returns-in_ok-reserve-clause-same
returns-in_ok-reserve-clause-same c =
    let kept = filter_same_pairs _ (λ e. is_held c.self.inside.holders.places e.1) _ (λ k v b w f t. search rules) _ _ c.retain.ensures.filtered in
    kept_locks c.args.self.now _ (moved_told c.self.inside.holders.places c.self.inside.firsts c.self.inside.items.entries c.retain.new.self.entries c.reserve.new.self.entries (spare c.self.inside.items) (spare c.reserve.new.self) c.retain.ensures.was_unique kept c.reserve.ensures.entries.2
    ∙ ap mode_of c.self.view_is)
