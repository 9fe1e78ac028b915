use Rattle.std.proofs.Common.{List, Option, sym, subst}
use Rattle.std.specs.Prelude.{IfOk, option_copied, option_to_list}
use Rattle.std.proofs.lemmas.Result.{IfOk-weaker}
use Rattle.rss_base.specs.declared.value.Value.{Value}
use Rattle.rss_rsi.specs.Locking.{ListsAccess}
use Rattle.rss_rsi.specs.Parts.{parts_of}
use Rattle.rss_rsi.specs.declared.locking.Access.{Access}
use Rattle.rss_rsi.specs.declared.locking.Access.TheVariants.{Change}
use Rattle.rss_rsi.proofs.KeyLocks.{reads_access, misses_access, changes_access}
use Rattle.rss_rsi.proofs.engine.Rss.tuple_needs.Goals as goal

pub returns-in-Read-default-clause-lists : goal.returns-in-Read-default-clause-lists
returns-in-Read-default-clause-lists g c =
    let parts = parts_of c.args.self.now in
    let new = option_to_list (option_copied c.args.to) in
    subst (λ (access : Access). IfOk c.plain_needs.result (λ needs. ListsAccess parts access c.args.relation.now c.args.tid c.args.found.now new needs.items)) (sym c.in-Read-default.is-0)
    (IfOk-weaker c.plain_needs.result _ _ (λ needs lists. reads_access parts c.args.relation.now c.args.tid new c.args.found.now lists) c.plain_needs.ensures.lists)

pub returns-in-Change-None-clause-lists : goal.returns-in-Change-None-clause-lists
returns-in-Change-None-clause-lists g c =
    let parts = parts_of c.args.self.now in
    let new = option_to_list (option_copied c.args.to) in
    subst (λ (access : Access). IfOk c.plain_needs-in-Change-None.result (λ needs. ListsAccess parts access c.args.relation.now c.args.tid c.args.found.now new needs.items)) (sym c.in-Change-None.is-0)
    (subst (λ (found : Option (List Value)). IfOk c.plain_needs-in-Change-None.result (λ needs. ListsAccess parts Change c.args.relation.now c.args.tid found new needs.items)) (sym c.in-Change-None.is-1)
    (IfOk-weaker c.plain_needs-in-Change-None.result _ _ (λ needs lists. misses_access parts c.args.relation.now c.args.tid new lists) c.plain_needs-in-Change-None.ensures.lists))

pub returns-in_ok-push_keys-in-Change-Some-clause-lists : goal.returns-in_ok-push_keys-in-Change-Some-clause-lists
returns-in_ok-push_keys-in-Change-Some-clause-lists g c =
    let parts = parts_of c.args.self.now in
    let new = option_to_list (option_copied c.args.to) in
    let needs = c.push_keys.new.needs.items in
    subst (λ (access : Access). ListsAccess parts access c.args.relation.now c.args.tid c.args.found.now new needs) (sym c.in-Change-Some.is-0)
    (subst (λ (found : Option (List Value)). ListsAccess parts Change c.args.relation.now c.args.tid found new needs) (sym c.in-Change-Some.is-1)
    (changes_access parts c.args.relation.now c.args.tid c.args.number c.in-Change-Some.was (option_copied c.args.to) c.in_ok-needs-in-Change-Some.needs.items needs c.requires.known c.in_ok-needs-in-Change-Some.ensures.lists c.in_ok-push_keys-in-Change-Some.ensures.keys))
