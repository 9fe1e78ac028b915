use Rattle.std.proofs.Common.{◌≡◌, ℕ, suc, List, [], ◌∷◌, length, sym, ◌∙◌, ap, subst, arith}
use Rattle.rss_base.specs.declared.need.Need.{Need}
use Rattle.rss_lock.specs.Table.{Modes, AllAgree, HoldersAreFew, Table, mode_of, locks_of}
use Rattle.rss_lock.proofs.Granting.{IsFree, first_free, rest_free, given_few}
use Rattle.rss_lock.proofs.Machine.{given_all, tells, few_of, granted_locks, apart_of}
use Rattle.rss_lock.proofs.Firsts.{all_free}
use Rattle.rss_lock.proofs.locks.Locks.take.Goals as goal

pub loop-need-init : goal.loop-need-init
loop-need-init c =
    let all : c.into_iter-need-iterator.result.rest.items ≡ c.args.needs.items = c.into_iter-need-iterator.ensures.into_iter_gives.0 in
    let long = ap (λ (l : List Need). length l) all in
    let count = c.args.needs.ok in
    record {
      taken = ap (λ (l : List Need). given_all c.args.transaction l (mode_of c.args.self.now)) all;
      free = subst (IsFree (mode_of c.args.self.now) c.args.transaction) (sym all) (all_free (locks_of c.args.self.now) (mode_of c.args.self.now) (tells c.args.self.now) c.args.transaction c.args.needs.items c.requires.free);
      room = omega arith;
      kept = omega arith;
      few = few_of c.args.self.now c.args.transaction c.requires.few;
      agreed = subst (λ (t : Table). AllAgree (mode_of t)) c.self.view_is c.self.invariant.agreed;
    }

pub grant-requires-clause-free : goal.grant-requires-clause-free
grant-requires-clause-free c = first_free (mode_of c.loop-need.self) c.args.transaction c.loop-need.need-iterator.rest.items c.in-Some.need c.next.new.self.rest.items c.in-Some.ensures.steps.0 c.loop-need.invariant.free

pub loop-need-preserved : goal.loop-need-preserved
loop-need-preserved c =
    let items : c.loop-need.need-iterator.rest.items ≡ c.in-Some.need ∷ c.next.new.self.rest.items = c.in-Some.ensures.steps.0 in
    let long : length c.loop-need.need-iterator.rest.items ≡ suc (length c.next.new.self.rest.items) = ap (λ (l : List Need). length l) items in
    let left = c.grant.ensures.room in
    let room = c.loop-need.invariant.room in
    let kept = c.loop-need.invariant.kept in
    record {
      taken = ap (given_all c.args.transaction c.next.new.self.rest.items) c.grant.ensures.granted ∙ sym (ap (λ (l : List Need). given_all c.args.transaction l (mode_of c.loop-need.self)) items) ∙ c.loop-need.invariant.taken;
      free = subst (λ (m : Modes). IsFree m c.args.transaction c.next.new.self.rest.items) (sym c.grant.ensures.granted) (rest_free (mode_of c.loop-need.self) c.args.transaction c.loop-need.need-iterator.rest.items c.in-Some.need c.next.new.self.rest.items items c.loop-need.invariant.free);
      room = omega arith;
      kept = omega arith;
      few = subst (λ (m : Modes). HoldersAreFew m c.args.transaction) (sym c.grant.ensures.granted) (given_few (mode_of c.loop-need.self) c.args.transaction c.in-Some.need c.loop-need.invariant.few);
      agreed = c.grant.ensures.agreed;
    }

none_left : (t : ℕ) (needs : List Need) (mode all : Modes) → length needs ≡ 0 → given_all t needs mode ≡ all → mode ≡ all
none_left t [] mode all none is = is
none_left t (need ∷ needs) mode all none is = absurd (omega arith)

pub returns-clause-taken : goal.returns-clause-taken
returns-clause-taken c =
    let none : c.loop-need.need-iterator.rest.len ≡ 0 = c.in-None.ensures.steps.0 in
    let count = c.loop-need.need-iterator.rest.ok in
    granted_locks c.args.self.now c.loop-need.self c.args.transaction c.args.needs.items
    (none_left c.args.transaction c.loop-need.need-iterator.rest.items (mode_of c.loop-need.self) _ (omega arith) c.loop-need.invariant.taken)

pub returns-clause-apart : goal.returns-clause-apart
returns-clause-apart c = apart_of c.loop-need.self c.loop-need.invariant.agreed
