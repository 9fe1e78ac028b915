use Rattle.std.proofs.Common.{◌≡◌, subst, arith}
use Rattle.std.specs.Prelude.{None, option_copied}
use Rattle.rss_session.specs.Uniques.{IsNextUnique}
use Rattle.rss_session.proofs.NextUniques.{of_relation}
use Rattle.rss_rsi.specs.Locking.{given}
use Rattle.rss_rsi.specs.Parts.{parts_of, session_of}
use Rattle.rss_rsi.proofs.KeyLocks.{have_key, keys_all, keys_begun, keys_ended, keys_more}
use Rattle.rss_rsi.proofs.engine.Rss.push_keys.Goals as goal

pub loop-place-init : goal.loop-place-init
loop-place-init g c = record {
  keys = keys_begun (parts_of c.args.self.now) c.args.number (given (option_copied c.args.was) (option_copied c.args.to)) c.args.needs.now.items;
  few = omega arith;
  sayable = c.requires.sayable;
}

pub returns-in_default-clause-keys : goal.returns-in_default-clause-keys
returns-in_default-clause-keys g c =
    let none : c.next_unique.result ≡ None = cc in
    keys_ended c.loop-place.invariant.keys (subst (IsNextUnique (session_of c.args.self.now).store.catalog.listing c.args.number c.loop-place.after) none c.next_unique.ensures.next)

pub push_key-requires-clause-has : goal.push_key-requires-clause-has
push_key-requires-clause-has g c =
    let of = rw c.in-Some.is at c.next_unique.ensures.of in
    have_key (session_of c.args.self.now).store.catalog.listing c.args.number (option_copied c.args.was) c.requires.was c.image-entry.ensures.safe (of_relation c.image-entry.ensures.is of)

pub push_key-requires-in-loop-place-clause-has : goal.push_key-requires-in-loop-place-clause-has
push_key-requires-in-loop-place-clause-has g c =
    let of = rw c.in-Some.is at c.next_unique.ensures.of in
    have_key (session_of c.args.self.now).store.catalog.listing c.args.number (option_copied c.args.to) c.requires.to c.image-entry.ensures.safe (of_relation c.image-entry.ensures.is of)

pub loop-place-preserved : goal.loop-place-preserved
loop-place-preserved g c = record {
  keys = keys_more (option_copied c.args.was) (option_copied c.args.to) c.in-Some.image c.loop-place.invariant.keys (rw c.in-Some.is at c.next_unique.ensures.next) c.image-entry.ensures.is (rw c.in-Some.is at c.next_unique.ensures.of) c.in_ok-push_key.ensures.pushed c.in_ok-push_key-2.ensures.pushed;
  few = omega (arith, c.loop-place.invariant.few, c.in_ok-push_key.ensures.few, c.in_ok-push_key-2.ensures.few);
  sayable = c.in_ok-push_key-2.ensures.sayable;
}

pub returns-clause-keys : goal.returns-clause-keys
returns-clause-keys g c = keys_all (omega arith) c.loop-place.invariant.keys
