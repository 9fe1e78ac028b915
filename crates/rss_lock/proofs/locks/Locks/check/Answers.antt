use Rattle.std.proofs.Common.{◌≡◌, inl, inr, ℕ, length, refl, sym, ◌∙◌, subst, arith}
use Rattle.std.specs.Prelude.{Some, slice_get}
use Rattle.std.proofs.lemmas.Bool.{cases_lt}
use Rattle.std.proofs.lemmas.Option.{slice_get_read}
use Rattle.rss_base.specs.declared.need.Need.{Need}
use Rattle.rss_lock.specs.Table.{IsUnbarred, mode_of, locks_of}
use Rattle.rss_lock.proofs.Barring.{least_bars, disagrees_if}
use Rattle.rss_lock.proofs.Machine.{tells}
use Rattle.rss_lock.proofs.Firsts.{first_barred, first_none}
use Rattle.rss_lock.proofs.Single.{unbarred_if}
use Rattle.rss_lock.proofs.locks.Locks.check.Goals as goal

pub returns-then-is_alone-clause-none : goal.returns-then-is_alone-clause-none
returns-then-is_alone-clause-none c = first_none (locks_of c.args.self.now) (mode_of c.args.self.now) (tells c.args.self.now) c.args.transaction c.args.needs.now
    (λ k need below there. unbarred_if c.args.self.now c.args.transaction (c.is_alone.ensures.0 c.if-is_alone.true) need)

pub loop-place-init : goal.loop-place-init
loop-place-init c = λ k need below. absurd (omega arith)

pub returns-in-Some-clause-some : goal.returns-in-Some-clause-some
returns-in-Some-clause-some c = first_barred (locks_of c.args.self.now) (mode_of c.args.self.now) (tells c.args.self.now) c.args.transaction c.args.needs.now c.loop-place.place c.in-Some.holder c.index-needs-place.result
    (slice_get_read c.args.needs.now (length c.args.needs.now) c.loop-place.place c.index-needs-place.result refl c.loop-place-test.true c.index-needs-place.is)
    (least_bars (mode_of c.args.self.now) c.args.transaction c.in-Some.holder c.index-needs-place.result c.in-Some.ensures)
    c.loop-place.invariant

pub loop-place-preserved : goal.loop-place-preserved
loop-place-preserved c = λ k need below there.
    elim (cases_lt k c.loop-place.place) [
      | inl before ↦ c.loop-place.invariant k need before there
      | inr last ↦
          let at : k ≡ c.loop-place.place = omega arith in
          let this : slice_get c.args.needs.now c.loop-place.place ≡ Some c.index-needs-place.result = slice_get_read c.args.needs.now (length c.args.needs.now) c.loop-place.place c.index-needs-place.result refl c.loop-place-test.true c.index-needs-place.is in
          let found : Some c.index-needs-place.result ≡ Some need = sym this ∙ subst (λ (n : ℕ). slice_get c.args.needs.now n ≡ Some need) at there in
          let same : c.index-needs-place.result ≡ need = cc in
          subst (λ (n : Need). IsUnbarred (mode_of c.args.self.now) c.args.transaction n) same
          (λ other bars. c.in_default.ensures other (disagrees_if (mode_of c.args.self.now) c.args.transaction other c.index-needs-place.result bars))
    ]

pub returns-clause-none : goal.returns-clause-none
returns-clause-none c = first_none (locks_of c.args.self.now) (mode_of c.args.self.now) (tells c.args.self.now) c.args.transaction c.args.needs.now
    (λ k need below there. c.loop-place.invariant k need (omega arith) there)
