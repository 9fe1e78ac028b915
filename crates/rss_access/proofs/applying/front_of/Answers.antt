use Rattle.rss_access.specs.Edits.{told_by}
use Rattle.rss_access.proofs.applying.front_of.Goals as goal
use Rattle.rss_access.proofs.Fronts.{found_as, not_found_as}
use Rattle.rss_tuple.proofs.Located.{said_of}

pub returns-in_default-clause-some : goal.returns-in_default-clause-some
returns-in_default-clause-some g c =
    found_as (told_by c.args.change) c.front_in.result (λ told. (rw c.in_default.is at c.in_ok-at.ensures.found) told) c.front_in.ensures.some

pub returns-in_default-clause-none : goal.returns-in_default-clause-none
returns-in_default-clause-none g c = λ none told.
    not_found_as ((rw c.in_default.is at c.in_ok-at.ensures.found) told) (c.front_in.ensures.none none)

pub returns-clause-some : goal.returns-clause-some
returns-clause-some g c =
    found_as (told_by c.args.change) c.front_in-2.result
    (λ told. said_of ((rw c.in-Some.is at c.in_ok-at.ensures.found) told) (c.body.ensures.are (c.in_ok-at.ensures.did.below.step.passes.leaves.told.0 told))) c.front_in-2.ensures.some

pub returns-clause-none : goal.returns-clause-none
returns-clause-none g c = λ none told.
    not_found_as (said_of ((rw c.in-Some.is at c.in_ok-at.ensures.found) told) (c.body.ensures.are (c.in_ok-at.ensures.did.below.step.passes.leaves.told.0 told)))
    (c.front_in-2.ensures.none none)
