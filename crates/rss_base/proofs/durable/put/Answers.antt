use Rattle.std.proofs.Common.{rules}
use Rattle.rss_base.proofs.Moments.{wrote_reads, wrote_as}
use Rattle.rss_base.proofs.durable.put.Goals as goal

pub returns-in_err-write-clause-did : goal.returns-in_err-write-clause-did
returns-in_err-write-clause-did g c = wrote_as (λ is. search rules) c.write.ensures.did

pub returns-in_err-sync-clause-did : goal.returns-in_err-sync-clause-did
returns-in_err-sync-clause-did g c = wrote_as (λ is. search rules) (wrote_reads c.write.ensures.did c.sync.ensures.did)

pub returns-clause-did : goal.returns-clause-did
returns-clause-did g c = wrote_as (λ is. search rules) (wrote_reads c.write.ensures.did c.sync.ensures.did)
