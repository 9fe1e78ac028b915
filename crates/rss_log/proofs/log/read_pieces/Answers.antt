use Rattle.std.proofs.Common.{ℕ, ◌+◌, ◌%◌, ◌∙◌, ap, length-take-le, rules, arith}
use Rattle.rss_base.specs.DiskRule.{page}
use Rattle.std.proofs.lemmas.List.{length-take}
use Rattle.rss_base.proofs.Moments.{reads_then, rises_since}
use Rattle.rss_log.proofs.LogReads.{piece_read}
use Rattle.rss_log.proofs.log.read_pieces.Goals as goal

pub returns-in_err-read-clause-did : goal.returns-in_err-read-clause-did
returns-in_err-read-clause-did g c = record {
  reads = reads_then c.loop-number.invariant.did.reads c.read.ensures.did.reads;
  size = search rules;
  failed = λ is. rises_since c.loop-number.invariant.did.reads.later (c.read.ensures.did.failed (search rules));
}

pub loop-number-preserved : goal.loop-number-preserved
loop-number-preserved g c = record {
  read = λ pages told. piece_read pages c.args.first_page c.args.log_pages c.args.first c.loop-number.number c.loop-number.ring c.put.new.ring c.read.new.into (omega arith) (omega arith) c.read.array_long (c.loop-number.invariant.read pages told) (c.in_ok-read.ensures.page pages (c.loop-number.invariant.did.reads.contents ∙ told) ∙ ap (λ (n : ℕ). page pages (c.args.first_page + c.loop-number.number % n)) c.from.ensures) c.put.ensures;
  did = record {
    reads = reads_then c.loop-number.invariant.did.reads c.read.ensures.did.reads;
    size = search rules;
    failed = λ is. absurd (cc (is));
  };
}

pub slice_bounds-put-end : goal.slice_bounds-put-end
slice_bounds-put-end g c = omega (arith, c.read.array_long, length-take-le 4000 c.read.new.into (omega (arith, c.read.array_long)))

pub put-requires-clause-fits : goal.put-requires-clause-fits
put-requires-clause-fits g c = omega (arith, length-take 4000 c.read.new.into, c.requires.room)
