use Rattle.rss_plain.proofs.plain.Plain.key_in.Goals as goal

pub returns : goal.returns
returns c = rw (c.fields_now.ensures.is, c.relation.ensures, c.fields.ensures.is, c.as_slice.ensures) at
    c.key_of.ensures
