use Rattle.rss_top.proofs.hearing.ask.Goals as goal

pub returns-in-Ok : goal.returns-in-Ok
returns-in-Ok g c = record { goes = c.call.ensures.done.goes; outcome = c.in-Ok.ensures.done.outcome c.requires.up }

pub returns-in-Err-Refused : goal.returns-in-Err-Refused
returns-in-Err-Refused g c = let done = rw c.in-Err-Refused.field-0-is at c.in-Err-Refused.ensures.done in record { goes = done.goes; outcome = done.outcome c.requires.up }

pub returns-in-Err-Device : goal.returns-in-Err-Device
returns-in-Err-Device g c = let done = rw c.in-Err-Device.field-0-is at c.in-Err-Device.ensures.done in record { goes = done.goes; outcome = done.outcome c.requires.up }

pub returns-in-Err-Damaged : goal.returns-in-Err-Damaged
returns-in-Err-Damaged g c = let done = rw c.in-Err-Damaged.field-0-is at c.in-Err-Damaged.ensures.done in record { goes = done.goes; outcome = done.outcome c.requires.up }

pub returns-in-Err-NoMemory : goal.returns-in-Err-NoMemory
returns-in-Err-NoMemory g c = let done = rw c.in-Err-NoMemory.field-0-is at c.in-Err-NoMemory.ensures.done in record { goes = done.goes; outcome = done.outcome c.requires.up }
