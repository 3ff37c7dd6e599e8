-- The two names were copied.
use Rattle.disk_trials.proofs.disk.MemoryDisk.name.Goals as goal

pub returns-clause-done : goal.returns-clause-done
returns-clause-done c = record {
  gone = c.in-Ok.old;
  given = c.in-Ok-from_str.new;
  gone_is = c.in-Ok.ensures.ok;
  given_is = c.in-Ok-from_str.ensures.ok;
  event = c.in_ok-happens.ensures.done;
}
