-- `calendar::reforms` meets its promise.
use Rattle.calendar.proofs.reforms.Goals as goal

pub returns-in-Julian : goal.returns-in-Julian
returns-in-Julian c = rw c.in-Julian.is

pub returns-in-Gregorian : goal.returns-in-Gregorian
returns-in-Gregorian c = rw c.in-Gregorian.is

pub returns-in-Reforming : goal.returns-in-Reforming
returns-in-Reforming c = rw c.in-Reforming.is
