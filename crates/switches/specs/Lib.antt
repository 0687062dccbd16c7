-- A calendar that switches on a biased day. A reader's file is `Promise`: what is said of its labels, years and months, and on which days it can
-- switch. `One` shows that a promise allows one answer. `Private` has what the private functions say. `Laws` goes from there to the promises, and
-- `JudgingLaws` from the table of reformations.
pub mod Promise
pub mod Private
pub mod One
pub mod Laws
pub mod JudgingLaws
