-- The Swedish calendar on biased days and years. A reader's file is `Promise`: what is said of its labels, years and months. `One` shows that a promise
-- allows one answer. `Private` has what the private functions say, and `Laws` goes from there to the promises.
pub mod Promise
pub mod Private
pub mod One
pub mod Laws
