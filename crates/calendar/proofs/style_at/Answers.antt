-- `calendar::style_at` meets its promise: the test is that of `style_at_value`.
use mathlib.Core.Path.{sym, ap}
use mathlib.Core.Bool.{Bool, cond}
use borrow.Author.Tests.{lt-ltb, le-ltb}
use Rattle.calendar.specs.declared.Style.TheVariants as Style'
use Rattle.calendar.proofs.style_at.Goals as goal

pub returns-then-biased-switch : goal.returns-then-biased-switch
returns-then-biased-switch c = sym (ap (λ (t : Bool). cond t Style'.Julian Style'.Gregorian) (lt-ltb _ _ c.if-biased-switch.true))

pub returns : goal.returns
returns c = sym (ap (λ (t : Bool). cond t Style'.Julian Style'.Gregorian) (le-ltb _ _ c.if-biased-switch.false))
