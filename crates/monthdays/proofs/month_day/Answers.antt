-- `monthdays::month_day` meets its promise.
use mathlib.Core.Path.{refl}
use Prim.Native.Nat.{◌+◌, ◌*◌, ◌/◌}
use native.Mathlib.Omega.{arith}
use Rattle.monthdays.specs.Laws.{month_day_at}
use Rattle.monthdays.proofs.month_day.Goals as goal

pub returns : goal.returns
returns c =
    let o = c.args.days + 1 in
    month_day_at c.args.leap o c.to_thirty.result ((12 * (o + c.to_thirty.result) + 361) / 367) (omega arith) c.to_thirty.ensures.0 refl
