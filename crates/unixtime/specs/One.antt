-- Two results that a promise allows for one input are equal: a theorem for each promise.
-- Assumes nothing.
use Rattle.std.specs.Prelude.{◌≡◌, refl, ℕ, suc, ◌+◌, ◌*◌, ◌<◌, ℤ, pos, ◌+ℤ◌, ◌-ℤ◌, ◌*ℤ◌, Option}
use Rattle.std.proofs.Common.{sym, ◌∙◌, ap, subst, arith}
use Rattle.std.specs.Int.Signed.{mag}
use Rattle.whole.specs.Biased.{unbias_injective}
use Rattle.whole.specs.Promise.{unbias}
use Rattle.whole.specs.Machine.{Raised, rise}
use Rattle.days.specs.DayByDay.{Is32Bit, UnixTime}
use Rattle.unixtime.specs.Promise.{On32BitDay, DaySecondOf, at, outside_32, DayTimeOf, day_time_of, Unix2Jdn, TimedOf, timed_of, AtUnixTime}
use Rattle.unixtime.specs.Laws.{time_of}
use Rattle.calendar.specs.declared.Calendar.{Calendar}
use Rattle.calendar.specs.RowLaws.{One, unless_one}
use Rattle.calendar.specs.One.{record_one}
use Rattle.calendar.specs.Calendars.{IsRecord}

-- ---- A time has one day, and so many seconds into it
pub record SameTime (n m : ℤ) (s r : ℕ) : Type 0 where
  pub same_day : n ≡ m
  pub same_seconds : s ≡ r

pub unix_time_one : {t n m : ℤ} {s r : ℕ} → UnixTime t n s → UnixTime t m r → SameTime n m s r
unix_time_one {t} {n} {m} {s} {r} p q = by (suc (mag n + mag m)) (rise (suc (mag n + mag m)) n (omega arith)) (rise (suc (mag n + mag m)) m (omega arith))
  where
    biased : (b : ℕ) (z : ℤ) (i : ℕ) → UnixTime t z i → (x : Raised b z) → unbias ((b + 2_440_588) * 86_400) (x.to * 86_400 + i) ≡ t
    biased b z i u x = sym (time_of b x.to i) ∙ ap (λ (z : ℤ). (z -ℤ pos 2_440_588) *ℤ pos 86_400 +ℤ pos i) x.is ∙ u.adds

    parts : (x y s r : ℕ) → s < 86_400 → r < 86_400 → x * 86_400 + s ≡ y * 86_400 + r → (x ≡ y) × (s ≡ r)
    parts x y s r f g e = (omega arith, omega arith)

    by : (b : ℕ) → Raised b n → Raised b m → SameTime n m s r
    by b x y =
        let e : x.to * 86_400 + s ≡ y.to * 86_400 + r = unbias_injective ((b + 2_440_588) * 86_400) (x.to * 86_400 + s) (y.to * 86_400 + r) (biased b n s p x ∙ sym (biased b m r q y)) in
        let (i, j) = parts x.to y.to s r p.rest q.rest e in
        record { same_day = sym x.is ∙ ap (unbias b) i ∙ y.is; same_seconds = j }

-- ---- A promise allows one result
biased_day_lem : {t n : ℤ} {s : ℕ} → Is32Bit n → UnixTime t n s → On32BitDay t
biased_day_lem {n = n} {s} f u = record { on_day = n; seconds = s; day_fits = f; is_time = u }

pub day_second_one : {t : ℤ} {a b : Option (ℤ × ℕ)} → DaySecondOf t a → DaySecondOf t b → a ≡ b
day_second_one (at f p) (at g q) = let e = unix_time_one p q in let i = e.same_day in let j = e.same_seconds in cc
day_second_one (at f p) (outside_32 n) = absurd (n (biased_day_lem f p))
day_second_one (outside_32 n) (at g q) = absurd (n (biased_day_lem g q))
day_second_one (outside_32 n) (outside_32 m) = refl

pub jdn2unix_one : {n t u : ℤ} → UnixTime t n 0 → UnixTime u n 0 → t ≡ u
jdn2unix_one p q = sym p.adds ∙ q.adds

day_time_of_one : (t : ℤ) → One (DayTimeOf t)
day_time_of_one t a b (day_time_of p) (day_time_of q) = let e = unix_time_one p q in let i = e.same_day in let j = e.same_seconds in cc

pub unix2jdn_one : (t : ℤ) → One (Unix2Jdn t)
unix2jdn_one t = unless_one (λ o. day_time_of_one t)

timed_of_one : (c : Calendar) (t : ℤ) → One (TimedOf c t)
timed_of_one c t a b (timed_of {d = d} p i) (timed_of {d = e} q j) =
    let f = unix_time_one p q in
    let g : d ≡ e = record_one (subst (λ (n : ℤ). IsRecord c n d) f.same_day i) j in
    let h = f.same_seconds in
    cc

pub at_unix_time_one : (c : Calendar) (t : ℤ) → One (AtUnixTime c t)
at_unix_time_one c t = unless_one (λ a. unless_one (λ o. timed_of_one c t))
