-- The times on days of 32 bits are -185753453990400 to 185331720383999. A day comes back from its first second.
-- Assumes nothing.
use Rattle.std.proofs.Common.{◌∙◌, ap, subst, arith, leb→le}
use Rattle.std.specs.Prelude.{◌≡◌, suc, ◌+◌, ◌-◌, ◌≤◌, ℤ, pos, negsuc, ◌≤ℤ◌, Result, Ok, ℕ}
use Rattle.whole.specs.Biased.{unbias_below, unbias_above}
use Rattle.whole.specs.Integers.{unbias_le}
use Rattle.unixtime.specs.Promise.{On32BitDay, day_time_of, Unix2Jdn}
use Rattle.unixtime.specs.Laws.{lowest, BiasedTime, on_32_bit_day, on_32_bit_day_only}
use Rattle.days.specs.DayByDay.{Is32Bit, UnixTime}
use Rattle.calendar.specs.Rows.{passes}
use Rattle.unixtime.specs.One.{unix2jdn_one}
use Rattle.refusals.specs.declared.Refusal.{Refusal}

pub record InRange (t : ℤ) : Type 0 where
  pub from : negsuc 185_753_453_990_399 ≤ℤ t
  pub to : t ≤ℤ pos 185_331_720_383_999

pub accepted_in_range : {t : ℤ} → On32BitDay t → InRange t
accepted_in_range {t} o = by (on_32_bit_day_only o)
  where
    by : BiasedTime t → InRange t
    by h = record {
      from = subst (λ (z : ℤ). negsuc 185_753_453_990_399 ≤ℤ z) h.is (unbias_le lowest 0 h.to (omega arith));
      to = subst (λ (z : ℤ). z ≤ℤ pos 185_331_720_383_999) h.is (unbias_le lowest h.to 371_085_174_374_399 (omega (arith, h.within)));
    }

pub in_range_accepted : {t : ℤ} → InRange t → On32BitDay t
in_range_accepted {t = pos n} r =
    let h : n ≤ 185_331_720_383_999 = leb→le n 185_331_720_383_999 r.to.le in
    on_32_bit_day (lowest + n) (omega arith) (unbias_above lowest (lowest + n) (omega arith) ∙ ap pos (omega arith))
in_range_accepted {t = negsuc n} r =
    let h : n ≤ 185_753_453_990_399 = leb→le n 185_753_453_990_399 r.from.le in
    on_32_bit_day (lowest - suc n) (omega arith) (unbias_below lowest (lowest - suc n) (omega arith) ∙ ap negsuc (omega arith))

pub day_comes_back : {n t : ℤ} {a : Result (ℤ × ℕ) Refusal} → Is32Bit n → UnixTime t n 0 → Unix2Jdn t a → a ≡ Ok (n, 0)
day_comes_back {n} {t} {a} f u p = unix2jdn_one t a (Ok (n, 0)) p (passes (record { on_day = n; seconds = 0; day_fits = f; is_time = u }) (day_time_of u))
