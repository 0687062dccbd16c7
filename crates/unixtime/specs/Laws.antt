-- From seconds that are biased as naturals, counted from the start of the lowest day, to the day of a time; and from that to the promises.
-- Assumes nothing.
use Rattle.std.specs.Prelude.{◌≡◌, ℕ, suc, ◌+◌, ◌-◌, ◌*◌, ◌/◌, ◌%◌, ◌<◌, ◌≤◌, ◌^◌, ℤ, pos, neg_ℤ, ◌+ℤ◌, ◌-ℤ◌, ◌*ℤ◌, Ok, Err, Option, Some, ok_or}
use Rattle.std.proofs.Common.{sym, ◌∙◌, ap, subst, ⊎_elim, arith}
use Rattle.whole.specs.Tests.{lt_or_ge}
use Rattle.whole.specs.Biased.{unbias_add, unbias_below, unbias_above, unbias_injective}
use Rattle.whole.specs.Promise.{unbias}
use Rattle.whole.specs.Machine.{Raised, rise, unbias_more, unbias_both}
use Rattle.whole.specs.Edge.{unbias_fits}
use Rattle.days.specs.DayByDay.{Is32Bit, UnixTime}
use Rattle.unixtime.specs.Promise.{On32BitDay, DaySecondOf, at, outside_32, day_time_of, refused_time, Unix2Jdn, timed_of, AtUnixTime}
use Rattle.calendar.specs.declared.Calendar.{Calendar}
use Rattle.calendar.specs.declared.Date.{Date}
use Rattle.refusals.specs.declared.Refusal.{Refusal}
use Rattle.calendar.specs.Calendars.{Accepted}
use Rattle.calendar.specs.Rows.{refuses, passes}
use Rattle.calendar.specs.Promise.{record_of, AtJdn}

-- ---- Days to seconds

-- so many days, in seconds
seconds_in : (b k : ℕ) → unbias b k *ℤ pos 86_400 ≡ unbias (b * 86_400) (k * 86_400)
seconds_in b k = ⊎_elim
    (λ h. ap (λ (z : ℤ). z *ℤ pos 86_400) (unbias_below b k h) ∙ ap (λ (n : ℕ). neg_ℤ (pos n)) (whole b k h) ∙ sym (unbias_below (b * 86_400) (k * 86_400) (omega arith)))
    (λ h. ap (λ (z : ℤ). z *ℤ pos 86_400) (unbias_above b k h) ∙ ap pos (rest b k h) ∙ sym (unbias_above (b * 86_400) (k * 86_400) (omega arith)))
    (lt_or_ge k b)
  where
    whole : (b k : ℕ) → k < b → suc (b - suc k) * 86_400 ≡ suc (b * 86_400 - suc (k * 86_400))
    whole b k h = omega arith

    rest : (b k : ℕ) → b ≤ k → (k - b) * 86_400 ≡ k * 86_400 - b * 86_400
    rest b k h = omega arith

-- the time of a day that is biased with a bias b, and seconds into it
pub time_of : (b k s : ℕ) → (unbias b k -ℤ pos 2_440_588) *ℤ pos 86_400 +ℤ pos s ≡ unbias ((b + 2_440_588) * 86_400) (k * 86_400 + s)
time_of b k s =
    ap (λ (z : ℤ). z *ℤ pos 86_400 +ℤ pos s) (unbias_more b 2_440_588 k)
    ∙ ap (λ (z : ℤ). z +ℤ pos s) (seconds_in (b + 2_440_588) k)
    ∙ sym (unbias_add ((b + 2_440_588) * 86_400) (k * 86_400) s)

-- ---- Times that are biased as seconds from the start of the lowest day
abbrev pub lowest : ℕ
lowest = 185_753_453_990_400

-- a time of 64 bits from there on is so biased
pub biased_time : {t : ℤ} (k x : ℕ) → 9_223_186_283_400_785_408 + x ≡ k → unbias (2 ^ 63) k ≡ t → unbias lowest x ≡ t
biased_time k x h e = sym (unbias_both 9_223_186_283_400_785_408 lowest x) ∙ ap (unbias (2 ^ 63)) h ∙ e

-- the day and the seconds of a time
pub time_at : {t : ℤ} (x : ℕ) → unbias lowest x ≡ t → UnixTime t (unbias (2 ^ 31) (x / 86_400)) (x % 86_400)
time_at x e = record { rest = omega arith; adds = time_of (2 ^ 31) (x / 86_400) (x % 86_400) ∙ ap (unbias lowest) (parts x) ∙ e }
  where
    parts : (x : ℕ) → x / 86_400 * 86_400 + x % 86_400 ≡ x
    parts x = omega arith

pub time_fits : (x : ℕ) → x < 371_085_174_374_400 → Is32Bit (unbias (2 ^ 31) (x / 86_400))
time_fits x h = unbias_fits (2 ^ 31) (x / 86_400) (omega arith) (omega arith)

pub on_32_bit_day : {t : ℤ} (x : ℕ) → x < 371_085_174_374_400 → unbias lowest x ≡ t → On32BitDay t
on_32_bit_day x h e = record { on_day = unbias (2 ^ 31) (x / 86_400); seconds = x % 86_400; day_fits = time_fits x h; is_time = time_at x e }

-- a time on a day of 32 bits is biased so
pub record BiasedTime (t : ℤ) : Type 0 where
  pub to : ℕ
  pub is : unbias lowest to ≡ t
  pub within : to < 371_085_174_374_400

pub on_32_bit_day_only : {t : ℤ} → On32BitDay t → BiasedTime t
on_32_bit_day_only {t} o = by (rise (2 ^ 31) o.on_day o.day_fits.sfits)
  where
    by : Raised (2 ^ 31) o.on_day → BiasedTime t
    by r = record {
      to = r.to * 86_400 + o.seconds;
      is = sym (time_of (2 ^ 31) r.to o.seconds) ∙ ap (λ (n : ℤ). (n -ℤ pos 2_440_588) *ℤ pos 86_400 +ℤ pos o.seconds) r.is ∙ o.is_time.adds;
      within = omega (arith, r.within, o.is_time.rest);
    }

-- a time of 64 bits that is below them, or above
module _ {t : ℤ} (k : ℕ) (e : unbias (2 ^ 63) k ≡ t) where
  biased_at : BiasedTime t → (9_223_186_283_400_785_408 ≤ k) × (k < 9_223_557_368_575_159_808)
  biased_at h =
      let i : 9_223_186_283_400_785_408 + h.to ≡ k = unbias_injective (2 ^ 63) (9_223_186_283_400_785_408 + h.to) k (unbias_both 9_223_186_283_400_785_408 lowest h.to ∙ h.is ∙ sym e) in
      (omega arith, omega (arith, h.within))

  pub time_below : k < 9_223_186_283_400_785_408 → ¬ On32BitDay t
  time_below h o = omega (arith, biased_at (on_32_bit_day_only o))

  pub time_above : 9_223_557_368_575_159_808 ≤ k → ¬ On32BitDay t
  time_above h o = omega (arith, biased_at (on_32_bit_day_only o))

-- the second at which a day begins
pub day_begins : {n : ℤ} (x : ℕ) → unbias (2 ^ 31) x ≡ n → UnixTime (unbias (2 ^ 63) (x * 86_400 + 9_223_186_283_400_785_408)) n 0
day_begins x e = record {
  rest = omega arith;
  adds = ap (λ (n : ℤ). (n -ℤ pos 2_440_588) *ℤ pos 86_400 +ℤ pos 0) (sym e) ∙ time_of (2 ^ 31) x 0
      ∙ sym (unbias_both 9_223_186_283_400_785_408 lowest (x * 86_400 + 0)) ∙ ap (unbias (2 ^ 63)) (around x);
}
  where
    around : (x : ℕ) → 9_223_186_283_400_785_408 + (x * 86_400 + 0) ≡ x * 86_400 + 9_223_186_283_400_785_408
    around x = omega arith

-- the day that holds a time, and the seconds
pub day_second_at : {t n : ℤ} (x : ℕ) {s : ℕ} → x < 371_085_174_374_400 → unbias lowest x ≡ t → unbias (2 ^ 31) (x / 86_400) ≡ n → x % 86_400 ≡ s → DaySecondOf t (Some (n, s))
day_second_at {t} x h e f g =
    at (subst Is32Bit f (time_fits x h)) (subst (UnixTime t _) g (subst (λ (n : ℤ). UnixTime t n (x % 86_400)) f (time_at x e)))

-- ---- From the day of a time to the promises

pub day_row : {t : ℤ} {d : Option (ℤ × ℕ)} → DaySecondOf t d → Unix2Jdn t (ok_or d (refused_time t))
day_row (at {n} {s} f u) = passes (record { on_day = n; seconds = s; day_fits = f; is_time = u }) (day_time_of u)
day_row (outside_32 n) = refuses n

pub timed_refused : (c : Calendar) {t : ℤ} {f : Refusal} → Accepted c → Unix2Jdn t (Err f) → AtUnixTime c t (Err f)
timed_refused c a (refuses x) = passes a (refuses x)
timed_refused c a (passes _ none) = elim none [ ]

pub timed_row : (c : Calendar) {t n : ℤ} {s : ℕ} {d : Date} → Accepted c → Unix2Jdn t (Ok (n, s)) → AtJdn c n (Ok d) → AtUnixTime c t (Ok (d, s))
timed_row c a (passes o (day_time_of u)) (passes b (record_of i)) = passes a (passes o (timed_of u i))
