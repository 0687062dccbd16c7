-- A promise allows one answer.
-- Assumes nothing.
use Rattle.std.specs.Prelude.{◌≡◌, refl, ℕ, ◌+◌, ◌-◌, ◌<◌, ◌≤◌, Result, Ok}
use Rattle.std.proofs.Common.{sym, ◌∙◌, ap, ap₂, subst, arith}
use Rattle.whole.specs.Biased.{unbias_injective}
use Rattle.days.specs.DayByDay.{Label, Month, Swedish, labels, Ordinal, swedish_accepted}
use Rattle.days.specs.BiasedDays.{day_bias, year_bias, day}
use Rattle.days.proofs.RisingLabels.{once, place_one}
use Rattle.days.proofs.AcceptedCalendars.{skipped_nowhere}
use Rattle.days.proofs.Swedish.{swedish_rises}
use Rattle.days.proofs.SwedishMonths.{swedish_month, swedish_month_one, swedish_some, swedish_day}
use Rattle.inner.specs.Natural.{biased_year_value}
use Rattle.inner.specs.Spots.{spot}
use Rattle.inner.specs.declared.Spot.{Spot}
use Rattle.swedish.specs.Promise.{MonthIs, SpansMonth, spans_month, no_month, YearSpan, Finds, finds, finds_skipped, finds_missing, SpotOn}
use Rattle.refusals.specs.declared.Refusal.{Refusal}
use Rattle.switches.specs.declared.MonthSpan.{MonthSpan}

pub month_is_one : (y m : ℕ) {a b c d : ℕ} → Month m → MonthIs y m a b → MonthIs y m c d → (a ≡ c) × (b ≡ d)
month_is_one y m v s t =
    let (e, f) = swedish_month_one y m v.0 v.1 s.is_month t.is_month in
    (e, s.past_is ∙ ap₂ ◌+◌ e f ∙ sym t.past_is)

pub spans_month_one : (y m : ℕ) (p q : Result MonthSpan Refusal) → SpansMonth y m p → SpansMonth y m q → p ≡ q
spans_month_one y m p q (spans_month v s) (spans_month w t) =
    let (e, f) = month_is_one y m v s t in
    ap₂ (λ (a b : ℕ). Ok (record { switch = b; first = a; past = b; gregorian = a })) e f
spans_month_one y m p q (spans_month v s) (no_month n) = absurd (n v)
spans_month_one y m p q (no_month n) (spans_month v s) = absurd (n v)
spans_month_one y m p q (no_month n) (no_month i) = refl

-- every year has a day
module _ (y : ℕ) where
  year_some : {a b : ℕ} → YearSpan y a b → a < b
  year_some {a} {b} s =
      let (i, n, t) = swedish_month y 1 (omega arith) (omega arith) in
      let e = swedish_day y 1 (omega arith) (omega arith) t 1 (omega arith) (swedish_some y 1 (omega arith) (omega arith) t) in
      let p = s.here (i + 1 - 1) (ap (λ (l : Label). l.year) e) in
      omega (arith, p.0, p.1)

  no_later : {a b c d : ℕ} → YearSpan y a b → YearSpan y c d → (c ≤ a) × (b ≤ d)
  no_later {a} {b} s t =
      let h : a < b = year_some s in
      ((t.here a (s.inside a (omega arith) h)).0, last (t.here (b - 1) (s.inside (b - 1) (omega arith) (omega arith))).1 h)
    where
      last : {d : ℕ} → b - 1 < d → a < b → b ≤ d
      last h g = omega arith

  pub year_span_one : {a b c d : ℕ} → YearSpan y a b → YearSpan y c d → (a ≡ c) × (b ≡ d)
  year_span_one s t =
      let p = no_later s t in
      let q = no_later t s in
      (omega (arith, p.0, q.0), omega (arith, p.1, q.1))

pub finds_one : (y m d : ℕ) (p q : Result Spot Refusal) → Finds y m d p → Finds y m d q → p ≡ q
finds_one y m d p q (finds {k} {o} e i) (finds {k = l} {o = j} f n) =
    let g : k ≡ l = unbias_injective day_bias k l (once swedish_rises (e ∙ sym f)) in
    let h : o ≡ j = place_one i (subst (λ (x : ℕ). Ordinal (labels Swedish) (day x) j) (sym g) n) in
    ap₂ (λ (k o : ℕ). Ok (spot k y o m d)) g h
finds_one y m d p q (finds {k} e i) (finds_skipped s) = absurd (skipped_nowhere swedish_accepted s (day k, e))
finds_one y m d p q (finds {k} e i) (finds_missing x) = absurd (x.0 (day k, e))
finds_one y m d p q (finds_skipped s) (finds {k} e i) = absurd (skipped_nowhere swedish_accepted s (day k, e))
finds_one y m d p q (finds_skipped s) (finds_skipped t) = refl
finds_one y m d p q (finds_skipped s) (finds_missing x) = absurd (x.1 s)
finds_one y m d p q (finds_missing x) (finds {k} e i) = absurd (x.0 (day k, e))
finds_one y m d p q (finds_missing x) (finds_skipped s) = absurd (x.1 s)
finds_one y m d p q (finds_missing x) (finds_missing z) = refl

pub spot_on_one : (k : ℕ) (s t : Spot) → SpotOn k s → SpotOn k t → s ≡ t
spot_on_one k s t p q =
    let l = sym p.label_is ∙ q.label_is in
    let b : s.biased ≡ t.biased = p.biased_is ∙ sym q.biased_is in
    let y : biased_year_value s.year ≡ biased_year_value t.year = unbias_injective year_bias (biased_year_value s.year) (biased_year_value t.year) (ap (λ (x : Label). x.year) l) in
    let u : s.year ≡ t.year = omega arith in
    let m : s.month ≡ t.month = ap (λ (x : Label). x.month) l in
    let d : s.day ≡ t.day = ap (λ (x : Label). x.day) l in
    let o : s.ordinal ≡ t.ordinal = place_one p.ordinal_is q.ordinal_is in
    let w : spot s.biased s.year s.ordinal s.month s.day ≡ spot t.biased t.year t.ordinal t.month t.day = cc in w
