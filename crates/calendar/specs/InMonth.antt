-- The next day of a month: what `next_in_month` promises, that this is one answer, and that the answer is the record of the next day.
-- Assumes nothing.
use Rattle.std.specs.Prelude.{◌≡◌, refl, Bool, true, false, ℕ, suc, ◌+◌, ◌-◌, ◌<◌, ◌≤◌, ◌^◌, eqb, ℤ, Ok, Option, Some, None}
use Rattle.std.proofs.Math.Path.{sym, subst}
use Rattle.std.proofs.Common.{◌∙◌, ap, subst₂, ⊎_elim, arith, eqb-true}
use Rattle.std.proofs.lemmas.Bool.{eqb-false}
use Rattle.std.proofs.Math.IntN.{suc_ℤ, pred_ℤ, -ℤ_one}
use Rattle.whole.specs.Whether.{Whether}
use Rattle.whole.specs.Tests.{true_or_false}
use Rattle.whole.specs.Biased.{unbias_suc, unbias_back, unbias_injective}
use Rattle.whole.specs.Promise.{unbias}
use Rattle.days.specs.DayByDay.{label, style, Is32Bit}
use Rattle.days.proofs.RisingLabels.{once}
use Rattle.days.proofs.ReckoningSteps.{month_least}
use Rattle.days.proofs.ClosedEnds.{suc_is, pred_is}
use Rattle.days.specs.BiasedDays.{day_bias, year_bias, day, year, BiasedYear}
use Rattle.days.proofs.ClosedJulian as J
use Rattle.days.proofs.ClosedGregorian as G
use Rattle.days.specs.ClosedNumbers.{days_before_value, ThereIn}
use Rattle.days.proofs.AcceptedCalendars.{accepted_rises}
use Rattle.days.proofs.ClosedRuns.{Runs, runs_one, on_none}
use Rattle.inner.specs.Natural.{biased_day, biased_year_value}
use Rattle.inner.specs.Laws.{biased_day_lem}
use Rattle.inner.specs.Spots.{spot}
use Rattle.monthdays.specs.Promise.{OrdinalOf}
use Rattle.switches.specs.declared.PlainYear.{PlainYear}
use Rattle.switches.specs.Promise.{YearIn}
use Rattle.switches.specs.One.{year_in_one}
use Rattle.switches.specs.Laws.{Wholly, wholly_old, wholly_new, wholly_none, ordinal_sum, ordinal_none}
use Rattle.ways.specs.Promise.{beside, Inside}
use Rattle.ways.specs.Laws.{room_up, room_down}
use Rattle.calendar.specs.declared.Date.{Date}
use Rattle.calendar.specs.Calendars.{definition_of, labels, style_of, IsRecord, Genuine}
use Rattle.calendar.specs.Rows.{passes}
use Rattle.calendar.specs.Promise.{record_of, Next}
use Rattle.calendar.specs.One.{whole, record_one}
use Rattle.calendar.specs.Natural.{OnSpot, Plain, plain_record_value, style_at_value, style_number_value}
use Rattle.calendar.specs.Laws.{old_style, new_style, style_at, labelled_is, labelled_room, record_plain, style_number_one, whole_label, whole_there}

-- ---- What is promised
-- the year of a date is wholly in one reckoning
pub record WholeYear (d : Date) : Type 0 where
  pub switch : ℕ
  pub biased_year : ℕ
  pub at : PlainYear
  pub runs : Runs (definition_of d.calendar) switch
  pub year_is : year (biased_year_value biased_year) ≡ d.year
  pub year_in : YearIn switch (biased_year_value biased_year) at
  pub wholly : at.whole ≡ true

-- the next date of the month is found from the date alone
pub record InMonth (l : Bool) (d : Date) : Type 0 where
  pub genuine : Genuine d
  pub whole_year : WholeYear d
  pub inside : Inside l d.day
  pub here_fits : Is32Bit d.jdn
  pub next_fits : Is32Bit (beside l d.jdn)

-- one further, or one back
abbrev pub one_on_value : Bool → ℕ → ℕ
one_on_value true n = n + 1
one_on_value false n = n - 1

abbrev pub moved_by : Bool → Date → Date
moved_by l d = record { calendar = d.calendar; year = d.year; ordinal = one_on_value l d.ordinal; month = d.month; day = one_on_value l d.day; day_ordinal = one_on_value l d.day_ordinal; jdn = beside l d.jdn; style = d.style }

-- next_in_month: that record, and then it is the answer of succ or pred too; or nothing yet
pub data NextInMonth (l : Bool) (d : Date) : Option Date → Type 0 where
  in_month : InMonth l d → Next d (beside l d.jdn) (Ok (moved_by l d)) → NextInMonth l d (Some (moved_by l d))
  elsewhere : ¬ InMonth l d → NextInMonth l d None

pub in_month_one : (l : Bool) (d : Date) (a b : Option Date) → NextInMonth l d a → NextInMonth l d b → a ≡ b
in_month_one l d a b (in_month p n) (in_month q i) = refl
in_month_one l d a b (in_month p n) (elsewhere x) = absurd (x p)
in_month_one l d a b (elsewhere x) (in_month q i) = absurd (x q)
in_month_one l d a b (elsewhere x) (elsewhere y) = refl

-- ---- What the private functions say
-- a genuine date in such a year: its numbers, and the records next to it
pub record Usual (d : Date) : Type 0 where
  pub genuine : Genuine d
  pub whole_year : WholeYear d
  pub some : 1 ≤ d.ordinal
  pub few : d.ordinal ≤ 366
  pub day_ordinal_is : d.day_ordinal ≡ d.day
  pub next : (l : Bool) → Inside l d.day → IsRecord d.calendar (beside l d.jdn) (moved_by l d)

abbrev pub IsUsual : Date → Bool → Type 0
IsUsual d true = Usual d
IsUsual d false = ¬ (Genuine d × WholeYear d)

-- the numbers of a date in a year that is wholly in one reckoning
pub record On (d : Date) (r past o : ℕ) : Type 0 where
  pub ordinal_is : d.ordinal ≡ o
  pub day_ordinal_is : d.day_ordinal ≡ d.day
  pub style_is : d.style ≡ style_at_value r (past - 1)
  pub day_is : day (past - 1) ≡ d.jdn

abbrev pub IsOn : Date → ℕ → ℕ → ℕ → Bool → Type 0
IsOn d r past o = Whether (On d r past o)

abbrev pub OneOn : Bool → ℕ → Type 0
OneOn true n = n + 1 < 2 ^ 32
OneOn false n = 1 ≤ n

abbrev pub Movable : Bool → Date → Type 0
Movable l d = OneOn l d.ordinal × OneOn l d.day × OneOn l d.day_ordinal × Is32Bit (beside l d.jdn)

-- ---- The style of the days of a year
-- it is one style, where the year is wholly in one reckoning
year_style : {r y t : ℕ} {b : Bool} (i o : ℕ) → Wholly r y t b → (1 ≤ i) × (i ≤ 366) → (1 ≤ o) × (o ≤ 366) → style_at_value r (t + i - 1) ≡ style_at_value r (t + o - 1)
year_style {y = y} i o (wholly_old g) (h, k) (f, u) = sym (old_style (J.start y + i - 1) (omega arith)) ∙ old_style (J.start y + o - 1) (omega arith)
year_style {y = y} i o (wholly_new z g) (h, k) (f, u) = sym (new_style (G.start y + i - 1) (after (G.start y) i g h)) ∙ new_style (G.start y + o - 1) (after (G.start y) o g f)
  where
    after : {r : ℕ} (s i : ℕ) → r ≤ s → 1 ≤ i → r ≤ s + i - 1
    after s i g h = omega arith

-- ---- A date in a year that is wholly in one reckoning, by its label
module _ (d : Date) {r : ℕ} (y : ℕ) (runs : Runs (definition_of d.calendar) r) (h : BiasedYear (biased_year_value y)) (e : year (biased_year_value y) ≡ d.year) where
  -- the label is nowhere
  pub none_genuine : {t : ℕ} {b : Bool} → Wholly r (biased_year_value y) t b → OrdinalOf b d.month d.day None → ¬ Genuine d
  none_genuine w n g = let (i, j, o) = wholly_none y w (ordinal_none n) in (on_none runs (biased_year_value y) d.month d.day e h i j o).0 (d.jdn, g.is_record.label_is)

  -- or it has an ordinal
  module _ {t o : ℕ} {b : Bool} (w : Wholly r (biased_year_value y) t b) (p : OrdinalOf b d.month d.day (Some o)) where
    abbrev here : OnSpot r (spot (t + o - 1) y o d.month d.day) × Plain r (spot (t + o - 1) y o d.month d.day)
    here = whole_label y h w p

    -- the style of a day of this year
    style_of_lem : (i : ℕ) {m n : ℕ} → OnSpot r (spot (t + i - 1) y i m n) → style_of (style (definition_of d.calendar) (day (t + i - 1))) ≡ style_at_value r (t + i - 1)
    style_of_lem i l = style_at d.calendar runs (omega (arith, labelled_room l))

    record_here : day (t + o - 1) ≡ d.jdn → IsRecord d.calendar d.jdn (plain_record_value d.calendar (style_at_value r (t + o - 1)) (spot (t + o - 1) y o d.month d.day) d.jdn)
    record_here q = record_plain d.calendar runs (spot (t + o - 1) y o d.month d.day) here.0 q (style_of_lem o here.0) here.1

    pub on_genuine : On d r (t + o) o → Genuine d
    unfolding whole
    on_genuine q = record { accepted = runs.accepted; is_record = subst (IsRecord d.calendar d.jdn) same (record_here q.day_is) }
      where
        same : plain_record_value d.calendar (style_at_value r (t + o - 1)) (spot (t + o - 1) y o d.month d.day) d.jdn ≡ d
        same =
            let f : d.ordinal ≡ o = q.ordinal_is in
            let g : d.day_ordinal ≡ d.day = q.day_ordinal_is in
            let i : year (biased_year_value y) ≡ d.year = e in
            let v : d.style ≡ style_at_value r (t + o - 1) = q.style_is in
            let x : whole d.calendar (year (biased_year_value y)) o d.month d.day d.day d.jdn (style_at_value r (t + o - 1)) ≡ whole d.calendar d.year d.ordinal d.month d.day d.day_ordinal d.jdn d.style = cc in
            x

    pub genuine_on : Genuine d → On d r (t + o) o
    genuine_on g =
        let l : labels d.calendar (day (t + o - 1)) ≡ label d.year d.month d.day = labelled_is d.calendar runs here.0 ∙ ap (λ (z : ℤ). label z d.month d.day) e in
        let q : day (t + o - 1) ≡ d.jdn = once (accepted_rises runs.accepted) (l ∙ sym g.is_record.label_is) in
        let i = record_one g.is_record (record_here q) in
        record { ordinal_is = ap (λ (x : Date). x.ordinal) i; day_ordinal_is = ap (λ (x : Date). x.day_ordinal) i; style_is = ap (λ (x : Date). x.style) i; day_is = q }

    -- the record next to it
    next_there : (l : Bool) → Inside l d.day → ThereIn b d.month d.day → ThereIn b d.month (one_on_value l d.day)
    next_there true i v = (v.0, v.1, omega arith, omega (arith, month_least b d.month v.0 v.1))
    next_there false i v = (v.0, v.1, omega arith, omega (arith, v.3))

    next_ordinal : (l : Bool) → Inside l d.day → days_before_value b d.month + d.day ≡ o → days_before_value b d.month + one_on_value l d.day ≡ one_on_value l o
    next_ordinal true i f = sum (days_before_value b d.month) f
      where
        sum : (k : ℕ) → k + d.day ≡ o → k + (d.day + 1) ≡ o + 1
        sum k f = omega arith
    next_ordinal false i f = sum (days_before_value b d.month) i f
      where
        sum : (k : ℕ) → 2 ≤ d.day → k + d.day ≡ o → k + (d.day - 1) ≡ o - 1
        sum k i f = omega arith

    next_day : (l : Bool) → Inside l d.day → 1 ≤ d.day → days_before_value b d.month + d.day ≡ o → day (t + o - 1) ≡ d.jdn → day (t + one_on_value l o - 1) ≡ beside l d.jdn
    next_day true i j f q = ap day (up t (omega arith)) ∙ unbias_suc day_bias (t + o - 1) ∙ ap suc_ℤ q
      where
        up : (t : ℕ) → 1 ≤ o → t + (o + 1) - 1 ≡ suc (t + o - 1)
        up t h = omega arith
    next_day false i j f q = ap day (down t (omega arith)) ∙ sym (unbias_back day_bias (t + o - 1) 1 (omega arith)) ∙ -ℤ_one (day (t + o - 1)) ∙ ap pred_ℤ q
      where
        down : (t : ℕ) → 2 ≤ o → t + (o - 1) - 1 ≡ t + o - 1 - 1
        down t h = omega arith

    next_record : On d r (t + o) o → (l : Bool) → Inside l d.day → IsRecord d.calendar (beside l d.jdn) (moved_by l d)
    unfolding whole
    next_record q l i =
        let (v, f) = ordinal_sum p in
        let (u, k) = whole_there y h w (next_there l i v) (next_ordinal l i f) in
        subst (IsRecord d.calendar (beside l d.jdn)) same
        (record_plain d.calendar runs (spot (t + one_on_value l o - 1) y (one_on_value l o) d.month (one_on_value l d.day)) u (next_day l i v.2 f q.day_is) (style_of_lem (one_on_value l o) u ∙ goes_on u) k)
      where
        goes_on : OnSpot r (spot (t + one_on_value l o - 1) y (one_on_value l o) d.month (one_on_value l d.day)) → style_at_value r (t + one_on_value l o - 1) ≡ d.style
        goes_on u =
            let m = labelled_room here.0 in
            let n = labelled_room u in
            year_style (one_on_value l o) o w (n.1, n.2) (m.1, m.2) ∙ sym q.style_is

        same : plain_record_value d.calendar d.style (spot (t + one_on_value l o - 1) y (one_on_value l o) d.month (one_on_value l d.day)) (beside l d.jdn) ≡ moved_by l d
        same =
            let f : one_on_value l o ≡ one_on_value l d.ordinal = ap (one_on_value l) (sym q.ordinal_is) in
            let g : one_on_value l d.day ≡ one_on_value l d.day_ordinal = ap (one_on_value l) (sym q.day_ordinal_is) in
            let i : year (biased_year_value y) ≡ d.year = e in
            let x : whole d.calendar (year (biased_year_value y)) (one_on_value l o) d.month (one_on_value l d.day) (one_on_value l d.day) (beside l d.jdn) d.style
            ≡ whole d.calendar d.year (one_on_value l d.ordinal) d.month (one_on_value l d.day) (one_on_value l d.day_ordinal) (beside l d.jdn) d.style = cc in
            x

    pub on_usual : WholeYear d → On d r (t + o) o → Usual d
    on_usual a q =
        let n = labelled_room here.0 in
        record {
          genuine = on_genuine q;
          whole_year = a;
          some = subst (λ (k : ℕ). 1 ≤ k) (sym q.ordinal_is) n.1;
          few = subst (λ (k : ℕ). k ≤ 366) (sym q.ordinal_is) n.2;
          day_ordinal_is = q.day_ordinal_is;
          next = next_record q;
        }

    pub usual_by : WholeYear d → (b : Bool) → IsOn d r (t + o) o b → IsUsual d b
    usual_by a true q = on_usual a q
    usual_by a false n = λ g. n (genuine_on g.0)

-- a year that is not wholly in one
pub not_whole : (d : Date) {r : ℕ} (y : ℕ) {p : PlainYear} → Runs (definition_of d.calendar) r → year (biased_year_value y) ≡ d.year → YearIn r (biased_year_value y) p → p.whole ≡ false → ¬ WholeYear d
not_whole d {r} y {p} runs e i f w =
    let j : YearIn r (biased_year_value y) w.at = subst₂ (λ (r k : ℕ). YearIn r k w.at) (runs_one w.runs runs) (unbias_injective year_bias (biased_year_value w.biased_year) (biased_year_value y) (w.year_is ∙ sym e)) w.year_in in
    never (sym w.wholly ∙ ap (λ (p : PlainYear). p.whole) (year_in_one r (biased_year_value y) w.at p j i) ∙ f)
  where
    never : ◌≡◌ {A = Bool} true false → ⊥
    never z = let q : ◌≡◌ {A = ℕ} 0 1 = cc in omega arith

-- ---- The answer, from the parts
-- whether a date has these numbers is told by comparing them
module _ (d : Date) (r x past : ℕ) {o : ℕ} (e : unbias (2 ^ 31) x ≡ d.jdn) where
  pub on_day : On d r past o → biased_day x + 1 ≡ past
  on_day q = up (unbias_injective day_bias (past - 1) (biased_day x) (q.day_is ∙ sym (biased_day_lem x ∙ e)))
    where
      up : past - 1 ≡ biased_day x → biased_day x + 1 ≡ past
      up e = omega arith

  pub on_by : d.ordinal ≡ o → d.day_ordinal ≡ d.day → biased_day x + 1 ≡ past → IsOn d r past o (eqb (style_number_value d.style) (style_number_value (style_at_value r (biased_day x))))
  on_by f g h = ⊎_elim
      (λ t. subst (IsOn d r past o) (sym t) (record {
        ordinal_is = f;
        day_ordinal_is = g;
        style_is = style_number_one d.style (style_at_value r (biased_day x)) (eqb-true _ _ t) ∙ ap (style_at_value r) (sym back);
        day_is = ap day back ∙ biased_day_lem x ∙ e;
      }))
      (λ t. subst (IsOn d r past o) (sym t) (λ q. eqb-false _ _ t (ap style_number_value (q.style_is ∙ ap (style_at_value r) back))))
      (true_or_false (eqb (style_number_value d.style) (style_number_value (style_at_value r (biased_day x)))))
    where
      back : past - 1 ≡ biased_day x
      back = omega arith

pub usual_movable : (l : Bool) {d : Date} → Usual d → Inside l d.day → Is32Bit (beside l d.jdn) → Movable l d
usual_movable true u i f = (omega (arith, u.few), omega arith, omega (arith, u.day_ordinal_is), f)
usual_movable false u i f = (u.some, omega arith, omega (arith, u.day_ordinal_is), f)

pub near_found : (l : Bool) {d n : Date} → Usual d → Is32Bit d.jdn → Inside l d.day → Is32Bit (beside l d.jdn) → n ≡ moved_by l d → NextInMonth l d (Some n)
near_found l {d} u h i f e = subst (λ (n : Date). NextInMonth l d (Some n)) (sym e)
    (in_month (record { genuine = u.genuine; whole_year = u.whole_year; inside = i; here_fits = h; next_fits = f }) (passes u.genuine (passes f (record_of (u.next l i)))))

pub not_staying : (l : Bool) {d : Date} → ¬ (Inside l d.day × Is32Bit (beside l d.jdn)) → NextInMonth l d None
not_staying l n = elsewhere (λ i. n (i.inside, i.next_fits))

pub not_usual : (l : Bool) {d : Date} → ¬ (Genuine d × WholeYear d) → NextInMonth l d None
not_usual l n = elsewhere (λ i. n (i.genuine, i.whole_year))

pub near_fits : (l : Bool) {d n : Date} → NextInMonth l d (Some n) → Is32Bit d.jdn
near_fits l (in_month i p) = i.here_fits

-- it is that of succ and pred
pub near_next : (l : Bool) {d n : Date} → NextInMonth l d (Some n) → Next d (beside l d.jdn) (Ok n)
near_next l (in_month i p) = p

pub beside_room : (l : Bool) {n : ℤ} (x : ℕ) → unbias (2 ^ 31) x ≡ n → x < 2 ^ 32 → Is32Bit (beside l n) → OneOn l x
beside_room true x e h f = room_up x e h f
beside_room false x e h f = room_down x e f

pub beside_is : (l : Bool) {n : ℤ} (x : ℕ) → unbias (2 ^ 31) x ≡ n → OneOn l x → unbias (2 ^ 31) (one_on_value l x) ≡ beside l n
beside_is true x e h = suc_is x e
beside_is false x e h = pred_is x h e
