-- What `Reading` computes of a text is what the grammar says, both ways: the computed answer is right (`sound`), and a right answer is the computed
-- one (`complete`).
-- Assumes nothing.
use Rattle.std.specs.Prelude.{ℕ, ◌+◌, ◌≤◌, ◌<◌, ◌≡◌, refl, Bool, true, false, List, [], ◌∷◌, ◌++◌, length, drop, ℤ, pos, leb, Result, Ok, Err, ⊤}
use Rattle.std.proofs.Common.{sym, ◌∙◌, subst, append-nil, zero-add, arith, length-append, length-drop, drop-drop, lt-ltb, le-ltb, le-leb, leb-true}
use Rattle.std.proofs.Math.Path.{ap}
use Rattle.std.proofs.Math.Seq.{drop-append_seam}
use Rattle.refusals.specs.declared.Refusal.{Refusal}
use Rattle.refusals.specs.Promise.{refusal}
use Rattle.digits.specs.Numerals.{dash, Stops}
use Rattle.digits.specs.Promise.{pick}
use Rattle.digits.specs.Runs.{pick_yes, pick_no, both}
use Rattle.numbertext.specs.Numerals.{Unsigned, Signed, NoNumber, NoDash}
use Rattle.numbertext.specs.Promise.{NumberFrom, SignedFrom, DashFrom, EndFrom}
use Rattle.numbertext.specs.Reading.{placed, read_number, read_signed, the_signed, read_dash, the_dash, read_end}
use Rattle.numbertext.specs.Places.{placed_in}
use Rattle.numbertext.specs.Meaning.{number_sound, number_complete, signed_sound, signed_complete, dash_sound, dash_complete, end_sound, end_complete}
use Rattle.datetext.specs.Grammar.{OrdinalText, YmdText, Fault}
use Rattle.days.specs.DayByDay.{Month}
use Rattle.datetext.specs.Promise.{ReadDate}
use Rattle.datetext.specs.declared.Text.{Text}
use Rattle.datetext.specs.Reading.{is_month_value, to_ymd, after_day, after_month_value, after_second, after_dash_value, after_year, read_text}

-- ---- n is an offset in s, and v is what s has from there on

record Rest (s : List ℕ) (n : ℕ) (v : List ℕ) : Type 0 where
  within : n ≤ length s
  rest : drop n s ≡ v

rest_start : (s : List ℕ) → Rest s 0 s
rest_start s = record { within = omega arith; rest = refl }

rest_on : {s : List ℕ} {n : ℕ} (p v : List ℕ) → Rest s n (p ++ v) → Rest s (n + length p) v
rest_on {s} {n} p v a =
    record {
      within = omega (arith, length-drop n s, ap length a.rest, length-append p v, a.within);
      rest = sym (drop-drop (length p) n s) ∙ ap (drop (length p)) a.rest ∙ drop-append_seam p v;
    }

rest_end : {s : List ℕ} {n : ℕ} → Rest s n [] → length s ≤ n
rest_end {s} {n} a = omega (arith, length-drop n s, ap length a.rest)

rest_more : {s : List ℕ} {n b : ℕ} {v : List ℕ} → Rest s n (b ∷ v) → n < length s
rest_more {s} {n} a = omega (arith, length-drop n s, ap length a.rest)

module _ {A : Type 0} (f : ℕ → List ℕ → Result A Refusal) {s : List ℕ} {n : ℕ} {v : List ℕ} (a : Rest s n v) where
  at_rest : placed f s n ≡ f n v
  at_rest = placed_in f s n a.within ∙ ap (f n) a.rest

-- ---- small facts

dash_stops : (u : List ℕ) → Stops (dash ∷ u)
dash_stops u = Stops.other {b = dash} (λ d. omega (arith, d.low))

month_is : (m : ℕ) → is_month_value m ≡ true → Month m
month_is m e = let h = both (leb 1 m) (leb m 12) e in (leb-true 1 m h.0, leb-true m 12 h.1)

is_month : {m : ℕ} → Month m → is_month_value m ≡ true
is_month {m} h = simp (le-leb 1 m h.0, le-leb m 12 h.1)

month_not : (m : ℕ) → is_month_value m ≡ false → Month m → ⊥
month_not m e h = let f : is_month_value m ≡ true = is_month h in let z : ◌≡◌ {A = ℕ} 0 1 = cc in omega arith

not_month : (m : ℕ) → (Month m → ⊥) → is_month_value m ≡ false
not_month m h = go (is_month_value m) refl
  where
    go : (t : Bool) → is_month_value m ≡ t → is_month_value m ≡ false
    go true e = absurd (h (month_is m e))
    go false e = e

-- ---- the answer is right

-- s is p, a dash, q, a dash and t, and the day's number t ends at n
end_right : {s p q t v : List ℕ} {y : ℤ} {m d k n : ℕ} → s ≡ p ++ (dash ∷ (q ++ (dash ∷ (t ++ v)))) → Signed p y → Unsigned q m → Month m → Unsigned t d → Stops v
    → k ≡ length p + 1 + length q + 1 → n ≡ k + length t → {x : Result ⊤ Refusal} → EndFrom n v x → ReadDate s (to_ymd y m d k x)
end_right {s} {p} {q} {t} {y = y} {m = m} {d = d} {k = k} e yr fq mo ft st ek en EndFrom.reached =
    ReadDate.ymd_text
    (subst (λ (x : List ℕ). YmdText x y m d k) (sym (e ∙ ap (λ (x : List ℕ). p ++ (dash ∷ (q ++ (dash ∷ x)))) (append-nil t)))
    (subst (λ (i : ℕ). YmdText (p ++ (dash ∷ (q ++ (dash ∷ t)))) y m d i) (sym ek) (YmdText.ymd yr fq mo ft)))
end_right {s} {p} {q} {t} {k = k} {n = n} e yr fq mo ft st ek en (EndFrom.left_over {b} {u}) =
    ReadDate.faulty
    (subst (λ (x : List ℕ). Fault x (refusal 14 n (pos b))) (sym e)
    (subst (λ (i : ℕ). Fault (p ++ (dash ∷ (q ++ (dash ∷ (t ++ (b ∷ u)))))) (refusal 14 i (pos b))) (omega arith) (Fault.left_over yr fq mo ft st)))

-- s is p, a dash, q, a dash and w, and the day's number is to stand at n
day_right : {s p q w : List ℕ} {y : ℤ} {m n : ℕ} → s ≡ p ++ (dash ∷ (q ++ (dash ∷ w))) → Signed p y → Unsigned q m → Month m
    → n ≡ length p + 1 + length q + 1 → Rest s n w → {x : Result (ℕ × ℕ) Refusal} → NumberFrom n w x → ReadDate s (after_day s y m n x)
day_right {s} {p} {q} {y = y} {m = m} {n = n} e yr fq mo en a (NumberFrom.number {p = t} {u = v} {n = d} ft st) =
    subst (λ (x : Result ⊤ Refusal). ReadDate s (to_ymd y m d n x)) (sym (at_rest read_end (rest_on t v a)))
    (end_right e yr fq mo ft st en refl (end_sound (n + length t) v))
day_right {w = w} e yr fq mo en a (NumberFrom.no_number {f = f} h) =
    ReadDate.faulty (subst (λ (x : List ℕ). Fault x f) (sym e) (Fault.at_third yr fq mo (subst (λ (k : ℕ). NoNumber k w f) en h)))

-- s is p, a dash, q and v, with a byte at least in v, and the dash is to stand at n
month_right : {s p q v : List ℕ} {y : ℤ} {m n b : ℕ} → s ≡ p ++ (dash ∷ (q ++ (b ∷ v))) → Signed p y → Unsigned q m → Month m → Stops (b ∷ v)
    → n ≡ length p + 1 + length q → Rest s n (b ∷ v) → {x : Result ℕ Refusal} → DashFrom n (b ∷ v) x → ReadDate s (after_month_value s y m x)
month_right {s} {p} {q} {v} {y} {m} {n} {b} e yr fq mo st en a (DashFrom.a_dash) =
    let a' : Rest s (n + 1) v = rest_on (dash ∷ []) v a in
    subst (λ (x : Result (ℕ × ℕ) Refusal). ReadDate s (after_day s y m (n + 1) x)) (sym (at_rest read_number a'))
    (day_right e yr fq mo (ap (λ (k : ℕ). k + 1) en) a' (number_sound (n + 1) v))
month_right {s} {p} {q} {v} {y} {m} {n} {b} e yr fq mo st en a (DashFrom.no_dash {f = f} h) =
    ReadDate.faulty (subst (λ (x : List ℕ). Fault x f) (sym e) (Fault.at_second_dash yr fq mo st (subst (λ (k : ℕ). NoDash k (b ∷ v) f) en h)))

-- s is p, a dash and w, and the second number is to stand at n
second_right : {s p w : List ℕ} {y : ℤ} {n : ℕ} → s ≡ p ++ (dash ∷ w) → Signed p y → n ≡ length p + 1 → Rest s n w → {x : Result (ℕ × ℕ) Refusal} → NumberFrom n w x
    → ReadDate s (after_second s y n x)
second_right {w = w} e yr en a (NumberFrom.no_number {f = f} h) =
    ReadDate.faulty (subst (λ (x : List ℕ). Fault x f) (sym e) (Fault.at_second yr (subst (λ (k : ℕ). NoNumber k w f) en h)))
second_right {s} {p} {y = y} {n = n} e yr en a (NumberFrom.number {p = q} {u = v₀} {n = m} fq st₀) = go v₀ st₀ (rest_on q v₀ a) e
  where
    go : (v : List ℕ) → Stops v → Rest s (n + length q) v → s ≡ p ++ (dash ∷ (q ++ v)) → ReadDate s (after_second s y n (Ok (m, n + length q)))
    go [] st b e' =
        subst (ReadDate s) (sym (pick_no _ _ (le-ltb _ _ (rest_end b))))
        (ReadDate.ordinal_text
        (subst (λ (x : List ℕ). OrdinalText x y m n) (sym (e' ∙ ap (λ (x : List ℕ). p ++ (dash ∷ x)) (append-nil q)))
        (subst (OrdinalText (p ++ (dash ∷ q)) y m) (sym en) (OrdinalText.ordinal yr fq))))
    go (x ∷ v) st b e' = subst (ReadDate s) (sym (pick_yes _ _ (lt-ltb _ _ (rest_more b)))) (goes (is_month_value m) refl)
      where
        goes : (t : Bool) → is_month_value m ≡ t → ReadDate s (pick t (after_month_value s y m (the_dash s (n + length q))) (Err (refusal 3 n (pos m))))
        goes true h =
            subst (λ (z : Result ℕ Refusal). ReadDate s (after_month_value s y m z)) (sym (at_rest read_dash b))
            (month_right e' yr fq (month_is m h) st (ap (λ (k : ℕ). k + length q) en) b (dash_sound (n + length q) (x ∷ v)))
        goes false h =
            ReadDate.faulty
            (subst (λ (l : List ℕ). Fault l (refusal 3 n (pos m))) (sym e')
            (subst (λ (i : ℕ). Fault (p ++ (dash ∷ (q ++ (x ∷ v)))) (refusal 3 i (pos m))) (sym en) (Fault.at_month yr fq st (month_not m h))))

-- s is p and v, and the first dash is to stand at n
dash_right : {s p v : List ℕ} {y : ℤ} {n : ℕ} → s ≡ p ++ v → Signed p y → Stops v → n ≡ length p → Rest s n v → {x : Result ℕ Refusal} → DashFrom n v x
    → ReadDate s (after_dash_value s y x)
dash_right {s} {p} {y = y} {n = n} e yr st en a (DashFrom.a_dash {u = w}) =
    let a' : Rest s (n + 1) w = rest_on (dash ∷ []) w a in
    subst (λ (x : Result (ℕ × ℕ) Refusal). ReadDate s (after_second s y (n + 1) x)) (sym (at_rest read_number a'))
    (second_right e yr (ap (λ (k : ℕ). k + 1) en) a' (number_sound (n + 1) w))
dash_right {s} {p} {v} {y} {n} e yr st en a (DashFrom.no_dash {f = f} h) =
    ReadDate.faulty (subst (λ (x : List ℕ). Fault x f) (sym e) (Fault.at_dash yr st (subst (λ (k : ℕ). NoDash k v f) en h)))

year_right : {s : List ℕ} {x : Result (ℤ × ℕ) Refusal} → SignedFrom 0 s x → ReadDate s (after_year s x)
year_right (SignedFrom.no_number h) = ReadDate.faulty (Fault.at_year h)
year_right (SignedFrom.number {p} {u = v} {y} yr st) =
    let a : Rest (p ++ v) (0 + length p) v = rest_on p v (rest_start (p ++ v)) in
    subst (λ (x : Result ℕ Refusal). ReadDate (p ++ v) (after_dash_value (p ++ v) y x)) (sym (at_rest read_dash a))
    (dash_right refl yr st (zero-add (length p)) a (dash_sound (0 + length p) v))

pub sound : (s : List ℕ) → ReadDate s (read_text s)
unfolding read_text
sound s = subst (λ (x : Result (ℤ × ℕ) Refusal). ReadDate s (after_year s x)) (sym (at_rest read_signed (rest_start s))) (year_right (signed_sound 0 s))

-- ---- a right answer is the computed one

module _ {p : List ℕ} {y : ℤ} (yr : Signed p y) where
  rest_dash : (v : List ℕ) → Rest (p ++ v) (length p) v
  rest_dash v = subst (λ (k : ℕ). Rest (p ++ v) k v) (zero-add (length p)) (rest_on p v (rest_start (p ++ v)))

  through_year : (v : List ℕ) → Stops v → read_text (p ++ v) ≡ after_dash_value (p ++ v) y (read_dash (length p) v)
  unfolding read_text
  through_year v st =
      ap (after_year (p ++ v))
      (at_rest read_signed (rest_start (p ++ v)) ∙ signed_complete (SignedFrom.number yr st) ∙ ap (λ (k : ℕ). Ok (y, k)) (zero-add (length p)))
      ∙ ap (after_dash_value (p ++ v) y) (at_rest read_dash (rest_dash v))

  rest_second : (w : List ℕ) → Rest (p ++ (dash ∷ w)) (length p + 1) w
  rest_second w = rest_on (dash ∷ []) w (rest_dash (dash ∷ w))

  through_dash : (w : List ℕ) → read_text (p ++ (dash ∷ w)) ≡ after_second (p ++ (dash ∷ w)) y (length p + 1) (read_number (length p + 1) w)
  through_dash w =
      through_year (dash ∷ w) (dash_stops w)
      ∙ ap (after_dash_value (p ++ (dash ∷ w)) y) (dash_complete DashFrom.a_dash)
      ∙ ap (after_second (p ++ (dash ∷ w)) y (length p + 1)) (at_rest read_number (rest_second w))

  module _ {q : List ℕ} {m : ℕ} (fq : Unsigned q m) where
    rest_dash₂ : (v : List ℕ) → Rest (p ++ (dash ∷ (q ++ v))) (length p + 1 + length q) v
    rest_dash₂ v = rest_on q v (rest_second (q ++ v))

    through_second : (v : List ℕ) → Stops v
        → read_text (p ++ (dash ∷ (q ++ v))) ≡ after_second (p ++ (dash ∷ (q ++ v))) y (length p + 1) (Ok (m, length p + 1 + length q))
    through_second v st =
        through_dash (q ++ v) ∙ ap (after_second (p ++ (dash ∷ (q ++ v))) y (length p + 1)) (number_complete (NumberFrom.number fq st))

    ordinal_read : read_text (p ++ (dash ∷ q)) ≡ Ok (Text.Ordinal y m (length p + 1))
    ordinal_read =
        subst (λ (x : List ℕ). read_text (p ++ (dash ∷ x)) ≡ Ok (Text.Ordinal y m (length p + 1))) (append-nil q)
        (through_second [] Stops.ended ∙ pick_no _ _ (le-ltb _ _ (rest_end (rest_dash₂ []))))

    goes_on : (b : ℕ) (v : List ℕ) → Stops (b ∷ v)
        → read_text (p ++ (dash ∷ (q ++ (b ∷ v)))) ≡ pick (is_month_value m) (after_month_value (p ++ (dash ∷ (q ++ (b ∷ v)))) y m (the_dash (p ++ (dash ∷ (q ++ (b ∷ v)))) (length p + 1 + length q))) (Err (refusal 3 (length p + 1) (pos m)))
    goes_on b v st = through_second (b ∷ v) st ∙ pick_yes _ _ (lt-ltb _ _ (rest_more (rest_dash₂ (b ∷ v))))

    module _ (mo : Month m) where
      through_month : (b : ℕ) (v : List ℕ) → Stops (b ∷ v)
          → read_text (p ++ (dash ∷ (q ++ (b ∷ v)))) ≡ after_month_value (p ++ (dash ∷ (q ++ (b ∷ v)))) y m (read_dash (length p + 1 + length q) (b ∷ v))
      through_month b v st =
          goes_on b v st ∙ pick_yes _ _ (is_month mo) ∙ ap (after_month_value (p ++ (dash ∷ (q ++ (b ∷ v)))) y m) (at_rest read_dash (rest_dash₂ (b ∷ v)))

      rest_day : (w : List ℕ) → Rest (p ++ (dash ∷ (q ++ (dash ∷ w)))) (length p + 1 + length q + 1) w
      rest_day w = rest_on (dash ∷ []) w (rest_dash₂ (dash ∷ w))

      through_dash₂ : (w : List ℕ)
          → read_text (p ++ (dash ∷ (q ++ (dash ∷ w)))) ≡ after_day (p ++ (dash ∷ (q ++ (dash ∷ w)))) y m (length p + 1 + length q + 1) (read_number (length p + 1 + length q + 1) w)
      through_dash₂ w =
          through_month dash w (dash_stops w)
          ∙ ap (after_month_value (p ++ (dash ∷ (q ++ (dash ∷ w)))) y m) (dash_complete DashFrom.a_dash)
          ∙ ap (after_day (p ++ (dash ∷ (q ++ (dash ∷ w)))) y m (length p + 1 + length q + 1)) (at_rest read_number (rest_day w))

      module _ {t : List ℕ} {d : ℕ} (ft : Unsigned t d) where
        rest_over : (v : List ℕ) → Rest (p ++ (dash ∷ (q ++ (dash ∷ (t ++ v))))) (length p + 1 + length q + 1 + length t) v
        rest_over v = rest_on t v (rest_day (t ++ v))

        through_day : (v : List ℕ) → Stops v
            → read_text (p ++ (dash ∷ (q ++ (dash ∷ (t ++ v))))) ≡ to_ymd y m d (length p + 1 + length q + 1) (read_end (length p + 1 + length q + 1 + length t) v)
        through_day v st =
            through_dash₂ (t ++ v)
            ∙ ap (after_day (p ++ (dash ∷ (q ++ (dash ∷ (t ++ v))))) y m (length p + 1 + length q + 1)) (number_complete (NumberFrom.number ft st))
            ∙ ap (to_ymd y m d (length p + 1 + length q + 1)) (at_rest read_end (rest_over v))

        ymd_read : read_text (p ++ (dash ∷ (q ++ (dash ∷ t)))) ≡ Ok (Text.Ymd y m d (length p + 1 + length q + 1))
        ymd_read =
            subst (λ (x : List ℕ). read_text (p ++ (dash ∷ (q ++ (dash ∷ x)))) ≡ Ok (Text.Ymd y m d (length p + 1 + length q + 1))) (append-nil t)
            (through_day [] Stops.ended ∙ ap (to_ymd y m d (length p + 1 + length q + 1)) (end_complete EndFrom.reached))

        over_read : (b : ℕ) (v : List ℕ) → Stops (b ∷ v)
            → read_text (p ++ (dash ∷ (q ++ (dash ∷ (t ++ (b ∷ v)))))) ≡ Err (refusal 14 (length p + 1 + length q + 1 + length t) (pos b))
        over_read b v st = through_day (b ∷ v) st ∙ ap (to_ymd y m d (length p + 1 + length q + 1)) (end_complete EndFrom.left_over)

fault_complete : {s : List ℕ} {f : Refusal} → Fault s f → read_text s ≡ Err f
unfolding read_text
fault_complete {s} (Fault.at_year h) = ap (after_year s) (at_rest read_signed (rest_start s) ∙ signed_complete (SignedFrom.no_number h))
fault_complete (Fault.at_dash {p} {u} {y} yr st h) = through_year yr u st ∙ ap (after_dash_value (p ++ u) y) (dash_complete (DashFrom.no_dash h))
fault_complete (Fault.at_second {p} {u} {y} yr h) =
    through_dash yr u ∙ ap (after_second (p ++ (dash ∷ u)) y (length p + 1)) (number_complete (NumberFrom.no_number h))
fault_complete (Fault.at_month {u = u} {b = b} {m = m} yr fq st h) = goes_on yr fq b u st ∙ pick_no _ _ (not_month m h)
fault_complete (Fault.at_second_dash {p} {q} {u} {y} {b} {m} yr fq mo st h) =
    through_month yr fq mo b u st ∙ ap (after_month_value (p ++ (dash ∷ (q ++ (b ∷ u)))) y m) (dash_complete (DashFrom.no_dash h))
fault_complete (Fault.at_third {p} {q} {u} {y} {m} yr fq mo h) =
    through_dash₂ yr fq mo u ∙ ap (after_day (p ++ (dash ∷ (q ++ (dash ∷ u)))) y m (length p + 1 + length q + 1)) (number_complete (NumberFrom.no_number h))
fault_complete (Fault.left_over {u = u} {b = b} yr fq mo ft st) = over_read yr fq mo ft b u st

pub complete : {s : List ℕ} {r : Result Text Refusal} → ReadDate s r → read_text s ≡ r
complete (ReadDate.ordinal_text (OrdinalText.ordinal yr fq)) = ordinal_read yr fq
complete (ReadDate.ymd_text (YmdText.ymd yr fq mo ft)) = ymd_read yr fq mo ft
complete (ReadDate.faulty h) = fault_complete h

pub read_meant : {s : List ℕ} {r : Result Text Refusal} → r ≡ read_text s → ReadDate s r
read_meant {s} e = subst (ReadDate s) (sym e) (sound s)

pub read_as : {s : List ℕ} {r : Result Text Refusal} → r ≡ after_year s (the_signed s 0) → ReadDate s r
unfolding read_text
read_as e = read_meant e
