-- What `Reading` computes is what `Numerals` and `Promise` say, both ways: the computed answer is right (`sound`), and a right answer is the
-- computed one (`complete`).
-- Assumes nothing.
use Rattle.std.specs.Prelude.{ℕ, ◌+◌, ◌≤◌, ◌<◌, ◌≡◌, refl, Bool, true, false, List, [], ◌∷◌, ◌++◌, length, drop, ℤ, pos, neg_ℤ, ltb, eqb, Result, Ok, Err, ⊤}
use Rattle.std.proofs.Common.{sym, ◌∙◌, ap, subst, append_assoc, arith, length-append, ltb-true, ltb-false, ne_eqb, eqb-true}
use Rattle.std.proofs.lemmas.Bool.{eqb-false}
use Rattle.refusals.specs.declared.Refusal.{Refusal}
use Rattle.whole.specs.Promise.{signed_of}
use Rattle.refusals.specs.Promise.{refusal}
use Rattle.digits.specs.Numerals.{plus, dash, Digits, Numeral, Stops}
use Rattle.digits.specs.Promise.{pick, run_of}
use Rattle.digits.specs.Runs.{pick_no, RunView, run_view, run_none, run_is, run_leaves}
use Rattle.numbertext.specs.Numerals.{Signed, TooFar, NoNumber, NoSigned, NoDash}
use Rattle.numbertext.specs.Promise.{NumberFrom, SignedFrom, DashFrom, EndFrom, At, NumberAt, SignedAt, DashAt, EndAt}
use Rattle.numbertext.specs.Reading.{placed, no_number_value, to_number, read_number, the_number, limit_of, way_out_value, to_signed, signed_run_value, read_signed, the_signed, read_dash, the_dash, read_end, the_end}
use Rattle.numbertext.specs.Places.{placed_past, placed_in}
use Rattle.digits.specs.declared.NoRun.{NoRun}

-- ---- an unsigned number

none_number : (at : ℕ) {u : List ℕ} → Stops u → NoNumber at u (no_number_value at u)
none_number at Stops.ended = NoNumber.ended
none_number at (Stops.other h) = NoNumber.other h

pub number_sound : (at : ℕ) (u : List ℕ) → NumberFrom at u (read_number at u)
unfolding read_number
number_sound at u = by (run_view 4294967295 at u)
  where
    by : {r : Result (ℕ × ℕ) NoRun} → RunView 4294967295 at u r → NumberFrom at u (to_number at u r)
    by (RunView.empty st) = NumberFrom.no_number (none_number at st)
    by (RunView.value {p} {n = n} e w st h) =
        subst (λ (x : List ℕ). NumberFrom at x (Ok (n, at + length p))) (sym e) (NumberFrom.number (record { numeral = w; fits = omega arith }) st)
    by (RunView.over {k = k} e ds st l) =
        NumberFrom.no_number (NoNumber.above (subst (λ (x : List ℕ). TooFar 4294967295 11 at x (refusal 11 (at + k) (pos 0))) (sym e) (TooFar.too_far ds st l)))

pub number_complete : {at : ℕ} {u : List ℕ} {r : Result (ℕ × ℕ) Refusal} → NumberFrom at u r → read_number at u ≡ r
unfolding read_number
number_complete {at} (NumberFrom.number {p} {u} w st) = ap (to_number at (p ++ u)) (run_is 4294967295 at w.numeral st (omega (arith, w.fits)))
number_complete {at} (NumberFrom.no_number h) = by h
  where
    by : {u : List ℕ} {f : Refusal} → NoNumber at u f → to_number at u (run_of 4294967295 at u) ≡ Err f
    by NoNumber.ended = ap (to_number at []) (run_none 4294967295 at Stops.ended)
    by (NoNumber.other {b} {u} h) = ap (to_number at (b ∷ u)) (run_none 4294967295 at (Stops.other {b = b} {u = u} h))
    by (NoNumber.above (TooFar.too_far {p} {u} ds st l)) = ap (to_number at (p ++ u)) (run_leaves 4294967295 at ds st l)

-- ---- a signed number

-- the bytes c are the sign or none; what digits after them mean is given: they fit, or leave the range, or there is none
module _ (neg : Bool) (at : ℕ) (c : List ℕ) (first : ℕ) (here : first ≡ at + length c) (none : Refusal)
    (small : (p : List ℕ) (n : ℕ) → Numeral p n → n ≤ limit_of neg → Signed (c ++ p) (signed_of neg n))
    (large : (u : List ℕ) (f : Refusal) → TooFar (limit_of neg) (way_out_value neg) first u f → NoSigned at (c ++ u) f)
    (u : List ℕ) (bare : Stops u → NoSigned at (c ++ u) none) where
  signed_by : {r : Result (ℕ × ℕ) NoRun} → RunView (limit_of neg) first u r → SignedFrom at (c ++ u) (to_signed neg none r)
  signed_by (RunView.empty st) = SignedFrom.no_number (bare st)
  signed_by (RunView.value {p} {v} {n} e w st h) =
      subst (λ (x : List ℕ). SignedFrom at (c ++ x) (Ok (signed_of neg n, first + length p))) (sym e)
      (subst (λ (x : List ℕ). SignedFrom at x (Ok (signed_of neg n, first + length p))) (append_assoc c p v)
      (subst (λ (k : ℕ). SignedFrom at ((c ++ p) ++ v) (Ok (signed_of neg n, k))) (omega (arith, length-append c p))
      (SignedFrom.number (small p n w h) st)))
  signed_by (RunView.over {k = k} e ds st l) =
      SignedFrom.no_number
      (large u _ (subst (λ (x : List ℕ). TooFar (limit_of neg) (way_out_value neg) first x (refusal (way_out_value neg) (first + k) (pos 0))) (sym e) (TooFar.too_far ds st l)))

plain_sound : (at b : ℕ) (u : List ℕ) → (b ≡ plus → ⊥) → (b ≡ dash → ⊥) → SignedFrom at (b ∷ u) (signed_run_value false at (refusal 9 at (pos b)) (b ∷ u))
unfolding signed_of signed_run_value
plain_sound at b u k l =
    signed_by false at [] at (omega arith) (refusal 9 at (pos b)) (λ p n w h. Signed.plain w (omega arith)) (λ v f t. NoSigned.above t)
    (b ∷ u) bare (run_view (limit_of false) at (b ∷ u))
  where
    bare : Stops (b ∷ u) → NoSigned at (b ∷ u) (refusal 9 at (pos b))
    bare (Stops.other h) = NoSigned.other h k l

plus_sound : (at : ℕ) (u : List ℕ) → SignedFrom at (plus ∷ u) (signed_run_value false (at + 1) (refusal 10 at (pos 0)) u)
unfolding signed_of signed_run_value
plus_sound at u =
    signed_by false at (plus ∷ []) (at + 1) refl (refusal 10 at (pos 0)) (λ p n w h. Signed.with_plus w (omega arith))
    (λ v f t. NoSigned.above_plus t) u (λ st. NoSigned.bare_plus st) (run_view (limit_of false) (at + 1) u)

dash_sound' : (at : ℕ) (u : List ℕ) → SignedFrom at (dash ∷ u) (signed_run_value true (at + 1) (refusal 10 at (pos 0)) u)
unfolding signed_of signed_run_value
dash_sound' at u =
    signed_by true at (dash ∷ []) (at + 1) refl (refusal 10 at (pos 0)) (λ p n w h. Signed.with_dash w (omega arith))
    (λ v f t. NoSigned.below_dash t) u (λ st. NoSigned.bare_dash st) (run_view (limit_of true) (at + 1) u)

pub signed_sound : (at : ℕ) (u : List ℕ) → SignedFrom at u (read_signed at u)
unfolding read_signed
signed_sound at [] = SignedFrom.no_number NoSigned.ended
signed_sound at (b ∷ u) = go (eqb b dash) refl
  where
    first : Result (ℤ × ℕ) Refusal
    first = signed_run_value true (at + 1) (refusal 10 at (pos 0)) u

    second : Result (ℤ × ℕ) Refusal
    second = signed_run_value false (at + 1) (refusal 10 at (pos 0)) u

    third : Result (ℤ × ℕ) Refusal
    third = signed_run_value false at (refusal 9 at (pos b)) (b ∷ u)

    goes : (t : Bool) → eqb b plus ≡ t → (b ≡ dash → ⊥) → SignedFrom at (b ∷ u) (pick t second third)
    goes true e k = subst (λ (x : ℕ). SignedFrom at (x ∷ u) second) (sym (eqb-true b plus e)) (plus_sound at u)
    goes false e k = plain_sound at b u (eqb-false b plus e) k

    go : (t : Bool) → eqb b dash ≡ t → SignedFrom at (b ∷ u) (pick t first (pick (eqb b plus) second third))
    go true e = subst (λ (x : ℕ). SignedFrom at (x ∷ u) first) (sym (eqb-true b dash e)) (dash_sound' at u)
    go false e = goes (eqb b plus) refl (eqb-false b dash e)

-- the other way: which run it comes to
after_dash : (at : ℕ) (u : List ℕ) → read_signed at (dash ∷ u) ≡ signed_run_value true (at + 1) (refusal 10 at (pos 0)) u
unfolding read_signed
after_dash at u = refl

after_plus : (at : ℕ) (u : List ℕ) → read_signed at (plus ∷ u) ≡ signed_run_value false (at + 1) (refusal 10 at (pos 0)) u
unfolding read_signed
after_plus at u = refl

after_none : (at b : ℕ) (u : List ℕ) → (b ≡ plus → ⊥) → (b ≡ dash → ⊥) → read_signed at (b ∷ u) ≡ signed_run_value false at (refusal 9 at (pos b)) (b ∷ u)
unfolding read_signed
after_none at b u k l = pick_no _ _ (ne_eqb b dash l) ∙ pick_no _ _ (ne_eqb b plus k)

-- digits begin with no sign, whatever the refusal of a text without one would be
after_digits : (at : ℕ) (u : List ℕ) {p : List ℕ} {r : Result (ℤ × ℕ) Refusal} → Digits p → 0 < length p → ((none : Refusal) → signed_run_value false at none (p ++ u) ≡ r) → read_signed at (p ++ u) ≡ r
after_digits at u Digits.none h e = absurd (omega arith)
after_digits at u (Digits.more {b} {s} d ds) h e = after_none at b (s ++ u) (λ x. omega (arith, d.low)) (λ x. omega (arith, d.low)) ∙ e (refusal 9 at (pos b))

pub signed_complete : {at : ℕ} {u : List ℕ} {r : Result (ℤ × ℕ) Refusal} → SignedFrom at u r → read_signed at u ≡ r
unfolding signed_of read_signed signed_run_value
signed_complete {at} (SignedFrom.number w st) = by w st
  where
    by : {p : List ℕ} {y : ℤ} → Signed p y → {u : List ℕ} → Stops u → read_signed at (p ++ u) ≡ Ok (y, at + length p)
    by (Signed.plain w h) {u} st = after_digits at u w.digits w.some (λ none. ap (to_signed false none) (run_is (limit_of false) at w st (omega arith)))
    by (Signed.with_plus {p} {n} w h) {u} st =
        after_plus at (p ++ u) ∙ ap (to_signed false (refusal 10 at (pos 0))) (run_is (limit_of false) (at + 1) w st (omega arith)) ∙ ap (λ (k : ℕ). Ok (pos n, k)) (omega arith)
    by (Signed.with_dash {p} {n} w h) {u} st =
        after_dash at (p ++ u) ∙ ap (to_signed true (refusal 10 at (pos 0))) (run_is (limit_of true) (at + 1) w st (omega arith)) ∙ ap (λ (k : ℕ). Ok (neg_ℤ (pos n), k)) (omega arith)
signed_complete {at} (SignedFrom.no_number h) = by h
  where
    by : {u : List ℕ} {f : Refusal} → NoSigned at u f → read_signed at u ≡ Err f
    by NoSigned.ended = refl
    by (NoSigned.other {b} {u} h k l) = after_none at b u k l ∙ ap (to_signed false (refusal 9 at (pos b))) (run_none (limit_of false) at (Stops.other {b = b} {u = u} h))
    by (NoSigned.bare_plus {u} st) = after_plus at u ∙ ap (to_signed false (refusal 10 at (pos 0))) (run_none (limit_of false) (at + 1) st)
    by (NoSigned.bare_dash {u} st) = after_dash at u ∙ ap (to_signed true (refusal 10 at (pos 0))) (run_none (limit_of true) (at + 1) st)
    by (NoSigned.above (TooFar.too_far {u = u} ds st l)) =
        after_digits at u ds (omega (arith, l.stands)) (λ none. ap (to_signed false none) (run_leaves (limit_of false) at ds st l))
    by (NoSigned.above_plus (TooFar.too_far {p} {u} ds st l)) =
        after_plus at (p ++ u) ∙ ap (to_signed false (refusal 10 at (pos 0))) (run_leaves (limit_of false) (at + 1) ds st l)
    by (NoSigned.below_dash (TooFar.too_far {p} {u} ds st l)) =
        after_dash at (p ++ u) ∙ ap (to_signed true (refusal 10 at (pos 0))) (run_leaves (limit_of true) (at + 1) ds st l)

-- ---- a `-`, and the end

pub dash_sound : (at : ℕ) (u : List ℕ) → DashFrom at u (read_dash at u)
unfolding read_dash
dash_sound at [] = DashFrom.no_dash NoDash.ended
dash_sound at (b ∷ u) = go (eqb b dash) refl
  where
    go : (t : Bool) → eqb b dash ≡ t → DashFrom at (b ∷ u) (pick t (Ok (at + 1)) (Err (refusal 12 at (pos b))))
    go true e = subst (λ (x : ℕ). DashFrom at (x ∷ u) (Ok (at + 1))) (sym (eqb-true b dash e)) DashFrom.a_dash
    go false e = DashFrom.no_dash (NoDash.other (eqb-false b dash e))

pub dash_complete : {at : ℕ} {u : List ℕ} {r : Result ℕ Refusal} → DashFrom at u r → read_dash at u ≡ r
unfolding read_dash
dash_complete DashFrom.a_dash = refl
dash_complete (DashFrom.no_dash NoDash.ended) = refl
dash_complete (DashFrom.no_dash (NoDash.other {b} h)) = pick_no _ _ (ne_eqb b dash h)

pub end_sound : (at : ℕ) (u : List ℕ) → EndFrom at u (read_end at u)
unfolding read_end
end_sound at [] = EndFrom.reached
end_sound at (b ∷ u) = EndFrom.left_over

pub end_complete : {at : ℕ} {u : List ℕ} {r : Result ⊤ Refusal} → EndFrom at u r → read_end at u ≡ r
unfolding read_end
end_complete EndFrom.reached = refl
end_complete EndFrom.left_over = refl

-- ---- at a place: said once for the four kinds of read

module _ {A : Type 0} (From : ℕ → List ℕ → Result A Refusal → Type 0) (f : ℕ → List ℕ → Result A Refusal) where
  at_sound : ((at : ℕ) (u : List ℕ) → From at u (f at u)) → (s : List ℕ) (at : ℕ) {r : Result A Refusal} → r ≡ placed f s at → At From s at r
  at_sound sound s at {r} e = subst (At From s at) (sym e) (go (ltb (length s) at) refl)
    where
      go : (t : Bool) → ltb (length s) at ≡ t → At From s at (placed f s at)
      go true h = subst (At From s at) (sym (placed_past f s at (ltb-true _ _ h))) (At.past (ltb-true _ _ h))
      go false h = subst (At From s at) (sym (placed_in f s at (ltb-false _ _ h))) (At.within (ltb-false _ _ h) (sound at (drop at s)))

  at_complete : ((at : ℕ) (u : List ℕ) (r : Result A Refusal) → From at u r → f at u ≡ r) → {s : List ℕ} {at : ℕ} {r : Result A Refusal} → At From s at r → placed f s at ≡ r
  at_complete complete {s} {at} (At.past h) = placed_past f s at h
  at_complete complete {s} {at} (At.within h w) = placed_in f s at h ∙ complete at (drop at s) _ w

module _ {s : List ℕ} {at : ℕ} where
  pub number_meant : {r : Result (ℕ × ℕ) Refusal} → r ≡ the_number s at → NumberAt s at r
  number_meant = at_sound NumberFrom read_number number_sound s at

  pub number_is : {r : Result (ℕ × ℕ) Refusal} → NumberAt s at r → r ≡ the_number s at
  number_is h = sym (at_complete NumberFrom read_number (λ at u r w. number_complete w) h)

  pub signed_meant : {r : Result (ℤ × ℕ) Refusal} → r ≡ the_signed s at → SignedAt s at r
  signed_meant = at_sound SignedFrom read_signed signed_sound s at

  pub signed_is : {r : Result (ℤ × ℕ) Refusal} → SignedAt s at r → r ≡ the_signed s at
  signed_is h = sym (at_complete SignedFrom read_signed (λ at u r w. signed_complete w) h)

  pub dash_meant : {r : Result ℕ Refusal} → r ≡ the_dash s at → DashAt s at r
  dash_meant = at_sound DashFrom read_dash dash_sound s at

  pub dash_is : {r : Result ℕ Refusal} → DashAt s at r → r ≡ the_dash s at
  dash_is h = sym (at_complete DashFrom read_dash (λ at u r w. dash_complete w) h)

  pub end_meant : {r : Result ⊤ Refusal} → r ≡ the_end s at → EndAt s at r
  end_meant = at_sound EndFrom read_end end_sound s at

  pub end_is : {r : Result ⊤ Refusal} → EndAt s at r → r ≡ the_end s at
  end_is h = sym (at_complete EndFrom read_end (λ at u r w. end_complete w) h)
