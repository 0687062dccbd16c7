-- From the last day of 32 bits to the day that lies ahead, and from there to the steps.
-- Assumes nothing.
use Rattle.std.specs.Prelude.{◌≡◌, refl, Bool, true, false, not, ℕ, ◌+◌, ◌-◌, ◌<◌, ◌≤◌, ◌^◌, eqb, ℤ, Ok, Err}
use Rattle.std.proofs.Common.{sym, subst, ⊎_elim, arith, eqb-true}
use Rattle.std.proofs.lemmas.Bool.{eqb-false}
use Rattle.std.proofs.Math.IntN.{suc_ℤ, pred_ℤ}
use Rattle.whole.specs.Tests.{true_or_false, lt_or_ge}
use Rattle.whole.specs.Promise.{unbias}
use Rattle.days.specs.DayByDay.{Is32Bit}
use Rattle.days.proofs.ClosedEnds.{suc_is, pred_is, suc_far, pred_far, raised_fits}
use Rattle.ways.specs.declared.Kind.{Kind}
use Rattle.ways.specs.declared.Kind.TheVariants.{Later, Earlier, AndLater, AndEarlier}
use Rattle.ways.specs.declared.NoStep.TheVariants as NoStep'
use Rattle.ways.specs.Promise.{goes_later_value, toward, beside, Inside, IsStaying, gives_held_value, gives, EndedAt, NextStep, made_up, goes}

-- ---- The kinds of walkers
pub toward_later : (k : Kind) (n : ℤ) → goes_later_value k ≡ true → toward k n ≡ suc_ℤ n
toward_later Later n e = refl
toward_later Earlier n e = cc
toward_later AndLater n e = refl
toward_later AndEarlier n e = cc

pub toward_earlier : (k : Kind) (n : ℤ) → goes_later_value k ≡ false → toward k n ≡ pred_ℤ n
toward_earlier Later n e = cc
toward_earlier Earlier n e = refl
toward_earlier AndLater n e = cc
toward_earlier AndEarlier n e = refl

-- the day ahead is the one next to it
pub ahead_is : (k : Kind) (n : ℤ) → beside (goes_later_value k) n ≡ toward k n
ahead_is Later n = refl
ahead_is Earlier n = refl
ahead_is AndLater n = refl
ahead_is AndEarlier n = refl

pub gives_held : (k : Kind) (n : ℤ) → gives_held_value k ≡ true → gives k n ≡ n
gives_held Later n e = cc
gives_held Earlier n e = cc
gives_held AndLater n e = refl
gives_held AndEarlier n e = refl

pub gives_ahead : (k : Kind) (n : ℤ) → gives_held_value k ≡ false → gives k n ≡ toward k n
gives_ahead Later n e = refl
gives_ahead Earlier n e = refl
gives_ahead AndLater n e = cc
gives_ahead AndEarlier n e = cc

-- ---- Whether a day of 32 bits lies ahead of a raised one
pub last_up : {n : ℤ} (x : ℕ) → x < 2 ^ 32 → unbias (2 ^ 31) x ≡ n → EndedAt (suc_ℤ n) (eqb x 4_294_967_295)
last_up {n} x h e = ⊎_elim
    (λ t. subst (EndedAt (suc_ℤ n)) (sym t) (suc_far x e (eqb-true x 4_294_967_295 t)))
    (λ f. subst (EndedAt (suc_ℤ n)) (sym f) (raised_fits (x + 1) (omega (arith, eqb-false x 4_294_967_295 f)) (suc_is x e)))
    (true_or_false (eqb x 4_294_967_295))

pub last_down : {n : ℤ} (x : ℕ) → x < 2 ^ 32 → unbias (2 ^ 31) x ≡ n → EndedAt (pred_ℤ n) (eqb x 0)
last_down {n} x h e = ⊎_elim
    (λ t. subst (EndedAt (pred_ℤ n)) (sym t) (pred_far x e (eqb-true x 0 t)))
    (λ f. subst (EndedAt (pred_ℤ n)) (sym f) (raised_fits (x - 1) (omega arith) (pred_is x (omega (arith, eqb-false x 0 f)) e)))
    (true_or_false (eqb x 0))

-- ---- The next day of a month
-- whether a day of 32 bits lies ahead is told by the number that is not the last
pub stays_by : (l : Bool) (d : ℕ) (n : ℤ) (b : Bool) → Inside l d → EndedAt (beside l n) b → IsStaying l d n (not b)
stays_by l d n true h e = λ p. e p.1
stays_by l d n false h e = (h, e)

-- ---- The room for the day ahead
pub room_up : {n : ℤ} (x : ℕ) → unbias (2 ^ 31) x ≡ n → x < 2 ^ 32 → Is32Bit (suc_ℤ n) → x + 1 < 2 ^ 32
room_up x e h f = ⊎_elim (λ l. omega arith) (λ g. absurd (suc_far x e (omega arith) f)) (lt_or_ge x 4_294_967_295)

pub room_down : {n : ℤ} (x : ℕ) → unbias (2 ^ 31) x ≡ n → Is32Bit (pred_ℤ n) → 1 ≤ x
room_down x e f = ⊎_elim (λ l. absurd (pred_far x e (omega arith) f)) (λ g. g) (lt_or_ge x 1)

-- ---- The steps of a walker that is not ended
pub not_both : {b : Bool} → b ≡ false → ¬ (b ≡ true)
not_both e t = let z : ◌≡◌ {A = ℕ} 0 1 = cc in omega arith

pub last_made_up : (k : Kind) (n : ℤ) → not (gives_held_value k) ≡ true → ¬ Is32Bit (toward k n) → NextStep k n false (Err NoStep'.MadeUp)
last_made_up Later n h x = made_up {e = false} x
last_made_up Earlier n h x = made_up {e = false} x
last_made_up AndLater n h x = absurd (not_both refl h)
last_made_up AndEarlier n h x = absurd (not_both refl h)

pub last_gives : (k : Kind) (n : ℤ) → not (gives_held_value k) ≡ false → Is32Bit n → ¬ Is32Bit (toward k n) → NextStep k n false (Ok (record { given = n; held = n; ended = true }))
last_gives Later n h f x = absurd (not_both h refl)
last_gives Earlier n h f x = absurd (not_both h refl)
last_gives AndLater n h f x = goes f {e = true} x
last_gives AndEarlier n h f x = goes f {e = true} x

pub way_gives : (k : Kind) (n : ℤ) {p q : ℤ} → gives_held_value k ≡ true → Is32Bit n → Is32Bit (toward k n) → p ≡ n → q ≡ toward k n → NextStep k n false (Ok (record { given = p; held = q; ended = false }))
way_gives Later n h f x u v = absurd (not_both refl h)
way_gives Earlier n h f x u v = absurd (not_both refl h)
way_gives AndLater n h f x u v = rw (u, v) (goes f {e = false} x)
way_gives AndEarlier n h f x u v = rw (u, v) (goes f {e = false} x)

pub way_goes : (k : Kind) (n : ℤ) {p q : ℤ} {e : Bool} → gives_held_value k ≡ false → Is32Bit (toward k n) → EndedAt (toward k (toward k n)) e → p ≡ toward k n → q ≡ toward k n
    → NextStep k n false (Ok (record { given = p; held = q; ended = e }))
way_goes Later n {e = true} h f x u v = rw (u, v) (goes f {e = true} x)
way_goes Later n {e = false} h f x u v = rw (u, v) (goes f {e = false} x)
way_goes Earlier n {e = true} h f x u v = rw (u, v) (goes f {e = true} x)
way_goes Earlier n {e = false} h f x u v = rw (u, v) (goes f {e = false} x)
way_goes AndLater n h f x u v = absurd (not_both h refl)
way_goes AndEarlier n h f x u v = absurd (not_both h refl)
