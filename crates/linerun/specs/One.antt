-- Two results that a promise allows for one input are equal: those of a turn, and those of a program where a line has one answer.
-- Assumes nothing.
use Rattle.std.specs.Prelude.{ℕ, ◌≡◌, refl, List, ◌++◌, length, take}
use Rattle.std.proofs.Common.{sym, ap, ap₂, subst, arith}
use Rattle.writer.specs.Promise.{put}
use Rattle.textlines.specs.One.{lines_one, takes_rest_one, takes_line_one, rest_or_line}
use Rattle.filter.specs.declared.Phase.TheVariants.{Reading, Midway}
use Rattle.filter.specs.declared.Event.{Event}
use Rattle.filter.specs.declared.State.{State}
use Rattle.filter.specs.One.{puts_message_one}
use Rattle.linerun.specs.declared.Turn.{Turn}
use Rattle.linerun.specs.declared.Turn.TheVariants.{Line, Nothing}
use Rattle.linerun.specs.Promise.{state_at_value, with_output_value, EndsAt, TakesNext, Advances, NextTurn, HeldOut, Answers, GoesOn, AllOut, LinesOut}
use Rattle.linerun.specs.Laws.{long_line, long_is}

-- ---- a turn

ends_at_one : {k j at i n : ℕ} {r q : Turn} → k ≡ j → at ≡ i → EndsAt k at n r → EndsAt j i n q → r ≡ q
ends_at_one {n = n} e f (EndsAt.within h) (EndsAt.within g) = ap₂ (λ (k at : ℕ). Line k (state_at_value Midway at n 0)) e f
ends_at_one e f (EndsAt.within h) (EndsAt.used_up g) = absurd (omega arith)
ends_at_one e f (EndsAt.used_up h) (EndsAt.within g) = absurd (omega arith)
ends_at_one {n = n} e f (EndsAt.used_up h) (EndsAt.used_up g) = ap₂ (λ (k at : ℕ). Line k (state_at_value Reading at n 0)) e f

takes_next_one : {x l : List ℕ} {from n h : ℕ} {k m : List ℕ} {r q : Turn} → TakesNext x l from n h k r → TakesNext x l from n h m q → (k ≡ m) × (r ≡ q)
takes_next_one (TakesNext.line f x) (TakesNext.line g y) = let (i, l, n) = takes_line_one f g in (l, ends_at_one n i x y)
takes_next_one (TakesNext.line f x) (TakesNext.rest g) = absurd (rest_or_line g f)
takes_next_one (TakesNext.rest f) (TakesNext.line g y) = absurd (rest_or_line f g)
takes_next_one {n = n} (TakesNext.rest f) (TakesNext.rest g) = let (i, l, k) = takes_rest_one f g in (l, ap₂ (λ (at h : ℕ). Nothing (state_at_value Reading at n h)) i k)

advances_one : {b l : List ℕ} {from n h : ℕ} {k m : List ℕ} {r q : Turn} → Advances b l from n h k r → Advances b l from n h m q → (k ≡ m) × (r ≡ q)
advances_one (Advances.takes i x) (Advances.takes j y) = takes_next_one x y
advances_one (Advances.takes i x) (Advances.none_left j) = absurd (omega arith)
advances_one (Advances.none_left i) (Advances.takes j y) = absurd (omega arith)
advances_one (Advances.none_left i) (Advances.none_left j) = (refl, refl)

pub next_turn_one : {b l : List ℕ} {s : State} {e : Event} {k m : List ℕ} {r q : Turn} → NextTurn b l s e k r → NextTurn b l s e m q → (k ≡ m) × (r ≡ q)
next_turn_one (NextTurn.works_on x) (NextTurn.works_on y) = advances_one x y
next_turn_one NextTurn.last_line NextTurn.last_line = (refl, refl)
next_turn_one NextTurn.cannot_read NextTurn.cannot_read = (refl, refl)
next_turn_one NextTurn.cannot_write NextTurn.cannot_write = (refl, refl)
next_turn_one NextTurn.ends NextTurn.ends = (refl, refl)

-- ---- a program

module _ {Out : List ℕ → List ℕ → Type 0} (one : (p t u : List ℕ) → Out p t → Out p u → t ≡ u) where
  -- a line that is too long has one answer, since there is such a line
  held_out_one : {l : List ℕ} {n : ℕ} {t u : List ℕ} → HeldOut Out l n t → HeldOut Out l n u → t ≡ u
  held_out_one {l} {n} {t} {u} (HeldOut.short h x) (HeldOut.short k y) = one (take n l) t u x y
  held_out_one (HeldOut.short h x) (HeldOut.long k y) = absurd (omega arith)
  held_out_one (HeldOut.long h x) (HeldOut.short k y) = absurd (omega arith)
  held_out_one {t = t} {u} (HeldOut.long h x) (HeldOut.long k y) = one long_line t u (x long_line long_is) (y long_line long_is)

  pub answers_one : {unread unwritten : List ℕ} {l o : List ℕ} {r : Turn} {p q : List ℕ} {s v : State} → Answers Out unread unwritten l o r p s → Answers Out unread unwritten l o r q v → (p ≡ q) × (s ≡ v)
  answers_one {o = o} (Answers.answer {s = s} x) (Answers.answer y) = let d = held_out_one x y in (ap (put o 0) d, ap (λ (t : List ℕ). with_output_value s (length t)) d)
  answers_one Answers.no_answer Answers.no_answer = (refl, refl)
  answers_one (Answers.cannot_read x) (Answers.cannot_read y) = puts_message_one x y
  answers_one (Answers.cannot_write x) (Answers.cannot_write y) = puts_message_one x y

  pub goes_on_one : {unread unwritten : List ℕ} {b l o : List ℕ} {s : State} {e : Event} {k m p q : List ℕ} {r t : State} → GoesOn Out unread unwritten b l o s e k p r → GoesOn Out unread unwritten b l o s e m q t → (k ≡ m) × (p ≡ q) × (r ≡ t)
  goes_on_one {unread} {unwritten} {o = o} {m = m} {q = q} {t = t} (GoesOn.goes_on {r = c} x v) (GoesOn.goes_on y w) =
      let (d, f) = next_turn_one x y in
      let (g, h) = answers_one v (subst (λ (a : List ℕ). Answers Out unread unwritten a o c q t) (sym d) (subst (λ (a : Turn). Answers Out unread unwritten m o a q t) (sym f) w)) in
      (d, g, h)

  all_out_one : {ls : List (List ℕ)} {t u : List ℕ} → AllOut Out ls t → AllOut Out ls u → t ≡ u
  all_out_one AllOut.none AllOut.none = refl
  all_out_one (AllOut.next {l} {t = t} p r) (AllOut.next {t = u} q s) = ap₂ (λ (x y : List ℕ). x ++ y) (one l t u p q) (all_out_one r s)

  -- an input has one answer
  pub lines_out_one : {input t u : List ℕ} → LinesOut Out input t → LinesOut Out input u → t ≡ u
  lines_out_one {u = u} (LinesOut.lines_out p x) (LinesOut.lines_out q y) = all_out_one x (subst (λ (ls : List (List ℕ)). AllOut Out ls u) (sym (lines_one p q)) y)
