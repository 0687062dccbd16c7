-- What the proofs need, here and in a program that answers each line by itself.
-- Assumes nothing.
use Rattle.std.specs.Prelude.{ℕ, zero, suc, ◌≤◌, ◌<◌, ◌≡◌, refl, List, length, take, replicate, Ok, Err}
use Rattle.std.proofs.Common.{sym, ◌∙◌, ap, subst, zero-add, arith}
use Rattle.std.proofs.lemmas.List.{length-replicate}
use Rattle.writer.specs.Promise.{put, Puts, Writes}
use Rattle.refusals.specs.declared.Refusal.{Refusal}
use Rattle.textlines.specs.Lines.{longest_read}
use Rattle.filter.specs.declared.Phase.TheVariants.{Reading, Closing}
use Rattle.filter.specs.declared.Event.{Event}
use Rattle.filter.specs.declared.State.{State}
use Rattle.filter.specs.Promise.{state_with_value}
use Rattle.linerun.specs.declared.Turn.{Turn}
use Rattle.linerun.specs.declared.Turn.TheVariants.{Line, Nothing}
use Rattle.linerun.specs.Promise.{state_at_value, with_output_value, last_of, TakesNext, Advances, NextTurn, HeldOut, Answers, GoesOn}

-- ---- the last line

pub last_some : (h : ℕ) → 0 < h → Line h (state_with_value Closing 0) ≡ last_of h
last_some zero i = absurd (omega arith)
last_some (suc h) i = refl

pub last_none : (h : ℕ) → h ≤ 0 → Nothing (state_with_value Closing 0) ≡ last_of h
last_none zero i = refl
last_none (suc h) i = absurd (omega arith)

-- ---- the bytes x are the first n of the block

module _ {b x l : List ℕ} {from n h : ℕ} (e : x ≡ take n b) where
  pub advances : {l' : List ℕ} {r : Turn} → from < length x → TakesNext x l from n h l' r → Advances b l from n h l' r
  advances {l'} {r} i w = Advances.takes (subst (λ (y : List ℕ). from < length y) e i) (subst (λ (y : List ℕ). TakesNext y l from n h l' r) e w)

  pub advances_none : {s : State} → length x ≤ from → s ≡ state_at_value Reading from n h → Advances b l from n h l (Nothing s)
  advances_none i q = subst (λ (y : State). Advances b l from n h l (Nothing y)) (sym q) (Advances.none_left (subst (λ (y : List ℕ). length y ≤ from) e i))

-- ---- by what has happened

pub turns : {b l l' : List ℕ} {s : State} {r : Turn} {x y z : Event} → x ≡ z → x ≡ y → NextTurn b l s y l' r → NextTurn b l s z l' r
turns {b} {l} {l'} {s} {r} e f t = subst (λ (v : Event). NextTurn b l s v l' r) (sym f ∙ e) t

-- ---- what is written for a line that is held is written for a line: there are lines that are too long

abbrev pub long_line : List ℕ
long_line = replicate (suc longest_read) 0

pub long_is : longest_read < length long_line
long_is = omega (arith, length-replicate {A = ℕ} (suc longest_read) 0)

pub of_a_line : {Out : List ℕ → List ℕ → Type 0} {l : List ℕ} {n : ℕ} {t : List ℕ} → HeldOut Out l n t → (p : List ℕ) × Out p t
of_a_line {l = l} {n} (HeldOut.short h x) = (take n l, x)
of_a_line (HeldOut.long h x) = (long_line, x long_line long_is)

-- ---- for a program: its answer to a line, by what it wrote; and its turn

module _ {Out : List ℕ → List ℕ → Type 0} where
  pub answer_written : {unread unwritten : List ℕ} {l o : List ℕ} {n : ℕ} {o' : List ℕ} {u : ℕ} {s s' : State} → Writes (HeldOut Out l n) o 0 o' (Ok u) → s' ≡ with_output_value s u → Answers Out unread unwritten l o (Line n s) o' s'
  answer_written {unread} {unwritten} {l} {o} {n} {s = s} (Writes.writes {t} p (Puts.done h)) e = subst (Answers Out unread unwritten l o (Line n s) (put o 0 t)) (sym (e ∙ ap (with_output_value s) (zero-add (length t)))) (Answers.answer p)

  pub goes : {unread unwritten : List ℕ} {b l o : List ℕ} {s : State} {e : Event} {l' o' : List ℕ} {q r : Turn} {s' : State} → NextTurn b l s e l' q → q ≡ r → Answers Out unread unwritten l' o r o' s' → GoesOn Out unread unwritten b l o s e l' o' s'
  goes {unread} {unwritten} {o = o} {l' = l'} {o'} {s' = s'} x f y = GoesOn.goes_on x (subst (λ (v : Turn). Answers Out unread unwritten l' o v o' s') (sym f) y)

  -- where no answer is longer than the output, none is refused
  pub answer_fits : {l o : List ℕ} {n : ℕ} {o' : List ℕ} {f : Refusal} → ((p t : List ℕ) → Out p t → length t ≤ length o) → Writes (HeldOut Out l n) o 0 o' (Err f) → ⊥
  answer_fits fits (Writes.writes {t} x (Puts.short h)) = let (p, y) = of_a_line x in omega (arith, fits p t y)
