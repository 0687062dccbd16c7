-- THE THEOREMS ON A PROGRAM THAT ANSWERS EACH LINE BY ITSELF. One that does what its turns say, and whose reads and writes do not fail, writes the
-- answers to the lines of its input, one under another, whatever parts the input comes in (`run_answers`); so two runs on one input write the same,
-- where a line has one answer (`any_run`). What stood in the output before the first turn is written before it (`run_after`); a program that starts with
-- the end of its output reads nothing (`run_closes`). A turn within a block goes further in it (`goes_further`): no block holds a program for ever.
-- Assumes nothing.
use Rattle.std.specs.Prelude.{ℕ, zero, suc, ◌+◌, ◌≤◌, ◌<◌, ◌≡◌, refl, true, false, List, [], ◌∷◌, ◌++◌, length, take, drop, Some}
use Rattle.std.proofs.Common.{sym, ◌∙◌, ap, subst, true≢false, append_assoc, append-nil, arith, length-take, drop_of_length-le, take_at}
use Rattle.std.proofs.Math.Nat.{min-eq_left}
use Rattle.writer.specs.Promise.{put}
use Rattle.bytesearch.specs.Promise.{Without}
use Rattle.bytesearch.specs.Laws.{without_both}
use Rattle.whole.specs.Text.{newline}
use Rattle.textlines.specs.Lines.{Lines, longest_read}
use Rattle.textlines.specs.Promise.{Holds, TakesRest, TakesLine}
use Rattle.textlines.specs.Laws.{rest_grows, line_grows, after_line}
use Rattle.textlines.specs.Theorems.{holds_none, holds_more, holds_some, holds_nothing}
use Rattle.filter.specs.declared.Phase.{Phase}
use Rattle.filter.specs.declared.Phase.TheVariants.{Reading, Midway, Closing, Failing, Ended}
use Rattle.filter.specs.declared.Event.TheVariants.{Block}
use Rattle.filter.specs.declared.State.{State}
use Rattle.filter.specs.declared.Stream.TheVariants.{Output}
use Rattle.filter.specs.Promise.{goes_on_value, output_of, room_of, event_of, event_in, block_size, state_with_value}
use Rattle.linerun.specs.declared.Turn.{Turn}
use Rattle.linerun.specs.Promise.{last_of, EndsAt, TakesNext, Advances, NextTurn, HeldOut, Answers, GoesOn, AllOut, LinesOut}
use Rattle.linerun.specs.One.{lines_out_one}

-- ---- what a program does

-- A read of at most m bytes into the block b: c came, and stands at the front of the block. What lies past the m bytes is as it was.
pub record Reads (m : ℕ) (b c b' : List ℕ) : Type 0 where
  pub short : length c ≤ m
  pub front : take (length c) b' ≡ c
  pub rest : drop m b' ≡ drop m b

put_front : (o t : List ℕ) → take (length t) (put o 0 t) ≡ t
put_front o t = take_at t (drop (0 + length t) o) (length t) refl

module _ (Out : List ℕ → List ℕ → Type 0) (unread unwritten : List ℕ) where
  -- Turn after turn: the front of the output o is written, a read is made, and the next turn is asked for. The input is all that was read, and the text
  -- all that was written to standard output.
  pub data Turns : State → List ℕ → List ℕ → List ℕ → List ℕ → List ℕ → Type 0 where
    over : {s : State} {b l o : List ℕ} → goes_on_value s.phase ≡ false → Turns s b l o [] []
    turn : {s s' : State} {b b' l l' o o' c i t : List ℕ} → goes_on_value s.phase ≡ true → output_of s.phase ≡ Output → Reads (room_of s.phase true) b c b'
        → GoesOn Out unread unwritten b' l o s (event_of s true (Some (length c))) l' o' s' → Turns s' b' l' o' i t → Turns s b l o (c ++ i) (take s.used o ++ t)

  -- ---- what is still to come, by the phase

  -- t is what is written for the lines of the bytes x, with h bytes of the first of them held in l
  record Goes (l : List ℕ) (h : ℕ) (x t : List ℕ) : Type 0 where
    out : length l ≡ longest_read → (p : List ℕ) → Without newline p → Holds l h p → LinesOut Out (p ++ x) t

  data After (s : State) (b l o i t : List ℕ) : Phase → Type 0 where
    reading : {v : List ℕ} → Goes l s.held i v → t ≡ take s.used o ++ v → After s b l o i t Reading
    midway : {v : List ℕ} → Goes l s.held (drop s.at (take s.count b) ++ i) v → t ≡ take s.used o ++ v → After s b l o i t Midway
    closing : i ≡ [] → t ≡ take s.used o → After s b l o i t Closing
    failing : After s b l o i t Failing
    ended : i ≡ [] → t ≡ [] → After s b l o i t Ended

  goes_same : {l : List ℕ} {h : ℕ} {x y t u : List ℕ} → x ≡ y → t ≡ u → Goes l h x t → Goes l h y u
  goes_same {l} {h} {x} {y} {t} {u} e f g = subst (λ (z : List ℕ). Goes l h z u) e (subst (Goes l h x) f g)

  -- ---- a line

  held_out : {l : List ℕ} {n : ℕ} {p t : List ℕ} → Holds l n p → HeldOut Out l n t → Out p t
  held_out {t = t} (Holds.fits h e k) (HeldOut.short i x) = subst (λ (q : List ℕ). Out q t) k x
  held_out (Holds.fits h e k) (HeldOut.long i x) = absurd (omega arith)
  held_out (Holds.over h k) (HeldOut.short i x) = absurd (omega arith)
  held_out {p = p} (Holds.over h k) (HeldOut.long i x) = x p h

  line_first : (p q u i : List ℕ) {t v : List ℕ} → Without newline (p ++ q) → Out (p ++ q) t → LinesOut Out (u ++ i) v → LinesOut Out (p ++ ((q ++ (newline ∷ u)) ++ i)) (t ++ v)
  line_first p q u i {t} {v} w x (LinesOut.lines_out m y) =
      subst (λ (z : List ℕ). LinesOut Out z (t ++ v)) (append_assoc p q (newline ∷ (u ++ i)) ∙ ap (λ (z : List ℕ). p ++ z) (sym (append_assoc q (newline ∷ u) i)))
      (LinesOut.lines_out (Lines.line w m) (AllOut.next x y))

  line_goes : {x l l' : List ℕ} {from at h k : ℕ} {t v : List ℕ} (i : List ℕ) → TakesLine x from l h at l' k → HeldOut Out l' k t → Goes l' 0 (drop at x ++ i) v → Goes l h (drop from x ++ i) (t ++ v)
  line_goes {x} {l} {l'} {from} {h = h} {t = t} {v} i (TakesLine.line {q} u e w f) y g =
      goes_same (ap (λ (z : List ℕ). z ++ i) (sym e)) refl (record { out = goes })
    where
      goes : length l ≡ longest_read → (p : List ℕ) → Without newline p → Holds l h p → LinesOut Out (p ++ ((q ++ (newline ∷ u)) ++ i)) (t ++ v)
      goes d p n k =
          let (a, b) = holds_more d k f in
          line_first p q u i (without_both n w) (held_out b y) (subst (λ (z : List ℕ). LinesOut Out (z ++ i) v) (after_line x from q u e) (g.out a [] Without.none (holds_none l')))

  rest_goes : {x l l' : List ℕ} {from at h k : ℕ} {v : List ℕ} (i : List ℕ) → TakesRest x from l h at l' k → Goes l' k i v → Goes l h (drop from x ++ i) v
  rest_goes {l = l} {h = h} {v = v} i (TakesRest.rest {q} e w f) g = goes_same (ap (λ (z : List ℕ). z ++ i) (sym e)) refl (record { out = goes })
    where
      goes : length l ≡ longest_read → (p : List ℕ) → Without newline p → Holds l h p → LinesOut Out (p ++ (q ++ i)) v
      goes d p n k = let (a, b) = holds_more d k f in subst (λ (z : List ℕ). LinesOut Out z v) (append_assoc p q i) (g.out a (p ++ q) (without_both n w) b)

  none_follow : {i : List ℕ} (n at : ℕ) (b : List ℕ) → length (take n b) ≤ at → i ≡ drop at (take n b) ++ i
  none_follow {i} n at b h = ap (λ (z : List ℕ). z ++ i) (sym (drop_of_length-le (take n b) {i = at} h))

  advance_goes : {b l o : List ℕ} {from n h : ℕ} {l' o' : List ℕ} {r : Turn} {s' : State} {i t : List ℕ} → Advances b l from n h l' r → Answers Out unread unwritten l' o r o' s' → After s' b l' o' i t s'.phase → Goes l h (drop from (take n b) ++ i) t
  advance_goes {o = o} {i = i} (Advances.takes j (TakesNext.line f (EndsAt.within k))) (Answers.answer {t = t} y) (After.midway {v} g e) = goes_same refl (ap (λ (z : List ℕ). z ++ v) (sym (put_front o t)) ∙ sym e) (line_goes i f y g)
  advance_goes {b} {o = o} {n = n} {i = i} (Advances.takes j (TakesNext.line {at = at} f (EndsAt.used_up k))) (Answers.answer {t = t} y) (After.reading {v} g e) =
      goes_same refl (ap (λ (z : List ℕ). z ++ v) (sym (put_front o t)) ∙ sym e) (line_goes i f y (goes_same (none_follow n at b (omega (arith, length-take n b))) refl g))
  advance_goes {i = i} (Advances.takes j (TakesNext.rest f)) Answers.no_answer (After.reading g e) = goes_same refl (sym e) (rest_goes i f g)
  advance_goes {b} {from = from} {n} (Advances.none_left j) Answers.no_answer (After.reading g e) = goes_same (none_follow n from b j) (sym e) g

  -- ---- the last line

  nothing_goes : {l : List ℕ} → Goes l 0 [] []
  nothing_goes = record { out = λ d p w k. subst (λ (z : List ℕ). LinesOut Out (z ++ []) []) (sym (holds_nothing p k refl)) (LinesOut.lines_out Lines.none AllOut.none) }

  last_goes : {l : List ℕ} {h : ℕ} {t : List ℕ} → 0 < h → HeldOut Out l h t → Goes l h [] t
  last_goes {t = t} i y =
      record {
        out = λ d p w k. subst (λ (z : List ℕ). LinesOut Out z t) (sym (append-nil p)) (subst (LinesOut Out p) (append-nil t) (LinesOut.lines_out (Lines.last w (holds_some k i)) (AllOut.next (held_out k y) AllOut.none)));
      }

  end_goes : (h : ℕ) {b l o o' : List ℕ} {s' : State} {i t : List ℕ} → Answers Out unread unwritten l o (last_of h) o' s' → After s' b l o' i t s'.phase → Goes l h i t
  end_goes zero Answers.no_answer (After.closing e f) = goes_same (sym e) (sym f) nothing_goes
  end_goes (suc h) {o = o} (Answers.answer {t = t} y) (After.closing e f) = goes_same (sym e) (sym (put_front o t) ∙ sym f) (last_goes (omega arith) y)

  -- ---- a turn, by the phase

  closing_turn : {s s' : State} {a b l l' o o' i t : List ℕ} → GoesOn Out unread unwritten b l o s (event_in Closing s.at s.count true (Some 0)) l' o' s' → After s' b l' o' i t s'.phase → After s a l o i (take s.used o ++ t) Closing
  closing_turn {s} {o = o} (GoesOn.goes_on NextTurn.ends Answers.no_answer) (After.ended e f) = After.closing e (ap (λ (x : List ℕ). take s.used o ++ x) f ∙ append-nil (take s.used o))

  midway_turn : {s s' : State} {b l l' o o' i t : List ℕ} → GoesOn Out unread unwritten b l o s (event_in Midway s.at s.count true (Some 0)) l' o' s' → After s' b l' o' i t s'.phase → After s b l o i (take s.used o ++ t) Midway
  midway_turn (GoesOn.goes_on (NextTurn.works_on a) y) c = After.midway (advance_goes a y c) refl

  reading_turn : {s s' : State} {a b l l' o o' i t : List ℕ} (c : List ℕ) → length c ≤ block_size → take (length c) b ≡ c → GoesOn Out unread unwritten b l o s (event_in Reading s.at s.count true (Some (length c))) l' o' s' → After s' b l' o' i t s'.phase
      → After s a l o (c ++ i) (take s.used o ++ t) Reading
  reading_turn {s} [] h e (GoesOn.goes_on NextTurn.last_line y) q = After.reading (end_goes s.held y q) refl
  reading_turn {b = b} {i = i} (x ∷ c) h e (GoesOn.goes_on (NextTurn.works_on a) y) q = After.reading (goes_same (ap (λ (z : List ℕ). z ++ i) (ap (λ (k : ℕ). take k b) (min-eq_left h) ∙ e)) refl (advance_goes a y q)) refl

  turn_follows : (p : Phase) {s s' : State} {b b' l l' o o' i t : List ℕ} (c : List ℕ) → goes_on_value p ≡ true → Reads (room_of p true) b c b' → GoesOn Out unread unwritten b' l o s (event_in p s.at s.count true (Some (length c))) l' o' s' → After s' b' l' o' i t s'.phase
      → After s b l o (c ++ i) (take s.used o ++ t) p
  turn_follows Reading c e r g q = reading_turn c r.short r.front g q
  turn_follows Midway {s} {l = l} {o = o} {i = i} {t} [] e r g q = subst (λ (x : List ℕ). After s x l o i (take s.used o ++ t) Midway) r.rest (midway_turn g q)
  turn_follows Midway (x ∷ c) e r g q = absurd (omega (arith, r.short))
  turn_follows Closing [] e r g q = closing_turn g q
  turn_follows Closing (x ∷ c) e r g q = absurd (omega (arith, r.short))
  turn_follows Failing c e r g q = After.failing
  turn_follows Ended c e r g q = absurd (true≢false (sym e))

  over_follows : (p : Phase) {s : State} {b l o : List ℕ} → goes_on_value p ≡ false → After s b l o [] [] p
  over_follows Reading e = absurd (true≢false e)
  over_follows Midway e = absurd (true≢false e)
  over_follows Closing e = absurd (true≢false e)
  over_follows Failing e = absurd (true≢false e)
  over_follows Ended e = After.ended refl refl

  follows : {s : State} {b l o i t : List ℕ} → Turns s b l o i t → After s b l o i t s.phase
  follows (Turns.over {s} e) = over_follows s.phase e
  follows (Turns.turn {s} {c = c} e d r g w) = turn_follows s.phase c e r g (follows w)

  read_on : {u : ℕ} {b l o i t : List ℕ} → length l ≡ longest_read → After (state_with_value Reading u) b l o i t Reading → (v : List ℕ) × (t ≡ take u o ++ v) × LinesOut Out i v
  read_on {l = l} k (After.reading {v} g e) = (v, e, g.out k [] Without.none (holds_none l))

  closed : {u : ℕ} {b l o i t : List ℕ} → After (state_with_value Closing u) b l o i t Closing → (i ≡ []) × (t ≡ take u o)
  closed (After.closing e f) = (e, f)

-- ---- the theorems

module _ {Out : List ℕ → List ℕ → Type 0} {unread unwritten : List ℕ} where
  -- where the first u bytes of the output are to be written, they are written first, and then what is to be written for the lines of the input
  pub run_after : {u : ℕ} {b l o i t : List ℕ} → length l ≡ longest_read → Turns Out unread unwritten (state_with_value Reading u) b l o i t → (v : List ℕ) × (t ≡ take u o ++ v) × LinesOut Out i v
  run_after k w = read_on Out unread unwritten k (follows Out unread unwritten w)

  pub run_answers : {b l o i t : List ℕ} → length l ≡ longest_read → Turns Out unread unwritten (state_with_value Reading 0) b l o i t → LinesOut Out i t
  run_answers {i = i} k w = let (v, e, x) = run_after k w in subst (LinesOut Out i) (sym e) x

  pub run_closes : {u : ℕ} {b l o i t : List ℕ} → Turns Out unread unwritten (state_with_value Closing u) b l o i t → (i ≡ []) × (t ≡ take u o)
  run_closes w = closed Out unread unwritten (follows Out unread unwritten w)

  pub goes_further : {b l o : List ℕ} {s : State} {from n : ℕ} {l' o' : List ℕ} {s' : State} → from < length (take n b) → GoesOn Out unread unwritten b l o s (Block from n) l' o' s' → from < s'.at
  goes_further h (GoesOn.goes_on (NextTurn.works_on (Advances.takes i (TakesNext.line f (EndsAt.within k)))) (Answers.answer y)) = line_grows f
  goes_further h (GoesOn.goes_on (NextTurn.works_on (Advances.takes i (TakesNext.line f (EndsAt.used_up k)))) (Answers.answer y)) = line_grows f
  goes_further h (GoesOn.goes_on (NextTurn.works_on (Advances.takes i (TakesNext.rest f))) Answers.no_answer) = rest_grows f h
  goes_further h (GoesOn.goes_on (NextTurn.works_on (Advances.none_left i)) y) = absurd (omega arith)

-- where a line has one answer, two runs on one input write the same, whatever their messages would be
pub any_run : {Out : List ℕ → List ℕ → Type 0} {m n j k : List ℕ} {a b l r o p i t u : List ℕ} → ((x y z : List ℕ) → Out x y → Out x z → y ≡ z) → length l ≡ longest_read → length r ≡ longest_read
    → Turns Out m n (state_with_value Reading 0) a l o i t → Turns Out j k (state_with_value Reading 0) b r p i u → t ≡ u
any_run one e f v w = lines_out_one one (run_answers e v) (run_answers f w)
