-- What the proofs need: how a line is held and written, and how a block is cut into lines.
-- Assumes nothing.
use Rattle.std.specs.Prelude.{ℕ, ◌+◌, ◌≤◌, ◌<◌, ◌≡◌, refl, List, [], length, pos, Option, Some, None, ok_or, Result, Ok, Err}
use Rattle.std.specs.Result.{result_unwrap_or}
use Rattle.std.proofs.Common.{sym, subst, ◌∙◌, arith}
use Rattle.writer.specs.Promise.{Writes, put, Puts, Copies, copied, no_room}
use Rattle.writer.specs.Laws.{left_alone}
use Rattle.writer.proofs.PutLaws.{length_put}
use Rattle.refusals.specs.Promise.{refusal as textRefusal}
use Rattle.refusals.specs.declared.Refusal.{Refusal}
use Rattle.linetext.specs.Line.{longest_line}
use Rattle.linetext.specs.Promise.{LineOut}
use Rattle.textlines.specs.Promise.{TakesLine}
use Rattle.textlines.specs.Laws.{rest_grows, line_grows}
use Rattle.entry.specs.Entry.{longest_entry}
use Rattle.entry.specs.Promise.{Naming, LineAnswer}
use Rattle.entry.specs.Laws.{answer_also}
use Rattle.columns.specs.Columns.{line_of}
use Rattle.listing.specs.Promise.{HeldAnswer, HeldAs, HeldLine, LastLine, BlockState, block_state, NextLine, Lists}
use Rattle.listing.specs.Lines.{Listed, listed, AllListed}
use Rattle.calendar.specs.declared.Calendar.{Calendar}
use Rattle.calendar.specs.declared.Date.{Date}
use Rattle.linetext.specs.declared.LineNumbers.{LineNumbers}

-- ---- the line that is held

pub answered_long : {l : List ℕ} {n : ℕ} {why : Refusal} {N : Naming} → longest_entry < n → why ≡ textRefusal 20 0 (pos 0) → HeldAs N l n (Err why)
answered_long {l} {n} {N = N} h e = subst (λ (f : Refusal). HeldAs N l n (Err f)) (sym e) (HeldAs.held_as (HeldAnswer.long h))

pub held_short : {l : List ℕ} {n : ℕ} {t : List ℕ} {N : Naming} → HeldLine N l n t → length t ≤ longest_line
held_short (HeldLine.held_line h x) = x.short

-- ---- the last line

module _ {l : List ℕ} {n : ℕ} {b : List ℕ} {at : ℕ} where
  pub last_held : {m : Result LineNumbers Refusal} {b' : List ℕ} {r : Result ℕ Refusal} {N : Naming} → 0 < n → HeldAs N l n m → Writes (LineOut m) b at b' r → Writes (LastLine N l n) b at b' r
  last_held h (HeldAs.held_as g) (Writes.writes t p) = Writes.writes (LastLine.one_more h (HeldLine.held_line g t)) p

  -- where nothing is held, no bytes are put, and the place for them may still lie past the end
  pub last_none : {N : Naming} {b' : List ℕ} {o : Option ℕ} {f : Refusal} {r : Result ℕ Refusal} → n ≡ 0 → Copies [] b at b' o → f ≡ textRefusal 18 0 (pos 0) → r ≡ ok_or o f → Writes (LastLine N l n) b at b' r
  last_none {N} {b'} {o} {f} {r} z c g e = subst (λ (k : ℕ). Writes (LastLine N l k) b at b' r) (sym z) (subst (Writes (LastLine N l 0) b at b') (sym e) (by o c))
    where
      by : (o : Option ℕ) {c : List ℕ} → Copies [] b at c o → Writes (LastLine N l 0) b at c (ok_or o f)
      by (Some i) (copied h) = Writes.writes LastLine.no_more (Puts.done h)
      by None (no_room h) = left_alone [] LastLine.no_more refl h g

-- ---- a text as IsText says was put into b at `at`, and i is the offset after it

pub data Wrote (IsText : List ℕ → Type 0) (b : List ℕ) (at : ℕ) : List ℕ → ℕ → Type 0 where
  wrote_it : {t : List ℕ} → IsText t → at + length t ≤ length b → Wrote IsText b at (put b at t) (at + length t)

-- with room for the longest line nothing is refused
pub held_wrote : {l : List ℕ} {n : ℕ} {m : Result LineNumbers Refusal} {b : List ℕ} {at : ℕ} {b' : List ℕ} (r : Result ℕ Refusal) {N : Naming} → at + longest_line ≤ length b → HeldAs N l n m → Writes (LineOut m) b at b' r
    → Wrote (HeldLine N l n) b at b' (result_unwrap_or r at)
held_wrote (Ok i) k (HeldAs.held_as h) (Writes.writes x (Puts.done j)) = wrote_it (HeldLine.held_line h x) j
held_wrote (Err f) k h (Writes.writes x (Puts.short s)) = absurd (omega (arith, x.short))

-- ---- one line of the block, or what the block has of it

pub next_line : {b : List ℕ} {at : ℕ} {l : List ℕ} {n : ℕ} {o : List ℕ} {u i : ℕ} {l' : List ℕ} {n' : ℕ} {o' : List ℕ} {u' : ℕ} {N : Naming}
    → TakesLine b at l n i l' n' → Wrote (HeldLine N l' n') o u o' u' → NextLine N b (block_state at l n o u) (block_state i l' 0 o' u')
next_line f (wrote_it x k) = NextLine.line f x (held_short x)

pub next_grows : {b : List ℕ} {s t : BlockState} {N : Naming} → NextLine N b s t → s.at < length b → s.at < t.at
next_grows (NextLine.rest f) h = rest_grows f h
next_grows (NextLine.line f g m) h = line_grows f

next_inside : {b : List ℕ} {s t : BlockState} {N : Naming} → NextLine N b s t → s.used + longest_line ≤ length s.out → (length t.out ≡ length s.out) × (t.used ≤ length s.out)
next_inside (NextLine.rest f) h = (refl, omega arith)
next_inside {s = s} (NextLine.line {t = t} f g m) h = (length_put s.out s.used t (omega arith), omega arith)

-- ---- line after line: what is still to come leads from where the block was begun

pub record Reaches (N : Naming) (b : List ℕ) (s t : BlockState) : Type 0 where
  pub onward : (e : BlockState) → Lists N b t e → Lists N b s e
  pub long : length t.out ≡ length s.out

pub reaches_start : {N : Naming} (b : List ℕ) (s : BlockState) → Reaches N b s s
reaches_start b s = record { onward = λ e r. r; long = refl }

pub reaches_on : {b : List ℕ} {s t v : BlockState} {N : Naming} → Reaches N b s t → t.at < length b → t.used + longest_line ≤ length t.out → NextLine N b t v → length v.out ≡ length t.out → Reaches N b s v
reaches_on g h k w m = record { onward = λ e r. g.onward e (Lists.goes_on h k w r); long = m ∙ g.long }

-- where the output has room to begin with, it is not overrun, and the block is read on
pub lists_inside : {b : List ℕ} {N : Naming} {s e : BlockState} → Lists N b s e → s.used ≤ length s.out → e.used ≤ length e.out
lists_inside (Lists.block_ends h) k = k
lists_inside (Lists.out_of_room h) k = k
lists_inside (Lists.goes_on h r w l) k = let q = next_inside w r in lists_inside l (omega (arith, q.0, q.1))

pub lists_on : {b : List ℕ} {N : Naming} {s e : BlockState} → Lists N b s e → s.at ≤ e.at
lists_on (Lists.block_ends h) = omega arith
lists_on (Lists.out_of_room h) = omega arith
lists_on (Lists.goes_on h r w l) = omega (arith, next_grows w h, lists_on l)

pub lists_grow : {b : List ℕ} {s e : BlockState} {N : Naming} → Lists N b s e → s.at < length b → s.used + longest_line ≤ length s.out → s.at < e.at
lists_grow (Lists.block_ends h) i k = absurd (omega arith)
lists_grow (Lists.out_of_room h) i k = absurd (omega arith)
lists_grow (Lists.goes_on h r w l) i k = omega (arith, next_grows w h, lists_on l)

-- ---- what is written for a line

pub listed_as : {l : List ℕ} {a : Result Date Refusal} {b : List ℕ} {at : ℕ} {b' : List ℕ} {r : Result ℕ Refusal} {N : Naming} → LineAnswer N l a → Writes (LineOut (line_of a)) b at b' r → Writes (Listed N l) b at b' r
listed_as q (Writes.writes t p) = Writes.writes (listed q t.is) p

-- what was written lies in the buffer
pub wrote_inside : {P : List ℕ → Type 0} {b : List ℕ} {at : ℕ} {b' : List ℕ} {i : ℕ} → Writes P b at b' (Ok i) → i ≤ length b'
wrote_inside {b = b} {at} (Writes.writes {t} x (Puts.done h)) = omega (arith, length_put b at t h)

-- where whatever N says of a name M says too, lines listed by N are listed by M
module _ {N M : Naming} (also : (s : List ℕ) (a : Result Calendar Refusal) → N s a → M s a) where
  pub listed_also : {l t : List ℕ} → Listed N l t → Listed M l t
  listed_also (listed q x) = listed (answer_also also q) x

  pub all_also : {ls : List (List ℕ)} {t : List ℕ} → AllListed N ls t → AllListed M ls t
  all_also AllListed.none = AllListed.none
  all_also (AllListed.next p r) = AllListed.next (listed_also p) (all_also r)
