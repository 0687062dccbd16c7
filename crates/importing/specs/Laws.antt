-- What the proofs need: how a record is written, and that each one takes the text further.
-- Assumes nothing.
use Rattle.std.specs.Prelude.{ℕ, ◌+◌, ◌-◌, ◌≤◌, ◌<◌, ◌≡◌, refl, Bool, List, [], ◌∷◌, ◌++◌, length, take, drop, pos, Result, Ok, Err, IsOk}
use Rattle.std.proofs.Common.{sym, ◌∙◌, ap, subst, arith, length-append, length-drop, take_all}
use Rattle.std.proofs.Math.Nat.{min-eq_left, min-eq_right}
use Rattle.refusals.specs.Promise.{refusal}
use Rattle.whole.specs.Text.{tab}
use Rattle.refusals.specs.declared.Refusal.{Refusal}
use Rattle.writer.specs.Promise.{Writes, Puts}
use Rattle.writer.proofs.PutLaws.{length_put}
use Rattle.entry.specs.Promise.{Naming}
use Rattle.linetext.specs.Line.{longest_line}
use Rattle.linetext.specs.Promise.{LineOut}
use Rattle.listing.specs.Promise.{HeldLine, LastLine}
use Rattle.listing.specs.Laws.{Wrote, wrote_it, held_short, listed_also}
use Rattle.commatext.specs.declared.Scan.{Scan}
use Rattle.commatext.specs.declared.Scan.TheVariants.{Entry, Miscounted, Stops}
use Rattle.commatext.specs.Grammar.{comma, quote, Quoted, Field, Record, LineEnd, longest_record}
use Rattle.commatext.specs.Promise.{Closes, line_of, Scans}
use Rattle.commatext.specs.Contents.{Outcome}
use Rattle.importing.specs.Import.{Imported, AllImported}
use Rattle.importing.specs.declared.Taken.{Taken}
use Rattle.importing.specs.declared.Stopped.{Stopped}
use Rattle.importing.specs.Promise.{most_place, place_of, ImportState, import_state, TakesRecord, Imports}
use Rattle.calendar.specs.declared.Calendar.{Calendar}

-- ---- what is written

held_line : {N : Naming} {l : List ℕ} {n : ℕ} {t : List ℕ} → LastLine N l n t → 0 < n → HeldLine N l n t
held_line LastLine.no_more h = absurd (omega arith)
held_line (LastLine.one_more j g) h = g

pub entry_wrote : {N : Naming} {l : List ℕ} {n : ℕ} {b : List ℕ} {at : ℕ} {b' : List ℕ} {i : ℕ} → 0 < n → Writes (LastLine N l n) b at b' (Ok i) → Wrote (HeldLine N l n) b at b' i
entry_wrote h (Writes.writes x (Puts.done k)) = wrote_it (held_line x h) k

pub entry_room : {N : Naming} {l : List ℕ} {n : ℕ} {b : List ℕ} {at : ℕ} {b' : List ℕ} {f : Refusal} → 0 < n → at + longest_line ≤ length b → Writes (LastLine N l n) b at b' (Err f) → ⊥
entry_room h k (Writes.writes x (Puts.short s)) = omega (arith, held_short (held_line x h))

pub fault_wrote : {f : Refusal} {b : List ℕ} {at : ℕ} {b' : List ℕ} {i : ℕ} → Writes (LineOut (Err f)) b at b' (Ok i) → Wrote (LineOut (Err f)) b at b' i
fault_wrote (Writes.writes x (Puts.done k)) = wrote_it x k

pub fault_room : {f : Refusal} {b : List ℕ} {at : ℕ} {b' : List ℕ} {g : Refusal} → at + longest_line ≤ length b → Writes (LineOut (Err f)) b at b' (Err g) → ⊥
fault_room k (Writes.writes x (Puts.short s)) = omega (arith, x.short)

-- so both have room
pub entry_told : {N : Naming} {l : List ℕ} {n : ℕ} {b : List ℕ} {at : ℕ} {b' : List ℕ} (r : Result ℕ Refusal) → 0 < n → at + longest_line ≤ length b → Writes (LastLine N l n) b at b' r → IsOk r
entry_told (Ok i) h k w = refl
entry_told (Err f) h k w = absurd (entry_room h k w)

pub fault_told : {f : Refusal} {b : List ℕ} {at : ℕ} {b' : List ℕ} (r : Result ℕ Refusal) → at + longest_line ≤ length b → Writes (LineOut (Err f)) b at b' r → IsOk r
fault_told (Ok i) k w = refl
fault_told (Err g) k w = absurd (fault_room k w)

-- ---- the line of a record has room in the line buffer

field_short : {l f : List ℕ} → Field l f → length f ≤ length l
field_short (Field.escaped {l} q) = omega (arith, go q, length-append l (quote ∷ []))
  where
    go : {l f : List ℕ} → Quoted l f → length f ≤ length l
    go Quoted.none = omega arith
    go (Quoted.byte t r) = omega (arith, go r)
    go (Quoted.twice r) = omega (arith, go r)
field_short (Field.non_escaped q) = omega arith

record_some : {l : List ℕ} {fs : List (List ℕ)} → Record l fs → 0 < length fs
record_some (Record.last q) = omega arith
record_some (Record.more q r) = omega arith

line_short : {l f g : List ℕ} {fs : List (List ℕ)} → Record l fs → fs ≡ f ∷ g ∷ [] → length (line_of f g) ≤ length l
line_short (Record.last q) e = absurd (omega (arith, ap length e))
line_short {f = f} {g} (Record.more {l} {f = a} {m} q (Record.last {f = c} r)) e =
    let x : f ≡ a = cc in
    let y : g ≡ c = cc in
    omega (arith, field_short q, field_short r, length-append f (tab ∷ g), length-append l (comma ∷ m), ap length x, ap length y)
line_short (Record.more q (Record.more r p)) e = absurd (omega (arith, ap length e, record_some p))

pub entry_some : {ends : Bool} {s b c : List ℕ} {k n : ℕ} → Scans ends s b c (Entry k n) → 0 < k
entry_some (Scans.entry {f = f} {g} p h x) = omega (arith, length-append f (tab ∷ g))

pub entry_short : {ends : Bool} {s b c : List ℕ} {k n : ℕ} → Scans ends s b c (Entry k n) → k ≤ longest_record
entry_short (Scans.entry p h x) = omega (arith, line_short p refl)

-- ---- a record takes the text further, and stays in it

closes_within : {ends : Bool} {l s : List ℕ} {n : ℕ} → Closes ends l s n → n ≤ length s
closes_within {l = l} (Closes.line_end {e} r x d m) = omega (arith, ap length d, length-append l (e ++ r), length-append e r)
closes_within (Closes.text_ends t d m) = omega (arith, ap length d)

line_some : {e : List ℕ} → LineEnd e → 0 < length e
line_some LineEnd.return_feed = omega arith
line_some LineEnd.feed = omega arith

closes_some : {ends : Bool} {l s : List ℕ} {n : ℕ} → 0 < length s → Closes ends l s n → 0 < n
closes_some h (Closes.line_end r x d m) = omega (arith, line_some x)
closes_some h (Closes.text_ends t d m) = omega (arith, ap length d)

pub entry_on : {ends : Bool} {s b c : List ℕ} {k n : ℕ} → Scans ends s b c (Entry k n) → (n ≤ length s) × (0 < length s → 0 < n)
entry_on (Scans.entry p h x) = (closes_within x, λ i. closes_some i x)

pub miscounted_on : {ends : Bool} {s b c : List ℕ} {n : ℕ} → Scans ends s b c (Miscounted n) → (n ≤ length s) × (0 < length s → 0 < n)
miscounted_on (Scans.miscounted p f h x) = (closes_within x, λ i. closes_some i x)

pub within_text : (b : List ℕ) (at : ℕ) {n : ℕ} → at < length b → n ≤ length (drop at b) → at + n ≤ length b
within_text b at h k = omega (arith, length-drop at b)

pub taken_on : {N : Naming} {ends : Bool} {o : ℕ} {b : List ℕ} {s : ImportState} {l x : List ℕ} {i u : ℕ} → s.at < length b → TakesRecord N ends o b s l x (Taken.Written i u) → (s.at < i) × (i ≤ length b)
taken_on {b = b} {s} h (TakesRecord.entry p q) = (omega (arith, (entry_on p).1 (omega (arith, length-drop s.at b))), within_text b s.at h (entry_on p).0)
taken_on {b = b} {s} h (TakesRecord.miscounted p q) = (omega (arith, (miscounted_on p).1 (omega (arith, length-drop s.at b))), within_text b s.at h (miscounted_on p).0)

pub taken_long : {N : Naming} {ends : Bool} {o : ℕ} {b : List ℕ} {s : ImportState} {l x : List ℕ} {r : Taken} → s.used + longest_line ≤ length s.out → TakesRecord N ends o b s l x r → length x ≡ length s.out
taken_long {s = s} h (TakesRecord.entry {t = t} p q) = length_put s.out s.used t (omega (arith, held_short q))
taken_long {s = s} h (TakesRecord.miscounted {t = t} p q) = length_put s.out s.used t (omega (arith, q.short))
taken_long {s = s} h (TakesRecord.stops {t = t} p q) = length_put s.out s.used t (omega (arith, q.short))
taken_long h (TakesRecord.cut p) = refl

-- ---- record after record: what is still to come leads from where the text was begun

pub record Reaches (N : Naming) (ends : Bool) (o : ℕ) (b : List ℕ) (s t : ImportState) : Type 0 where
  pub onward : (e : ImportState) (w : Stopped) → Imports N ends o b t e w → Imports N ends o b s e w
  pub long : length t.out ≡ length s.out

pub reaches_start : {N : Naming} {ends : Bool} {o : ℕ} (b : List ℕ) (s : ImportState) → Reaches N ends o b s s
reaches_start b s = record { onward = λ e w r. r; long = refl }

pub reaches_on : {N : Naming} {ends : Bool} {o : ℕ} {b : List ℕ} {s t : ImportState} {l x : List ℕ} {i u : ℕ} → Reaches N ends o b s t → t.at < length b → t.used + longest_line ≤ length t.out
    → TakesRecord N ends o b t l x (Taken.Written i u) → Reaches N ends o b s (import_state i l x u)
reaches_on g h k w = record { onward = λ e v r. g.onward e v (Imports.goes_on h k w r); long = taken_long k w ∙ g.long }

-- ---- from what was written to the promise

-- the text from an offset on
pub scans_all : {ends : Bool} (b : List ℕ) (at : ℕ) {l l' : List ℕ} {r : Scan} → Scans ends (take (length b - at) (drop at b)) l l' r → Scans ends (drop at b) l l' r
scans_all {ends} b at {l} {l'} {r} x = subst (λ (y : List ℕ). Scans ends y l l' r) (take_all (length b - at) (drop at b) (omega (arith, length-drop at b))) x

pub takes_entry : {N : Naming} {ends : Bool} {o : ℕ} {b : List ℕ} {at : ℕ} {l x : List ℕ} {u : ℕ} {l' x' : List ℕ} {j k n : ℕ}
    → Scans ends (drop at b) l l' (Entry k n) → Wrote (HeldLine N l' k) x u x' j → TakesRecord N ends o b (import_state at l x u) l' x' (Taken.Written (at + n) j)
takes_entry p (wrote_it q h) = TakesRecord.entry p q

pub takes_miscounted : {N : Naming} {ends : Bool} {o : ℕ} {b : List ℕ} {at : ℕ} {l x : List ℕ} {u : ℕ} {l' x' : List ℕ} {j n : ℕ}
    → Scans ends (drop at b) l l' (Miscounted n) → Wrote (LineOut (Err (refusal 27 (place_of o at) (pos 0)))) x u x' j → TakesRecord N ends o b (import_state at l x u) l' x' (Taken.Written (at + n) j)
takes_miscounted p (wrote_it q h) = TakesRecord.miscounted p q

pub takes_stop : {N : Naming} {ends : Bool} {o : ℕ} {b : List ℕ} {at : ℕ} {l x : List ℕ} {u : ℕ} {l' x' : List ℕ} {j n p : ℕ}
    → Scans ends (drop at b) l l' (Stops n p) → Wrote (LineOut (Err (refusal n (place_of (place_of o at) p) (pos 0)))) x u x' j → TakesRecord N ends o b (import_state at l x u) l' x' (Taken.Ended j)
takes_stop p (wrote_it q h) = TakesRecord.stops p q

-- ---- where whatever N says of a name M says too, what is imported by N is imported by M

module _ {N M : Naming} (also : (s : List ℕ) (a : Result Calendar Refusal) → N s a → M s a) where
  imported_also : {r : Outcome} {t : List ℕ} → Imported N r t → Imported M r t
  imported_also (Imported.listed x) = Imported.listed (listed_also also x)
  imported_also (Imported.told x) = Imported.told x

  pub all_also : {rs : List Outcome} {t : List ℕ} → AllImported N rs t → AllImported M rs t
  all_also AllImported.none = AllImported.none
  all_also (AllImported.next p r) = AllImported.next (imported_also p) (all_also r)
