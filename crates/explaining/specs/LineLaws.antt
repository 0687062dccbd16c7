-- What the proofs need: of the parts of a line, and of the paragraph for it.
use Rattle.std.specs.Prelude.{ℕ, ◌≤◌, ◌<◌, ◌≡◌, List, [], length, take, drop, ℤ, pos, Result, Ok, Err, Option, Some, None, ok_or}
use Rattle.std.proofs.Common.{sym, ◌∙◌, ap, subst, arith}
use Rattle.days.specs.DayByDay.{Timeline}
use Rattle.writer.specs.Promise.{Copies, Puts, Writes}
use Rattle.linetext.specs.Laws.{Text, text_as, apart_is}
use Rattle.entry.specs.Entry.{longest_entry}
use Rattle.entry.specs.Promise.{Naming, IsParted}
use Rattle.entry.specs.declared.Parts.{Parts}
use Rattle.refusals.specs.declared.Refusal.{Refusal}
use Rattle.refusals.specs.Promise.{refusal}
use Rattle.calendar.specs.declared.Calendar.{Calendar}
use Rattle.reasons.specs.declared.Reason.{Reason}
use Rattle.reasons.specs.declared.Reason.TheVariants as Reason'
use Rattle.reasons.specs.Promise.{OnDay, OfYmd, OfOrdinal, OfFault, Explains}
use Rattle.reasons.specs.Theorems.{mended_inside}
use Rattle.explaining.specs.Patterns.{Filled}
use Rattle.explaining.specs.Wording.{Says, unknown_pattern, long_line}
use Rattle.explaining.specs.Promise.{longest_paragraph, place_of}
use Rattle.explaining.specs.Laws.{Is}
use Rattle.explaining.specs.Paragraph.{Unnamed, ByEntry, Explained, Paragraph}

-- ---- the place of a reason lies in its text, or just past it
on_day_place : {t : Timeline} {c : Calendar} {y n : ℤ} {r : Reason} → OnDay t c y n r → place_of r ≤ 513
on_day_place (OnDay.accepted f p) = omega arith
on_day_place (OnDay.outside h) = omega arith

pub place_inside : {c : Calendar} {s : List ℕ} {r : Reason} → Explains c s r → length s ≤ longest_entry → place_of r ≤ 513
place_inside (Explains.made_up n) h = omega arith
place_inside (Explains.faulty a (OfFault.at_fault p w x)) h = omega (arith, mended_inside p)
place_inside (Explains.by_ymd a u (OfYmd.missing p w)) h = omega arith
place_inside (Explains.by_ymd a u (OfYmd.skipped g)) h = omega arith
place_inside (Explains.by_ymd a u (OfYmd.borne e p)) h = on_day_place p
place_inside (Explains.by_ordinal a u (OfOrdinal.off_year p w)) h = omega arith
place_inside (Explains.by_ordinal a u (OfOrdinal.in_year e p x)) h = on_day_place x

-- ---- the paragraph of a line
module _ {N : Naming} {l b b' : List ℕ} {i : ℕ} where
  pub paragraph : Text (Explained N l) longest_paragraph b 0 b' i → Text (Paragraph N l) longest_paragraph b 0 b' i
  paragraph t = record { text = t.text; is = record { is = t.is; short = t.short }; short = t.short; put = t.put }

  pub long_paragraph : longest_entry < length l → Text (Is long_line) longest_paragraph b 0 b' i → Text (Paragraph N l) longest_paragraph b 0 b' i
  long_paragraph h t = paragraph (text_as t (λ u e. subst (Explained N l) (sym e) (Explained.too_long h)) (omega arith))

  pub unnamed_paragraph : {p : Parts} (f : Refusal) → length l ≤ longest_entry → IsParted l p → N (take p.name_end l) (Err f)
      → Text (Unnamed (take p.name_end l) (drop p.text_from l) f.number) longest_paragraph b 0 b' i → Text (Paragraph N l) longest_paragraph b 0 b' i
  unnamed_paragraph f h p n t = paragraph (text_as t (λ u x. Explained.explained h (ByEntry.no_name p.entry n x)) (omega arith))

  pub reason_paragraph : {p : Parts} {c : Calendar} {r : Reason} → length l ≤ longest_entry → IsParted l p → N (take p.name_end l) (Ok c) → Explains c (drop p.text_from l) r
      → Text (Says (take p.name_end l) (drop p.text_from l) r) longest_paragraph b 0 b' i → Text (Paragraph N l) longest_paragraph b 0 b' i
  reason_paragraph h p n e t = paragraph (text_as t (λ u x. Explained.explained h (ByEntry.by_text p.entry n e x)) (omega arith))

-- what is refused by its number
module _ {name text b b' : List ℕ} {number i : ℕ} where
  pub unknown_name : number ≡ 19 → Text (Filled name [] unknown_pattern []) longest_paragraph b 0 b' i → Text (Unnamed name text number) longest_paragraph b 0 b' i
  unknown_name e t = text_as t (λ u x. Unnamed.unknown e x) (omega arith)

  pub made_up_name : ¬ (number ≡ 19) → Text (Says name text Reason'.MadeUp) longest_paragraph b 0 b' i → Text (Unnamed name text number) longest_paragraph b 0 b' i
  made_up_name e t = text_as t (λ u x. Unnamed.made_up e x) (omega arith)

-- ---- a text copied from the front of another buffer
pub puts_done : {t b : List ℕ} {at : ℕ} {b' : List ℕ} {i : ℕ} → Copies t b at b' (Some i) → Puts t b at b' (Ok i)
puts_done (Copies.copied h) = Puts.done h

pub puts_short : {t b : List ℕ} {at : ℕ} {b' : List ℕ} {f : Refusal} {n : ℕ} → Copies t b at b' None → f ≡ refusal 18 0 (pos n) → n ≡ length t → Puts t b at b' (Err f)
puts_short {t} {b} {at} {b'} (Copies.no_room h) e k = subst (λ (g : Refusal). Puts t b at b' (Err g)) (sym (e ∙ ap (λ (n : ℕ). refusal 18 0 (pos n)) k)) (Puts.short h)

pub puts_told : {t b : List ℕ} {at : ℕ} {b' : List ℕ} {f : Refusal} {n : ℕ} (o : Option ℕ) → Copies t b at b' o → f ≡ refusal 18 0 (pos n) → n ≡ length t → Puts t b at b' (ok_or o f)
puts_told (Some i) h e k = puts_done h
puts_told None h e k = puts_short h e k

module _ {P : List ℕ → Type 0} {z z' : List ℕ} {n : ℕ} (t : Text P longest_paragraph z 0 z' n) where
  pub apart_writes : {b : List ℕ} {at : ℕ} {b' : List ℕ} {r : Result ℕ Refusal} → Puts (take n z') b at b' r → Writes P b at b' r
  apart_writes {b} {at} {b'} {r} p = Writes.writes t.is (subst (λ (u : List ℕ). Puts u b at b' r) (apart_is t) p)

  pub apart_few : n ≤ longest_paragraph
  apart_few = omega (arith, t.put.offset, t.short)
