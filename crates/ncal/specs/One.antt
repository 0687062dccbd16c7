-- The names are distinct, and the promise allows one result.
-- Assumes nothing.
use Rattle.std.specs.Prelude.{◌≡◌, refl, Bool, List, [], ℕ, ◌<◌, T, length, get_or, Option, Some, Ok}
use Rattle.std.proofs.Common.{sym, ◌∙◌, ap}
use Rattle.whole.specs.Text.{bytes}
use Rattle.calendar.specs.RowLaws.{One, unless_one}
use Rattle.calendar.specs.declared.Calendar.{Calendar}
use Rattle.calendar.specs.declared.Calendar.TheVariants.{Julian}
use Rattle.ncal.specs.Table.{NameRow, row, table}
use Rattle.ncal.specs.Promise.{InTable, FoundAs, in_table, in_no_row, OfRow, of_row, NamesCalendar}
use Rattle.ncal.specs.Every.{every, every_at, number_of, distinct}

-- ---- Rows by number

-- the row with the number i
abbrev pub row_at : ℕ → NameRow
row_at i = get_or table i (row [] Julian)

pub at_row : (f : ℕ → NameRow → Bool) → T (every f 0 table) → (i : ℕ) → i < length table → T (f i (row_at i))
at_row f = every_at f (row [] Julian) table

pub row_of : {s : List ℕ} {c : Calendar} → InTable s c → (i : ℕ) × (i < length table) × (row s c ≡ row_at i)
row_of = number_of (row [] Julian) table

pub names_distinct : (j k : ℕ) → j < length table → k < length table → (row_at j).name ≡ (row_at k).name → j ≡ k
unfolding table bytes
names_distinct = distinct (λ (r : NameRow). r.name) (row [] Julian) table tt

-- ---- One result
one_row : {s : List ℕ} {b c : Calendar} → InTable s b → InTable s c → b ≡ c
one_row p q =
    let (j, g, d) = row_of p in
    let (k, h, e) = row_of q in
    let i : j ≡ k = names_distinct j k g h (ap (λ (r : NameRow). r.name) (sym d) ∙ ap (λ (r : NameRow). r.name) e) in
    ap (λ (r : NameRow). r.calendar) d ∙ ap (λ (l : ℕ). (row_at l).calendar) i ∙ ap (λ (r : NameRow). r.calendar) (sym e)

of_row_one : (s : List ℕ) → One (OfRow s)
of_row_one s a b (of_row p) (of_row q) = ap Ok (one_row p q)

pub named_one : (s : List ℕ) → One (NamesCalendar s)
named_one s = unless_one (λ k. of_row_one s)

look_up_same : {s : List ℕ} {f g : Option Calendar} → FoundAs s f → FoundAs s g → f ≡ g
look_up_same (in_table m) (in_table n) = ap Some (one_row m n)
look_up_same (in_table m) (in_no_row n) = absurd (n (_, m))
look_up_same (in_no_row n) (in_table m) = absurd (n (_, m))
look_up_same (in_no_row n) (in_no_row m) = refl

pub look_up_one : (s : List ℕ) → One (FoundAs s)
look_up_one s f g = look_up_same
