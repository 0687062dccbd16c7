-- The calendar names: `JULIAN`, `GREGORIAN`, and the constants of `ncal.rs`, each with the day number that stands there, in its order.
-- Assumes nothing.
use Rattle.std.specs.Prelude.{List, [], ◌∷◌, ℕ, pos}
use Prim.Native.String.{String}
use Rattle.whole.specs.Text.{bytes}
use Rattle.calendar.specs.declared.Calendar.{Calendar}
use Rattle.calendar.specs.declared.Calendar.TheVariants.{Julian, Gregorian, Reforming}

-- a row: a name in bytes, and its calendar
pub record NameRow : Type 0 where
  pub name : List ℕ
  pub calendar : Calendar

abbrev pub row : List ℕ → Calendar → NameRow
row s c = record { name = s; calendar = c }

infix 90 ◌is◌
abbrev pub ◌is◌ : String → Calendar → NameRow
s is c = row (bytes s) c

infix 90 ◌from◌
abbrev pub ◌from◌ : String → ℕ → NameRow
s from r = s is Reforming (pos r)

unfoldable pub table : List NameRow
table =
    "JULIAN" is Julian
    ∷ "GREGORIAN" is Gregorian
    ∷ "ALBANIA" from 2_419_751
    ∷ "AUSTRALIA" from 2_361_222
    ∷ "AUSTRIA" from 2_299_527
    ∷ "BELGIUM" from 2_299_232
    ∷ "BULGARIA" from 2_420_968
    ∷ "CANADA" from 2_361_222
    ∷ "CHINA" from 2_419_403
    ∷ "CZECH_REPUBLIC" from 2_299_620
    ∷ "DENMARK" from 2_342_032
    ∷ "FINLAND" from 2_361_390
    ∷ "FRANCE" from 2_299_227
    ∷ "GERMANY" from 2_342_032
    ∷ "GREECE" from 2_423_868
    ∷ "HUNGARY" from 2_301_004
    ∷ "ICELAND" from 2_342_304
    ∷ "ITALY" from 2_299_161
    ∷ "JAPAN" from 2_421_960
    ∷ "LATVIA" from 2_421_640
    ∷ "LITHUANIA" from 2_421_640
    ∷ "LUXEMBOURG" from 2_299_232
    ∷ "NETHERLANDS" from 2_299_232
    ∷ "NORWAY" from 2_342_032
    ∷ "POLAND" from 2_299_161
    ∷ "PORTUGAL" from 2_299_161
    ∷ "ROMANIA" from 2_422_063
    ∷ "RUSSIA" from 2_421_639
    ∷ "SLOVENIA" from 2_422_036
    ∷ "SPAIN" from 2_299_161
    ∷ "SWEDEN" from 2_361_390
    ∷ "SWITZERLAND" from 2_325_606
    ∷ "TURKEY" from 2_424_882
    ∷ "UNITED_KINGDOM" from 2_361_222
    ∷ "UNITED_STATES" from 2_361_222
    ∷ "YUGOSLAVIA" from 2_422_036
    ∷ []
