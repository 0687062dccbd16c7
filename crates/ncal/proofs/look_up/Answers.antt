-- `ncal::look_up` meets its promise: an arm for each name, and for each length the other names.
use Rattle.std.proofs.Common.{rules, refl, [], ◌∷◌}
use Rattle.whole.specs.Text.{bytes}
use Rattle.ncal.specs.Table.{table}
use Rattle.ncal.specs.Search.{or_row}
use Rattle.ncal.specs.Laws.{own_name, other_name, other_length}
use Rattle.ncal.proofs.look_up.Goals as goal

pub returns-in-5 : goal.returns-in-5
unfolding table bytes or_row
returns-in-5 c = own_name (bytes "CHINA") (search rules) refl

pub returns-in-5-2 : goal.returns-in-5-2
unfolding table bytes or_row
returns-in-5-2 c = own_name (bytes "ITALY") (search rules) refl

pub returns-in-5-3 : goal.returns-in-5-3
unfolding table bytes or_row
returns-in-5-3 c = own_name (bytes "JAPAN") (search rules) refl

pub returns-in-5-4 : goal.returns-in-5-4
unfolding table bytes or_row
returns-in-5-4 c = own_name (bytes "SPAIN") (search rules) refl

pub returns-in-6 : goal.returns-in-6
unfolding table bytes or_row
returns-in-6 c = own_name (bytes "JULIAN") (search rules) refl

pub returns-in-6-2 : goal.returns-in-6-2
unfolding table bytes or_row
returns-in-6-2 c = own_name (bytes "CANADA") (search rules) refl

pub returns-in-6-3 : goal.returns-in-6-3
unfolding table bytes or_row
returns-in-6-3 c = own_name (bytes "FRANCE") (search rules) refl

pub returns-in-6-4 : goal.returns-in-6-4
unfolding table bytes or_row
returns-in-6-4 c = own_name (bytes "GREECE") (search rules) refl

pub returns-in-6-5 : goal.returns-in-6-5
unfolding table bytes or_row
returns-in-6-5 c = own_name (bytes "LATVIA") (search rules) refl

pub returns-in-6-6 : goal.returns-in-6-6
unfolding table bytes or_row
returns-in-6-6 c = own_name (bytes "NORWAY") (search rules) refl

pub returns-in-6-7 : goal.returns-in-6-7
unfolding table bytes or_row
returns-in-6-7 c = own_name (bytes "POLAND") (search rules) refl

pub returns-in-6-8 : goal.returns-in-6-8
unfolding table bytes or_row
returns-in-6-8 c = own_name (bytes "RUSSIA") (search rules) refl

pub returns-in-6-9 : goal.returns-in-6-9
unfolding table bytes or_row
returns-in-6-9 c = own_name (bytes "SWEDEN") (search rules) refl

pub returns-in-6-10 : goal.returns-in-6-10
unfolding table bytes or_row
returns-in-6-10 c = own_name (bytes "TURKEY") (search rules) refl

pub returns-in-7 : goal.returns-in-7
unfolding table bytes or_row
returns-in-7 c = own_name (bytes "ALBANIA") (search rules) refl

pub returns-in-7-2 : goal.returns-in-7-2
unfolding table bytes or_row
returns-in-7-2 c = own_name (bytes "AUSTRIA") (search rules) refl

pub returns-in-7-3 : goal.returns-in-7-3
unfolding table bytes or_row
returns-in-7-3 c = own_name (bytes "BELGIUM") (search rules) refl

pub returns-in-7-4 : goal.returns-in-7-4
unfolding table bytes or_row
returns-in-7-4 c = own_name (bytes "DENMARK") (search rules) refl

pub returns-in-7-5 : goal.returns-in-7-5
unfolding table bytes or_row
returns-in-7-5 c = own_name (bytes "FINLAND") (search rules) refl

pub returns-in-7-6 : goal.returns-in-7-6
unfolding table bytes or_row
returns-in-7-6 c = own_name (bytes "GERMANY") (search rules) refl

pub returns-in-7-7 : goal.returns-in-7-7
unfolding table bytes or_row
returns-in-7-7 c = own_name (bytes "HUNGARY") (search rules) refl

pub returns-in-7-8 : goal.returns-in-7-8
unfolding table bytes or_row
returns-in-7-8 c = own_name (bytes "ICELAND") (search rules) refl

pub returns-in-7-9 : goal.returns-in-7-9
unfolding table bytes or_row
returns-in-7-9 c = own_name (bytes "ROMANIA") (search rules) refl

pub returns-in-8 : goal.returns-in-8
unfolding table bytes or_row
returns-in-8 c = own_name (bytes "BULGARIA") (search rules) refl

pub returns-in-8-2 : goal.returns-in-8-2
unfolding table bytes or_row
returns-in-8-2 c = own_name (bytes "PORTUGAL") (search rules) refl

pub returns-in-8-3 : goal.returns-in-8-3
unfolding table bytes or_row
returns-in-8-3 c = own_name (bytes "SLOVENIA") (search rules) refl

pub returns-in-9 : goal.returns-in-9
unfolding table bytes or_row
returns-in-9 c = own_name (bytes "GREGORIAN") (search rules) refl

pub returns-in-9-2 : goal.returns-in-9-2
unfolding table bytes or_row
returns-in-9-2 c = own_name (bytes "AUSTRALIA") (search rules) refl

pub returns-in-9-3 : goal.returns-in-9-3
unfolding table bytes or_row
returns-in-9-3 c = own_name (bytes "LITHUANIA") (search rules) refl

pub returns-in-10 : goal.returns-in-10
unfolding table bytes or_row
returns-in-10 c = own_name (bytes "LUXEMBOURG") (search rules) refl

pub returns-in-10-2 : goal.returns-in-10-2
unfolding table bytes or_row
returns-in-10-2 c = own_name (bytes "YUGOSLAVIA") (search rules) refl

pub returns-in-11 : goal.returns-in-11
unfolding table bytes or_row
returns-in-11 c = own_name (bytes "NETHERLANDS") (search rules) refl

pub returns-in-11-2 : goal.returns-in-11-2
unfolding table bytes or_row
returns-in-11-2 c = own_name (bytes "SWITZERLAND") (search rules) refl

pub returns-in-13 : goal.returns-in-13
unfolding table bytes or_row
returns-in-13 c = own_name (bytes "UNITED_STATES") (search rules) refl

pub returns-in-14 : goal.returns-in-14
unfolding table bytes or_row
returns-in-14 c = own_name (bytes "CZECH_REPUBLIC") (search rules) refl

pub returns-in-14-2 : goal.returns-in-14-2
unfolding table bytes or_row
returns-in-14-2 c = own_name (bytes "UNITED_KINGDOM") (search rules) refl

pub returns-in_default : goal.returns-in_default
unfolding table bytes
returns-in_default c = other_name 5 c.in-5.is (search rules)

pub returns-in_default-2 : goal.returns-in_default-2
unfolding table bytes
returns-in_default-2 c = other_name 6 c.in-6.is (search rules)

pub returns-in_default-3 : goal.returns-in_default-3
unfolding table bytes
returns-in_default-3 c = other_name 7 c.in-7.is (search rules)

pub returns-in_default-4 : goal.returns-in_default-4
unfolding table bytes
returns-in_default-4 c = other_name 8 c.in-8.is (search rules)

pub returns-in_default-5 : goal.returns-in_default-5
unfolding table bytes
returns-in_default-5 c = other_name 9 c.in-9.is (search rules)

pub returns-in_default-6 : goal.returns-in_default-6
unfolding table bytes
returns-in_default-6 c = other_name 10 c.in-10.is (search rules)

pub returns-in_default-7 : goal.returns-in_default-7
unfolding table bytes
returns-in_default-7 c = other_name 11 c.in-11.is (search rules)

pub returns-in_default-8 : goal.returns-in_default-8
unfolding table bytes
returns-in_default-8 c = other_name 13 c.in-13.is (search rules)

pub returns-in_default-9 : goal.returns-in_default-9
unfolding table bytes
returns-in_default-9 c = other_name 14 c.in-14.is (search rules)

pub returns-in_default-10 : goal.returns-in_default-10
unfolding table bytes
returns-in_default-10 c = other_length (14 ∷ 13 ∷ 11 ∷ 10 ∷ 9 ∷ 8 ∷ 7 ∷ 6 ∷ 5 ∷ []) tt (search rules)
