-- The letters that stand in the column `style`.
use Rattle.std.specs.Prelude.{◌≡◌, refl}
use Rattle.whole.specs.Text.{bytes}
use Rattle.calendar.specs.declared.Style.TheVariants as Style'
use Rattle.linetext.specs.Line.{letters}
use Rattle.columns.specs.Columns.{style_letters_value}

pub old_style : letters (style_letters_value Style'.Julian) ≡ bytes "OS"
unfolding bytes
old_style = refl

pub new_style : letters (style_letters_value Style'.Gregorian) ≡ bytes "NS"
unfolding bytes
new_style = refl

pub swedish_style : letters (style_letters_value Style'.Swedish) ≡ bytes "SV"
unfolding bytes
swedish_style = refl
