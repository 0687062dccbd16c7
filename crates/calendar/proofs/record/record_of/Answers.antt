-- `calendar::record::record_of` meets its promise.
use mathlib.Core.Path.{sym, ◌∙◌}
use native.Mathlib.Omega.{arith}
use mir.Facts.{to_z-of_z}
use Rattle.calendar.specs.Laws.{style_old, style_new, spot_room, record_plain, labelled_room}
use Rattle.calendar.proofs.record.record_of.Goals as goal

pub returns-then-s-switch : goal.returns-then-s-switch
returns-then-s-switch c =
    let p = c.requires in
    rw (c.plain_record.ensures, to_z-of_z c.ranges.jdn) (record_plain c.args.calendar p.0 c.args.s p.1 p.2 (style_old c.args.calendar p.0 (spot_room c.args.calendar p.0 c.args.s p.1 p.2) c.if-s-switch.true) (λ h. omega (arith, c.if-s-switch.true)))

pub overflow_add-switch : goal.overflow_add-switch
overflow_add-switch c = record { fits = omega (arith, c.if-s-switch.false, labelled_room c.requires.1) }

pub overflow_sub-switch : goal.overflow_sub-switch
overflow_sub-switch c = omega (arith, labelled_room c.requires.1)

pub returns-then-switch-s : goal.returns-then-switch-s
returns-then-switch-s c =
    rw (c.plain_record-then-switch-s.ensures, to_z-of_z c.ranges.jdn) (record_plain c.args.calendar c.requires.0 c.args.s c.requires.1 c.requires.2 (style_new c.args.calendar c.requires.0 (spot_room c.args.calendar c.requires.0 c.args.s c.requires.1 c.requires.2) c.if-s-switch.false) (λ h. omega (arith, c.if-switch-s.true, labelled_room c.requires.1)))

pub reform_record-requires : goal.reform_record-requires
reform_record-requires c =
    (c.requires.0, c.requires.1, c.requires.2 ∙ sym (to_z-of_z c.ranges.jdn), c.if-s-switch.false)

pub returns : goal.returns
returns c = rw (to_z-of_z c.ranges.jdn) at c.reform_record.ensures
