-- `writer::write_ymd` meets its promise: a buffer that is too short is left, and else the three numbers stand one after the other at its front.
use mathlib.Core.Path.{ap, ◌∙◌}
use mathlib.Core.Bool.{true}
use native.Mathlib.Omega.{arith}
use lib.IntN.{nat_abs}
use mir.Facts.{to_z-of_z}
use mir.Syntax.{w64}
use Rattle.whole.specs.Promise.{is_negative_value}
use Rattle.writer.specs.Laws.{length_whole, ymd_left}
use Rattle.writer.proofs.PutLaws.{ymd_wrote}
use borrow.Author.Rules.{sfits_of}
use Rattle.writer.proofs.write_ymd.Goals as goal

pub returns-then-buf-size : goal.returns-then-buf-size
returns-then-buf-size c =
    let a = c.args in
    let r = to_z-of_z {w = w64} (sfits_of c.widened-x.type_inv) ∙ c.widened-x.ensures ∙ to_z-of_z c.ranges.year in
    ymd_left a.year a.month a.day (c.is_negative-negative.ensures ∙ ap is_negative_value r) (c.magnitude-n.ensures ∙ ap nat_abs r)
    c.width-ky.ensures.0 c.width-km.ensures.0 c.width-kd.ensures.0 c.signed_width.ensures.0 _ c.if-buf-size.true c.refusal_with.ensures

pub put_dashed-third-requires : goal.put_dashed-third-requires
put_dashed-third-requires c =
    let y = c.put_signed-second in
    omega (
      arith,
      c.if-buf-size.false,
      c.signed_width.ensures.0,
      length_whole c.is_negative-negative.result c.width-ky.result c.magnitude-n.result,
      y.ensures.offset,
      y.auto.buf,
    )

pub put_dashed-end-requires : goal.put_dashed-end-requires
put_dashed-end-requires c =
    let y = c.put_signed-second in
    let m = c.put_dashed-third in
    omega (
      arith,
      c.if-buf-size.false,
      c.signed_width.ensures.0,
      length_whole c.is_negative-negative.result c.width-ky.result c.magnitude-n.result,
      y.ensures.offset,
      y.auto.buf,
      length_whole true c.width-km.result c.args.month,
      m.ensures.offset,
      m.auto.buf,
    )

pub returns : goal.returns
returns c =
    let a = c.args in
    let r = to_z-of_z {w = w64} (sfits_of c.widened-x.type_inv) ∙ c.widened-x.ensures ∙ to_z-of_z c.ranges.year in
    ymd_wrote a.year a.month a.day (c.is_negative-negative.ensures ∙ ap is_negative_value r) (c.magnitude-n.ensures ∙ ap nat_abs r)
    c.width-ky.ensures.0 c.width-km.ensures.0 c.width-kd.ensures.0 c.signed_width.ensures.0 _ c.if-buf-size.false c.put_signed-second.ensures c.put_dashed-third.ensures c.put_dashed-end.ensures
