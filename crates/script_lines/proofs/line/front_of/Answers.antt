-- What of a buffer is of the line.
use Rattle.std.proofs.Common.{arith, le_refl, refl}
use Rattle.script_lines.proofs.Reading.{inner_at, inner_front}
use Rattle.script_lines.proofs.line.front_of.Goals as goal

pub returns-then-room-line : goal.returns-then-room-line
returns-then-room-line c =
    let long = c.if-room-line.true in
    let line = c.feed_in-line.ensures in
    let within = line.within in (
      omega (arith, long, within),
      le_refl _,
      inner_front c.args.buffer.now c.feed_in-line.result line.inner c.args.room (omega (arith, long)) within,
      (omega (arith, long, within), refl, inner_at c.args.buffer.now c.feed_in-line.result line.inner c.args.room long),
    )

pub returns-then-line-buffer : goal.returns-then-line-buffer
returns-then-line-buffer c =
    let line = c.feed_in-line.ensures in
    let fits = c.if-room-line.false in
    (line.within, omega (arith, fits), inner_front c.args.buffer.now c.feed_in-line.result line.inner c.feed_in-line.result (le_refl _) line.within, (c.if-line-buffer.true, line.feed c.if-line-buffer.true))

pub returns-else-line-buffer : goal.returns-else-line-buffer
returns-else-line-buffer c =
    let line = c.feed_in-line.ensures in
    let fits = c.if-room-line.false in
    let end = c.if-line-buffer.false in
    let within = line.within in
    (line.within, omega (arith, fits), inner_front c.args.buffer.now c.feed_in-line.result line.inner c.feed_in-line.result (le_refl _) line.within, omega (arith, end, within))
