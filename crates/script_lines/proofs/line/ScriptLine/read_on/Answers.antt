-- What the input had in its buffer is of the line, or ends it.
use Rattle.std.proofs.Common.{◌≡◌, ◌≤◌, ◌<◌, ◌+◌, ◌-◌, Ok, length, take, cond, ap, arith, subst, sym, ◌∙◌, eqb-true}
use Rattle.std.proofs.lemmas.Bool.{eqb-false}
use Rattle.std.specs.Prelude.{is_some}
use Rattle.std.specs.Io.KnownBytes.{Consumes}
use Rattle.std.specs.Io.BufRead.{FillKeeps}
use Rattle.std.proofs.BufReadLemmas.{Consumes_shown}
use Rattle.script_lines.specs.Lines.{ReadsOn, longest_line}
use Rattle.script_lines.proofs.Reading.{ends, is_within, reads_on}
use Rattle.script_lines.proofs.line.ScriptLine.read_on.Goals.{then-is_some, else-is_some}
use Rattle.script_lines.proofs.line.ScriptLine.read_on.Goals as goal

pub returns-then-is_empty : goal.returns-then-is_empty
returns-then-is_empty g c = λ start so.
    let rested = c.fill_buf.follows.lender-at-none in
    let filled = subst (FillKeeps _ (g.R.Read.remaining rested) (g.R.BufRead.consumable_len rested)) c.in-Ok.is c.fill_buf.follows.holds-at-none in
    ends start (g.R.Read.remaining c.args.input.now) (g.R.Read.remaining rested) c.args.self.now.octets.items c.in-Ok.buffer.now filled.0 c.in-Ok.ensures.end (eqb-true _ _ (sym c.is_empty.ensures ∙ c.if-is_empty.true)) so

pub returns : goal.returns
returns g c = λ start so.
    let rested = c.fill_buf.follows.lender-at-none in
    let before = g.R.Read.remaining c.args.input.now in
    let after = g.R.Read.remaining c.consume.new.self in
    let filled = subst (FillKeeps _ (g.R.Read.remaining rested) (g.R.BufRead.consumable_len rested)) c.in-Ok.is c.fill_buf.follows.holds-at-none in
    let buffer = c.in-Ok.buffer.now in
    let line = c.args.self.now.octets.items in
    let count = c.front_of-count.result.0 in
    let end = c.front_of-count.result.1 in
    let taken : c.if-is_some.taken ≡ cond (is_some end) (count + 1) count = elim c.if-is_some.branch [
      | then-is_some w ↦ w.taken-is ∙ ap (λ b. cond b (count + 1) count) (sym w.if-is_some.true ∙ c.is_some.ensures)
      | else-is_some w ↦ w.taken-is ∙ ap (λ b. cond b (count + 1) count) (sym w.if-is_some.false ∙ c.is_some.ensures)
    ] in
    let front = c.front_of-count.ensures in
    let room = longest_line - c.len.result in
    let left : room ≡ longest_line - length line = ap (λ n. longest_line - n) (c.len.ensures ∙ c.args.self.now.octets.ok.0) in
    let some : 0 < length buffer = let none = eqb-false _ _ (sym c.is_empty.ensures ∙ c.if-is_empty.false) in omega (arith, none) in
    let within : c.if-is_some.taken ≤ length buffer = subst (λ n. n ≤ length buffer) (sym taken) (is_within start before after line buffer count room c.requires left end front) in
    subst (λ now. ReadsOn start after line now (Ok end)) (sym c.in_ok-extend_from_slice.ensures.items)
    (reads_on start before after line buffer count room c.requires left end front some so
    (subst (λ n. Consumes before after (take n buffer)) taken (Consumes_shown before (g.R.Read.remaining rested) after (g.R.BufRead.consumable_len rested) buffer c.if-is_some.taken within c.in-Ok.ensures.front c.in-Ok.ensures.end filled.0 filled.1 c.consume.ensures.bytes).0))
