use Rattle.std.proofs.Common.{◌≡◌, true, Some, None, ap, ◌∙◌, arith}
use Rattle.std.proofs.lemmas.Fmt.{parse-decimal}
use Rattle.tip_line.specs.Ids.{is_canonical}
use Rattle.tip_line.proofs.IdLemmas.{said_number, decimal_canonical}
use Rattle.tip_line.proofs.NumberLemmas.{is_number_in}
use Rattle.tip_line.proofs.id.number_of.Goals as goal

pub returns-in-Ok-clause-said : goal.returns-in-Ok-clause-said
returns-in-Ok-clause-said c =
    let canonical : is_canonical c.args.text.now ≡ true = cc (ap is_canonical c.as_bytes.ensures.value) in
    said_number c.args.text.now c.parse.result c.in-Ok.number c.in-Ok.is c.parse.ensures.value.0 canonical

pub returns-in-Ok-clause-only : goal.returns-in-Ok-clause-only
returns-in-Ok-clause-only c = λ number fits e.
    let read = parse-decimal 32 number c.args.text.now c.parse.result fits (omega arith) e c.parse.ensures.value.0 in
    cc (read, c.in-Ok.is)

pub returns-in_default-clause-only : goal.returns-in_default-clause-only
returns-in_default-clause-only c = λ number fits e.
    let canonical : is_canonical c.as_bytes.result.now ≡ true = ap is_canonical (c.as_bytes.ensures.value ∙ e) ∙ decimal_canonical number fits in
    cc (canonical, c.is_canonical.ensures)

pub returns-in_default-2-clause-only : goal.returns-in_default-2-clause-only
returns-in_default-2-clause-only c = λ number fits e.
    let read = parse-decimal 32 number c.args.text.now c.parse.result fits (omega arith) e c.parse.ensures.value.0 in
    cc (read, c.in_default.is)

pub returns-in-Ok-clause-steps : goal.returns-in-Ok-clause-steps
returns-in-Ok-clause-steps c = is_number_in (Some c.in-Ok.number) c.args.text.now (returns-in-Ok-clause-said c) (returns-in-Ok-clause-only c)

pub returns-in_default-clause-steps : goal.returns-in_default-clause-steps
returns-in_default-clause-steps c = is_number_in None c.args.text.now tt (returns-in_default-clause-only c)

pub returns-in_default-2-clause-steps : goal.returns-in_default-2-clause-steps
returns-in_default-2-clause-steps c = is_number_in None c.args.text.now tt (returns-in_default-2-clause-only c)
