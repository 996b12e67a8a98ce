use Rattle.tip_rows.proofs.Spellings.{parsed, parsed_only, parsed_bad}
use Rattle.tip_rows.proofs.row.Row.parse.Goals as goal

pub returns-clause-read : goal.returns-clause-read
returns-clause-read c = parsed c.args.text.now c.row_of.result c.row_of.ensures

pub returns-clause-only : goal.returns-clause-only
returns-clause-only c = parsed_only c.args.text.now c.row_of.result c.row_of.ensures

pub returns-clause-bad : goal.returns-clause-bad
returns-clause-bad c = parsed_bad c.args.text.now c.row_of.result c.row_of.ensures
