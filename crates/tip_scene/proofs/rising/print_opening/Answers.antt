-- The epoch, and the branches of the rows.
use Rattle.std.proofs.Common.{◌∙◌, string_bytes, sym}
use Rattle.std.proofs.lemmas.Result.{on_ok_weaker}
use Rattle.tip_scene.proofs.Begun.{opening_said}
use Rattle.tip_scene.proofs.rising.print_opening.Goals as goal

pub returns : goal.returns
returns g c = λ acting named rising. on_ok_weaker c.print_adoptions.result (λ text. opening_said g.S.RowLog.keeping c.args.recovering.now c.args.place acting c.as_str-name.result.now c.in-Some.epoch c.in_doubt.result.now (string_bytes c.args.printed.now) (string_bytes c.print_start.new.printed) (string_bytes c.print_adoptions.new.printed) rising (c.as_str-name.ensures.same ∙ named) (sym c.in-Some.is ∙ c.epoch.ensures) c.in_doubt.ensures c.in_ok-print_start.ensures text) c.print_adoptions.ensures
