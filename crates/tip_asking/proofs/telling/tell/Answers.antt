use Rattle.tip_asking.proofs.Fronts.{nothing_said, on_err}
use Rattle.tip_asking.specs.Asking.{told}
use Rattle.tip_asking.proofs.telling.tell.Goals as goal

pub returns-in_err-line-clause-err : goal.returns-in_err-line-clause-err
returns-in_err-line-clause-err g c = on_err c.from_residual.result _ (nothing_said (told c.args.response.now) (g.O.Write.contents c.args.output.now))
