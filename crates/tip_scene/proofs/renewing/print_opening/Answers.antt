-- One text behind another.
use Rattle.std.proofs.Common.{string_bytes}
use Rattle.std.proofs.lemmas.Result.{on_ok_weaker}
use Rattle.tip_scene.proofs.Renewed.{three}
use Rattle.tip_scene.proofs.renewing.print_opening.Goals as goal

pub returns : goal.returns
returns g c = λ state is. on_ok_weaker c.print_adoptions.result (λ text. three (string_bytes c.args.printed.now) _ _ _ (string_bytes c.print_here.new.printed) (string_bytes c.print_start.new.printed) (string_bytes c.print_adoptions.new.printed) (c.in_ok-print_here.ensures state is) c.in_ok-print_start.ensures text) c.print_adoptions.ensures
