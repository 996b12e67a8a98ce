use Rattle.std.specs.Prelude.{option_map}
use Rattle.tip_shared.specs.Sessions.{name_of, steps_in}
use Rattle.tip_shared.proofs.Errands.{Came}
use Rattle.tip_shared.proofs.entering.run_errand.Given as goal

-- errands came back so far, and the next is out
abbrev pub invariant-loop : goal.invariant-loop
invariant-loop g l = Came (option_map (λ out. name_of out.sent) l.fn.work) (steps_in l.fn.pass.noted) (steps_in l.pass.noted) (option_map (λ out. name_of out.sent) l.next)
