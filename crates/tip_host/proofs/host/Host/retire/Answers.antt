use Rattle.tip_host.proofs.Retires.{can_count_so, let_go_honest}
use Rattle.tip_host.proofs.host.Host.retire.Goals as goal

pub let_go-requires : goal.let_go-requires
let_go-requires g c = can_count_so c.self.inside.stored.core c.self.inside.books c.args.realm c.args.epoch c.self.invariant

pub invariant_of-self : goal.invariant_of-self
invariant_of-self g c = let_go_honest c.self.inside.stored.core c.self.inside.books c.let_go.new.books c.args.realm c.args.epoch c.args.passes.now c.let_go.new.passes c.let_go.result c.self.invariant c.let_go.ensures.retired c.let_go.ensures.same c.let_go.ensures.rest
