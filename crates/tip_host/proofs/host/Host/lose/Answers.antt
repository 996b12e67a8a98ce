use Rattle.std.proofs.Common.{◌≡◌, ◌∙◌, Some, ap, subst}
use Rattle.tip_host.proofs.Honestly.{given_up_honest, given_up_left}
use Rattle.tip_host.specs.Works.{left_out}
use Rattle.tip_table.specs.Kept.{of}
use Rattle.tip_host.proofs.host.Host.lose.Goals as goal

pub invariant_of-self : goal.invariant_of-self
invariant_of-self g c = given_up_honest c.self.inside.stored.core c.self.inside.books c.give_up.new.books c.realm-realm.result c.give_up.result c.sent.result.now c.self.invariant c.give_up.ensures.gone c.give_up.ensures.same c.give_up.ensures.rest

pub returns-clause-lost : goal.returns-clause-lost
returns-clause-lost g c = rw (← c.self.view_is) (subst (λ r. of c.give_up.new.books.out r ≡ left_out (Some c.args.work.sent) (of c.self.inside.books.out r)) c.realm-realm.ensures (given_up_left c.self.inside.books.out c.give_up.new.books.out c.realm-realm.result c.sent.result.now (c.give_up.ensures.gone c.if-not-give_up.false) ∙ ap (λ s. left_out (Some s) (of c.self.inside.books.out c.realm-realm.result)) c.sent.ensures))

pub invariant_of-self-2 : goal.invariant_of-self-2
invariant_of-self-2 g c = given_up_honest c.self.inside.stored.core c.self.inside.books c.give_up.new.books c.realm-realm.result c.give_up.result c.sent.result.now c.self.invariant c.give_up.ensures.gone c.give_up.ensures.same c.give_up.ensures.rest
