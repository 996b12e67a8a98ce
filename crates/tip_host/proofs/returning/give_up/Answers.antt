use Rattle.tip_host.proofs.returning.give_up.Goals as goal

pub returns-clause-gone : goal.returns-clause-gone
returns-clause-gone g c = λ yes. let was = c.in-Some.ensures.some in rw (← c.books.view_is) (c.in-Some.place, was.0, was.1, c.remove.ensures.left)
