-- A stream of which none has come gives nothing until more comes.
use Rattle.std.proofs.Common.{None, [], refl, sym}
use Rattle.tip_line.proofs.GivenLines.{given_behind, nothing_given, nothing_read}
use Rattle.tip_actor.proofs.reader.Reader.has_next.Goals as goal

pub returns-in-Lines-clause-gives : goal.returns-in-Lines-clause-gives
returns-in-Lines-clause-gives c = λ more. rw c.in-Lines.is (sym (given_behind _ [] c.has_next.new.self c.has_next.ensures.left more))

pub returns-in-Lines-clause-none : goal.returns-in-Lines-clause-none
returns-in-Lines-clause-none c = λ none. rw c.in-Lines.is (nothing_given _ c.has_next.new.self None (c.has_next.ensures.none.0 none, c.has_next.ensures.left) refl).0

pub returns-in-Lines-clause-some : goal.returns-in-Lines-clause-some
returns-in-Lines-clause-some c = λ idle. c.has_next.ensures.none.1 (nothing_read _ (rw c.in-Lines.is at idle))
