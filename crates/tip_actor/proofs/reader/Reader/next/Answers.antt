-- A reader says what its lines give.
use Rattle.std.proofs.Common.{Some, ap, ◌∙◌}
use Rattle.tip_line.specs.Reading.{Text, Bad}
use Rattle.tip_line.proofs.GivenLines.{text_given, fault_given, nothing_given}
use Rattle.tip_actor.proofs.reader.Reader.next.Goals as goal

pub returns-in_ok-of-in-Some-Text-clause-says : goal.returns-in_ok-of-in-Some-Text-clause-says
returns-in_ok-of-in-Some-Text-clause-says c = (Text c.in-Some-Text.text.now, c.in_ok-of-in-Some-Text.ensures.steps, λ more. rw c.in-Lines.is (text_given _ c.next.follows.lender-at-none c.next.result c.in-Some-Text.text c.next.follows.holds-at-none (c.in-Some-Text.is ∙ ap Some c.in-Some-Text.field-0-is) more))

pub returns-in-Some-Bad-clause-says : goal.returns-in-Some-Bad-clause-says
returns-in-Some-Bad-clause-says c = (Bad c.in-Some-Bad.field-0-0, cc, λ more. rw c.in-Lines.is (fault_given _ c.next.follows.lender-at-none c.next.result c.in-Some-Bad.field-0-0 c.next.follows.holds-at-none (c.in-Some-Bad.is ∙ ap Some c.in-Some-Bad.field-0-is) more))

pub returns-in-None-clause-says : goal.returns-in-None-clause-says
returns-in-None-clause-says c =
    let none = nothing_given _ c.next.follows.lender-at-none c.next.result c.next.follows.holds-at-none c.in-None.is in
    (rw c.in-Lines.is none.0, λ more. rw c.in-Lines.is (none.1 more))
