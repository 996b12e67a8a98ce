use Rattle.std.proofs.Common.{◌≡◌, ◌+◌, ◌≤◌, length, Some, [], take, drop, refl, subst, sym, ap, ◌∙◌}
use Rattle.tip_line.specs.Octets.{text_of}
use Rattle.tip_line.specs.Reading.{Leaves, Gives, Text}
use Rattle.tip_line.specs.Buffered.{pending}
use Rattle.tip_line.proofs.ReadingLemmas.{gives_nothing, gives_fault, gives_line}
use Rattle.tip_line.proofs.lines.Lines.next.Goals as goal

pub returns-in-Nothing : goal.returns-in-Nothing
returns-in-Nothing g c =
    let left = subst (λ o. Leaves o [] (pending c.find.new.self)) c.self.view_is c.find.ensures.passed in
    ((refl, (λ _. tt), gives_nothing c.args.self.now (pending c.find.new.self) left c.in-Nothing.ensures.found), tt)

pub returns-in-Fault : goal.returns-in-Fault
returns-in-Fault g c =
    let left = subst (λ o. Leaves o [] (pending c.find.new.self)) c.self.view_is c.find.ensures.passed in
    ((refl, (λ _. tt), gives_fault c.args.self.now (pending c.find.new.self) c.in-Fault.cause left c.in-Fault.ensures.found), tt)

pub returns-in-Line : goal.returns-in-Line
returns-in-Line g c =
    let found = pending c.find.new.self in
    let len = c.in-Line.len in
    let left = subst (λ o. Leaves o [] found) c.self.view_is c.find.ensures.passed in
    let octets : drop c.pass_line-from.result c.pass_line-from.new.self.octets.items ≡ found = cc (ap (λ (v : _). v.items) c.pass_line-from.ensures.octets, c.pass_line-from.ensures.place) in
    let text : c.text_at.result.now ≡ text_of (take len found) = c.text_at.ensures ∙ ap (λ o. text_of (take len o)) octets in
    let fewer : length found ≤ length c.args.self.now = rw (← c.self.view_is) c.find.ensures.fewer in
    let gives = gives_line c.args.self.now found len left fewer c.in-Line.ensures.found.0 c.in-Line.ensures.found.1 in
    let behind : pending c.pass_line-from.new.self ≡ drop (len + 1) found = c.pass_line-from.ensures.passed in
    ((refl, (λ _. tt), subst (λ t. Gives c.args.self.now (Some (Text t)) (pending c.pass_line-from.new.self)) (sym text) (subst (λ o. Gives c.args.self.now (Some (Text (text_of (take len found)))) o) (sym behind) gives)), tt)
