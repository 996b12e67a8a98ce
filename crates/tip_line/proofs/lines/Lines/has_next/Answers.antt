use Rattle.std.proofs.Common.{◌≡◌, ◌∙◌, [], false, true, subst, sym, inl, inr}
use Rattle.tip_line.specs.Reading.{Leaves}
use Rattle.tip_line.specs.Buffered.{FoundAt, pending}
use Rattle.tip_line.proofs.ReadingLemmas.{fault_is_read, gives_nothing, line_is_read, nothing_left}
use Rattle.tip_line.proofs.lines.Lines.has_next.Goals as goal
use Rattle.tip_line.proofs.lines.Lines.has_next.Goals.{in-Nothing, in-Fault}

pub returns-clause-none : goal.returns-clause-none
returns-clause-none g c =
    let new = pending c.find.new.self in
    let left = subst (λ o. Leaves o [] new) c.self.view_is c.find.ensures.passed in
    elim c.match-find.branch [
      | in-Nothing w ↦ ((λ none. (gives_nothing c.args.self.now new left w.in-Nothing.ensures.found).0), (λ read. w.result-is))
      | in-Fault w ↦ (
        (λ none. absurd (let wrong : true ≡ false = sym w.result-is ∙ none in cc)),
        (λ read. absurd (elim w.in-Fault.is [
          | inl fault ↦ fault_is_read new fault.0 (subst (FoundAt new) fault.1 c.find.ensures.found) (nothing_left c.args.self.now new left read)
          | inr line ↦ line_is_read new line.0 (subst (FoundAt new) line.1 c.find.ensures.found) (nothing_left c.args.self.now new left read)
        ])),
      )
    ]
