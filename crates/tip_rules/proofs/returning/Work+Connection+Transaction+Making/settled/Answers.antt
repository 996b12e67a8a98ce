use Rattle.std.proofs.Common.{ap, sym, ◌∙◌}
use Rattle.std.proofs.lemmas.Option.{same_Some}
use Rattle.tip_machine.specs.Types.{Transaction, seen}
use Rattle.tip_rules.specs.Works.{is_committing}
use Rattle.tip_rules.proofs.Coming.{abort_ends, commit_ends, lines_owned, settled_abort, settled_commit, settled_else}
use Rattle.tip_rules.proofs.returning.Work+Connection+Transaction+Making.settled.Goals as goal

pub take_committed-requires-clause-lines : goal.take_committed-requires-clause-lines
take_committed-requires-clause-lines g c = lines_owned c.args.self.now c.args.self.now c.args.party _ c.in-Some.ensures.same (seen c.at.result.now) c.at.ensures.found c.args.self.now.making.free c.requires.lines

pub take_aborted-requires-clause-lines : goal.take_aborted-requires-clause-lines
take_aborted-requires-clause-lines g c = lines_owned c.args.self.now c.args.self.now c.args.party _ c.in-Some.ensures.same (seen c.at.result.now) c.at.ensures.found c.args.self.now.making.free c.requires.lines

pub returns-then-is_committing : goal.returns-then-is_committing
returns-then-is_committing g c = settled_commit c.args.self.now c.take_committed.new.self c.args.party _ c.in-Some.ensures.same (seen c.at.result.now) c.at.ensures.found (sym c.is_committing.ensures ∙ c.if-is_committing.true) c.take_committed.ensures

pub returns-then-is_aborting : goal.returns-then-is_aborting
returns-then-is_aborting g c = settled_abort c.args.self.now c.take_aborted.new.self c.args.party _ c.in-Some.ensures.same (seen c.at-else-is_committing.result.now) c.at-else-is_committing.ensures.found (sym c.is_aborting.ensures ∙ c.if-is_aborting.true) c.take_aborted.ensures

pub returns-else-is_aborting : goal.returns-else-is_aborting
returns-else-is_aborting g c =
    let second = c.at-else-is_committing.result.now in
    let same = same_Some (seen c.at.result.now) (seen second) (sym c.at.ensures.found ∙ c.at-else-is_committing.ensures.found) in
    settled_else c.args.self.now c.meet-else-is_aborting.new.self c.args.party _ c.in-Some.ensures.same (seen second) c.at-else-is_committing.ensures.found (ap (λ (t : Transaction). is_committing t.place) (sym same) ∙ sym c.is_committing.ensures ∙ c.if-is_committing.false) (sym c.is_aborting.ensures ∙ c.if-is_aborting.false) c.meet-else-is_aborting.ensures

pub take_committed-requires-clause-next : goal.take_committed-requires-clause-next
take_committed-requires-clause-next g c = commit_ends c.args.self.now c.args.party _ c.in-Some.ensures.same (seen c.at.result.now) c.at.ensures.found c.requires.next (sym c.is_committing.ensures ∙ c.if-is_committing.true)

pub take_aborted-requires-clause-next : goal.take_aborted-requires-clause-next
take_aborted-requires-clause-next g c = abort_ends c.args.self.now c.args.party _ c.in-Some.ensures.same (seen c.at-else-is_committing.result.now) c.at-else-is_committing.ensures.found c.requires.next (sym c.is_aborting.ensures ∙ c.if-is_aborting.true)
