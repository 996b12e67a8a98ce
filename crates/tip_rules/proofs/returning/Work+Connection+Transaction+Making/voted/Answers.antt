use Rattle.std.proofs.Common.{sym, ◌∙◌}
use Rattle.tip_machine.specs.Types.{seen}
use Rattle.tip_rules.proofs.Coming.{lines_owned, vote_ends, voted_else, voted_out}
use Rattle.tip_rules.proofs.returning.Work+Connection+Transaction+Making.voted.Goals as goal

pub take_vote-requires-clause-lines : goal.take_vote-requires-clause-lines
take_vote-requires-clause-lines g c = lines_owned c.args.self.now c.args.self.now c.args.party _ c.in-Some.ensures.same (seen c.at.result.now) c.at.ensures.found c.args.self.now.making.free c.requires.lines

pub returns-then-is_voting : goal.returns-then-is_voting
returns-then-is_voting g c = voted_out c.args.self.now c.take_vote.new.self c.args.party _ c.in-Some.ensures.same (seen c.at.result.now) c.at.ensures.found (sym c.is_voting.ensures ∙ c.if-is_voting.true) c.take_vote.ensures

pub returns-else-is_voting : goal.returns-else-is_voting
returns-else-is_voting g c = voted_else c.args.self.now c.meet-else-is_voting.new.self c.args.party _ c.in-Some.ensures.same (seen c.at.result.now) c.at.ensures.found (sym c.is_voting.ensures ∙ c.if-is_voting.false) c.meet-else-is_voting.ensures

pub take_vote-requires-clause-next : goal.take_vote-requires-clause-next
take_vote-requires-clause-next g c = vote_ends c.args.self.now c.args.party _ c.in-Some.ensures.same (seen c.at.result.now) c.at.ensures.found (sym c.is_voting.ensures ∙ c.if-is_voting.true) c.requires.next
