-- Which reaction of the definitions each of the code is.
use Rattle.tip_machine.specs.Reactions.{Demand, Reaction, aborts, abort_demand, asks, commits, commit_demand, needs_nothing, prepare_demand, promises}
use Rattle.tip_rules.specs.declared.reaction.Demand as declared_demand
use Rattle.tip_rules.specs.declared.reaction.Demand.TheVariants as demand
use Rattle.tip_rules.specs.declared.reaction.Reaction as declared_reaction
use Rattle.tip_rules.specs.declared.reaction.Reaction.TheVariants as reaction

abbrev pub demand_of : declared_demand.Demand → Demand
demand_of demand.Prepare = prepare_demand
demand_of demand.Commit = commit_demand
demand_of demand.Abort = abort_demand

abbrev pub reaction_of : declared_reaction.Reaction → Reaction
reaction_of reaction.Asks = asks
reaction_of reaction.Promises = promises
reaction_of reaction.NeedsNothing = needs_nothing
reaction_of reaction.Commits = commits
reaction_of reaction.Aborts = aborts
