use Rattle.std.proofs.Common.{refl}
use Rattle.tip_rules.specs.Reacting.{reaction_of}
use Rattle.tip_table.specs.Kept.{of}
use Rattle.tip_rules.proofs.Works.{may_react, reacted_all}
use Rattle.tip_rules.proofs.work.Work+Connection+Transaction+Making.react.Goals as goal

pub visit-requires : goal.visit-requires
visit-requires g c = may_react (reaction_of c.args.reaction) c.args.key c.args.self.now.making (of c.args.self.now.connections c.args.self.now.realm) c.requires

pub returns : goal.returns
returns g c = record { does = reacted_all (reaction_of c.args.reaction) c.args.key c.args.self.now c.visit.new.self c.visit.new.notes c.requires c.visit.ensures.items c.visit.ensures.notes c.visit.ensures.others c.visit.ensures.room; others = refl }
