use Rattle.std.proofs.Common.{◌∙◌, ap, arith, map}
use Rattle.std.proofs.lemmas.List.{take_all}
use Rattle.tip_rows.specs.Memory.{Stored}
use Rattle.tip_rows.proofs.PartLemmas.{part-of}
use Rattle.tip_rows.proofs.memory.part_of.Goals as goal

pub returns : goal.returns
returns g c =
    c.loop-stored.invariant.so_far
    ∙ ap (map (λ (s : Stored). (s.key, s.row))) (take_all c.loop-stored.stored-index c.run_of-own.result.now (omega (arith, c.loop-stored-test.false)) ∙ c.run_of-own.ensures)
    ∙ part-of c.args.realm.now c.args.rows.now
