use Rattle.std.proofs.Common.{List, arith, subst}
use Rattle.tip_table.specs.Lists.{IsFirst}
use Rattle.tip_recovery.specs.Adopting.{Unfinished, is_named}
use Rattle.tip_recovery.proofs.Looking.{first-within, given, handed_back}
use Rattle.tip_recovery.proofs.recovery.adopt_in.Goals as goal

pub index_mut-requires : goal.index_mut-requires
index_mut-requires g c = omega (arith, first-within (is_named c.args.id.now) c.deref.result.now c.in-Some.place c.in-Some.ensures, c.deref.ensures.len)

pub returns-in-Some-clause-ok : goal.returns-in-Some-clause-ok
returns-in-Some-clause-ok g c =
    let first : IsFirst (is_named c.args.id.now) c.args.rows.now.items c.in-Some.place = subst (λ (rows : List Unfinished). IsFirst (is_named c.args.id.now) rows c.in-Some.place) c.deref.ensures.value c.in-Some.ensures in
    given c.args.id.now c.args.boxes c.args.rows.now.items c.in-Some.place c.index_mut.result.now first c.index_mut.ensures.value c.adopt.result c.adopt.new.self c.adopt.ensures.ok

pub returns-in-Some-clause-err : goal.returns-in-Some-clause-err
returns-in-Some-clause-err g c =
    let first : IsFirst (is_named c.args.id.now) c.args.rows.now.items c.in-Some.place = subst (λ (rows : List Unfinished). IsFirst (is_named c.args.id.now) rows c.in-Some.place) c.deref.ensures.value c.in-Some.ensures in
    handed_back c.args.id.now c.args.boxes c.args.rows.now.items c.in-Some.place c.index_mut.result.now first c.index_mut.ensures.value c.adopt.result c.adopt.ensures.err
