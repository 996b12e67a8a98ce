use Rattle.std.proofs.Common.{◌<◌, ◌+◌, ◌^◌, arith, subst}
use Rattle.std.specs.Prelude.{IfSome}
use Rattle.tip_journal.proofs.HistoryLemmas.{changed_at-read}
use Rattle.tip_journal.specs.Retiring.{Retired, with_retired}
use Rattle.tip_host.proofs.Retires.{retired_read}
use Rattle.tip_host.specs.Books.{CanCount}
use Rattle.tip_host.proofs.retiring.let_go.Goals as goal

pub index_mut-requires : goal.index_mut-requires
index_mut-requires g c =
    let requires = rw (← c.books.view_is) at c.requires in
    let can : CanCount c.books.inside.retired.items c.args.realm = subst (λ o. IfSome o (λ journal. CanCount c.books.inside.retired.items c.args.realm)) c.in_ok-entries.ensures.retired.was requires in
    omega (arith, can.0, c.books.inside.retired.ok.0)

pub add-requires : goal.add-requires
add-requires g c =
    let requires = rw (← c.books.view_is) at c.requires in
    let can : CanCount c.books.inside.retired.items c.args.realm = subst (λ o. IfSome o (λ journal. CanCount c.books.inside.retired.items c.args.realm)) c.in_ok-entries.ensures.retired.was requires in
    subst (λ (r : Retired). r.starts + 1 < 2 ^ 32) (retired_read c.books.inside.retired.items c.args.realm c.index_mut.result.now can.0 c.index_mut.ensures.value) can.1

pub returns-clause-retired : goal.returns-clause-retired
returns-clause-retired g c = rw (← c.books.view_is) (record {
  entries = c.in_ok-entries.entries;
  retires = c.in_ok-entries.ensures.retired;
  counted = changed_at-read c.books.inside.retired.items c.args.realm (with_retired c.in_ok-entries.entries) c.index_mut.result.now c.add.new.self c.index_mut.ensures.value c.add.ensures;
})
