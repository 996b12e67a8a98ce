use Rattle.std.proofs.Common.{◌∙◌, ◌++◌, ap, length, map, rules, subst}
use Rattle.tip_host.proofs.Beginning.{opened_run, opens_honest, rows_opened}
use Rattle.tip_journal.specs.Retiring.{none_retired}
use Rattle.tip_host.specs.Books.{Books}
use Rattle.tip_host.specs.Openings.{AreTaken, opened}
use Rattle.tip_host.proofs.host.Host.open.Goals as goal

pub invariant_of-result : goal.invariant_of-result
invariant_of-result g c =
    let same = c.realms.ensures.same in
    opens_honest c.args.recovering.core c.in-Ok-begin.stored.core c.args.recovering.realms _
    (c.in-Ok.ensures.journals ∙ ap (map opened) same) (c.in-Ok.ensures.retired ∙ ap (map (λ recovery. none_retired)) same) (subst (λ rs. AreTaken (length rs) c.in-Ok.rows rs) same c.in-Ok.ensures.rows) (c.in-Ok.ensures.count ∙ ap length same)
    (λ place. (λ i. c.new-3.ensures place i ++ c.new-2.ensures place i)) c.in-Ok-begin.ensures.realms c.in-Ok-begin.ensures.anew c.in-Ok-begin.ensures.adopted

pub returns-in-Ok-begin-clause-opened : goal.returns-in-Ok-begin-clause-opened
returns-in-Ok-begin-clause-opened g c =
    let same = c.realms.ensures.same in
    let taken = subst (λ rs. AreTaken (length rs) c.in-Ok.rows rs) same c.in-Ok.ensures.rows in
    let count = c.in-Ok.ensures.count ∙ ap length same in
    let none = c.in-Ok.ensures.retired ∙ ap (map (λ recovery. none_retired)) same in
    let books : Books = record { journals = c.in-Ok.journals; retired = c.in-Ok.retired.items; outboxes = c.new.result; rows = c.in-Ok.rows; work = c.new-2.result; out = c.new-3.result } in
    record {
      store = c.in-Ok-begin.ensures.store;
      realms = c.in-Ok-begin.ensures.realms;
      names = c.in-Ok-begin.ensures.names;
      running = c.in-Ok-begin.ensures.running;
      adopted = c.in-Ok-begin.ensures.adopted;
      journals = c.in-Ok.ensures.journals ∙ ap (map opened) same;
      retired = none;
      rows = rows_opened c.in-Ok.rows c.args.recovering.realms taken count;
      out = λ place. (λ i. c.new-3.ensures place i ++ c.new-2.ensures place i);
      lines = search rules;
      honest = λ place. opened_run c.args.recovering.core c.in-Ok-begin.stored.core c.args.recovering.realms books
          (c.in-Ok.ensures.journals ∙ ap (map opened) same) none taken count
          (λ place. (λ i. c.new-3.ensures place i ++ c.new-2.ensures place i)) c.in-Ok-begin.ensures.realms c.in-Ok-begin.ensures.anew c.in-Ok-begin.ensures.adopted place;
    }
