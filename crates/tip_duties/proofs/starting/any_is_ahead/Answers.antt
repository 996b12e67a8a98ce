use Rattle.std.proofs.Common.{◌∙◌, List, ℕ, subst, sym, true≢false}
use Rattle.std.specs.List.{All}
use Rattle.std.proofs.lemmas.List.{take_all}
use Rattle.std.proofs.lemmas.List.Elements.{All-more}
use Rattle.tip_duties.specs.Starting.{IsAhead}
use Rattle.tip_duties.proofs.starting.any_is_ahead.Goals as goal

pub loop-realm-preserved : goal.loop-realm-preserved
loop-realm-preserved g c =
    let before = c.loop-realm.invariant in
    let asked = c.in_ok-is_ahead.ensures in
    let realm = c.realm-item.result in record {
      stands = λ log stands. asked.stands log (before.stands log stands);
      truth = λ faithful. before.truth (asked.truth faithful);
      counts = asked.counts ∙ before.counts;
      none = λ log stands faithful.
          let here : ¬ IsAhead log realm = λ ahead. true≢false (sym ((asked.ahead log (before.stands log stands) faithful).1 ahead) ∙ c.if-branch.false) in
          All-more (λ (realm : List ℕ). ¬ IsAhead log realm) c.args.realms.now c.loop-realm.realm-index realm c.loop-realm-test.true
          (before.none log stands (asked.truth faithful)) (subst (λ (realm : List ℕ). ¬ IsAhead log realm) c.realm-item.is here);
    }

pub returns-clause-no : goal.returns-clause-no
returns-clause-no g c = λ log stands faithful same.
    subst (λ (realms : List (List ℕ)). All (λ realm. ¬ IsAhead log realm) realms) (take_all c.loop-realm.realm-index c.args.realms.now c.loop-realm-test.false)
    (c.loop-realm.invariant.none log stands faithful)
