use Rattle.std.proofs.Common.{◌≡◌, Bool, List, ℕ, Ok, Err, Result, false, is_some, subst, true}
use Rattle.std.specs.List.{All}
use Rattle.std.specs.Prelude.{IfOk}
use Rattle.tip_duties.proofs.Ahead.{none_known_is}
use Rattle.tip_duties.specs.Starting.{IsAhead}
use Rattle.tip_duties.proofs.starting.has_row_ahead.Goals as goal

-- what holds anyway
anyway : {E : Type 0} (r : Result Bool E) (P : Type 0) → P → IfOk r (λ ahead. ahead ≡ false → P)
anyway (Ok ahead) P p = λ no. p
anyway (Err fault) P p = tt

pub returns-clause-known : goal.returns-clause-known
returns-clause-known g c = λ log stands faithful.
    let names = c.in_ok-known.known.items in
    let asked = c.in_ok-any_is_ahead.ensures in
    let once = c.any_is_ahead-2.ensures.truth faithful in
    let are = c.in_ok-known.ensures.names log stands (asked.truth once) in
    let none = asked.no log (c.realms.ensures.stands log stands) once c.if-branch.false in
    let here = subst (λ (names : List (List ℕ)). All (λ realm. ¬ IsAhead log realm) names) c.deref.ensures.value none in
    anyway c.any_is_ahead-2.result ((realm : List ℕ) → is_some (log.epochs realm) ≡ true → ¬ IsAhead log realm) (none_known_is log names are here)
