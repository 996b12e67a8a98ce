-- The journals of one process, and behind them those of the next.
use Rattle.std.proofs.Common.{◌≡◌, ◌-◌, ◌<◌, ◌++◌, ◌∷◌, suc, Bool, true, false, cond, List, [], Option, Some, None, length, length-append, append_assoc, arith, refl, ap, sym, subst, ◌∙◌}
use Rattle.std.proofs.lemmas.Bool.{and_parts}
use Rattle.tip_branch.specs.declared.branch.Badge.{Badge}
use Rattle.tip_journal.proofs.HistoryLemmas.{length-changed_at}
use Rattle.tip_journal.specs.Journal.{begun, with_entry}
use Rattle.tip_journal.specs.Journals.{changed_at, with_last}
use Rattle.tip_machine.specs.Honest.{can_start, is_honest, is_run}
use Rattle.tip_machine.specs.Moves.{Move, World, led_to, loaded, moved}
use Rattle.tip_machine.specs.Steps.{is_open}
use Rattle.tip_machine.specs.declared.event.Outcome.TheVariants.{NoChange, Refused, Stored}
use Rattle.tip_rows.specs.Keys.{Key}
use Rattle.tip_honest.proofs.More.{honest_more}
use Rattle.tip_honest.specs.Honesty.{AreHonest, Journal, entered_in, entry_of, journals_after, next_of, noted}
use Rattle.tip_honest.specs.declared.entry.Entry.{Entry}

-- Behind other journals

pub last_behind : (change : Journal → Journal) (earlier later : List Journal) → 0 < length later → with_last change (earlier ++ later) ≡ earlier ++ with_last change later
last_behind change [] later some = refl
last_behind change (j ∷ earlier) later some =
    let more : 0 < length (earlier ++ later) = omega (arith, length-append earlier later, some) in
    let place : length (j ∷ (earlier ++ later)) - 1 ≡ suc (length (earlier ++ later) - 1) = omega (arith, more) in
    ap (λ n. changed_at n change (j ∷ (earlier ++ later))) place ∙ ap (λ js. j ∷ js) (last_behind change earlier later some)

entered_behind : (entry : Option Entry) (earlier later : List Journal) → 0 < length later → entered_in entry (earlier ++ later) ≡ earlier ++ entered_in entry later
entered_behind None earlier later some = refl
entered_behind (Some entry) earlier later some = last_behind (with_entry entry) earlier later some

pub may_behind : (b : Bool) (entry : Option Entry) (earlier later : List Journal) → 0 < length later → cond b (entered_in entry (earlier ++ later)) (earlier ++ later) ≡ earlier ++ cond b (entered_in entry later) later
may_behind true entry earlier later some = entered_behind entry earlier later some
may_behind false entry earlier later some = refl

noted_behind : (move : Move) (world : World) (earlier later : List Journal) → 0 < length later → noted move world (earlier ++ later) ≡ earlier ++ noted move world later
noted_behind (Move.Step event outcome) world earlier later some = may_behind (is_open world.state) (entry_of (Move.Step event outcome) world) earlier later some
noted_behind (Move.Go place back outcome) world earlier later some = may_behind (is_open world.state) (entry_of (Move.Go place back outcome) world) earlier later some
noted_behind (Move.Lose place) world earlier later some = may_behind (is_open world.state) None earlier later some
noted_behind (Move.Restart boxes) world earlier later some = append_assoc earlier later (next_of boxes world ∷ [])
noted_behind (Move.Renew boxes Stored) world earlier later some = append_assoc earlier later (next_of boxes world ∷ [])
noted_behind (Move.Renew boxes Refused) world earlier later some = may_behind (is_open world.state) None earlier later some
noted_behind (Move.Renew boxes NoChange) world earlier later some = may_behind (is_open world.state) None earlier later some

entered_some : (entry : Option Entry) (journals : List Journal) → 0 < length journals → 0 < length (entered_in entry journals)
entered_some None journals some = some
entered_some (Some entry) journals some = omega (arith, length-changed_at journals (length journals - 1) (with_entry entry), some)

may_some : (b : Bool) (entry : Option Entry) (journals : List Journal) → 0 < length journals → 0 < length (cond b (entered_in entry journals) journals)
may_some true entry journals some = entered_some entry journals some
may_some false entry journals some = some

noted_some : (move : Move) (world : World) (journals : List Journal) → 0 < length journals → 0 < length (noted move world journals)
noted_some (Move.Step event outcome) world journals some = may_some (is_open world.state) (entry_of (Move.Step event outcome) world) journals some
noted_some (Move.Go place back outcome) world journals some = may_some (is_open world.state) (entry_of (Move.Go place back outcome) world) journals some
noted_some (Move.Lose place) world journals some = may_some (is_open world.state) None journals some
noted_some (Move.Restart boxes) world journals some = omega (arith, length-append journals (next_of boxes world ∷ []), some)
noted_some (Move.Renew boxes Stored) world journals some = omega (arith, length-append journals (next_of boxes world ∷ []), some)
noted_some (Move.Renew boxes Refused) world journals some = may_some (is_open world.state) None journals some
noted_some (Move.Renew boxes NoChange) world journals some = may_some (is_open world.state) None journals some

pub after_some : (world : World) (moves : List Move) (journals : List Journal) → 0 < length journals → 0 < length (journals_after world moves journals)
after_some world [] journals some = some
after_some world (move ∷ moves) journals some = after_some (moved move world).world moves (noted move world journals) (noted_some move world journals some)

after_behind : (world : World) (moves : List Move) (earlier later : List Journal) → 0 < length later → journals_after world moves (earlier ++ later) ≡ earlier ++ journals_after world moves later
after_behind world [] earlier later some = refl
after_behind world (move ∷ moves) earlier later some =
    ap (journals_after (moved move world).world moves) (noted_behind move world earlier later some)
    ∙ after_behind (moved move world).world moves earlier (noted move world later) (noted_some move world later some)

-- A run more

pub honest_on : (world : World) (moves : List Move) (journals : List Journal) → AreHonest world journals → is_run world moves ≡ true → AreHonest (led_to world moves) (journals_after world moves journals)
honest_on world [] journals is run = is
honest_on world (move ∷ moves) journals is run =
    let parts = and_parts (is_honest move world) (is_run (moved move world).world moves) run in
    honest_on (moved move world).world moves (noted move world journals) (honest_more world journals move is parts.0) parts.1

pub honest_then : (world : World) (journals : List Journal) (boxes : Key → List Badge) (world' : World) (journals' : List Journal) → AreHonest world journals → can_start boxes world ≡ true → (next : AreHonest world' journals') → next.start ≡ (moved (Move.Restart boxes) world).world → loaded next.first.boxes next.start.rows ≡ loaded boxes world.rows → AreHonest world' (journals ++ journals')
honest_then world journals boxes world' journals' is can next begins same =
    let begun_now = honest_more world journals (Move.Restart boxes) is can in
    let whole = honest_on next.start next.moves (journals ++ next_of boxes world ∷ []) (subst (λ w. AreHonest w (journals ++ next_of boxes world ∷ [])) (sym begins) begun_now) next.run in
    let first : next_of boxes world ∷ [] ≡ begun next.start.state.head.epoch (loaded next.first.boxes next.start.rows) ∷ [] = λ i. begun (sym (ap (λ (w : World). w.state.head.epoch) begins) i) (sym same i) ∷ [] in
    subst (λ w. AreHonest w (journals ++ journals')) next.led
    (subst (AreHonest (led_to next.start next.moves)) (after_behind next.start next.moves journals (next_of boxes world ∷ []) (omega arith) ∙ ap (λ js. journals ++ journals_after next.start next.moves js) first ∙ ap (λ js. journals ++ js) next.kept) whole)
