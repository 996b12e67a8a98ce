-- Rows with their boxes: where they rise, each key says its boxes.
use Rattle.std.proofs.Common.{◌≡◌, ◌==◌, ◌∷◌, ◌∙◌, if◌then◌else◌, true, List, [], length, refl, ap, sym, subst}
use Rattle.std.specs.List.{list_all}
use Rattle.std.proofs.lemmas.Bool.{and_from, and_parts}
use Rattle.tip_branch.specs.declared.branch.Badge.{Badge}
use Rattle.tip_journal.specs.Journal.{begun}
use Rattle.tip_rows.specs.Keys.{Key, comes_before}
use Rattle.tip_rows.specs.Logs.{is_rising}
use Rattle.tip_rows.specs.Rows.{branches_of}
use Rattle.tip_rows.specs.declared.row.Row.{Row}
use Rattle.tip_machine.specs.Moves.{World, loaded}
use Rattle.tip_machine.specs.Recovery.{Loaded, restarted}
use Rattle.tip_machine.specs.Starting.{are_adopted}
use Rattle.tip_machine.specs.States.{State}
use Rattle.tip_machine.proofs.Storing.{before_apart}
use Rattle.tip_agreement.proofs.Keys.{key_self}
use Rattle.tip_honest.proofs.More.{first_honest}
use Rattle.tip_honest.specs.Honesty.{AreHonest, IsFirst, are_boxed, boxes_of, rows_of}

-- these boxes are those of each row
AreAt : (Key → List Badge) → List Loaded → Type 0
AreAt boxes [] = Unit {0}
AreAt boxes (l ∷ ls) = (boxes l.key ≡ l.boxes) × AreAt boxes ls

loads_same : (boxes : Key → List Badge) (ls : List Loaded) → AreAt boxes ls → loaded boxes (rows_of ls) ≡ ls
unfolding AreAt
loads_same boxes [] at = refl
loads_same boxes (l ∷ ls) at = ap (λ b. record { key = l.key; row = l.row; boxes = b } ∷ loaded boxes (rows_of ls)) at.0 ∙ ap (λ x. l ∷ x) (loads_same boxes ls at.1)

fits_each : (boxes : Key → List Badge) (ls : List Loaded) → AreAt boxes ls → are_boxed ls ≡ true → are_adopted boxes (rows_of ls) ≡ true
unfolding AreAt
fits_each boxes [] at fit = refl
fits_each boxes (l ∷ ls) at fit =
    let parts = and_parts (length l.boxes == length (branches_of l.row)) (are_boxed ls) fit in
    and_from _ _ (ap (λ (b : List Badge). length b == length (branches_of l.row)) at.0 ∙ parts.0) (fits_each boxes ls at.1 parts.1)

-- a row before all others does not hide their boxes
passed : (first : Loaded) (behind : List Loaded) (ls : List Loaded) → list_all (λ (stored : Key × Row). comes_before first.key stored.0) (rows_of ls) ≡ true → AreAt (boxes_of behind) ls → AreAt (boxes_of (first ∷ behind)) ls
unfolding AreAt
passed first behind [] leads at = tt
passed first behind (l ∷ ls) leads at =
    let parts = and_parts (comes_before first.key l.key) (list_all (λ (s : Key × Row). comes_before first.key s.0) (rows_of ls)) leads in
    (ap (λ b. if b then first.boxes else boxes_of behind l.key) (before_apart first.key l.key parts.0) ∙ at.0, passed first behind ls parts.1 at.1)

finds : (ls : List Loaded) → is_rising (rows_of ls) ≡ true → AreAt (boxes_of ls) ls
unfolding AreAt
finds [] rising = tt
finds (l ∷ ls) rising =
    let parts = and_parts (list_all (λ (s : Key × Row). comes_before l.key s.0) (rows_of ls)) (is_rising (rows_of ls)) rising in
    (ap (λ b. if b then l.boxes else boxes_of ls l.key) (key_self l.key), passed l ls ls parts.0 (finds ls parts.1))

pub loaded_again : (start : List Loaded) → is_rising (rows_of start) ≡ true → loaded (boxes_of start) (rows_of start) ≡ start
loaded_again start rising = loads_same (boxes_of start) start (finds start rising)

pub adopted_so : (start : List Loaded) → is_rising (rows_of start) ≡ true → are_boxed start ≡ true → are_adopted (boxes_of start) (rows_of start) ≡ true
adopted_so start rising fit = fits_each (boxes_of start) start (finds start rising) fit

-- A REALM THAT BEGINS as recovery makes it of rows and boxes
pub begins_honest : (state : State) (start : List Loaded) → is_rising (rows_of start) ≡ true → are_boxed start ≡ true → state ≡ restarted state.head start → state.head.given ≡ 0 → state.head.entries ≡ 0 → AreHonest (record { state = state; rows = rows_of start; errands = [] }) (begun state.head.epoch start ∷ [])
begins_honest state start rising fit made given entries =
    let world : World = record { state = state; rows = rows_of start; errands = [] } in
    let first : IsFirst world = record { boxes = boxes_of start; adopted = adopted_so start rising fit; state = made ∙ ap (restarted state.head) (sym (loaded_again start rising)); given = given; entries = entries; errands = refl } in
    subst (λ rows. AreHonest world (begun state.head.epoch rows ∷ [])) (loaded_again start rising) (first_honest world first)
