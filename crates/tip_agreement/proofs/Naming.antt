-- Identifiers of two realms differ, so one realm alone tells of each.
use Rattle.std.proofs.Common.{◌≡◌, ◌++◌, ◌∷◌, ◌==◌, ℕ, true, List, [], append_assoc, drop, refl, ap, sym, subst, ◌∙◌}
use Rattle.std.specs.Prelude.{slice_get}
use Rattle.std.specs.Fmt.{decimal}
use Rattle.std.specs.List.{list_all, list_any}
use Rattle.std.proofs.lemmas.Bool.{and_parts, or_left, true≢false}
use Rattle.std.proofs.lemmas.Option.{same_Some}
use Rattle.tip_line.specs.Ids.{dash}
use Rattle.tip_line.specs.Words.{is_address, is_letter, is_realm}
use Rattle.tip_rows.specs.Keys.{Key}
use Rattle.tip_rows.specs.Logs.{last_epoch}
use Rattle.tip_machine.specs.Agreement.Traces.{shown_in, traced}
use Rattle.tip_machine.specs.Agreement.Verdicts.{Verdict, told}
use Rattle.tip_machine.specs.Answers.{identifier}
use Rattle.tip_machine.specs.Heads.{are_allowed, is_within}
use Rattle.tip_machine.specs.Honest.{is_run}
use Rattle.tip_machine.specs.Moves.{Move, World, led_to}
use Rattle.tip_machine.specs.Starting.{IsStart, are_declared}
use Rattle.tip_agreement.proofs.Agreeing.{run_true, start_true}
use Rattle.tip_agreement.proofs.Declared.{name_led}
use Rattle.tip_agreement.proofs.Restarts.{start_sound}
use Rattle.tip_agreement.specs.Truth.{IsOurs}
use Rattle.tip_agreement.specs.Telling.{is_told_of}

first_same : (x y : ℕ) (xs ys : List ℕ) → x ∷ xs ≡ y ∷ ys → x ≡ y
first_same x y xs ys same = same_Some x y (ap (λ l. slice_get l 0) same)

-- a letter is no dash
no_dash : (octet : ℕ) → is_letter octet ≡ true → dash ≡ octet → ⊥
no_dash octet is same = true≢false (sym is ∙ ap is_letter (sym same))

-- what stands before the first dash
same_before : (one other rest more : List ℕ) → list_all is_letter one ≡ true → list_all is_letter other ≡ true → one ++ dash ∷ rest ≡ other ++ dash ∷ more → one ≡ other
same_before [] [] rest more letters others same = refl
same_before [] (y ∷ other) rest more letters others same = absurd (no_dash y (and_parts (is_letter y) _ others).0 (first_same dash y rest (other ++ dash ∷ more) same))
same_before (x ∷ one) [] rest more letters others same = absurd (no_dash x (and_parts (is_letter x) _ letters).0 (sym (first_same x dash (one ++ dash ∷ rest) more same)))
same_before (x ∷ one) (y ∷ other) rest more letters others same =
    ap (λ z. z ∷ one) (first_same x y (one ++ dash ∷ rest) (other ++ dash ∷ more) same)
    ∙ ap (λ l. y ∷ l) (same_before one other rest more (and_parts (is_letter x) (list_all is_letter one) letters).1 (and_parts (is_letter y) (list_all is_letter other) others).1 (ap (drop 1) same))

letters_of : (name : List ℕ) → is_realm name ≡ true → list_all is_letter name ≡ true
letters_of name is = (and_parts _ (list_all is_letter name) is).1

-- what stands behind the dash
abbrev behind : Key → List ℕ
behind key = decimal key.epoch ++ ((dash ∷ decimal key.connection) ++ (dash ∷ decimal key.number))

spelled : (name : List ℕ) (key : Key) → identifier name key ≡ name ++ dash ∷ behind key
spelled name key =
    append_assoc (name ++ (dash ∷ decimal key.epoch)) (dash ∷ decimal key.connection) (dash ∷ decimal key.number)
    ∙ append_assoc name (dash ∷ decimal key.epoch) ((dash ∷ decimal key.connection) ++ (dash ∷ decimal key.number))

same_realm : (one other : List ℕ) (key that : Key) → is_realm one ≡ true → is_realm other ≡ true → identifier one key ≡ identifier other that → one ≡ other
same_realm one other key that is too same = same_before one other (behind key) (behind that) (letters_of one is) (letters_of other too) (sym (spelled one key) ∙ same ∙ spelled other that)

-- a realm that starts has a name as realms have
pub named_so : (world : World) → IsStart world → is_realm world.state.head.name ≡ true
named_so world start =
    let head = world.state.head in
    let entries = and_parts _ (head.entries == 0) start.head in
    let given = and_parts _ (head.given == 0) entries.0 in
    let epoch = and_parts _ (is_within 1 last_epoch head.epoch) given.0 in
    let branches = and_parts _ (are_declared head.branches) epoch.0 in
    let limits = and_parts _ (are_allowed head.limits) branches.0 in
    (and_parts (is_realm head.name) (is_address head.address) limits.0).0

-- an identifier that a run tells of is its realm's own
is_ours : (world : World) (moves : List Move) (id : List ℕ) → IsStart world → is_run world moves ≡ true → is_told_of id world moves ≡ true → IsOurs world.state.head.name id
is_ours world moves id start run tells =
    let name = name_led world moves in
    let true_to = run_true world moves [] (start_sound world start) (start_true world start) run in
    subst (λ n. IsOurs n id) name (true_to.ours id (or_left (list_any (λ (verdict : Verdict). true) (told (led_to world moves).state.head.name id (shown_in (traced world moves)))) _ (ap (λ n. list_any (λ (verdict : Verdict). true) (told n id (shown_in (traced world moves)))) name ∙ tells)))

pub one_tells : (one other : World) (moves others : List Move) (id : List ℕ) → IsStart one → is_run one moves ≡ true → IsStart other → is_run other others ≡ true → is_told_of id one moves ≡ true → is_told_of id other others ≡ true → one.state.head.name ≡ other.state.head.name
one_tells one other moves others id start run start_too run_too tells tells_too =
    let ours = is_ours one moves id start run tells in
    let theirs = is_ours other others id start_too run_too tells_too in
    same_realm one.state.head.name other.state.head.name ours.0 theirs.0 (named_so one start) (named_so other start_too) (sym ours.2 ∙ theirs.2)
