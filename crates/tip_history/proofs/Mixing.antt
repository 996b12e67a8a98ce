-- What all realms say, one line after another, and what each has made of it.
use Rattle.std.proofs.Common.{◌≡◌, ◌++◌, ◌∷◌, ℕ, zero, suc, Bool, true, false, cond, List, [], Some, None, map, append-nil, append_assoc, refl, ap, sym, subst, ◌∙◌}
use Rattle.std.specs.Prelude.{filter_map, slice_get, slice_set}
use Rattle.std.specs.List.{cons_option, flat_map, list_all, list_any}
use Rattle.std.specs.Str.{bytes_eq}
use Rattle.std.proofs.lemmas.Bool.{and_from, and_parts, not-true, or_parts, true≢false}
use Rattle.std.proofs.lemmas.Grind.{flat_map-append}
use Rattle.std.proofs.lemmas.List.Elements.{filter_map-append}
use Rattle.std.proofs.lemmas.List.Folds.{flat_map-map, list_all-append}
use Rattle.std.proofs.lemmas.Option.{none-some, same_Some}
use Rattle.tip_line.specs.Words.{is_realm}
use Rattle.tip_rows.proofs.MemoryLemmas.{bytes_eq-self, same_text}
use Rattle.tip_machine.specs.Honest.{is_run}
use Rattle.tip_machine.specs.Invariants.{IsSound}
use Rattle.tip_machine.specs.Invariants.Links.{are_distinct}
use Rattle.tip_machine.specs.Moves.{Move, World, led_to}
use Rattle.tip_machine.specs.Starting.{IsStart}
use Rattle.tip_agreement.proofs.Kept.{reached_sound}
use Rattle.tip_agreement.proofs.Asked.{run_is_agreed}
use Rattle.tip_agreement.proofs.Naming.{named_so}
use Rattle.tip_actor.specs.Acting.{Acting, Done}
use Rattle.tip_scene.specs.Acts.{Basis}
use Rattle.tip_scene.specs.Scenes.{Scene}
use Rattle.tip_scene.specs.declared.declared.Declaration.{Declaration}
use Rattle.tip_script.specs.Scripts as Script
use Rattle.tip_history.specs.Making.{AreMade, IsMade, own}
use Rattle.tip_history.specs.Histories.{AreHistories, History, IsTold, IsUnknown, begin_of, declarations_of, name_of}
use Rattle.tip_history.specs.Sayings.{Line, Saying, are_spelled, line_text, lines_text, output_of, saying_text, shown_of, shown_on}
use Rattle.tip_history.proofs.Doing.{Did, IsNumbered, outputs_of}
use Rattle.tip_agreement.proofs.Runs.{led_on, run_on, shows, shows_on}

-- what was asked of each realm, by its name
abbrev pub of_all : List Script.Move → List ℕ → List Script.Move
of_all said name = own name said

-- the realm is where its history leads, by what was asked of it, and these lines show what its history shows
pub record IsOf (basis : Basis) (asked : List ℕ → List Script.Move) (lines : List Line) (history : History) (acting : Acting) : Type 0 where
  pub start : IsStart (begin_of basis history)
  pub run : is_run (begin_of basis history) history.moves ≡ true
  pub made : AreMade (begin_of basis history) (asked (name_of history)) history.moves
  pub shown : shown_of (name_of history) lines ≡ shows (begin_of basis history) history.moves
  pub led : acting.world ≡ led_to (begin_of basis history) history.moves
  pub named : acting.name ≡ name_of history
  pub numbered : IsNumbered acting

abbrev pub AreOf : Basis → (List ℕ → List Script.Move) → List Line → List History → Scene → Type 0
AreOf basis asked lines [] [] = Unit {0}
AreOf basis asked lines [] (acting ∷ scene) = ⊥
AreOf basis asked lines (history ∷ histories) [] = ⊥
AreOf basis asked lines (history ∷ histories) (acting ∷ scene) = IsOf basis asked lines history acting × AreOf basis asked lines histories scene

abbrev pub names_of : List History → List (List ℕ)
names_of histories = map name_of histories

pub record Mixed (basis : Basis) (declarations : List Declaration) (asked : List ℕ → List Script.Move) (text : List ℕ) (scene : Scene) : Type 0 where
  pub lines : List Line
  pub text_is : text ≡ lines_text lines
  pub spelled : are_spelled lines ≡ true
  pub histories : List History
  pub declared : declarations_of histories ≡ declarations
  pub each : AreOf basis asked lines histories scene
  pub named : are_distinct bytes_eq (names_of histories) ≡ true
  pub silent : (name : List ℕ) → IsUnknown name histories → shown_of name lines ≡ []

-- So the text tells histories

told_all : (basis : Basis) (said : List Script.Move) (lines : List Line) (histories : List History) (scene : Scene) → AreOf basis (of_all said) lines histories scene → AreHistories basis said lines histories scene
told_all basis said lines [] [] are = tt
told_all basis said lines [] (acting ∷ scene) are = absurd are
told_all basis said lines (history ∷ histories) [] are = absurd are
told_all basis said lines (history ∷ histories) (acting ∷ scene) are =
    (record { start = are.0.start; run = are.0.run; made = are.0.made; led = are.0.led; shown = are.0.shown; agreed = λ id. run_is_agreed (begin_of basis history) history.moves id are.0.start are.0.run }, told_all basis said lines histories scene are.1)

pub told : (basis : Basis) (declarations : List Declaration) (said : List Script.Move) (text : List ℕ) (scene : Scene) → Mixed basis declarations (of_all said) text scene → IsTold basis declarations said scene text
told basis declarations said text scene mixed = record { lines = mixed.lines; text_is = mixed.text_is; spelled = mixed.spelled; histories = mixed.histories; declared = mixed.declared; told = told_all basis said mixed.lines mixed.histories scene mixed.each; named = mixed.named; silent = mixed.silent }

-- Lines of one realm

-- the same things said of the realm of this name
abbrev pub said_by : List ℕ → List Saying → List Line
said_by name said = map (λ saying. (name, saying)) said

pub text_said : (name : List ℕ) (said : List Saying) → lines_text (said_by name said) ≡ flat_map (saying_text name) said
text_said name said = flat_map-map line_text (λ saying. (name, saying)) said

shown_if : (own : Bool) (said : List Saying) → filter_map (λ saying. cond own (output_of saying) None) said ≡ cond own (outputs_of said) []
shown_if true [] = refl
shown_if true (saying ∷ said) = ap (cons_option (output_of saying)) (shown_if true said)
shown_if false [] = refl
shown_if false (saying ∷ said) = shown_if false said

shown_each : (name other : List ℕ) (said : List Saying) → shown_of name (said_by other said) ≡ filter_map (λ saying. cond (bytes_eq name other) (output_of saying) None) said
shown_each name other [] = refl
shown_each name other (saying ∷ said) = ap (cons_option (cond (bytes_eq name other) (output_of saying) None)) (shown_each name other said)

pub shown_said_by : (name other : List ℕ) (said : List Saying) → shown_of name (said_by other said) ≡ cond (bytes_eq name other) (outputs_of said) []
shown_said_by name other said = shown_each name other said ∙ shown_if (bytes_eq name other) said

-- what is said of a realm that shows nothing of it
pub quiet_by : (name other : List ℕ) (said : List Saying) → outputs_of said ≡ [] → shown_of name (said_by other said) ≡ []
quiet_by name other said none = shown_said_by name other said ∙ at (bytes_eq name other) where
  at : (own : Bool) → cond own (outputs_of said) [] ≡ []
  at true = none
  at false = refl

pub differs : (a b : List ℕ) → bytes_eq a b ≡ false → bytes_eq b a ≡ false
differs a b differ = at (bytes_eq b a) refl where
  at : (same : Bool) → bytes_eq b a ≡ same → bytes_eq b a ≡ false
  at true is = absurd (true≢false (sym (bytes_eq-self a) ∙ ap (bytes_eq a) (sym (same_text b a is)) ∙ differ))
  at false is = is

-- Names

pub spelled_by : (name : List ℕ) (said : List Saying) → is_realm name ≡ true → are_spelled (said_by name said) ≡ true
spelled_by name [] is = refl
spelled_by name (saying ∷ said) is = and_from (is_realm name) _ is (spelled_by name said is)

pub spelled_names : (asked : List ℕ → List Script.Move) (basis : Basis) (lines : List Line) (histories : List History) (scene : Scene) → AreOf basis asked lines histories scene → list_all (λ (acting : Acting). is_realm acting.name) scene ≡ true
spelled_names asked basis lines [] [] are = refl
spelled_names asked basis lines [] (a ∷ scene) are = absurd are
spelled_names asked basis lines (h ∷ histories) [] are = absurd are
spelled_names asked basis lines (h ∷ histories) (a ∷ scene) are = and_from (is_realm a.name) _ (ap is_realm are.0.named ∙ named_so (begin_of basis h) are.0.start) (spelled_names asked basis lines histories scene are.1)

pub spelled_at : (scene : Scene) (place : ℕ) (acting : Acting) → list_all (λ (a : Acting). is_realm a.name) scene ≡ true → slice_get scene place ≡ Some acting → is_realm acting.name ≡ true
spelled_at [] place acting all here = absurd (none-some acting here)
spelled_at (a ∷ scene) zero acting all here = ap (λ (x : Acting). is_realm x.name) (sym (same_Some a acting here)) ∙ (and_parts (is_realm a.name) _ all).0
spelled_at (a ∷ scene) (suc place) acting all here = spelled_at scene place acting (and_parts (is_realm a.name) (list_all (λ (x : Acting). is_realm x.name) scene) all).1 here

pub spelled_on : (lines more : List Line) → are_spelled lines ≡ true → are_spelled more ≡ true → are_spelled (lines ++ more) ≡ true
spelled_on lines more one two = list_all-append (λ (line : Line). is_realm line.0) lines more ∙ and_from (are_spelled lines) (are_spelled more) one two

-- a name that is none of these is not that of a realm among them
unlike : (asked : List ℕ → List Script.Move) (basis : Basis) (lines : List Line) (name : List ℕ) (histories : List History) (scene : Scene) (place : ℕ) (acting : Acting) → AreOf basis asked lines histories scene → slice_get scene place ≡ Some acting → IsUnknown name histories → bytes_eq name acting.name ≡ false
unlike asked basis lines name [] [] place acting are here unknown = absurd (none-some acting here)
unlike asked basis lines name [] (a ∷ scene) place acting are here unknown = absurd are
unlike asked basis lines name (h ∷ histories) [] place acting are here unknown = absurd are
unlike asked basis lines name (h ∷ histories) (a ∷ scene) zero acting are here unknown = ap (bytes_eq name) (ap (λ (x : Acting). x.name) (sym (same_Some a acting here)) ∙ are.0.named) ∙ (or_parts _ _ unknown).0
unlike asked basis lines name (h ∷ histories) (a ∷ scene) (suc place) acting are here unknown = unlike asked basis lines name histories scene place acting are.1 here (or_parts _ _ unknown).1

-- What is made, line by line

made_on : (line : Script.Move) (more : List Move) (lines : List Script.Move) (moves : List Move) (world : World) → AreMade world lines moves → IsMade (led_to world moves) line more → AreMade world (lines ++ line ∷ []) (moves ++ more)
made_on line more [] moves world none one = (more, [], subst (λ m. IsMade (led_to world m) line more) none one, refl, ap (λ l. l ++ more) none ∙ sym (append-nil more))
made_on line more (x ∷ lines) moves world (first, rest, is, are, all) one = (
  first,
  rest ++ more,
  is,
  made_on line more lines rest (led_to world first) are (subst (λ w. IsMade w line more) (ap (led_to world) all ∙ led_on world first rest) one),
  ap (λ l. l ++ more) all ∙ append_assoc first rest more,
)

-- the same was asked of each realm
pub asked_alike : (asked : List ℕ → List Script.Move) (basis : Basis) (other : List ℕ → List Script.Move) (lines : List Line) (histories : List History) (scene : Scene) → AreOf basis asked lines histories scene → ((place : ℕ) (acting : Acting) → slice_get scene place ≡ Some acting → other acting.name ≡ asked acting.name) → AreOf basis other lines histories scene
asked_alike asked basis other lines [] [] are same = tt
asked_alike asked basis other lines [] (a ∷ scene) are same = absurd are
asked_alike asked basis other lines (h ∷ histories) [] are same = absurd are
asked_alike asked basis other lines (h ∷ histories) (a ∷ scene) are same = (
  record { start = are.0.start; run = are.0.run; made = subst (λ l. AreMade (begin_of basis h) l h.moves) (sym (subst (λ n. other n ≡ asked n) are.0.named (same zero a refl))) are.0.made; shown = are.0.shown; led = are.0.led; named = are.0.named; numbered = are.0.numbered },
  asked_alike asked basis other lines histories scene are.1 (λ place acting here. same (suc place) acting here),
)

pub asked_so : {asked : List ℕ → List Script.Move} (basis : Basis) (other : List ℕ → List Script.Move) (declarations : List Declaration) (text : List ℕ) (scene : Scene) → ((place : ℕ) (acting : Acting) → slice_get scene place ≡ Some acting → other acting.name ≡ asked acting.name) → Mixed basis declarations asked text scene → Mixed basis declarations other text scene
asked_so basis other declarations text scene same mixed = record {
  lines = mixed.lines;
  text_is = mixed.text_is;
  spelled = mixed.spelled;
  histories = mixed.histories;
  declared = mixed.declared;
  each = asked_alike _ basis other mixed.lines mixed.histories scene mixed.each same;
  named = mixed.named;
  silent = mixed.silent;
}

-- One realm goes on

module _ (basis : Basis) (asked then_ : List ℕ → List Script.Move) (line : Script.Move) (lines more : List Line) (acting : Acting) (done : Done) (did : Did (IsMade acting.world line) acting done) (more_asked : then_ acting.name ≡ asked acting.name ++ line ∷ []) (else_asked : (name : List ℕ) → bytes_eq name acting.name ≡ false → then_ name ≡ asked name) (own : shown_of acting.name more ≡ outputs_of did.said) (others : (name : List ℕ) → bytes_eq name acting.name ≡ false → shown_of name more ≡ []) where
  unchanged : (name : List ℕ) → bytes_eq name acting.name ≡ false → shown_of name (lines ++ more) ≡ shown_of name lines
  unchanged name differ = filter_map-append (shown_on name) lines more ∙ ap (λ l. shown_of name lines ++ l) (others name differ) ∙ append-nil (shown_of name lines)

  same_made : (h : History) → bytes_eq (name_of h) acting.name ≡ false → AreMade (begin_of basis h) (asked (name_of h)) h.moves → AreMade (begin_of basis h) (then_ (name_of h)) h.moves
  same_made h differ made = subst (λ l. AreMade (begin_of basis h) l h.moves) (sym (else_asked (name_of h) differ)) made

  others_stay : (histories : List History) (scene : Scene) → AreOf basis asked lines histories scene → list_any (bytes_eq acting.name) (names_of histories) ≡ false → AreOf basis then_ (lines ++ more) histories scene
  others_stay [] [] are differ = tt
  others_stay [] (a ∷ scene) are differ = absurd are
  others_stay (h ∷ histories) [] are differ = absurd are
  others_stay (h ∷ histories) (a ∷ scene) are differ = (
    record { start = are.0.start; run = are.0.run; made = same_made h (differs acting.name (name_of h) (or_parts _ _ differ).0) are.0.made; shown = unchanged (name_of h) (differs acting.name (name_of h) (or_parts _ _ differ).0) ∙ are.0.shown; led = are.0.led; named = are.0.named; numbered = are.0.numbered },
    others_stay histories scene are.1 (or_parts _ _ differ).1,
  )

  -- the history of the realm, with what it has done now
  abbrev longer : History → History
  longer history = record history { moves = history.moves ++ did.moves }

  goes_on : (history : History) → IsOf basis asked lines history acting → IsOf basis then_ (lines ++ more) (longer history) done.acting
  goes_on history is =
      let from : (P : World → Type 0) → P acting.world → P (led_to (begin_of basis history) history.moves) = λ P p. subst P is.led p in
      record {
        start = is.start;
        run = run_on (begin_of basis history) history.moves did.moves is.run (from (λ w. is_run w did.moves ≡ true) did.run);
        made = subst (λ l. AreMade (begin_of basis history) l (history.moves ++ did.moves)) (sym (subst (λ n. then_ n ≡ asked n ++ line ∷ []) is.named more_asked)) (made_on line did.moves (asked (name_of history)) history.moves (begin_of basis history) is.made (from (λ w. IsMade w line did.moves) did.made));
        shown = filter_map-append (shown_on (name_of history)) lines more
            ∙ ap (λ l. l ++ shown_of (name_of history) more) is.shown
            ∙ ap (λ l. shows (begin_of basis history) history.moves ++ l) (subst (λ n. shown_of n more ≡ outputs_of did.said) is.named own ∙ from (λ w. outputs_of did.said ≡ shows w did.moves) did.shown)
            ∙ sym (shows_on (begin_of basis history) history.moves did.moves);
        led = from (λ w. done.acting.world ≡ led_to w did.moves) did.led ∙ sym (led_on (begin_of basis history) history.moves did.moves);
        named = did.named ∙ is.named;
        numbered = did.numbered is.numbered;
      }

  -- the histories of all realms then
  abbrev pub longer_at : ℕ → List History → List History
  longer_at place [] = []
  longer_at zero (h ∷ histories) = longer h ∷ histories
  longer_at (suc place) (h ∷ histories) = h ∷ longer_at place histories

  pub same_names : (place : ℕ) (histories : List History) → names_of (longer_at place histories) ≡ names_of histories
  same_names place [] = refl
  same_names zero (h ∷ histories) = refl
  same_names (suc place) (h ∷ histories) = ap (λ l. name_of h ∷ l) (same_names place histories)

  pub same_declarations : (place : ℕ) (histories : List History) → declarations_of (longer_at place histories) ≡ declarations_of histories
  same_declarations place [] = refl
  same_declarations zero (h ∷ histories) = refl
  same_declarations (suc place) (h ∷ histories) = ap (λ l. h.declaration ∷ l) (same_declarations place histories)

  pub one_goes_on : (histories : List History) (scene : Scene) (place : ℕ) → AreOf basis asked lines histories scene → are_distinct bytes_eq (names_of histories) ≡ true → slice_get scene place ≡ Some acting → AreOf basis then_ (lines ++ more) (longer_at place histories) (slice_set scene place done.acting)
  one_goes_on [] [] place are distinct here = absurd (none-some acting here)
  one_goes_on [] (a ∷ scene) place are distinct here = absurd are
  one_goes_on (h ∷ histories) [] place are distinct here = absurd are
  one_goes_on (h ∷ histories) (a ∷ scene) zero are distinct here =
      let is : IsOf basis asked lines h acting = subst (IsOf basis asked lines h) (same_Some a acting here) are.0 in
      let apart : list_any (bytes_eq (name_of h)) (names_of histories) ≡ false = not-true _ (and_parts _ _ distinct).0 in
      (goes_on h is, others_stay histories scene are.1 (subst (λ n. list_any (bytes_eq n) (names_of histories) ≡ false) (sym is.named) apart))
  one_goes_on (h ∷ histories) (a ∷ scene) (suc place) are distinct here =
      let apart : list_any (bytes_eq (name_of h)) (names_of histories) ≡ false = not-true _ (and_parts _ _ distinct).0 in (
        record { start = are.0.start; run = are.0.run; made = same_made h (unlike _ basis lines (name_of h) histories scene place acting are.1 here apart) are.0.made; shown = unchanged (name_of h) (unlike _ basis lines (name_of h) histories scene place acting are.1 here apart) ∙ are.0.shown; led = are.0.led; named = are.0.named; numbered = are.0.numbered },
        one_goes_on histories scene place are.1 (and_parts _ _ distinct).1 here,
      )

-- a realm that is reached is sound
pub sound_at : (asked : List ℕ → List Script.Move) (basis : Basis) (lines : List Line) (histories : List History) (scene : Scene) (place : ℕ) (acting : Acting) → AreOf basis asked lines histories scene → slice_get scene place ≡ Some acting → IsSound acting.world
sound_at asked basis lines [] [] place acting are here = absurd (none-some acting here)
sound_at asked basis lines [] (a ∷ scene) place acting are here = absurd are
sound_at asked basis lines (h ∷ histories) [] place acting are here = absurd are
sound_at asked basis lines (h ∷ histories) (a ∷ scene) zero acting are here = subst IsSound (sym are.0.led ∙ ap (λ (x : Acting). x.world) (same_Some a acting here)) (reached_sound (begin_of basis h) h.moves are.0.start are.0.run)
sound_at asked basis lines (h ∷ histories) (a ∷ scene) (suc place) acting are here = sound_at asked basis lines histories scene place acting are.1 here

pub numbered_at : (asked : List ℕ → List Script.Move) (basis : Basis) (lines : List Line) (histories : List History) (scene : Scene) (place : ℕ) (acting : Acting) → AreOf basis asked lines histories scene → slice_get scene place ≡ Some acting → IsNumbered acting
numbered_at asked basis lines [] [] place acting are here = absurd (none-some acting here)
numbered_at asked basis lines [] (a ∷ scene) place acting are here = absurd are
numbered_at asked basis lines (h ∷ histories) [] place acting are here = absurd are
numbered_at asked basis lines (h ∷ histories) (a ∷ scene) zero acting are here = subst IsNumbered (same_Some a acting here) are.0.numbered
numbered_at asked basis lines (h ∷ histories) (a ∷ scene) (suc place) acting are here = numbered_at asked basis lines histories scene place acting are.1 here

pub mixed_one : (basis : Basis) (declarations : List Declaration) (asked then_ : List ℕ → List Script.Move) (line : Script.Move) (text : List ℕ) (scene : Scene) (place : ℕ) (acting : Acting) (done : Done) → Mixed basis declarations asked text scene → slice_get scene place ≡ Some acting → then_ acting.name ≡ asked acting.name ++ line ∷ [] → ((name : List ℕ) → bytes_eq name acting.name ≡ false → then_ name ≡ asked name) → (IsSound acting.world → IsNumbered acting → Did (IsMade acting.world line) acting done) → Mixed basis declarations then_ (text ++ done.printed) (slice_set scene place done.acting)
mixed_one basis declarations asked then_ line text scene place acting done mixed here more_asked else_asked does =
    let did = does (sound_at _ basis mixed.lines mixed.histories scene place acting mixed.each here) (numbered_at _ basis mixed.lines mixed.histories scene place acting mixed.each here) in
    let more = said_by acting.name did.said in
    let own : shown_of acting.name more ≡ outputs_of did.said = shown_said_by acting.name acting.name did.said ∙ ap (λ b. cond b (outputs_of did.said) []) (bytes_eq-self acting.name) in
    let others : (name : List ℕ) → bytes_eq name acting.name ≡ false → shown_of name more ≡ [] = λ name differ. shown_said_by name acting.name did.said ∙ ap (λ b. cond b (outputs_of did.said) []) differ in
    let names = same_names basis asked then_ line mixed.lines more acting done did more_asked else_asked own others place mixed.histories in
    record {
      lines = mixed.lines ++ more;
      spelled = spelled_on mixed.lines more mixed.spelled (spelled_by acting.name did.said (spelled_at scene place acting (spelled_names _ basis mixed.lines mixed.histories scene mixed.each) here));
      text_is = ap (λ t. t ++ done.printed) mixed.text_is ∙ ap (λ t. lines_text mixed.lines ++ t) (did.text ∙ sym (text_said acting.name did.said)) ∙ sym (flat_map-append line_text mixed.lines more);
      histories = longer_at basis asked then_ line mixed.lines more acting done did more_asked else_asked own others place mixed.histories;
      declared = same_declarations basis asked then_ line mixed.lines more acting done did more_asked else_asked own others place mixed.histories ∙ mixed.declared;
      each = one_goes_on basis asked then_ line mixed.lines more acting done did more_asked else_asked own others mixed.histories scene place mixed.each mixed.named here;
      named = ap (are_distinct bytes_eq) names ∙ mixed.named;
      silent = λ name unknown.
          let known : IsUnknown name mixed.histories = sym (ap (list_any (bytes_eq name)) names) ∙ unknown in
          filter_map-append (shown_on name) mixed.lines more
          ∙ ap (λ l. l ++ shown_of name more) (mixed.silent name known)
          ∙ others name (unlike _ basis mixed.lines name mixed.histories scene place acting mixed.each here known);
    }

-- Lines that show nothing

quiet_stay : (asked : List ℕ → List Script.Move) (basis : Basis) (lines quiet : List Line) (none : (name : List ℕ) → shown_of name quiet ≡ []) (histories : List History) (scene : Scene) → AreOf basis asked lines histories scene → AreOf basis asked (lines ++ quiet) histories scene
quiet_stay asked basis lines quiet none [] [] are = tt
quiet_stay asked basis lines quiet none [] (a ∷ scene) are = absurd are
quiet_stay asked basis lines quiet none (h ∷ histories) [] are = absurd are
quiet_stay asked basis lines quiet none (h ∷ histories) (a ∷ scene) are =
    (record { start = are.0.start; run = are.0.run; made = are.0.made; shown = still (name_of h) ∙ are.0.shown; led = are.0.led; named = are.0.named; numbered = are.0.numbered }, quiet_stay asked basis lines quiet none histories scene are.1) where
      still : (name : List ℕ) → shown_of name (lines ++ quiet) ≡ shown_of name lines
      still name = filter_map-append (shown_on name) lines quiet ∙ ap (λ l. shown_of name lines ++ l) (none name) ∙ append-nil (shown_of name lines)

pub mixed_quiet : {asked : List ℕ → List Script.Move} (basis : Basis) (declarations : List Declaration) (text : List ℕ) (scene : Scene) (quiet : List Line) → Mixed basis declarations asked text scene → are_spelled quiet ≡ true → ((name : List ℕ) → shown_of name quiet ≡ []) → Mixed basis declarations asked (text ++ lines_text quiet) scene
mixed_quiet basis declarations text scene quiet mixed spelled none = record {
  lines = mixed.lines ++ quiet;
  spelled = spelled_on mixed.lines quiet mixed.spelled spelled;
  text_is = ap (λ t. t ++ lines_text quiet) mixed.text_is ∙ sym (flat_map-append line_text mixed.lines quiet);
  histories = mixed.histories;
  declared = mixed.declared;
  each = quiet_stay _ basis mixed.lines quiet none mixed.histories scene mixed.each;
  named = mixed.named;
  silent = λ name unknown. filter_map-append (shown_on name) mixed.lines quiet ∙ ap (λ l. l ++ shown_of name quiet) (mixed.silent name unknown) ∙ none name;
}
