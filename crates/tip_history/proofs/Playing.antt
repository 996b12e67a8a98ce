-- A script, line by line.
use Rattle.std.proofs.Common.{◌≡◌, arith, ◌++◌, ◌∷◌, ◌+◌, ℕ, zero, suc, Bool, true, false, cond, List, [], Option, Some, None, map, length, append-nil, append_assoc, option_map, refl, ap, sym, subst, ◌∙◌}
use Rattle.std.specs.Prelude.{◌||◌, nat_le, not, slice_get, slice_set}
use Rattle.std.specs.List.{flat_map, list_all, list_any}
use Rattle.std.specs.Str.{bytes_eq}
use Rattle.std.proofs.lemmas.Bool.{and_parts, not-true, or_from, or_parts}
use Rattle.std.proofs.lemmas.Grind.{flat_map-append}
use Rattle.std.proofs.lemmas.List.Concat.{flat_map-cons}
use Rattle.std.proofs.lemmas.List.Elements.{filter-append, filter_map-append}
use Rattle.std.proofs.lemmas.Option.{none-some, same_Some}
use Rattle.std.specs.Option.{option_map_or, option_to_list}
use Rattle.tip_line.specs.Words.{is_realm}
use Rattle.tip_machine.specs.Invariants.{IsSound}
use Rattle.tip_machine.specs.Invariants.Links.{are_distinct}
use Rattle.tip_actor.specs.Acting.{Acting, Done, is_at_end, opening_text, restarts, settles}
use Rattle.tip_scene.specs.Acts as Stages
use Rattle.tip_scene.specs.Acts.{Acted, Basis, Stage, Declaring, Playing, acted, acts, acts_if, closing_of, declared, first_acts, labelled, may_say, scene_of, starts_text}
use Rattle.tip_scene.specs.Blaming.{starting_from}
use Rattle.tip_scene.specs.Scenes as scenes
use Rattle.tip_scene.specs.Scenes.{Scene, does, elsewhere, moved, moved_at, moved_in, openings_text, is_named, place_of, with_done, with_text}
use Rattle.tip_scene.specs.declared.declared.Declaration.{Declaration}
use Rattle.tip_script.specs.Scripts as Script
use Rattle.tip_script.specs.Scripts.{move_of, realm_of}
use Rattle.script_lines.specs.Lines.{longest_line}
use Rattle.tip_play.specs.Transcripts.{Played, act_of, closing_text, lines_of, played, played_on, transcript}
use Rattle.tip_history.specs.Making.{IsAsked, concerns, own}
use Rattle.tip_rows.proofs.MemoryLemmas.{bytes_eq-self, same_text}
use Rattle.tip_history.specs.Histories.{AreWritten, History, IsTold, asked_by, asked_from, asked_in, asked_on, declarations_of, declared_by, declared_from, declared_on, left_by, left_from, left_on, name_of}
use Rattle.tip_history.specs.Sayings.{Line, Saying, Idles, Lacks, are_spelled, line_text, lines_text, shown_of, shown_on}
use Rattle.tip_history.proofs.Declaring.{AreDeclared, can_be, first_starts, names, one_more, with_names}
use Rattle.tip_history.proofs.Doing.{Did, IsNumbered, did, did_restart, did_settle, opening_is, opening_said, opening_shows, outputs_of}
use Rattle.tip_history.proofs.Spelling.{spelled_move}
use Rattle.tip_history.specs.Alone.{is_spelled}
use Rattle.tip_transcript.specs.Printing.{idle_text, nowhere_text}
use Rattle.tip_history.proofs.Mixing.{spelled_by, spelled_names, spelled_on, AreOf, Mixed, asked_so, differs, of_all, mixed_one, mixed_quiet, names_of, quiet_by, said_by, text_said, told}

-- Realms that start

abbrev openings : Scene → List Line
openings scene = flat_map (λ (acting : Acting). said_by acting.name (opening_said acting)) scene

openings_are : (scene : Scene) → openings_text scene ≡ lines_text (openings scene)
openings_are [] = refl
openings_are (acting ∷ scene) =
    flat_map-cons opening_text acting scene
    ∙ ap (λ t. t ++ openings_text scene) (opening_is acting ∙ sym (text_said acting.name (opening_said acting)))
    ∙ ap (λ t. lines_text (said_by acting.name (opening_said acting)) ++ t) (openings_are scene)
    ∙ sym (flat_map-append line_text (said_by acting.name (opening_said acting)) (openings scene))
    ∙ sym (ap lines_text (flat_map-cons (λ (a : Acting). said_by a.name (opening_said a)) acting scene))

openings_show : (scene : Scene) (name : List ℕ) → shown_of name (openings scene) ≡ []
openings_show [] name = refl
openings_show (acting ∷ scene) name =
    ap (shown_of name) (flat_map-cons (λ (a : Acting). said_by a.name (opening_said a)) acting scene)
    ∙ filter_map-append (shown_on name) (said_by acting.name (opening_said acting)) (openings scene)
    ∙ ap (λ l. l ++ shown_of name (openings scene)) (quiet_by name acting.name (opening_said acting) (opening_shows acting))
    ∙ openings_show scene name

openings_spelled : (scene : Scene) → list_all (λ (acting : Acting). is_realm acting.name) scene ≡ true → are_spelled (openings scene) ≡ true
openings_spelled [] all = refl
openings_spelled (acting ∷ scene) all =
    let parts = and_parts (is_realm acting.name) (list_all (λ (a : Acting). is_realm a.name) scene) all in
    ap are_spelled (flat_map-cons (λ (a : Acting). said_by a.name (opening_said a)) acting scene)
    ∙ spelled_on (said_by acting.name (opening_said acting)) (openings scene) (spelled_by acting.name (opening_said acting) parts.0) (openings_spelled scene parts.1)

opened : (basis : Basis) (declarations : List Declaration) (asked : List ℕ → List Script.Move) (text : List ℕ) (scene : Scene) → Mixed basis declarations asked text scene → Mixed basis declarations asked (text ++ openings_text scene) scene
opened basis declarations asked text scene mixed = subst (λ t. Mixed basis declarations asked (text ++ t) scene) (sym (openings_are scene)) (mixed_quiet basis declarations text scene (openings scene) mixed (openings_spelled scene (spelled_names _ basis mixed.lines mixed.histories scene mixed.each)) (openings_show scene))

-- each has a history that begins
abbrev began : Declaration → History
began declaration = record { declaration = declaration; moves = [] }

begun : (basis : Basis) (declarations : List Declaration) → AreWritten basis → list_all can_be declarations ≡ true → AreOf basis (of_all []) [] (map began declarations) (scene_of basis declarations)
begun basis [] written can = tt
begun basis (d ∷ declarations) written can =
    let parts = and_parts (can_be d) (list_all can_be declarations) can in
    (record { start = first_starts basis d written parts.0; run = refl; made = refl; shown = refl; led = refl; named = refl; numbered = record { seats = refl } }, begun basis declarations written parts.1)

names_began : (declarations : List Declaration) → names_of (map began declarations) ≡ names declarations
names_began [] = refl
names_began (d ∷ declarations) = ap (λ l. d.name ∷ l) (names_began declarations)

all_began : (declarations : List Declaration) → declarations_of (map began declarations) ≡ declarations
all_began [] = refl
all_began (d ∷ declarations) = ap (λ l. d ∷ l) (all_began declarations)

-- nothing was printed yet
not_started : (basis : Basis) (declarations : List Declaration) → AreWritten basis → AreDeclared declarations → Mixed basis declarations (of_all []) [] (scene_of basis declarations)
not_started basis declarations written are = record {
  lines = [];
  text_is = refl;
  spelled = refl;
  histories = map began declarations;
  declared = all_began declarations;
  each = begun basis declarations written are.each;
  named = ap (are_distinct bytes_eq) (names_began declarations) ∙ are.named;
  silent = λ name unknown. refl;
}

pub started : (basis : Basis) (declarations : List Declaration) → AreWritten basis → AreDeclared declarations → Mixed basis declarations (of_all []) (starts_text basis declarations) (scene_of basis declarations)
started basis declarations written are = opened basis declarations (of_all []) [] (scene_of basis declarations) (not_started basis declarations written are)

-- The realm that a line names

abbrev pub names_in : Scene → List (List ℕ)
names_in scene = map (λ (acting : Acting). acting.name) scene

pub same_names : (asked : List ℕ → List Script.Move) (basis : Basis) (lines : List Line) (histories : List History) (scene : Scene) → AreOf basis asked lines histories scene → names_in scene ≡ names_of histories
same_names asked basis lines [] [] are = refl
same_names asked basis lines [] (a ∷ scene) are = absurd are
same_names asked basis lines (h ∷ histories) [] are = absurd are
same_names asked basis lines (h ∷ histories) (a ∷ scene) are = ap (λ n. n ∷ names_in scene) are.0.named ∙ ap (λ l. name_of h ∷ l) (same_names asked basis lines histories scene are.1)

behind : (n : ℕ) → suc n ≡ 1 + n
behind n = omega (arith)

pub found_named : (realm : List ℕ) (scene : Scene) (acting : Acting) → slice_get scene (place_of realm scene) ≡ Some acting → bytes_eq acting.name realm ≡ true
found_named realm [] acting here = absurd (none-some acting here)
found_named realm (a ∷ scene) acting here = at (bytes_eq a.name realm) refl here (found_named realm scene acting) where
  at : (named : Bool) → bytes_eq a.name realm ≡ named → slice_get (a ∷ scene) (cond (not named) (1 + place_of realm scene) 0) ≡ Some acting → (slice_get scene (place_of realm scene) ≡ Some acting → bytes_eq acting.name realm ≡ true) → bytes_eq acting.name realm ≡ true
  at true is here later = ap (λ (x : Acting). bytes_eq x.name realm) (sym (same_Some a acting here)) ∙ is
  at false is here later = later (ap (slice_get (a ∷ scene)) (behind (place_of realm scene)) ∙ here)

pub not_named : (realm : List ℕ) (scene : Scene) (place : ℕ) (acting : Acting) → slice_get scene (place_of realm scene) ≡ None → slice_get scene place ≡ Some acting → bytes_eq acting.name realm ≡ false
not_named realm [] place acting none here = absurd (none-some acting here)
not_named realm (a ∷ scene) place acting none here = at (bytes_eq a.name realm) refl none place here (λ p. not_named realm scene p acting) where
  at : (named : Bool) → bytes_eq a.name realm ≡ named → slice_get (a ∷ scene) (cond (not named) (1 + place_of realm scene) 0) ≡ None → (place : ℕ) → slice_get (a ∷ scene) place ≡ Some acting → ((p : ℕ) → slice_get scene (place_of realm scene) ≡ None → slice_get scene p ≡ Some acting → bytes_eq acting.name realm ≡ false) → bytes_eq acting.name realm ≡ false
  at true is none place here later = absurd (none-some a (sym none))
  at false is none zero here later = ap (λ (x : Acting). bytes_eq x.name realm) (sym (same_Some a acting here)) ∙ is
  at false is none (suc place) here later = later place (ap (slice_get (a ∷ scene)) (behind (place_of realm scene)) ∙ none) here

-- it is among them
is_there : (scene : Scene) (place : ℕ) (acting : Acting) → slice_get scene place ≡ Some acting → list_any (is_named acting.name) scene ≡ true
is_there [] place acting here = absurd (none-some acting here)
is_there (a ∷ scene) zero acting here = ap (λ (x : Acting). bytes_eq x.name acting.name || list_any (is_named acting.name) scene) (same_Some a acting here) ∙ ap (λ b. b || list_any (is_named acting.name) scene) (bytes_eq-self acting.name)
is_there (a ∷ scene) (suc place) acting here = either_way (bytes_eq a.name acting.name) (list_any (is_named acting.name) scene) (is_there scene place acting here) where
  either_way : (b c : Bool) → c ≡ true → (b || c) ≡ true
  either_way true c is = refl
  either_way false c is = is

unnamed : (name : List ℕ) (scene : Scene) → list_any (bytes_eq name) (names_in scene) ≡ false → list_any (is_named name) scene ≡ false
unnamed name [] apart = refl
unnamed name (a ∷ scene) apart =
    let parts = or_parts (bytes_eq name a.name) (list_any (bytes_eq name) (names_in scene)) apart in
    or_from (bytes_eq a.name name) _ (differs name a.name parts.0) (unnamed name scene parts.1)

apart_behind : (before : Scene) (acting : Acting) (rest : Scene) → are_distinct bytes_eq (names_in (before ++ acting ∷ rest)) ≡ true → list_any (is_named acting.name) rest ≡ false
apart_behind [] acting rest distinct = unnamed acting.name rest (not-true _ (and_parts _ _ distinct).0)
apart_behind (b ∷ before) acting rest distinct = apart_behind before acting rest (and_parts _ _ distinct).1

-- What is asked of a realm by a line more

own_more : (name : List ℕ) (said : List Script.Move) (move : Script.Move) → concerns name move ≡ true → own name (said ++ move ∷ []) ≡ own name said ++ move ∷ []
own_more name said move its = filter-append (concerns name) said (move ∷ []) ∙ ap (λ b. own name said ++ cond b (move ∷ []) []) its

own_same : (name : List ℕ) (said : List Script.Move) (move : Script.Move) → concerns name move ≡ false → own name (said ++ move ∷ []) ≡ own name said
own_same name said move not_its = filter-append (concerns name) said (move ∷ []) ∙ ap (λ b. own name said ++ cond b (move ∷ []) []) not_its ∙ append-nil (own name said)

-- a line of a realm concerns whoever has its name
concerned : (name realm : List ℕ) (move : Script.Move) → realm_of move ≡ Some realm → concerns name move ≡ bytes_eq name realm
concerned name realm move named = ap (λ (r : Option (List ℕ)). option_map_or (bytes_eq name) r true) named

-- a restart was asked of all realms but these, which are still to start
abbrev restarting_of : List Script.Move → Scene → List ℕ → List Script.Move
restarting_of said rest name = cond (list_any (is_named name) rest) (own name said) (own name (said ++ Script.Restart ∷ []))

-- All realms start again

at_end_of : (before : Scene) (acting : Acting) (rest : Scene) → slice_get (before ++ acting ∷ rest) (length before) ≡ Some acting
at_end_of [] acting rest = refl
at_end_of (b ∷ before) acting rest = at_end_of before acting rest

set_at_end : (before : Scene) (acting then_ : Acting) (rest : Scene) → slice_set (before ++ acting ∷ rest) (length before) then_ ≡ (before ++ then_ ∷ []) ++ rest
set_at_end [] acting then_ rest = refl
set_at_end (b ∷ before) acting then_ rest = ap (λ l. b ∷ l) (set_at_end before acting then_ rest)

abbrev again : Acting → Acting
again acting = (restarts acting).acting

restart_all : (basis : Basis) (declarations : List Declaration) (said : List Script.Move) (text : List ℕ) (before rest : Scene) → list_any is_at_end rest ≡ false → Mixed basis declarations (restarting_of said rest) text (before ++ rest) → Mixed basis declarations (of_all (said ++ Script.Restart ∷ [])) (text ++ flat_map (λ acting. (restarts acting).printed) rest) (before ++ map again rest)
restart_all basis declarations said text before [] none mixed = subst (λ t. Mixed basis declarations (of_all (said ++ Script.Restart ∷ [])) t (before ++ [])) (sym (append-nil text)) mixed
restart_all basis declarations said text before (acting ∷ rest) none mixed =
    let name = acting.name in
    let apart = apart_behind before acting rest (ap (are_distinct bytes_eq) (same_names _ basis mixed.lines mixed.histories (before ++ acting ∷ rest) mixed.each) ∙ mixed.named) in
    let any = list_any (is_named name) rest in
    let now : restarting_of said rest name ≡ restarting_of said (acting ∷ rest) name ++ Script.Restart ∷ [] =
    ap (λ b. cond b (own name said) (own name (said ++ Script.Restart ∷ []))) apart
    ∙ own_more name said Script.Restart refl
    ∙ ap (λ l. l ++ Script.Restart ∷ []) (sym (ap (λ b. cond (b || any) (own name said) (own name (said ++ Script.Restart ∷ []))) (bytes_eq-self name))) in
    let others : (other : List ℕ) → bytes_eq other name ≡ false → restarting_of said rest other ≡ restarting_of said (acting ∷ rest) other =
    λ other differ. ap (λ b. cond (b || list_any (is_named other) rest) (own other said) (own other (said ++ Script.Restart ∷ []))) (sym (differs other name differ)) in
    let parts = or_parts (is_at_end acting) (list_any is_at_end rest) none in
    let one = mixed_one basis declarations (restarting_of said (acting ∷ rest)) (restarting_of said rest) Script.Restart text (before ++ acting ∷ rest) (length before) acting (restarts acting) mixed (at_end_of before acting rest) now others (λ sound numbered. did_restart acting sound parts.0) in
    let more = restart_all basis declarations said (text ++ (restarts acting).printed) (before ++ again acting ∷ []) rest parts.1 (subst (Mixed basis declarations (restarting_of said rest) (text ++ (restarts acting).printed)) (set_at_end before acting (again acting) rest) one) in
    subst (λ t. Mixed basis declarations (of_all (said ++ Script.Restart ∷ [])) t (before ++ again acting ∷ map again rest)) (append_assoc text (restarts acting).printed _ ∙ ap (λ t. text ++ t) (sym (flat_map-cons (λ (a : Acting). (restarts a).printed) acting rest)))
    (subst (Mixed basis declarations (of_all (said ++ Script.Restart ∷ [])) ((text ++ (restarts acting).printed) ++ flat_map (λ (a : Acting). (restarts a).printed) rest)) (append_assoc before (again acting ∷ []) (map again rest)) more)

-- what a line has printed is told, whether or not it may stand here
pub record Goes (basis : Basis) (declarations : List Declaration) (said : List Script.Move) (text : List ℕ) (went : scenes.Moved) : Type 0 where
  pub on : (next : Scene) → went.scene ≡ Some next → Mixed basis declarations (of_all said) (text ++ went.printed) next
  pub ends : went.scene ≡ None → went.printed ≡ []

goes_nowhere : (basis : Basis) (declarations : List Declaration) (said : List Script.Move) (text : List ℕ) → Goes basis declarations said text scenes.fault
goes_nowhere basis declarations said text = record { on = λ next is. absurd (none-some next is); ends = λ none. refl }

goes_restarted : (basis : Basis) (declarations : List Declaration) (said : List Script.Move) (text : List ℕ) (scene : Scene) → Mixed basis declarations (of_all said) text scene → Goes basis declarations (said ++ Script.Restart ∷ []) text (scenes.restarted scene)
goes_restarted basis declarations said text scene mixed = at (list_any is_at_end scene) refl where
  then_ : scenes.Moved
  then_ = record {
    printed = flat_map (λ acting. (restarts acting).printed) scene ++ openings_text (map again scene);
    scene = Some (map again scene);
  }

  -- it is asked of each that is there
  of_none : Mixed basis declarations (restarting_of said scene) text scene
  of_none = asked_so basis (restarting_of said scene) declarations text scene (λ place acting here. ap (λ b. cond b (own acting.name said) (own acting.name (said ++ Script.Restart ∷ []))) (is_there scene place acting here)) mixed

  at : (last : Bool) → list_any is_at_end scene ≡ last → Goes basis declarations (said ++ Script.Restart ∷ []) text (cond last scenes.fault then_)
  at true is = goes_nowhere basis declarations (said ++ Script.Restart ∷ []) text
  at false is = record {
    on = λ next there. subst (Mixed basis declarations (of_all (said ++ Script.Restart ∷ [])) (text ++ then_.printed)) (same_Some (map again scene) next there)
        (subst (λ t. Mixed basis declarations (of_all (said ++ Script.Restart ∷ [])) t (map again scene)) (append_assoc text (flat_map (λ (a : Acting). (restarts a).printed) scene) (openings_text (map again scene)))
        (opened basis declarations (of_all (said ++ Script.Restart ∷ [])) (text ++ flat_map (λ (a : Acting). (restarts a).printed) scene) (map again scene) (restart_all basis declarations said text [] scene is of_none)));
    ends = λ none. absurd (none-some (map again scene) (sym none));
  }

-- One realm

goes_done : (basis : Basis) (declarations : List Declaration) (said : List Script.Move) (move : Script.Move) (realm text : List ℕ) (scene : Scene) (acting : Acting) (done : Option Done) → realm_of move ≡ Some realm → Mixed basis declarations (of_all said) text scene → slice_get scene (place_of realm scene) ≡ Some acting → ((d : Done) → done ≡ Some d → IsSound acting.world → IsNumbered acting → Did (IsAsked acting.world move) acting d) → Goes basis declarations (said ++ move ∷ []) text (with_done (place_of realm scene) done scene)
goes_done basis declarations said move realm text scene acting None named mixed here did = goes_nowhere basis declarations (said ++ move ∷ []) text
goes_done basis declarations said move realm text scene acting (Some done) named mixed here did =
    let place = place_of realm scene in
    let its = found_named realm scene acting here in
    let same : acting.name ≡ realm = same_text acting.name realm its in
    let one = mixed_one basis declarations (of_all said) (of_all (said ++ move ∷ [])) move text scene place acting (settles done) mixed here
    (own_more acting.name said move (concerned acting.name realm move named ∙ its))
    (λ name differ. own_same name said move (concerned name realm move named ∙ ap (bytes_eq name) (sym same) ∙ differ))
    (λ sound numbered. did_settle move acting done (did done refl sound numbered)) in
    record {
      on = λ next there. subst (Mixed basis declarations (of_all (said ++ move ∷ [])) (text ++ (settles done).printed)) (same_Some (slice_set scene place (settles done).acting) next there) one;
      ends = λ none. absurd (none-some _ (sym none));
    }

-- what is said of a realm that is not declared, which shows nothing
pub record IsElsewhere (move : Script.Move) (text : List ℕ) : Type 0 where
  pub realm : List ℕ
  pub said : List Saying
  pub named : realm_of move ≡ Some realm
  pub text_is : text ≡ lines_text (said_by realm said)
  pub quiet : outputs_of said ≡ []

says_one : (realm : List ℕ) (saying : Saying) → line_text (realm, saying) ≡ lines_text (said_by realm (saying ∷ []))
says_one realm saying = sym (flat_map-cons line_text (realm, saying) [] ∙ append-nil (line_text (realm, saying)))

lacks : (move : Script.Move) (realm text : List ℕ) → realm_of move ≡ Some realm → Some (nowhere_text realm) ≡ Some text → IsElsewhere move text
lacks move realm text named is = record { realm = realm; said = Lacks ∷ []; named = named; text_is = sym (same_Some (nowhere_text realm) text is) ∙ says_one realm Lacks; quiet = refl }

idles : (move : Script.Move) (realm text : List ℕ) → realm_of move ≡ Some realm → Some (idle_text realm) ≡ Some text → IsElsewhere move text
idles move realm text named is = record { realm = realm; said = Idles ∷ []; named = named; text_is = sym (same_Some (idle_text realm) text is) ∙ says_one realm Idles; quiet = refl }

pub elsewhere_said : (move : Script.Move) (text : List ℕ) → elsewhere move ≡ Some text → IsElsewhere move text
elsewhere_said (Script.Declare name address branches limits) text is = absurd (none-some text is)
elsewhere_said (Script.Label realm labels) text is = absurd (none-some text is)
elsewhere_said (Script.Open realm plans) text is = lacks (Script.Open realm plans) realm text refl is
elsewhere_said (Script.Dial realm address plans purpose) text is = lacks (Script.Dial realm address plans purpose) realm text refl is
elsewhere_said (Script.Feed realm connection octets) text is = absurd (none-some text is)
elsewhere_said (Script.Lose realm connection) text is = absurd (none-some text is)
elsewhere_said (Script.Push realm connection id) text is = absurd (none-some text is)
elsewhere_said (Script.Pull realm connection superior) text is = absurd (none-some text is)
elsewhere_said (Script.Go realm) text is = idles (Script.Go realm) realm text refl is
elsewhere_said (Script.Drop realm) text is = idles (Script.Drop realm) realm text refl is
elsewhere_said (Script.Resume realm id) text is = lacks (Script.Resume realm id) realm text refl is
elsewhere_said (Script.Refuse realm) text is = record { realm = realm; said = []; named = refl; text_is = sym (same_Some [] text is); quiet = refl }
elsewhere_said (Script.Renew realm) text is = lacks (Script.Renew realm) realm text refl is
elsewhere_said Script.Restart text is = absurd (none-some text is)

-- its name is spelled as the line spells it
pub spelled_there : (move : Script.Move) (realm : List ℕ) → is_spelled move ≡ true → realm_of move ≡ Some realm → is_realm realm ≡ true
spelled_there move realm spelled named = sym (ap (λ (r : Option (List ℕ)). option_map_or is_realm r true) named) ∙ spelled

goes_elsewhere : (basis : Basis) (declarations : List Declaration) (said : List Script.Move) (move : Script.Move) (realm : List ℕ) (prints : Option (List ℕ)) (text : List ℕ) (scene : Scene) → realm_of move ≡ Some realm → is_spelled move ≡ true → elsewhere move ≡ prints → slice_get scene (place_of realm scene) ≡ None → Mixed basis declarations (of_all said) text scene → Goes basis declarations (said ++ move ∷ []) text (with_text prints scene)
goes_elsewhere basis declarations said move realm None text scene named spelled is none mixed = goes_nowhere basis declarations (said ++ move ∷ []) text
goes_elsewhere basis declarations said move realm (Some printed) text scene named spelled is none mixed =
    let there = elsewhere_said move printed is in
    let now : Mixed basis declarations (of_all (said ++ move ∷ [])) text scene = asked_so basis (of_all (said ++ move ∷ [])) declarations text scene (λ place acting here. own_same acting.name said move (concerned acting.name realm move named ∙ not_named realm scene place acting none here)) mixed in
    record {
      on = λ next goes_on. subst (Mixed basis declarations (of_all (said ++ move ∷ [])) (text ++ printed)) (same_Some scene next goes_on)
          (subst (λ t. Mixed basis declarations (of_all (said ++ move ∷ [])) (text ++ t) scene) (sym there.text_is) (mixed_quiet basis declarations text scene (said_by there.realm there.said) now (spelled_by there.realm there.said (spelled_there move there.realm spelled there.named)) (λ name. quiet_by name there.realm there.said there.quiet)));
      ends = λ nowhere. absurd (none-some scene (sym nowhere));
    }

goes_at : (basis : Basis) (declarations : List Declaration) (said : List Script.Move) (move : Script.Move) (realm : List ℕ) (found : Option Acting) (text : List ℕ) (scene : Scene) → realm_of move ≡ Some realm → is_spelled move ≡ true → Mixed basis declarations (of_all said) text scene → slice_get scene (place_of realm scene) ≡ found → Goes basis declarations (said ++ move ∷ []) text (moved_at move (place_of realm scene) found scene)
goes_at basis declarations said move realm None text scene named spelled mixed here = goes_elsewhere basis declarations said move realm (elsewhere move) text scene named spelled refl here mixed
goes_at basis declarations said move realm (Some acting) text scene named spelled mixed here = goes_done basis declarations said move realm text scene acting (does move acting) named mixed here (λ d is sound numbered. did move acting d sound numbered is)

-- a line that names no realm is a restart
goes_all : (basis : Basis) (declarations : List Declaration) (said : List Script.Move) (move : Script.Move) (text : List ℕ) (scene : Scene) → realm_of move ≡ None → Mixed basis declarations (of_all said) text scene → Goes basis declarations (said ++ move ∷ []) text (scenes.restarted scene)
goes_all basis declarations said (Script.Declare name address branches limits) text scene none mixed = absurd (none-some name (sym none))
goes_all basis declarations said (Script.Label realm labels) text scene none mixed = absurd (none-some realm (sym none))
goes_all basis declarations said (Script.Open realm plans) text scene none mixed = absurd (none-some realm (sym none))
goes_all basis declarations said (Script.Dial realm address plans purpose) text scene none mixed = absurd (none-some realm (sym none))
goes_all basis declarations said (Script.Feed realm connection octets) text scene none mixed = absurd (none-some realm (sym none))
goes_all basis declarations said (Script.Lose realm connection) text scene none mixed = absurd (none-some realm (sym none))
goes_all basis declarations said (Script.Push realm connection id) text scene none mixed = absurd (none-some realm (sym none))
goes_all basis declarations said (Script.Pull realm connection superior) text scene none mixed = absurd (none-some realm (sym none))
goes_all basis declarations said (Script.Go realm) text scene none mixed = absurd (none-some realm (sym none))
goes_all basis declarations said (Script.Drop realm) text scene none mixed = absurd (none-some realm (sym none))
goes_all basis declarations said (Script.Resume realm id) text scene none mixed = absurd (none-some realm (sym none))
goes_all basis declarations said (Script.Refuse realm) text scene none mixed = absurd (none-some realm (sym none))
goes_all basis declarations said (Script.Renew realm) text scene none mixed = absurd (none-some realm (sym none))
goes_all basis declarations said Script.Restart text scene none mixed = goes_restarted basis declarations said text scene mixed

goes_in : (basis : Basis) (declarations : List Declaration) (said : List Script.Move) (move : Script.Move) (realm : Option (List ℕ)) (text : List ℕ) (scene : Scene) → realm_of move ≡ realm → is_spelled move ≡ true → Mixed basis declarations (of_all said) text scene → Goes basis declarations (said ++ move ∷ []) text (moved_in move realm scene)
goes_in basis declarations said move None text scene is spelled mixed = goes_all basis declarations said move text scene is mixed
goes_in basis declarations said move (Some realm) text scene is spelled mixed = goes_at basis declarations said move realm (slice_get scene (place_of realm scene)) text scene is spelled mixed refl

pub goes : (basis : Basis) (declarations : List Declaration) (said : List Script.Move) (move : Script.Move) (text : List ℕ) (scene : Scene) → is_spelled move ≡ true → Mixed basis declarations (of_all said) text scene → Goes basis declarations (said ++ move ∷ []) text (moved move scene)
goes basis declarations said move text scene spelled mixed = goes_in basis declarations said move (realm_of move) text scene refl spelled mixed

-- Stages

-- nothing is asked and nothing printed before the realms start
abbrev pub Stands : Basis → List Declaration → List Script.Move → List ℕ → Stage → Type 0
Stands basis declarations said text (Declaring now) = AreDeclared now × (text ≡ []) × (said ≡ [])
Stands basis declarations said text (Playing scene) = Mixed basis declarations (of_all said) text scene

-- what was asked once a line is done
abbrev pub then_said : List Script.Move → List Script.Move → Stage → List Script.Move
then_said said more (Declaring now) = said
then_said said more (Playing scene) = said ++ more

nothing_more : (said : List Script.Move) (stage : Stage) → said ≡ then_said said [] stage
nothing_more said (Declaring now) = refl
nothing_more said (Playing scene) = sym (append-nil said)

-- the realms that are declared so far, or that were when they started
abbrev pub at_stage : List Declaration → Stage → List Declaration
at_stage declarations (Declaring now) = now
at_stage declarations (Playing scene) = declarations

pub record Acts (basis : Basis) (declarations : List Declaration) (said more : List Script.Move) (scene : Scene) (text : List ℕ) (acted : Acted) : Type 0 where
  pub on : (next : Stage) → acted.stage ≡ Some next → Stands basis declarations (then_said said more next) (text ++ acted.printed) next
  pub ends : acted.stage ≡ None → IsTold basis declarations said scene (text ++ acted.printed)

played_some : (scene : Option Scene) (next : Stage) → option_map Playing scene ≡ Some next → (there : Scene) × (scene ≡ Some there) × (Playing there ≡ next)
played_some None next is = absurd (none-some next is)
played_some (Some scene) next is = (scene, refl, same_Some (Playing scene) next is)

played_none : (scene : Option Scene) → option_map Playing scene ≡ None → scene ≡ None
played_none None none = refl
played_none (Some scene) none = absurd (none-some (Playing scene) (sym none))

acts_by : (basis : Basis) (declarations : List Declaration) (said : List Script.Move) (text before : List ℕ) (scene : Scene) (move : Script.Move) → is_spelled move ≡ true → Mixed basis declarations (of_all said) (text ++ before) scene → Acts basis declarations said (move ∷ []) scene text (record { printed = before ++ (moved move scene).printed; stage = option_map Playing (moved move scene).scene })
acts_by basis declarations said text before scene move spelled mixed =
    let go = goes basis declarations said move (text ++ before) scene spelled mixed in
    let joined : (text ++ before) ++ (moved move scene).printed ≡ text ++ (before ++ (moved move scene).printed) = append_assoc text before (moved move scene).printed in
    record {
      on = λ next is.
          let there = played_some (moved move scene).scene next is in
          subst (λ n. Stands basis declarations (then_said said (move ∷ []) n) (text ++ (before ++ (moved move scene).printed)) n) there.2 (subst (λ t. Mixed basis declarations (of_all (said ++ move ∷ [])) t there.0) joined (go.on there.0 there.1));
      ends = λ none.
          let nothing = go.ends (played_none (moved move scene).scene none) in
          subst (IsTold basis declarations said scene) (sym (append-nil (text ++ before)) ∙ ap (λ t. (text ++ before) ++ t) (sym nothing) ∙ joined) (told basis declarations said (text ++ before) scene mixed);
    }

module _ (basis : Basis) (written : AreWritten basis) where
  -- nothing was printed, and nothing is told but that these realms are declared
  told_nothing : (declarations : List Declaration) (said : List Script.Move) (text : List ℕ) → AreDeclared declarations × (text ≡ []) × (said ≡ []) → IsTold basis declarations said (scene_of basis declarations) text
  told_nothing declarations said text stands = subst (λ s. IsTold basis declarations s (scene_of basis declarations) text) (sym stands.2) (subst (IsTold basis declarations [] (scene_of basis declarations)) (sym stands.1) (told basis declarations [] [] (scene_of basis declarations) (not_started basis declarations written stands.0)))

  -- realms that start now
  starting_now : (declarations : List Declaration) (said : List Script.Move) (text : List ℕ) → AreDeclared declarations × (text ≡ []) × (said ≡ []) → Mixed basis declarations (of_all said) (text ++ starts_text basis declarations) (scene_of basis declarations)
  starting_now declarations said text stands = subst (λ s. Mixed basis declarations (of_all s) (text ++ starts_text basis declarations) (scene_of basis declarations)) (sym stands.2) (subst (λ t. Mixed basis declarations (of_all []) (t ++ starts_text basis declarations) (scene_of basis declarations)) (sym stands.1) (started basis declarations written stands.0))

  first : (said : List Script.Move) (text : List ℕ) (declarations : List Declaration) (move : Script.Move) → is_spelled move ≡ true → AreDeclared declarations × (text ≡ []) × (said ≡ []) → Acts basis declarations said (move ∷ []) (scene_of basis declarations) text (first_acts basis declarations move)
  first said text declarations move spelled stands = acts_by basis declarations said text (starts_text basis declarations) (scene_of basis declarations) move spelled (starting_now declarations said text stands)

  declares : (said all : List Script.Move) (text : List ℕ) (declarations : List Declaration) (more : Option (List Declaration)) → AreDeclared declarations × (text ≡ []) × (said ≡ []) → ((next : List Declaration) → more ≡ Some next → AreDeclared next) → Acts basis declarations said all (scene_of basis declarations) text (record { printed = []; stage = option_map Declaring more })
  declares said all text declarations None stands are = record { on = λ next is. absurd (none-some next is); ends = λ none. subst (IsTold basis declarations said (scene_of basis declarations)) (sym (append-nil text)) (told_nothing declarations said text stands) }
  declares said all text declarations (Some more) stands are = record {
    on = λ next is. subst (λ n. Stands basis declarations (then_said said all n) (text ++ []) n) (same_Some (Declaring more) next is) (are more refl, append-nil text ∙ stands.1, stands.2);
    ends = λ none. absurd (none-some (Declaring more) (sym none));
  }

  acts_so : (declarations : List Declaration) (said : List Script.Move) (text : List ℕ) (stage : Stage) (move : Script.Move) → is_spelled move ≡ true → Stands basis declarations said text stage → Acts basis (at_stage declarations stage) said (move ∷ []) (starting_from basis stage) text (acts basis stage move)
  acts_so declarations said text (Declaring ds) (Script.Declare name address branches limits) spelled stands = declares said _ text ds (declared name address branches limits ds) stands (λ next is. one_more name address branches limits ds next stands.0 is)
  acts_so declarations said text (Declaring ds) (Script.Label realm labels) spelled stands = declares said _ text ds (labelled realm labels ds) stands (λ next is. with_names realm labels ds next stands.0 is)
  acts_so declarations said text (Declaring ds) (Script.Open realm plans) spelled stands = first said text ds (Script.Open realm plans) spelled stands
  acts_so declarations said text (Declaring ds) (Script.Dial realm address plans purpose) spelled stands = first said text ds (Script.Dial realm address plans purpose) spelled stands
  acts_so declarations said text (Declaring ds) (Script.Feed realm connection octets) spelled stands = first said text ds (Script.Feed realm connection octets) spelled stands
  acts_so declarations said text (Declaring ds) (Script.Lose realm connection) spelled stands = first said text ds (Script.Lose realm connection) spelled stands
  acts_so declarations said text (Declaring ds) (Script.Push realm connection id) spelled stands = first said text ds (Script.Push realm connection id) spelled stands
  acts_so declarations said text (Declaring ds) (Script.Pull realm connection superior) spelled stands = first said text ds (Script.Pull realm connection superior) spelled stands
  acts_so declarations said text (Declaring ds) (Script.Go realm) spelled stands = first said text ds (Script.Go realm) spelled stands
  acts_so declarations said text (Declaring ds) (Script.Drop realm) spelled stands = first said text ds (Script.Drop realm) spelled stands
  acts_so declarations said text (Declaring ds) (Script.Resume realm id) spelled stands = first said text ds (Script.Resume realm id) spelled stands
  acts_so declarations said text (Declaring ds) (Script.Refuse realm) spelled stands = first said text ds (Script.Refuse realm) spelled stands
  acts_so declarations said text (Declaring ds) (Script.Renew realm) spelled stands = first said text ds (Script.Renew realm) spelled stands
  acts_so declarations said text (Declaring ds) Script.Restart spelled stands = first said text ds Script.Restart spelled stands
  acts_so declarations said text (Playing scene) move spelled stands = acts_by basis declarations said text [] scene move spelled (subst (λ t. Mixed basis declarations (of_all said) t scene) (sym (append-nil text)) stands)

  told_of : (declarations : List Declaration) (said : List Script.Move) (text : List ℕ) (stage : Stage) → Stands basis declarations said text stage → IsTold basis (at_stage declarations stage) said (starting_from basis stage) text
  told_of declarations said text (Declaring ds) stands = told_nothing ds said text stands
  told_of declarations said text (Playing scene) stands = told basis declarations said text scene stands

  not_understood : (declarations : List Declaration) (said more : List Script.Move) (text : List ℕ) (stage : Stage) → Stands basis declarations said text stage → Acts basis (at_stage declarations stage) said more (starting_from basis stage) text (record { printed = []; stage = None })
  not_understood declarations said more text stage stands = record { on = λ next is. absurd (none-some next is); ends = λ none. subst (IsTold basis (at_stage declarations stage) said (starting_from basis stage)) (sym (append-nil text)) (told_of declarations said text stage stands) }

  acts_if_so : (declarations : List Declaration) (said : List Script.Move) (text : List ℕ) (stage : Stage) (move : Option Script.Move) → ((m : Script.Move) → move ≡ Some m → is_spelled m ≡ true) → Stands basis declarations said text stage → Acts basis (at_stage declarations stage) said (option_to_list move) (starting_from basis stage) text (acts_if basis stage move)
  acts_if_so declarations said text stage None spelled stands = not_understood declarations said [] text stage stands
  acts_if_so declarations said text stage (Some move) spelled stands = at (may_say basis.may_refuse move) where
    at : (may : Bool) → Acts basis (at_stage declarations stage) said (move ∷ []) (starting_from basis stage) text (cond may (acts basis stage move) Stages.not_understood)
    at true = acts_so declarations said text stage move (spelled move refl) stands
    at false = not_understood declarations said (move ∷ []) text stage stands

  -- an empty line says nothing
  pub stays : (declarations : List Declaration) (said : List Script.Move) (text : List ℕ) (stage : Stage) → Stands basis declarations said text stage → Stands basis (at_stage declarations stage) said (text ++ []) stage
  stays declarations said text (Declaring ds) stands = (stands.0, append-nil text ∙ stands.1, stands.2)
  stays declarations said text (Playing scene) stands = subst (λ t. Mixed basis declarations (of_all said) t scene) (sym (append-nil text)) stands

  acted_so : (declarations : List Declaration) (said : List Script.Move) (text : List ℕ) (stage : Stage) (line : List ℕ) → Stands basis declarations said text stage → Acts basis (at_stage declarations stage) said (asked_in line) (starting_from basis stage) text (acted basis stage line)
  acted_so declarations said text stage [] stands = record {
    on = λ next is. subst (λ n. Stands basis (at_stage declarations stage) (then_said said [] n) (text ++ []) n) (same_Some stage next is) (subst (λ s. Stands basis (at_stage declarations stage) s (text ++ []) stage) (nothing_more said stage) (stays declarations said text stage stands));
    ends = λ none. absurd (none-some stage (sym none));
  }
  acted_so declarations said text stage (octet ∷ line) stands = acts_if_so declarations said text stage (move_of (octet ∷ line)) (spelled_move (octet ∷ line)) stands

  pub line_so : (declarations : List Declaration) (said : List Script.Move) (text : List ℕ) (stage : Stage) (line : List ℕ) → Stands basis declarations said text stage → Acts basis (at_stage declarations stage) said (asked_in line) (starting_from basis stage) text (act_of basis stage line)
  line_so declarations said text stage line stands = at (nat_le (length line) longest_line) where
    at : (fits : Bool) → Acts basis (at_stage declarations stage) said (asked_in line) (starting_from basis stage) text (cond fits (acted basis stage line) (record { printed = []; stage = None }))
    at true = acted_so declarations said text stage line stands
    at false = not_understood declarations said (asked_in line) text stage stands

  closes : (declarations : List Declaration) (said : List Script.Move) (text : List ℕ) (stage : Stage) → Stands basis declarations said text stage → IsTold basis (at_stage declarations stage) said (starting_from basis stage) (text ++ closing_of basis stage)
  closes declarations said text (Declaring ds) stands = told basis ds said (text ++ starts_text basis ds) (scene_of basis ds) (starting_now ds said text stands)
  closes declarations said text (Playing scene) stands = subst (IsTold basis declarations said scene) (sym (append-nil text)) (told basis declarations said text scene stands)

-- What lines declare

-- where the realms have started, none is declared any more
no_more : (basis : Basis) (scene : Scene) (line : List ℕ) (ds : List Declaration) → (act_of basis (Playing scene) line).stage ≡ Some (Declaring ds) → ⊥
no_more basis scene line ds is = at (nat_le (length line) longest_line) is where
  never : (next : Option Scene) → option_map Playing next ≡ Some (Declaring ds) → ⊥
  never None is = none-some (Declaring ds) is
  never (Some next) is = absurd (cc (same_Some (Playing next) (Declaring ds) is))

  may : (said : Bool) (move : Script.Move) → (cond said (acts basis (Playing scene) move) Stages.not_understood).stage ≡ Some (Declaring ds) → ⊥
  may true move is = never (moved move scene).scene is
  may false move is = none-some (Declaring ds) is

  said : (move : Option Script.Move) → (acts_if basis (Playing scene) move).stage ≡ Some (Declaring ds) → ⊥
  said None is = none-some (Declaring ds) is
  said (Some move) is = may (may_say basis.may_refuse move) move is

  in_line : (octets : List ℕ) → (acted basis (Playing scene) octets).stage ≡ Some (Declaring ds) → ⊥
  in_line [] is = absurd (cc (same_Some (Playing scene) (Declaring ds) is))
  in_line (octet ∷ octets) is = said (move_of (octet ∷ octets)) is

  at : (fits : Bool) → (cond fits (acted basis (Playing scene) line) (record { printed = []; stage = None })).stage ≡ Some (Declaring ds) → ⊥
  at true is = in_line line is
  at false is = none-some (Declaring ds) is

-- the realms of all the lines that follow
abbrev pub declared_at : Basis → List Declaration → Stage → List (List ℕ) → List Declaration
declared_at basis declarations (Declaring now) lines = declared_from basis now lines
declared_at basis declarations (Playing scene) lines = declarations

pub declared_in_end : (basis : Basis) (declarations : List Declaration) (stage : Stage) → at_stage declarations stage ≡ declared_at basis declarations stage []
declared_in_end basis declarations (Declaring now) = refl
declared_in_end basis declarations (Playing scene) = refl

-- a line that is not understood declares nothing
declared_no_more : (basis : Basis) (declarations : List Declaration) (stage : Stage) (line : List ℕ) (lines : List (List ℕ)) → (act_of basis stage line).stage ≡ None → at_stage declarations stage ≡ declared_at basis declarations stage (line ∷ lines)
declared_no_more basis declarations (Declaring now) line lines none = sym (ap (λ s. declared_on now s (λ more. declared_from basis more lines)) none)
declared_no_more basis declarations (Playing scene) line lines none = refl

pub declared_then : (basis : Basis) (declarations : List Declaration) (stage next : Stage) (line : List ℕ) (lines : List (List ℕ)) → (act_of basis stage line).stage ≡ Some next → declared_at basis (at_stage declarations stage) next lines ≡ declared_at basis declarations stage (line ∷ lines)
declared_then basis declarations (Declaring now) (Declaring more) line lines is = sym (ap (λ s. declared_on now s (λ ds. declared_from basis ds lines)) is)
declared_then basis declarations (Declaring now) (Playing scene) line lines is = sym (ap (λ s. declared_on now s (λ ds. declared_from basis ds lines)) is)
declared_then basis declarations (Playing scene) (Declaring more) line lines is = absurd (no_more basis scene line more is)
declared_then basis declarations (Playing scene) (Playing next) line lines is = refl

-- Lines

abbrev all_of : Basis → Played → List ℕ
all_of basis done = done.printed ++ closing_text basis done.ending

pub nothing_yet : (basis : Basis) → Stands basis [] [] [] (Declaring [])
nothing_yet basis = (record { each = refl; named = refl }, refl, refl)

-- what the lines behind one ask is asked behind that
asked_then : (basis : Basis) (said : List Script.Move) (line : List ℕ) (next : Stage) (lines : List (List ℕ)) → then_said said (asked_in line) next ++ asked_from basis next lines ≡ said ++ asked_on line (Some next) (λ n. asked_from basis n lines)
asked_then basis said line (Declaring now) lines = refl
asked_then basis said line (Playing scene) lines = append_assoc said (asked_in line) (asked_from basis (Playing scene) lines)

module _ (basis : Basis) (written : AreWritten basis) where
  pub told_played : (declarations : List Declaration) (said : List Script.Move) (text : List ℕ) (stage : Stage) (number : ℕ) (lines : List (List ℕ)) → Stands basis declarations said text stage → IsTold basis (declared_at basis declarations stage lines) (said ++ asked_from basis stage lines) (left_from basis stage lines) (text ++ all_of basis (played basis stage number lines))
  told_played declarations said text stage number [] stands = subst (λ s. IsTold basis (declared_at basis declarations stage []) s (starting_from basis stage) (text ++ closing_of basis stage)) (sym (append-nil said)) (subst (λ ds. IsTold basis ds said (starting_from basis stage) (text ++ closing_of basis stage)) (declared_in_end basis declarations stage) (closes basis written declarations said text stage stands))
  told_played declarations said text stage number (line ∷ lines) stands = at (act_of basis stage line).stage refl (λ next on. told_played (at_stage declarations stage) (then_said said (asked_in line) next) (text ++ (act_of basis stage line).printed) next (number + 1) lines on) where
    here : List ℕ
    here = (act_of basis stage line).printed

    So : (next : Option Stage) → Type 0
    So next = IsTold basis (declared_at basis declarations stage (line ∷ lines)) (said ++ asked_on line next (λ n. asked_from basis n lines)) (left_on (starting_from basis stage) next (λ n. left_from basis n lines)) (text ++ all_of basis (played_on here next number (λ later. played basis later (number + 1) lines)))

    at : (next : Option Stage) → (act_of basis stage line).stage ≡ next → ((later : Stage) → Stands basis (at_stage declarations stage) (then_said said (asked_in line) later) (text ++ here) later → IsTold basis (declared_at basis (at_stage declarations stage) later lines) (then_said said (asked_in line) later ++ asked_from basis later lines) (left_from basis later lines) ((text ++ here) ++ all_of basis (played basis later (number + 1) lines))) → So next
    at None is more =
        subst (λ s. IsTold basis (declared_at basis declarations stage (line ∷ lines)) s (starting_from basis stage) (text ++ (here ++ []))) (sym (append-nil said))
        (subst (λ ds. IsTold basis ds said (starting_from basis stage) (text ++ (here ++ []))) (declared_no_more basis declarations stage line lines is)
        (subst (λ t. IsTold basis (at_stage declarations stage) said (starting_from basis stage) (text ++ t)) (sym (append-nil here)) ((line_so basis written declarations said text stage line stands).ends is)))
    at (Some next) is more =
        let rest = played basis next (number + 1) lines in
        subst (λ s. IsTold basis (declared_at basis declarations stage (line ∷ lines)) s (left_from basis next lines) (text ++ ((here ++ rest.printed) ++ closing_text basis rest.ending))) (asked_then basis said line next lines)
        (subst (λ ds. IsTold basis ds (then_said said (asked_in line) next ++ asked_from basis next lines) (left_from basis next lines) (text ++ ((here ++ rest.printed) ++ closing_text basis rest.ending))) (declared_then basis declarations stage next line lines is)
        (subst (IsTold basis (declared_at basis (at_stage declarations stage) next lines) (then_said said (asked_in line) next ++ asked_from basis next lines) (left_from basis next lines)) (append_assoc text here (all_of basis rest) ∙ ap (λ t. text ++ t) (sym (append_assoc here rest.printed (closing_text basis rest.ending))))
        (more next ((line_so basis written declarations said text stage line stands).on next is))))

  pub told_lines : (lines : List (List ℕ)) → IsTold basis (declared_by basis lines) (asked_by basis lines) (left_by basis lines) (all_of basis (played basis (Declaring []) 1 lines))
  told_lines lines = told_played [] [] [] (Declaring []) 1 lines (nothing_yet basis)

  pub told_script : (script : List ℕ) → IsTold basis (declared_by basis (lines_of script)) (asked_by basis (lines_of script)) (left_by basis (lines_of script)) (transcript basis script)
  told_script script = told_lines (lines_of script)
