-- Each realm of a script is alone: what the script says of it is what its own lines print.
use Rattle.std.proofs.Common.{◌≡◌, arith, ◌++◌, ◌∷◌, ◌+◌, ◌≤◌, ◌⊎◌, inl, inr, ℕ, zero, suc, Bool, true, false, cond, List, [], Option, Some, None, map, length, append-nil, append_assoc, option_map, refl, ap, sym, subst, ◌∙◌}
use Rattle.std.specs.Prelude.{◌||◌, filter, nat_le, nat_lt, not, slice_get, slice_set}
use Rattle.std.specs.List.{list_all, list_any, position_or_len}
use Rattle.std.specs.Option.{option_map_or}
use Rattle.std.specs.Str.{bytes_eq}
use Rattle.std.proofs.lemmas.Bool.{and_from, and_parts, not-true, or_parts, true≢false}
use Rattle.std.proofs.lemmas.Bool.Decides.{nat_tests}
use Rattle.std.proofs.lemmas.Grind.{flat_map-append}
use Rattle.std.proofs.lemmas.List.Concat.{flat_map-cons}
use Rattle.std.proofs.lemmas.List.Elements.{filter-append}
use Rattle.std.proofs.lemmas.Option.{none-some, same_Some}
use Rattle.tip_line.specs.Words.{is_address, is_realm}
use Rattle.tip_rows.proofs.MemoryLemmas.{bytes_eq-self, same_text}
use Rattle.tip_machine.specs.Heads.{are_allowed}
use Rattle.tip_machine.specs.Invariants.Links.{are_distinct}
use Rattle.tip_machine.specs.declared.head.Limits.{Limits}
use Rattle.tip_actor.specs.Acting.{Acting, opening_text}
use Rattle.tip_scene.specs.Acts as Stages
use Rattle.tip_scene.specs.Acts.{Acted, Basis, Stage, Declaring, Playing, acted, acted_by, acting_of, acts, acts_if, closing_of, declaration_of, first_acts, is_count, is_declared, is_other, labelled, labelled_at, may_be_declared, may_be_labelled, may_say, scene_of, starts_text, with_labels}
use Rattle.tip_scene.specs.Scenes as scenes
use Rattle.tip_scene.specs.Scenes.{Scene, moved, moved_at, place_of}
use Rattle.tip_scene.specs.declared.declared.Declaration.{Declaration}
use Rattle.tip_script.specs.Scripts as Script
use Rattle.tip_script.specs.Scripts.{Move, move_of}
use Rattle.script_lines.specs.Lines.{longest_line}
use Rattle.tip_play.specs.Transcripts.{Played, act_of, closing_text, played, played_on}
use Rattle.tip_history.specs.Alone.{AreApart, heard, heard_on, is_own, is_spelled, own_script, text_of}
use Rattle.tip_history.specs.Making.{concerns}
use Rattle.tip_history.specs.Histories.{AreWritten, declared_by, declared_from, declared_on}
use Rattle.tip_history.specs.Sayings.{Line, are_spelled, line_text, lines_on, lines_text}
use Rattle.tip_history.proofs.Apart.{Steps, each_says, each_spelled, each_text, one_says, step_of}
use Rattle.tip_history.proofs.Declaring.{AreDeclared, can_be, names, one_more, with_names}
use Rattle.tip_history.proofs.Doing.{opening_is, opening_said}
use Rattle.tip_history.proofs.Mixing.{Mixed, differs, of_all, spelled_on, text_said}
use Rattle.tip_history.proofs.Playing.{goes, started}
use Rattle.tip_history.proofs.Spelling.{spelled_move}

-- What a line says

-- an empty line; one that is not understood; and one that says a move, whatever the stage
pub data Reads (basis : Basis) (line : List ℕ) : Type 0 where
  Empty : ((stage : Stage) → act_of basis stage line ≡ record { printed = []; stage = Some stage }) → Reads basis line
  Bad : ((stage : Stage) → act_of basis stage line ≡ Stages.not_understood) → Reads basis line
  Says : (move : Move) → move_of line ≡ Some move → is_spelled move ≡ true → ((stage : Stage) → act_of basis stage line ≡ acts basis stage move) → Reads basis line

reads : (basis : Basis) (line : List ℕ) → Reads basis line
reads basis line = at (nat_le (length line) longest_line) refl where
  fits : (long : Bool) → nat_le (length line) longest_line ≡ long → (stage : Stage) → act_of basis stage line ≡ cond long (acted basis stage line) Stages.not_understood
  fits long is stage = ap (λ (b : Bool). cond b (acted basis stage line) Stages.not_understood) is

  said : (move : Option Move) → move_of line ≡ move → ((stage : Stage) → acted basis stage line ≡ acts_if basis stage (move_of line)) → nat_le (length line) longest_line ≡ true → Reads basis line
  said None none acts_so is = Bad (λ stage. fits true is stage ∙ acts_so stage ∙ ap (acts_if basis stage) none)
  said (Some move) says acts_so is = may (may_say basis.may_refuse move) refl where
    may : (allowed : Bool) → may_say basis.may_refuse move ≡ allowed → Reads basis line
    may true can = Says move says (spelled_move line move says) (λ stage. fits true is stage ∙ acts_so stage ∙ ap (acts_if basis stage) says ∙ ap (λ (b : Bool). cond b (acts basis stage move) Stages.not_understood) can)
    may false can = Bad (λ stage. fits true is stage ∙ acts_so stage ∙ ap (acts_if basis stage) says ∙ ap (λ (b : Bool). cond b (acts basis stage move) Stages.not_understood) can)

  in_line : (octets : List ℕ) → line ≡ octets → nat_le (length line) longest_line ≡ true → Reads basis line
  in_line [] empty is = Empty (λ stage. fits true is stage ∙ ap (acted basis stage) empty)
  in_line (octet ∷ octets) some is = said (move_of line) refl (λ stage. ap (acted basis stage) some ∙ ap (λ l. acts_if basis stage (move_of l)) (sym some)) is

  at : (long : Bool) → nat_le (length line) longest_line ≡ long → Reads basis line
  at true is = in_line line refl is
  at false is = Bad (fits false is)

-- Playing on

abbrev all_of : Basis → Played → List ℕ
all_of basis done = done.printed ++ closing_text basis done.ending

-- what a line prints, and what all that follow print
goes_on : (basis : Basis) (stage next : Stage) (here : List ℕ) (number : ℕ) (line : List ℕ) (lines : List (List ℕ)) → act_of basis stage line ≡ record { printed = here; stage = Some next } → all_of basis (played basis stage number (line ∷ lines)) ≡ here ++ all_of basis (played basis next (number + 1) lines)
goes_on basis stage next here number line lines is =
    ap (λ (a : Acted). all_of basis (played_on a.printed a.stage number (λ later. played basis later (number + 1) lines))) is
    ∙ append_assoc here (played basis next (number + 1) lines).printed (closing_text basis (played basis next (number + 1) lines).ending)

ends_here : (basis : Basis) (stage : Stage) (here : List ℕ) (number : ℕ) (line : List ℕ) (lines : List (List ℕ)) → act_of basis stage line ≡ record { printed = here; stage = None } → all_of basis (played basis stage number (line ∷ lines)) ≡ here
ends_here basis stage here number line lines is =
    ap (λ (a : Acted). all_of basis (played_on a.printed a.stage number (λ later. played basis later (number + 1) lines))) is ∙ append-nil here

heard_then : (basis : Basis) (stage next : Stage) (here : List ℕ) (line : List ℕ) (lines : List (List ℕ)) → act_of basis stage line ≡ record { printed = here; stage = Some next } → heard basis stage (line ∷ lines) ≡ line ∷ heard basis next lines
heard_then basis stage next here line lines is = ap (λ (a : Acted). heard_on line a.stage (λ later. heard basis later lines)) is

heard_none : (basis : Basis) (stage : Stage) (here : List ℕ) (line : List ℕ) (lines : List (List ℕ)) → act_of basis stage line ≡ record { printed = here; stage = None } → heard basis stage (line ∷ lines) ≡ []
heard_none basis stage here line lines is = ap (λ (a : Acted). heard_on line a.stage (λ later. heard basis later lines)) is

own_cons : (name line : List ℕ) (lines : List (List ℕ)) (own : Bool) → is_own name line ≡ own → own_script name (line ∷ lines) ≡ cond own (line ∷ own_script name lines) (own_script name lines)
own_cons name line lines own is = ap (λ (b : Bool). cond b (line ∷ own_script name lines) (own_script name lines)) is

-- Lines that start the realms

abbrev may_start : Move → Bool
may_start (Script.Declare name address branches limits) = false
may_start (Script.Label realm labels) = false
may_start other = true

first_so : (basis : Basis) (declarations : List Declaration) (move : Move) → may_start move ≡ true → acts basis (Declaring declarations) move ≡ first_acts basis declarations move
first_so basis ds (Script.Declare name address branches limits) may = absurd (true≢false (sym may))
first_so basis ds (Script.Label realm labels) may = absurd (true≢false (sym may))
first_so basis ds (Script.Open realm plans) may = refl
first_so basis ds (Script.Dial realm address plans purpose) may = refl
first_so basis ds (Script.Feed realm connection octets) may = refl
first_so basis ds (Script.Lose realm connection) may = refl
first_so basis ds (Script.Push realm connection id) may = refl
first_so basis ds (Script.Pull realm connection superior) may = refl
first_so basis ds (Script.Go realm) may = refl
first_so basis ds (Script.Drop realm) may = refl
first_so basis ds (Script.Resume realm id) may = refl
first_so basis ds (Script.Refuse realm) may = refl
first_so basis ds (Script.Renew realm) may = refl
first_so basis ds Script.Restart may = refl

-- what may stand once the realms have started
starts : (move : Move) (scene mid : Scene) → (moved move scene).scene ≡ Some mid → may_start move ≡ true
starts (Script.Declare name address branches limits) scene mid is = nowhere (slice_get scene (place_of name scene)) is where
  nowhere : (found : Option Acting) → (moved_at (Script.Declare name address branches limits) (place_of name scene) found scene).scene ≡ Some mid → false ≡ true
  nowhere None is = absurd (none-some mid is)
  nowhere (Some acting) is = absurd (none-some mid is)
starts (Script.Label realm labels) scene mid is = nowhere (slice_get scene (place_of realm scene)) is where
  nowhere : (found : Option Acting) → (moved_at (Script.Label realm labels) (place_of realm scene) found scene).scene ≡ Some mid → false ≡ true
  nowhere None is = absurd (none-some mid is)
  nowhere (Some acting) is = absurd (none-some mid is)
starts (Script.Open realm plans) scene mid is = refl
starts (Script.Dial realm address plans purpose) scene mid is = refl
starts (Script.Feed realm connection octets) scene mid is = refl
starts (Script.Lose realm connection) scene mid is = refl
starts (Script.Push realm connection id) scene mid is = refl
starts (Script.Pull realm connection superior) scene mid is = refl
starts (Script.Go realm) scene mid is = refl
starts (Script.Drop realm) scene mid is = refl
starts (Script.Resume realm id) scene mid is = refl
starts (Script.Refuse realm) scene mid is = refl
starts (Script.Renew realm) scene mid is = refl
starts Script.Restart scene mid is = refl

-- Once the realms have started

-- of what was said, that of a realm
abbrev said_of : List ℕ → List Line → List ℕ
said_of name said = lines_text (lines_on name said)

said_more : (name : List ℕ) (said more : List Line) → said_of name (said ++ more) ≡ said_of name said ++ said_of name more
said_more name said more = ap lines_text (filter-append (λ (line : Line). bytes_eq name line.0) said more) ∙ flat_map-append line_text (lines_on name said) (lines_on name more)

-- alone the realm has not started, though among the others it has: none of its lines came since
pub record IsPending (basis : Basis) (name : List ℕ) (scene : Scene) (own : Stage) (said : List Line) (before : List ℕ) : Type 0 where
  pub declaration : Declaration
  pub is : own ≡ Declaring (declaration ∷ [])
  pub place : ℕ
  pub here : slice_get scene place ≡ Some (acting_of basis declaration)
  pub named : declaration.name ≡ name
  pub says : said_of name said ≡ starts_text basis (declaration ∷ [])
  pub nothing : before ≡ []

-- alone it is as it is among the others
pub record IsGoing (name : List ℕ) (scene : Scene) (own : Stage) (said : List Line) (before : List ℕ) : Type 0 where
  pub acting : Acting
  pub is : own ≡ Playing (acting ∷ [])
  pub place : ℕ
  pub here : slice_get scene place ≡ Some acting
  pub named : acting.name ≡ name
  pub says : said_of name said ≡ before

abbrev IsAs : Basis → List ℕ → Scene → Stage → List Line → List ℕ → Type 0
IsAs basis name scene own said before = IsPending basis name scene own said before ⊎ IsGoing name scene own said before

-- what follows, and of it what the realm's own lines print
pub record Follows (basis : Basis) (scene : Scene) (number : ℕ) (lines : List (List ℕ)) (said : List Line) : Type 0 where
  pub rest : List Line
  pub text_is : all_of basis (played basis (Playing scene) number lines) ≡ lines_text rest
  pub spelled : are_spelled rest ≡ true
  pub each : (name : List ℕ) (own : Stage) (before : List ℕ) (count : ℕ) → IsAs basis name scene own said before →
      before ++ all_of basis (played basis own count (own_script name (heard basis (Playing scene) lines))) ≡ said_of name (said ++ rest)

-- nothing follows
closed : (basis : Basis) (name : List ℕ) (scene : Scene) (own : Stage) (said : List Line) (before : List ℕ) → IsAs basis name scene own said before → before ++ closing_of basis own ≡ said_of name (said ++ [])
closed basis name scene own said before (inl pending) =
    ap (λ (s : Stage). before ++ closing_of basis s) pending.is
    ∙ ap (λ (b : List ℕ). b ++ starts_text basis (pending.declaration ∷ [])) pending.nothing
    ∙ sym pending.says ∙ ap (said_of name) (sym (append-nil said))
closed basis name scene own said before (inr going) =
    ap (λ (s : Stage). before ++ closing_of basis s) going.is ∙ append-nil before ∙ sym going.says ∙ ap (said_of name) (sym (append-nil said))

ends_so : (basis : Basis) (scene : Scene) (number : ℕ) (lines : List (List ℕ)) (said : List Line) → all_of basis (played basis (Playing scene) number lines) ≡ [] → heard basis (Playing scene) lines ≡ [] → Follows basis scene number lines said
ends_so basis scene number lines said nothing none = record {
  rest = [];
  text_is = nothing;
  spelled = refl;
  each = λ name own before count standing. ap (λ l. before ++ all_of basis (played basis own count (own_script name l))) none ∙ closed basis name scene own said before standing;
}

-- one more line of its own
pub record IsOwn (basis : Basis) (line name : List ℕ) (mid : Scene) (said : List Line) (own : Stage) (before : List ℕ) : Type 0 where
  pub next : Stage
  pub here : List ℕ
  pub acts_so : act_of basis own line ≡ record { printed = here; stage = Some next }
  pub standing : IsGoing name mid next said (before ++ here)

module _ (basis : Basis) (line : List ℕ) (move : Move) (says : move_of line ≡ Some move) (does_so : (stage : Stage) → act_of basis stage line ≡ acts basis stage move) (scene mid : Scene) (step : Steps move scene mid (moved move scene).printed) (may : may_start move ≡ true) (said : List Line) (name : List ℕ) where
  its : is_own name line ≡ concerns name move
  its = ap (λ (m : Option Move). option_map_or (concerns name) m true) says

  -- what the realm does alone
  abbrev alone_now : Acting → List ℕ → scenes.Moved
  alone_now now text = record { printed = text; scene = Some (now ∷ []) }

  acts_first : (declaration : Declaration) (now : Acting) (text : List ℕ) → moved move (acting_of basis declaration ∷ []) ≡ alone_now now text → act_of basis (Declaring (declaration ∷ [])) line ≡ record { printed = starts_text basis (declaration ∷ []) ++ text; stage = Some (Playing (now ∷ [])) }
  acts_first declaration now text is = does_so (Declaring (declaration ∷ [])) ∙ first_so basis (declaration ∷ []) move may ∙ ap (acted_by (starts_text basis (declaration ∷ []))) is

  acts_then : (acting now : Acting) (text : List ℕ) → moved move (acting ∷ []) ≡ alone_now now text → act_of basis (Playing (acting ∷ [])) line ≡ record { printed = text; stage = Some (Playing (now ∷ [])) }
  acts_then acting now text is = does_so (Playing (acting ∷ [])) ∙ ap (acted_by []) is

  -- what is said of it then
  abbrev then_ : List Line
  then_ = said ++ step.lines

  pub own_line : (own : Stage) (before : List ℕ) → concerns name move ≡ true → IsAs basis name scene own said before → IsOwn basis line name mid then_ own before
  own_line own before concerned (inl pending) = record { next = Playing (one.0 ∷ []); here = starts_text basis (d ∷ []) ++ said_of d.name step.lines; acts_so = ap (λ (s : Stage). act_of basis s line) pending.is ∙ acts_first d one.0 (said_of d.name step.lines) one.3; standing = record { acting = one.0; is = refl; place = pending.place; here = one.1; named = one.2 ∙ pending.named; says = says_now } } where
    d : Declaration
    d = pending.declaration

    one : (now : Acting) × (slice_get mid pending.place ≡ Some now) × (now.name ≡ d.name) × (moved move (acting_of basis d ∷ []) ≡ alone_now now (said_of d.name step.lines))
    one = step.own pending.place (acting_of basis d) pending.here (ap (λ n. concerns n move) pending.named ∙ concerned)

    says_now : said_of name then_ ≡ before ++ (starts_text basis (d ∷ []) ++ said_of d.name step.lines)
    says_now =
        said_more name said step.lines
        ∙ ap (λ t. t ++ said_of name step.lines) pending.says
        ∙ ap (λ n. starts_text basis (d ∷ []) ++ said_of n step.lines) (sym pending.named)
        ∙ ap (λ b. b ++ (starts_text basis (d ∷ []) ++ said_of d.name step.lines)) (sym pending.nothing)
  own_line own before concerned (inr going) = record { next = Playing (one.0 ∷ []); here = said_of a.name step.lines; acts_so = ap (λ (s : Stage). act_of basis s line) going.is ∙ acts_then a one.0 (said_of a.name step.lines) one.3; standing = record { acting = one.0; is = refl; place = going.place; here = one.1; named = one.2 ∙ going.named; says = says_now } } where
    a : Acting
    a = going.acting

    one : (now : Acting) × (slice_get mid going.place ≡ Some now) × (now.name ≡ a.name) × (moved move (a ∷ []) ≡ alone_now now (said_of a.name step.lines))
    one = step.own going.place a going.here (ap (λ n. concerns n move) going.named ∙ concerned)

    says_now : said_of name then_ ≡ before ++ said_of a.name step.lines
    says_now = said_more name said step.lines ∙ ap (λ t. t ++ said_of name step.lines) going.says ∙ ap (λ n. before ++ said_of n step.lines) (sym going.named)

  -- one of another realm
  nothing_said : (other : List ℕ) → other ≡ name → lines_on other step.lines ≡ [] → said_of name then_ ≡ said_of name said
  nothing_said other same none = said_more name said step.lines ∙ ap (λ (l : List Line). said_of name said ++ lines_text l) (ap (λ n. lines_on n step.lines) (sym same) ∙ none) ∙ append-nil (said_of name said)

  pub other_line : (own : Stage) (before : List ℕ) → concerns name move ≡ false → IsAs basis name scene own said before → IsAs basis name mid own then_ before
  other_line own before apart (inl pending) =
      let away = step.others pending.place (acting_of basis pending.declaration) pending.here (ap (λ n. concerns n move) pending.named ∙ apart) in
      inl (record { declaration = pending.declaration; is = pending.is; place = pending.place; here = away.0; named = pending.named; says = nothing_said pending.declaration.name pending.named away.1 ∙ pending.says; nothing = pending.nothing })
  other_line own before apart (inr going) =
      let away = step.others going.place going.acting going.here (ap (λ n. concerns n move) going.named ∙ apart) in
      inr (record { acting = going.acting; is = going.is; place = going.place; here = away.0; named = going.named; says = nothing_said going.acting.name going.named away.1 ∙ going.says })

  pub each_then : (lines : List (List ℕ)) (number : ℕ) → (more : Follows basis mid number lines then_) (own : Stage) (before : List ℕ) (count : ℕ) → IsAs basis name scene own said before → before ++ all_of basis (played basis own count (own_script name (line ∷ heard basis (Playing mid) lines))) ≡ said_of name (said ++ (step.lines ++ more.rest))
  each_then lines number more own before count standing = at (concerns name move) refl ∙ ap (said_of name) (append_assoc said step.lines more.rest) where
    later : List (List ℕ)
    later = heard basis (Playing mid) lines

    at : (concerned : Bool) → concerns name move ≡ concerned → before ++ all_of basis (played basis own count (own_script name (line ∷ later))) ≡ said_of name (then_ ++ more.rest)
    at true is =
        let one = own_line own before is standing in
        ap (λ l. before ++ all_of basis (played basis own count l)) (own_cons name line later true (its ∙ is))
        ∙ ap (λ t. before ++ t) (goes_on basis own one.next one.here count line (own_script name later) one.acts_so)
        ∙ sym (append_assoc before one.here (all_of basis (played basis one.next (count + 1) (own_script name later))))
        ∙ more.each name one.next (before ++ one.here) (count + 1) (inr one.standing)
    at false is =
        ap (λ l. before ++ all_of basis (played basis own count l)) (own_cons name line later false (its ∙ is))
        ∙ more.each name own before count (other_line own before is standing)

-- a line that may stand, and all that follow
then_follows : {asked : List ℕ → List Move} (basis : Basis) (declarations : List Declaration) (text : List ℕ) (scene mid : Scene) (number : ℕ) (line : List ℕ) (lines : List (List ℕ)) (move : Move) (said : List Line) → (says : move_of line ≡ Some move) → (spelled : is_spelled move ≡ true) → (does_so : (stage : Stage) → act_of basis stage line ≡ acts basis stage move) → (mixed : Mixed basis declarations asked text scene) → (moved move scene).scene ≡ Some mid → ((more : List Line) → Follows basis mid (number + 1) lines (said ++ more)) → Follows basis scene number (line ∷ lines) said
then_follows basis declarations text scene mid number line lines move said says spelled does_so mixed is later = record {
  rest = step.lines ++ more.rest;
  text_is = goes_on basis (Playing scene) (Playing mid) (moved move scene).printed number line lines here
      ∙ ap (λ t. t ++ all_of basis (played basis (Playing mid) (number + 1) lines)) step.text_is
      ∙ ap (λ t. lines_text step.lines ++ t) more.text_is
      ∙ sym (flat_map-append line_text step.lines more.rest);
  spelled = spelled_on step.lines more.rest step.spelled more.spelled;
  each = λ name own before count standing.
      ap (λ l. before ++ all_of basis (played basis own count (own_script name l))) (heard_then basis (Playing scene) (Playing mid) (moved move scene).printed line lines here)
      ∙ each_then basis line move says does_so scene mid step (starts move scene mid is) said name lines (number + 1) more own before count standing;
} where
  step : Steps move scene mid (moved move scene).printed
  step = step_of basis declarations text move scene mid spelled mixed is

  more : Follows basis mid (number + 1) lines (said ++ step.lines)
  more = later step.lines

  here : act_of basis (Playing scene) line ≡ record { printed = (moved move scene).printed; stage = Some (Playing mid) }
  here = does_so (Playing scene) ∙ ap (λ (s : Option Scene). record { printed = (moved move scene).printed; stage = option_map Playing s }) is

follows : (basis : Basis) (declarations : List Declaration) (orders : List Move) (text : List ℕ) (scene : Scene) (number : ℕ) (lines : List (List ℕ)) (said : List Line) → Mixed basis declarations (of_all orders) text scene → Follows basis scene number lines said
follows basis declarations orders text scene number [] said mixed = ends_so basis scene number [] said refl refl
follows basis declarations orders text scene number (line ∷ lines) said mixed = at (reads basis line) (λ o t s m l. follows basis declarations o t s (number + 1) lines l m) where
  Later : Type 0
  Later = (o : List Move) (t : List ℕ) (s : Scene) → Mixed basis declarations (of_all o) t s → (l : List Line) → Follows basis s (number + 1) lines l

  -- an empty line is of nobody
  nothing_here : act_of basis (Playing scene) line ≡ record { printed = []; stage = Some (Playing scene) } → ((own : Stage) → act_of basis own line ≡ record { printed = []; stage = Some own }) → Follows basis scene (number + 1) lines said → Follows basis scene number (line ∷ lines) said
  nothing_here here anywhere more = record {
    rest = more.rest;
    text_is = goes_on basis (Playing scene) (Playing scene) [] number line lines here ∙ more.text_is;
    spelled = more.spelled;
    each = λ name own before count standing.
        ap (λ l. before ++ all_of basis (played basis own count (own_script name l))) (heard_then basis (Playing scene) (Playing scene) [] line lines here)
        ∙ skipped name own before count standing (is_own name line) refl;
  } where
    skipped : (name : List ℕ) (own : Stage) (before : List ℕ) (count : ℕ) → IsAs basis name scene own said before → (mine : Bool) → is_own name line ≡ mine → before ++ all_of basis (played basis own count (own_script name (line ∷ heard basis (Playing scene) lines))) ≡ said_of name (said ++ more.rest)
    skipped name own before count standing true is =
        ap (λ l. before ++ all_of basis (played basis own count l)) (own_cons name line (heard basis (Playing scene) lines) true is)
        ∙ ap (λ t. before ++ t) (goes_on basis own own [] count line (own_script name (heard basis (Playing scene) lines)) (anywhere own))
        ∙ more.each name own before (count + 1) standing
    skipped name own before count standing false is =
        ap (λ l. before ++ all_of basis (played basis own count l)) (own_cons name line (heard basis (Playing scene) lines) false is)
        ∙ more.each name own before count standing

  says_it : (move : Move) → move_of line ≡ Some move → is_spelled move ≡ true → ((stage : Stage) → act_of basis stage line ≡ acts basis stage move) → (next : Option Scene) → (moved move scene).scene ≡ next → Later → Follows basis scene number (line ∷ lines) said
  says_it move says spelled does_so None is later =
      let nothing : (moved move scene).printed ≡ [] = (goes basis declarations orders move text scene spelled mixed).ends is in
      let here : act_of basis (Playing scene) line ≡ record { printed = []; stage = None } = does_so (Playing scene) ∙ ap (λ (s : Option Scene). record { printed = (moved move scene).printed; stage = option_map Playing s }) is ∙ ap (λ (t : List ℕ). record { printed = t; stage = None }) nothing in
      ends_so basis scene number (line ∷ lines) said (ends_here basis (Playing scene) [] number line lines here) (heard_none basis (Playing scene) [] line lines here)
  says_it move says spelled does_so (Some mid) is later =
      then_follows basis declarations text scene mid number line lines move said says spelled does_so mixed is
      (λ more. later (orders ++ move ∷ []) (text ++ (moved move scene).printed) mid ((goes basis declarations orders move text scene spelled mixed).on mid is) (said ++ more))

  at : Reads basis line → Later → Follows basis scene number (line ∷ lines) said
  at (Empty does_so) later = nothing_here (does_so (Playing scene)) does_so (later orders text scene mixed said)
  at (Bad does_so) later = ends_so basis scene number (line ∷ lines) said (ends_here basis (Playing scene) [] number line lines (does_so (Playing scene))) (heard_none basis (Playing scene) [] line lines (does_so (Playing scene)))
  at (Says move says spelled does_so) later = says_it move says spelled does_so (moved move scene).scene refl later

-- While realms are declared

-- its own declaration among those of all
abbrev mine : List ℕ → List Declaration → List Declaration
mine name declarations = filter (is_declared name) declarations

mine_more : (name : List ℕ) (declarations : List Declaration) (d : Declaration) (own : Bool) → is_declared name d ≡ own → mine name (declarations ++ d ∷ []) ≡ mine name declarations ++ cond own (d ∷ []) []
mine_more name declarations d own is = filter-append (is_declared name) declarations (d ∷ []) ∙ ap (λ (b : Bool). mine name declarations ++ cond b (d ∷ []) []) is

all_mine : (p : Declaration → Bool) (name : List ℕ) (declarations : List Declaration) → list_all p declarations ≡ true → list_all p (mine name declarations) ≡ true
all_mine p name [] all = refl
all_mine p name (d ∷ declarations) all = at (is_declared name d) (all_mine p name declarations (and_parts (p d) (list_all p declarations) all).1) where
  at : (own : Bool) → list_all p (mine name declarations) ≡ true → list_all p (cond own (d ∷ mine name declarations) (mine name declarations)) ≡ true
  at true rest = and_from (p d) _ (and_parts (p d) (list_all p declarations) all).0 rest
  at false rest = rest

few_mine : (name : List ℕ) (declarations : List Declaration) → length (mine name declarations) ≤ length declarations
few_mine name [] = omega (arith)
few_mine name (d ∷ declarations) = at (is_declared name d) (few_mine name declarations) where
  at : (own : Bool) → length (mine name declarations) ≤ length declarations → length (cond own (d ∷ mine name declarations) (mine name declarations)) ≤ suc (length declarations)
  at true few = omega (arith, few)
  at false few = omega (arith, few)

-- what may be declared among all may be declared alone
may_be_mine : (name other address : List ℕ) (branches : ℕ) (limits : Limits) (declarations : List Declaration) → may_be_declared other address branches limits declarations ≡ true → may_be_declared other address branches limits (mine name declarations) ≡ true
may_be_mine name other address branches limits declarations may =
    let at = and_parts _ (is_address address) may in
    let realm = and_parts _ (is_realm other) at.0 in
    let allowed = and_parts _ (are_allowed limits) realm.0 in
    let count = and_parts _ (is_count branches) allowed.0 in
    let room = and_parts (list_all (is_other other) declarations) (nat_lt (length declarations) 64) count.0 in
    let fewer = few_mine name declarations in
    let few : nat_lt (length declarations) 64 ≡ true = room.1 in
    let still : nat_lt (length (mine name declarations)) 64 ≡ true = grind (arith, nat_tests, few, fewer) in
    and_from _ _ (and_from _ _ (and_from _ _ (and_from _ _ (and_from _ _ (all_mine (is_other other) name declarations room.0) still) count.1) allowed.1) realm.1) at.1

-- a name is said by whoever says it
turned : (name other : List ℕ) (own : Bool) → bytes_eq name other ≡ own → bytes_eq other name ≡ own
turned name other true is = subst (λ n. bytes_eq n name ≡ true) (same_text name other is) (bytes_eq-self name)
turned name other false is = differs name other is

-- Labels

-- the first realm of a name has other labels now
pub record Labels (realm : List ℕ) (labels : List (List ℕ)) (declarations next : List Declaration) : Type 0 where
  pub front : List Declaration
  pub old : Declaration
  pub new : Declaration
  pub later : List Declaration
  pub before : declarations ≡ front ++ old ∷ later
  pub after : next ≡ front ++ new ∷ later
  pub none : mine realm front ≡ []
  pub named : bytes_eq old.name realm ≡ true
  pub same : new.name ≡ old.name
  pub changed : with_labels labels old ≡ Some new

same_name : (labels : List (List ℕ)) (d now : Declaration) → with_labels labels d ≡ Some now → now.name ≡ d.name
same_name labels d now is = at (may_be_labelled labels d) refl is where
  at : (may : Bool) → may_be_labelled labels d ≡ may → cond may (Some (record d { branches = Stages.numbered 1 labels; is_labelled = true })) None ≡ Some now → now.name ≡ d.name
  at true may is = ap (λ (x : Declaration). x.name) (sym (same_Some _ now is))
  at false may is = absurd (none-some now is)

labels_first : (realm : List ℕ) (labels : List (List ℕ)) (d : Declaration) (declarations next : List Declaration) → bytes_eq d.name realm ≡ true → (now : Option Declaration) → with_labels labels d ≡ now → option_map (λ x. slice_set (d ∷ declarations) 0 x) now ≡ Some next → Labels realm labels (d ∷ declarations) next
labels_first realm labels d declarations next named None was is = absurd (none-some next is)
labels_first realm labels d declarations next named (Some now) was is = record { front = []; old = d; new = now; later = declarations; before = refl; after = sym (same_Some (now ∷ declarations) next is); none = refl; named = named; same = same_name labels d now was; changed = was }

behind : (n : ℕ) → suc n ≡ 1 + n
behind n = omega (arith)

-- behind a realm of another name
labels_later : (realm : List ℕ) (labels : List (List ℕ)) (d : Declaration) (declarations next : List Declaration) (place : ℕ) → bytes_eq d.name realm ≡ false → (found : Option Declaration) → labelled_at labels (suc place) found (d ∷ declarations) ≡ Some next → ((rest : List Declaration) → labelled_at labels place found declarations ≡ Some rest → Labels realm labels declarations rest) → Labels realm labels (d ∷ declarations) next
labels_later realm labels d declarations next place named None is later = absurd (none-some next is)
labels_later realm labels d declarations next place named (Some old) is later = at (with_labels labels old) refl is where
  at : (now : Option Declaration) → with_labels labels old ≡ now → option_map (λ x. d ∷ slice_set declarations place x) now ≡ Some next → Labels realm labels (d ∷ declarations) next
  at None was is = absurd (none-some next is)
  at (Some now) was is =
      let tail = later (slice_set declarations place now) (ap (option_map (λ x. slice_set declarations place x)) was) in
      record {
        front = d ∷ tail.front;
        old = tail.old;
        new = tail.new;
        later = tail.later;
        before = ap (λ l. d ∷ l) tail.before;
        after = sym (same_Some (d ∷ slice_set declarations place now) next is) ∙ ap (λ l. d ∷ l) tail.after;
        none = ap (λ (b : Bool). cond b (d ∷ mine realm tail.front) (mine realm tail.front)) named ∙ tail.none;
        named = tail.named;
        same = tail.same;
        changed = tail.changed;
      }

labels_so : (realm : List ℕ) (labels : List (List ℕ)) (declarations next : List Declaration) → labelled realm labels declarations ≡ Some next → Labels realm labels declarations next
labels_so realm labels [] next is = absurd (none-some next is)
labels_so realm labels (d ∷ declarations) next is = at (bytes_eq d.name realm) refl is (λ rest. labels_so realm labels declarations rest) where
  place : ℕ
  place = position_or_len (is_declared realm) declarations

  at : (named : Bool) → bytes_eq d.name realm ≡ named → labelled_at labels (cond (not named) (1 + place) 0) (slice_get (d ∷ declarations) (cond (not named) (1 + place) 0)) (d ∷ declarations) ≡ Some next → ((rest : List Declaration) → labelled realm labels declarations ≡ Some rest → Labels realm labels declarations rest) → Labels realm labels (d ∷ declarations) next
  at true named is later = labels_first realm labels d declarations next named (with_labels labels d) refl is
  at false named is later =
      let there : labelled_at labels (suc place) (slice_get declarations place) (d ∷ declarations) ≡ Some next = ap (λ n. labelled_at labels n (slice_get (d ∷ declarations) n) (d ∷ declarations)) (behind place) ∙ is in
      labels_later realm labels d declarations next place named (slice_get declarations place) there later

-- its own labels are named alone as among all
mine_labelled : (name realm : List ℕ) (labels : List (List ℕ)) (declarations next : List Declaration) → Labels realm labels declarations next → bytes_eq name realm ≡ true → labelled realm labels (mine name declarations) ≡ Some (mine name next)
mine_labelled name realm labels declarations next is own =
    ap (labelled realm labels) mine_before ∙ first ∙ ap Some (sym mine_after) where
      it : realm ≡ name
      it = sym (same_text name realm own)

      of_it : (d : Declaration) → bytes_eq d.name realm ≡ true → (rest : List Declaration) → mine name (is.front ++ d ∷ rest) ≡ d ∷ mine name rest
      of_it d named rest =
          filter-append (is_declared name) is.front (d ∷ rest)
          ∙ ap (λ l. l ++ mine name (d ∷ rest)) (ap (λ n. mine n is.front) (sym it) ∙ is.none)
          ∙ ap (λ (b : Bool). cond b (d ∷ mine name rest) (mine name rest)) (subst (λ n. bytes_eq d.name n ≡ true) it named)

      mine_before : mine name declarations ≡ is.old ∷ mine name is.later
      mine_before = ap (mine name) is.before ∙ of_it is.old is.named is.later

      mine_after : mine name next ≡ is.new ∷ mine name is.later
      mine_after = ap (mine name) is.after ∙ of_it is.new (ap (λ n. bytes_eq n realm) is.same ∙ is.named) is.later

      first : labelled realm labels (is.old ∷ mine name is.later) ≡ Some (is.new ∷ mine name is.later)
      first =
          ap (λ (b : Bool). labelled_at labels (cond (not b) (1 + position_or_len (is_declared realm) (mine name is.later)) 0) (slice_get (is.old ∷ mine name is.later) (cond (not b) (1 + position_or_len (is_declared realm) (mine name is.later)) 0)) (is.old ∷ mine name is.later)) is.named
          ∙ ap (option_map (λ x. slice_set (is.old ∷ mine name is.later) 0 x)) is.changed

-- another's change nothing of it
others_labelled : (name realm : List ℕ) (labels : List (List ℕ)) (declarations next : List Declaration) → Labels realm labels declarations next → bytes_eq name realm ≡ false → mine name next ≡ mine name declarations
others_labelled name realm labels declarations next is other =
    ap (mine name) is.after ∙ without is.new (ap (λ n. bytes_eq n realm) is.same ∙ is.named) ∙ sym (without is.old is.named) ∙ sym (ap (mine name) is.before) where
      without : (d : Declaration) → bytes_eq d.name realm ≡ true → mine name (is.front ++ d ∷ is.later) ≡ mine name is.front ++ mine name is.later
      without d named =
          let away : bytes_eq d.name name ≡ false = subst (λ n. bytes_eq n name ≡ false) (sym (same_text d.name realm named)) (turned name realm false other) in
          filter-append (is_declared name) is.front (d ∷ is.later) ∙ ap (λ (b : Bool). mine name is.front ++ cond b (d ∷ mine name is.later) (mine name is.later)) away

-- The realm among those that are declared

-- it is the only one of its name
pub record IsOnly (name : List ℕ) (declarations : List Declaration) : Type 0 where
  pub declaration : Declaration
  pub place : ℕ
  pub alone : mine name declarations ≡ declaration ∷ []
  pub here : slice_get declarations place ≡ Some declaration
  pub named : declaration.name ≡ name

none_mine : (name : List ℕ) (declarations : List Declaration) → list_any (bytes_eq name) (names declarations) ≡ false → mine name declarations ≡ []
none_mine name [] none = refl
none_mine name (d ∷ declarations) none =
    let parts = or_parts (bytes_eq name d.name) _ none in
    ap (λ (b : Bool). cond b (d ∷ mine name declarations) (mine name declarations)) (differs name d.name parts.0) ∙ none_mine name declarations parts.1

only : (name : List ℕ) (declarations : List Declaration) → are_distinct bytes_eq (names declarations) ≡ true → list_any (is_declared name) declarations ≡ true → IsOnly name declarations
only name [] distinct there = absurd (true≢false (sym there))
only name (d ∷ declarations) distinct there = at (is_declared name d) refl there (only name declarations (and_parts _ _ distinct).1) where
  apart : (not (list_any (bytes_eq d.name) (names declarations)) ≡ true) × (are_distinct bytes_eq (names declarations) ≡ true)
  apart = and_parts _ _ distinct

  at : (own : Bool) → is_declared name d ≡ own → (own || list_any (is_declared name) declarations) ≡ true → (list_any (is_declared name) declarations ≡ true → IsOnly name declarations) → IsOnly name (d ∷ declarations)
  at true is there more =
      let same : d.name ≡ name = same_text d.name name is in
      record {
        declaration = d;
        place = 0;
        alone = ap (λ (b : Bool). cond b (d ∷ mine name declarations) (mine name declarations)) is ∙ ap (λ l. d ∷ l) (none_mine name declarations (subst (λ n. list_any (bytes_eq n) (names declarations) ≡ false) same (not-true _ apart.0)));
        here = refl;
        named = same;
      }
  at false is there more =
      let later = more there in
      record {
        declaration = later.declaration;
        place = suc later.place;
        alone = ap (λ (b : Bool). cond b (d ∷ mine name declarations) (mine name declarations)) is ∙ later.alone;
        here = later.here;
        named = later.named;
      }

-- what all say when they start
abbrev openings : Basis → List Declaration → List Line
openings basis declarations = each_says opening_said (scene_of basis declarations)

at_scene : (basis : Basis) (declarations : List Declaration) (place : ℕ) (d : Declaration) → slice_get declarations place ≡ Some d → slice_get (scene_of basis declarations) place ≡ Some (acting_of basis d)
at_scene basis [] place d here = absurd (none-some d here)
at_scene basis (x ∷ declarations) zero d here = ap (λ (y : Declaration). Some (acting_of basis y)) (same_Some x d here)
at_scene basis (x ∷ declarations) (suc place) d here = at_scene basis declarations place d here

names_at_start : (basis : Basis) (declarations : List Declaration) → map (λ (a : Acting). a.name) (scene_of basis declarations) ≡ names declarations
names_at_start basis [] = refl
names_at_start basis (d ∷ declarations) = ap (λ l. d.name ∷ l) (names_at_start basis declarations)

-- what it says then is what it says alone
starts_alone : (basis : Basis) (name : List ℕ) (declarations : List Declaration) → AreDeclared declarations → (it : IsOnly name declarations) → said_of name (openings basis declarations) ≡ starts_text basis (it.declaration ∷ [])
starts_alone basis name declarations are it =
    let a = acting_of basis it.declaration in
    ap (λ n. said_of n (openings basis declarations)) (sym it.named)
    ∙ ap lines_text (one_says opening_said (scene_of basis declarations) it.place a (ap (are_distinct bytes_eq) (names_at_start basis declarations) ∙ are.named) (at_scene basis declarations it.place it.declaration it.here))
    ∙ text_said a.name (opening_said a) ∙ sym (opening_is a)
    ∙ sym (flat_map-cons opening_text a [] ∙ append-nil (opening_text a))

pends : (basis : Basis) (name : List ℕ) (declarations : List Declaration) → AreDeclared declarations → (it : IsOnly name declarations) → IsPending basis name (scene_of basis declarations) (Declaring (mine name declarations)) (openings basis declarations) []
pends basis name declarations are it = record { declaration = it.declaration; is = ap Declaring it.alone; place = it.place; here = at_scene basis declarations it.place it.declaration it.here; named = it.named; says = starts_alone basis name declarations are it; nothing = refl }

-- all that a script's lines print, while realms are declared; and of it what the realm's own lines print, or nothing is printed
pub record Tells (basis : Basis) (declarations : List Declaration) (number : ℕ) (lines : List (List ℕ)) : Type 0 where
  pub rest : List Line
  pub text_is : all_of basis (played basis (Declaring declarations) number lines) ≡ lines_text rest
  pub spelled : are_spelled rest ≡ true
  pub each : (all_of basis (played basis (Declaring declarations) number lines) ≡ []) ⊎ ((name : List ℕ) (count : ℕ) → list_any (is_declared name) (declared_from basis declarations lines) ≡ true →
      all_of basis (played basis (Declaring (mine name declarations)) count (own_script name (heard basis (Declaring declarations) lines))) ≡ said_of name rest)

-- nothing is printed
silent : (basis : Basis) (declarations : List Declaration) (number : ℕ) (line : List ℕ) (lines : List (List ℕ)) → act_of basis (Declaring declarations) line ≡ record { printed = []; stage = None } → Tells basis declarations number (line ∷ lines)
silent basis declarations number line lines is = record { rest = []; text_is = none; spelled = refl; each = inl none } where
  none : all_of basis (played basis (Declaring declarations) number (line ∷ lines)) ≡ []
  none = ends_here basis (Declaring declarations) [] number line lines is

-- a line that declares, or says nothing
declares_on : (basis : Basis) (declarations next : List Declaration) (number : ℕ) (line : List ℕ) (lines : List (List ℕ)) → act_of basis (Declaring declarations) line ≡ record { printed = []; stage = Some (Declaring next) } → ((name : List ℕ) → is_own name line ≡ true → act_of basis (Declaring (mine name declarations)) line ≡ record { printed = []; stage = Some (Declaring (mine name next)) }) → ((name : List ℕ) → is_own name line ≡ false → mine name next ≡ mine name declarations) → Tells basis next (number + 1) lines → Tells basis declarations number (line ∷ lines)
declares_on basis declarations next number line lines is own others more = record {
  rest = more.rest;
  text_is = same ∙ more.text_is;
  spelled = more.spelled;
  each = at more.each;
} where
  same : all_of basis (played basis (Declaring declarations) number (line ∷ lines)) ≡ all_of basis (played basis (Declaring next) (number + 1) lines)
  same = goes_on basis (Declaring declarations) (Declaring next) [] number line lines is

  later : List (List ℕ)
  later = heard basis (Declaring next) lines

  declared_more : declared_from basis declarations (line ∷ lines) ≡ declared_from basis next lines
  declared_more = ap (λ (a : Acted). declared_on declarations a.stage (λ ds. declared_from basis ds lines)) is

  Each : Type 0
  Each = (name : List ℕ) (count : ℕ) → list_any (is_declared name) (declared_from basis next lines) ≡ true → all_of basis (played basis (Declaring (mine name next)) count (own_script name later)) ≡ said_of name more.rest

  one : Each → (name : List ℕ) (count : ℕ) → list_any (is_declared name) (declared_from basis declarations (line ∷ lines)) ≡ true → (mine_is : Bool) → is_own name line ≡ mine_is → all_of basis (played basis (Declaring (mine name declarations)) count (own_script name (line ∷ later))) ≡ said_of name more.rest
  one each name count there true mine_is =
      ap (λ l. all_of basis (played basis (Declaring (mine name declarations)) count l)) (own_cons name line later true mine_is)
      ∙ goes_on basis (Declaring (mine name declarations)) (Declaring (mine name next)) [] count line (own_script name later) (own name mine_is)
      ∙ each name (count + 1) (sym (ap (list_any (is_declared name)) declared_more) ∙ there)
  one each name count there false mine_is =
      ap (λ l. all_of basis (played basis (Declaring (mine name declarations)) count l)) (own_cons name line later false mine_is)
      ∙ ap (λ ds. all_of basis (played basis (Declaring ds) count (own_script name later))) (sym (others name mine_is))
      ∙ each name count (sym (ap (list_any (is_declared name)) declared_more) ∙ there)

  at : (all_of basis (played basis (Declaring next) (number + 1) lines) ≡ []) ⊎ Each → (all_of basis (played basis (Declaring declarations) number (line ∷ lines)) ≡ []) ⊎ ((name : List ℕ) (count : ℕ) → list_any (is_declared name) (declared_from basis declarations (line ∷ lines)) ≡ true → all_of basis (played basis (Declaring (mine name declarations)) count (own_script name (heard basis (Declaring declarations) (line ∷ lines)))) ≡ said_of name more.rest)
  at (inl none) = inl (same ∙ none)
  at (inr each) = inr (λ name count there.
      ap (λ l. all_of basis (played basis (Declaring (mine name declarations)) count (own_script name l))) (heard_then basis (Declaring declarations) (Declaring next) [] line lines is)
      ∙ one each name count there (is_own name line) refl)

module _ (basis : Basis) (written : AreWritten basis) where
  openings_spelled : (declarations : List Declaration) → AreDeclared declarations → are_spelled (openings basis declarations) ≡ true
  openings_spelled declarations are = each_spelled opening_said (scene_of basis declarations) (spelled_at_start declarations are.each) where
    spelled_at_start : (ds : List Declaration) → list_all can_be ds ≡ true → list_all (λ (a : Acting). is_realm a.name) (scene_of basis ds) ≡ true
    spelled_at_start [] can = refl
    spelled_at_start (d ∷ ds) can =
        let parts = and_parts (can_be d) (list_all can_be ds) can in
        and_from (is_realm d.name) _ (and_parts (is_realm d.name) _ (and_parts _ _ (and_parts _ _ parts.0).0).0).0 (spelled_at_start ds parts.1)

  openings_said : (declarations : List Declaration) → starts_text basis declarations ≡ lines_text (openings basis declarations)
  openings_said declarations = each_text opening_said opening_text opening_is (scene_of basis declarations)

  -- the end: the realms start
  starts_then : (declarations : List Declaration) (number : ℕ) → AreDeclared declarations → Tells basis declarations number []
  starts_then declarations number are = record {
    rest = openings basis declarations;
    text_is = openings_said declarations;
    spelled = openings_spelled declarations are;
    each = inr (λ name count there.
        let it = only name declarations are.named there in
        ap (starts_text basis) it.alone ∙ sym (starts_alone basis name declarations are it));
  }

  -- the first line that declares nothing: the realms start, and it is done
  starts_by : (declarations : List Declaration) (number : ℕ) (line : List ℕ) (lines : List (List ℕ)) (move : Move) → AreDeclared declarations → move_of line ≡ Some move → is_spelled move ≡ true → may_start move ≡ true → ((stage : Stage) → act_of basis stage line ≡ acts basis stage move) → Tells basis declarations number (line ∷ lines)
  starts_by declarations number line lines move are says spelled may does_so = record {
    rest = openings basis declarations ++ more.rest;
    text_is = all_is ∙ ap (λ t. t ++ all_of basis (played basis (Playing scene) number (line ∷ lines))) (openings_said declarations) ∙ ap (λ t. lines_text (openings basis declarations) ++ t) more.text_is ∙ sym (flat_map-append line_text (openings basis declarations) more.rest);
    spelled = spelled_on (openings basis declarations) more.rest (openings_spelled declarations are) more.spelled;
    each = inr (λ name count there.
        let it = only name declarations are.named (sym (ap (list_any (is_declared name)) no_more) ∙ there) in
        ap (λ l. all_of basis (played basis (Declaring (mine name declarations)) count (own_script name l))) same_heard
        ∙ more.each name (Declaring (mine name declarations)) [] count (inl (pends basis name declarations are it)));
  } where
    scene : Scene
    scene = scene_of basis declarations

    -- the line in the scene that has started
    went : scenes.Moved
    went = moved move scene

    here : act_of basis (Declaring declarations) line ≡ record { printed = starts_text basis declarations ++ went.printed; stage = option_map Playing went.scene }
    here = does_so (Declaring declarations) ∙ first_so basis declarations move may

    there_ : act_of basis (Playing scene) line ≡ record { printed = went.printed; stage = option_map Playing went.scene }
    there_ = does_so (Playing scene)

    more : Follows basis scene number (line ∷ lines) (openings basis declarations)
    more = follows basis declarations [] (starts_text basis declarations) scene number (line ∷ lines) (openings basis declarations) (started basis declarations written are)

    played_so : (next : Option Stage) → all_of basis (played_on (starts_text basis declarations ++ went.printed) next number (λ later. played basis later (number + 1) lines)) ≡ starts_text basis declarations ++ all_of basis (played_on went.printed next number (λ later. played basis later (number + 1) lines))
    played_so None = append_assoc (starts_text basis declarations) went.printed []
    played_so (Some next) =
        let rest = played basis next (number + 1) lines in
        append_assoc (starts_text basis declarations ++ went.printed) rest.printed (closing_text basis rest.ending)
        ∙ append_assoc (starts_text basis declarations) went.printed (all_of basis rest)
        ∙ ap (λ t. starts_text basis declarations ++ t) (sym (append_assoc went.printed rest.printed (closing_text basis rest.ending)))

    all_is : all_of basis (played basis (Declaring declarations) number (line ∷ lines)) ≡ starts_text basis declarations ++ all_of basis (played basis (Playing scene) number (line ∷ lines))
    all_is =
        ap (λ (a : Acted). all_of basis (played_on a.printed a.stage number (λ later. played basis later (number + 1) lines))) here
        ∙ played_so (option_map Playing went.scene)
        ∙ ap (λ t. starts_text basis declarations ++ t) (sym (ap (λ (a : Acted). all_of basis (played_on a.printed a.stage number (λ later. played basis later (number + 1) lines))) there_))

    same_heard : heard basis (Declaring declarations) (line ∷ lines) ≡ heard basis (Playing scene) (line ∷ lines)
    same_heard =
        ap (λ (a : Acted). heard_on line a.stage (λ later. heard basis later lines)) here
        ∙ sym (ap (λ (a : Acted). heard_on line a.stage (λ later. heard basis later lines)) there_)

    none_more : (next : Option Scene) → declared_on declarations (option_map Playing next) (λ ds. declared_from basis ds lines) ≡ declarations
    none_more None = refl
    none_more (Some next) = refl

    no_more : declared_from basis declarations (line ∷ lines) ≡ declarations
    no_more = ap (λ (a : Acted). declared_on declarations a.stage (λ ds. declared_from basis ds lines)) here ∙ none_more went.scene

  abbrev Later : ℕ → List (List ℕ) → Type 0
  Later number lines = (next : List Declaration) → AreDeclared next → Tells basis next (number + 1) lines

  -- a realm is declared
  declare : (name address : List ℕ) (branches : ℕ) (limits : Limits) (declarations : List Declaration) (number : ℕ) (line : List ℕ) (lines : List (List ℕ)) → AreDeclared declarations → move_of line ≡ Some (Script.Declare name address branches limits) → ((stage : Stage) → act_of basis stage line ≡ acts basis stage (Script.Declare name address branches limits)) → Later number lines → Tells basis declarations number (line ∷ lines)
  declare name address branches limits declarations number line lines are says does_so later = at (may_be_declared name address branches limits declarations) refl where
    d : Declaration
    d = declaration_of name address branches limits

    its : (realm : List ℕ) → is_own realm line ≡ bytes_eq realm name
    its realm = ap (λ (m : Option Move). option_map_or (concerns realm) m true) says

    declared_is : (ds : List Declaration) (may : Bool) → may_be_declared name address branches limits ds ≡ may → act_of basis (Declaring ds) line ≡ record { printed = []; stage = option_map Declaring (cond may (Some (ds ++ d ∷ [])) None) }
    declared_is ds may is = does_so (Declaring ds) ∙ ap (λ (b : Bool). record { printed = []; stage = option_map Declaring (cond b (Some (ds ++ d ∷ [])) None) }) is

    at : (may : Bool) → may_be_declared name address branches limits declarations ≡ may → Tells basis declarations number (line ∷ lines)
    at false is = silent basis declarations number line lines (declared_is declarations false is)
    at true is =
        declares_on basis declarations (declarations ++ d ∷ []) number line lines (declared_is declarations true is)
        (λ realm own.
        declared_is (mine realm declarations) true (may_be_mine realm name address branches limits declarations is)
        ∙ ap (λ ds. record { printed = []; stage = Some (Declaring ds) }) (sym (mine_more realm declarations d true (turned realm name true (sym (its realm) ∙ own)))))
        (λ realm other. mine_more realm declarations d false (turned realm name false (sym (its realm) ∙ other)) ∙ append-nil (mine realm declarations))
        (later (declarations ++ d ∷ []) (one_more name address branches limits declarations (declarations ++ d ∷ []) are (ap (λ (b : Bool). cond b (Some (declarations ++ d ∷ [])) None) is)))

  -- its branches are named
  label : (realm : List ℕ) (labels : List (List ℕ)) (declarations : List Declaration) (number : ℕ) (line : List ℕ) (lines : List (List ℕ)) → AreDeclared declarations → move_of line ≡ Some (Script.Label realm labels) → ((stage : Stage) → act_of basis stage line ≡ acts basis stage (Script.Label realm labels)) → Later number lines → Tells basis declarations number (line ∷ lines)
  label realm labels declarations number line lines are says does_so later = at (labelled realm labels declarations) refl where
    its : (name : List ℕ) → is_own name line ≡ bytes_eq name realm
    its name = ap (λ (m : Option Move). option_map_or (concerns name) m true) says

    labelled_is : (ds : List Declaration) (next : Option (List Declaration)) → labelled realm labels ds ≡ next → act_of basis (Declaring ds) line ≡ record { printed = []; stage = option_map Declaring next }
    labelled_is ds next is = does_so (Declaring ds) ∙ ap (λ (n : Option (List Declaration)). record { printed = []; stage = option_map Declaring n }) is

    at : (next : Option (List Declaration)) → labelled realm labels declarations ≡ next → Tells basis declarations number (line ∷ lines)
    at None is = silent basis declarations number line lines (labelled_is declarations None is)
    at (Some next) is =
        let so = labels_so realm labels declarations next is in
        declares_on basis declarations next number line lines (labelled_is declarations (Some next) is)
        (λ name own. labelled_is (mine name declarations) (Some (mine name next)) (mine_labelled name realm labels declarations next so (sym (its name) ∙ own)))
        (λ name other. others_labelled name realm labels declarations next so (sym (its name) ∙ other))
        (later next (with_names realm labels declarations next are is))

  by_move : (move : Move) (declarations : List Declaration) (number : ℕ) (line : List ℕ) (lines : List (List ℕ)) → AreDeclared declarations → move_of line ≡ Some move → is_spelled move ≡ true → ((stage : Stage) → act_of basis stage line ≡ acts basis stage move) → Later number lines → Tells basis declarations number (line ∷ lines)
  by_move (Script.Declare name address branches limits) ds number line lines are says spelled does_so later = declare name address branches limits ds number line lines are says does_so later
  by_move (Script.Label realm labels) ds number line lines are says spelled does_so later = label realm labels ds number line lines are says does_so later
  by_move (Script.Open realm plans) ds number line lines are says spelled does_so later = starts_by ds number line lines (Script.Open realm plans) are says spelled refl does_so
  by_move (Script.Dial realm address plans purpose) ds number line lines are says spelled does_so later = starts_by ds number line lines (Script.Dial realm address plans purpose) are says spelled refl does_so
  by_move (Script.Feed realm connection octets) ds number line lines are says spelled does_so later = starts_by ds number line lines (Script.Feed realm connection octets) are says spelled refl does_so
  by_move (Script.Lose realm connection) ds number line lines are says spelled does_so later = starts_by ds number line lines (Script.Lose realm connection) are says spelled refl does_so
  by_move (Script.Push realm connection id) ds number line lines are says spelled does_so later = starts_by ds number line lines (Script.Push realm connection id) are says spelled refl does_so
  by_move (Script.Pull realm connection superior) ds number line lines are says spelled does_so later = starts_by ds number line lines (Script.Pull realm connection superior) are says spelled refl does_so
  by_move (Script.Go realm) ds number line lines are says spelled does_so later = starts_by ds number line lines (Script.Go realm) are says spelled refl does_so
  by_move (Script.Drop realm) ds number line lines are says spelled does_so later = starts_by ds number line lines (Script.Drop realm) are says spelled refl does_so
  by_move (Script.Resume realm id) ds number line lines are says spelled does_so later = starts_by ds number line lines (Script.Resume realm id) are says spelled refl does_so
  by_move (Script.Refuse realm) ds number line lines are says spelled does_so later = starts_by ds number line lines (Script.Refuse realm) are says spelled refl does_so
  by_move (Script.Renew realm) ds number line lines are says spelled does_so later = starts_by ds number line lines (Script.Renew realm) are says spelled refl does_so
  by_move Script.Restart ds number line lines are says spelled does_so later = starts_by ds number line lines Script.Restart are says spelled refl does_so

  tells : (declarations : List Declaration) (number : ℕ) (lines : List (List ℕ)) → AreDeclared declarations → Tells basis declarations number lines
  tells declarations number [] are = starts_then declarations number are
  tells declarations number (line ∷ lines) are = at (reads basis line) (λ next so. tells next (number + 1) lines so) where
    at : Reads basis line → Later number lines → Tells basis declarations number (line ∷ lines)
    at (Empty does_so) later = declares_on basis declarations declarations number line lines (does_so (Declaring declarations)) (λ name own. does_so (Declaring (mine name declarations))) (λ name other. refl) (later declarations are)
    at (Bad does_so) later = silent basis declarations number line lines (does_so (Declaring declarations))
    at (Says move says spelled does_so) later = by_move move declarations number line lines are says spelled does_so later

  pub script_apart : (lines : List (List ℕ)) → AreApart basis lines (text_of basis lines)
  script_apart lines = record { said = all.rest; text_is = all.text_is; spelled = all.spelled; each = at all.each } where
    all : Tells basis [] 1 lines
    all = tells [] 1 lines (record { each = refl; named = refl })

    at : (all_of basis (played basis (Declaring []) 1 lines) ≡ []) ⊎ ((name : List ℕ) (count : ℕ) → list_any (is_declared name) (declared_by basis lines) ≡ true → all_of basis (played basis (Declaring []) count (own_script name (heard basis (Declaring []) lines))) ≡ said_of name all.rest) → (text_of basis lines ≡ []) ⊎ ((name : List ℕ) → list_any (is_declared name) (declared_by basis lines) ≡ true → text_of basis (own_script name (heard basis (Declaring []) lines)) ≡ said_of name all.rest)
    at (inl none) = inl none
    at (inr each) = inr (λ name there. each name 1 there)
