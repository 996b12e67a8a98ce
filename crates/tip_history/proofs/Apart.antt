-- Each realm of a script is alone.
use Rattle.std.proofs.Common.{◌≡◌, ◌++◌, ◌∷◌, ◌+◌, ℕ, zero, suc, Bool, true, false, cond, List, [], Option, Some, None, map, append-nil, append_assoc, refl, ap, sym, subst, ◌∙◌, ◌⊎◌, inl, inr}
use Rattle.std.specs.Prelude.{◌&&◌, ◌||◌, not, slice_get, slice_set}
use Rattle.std.specs.List.{flat_map, list_all, list_any}
use Rattle.std.specs.Option.{option_map_or}
use Rattle.std.specs.Str.{bytes_eq}
use Rattle.std.proofs.lemmas.Bool.{and_parts, not-true, or_parts, true≢false}
use Rattle.std.proofs.lemmas.Grind.{flat_map-append}
use Rattle.std.proofs.lemmas.List.Concat.{flat_map-cons}
use Rattle.std.proofs.lemmas.List.Elements.{filter-append, filter_map-append}
use Rattle.std.proofs.lemmas.Option.{none-some, same_Some}
use Rattle.tip_rows.proofs.MemoryLemmas.{bytes_eq-self, same_text}
use Rattle.tip_machine.specs.Invariants.Links.{are_distinct}
use Rattle.tip_line.specs.Words.{is_realm}
use Rattle.tip_machine.specs.Moves.{Restart, moved as all_over}
use Rattle.tip_actor.specs.Acting.{Acting, Done, boxes_in, is_at_end, opening_text, restarts, settles}
use Rattle.tip_scene.specs.Scenes as scenes
use Rattle.tip_scene.specs.Scenes.{Scene, does, elsewhere, is_named, moved, moved_at, moved_in, openings_text, place_of, with_done, with_text}
use Rattle.tip_scene.specs.Acts.{Basis, Stage, Declaring, scene_of, starts_text}
use Rattle.tip_scene.specs.declared.declared.Declaration.{Declaration}
use Rattle.tip_script.specs.Scripts.{Move, realm_of}
use Rattle.tip_play.specs.Transcripts.{Ending, Fault, Reached, act_of, played, played_on}
use Rattle.tip_history.specs.Alone.{IsAlone, all_moved, and_then, is_spelled}
use Rattle.tip_history.specs.Histories.{AreWritten, asked_in}
use Rattle.tip_history.specs.Sayings.{Line, Saying, Shows, are_spelled, line_text, lines_on, lines_text, saying_text, shown_of, shown_on}
use Rattle.tip_history.proofs.Doing.{Did, did, did_settle, opening_is, opening_said, outputs_of, shown_said}
use Rattle.tip_history.specs.Making.{IsMade, concerns, own}
use Rattle.tip_history.proofs.Mixing.{Mixed, differs, of_all, numbered_at, quiet_by, said_by, shown_said_by, sound_at, spelled_at, spelled_by, spelled_names, spelled_on, text_said}
use Rattle.tip_history.proofs.Playing.{IsElsewhere, Stands, at_stage, declared_at, declared_in_end, declared_then, elsewhere_said, found_named, goes as goes_to, line_so, names_in as names, not_named, nothing_yet, same_names, spelled_there, started, stays, then_said}

-- Places

set_here : (scene : Scene) (place : ℕ) (old new : Acting) → slice_get scene place ≡ Some old → slice_get (slice_set scene place new) place ≡ Some new
set_here [] place old new here = absurd (none-some old here)
set_here (a ∷ scene) zero old new here = refl
set_here (a ∷ scene) (suc place) old new here = set_here scene place old new here

names_set : (scene : Scene) (place : ℕ) (old new : Acting) → slice_get scene place ≡ Some old → new.name ≡ old.name → names (slice_set scene place new) ≡ names scene
names_set [] place old new here same = refl
names_set (a ∷ scene) zero old new here same = ap (λ n. n ∷ names scene) (same ∙ ap (λ (x : Acting). x.name) (sym (same_Some a old here)))
names_set (a ∷ scene) (suc place) old new here same = ap (λ l. a.name ∷ l) (names_set scene place old new here same)

-- a realm at a place is not called as one that is called otherwise than all
unlike_at : (name : List ℕ) (scene : Scene) (place : ℕ) (acting : Acting) → list_any (bytes_eq name) (names scene) ≡ false → slice_get scene place ≡ Some acting → bytes_eq name acting.name ≡ false
unlike_at name [] place acting apart here = absurd (none-some acting here)
unlike_at name (a ∷ scene) zero acting apart here = ap (λ (x : Acting). bytes_eq name x.name) (sym (same_Some a acting here)) ∙ (or_parts (bytes_eq name a.name) _ apart).0
unlike_at name (a ∷ scene) (suc place) acting apart here = unlike_at name scene place acting (or_parts (bytes_eq name a.name) _ apart).1 here

-- where one of two realms is changed: it is the other, or the other stays and has another name
pub record Elsewhere (scene : Scene) (place other : ℕ) (here there new : Acting) : Type 0 where
  pub differ : bytes_eq there.name here.name ≡ false
  pub stays : slice_get (slice_set scene place new) other ≡ Some there

two_places : (scene : Scene) (place other : ℕ) (here there new : Acting) → are_distinct bytes_eq (names scene) ≡ true → slice_get scene place ≡ Some here → slice_get scene other ≡ Some there → (place ≡ other) ⊎ Elsewhere scene place other here there new
two_places [] place other here there new distinct is is_there = absurd (none-some here is)
two_places (a ∷ scene) zero zero here there new distinct is is_there = inl refl
two_places (a ∷ scene) zero (suc other) here there new distinct is is_there =
    let apart : list_any (bytes_eq a.name) (names scene) ≡ false = not-true _ (and_parts _ _ distinct).0 in
    inr (record { differ = differs here.name there.name (ap (λ (x : Acting). bytes_eq x.name there.name) (sym (same_Some a here is)) ∙ unlike_at a.name scene other there apart is_there); stays = is_there })
two_places (a ∷ scene) (suc place) zero here there new distinct is is_there =
    let apart : list_any (bytes_eq a.name) (names scene) ≡ false = not-true _ (and_parts _ _ distinct).0 in
    inr (record { differ = ap (λ (x : Acting). bytes_eq x.name here.name) (sym (same_Some a there is_there)) ∙ unlike_at a.name scene place here apart is; stays = is_there })
two_places (a ∷ scene) (suc place) (suc other) here there new distinct is is_there = elim (two_places scene place other here there new (and_parts _ _ distinct).1 is is_there) [
  | inl same ↦ inl (ap suc same)
  | inr away ↦ inr (record { differ = away.differ; stays = away.stays })
]

-- The realm that a line names

-- alone, it is the first
alone_there : (move : Move) (realm : List ℕ) (acting : Acting) → bytes_eq acting.name realm ≡ true → moved_in move (Some realm) (acting ∷ []) ≡ moved_at move 0 (Some acting) (acting ∷ [])
alone_there move realm acting named = ap (λ (b : Bool). moved_at move (cond (not b) 1 0) (slice_get (acting ∷ []) (cond (not b) 1 0)) (acting ∷ [])) named

-- What is said of one realm

pub own_lines : (name : List ℕ) (said : List Saying) → lines_on name (said_by name said) ≡ said_by name said
own_lines name [] = refl
own_lines name (saying ∷ said) =
    ap (λ b. cond b ((name, saying) ∷ lines_on name (said_by name said)) (lines_on name (said_by name said))) (bytes_eq-self name)
    ∙ ap (λ l. (name, saying) ∷ l) (own_lines name said)

pub other_lines : (name other : List ℕ) (said : List Saying) → bytes_eq name other ≡ false → lines_on name (said_by other said) ≡ []
other_lines name other [] differ = refl
other_lines name other (saying ∷ said) differ =
    ap (λ b. cond b ((other, saying) ∷ lines_on name (said_by other said)) (lines_on name (said_by other said))) differ
    ∙ other_lines name other said differ

-- nothing is shown of a name that is none of theirs
abbrev pub IsSilent : List Line → Scene → Type 0
IsSilent lines scene = (name : List ℕ) → list_any (is_named name) scene ≡ false → shown_of name lines ≡ []

not_its : (name : List ℕ) (scene : Scene) (place : ℕ) (acting : Acting) → list_any (is_named name) scene ≡ false → slice_get scene place ≡ Some acting → bytes_eq name acting.name ≡ false
not_its name [] place acting none here = absurd (none-some acting here)
not_its name (a ∷ scene) zero acting none here = ap (λ (x : Acting). bytes_eq name x.name) (sym (same_Some a acting here)) ∙ differs a.name name (or_parts (bytes_eq a.name name) _ none).0
not_its name (a ∷ scene) (suc place) acting none here = not_its name scene place acting (or_parts (bytes_eq a.name name) _ none).1 here

-- One line

pub record Steps (move : Move) (scene next : Scene) (printed : List ℕ) : Type 0 where
  pub lines : List Line
  pub text_is : printed ≡ lines_text lines
  pub spelled : are_spelled lines ≡ true
  pub named : names next ≡ names scene
  pub own : (place : ℕ) (acting : Acting) → slice_get scene place ≡ Some acting → concerns acting.name move ≡ true → (now : Acting) × (slice_get next place ≡ Some now) × (now.name ≡ acting.name) × (moved move (acting ∷ []) ≡ record { printed = lines_text (lines_on acting.name lines); scene = Some (now ∷ []) })
  pub others : (place : ℕ) (acting : Acting) → slice_get scene place ≡ Some acting → concerns acting.name move ≡ false → (slice_get next place ≡ Some acting) × (lines_on acting.name lines ≡ [])
  pub silent : IsSilent lines scene

-- a realm that the line names
named_one : (move : Move) (realm : List ℕ) (scene next : Scene) (acting : Acting) (done : Option Done) → are_distinct bytes_eq (names scene) ≡ true → is_realm acting.name ≡ true → realm_of move ≡ Some realm → slice_get scene (place_of realm scene) ≡ Some acting → does move acting ≡ done → ((d : Done) → done ≡ Some d → Did (IsMade acting.world move) acting (settles d)) → (with_done (place_of realm scene) done scene).scene ≡ Some next → Steps move scene next (with_done (place_of realm scene) done scene).printed
named_one move realm scene next acting None distinct spelled names_it here is did goes = absurd (none-some next goes)
named_one move realm scene next acting (Some done) distinct spelled names_it here is did goes = subst (λ (s : Scene). Steps move scene s (settles done).printed) (same_Some (slice_set scene place then_) next goes) (record {
  lines = lines;
  text_is = text_is;
  spelled = spelled_by acting.name said spelled;
  named = names_set scene place acting then_ here (did done refl).named;
  own = λ other there at concerned. own_at other there at concerned (two_places scene place other acting there then_ distinct here at);
  others = λ other there at apart. others_at other there at apart (two_places scene place other acting there then_ distinct here at);
  silent = λ name none. shown_said_by name acting.name said ∙ ap (λ b. cond b (outputs_of said) []) (not_its name scene place acting none here);
}) where
  place : ℕ
  place = place_of realm scene

  then_ : Acting
  then_ = (settles done).acting

  said : List Saying
  said = (did done refl).said

  lines : List Line
  lines = said_by acting.name said

  text_is : (settles done).printed ≡ lines_text lines
  text_is = (did done refl).text ∙ sym (text_said acting.name said)

  is_its : (there : Acting) → concerns there.name move ≡ bytes_eq there.name realm
  is_its there = ap (λ (r : Option (List ℕ)). option_map_or (bytes_eq there.name) r true) names_it

  it_is_named : bytes_eq acting.name realm ≡ true
  it_is_named = found_named realm scene acting here

  -- whose name differs from its own is not concerned
  away : (there : Acting) → bytes_eq there.name acting.name ≡ false → bytes_eq there.name realm ≡ false
  away there differ = subst (λ n. bytes_eq there.name n ≡ false) (same_text acting.name realm it_is_named) differ

  alone : moved move (acting ∷ []) ≡ record { printed = (settles done).printed; scene = Some (then_ ∷ []) }
  alone = ap (λ r. moved_in move r (acting ∷ [])) names_it ∙ alone_there move realm acting it_is_named ∙ ap (λ d. with_done 0 d (acting ∷ [])) is

  Own : ℕ → Acting → Type 0
  Own other there = (now : Acting) × (slice_get (slice_set scene place then_) other ≡ Some now) × (now.name ≡ there.name) × (moved move (there ∷ []) ≡ record { printed = lines_text (lines_on there.name lines); scene = Some (now ∷ []) })

  own_at : (other : ℕ) (there : Acting) → slice_get scene other ≡ Some there → concerns there.name move ≡ true → (place ≡ other) ⊎ Elsewhere scene place other acting there then_ → Own other there
  own_at other there at concerned (inl same) =
      let it : acting ≡ there = same_Some acting there (sym here ∙ ap (slice_get scene) same ∙ at) in
      subst (Own other) it (then_, ap (slice_get (slice_set scene place then_)) (sym same) ∙ set_here scene place acting then_ here, (did done refl).named, alone ∙ ap (λ t. record { printed = t; scene = Some (then_ ∷ []) }) (text_is ∙ sym (ap lines_text (own_lines acting.name said))))
  own_at other there at concerned (inr elsewhere_) = absurd (true≢false (sym concerned ∙ is_its there ∙ away there elsewhere_.differ))

  others_at : (other : ℕ) (there : Acting) → slice_get scene other ≡ Some there → concerns there.name move ≡ false → (place ≡ other) ⊎ Elsewhere scene place other acting there then_ → (slice_get (slice_set scene place then_) other ≡ Some there) × (lines_on there.name lines ≡ [])
  others_at other there at apart (inl same) =
      let it : acting ≡ there = same_Some acting there (sym here ∙ ap (slice_get scene) same ∙ at) in
      absurd (true≢false (sym it_is_named ∙ ap (λ (x : Acting). bytes_eq x.name realm) it ∙ sym (is_its there) ∙ apart))
  others_at other there at apart (inr elsewhere_) = (elsewhere_.stays, other_lines there.name acting.name said elsewhere_.differ)

-- a realm that is not there
nowhere : (move : Move) (realm : List ℕ) (scene next : Scene) (said : Option (List ℕ)) → is_spelled move ≡ true → elsewhere move ≡ said → realm_of move ≡ Some realm → slice_get scene (place_of realm scene) ≡ None → (with_text said scene).scene ≡ Some next → Steps move scene next (with_text said scene).printed
nowhere move realm scene next None spelled is names_it none goes = absurd (none-some next goes)
nowhere move realm scene next (Some said) spelled is names_it none goes = subst (λ (s : Scene). Steps move scene s said) (same_Some scene next goes) (record {
  lines = said_by there.realm there.said;
  text_is = there.text_is;
  spelled = spelled_by there.realm there.said (spelled_there move there.realm spelled there.named);
  named = refl;
  own = λ place acting here concerned. absurd (true≢false (sym concerned ∙ is_its acting ∙ not_named realm scene place acting none here));
  others = λ place acting here apart. (here, other_lines acting.name there.realm there.said (sym (ap (bytes_eq acting.name) same) ∙ not_named realm scene place acting none here));
  silent = λ name not_there. quiet_by name there.realm there.said there.quiet;
}) where
  there : IsElsewhere move said
  there = elsewhere_said move said is

  same : realm ≡ there.realm
  same = same_Some realm there.realm (sym names_it ∙ there.named)

  is_its : (acting : Acting) → concerns acting.name move ≡ bytes_eq acting.name realm
  is_its acting = ap (λ (r : Option (List ℕ)). option_map_or (bytes_eq acting.name) r true) names_it

-- All realms start again

-- what each says, under its name
abbrev pub each_says : (Acting → List Saying) → Scene → List Line
each_says f scene = flat_map (λ (acting : Acting). said_by acting.name (f acting)) scene

says_cons : (f : Acting → List Saying) (a : Acting) (scene : Scene) → each_says f (a ∷ scene) ≡ said_by a.name (f a) ++ each_says f scene
says_cons f a scene = flat_map-cons (λ (acting : Acting). said_by acting.name (f acting)) a scene

pub each_text : (f : Acting → List Saying) (text : Acting → List ℕ) → ((a : Acting) → text a ≡ flat_map (saying_text a.name) (f a)) → (scene : Scene) → flat_map text scene ≡ lines_text (each_says f scene)
each_text f text same [] = refl
each_text f text same (a ∷ scene) =
    flat_map-cons text a scene
    ∙ ap (λ t. t ++ flat_map text scene) (same a ∙ sym (text_said a.name (f a)))
    ∙ ap (λ t. lines_text (said_by a.name (f a)) ++ t) (each_text f text same scene)
    ∙ sym (ap lines_text (says_cons f a scene) ∙ flat_map-append line_text (said_by a.name (f a)) (each_says f scene))

pub each_spelled : (f : Acting → List Saying) (scene : Scene) → list_all (λ (a : Acting). is_realm a.name) scene ≡ true → are_spelled (each_says f scene) ≡ true
each_spelled f [] all = refl
each_spelled f (a ∷ scene) all =
    let parts = and_parts (is_realm a.name) (list_all (λ (x : Acting). is_realm x.name) scene) all in
    ap are_spelled (says_cons f a scene) ∙ spelled_on (said_by a.name (f a)) (each_says f scene) (spelled_by a.name (f a) parts.0) (each_spelled f scene parts.1)

each_silent : (f : Acting → List Saying) (scene : Scene) → IsSilent (each_says f scene) scene
each_silent f [] name none = refl
each_silent f (a ∷ scene) name none =
    let parts = or_parts (bytes_eq a.name name) _ none in
    ap (shown_of name) (says_cons f a scene)
    ∙ filter_map-append (shown_on name) (said_by a.name (f a)) (each_says f scene)
    ∙ ap (λ l. l ++ shown_of name (each_says f scene)) (shown_said_by name a.name (f a) ∙ ap (λ b. cond b (outputs_of (f a)) []) (differs a.name name parts.0))
    ∙ each_silent f scene name parts.1

lines_cons : (name : List ℕ) (f : Acting → List Saying) (a : Acting) (scene : Scene) → lines_on name (each_says f (a ∷ scene)) ≡ lines_on name (said_by a.name (f a)) ++ lines_on name (each_says f scene)
lines_cons name f a scene = ap (lines_on name) (says_cons f a scene) ∙ filter-append (λ (line : Line). bytes_eq name line.0) (said_by a.name (f a)) (each_says f scene)

none_says : (f : Acting → List Saying) (name : List ℕ) (scene : Scene) → list_any (bytes_eq name) (names scene) ≡ false → lines_on name (each_says f scene) ≡ []
none_says f name [] apart = refl
none_says f name (a ∷ scene) apart =
    let parts = or_parts (bytes_eq name a.name) _ apart in
    lines_cons name f a scene ∙ ap (λ l. l ++ lines_on name (each_says f scene)) (other_lines name a.name (f a) parts.0) ∙ none_says f name scene parts.1

pub one_says : (f : Acting → List Saying) (scene : Scene) (place : ℕ) (acting : Acting) → are_distinct bytes_eq (names scene) ≡ true → slice_get scene place ≡ Some acting → lines_on acting.name (each_says f scene) ≡ said_by acting.name (f acting)
one_says f [] place acting distinct here = absurd (none-some acting here)
one_says f (a ∷ scene) zero acting distinct here =
    subst (λ (x : Acting). lines_on x.name (each_says f (a ∷ scene)) ≡ said_by x.name (f x)) (same_Some a acting here)
    (lines_cons a.name f a scene
    ∙ ap (λ l. l ++ lines_on a.name (each_says f scene)) (own_lines a.name (f a))
    ∙ ap (λ l. said_by a.name (f a) ++ l) (none_says f a.name scene (not-true _ (and_parts _ _ distinct).0))
    ∙ append-nil (said_by a.name (f a)))
one_says f (a ∷ scene) (suc place) acting distinct here =
    let apart : bytes_eq acting.name a.name ≡ false = differs a.name acting.name (unlike_at a.name scene place acting (not-true _ (and_parts _ _ distinct).0) here) in
    lines_cons acting.name f a scene
    ∙ ap (λ l. l ++ lines_on acting.name (each_says f scene)) (other_lines acting.name a.name (f a) apart)
    ∙ one_says f scene place acting (and_parts _ _ distinct).1 here

abbrev again : Acting → Acting
again acting = (restarts acting).acting

abbrev drops : Acting → List ℕ
drops acting = (restarts acting).printed

-- the branches that it lets go
abbrev drops_said : Acting → List Saying
drops_said acting = map Shows (all_over (Restart (boxes_in acting.world.rows)) acting.world).shown

drops_are : (acting : Acting) → drops acting ≡ flat_map (saying_text acting.name) (drops_said acting)
drops_are acting = shown_said acting.name (all_over (Restart (boxes_in acting.world.rows)) acting.world).shown

mapped : (scene : Scene) (place : ℕ) (acting : Acting) → slice_get scene place ≡ Some acting → slice_get (map again scene) place ≡ Some (again acting)
mapped [] place acting here = absurd (none-some acting here)
mapped (a ∷ scene) zero acting here = ap (λ (x : Acting). Some (again x)) (same_Some a acting here)
mapped (a ∷ scene) (suc place) acting here = mapped scene place acting here

names_again : (scene : Scene) → names (map again scene) ≡ names scene
names_again [] = refl
names_again (a ∷ scene) = ap (λ l. a.name ∷ l) (names_again scene)

named_again : (name : List ℕ) (scene : Scene) → list_any (is_named name) (map again scene) ≡ list_any (is_named name) scene
named_again name [] = refl
named_again name (a ∷ scene) = ap (λ b. bytes_eq a.name name || b) (named_again name scene)

spelled_again : (scene : Scene) → list_all (λ (a : Acting). is_realm a.name) (map again scene) ≡ list_all (λ (a : Acting). is_realm a.name) scene
spelled_again [] = refl
spelled_again (a ∷ scene) = ap (λ b. is_realm a.name && b) (spelled_again scene)

not_at_end : (scene : Scene) (place : ℕ) (acting : Acting) → list_any is_at_end scene ≡ false → slice_get scene place ≡ Some acting → is_at_end acting ≡ false
not_at_end [] place acting none here = absurd (none-some acting here)
not_at_end (a ∷ scene) zero acting none here = ap is_at_end (sym (same_Some a acting here)) ∙ (or_parts (is_at_end a) _ none).0
not_at_end (a ∷ scene) (suc place) acting none here = not_at_end scene place acting (or_parts (is_at_end a) _ none).1 here

all_again : (move : Move) (scene next : Scene) → are_distinct bytes_eq (names scene) ≡ true → list_all (λ (a : Acting). is_realm a.name) scene ≡ true → realm_of move ≡ None → (scenes.restarted scene).scene ≡ Some next → Steps move scene next (scenes.restarted scene).printed
all_again move scene next distinct spelled names_none goes = at (list_any is_at_end scene) refl goes where
  then_ : scenes.Moved
  then_ = record { printed = flat_map drops scene ++ openings_text (map again scene); scene = Some (map again scene) }

  first : List Line
  first = each_says drops_said scene

  second : List Line
  second = each_says opening_said (map again scene)

  first_text : flat_map drops scene ≡ lines_text first
  first_text = each_text drops_said drops drops_are scene

  second_text : openings_text (map again scene) ≡ lines_text second
  second_text = each_text opening_said opening_text opening_is (map again scene)

  own_text : (place : ℕ) (acting : Acting) → slice_get scene place ≡ Some acting → lines_text (lines_on acting.name (first ++ second)) ≡ drops acting ++ opening_text (again acting)
  own_text place acting here =
      ap lines_text (filter-append (λ (line : Line). bytes_eq acting.name line.0) first second
      ∙ ap (λ l. l ++ lines_on acting.name second) (one_says drops_said scene place acting distinct here)
      ∙ ap (λ l. said_by acting.name (drops_said acting) ++ l) (one_says opening_said (map again scene) place (again acting) (ap (are_distinct bytes_eq) (names_again scene) ∙ distinct) (mapped scene place acting here)))
      ∙ flat_map-append line_text (said_by acting.name (drops_said acting)) (said_by acting.name (opening_said (again acting)))
      ∙ ap (λ t. t ++ lines_text (said_by acting.name (opening_said (again acting)))) (text_said acting.name (drops_said acting) ∙ sym (drops_are acting))
      ∙ ap (λ t. drops acting ++ t) (text_said acting.name (opening_said (again acting)) ∙ sym (opening_is (again acting)))

  alone : (acting : Acting) → is_at_end acting ≡ false → moved move (acting ∷ []) ≡ record { printed = drops acting ++ opening_text (again acting); scene = Some (again acting ∷ []) }
  alone acting not_last =
      ap (λ r. moved_in move r (acting ∷ [])) names_none
      ∙ ap (λ (b : Bool). cond (b || false) scenes.fault (record { printed = flat_map drops (acting ∷ []) ++ openings_text (again acting ∷ []); scene = Some (again acting ∷ []) })) not_last
      ∙ ap (λ t. record { printed = t; scene = Some (again acting ∷ []) })
      (ap (λ t. t ++ openings_text (again acting ∷ [])) (flat_map-cons drops acting [] ∙ append-nil (drops acting))
      ∙ ap (λ t. drops acting ++ t) (flat_map-cons opening_text (again acting) [] ∙ append-nil (opening_text (again acting))))

  at : (last : Bool) → list_any is_at_end scene ≡ last → (cond last scenes.fault then_).scene ≡ Some next → Steps move scene next (cond last scenes.fault then_).printed
  at true is goes = absurd (none-some next goes)
  at false is goes = subst (λ (s : Scene). Steps move scene s then_.printed) (same_Some (map again scene) next goes) (record {
    lines = first ++ second;
    text_is = ap (λ t. t ++ openings_text (map again scene)) first_text ∙ ap (λ t. lines_text first ++ t) second_text ∙ sym (flat_map-append line_text first second);
    spelled = spelled_on first second (each_spelled drops_said scene spelled) (each_spelled opening_said (map again scene) (spelled_again scene ∙ spelled));
    named = names_again scene;
    own = λ place acting here concerned. (again acting, mapped scene place acting here, refl, alone acting (not_at_end scene place acting is here) ∙ ap (λ t. record { printed = t; scene = Some (again acting ∷ []) }) (sym (own_text place acting here)));
    others = λ place acting here apart. absurd (true≢false (sym (ap (λ (r : Option (List ℕ)). option_map_or (bytes_eq acting.name) r true) names_none) ∙ apart));
    silent = λ name none. filter_map-append (shown_on name) first second ∙ ap (λ l. l ++ shown_of name second) (each_silent drops_said scene name none) ∙ each_silent opening_said (map again scene) name (named_again name scene ∙ none);
  })

steps_at : (move : Move) (realm : List ℕ) (scene next : Scene) (found : Option Acting) → is_spelled move ≡ true → are_distinct bytes_eq (names scene) ≡ true → list_all (λ (a : Acting). is_realm a.name) scene ≡ true → realm_of move ≡ Some realm → slice_get scene (place_of realm scene) ≡ found → ((acting : Acting) (d : Done) → slice_get scene (place_of realm scene) ≡ Some acting → does move acting ≡ Some d → Did (IsMade acting.world move) acting (settles d)) → (moved_at move (place_of realm scene) found scene).scene ≡ Some next → Steps move scene next (moved_at move (place_of realm scene) found scene).printed
steps_at move realm scene next None spelled distinct all names_it here did goes = nowhere move realm scene next (elsewhere move) spelled refl names_it here goes
steps_at move realm scene next (Some acting) spelled distinct all names_it here did goes = named_one move realm scene next acting (does move acting) distinct (spelled_at scene (place_of realm scene) acting all here) names_it here refl (λ d is. did acting d here is) goes

steps_in : (move : Move) (realm : Option (List ℕ)) (scene next : Scene) → is_spelled move ≡ true → are_distinct bytes_eq (names scene) ≡ true → list_all (λ (a : Acting). is_realm a.name) scene ≡ true → realm_of move ≡ realm → ((place : ℕ) (acting : Acting) (d : Done) → slice_get scene place ≡ Some acting → does move acting ≡ Some d → Did (IsMade acting.world move) acting (settles d)) → (moved_in move realm scene).scene ≡ Some next → Steps move scene next (moved_in move realm scene).printed
steps_in move None scene next spelled distinct all is did goes = all_again move scene next distinct all is goes
steps_in move (Some realm) scene next spelled distinct all is did goes = steps_at move realm scene next (slice_get scene (place_of realm scene)) spelled distinct all is refl (λ acting d here does_it. did (place_of realm scene) acting d here does_it) goes

-- Lines one after another

-- whoever has a name has it still
names_of_named : (name : List ℕ) (scene : Scene) → list_any (is_named name) scene ≡ list_any (λ other. bytes_eq other name) (names scene)
names_of_named name [] = refl
names_of_named name (a ∷ scene) = ap (λ b. bytes_eq a.name name || b) (names_of_named name scene)

-- a line is done, and then the others
then_all : (move : Move) (moves : List Move) (scene mid next : Scene) → (moved move scene).scene ≡ Some mid → Steps move scene mid (moved move scene).printed → IsAlone moves mid next (all_moved moves mid).printed → IsAlone (move ∷ moves) scene next ((moved move scene).printed ++ (all_moved moves mid).printed)
then_all move moves scene mid next goes step rest = record {
  lines = step.lines ++ rest.lines;
  text_is = ap (λ t. t ++ (all_moved moves mid).printed) step.text_is ∙ ap (λ t. lines_text step.lines ++ t) rest.text_is ∙ sym (flat_map-append line_text step.lines rest.lines);
  spelled = spelled_on step.lines rest.lines step.spelled rest.spelled;
  each = λ place acting here. at place acting here (concerns acting.name move) refl;
  silent = λ name none.
      filter_map-append (shown_on name) step.lines rest.lines
      ∙ ap (λ l. l ++ shown_of name rest.lines) (step.silent name none)
      ∙ rest.silent name (names_of_named name mid ∙ ap (list_any (λ other. bytes_eq other name)) step.named ∙ sym (names_of_named name scene) ∙ none);
} where
  Is : ℕ → Acting → List Move → Type 0
  Is place acting mine = (now : Acting) × (slice_get next place ≡ Some now) × (all_moved mine (acting ∷ []) ≡ record { printed = lines_text (lines_on acting.name (step.lines ++ rest.lines)); scene = Some (now ∷ []) })

  text_of : (name : List ℕ) → lines_text (lines_on name (step.lines ++ rest.lines)) ≡ lines_text (lines_on name step.lines) ++ lines_text (lines_on name rest.lines)
  text_of name = ap lines_text (filter-append (λ (line : Line). bytes_eq name line.0) step.lines rest.lines) ∙ flat_map-append line_text (lines_on name step.lines) (lines_on name rest.lines)

  at : (place : ℕ) (acting : Acting) → slice_get scene place ≡ Some acting → (concerned : Bool) → concerns acting.name move ≡ concerned → Is place acting (cond concerned (move ∷ own acting.name moves) (own acting.name moves))
  at place acting here true is =
      let one = step.own place acting here is in
      let more = rest.each place one.0 one.1 in
      let mine : all_moved (own acting.name moves) (one.0 ∷ []) ≡ record { printed = lines_text (lines_on acting.name rest.lines); scene = Some (more.0 ∷ []) } = subst (λ n. all_moved (own n moves) (one.0 ∷ []) ≡ record { printed = lines_text (lines_on n rest.lines); scene = Some (more.0 ∷ []) }) one.2 more.2 in (
        more.0,
        more.1,
        ap (λ (m : scenes.Moved). and_then m.printed m.scene (all_moved (own acting.name moves))) one.3
            ∙ ap (λ (m : scenes.Moved). record { printed = lines_text (lines_on acting.name step.lines) ++ m.printed; scene = m.scene }) mine
            ∙ ap (λ t. record { printed = t; scene = Some (more.0 ∷ []) }) (sym (text_of acting.name)),
      )
  at place acting here false is =
      let away = step.others place acting here is in
      let more = rest.each place acting away.0 in
      (more.0, more.1, more.2 ∙ ap (λ t. record { printed = t; scene = Some (more.0 ∷ []) }) (ap (λ (l : List Line). lines_text l ++ lines_text (lines_on acting.name rest.lines)) (sym away.1) ∙ sym (text_of acting.name)))

-- ONE LINE, in a scene that was reached
pub step_of : {asked : List ℕ → List Move} (basis : Basis) (declarations : List Declaration) (text : List ℕ) (move : Move) (scene next : Scene) → is_spelled move ≡ true → Mixed basis declarations asked text scene → (moved move scene).scene ≡ Some next → Steps move scene next (moved move scene).printed
step_of basis declarations text move scene next spelled mixed goes = steps_in move (realm_of move) scene next spelled distinct all_spelled refl did_it goes where
  distinct : are_distinct bytes_eq (names scene) ≡ true
  distinct = ap (are_distinct bytes_eq) (same_names _ basis mixed.lines mixed.histories scene mixed.each) ∙ mixed.named

  all_spelled : list_all (λ (a : Acting). is_realm a.name) scene ≡ true
  all_spelled = spelled_names _ basis mixed.lines mixed.histories scene mixed.each

  did_it : (place : ℕ) (acting : Acting) (d : Done) → slice_get scene place ≡ Some acting → does move acting ≡ Some d → Did (IsMade acting.world move) acting (settles d)
  did_it place acting d here does_it = did_settle move acting d (did move acting d (sound_at _ basis mixed.lines mixed.histories scene place acting mixed.each here) (numbered_at _ basis mixed.lines mixed.histories scene place acting mixed.each here) does_it)

alone_on : (basis : Basis) (declarations : List Declaration) (said : List Move) (text : List ℕ) (moves : List Move) (scene next : Scene) → list_all is_spelled moves ≡ true → Mixed basis declarations (of_all said) text scene → (all_moved moves scene).scene ≡ Some next → IsAlone moves scene next (all_moved moves scene).printed
alone_on basis declarations said text [] scene next spelled mixed goes = subst (λ (s : Scene). IsAlone [] scene s []) (same_Some scene next goes) (record { lines = []; text_is = refl; spelled = refl; each = λ place acting here. (acting, here, refl); silent = λ name none. refl })
alone_on basis declarations said text (move ∷ moves) scene next spelled mixed goes = at (moved move scene).scene refl goes (λ mid on. alone_on basis declarations (said ++ move ∷ []) (text ++ (moved move scene).printed) moves mid next (and_parts (is_spelled move) (list_all is_spelled moves) spelled).1 on) where
  printed : List ℕ
  printed = (moved move scene).printed

  own_spelled : is_spelled move ≡ true
  own_spelled = (and_parts (is_spelled move) (list_all is_spelled moves) spelled).0

  at : (mid : Option Scene) → (moved move scene).scene ≡ mid → (and_then printed mid (all_moved moves)).scene ≡ Some next → ((later : Scene) → Mixed basis declarations (of_all (said ++ move ∷ [])) (text ++ printed) later → (all_moved moves later).scene ≡ Some next → IsAlone moves later next (all_moved moves later).printed) → IsAlone (move ∷ moves) scene next (and_then printed mid (all_moved moves)).printed
  at None is goes more = absurd (none-some next goes)
  at (Some mid) is goes more = then_all move moves scene mid next is (step_of basis declarations text move scene mid own_spelled mixed is) (more mid ((goes_to basis declarations said move text scene own_spelled mixed).on mid is) goes)

-- The realms that a script declares

module _ (basis : Basis) (written : AreWritten basis) where
  same_Reached : (a b : Stage) → Reached a ≡ Reached b → a ≡ b
  same_Reached a b same = ap stage_of same where
    stage_of : Ending → Stage
    stage_of (Reached s) = s
    stage_of (Fault n) = a

  reached : (declarations : List Declaration) (said : List Move) (text : List ℕ) (stage next : Stage) (number : ℕ) (lines : List (List ℕ)) → Stands basis declarations said text stage → (played basis stage number lines).ending ≡ Reached next → (now : List Move) × Stands basis (declared_at basis declarations stage lines) now (text ++ (played basis stage number lines).printed) next
  reached declarations said text stage next number [] stands is = (
    said,
    subst (λ ds. Stands basis ds said (text ++ []) next) (declared_in_end basis declarations stage)
        (subst (Stands basis (at_stage declarations stage) said (text ++ [])) (same_Reached stage next is) (stays basis written declarations said text stage stands)),
  )
  reached declarations said text stage next number (line ∷ lines) stands is = at (act_of basis stage line).stage refl is (λ mid on. reached (at_stage declarations stage) (then_said said (asked_in line) mid) (text ++ (act_of basis stage line).printed) mid next (number + 1) lines on) where
    here : List ℕ
    here = (act_of basis stage line).printed

    So : (mid : Option Stage) → Type 0
    So mid = (now : List Move) × Stands basis (declared_at basis declarations stage (line ∷ lines)) now (text ++ (played_on here mid number (λ later. played basis later (number + 1) lines)).printed) next

    at : (mid : Option Stage) → (act_of basis stage line).stage ≡ mid → (played_on here mid number (λ later. played basis later (number + 1) lines)).ending ≡ Reached next → ((later : Stage) → Stands basis (at_stage declarations stage) (then_said said (asked_in line) later) (text ++ here) later → (played basis later (number + 1) lines).ending ≡ Reached next → (now : List Move) × Stands basis (declared_at basis (at_stage declarations stage) later lines) now ((text ++ here) ++ (played basis later (number + 1) lines).printed) next) → So mid
    at None was is more = absurd (fault_is_not is) where
      fault_is_not : Fault number ≡ Reached next → ⊥
      fault_is_not same = absurd (cc)
    at (Some mid) was is more =
        let then_ = more mid ((line_so basis written declarations said text stage line stands).on mid was) is in (
          then_.0,
          subst (λ ds. Stands basis ds then_.0 (text ++ (here ++ (played basis mid (number + 1) lines).printed)) next) (declared_then basis declarations stage mid line lines was)
              (subst (λ t. Stands basis (declared_at basis (at_stage declarations stage) mid lines) then_.0 t next) (append_assoc text here (played basis mid (number + 1) lines).printed) then_.1),
        )

  pub each_alone : (lines : List (List ℕ)) (declarations : List Declaration) (moves : List Move) (next : Scene) → (played basis (Declaring []) 1 lines).ending ≡ Reached (Declaring declarations) → list_all is_spelled moves ≡ true → (all_moved moves (scene_of basis declarations)).scene ≡ Some next → IsAlone moves (scene_of basis declarations) next (all_moved moves (scene_of basis declarations)).printed
  each_alone lines declarations moves next declares spelled goes =
      let stands = (reached [] [] [] (Declaring []) (Declaring declarations) 1 lines (nothing_yet basis) declares).1 in
      alone_on basis declarations [] (starts_text basis declarations) moves (scene_of basis declarations) next spelled (started basis declarations written stands.0) goes
