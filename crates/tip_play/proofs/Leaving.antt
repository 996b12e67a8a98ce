-- What a script leaves whose line may not stand there.
use Rattle.std.proofs.Common.{◌≡◌, ◌≢◌, ◌⊎◌, ◌≤◌, ◌<◌, ◌+◌, ◌++◌, ◌∷◌, [], ℕ, List, Bool, true, false, cond, Option, Some, None, Ok, Err, Result, length, map, arith, inl, inr, refl, sym, ap, ◌∙◌, subst, length-append}
use Rattle.std.specs.Option.{option_map_or}
use Rattle.std.proofs.lemmas.Bool.{false≢true, le-leb, lt-leb}
use Rattle.std.proofs.lemmas.List.{append-nil, append_assoc}
use Rattle.std.specs.Prelude.{IfOk}
use Rattle.std.proofs.lemmas.Option.{none-some}
use Rattle.std.proofs.KnownBytes.{Consumes-trans}
use Rattle.script_lines.specs.Lines.{AreOfLine, IsTooLong, Reads, is_line_feed, longest_line}
use Rattle.script_lines.proofs.Reading.{known_end, whole_read}
use Rattle.script_lines.specs.declared.line.LineEnd.{LineEnd}
use Rattle.script_lines.specs.declared.line.LineEnd.TheVariants.{LineFeed, EndOfInput, TooLong}
use Rattle.tip_rows.specs.Keys.{Key}
use Rattle.tip_rows.specs.Logs.{Keeping}
use Rattle.tip_rows.specs.declared.row.Row.{Row}
use Rattle.tip_script.specs.Scripts.{Move, move_of}
use Rattle.tip_actor.specs.Acting.{Acting}
use Rattle.tip_actor.specs.Halting.{AllStay}
use Rattle.tip_actor.specs.Standing.{IsStored}
use Rattle.tip_scene.specs.Acts.{Basis, Declaring, Playing, Stage, acted, closing_of, may_say}
use Rattle.tip_scene.specs.Blaming.{scene_in, starting_from}
use Rattle.tip_scene.specs.Leaving.{HaltsAt, HaltsAtEnd, HaltsBy, HaltsIf, IsLeft, MayRise, OthersStay, is_among, is_first_start, is_starting, names_in, scene_behind, starts_before}
use Rattle.tip_scene.specs.Scenes.{Scene}
use Rattle.tip_scene.specs.Stages.{AStage, IsStage, Trusts, store_of}
use Rattle.tip_scene.specs.declared.stage.Stage.TheVariants as stage
use Rattle.tip_scene.proofs.Halting.{same_rise}
use Rattle.tip_scene.proofs.Leaving.{none_done, others_on, scene_names, scene_stored}
use Rattle.tip_play.specs.Endings.{unflushed}
use Rattle.tip_play.specs.Leaving.{HasDone, IsCutShort, Leaves, LeavesAfter, LeavesAtEnd, LeavesAtFault, LeavesAtLine, LeavesBehind, LeavesShort, LeavesUnwritten, left_at, starts_next}
use Rattle.tip_play.specs.Transcripts.{Played, Reached, all_played, ended, lines_of, played, played_of, unended}
use Rattle.tip_play.proofs.Transcribing.{plays_line}
use Rattle.tip_play.specs.Writing.{Acts, ClosesOn, HasCome}
use Rattle.tip_play.specs.declared.fault.PlayFault.{PlayFault}
use Rattle.tip_play.specs.declared.fault.PlayFault.TheVariants as fault
use Rattle.tip_play.proofs.Cutting.{all_lines, ended_feed, first_line, last_line, not_is}
use Rattle.tip_play.proofs.Lines.{IsNext, next_line, next_now}
use Rattle.tip_play.proofs.Reading.{Goes, HasEnded, HasRead, LeavesFrom, behind_feed, ended_at, grows_last, leaves_end, leaves_more, of_whole, still_going}

module _ {S : Type 0} (kept : Keeping S) (basis : Basis) where
  -- What is stored from the first line on

  -- the realms at work are stored as they are there
  left_now : (first : S) (code : AStage S) (now : Stage) → IsStage kept basis code now → LeavesFrom kept basis first code → IsLeft kept (scene_in now) first (store_of code)
  left_now first (stage.Declaring realms) (Declaring declarations) is from = record { stored = λ place acting here. absurd (none-some acting here); starts = from.starts; others = from.others }
  left_now first (stage.Declaring realms) (Playing scene) is from = absurd is
  left_now first (stage.Playing playing) (Declaring declarations) is from = absurd is
  left_now first (stage.Playing playing) (Playing scene) is from = record {
    stored = scene_stored kept playing.stored_core playing.actors.items scene is;
    starts = from.starts;
    others = subst (λ names. OthersStay kept from.starts names first playing.stored_core.store) (scene_names kept playing.stored_core playing.actors.items scene is) from.others;
  }

  left_then : (first : S) (code : AStage S) (scene : Scene) (store : S) → LeavesFrom kept basis first code → ((name : List ℕ) → is_among (map (λ (a : Acting). a.name) scene) name ≡ false → is_among (names_in code) name ≡ false) → IsLeft kept scene (store_of code) store → IsLeft kept scene first store
  left_then first code scene store from grows left = record {
    stored = left.stored;
    starts = from.starts + left.starts;
    others = others_on kept from.starts left.starts (names_in code) (map (λ (a : Acting). a.name) scene) first (store_of code) store grows from.others left.others;
  }

  -- a line that may not stand there starts none that was at work
  behind_at_work : (scene : Scene) (move : Option Move) → scene_behind basis (Playing scene) move ≡ scene
  behind_at_work scene None = refl
  behind_at_work scene (Some move) = by (may_say basis.may_refuse move) (is_starting move) where
    by : (a b : Bool) → cond a (cond b scene scene) scene ≡ scene
    by true true = refl
    by true false = refl
    by false b = refl

  grows_behind : (code : AStage S) (now : Stage) (move : Option Move) → IsStage kept basis code now → (name : List ℕ) → is_among (map (λ (a : Acting). a.name) (scene_behind basis now move)) name ≡ false → is_among (names_in code) name ≡ false
  grows_behind (stage.Declaring realms) now move is name apart = refl
  grows_behind (stage.Playing playing) (Declaring declarations) move is name apart = absurd is
  grows_behind (stage.Playing playing) (Playing scene) move is name apart =
      ap (λ names. is_among names name) (scene_names kept playing.stored_core playing.actors.items scene is) ∙ subst (λ (s : Scene). is_among (map (λ (a : Acting). a.name) s) name ≡ false) (behind_at_work scene move) apart

  -- The line

  short_at : (now : Stage) (line : List ℕ) → length line ≤ longest_line → left_at basis now line ≡ scene_behind basis now (move_of line)
  short_at now line short = rw (le-leb (length line) longest_line short) refl

  long_at : (now : Stage) (line : List ℕ) → longest_line < length line → left_at basis now line ≡ scene_in now
  long_at now line long = rw (lt-leb (length line) longest_line long) refl

  -- where it stands in its script, and what was reached before it
  pub record StandsAt (script : List ℕ) (number : ℕ) (now : Stage) (line : List ℕ) : Type 0 where
    pub before : List (List ℕ)
    pub behind : List (List ℕ)
    pub lines : lines_of script ≡ before ++ line ∷ behind
    pub count : number ≡ length before + 1
    pub reached : (played basis (Declaring []) 1 before).ending ≡ Reached now
    pub short : length line ≤ longest_line

  stands_left : (script : List ℕ) (number : ℕ) (now : Stage) (line : List ℕ) (first store : S) → StandsAt script number now line → IsLeft kept (scene_behind basis now (move_of line)) first store → LeavesBehind kept basis script number first store
  stands_left script number now line first store at left = record {
    before = at.before;
    line = line;
    behind = at.behind;
    lines = at.lines;
    count = at.count;
    stage = now;
    reached = at.reached;
    left = subst (λ s. IsLeft kept s first store) (sym (short_at now line at.short)) left;
  }

  module _ (stage : AStage S) (number : ℕ) (read line : List ℕ) (old mid : Option (List ℕ)) (first store : S) (next : IsNext kept basis stage number read line old mid) where
    -- it has an end
    fed : (rest : List ℕ) → StandsAt ((read ++ line) ++ 10 ∷ rest) number next.now (unended (read ++ line))
    fed rest = record { before = ended (read ++ line); behind = _; lines = all_lines (read ++ line) (10 ∷ rest); count = next.count; reached = next.reached; short = next.short }

    -- it is the last one
    last : StandsAt (read ++ line) number next.now (unended (read ++ line))
    last = record { before = ended (read ++ line); behind = []; lines = last_line (read ++ line); count = next.count; reached = next.reached; short = next.short }

    -- it has an octet too many
    long_line : (rest : List ℕ) (octet : ℕ) → is_line_feed octet ≡ false → length line ≡ longest_line → IsLeft kept (scene_in next.now) first store → LeavesBehind kept basis ((read ++ line) ++ octet ∷ rest) number first store
    long_line rest octet other full left =
        let begins = first_line (unended (read ++ line) ++ octet ∷ []) rest in
        let come = ap length next.left in
        let more : longest_line < length ((unended (read ++ line) ++ octet ∷ []) ++ begins.more) = simp length-append (omega (arith, come, full)) in record {
          before = ended (read ++ line);
          line = (unended (read ++ line) ++ octet ∷ []) ++ begins.more;
          behind = begins.others;
          lines = all_lines (read ++ line) (octet ∷ rest) ∙ ap (λ l. ended (read ++ line) ++ l) (rw other begins.are);
          count = next.count;
          stage = next.now;
          reached = next.reached;
          left = subst (λ s. IsLeft kept s first store) (sym (long_at next.now ((unended (read ++ line) ++ octet ∷ []) ++ begins.more) more)) left;
        }

  module _ (stage : AStage S) (number : ℕ) (script : List ℕ) (left left' old mid : Option (List ℕ)) (line : List ℕ) (first store : S) (so : HasRead kept basis stage number (Some script) left old mid) where
    next_to : AreOfLine line → IsNext kept basis stage number so.read line old mid
    next_to are = next_line kept basis stage number so.read line old mid so.played are

    at_next : (are : AreOfLine line) → (next_to are).now ≡ so.played.now
    unfolding next_to
    at_next are = next_now kept basis stage number so.read line old mid so.played are

    -- as it was read
    as_read : (script : List ℕ) (are : AreOfLine line) → StandsAt script number (next_to are).now (unended (so.read ++ line)) → StandsAt script number so.played.now line
    as_read script are at = subst (λ n. StandsAt script number n line) (at_next are) (subst (StandsAt script number (next_to are).now) (next_to are).left at)

    line_at : (end : LineEnd) → end ≢ TooLong → Reads left left' line (Ok end) → StandsAt script number so.played.now line
    line_at LineFeed other reads =
        of_whole kept basis (Some script) left' (so.read ++ (line ++ 10 ∷ [])) (λ s. StandsAt s number so.played.now line) (Consumes-trans (Some script) left left' so.read (line ++ 10 ∷ []) so.consumed reads.1)
        (λ rest. subst (λ s. StandsAt s number so.played.now line) (sym (behind_feed kept basis so.read line rest)) (as_read ((so.read ++ line) ++ 10 ∷ rest) reads.0 (fed stage number so.read line old mid first store (next_to reads.0) rest)))
    line_at EndOfInput other reads =
        whole_read (Some script) left' (so.read ++ line) (λ s. StandsAt s number so.played.now line) (Consumes-trans (Some script) left left' so.read line so.consumed reads.1) (known_end (Some script) left left' so.read so.consumed reads.2) (as_read (so.read ++ line) reads.0 (last stage number so.read line old mid first store (next_to reads.0)))
    line_at TooLong other reads = absurd (other refl)

    line_left : (end : LineEnd) → end ≢ TooLong → Reads left left' line (Ok end) → IsLeft kept (scene_behind basis so.played.now (move_of line)) first store → LeavesBehind kept basis script number first store
    line_left end other reads leaves = stands_left script number so.played.now line first store (line_at end other reads) leaves

    long_left : AreOfLine line → (long : IsTooLong left left' line) → ((now : Stage) → IsStage kept basis stage now → IsLeft kept (scene_in now) first store) → LeavesBehind kept basis script number first store
    long_left are long leaves =
        let next = next_to are in
        let octet = long.octet in
        of_whole kept basis (Some script) left' (so.read ++ (line ++ octet ∷ [])) (λ s. LeavesBehind kept basis s number first store) (Consumes-trans (Some script) left left' so.read (line ++ octet ∷ []) so.consumed long.taken)
        (λ rest. subst (λ s. LeavesBehind kept basis s number first store) (sym (ap (λ l. l ++ rest) (sym (append_assoc so.read line (octet ∷ []))) ∙ append_assoc (so.read ++ line) (octet ∷ []) rest))
        (long_line stage number so.read line old mid first store next rest octet (not_is (is_line_feed octet) long.inner) long.full (leaves next.now next.stands)))

  -- the line was done, and what is left is what the realms are behind it
  module _ (stage : AStage S) (number : ℕ) (script : List ℕ) (left left' old mid : Option (List ℕ)) (line : List ℕ) (first store : S) (after : Stage) (so : HasRead kept basis stage number (Some script) left old mid) where
    done_of : AreOfLine line → (acted basis so.played.now line).stage ≡ Some after → (played_of basis ((so.read ++ line) ++ 10 ∷ [])).ending ≡ Reached after
    done_of are does =
        let next = next_line kept basis stage number so.read line old mid so.played are in
        ap (λ (p : Played). p.ending) (plays_line basis (so.read ++ line) next.now after next.reached next.short (ap (λ l. (acted basis next.now l).stage) next.left ∙ ap (λ n. (acted basis n line).stage) (next_now kept basis stage number so.read line old mid so.played are) ∙ does))

    done_left : (end : LineEnd) → end ≢ TooLong → Reads left left' line (Ok end) → (acted basis so.played.now line).stage ≡ Some after → IsLeft kept (scene_in after) first store → LeavesAfter kept basis script first store
    done_left LineFeed other reads does here =
        let reached = done_of reads.0 does in
        of_whole kept basis (Some script) left' (so.read ++ (line ++ 10 ∷ [])) (λ s. LeavesAfter kept basis s first store) (Consumes-trans (Some script) left left' so.read (line ++ 10 ∷ []) so.consumed reads.1)
        (λ rest. record {
          before = ended ((so.read ++ line) ++ 10 ∷ []);
          behind = _;
          lines = ap (λ l. lines_of (l ++ rest)) (sym (append_assoc so.read line (10 ∷ []))) ∙ all_lines ((so.read ++ line) ++ 10 ∷ []) rest;
          stage = after;
          reached = reached;
          left = here;
        })
    done_left EndOfInput other reads does here =
        let reached = done_of reads.0 does in
        whole_read (Some script) left' (so.read ++ line) (λ s. LeavesAfter kept basis s first store) (Consumes-trans (Some script) left left' so.read line so.consumed reads.1) (known_end (Some script) left left' so.read so.consumed reads.2) (record {
          before = ended ((so.read ++ line) ++ 10 ∷ []);
          behind = [];
          lines = last_line (so.read ++ line) ∙ sym (ended_feed (so.read ++ line)) ∙ sym (append-nil (ended ((so.read ++ line) ++ 10 ∷ [])));
          stage = after;
          reached = reached;
          left = here;
        })
    done_left TooLong other reads does here = absurd (other refl)

  -- no line more was read
  read_left : (stage stage' : AStage S) (number : ℕ) (script : List ℕ) (left old new : Option (List ℕ)) (first store : S) → store ≡ store_of stage' → HasRead kept basis stage number (Some script) left old new → LeavesFrom kept basis first stage' → ((now : Stage) → IsStage kept basis stage now → IsStage kept basis stage' now) → LeavesAfter kept basis script first store
  read_left stage stage' number script left old new first store same so from stands =
      let now = so.played.now in
      let here = subst (IsLeft kept (scene_in now) first) (sym same) (left_now first stage' now (stands now so.played.stands) from) in
      of_whole kept basis (Some script) left so.read (λ s. LeavesAfter kept basis s first store) so.consumed (λ rest. record {
        before = ended so.read;
        behind = _;
        lines = all_lines so.read rest;
        stage = now;
        reached = so.played.reached;
        left = here;
      })

  -- It was read to its end
  ended_left : (stage stage' : AStage S) (script : List ℕ) (left old new : Option (List ℕ)) (first store : S) → store ≡ store_of stage' → HasEnded kept basis stage (Some script) left old new → LeavesFrom kept basis first stage' → ((now : Stage) → IsStage kept basis stage now → IsStage kept basis stage' now) → LeavesAfter kept basis script first store
  ended_left stage stage' script left old new first store same so from stands = record {
    before = lines_of script;
    behind = [];
    lines = sym (append-nil (lines_of script));
    stage = so.played.now;
    reached = ended_at kept basis stage (Some script) left old new script refl so;
    left = subst (IsLeft kept (scene_in so.played.now) first) (sym same) (left_now first stage' so.played.now (stands so.played.now so.played.stands) from);
  }

  still_left : (over : Bool) (stage stage' : AStage S) (number : ℕ) (script : List ℕ) (left old new : Option (List ℕ)) (first store : S) → store ≡ store_of stage' → Goes kept basis over stage number (Some script) left old new → LeavesFrom kept basis first stage' → ((now : Stage) → IsStage kept basis stage now → IsStage kept basis stage' now) → LeavesAfter kept basis script first store
  still_left false stage stage' number script left old new first store same so from stands = read_left stage stage' number script left old new first store same so from stands
  still_left true stage stage' number script left old new first store same so from stands = ended_left stage stage' script left old new first store same so from stands

  -- What is left of a line that has ended before all of it was done

  between : (script : List ℕ) (first store : S) → LeavesAfter kept basis script first store → LeavesShort kept basis script first store
  between script first store so = record { before = so.before; behind = so.behind; lines = so.lines; stage = so.stage; reached = so.reached; left = IsCutShort.Between so.left }

  left_still : (first : S) (code : AStage S) (now : Stage) (store : S) → IsStage kept basis code now → LeavesFrom kept basis first code → AllStay kept (store_of code) store → IsLeft kept (scene_in now) first store
  left_still first code now store is from stays =
      let here = left_now first code now is from in record {
        stored = λ place acting there. stays acting.name acting.world.state.head.epoch acting.world.rows (here.stored place acting there);
        starts = here.starts;
        others = λ name epoch rows apart stored. stays name (epoch + here.starts) rows (here.others name epoch rows apart stored);
      }

  -- a realm whose epoch has risen so often before
  rise_on : (first store : S) (code : AStage S) (names : List (List ℕ)) (more : ℕ) (from : LeavesFrom kept basis first code) → ((name : List ℕ) → is_among names name ≡ false → is_among (names_in code) name ≡ false) → ((name : List ℕ) (epoch : ℕ) (rows : List (Key × Row)) → is_among names name ≡ false → IsStored kept (store_of code) name epoch rows → MayRise kept store name (epoch + more) rows) →
      (name : List ℕ) (epoch : ℕ) (rows : List (Key × Row)) → is_among names name ≡ false → IsStored kept first name epoch rows → MayRise kept store name (epoch + (from.starts + more)) rows
  rise_on first store code names more from grows rise name epoch rows apart stored = same_rise kept store name rows (epoch + from.starts + more) (epoch + (from.starts + more)) (omega arith) (rise name (epoch + from.starts) rows apart (from.others name epoch rows (grows name apart) stored))

  starts_first : (now : Stage) (line : List ℕ) (later : List (List ℕ)) (move : Move) → move_of line ≡ Some move → is_first_start now move ≡ true → starts_next now (line ∷ later) ≡ true
  starts_first (Declaring declarations) line later move says starting = ap (λ m. option_map_or is_starting m false) says ∙ starting
  starts_first (Playing scene) line later move says starting = absurd (false≢true starting)

  cut_at : (first : S) (code : AStage S) (now : Stage) (line : List ℕ) (later : List (List ℕ)) (move : Move) (store : S) → IsStage kept basis code now → LeavesFrom kept basis first code → move_of line ≡ Some move → HaltsAt kept basis now move (store_of code) store → IsCutShort kept basis now (line ∷ later) first store
  cut_at first code now line later move store is from says (HaltsAt.Unbegun stays) = IsCutShort.Between (left_still first code now store is from stays)
  cut_at first (stage.Declaring realms) (Declaring declarations) line later move store is from says (HaltsAt.Starting starting rising) =
      IsCutShort.Starting (starts_first (Declaring declarations) line later move says starting) (from.starts + 0) (record {
        stored = λ place acting here. absurd (none-some acting here);
        others = rise_on first store (stage.Declaring realms) [] 0 from (λ name apart. refl) rising.others;
      })
  cut_at first (stage.Playing playing) (Declaring declarations) line later move store is from says (HaltsAt.Starting starting rising) = absurd is
  cut_at first code (Playing scene) line later move store is from says (HaltsAt.Starting starting rising) = absurd (false≢true starting)
  cut_at first code now line later move store is from says (HaltsAt.Restarting all rising) =
      IsCutShort.Restarting move (record { line = line; later = later; next = refl; says = says }) all (from.starts + starts_before now) (record {
        stored = rising.stored;
        others = rise_on first store code (map (λ (a : Acting). a.name) (starting_from basis now)) (starts_before now) from (grows_last kept basis code now is) rising.others;
      })
  cut_at first code now line later move store is from says (HaltsAt.Begun begun count become) =
      let scene = starting_from basis now in
      let names = map (λ (a : Acting). a.name) in
      IsCutShort.Begun move (record { line = line; later = later; next = refl; says = says }) begun count (record {
        stored = become.stored;
        starts = from.starts + starts_before now;
        others = subst (λ l. OthersStay kept (from.starts + starts_before now) l first store) (sym become.same) (others_on kept from.starts (starts_before now) (names_in code) (names scene) first (store_of code) store (grows_last kept basis code now is) from.others become.others);
      })

  cut_by : (first : S) (code : AStage S) (now : Stage) (line : List ℕ) (later : List (List ℕ)) (store : S) → IsStage kept basis code now → LeavesFrom kept basis first code → HaltsBy kept basis now (move_of line) (store_of code) store → IsCutShort kept basis now (line ∷ later) first store
  cut_by first code now line later store is from halts = by (move_of line) refl halts where
    may : (move : Move) → move_of line ≡ Some move → (can : Bool) → may_say basis.may_refuse move ≡ can → HaltsIf kept basis now move can (store_of code) store → IsCutShort kept basis now (line ∷ later) first store
    may move says true can halts = cut_at first code now line later move store is from says halts
    may move says false can stays = IsCutShort.Between (left_still first code now store is from stays)

    by : (move : Option Move) → move_of line ≡ move → HaltsBy kept basis now move (store_of code) store → IsCutShort kept basis now (line ∷ later) first store
    by None says stays = IsCutShort.Between (left_still first code now store is from stays)
    by (Some move) says halts = may move says (may_say basis.may_refuse move) refl halts

  line_short : (stage stage' : AStage S) (number : ℕ) (script : List ℕ) (left left' old mid : Option (List ℕ)) (line : List ℕ) (end : LineEnd) (first store : S) (so : HasRead kept basis stage number (Some script) left old mid) → IsStage kept basis stage' so.played.now → LeavesFrom kept basis first stage' → end ≢ TooLong → Reads left left' line (Ok end) → HaltsBy kept basis so.played.now (move_of line) (store_of stage') store → LeavesShort kept basis script first store
  line_short stage stage' number script left left' old mid line end first store so is from other reads halts =
      let at = line_at stage number script left left' old mid line first store so end other reads in record {
        before = at.before;
        behind = line ∷ at.behind;
        lines = at.lines;
        stage = so.played.now;
        reached = at.reached;
        left = cut_by first stage' so.played.now line at.behind store is from halts;
      }

  end_short : (first : S) (code : AStage S) (now : Stage) (store : S) → IsStage kept basis code now → LeavesFrom kept basis first code → HaltsAtEnd kept now (store_of code) store → IsCutShort kept basis now [] first store
  end_short first (stage.Declaring realms) (Declaring declarations) store is from rising = IsCutShort.Starting refl (from.starts + 0) (record {
    stored = λ place acting here. absurd (none-some acting here);
    others = rise_on first store (stage.Declaring realms) [] 0 from (λ name apart. refl) rising.others;
  })
  end_short first (stage.Playing playing) (Declaring declarations) store is from rising = absurd is
  end_short first code (Playing scene) store is from stays = IsCutShort.Between (left_still first code (Playing scene) store is from stays)

  -- How the script has ended

  -- memory ended before the first line, or between two
  pub fault_first : (script : List ℕ) (first : S) → LeavesShort kept basis script first first
  fault_first script first = record {
    before = [];
    behind = lines_of script;
    lines = refl;
    stage = Declaring [];
    reached = refl;
    left = IsCutShort.Between (record { stored = λ place acting here. absurd (none-some acting here); starts = 0; others = none_done kept [] first });
  }

  pub fault_between : (over : Bool) (stage stage' : AStage S) (number : ℕ) (script : List ℕ) (left old new : Option (List ℕ)) (first store : S) → store ≡ store_of stage' → (kept.is_true store → Goes kept basis over stage number (Some script) left old new) → (kept.is_true store → LeavesFrom kept basis first stage') → ((now : Stage) → IsStage kept basis stage now → IsStage kept basis stage' now) → kept.is_true store → LeavesShort kept basis script first store
  fault_between over stage stage' number script left old new first store same so from stands truth = between script first store (still_left over stage stage' number script left old new first store same (so truth) (from truth) stands)

  -- there are no more numbers for lines
  pub fault_beyond : (over : Bool) (stage : AStage S) (number : ℕ) (script : List ℕ) (left old new : Option (List ℕ)) (first store : S) → store ≡ store_of stage → over ≡ false → (kept.is_true store → Goes kept basis over stage number (Some script) left old new) → (kept.is_true store → LeavesFrom kept basis first stage) → LeavesAtFault kept basis script first (Err (fault.Read, store))
  fault_beyond over stage number script left old new first store same more so from = λ truth. read_left stage stage number script left old new first store same (still_going kept basis over stage number (Some script) left old new more (so truth)) (from truth) (λ now is. is)

  -- what it prints was not written
  unwritten : (stage stage' : AStage S) (number : ℕ) (script : List ℕ) (left left' old mid : Option (List ℕ)) (line : List ℕ) (end : LineEnd) (first store : S) (so : HasRead kept basis stage number (Some script) left old mid) → IsStage kept basis stage' so.played.now → LeavesFrom kept basis first stage' → end ≢ TooLong → Reads left left' line (Ok end) →
      IsLeft kept (scene_behind basis so.played.now (move_of line)) (store_of stage') store ⊎ HasDone kept basis (acted basis so.played.now line) stage' store → LeavesUnwritten kept basis script first store
  unwritten stage stage' number script left left' old mid line end first store so at from other reads (inl here) =
      let now = so.played.now in
      inr (inr (number, line_left stage number script left left' old mid line first store so end other reads (left_then first stage' (scene_behind basis now (move_of line)) store from (grows_behind stage' now (move_of line) at) here)))
  unwritten stage stage' number script left left' old mid line end first store so at from other reads (inr done) =
      inl (done_left stage number script left left' old mid line first store done.now so end other reads done.does (subst (IsLeft kept (scene_in done.now) first) (sym done.store) (left_now first done.stage done.now done.stands (leaves_more kept basis first stage' done.stage from done.leaves))))

  -- a line may not stand there
  pub fault_line : (stage stage' : AStage S) (number : ℕ) (script : List ℕ) (left left' old mid new : Option (List ℕ)) (line : List ℕ) (end : LineEnd) (first : S) (why : PlayFault × S) → end ≢ TooLong → Reads left left' line (Ok end) → (kept.is_true why.1 → HasRead kept basis stage number (Some script) left old mid) → (kept.is_true why.1 → LeavesFrom kept basis first stage') →
      ((now : Stage) → IsStage kept basis stage now → IsStage kept basis stage' now) → (kept.is_true why.1 → (now : Stage) → IsStage kept basis stage' now → Acts kept basis number (acted basis now line) mid new (Err why.0)) → (kept.is_true why.1 → (now : Stage) → IsStage kept basis stage' now → LeavesAtLine kept basis now line stage' (Err why)) → LeavesAtFault kept basis script first (Err why)
  fault_line stage stage' number script left left' old mid new line end first (fault.Script n, store) other reads so from stands acts leaves = λ truth.
      let read = so truth in
      let now = read.played.now in
      let at = stands now read.played.stands in
      let here = acts truth now at in
      subst (λ m. LeavesBehind kept basis script m first store) (sym here.1)
      (line_left stage number script left left' old mid line first store read end other reads (left_then first stage' (scene_behind basis now (move_of line)) store (from truth) (grows_behind stage' now (move_of line) at) (leaves truth now at truth)))
  fault_line stage stage' number script left left' old mid new line end first (fault.Read, store) other reads so from stands acts leaves = λ truth. (let read = so truth in absurd (acts truth read.played.now (stands read.played.now read.played.stands)))
  fault_line stage stage' number script left left' old mid new line end first (fault.Write, store) other reads so from stands acts leaves = λ truth. (let read = so truth in let at = stands read.played.now read.played.stands in unwritten stage stage' number script left left' old mid line end first store read at (from truth) other reads (leaves truth read.played.now at truth))
  fault_line stage stage' number script left left' old mid new line end first (fault.Memory, store) other reads so from stands acts leaves = λ truth. (let read = so truth in let at = stands read.played.now read.played.stands in line_short stage stage' number script left left' old mid line end first store read at (from truth) other reads (leaves truth read.played.now at truth))
  fault_line stage stage' number script left left' old mid new line end first (fault.Store, store) other reads so from stands acts leaves = λ truth. (let read = so truth in let at = stands read.played.now read.played.stands in line_short stage stage' number script left left' old mid line end first store read at (from truth) other reads (leaves truth read.played.now at truth))

  -- it is too long
  pub fault_coming : (over : Bool) (stage stage' : AStage S) (number : ℕ) (script : List ℕ) (left left' old new : Option (List ℕ)) (line : List ℕ) (why : PlayFault) (first store : S) → store ≡ store_of stage' → HasCome left left' number over line (Err why) → (kept.is_true store → Goes kept basis over stage number (Some script) left old new) → (kept.is_true store → LeavesFrom kept basis first stage') →
      ((now : Stage) → IsStage kept basis stage now → IsStage kept basis stage' now) → LeavesAtFault kept basis script first (Err (why, store))
  fault_coming false stage stage' number script left left' old new line (fault.Script at) first store same come so from stands = λ truth. subst (λ m. LeavesBehind kept basis script m first store) (sym come.1)
      (long_left stage number script left left' old new line first store (so truth) come.2.0 come.2.1 (λ now is. subst (IsLeft kept (scene_in now) first) (sym same) (left_now first stage' now (stands now is) (from truth))))
  fault_coming true stage stage' number script left left' old new line (fault.Script at) first store same come so from stands = absurd (cc)
  fault_coming false stage stage' number script left left' old new line fault.Read first store same come so from stands = λ truth. read_left stage stage' number script left old new first store same (so truth) (from truth) stands
  fault_coming true stage stage' number script left left' old new line fault.Read first store same come so from stands = absurd (cc)
  fault_coming over stage stage' number script left left' old new line fault.Write first store same come so from stands = absurd come
  fault_coming over stage stage' number script left left' old new line fault.Memory first store same come so from stands = fault_between over stage stage' number script left old new first store same so from stands
  fault_coming over stage stage' number script left left' old new line fault.Store first store same come so from stands = fault_between over stage stage' number script left old new first store same so from stands

  -- no line is at fault behind the last one
  pub at_end : (now : Stage) (old : S) (result : Result S (PlayFault × S)) → LeavesAtEnd kept basis now old result → IfOk result (λ store. kept.is_true store → IsLeft kept (starting_from basis now) old store)
  at_end now old (Ok store) leaves = leaves
  at_end now old (Err why) leaves = tt

  -- the realms were starting there
  last_short : (script : List ℕ) (first : S) (code : AStage S) (store : S) (now : Stage) → IsStage kept basis code now → (all_played basis script).ending ≡ Reached now → ((starts : ℕ) × OthersStay kept starts (names_in code) first (store_of code)) → HaltsAtEnd kept now (store_of code) store → LeavesShort kept basis script first store
  last_short script first code store now is reached from halts = record {
    before = lines_of script;
    behind = [];
    lines = sym (append-nil (lines_of script));
    stage = now;
    reached = reached;
    left = end_short first code now store is (record { starts = from.0; others = from.1 }) halts;
  }

  pub fault_end : (script : List ℕ) (first : S) (code : AStage S) (mid new : Option (List ℕ)) (result : Result S (PlayFault × S)) → Trusts kept (store_of code) (λ store. store) result → (kept.is_true (store_of code) → (now : Stage) × IsStage kept basis code now × ((all_played basis script).ending ≡ Reached now) × ((starts : ℕ) × OthersStay kept starts (names_in code) first (store_of code))) →
      ((now : Stage) → IsStage kept basis code now → ClosesOn kept (closing_of basis now) mid new result) → ((now : Stage) → IsStage kept basis code now → LeavesAtEnd kept basis now (store_of code) result) → LeavesAtFault kept basis script first result
  fault_end script first code mid new (Ok store) trusts so closes leaves = tt
  fault_end script first code mid new (Err (fault.Script n, store)) trusts so closes leaves = λ truth. (let now = so (trusts truth) in absurd (closes now.0 now.1 truth))
  fault_end script first code mid new (Err (fault.Read, store)) trusts so closes leaves = λ truth. (let now = so (trusts truth) in absurd (closes now.0 now.1 truth))
  fault_end script first code mid new (Err (fault.Write, store)) trusts so closes leaves = λ truth. inr (inl (leaves_end kept basis {E = PlayFault} (λ now. IsStage kept basis code now) script (names_in code) first (store_of code) (store_of code) (Ok store) refl trusts so (grows_last kept basis code) leaves truth))
  fault_end script first code mid new (Err (fault.Memory, store)) trusts so closes leaves = λ truth. (let now = so (trusts truth) in last_short script first code store now.0 now.1 now.2 now.3 (leaves now.0 now.1))
  fault_end script first code mid new (Err (fault.Store, store)) trusts so closes leaves = λ truth. (let now = so (trusts truth) in last_short script first code store now.0 now.1 now.2 now.3 (leaves now.0 now.1))

  -- nor where what was printed is not known to be there
  pub fault_unflushed : (script : List ℕ) (first : S) (result : Result S (PlayFault × S)) → IfOk result (λ left. kept.is_true left → Leaves kept basis script first left) → LeavesAtFault kept basis script first result → LeavesAtFault kept basis script first (unflushed result)
  fault_unflushed script first (Ok store) leaves faults = λ truth. inr (inl (leaves truth))
  fault_unflushed script first (Err (fault.Script line, store)) leaves faults = λ truth. inr (inr (line, faults truth))
  fault_unflushed script first (Err (fault.Read, store)) leaves faults = faults
  fault_unflushed script first (Err (fault.Write, store)) leaves faults = faults
  fault_unflushed script first (Err (fault.Memory, store)) leaves faults = faults
  fault_unflushed script first (Err (fault.Store, store)) leaves faults = faults
