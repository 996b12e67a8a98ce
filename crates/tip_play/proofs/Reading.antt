-- A script that is read line by line.
use Rattle.tip_rows.specs.Logs.{Keeping, Log}
use Rattle.std.proofs.Common.{◌≡◌, ◌≢◌, ◌+◌, ◌++◌, ◌∷◌, [], ℕ, Bool, true, false, List, Option, Some, None, Ok, Err, IfSome, OnSome, Result, map, refl, sym, ap, ◌∙◌, subst}
use Rattle.std.proofs.lemmas.List.{append-nil, append_assoc}
use Rattle.std.specs.Io.KnownBytes.{Consumes, IsAtEnd}
use Rattle.std.proofs.KnownBytes.{Consumes-nil, Consumes-trans}
use Rattle.std.specs.List.{list_all}
use Rattle.std.specs.Prelude.{◌&&◌, IfOk}
use Rattle.std.proofs.lemmas.List.Folds.{list_all-append}
use Rattle.tip_line.proofs.StopLemmas.{and_left, and_right}
use Rattle.script_lines.specs.Lines.{AreOfLine, Reads, is_inner}
use Rattle.script_lines.proofs.Reading.{known_end, whole_read}
use Rattle.script_lines.specs.declared.line.LineEnd.{LineEnd}
use Rattle.script_lines.specs.declared.line.LineEnd.TheVariants.{LineFeed, EndOfInput, TooLong}
use Rattle.script_lines.specs.declared.line.LineFault.{LineFault}
use Rattle.script_lines.specs.declared.line.LineFault.TheVariants as line_fault
use Rattle.tip_scene.specs.Acts.{Stage, Declaring, Playing, Basis, acted, closing_of, is_covered}
use Rattle.tip_scene.specs.Stages.{AStage, IsStage, Trusts, store_of}
use Rattle.tip_play.specs.Faults.{of_line}
use Rattle.tip_play.specs.Transcripts.{IsFront, IsReadTo, Played, Reached, Transcribes, TranscribesOn, all_played, covers_all, ended, unended}
use Rattle.tip_play.specs.Writing.{Acts, Closes, ClosesOn, HasCome}
use Rattle.tip_play.specs.declared.fault.PlayFault.{PlayFault}
use Rattle.tip_play.specs.declared.player.Coming.{Coming}
use Rattle.tip_play.specs.declared.fault.PlayFault.TheVariants as fault
use Rattle.tip_script.specs.Scripts.{move_of}
use Rattle.tip_play.proofs.Cutting.{all_lines, last_line, lines_from, unended_line}
use Rattle.tip_scene.specs.Blaming.{starting_from}
use Rattle.tip_actor.specs.Acting.{Acting}
use Rattle.tip_scene.specs.Leaving.{IsLeft, LeavesOthers, OthersStay, is_among, names_in}
use Rattle.tip_scene.specs.declared.stage.Stage.TheVariants as stage
use Rattle.tip_scene.proofs.Leaving.{none_done, others_on, scene_names, still_others}
use Rattle.tip_play.specs.Leaving.{Leaves}
use Rattle.tip_play.proofs.Transcribing.{played_last}
use Rattle.tip_play.proofs.Lines as lines
use Rattle.tip_play.proofs.Lines.{HasPlayed}

-- a script that is known, each realm of which the basis covers
abbrev pub IsCoveredBy : Basis → Option (List ℕ) → Type 0
IsCoveredBy basis whole = (script : List ℕ) × (whole ≡ Some script) × (covers_all basis script ≡ true)

one_covered : (basis : Basis) (before behind : List (List ℕ)) (line : List ℕ) → list_all (λ l. is_covered basis (move_of l)) (before ++ line ∷ behind) ≡ true → is_covered basis (move_of line) ≡ true
one_covered basis before behind line all =
    let is = λ (l : List ℕ). is_covered basis (move_of l) in
    and_left (is line) (list_all is behind) (and_right (list_all is before) (is line && list_all is behind) (sym (list_all-append is before (line ∷ behind)) ∙ all))

module _ {S : Type 0} (kept : Keeping S) (basis : Basis) where
  covered_so : {X : Type 0} (whole : Option (List ℕ)) → IsCoveredBy basis whole → IfSome whole (λ script. covers_all basis script ≡ true → X) → X
  covered_so {X} whole covers all = (subst (λ w. IfSome w (λ script. covers_all basis script ≡ true → X)) covers.1 all) covers.2

  -- so much was read and played
  pub record HasRead (stage : AStage S) (number : ℕ) (whole left old new : Option (List ℕ)) : Type 0 where
    pub read : List ℕ
    pub consumed : Consumes whole left read
    pub played : HasPlayed kept basis stage number read old new

  pub reads_none : (stage : AStage S) (whole old : Option (List ℕ)) → IsStage kept basis stage (Declaring []) → HasRead stage 1 whole whole old old
  reads_none stage whole old is = record { read = []; consumed = Consumes-nil whole; played = lines.none_played kept basis stage old is }

  -- what holds of each script that begins so
  pub of_whole : (whole left : Option (List ℕ)) (read : List ℕ) (P : List ℕ → Type 0) → Consumes whole left read → ((rest : List ℕ) → P (read ++ rest)) → IfSome whole P
  of_whole None left read P consumed all = tt
  of_whole (Some script) None read P consumed all = absurd consumed
  of_whole (Some script) (Some rest) read P consumed all = subst P (sym consumed) (all rest)

  -- it may end anywhere
  pub stays_front : (stage : AStage S) (number : ℕ) (whole left old new : Option (List ℕ)) → HasRead stage number whole left old new → IfSome whole (λ script. IsFront basis script old new)
  stays_front stage number whole left old new so = of_whole whole left so.read (λ script. IsFront basis script old new) so.consumed (λ rest. lines.front_played kept basis stage number so.read rest old new so.played)

  -- it is not read on
  stops_reading : (stage : AStage S) (number : ℕ) (whole left old new : Option (List ℕ)) → HasRead stage number whole left old new → IfSome whole (λ script. IsReadTo basis script left old new)
  stops_reading stage number None left old new so = tt
  stops_reading stage number (Some script) left old new so = record { read = so.read; consumed = so.consumed; written = so.played.written }

  -- no line was read
  not_read : (stage : AStage S) (number : ℕ) (whole left left' old new : Option (List ℕ)) (line : List ℕ) → HasRead stage number whole left old new → AreOfLine line → Consumes left left' line → IfSome whole (λ script. Transcribes basis script left' old new (Err fault.Read))
  not_read stage number None left left' old new line so are taken = tt
  not_read stage number (Some script) left left' old new line so are taken = record {
    read = so.read ++ line;
    consumed = Consumes-trans (Some script) left left' so.read line so.consumed taken;
    written = (lines.next_line kept basis stage number so.read line old new so.played are).written;
  }

  pub line_not_read : (stage : AStage S) (number : ℕ) (whole left left' old new : Option (List ℕ)) (line : List ℕ) (why : LineFault) → HasRead stage number whole left old new → Reads left left' line (Err why) → IfSome whole (λ script. Transcribes basis script left' old new (Err (of_line why)))
  line_not_read stage number whole left left' old new line line_fault.Read so reads = not_read stage number whole left left' old new line so reads.0 reads.1
  line_not_read stage number whole left left' old new line line_fault.Memory so reads = stays_front stage number whole left old new so

  -- a line has an octet too many
  pub line_too_long : (stage : AStage S) (number : ℕ) (whole left left' old new : Option (List ℕ)) (line : List ℕ) (end : LineEnd) → HasRead stage number whole left old new → end ≡ TooLong → Reads left left' line (Ok end) → IfSome whole (λ script. Transcribes basis script left' old new (Err (fault.Script number)))
  line_too_long stage number whole left left' old new line end so is reads =
      let long = subst (λ e. Reads left left' line (Ok e)) is reads in
      let octet = long.1.octet in
      of_whole whole left' (so.read ++ (line ++ octet ∷ [])) (λ script. Transcribes basis script left' old new (Err (fault.Script number))) (Consumes-trans whole left left' so.read (line ++ octet ∷ []) so.consumed long.1.taken)
      (λ rest. subst (λ script. Transcribes basis script left' old new (Err (fault.Script number))) (sym (ap (λ l. l ++ rest) (sym (append_assoc so.read line (octet ∷ []))) ∙ append_assoc (so.read ++ line) (octet ∷ []) rest))
      (lines.too_long kept basis stage number so.read line rest octet old new left' (lines.next_line kept basis stage number so.read line old new so.played long.0) long.1.inner long.1.full))

  -- A line that was read

  -- the basis covers the realm that it declares
  fed_covered : (read line rest : List ℕ) → unended read ≡ [] → list_all is_inner line ≡ true → covers_all basis ((read ++ line) ++ 10 ∷ rest) ≡ true → is_covered basis (move_of line) ≡ true
  fed_covered read line rest closed inner covers =
      one_covered basis (ended (read ++ line)) (lines_from [] rest) line
      (subst (λ lines. list_all (λ l. is_covered basis (move_of l)) lines ≡ true) (all_lines (read ++ line) (10 ∷ rest) ∙ ap (λ l. ended (read ++ line) ++ lines_from l (10 ∷ rest)) (unended_line read line closed inner)) covers)

  last_covered : (read line : List ℕ) → unended read ≡ [] → list_all is_inner line ≡ true → covers_all basis (read ++ line) ≡ true → is_covered basis (move_of line) ≡ true
  last_covered read line closed inner covers =
      one_covered basis (ended (read ++ line)) [] line
      (subst (λ lines. list_all (λ l. is_covered basis (move_of l)) lines ≡ true) (last_line (read ++ line) ∙ ap (λ l. ended (read ++ line) ++ l ∷ []) (unended_line read line closed inner)) covers)

  -- it has an end
  pub behind_feed : (read line rest : List ℕ) → (read ++ (line ++ 10 ∷ [])) ++ rest ≡ (read ++ line) ++ 10 ∷ rest
  behind_feed read line rest = ap (λ l. l ++ rest) (sym (append_assoc read line (10 ∷ []))) ∙ append_assoc (read ++ line) (10 ∷ []) rest

  pub line_covered : (stage : AStage S) (number : ℕ) (whole left left' old new : Option (List ℕ)) (line : List ℕ) (end : LineEnd) → HasRead stage number whole left old new → IsCoveredBy basis whole → end ≢ TooLong → Reads left left' line (Ok end) → is_covered basis (move_of line) ≡ true
  line_covered stage number whole left left' old new line LineFeed so covers other reads =
      let P = λ (script : List ℕ). covers_all basis script ≡ true → is_covered basis (move_of line) ≡ true in
      covered_so whole covers (of_whole whole left' (so.read ++ (line ++ 10 ∷ [])) P (Consumes-trans whole left left' so.read (line ++ 10 ∷ []) so.consumed reads.1)
      (λ rest. subst P (sym (behind_feed so.read line rest)) (fed_covered so.read line rest so.played.closed reads.0.inner)))
  line_covered stage number whole left left' old new line EndOfInput so covers other reads =
      let P = λ (script : List ℕ). covers_all basis script ≡ true → is_covered basis (move_of line) ≡ true in
      covered_so whole covers (whole_read whole left' (so.read ++ line) P (Consumes-trans whole left left' so.read line so.consumed reads.1) (known_end whole left left' so.read so.consumed reads.2) (last_covered so.read line so.played.closed reads.0.inner))
  line_covered stage number whole left left' old new line TooLong so covers other reads = absurd (other refl)

  fails_fed : (stage : AStage S) (number : ℕ) (whole left left' old mid new : Option (List ℕ)) (line : List ℕ) (why : PlayFault) → HasRead stage number whole left old mid → AreOfLine line → Consumes left left' (line ++ 10 ∷ []) → ((now : Stage) → IsStage kept basis stage now → Acts kept basis number (acted basis now line) mid new (Err why)) → IfSome whole (λ script. Transcribes basis script left' old new (Err why))
  fails_fed stage number whole left left' old mid new line why so are taken acts =
      of_whole whole left' (so.read ++ (line ++ 10 ∷ [])) (λ script. Transcribes basis script left' old new (Err why)) (Consumes-trans whole left left' so.read (line ++ 10 ∷ []) so.consumed taken)
      (λ rest. subst (λ script. Transcribes basis script left' old new (Err why)) (sym (behind_feed so.read line rest)) (lines.fails_next kept basis stage number so.read line rest old mid new left' why (lines.next_line kept basis stage number so.read line old mid so.played are) acts))

  never_read : (stage : AStage S) (number : ℕ) (read line : List ℕ) (old mid new : Option (List ℕ)) (why : PlayFault) → HasPlayed kept basis stage number read old mid → ((now : Stage) → IsStage kept basis stage now → Acts kept basis number (acted basis now line) mid new (Err why)) → why ≢ fault.Read
  never_read stage number read line old mid new (fault.Script n) so acts = λ e. absurd cc
  never_read stage number read line old mid new fault.Read so acts = λ e. acts so.now so.stands
  never_read stage number read line old mid new fault.Write so acts = λ e. absurd cc
  never_read stage number read line old mid new fault.Memory so acts = λ e. absurd cc
  never_read stage number read line old mid new fault.Store so acts = λ e. absurd cc

  -- it is the last one
  fails_at_end : (stage : AStage S) (number : ℕ) (whole left left' old mid new : Option (List ℕ)) (line : List ℕ) (why : PlayFault) → HasRead stage number whole left old mid → AreOfLine line → Consumes left left' line → OnSome left (IsAtEnd left') → ((now : Stage) → IsStage kept basis stage now → Acts kept basis number (acted basis now line) mid new (Err why)) → IfSome whole (λ script. Transcribes basis script left' old new (Err why))
  fails_at_end stage number whole left left' old mid new line why so are taken end acts =
      whole_read whole left' (so.read ++ line) (λ script. Transcribes basis script left' old new (Err why)) (Consumes-trans whole left left' so.read line so.consumed taken) (known_end whole left left' so.read so.consumed end)
      (lines.fails_last kept basis (so.read ++ line) old new left' why (never_read stage number so.read line old mid new why so.played acts)
      (lines.fails_next kept basis stage number so.read line [] old mid new left' why (lines.next_line kept basis stage number so.read line old mid so.played are) acts))

  -- it was not played basis to its end
  pub line_fails : (stage : AStage S) (number : ℕ) (whole left left' old mid new : Option (List ℕ)) (line : List ℕ) (end : LineEnd) (why : PlayFault) → HasRead stage number whole left old mid → end ≢ TooLong → Reads left left' line (Ok end) → ((now : Stage) → IsStage kept basis stage now → Acts kept basis number (acted basis now line) mid new (Err why)) → IfSome whole (λ script. Transcribes basis script left' old new (Err why))
  line_fails stage number whole left left' old mid new line LineFeed why so other reads acts = fails_fed stage number whole left left' old mid new line why so reads.0 reads.1 acts
  line_fails stage number whole left left' old mid new line EndOfInput why so other reads acts = fails_at_end stage number whole left left' old mid new line why so reads.0 reads.1 reads.2 acts
  line_fails stage number whole left left' old mid new line TooLong why so other reads acts = absurd (other refl)

  -- it was played, and another comes behind it
  pub line_plays : (stage stage' : AStage S) (number : ℕ) (whole left left' old mid new : Option (List ℕ)) (line : List ℕ) (end : LineEnd) → HasRead stage number whole left old mid → end ≢ TooLong → end ≢ EndOfInput → Reads left left' line (Ok end) → ((now : Stage) → IsStage kept basis stage now → Acts kept basis number (acted basis now line) mid new (Ok stage')) → HasRead stage' (number + 1) whole left' old new
  line_plays stage stage' number whole left left' old mid new line LineFeed so other more reads acts = record {
    read = (so.read ++ line) ++ 10 ∷ [];
    consumed = subst (Consumes whole left') (sym (append_assoc so.read line (10 ∷ []))) (Consumes-trans whole left left' so.read (line ++ 10 ∷ []) so.consumed reads.1);
    played = lines.plays_next kept basis stage stage' number so.read line old mid new (lines.next_line kept basis stage number so.read line old mid so.played reads.0) acts;
  }
  line_plays stage stage' number whole left left' old mid new line EndOfInput so other more reads acts = absurd (more refl)
  line_plays stage stage' number whole left left' old mid new line TooLong so other more reads acts = absurd (other refl)

  -- the whole script was read and played
  pub record HasEnded (stage : AStage S) (whole left old new : Option (List ℕ)) : Type 0 where
    pub number : ℕ
    pub read : List ℕ
    pub consumed : Consumes whole left read
    pub end : OnSome whole (IsAtEnd left)
    pub played : HasPlayed kept basis stage number (read ++ 10 ∷ []) old new

  -- a line was played, and was the last one
  pub line_ends : (stage stage' : AStage S) (number : ℕ) (whole left left' old mid new : Option (List ℕ)) (line : List ℕ) (end : LineEnd) → HasRead stage number whole left old mid → end ≡ EndOfInput → Reads left left' line (Ok end) → ((now : Stage) → IsStage kept basis stage now → Acts kept basis number (acted basis now line) mid new (Ok stage')) → HasEnded stage' whole left' old new
  line_ends stage stage' number whole left left' old mid new line end so is reads acts =
      let last = subst (λ e. Reads left left' line (Ok e)) is reads in
      record {
        number = number + 1;
        read = so.read ++ line;
        consumed = Consumes-trans whole left left' so.read line so.consumed last.1;
        end = known_end whole left left' so.read so.consumed last.2;
        played = lines.plays_next kept basis stage stage' number so.read line old mid new (lines.next_line kept basis stage number so.read line old mid so.played last.0) acts;
      }

  -- nothing more is written
  pub ended_front : (stage : AStage S) (whole left old new : Option (List ℕ)) → HasEnded stage whole left old new → IfSome whole (λ script. IsFront basis script old new)
  ended_front stage whole left old new so = whole_read whole left so.read (λ script. IsFront basis script old new) so.consumed so.end (lines.last_front kept basis so.read old new (subst (λ l. IsFront basis l old new) (append-nil (so.read ++ 10 ∷ [])) (lines.front_played kept basis stage so.number (so.read ++ 10 ∷ []) [] old new so.played)))

  -- the realms have started, if they had not
  pub script_closes : (stage : AStage S) (whole left old mid new : Option (List ℕ)) (result : Result (Unit {0}) PlayFault) → HasEnded stage whole left old mid → ((now : Stage) → IsStage kept basis stage now → Closes (closing_of basis now) mid new result) → IfSome whole (λ script. Transcribes basis script left old new result)
  script_closes stage whole left old mid new result so closes =
      whole_read whole left so.read (λ script. Transcribes basis script left old new result) so.consumed so.end
      (lines.closes kept basis stage so.number so.read old mid new left result so.played (closes so.played.now so.played.stands))

  -- so it has reached this stage
  pub ended_at : (stage : AStage S) (whole left old new : Option (List ℕ)) (script : List ℕ) → whole ≡ Some script → (so : HasEnded stage whole left old new) → (all_played basis script).ending ≡ Reached so.played.now
  ended_at stage whole left old new script is so =
      let P = λ (script : List ℕ). (all_played basis script).ending ≡ Reached so.played.now in
      subst (λ w. IfSome w P) is (whole_read whole left so.read P so.consumed so.end (ap (λ (p : Played). p.ending) (played_last basis so.read) ∙ so.played.reached))

  -- and its realms are stored as they are there
  pub leaves_end : {E : Type 0} (P : Stage → Type 0) (script : List ℕ) (names : List (List ℕ)) (first old mid : S) (result : Result S (E × S)) → old ≡ mid → Trusts kept mid (λ store. store) result → (kept.is_true mid → (now : Stage) × P now × ((all_played basis script).ending ≡ Reached now) × ((starts : ℕ) × OthersStay kept starts names first mid)) →
      ((now : Stage) → P now → (name : List ℕ) → is_among (map (λ (a : Acting). a.name) (starting_from basis now)) name ≡ false → is_among names name ≡ false) →
      ((now : Stage) → P now → IfOk result (λ store. kept.is_true store → IsLeft kept (starting_from basis now) old store)) → IfOk result (λ left. kept.is_true left → Leaves kept basis script first left)
  leaves_end P script names first old mid (Ok left) same trusts so grows leaves = λ truth.
      let at = so (trusts truth) in
      let here = leaves at.0 at.1 truth in record {
        stage = at.0;
        reached = at.2;
        left = record {
          stored = here.stored;
          starts = at.3.0 + here.starts;
          others = others_on kept at.3.0 here.starts names (map (λ (a : Acting). a.name) (starting_from basis at.0)) first mid left (grows at.0 at.1) at.3.1 (subst (λ s. OthersStay kept here.starts (map (λ (a : Acting). a.name) (starting_from basis at.0)) s left) same here.others);
        };
      }
  leaves_end P script names first old mid (Err why) same trusts so grows leaves = tt

  -- the realms of a scene are those of its stage
  pub grows_last : (now : AStage S) (at : Stage) → IsStage kept basis now at → (name : List ℕ) → is_among (map (λ (a : Acting). a.name) (starting_from basis at)) name ≡ false → is_among (names_in now) name ≡ false
  grows_last (stage.Declaring realms) (Declaring declarations) is name apart = refl
  grows_last (stage.Declaring realms) (Playing scene) is name apart = absurd is
  grows_last (stage.Playing playing) (Declaring declarations) is name apart = absurd is
  grows_last (stage.Playing playing) (Playing scene) is name apart = ap (λ names. is_among names name) (scene_names kept playing.stored_core playing.actors.items scene is) ∙ apart

  -- of the realms that have not started by then the rows are as they were at first
  pub record LeavesFrom (first : S) (now : AStage S) : Type 0 where
    pub starts : ℕ
    pub others : OthersStay kept starts (names_in now) first (store_of now)

  pub leaves_none : (first : S) (now : AStage S) → store_of now ≡ first → LeavesFrom first now
  leaves_none first now same = record { starts = 0; others = subst (OthersStay kept 0 (names_in now) first) (sym same) (none_done kept (names_in now) first) }

  pub leaves_still : (first : S) (old new : AStage S) → names_in new ≡ names_in old → ((log : Log) → kept.stands (store_of old) log → kept.stands (store_of new) log) → LeavesFrom first old → LeavesFrom first new
  leaves_still first old new names stood so = record {
    starts = so.starts + 0;
    others = others_on kept so.starts 0 (names_in old) (names_in new) first (store_of old) (store_of new) (λ name apart. ap (λ l. is_among l name) (sym names) ∙ apart) so.others (still_others kept (names_in new) (store_of old) (store_of new) stood);
  }

  pub leaves_more : (first : S) (old new : AStage S) → LeavesFrom first old → LeavesOthers kept old new → LeavesFrom first new
  leaves_more first old new so more = record {
    starts = so.starts + more.starts;
    others = others_on kept so.starts more.starts (names_in old) (names_in new) first (store_of old) (store_of new) more.grows so.others more.others;
  }

  -- Before the next line

  -- so much was read and played, or the whole script
  abbrev pub Goes : Bool → AStage S → ℕ → Option (List ℕ) → Option (List ℕ) → Option (List ℕ) → Option (List ℕ) → Type 0
  Goes false stage number whole left old new = HasRead stage number whole left old new
  Goes true stage number whole left old new = HasEnded stage whole left old new

  -- the code stands for some stage
  pub stands_so : (over : Bool) (stage : AStage S) (number : ℕ) (whole left old new : Option (List ℕ)) → Goes over stage number whole left old new → (now : Stage) × IsStage kept basis stage now
  stands_so false stage number whole left old new so = (so.played.now, so.played.stands)
  stands_so true stage number whole left old new so = (so.played.now, so.played.stands)

  pub goes_front : (over : Bool) (stage : AStage S) (number : ℕ) (whole left old new : Option (List ℕ)) → Goes over stage number whole left old new → IfSome whole (λ script. IsFront basis script old new)
  goes_front false stage number whole left old new so = stays_front stage number whole left old new so
  goes_front true stage number whole left old new so = ended_front stage whole left old new so

  -- no line has come
  pub not_come : (over : Bool) (stage : AStage S) (number : ℕ) (whole left left' old new : Option (List ℕ)) (line : List ℕ) (why : PlayFault) → Goes over stage number whole left old new → HasCome left left' number over line (Err why) → IfSome whole (λ script. Transcribes basis script left' old new (Err why))
  not_come false stage number whole left left' old new line (fault.Script at) so come = subst (λ n. IfSome whole (λ script. Transcribes basis script left' old new (Err (fault.Script n)))) (sym come.1) (line_too_long stage number whole left left' old new line TooLong so refl come.2)
  not_come true stage number whole left left' old new line (fault.Script at) so come = absurd (cc)
  not_come false stage number whole left left' old new line fault.Read so come = line_not_read stage number whole left left' old new line line_fault.Read so come.1
  not_come true stage number whole left left' old new line fault.Read so come = absurd (cc)
  not_come over stage number whole left left' old new line fault.Write so come = absurd come
  not_come over stage number whole left left' old new line fault.Memory so come = goes_front over stage number whole left old new so
  not_come over stage number whole left left' old new line fault.Store so come = goes_front over stage number whole left old new so

  -- and none will, since it would have no number
  pub no_number : (over : Bool) (stage : AStage S) (number : ℕ) (whole left old new : Option (List ℕ)) → over ≡ false → Goes over stage number whole left old new → IfSome whole (λ script. IsReadTo basis script left old new)
  no_number over stage number whole left old new more so = stops_reading stage number whole left old new (subst (λ o. Goes o stage number whole left old new) more so)

  -- a line was played
  pub goes_on : (over : Bool) (stage stage' : AStage S) (number : ℕ) (whole left left' old mid new : Option (List ℕ)) (line : List ℕ) (end : LineEnd) → HasRead stage number whole left old mid → end ≢ TooLong → (over ≡ true → end ≡ EndOfInput) → (over ≡ false → end ≢ EndOfInput) → Reads left left' line (Ok end) →
      ((now : Stage) → IsStage kept basis stage now → Acts kept basis number (acted basis now line) mid new (Ok stage')) → Goes over stage' (number + 1) whole left' old new
  goes_on false stage stage' number whole left left' old mid new line end so other last more reads acts = line_plays stage stage' number whole left left' old mid new line end so other (more refl) reads acts
  goes_on true stage stage' number whole left left' old mid new line end so other last more reads acts = line_ends stage stage' number whole left left' old mid new line end so (last refl) reads acts

  -- What rests on the store

  -- what is so as long as something may be relied on
  pub relying : (whole : Option (List ℕ)) (P : List ℕ → Type 0) (R : Type 0) → (IsCoveredBy basis whole → R → IfSome whole P) → IfSome whole (λ script. covers_all basis script ≡ true → R → P script)
  relying None P R all = tt
  relying (Some script) P R all = λ covers. all (script, refl, covers)

  -- the realms have started, if they had not, and the store has come back
  pub closes_on : (stage : AStage S) (whole left old mid new : Option (List ℕ)) (result : Result S (PlayFault × S)) → Trusts kept (store_of stage) (λ store. store) result → (IsCoveredBy basis whole → kept.is_true (store_of stage) → HasEnded stage whole left old mid) →
      ((now : Stage) → IsStage kept basis stage now → ClosesOn kept (closing_of basis now) mid new result) → IfSome whole (λ script. covers_all basis script ≡ true → TranscribesOn kept basis script left old new result)
  closes_on stage whole left old mid new (Ok store) trusts so closes = relying whole (λ script. Transcribes basis script left old new (Ok tt)) (kept.is_true store) (λ covers truth. script_closes stage whole left old mid new (Ok tt) (so covers (trusts truth)) (λ now is. closes now is truth))
  closes_on stage whole left old mid new (Err fault) trusts so closes = relying whole (λ script. Transcribes basis script left old new (Err fault.0)) (kept.is_true fault.1) (λ covers truth. script_closes stage whole left old mid new (Err fault.0) (so covers (trusts truth)) (λ now is. closes now is truth))

  pub trusts_back : {T E : Type 0} (old mid : S) (store : T → S) (result : Result T (E × S)) → Trusts kept mid store result → (kept.is_true mid → kept.is_true old) → Trusts kept old store result
  trusts_back old mid store (Ok x) trusts back = λ is. back (trusts is)
  trusts_back old mid store (Err why) trusts back = λ is. back (trusts is)

  -- a line has come
  pub a_line : (over : Bool) (left left' : Option (List ℕ)) (number : ℕ) (line : List ℕ) (coming : Coming) → over ≡ false → HasCome left left' number over line (Ok coming) → HasCome left left' number false line (Ok coming)
  a_line over left left' number line coming more come = subst (λ o. HasCome left left' number o line (Ok coming)) more come

  pub no_line : (over : Bool) (left left' : Option (List ℕ)) (number : ℕ) (line : List ℕ) (coming : Coming) → over ≡ true → HasCome left left' number over line (Ok coming) → left' ≡ left
  no_line over left left' number line coming none come = (subst (λ o. HasCome left left' number o line (Ok coming)) none come).0

  pub still_going : (over : Bool) (stage : AStage S) (number : ℕ) (whole left old new : Option (List ℕ)) → over ≡ false → Goes over stage number whole left old new → HasRead stage number whole left old new
  still_going over stage number whole left old new more so = subst (λ o. Goes o stage number whole left old new) more so

  pub gone : (over : Bool) (stage : AStage S) (number : ℕ) (whole left old new : Option (List ℕ)) → over ≡ true → Goes over stage number whole left old new → HasEnded stage whole left old new
  gone over stage number whole left old new none so = subst (λ o. Goes o stage number whole left old new) none so
