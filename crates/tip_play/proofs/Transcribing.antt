-- What a line adds to the transcript of a script.
use Rattle.std.proofs.Common.{◌≡◌, ◌≤◌, ◌<◌, ◌+◌, ◌++◌, ◌∷◌, [], ℕ, suc, List, length, false, Option, Some, None, Err, arith, refl, sym, ap, ◌∙◌, subst, length-append}
use Rattle.std.proofs.lemmas.Bool.{le-leb, lt-leb}
use Rattle.std.proofs.KnownBytes.{Appends-trans}
use Rattle.std.specs.Io.KnownBytes.{Appends}
use Rattle.std.proofs.lemmas.List.{append_assoc, append-nil}
use Rattle.script_lines.specs.Lines.{is_line_feed, longest_line}
use Rattle.tip_scene.specs.Acts.{Stage, Declaring, Acted, Basis, acted}
use Rattle.tip_writing.specs.Fronts.{IsFrontOf}
use Rattle.tip_play.specs.Transcripts.{act_of, Played, Reached, Fault, prepended, played_on, played, played_of, all_played, closing_text, ended, unended, IsFront, Transcribes}
use Rattle.tip_play.specs.declared.fault.PlayFault.TheVariants as fault
use Rattle.tip_play.proofs.Cutting.{lines_from, all_lines, last_line, first_line, ended_feed, unended_feed}

module _ (basis : Basis) where
  -- Lines one after another

  prepended_twice : (a b : List ℕ) (p : Played) → prepended a (prepended b p) ≡ prepended (a ++ b) p
  prepended_twice a b p = ap (λ l. record { printed = l; ending = p.ending }) (sym (append_assoc a b p.printed))

  same_stage : (a b : Stage) → Reached a ≡ Reached b → a ≡ b
  same_stage a b e = cc

  behind_one : (printed : List ℕ) (next : Option Stage) (now : Stage) (number : ℕ) (lines more : List (List ℕ)) →
      ((stage : Stage) (n : ℕ) → (played basis stage n lines).ending ≡ Reached now → played basis stage n (lines ++ more) ≡ prepended (played basis stage n lines).printed (played basis now (n + length lines) more)) →
      (played_on printed next number (λ stage. played basis stage (number + 1) lines)).ending ≡ Reached now →
      played_on printed next number (λ stage. played basis stage (number + 1) (lines ++ more)) ≡ prepended (played_on printed next number (λ stage. played basis stage (number + 1) lines)).printed (played basis now (number + suc (length lines)) more)
  behind_one printed None now number lines more behind reached = absurd cc
  behind_one printed (Some stage) now number lines more behind reached =
      let count : number + 1 + length lines ≡ number + suc (length lines) = omega arith in
      ap (prepended printed) (behind stage (number + 1) reached) ∙ prepended_twice printed (played basis stage (number + 1) lines).printed (played basis now (number + 1 + length lines) more)
      ∙ ap (λ n. prepended (printed ++ (played basis stage (number + 1) lines).printed) (played basis now n more)) count

  -- lines that are played basis behind others
  played_behind : (lines more : List (List ℕ)) (now stage : Stage) (number : ℕ) → (played basis stage number lines).ending ≡ Reached now → played basis stage number (lines ++ more) ≡ prepended (played basis stage number lines).printed (played basis now (number + length lines) more)
  played_behind [] more now stage number reached =
      let same : stage ≡ now = same_stage stage now reached in
      let count : number ≡ number + 0 = omega arith in
      ap (λ s. played basis s number more) same ∙ ap (λ n. played basis now n more) count
  played_behind (line ∷ lines) more now stage number reached = behind_one (act_of basis stage line).printed (act_of basis stage line).stage now number lines more (λ s n. played_behind lines more now s n) reached

  -- A script of which so much was played, and the rest

  all_behind : (read rest : List ℕ) (stage : Stage) → (played_of basis read).ending ≡ Reached stage → all_played basis (read ++ rest) ≡ prepended (played_of basis read).printed (played basis stage (length (ended read) + 1) (lines_from (unended read) rest))
  all_behind read rest stage reached =
      let count : 1 + length (ended read) ≡ length (ended read) + 1 = omega arith in
      ap (played basis (Declaring []) 1) (all_lines read rest) ∙ played_behind (ended read) (lines_from (unended read) rest) stage (Declaring []) 1 reached
      ∙ ap (λ n. prepended (played_of basis read).printed (played basis stage n (lines_from (unended read) rest))) count

  pub begun : (read rest : List ℕ) (stage : Stage) (old new : Option (List ℕ)) → (played_of basis read).ending ≡ Reached stage → Appends old new (played_of basis read).printed → IsFront basis (read ++ rest) old new
  begun read rest stage old new reached written =
      let behind = played basis stage (length (ended read) + 1) (lines_from (unended read) rest) in record {
        front = (played_of basis read).printed;
        later = behind.printed ++ closing_text basis behind.ending;
        whole = ap (λ (p : Played). p.printed ++ closing_text basis p.ending) (all_behind read rest stage reached) ∙ append_assoc (played_of basis read).printed behind.printed (closing_text basis behind.ending);
        written = written;
      }

  -- A line comes behind what was played, and does this.
  pub record Comes (read rest : List ℕ) (stage : Stage) (does : Acted) : Type 0 where
    pub line : List ℕ
    pub others : List (List ℕ)
    pub reached : (played_of basis read).ending ≡ Reached stage
    pub next : lines_from (unended read) rest ≡ line ∷ others
    pub acts : act_of basis stage line ≡ does

  short_line : (stage : Stage) (line : List ℕ) → length line ≤ longest_line → act_of basis stage line ≡ acted basis stage line
  short_line stage line short = rw (le-leb (length line) longest_line short) refl

  long_line : (stage : Stage) (line : List ℕ) → longest_line < length line → act_of basis stage line ≡ record { printed = []; stage = None }
  long_line stage line long = rw (lt-leb (length line) longest_line long) refl

  -- the open line ends
  pub comes_ended : (read rest : List ℕ) (stage : Stage) → (played_of basis read).ending ≡ Reached stage → length (unended read) ≤ longest_line → Comes read (10 ∷ rest) stage (acted basis stage (unended read))
  comes_ended read rest stage reached short = record { line = unended read; others = lines_from [] rest; reached = reached; next = refl; acts = short_line stage (unended read) short }

  -- the open line has an octet too many, whatever comes behind it
  pub comes_long : (read rest : List ℕ) (octet : ℕ) (stage : Stage) → (played_of basis read).ending ≡ Reached stage → is_line_feed octet ≡ false → longest_line ≤ length (unended read) → Comes read (octet ∷ rest) stage (record { printed = []; stage = None })
  comes_long read rest octet stage reached other long =
      let first = first_line (unended read ++ octet ∷ []) rest in
      let more : longest_line < length ((unended read ++ octet ∷ []) ++ first.more) = simp length-append (omega arith) in record {
        line = (unended read ++ octet ∷ []) ++ first.more;
        others = first.others;
        reached = reached;
        next = rw other first.are;
        acts = long_line stage ((unended read ++ octet ∷ []) ++ first.more) more;
      }

  comes_to : (read rest : List ℕ) (stage : Stage) (does : Acted) (comes : Comes read rest stage does) → all_played basis (read ++ rest) ≡ prepended (played_of basis read).printed (played_on does.printed does.stage (length (ended read) + 1) (λ next. played basis next (length (ended read) + 1 + 1) comes.others))
  comes_to read rest stage does comes =
      all_behind read rest stage comes.reached ∙ ap (λ lines. prepended (played_of basis read).printed (played basis stage (length (ended read) + 1) lines)) comes.next
      ∙ ap (λ (a : Acted). prepended (played_of basis read).printed (played_on a.printed a.stage (length (ended read) + 1) (λ next. played basis next (length (ended read) + 1 + 1) comes.others))) comes.acts

  -- the script ends in a fault of the line
  pub faults : (read rest : List ℕ) (stage : Stage) (does : Acted) (old mid new left : Option (List ℕ)) → Comes read rest stage does → does.stage ≡ None → Appends old mid (played_of basis read).printed → Appends mid new does.printed → Transcribes basis (read ++ rest) left old new (Err (fault.Script (length (ended read) + 1)))
  faults read rest stage does old mid new left comes none before written =
      let number = length (ended read) + 1 in
      let all : all_played basis (read ++ rest) ≡ record { printed = (played_of basis read).printed ++ does.printed; ending = Fault number } =
      comes_to read rest stage does comes ∙ ap (λ s. prepended (played_of basis read).printed (played_on does.printed s number (λ next. played basis next (number + 1) comes.others))) none in
      (ap (λ (p : Played). p.ending) all, subst (Appends old new) (sym (append-nil ((played_of basis read).printed ++ does.printed)) ∙ sym (ap (λ (p : Played). p.printed ++ closing_text basis p.ending) all)) (Appends-trans old mid new (played_of basis read).printed does.printed before written))

  -- what is printed behind the line
  on_later : (before printed : List ℕ) (next : Option Stage) (number : ℕ) (later : Stage → Played) → (text : List ℕ) × ((prepended before (played_on printed next number later)).printed ++ closing_text basis (played_on printed next number later).ending ≡ before ++ (printed ++ text))
  on_later before printed None number later = ([], append_assoc before printed [])
  on_later before printed (Some stage) number later = ((later stage).printed ++ closing_text basis (later stage).ending, append_assoc before (printed ++ (later stage).printed) (closing_text basis (later stage).ending) ∙ ap (λ l. before ++ l) (append_assoc printed (later stage).printed (closing_text basis (later stage).ending)))

  -- a front of what the line prints was written
  pub stops : (read rest : List ℕ) (stage : Stage) (does : Acted) (old mid new : Option (List ℕ)) → Comes read rest stage does → Appends old mid (played_of basis read).printed → IsFrontOf does.printed mid new → IsFront basis (read ++ rest) old new
  stops read rest stage does old mid new comes before written =
      let number = length (ended read) + 1 in
      let behind = on_later (played_of basis read).printed does.printed does.stage number (λ next. played basis next (number + 1) comes.others) in record {
        front = (played_of basis read).printed ++ written.front;
        later = written.later ++ behind.0;
        whole = ap (λ (p : Played). p.printed ++ closing_text basis p.ending) (comes_to read rest stage does comes) ∙ behind.1
            ∙ ap (λ l. (played_of basis read).printed ++ (l ++ behind.0)) written.whole ∙ ap (λ l. (played_of basis read).printed ++ l) (append_assoc written.front written.later behind.0)
            ∙ sym (append_assoc (played_of basis read).printed written.front (written.later ++ behind.0));
        written = Appends-trans old mid new (played_of basis read).printed written.front before written.written;
      }

  -- the open line was played
  pub plays_line : (read : List ℕ) (stage next : Stage) → (played_of basis read).ending ≡ Reached stage → length (unended read) ≤ longest_line → (acted basis stage (unended read)).stage ≡ Some next → played_of basis (read ++ 10 ∷ []) ≡ record { printed = (played_of basis read).printed ++ (acted basis stage (unended read)).printed; ending = Reached next }
  plays_line read stage next reached short plays =
      let does = acted basis stage (unended read) in
      let number = 1 + length (ended read) in
      ap (played basis (Declaring []) 1) (ended_feed read) ∙ played_behind (ended read) (unended read ∷ []) stage (Declaring []) 1 reached
      ∙ ap (λ (a : Acted). prepended (played_of basis read).printed (played_on a.printed a.stage number (λ s. played basis s (number + 1) []))) (short_line stage (unended read) short)
      ∙ ap (λ s. prepended (played_of basis read).printed (played_on does.printed s number (λ s. played basis s (number + 1) []))) plays
      ∙ ap (λ l. record { printed = (played_of basis read).printed ++ l; ending = Reached next }) (append-nil does.printed)

  -- The last line may lack its end

  empty_one : (printed : List ℕ) (next : Option Stage) (number : ℕ) (lines : List (List ℕ)) → ((stage : Stage) (n : ℕ) → played basis stage n (lines ++ [] ∷ []) ≡ played basis stage n lines) → played_on printed next number (λ stage. played basis stage (number + 1) (lines ++ [] ∷ [])) ≡ played_on printed next number (λ stage. played basis stage (number + 1) lines)
  empty_one printed None number lines same = refl
  empty_one printed (Some stage) number lines same = ap (prepended printed) (same stage (number + 1))

  -- an empty line behind them says nothing
  empty_last : (lines : List (List ℕ)) (stage : Stage) (number : ℕ) → played basis stage number (lines ++ [] ∷ []) ≡ played basis stage number lines
  empty_last [] stage number = refl
  empty_last (line ∷ lines) stage number = empty_one (act_of basis stage line).printed (act_of basis stage line).stage number lines (λ s n. empty_last lines s n)

  pub played_last : (read : List ℕ) → all_played basis read ≡ played_of basis (read ++ 10 ∷ [])
  played_last read = ap (played basis (Declaring []) 1) (last_line read ∙ sym (ended_feed read))

  pub ended_last : (read : List ℕ) → all_played basis (read ++ 10 ∷ []) ≡ all_played basis read
  ended_last read = ap (played basis (Declaring []) 1) (last_line (read ++ 10 ∷ []) ∙ ap (λ line. ended (read ++ 10 ∷ []) ++ line ∷ []) (unended_feed read)) ∙ empty_last (ended (read ++ 10 ∷ [])) (Declaring []) 1 ∙ sym (played_last read)
