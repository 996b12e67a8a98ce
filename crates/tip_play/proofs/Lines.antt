-- Lines of a script that were played one after another.
use Rattle.tip_rows.specs.Logs.{Keeping}
use Rattle.std.proofs.Common.{◌≡◌, ◌≢◌, ◌≤◌, ◌+◌, ◌++◌, ◌∷◌, [], ℕ, List, length, true, Option, None, Result, Ok, Err, arith, refl, sym, ap, ◌∙◌, subst, length-append}
use Rattle.std.proofs.KnownBytes.{Appends-nil, Appends-trans}
use Rattle.std.specs.Io.KnownBytes.{Appends}
use Rattle.std.proofs.lemmas.List.{append_assoc}
use Rattle.script_lines.specs.Lines.{AreOfLine, is_inner, is_line_feed, longest_line}
use Rattle.tip_scene.specs.Acts.{Stage, Declaring, Acted, Basis, acted, closing_of}
use Rattle.tip_scene.specs.Stages.{AStage, IsStage}
use Rattle.tip_play.specs.Transcripts.{Played, Reached, Fault, played, played_of, transcript, ended, unended, closing_text, IsFront, Transcribes}
use Rattle.tip_play.specs.Writing.{Acts, Closes}
use Rattle.tip_play.specs.declared.fault.PlayFault.{PlayFault}
use Rattle.tip_play.specs.declared.fault.PlayFault.TheVariants as fault
use Rattle.tip_play.proofs.Cutting.{ended_feed, unended_feed, ended_line, unended_line, not_is}
use Rattle.tip_play.proofs.Transcribing.{Comes, begun, comes_ended, comes_long, faults, stops, plays_line, played_last, ended_last}

module _ {S : Type 0} (kept : Keeping S) (basis : Basis) where
  -- These lines were played, each with its end, and what they print was written. The next one has this number.
  pub record HasPlayed (stage : AStage S) (number : ℕ) (read : List ℕ) (old new : Option (List ℕ)) : Type 0 where
    pub now : Stage
    pub reached : (played_of basis read).ending ≡ Reached now
    pub stands : IsStage kept basis stage now
    pub closed : unended read ≡ []
    pub count : number ≡ length (ended read) + 1
    pub written : Appends old new (played_of basis read).printed

  pub none_played : (stage : AStage S) (old : Option (List ℕ)) → IsStage kept basis stage (Declaring []) → HasPlayed stage 1 [] old old
  none_played stage old is = record { now = Declaring []; reached = refl; stands = is; closed = refl; count = refl; written = Appends-nil old }

  pub front_played : (stage : AStage S) (number : ℕ) (read rest : List ℕ) (old new : Option (List ℕ)) → HasPlayed stage number read old new → IsFront basis (read ++ rest) old new
  front_played stage number read rest old new so = begun basis read rest so.now old new so.reached so.written

  -- A line that comes behind them

  -- it plays nothing before its end
  same_played : (read line : List ℕ) → unended read ≡ [] → AreOfLine line → played_of basis (read ++ line) ≡ played_of basis read
  same_played read line closed are = ap (played basis (Declaring []) 1) (ended_line read line closed are.inner)

  -- the next line, and what it does
  pub record IsNext (stage : AStage S) (number : ℕ) (read line : List ℕ) (old new : Option (List ℕ)) : Type 0 where
    pub now : Stage
    pub reached : (played_of basis (read ++ line)).ending ≡ Reached now
    pub stands : IsStage kept basis stage now
    pub left : unended (read ++ line) ≡ line
    pub short : length (unended (read ++ line)) ≤ longest_line
    pub count : number ≡ length (ended (read ++ line)) + 1
    pub written : Appends old new (played_of basis (read ++ line)).printed

  pub next_line : (stage : AStage S) (number : ℕ) (read line : List ℕ) (old new : Option (List ℕ)) → HasPlayed stage number read old new → AreOfLine line → IsNext stage number read line old new
  next_line stage number read line old new so are =
      let left = unended_line read line so.closed are.inner in
      let same = same_played read line so.closed are in
      record {
        now = so.now;
        reached = ap (λ (p : Played). p.ending) same ∙ so.reached;
        stands = so.stands;
        left = left;
        short = subst (λ l. length l ≤ longest_line) (sym left) are.short;
        count = so.count ∙ ap (λ (l : List (List ℕ)). length l + 1) (sym (ended_line read line so.closed are.inner));
        written = subst (Appends old new) (sym (ap (λ (p : Played). p.printed) same)) so.written;
      }

  -- it comes to the stage that was reached before it
  pub next_now : (stage : AStage S) (number : ℕ) (read line : List ℕ) (old new : Option (List ℕ)) (so : HasPlayed stage number read old new) (are : AreOfLine line) → (next_line stage number read line old new so are).now ≡ so.now
  unfolding next_line
  next_now stage number read line old new so are = refl

  -- what the code did of it is what its text does
  does_next : (stage : AStage S) (number : ℕ) (read line : List ℕ) (old mid new : Option (List ℕ)) (result : Result (AStage S) PlayFault) (so : IsNext stage number read line old mid) → ((now : Stage) → IsStage kept basis stage now → Acts kept basis number (acted basis now line) mid new result) → Acts kept basis number (acted basis so.now (unended (read ++ line))) mid new result
  does_next stage number read line old mid new result so acts = subst (λ l. Acts kept basis number (acted basis so.now l) mid new result) (sym so.left) (acts so.now so.stands)

  -- it was played
  pub plays_next : (stage stage' : AStage S) (number : ℕ) (read line : List ℕ) (old mid new : Option (List ℕ)) → IsNext stage number read line old mid → ((now : Stage) → IsStage kept basis stage now → Acts kept basis number (acted basis now line) mid new (Ok stage')) → HasPlayed stage' (number + 1) ((read ++ line) ++ 10 ∷ []) old new
  plays_next stage stage' number read line old mid new so acts =
      let does = does_next stage number read line old mid new (Ok stage') so acts in
      let all = plays_line basis (read ++ line) so.now does.0.0 so.reached so.short does.0.1 in
      record {
        now = does.0.0;
        reached = ap (λ (p : Played). p.ending) all;
        stands = does.0.2;
        closed = unended_feed (read ++ line);
        count = let lines = simp length-append at (ap length (ended_feed (read ++ line))) in let c = so.count in omega (arith, lines, c);
        written = subst (Appends old new) (sym (ap (λ (p : Played). p.printed) all)) (Appends-trans old mid new (played_of basis (read ++ line)).printed (acted basis so.now (unended (read ++ line))).printed so.written does.1);
      }

  fails : (read rest : List ℕ) (stage : Stage) (does : Acted) (number : ℕ) (old mid new left : Option (List ℕ)) (fault : PlayFault) → Comes basis read rest stage does → number ≡ length (ended read) + 1 → Appends old mid (played_of basis read).printed → Acts kept basis number does mid new (Err fault) → Transcribes basis (read ++ rest) left old new (Err fault)
  fails read rest stage does number old mid new left (fault.Script line) comes count before so = subst (λ n. Transcribes basis (read ++ rest) left old new (Err (fault.Script n))) (sym (so.1 ∙ count)) (faults basis read rest stage does old mid new left comes so.0 before so.2)
  fails read rest stage does number old mid new left fault.Read comes count before so = absurd so
  fails read rest stage does number old mid new left fault.Write comes count before so = stops basis read rest stage does old mid new comes before so
  fails read rest stage does number old mid new left fault.Memory comes count before so = stops basis read rest stage does old mid new comes before so
  fails read rest stage does number old mid new left fault.Store comes count before so = stops basis read rest stage does old mid new comes before so

  -- it was not played basis to its end
  pub fails_next : (stage : AStage S) (number : ℕ) (read line rest : List ℕ) (old mid new left : Option (List ℕ)) (fault : PlayFault) → IsNext stage number read line old mid → ((now : Stage) → IsStage kept basis stage now → Acts kept basis number (acted basis now line) mid new (Err fault)) → Transcribes basis ((read ++ line) ++ 10 ∷ rest) left old new (Err fault)
  fails_next stage number read line rest old mid new left fault so acts =
      fails (read ++ line) (10 ∷ rest) so.now (acted basis so.now (unended (read ++ line))) number old mid new left fault (comes_ended basis (read ++ line) rest so.now so.reached so.short) so.count so.written (does_next stage number read line old mid new (Err fault) so acts)

  -- it has an octet too many
  pub too_long : (stage : AStage S) (number : ℕ) (read line rest : List ℕ) (octet : ℕ) (old new left : Option (List ℕ)) → IsNext stage number read line old new → is_inner octet ≡ true → length line ≡ longest_line → Transcribes basis ((read ++ line) ++ octet ∷ rest) left old new (Err (fault.Script number))
  too_long stage number read line rest octet old new left so inner full =
      let long : longest_line ≤ length (unended (read ++ line)) = let l = ap length so.left in omega (arith, l, full) in
      fails (read ++ line) (octet ∷ rest) so.now (record { printed = []; stage = None }) number old new new left (fault.Script number) (comes_long basis (read ++ line) rest octet so.now so.reached (not_is (is_line_feed octet) inner) long) so.count so.written (refl, refl, Appends-nil new)

  -- The end of a script, as if its last line had its own

  pub last_front : (read : List ℕ) (old new : Option (List ℕ)) → IsFront basis (read ++ 10 ∷ []) old new → IsFront basis read old new
  last_front read old new so = record { front = so.front; later = so.later; whole = sym (ap (λ (p : Played). p.printed ++ closing_text basis p.ending) (ended_last basis read)) ∙ so.whole; written = so.written }

  -- that line was not played basis to its end
  pub fails_last : (read : List ℕ) (old new left : Option (List ℕ)) (why : PlayFault) → why ≢ fault.Read → Transcribes basis (read ++ 10 ∷ []) left old new (Err why) → Transcribes basis read left old new (Err why)
  fails_last read old new left (fault.Script line) other so = subst (λ (p : Played). (p.ending ≡ Fault line) × Appends old new (p.printed ++ closing_text basis p.ending)) (ended_last basis read) so
  fails_last read old new left fault.Read other so = absurd (other refl)
  fails_last read old new left fault.Write other so = last_front read old new so
  fails_last read old new left fault.Memory other so = last_front read old new so
  fails_last read old new left fault.Store other so = last_front read old new so

  whole_text : (stage : AStage S) (number : ℕ) (read : List ℕ) (old mid : Option (List ℕ)) (so : HasPlayed stage number (read ++ 10 ∷ []) old mid) → transcript basis read ≡ (played_of basis (read ++ 10 ∷ [])).printed ++ closing_of basis so.now
  whole_text stage number read old mid so =
      let printed = (played_of basis (read ++ 10 ∷ [])).printed in
      ap (λ (p : Played). p.printed ++ closing_text basis p.ending) (played_last basis read) ∙ ap (λ ending. printed ++ closing_text basis ending) so.reached

  -- the realms have started, and what that prints was written, or a front of it
  pub closes : (stage : AStage S) (number : ℕ) (read : List ℕ) (old mid new left : Option (List ℕ)) (result : Result (Unit {0}) PlayFault) (so : HasPlayed stage number (read ++ 10 ∷ []) old mid) → Closes (closing_of basis so.now) mid new result → Transcribes basis read left old new result
  closes stage number read old mid new left (Ok done) so written = (
    (so.now, ap (λ (p : Played). p.ending) (played_last basis read) ∙ so.reached),
    subst (Appends old new) (sym (whole_text stage number read old mid so)) (Appends-trans old mid new (played_of basis (read ++ 10 ∷ [])).printed (closing_of basis so.now) so.written written),
  )
  closes stage number read old mid new left (Err (fault.Script line)) so written = absurd written
  closes stage number read old mid new left (Err fault.Read) so written = absurd written
  closes stage number read old mid new left (Err fault.Write) so written = let printed = (played_of basis (read ++ 10 ∷ [])).printed in record {
    front = printed ++ written.front;
    later = written.later;
    whole = whole_text stage number read old mid so ∙ ap (λ t. printed ++ t) written.whole ∙ sym (append_assoc printed written.front written.later);
    written = Appends-trans old mid new printed written.front so.written written.written;
  }
  closes stage number read old mid new left (Err fault.Memory) so written = let printed = (played_of basis (read ++ 10 ∷ [])).printed in record {
    front = printed ++ written.front;
    later = written.later;
    whole = whole_text stage number read old mid so ∙ ap (λ t. printed ++ t) written.whole ∙ sym (append_assoc printed written.front written.later);
    written = Appends-trans old mid new printed written.front so.written written.written;
  }
  closes stage number read old mid new left (Err fault.Store) so written = let printed = (played_of basis (read ++ 10 ∷ [])).printed in record {
    front = printed ++ written.front;
    later = written.later;
    whole = whole_text stage number read old mid so ∙ ap (λ t. printed ++ t) written.whole ∙ sym (append_assoc printed written.front written.later);
    written = Appends-trans old mid new printed written.front so.written written.written;
  }
