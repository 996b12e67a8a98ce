-- How far a dialogue has come.
use Rattle.std.proofs.Common.{◌≡◌, ◌⊎◌, inl, inr, ◌<◌, ◌≤◌, ◌+◌, ◌∙◌, ℕ, List, [], ◌∷◌, ◌++◌, length, take, arith, get_or, add-one, length-append, Option, Some, None, Ok, Err, refl, sym, ap, subst}
use Rattle.std.specs.Prelude.{slice_get}
use Rattle.std.specs.Io.KnownBytes.{Appends, Consumes, IsAtEnd}
use Rattle.std.proofs.KnownBytes.{Appends-nil, Appends-trans, Consumes-nil, Consumes-trans, Keeps-refl}
use Rattle.std.proofs.lemmas.Grind.{flat_map-append}
use Rattle.std.proofs.lemmas.List.{append_assoc, append-nil, take_all}
use Rattle.std.proofs.lemmas.Option.{slice_get_read, slice_get_within}
use Rattle.std.proofs.Math.Seq.{take-suc}
use Rattle.tip_line.specs.Command as commands
use Rattle.tip_line.specs.Reading.{Item, items_of}
use Rattle.tip_line.specs.declared.command.Command.{Command}
use Rattle.tip_line.specs.declared.response.Response.{Response}
use Rattle.tip_writing.specs.Fronts.{IsFrontOf}
use Rattle.tip_client.specs.Answers.{AreAnswers, IsAnswer, IsNoAnswer}
use Rattle.tip_client.specs.Dialogues.{Completes, IsInput, IsUnanswered, Stops, StopsBy, line_of, lines_of}
use Rattle.tip_client.specs.Hearing.{BeginsWith, Hears}
use Rattle.tip_client.proofs.Fronts.{kept_front, no_front}
use Rattle.tip_client.specs.declared.fault.ClientFault.{ClientFault}
use Rattle.tip_client.specs.declared.fault.ClientFault.TheVariants.{Unexpected, Closed, Read, Write, Memory}

-- Answers, one more or with more behind them

answers_more : (said : List Command) (items : List Item) (heard : List Response) (command : Command) (item : Item) (response : Response) → AreAnswers said items heard → length items ≡ length heard → slice_get said (length heard) ≡ Some command → IsAnswer (commands.name_of command) item response → AreAnswers said (items ++ item ∷ []) (heard ++ response ∷ [])
answers_more [] items heard command item response so many next answer = absurd (let within = slice_get_within [] (length heard) command next in omega (arith, within))
answers_more (first ∷ said) [] [] command item response so many next answer =
    let same : first ≡ command = cc in
    (subst (λ c. IsAnswer (commands.name_of c) item response) (sym same) answer, tt)
answers_more (first ∷ said) (one ∷ items) [] command item response so many next answer = absurd (omega (arith, many))
answers_more (first ∷ said) [] (one ∷ heard) command item response so many next answer = absurd (omega (arith, many))
answers_more (first ∷ said) (one ∷ items) (earlier ∷ heard) command item response so many next answer =
    (so.0, answers_more said items heard command item response so.1 (omega (arith, many)) next answer)

answers_behind : (said : List Command) (items later : List Item) (heard : List Response) → AreAnswers said items heard → AreAnswers said (items ++ later) heard
answers_behind said items later [] so = tt
answers_behind [] items later (response ∷ heard) so = absurd so
answers_behind (command ∷ said) [] later (response ∷ heard) so = absurd so
answers_behind (command ∷ said) (item ∷ items) later (response ∷ heard) so = (so.0, answers_behind said items later heard so.1)

-- Lines of commands

pub one_more : (said : List Command) (at : ℕ) (command : Command) → at < length said → command ≡ get_or said at command → lines_of (take (at + 1) said) ≡ lines_of (take at said) ++ line_of command
one_more said at command within is =
    ap lines_of (ap (λ n. take n said) (add-one at) ∙ take-suc said at command within ∙ ap (λ c. take at said ++ c ∷ []) (sym is))
    ∙ flat_map-append line_of (take at said) (command ∷ [])
    ∙ ap (λ l. lines_of (take at said) ++ l) (append-nil (line_of command))

-- So much was said and heard: the octets that were read are those of the answers and of lines that wait.
pub record IsAt (said : List Command) (at : ℕ) (heard : List Response) (lines : List ℕ) (before now old new : Option (List ℕ)) : Type 0 where
  pub read : List ℕ
  pub consumed : Consumes before now read
  pub taken : List Item
  pub gives : (more : List ℕ) → items_of (read ++ more) ≡ taken ++ items_of (lines ++ more)
  pub answered : AreAnswers said taken heard
  pub many : length taken ≡ at
  pub all : length heard ≡ at
  pub written : Appends old new (lines_of (take at said))

pub begins : (said : List Command) (heard : List Response) (lines : List ℕ) (before old : Option (List ℕ)) → heard ≡ [] → lines ≡ [] → IsAt said 0 heard lines before before old old
begins said heard lines before old none empty = record {
  read = [];
  consumed = Consumes-nil before;
  taken = [];
  gives = λ more. ap (λ l. items_of (l ++ more)) (sym empty);
  answered = subst (AreAnswers said []) (sym none) tt;
  many = refl;
  all = ap length none;
  written = Appends-nil old;
}

-- what was read, and all that comes behind it
record Whole (before now : Option (List ℕ)) (read : List ℕ) : Type 0 where
  more : List ℕ
  told : IsInput before (read ++ more)
  ended : IsAtEnd now → IsInput before read

whole : (before now : Option (List ℕ)) (read : List ℕ) → Consumes before now read → Whole before now read
whole None now read consumed = record { more = []; told = tt; ended = λ end. tt }
whole (Some octets) None read consumed = absurd consumed
whole (Some octets) (Some more) read consumed = record { more = more; told = sym consumed; ended = λ end. sym (append-nil read) ∙ ap (λ m. read ++ m) (sym end) ∙ sym consumed }

-- octets are read behind the lines that wait
pub read_behind : (said : List Command) (at : ℕ) (heard : List Response) (lines read : List ℕ) (before now after old new : Option (List ℕ)) → IsAt said at heard lines before now old new → Consumes now after read → IsAt said at heard (lines ++ read) before after old new
read_behind said at heard lines read before now after old new so more = record {
  read = so.read ++ read;
  consumed = Consumes-trans before now after so.read read so.consumed more;
  taken = so.taken;
  gives = λ later. ap items_of (append_assoc so.read read later) ∙ so.gives (read ++ later) ∙ ap (λ l. so.taken ++ items_of l) (sym (append_assoc lines read later));
  answered = so.answered;
  many = so.many;
  all = so.all;
  written = so.written;
}

-- Where it stops

-- by a reason that is of no item
stops_at : (fault : ClientFault) (said : List Command) (at : ℕ) (heard : List Response) (lines : List ℕ) (before now old mid new : Option (List ℕ)) → IsAt said at heard lines before now old mid → ((items : List Item) → StopsBy fault said items at now old new) → Stops fault said before now old new
stops_at fault said at heard lines before now old mid new so why = let w = whole before now so.read so.consumed in record {
  input = so.read ++ w.more;
  told = w.told;
  heard = heard;
  answered = subst (λ items. AreAnswers said items heard) (sym (so.gives w.more)) (answers_behind said so.taken (items_of (lines ++ w.more)) heard so.answered);
  why = subst (λ n. StopsBy fault said (items_of (so.read ++ w.more)) n now old new) (sym so.all) (why (items_of (so.read ++ w.more)));
}

-- before anything was said
pub stops_first : (said : List Command) (before old : Option (List ℕ)) → Stops Memory said before before old old
stops_first said before old = stops_at Memory said 0 [] [] before before old old old (begins said [] [] before old refl refl) (λ items. no_front (lines_of (take 1 said)) old)

front_of_next : (said : List Command) (at : ℕ) (command : Command) (old mid new : Option (List ℕ)) → at < length said → command ≡ get_or said at command → Appends old mid (lines_of (take at said)) → IsFrontOf (line_of command) mid new → IsFrontOf (lines_of (take (at + 1) said)) old new
front_of_next said at command old mid new within is before next = let earlier = lines_of (take at said) in record {
  front = earlier ++ next.front;
  later = next.later;
  whole = one_more said at command within is ∙ ap (λ l. earlier ++ l) next.whole ∙ sym (append_assoc earlier next.front next.later);
  written = Appends-trans old mid new earlier next.front before next.written;
}

-- where a command is not said whole
pub stops_saying : (said : List Command) (at : ℕ) (heard : List Response) (lines : List ℕ) (before now old mid new : Option (List ℕ)) (command : Command) (fault : ClientFault) → IsAt said at heard lines before now old mid → at < length said → command ≡ get_or said at command → IsFrontOf (line_of command) mid new → (fault ≡ Write) ⊎ (fault ≡ Memory) → Stops fault said before now old new
stops_saying said at heard lines before now old mid new command fault so within is front (inl write) = rw write (stops_at Write said at heard lines before now old mid new so (λ items. (within, front_of_next said at command old mid new within is so.written front)))
stops_saying said at heard lines before now old mid new command fault so within is front (inr memory) = rw memory (stops_at Memory said at heard lines before now old mid new so (λ items. front_of_next said at command old mid new within is so.written front))

-- a command was said whole
next_said : (said : List Command) (at : ℕ) (command : Command) (old mid new : Option (List ℕ)) → at < length said → command ≡ get_or said at command → Appends old mid (lines_of (take at said)) → Appends mid new (line_of command) → Appends old new (lines_of (take (at + 1) said))
next_said said at command old mid new within is before next = subst (Appends old new) (sym (one_more said at command within is)) (Appends-trans old mid new (lines_of (take at said)) (line_of command) before next)

at_seam : (items later : List Item) (item : Item) (at : ℕ) → length items ≡ at → slice_get (items ++ item ∷ later) at ≡ Some item
at_seam [] later item at many = subst (λ n. slice_get (item ∷ later) n ≡ Some item) many refl
at_seam (first ∷ items) later item at many = subst (λ n. slice_get (first ∷ items ++ item ∷ later) n ≡ Some item) many (at_seam items later item (length items) refl)

-- where what comes is no answer to it
stops_unexpected : (said : List Command) (at : ℕ) (heard : List Response) (lines : List ℕ) (before now old mid new : Option (List ℕ)) (command : Command) (item : Item) → IsAt said at heard lines before now old mid → at < length said → command ≡ get_or said at command → IsNoAnswer (commands.name_of command) item → BeginsWith lines item → Appends old new (lines_of (take (at + 1) said)) → Stops Unexpected said before now old new
stops_unexpected said at heard lines before now old mid new command item so within is none comes written =
    let w = whole before now so.read so.consumed in
    let next = comes w.more in
    let items : items_of (so.read ++ w.more) ≡ so.taken ++ item ∷ next.0 = so.gives w.more ∙ ap (λ l. so.taken ++ l) next.1 in
    let unanswered : IsUnanswered said (items_of (so.read ++ w.more)) at = record {
      command = command;
      item = item;
      is_said = slice_get_read said (length said) at command refl within is;
      comes = ap (λ l. slice_get l at) items ∙ at_seam so.taken next.0 item at so.many;
      no_answer = none;
    } in
    record {
      input = so.read ++ w.more;
      told = w.told;
      heard = heard;
      answered = subst (λ l. AreAnswers said l heard) (sym items) (answers_behind said so.taken (item ∷ next.0) heard so.answered);
      why = subst (λ n. StopsBy Unexpected said (items_of (so.read ++ w.more)) n now old new) (sym so.all) (unanswered, written);
    }

-- where nothing comes
stops_closed : (said : List Command) (at : ℕ) (heard : List Response) (lines : List ℕ) (before now old mid new : Option (List ℕ)) → IsAt said at heard lines before now old mid → at < length said → items_of lines ≡ [] → IsAtEnd now → Appends old new (lines_of (take (at + 1) said)) → Stops Closed said before now old new
stops_closed said at heard lines before now old mid new so within nothing end written =
    let w = whole before now so.read so.consumed in
    let items : items_of so.read ≡ so.taken = ap items_of (sym (append-nil so.read)) ∙ so.gives [] ∙ ap (λ l. so.taken ++ l) (ap items_of (append-nil lines) ∙ nothing) ∙ append-nil so.taken in
    record {
      input = so.read;
      told = w.ended end;
      heard = heard;
      answered = subst (λ l. AreAnswers said l heard) (sym items) so.answered;
      why = subst (λ n. StopsBy Closed said (items_of so.read) n now old new) (sym so.all) (within, ap length items ∙ so.many, end, written);
    }

pub stops_hearing : (said : List Command) (at : ℕ) (heard : List Response) (lines left : List ℕ) (before now after old mid new : Option (List ℕ)) (command : Command) (fault : ClientFault) → IsAt said at heard lines before now old mid → at < length said → command ≡ get_or said at command → Appends mid new (line_of command) → Hears (commands.name_of command) lines left now after (Err fault) → Stops fault said before after old new
stops_hearing said at heard lines left before now after old mid new command Unexpected so within is next hears =
    stops_unexpected said at heard (lines ++ hears.read) before after old mid new command hears.said.0 (read_behind said at heard lines hears.read before now after old mid so hears.consumed) within is hears.said.1 hears.said.2 (next_said said at command old mid new within is so.written next)
stops_hearing said at heard lines left before now after old mid new command Closed so within is next hears =
    stops_closed said at heard (lines ++ hears.read) before after old mid new (read_behind said at heard lines hears.read before now after old mid so hears.consumed) within hears.said.0 hears.said.1 (next_said said at command old mid new within is so.written next)
stops_hearing said at heard lines left before now after old mid new command Read so within is next hears =
    stops_at Read said at heard (lines ++ hears.read) before after old mid new (read_behind said at heard lines hears.read before now after old mid so hears.consumed) (λ items. (within, next_said said at command old mid new within is so.written next))
stops_hearing said at heard lines left before now after old mid new command Write so within is next hears = absurd hears.said
stops_hearing said at heard lines left before now after old mid new command Memory so within is next hears =
    stops_at Memory said at heard (lines ++ hears.read) before after old mid new (read_behind said at heard lines hears.read before now after old mid so hears.consumed) (λ items. kept_front (lines_of (take (at + 1) said)) old new new (next_said said at command old mid new within is so.written next) (Keeps-refl new))

-- where a response is not kept
pub stops_keeping : (said : List Command) (at : ℕ) (heard : List Response) (lines left : List ℕ) (before now after old mid new : Option (List ℕ)) (command : Command) (response : Response) → IsAt said at heard lines before now old mid → at < length said → command ≡ get_or said at command → Appends mid new (line_of command) → Hears (commands.name_of command) lines left now after (Ok response) → Stops Memory said before after old new
stops_keeping said at heard lines left before now after old mid new command response so within is next hears =
    stops_at Memory said at heard (lines ++ hears.read) before after old mid new (read_behind said at heard lines hears.read before now after old mid so hears.consumed) (λ items. kept_front (lines_of (take (at + 1) said)) old new new (next_said said at command old mid new within is so.written next) (Keeps-refl new))

-- A command more was said and answered.
pub answered_next : (said : List Command) (at : ℕ) (heard kept : List Response) (lines left : List ℕ) (before now after old mid new : Option (List ℕ)) (command : Command) (response : Response) → IsAt said at heard lines before now old mid → at < length said → command ≡ get_or said at command → Appends mid new (line_of command) → Hears (commands.name_of command) lines left now after (Ok response) → kept ≡ heard ++ response ∷ [] → IsAt said (at + 1) kept left before after old new
answered_next said at heard kept lines left before now after old mid new command response so within is next hears more =
    let on = read_behind said at heard lines hears.read before now after old mid so hears.consumed in
    let item = hears.said.0 in
    let place : slice_get said (length heard) ≡ Some command = ap (slice_get said) on.all ∙ slice_get_read said (length said) at command refl within is in
    record {
      read = on.read;
      consumed = on.consumed;
      taken = on.taken ++ item ∷ [];
      gives = λ later. on.gives later ∙ ap (λ l. on.taken ++ l) (hears.said.2 later) ∙ sym (append_assoc on.taken (item ∷ []) (items_of (left ++ later)));
      answered = subst (AreAnswers said (on.taken ++ item ∷ [])) (sym more) (answers_more said on.taken heard command item response on.answered (on.many ∙ sym on.all) place hears.said.1);
      many = length-append on.taken (item ∷ []) ∙ ap (λ n. n + 1) on.many;
      all = ap length more ∙ length-append heard (response ∷ []) ∙ ap (λ n. n + 1) on.all;
      written = next_said said at command old mid new within is on.written next;
    }

pub completes : (said : List Command) (at : ℕ) (heard : List Response) (lines : List ℕ) (before now old new : Option (List ℕ)) → IsAt said at heard lines before now old new → at ≤ length said → length said ≤ at → Completes said heard before old new
completes said at heard lines before now old new so few past =
    let w = whole before now so.read so.consumed in
    let end : at ≡ length said = omega (arith, few, past) in
    record {
      input = so.read ++ w.more;
      told = w.told;
      answered = subst (λ items. AreAnswers said items heard) (sym (so.gives w.more)) (answers_behind said so.taken (items_of (lines ++ w.more)) heard so.answered);
      all = so.all ∙ end;
      written = subst (λ l. Appends old new (lines_of l)) (take_all at said past) so.written;
    }
