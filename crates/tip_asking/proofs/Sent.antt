-- How far an input was said.
use Rattle.std.proofs.Common.{◌≡◌, ◌∙◌, ℕ, List, [], ◌∷◌, ◌++◌, Option, Some, None, refl, sym, ap, subst, append-nil, append_assoc}
use Rattle.std.specs.Io.KnownBytes.{Appends, Consumes, IsAtEnd}
use Rattle.std.proofs.KnownBytes.{Appends-nil, Appends-trans, Consumes-nil, Consumes-trans}
use Rattle.std.proofs.lemmas.Grind.{flat_map-append}
use Rattle.tip_line.specs.Command.{IsCommand}
use Rattle.tip_line.specs.Reading.{Item, Text, Bad, items_of}
use Rattle.tip_line.specs.declared.command.Command.{Command}
use Rattle.tip_line.specs.declared.response.Response.{Response}
use Rattle.tip_client.specs.Dialogues.{IsInput, line_of, lines_of}
use Rattle.tip_intake.specs.Intake.{Begins}
use Rattle.tip_writing.specs.Fronts.{IsFrontOf}
use Rattle.tip_asking.specs.Asking.{Tells}
use Rattle.tip_asking.specs.Dialogues.{Continues}
use Rattle.tip_asking.specs.Sending.{AreCommands, HasSent, HasStopped, HaveCome}
use Rattle.tip_asking.proofs.Answered.{both_told}
use Rattle.tip_asking.proofs.Fronts.{all_said, nothing_said}
use Rattle.tip_asking.proofs.Parts.{completes, goes_on}

-- one command more
one_more : (items : List Item) (said : List Command) (text : List ℕ) (command : Command) → AreCommands items said → IsCommand text command → AreCommands (items ++ Text text ∷ []) (said ++ command ∷ [])
one_more [] [] text command are is = (is, tt)
one_more [] (other ∷ said) text command are is = absurd are
one_more (Text first ∷ items) (other ∷ said) text command are is = (are.0, one_more items said text command are.1 is)
one_more (Text first ∷ items) [] text command are is = absurd are
one_more (Bad cause ∷ items) said text command are is = absurd are

-- So many commands came, were said, answered and told.
pub record IsSending (commands responses : List ℕ) (i0 i r0 r w0 w o0 o : Option (List ℕ)) : Type 0 where
  pub said : List Command
  pub heard : List Response
  pub came : HaveCome commands i0 i said
  pub dialogue : Continues [] responses r0 r w0 w said heard
  pub tells : Tells heard o0 o

pub none_came : (waiting : List ℕ) (i : Option (List ℕ)) → waiting ≡ [] → HaveCome waiting i i []
none_came waiting i empty = record { read = []; consumed = Consumes-nil i; items = []; gives = λ more. ap (λ l. items_of (l ++ more)) (sym empty); are = tt }

pub begins : (commands responses : List ℕ) (i r w o : Option (List ℕ)) → commands ≡ [] → responses ≡ [] → IsSending commands responses i i r r w w o o
begins commands responses i r w o none nothing = record {
  said = [];
  heard = [];
  came = none_came commands i none;
  dialogue = record { read = []; consumed = Consumes-nil r; items = []; many = refl; gives = λ more. ap (λ l. items_of (l ++ more)) (sym nothing); answered = tt; all = refl; written = Appends-nil w };
  tells = Appends-nil o;
}

module _ (waiting : List ℕ) (before after later : Option (List ℕ)) (said : List Command) (came : HaveCome waiting before after said) (read : List ℕ) (consumed : Consumes after later read) where
  -- octets are read behind what waits
  pub read_behind : HaveCome (waiting ++ read) before later said
  read_behind = record {
    read = came.read ++ read;
    consumed = Consumes-trans before after later came.read read came.consumed consumed;
    items = came.items;
    gives = λ more. ap items_of (append_assoc came.read read more) ∙ came.gives (read ++ more) ∙ ap (λ l. came.items ++ items_of l) (sym (append_assoc waiting read more));
    are = came.are;
  }

  -- a command comes
  pub one_came : (left text : List ℕ) (command : Command) → IsCommand text command → Begins (waiting ++ read) (Text text) left → HaveCome left before later (said ++ command ∷ [])
  one_came left text command is next = let behind = read_behind in record {
    read = behind.read;
    consumed = behind.consumed;
    items = behind.items ++ Text text ∷ [];
    gives = λ more. behind.gives more ∙ ap (λ l. behind.items ++ l) (next more) ∙ sym (append_assoc behind.items (Text text ∷ []) (items_of (left ++ more)));
    are = one_more behind.items said text command behind.are is;
  }

  -- the input has ended
  whole : (b : Option (List ℕ)) → Consumes b later (came.read ++ read) → IsAtEnd later → IsInput b (came.read ++ read)
  whole b so end = by b later so end where
    by : (b later : Option (List ℕ)) → Consumes b later (came.read ++ read) → IsAtEnd later → IsInput b (came.read ++ read)
    by None later so end = tt
    by (Some octets) None so end = absurd so
    by (Some octets) (Some more) so end = sym (so ∙ ap (λ m. (came.read ++ read) ++ m) end ∙ append-nil (came.read ++ read))

  pub ends : items_of (waiting ++ read) ≡ [] → IsAtEnd later → (input : List ℕ) × IsInput before input × AreCommands (items_of input) said
  unfolding read_behind
  ends nothing end =
      let items : items_of (came.read ++ read) ≡ came.items =
      ap items_of (sym (append-nil (came.read ++ read))) ∙ read_behind.gives [] ∙ ap (λ l. came.items ++ l) (ap items_of (append-nil (waiting ++ read)) ∙ nothing) ∙ append-nil came.items in
      (came.read ++ read, whole before read_behind.consumed end, subst (λ is. AreCommands is said) (sym items) came.are)

-- nothing has come
pub stopped_first : (i w : Option (List ℕ)) → HasStopped i i w w
stopped_first i w = record { said = []; waiting = []; came = none_came [] i refl; front = nothing_said [] w }

-- a front was said
pub front_more : (said : List Command) (command : Command) (old mid new : Option (List ℕ)) → Appends old mid (lines_of said) → IsFrontOf (line_of command) mid new → IsFrontOf (lines_of (said ++ command ∷ [])) old new
front_more said command old mid new before next = record {
  front = lines_of said ++ next.front;
  later = next.later;
  whole =
      flat_map-append line_of said (command ∷ []) ∙ ap (λ l. lines_of said ++ l) (append-nil (line_of command) ∙ next.whole)
      ∙ sym (append_assoc (lines_of said) next.front next.later);
  written = Appends-trans old mid new (lines_of said) next.front before next.written;
}

module _ (commands responses : List ℕ) (i0 i r0 r w0 w o0 o : Option (List ℕ)) (so : IsSending commands responses i0 i r0 r w0 w o0 o) where
  -- nothing more came
  pub sent : (read : List ℕ) (i' : Option (List ℕ)) → Consumes i i' read → items_of (commands ++ read) ≡ [] → IsAtEnd i' → HasSent i0 r0 w0 w o0 o
  sent read i' consumed nothing end = let all = ends commands i0 i i' so.said so.came read consumed nothing end in record {
    said = so.said;
    heard = so.heard;
    input = all.0;
    told = all.1;
    commands = all.2;
    dialogue = completes [] responses r0 r w0 w so.said so.heard refl so.dialogue;
    tells = so.tells;
  }

  -- what came is no command, or could not be read
  pub stopped_reading : (read : List ℕ) (i' : Option (List ℕ)) → Consumes i i' read → HasStopped i0 i' w0 w
  stopped_reading read i' consumed = record {
    said = so.said;
    waiting = commands ++ read;
    came = read_behind commands i0 i i' so.said so.came read consumed;
    front = all_said (lines_of so.said) w0 w so.dialogue.written;
  }

  pub stopped_at_last : HasStopped i0 i w0 w
  stopped_at_last = record { said = so.said; waiting = commands; came = so.came; front = all_said (lines_of so.said) w0 w so.dialogue.written }

  module _ (read left text : List ℕ) (i' : Option (List ℕ)) (command : Command) (consumed : Consumes i i' read) (is : IsCommand text command) (next : Begins (commands ++ read) (Text text) left) where
    -- a command was not said, or not answered
    pub stopped_saying : (w' : Option (List ℕ)) → IsFrontOf (line_of command) w w' → HasStopped i0 i' w0 w'
    stopped_saying w' front = record {
      said = so.said ++ command ∷ [];
      waiting = left;
      came = one_came commands i0 i i' so.said so.came read consumed left text command is next;
      front = front_more so.said command w0 w w' so.dialogue.written front;
    }

    -- it was answered, and the answer told
    pub one_sent : (left' : List ℕ) (r' w' o' : Option (List ℕ)) (response : Response) → Continues responses left' r r' w w' (command ∷ []) (response ∷ []) → Tells (response ∷ []) o o'
        → IsSending left left' i0 i' r0 r' w0 w' o0 o'
    one_sent left' r' w' o' response answered tells = record {
      said = so.said ++ command ∷ [];
      heard = so.heard ++ response ∷ [];
      came = one_came commands i0 i i' so.said so.came read consumed left text command is next;
      dialogue = goes_on [] responses r0 r w0 w left' r' w' so.said (command ∷ []) so.heard (response ∷ []) so.dialogue answered;
      tells = both_told so.heard (response ∷ []) o0 o o' so.tells tells;
    }
