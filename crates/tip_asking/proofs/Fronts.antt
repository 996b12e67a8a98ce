-- What was said of a dialogue.
use Rattle.std.proofs.Common.{◌≡◌, ◌∙◌, ℕ, List, [], ◌∷◌, ◌++◌, Option, Ok, Err, OnErr, Result, refl, sym, ap, subst, append-nil, append_assoc}
use Rattle.std.specs.List.{flat_map}
use Rattle.std.specs.Io.KnownBytes.{Appends}
use Rattle.std.proofs.KnownBytes.{Appends-nil, Appends-trans}
use Rattle.tip_line.specs.declared.command.Command.{Command}
use Rattle.tip_client.specs.Dialogues.{line_of, lines_of}
use Rattle.tip_writing.specs.Fronts.{IsFrontOf}

pub on_err : {T E : Type 0} (r : Result T E) (P : Type 0) → P → OnErr r P
on_err (Ok x) P p = tt
on_err (Err e) P p = p

-- all was said
pub all_said : (text : List ℕ) (old new : Option (List ℕ)) → Appends old new text → IsFrontOf text old new
all_said text old new written = record { front = text; later = []; whole = sym (append-nil text); written = written }

-- nothing was said
pub nothing_said : (text : List ℕ) (old : Option (List ℕ)) → IsFrontOf text old old
nothing_said text old = record { front = []; later = text; whole = refl; written = Appends-nil old }

-- The first command of several is this one.
module _ (first : Command) (command : Command) (is : first ≡ command) (said : List Command) where
  -- its line was said at most
  pub front_first : (old new : Option (List ℕ)) → IsFrontOf (line_of first) old new → IsFrontOf (lines_of (command ∷ said)) old new
  front_first old new front = record {
    front = front.front;
    later = front.later ++ lines_of said;
    whole = ap (λ c. line_of c ++ lines_of said) (sym is) ∙ ap (λ line. line ++ lines_of said) front.whole ∙ append_assoc front.front front.later (lines_of said);
    written = front.written;
  }

  pub front_one : (old new : Option (List ℕ)) → IsFrontOf (lines_of (first ∷ [])) old new → IsFrontOf (lines_of (command ∷ said)) old new
  front_one old new front = front_first old new (subst (λ text. IsFrontOf text old new) (append-nil (line_of first)) front)

  -- its line alone was said
  pub front_said : (old new : Option (List ℕ)) → Appends old new (line_of first) → IsFrontOf (lines_of (command ∷ said)) old new
  front_said old new written = record { front = line_of first; later = lines_of said; whole = ap (λ c. line_of c ++ lines_of said) (sym is); written = written }

  -- its line was said, and a front of what follows
  pub front_behind : (old mid new : Option (List ℕ)) → Appends old mid (line_of first) → IsFrontOf (lines_of said) mid new → IsFrontOf (lines_of (command ∷ said)) old new
  front_behind old mid new written front = record {
    front = line_of first ++ front.front;
    later = front.later;
    whole = ap (λ c. line_of c ++ lines_of said) (sym is) ∙ ap (λ rest. line_of first ++ rest) front.whole ∙ sym (append_assoc (line_of first) front.front front.later);
    written = Appends-trans old mid new (line_of first) front.front written front.written;
  }

  -- it was said and answered
  pub front_later : (old mid new : Option (List ℕ)) → Appends old mid (lines_of (first ∷ [])) → IsFrontOf (lines_of said) mid new → IsFrontOf (lines_of (command ∷ said)) old new
  front_later old mid new written front = front_behind old mid new (subst (Appends old mid) (append-nil (line_of first)) written) front

-- what is written of one
pub one_there : {X : Type 0} (text : X → List ℕ) (x : X) (old new : Option (List ℕ)) → Appends old new (text x) → Appends old new (flat_map text (x ∷ []))
one_there text x old new written = subst (Appends old new) (sym (append-nil (text x))) written

pub on_err_more : {T E : Type 0} (r : Result T E) (P Q : Type 0) → (P → Q) → OnErr r P → OnErr r Q
on_err_more (Ok x) P Q more p = tt
on_err_more (Err e) P Q more p = more p
