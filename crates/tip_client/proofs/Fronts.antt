-- What was written of a command's line.
use Rattle.std.proofs.Common.{ℕ, List, [], Option, refl, sym}
use Rattle.std.proofs.lemmas.List.{append-nil}
use Rattle.std.proofs.KnownBytes.{Appends-nil, Appends-kept}
use Rattle.std.specs.Io.KnownBytes.{Appends, Keeps}
use Rattle.tip_writing.specs.Fronts.{IsFrontOf}

-- nothing was
pub no_front : (text : List ℕ) (old : Option (List ℕ)) → IsFrontOf text old old
no_front text old = record { front = []; later = text; whole = refl; written = Appends-nil old }

-- all was, and it stays
pub kept_front : (text : List ℕ) (old mid new : Option (List ℕ)) → Appends old mid text → Keeps mid new → IsFrontOf text old new
kept_front text old mid new written kept = record { front = text; later = []; whole = sym (append-nil text); written = Appends-kept old mid new text written kept }
