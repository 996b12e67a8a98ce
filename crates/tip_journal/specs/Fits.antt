-- Whether a pass can go on at a realm.
use Rattle.std.specs.Prelude.{◌≡◌, ℕ, List, Some, IfSome}
use Rattle.tip_journal.specs.Journal.{Written, at_number}
use Rattle.tip_journal.specs.Journals.{current}
use Rattle.tip_journal.specs.Pass.{last_own}
use Rattle.tip_journal.specs.declared.pass.Noted.{Noted}

-- the last entry of a realm's current epoch, if there is one, stands in the current journal at its number
abbrev pub Fits : {S E : Type 0} → List (List (Written S E)) → List (Noted E) → ℕ → Type 0
Fits journals noted realm = IfSome (current journals realm) (λ journal. IfSome (last_own realm journal.epoch noted) (λ last. at_number journal.entries last.number ≡ Some last.entry))
