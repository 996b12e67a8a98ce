-- The end of the host that was behind the lock, and the journals that it lets go before.
use Rattle.std.proofs.Common.{◌≡◌, Option, Some, None, Result, Ok, Err, refl, sym, ◌∙◌}
use Rattle.std.specs.Prelude.{◌↔◌, IfOk, IfSome}
use Rattle.tip_honest.specs.Honesty.{Journal}
use Rattle.tip_journal.specs.declared.retiring.RetireFault.{RetireFault}
use Rattle.tip_journal.specs.declared.retiring.RetireFault.TheVariants.{NotEnded, PassMismatch}

-- what is said of one is said of some
pub some_host : {H C F : Type 0} (P : H → C → Type 0) (host : H) (result : Result C F) → IfOk result (P host) → IfOk result (λ closed. (h : H) × P h closed)
some_host P host (Ok closed) is = (host, is)
some_host P host (Err fault) is = tt

-- where passes mismatch there is a journal
pub some_journal : (ended : Option Journal) (P : Journal → Type 0) (result : Result (Unit {0}) RetireFault) → result ≡ Err NotEnded ↔ ended ≡ None → (result ≡ Err PassMismatch → IfSome ended P) → result ≡ Err PassMismatch → (journal : Journal) × P journal
some_journal None P result absent mismatch is = absurd (let both = sym is ∙ absent.1 refl in cc)
some_journal (Some journal) P result absent mismatch is = (journal, mismatch is)
