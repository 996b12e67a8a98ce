use Rattle.std.proofs.Common.{subst, sym}
use Rattle.std.specs.Prelude.{slice_get}
use Rattle.tip_core.specs.Hosted.{realm}
use Rattle.tip_kept.specs.Keeping.{rows_at}
use Rattle.tip_host.proofs.Behind.{run_behind}
use Rattle.tip_host.specs.Books.{Books, HasRunBehind, out_of, retired_at}
use Rattle.tip_host.specs.Entries.{bare}
use Rattle.tip_host.proofs.host.Host.shut.Goals as goal

pub returns-clause-honest : goal.returns-clause-honest
returns-clause-honest g c = rw (← c.self.view_is) (λ place.
    subst (λ (b : Books). HasRunBehind (retired_at b.retired place) (realm c.self.inside.stored.core place) (out_of c.self.inside.books place) (rows_at c.self.inside.books.rows place) (slice_get (bare b.journals) place)) (sym c.books.view_is)
    (run_behind c.self.inside.stored.core c.self.inside.books c.self.invariant place))
