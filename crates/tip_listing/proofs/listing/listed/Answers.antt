-- The names that are listed are known.
use Rattle.std.proofs.Common.{subst, sym, All, IsSome}
use Rattle.tip_listing.proofs.Listings.{names_are_known}
use Rattle.tip_listing.proofs.listing.listed.Goals as goal

pub returns-clause-fault : goal.returns-clause-fault
returns-clause-fault g c now stands true_now =
    let known = names_are_known now c.in_ok-names.names.items (c.in_ok-names.ensures.names now stands (c.list_all.ensures.truth true_now)) in
    let same = subst (λ names. All (λ name. IsSome (now.epochs name)) names) (sym c.deref.ensures.value) known in
    c.list_all.ensures.fault now (c.in_ok-names.ensures.stands now stands) true_now same
