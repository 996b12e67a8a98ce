use Rattle.std.proofs.Common.{◌≡◌, ◌++◌, length}
use Rattle.tip_stored.specs.Loading.{starts_of}
use Rattle.tip_stored.proofs.loading.starts_of.Given as goal

-- the first of them are to start
abbrev pub invariant-loop-spec : goal.invariant-loop-spec
invariant-loop-spec g l = record {
  whole : l.yielded ++ l.spec-iterator.rest.items ≡ l.fn.specs.items;
  counted : l.place ≡ length l.yielded;
  made : l.starts ≡ starts_of l.yielded l.realms;
}
