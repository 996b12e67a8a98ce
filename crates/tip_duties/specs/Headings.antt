-- What the server says of its realms on standard output (ours).
use Rattle.std.specs.Prelude.{ℕ, ◌==◌, List, ◌++◌, codes, if◌then◌else◌}
use Rattle.std.specs.Fmt.{decimal}
use Rattle.std.specs.List.{sum_by}
use Rattle.tip_journal.specs.declared.auditing.Reported.{Reported}
use Rattle.tip_duties.specs.declared.report.Heading.{Heading}
use Rattle.tip_duties.specs.declared.report.Heading.TheVariants.{Entries, Listening, Ready}

-- the line, without its end
abbrev pub headed : Heading → List ℕ
headed (Listening name place) = codes "listening " ++ name.now ++ codes " " ++ place.now
headed Ready = codes "ready"
headed (Entries name entries) = codes "realm " ++ name.now ++ codes " entries " ++ decimal entries

-- the entries of a realm, over all of its starts
abbrev pub entries_of : ℕ → List Reported → ℕ
entries_of realm report = sum_by (λ journal. if journal.realm == realm then journal.entries else 0) report
