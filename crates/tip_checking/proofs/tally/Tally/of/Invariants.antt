use Rattle.std.proofs.Common.{◌≡◌, take}
use Rattle.std.specs.Prelude.{count_by, pos, unwrap_or}
use Rattle.tip_checking.specs.Findings.{epoch_in}
use Rattle.tip_checking.specs.Tallies.{is_committed, is_in_doubt, own_row}
use Rattle.tip_checking.proofs.tally.Tally.of.Given as goal

-- so many rows are counted
abbrev pub invariant-loop-row : goal.invariant-loop-row
invariant-loop-row l = record {
  epoch : l.tally.epoch ≡ unwrap_or (epoch_in l.contents.realms.items l.name) (pos 0);
  in_doubt : l.tally.in_doubt ≡ count_by (λ row. is_in_doubt (own_row l.name row)) (take l.row-index l.contents.rows.items);
  committed : l.tally.committed ≡ count_by (λ row. is_committed (own_row l.name row)) (take l.row-index l.contents.rows.items);
}
