-- The keys of rows.
use Rattle.std.specs.Prelude.{ℕ, ◌<◌, Bool, ◌&&◌, ◌==◌, nat_lt, if◌then◌else◌}

pub record Key : Type 0 where
  pub epoch : ℕ
  pub connection : ℕ
  pub number : ℕ

-- each number is 1 or more
pub record IsKey (key : Key) : Type 0 where
  pub epoch : 0 < key.epoch
  pub connection : 0 < key.connection
  pub number : 0 < key.number

abbrev pub is_same : Key → Key → Bool
is_same a b = a.epoch == b.epoch && a.connection == b.connection && a.number == b.number

-- by epoch, then by connection, then by number
abbrev pub comes_before : Key → Key → Bool
comes_before a b = if a.epoch == b.epoch then (if a.connection == b.connection then nat_lt a.number b.number else nat_lt a.connection b.connection) else nat_lt a.epoch b.epoch
