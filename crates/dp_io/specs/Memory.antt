-- What a source and a sink in memory are to their callers.
use Rattle.std.specs.Prelude.{ℕ, List}

-- A source in memory: the bytes that are left, the most that one read gives, the numbers of the
-- calls that fail, the number of the next call, and how many calls failed.
pub record Supply : Type 0 where
  pub left : List ℕ
  pub most : ℕ
  pub fails : List ℕ
  pub next : ℕ
  pub faults : ℕ

-- A sink in memory: the bytes that it took, how many it has room for in all, the numbers of the
-- calls that fail, the number of the next call, and how many calls failed.
pub record Store : Type 0 where
  pub taken : List ℕ
  pub room : ℕ
  pub fails : List ℕ
  pub next : ℕ
  pub faults : ℕ
