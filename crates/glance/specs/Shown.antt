-- What contracts see of the displays and of the writer.
use Rattle.std.specs.Prelude.{List, []}
use Rattle.glance.specs.declared.identity.Identity.{Identity}

-- which displays they are, and the base of what they show
pub record Displays (B : Type 0) : Type 0 where
  pub glance : Identity
  pub base : B

-- of one display: the list that its board stands for, a front of what was published
pub record Seeing (E B : Type 0) : Type 0 where
  pub glance : Identity
  pub base : B
  pub seen : List E

-- of the writer: the list that was published last
pub record Writing (E B : Type 0) : Type 0 where
  pub glance : Identity
  pub base : B
  pub list : List E

module _ {E B : Type 0} where
  -- a display that has seen nothing
  abbrev pub new_display : Displays B → Seeing E B
  new_display of = record { glance = of.glance; base = of.base; seen = [] }

  -- the writer that has published the empty list alone
  abbrev pub new_writer : Displays B → Writing E B
  new_writer of = record { glance = of.glance; base = of.base; list = [] }
