-- What a sink in memory holds that is emptied from time to time.
use Rattle.std.specs.Prelude.{ℕ, List, []}

pub record HeldText : Type 0 where
  pub bytes : List ℕ
  pub faults : ℕ

abbrev pub emptied : HeldText → HeldText
emptied held = record held { bytes = [] }
