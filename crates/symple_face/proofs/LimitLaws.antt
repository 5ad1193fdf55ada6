-- How many words a sparse block of a typed program sends at most.
use Rattle.std.proofs.Common.{◌≡◌, ◌≤◌, Bool, true, length, refl, Option, Some, None, arith}
use Rattle.vert_tree.specs.declared.program.Program.{Program}
use Rattle.vert_tree.specs.declared.program.Sparse.{Sparse}
use Rattle.vert_tree.specs.Places.{sends_in}
use Rattle.vert_tree.specs.Typed.{is_typed}
use Rattle.vert_tree.proofs.TypedLaws as typed

pub few_sends : (p : Program) → is_typed p ≡ true → length (sends_in p.sparse) ≤ 8
few_sends p h = by p.sparse refl
  where
    by : (s : Option Sparse) → p.sparse ≡ s → length (sends_in s) ≤ 8
    by None e = omega arith
    by (Some s) e = typed.few_sends p h s e
