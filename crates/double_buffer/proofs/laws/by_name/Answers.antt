use Rattle.vert_base.proofs.LetterLaws.{placed_law, taken_law}
use Rattle.double_buffer.proofs.BufferLaws.{of_round_placed, of_round_without}
use Rattle.double_buffer.proofs.NeedLaws.{needs_can_be_taken}
use Rattle.double_buffer.proofs.laws.by_name.Goals as goal

pub returns-clause-put : goal.returns-clause-put
returns-clause-put c = placed_law

pub returns-clause-lifted : goal.returns-clause-lifted
returns-clause-lifted c = taken_law

pub returns-clause-needs : goal.returns-clause-needs
returns-clause-needs c = needs_can_be_taken

pub returns-clause-round : goal.returns-clause-round
returns-clause-round c = λ r to m x ms all.
    ((λ round goes. of_round_placed r to m ms round goes all), of_round_without r to x ms all)
