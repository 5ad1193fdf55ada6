-- A half begins where it ends or before.
use Rattle.symple_face.proofs.part.Part.dep_form.Goals as goal

pub overflow_sub-result : goal.overflow_sub-result
overflow_sub-result c = c.half_of-start.ensures.rises
