use Rattle.symple_run.proofs.StoredLaws.{every_stored_image_is_read}
use Rattle.symple_run.proofs.resumes.stored_images_are_read.Goals as goal

pub returns : goal.returns
returns c = every_stored_image_is_read c.images_read_back.ensures.back
