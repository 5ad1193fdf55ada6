use Rattle.run_tests.proofs.StartsAt.{read_ready}
use Rattle.run_tests.proofs.resumes.read_again.Goals as goal

pub returns-in-Ok-read_image : goal.returns-in-Ok-read_image
returns-in-Ok-read_image g c = read_ready c.args.split.now c.args.vertices _ _ c.in-Ok-read_image.read
    c.in-Ok-read_image.ensures c.images_read_back.ensures.ready
